-- What a port accepted is what its looper dispatched, and then what it left; and each went by the rules.
use Rattle.std.proofs.Common.{◌≡◌, ℕ, ◌<◌, ◌≤◌, Bool, true, List, [], ◌∷◌, ◌++◌, length, map, take, drop, Option, Some, sym, ap, ◌∙◌, subst, arith, length-append, ⊎_elim}
use Rattle.std.specs.Prelude.{slice_get}
use Rattle.std.proofs.lemmas.Bool.{cases_lt, false≢true}
use Rattle.std.proofs.lemmas.List.{drop-append-le, drop_all, length-take-le, take-append-drop}
use Rattle.ak_base.specs.Thread.{looper_thread}
use Rattle.ak_turn.specs.Entries.{made_by}
use Rattle.ak_turn.specs.Noted.{Noted, entry_of, noted}
use Rattle.ak_turn.proofs.Surface.{noted_is_made}
use Rattle.ak_flatten.specs.declared.item.Taken.{Taken}
use Rattle.ak_flatten.specs.Item.{ItemData}
use Rattle.ak_port.specs.declared.port_entry.PortEntry.{PortEntry}
use Rattle.ak_port.specs.PortCalls as ports
use Rattle.ak_port.specs.PortLaws.{WithinLimits}
use Rattle.ak_port.specs.PortMachine.{state_of, written_in}
use Rattle.ak_port.specs.TakerLaws.{NothingAfterRest, TakenAreCounted, TakesAreTold, handed_at, handed_by}
use Rattle.ak_action.specs.declared.answer.AnswerWord.{AnswerWord}
use Rattle.ak_desk.specs.declared.entry.DeskEvent.TheVariants as desk_event
use Rattle.ak_desk.specs.declared.entry.EntryRoute.{EntryRoute}
use Rattle.ak_desk.specs.Entry.{EntryData}
use Rattle.ak_desk.specs.Laws.{DispatchesAreOwn, EachEntryFollows, EntryTellsReply}
use Rattle.ak_desk.specs.Machine.{DispatchStep, IsHistory, dispatches, paired}
use Rattle.ak_desk.specs.Shared as desks
use Rattle.ak_diary.specs.Laws.{AcceptedIsDispatchedThenLeft, EachIsDispatchedByRule, HasDiary, IsAccountedFor, dispatched_items, left_in}
use Rattle.ak_diary.specs.Looper.{LooperFacts, desk_list, dispatched_in, in_hand, is_closing, taken_in, thread_of}
use Rattle.ak_diary.specs.Step.{Step, at_port, desk_entries, port_entries}
use Rattle.ak_diary.specs.Turns.{left_at}
use Rattle.ak_diary.proofs.Dispatched.{at_its_place, goes_so, listed_items, replies_so}
use Rattle.ak_diary.proofs.Lists.{get_front, no_more_than, own_split}
use Rattle.ak_diary.proofs.Numbered.{written_numbered}
use Rattle.ak_diary.proofs.Rested.{HasRested, has_rested}
use Rattle.ak_diary.proofs.Tallied.{ArePaired, DispatchesIt, IsOf, IsTallied, desk_at_end, handed_at_end, paired_at, port_at_end, tallied}

-- the event tells the position, and where the message went
same_position : (p q : ℕ) (r s : EntryRoute) (v w : List AnswerWord) (a b : Bool) → desk_event.Dispatched p r v a ≡ desk_event.Dispatched q s w b → p ≡ q
same_position p q r s v w a b e = cc

same_route : (p q : ℕ) (r s : EntryRoute) (v w : List AnswerWord) (a b : Bool) → desk_event.Dispatched p r v a ≡ desk_event.Dispatched q s w b → r ≡ s
same_route p q r s v w a b e = cc

-- that item, at a position
abbrev placed : ItemData → ℕ → Taken
placed item position = record { position = position; item = item }

-- the entry is paired with the message that the port accepted at the position
record IsOfAccepted (port : List PortEntry) (entry : EntryData) (position : ℕ) (r : EntryRoute) : Type 0 where
  item : ItemData
  item_is : entry.item ≡ paired r item
  accepted : slice_get (written_in port) position ≡ Some (placed item position)

module _ (l : LooperFacts) (steps : List Step) (port : List PortEntry) (desk : List EntryData) (has : HasDiary l steps port desk) where
  abbrev work : List Step
  work = has.legal.work

  abbrev n : Noted PortEntry
  n = has.legal.ends.noted

  abbrev answers : List Step
  answers = has.legal.ends.answers

  steps_are : steps ≡ work ++ at_port l.number n ∷ answers
  steps_are = has.legal.is ∙ ap (λ s. work ++ s) has.legal.ends.is

  -- ---- the desk
  own_list : made_by desks.by_number (looper_thread l.desk.looper) desk ≡ desk_list l work
  own_list =
      ap (λ (k : ℕ). made_by desks.by_number (looper_thread k) desk) has.own_desk ∙ sym (noted_is_made desks.by_number (thread_of l) desk)
      ∙ ap (map entry_of) (has.desk_told ∙ ap (desk_entries l.number) steps_are ∙ desk_at_end l work n answers (left_at l work n) has.legal.ends.leaves)

  history : IsHistory l.desk desk has.desk_legal.state
  history = has.desk_legal.history

  so : IsTallied l work
  so = tallied l work has.legal.works

  module _ (told : TakesAreTold) (counted : TakenAreCounted) (limits : WithinLimits) (nothing_after : NothingAfterRest) (own : DispatchesAreOwn) where
    -- ---- the port
    port_told : noted ports.by_number (thread_of l) port ≡ port_entries l.number work ++ n ∷ port_entries l.number answers
    port_told = has.port_told ∙ ap (port_entries l.number) steps_are ∙ port_at_end l work n answers (left_at l work n) has.legal.ends.leaves

    rested : HasRested (thread_of l) (port_entries l.number work) n has.legal.ends.count port
    rested = has_rested counted limits nothing_after (thread_of l) port (port_entries l.number work) (port_entries l.number answers) n has.legal.ends.count has.port_legal has.legal.ends.event_is port_told

    accepted_is : written_in port ≡ taken_in l work ++ handed_at n
    accepted_is = rested.all ∙ sym (told (thread_of l) port has.port_legal) ∙ ap handed_by port_told ∙ handed_at_end l work n answers (left_at l work n) has.legal.ends.leaves

    taken_before : length (taken_in l work) ≡ (state_of n.before).taken
    taken_before = ap (λ k. length (handed_by k)) rested.before_is ∙ ap (λ k. length k) (told (thread_of l) n.before rested.before_port) ∙ counted (thread_of l) n.before rested.before_port

    -- ---- both
    count_is : dispatches desk ≡ dispatched_in l work
    count_is = (own l.desk.looper l.desk desk has.desk_legal.state history.replays).0 ∙ ap dispatches own_list

    most : dispatches desk ≤ length (written_in port)
    most = omega (arith, count_is, so.most, ap (λ k. length k) accepted_is, length-append (taken_in l work) (handed_at n))

    dispatched_are : dispatched_items (written_in port) desk ≡ take (dispatches desk) (written_in port)
    dispatched_are = listed_items (written_in port) l.desk.looper 0 l.desk desk has.desk_legal.state history.replays most

    left_is : left_in l steps has.legal ≡ drop (dispatches desk) (written_in port)
    left_is =
        sym (drop-append-le (dispatched_in l work) (taken_in l work) (handed_at n) so.most) ∙ ap (drop (dispatched_in l work)) (sym accepted_is)
        ∙ ap (λ (k : ℕ). drop k (written_in port)) (sym count_is)

    -- nothing is in hand at the end: while there is, nothing calls for a closing
    no_more : length (taken_in l work) ≤ dispatched_in l work
    no_more =
        ⊎_elim
        (λ (closing : is_closing work ≡ true).
        ⊎_elim (λ (some : dispatched_in l work < length (taken_in l work)). absurd (false≢true (sym (so.not_closing some) ∙ closing))) (λ (none : length (taken_in l work) ≤ dispatched_in l work). none)
        (cases_lt (dispatched_in l work) (length (taken_in l work))))
        (λ (none : in_hand l work ≡ []). no_more_than (dispatched_in l work) (taken_in l work) none) has.legal.ends.may

    accounted_for : IsAccountedFor l steps has.legal port desk
    accounted_for = record {
      accepted = sym (take-append-drop (dispatches desk) (written_in port)) ∙ (λ i. sym dispatched_are i ++ sym left_is i);
      dispatched = dispatched_are;
      left = left_is;
      many = ap (λ k. length k) dispatched_are ∙ length-take-le (dispatches desk) (written_in port) most;
      most = most;
      rest = rested.once;
      took = accepted_is;
      none_in_hand = drop_all (dispatched_in l work) (taken_in l work) no_more;
      taken_before = omega (arith, taken_before, so.most, no_more, count_is);
    }

  -- ---- one of the dispatches: it is its own, so it is paired with a message that was taken
  module _ (all : AcceptedIsDispatchedThenLeft) (before : List EntryData) (entry : EntryData) (behind : List EntryData) (is : desk ≡ before ++ entry ∷ behind) (by : desks.by_number entry ≡ looper_thread l.desk.looper) where
    abbrev own_by : List EntryData → List EntryData
    own_by entries = made_by desks.by_number (looper_thread l.desk.looper) entries

    own_there : desk_list l work ≡ own_by before ++ entry ∷ own_by behind
    own_there = sym own_list ∙ ap own_by is ∙ own_split desks.by_number (looper_thread l.desk.looper) before entry behind by

    is_of : (place : ℕ) × IsOf (taken_in l work) place entry
    is_of = paired_at (taken_in l work) 0 (own_by before) entry (own_by behind) (subst (λ (es : List EntryData). ArePaired (taken_in l work) 0 es) own_there so.pairs)

    at_position : (place position : ℕ) (one : Taken) → slice_get (written_in port) place ≡ Some one → one.position ≡ position → slice_get (written_in port) position ≡ Some (placed one.item position)
    at_position place position one there at =
        let same : position ≡ place = sym at ∙ written_numbered (thread_of l) port has.port_legal place one there in
        ap (λ (k : ℕ). slice_get (written_in port) k) same ∙ there ∙ ap (λ (k : ℕ). Some (placed one.item k)) at

    paired_there : (position : ℕ) (r : EntryRoute) (words : List AnswerWord) (quit : Bool) → entry.plain.event ≡ desk_event.Dispatched position r words quit → IsOfAccepted port entry position r
    paired_there position r words quit event_is =
        let place = is_of.0 in
        let found = is_of.1 in
        let one = found.one in
        let d : DispatchesIt one entry = found.is in
        let same : desk_event.Dispatched one.position d.route d.words d.quit ≡ desk_event.Dispatched position r words quit = sym d.event_is ∙ event_is in
        let there : slice_get (written_in port) place ≡ Some one =
        ap (λ (ts : List Taken). slice_get ts place) (all l steps port desk has).took ∙ get_front (taken_in l work) (handed_at n) place one found.there in
        record {
          item = one.item;
          item_is = d.item_is ∙ ap (λ (k : EntryRoute). paired k one.item) (same_route one.position position d.route r d.words words d.quit quit same);
          accepted = at_position place position one there (same_position one.position position d.route r d.words words d.quit quit same);
        }

pub accepted_is_dispatched_then_left : TakesAreTold → TakenAreCounted → WithinLimits → NothingAfterRest → DispatchesAreOwn → AcceptedIsDispatchedThenLeft
accepted_is_dispatched_then_left told counted limits nothing_after own l steps port desk has = accounted_for l steps port desk has told counted limits nothing_after own

module _ (all : AcceptedIsDispatchedThenLeft) (follows : EachEntryFollows) (tells : EntryTellsReply) where
  pub each_is_dispatched_by_rule : EachIsDispatchedByRule
  each_is_dispatched_by_rule l steps port desk has before entry behind position r words quit is event_is =
      let history : IsHistory l.desk (before ++ entry ∷ behind) has.desk_legal.state = subst (λ k. IsHistory l.desk k has.desk_legal.state) is has.desk_legal.history in
      let at = at_its_place follows l.desk before entry behind has.desk_legal.state position r words quit history event_is in
      let found = paired_there l steps port desk has all before entry behind is at.by position r words quit event_is in
      let step : DispatchStep at.meets r (paired r found.item) words quit at.leaves = subst (λ (o : Option ItemData). DispatchStep at.meets r o words quit at.leaves) found.item_is at.step in
      record {
        by = at.by ∙ ap looper_thread has.own_desk;
        position_is = at.position_is;
        item = found.item;
        item_is = found.item_is;
        accepted = found.accepted;
        meets = at.meets;
        leaves = at.leaves;
        leads_there = at.leads_there;
        leads_on = at.leads_on;
        goes = goes_so at.meets r found.item words quit at.leaves step;
        reply = replies_so at.meets r found.item words (tells at.meets r (paired r found.item) words quit quit at.leaves at.leaves step step).2;
      }
