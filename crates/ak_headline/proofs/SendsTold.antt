-- A diary, part by part: who wrote the items that owe a slot, by an ask, or to send on what was dispatched.
use Rattle.std.proofs.Common.{◌≡◌, ◌⊎◌, ℕ, ◌<◌, ◌≤◌, ◌==◌, Bool, true, false, List, [], ◌∷◌, ◌++◌, All, Contains, filter, refl, sym, ap, ◌∙◌, subst, inl, inr, ⊎_elim, arith, append-nil, eqb-true}
use Rattle.std.proofs.lemmas.Bool.{cases_lt, false≢true}
use Rattle.std.proofs.lemmas.List.Elements.{All-cons, All-contains, All-contains_itself, All-filter, All-nil, All-weaker, Contains-append_cases, Contains-append_left, Contains-append_right}
use Rattle.ak_base.specs.Thread.{looper_thread}
use Rattle.ak_turn.specs.Noted.{Noted}
use Rattle.ak_port.specs.declared.port_entry.PortEntry.{PortEntry}
use Rattle.ak_route.specs.Laws.{ForwardIsLater, ResolvingOnlyPops}
use Rattle.ak_action.specs.declared.state.DeskState.{DeskState}
use Rattle.ak_desk.specs.declared.entry.DeskEvent.{DeskEvent}
use Rattle.ak_desk.specs.declared.entry.DeskEvent.TheVariants as event
use Rattle.ak_desk.specs.Entry.{EntryData}
use Rattle.ak_desk.specs.Machine.{Replays, counted}
use Rattle.ak_desk.specs.Shared.{by_number}
use Rattle.ak_diary.specs.Diary.{Works, begun, went_on}
use Rattle.ak_diary.specs.Laws.{left_in}
use Rattle.ak_diary.specs.Looper.{LooperFacts, desk_list}
use Rattle.ak_diary.specs.Step.{Step, at_port, port_entries}
use Rattle.ak_diary.specs.Turns.{IsDispatch, IsTake}
use Rattle.ak_headline.specs.Answers.{owes}
use Rattle.ak_headline.specs.Diaries.{LoopersSendSo, MainAsksSo, SessionsAskSo}
use Rattle.ak_headline.specs.Sends.{HasAsk, SendsOn, SendsSo}
use Rattle.ak_headline.specs.Tally.{owes_entry, owing_in, sent_on_event, was_sent_on, writes_owing}
use Rattle.ak_headline.proofs.ActsTold.{NoLooper, main_adds, session_adds}
use Rattle.ak_headline.proofs.Asking.{ask_left, ask_right, first_if, first_in, later_if, none_in, only_if, only_in, port_cases, port_here, port_left, port_right}
use Rattle.ak_headline.proofs.Counting.{Adds, add_none, add_port, asked_both, bit, count_one}
use Rattle.ak_headline.proofs.LoopersTold as told
use Rattle.ak_headline.proofs.LoopersTold.{IsOwn, is_own, list_both, own_list}
use Rattle.ak_headline.proofs.Owing.{settles_none, settles_owed}
use Rattle.ak_headline.proofs.SentOn.{Goes, WroteOn, comes_goes, entry_has_item, entry_is_of, on, stays}

-- ---- elements that meet a test
module _ {X : Type 0} (test : X → Bool) where
  pub kept_contains : (xs : List X) (x : X) → Contains (filter test xs) x → Contains xs x
  kept_contains xs x there = All-contains (Contains xs) (filter test xs) x (All-filter test (Contains xs) xs (All-contains_itself xs)) there

  abbrev IsKept : List X → X → Type 0
  IsKept xs x = test x ≡ true → Contains (filter test xs) x

  all_kept : (xs : List X) → All (IsKept xs) xs
  all_kept [] = All-nil (IsKept [])
  all_kept (x ∷ xs) =
      All-cons (IsKept (x ∷ xs)) x xs (λ is. first_if (test x) x (filter test xs) is)
      (All-weaker (IsKept xs) (IsKept (x ∷ xs)) (λ y kept is. later_if (test x) x (filter test xs) y (kept is)) xs (all_kept xs))

  pub contains_kept : (xs : List X) (x : X) → Contains xs x → test x ≡ true → Contains (filter test xs) x
  contains_kept xs x there is = All-contains (IsKept xs) xs x (all_kept xs) there is

-- ---- parts of a diary
module _ (n number : ℕ) where
  abbrev IsWrittenSo : List EntryData → List Step → ℕ → Noted PortEntry → Type 0
  IsWrittenSo entries steps looper x = HasAsk n looper x steps ⊎ ((entry : EntryData) × Contains entries entry × SendsOn n number entry looper x)

  -- where none is sent on
  pub sends_nothing : (Below : ℕ → Type 0) (due : ℕ) (steps : List Step) → Adds Below n 0 due steps → SendsSo n number [] steps
  sends_nothing Below due steps a = record {
    wrote = λ looper x there owed.
        ⊎_elim {C = IsWrittenSo [] steps looper x} (λ (ask : HasAsk n looper x steps). inl ask) (λ (some : 1 ≤ 0). absurd (omega (arith, some))) (a.wrote looper x there owed);
    sent = λ entry there owed sent_on. absurd (none_in entry there);
    took = a.asked;
  }

  -- a dispatch whose message was kept adds nothing
  sends_kept : (entry : EntryData) (steps : List Step) → was_sent_on entry ≡ false → SendsSo n number [] steps → SendsSo n number (entry ∷ []) steps
  sends_kept entry steps kept s = record {
    wrote = λ looper x there owed.
        ⊎_elim {C = IsWrittenSo (entry ∷ []) steps looper x} (λ (ask : HasAsk n looper x steps). inl ask)
        (λ (other : (e : EntryData) × Contains [] e × SendsOn n number e looper x). absurd (none_in other.0 other.1)) (s.wrote looper x there owed);
    sent = λ other there owed sent_on. absurd (false≢true (sym kept ∙ ap was_sent_on (only_in entry other there) ∙ sent_on));
    took = s.took;
  }

  module _ (es fs : List EntryData) (xs ys : List Step) where
    written_left : (looper : ℕ) (x : Noted PortEntry) → IsWrittenSo es xs looper x → IsWrittenSo (es ++ fs) (xs ++ ys) looper x
    written_left looper x (inl ask) = inl (ask_left n looper x xs ys ask)
    written_left looper x (inr w) = inr (w.0, Contains-append_left es fs w.0 w.1, w.2)

    written_right : (looper : ℕ) (x : Noted PortEntry) → IsWrittenSo fs ys looper x → IsWrittenSo (es ++ fs) (xs ++ ys) looper x
    written_right looper x (inl ask) = inl (ask_right n looper x xs ys ask)
    written_right looper x (inr w) = inr (w.0, Contains-append_right es fs w.0 w.1, w.2)

    sends_both : SendsSo n number es xs → SendsSo n number fs ys → SendsSo n number (es ++ fs) (xs ++ ys)
    sends_both a b = record {
      wrote = λ looper x there owed.
          ⊎_elim (λ (first : Contains (port_entries looper xs) x). written_left looper x (a.wrote looper x first owed))
          (λ (second : Contains (port_entries looper ys) x). written_right looper x (b.wrote looper x second owed)) (port_cases looper xs ys x there);
      sent = λ entry there owed sent_on.
          ⊎_elim (λ (first : Contains es entry). let w = a.sent entry first owed sent_on in (w.0, w.1, port_left w.0 xs ys w.1 w.2, w.3))
          (λ (second : Contains fs entry). let w = b.sent entry second owed sent_on in (w.0, w.1, port_right w.0 xs ys w.1 w.2, w.3)) (Contains-append_cases es fs entry there);
      took = asked_both n xs ys a.took b.took;
    }

  sends_as : (es fs : List EntryData) (xs ys : List Step) → fs ≡ es → ys ≡ xs → SendsSo n number es xs → SendsSo n number fs ys
  sends_as es fs xs ys same alike s = subst (λ (k : List EntryData). SendsSo n number k ys) (sym same) (subst (SendsSo n number es) (sym alike) s)

  -- of more entries, of which no further one was sent on
  sends_among : (es fs : List EntryData) (steps : List Step) → ((e : EntryData) → Contains es e → Contains fs e) → ((e : EntryData) → Contains fs e → was_sent_on e ≡ true → Contains es e)
      → SendsSo n number es steps → SendsSo n number fs steps
  sends_among es fs steps among back s = record {
    wrote = λ looper x there owed.
        ⊎_elim {C = IsWrittenSo fs steps looper x} (λ (ask : HasAsk n looper x steps). inl ask)
        (λ (w : (e : EntryData) × Contains es e × SendsOn n number e looper x). inr (w.0, among w.0 w.1, w.2)) (s.wrote looper x there owed);
    sent = λ entry there owed sent_on. s.sent entry (back entry there sent_on) owed sent_on;
    took = s.took;
  }

  -- ---- the write that sends on
  module _ (entry : EntryData) (looper : ℕ) (x : Noted PortEntry) (same_owed : owes_entry n entry ≡ writes_owing n x.entry.event) (so : owes_entry n entry ≡ true → SendsOn n number entry looper x) where
    is_it : (other : ℕ) (y : Noted PortEntry) → Contains (port_entries other (at_port looper x ∷ [])) y → writes_owing n y.entry.event ≡ true → SendsOn n number entry other y
    is_it other y there owed =
        let one = only_if (looper == other) x y there in
        let same : x ≡ y = one.1 in
        let at : looper ≡ other = eqb-true looper other one.0 in
        let its : owes_entry n entry ≡ true = same_owed ∙ ap (λ (k : Noted PortEntry). writes_owing n k.entry.event) same ∙ owed in
        subst (λ (k : Noted PortEntry). SendsOn n number entry other k) same (subst (λ (m : ℕ). SendsOn n number entry m x) at (so its))

    sends_one : SendsSo n number (entry ∷ []) (at_port looper x ∷ [])
    sends_one = record {
      wrote = λ other y there owed. inr (entry, first_in entry [], is_it other y there owed);
      sent = λ other there owed sent_on.
          let same : entry ≡ other = only_in entry other there in
          (looper, x, port_here looper x [], subst (λ (e : EntryData). SendsOn n number e looper x) same (so (ap (owes_entry n) same ∙ owed)));
      took = λ some. let none = (count_one n (at_port looper x)).took_are in absurd (omega (arith, some, none));
    }

-- ---- turn after turn
module _ (later : ForwardIsLater) (law : ResolvingOnlyPops) (l : LooperFacts) (number_is : l.desk.looper ≡ l.number) (n : ℕ) where
  abbrev Below : ℕ → Type 0
  Below looper = looper ≤ l.number

  abbrev Sends : List EntryData → List Step → Type 0
  Sends entries steps = SendsSo n l.number entries steps

  take_sends : (so_far turn : List Step) → IsTake l so_far turn → Sends (desk_list l turn) turn
  take_sends so_far turn t =
      subst (λ (k : List Step). Sends (desk_list l k) k) (sym t.is)
      (sends_nothing n l.number Below 0 (at_port l.number t.noted ∷ []) (add_port Below n l.number t.noted (ap (writes_owing n) t.event_is)))

  module _ (so_far turn : List Step) (d : IsDispatch l so_far turn) where
    abbrev entry : EntryData
    entry = d.noted.entry

    abbrev middle : List Step
    middle = told.middle l so_far turn d

    middle_sends : Sends [] middle
    middle_sends = sends_nothing n l.number Below 0 middle (told.middle_adds later l number_is n so_far turn d d.made.no_memory)

    its_owed : was_sent_on entry ≡ true → owes_entry n entry ≡ owes n d.taken.item.duty
    its_owed is = entry_is_of l.desk d.taken d.asked d.heard d.made d.noted n d.comes is

    on_so : (w : WroteOn Below n d.taken.item entry.plain.event d.served) → was_sent_on entry ≡ true → owes_entry n entry ≡ true → SendsOn n l.number entry w.looper w.x
    on_so w is owed = record {
      owed = owed;
      sent_on = is;
      to_it = w.to_it;
      item = d.taken.item;
      item_is = entry_has_item l.desk d.taken d.asked d.heard d.made d.noted d.comes is;
      popped = w.popped;
      more = w.more law;
      position = w.position;
      written_is = w.written_is;
      up = ⊎_elim (λ (lt : l.number < w.looper). lt) (λ (below : w.looper ≤ l.number). absurd (w.above below)) (cases_lt l.number w.looper);
    }

    served_on : WroteOn Below n d.taken.item entry.plain.event d.served → was_sent_on entry ≡ true → Sends (entry ∷ []) d.served
    served_on w is =
        let same_owed : owes_entry n entry ≡ writes_owing n w.x.entry.event = its_owed is ∙ sym (ap (writes_owing n) w.written_is) in
        sends_as n l.number (entry ∷ []) (entry ∷ []) (w.door ++ at_port w.looper w.x ∷ []) d.served refl w.is
        (sends_both n l.number [] (entry ∷ []) w.door (at_port w.looper w.x ∷ []) (sends_nothing n l.number Below 0 w.door w.door_adds)
        (sends_one n l.number entry w.looper w.x same_owed (on_so w is)))

    parts_send : Sends (entry ∷ []) d.served → Sends [] d.settled → Sends (entry ∷ []) turn
    parts_send served settled =
        sends_as n l.number (entry ∷ []) (entry ∷ []) (d.served ++ middle ++ d.settled) turn refl d.is
        (sends_both n l.number (entry ∷ []) [] (d.served ++ middle) d.settled (sends_both n l.number (entry ∷ []) [] d.served middle served middle_sends) settled)

    goes_sends : Goes Below n d.taken.item entry.plain.event d.made.reply d.served → Sends (entry ∷ []) turn
    goes_sends (on is none served wrote) =
        parts_send (served_on wrote is)
        (sends_nothing n l.number Below 0 d.settled (settles_none Below n l (so_far ++ d.served ++ middle) d.taken.item.duty d.made.reply d.settled d.settles none))
    goes_sends (stays is some served) =
        parts_send (sends_kept n l.number entry d.served is (sends_nothing n l.number Below 0 d.served served))
        (sends_nothing n l.number Below (bit (owes n d.taken.item.duty)) d.settled (settles_owed Below n l (so_far ++ d.served ++ middle) d.taken.item.duty d.made.reply d.settled d.settles some))

    dispatch_sends : Sends (desk_list l turn) turn
    dispatch_sends =
        sends_as n l.number (entry ∷ []) (desk_list l turn) turn turn (told.entry_alone later l number_is n so_far turn d) refl
        (goes_sends (comes_goes Below n l so_far d.taken d.asked d.heard d.made d.noted d.served (told.sent_later later l number_is n d.taken d.noted) d.serves d.comes))

  work_sends : (work : List Step) → Works l work → Sends (desk_list l work) work
  work_sends _ begun = sends_nothing n l.number Below 0 [] (add_none Below n)
  work_sends _ (went_on so_far turn works does) =
      let more : Sends (desk_list l turn) turn = ⊎_elim (λ (t : IsTake l so_far turn). take_sends so_far turn t) (λ (d : IsDispatch l so_far turn). dispatch_sends so_far turn d) does in
      sends_as n l.number (desk_list l so_far ++ desk_list l turn) (desk_list l (so_far ++ turn)) (so_far ++ turn) (so_far ++ turn) (list_both l so_far turn) refl
      (sends_both n l.number (desk_list l so_far) (desk_list l turn) so_far turn (work_sends so_far works) more)

-- ---- whose entries
sent_own : (e : DeskEvent) (b : Bool) → sent_on_event e ≡ true → IsOwn e b → b ≡ true
sent_own (event.Dispatched position r words quit) b is own = own
sent_own (event.Edited edit answer) b is own = absurd (false≢true is)

abbrev pub IsOwnEntry : ℕ → EntryData → Type 0
IsOwnEntry looper x = IsOwn x.plain.event (by_number x == looper_thread looper)

pub all_own : (looper n : ℕ) (s : DeskState) (entries : List EntryData) (t : DeskState) → Replays looper n s entries t → All (IsOwnEntry looper) entries
all_own looper n s [] t e = All-nil (IsOwnEntry looper)
all_own looper n s (x ∷ entries) t (u, (step, rest)) =
    All-cons (IsOwnEntry looper) x entries (is_own looper x.plain.by.0 x.plain.event step.by) (all_own looper (counted n x.plain.event) u entries t rest)

-- ---- the laws
pub loopers_send_so : ForwardIsLater → ResolvingOnlyPops → LoopersSendSo
loopers_send_so later law l steps port desk has n =
    let work = has.legal.work in
    let left = left_in l steps has.legal in
    let mine : EntryData → Bool = λ x. by_number x == looper_thread l.desk.looper in
    let told_all : SendsSo n l.number (desk_list l work) steps =
    sends_as n l.number (desk_list l work ++ []) (desk_list l work) (work ++ has.legal.end) steps (sym (append-nil (desk_list l work))) has.legal.is
    (sends_both n l.number (desk_list l work) [] work has.legal.end (work_sends later law l has.own_desk n work has.legal.works)
    (sends_nothing n l.number (λ looper. looper ≤ l.number) (owing_in n left) has.legal.end (told.end_adds later l has.own_desk n work has.legal.end has.legal.ends))) in
    let own = own_list l steps port desk has in
    sends_among n l.number (desk_list l work) desk steps
    (λ e there. kept_contains mine desk e (subst (λ (k : List EntryData). Contains k e) (sym own) there))
    (λ e there is.
    subst (λ (k : List EntryData). Contains k e) own
    (contains_kept mine desk e there
    (sent_own e.plain.event (mine e) is (All-contains (IsOwnEntry l.desk.looper) desk e (all_own l.desk.looper 0 l.desk desk has.desk_legal.state has.desk_legal.history.replays) there))))
    told_all

pub main_asks_so : MainAsksSo
main_asks_so steps diary n = sends_nothing n 0 NoLooper 0 steps (main_adds n steps diary)

pub sessions_ask_so : SessionsAskSo
sessions_ask_so steps diary n = sends_nothing n 0 NoLooper 0 steps (session_adds n steps diary)
