-- Main edits the handlers of a looper: one entry at its desk, or none.
use Rattle.std.proofs.Common.{◌≡◌, ◌≢◌, ℕ, ◌<◌, cond, List, [], ◌∷◌, ◌++◌, length, map, All, Option, Some, None, refl, sym, ap, ◌∙◌, subst, append-nil, eq-eqb, ne_eqb, vec_capacity}
use Rattle.std.specs.Prelude.{get_or, option_map, set, unwrap_or}
use Rattle.std.proofs.lemmas.List.Elements.{All-cons, All-nil}
use mathlib.Core.Logic.{dite}
use native.Mathlib.Decide.{ℕ_discrete}
use Rattle.ak_turn.specs.declared.clock.Clock.{Clock}
use Rattle.ak_base.specs.Thread.{main_thread}
use Rattle.ak_turn.specs.Called.{KeepsSeat, entry_now}
use Rattle.ak_turn.specs.Entries.{StartsWith}
use Rattle.ak_turn.specs.Noted.{Noted, StandsIn, note, noted}
use Rattle.ak_port.specs.declared.port_entry.PortEntry.{PortEntry}
use Rattle.ak_port.specs.PortCalls as at_ports
use Rattle.ak_port.specs.ReplySeats.{ReplySeat}
use Rattle.ak_desk.specs.declared.entry.DeskEvent.{DeskEvent}
use Rattle.ak_desk.specs.declared.entry.DeskEvent.TheVariants as event
use Rattle.ak_desk.specs.declared.entry.Edit.{Edit}
use Rattle.ak_desk.specs.declared.entry.EditAnswer.{EditAnswer}
use Rattle.ak_desk.specs.declared.entry.EditAnswer.TheVariants as answer
use Rattle.ak_desk.specs.Desk.{edit_entry, entry_with, stamp_number}
use Rattle.ak_desk.specs.Entry.{EntryData}
use Rattle.ak_desk.specs.Shared as desks
use Rattle.ak_diary.specs.Step.{Step, at_desk, desk_entries}
use Rattle.ak_headline.specs.Main.{begun, edits}
use Rattle.ak_looper.specs.declared.door.Door.{Door}
use Rattle.ak_looper.specs.Rosters.{RosterSeat, plain_of}
use Rattle.ak_session.specs.declared.answers.Edited.{Edited}
use Rattle.ak_session.specs.declared.answers.Edited.TheVariants as edited
use Rattle.ak_gather.specs.declared.member.Member.{Member}
use Rattle.ak_run.specs.declared.run.Run.{Run}
use Rattle.ak_run.specs.Doing.{DoesSo, desk_front}
use Rattle.ak_session.specs.Doing.{EditedSo}
use Rattle.ak_team.specs.InTime.{AreInTime}
use Rattle.ak_run.specs.Recording.{Fronts, GoesBy, fronts, fronts_of, list_at}
use Rattle.ak_gather.specs.Members.{member_desk_front, member_front}
use Rattle.ak_run.specs.Running.{IsRunning, KeepsRest}
use Rattle.ak_session.specs.Calls.{IsAtPlace, edited_event}
use Rattle.ak_team.proofs.Surface.{called_one, seen_none}
use Rattle.ak_run.proofs.Acts.{GoesAtBoth, adds_there, both_goes, one_act}
use Rattle.ak_run.proofs.Calls.{desk_keeps, one_runs, roster_front, there_after, there_before}
use Rattle.ak_run.proofs.Doing.{does_so}
use Rattle.ak_run.proofs.EditsMore.{edited_started, started_so_far}
use Rattle.ak_run.proofs.GoingOn.{desk_in, last_of, plain_on, same_list}
use Rattle.ak_run.proofs.Recorded.{others_still, saw_front, sees_front}
use Rattle.ak_run.proofs.Standing.{same_book}
use Rattle.ak_gather.proofs.Surface.{beside_set}

-- what is not for want of memory is an entry
pub entry_is : (e : Edit) (a : EditAnswer) → (a ≡ answer.NoMemory → ⊥) → edit_entry e a ≡ edited_event e (edited.Entered a 0)
entry_is e answer.Done some = refl
entry_is e (answer.Token token) some = refl
entry_is e (answer.Refused fault) some = refl
entry_is e answer.NoMemory some = absurd (some refl)

-- at the roster, the reply book and the ports it is no entry
edit_goes : (looper : ℕ) (n : Noted EntryData) (e : Edit) (came : EditAnswer) (a b : Fronts) → n.entry.plain.event ≡ event.Edited e came → AreInTime a.time (at_desk looper n ∷ []) b.time → GoesBy [] (record a { time = b.time }) b → GoesBy (at_desk looper n ∷ []) a b
edit_goes looper n e came a b is in_time goes = record {
  acts = one_act (at_desk looper n ∷ []) (edits looper (record { noted = n; edit = e; answer = came; event_is = is; is = refl }));
  in_time = in_time;
  roster = goes.roster;
  roster_on = goes.roster_on;
  roster_seen = goes.roster_seen;
  book = goes.book;
  book_on = goes.book_on;
  book_seen = goes.book_seen;
  ports = goes.ports;
  ports_on = goes.ports_on;
  ports_seen = goes.ports_seen;
}

module _ (r r' : Run) (place : ℕ) (m : Member) (door : Door) (within : place < length r.members.items) (there : get_or r.members.items place m ≡ m) (is : r'.members.items ≡ set r.members.items place (record m { door = door })) (roster : r'.roster_seat ≡ r.roster_seat)
    (book : r'.hands.book_seat ≡ r.hands.book_seat) (port : door.port_seat.front ≡ m.door.port_seat.front) (main : m.door.desk_seat.thread ≡ main_thread) where
  -- but for main's time nothing went on
  quiet : GoesBy [] (fronts r'.hands.clock.time (plain_of r.roster_seat) r.hands.book_seat.front (map member_front r.members.items ++ [])) (fronts_of r')
  quiet =
      let later = r'.hands.clock.time in
      let ports = map member_front r.members.items ++ [] in
      let front = door.port_seat.front in
      let was : list_at ports place ≡ m.door.port_seat.front = saw_front r r' place m door within there is in
      let goes : GoesAtBoth place later later [] r.hands.book_seat.front r.hands.book_seat.front m.door.port_seat.front front =
      adds_there place later later [] r.hands.book_seat.front m.door.port_seat.front front refl ([], port ∙ sym (append-nil m.door.port_seat.front)) (ap (noted at_ports.by_number main_thread) port ∙ sym (append-nil (noted at_ports.by_number main_thread m.door.port_seat.front))) in
      let ports' = (fronts_of r').ports in
      let same : fronts_of r' ≡ fronts later (plain_of r.roster_seat) r.hands.book_seat.front ports' =
      ap (λ (s : RosterSeat). fronts later (plain_of s) r'.hands.book_seat.front ports') roster ∙ ap (λ (s : ReplySeat). fronts later (plain_of r.roster_seat) s.front ports') book in
      subst (GoesBy [] (fronts later (plain_of r.roster_seat) r.hands.book_seat.front ports)) (sym same)
      (both_goes place [] later later (plain_of r.roster_seat) r.hands.book_seat.front r.hands.book_seat.front ports ports' begun
      (subst (λ (p : List PortEntry). GoesAtBoth place later later [] r.hands.book_seat.front r.hands.book_seat.front p (list_at ports' place)) (sym was)
      (subst (λ (p : List PortEntry). GoesAtBoth place later later [] r.hands.book_seat.front r.hands.book_seat.front m.door.port_seat.front p) (sym (sees_front r r' place m door within there is)) goes))
      (others_still r r' place m door within there is))

  -- what main had seen of its desk, and what it has; each other one is as it was
  desk_was : desk_front r place ≡ m.door.desk_seat.front
  desk_was = ap (λ o. unwrap_or (option_map member_desk_front o) []) (there_before r.members.items place m within there)

  desk_at : desk_front r' place ≡ door.desk_seat.front
  desk_at = ap (λ (ms : List Member). desk_in ms place) is ∙ ap (λ o. unwrap_or (option_map member_desk_front o) []) (there_after r.members.items place m within (record m { door = door }))

  desk_beside : (looper : ℕ) → looper ≢ place → desk_front r' looper ≡ desk_front r looper
  desk_beside looper differ =
      ap (λ (ms : List Member). desk_in ms looper) is ∙ ap (λ o. unwrap_or (option_map member_desk_front o) []) (beside_set r.members.items place looper (record m { door = door }) differ)

  -- so what is true of both, and of each list with itself, is true at each desk
  at_desks : (P : ℕ → List EntryData → List EntryData → Type 0) → P place m.door.desk_seat.front door.desk_seat.front → ((looper : ℕ) (l : List EntryData) → place ≢ looper → P looper l l) → (looper : ℕ) → P looper (desk_front r looper) (desk_front r' looper)
  at_desks P here beside looper =
      dite (ℕ_discrete place looper)
      (λ same. subst (λ (n : ℕ). P n (desk_front r n) (desk_front r' n)) same (subst (λ l. P place l (desk_front r' place)) (sym desk_was) (subst (λ l. P place m.door.desk_seat.front l) (sym desk_at) here)))
      (λ differ. subst (λ l. P looper (desk_front r looper) l) (sym (desk_beside looper (λ same. differ (sym same)))) (beside looper (desk_front r looper) differ))

  goes_on : (e' : Option DeskEvent) → desks.HasAnswered e' r.hands.clock r'.hands.clock m.door.desk_seat door.desk_seat → (looper : ℕ) → StartsWith (desk_front r' looper) (desk_front r looper)
  goes_on e' answered = at_desks (λ looper xs ys. StartsWith ys xs) (desk_keeps e' r.hands.clock r'.hands.clock m.door.desk_seat door.desk_seat answered).1 (λ looper l differ. same_list l l refl)

  -- main looked there, and entered nothing
  pub looked_does : (P : List Step → Type 0) → P [] → desks.HasAnswered None r.hands.clock r'.hands.clock m.door.desk_seat door.desk_seat → DoesSo P r r'
  looked_does P so looked =
      does_so P [] r r' so (subst (λ (t : ℕ). GoesBy [] (fronts t (plain_of r.roster_seat) r.hands.book_seat.front (map member_front r.members.items ++ [])) (fronts_of r')) (ap (λ (c : Clock). c.time) looked.clocked) quiet) (plain_on r.roster_seat r'.roster_seat (roster_front r r' place m door within there is roster))
      (record {
        on = goes_on None looked;
        same = at_desks (λ looper xs ys. noted desks.by_number main_thread ys ≡ noted desks.by_number main_thread xs) (seen_none desks.by_number m.door.desk_seat door.desk_seat main looked.seen) (λ looper l differ. refl);
      })
      (λ looper. refl)

  module _ (e : Edit) where
    pub edited_does : (result : Edited) → desks.HasAnswered (edited_event e result) r.hands.clock r'.hands.clock m.door.desk_seat door.desk_seat → IsAtPlace result (length door.desk_seat.front) → DoesSo (EditedSo place e result) r r'
    edited_does edited.NoMemory looked at = looked_does (EditedSo place e edited.NoMemory) refl looked
    edited_does (edited.Entered came at_place) entered at =
        let entry : EntryData = entry_now stamp_number (entry_with None) r.hands.clock entered.before (event.Edited e came) in
        let n : Noted EntryData = note entered.before entry in
        let steps = at_desk place n ∷ [] in
        let own : desk_entries place steps ≡ n ∷ [] = ap (λ b. cond b (n ∷ []) [] ++ []) (eq-eqb place place refl) in
        let none : (looper : ℕ) → place ≢ looper → desk_entries looper steps ≡ [] = λ looper differ. ap (λ b. cond b (n ∷ []) [] ++ []) (ne_eqb place looper differ) in
        record {
          steps = steps;
          so = record { noted = n; event_is = refl; place_is = last_of door.desk_seat.front entered.before entry at_place entered.front at; is = refl };
          does = record {
            goes = edit_goes place n e came (fronts_of r) (fronts_of r') refl (record { stamped = (refl, tt); time_is = sym (ap (λ (c : Clock). c.time) entered.clocked) }) quiet;
            roster_on = plain_on r.roster_seat r'.roster_seat (roster_front r r' place m door within there is roster);
            desks = at_desks (λ looper xs ys. noted desks.by_number main_thread ys ≡ noted desks.by_number main_thread xs ++ desk_entries looper steps)
                (called_one desks.by_number m.door.desk_seat door.desk_seat main entry entered.before entered.called entered.front ∙ ap (λ ns. noted desks.by_number main_thread m.door.desk_seat.front ++ ns) (sym own))
                (λ looper l differ. sym (ap (λ ns. noted desks.by_number main_thread l ++ ns) (none looper differ) ∙ append-nil (noted desks.by_number main_thread l)));
            desks_on = goes_on (Some (event.Edited e came)) entered;
            edits = at_desks (λ looper xs ys. All (StandsIn ys) (desk_entries looper steps))
                (subst (All (StandsIn door.desk_seat.front)) (sym own) (All-cons (StandsIn door.desk_seat.front) n [] ([], entered.front ∙ sym (append-nil (n.before ++ n.entry ∷ []))) (All-nil (StandsIn door.desk_seat.front))))
                (λ looper l differ. subst (All (StandsIn l)) (sym (none looper differ)) (All-nil (StandsIn l)));
          };
        }

    -- the run runs on: there is a looper of that number, so main had started it
    pub edit_runs : (result : Edited) → desks.HasAnswered (edited_event e result) r.hands.clock r'.hands.clock m.door.desk_seat door.desk_seat → IsAtPlace result (length door.desk_seat.front) → KeepsSeat m.door.port_seat door.port_seat
        → vec_capacity r'.members ≡ vec_capacity r.members → KeepsRest r r' → IsRunning r → IsRunning r'
    edit_runs result answered at port_kept capacity rest running =
        let desk_kept : KeepsSeat m.door.desk_seat door.desk_seat = (desk_keeps (edited_event e result) r.hands.clock r'.hands.clock m.door.desk_seat door.desk_seat answered).0 in
        let did : DoesSo (EditedSo place e result) r r' = edited_does result answered at in
        one_runs r r' place m door within there is roster (EditedSo place e result) port_kept desk_kept capacity rest (same_book r r' book) did running
        (λ steps recorded started. edited_started running.heads place e result steps did.steps did.so (subst (λ (n : ℕ). place < n) (sym (started_so_far r running steps recorded)) within) started)
