-- What main enters at the ports of a team that starts, and what it tells the first looper.
use Rattle.std.proofs.Common.{◌≡◌, ℕ, suc, ◌<◌, ◌≤◌, List, [], ◌∷◌, ◌++◌, length, length-append, All, Result, Ok, Err, refl, sym, ap, ◌∙◌, subst, append_assoc, append-nil, arith}
use Rattle.std.specs.Prelude.{◌↔◌, IsErrOf}
use Rattle.std.specs.List.{flat_map}
use Rattle.std.proofs.lemmas.List.Elements.{All-cons, All-head, All-nil, All-tail}
use Rattle.std.proofs.Math.Seq.{get_or-append_seam}
use Rattle.ak_message.specs.Message.{MessageData}
use Rattle.ak_flatten.specs.Item.{ItemData}
use Rattle.ak_flatten.specs.Limits.{flat_limit}
use Rattle.ak_flatten.specs.Spelling.{spelling}
use Rattle.ak_turn.specs.Noted.{note}
use Rattle.ak_roster.specs.declared.entry.RosterEntry.{RosterEntry}
use Rattle.ak_port.specs.declared.port_entry.PortEntry.{PortEntry}
use Rattle.ak_port.specs.declared.port_entry.PortEvent.{PortEvent}
use Rattle.ak_port.specs.declared.reply_entry.ReplyEntry.{ReplyEntry}
use Rattle.ak_messenger.specs.Sends.{post_event}
use Rattle.ak_messenger.specs.declared.fault.SendFault.{SendFault}
use Rattle.ak_messenger.specs.declared.fault.SendFault.TheVariants as fault
use Rattle.ak_diary.specs.Step.{Step, desk_entry}
use Rattle.ak_run.specs.declared.run.Run.{Run}
use Rattle.ak_run.specs.Doing.{EnteredSo}
use Rattle.ak_team.specs.Greeting.{AnswersSend, AreMains, EachMains, EntersEach, SendsEach, at_looper, events_of, from_main, greeting_item, items_told, made_event, made_events, made_from, port_events}
use Rattle.ak_team.specs.InTime.{AreEntriesInTime, AreMadeInTime, AreNotesInTime, ArePortsInTime}
use Rattle.ak_run.specs.Recording.{Fronts, GoesBy, fronts, list_at}
use Rattle.ak_run.proofs.Acts.{GoesAtBoth, adds_there, both_goes, goes_then, none_behind, push_other, same_goes, seam_other, steps_there, there_diary}
use Rattle.ak_team.proofs.Surface.{May, MayMake, Mine, noted_on, notes_on, told_fits, told_long}
use Rattle.ak_gather.proofs.Surface.{nothing_after}

-- ---- main's own entries, each with what stands before it
may_notes : (xs ys : List PortEntry) → All MayMake ys → All May (notes_on xs ys)
may_notes xs [] may = All-nil May
may_notes xs (y ∷ ys) may = All-cons May (note xs y) (notes_on (xs ++ y ∷ []) ys) (All-head MayMake y ys may) (may_notes (xs ++ y ∷ []) ys (All-tail MayMake y ys may))

-- in time, each with what stands before it
notes_in_time : (time later : ℕ) (xs ys : List PortEntry) → AreEntriesInTime time xs ys later → AreNotesInTime time (notes_on xs ys) later
notes_in_time time later xs [] same = same
notes_in_time time later xs (y ∷ ys) is = (is.0, notes_in_time y.stamp later (xs ++ y ∷ []) ys is.1)

-- ---- just these entries
enters_then : (es fs : List (ℕ × PortEvent)) (xs ys : List Step) → EntersEach es xs → EntersEach fs ys → EntersEach (es ++ fs) (xs ++ ys)
enters_then [] fs xs ys none more = subst (λ (l : List Step). EntersEach fs (l ++ ys)) (sym none) more
enters_then (e ∷ es) fs xs ys each more = (each.0, each.1 ++ ys, each.2, enters_then es fs each.1 ys each.3 more, ap (λ (l : List Step). l ++ ys) each.4)

notes_enter : (looper : ℕ) (xs ys : List PortEntry) → EntersEach (at_looper looper (events_of ys)) (steps_there looper (notes_on xs ys))
notes_enter looper xs [] = refl
notes_enter looper xs (y ∷ ys) = (note xs y, steps_there looper (notes_on (xs ++ y ∷ []) ys), refl, notes_enter looper (xs ++ y ∷ []) ys, refl)

-- from one to the other main makes them
pub record MakesPorts (entries : List (ℕ × PortEvent)) (a b : Fronts) : Type 0 where
  pub steps : List Step
  pub enters : EntersEach entries steps
  pub goes : GoesBy steps a b
  pub no_edits : (looper : ℕ) → flat_map (desk_entry looper) steps ≡ []

makes_then : (es fs : List (ℕ × PortEvent)) (a b c : Fronts) → MakesPorts es a b → MakesPorts fs b c → MakesPorts (es ++ fs) a c
makes_then es fs a b c one two = record {
  steps = one.steps ++ two.steps;
  enters = enters_then es fs one.steps two.steps one.enters two.enters;
  goes = goes_then one.steps two.steps a b c one.goes two.goes;
  no_edits = λ looper. nothing_after (desk_entry looper) one.steps two.steps (one.no_edits looper) (two.no_edits looper);
}

module _ (roster : List RosterEntry) (book : List ReplyEntry) where
  -- one port more, behind the others
  new_port : (time later : ℕ) (xs : List (List PortEntry)) (x : List PortEntry) (events : List PortEvent) → AreMains events x → AreEntriesInTime time [] x later → MakesPorts (at_looper (length xs) events) (fronts time roster book xs) (fronts later roster book (xs ++ x ∷ []))
  new_port time later xs x events mains in_time =
      let looper = length xs in
      let notes = notes_on [] x in
      let there : GoesAtBoth looper time later (steps_there looper notes) book book [] x = adds_there looper time later notes book [] x (notes_in_time time later [] x in_time) (x, refl) (noted_on [] x mains.mine) in
      record {
        steps = steps_there looper notes;
        enters = subst (λ (es : List PortEvent). EntersEach (at_looper looper es) (steps_there looper notes)) mains.events_are (notes_enter looper [] x);
        goes =
            both_goes looper (steps_there looper notes) time later roster book book xs (xs ++ x ∷ []) (there_diary looper notes (may_notes [] x mains.may))
            (subst (λ (p : List PortEntry). GoesAtBoth looper time later (steps_there looper notes) book book p (list_at (xs ++ x ∷ []) looper)) (sym (none_behind xs))
            (subst (λ (p : List PortEntry). GoesAtBoth looper time later (steps_there looper notes) book book [] p) (sym (get_or-append_seam xs x [] [])) there))
            (λ other differ. push_other xs x other differ);
        no_edits = there.no_edits;
      }

  -- and one after another
  ports_made : (time later : ℕ) (xs : List (List PortEntry)) (capacities : List ℕ) (new : List (List PortEntry)) → EachMains (made_events capacities) new → AreMadeInTime time new later → MakesPorts (made_from (length xs) capacities) (fronts time roster book xs) (fronts later roster book (xs ++ new))
  ports_made time later xs [] [] each in_time = record {
    steps = [];
    enters = refl;
    goes = same_goes (fronts time roster book xs) (fronts later roster book (xs ++ [])) (ap (λ (t : ℕ). fronts t roster book (xs ++ [])) (sym in_time) ∙ ap (fronts time roster book) (append-nil xs));
    no_edits = λ looper. refl;
  }
  ports_made time later xs (c ∷ capacities) (x ∷ new) each in_time =
      let more = xs ++ x ∷ [] in
      let between = in_time.0 in
      let next : length more ≡ suc (length xs) = omega (arith, length-append xs (x ∷ [])) in
      let rest = subst (λ (l : List (List PortEntry)). MakesPorts (made_from (suc (length xs)) capacities) (fronts between roster book more) (fronts later roster book l)) (append_assoc xs (x ∷ []) new)
      (subst (λ (n : ℕ). MakesPorts (made_from n capacities) (fronts between roster book more) (fronts later roster book (more ++ new))) next (ports_made between later more capacities new each.1 in_time.2)) in
      makes_then (at_looper (length xs) (made_event c ∷ [])) (made_from (suc (length xs)) capacities) (fronts time roster book xs) (fronts between roster book more) (fronts later roster book (xs ++ x ∷ new)) (new_port time between xs x (made_event c ∷ []) each.0 in_time.1) rest
  ports_made time later xs [] (x ∷ new) each in_time = absurd each
  ports_made time later xs (c ∷ capacities) [] each in_time = absurd each

  -- the list of one of them goes on
  port_goes_on : (time later : ℕ) (xs ys : List (List PortEntry)) (x more : List PortEntry) (events : List PortEvent) → AreMains events more → AreEntriesInTime time x more later
      → MakesPorts (at_looper (length xs) events) (fronts time roster book (xs ++ x ∷ ys)) (fronts later roster book (xs ++ (x ++ more) ∷ ys))
  port_goes_on time later xs ys x more events mains in_time =
      let looper = length xs in
      let notes = notes_on x more in
      let all = x ++ more in
      let there : GoesAtBoth looper time later (steps_there looper notes) book book x all = adds_there looper time later notes book x all (notes_in_time time later x more in_time) (more, refl) (noted_on x more mains.mine) in
      record {
        steps = steps_there looper notes;
        enters = subst (λ (es : List PortEvent). EntersEach (at_looper looper es) (steps_there looper notes)) mains.events_are (notes_enter looper x more);
        goes =
            both_goes looper (steps_there looper notes) time later roster book book (xs ++ x ∷ ys) (xs ++ all ∷ ys) (there_diary looper notes (may_notes x more mains.may))
            (subst (λ (p : List PortEntry). GoesAtBoth looper time later (steps_there looper notes) book book p (list_at (xs ++ all ∷ ys) looper)) (sym (get_or-append_seam xs x ys []))
            (subst (λ (p : List PortEntry). GoesAtBoth looper time later (steps_there looper notes) book book x p) (sym (get_or-append_seam xs all ys [])) there))
            (λ other differ. seam_other xs ys x all other differ);
        no_edits = there.no_edits;
      }

  -- those of a team: they are made, and then the first one goes on
  pub team_begins : (time later : ℕ) (xs : List (List PortEntry)) (capacities : List ℕ) (written : List PortEvent) (ports : List (List PortEntry)) → 1 ≤ length ports → EachMains (port_events capacities written) ports → ArePortsInTime time ports later
      → MakesPorts (made_from (length xs) capacities ++ at_looper (length xs) written) (fronts time roster book xs) (fronts later roster book (xs ++ ports))
  team_begins time later xs (c ∷ capacities) written ((e ∷ more) ∷ ports) some each in_time =
      let first = each.0 in
      let between = in_time.0 in
      let is : e.event ∷ events_of more ≡ made_event c ∷ written = first.events_are in
      let made_is : e.event ≡ made_event c = cc is in
      let made : AreMains (made_event c ∷ []) (e ∷ []) =
      record { events_are = ap (λ (x : PortEvent). x ∷ []) made_is; mine = All-cons Mine e [] (All-head Mine e more first.mine) (All-nil Mine); may = All-cons MayMake e [] (All-head MayMake e more first.may) (All-nil MayMake) } in
      let rest : AreMains written more = record { events_are = cc is; mine = All-tail Mine e more first.mine; may = All-tail MayMake e more first.may } in
      makes_then (made_from (length xs) (c ∷ capacities)) (at_looper (length xs) written) (fronts time roster book xs) (fronts between roster book (xs ++ (e ∷ []) ∷ ports)) (fronts later roster book (xs ++ (e ∷ more) ∷ ports))
      (ports_made time between xs (c ∷ capacities) ((e ∷ []) ∷ ports) (made, each.1) in_time.1) (port_goes_on between later xs ports (e ∷ []) more written rest in_time.2)
  team_begins time later xs (c ∷ capacities) written ([] ∷ ports) some each in_time = absurd in_time
  team_begins time later xs (c ∷ capacities) written [] some each in_time = absurd in_time
  team_begins time later xs [] written [] some each in_time = absurd in_time
  team_begins time later xs [] written (p ∷ ports) some each in_time = absurd each

-- ---- a looper that runs
-- what a send enters there
pub sends_each : (looper : ℕ) (m : MessageData) (r' : Run) (steps : List Step) (sent : Result ℕ SendFault) → EnteredSo looper r' steps (post_event from_main m sent) → (IsErrOf sent fault.TooLong ↔ (flat_limit < length (spelling m))) → (IsErrOf sent fault.WouldBlock → ⊥) → (IsErrOf sent fault.NoMemory → ⊥)
    → SendsEach looper (items_told m) steps
sends_each looper m r' steps (Ok position) entered long block want =
    subst (λ (items : List ItemData). SendsEach looper items steps) (sym (told_fits m (λ over. absurd (cc (long.1 over)))))
    (entered.enters.noted, [], subst (AnswersSend (greeting_item m)) (sym entered.enters.event_is) refl, refl, entered.enters.is)
sends_each looper m r' steps (Err fault.TooLong) none long block want = subst (λ (items : List ItemData). SendsEach looper items steps) (sym (told_long m (long.0 refl))) none
sends_each looper m r' steps (Err fault.BadPort) entered long block want =
    subst (λ (items : List ItemData). SendsEach looper items steps) (sym (told_fits m (λ over. absurd (cc (long.1 over)))))
    (entered.enters.noted, [], subst (AnswersSend (greeting_item m)) (sym entered.enters.event_is) tt, refl, entered.enters.is)
sends_each looper m r' steps (Err fault.Spent) entered long block want =
    subst (λ (items : List ItemData). SendsEach looper items steps) (sym (told_fits m (λ over. absurd (cc (long.1 over)))))
    (entered.enters.noted, [], subst (AnswersSend (greeting_item m)) (sym entered.enters.event_is) tt, refl, entered.enters.is)
sends_each looper m r' steps (Err fault.WouldBlock) entered long block want = absurd (block refl)
sends_each looper m r' steps (Err fault.NoMemory) entered long block want = absurd (want refl)
