-- After the rest was taken nothing comes any more.
use Rattle.std.proofs.Common.{◌≡◌, ℕ, true, List, [], ◌∷◌, ◌++◌, length, drop, refl, ap, ◌∙◌, subst, arith, append-nil}
use Rattle.std.proofs.lemmas.List.{drop_all}
use Rattle.ak_port.specs.declared.port_entry.PortEntry.{PortEntry}
use Rattle.ak_port.specs.declared.port_entry.PortEvent.{PortEvent}
use Rattle.ak_port.specs.declared.port_entry.PortEvent.TheVariants as event
use Rattle.ak_port.specs.PortMachine.{PortState, AreSteps, IsPort, IsAllowed, follows_making, replayed, state_after, state_of, unmade, numbered, taken_items, pending_items, written_item, written_in, handed_out, handed_from}
use Rattle.ak_port.specs.TakerLaws.{HasEnded}
use Rattle.ak_port.proofs.PortItems.{each_once, oldest_first}
use Rattle.ak_port.proofs.PortReplays.{replayed-append, AreSteps-behind, AreSteps-before}

-- where the rest was taken the port was made, is shut, and all that was written is taken
record IsDone (s : PortState) : Type 0 where
  pub made : s.rested ≡ true → s.made ≡ true
  pub shut : s.rested ≡ true → s.shut ≡ true
  pub all : s.rested ≡ true → s.taken ≡ length s.written

unmade_done : IsDone unmade
unmade_done = record { made = λ rested. absurd (cc); shut = λ rested. absurd (cc); all = λ _. refl }

done_step : (taker by : ℕ) (s : PortState) (e : PortEvent) → IsDone s → s.made ≡ follows_making e → IsAllowed taker by s e → IsDone (state_after s e)
done_step taker by s (event.Made capacity life) done follows allowed = record { made = λ _. refl; shut = done.shut; all = done.all }
done_step taker by s (event.Written p item) done follows allowed =
    record { made = done.made; shut = done.shut; all = λ rested. let shut = done.shut rested in let unshut = allowed.0 in absurd (cc) }
done_step taker by s event.Full done follows allowed = done
done_step taker by s event.Refused done follows allowed = done
done_step taker by s event.Spent done follows allowed = done
done_step taker by s (event.Took k) done follows allowed =
    record { made = done.made; shut = done.shut; all = λ rested. let shut = done.shut rested in let unshut = allowed.1 in absurd (cc) }
done_step taker by s (event.Rest k) done follows allowed = record { made = λ _. follows; shut = λ _. allowed.1; all = λ _. refl }
done_step taker by s event.Shut done follows allowed = record { made = done.made; shut = λ _. refl; all = done.all }

done_by : (taker : ℕ) (s : PortState) (xs : List PortEntry) → IsDone s → AreSteps taker s xs → IsDone (replayed s xs)
done_by taker s [] done steps = done
done_by taker s (x ∷ xs) done steps = done_by taker (state_after s x.event) xs (done_step taker x.by.0 s x.event done steps.0.after_making steps.0.allowed) steps.1

-- from then on writes are refused, and nothing else happens
still_step : (taker by : ℕ) (s : PortState) (e : PortEvent) → s.rested ≡ true → s.made ≡ true → s.shut ≡ true → s.made ≡ follows_making e → IsAllowed taker by s e
    → (state_after s e ≡ s) × (written_item e ≡ []) × (handed_out s e ≡ [])
still_step taker by s (event.Made capacity life) rested made shut follows allowed = absurd (cc)
still_step taker by s (event.Written p item) rested made shut follows allowed = let unshut = allowed.0 in absurd (cc)
still_step taker by s event.Full rested made shut follows allowed = let unshut = allowed.0 in absurd (cc)
still_step taker by s event.Refused rested made shut follows allowed = (refl, refl, refl)
still_step taker by s event.Spent rested made shut follows allowed = let unshut = allowed.0 in absurd (cc)
still_step taker by s (event.Took k) rested made shut follows allowed = let unshut = allowed.1 in absurd (cc)
still_step taker by s (event.Rest k) rested made shut follows allowed = let unrested = allowed.2 in absurd (cc)
still_step taker by s event.Shut rested made shut follows allowed = absurd (cc)

still_by : (taker : ℕ) (s : PortState) (xs : List PortEntry) → s.rested ≡ true → s.made ≡ true → s.shut ≡ true → AreSteps taker s xs → (replayed s xs ≡ s) × (written_in xs ≡ []) × (handed_from s xs ≡ [])
still_by taker s [] rested made shut steps = (refl, refl, refl)
still_by taker s (x ∷ xs) rested made shut steps =
    let step = still_step taker x.by.0 s x.event rested made shut steps.0.after_making steps.0.allowed in
    let after : state_after s x.event ≡ s = step.0 in
    let rest = still_by taker s xs rested made shut (subst (λ t. AreSteps taker t xs) after steps.1) in
    (ap (λ t. replayed t xs) after ∙ rest.0, ap (λ l. l ++ written_in xs) step.1 ∙ rest.1, (λ i. step.2 i ++ handed_from (after i) xs) ∙ rest.2)

-- the law
pub nothing_after_rest : (taker : ℕ) (entries later : List PortEntry) → (state_of entries).rested ≡ true → IsPort taker (entries ++ later) → HasEnded entries later
nothing_after_rest taker entries later rested port =
    let all = entries ++ later in
    let done = done_by taker unmade entries unmade_done (AreSteps-before taker unmade entries later port.steps) in
    let still = still_by taker (state_of entries) later rested (done.made rested) (done.shut rested) (AreSteps-behind taker unmade entries later port.steps) in
    let same : state_of all ≡ state_of entries = replayed-append unmade entries later ∙ still.0 in
    let items = (state_of entries).written in
    let nothing : pending_items (state_of all) ≡ [] =
    ap pending_items same ∙ ap (λ n. numbered n (drop n items)) (done.all rested) ∙ ap (numbered (length items)) (drop_all (length items) items (omega arith)) in
    let taken : taken_items (state_of all) ≡ taken_items (state_of entries) = ap taken_items same in
    record {
      written = still.1;
      handed = still.2;
      pending = nothing;
      taken = taken;
      all = each_once taker all port ∙ ap (λ l. l ++ pending_items (state_of all)) (oldest_first taker all port) ∙ ap (λ l. taken_items (state_of all) ++ l) nothing ∙ append-nil (taken_items (state_of all)) ∙ taken;
    }
