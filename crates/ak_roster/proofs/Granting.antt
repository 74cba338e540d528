-- A door that gives a part.
use Rattle.std.proofs.Common.{◌≡◌, ◌<◌, ◌≤◌, ℕ, zero, suc, ◌+◌, ◌⊎◌, inl, inr, List, [], ◌∷◌, ◌++◌, length, map, set, refl, sym, ap, ◌∙◌, subst, arith, append-nil, Option, None, Some, Contains, max}
use Rattle.std.specs.Prelude.{slice_get, option_map, IfSome}
use Rattle.std.proofs.lemmas.List.{length-set, map-append, map-set, set-get_or}
use Rattle.std.proofs.lemmas.List.Elements.{Contains-append_left, Contains-append_right, Contains-push, Contains-push_cases}
use Rattle.std.proofs.lemmas.Option.{get_or_from_slice_get, slice_get-map, slice_get_within}
use Rattle.ak_turn.specs.declared.clock.Clock.{Clock}
use Rattle.ak_roster.specs.declared.entry.RosterEntry.{RosterEntry}
use Rattle.ak_roster.specs.declared.entry.RosterEvent.TheVariants as event
use Rattle.ak_roster.specs.Machine.{LooperData, HasNoDoor, given_to, holders, with_given}
use Rattle.ak_roster.specs.Kept.{Kept, IsSound, roster_seen}
use Rattle.ak_roster.specs.Told.{IsNewIn, told_with}
use Rattle.ak_roster.specs.Roster.{RosterData, AreKept, AreSame, GivesPartAt, IsAtRest, IsKept, IsRoster, IsStranger, last_stamp, objects_of, state}
use Rattle.ak_roster.proofs.Histories.{length-with_given}
use Rattle.ak_roster.proofs.Entering.{Entered, Holds, entered_so, entry_of, roster_held, running_held, teams_held, rests}

-- the same threads, and then the same one more
same-push : (ts us : List ℕ) (t : ℕ) → AreSame ts us → AreSame (ts ++ t ∷ []) (us ++ t ∷ [])
same-push ts us t same = λ x. (
  λ h. elim (Contains-push_cases ts t x h) [
    | inl there ↦ Contains-append_left us (t ∷ []) x ((same x).0 there)
    | inr is ↦ subst (λ (y : ℕ). Contains (us ++ t ∷ []) y) is (Contains-push us t)
  ],
  λ h. elim (Contains-push_cases us t x h) [
    | inl there ↦ Contains-append_left ts (t ∷ []) x ((same x).1 there)
    | inr is ↦ subst (λ (y : ℕ). Contains (ts ++ t ∷ []) y) is (Contains-push ts t)
  ],
)

module _ {D : Type 0} (threads : D → Option (List ℕ)) where
  kept_told : (told : Option (List ℕ)) (number thread : ℕ) (looper : LooperData)
      → IfSome told (λ ts. AreSame ts (holders number looper) × (looper.starter ≡ 0))
      → IfSome (told_with told thread) (λ ts. AreSame ts (holders number (given_to thread looper)) × (looper.starter ≡ 0))
  kept_told None number thread looper kept = kept
  kept_told (Some ts) number thread looper kept = (same-push ts (holders number looper) thread kept.0, kept.1)

  -- the doors stay as the loopers say where one gives a part
  pub AreKept-given : (n : ℕ) (ds : List D) (ls : List LooperData) (place thread : ℕ) (before door : D) → AreKept threads n ds ls → slice_get ds place ≡ Some before
      → threads door ≡ told_with (threads before) thread → AreKept threads n (set ds place door) (with_given thread place ls)
  AreKept-given n [] ls place thread before door kept stands told = absurd cc
  AreKept-given n (d ∷ ds) [] place thread before door kept stands told = absurd kept
  AreKept-given n (d ∷ ds) (l ∷ ls) zero thread before door kept stands told =
      let is : d ≡ before = cc in (
        subst (λ (o : Option (List ℕ)). IfSome o (λ ts. AreSame ts (holders n (given_to thread l)) × (l.starter ≡ 0))) (sym told)
            (kept_told (threads before) n thread l (subst (λ (x : D). IsKept threads n x l) is kept.0)),
        kept.1,
      )
  AreKept-given n (d ∷ ds) (l ∷ ls) (suc place) thread before door kept stands told = (kept.0, AreKept-given (suc n) ds ls place thread before door kept.1 stands told)

  new_in : (told : Option (List ℕ)) (number thread : ℕ) (looper : LooperData)
      → IfSome told (λ ts. AreSame ts (holders number looper) × (looper.starter ≡ 0)) → ¬ (Contains (holders number looper) thread) → IsNewIn told thread
  new_in None number thread looper kept stranger = tt
  new_in (Some ts) number thread looper kept stranger = λ there. stranger ((kept.0 thread).0 there)

  newcomer_from : (n : ℕ) (ds : List D) (ls : List LooperData) (place thread number : ℕ) → number ≡ n + place → AreKept threads n ds ls → IsStranger thread number (slice_get ls place)
      → IfSome (slice_get ds place) (λ d. IsNewIn (threads d) thread)
  newcomer_from n [] ls place thread number is kept stranger = tt
  newcomer_from n (d ∷ ds) [] place thread number is kept stranger = absurd kept
  newcomer_from n (d ∷ ds) (l ∷ ls) zero thread number is kept stranger =
      new_in (threads d) n thread l kept.0 (subst (λ (k : ℕ). ¬ (Contains (holders k l) thread)) (let e : number ≡ n = omega arith in e) stranger)
  newcomer_from n (d ∷ ds) (l ∷ ls) (suc place) thread number is kept stranger =
      newcomer_from (suc n) ds ls place thread number (omega arith) kept.1 stranger

  -- a thread that has no part is not among those that the door tells
  pub newcomer : (ds : List D) (ls : List LooperData) (place thread : ℕ) → AreKept threads 0 ds ls → IsStranger thread place (slice_get ls place)
      → IfSome (slice_get ds place) (λ d. IsNewIn (threads d) thread)
  newcomer ds ls place thread kept stranger = newcomer_from 0 ds ls place thread place (omega arith) kept stranger

-- such a thread may have an entry of the door, where there is the looper
no_door : (thread number : ℕ) (looper : Option LooperData) → IsStranger thread number looper → (looper ≡ None → ⊥) → HasNoDoor thread looper
no_door thread number None stranger there = there refl
no_door thread number (Some looper) stranger there =
    λ given. stranger (Contains-append_right (0 ∷ (10000 + number) ∷ (10000 + looper.own) ∷ 20000 ∷ []) looper.given thread given)

there_within : {A : Type 0} (xs : List A) (i : ℕ) → i < length xs → slice_get xs i ≡ None → ⊥
there_within [] i within none = omega arith
there_within (x ∷ xs) zero within none = cc
there_within (x ∷ xs) (suc i) within none = there_within xs i (omega arith) none

same_item : {A : Type 0} (xs : List A) (i : ℕ) (x : A) → slice_get xs i ≡ Some x → set xs i x ≡ xs
same_item xs i x stands = ap (λ y. set xs i y) (sym (get_or_from_slice_get xs i x x stands)) ∙ set-get_or xs i x

module _ {D O P : Type 0} (object : D → Option O) (threads : D → Option (List ℕ)) (part_object : P → Option O) (is_for : P → ℕ → Type 0)
    (old : Kept D) (roster : RosterData D O) (view : roster_seen object old ≡ roster)
    (clock later : Clock) (looper : ℕ) (e : RosterEntry) (last : ℕ) (sound : IsSound object threads old) (stamp : last ≡ last_stamp roster.entries)
    (entry : e ≡ entry_of clock last (event.Door looper)) (time : later ≡ record clock { time = 1 + max clock.time last })
    (new : Kept D) (part : P) (rest : IsAtRest roster) (stranger : IsStranger clock.thread.0 looper (slice_get (state roster).loopers looper))
    (gives : GivesPartAt object threads part_object is_for looper part clock.thread.0 old.doors new.doors)
    (heads : new.heads ≡ old.heads) (taken : new.taken ≡ old.taken) (entries : new.entries ≡ old.entries ++ e ∷ []) (running : new.running ≡ old.running)
    (teams : new.teams ≡ old.teams) (loopers : new.loopers ≡ old.loopers) (room : length new.entries + length new.running ≤ new.room) where
  doors_are : old.doors ≡ roster.doors
  doors_are = ap (λ (r : RosterData D O). r.doors) view

  within : looper < length (state roster).loopers
  within = omega (arith, slice_get_within old.doors looper gives.before gives.stands, ap length doors_are, rest)

  -- the objects stay
  objects_stay : map object new.doors ≡ map object old.doors
  objects_stay =
      ap (map object) gives.doors ∙ map-set object old.doors looper gives.door ∙ ap (λ o. set (map object old.doors) looper o) gives.gives.object_stays
      ∙ same_item (map object old.doors) looper (object gives.before) (slice_get-map object old.doors looper ∙ ap (option_map object) gives.stands)

  kept_so : AreKept threads 0 new.doors (with_given clock.thread.0 looper (state roster).loopers)
  kept_so =
      subst (λ (ds : List D). AreKept threads 0 ds (with_given clock.thread.0 looper (state roster).loopers)) (sym gives.doors)
      (AreKept-given threads 0 old.doors (state roster).loopers looper clock.thread.0 gives.before gives.door
      (subst (λ (ds : List D). AreKept threads 0 ds (state roster).loopers) (sym doors_are)
      ((roster_held object threads old roster view clock later (event.Door looper) e last sound stamp entry time).kept rest))
      gives.stands gives.gives.threads_grow)

  none_taken : (new.taken ≡ []) ⊎ (new.doors ≡ [])
  none_taken = elim sound.once [
    | inl none ↦ inl (taken ∙ none)
    | inr none ↦ absurd (omega (arith, ap length none, slice_get_within old.doors looper gives.before gives.stands))
  ]

  holds : Holds object threads old roster view clock later (event.Door looper) e last sound stamp entry time new []
  holds = record {
    heads = heads;
    entries = entries;
    doors = ap (λ (ds : List D). map object (ds ++ new.doors)) taken ∙ map-append object old.taken new.doors ∙ ap (λ os. map object old.taken ++ os) objects_stay
        ∙ sym (map-append object old.taken old.doors) ∙ sym (append-nil (map object (old.taken ++ old.doors)));
    count = refl;
    legal = no_door clock.thread.0 looper (slice_get (state roster).loopers looper) stranger (there_within (state roster).loopers looper within);
    running = running ∙ running_held object threads old roster view clock later (event.Door looper) e last sound stamp entry time;
    teams = teams ∙ teams_held object threads old roster view clock later (event.Door looper) e last sound stamp entry time;
    loopers = omega (arith, loopers);
    kept = λ _. kept_so;
    room = room;
    few_teams = omega (arith, teams, sound.few_teams);
    few_loopers = omega (arith, loopers, sound.few_loopers);
    once = none_taken;
  }

  pub gives_door : Entered object threads (event.Door looper) [] new.doors roster new clock later
  gives_door = entered_so object threads old roster view clock later (event.Door looper) e last sound stamp entry time new [] new.doors refl holds

  pub given_rests : IsAtRest (roster_seen object new)
  given_rests =
      rests object threads (event.Door looper) [] new.doors roster new clock later gives_door
      (ap length gives.doors ∙ length-set old.doors looper gives.door ∙ ap length doors_are ∙ rest ∙ sym (length-with_given clock.thread.0 looper (state roster).loopers))

  pub part_is : slice_get (objects_of roster.entries) looper ≡ Some (part_object part)
  part_is =
      ap (λ os. slice_get os looper) (sym ((roster_held object threads old roster view clock later (event.Door looper) e last sound stamp entry time).objects rest))
      ∙ slice_get-map object roster.doors looper ∙ ap (λ ds. option_map object (slice_get ds looper)) (sym doors_are) ∙ ap (option_map object) gives.stands
      ∙ ap Some (sym gives.gives.part_of)

-- the same of the doors that the code holds
pub newcomer_held : {D O : Type 0} (object : D → Option O) (threads : D → Option (List ℕ)) (old : Kept D) (roster : RosterData D O) → roster_seen object old ≡ roster
    → IsSound object threads old → (looper thread : ℕ) → IsAtRest roster → IsStranger thread looper (slice_get (state roster).loopers looper)
    → IfSome (slice_get old.doors looper) (λ d. IsNewIn (threads d) thread)
newcomer_held {D} {O} object threads old roster view sound looper thread rest stranger =
    newcomer threads old.doors (state roster).loopers looper thread
    (subst (λ (ds : List D). AreKept threads 0 ds (state roster).loopers) (sym (ap (λ (r : RosterData D O). r.doors) view))
    ((subst (λ (r : RosterData D O). IsRoster object threads r) view sound.roster).kept rest)) stranger
