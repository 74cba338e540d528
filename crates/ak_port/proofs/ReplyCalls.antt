-- What a call at the reply book tells, from what its turn and the book told.
use Rattle.std.proofs.Common.{◌≡◌, ◌≢◌, ℕ, ◌⊎◌, Bool, false, List, [], ◌∷◌, ◌++◌, length, Option, Some, None, Result, Ok, Err, sym, refl, ap, ◌∙◌, subst, append-nil, inl, inr, ⊎_elim}
use Rattle.std.specs.Prelude.{slice_get, IfOk, OnOk, IfSome, IfNone, IsSome}
use Rattle.std.proofs.lemmas.Bool.{cases_eq}
use Rattle.std.proofs.lemmas.List.Elements.{All-head, All-tail, All-nil}
use Rattle.std.proofs.lemmas.Option.{slice_get_within}
use Rattle.ak_base.specs.declared.no_memory.NoMemory.{NoMemory}
use Rattle.ak_turn.specs.declared.clock.Clock.{Clock}
use Rattle.ak_turn.specs.Entries.{AreByOthers}
use Rattle.ak_turn.specs.Seats.{HasCalled, HasSeen, IsGiven, at_leisure, entered_by, with_own}
use Rattle.ak_turn.proofs.Surface as seats
use Rattle.ak_port.specs.declared.reply_entry.ReplyEntry.{ReplyEntry}
use Rattle.ak_port.specs.declared.reply_entry.ReplyEvent.{ReplyEvent}
use Rattle.ak_port.specs.declared.reply_entry.ReplyEvent.TheVariants.{Opened, Filled, Cancelled, Taken}
use Rattle.ak_port.specs.Reply.{Stage, open_stage, filled_stage, cancelled_stage, taken_stage, SlotData, slot_of, with_stage, changed, slots_from, slots_after, BookStep, Replays, IsLegal}
use Rattle.ak_port.specs.ReplySeats.{ReplySeat, maker_of, stamp_of, clock_after, entry_at, entry_now, entry_of, HasEnteredBook, HasFoundSettled, HasLooked, IsItsSlot, IsUntaken, IsUncancelled, MayTake, MayCancel}
use Rattle.ak_port.proofs.ReplyHistory.{Replays-append, slots_from-append, slots_push}
use Rattle.ak_port.proofs.ReplySlots.{get_left, get_last, get_same, get_other}

-- ---- a thread's slot, while others go on
-- a slot that its thread has left alone is as it was, or has been filled
Grown : Stage → Stage → Type 0
Grown old new = (new ≡ old) ⊎ ((old ≡ open_stage) × (flat : List ℕ) × (new ≡ filled_stage flat))

-- the thread's slot, with a stage that it can have come to
Held : ℕ → ℕ → Stage → List SlotData → Type 0
Held thread n old slots = (stage : Stage) × (slice_get slots n ≡ Some (slot_of thread stage)) × Grown old stage

held_other : (thread n m : ℕ) (stage to : Stage) (slots : List SlotData) → slice_get slots n ≡ Some (slot_of thread stage) → n ≢ m → Held thread n stage (with_stage slots m to)
unfolding Held Grown
held_other thread n m stage to slots there ne = (stage, get_other slots m n to ne ∙ there, inl refl)

-- what another thread closes is not this thread's
not_its : (thread by n m : ℕ) (stage other : Stage) (slots : List SlotData) → slice_get slots n ≡ Some (slot_of thread stage) → by ≢ thread → slice_get slots m ≡ Some (slot_of by other) → n ≢ m
not_its thread by n m stage other slots there ne at e =
    let both : Some (slot_of by other) ≡ Some (slot_of thread stage) = sym at ∙ ap (slice_get slots) (sym e) ∙ there in
    let same : slot_of by other ≡ slot_of thread stage = cc in
    ne (ap (λ (s : SlotData). s.opener) same)

held_step : (thread n : ℕ) (stage : Stage) (slots : List SlotData) (by : ℕ) (event : ReplyEvent) → by ≢ thread → BookStep slots by event → slice_get slots n ≡ Some (slot_of thread stage) → Held thread n stage (changed slots by event)
unfolding Held Grown
held_step thread n stage slots by (Opened m) ne step there = (stage, get_left slots (slot_of by open_stage ∷ []) n (slice_get_within slots n (slot_of thread stage) there) ∙ there, inl refl)
held_step thread n stage slots by (Filled m flat) ne step there =
    ⊎_elim
    (λ (e : n ≡ m).
    let both : Some (slot_of step.0 open_stage) ≡ Some (slot_of thread stage) = sym step.1 ∙ ap (slice_get slots) (sym e) ∙ there in
    let same : slot_of step.0 open_stage ≡ slot_of thread stage = cc in
    (filled_stage flat, ap (λ (k : ℕ). slice_get (with_stage slots k (filled_stage flat)) n) (sym e) ∙ get_same slots n thread stage (filled_stage flat) there, inr (sym (ap (λ (s : SlotData). s.stage) same), flat, refl)))
    (λ (other : n ≢ m). held_other thread n m stage (filled_stage flat) slots there other) (cases_eq n m)
held_step thread n stage slots by (Cancelled m) ne step there = held_other thread n m stage cancelled_stage slots there (not_its thread by n m stage open_stage slots there ne step)
held_step thread n stage slots by (Taken m) ne step there = held_other thread n m stage taken_stage slots there (not_its thread by n m stage (filled_stage step.0) slots there ne step.1)

grown_twice : (a b c : Stage) → Grown a b → Grown b c → Grown a c
unfolding Grown
grown_twice a b c one two =
    ⊎_elim
    (λ (same : c ≡ b). ⊎_elim (λ (e : b ≡ a). inl (same ∙ e)) (λ (f : (a ≡ open_stage) × (flat : List ℕ) × (b ≡ filled_stage flat)). inr (f.0, f.1, same ∙ f.2)) one)
    (λ (f : (b ≡ open_stage) × (flat : List ℕ) × (c ≡ filled_stage flat)).
    ⊎_elim (λ (e : b ≡ a). inr (sym e ∙ f.0, f.1, f.2)) (λ (g : (a ≡ open_stage) × (flat : List ℕ) × (b ≡ filled_stage flat)). absurd (let e = sym f.0 ∙ g.2 in cc)) one) two

held_on : (thread n : ℕ) (stage : Stage) (slots : List SlotData) (entries : List ReplyEntry) → AreByOthers maker_of thread entries → Replays slots entries → slice_get slots n ≡ Some (slot_of thread stage) → Held thread n stage (slots_from slots entries)
unfolding Held
held_on thread n stage slots [] others replays there = (stage, there, unfold Grown in inl refl)
held_on thread n stage slots (x ∷ xs) others replays there =
    let here = held_step thread n stage slots x.by.0 x.event (All-head (λ entry. maker_of entry ≢ thread) x xs others) replays.0 there in
    let rest = held_on thread n here.0 (changed slots x.by.0 x.event) xs (All-tail (λ entry. maker_of entry ≢ thread) x xs others) replays.1 here.1 in
    (rest.0, rest.1, grown_twice stage here.0 rest.0 here.2 rest.2)

untaken_grown : (old new : Stage) → Grown old new → IsUntaken old → IsUntaken new
unfolding Grown
untaken_grown old new grown is =
    ⊎_elim (λ (e : new ≡ old). subst IsUntaken (sym e) is) (λ (f : (old ≡ open_stage) × (flat : List ℕ) × (new ≡ filled_stage flat)). subst IsUntaken (sym f.2) tt) grown

uncancelled_grown : (old new : Stage) → Grown old new → IsUncancelled old → IsUncancelled new
unfolding Grown
uncancelled_grown old new grown is =
    ⊎_elim (λ (e : new ≡ old). subst IsUncancelled (sym e) is) (λ (f : (old ≡ open_stage) × (flat : List ℕ) × (new ≡ filled_stage flat)). subst IsUncancelled (sym f.2) tt) grown

held_after : (thread n : ℕ) (stage : Stage) (front between : List ReplyEntry) → IsLegal (front ++ between) → AreByOthers maker_of thread between → slice_get (slots_after front) n ≡ Some (slot_of thread stage) → Held thread n stage (slots_after (front ++ between))
unfolding Held
held_after thread n stage front between legal others there =
    let parts = Replays-append [] front between legal.replays in
    let held = held_on thread n stage (slots_after front) between others parts.1 there in
    (held.0, ap (λ (all : List SlotData). slice_get all n) (slots_from-append [] front between) ∙ held.1, held.2)

-- the thread may still take its slot, or cancel it
pub takes_still : (thread n : ℕ) (front between : List ReplyEntry) → MayTake thread n front → AreByOthers maker_of thread between → IsLegal (front ++ between) → MayTake thread n (front ++ between)
unfolding Held
takes_still thread n front between may others legal =
    let held = held_after thread n may.stage front between legal others may.slot.there in
    record { stage = held.0; slot = record { there = held.1 }; untaken = untaken_grown may.stage held.0 held.2 may.untaken }

pub cancels_still : (thread n : ℕ) (front between : List ReplyEntry) → MayCancel thread n front → AreByOthers maker_of thread between → IsLegal (front ++ between) → MayCancel thread n (front ++ between)
unfolding Held
cancels_still thread n front between may others legal =
    let held = held_after thread n may.stage front between legal others may.slot.there in
    record { stage = held.0; slot = record { there = held.1 }; uncancelled = uncancelled_grown may.stage held.0 held.2 may.uncancelled }

-- ---- at a turn
module _ (old given : ReplySeat) (entries : List ReplyEntry) (seen : IsGiven maker_of old given) (list : entries ≡ given.front) where
  entries_are : entries ≡ old.front ++ seen.between
  entries_are = list ∙ ap (λ (s : ReplySeat). s.front) seen.after

  pub takes_at_turn : (thread n : ℕ) → old.thread ≡ thread → MayTake old.thread n old.front → IsLegal entries → MayTake thread n entries
  takes_at_turn thread n same may legal =
      subst (λ (t : ℕ). MayTake t n entries) same (subst (λ (all : List ReplyEntry). MayTake old.thread n all) (sym entries_are) (takes_still old.thread n old.front seen.between may seen.others (subst IsLegal entries_are legal)))

  pub cancels_at_turn : (thread n : ℕ) → old.thread ≡ thread → MayCancel old.thread n old.front → IsLegal entries → MayCancel thread n entries
  cancels_at_turn thread n same may legal =
      subst (λ (t : ℕ). MayCancel t n entries) same (subst (λ (all : List ReplyEntry). MayCancel old.thread n all) (sym entries_are) (cancels_still old.thread n old.front seen.between may seen.others (subst IsLegal entries_are legal)))

  module _ (clock clock' : Clock) (entries' : List ReplyEntry) (new : ReplySeat) (idle : old.turn ≡ false) (thread : old.thread ≡ clock.thread.0)
      (finish : (entry : ReplyEntry) → entries' ≡ given.front ++ entry ∷ [] → new ≡ at_leisure (entered_by given entry)) (legal : IsLegal entries') where
    -- the book has one entry more, and the turn was ended
    pub entered : (event : ReplyEvent) → entries' ≡ entries ++ entry_at clock' event ∷ [] → clock' ≡ clock_after clock entries → HasEnteredBook clock clock' event old new
    entered event more clocked =
        let before : List ReplyEntry = old.front ++ seen.between in
        let x : ReplyEntry = entry_now clock before event in
        let is : entry_at clock' event ≡ x = ap (λ (k : Clock). entry_at k event) (clocked ∙ ap (clock_after clock) entries_are) in
        let grown : entries' ≡ entries ++ x ∷ [] = more ∙ ap (λ (e : ReplyEntry). entries ++ e ∷ []) is in
        let after = finish x (grown ∙ ap (λ (all : List ReplyEntry). all ++ x ∷ []) list) in
        let at : ReplySeat → ReplySeat = λ s. at_leisure (entered_by s x) in
        let turned : ReplySeat → Bool → ReplySeat = λ s b. record s { turn = b } in
        let called : new ≡ with_own old seen.between x = after ∙ ap at seen.after ∙ ap (turned (with_own old seen.between x)) (sym idle) in
        let front : new.front ≡ before ++ x ∷ [] = ap (λ (s : ReplySeat). s.front) called in
        record {
          entered = record {
            before = before;
            front = front;
            called = record { between = seen.between; others = seen.others; mine = sym thread; after = called };
            clocked = clocked ∙ ap (clock_after clock) entries_are;
          };
          legal = subst IsLegal (grown ∙ ap (λ (all : List ReplyEntry). all ++ x ∷ []) entries_are ∙ sym front) legal;
        }

    pub opened : (r : Result ℕ NoMemory) → IfOk r (λ n. entries' ≡ entries ++ entry_at clock' (Opened n) ∷ []) → OnOk r (clock' ≡ clock_after clock entries) → IfOk r (λ n. HasEnteredBook clock clock' (Opened n) old new)
    opened (Ok n) more clocked = entered (Opened n) more clocked
    opened (Err e) more clocked = tt

    pub taken : (n : ℕ) (r : Option (List ℕ)) → (IsSome r → entries' ≡ entries ++ entry_at clock' (Taken n) ∷ []) → (IsSome r → clock' ≡ clock_after clock entries) → IfSome r (λ _. HasEnteredBook clock clock' (Taken n) old new)
    taken n (Some flat) more clocked = entered (Taken n) (more refl) (clocked refl)
    taken n None more clocked = tt

    -- the new slot is its opener's
    its : (n : ℕ) → HasEnteredBook clock clock' (Opened n) old new → IsItsSlot new.thread n open_stage new.front
    its n call =
        let made = call.entered in
        let before : List ReplyEntry = made.before in
        let x : ReplyEntry = entry_now clock before (Opened n) in
        let front : new.front ≡ before ++ x ∷ [] = made.front in
        let legal' : IsLegal (before ++ x ∷ []) = subst IsLegal front call.legal in
        let place : n ≡ length (slots_after before) = ((Replays-append [] before (x ∷ []) legal'.replays).1).0 in
        let by : clock.thread.0 ≡ new.thread = made.called.mine ∙ sym (ap (λ (s : ReplySeat). s.thread) made.called.after) in
        record {
          there = ap (λ (all : List ReplyEntry). slice_get (slots_after all) n) front ∙ ap (λ (all : List SlotData). slice_get all n) (slots_push before x)
              ∙ ap (slice_get (slots_after before ++ slot_of clock.thread.0 open_stage ∷ [])) place ∙ get_last (slots_after before) (slot_of clock.thread.0 open_stage) ∙ ap (λ (t : ℕ). Some (slot_of t open_stage)) by;
        }

    pub opened_takes : (r : Result ℕ NoMemory) → IfOk r (λ n. HasEnteredBook clock clock' (Opened n) old new) → IfOk r (λ n. MayTake new.thread n new.front)
    opened_takes (Ok n) call = record { stage = open_stage; slot = its n call; untaken = tt }
    opened_takes (Err e) call = tt

    pub opened_cancels : (r : Result ℕ NoMemory) → IfOk r (λ n. HasEnteredBook clock clock' (Opened n) old new) → IfOk r (λ n. MayCancel new.thread n new.front)
    opened_cancels (Ok n) call = record { stage = open_stage; slot = its n call; uncancelled = tt }
    opened_cancels (Err e) call = tt

    -- where nothing was filled, the thread may take its slot as before
    pub waits_still : (n : ℕ) (r : Option (List ℕ)) → IfNone r (entries' ≡ entries) → (entries' ≡ given.front → new ≡ at_leisure given) → MayTake old.thread n old.front → IfNone r (MayTake new.thread n new.front)
    waits_still n (Some flat) waits same may = tt
    waits_still n None waits same may =
        let after : new ≡ at_leisure given = same (waits ∙ list) in
        let threads : old.thread ≡ new.thread = sym (ap (λ (s : ReplySeat). s.thread) after ∙ ap (λ (s : ReplySeat). s.thread) seen.after) in
        subst (λ (all : List ReplyEntry). MayTake new.thread n all) (list ∙ sym (ap (λ (s : ReplySeat). s.front) after)) (takes_at_turn new.thread n threads may (subst IsLegal waits legal))

-- ---- one call after another
pub seen_then_entered : (event : ReplyEvent) (clock a b : Clock) (x y z : ReplySeat) → HasSeen maker_of x y → a ≡ clock → HasEnteredBook a b event y z → HasEnteredBook clock b event x z
seen_then_entered event clock a b x y z one same two = record { entered = seats.seen_then_entered maker_of stamp_of entry_of event clock a b x y z one same two.entered; legal = two.legal }

pub seen_then_settled : (n : ℕ) (clock a b : Clock) (x y z : ReplySeat) → HasSeen maker_of x y → a ≡ clock → HasFoundSettled n a b y z → HasFoundSettled n clock b x z
seen_then_settled n clock a b x y z one same two = record { looked = seats.seen_then_looked maker_of clock a b x y z one same two.looked; legal = two.legal; settled = two.settled }
