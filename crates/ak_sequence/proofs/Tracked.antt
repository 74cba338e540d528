-- Of each slot that is still to be filled: the entry by which a port accepted its last item, and what was done with that since.
use Rattle.std.proofs.Common.{◌≡◌, ◌∙◌, ℕ, List, [], ◌∷◌, ◌++◌, All, Any, refl, sym, ap, subst, append_assoc}
use Rattle.std.proofs.lemmas.List.{append-nil}
use Rattle.std.proofs.lemmas.List.Elements.{All-nil, All-push}
use Rattle.std.proofs.lemmas.List.Quantifiers.{Any-push}
use Rattle.ak_flatten.specs.declared.item.Duty.TheVariants as duty
use Rattle.ak_flatten.specs.Item.{ItemData}
use Rattle.ak_roster.specs.declared.head.AppHead.{AppHead}
use Rattle.ak_action.specs.declared.state.DeskState.{DeskState}
use Rattle.ak_journal.specs.declared.entry.Entry.{Entry}
use Rattle.ak_world.specs.World.{World, WorldRun, first_world}
use Rattle.ak_sequence.specs.Places.{IsAt, IsSound, Place, in_hand, left_over, looper_of, owed, pending, position_of}
use Rattle.ak_sequence.specs.Worlds.{DispatchesAt, RestsAt, WritesAt, WritesSlot}
use Rattle.ak_sequence.proofs.Parts.{Comes, stays, was_dispatched, was_left, was_put_by, was_taken, was_written}
use Rattle.ak_sequence.proofs.Keeping.{dispatch_writes_none, rest_writes_none}
use Rattle.ak_sequence.proofs.Sound.{first_is_sound, nowhere, places_come, steps_keep_sound}
use Rattle.ak_sequence.proofs.Parted.{any_left}

-- the port accepted at that position an item that owes the slot, and none that owes it was accepted since
pub record Since (n looper position : ℕ) (done : List Entry) : Type 0 where
  pub item : ItemData
  pub earlier : List Entry
  pub write : Entry
  pub between : List Entry
  pub there : done ≡ earlier ++ write ∷ between
  pub writes : WritesAt looper position item write
  pub owes : item.duty ≡ duty.Slot n
  pub last : All (λ (e : Entry). ¬ (WritesSlot n e)) between

-- an item that was left, was left by the entry that took the rest; one that is owed for, was dispatched
abbrev pub Due : Place → List Entry → Type 0
Due (pending looper position) between = Unit {0}
Due (in_hand looper position) between = Unit {0}
Due (left_over looper position) between = Any (RestsAt looper) between
Due (owed looper position) between = Any (DispatchesAt looper position) between

pub record Tracks (n : ℕ) (done : List Entry) (place : Place) : Type 0 where
  pub since : Since n (looper_of place) (position_of place) done
  pub due : Due place since.between

-- ---- one entry more
module _ (n : ℕ) (done : List Entry) (entry : Entry) where
  abbrev since_on : (looper position : ℕ) → Since n looper position done → ¬ (WritesSlot n entry) → Since n looper position (done ++ entry ∷ [])
  since_on looper position since none = record {
    item = since.item;
    earlier = since.earlier;
    write = since.write;
    between = since.between ++ entry ∷ [];
    there = ap (λ (l : List Entry). l ++ entry ∷ []) since.there ∙ append_assoc since.earlier (since.write ∷ since.between) (entry ∷ []);
    writes = since.writes;
    owes = since.owes;
    last = All-push (λ (e : Entry). ¬ (WritesSlot n e)) since.between entry since.last none;
  }

  due_on : (place : Place) (between : List Entry) → Due place between → Due place (between ++ entry ∷ [])
  due_on (pending looper position) between due = tt
  due_on (in_hand looper position) between due = tt
  due_on (left_over looper position) between due = any_left (RestsAt looper) between (entry ∷ []) due
  due_on (owed looper position) between due = any_left (DispatchesAt looper position) between (entry ∷ []) due

  track : (w : World) → ((place : Place) → IsAt w n place → Tracks n done place) → (place : Place) → Comes w entry n place → Tracks n (done ++ entry ∷ []) place
  track w old place (stays other at none) =
      let t = old other at in
      record { since = since_on (looper_of other) (position_of other) t.since none; due = due_on other t.since.between t.due }
  track w old place (was_taken looper position at none) = record { since = since_on looper position (old (pending looper position) at).since none; due = tt }
  track w old place (was_left looper position at rests) =
      let since = (old (pending looper position) at).since in
      record { since = since_on looper position since (rest_writes_none looper entry n rests); due = Any-push (RestsAt looper) since.between entry rests }
  track w old place (was_put_by looper position at rests) =
      let since = (old (in_hand looper position) at).since in
      record { since = since_on looper position since (rest_writes_none looper entry n rests); due = Any-push (RestsAt looper) since.between entry rests }
  track w old place (was_dispatched looper position at dispatches) =
      let since = (old (in_hand looper position) at).since in
      record {
        since = since_on looper position since (dispatch_writes_none looper position entry n dispatches);
        due = Any-push (DispatchesAt looper position) since.between entry dispatches;
      }
  track w old place (was_written looper position item writes owes) = record {
    since = record {
      item = item;
      earlier = done;
      write = entry;
      between = [];
      there = refl;
      writes = writes;
      owes = owes;
      last = All-nil (λ (e : Entry). ¬ (WritesSlot n e));
    };
    due = tt;
  }

-- ---- entry after entry
module _ (heads : List AppHead) (short : List ℕ) where
  tracked_on
      : (done : List Entry) (w : World) (entries : List Entry) (last : World) → IsSound w → WorldRun heads short w entries last
      → ((n : ℕ) (place : Place) → IsAt w n place → Tracks n done place) → (n : ℕ) (place : Place) → IsAt last n place → Tracks n (done ++ entries) place
  tracked_on done w [] last sound run old n place at =
      subst (λ (l : List Entry). Tracks n l place) (sym (append-nil done)) (old n place (subst (λ (v : World). IsAt v n place) run at))
  tracked_on done w (entry ∷ entries) last sound run old n place at =
      subst (λ (l : List Entry). Tracks n l place) (append_assoc done (entry ∷ []) entries)
      (tracked_on (done ++ entry ∷ []) run.0 entries last (steps_keep_sound heads short w entry run.0 run.1 sound) run.2
      (λ m other there. track m done entry w (old m) other (places_come heads short w entry run.0 run.1 sound m other there))
      n place at)

  pub tracked
      : (openings : ℕ → DeskState) (entries : List Entry) (last : World) → WorldRun heads short (first_world openings) entries last → (n : ℕ) (place : Place) → IsAt last n place → Tracks n entries place
  tracked openings entries last run n place at =
      tracked_on [] (first_world openings) entries last (first_is_sound openings) run (λ m other there. absurd (nowhere openings m other there)) n place at
