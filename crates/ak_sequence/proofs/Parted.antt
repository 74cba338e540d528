-- A run of worlds in parts: what a part of its entries makes of what holds, and what holds of each of them.
use Rattle.std.proofs.Common.{◌≡◌, ◌⊎◌, ℕ, suc, List, [], ◌∷◌, ◌++◌, All, Any, refl, sym, subst, inl, inr, ⊎_elim, arith}
use Rattle.std.proofs.lemmas.List.Elements.{All-cons, All-nil, Contains-append_left}
use Rattle.ak_roster.specs.declared.head.AppHead.{AppHead}
use Rattle.ak_action.specs.declared.state.DeskState.{DeskState}
use Rattle.ak_journal.specs.declared.entry.Entry.{Entry}
use Rattle.ak_world.specs.World.{World, WorldRun, WorldStep, first_world}
use Rattle.ak_sequence.specs.Places.{IsSound}
use Rattle.ak_sequence.proofs.Sound.{steps_keep_sound, worlds_sound}

-- ---- some element, in a list with one more in front, and in one with more behind it
pub any_head : {X : Type 0} (P : X → Type 0) (x : X) (xs : List X) → P x → Any P (x ∷ xs)
any_head P x xs p = (0, x, omega arith, refl, p)

pub any_tail : {X : Type 0} (P : X → Type 0) (x : X) (xs : List X) → Any P xs → Any P (x ∷ xs)
any_tail P x xs (k, y, lt, at, p) = (suc k, y, omega arith, at, p)

pub any_left : {X : Type 0} (P : X → Type 0) (xs ys : List X) → Any P xs → Any P (xs ++ ys)
any_left P xs ys (k, x, lt, at, p) = let there = Contains-append_left xs ys x (k, lt, at) in (there.0, x, there.1, there.2, p)

module _ (heads : List AppHead) (short : List ℕ) where
  -- ---- one entry of a run
  -- the worlds before it and behind it, and the runs to the one and from the other
  pub record Parted (w : World) (before : List Entry) (entry : Entry) (behind : List Entry) (last : World) : Type 0 where
    pub here : World
    pub there : WorldRun heads short w before here
    pub next : World
    pub step : WorldStep heads short here entry next
    pub on : WorldRun heads short next behind last

  pub part : (w : World) (before : List Entry) (entry : Entry) (behind : List Entry) (last : World) → WorldRun heads short w (before ++ entry ∷ behind) last → Parted w before entry behind last
  part w [] entry behind last run = record { here = w; there = refl; next = run.0; step = run.1; on = run.2 }
  part w (first ∷ before) entry behind last run =
      let p = part run.0 before entry behind last run.2 in
      record { here = p.here; there = (run.0, run.1, p.there); next = p.next; step = p.step; on = p.on }

  -- from where nothing is launched, both are sound
  pub record Begun (openings : ℕ → DeskState) (before : List Entry) (entry : Entry) (behind : List Entry) (last : World) : Type 0 where
    pub parted : Parted (first_world openings) before entry behind last
    pub sound : IsSound parted.here
    pub next_sound : IsSound parted.next

  pub begun
      : (openings : ℕ → DeskState) (entries : List Entry) (last : World) → WorldRun heads short (first_world openings) entries last
      → (before : List Entry) (entry : Entry) (behind : List Entry) → entries ≡ before ++ entry ∷ behind → Begun openings before entry behind last
  begun openings entries last run before entry behind is =
      let parted = part (first_world openings) before entry behind last (subst (λ (l : List Entry). WorldRun heads short (first_world openings) l last) is run) in
      let sound = worlds_sound heads short openings before parted.here parted.there in
      record { parted = parted; sound = sound; next_sound = steps_keep_sound heads short parted.here entry parted.next parted.step sound }

  -- ---- what is so behind a run was so before it, or one of its entries made it so
  pub told
      : (Q : World → Type 0) (P : Entry → Type 0) → ((w : World) (entry : Entry) (w' : World) → WorldStep heads short w entry w' → IsSound w → Q w' → Q w ⊎ P entry)
      → (w : World) (entries : List Entry) (last : World) → IsSound w → WorldRun heads short w entries last → Q last → Q w ⊎ Any P entries
  told Q P tells w [] last sound run now = inl (subst Q run now)
  told Q P tells w (entry ∷ entries) last sound run now =
      ⊎_elim
      (λ (t : Q run.0).
      ⊎_elim
      (λ (u : Q w). inl u)
      (λ (u : P entry). inr (any_head P entry entries u))
      (tells w entry run.0 run.1 sound t))
      (λ (t : Any P entries). inr (any_tail P entry entries t))
      (told Q P tells run.0 entries last (steps_keep_sound heads short w entry run.0 run.1 sound) run.2 now)

  -- ---- what each step keeps is so behind the run
  pub kept
      : (Q : World → Type 0) → ((w : World) (entry : Entry) (w' : World) → WorldStep heads short w entry w' → IsSound w → Q w → Q w')
      → (w : World) (entries : List Entry) (last : World) → IsSound w → WorldRun heads short w entries last → Q w → Q last
  kept Q keeps w [] last sound run now = subst Q (sym run) now
  kept Q keeps w (entry ∷ entries) last sound run now =
      kept Q keeps run.0 entries last (steps_keep_sound heads short w entry run.0 run.1 sound) run.2 (keeps w entry run.0 run.1 sound now)

  -- and so each of its entries is one that comes while it is so
  pub each_by
      : (Q : World → Type 0) (P : Entry → Type 0) → ((w : World) (entry : Entry) (w' : World) → WorldStep heads short w entry w' → IsSound w → Q w → Q w' × P entry)
      → (w : World) (entries : List Entry) (last : World) → IsSound w → WorldRun heads short w entries last → Q w → All P entries
  each_by Q P keeps w [] last sound run now = All-nil P
  each_by Q P keeps w (entry ∷ entries) last sound run now =
      let t = keeps w entry run.0 run.1 sound now in
      All-cons P entry entries t.1 (each_by Q P keeps run.0 entries last (steps_keep_sound heads short w entry run.0 run.1 sound) run.2 t.0)
