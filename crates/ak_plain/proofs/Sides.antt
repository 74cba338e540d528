-- Steps of all threads that are plain whatever they are for: at ports and at the reply book, doors, and the ends of teams. Plain steps stay plain
-- when they are put together.
use Rattle.std.proofs.Common.{◌≡◌, ℕ, List, [], ◌∷◌, ◌++◌, Option, None, Some, All, refl, sym, subst, ⊎_elim}
use Rattle.std.proofs.lemmas.List.Elements.{All-append, All-cons, All-nil}
use Rattle.ak_message.specs.declared.address.Address.{Address}
use Rattle.ak_flatten.specs.Item.{ItemData}
use Rattle.ak_port.specs.declared.port_entry.PortEvent.{PortEvent}
use Rattle.ak_diary.specs.Step.{Step, at_roster, at_book, at_port, saw_book, saw_port}
use Rattle.ak_diary.specs.Turns as turns
use Rattle.ak_diary.specs.Turns.{Fills, Shuts, ShutsAll}
use Rattle.ak_diary.specs.Wants as wants
use Rattle.ak_diary.specs.Wants.{AsksInVain, Cancels, Converses, EntersPort, GetsDoor, IsRefusedBy, Withdraws}
use Rattle.ak_journal.specs.Plain.{IsPlainRoster}
use Rattle.ak_plain.proofs.Steps.{IsPlainStep}

-- all steps are plain
abbrev pub ArePlain : List Step → Type 0
ArePlain steps = All IsPlainStep steps

pub none : (steps : List Step) → steps ≡ [] → ArePlain steps
none steps is = subst ArePlain (sym is) (All-nil IsPlainStep)

pub one : (step : Step) (steps : List Step) → IsPlainStep step → steps ≡ step ∷ [] → ArePlain steps
one step steps h is = subst ArePlain (sym is) (All-cons IsPlainStep step [] h (All-nil IsPlainStep))

pub more : (step : Step) (rest steps : List Step) → IsPlainStep step → ArePlain rest → steps ≡ step ∷ rest → ArePlain steps
more step rest steps h all is = subst ArePlain (sym is) (All-cons IsPlainStep step rest h all)

pub both : (xs ys steps : List Step) → ArePlain xs → ArePlain ys → steps ≡ xs ++ ys → ArePlain steps
both xs ys steps a b is = subst ArePlain (sym is) (All-append IsPlainStep xs ys a b)

-- ---- at a port and at the book
pub port_plain : (looper : ℕ) (e : PortEvent) (steps : List Step) → EntersPort looper e steps → ArePlain steps
port_plain looper e steps enters = one (at_port looper enters.noted) steps tt enters.is

cancels_plain : (n : ℕ) (steps : List Step) → Cancels n steps → ArePlain steps
cancels_plain n steps c = ⊎_elim (λ (t : wants.EntersCancel n steps). one (at_book t.noted) steps tt t.is) (λ (t : wants.FindsFilled n steps). one (saw_book t.seen) steps tt t.is) c

pub converses_plain : (to : Address) (item : ItemData) (flat : List ℕ) (steps : List Step) → Converses to item flat steps → ArePlain steps
converses_plain to item flat steps c =
    more (at_book c.opened) (at_port to.looper c.written ∷ at_book c.taken ∷ []) steps tt
    (more (at_port to.looper c.written) (at_book c.taken ∷ []) (at_port to.looper c.written ∷ at_book c.taken ∷ []) tt (one (at_book c.taken) (at_book c.taken ∷ []) tt refl) refl)
    c.is

refused_plain : (looper : ℕ) (e : Option PortEvent) (steps : List Step) → IsRefusedBy looper e steps → ArePlain steps
refused_plain looper None steps r = none steps r
refused_plain looper (Some e) steps r = port_plain looper e steps r

pub withdraws_plain : (to : Address) (e : Option PortEvent) (steps : List Step) → Withdraws to e steps → ArePlain steps
withdraws_plain to e steps w =
    both (at_book w.opened ∷ w.refused) w.closing steps (more (at_book w.opened) w.refused (at_book w.opened ∷ w.refused) tt (refused_plain to.looper e w.refused w.refused_is) refl)
    (cancels_plain w.slot w.closing w.closes) w.is

pub vain_plain : (to : Address) (item : ItemData) (steps : List Step) → AsksInVain to item steps → ArePlain steps
vain_plain to item steps (wants.before_all is) = none steps is
vain_plain to item steps (wants.for_the_item w) = withdraws_plain to None steps w
vain_plain to item steps (wants.for_the_reply flat c) = converses_plain to item flat steps c

pub fills_plain : (n : ℕ) (text : List ℕ) (steps : List Step) → Fills n text steps → ArePlain steps
fills_plain n text steps f = ⊎_elim (λ (t : turns.EntersFill n text steps). one (at_book t.noted) steps tt t.is) (λ (t : turns.FindsSettled n steps). one (saw_book t.seen) steps tt t.is) f

pub shuts_plain : (looper : ℕ) (steps : List Step) → Shuts looper steps → ArePlain steps
shuts_plain looper steps s =
    ⊎_elim (λ (t : turns.EntersShut looper steps). one (at_port looper t.noted) steps tt t.is) (λ (t : turns.FindsShut looper steps). one (saw_port looper t.seen) steps tt t.is) s

pub shuts_all_plain : (loopers : List ℕ) (steps : List Step) → ShutsAll loopers steps → ArePlain steps
shuts_all_plain [] steps s = none steps s
shuts_all_plain (looper ∷ loopers) steps s = both s.0 s.1 steps (shuts_plain looper s.0 s.2) (shuts_all_plain loopers s.1 s.3) s.4

-- ---- at the roster
pub door_plain : (looper : ℕ) (steps : List Step) → GetsDoor looper steps → ArePlain steps
door_plain looper steps d = one (at_roster d.noted) steps (subst IsPlainRoster (sym d.event_is) tt) d.is
