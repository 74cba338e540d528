-- What steps make of what a thread has to do, part after part; and steps that leave it as it is.
use Rattle.std.proofs.Common.{◌≡◌, ◌∙◌, ℕ, true, List, [], ◌∷◌, ◌++◌, refl, sym, ap, subst}
use Rattle.std.proofs.lemmas.Bool.{false≢true}
use Rattle.std.proofs.lemmas.Grind.{flat_map-append}
use Rattle.ak_flatten.specs.declared.item.Duty.{Duty}
use Rattle.ak_flatten.specs.declared.item.Duty.TheVariants as duty
use Rattle.ak_flatten.specs.Item.{ItemData}
use Rattle.ak_port.specs.declared.port_entry.PortEntry.{PortEntry}
use Rattle.ak_port.specs.declared.port_entry.PortEvent.{PortEvent}
use Rattle.ak_port.specs.declared.port_entry.PortEvent.TheVariants as port_event
use Rattle.ak_port.specs.declared.reply_entry.ReplyEntry.{ReplyEntry}
use Rattle.ak_action.specs.declared.state.DeskState.{DeskState}
use Rattle.ak_diary.specs.Step.{Step, at_port, book_sight, book_sights, saw_book}
use Rattle.ak_diary.specs.Wants.{EntersPort}
use Rattle.ak_headline.specs.Headline.{MissesNone}
use Rattle.ak_headline.specs.Main.{MayEnterPort, owes_no_slot}
use Rattle.ak_sequence.proofs.Doing.{Doing, Does, DoesAll, DoesAtPort, WritesIt}

-- ---- sights of the book
pub none_left : {X : Type 0} (xs ys : List X) → xs ++ ys ≡ [] → (xs ≡ []) × (ys ≡ [])
none_left [] ys e = (refl, e)
none_left (x ∷ xs) ys e = absurd (cc e)

-- where both parts have none, each has none
pub misses_first : (xs ys steps : List Step) → steps ≡ xs ++ ys → MissesNone steps → MissesNone xs
misses_first xs ys steps is none = (none_left (book_sights xs) (book_sights ys) (sym (flat_map-append book_sight xs ys) ∙ ap book_sights (sym is) ∙ none)).0

pub misses_rest : (xs ys steps : List Step) → steps ≡ xs ++ ys → MissesNone steps → MissesNone ys
misses_rest xs ys steps is none = (none_left (book_sights xs) (book_sights ys) (sym (flat_map-append book_sight xs ys) ∙ ap book_sights (sym is) ∙ none)).1

pub no_sight : (seen : List ReplyEntry) (steps : List Step) → steps ≡ saw_book seen ∷ [] → MissesNone steps → ⊥
no_sight seen steps is none = let both : seen ∷ [] ≡ [] = ap book_sights (sym is) ∙ none in absurd (cc both)

module _ (short : List ℕ) (openings : ℕ → DeskState) (thread : ℕ) where
  -- ---- part after part
  pub does_none : (d : Doing) (steps : List Step) → steps ≡ [] → DoesAll short openings thread d steps d
  does_none d steps is = subst (λ (k : List Step). DoesAll short openings thread d k d) (sym is) refl

  pub does_one : (d d' : Doing) (step : Step) (steps : List Step) → steps ≡ step ∷ [] → Does short openings thread d step d' → DoesAll short openings thread d steps d'
  does_one d d' step steps is does = subst (λ (k : List Step). DoesAll short openings thread d k d') (sym is) (d', does, refl)

  pub does_append : (xs ys : List Step) (d e d' : Doing) → DoesAll short openings thread d xs e → DoesAll short openings thread e ys d' → DoesAll short openings thread d (xs ++ ys) d'
  does_append [] ys d e d' first rest = subst (λ (k : Doing). DoesAll short openings thread k ys d') first rest
  does_append (x ∷ xs) ys d e d' first rest = (first.0, first.1, does_append xs ys first.0 e d' first.2 rest)

  pub does_both : (d e d' : Doing) (xs ys steps : List Step) → steps ≡ xs ++ ys → DoesAll short openings thread d xs e → DoesAll short openings thread e ys d' → DoesAll short openings thread d steps d'
  does_both d e d' xs ys steps is first rest = subst (λ (k : List Step). DoesAll short openings thread d k d') (sym is) (does_append xs ys d e d' first rest)

  -- ---- steps that leave it as it is, whatever it is
  abbrev pub Stays : List Step → Type 0
  Stays steps = (d : Doing) → DoesAll short openings thread d steps d

  pub stays_none : (steps : List Step) → steps ≡ [] → Stays steps
  stays_none steps is d = does_none d steps is

  pub stays_one : (step : Step) (steps : List Step) → steps ≡ step ∷ [] → ((d : Doing) → Does short openings thread d step d) → Stays steps
  stays_one step steps is each d = does_one d d step steps is (each d)

  pub stays_both : (xs ys steps : List Step) → steps ≡ xs ++ ys → Stays xs → Stays ys → Stays steps
  stays_both xs ys steps is first rest d = does_both d d d xs ys steps is (first d) (rest d)

  -- an entry at a port that takes nothing, and writes no item that owes a slot
  plain_item : (d : Doing) (item : ItemData) (owed : Duty) → owes_no_slot owed ≡ true → WritesIt short openings thread d item owed d
  plain_item d item duty.None is = refl
  plain_item d item (duty.Slot n) is = absurd (false≢true is)
  plain_item d item (duty.Back to) is = refl

  plain_event : (d : Doing) (number : ℕ) (before : List PortEntry) (e : PortEvent) → MayEnterPort e → DoesAtPort short openings thread d number before e d
  plain_event d number before (port_event.Made capacity life) may = refl
  plain_event d number before (port_event.Written position item) may = plain_item d item item.duty may
  plain_event d number before port_event.Full may = refl
  plain_event d number before port_event.Refused may = refl
  plain_event d number before port_event.Spent may = refl
  plain_event d number before (port_event.Took k) may = absurd may
  plain_event d number before (port_event.Rest k) may = absurd may
  plain_event d number before port_event.Shut may = refl

  pub stays_at_port : (looper : ℕ) (e : PortEvent) (steps : List Step) → MayEnterPort e → EntersPort looper e steps → Stays steps
  stays_at_port looper e steps may enters =
      let n = enters.noted in
      stays_one (at_port looper n) steps enters.is
      (λ d. subst (λ (k : PortEvent). DoesAtPort short openings thread d looper n.before k d) (sym enters.event_is) (plain_event d looper n.before e may))
