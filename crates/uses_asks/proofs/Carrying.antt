-- What is begun at a desk stays the same message while it is carried out.
use Rattle.std.proofs.Common.{◌≡◌, ℕ, List, Option, None, Some, refl, sym, ap, ◌∙◌, subst}
use Rattle.std.specs.Prelude.{IfSome}
use Rattle.ak_flatten.specs.declared.item.Taken.{Taken}
use Rattle.ak_flatten.specs.Item.{ItemData}
use Rattle.ak_turn.specs.declared.clock.Clock.{Clock}
use Rattle.ak_action.specs.declared.answer.Answer.{Answer}
use Rattle.ak_action.specs.declared.answer.Want.{Want}
use Rattle.ak_action.specs.declared.answer.Want.TheVariants as want
use Rattle.ak_action.specs.declared.state.DeskState.{DeskState}
use Rattle.ak_desk.specs.declared.made.Made.{Made}
use Rattle.ak_desk.specs.Answering.{AnswersWant}
use Rattle.ak_desk.specs.Desk.{BegunData, DeskData, DeskAwaits, DeskIsDone, DeskTakes, EndsDispatch, Fails, FailsFrom, GoesOn, HasDispatched, Hears, OfBegun, Turns, Wants, begun_with, ended, ended_by}
use Rattle.ak_desk.specs.Dispatch.{Came}
use Rattle.ak_desk.specs.Entry.{EntryData}
use Rattle.uses_asks.specs.Serving.{Carries, EndsSo, IsOf}

-- ---- one call
record IsSame (b b' : BegunData) : Type 0 where
  position_is : b'.position ≡ b.position
  item_is : b'.item ≡ b.item
  before_is : b'.before ≡ b.before

-- another record of the same message
as_same : (b b' b'' : BegunData) → b' ≡ b'' → IsSame b b'' → IsSame b b'
as_same b b' b'' is same = subst (IsSame b) (sym is) same

wants_same : (came : Option Came) (w : Want) (b : BegunData) (s : DeskState) (b' : BegunData) (s' : DeskState) → GoesOn came w b s b' s' → IsSame b b'
wants_same (Some c) w b s b' s' h = as_same b b' b h.message (record { position_is = refl; item_is = refl; before_is = refl })
wants_same None want.Done b s b' s' h = as_same b b' _ h.message (record { position_is = refl; item_is = refl; before_is = refl })
wants_same None (want.Find word) b s b' s' h = as_same b b' _ h.message (record { position_is = refl; item_is = refl; before_is = refl })
wants_same None (want.Post to m back) b s b' s' h = as_same b b' _ h.message (record { position_is = refl; item_is = refl; before_is = refl })
wants_same None (want.Ask to m) b s b' s' h = as_same b b' _ h.message (record { position_is = refl; item_is = refl; before_is = refl })
wants_same None (want.Forward looper popped) b s b' s' h = as_same b b' _ h.message (record { position_is = refl; item_is = refl; before_is = refl })

fails_same : (came : Option Came) (b : BegunData) (s : DeskState) (b' : BegunData) (s' : DeskState) → FailsFrom came b s b' s' → IsSame b b'
fails_same (Some c) b s b' s' h = absurd h
fails_same None b s b' s' h = as_same b b' _ h.ends.message (record { position_is = refl; item_is = refl; before_is = refl })

hears_same : (a : Answer) (b : BegunData) (s : DeskState) (b' : BegunData) (s' : DeskState) → Hears a b s b' s' → IsSame b b'
hears_same a b s b' s' h = as_same b b' _ h.message (record { position_is = refl; item_is = refl; before_is = refl })

of_same : (position : ℕ) (item : ItemData) (before : DeskState) (b b' : BegunData) → IsSame b b' → IsOf position item before b → IsOf position item before b'
of_same position item before b b' same is = record { position_is = same.position_is ∙ is.position_is; item_is = same.item_is ∙ is.item_is; before_is = same.before_is ∙ is.before_is }

module _ (p : BegunData → BegunData → Type 0) (keeps : (b b' : BegunData) → p b b' → IsSame b b') (position : ℕ) (item : ItemData) (before : DeskState) where
  carries_by : (o o' : Option BegunData) → OfBegun (λ (b : BegunData). OfBegun (p b) o') o → OfBegun (IsOf position item before) o → OfBegun (IsOf position item before) o'
  carries_by None o' h is = absurd h
  carries_by (Some b) None h is = absurd h
  carries_by (Some b) (Some b') h is = of_same position item before b b' (keeps b b' h) is

module _ (position : ℕ) (item : ItemData) (before : DeskState) (d d' : DeskData) where
  pub want_carries : (w : Want) → Turns (Wants w) d d' → Carries position item before d → Carries position item before d'
  want_carries w h = carries_by (λ b b'. Wants w b d.state b' d'.state) (λ b b'. wants_same b.came w b d.state b' d'.state) position item before d.begun d'.begun h

  pub fail_carries : Turns Fails d d' → Carries position item before d → Carries position item before d'
  fail_carries h = carries_by (λ b b'. Fails b d.state b' d'.state) (λ b b'. fails_same b.came b d.state b' d'.state) position item before d.begun d'.begun h

  pub give_carries : (a : Answer) → Turns (Hears a) d d' → Carries position item before d → Carries position item before d'
  give_carries a h = carries_by (λ b b'. Hears a b d.state b' d'.state) (λ b b'. hears_same a b d.state b' d'.state) position item before d.begun d'.begun h

-- ---- an answer
pub takes_of : (w : Want) (a : Answer) (d : DeskData) → DeskAwaits w d → AnswersWant w a → DeskTakes d a
takes_of (want.Find word) a d awaits fits = awaits a fits
takes_of (want.Post to m back) a d awaits fits = awaits a fits
takes_of (want.Ask to m) a d awaits fits = awaits a fits
takes_of (want.Forward looper popped) a d awaits fits = awaits a fits
takes_of want.Done a d awaits fits = absurd fits

pub done_of : (w : Want) (d : DeskData) → w ≡ want.Done → DeskAwaits w d → DeskIsDone d
done_of w d is awaits = subst (λ (v : Want). DeskAwaits v d) is awaits

-- ---- from its beginning to its end
pub starts : (d d' : DeskData) (taken : Taken) → d' ≡ begun_with d taken → Carries taken.position taken.item d.state d'
starts d d' taken is = subst (Carries taken.position taken.item d.state) (sym is) (record { position_is = refl; item_is = refl; before_is = refl })

module _ (clock clock' : Clock) (taken : Taken) (made : Made) (d0 d' : DeskData) where
  moved : (asked : List Want) (heard : List Answer) (opening before : DeskState) (position : ℕ) (item : ItemData) (entries : List EntryData) → position ≡ taken.position → item ≡ taken.item → before ≡ d0.state → opening ≡ d0.opening → entries ≡ d0.entries
      → HasDispatched clock clock' position item asked heard opening before d'.state entries d'.entries made → EndsSo clock clock' taken made d0 d'
  moved asked heard opening before position item entries position_is item_is before_is opening_is entries_is h = record {
    asked = asked;
    heard = heard;
    ends =
        subst (λ (x : ℕ). HasDispatched clock clock' x taken.item asked heard d0.opening d0.state d'.state d0.entries d'.entries made) position_is
        (subst (λ (x : ItemData). HasDispatched clock clock' position x asked heard d0.opening d0.state d'.state d0.entries d'.entries made) item_is
        (subst (λ (x : DeskState). HasDispatched clock clock' position item asked heard d0.opening x d'.state d0.entries d'.entries made) before_is
        (subst (λ (x : DeskState). HasDispatched clock clock' position item asked heard x before d'.state d0.entries d'.entries made) opening_is
        (subst (λ (x : List EntryData). HasDispatched clock clock' position item asked heard opening before d'.state x d'.entries made) entries_is h))));
  }

  ends_by : (d : DeskData) (o : Option BegunData) → d.opening ≡ d0.opening → d.entries ≡ d0.entries → OfBegun (IsOf taken.position taken.item d0.state) o → IfSome o (λ (b : BegunData). EndsDispatch clock clock' d d' made b) → EndsSo clock clock' taken made d0 d'
  ends_by d None opening entries is h = absurd is
  ends_by d (Some b) opening entries is h = moved b.asked b.heard d.opening b.before b.position b.item d.entries is.position_is is.item_is is.before_is opening entries h

  pub ends_so : (d : DeskData) → d.opening ≡ d0.opening → d.entries ≡ d0.entries → Carries taken.position taken.item d0.state d → IfSome d.begun (EndsDispatch clock clock' d d' made) → EndsSo clock clock' taken made d0 d'
  ends_so d opening entries is h = ends_by d d.begun opening entries is h

-- nothing is begun then, and the opening stays
rests_by : (d : DeskData) (clock : Clock) (o : Option BegunData) → d.begun ≡ o → (ended_by d clock o).begun ≡ None
rests_by d clock None is = is
rests_by d clock (Some b) is = refl

pub rests : (d d' : DeskData) (clock : Clock) → d' ≡ ended d clock → d'.begun ≡ None
rests d d' clock is = ap (λ (x : DeskData). x.begun) is ∙ rests_by d clock d.begun refl

opens_by : (d : DeskData) (clock : Clock) (o : Option BegunData) → (ended_by d clock o).opening ≡ d.opening
opens_by d clock None = refl
opens_by d clock (Some b) = refl

pub opens : (d d' : DeskData) (clock : Clock) → d' ≡ ended d clock → d'.opening ≡ d.opening
opens d d' clock is = ap (λ (x : DeskData). x.opening) is ∙ opens_by d clock d.begun
