-- What a message asks for and hears while it is carried out, and what is done for that.
use Rattle.std.proofs.Common.{◌≡◌, ◌≢◌, ℕ, List, [], ◌∷◌, ◌++◌, Option, None, Some, refl, sym, ap, ◌∙◌, subst, append_assoc, append-nil}
use Rattle.ak_flatten.specs.declared.item.Taken.{Taken}
use Rattle.ak_flatten.specs.Item.{ItemData}
use Rattle.ak_action.specs.declared.answer.Answer.{Answer}
use Rattle.ak_action.specs.declared.answer.Want.{Want}
use Rattle.ak_action.specs.declared.answer.Want.TheVariants as want
use Rattle.ak_action.specs.declared.state.DeskState.{DeskState}
use Rattle.ak_desk.specs.Answering.{AnswersWant}
use Rattle.ak_desk.specs.Desk as desks
use Rattle.ak_desk.specs.Desk.{BegunData, DeskAwaits, DeskData, DeskTakes, Fails, FailsFrom, Forwards, Hears, OfBegun, Turns, Wants, begun_with}
use Rattle.ak_desk.specs.Dispatch.{Came}
use Rattle.ak_diary.specs.Looper.{LooperFacts}
use Rattle.ak_diary.specs.Step.{Step}
use Rattle.ak_diary.specs.Wants.{Serves, ServesAll}
use Rattle.ak_looper.specs.declared.reach.Reach.{Reach}
use Rattle.ak_looper.specs.Carrying.{FitsForward, HasServed, IsOf}
use Rattle.ak_looper.specs.Stands.{GoesOn, Stands}
use Rattle.ak_looper.proofs.Going.{goes_further, stays}

-- ---- one want more
module _ (l : LooperFacts) (item : ItemData) (w : Want) (a : Answer) where
  pub serves_more : (so_far : List Step) (asked : List Want) (heard : List Answer) (steps more : List Step) → ServesAll l so_far item asked heard steps → Serves l (so_far ++ steps) item w a more → ServesAll l so_far item (asked ++ w ∷ []) (heard ++ a ∷ []) (steps ++ more)
  serves_more so_far [] [] steps more all one =
      let same : so_far ++ steps ≡ so_far = ap (λ s. so_far ++ s) all ∙ append-nil so_far in
      (more, [], subst (λ now. Serves l now item w a more) same one, refl, ap (λ s. s ++ more) all ∙ sym (append-nil more))
  serves_more so_far [] (b ∷ heard) steps more all one = absurd all
  serves_more so_far (v ∷ asked) [] steps more all one = absurd all
  serves_more so_far (v ∷ asked) (b ∷ heard) steps more all one =
      let first = all.0 in
      let rest = all.1 in
      let same : so_far ++ steps ≡ (so_far ++ first) ++ rest = ap (λ s. so_far ++ s) all.4 ∙ sym (append_assoc so_far first rest) in
      (first, rest ++ more, all.2, serves_more (so_far ++ first) asked heard rest more all.3 (subst (λ now. Serves l now item w a more) same one), ap (λ s. s ++ more) all.4 ∙ append_assoc first rest more)

-- ---- what each call at the desk leaves of the message
record IsSame (b b' : BegunData) : Type 0 where
  position_is : b'.position ≡ b.position
  item_is : b'.item ≡ b.item

record SaysSame (b b' : BegunData) : Type 0 where
  same : IsSame b b'
  asked_is : b'.asked ≡ b.asked
  heard_is : b'.heard ≡ b.heard

record AsksMore (w : Want) (b b' : BegunData) : Type 0 where
  same : IsSame b b'
  asked_is : b'.asked ≡ b.asked ++ w ∷ []
  heard_is : b'.heard ≡ b.heard

record HearsMore (a : Answer) (b b' : BegunData) : Type 0 where
  same : IsSame b b'
  asked_is : b'.asked ≡ b.asked
  heard_is : b'.heard ≡ b.heard ++ a ∷ []

asks_so : (w : Want) (b b' : BegunData) → b' ≡ record b { asked = b.asked ++ w ∷ [] } → AsksMore w b b'
asks_so w b b' is = subst (AsksMore w b) (sym is) (record { same = record { position_is = refl; item_is = refl }; asked_is = refl; heard_is = refl })

ends_so : (came : Option Came) (b b' : BegunData) → b' ≡ record b { came = came } → SaysSame b b'
ends_so came b b' is = subst (SaysSame b) (sym is) (record { same = record { position_is = refl; item_is = refl }; asked_is = refl; heard_is = refl })

asks_more : (came : Option Came) (w : Want) (b : BegunData) (s : DeskState) (b' : BegunData) (s' : DeskState) → w ≢ want.Done → desks.GoesOn came w b s b' s' → AsksMore w b b'
asks_more (Some c) w b s b' s' asking h = absurd (asking h.done)
asks_more None want.Done b s b' s' asking h = absurd (asking refl)
asks_more None (want.Find word) b s b' s' asking h = asks_so (want.Find word) b b' h.message
asks_more None (want.Post to m back) b s b' s' asking h = asks_so (want.Post to m back) b b' h.message
asks_more None (want.Ask to m) b s b' s' asking h = asks_so (want.Ask to m) b b' h.message
asks_more None (want.Forward looper popped) b s b' s' asking h = asks_so (want.Forward looper popped) b b' h.message

asks_nothing : (came : Option Came) (b : BegunData) (s : DeskState) (b' : BegunData) (s' : DeskState) → desks.GoesOn came want.Done b s b' s' → SaysSame b b'
asks_nothing (Some c) b s b' s' h = subst (SaysSame b) (sym h.message) (record { same = record { position_is = refl; item_is = refl }; asked_is = refl; heard_is = refl })
asks_nothing None b s b' s' h = ends_so (Some h.came) b b' h.message

fails_so : (came : Option Came) (b : BegunData) (s : DeskState) (b' : BegunData) (s' : DeskState) → FailsFrom came b s b' s' → SaysSame b b'
fails_so (Some c) b s b' s' h = absurd h
fails_so None b s b' s' h = ends_so (Some h.ends.came) b b' h.ends.message

hears_more : (a : Answer) (b : BegunData) (s : DeskState) (b' : BegunData) (s' : DeskState) → Hears a b s b' s' → HearsMore a b b'
hears_more a b s b' s' h = subst (HearsMore a b) (sym h.message) (record { same = record { position_is = refl; item_is = refl }; asked_is = refl; heard_is = refl })

-- ---- it is still that message
abbrev IsIts : Taken → BegunData → Type 0
IsIts taken b = (b.position ≡ taken.position) × (b.item ≡ taken.item)

module _ (p : BegunData → BegunData → Type 0) (keeps : (b b' : BegunData) → p b b' → IsSame b b') (taken : Taken) where
  is_still_by : (o o' : Option BegunData) → OfBegun (λ (b : BegunData). OfBegun (λ (b' : BegunData). p b b') o') o → OfBegun (IsIts taken) o → OfBegun (IsIts taken) o'
  is_still_by None o' h is = absurd is
  is_still_by (Some b) None h is = absurd h
  is_still_by (Some b) (Some b') h is = let same = keeps b b' h in (same.position_is ∙ is.0, same.item_is ∙ is.1)

module _ (taken : Taken) (d d' : DeskData) where
  pub want_is_of : (w : Want) → w ≢ want.Done → Turns (Wants w) d d' → IsOf taken d → IsOf taken d'
  want_is_of w asking h = is_still_by (λ b b'. Wants w b d.state b' d'.state) (λ b b' goes. (asks_more b.came w b d.state b' d'.state asking goes).same) taken d.begun d'.begun h

  pub done_is_of : Turns (Wants want.Done) d d' → IsOf taken d → IsOf taken d'
  done_is_of h = is_still_by (λ b b'. Wants want.Done b d.state b' d'.state) (λ b b' goes. (asks_nothing b.came b d.state b' d'.state goes).same) taken d.begun d'.begun h

  pub fail_is_of : Turns Fails d d' → IsOf taken d → IsOf taken d'
  fail_is_of h = is_still_by (λ b b'. Fails b d.state b' d'.state) (λ b b' fails. (fails_so b.came b d.state b' d'.state fails).same) taken d.begun d'.begun h

  pub give_is_of : (a : Answer) → Turns (Hears a) d d' → IsOf taken d → IsOf taken d'
  give_is_of a h = is_still_by (λ b b'. Hears a b d.state b' d'.state) (λ b b' heard. (hears_more a b d.state b' d'.state heard).same) taken d.begun d'.begun h

-- ---- what it asked for is still done
abbrev AllDone : LooperFacts → ℕ → List Step → Reach → BegunData → Type 0
AllDone l start so_far r b = GoesOn l start so_far (ServesAll l so_far b.item b.asked b.heard) r

module _ (l : LooperFacts) (start : ℕ) (so_far : List Step) (r : Reach) where
  all_done : (item item' : ItemData) (asked asked' : List Want) (heard heard' : List Answer) → item' ≡ item → asked' ≡ asked → heard' ≡ heard → GoesOn l start so_far (ServesAll l so_far item asked heard) r → GoesOn l start so_far (ServesAll l so_far item' asked' heard') r
  all_done item item' asked asked' heard heard' item_is asked_is heard_is done =
      subst (λ (x : ItemData). GoesOn l start so_far (ServesAll l so_far x asked' heard') r) (sym item_is)
      (subst (λ (x : List Want). GoesOn l start so_far (ServesAll l so_far item x heard') r) (sym asked_is)
      (subst (λ (x : List Answer). GoesOn l start so_far (ServesAll l so_far item asked x) r) (sym heard_is) done))

  module _ (p : BegunData → BegunData → Type 0) (keeps : (b b' : BegunData) → p b b' → SaysSame b b') where
    served_still_by : (o o' : Option BegunData) → OfBegun (λ (b : BegunData). OfBegun (λ (b' : BegunData). p b b') o') o → OfBegun (AllDone l start so_far r) o → OfBegun (AllDone l start so_far r) o'
    served_still_by None o' h done = absurd done
    served_still_by (Some b) None h done = absurd h
    served_still_by (Some b) (Some b') h done = let says = keeps b b' h in all_done b.item b'.item b.asked b'.asked b.heard b'.heard says.same.item_is says.asked_is says.heard_is done

  pub done_served : (d d' : DeskData) → Turns (Wants want.Done) d d' → HasServed l start so_far d r → HasServed l start so_far d' r
  done_served d d' h = served_still_by (λ b b'. Wants want.Done b d.state b' d'.state) (λ b b' goes. asks_nothing b.came b d.state b' d'.state goes) d.begun d'.begun h

  pub fail_served : (d d' : DeskData) → Turns Fails d d' → HasServed l start so_far d r → HasServed l start so_far d' r
  fail_served d d' h = served_still_by (λ b b'. Fails b d.state b' d'.state) (λ b b' fails. fails_so b.came b d.state b' d'.state fails) d.begun d'.begun h

  -- nothing was asked for at its beginning
  pub begun_served : (d d' : DeskData) (taken : Taken) → d' ≡ begun_with d taken → Stands l start so_far r → HasServed l start so_far d' r
  begun_served d d' taken is stands = subst (λ (x : DeskData). HasServed l start so_far x r) (sym is) (stays l start so_far (ServesAll l so_far taken.item [] []) r stands refl)

-- ---- and what it asks for now
module _ (l : LooperFacts) (start : ℕ) (so_far : List Step) (taken : Taken) (w : Want) (a : Answer) (r r' : Reach) where
  -- it is served behind all that was
  served_one : (b b1 b2 : BegunData) → AsksMore w b b1 → HearsMore a b1 b2 → b.item ≡ taken.item → ((now : List Step) → Stands l start now r → GoesOn l start now (Serves l now taken.item w a) r') → AllDone l start so_far r b → AllDone l start so_far r' b2
  served_one b b1 b2 asks hears item_is serves done =
      let now = so_far ++ done.steps in
      let one : GoesOn l start now (Serves l now b.item w a) r' = subst (λ (x : ItemData). GoesOn l start now (Serves l now x w a) r') (sym item_is) (serves now done.stands) in
      let all : GoesOn l start so_far (ServesAll l so_far b.item (b.asked ++ w ∷ []) (b.heard ++ a ∷ [])) r' =
      goes_further l start so_far (Serves l now b.item w a) (ServesAll l so_far b.item (b.asked ++ w ∷ []) (b.heard ++ a ∷ [])) done.steps r'
      (λ more does. serves_more l b.item w a so_far b.asked b.heard done.steps more done.does does) one in
      all_done l start so_far r' b.item b2.item (b.asked ++ w ∷ []) b2.asked (b.heard ++ a ∷ []) b2.heard (hears.same.item_is ∙ asks.same.item_is) (hears.asked_is ∙ asks.asked_is) (hears.heard_is ∙ ap (λ h. h ++ a ∷ []) asks.heard_is) all

  module _ (asking : w ≢ want.Done) (s s1 s2 : DeskState) (serves : (now : List Step) → Stands l start now r → GoesOn l start now (Serves l now taken.item w a) r') where
    served_by : (o o1 o2 : Option BegunData) → OfBegun (λ (b : BegunData). OfBegun (λ (b' : BegunData). Wants w b s b' s1) o1) o → OfBegun (λ (b : BegunData). OfBegun (λ (b' : BegunData). Hears a b s1 b' s2) o2) o1 → OfBegun (IsIts taken) o → OfBegun (AllDone l start so_far r) o → OfBegun (AllDone l start so_far r') o2
    served_by None o1 o2 wants hears is done = absurd done
    served_by (Some b) None o2 wants hears is done = absurd wants
    served_by (Some b) (Some b1) None wants hears is done = absurd hears
    served_by (Some b) (Some b1) (Some b2) wants hears is done = served_one b b1 b2 (asks_more b.came w b s b1 s1 asking wants) (hears_more a b1 s1 b2 s2 hears) is.1 serves done

  pub served_more : (d d1 d2 : DeskData) → w ≢ want.Done → Turns (Wants w) d d1 → Turns (Hears a) d1 d2 → IsOf taken d → ((now : List Step) → Stands l start now r → GoesOn l start now (Serves l now taken.item w a) r') → HasServed l start so_far d r → HasServed l start so_far d2 r'
  served_more d d1 d2 asking wants hears is serves done = served_by asking d.state d1.state d2.state serves d.begun d1.begun d2.begun wants hears is done

-- ---- for the calls
-- what is sent on fits the item
fits_item : (w : Want) (b : BegunData) → Forwards w b → FitsForward b.item w
fits_item (want.Forward looper popped) b h = h
fits_item (want.Find word) b h = tt
fits_item (want.Post to m back) b h = tt
fits_item (want.Ask to m) b h = tt
fits_item want.Done b h = tt

fits_by : (w : Want) (taken : Taken) (o : Option BegunData) → OfBegun (Forwards w) o → OfBegun (IsIts taken) o → FitsForward taken.item w
fits_by w taken None h is = absurd is
fits_by w taken (Some b) h is = subst (λ (x : ItemData). FitsForward x w) is.1 (fits_item w b h)

pub fits_of : (w : Want) (taken : Taken) (d : DeskData) → OfBegun (Forwards w) d.begun → IsOf taken d → FitsForward taken.item w
fits_of w taken d h is = fits_by w taken d.begun h is

pub takes_of : (w : Want) (a : Answer) (d : DeskData) → DeskAwaits w d → AnswersWant w a → DeskTakes d a
takes_of (want.Find word) a d awaits fits = awaits a fits
takes_of (want.Post to m back) a d awaits fits = awaits a fits
takes_of (want.Ask to m) a d awaits fits = awaits a fits
takes_of (want.Forward looper popped) a d awaits fits = awaits a fits
takes_of want.Done a d awaits fits = absurd fits

-- at its beginning it is that message
pub begun_is_of : (d d' : DeskData) (taken : Taken) → d' ≡ begun_with d taken → IsOf taken d'
begun_is_of d d' taken is = subst (IsOf taken) (sym is) (refl, refl)
