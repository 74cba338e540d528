-- What is owed is paid through a door, or there is no memory for it.
use Rattle.std.proofs.Common.{◌≡◌, ℕ, Bool, true, false, List, [], ◌∷◌, ◌++◌, refl, sym, ap, subst, append_assoc, inl, inr}
use Rattle.ak_message.specs.declared.address.Address.{Address}
use Rattle.ak_flatten.specs.Item.{ItemData}
use Rattle.ak_looper.specs.declared.reach.Reach.{Reach}
use Rattle.ak_port.specs.Reply.{none_text}
use Rattle.ak_looper.specs.declared.duty.Debt.{Debt}
use Rattle.ak_looper.specs.declared.duty.Debt.TheVariants as debt
use Rattle.ak_looper.specs.Debts.{PaysBack, PaysDebt}
use Rattle.ak_looper.specs.Heard.{RepliedSo}
use Rattle.ak_looper.specs.Stands.{GoesOn, Stands}
use Rattle.ak_diary.specs.Looper.{LooperFacts}
use Rattle.ak_diary.specs.Step.{Step, lacked}
use Rattle.ak_diary.specs.Turns.{Fills}
use Rattle.ak_diary.specs.Wants.{LacksDoor, Opens}
use Rattle.ak_looper.proofs.Going.{goes_further, stays, tells}
use Rattle.ak_looper.proofs.Lacking.{lacked_stands}

module _ (l : LooperFacts) (start : ℕ) (so_far : List Step) (to : Address) (item : ItemData) where
  -- there is the door, and through it the reply is posted or not
  behind_door : (paid : Bool) (between r : Reach) (on : GoesOn l start so_far (Opens l so_far to.looper) between) → GoesOn l start (so_far ++ on.steps) (RepliedSo to.looper item paid) r → GoesOn l start so_far (PaysBack l so_far to item paid) r
  behind_door true between r on replies =
      goes_further l start so_far (RepliedSo to.looper item true) (PaysBack l so_far to item true) on.steps r
      (λ s posts. record { door = on.steps; opens = on.does; rest = s; then_does = posts; is = refl }) replies
  behind_door false between r on replies =
      goes_further l start so_far (RepliedSo to.looper item false) (PaysBack l so_far to item false) on.steps r
      (λ s lacks. inr (record { door = on.steps; opens = on.does; rest = s; then_does = lacks; is = refl })) replies

  pub pays_through : (paid : Bool) (between r : Reach) → GoesOn l start so_far (Opens l so_far to.looper) between
      → ((start' : ℕ) (from : List Step) → Stands l start' from between → GoesOn l start' from (RepliedSo to.looper item paid) r) → GoesOn l start so_far (PaysBack l so_far to item paid) r
  pays_through paid between r on replies = behind_door paid between r on (replies start (so_far ++ on.steps) on.stands)

  -- there is none
  pub pays_without_door : (r : Reach) → GoesOn l start so_far (LacksDoor l so_far to.looper) r → GoesOn l start so_far (PaysBack l so_far to item false) r
  pays_without_door r on = record {
    steps = on.steps ++ lacked ∷ [];
    does = inl (record { door = record { without = on.does.without; is = refl }; is = ap (λ (s : List Step). s ++ lacked ∷ []) on.does.is });
    stands = subst (λ (s : List Step). Stands l start s r) (append_assoc so_far on.steps (lacked ∷ [])) (lacked_stands l start (so_far ++ on.steps) r on.stands);
  }

-- ---- each debt
module _ (l : LooperFacts) (start : ℕ) (so_far : List Step) (d : Debt) (r : Reach) where
  pays_as : (d' : Debt) (paid : Bool) → d ≡ d' → GoesOn l start so_far (PaysDebt l so_far d' paid) r → GoesOn l start so_far (PaysDebt l so_far d paid) r
  pays_as d' paid is on = subst (λ (x : Debt). GoesOn l start so_far (PaysDebt l so_far x paid) r) (sym is) on

  pub pays_nothing : d ≡ debt.Nothing → Stands l start so_far r → GoesOn l start so_far (PaysDebt l so_far d true) r
  pays_nothing is stands = pays_as debt.Nothing true is (stays l start so_far (PaysDebt l so_far debt.Nothing true) r stands (refl, refl))

  pub pays_text : (n : ℕ) (flat : List ℕ) → d ≡ debt.Text n flat → GoesOn l start so_far (Fills n flat) r → GoesOn l start so_far (PaysDebt l so_far d true) r
  pays_text n flat is on = pays_as (debt.Text n flat) true is (tells l start so_far (Fills n flat) (PaysDebt l so_far (debt.Text n flat) true) r (λ s fills. (refl, fills)) on)

  pub pays_none : (n : ℕ) → d ≡ debt.NoReply n → GoesOn l start so_far (Fills n none_text) r → GoesOn l start so_far (PaysDebt l so_far d true) r
  pays_none n is on = pays_as (debt.NoReply n) true is (tells l start so_far (Fills n none_text) (PaysDebt l so_far (debt.NoReply n) true) r (λ s fills. (refl, fills)) on)

  pub pays_back : (to : Address) (item : ItemData) (paid : Bool) → d ≡ debt.Back to item → GoesOn l start so_far (PaysBack l so_far to item paid) r → GoesOn l start so_far (PaysDebt l so_far d paid) r
  pays_back to item paid is on = pays_as (debt.Back to item) paid is on
