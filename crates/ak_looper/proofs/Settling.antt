-- What follows a dispatch: the text of the reply, the closing where it is due, the payment, and the closing that this alone calls for.
use Rattle.std.proofs.Common.{◌≡◌, ◌≢◌, ℕ, Bool, true, false, not, ◌&&◌, ◌||◌, List, [], ◌∷◌, ◌++◌, refl, sym, ap, ◌∙◌, subst, append_assoc, inl, inr, true≢false}
use Rattle.std.proofs.lemmas.List.Folds.{list_any-append}
use Rattle.ak_flatten.specs.declared.item.Duty.{Duty}
use Rattle.ak_desk.specs.declared.made.Made.{Made}
use Rattle.ak_looper.specs.declared.at_work.After.{After}
use Rattle.ak_looper.specs.declared.at_work.After.TheVariants as after
use Rattle.ak_looper.specs.declared.duty.Debt.{Debt}
use Rattle.ak_looper.specs.declared.reach.Reach.{Reach}
use Rattle.ak_looper.specs.Debts.{IsDebt, PaysDebt}
use Rattle.ak_looper.specs.Living.{HasSettled, after_of}
use Rattle.ak_looper.specs.Stands.{GoesOn, IsStanding, Stands}
use Rattle.ak_diary.specs.Looper.{LooperFacts, calls_for_closing, closed_by, is_closing, is_own}
use Rattle.ak_diary.specs.Step.{Step, at_roster, at_port, saw_roster, saw_port, ran_short}
use Rattle.ak_diary.specs.Turns.{ClosesIf, LeavesRoster, Shuts, ShutsAll, lacked_if}
use Rattle.ak_looper.proofs.Debts.{CallsFor, calls_append, calls_as, calls_if, calls_none, pays_calls, pays_of, told_of, writes_of}
use Rattle.ak_looper.proofs.Lacking.{stands_if}
use Rattle.ak_looper.proofs.Shutting.{IsShut, closed_stays_shut}

-- ---- no step of a closing calls for a closing
shuts_calls : (looper : ℕ) (steps : List Step) → Shuts looper steps → CallsFor false steps
shuts_calls looper steps (inl enters) = calls_as false steps (at_port looper enters.noted ∷ []) enters.is (record { closing = refl; short = refl })
shuts_calls looper steps (inr finds) = calls_as false steps (saw_port looper finds.seen ∷ []) finds.is (record { closing = refl; short = refl })

shuts_all_calls : (loopers : List ℕ) (steps : List Step) → ShutsAll loopers steps → CallsFor false steps
shuts_all_calls [] steps is = calls_as false steps [] is calls_none
shuts_all_calls (looper ∷ loopers) steps all =
    calls_as false steps (all.0 ++ all.1) all.4
    (calls_append false false all.0 all.1 (shuts_calls looper all.0 all.2) (shuts_all_calls loopers all.1 all.3))

leaves_calls : (l : LooperFacts) (own : Bool) (steps : List Step) → LeavesRoster l own steps → CallsFor false steps
leaves_calls l true steps (inl enters) = calls_as false steps (at_roster enters.noted ∷ []) enters.is (record { closing = refl; short = refl })
leaves_calls l true steps (inr finds) = calls_as false steps (saw_roster finds.seen ∷ []) finds.is (record { closing = refl; short = refl })
leaves_calls l false steps is = calls_as false steps [] is calls_none

closes_calls : (l : LooperFacts) (due : Bool) (steps : List Step) → ClosesIf l due steps → CallsFor false steps
closes_calls l true steps closes =
    calls_as false steps (closes.gone ++ closes.shut) closes.is
    (calls_append false false closes.gone closes.shut (leaves_calls l (is_own l) closes.gone closes.leaves) (shuts_all_calls (closed_by l) closes.shut closes.shuts))
closes_calls l false steps is = calls_as false steps [] is calls_none

-- ---- tests
or_false : (a : Bool) → (a || false) ≡ a
or_false true = refl
or_false false = refl

or_assoc : (a b c : Bool) → ((a || b) || c) ≡ (a || (b || c))
or_assoc true b c = refl
or_assoc false b c = refl

-- the steps that follow call for a closing where memory was wanting for the text, or for the payment
turn_calls : (short paid : Bool) (text closing paying late : List Step) → CallsFor short text → CallsFor false closing → CallsFor (not paid) paying → CallsFor false late → CallsFor (short || not paid) (text ++ closing ++ paying ++ late)
turn_calls short paid text closing paying late first second third fourth =
    let two = subst (λ (b : Bool). CallsFor b (text ++ closing)) (or_false short) (calls_append short false text closing first second) in
    let three = calls_append short (not paid) (text ++ closing) paying two third in
    subst (λ (b : Bool). CallsFor b (text ++ closing ++ paying ++ late)) (or_false (short || not paid)) (calls_append (short || not paid) false (text ++ closing ++ paying) late three fourth)

is_closing-append : (xs ys : List Step) → is_closing (xs ++ ys) ≡ (is_closing xs || is_closing ys)
is_closing-append xs ys = list_any-append calls_for_closing xs ys

-- ---- all of it
module _ (l : LooperFacts) (start : ℕ) (so_far : List Step) (owed : Duty) (made : Made) (short paid : Bool) (d : Debt) where
  -- the closing is due
  abbrev due : Bool
  due = made.quit || made.no_memory || short

  abbrev text : List Step
  text = lacked_if short

  is_due : is_closing so_far ≡ (made.quit || made.no_memory) → is_closing (so_far ++ text) ≡ due
  is_due was = is_closing-append so_far text ∙ ap (λ (b : Bool). b || is_closing text) was ∙ ap (λ (b : Bool). made.quit || made.no_memory || b) (calls_if short).closing

  settled_by : (a : After) (closing paying late : List Step) → is_closing so_far ≡ (made.quit || made.no_memory) → IsDebt l.team owed made.reply short d
      → ClosesIf l due closing → PaysDebt l (so_far ++ text ++ closing) d paid paying → ClosesIf l (not paid && not due) late → a ≡ after_of (made.no_memory || short || not paid) (due || not paid)
      → HasSettled l so_far owed made a (text ++ closing ++ paying ++ late)
  settled_by a closing paying late was is closes pays closes_late then_is =
      let steps = text ++ closing ++ paying ++ late in
      let calls = turn_calls short paid text closing paying late (calls_if short) (closes_calls l due closing closes) (pays_calls l (so_far ++ text ++ closing) d paid paying pays) (closes_calls l (not paid && not due) late closes_late) in
      let paying_calls = pays_calls l (so_far ++ text ++ closing) d paid paying pays in
      let late_due : (not paid && not due) ≡ (not (is_closing (so_far ++ text)) && is_closing paying) = and_both (not paid) (not due) ∙ ap (λ (b : Bool). not b && not paid) (sym (is_due was)) ∙ ap (λ (b : Bool). not (is_closing (so_far ++ text)) && b) (sym paying_calls.closing) in
      let closing_is : is_closing (so_far ++ steps) ≡ (due || not paid) = is_closing-append so_far steps ∙ ap (λ (b : Bool). b || is_closing steps) was ∙ ap (λ (b : Bool). made.quit || made.no_memory || b) calls.closing ∙ sym (or_assoc (made.quit || made.no_memory) short (not paid)) in
      let short_is : (made.no_memory || ran_short steps) ≡ (made.no_memory || short || not paid) = ap (λ (b : Bool). made.no_memory || b) calls.short ∙ sym (or_assoc made.no_memory short (not paid)) in
      record {
        settles = record {
          told = told_of short made.reply;
          text = text;
          writes = writes_of l.team owed made.reply short d is;
          closing = closing;
          closes = subst (λ (b : Bool). ClosesIf l b closing) (sym (is_due was)) closes;
          paying = paying;
          pays = pays_of l (so_far ++ text ++ closing) owed made.reply short d paid paying is pays;
          late = late;
          closes_late = subst (λ (b : Bool). ClosesIf l b late) late_due closes_late;
          is = refl;
        };
        after_is = then_is ∙ ap (λ (b : Bool). after_of b (due || not paid)) (sym short_is) ∙ ap (λ (b : Bool). after_of (made.no_memory || ran_short steps) b) (sym closing_is);
      }
    where
      and_both : (a b : Bool) → (a && b) ≡ (b && a)
      and_both true true = refl
      and_both true false = refl
      and_both false true = refl
      and_both false false = refl

-- ---- by the calls, one after another
abbrev pub GoesClosing : Bool → Reach → Reach → Type 0
GoesClosing due r r' = (l : LooperFacts) (start : ℕ) (so_far : List Step) → Stands l start so_far r → GoesOn l start so_far (ClosesIf l due) r'

abbrev pub GoesPaying : Debt → Bool → Reach → Reach → Type 0
GoesPaying d paid r r' = (l : LooperFacts) (start : ℕ) (so_far : List Step) → Stands l start so_far r → GoesOn l start so_far (PaysDebt l so_far d paid) r'

module _ (owed : Duty) (made : Made) (short paid : Bool) (d : Debt) (r closed settling ended : Reach) where
  settles_by : (a : After) → IsDebt r.team owed made.reply short d → GoesClosing (made.quit || made.no_memory || short) r closed → GoesPaying d paid closed settling
      → GoesClosing (not paid && not (made.quit || made.no_memory || short)) settling ended → a ≡ after_of (made.no_memory || short || not paid) (made.quit || made.no_memory || short || not paid)
      → (l : LooperFacts) (start : ℕ) (so_far : List Step) → Stands l start so_far r → is_closing so_far ≡ (made.quit || made.no_memory) → GoesOn l start so_far (HasSettled l so_far owed made a) ended
  settles_by a is closes pays closes_late then_is l start so_far stands was =
      let text = lacked_if short in
      let first = closes l start (so_far ++ text) (stands_if short l start so_far r stands) in
      let second = pays l start (so_far ++ text ++ first.steps) first.stands in
      let third = closes_late l start (so_far ++ text ++ first.steps ++ second.steps) second.stands in
      record {
        steps = text ++ first.steps ++ second.steps ++ third.steps;
        does = settled_by l start so_far owed made short paid d a first.steps second.steps third.steps was (subst (λ (team : ℕ). IsDebt team owed made.reply short d) stands.team is) first.does second.does third.does then_is;
        stands = subst (λ (s : List Step). Stands l start s ended) (regroup so_far text first.steps second.steps third.steps) third.stands;
      }
    where
      regroup : (a b c e f : List Step) → a ++ b ++ c ++ e ++ f ≡ a ++ (b ++ c ++ e ++ f)
      regroup a b c e f = simp append_assoc

  pub settles : (soon late : Bool) (a : After) → soon ≡ (made.quit || made.no_memory || short) → late ≡ (not paid && not soon) → IsDebt r.team owed made.reply short d
      → GoesClosing soon r closed → GoesPaying d paid closed settling → GoesClosing late settling ended → a ≡ after_of (made.no_memory || short || not paid) (soon || not paid)
      → (l : LooperFacts) (start : ℕ) (so_far : List Step) → Stands l start so_far r → is_closing so_far ≡ (made.quit || made.no_memory) → GoesOn l start so_far (HasSettled l so_far owed made a) ended
  settles soon late a soon_is late_is is closes pays closes_late then_is =
      settles_by a is (subst (λ (b : Bool). GoesClosing b r closed) soon_is closes) pays
      (subst (λ (b : Bool). GoesClosing b settling ended) (late_is ∙ ap (λ (b : Bool). not paid && not b) soon_is) closes_late)
      (then_is ∙ ap (λ (b : Bool). after_of (made.no_memory || short || not paid) (b || not paid)) soon_is)

-- ---- where it does not go on, its port is shut
-- where no closing was due, and it was paid, it goes on
goes_on_then : (quit no_memory short : Bool) → false ≡ (quit || no_memory || short) → after_of (no_memory || short || false) false ≡ after.GoesOn
goes_on_then true no_memory short e = absurd (true≢false (sym e))
goes_on_then false true short e = absurd (true≢false (sym e))
goes_on_then false false true e = absurd (true≢false (sym e))
goes_on_then false false false e = refl

module _ (made : Made) (short : Bool) (d : Debt) (r closed settling ended : Reach) where
  shut_since : (paid late : Bool) → IsStanding r → GoesClosing true r closed → GoesPaying d paid closed settling → GoesClosing late settling ended → IsShut ended
  shut_since paid late is closes pays closes_late =
      let l = is.facts in
      let first = closes l is.start is.steps is.stands in
      let second = pays l is.start (is.steps ++ first.steps) first.stands in
      let third = closes_late l is.start (is.steps ++ first.steps ++ second.steps) second.stands in
      closed_stays_shut l is.start is.steps first.steps (second.steps ++ third.steps) ended
      (subst (λ (s : List Step). Stands l is.start s ended) (append_assoc (is.steps ++ first.steps) second.steps third.steps) third.stands) first.does

  pub ended_shut : (due paid late : Bool) (a : After) → due ≡ (made.quit || made.no_memory || short) → late ≡ (not paid && not due) → IsStanding r
      → GoesClosing due r closed → GoesPaying d paid closed settling → GoesClosing late settling ended → (late ≡ true → IsShut ended)
      → a ≡ after_of (made.no_memory || short || not paid) (due || not paid) → a ≢ after.GoesOn → IsShut ended
  ended_shut true paid late a due_is late_is is closes pays closes_late shut then_is ends = shut_since paid late is closes pays closes_late
  ended_shut false false late a due_is late_is is closes pays closes_late shut then_is ends = shut late_is
  ended_shut false true late a due_is late_is is closes pays closes_late shut then_is ends = absurd (ends (then_is ∙ goes_on_then made.quit made.no_memory short due_is))
