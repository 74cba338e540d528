-- What a session does for its lines is plain, where the lines say words that are looked up and edits that may be asked for.
use Rattle.std.proofs.Common.{◌≡◌, ℕ, ◌+◌, zero, suc, Bool, true, false, List, [], ◌∷◌, ◌++◌, Option, None, Some, length, slice_get, refl, sym, subst, inl, inr}
use Rattle.std.specs.Prelude.{◌⊎◌, IfSome, IsTrue}
use Rattle.std.specs.List.{AllByRecursion}
use Rattle.ak_base.specs.declared.app_word.AppWord.{AppWord}
use Rattle.ak_base.specs.declared.error.KitError.{KitError}
use Rattle.ak_message.specs.Message.{MessageData}
use Rattle.ak_flatten.specs.Item.{ItemData}
use Rattle.ak_roster.specs.declared.head.AppHead.{AppHead}
use Rattle.ak_roster.specs.declared.team.Running.{Running}
use Rattle.ak_desk.specs.declared.entry.EditAnswer.{EditAnswer}
use Rattle.ak_diary.specs.Step.{Step, at_desk, at_roster}
use Rattle.ak_diary.specs.Wants.{AsksInVain}
use Rattle.ak_script.specs.declared.statement.Hey.{Hey}
use Rattle.ak_script.specs.declared.statement.Lock.{Lock}
use Rattle.ak_script.specs.declared.statement.Post.{Post}
use Rattle.ak_script.specs.declared.statement.SessionLine.{SessionLine}
use Rattle.ak_script.specs.declared.statement.SessionLine.TheVariants as line
use Rattle.ak_script.specs.declared.statement.SessionLines.{SessionLines}
use Rattle.ak_print.specs.declared.told.Told.{Told}
use Rattle.ak_print.specs.declared.told.Told.TheVariants as told
use Rattle.ak_session.specs.Doing.{FindsAt, LacksDoor, OpensFor, Through, address_of, has_door}
use Rattle.ak_lines.specs.declared.outcome.Outcome.{Outcome}
use Rattle.ak_lines.specs.declared.outcome.Outcome.TheVariants as came
use Rattle.ak_lines.specs.Blocks.{AreLines, Cuts, FindingLooper, FindingNone, FindingThrough, IsAnswered, IsCutLine, IsEdited, IsHeyLine, IsLine, IsLockLine, IsNothing, IsPostLine, IsPostRefused, IsPosted, IsRefused, hey_item, post_item}
use Rattle.ak_lines.specs.Carried.{IsCutAt, all_steps}
use Rattle.ak_block.specs.Carried.{DidLines, SessionPart}
use Rattle.ak_desk.specs.Plain.{is_plain_edit}
use Rattle.ak_journal.specs.Plain.{IsPlainRoster}
use Rattle.ak_plain.proofs.Said.{IsSaidLine}
use Rattle.ak_plain.proofs.Steps.{IsAsked}
use Rattle.ak_input.specs.Written.{is_looked_up}
use Rattle.ak_plain.proofs.Sides.{ArePlain, both, converses_plain, door_plain, none, one, port_plain, vain_plain, withdraws_plain}

-- ---- a team is looked for
module _ (heads : List AppHead) (w : AppWord) (said : IsTrue (is_looked_up w)) where
  pub finds_at_plain : (o : Option Running) (place : ℕ) (steps : List Step) → FindsAt heads w o place steps → ArePlain steps
  finds_at_plain o place steps f = one (at_roster f.noted) steps (subst IsPlainRoster (sym f.event_is) said) f.is

  pub finding_plain : (place : ℕ) (P : ℕ → List Step → Type 0) (steps : List Step) → ((looper : ℕ) (rest : List Step) → P looper rest → ArePlain rest) → FindingLooper heads w place P steps → ArePlain steps
  finding_plain place P steps each f = both f.found f.rest steps (finds_at_plain (Some f.running) f.place f.found f.finds) (each (f.running.first + place) f.rest f.then_does.1) f.is

  pub finding_none_plain : (looper place : ℕ) (steps : List Step) → FindingNone heads w looper place steps → ArePlain steps
  finding_none_plain looper place steps f = finds_at_plain (Some f.0) place steps f.2

-- ---- and then
pub answered_plain : (item : ItemData) (slot : ℕ) (message : MessageData) (looper : ℕ) (steps : List Step) → IsAnswered item slot message looper steps → ArePlain steps
answered_plain item slot message looper steps a = converses_plain (address_of looper item) item a.reply.flat steps a.answered.converses

pub refused_plain : (item : ItemData) (at place : ℕ) (why : KitError) (looper : ℕ) (steps : List Step) → IsRefused item at place why looper steps → ArePlain steps
refused_plain item at place why looper steps r = withdraws_plain (address_of looper item) (Some r.e) steps r.withdraws

pub posted_plain : (item : ItemData) (at position : ℕ) (looper : ℕ) (steps : List Step) → IsPosted item at position looper steps → ArePlain steps
posted_plain item at position looper steps p = port_plain looper _ steps p.enters

pub post_refused_plain : (waits : Bool) (at place : ℕ) (why : KitError) (looper : ℕ) (steps : List Step) → IsPostRefused waits at place why looper steps → ArePlain steps
post_refused_plain waits at place why looper steps r = port_plain looper r.e steps r.enters

pub edited_plain : (l : Lock) → IsTrue (is_plain_edit l.edit) → (at place : ℕ) (answer : EditAnswer) (looper : ℕ) (steps : List Step) → IsEdited l at place answer looper steps → ArePlain steps
edited_plain l said at place answer looper steps e = one (at_desk looper e.edits.noted) steps (subst IsAsked (sym e.edits.event_is) said) e.edits.is

pub nothing_plain : (looper : ℕ) (steps : List Step) → IsNothing steps → ArePlain steps
nothing_plain looper steps is = none steps is

-- ---- through a door
module _ (so_far : List Step) where
  opens_plain : (b : Bool) (looper : ℕ) (steps : List Step) → OpensFor so_far b looper steps → ArePlain steps
  opens_plain true looper steps o = none steps o
  opens_plain false looper steps o = door_plain looper steps o

  through_plain : (looper : ℕ) (P : List Step → Type 0) (steps : List Step) → ((rest : List Step) → P rest → ArePlain rest) → Through so_far looper P steps → ArePlain steps
  through_plain looper P steps each t = both t.door t.rest steps (opens_plain (has_door so_far looper) looper t.door t.opens) (each t.rest t.then_does) t.is

  lacks_or_through_plain : (P : ℕ → List Step → Type 0) → ((looper : ℕ) (rest : List Step) → P looper rest → ArePlain rest) → (looper : ℕ) (steps : List Step) → LacksDoor so_far looper steps ⊎ Through so_far looper (P looper) steps → ArePlain steps
  lacks_or_through_plain P each looper steps (inl lacks) = none steps lacks.is
  lacks_or_through_plain P each looper steps (inr through) = through_plain looper (P looper) steps (each looper) through

module _ (heads : List AppHead) (so_far : List Step) where
  finding_through_plain : (w : AppWord) → IsTrue (is_looked_up w) → (place : ℕ) (P : ℕ → List Step → Type 0) (steps : List Step) → ((looper : ℕ) (rest : List Step) → P looper rest → ArePlain rest) → FindingThrough so_far heads w place P steps → ArePlain steps
  finding_through_plain w said place P steps each f =
      finding_plain heads w said place (λ (looper : ℕ) (rest : List Step). Through so_far looper (P looper) rest) steps (λ looper rest t. through_plain so_far looper (P looper) rest (each looper) t) f

  cuts_plain : (w : AppWord) → IsTrue (is_looked_up w) → (place : ℕ) (P : ℕ → List Step → Type 0) (steps : List Step) → ((looper : ℕ) (rest : List Step) → P looper rest → ArePlain rest) → Cuts so_far heads w place P steps → ArePlain steps
  cuts_plain w said place P steps each (inl is) = none steps is
  cuts_plain w said place P steps each (inr f) =
      finding_plain heads w said place (λ (looper : ℕ) (rest : List Step). LacksDoor so_far looper rest ⊎ Through so_far looper (P looper) rest) steps (lacks_or_through_plain so_far P each) f

  -- ---- each line
  hey_plain : (h : Hey) (o : Outcome) (t : Told) (steps : List Step) → IsTrue (is_looked_up h.app) → IsHeyLine heads so_far h o t steps → ArePlain steps
  hey_plain h (came.Replied slot) (told.Reply message) steps said is = finding_through_plain h.app said 0 (IsAnswered (hey_item h) slot message) steps (answered_plain (hey_item h) slot message) is
  hey_plain h (came.SendRefused looper place why) (told.Refused e) steps said is = finding_through_plain h.app said 0 (IsRefused (hey_item h) looper place why) steps (refused_plain (hey_item h) looper place why) is.1
  hey_plain h (came.NoTeam place) told.NoTeam steps said is = finds_at_plain heads h.app said None place steps is
  hey_plain h _ _ steps said is = absurd is

  post_plain : (p : Post) (o : Outcome) (t : Told) (steps : List Step) → IsTrue (is_looked_up p.app) → IsPostLine heads so_far p o t steps → ArePlain steps
  post_plain p (came.Posted looper position) told.Posted steps said is = finding_through_plain p.app said p.looper (IsPosted (post_item p) looper position) steps (posted_plain (post_item p) looper position) is
  post_plain p (came.SendRefused looper place why) (told.Refused e) steps said is = finding_through_plain p.app said p.looper (IsPostRefused p.waits looper place why) steps (post_refused_plain p.waits looper place why) is.1
  post_plain p (came.NoTeam place) told.NoTeam steps said is = finds_at_plain heads p.app said None place steps is
  post_plain p (came.NoLooper place) told.NoLooper steps said is = finding_none_plain heads p.app said p.looper place steps is
  post_plain p _ _ steps said is = absurd is

  lock_plain : (l : Lock) (o : Outcome) (t : Told) (steps : List Step) → IsTrue (is_looked_up l.app) → IsTrue (is_plain_edit l.edit) → IsLockLine heads so_far l o t steps → ArePlain steps
  lock_plain l (came.Edited looper place) (told.Edit answer) steps said edits is = finding_through_plain l.app said l.looper (IsEdited l looper place answer) steps (edited_plain l edits looper place answer) is
  lock_plain l (came.NoTeam place) told.NoTeam steps said edits is = finds_at_plain heads l.app said None place steps is
  lock_plain l (came.NoLooper place) told.NoLooper steps said edits is = finding_none_plain heads l.app said l.looper place steps is
  lock_plain l _ _ steps said edits is = absurd is

  line_plain : (l : SessionLine) (o : Outcome) (t : Told) (steps : List Step) → IsSaidLine l → IsLine heads so_far l o t steps → ArePlain steps
  line_plain (line.Hey h) o t steps said is = hey_plain h o t steps said is
  line_plain (line.Post p) o t steps said is = post_plain p o t steps said is
  line_plain (line.Lock l) o t steps said is = lock_plain l o t steps said.0 said.1 is

  cut_line_plain : (l : SessionLine) (steps : List Step) → IsSaidLine l → IsCutLine heads so_far l steps → ArePlain steps
  cut_line_plain (line.Hey h) steps said is =
      cuts_plain h.app said 0 (λ (looper : ℕ). AsksInVain (address_of looper (hey_item h)) (hey_item h)) steps (λ looper rest v. vain_plain (address_of looper (hey_item h)) (hey_item h) rest v) is
  cut_line_plain (line.Post p) steps said is = cuts_plain p.app said p.looper (λ (looper : ℕ). IsNothing) steps nothing_plain is
  cut_line_plain (line.Lock l) steps said is = cuts_plain l.app said.0 l.looper (λ (looper : ℕ). IsNothing) steps nothing_plain is

-- ---- all lines
lines_plain : (heads : List AppHead) (so_far : List Step) (lines : List SessionLine) (os : List Outcome) (ts : List Told) (blocks : List (List Step)) → AllByRecursion IsSaidLine lines → AreLines heads so_far lines os ts blocks → ArePlain (all_steps blocks)
lines_plain heads so_far lines [] [] [] said are = none [] refl
lines_plain heads so_far (l ∷ lines) (o ∷ os) (t ∷ ts) (block ∷ blocks) said are =
    both block (all_steps blocks) (block ++ all_steps blocks) (line_plain heads so_far l o t block said.0 are.0) (lines_plain heads (so_far ++ block) lines os ts blocks said.1 are.1) refl
lines_plain heads so_far _ _ _ _ said are = absurd are

pub got_there : {X : Type 0} (P : X → Type 0) (xs : List X) (place : ℕ) → AllByRecursion P xs → IfSome (slice_get xs place) P
got_there P [] place all = tt
got_there P (x ∷ xs) zero all = all.0
got_there P (x ∷ xs) (suc place) all = got_there P xs place all.1

pub got : {X : Type 0} (P : X → Type 0) (xs : List X) (place : ℕ) (x : X) → AllByRecursion P xs → slice_get xs place ≡ Some x → P x
got P xs place x all at = subst (λ o. IfSome o P) at (got_there P xs place all)

stopped_plain : (heads : List AppHead) (lines : List SessionLine) (carried : ℕ) (so_far stopped : List Step) (short : Bool) → AllByRecursion IsSaidLine lines → (short ≡ false → stopped ≡ []) → (short ≡ true → IsCutAt heads lines carried so_far stopped) → ArePlain stopped
stopped_plain heads lines carried so_far stopped false said whole cut = none stopped (whole refl)
stopped_plain heads lines carried so_far stopped true said whole cut =
    let c = cut refl in
    cut_line_plain heads so_far c.line stopped (got IsSaidLine lines carried c.line said c.at) c.cut

pub did_plain : (heads : List AppHead) (lines : SessionLines) (part : SessionPart) → AllByRecursion IsSaidLine lines.lines.items → (d : DidLines heads lines part) → ArePlain (all_steps d.blocks ++ d.stopped)
did_plain heads lines part said d =
    both (all_steps d.blocks) d.stopped (all_steps d.blocks ++ d.stopped) (lines_plain heads [] lines.lines.items part.outcomes part.tolds d.blocks said d.are)
    (stopped_plain heads lines.lines.items (length part.outcomes) (all_steps d.blocks) d.stopped part.short said (λ e. (d.whole e).1) d.cut) refl
