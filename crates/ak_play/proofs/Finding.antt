-- A running team is looked for, and then the looper is asked, posted to or edited.
use Rattle.std.proofs.Common.{◌≡◌, ◌⊎◌, inl, inr, ℕ, ◌+◌, ◌<◌, ◌≤◌, List, [], ◌++◌, Ok, Err, refl, sym, subst, arith}
use Rattle.ak_base.specs.declared.app_word.AppWord.{AppWord}
use Rattle.ak_base.specs.declared.no_memory.NoMemory.{NoMemory}
use Rattle.std.specs.Prelude.{Result}
use Rattle.ak_roster.specs.declared.head.AppHead.{AppHead}
use Rattle.ak_diary.specs.Step.{Step}
use Rattle.ak_diary.specs.Wants.{AsksInVain}
use Rattle.ak_script.specs.declared.statement.Hey.{Hey}
use Rattle.ak_script.specs.declared.statement.Lock.{Lock}
use Rattle.ak_script.specs.declared.statement.Post.{Post}
use Rattle.ak_print.specs.declared.told.Told.{Told}
use Rattle.ak_print.specs.declared.told.Told.TheVariants as told
use Rattle.ak_run.specs.declared.run.Run.{Run}
use Rattle.ak_session.specs.declared.answers.Found.TheVariants as found
use Rattle.ak_run.specs.Doing.{DoesSo}
use Rattle.ak_session.specs.Doing.{FoundSo, address_of}
use Rattle.ak_lines.specs.declared.came.Came.{Came}
use Rattle.ak_lines.specs.declared.outcome.Outcome.{Outcome}
use Rattle.ak_lines.specs.declared.outcome.Outcome.TheVariants as came
use Rattle.ak_play.specs.Blocks.{CutsHey, CutsLock, CutsPost, IsHeyBlock, IsLockBlock, IsPostBlock}
use Rattle.ak_lines.specs.Blocks.{FindingLooper, FindingNone, IsAnswered, IsEdited, IsNothing, IsPostRefused, IsPosted, IsRefused, hey_item, post_item}
use Rattle.ak_play.specs.Came.{IsAsked, IsAskedInVain, IsLocked, IsSent, MayCome}
use Rattle.ak_run.proofs.Surface.{does_so_then}
use Rattle.ak_play.proofs.Doing.{does_as}

module _ (heads : List AppHead) (word : AppWord) (team first loopers place n : ℕ) (xs : List Step) (finds : FoundSo heads word (found.Team team first loopers place) xs) where
  -- it has a looper of that place, at which that is done
  finding : (looper : ℕ) (P : ℕ → List Step → Type 0) (ys : List Step) → n < loopers → looper ≡ first + n → P looper ys → FindingLooper heads word n P (xs ++ ys)
  finding looper P ys within is does = record {
    running = record { team = team; description = finds.0; first = first; loopers = loopers };
    place = place;
    found = xs;
    finds = finds.1;
    rest = ys;
    then_does = (within, subst (λ (k : ℕ). P k ys) is does);
    is = refl;
  }

  -- it has none
  finding_none : loopers ≤ n → FindingNone heads word n place xs
  finding_none past = (record { team = team; description = finds.0; first = first; loopers = loopers }, past, finds.1)

-- ---- hey lines
module _ (heads : List AppHead) (h : Hey) (team first loopers place : ℕ) (some : 1 ≤ loopers) where
  hey_block : (xs ys : List Step) → FoundSo heads h.app (found.Team team first loopers place) xs → (o : Outcome) (t : Told) → IsAsked h first o t ys → IsHeyBlock heads h o t (xs ++ ys)
  hey_block xs ys finds (came.Replied slot) (told.Reply message) asked = finding heads h.app team first loopers place 0 xs finds first (IsAnswered (hey_item h) slot message) ys (omega (arith, some)) (omega arith) asked
  hey_block xs ys finds (came.SendRefused at where_at why) (told.Refused e) asked = (asked.0, finding heads h.app team first loopers place 0 xs finds first (IsRefused (hey_item h) at where_at why) ys (omega (arith, some)) (omega arith) asked.1)
  hey_block xs ys finds _ _ asked = absurd asked

  hey_so : (result : Result Came NoMemory) (xs ys : List Step) → FoundSo heads h.app (found.Team team first loopers place) xs → MayCome (IsAsked h first) (IsAskedInVain h first) result ys → MayCome (IsHeyBlock heads h) (CutsHey heads h) result (xs ++ ys)
  hey_so (Ok c) xs ys finds asked = hey_block xs ys finds c.outcome c.told asked
  hey_so (Err e) xs ys finds asked = inr (finding heads h.app team first loopers place 0 xs finds first (λ looper. AsksInVain (address_of looper (hey_item h)) (hey_item h)) ys (omega (arith, some)) (omega arith) asked)

  pub hey_came : (result : Result Came NoMemory) (a b c : Run) → DoesSo (FoundSo heads h.app (found.Team team first loopers place)) a b → DoesSo (MayCome (IsAsked h first) (IsAskedInVain h first) result) b c → DoesSo (MayCome (IsHeyBlock heads h) (CutsHey heads h) result) a c
  hey_came result a b c = does_so_then (FoundSo heads h.app (found.Team team first loopers place)) (MayCome (IsAsked h first) (IsAskedInVain h first) result) (MayCome (IsHeyBlock heads h) (CutsHey heads h) result) a b c (hey_so result)

-- ---- posts
module _ (heads : List AppHead) (p : Post) (team first loopers place : ℕ) where
  module _ (within : p.looper < loopers) (looper : ℕ) (looper_is : looper ≡ first + p.looper) where
    post_block : (xs ys : List Step) → FoundSo heads p.app (found.Team team first loopers place) xs → (o : Outcome) (t : Told) → IsSent p looper o t ys → IsPostBlock heads p o t (xs ++ ys)
    post_block xs ys finds (came.Posted at position) told.Posted sent = finding heads p.app team first loopers place p.looper xs finds looper (IsPosted (post_item p) at position) ys within looper_is sent
    post_block xs ys finds (came.SendRefused at where_at why) (told.Refused e) sent = (sent.0, finding heads p.app team first loopers place p.looper xs finds looper (IsPostRefused p.waits at where_at why) ys within looper_is sent.1)
    post_block xs ys finds _ _ sent = absurd sent

    post_so : (result : Result Came NoMemory) (xs ys : List Step) → FoundSo heads p.app (found.Team team first loopers place) xs → MayCome (IsSent p looper) IsNothing result ys → MayCome (IsPostBlock heads p) (CutsPost heads p) result (xs ++ ys)
    post_so (Ok c) xs ys finds sent = post_block xs ys finds c.outcome c.told sent
    post_so (Err e) xs ys finds sent = inr (finding heads p.app team first loopers place p.looper xs finds looper (λ k. IsNothing) ys within looper_is sent)

    pub post_came : (result : Result Came NoMemory) (a b c : Run) → DoesSo (FoundSo heads p.app (found.Team team first loopers place)) a b → DoesSo (MayCome (IsSent p looper) IsNothing result) b c → DoesSo (MayCome (IsPostBlock heads p) (CutsPost heads p) result) a c
    post_came result a b c = does_so_then (FoundSo heads p.app (found.Team team first loopers place)) (MayCome (IsSent p looper) IsNothing result) (MayCome (IsPostBlock heads p) (CutsPost heads p) result) a b c (post_so result)

  pub post_none : (c : Came) (a b : Run) → loopers ≤ p.looper → c.outcome ≡ came.NoLooper place → c.told ≡ told.NoLooper → DoesSo (FoundSo heads p.app (found.Team team first loopers place)) a b → DoesSo (MayCome {E = NoMemory} (IsPostBlock heads p) (CutsPost heads p) (Ok c)) a b
  post_none c a b past outcome_is told_is =
      does_as (FoundSo heads p.app (found.Team team first loopers place)) (MayCome {E = NoMemory} (IsPostBlock heads p) (CutsPost heads p) (Ok c)) a b
      (λ xs finds. subst (λ (o : Outcome). IsPostBlock heads p o c.told xs) (sym outcome_is) (subst (λ (t : Told). IsPostBlock heads p (came.NoLooper place) t xs) (sym told_is) (finding_none heads p.app team first loopers place p.looper xs finds past)))

-- ---- edits
module _ (heads : List AppHead) (l : Lock) (team first loopers place : ℕ) where
  module _ (within : l.looper < loopers) (looper : ℕ) (looper_is : looper ≡ first + l.looper) where
    lock_block : (xs ys : List Step) → FoundSo heads l.app (found.Team team first loopers place) xs → (o : Outcome) (t : Told) → IsLocked l looper o t ys → IsLockBlock heads l o t (xs ++ ys)
    lock_block xs ys finds (came.Edited at where_at) (told.Edit answer) locked = finding heads l.app team first loopers place l.looper xs finds looper (IsEdited l at where_at answer) ys within looper_is locked
    lock_block xs ys finds _ _ locked = absurd locked

    lock_so : (result : Result Came NoMemory) (xs ys : List Step) → FoundSo heads l.app (found.Team team first loopers place) xs → MayCome (IsLocked l looper) IsNothing result ys → MayCome (IsLockBlock heads l) (CutsLock heads l) result (xs ++ ys)
    lock_so (Ok c) xs ys finds locked = lock_block xs ys finds c.outcome c.told locked
    lock_so (Err e) xs ys finds locked = inr (finding heads l.app team first loopers place l.looper xs finds looper (λ k. IsNothing) ys within looper_is locked)

    pub lock_came : (result : Result Came NoMemory) (a b c : Run) → DoesSo (FoundSo heads l.app (found.Team team first loopers place)) a b → DoesSo (MayCome (IsLocked l looper) IsNothing result) b c → DoesSo (MayCome (IsLockBlock heads l) (CutsLock heads l) result) a c
    lock_came result a b c = does_so_then (FoundSo heads l.app (found.Team team first loopers place)) (MayCome (IsLocked l looper) IsNothing result) (MayCome (IsLockBlock heads l) (CutsLock heads l) result) a b c (lock_so result)

  pub lock_none : (c : Came) (a b : Run) → loopers ≤ l.looper → c.outcome ≡ came.NoLooper place → c.told ≡ told.NoLooper → DoesSo (FoundSo heads l.app (found.Team team first loopers place)) a b → DoesSo (MayCome {E = NoMemory} (IsLockBlock heads l) (CutsLock heads l) (Ok c)) a b
  lock_none c a b past outcome_is told_is =
      does_as (FoundSo heads l.app (found.Team team first loopers place)) (MayCome {E = NoMemory} (IsLockBlock heads l) (CutsLock heads l) (Ok c)) a b
      (λ xs finds. subst (λ (o : Outcome). IsLockBlock heads l o c.told xs) (sym outcome_is) (subst (λ (t : Told). IsLockBlock heads l (came.NoLooper place) t xs) (sym told_is) (finding_none heads l.app team first loopers place l.looper xs finds past)))

-- ---- no team fits
pub no_team_came : (heads : List AppHead) (word : AppWord) (P : Outcome → Told → List Step → Type 0) (Cut : List Step → Type 0) (place : ℕ) (c : Came) (a b : Run) → ((xs : List Step) → FoundSo heads word (found.NoTeam place) xs → P (came.NoTeam place) told.NoTeam xs)
    → c.outcome ≡ came.NoTeam place → c.told ≡ told.NoTeam → DoesSo (FoundSo heads word (found.NoTeam place)) a b → DoesSo (MayCome {E = NoMemory} P Cut (Ok c)) a b
no_team_came heads word P Cut place c a b tells outcome_is told_is =
    does_as (FoundSo heads word (found.NoTeam place)) (MayCome {E = NoMemory} P Cut (Ok c)) a b
    (λ xs finds. subst (λ (o : Outcome). P o c.told xs) (sym outcome_is) (subst (λ (t : Told). P (came.NoTeam place) t xs) (sym told_is) (tells xs finds)))

-- ---- no memory for the look-up
pub no_find_came : (heads : List AppHead) (word : AppWord) (n : ℕ) (V : ℕ → List Step → Type 0) (a b : Run) → DoesSo (FoundSo heads word found.NoMemory) a b → DoesSo (λ (steps : List Step). (steps ≡ []) ⊎ FindingLooper heads word n V steps) a b
no_find_came heads word n V a b = does_as (FoundSo heads word found.NoMemory) (λ (steps : List Step). (steps ≡ []) ⊎ FindingLooper heads word n V steps) a b (λ xs none. inl none)
