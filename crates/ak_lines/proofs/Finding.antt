-- A running team is looked for, and then the looper is asked, posted to or edited.
use Rattle.std.proofs.Common.{◌≡◌, ◌⊎◌, ℕ, ◌+◌, ◌<◌, ◌≤◌, List, ◌++◌, Ok, Err, refl, sym, subst, arith, inl, inr}
use Rattle.std.specs.Prelude.{None, Result}
use Rattle.ak_base.specs.declared.app_word.AppWord.{AppWord}
use Rattle.ak_base.specs.declared.no_memory.NoMemory.{NoMemory}
use Rattle.ak_roster.specs.declared.head.AppHead.{AppHead}
use Rattle.ak_diary.specs.Looper.{doors_got}
use Rattle.ak_diary.specs.Step.{Step}
use Rattle.ak_diary.specs.Wants.{AsksInVain}
use Rattle.ak_script.specs.declared.statement.Hey.{Hey}
use Rattle.ak_script.specs.declared.statement.Lock.{Lock}
use Rattle.ak_script.specs.declared.statement.Post.{Post}
use Rattle.ak_print.specs.declared.told.Told.{Told}
use Rattle.ak_print.specs.declared.told.Told.TheVariants as told
use Rattle.ak_session.specs.declared.answers.Found.TheVariants as found
use Rattle.ak_session.specs.declared.session.Session.{Session}
use Rattle.ak_session.specs.Doing.{FindsAt, FoundSo, LacksDoor, Through, address_of}
use Rattle.ak_session.specs.Stands.{GoesOn, Stands}
use Rattle.ak_lines.specs.declared.came.Came.{Came}
use Rattle.ak_lines.specs.declared.outcome.Outcome.{Outcome}
use Rattle.ak_lines.specs.declared.outcome.Outcome.TheVariants as came
use Rattle.ak_lines.specs.Blocks.{Cuts, CutsHey, CutsLock, CutsPost, FindingLooper, FindingNone, FindingThrough, IsAnswered, IsEdited, IsHeyLine, IsLockLine, IsNothing, IsPostLine, IsPostRefused, IsPosted, IsRefused, hey_item, post_item}
use Rattle.ak_lines.specs.Came.{EndsInVain, InVainAt, IsAsked, IsAskedInVain, IsLocked, IsSent, MayCome}
use Rattle.ak_lines.proofs.Going.{behind_find, goes_as, goes_then, lacks_same, through_same}

module _ (heads : List AppHead) (so_far : List Step) (word : AppWord) (team first loopers place n : ℕ) (xs : List Step) (finds : FoundSo heads word (found.Team team first loopers place) xs) where
  -- it has none of that place
  finding_none : loopers ≤ n → FindingNone heads word n place xs
  finding_none past = (record { team = team; description = finds.0; first = first; loopers = loopers }, past, finds.1)

  module _ (looper : ℕ) (within : n < loopers) (is : looper ≡ first + n) where
    -- it has one, at which that is done
    finding : (P : ℕ → List Step → Type 0) (ys : List Step) → P looper ys → FindingLooper heads word n P (xs ++ ys)
    finding P ys does = record {
      running = record { team = team; description = finds.0; first = first; loopers = loopers };
      place = place;
      found = xs;
      finds = finds.1;
      rest = ys;
      then_does = (within, subst (λ (k : ℕ). P k ys) is does);
      is = refl;
    }

    no_door : doors_got (so_far ++ xs) ≡ doors_got so_far
    no_door = behind_find heads word _ place so_far xs finds.1

    finding_through : (P : ℕ → List Step → Type 0) (ys : List Step) → Through (so_far ++ xs) looper (P looper) ys → FindingThrough so_far heads word n P (xs ++ ys)
    finding_through P ys through = finding (λ (k : ℕ) (rest : List Step). Through so_far k (P k) rest) ys (through_same (so_far ++ xs) so_far no_door looper (P looper) ys through)

    cuts_behind : (P : ℕ → List Step → Type 0) (ys : List Step) → InVainAt (so_far ++ xs) looper (P looper) ys → Cuts so_far heads word n P (xs ++ ys)
    cuts_behind P ys (inl lacks) = inr (finding (λ (k : ℕ) (rest : List Step). LacksDoor so_far k rest ⊎ Through so_far k (P k) rest) ys (inl (lacks_same (so_far ++ xs) so_far no_door looper ys lacks)))
    cuts_behind P ys (inr through) =
        inr (finding (λ (k : ℕ) (rest : List Step). LacksDoor so_far k rest ⊎ Through so_far k (P k) rest) ys (inr (through_same (so_far ++ xs) so_far no_door looper (P looper) ys through)))

-- ---- hey lines
module _ (heads : List AppHead) (h : Hey) (team first loopers place : ℕ) (some : 1 ≤ loopers) where
  module _ (so_far xs ys : List Step) (finds : FoundSo heads h.app (found.Team team first loopers place) xs) where
    hey_behind : (P : ℕ → List Step → Type 0) → Through (so_far ++ xs) first (P first) ys → FindingThrough so_far heads h.app 0 P (xs ++ ys)
    hey_behind P through = finding_through heads so_far h.app team first loopers place 0 xs finds first (omega (arith, some)) (omega arith) P ys through

    hey_line : (o : Outcome) (t : Told) → IsAsked (so_far ++ xs) h first o t ys → IsHeyLine heads so_far h o t (xs ++ ys)
    hey_line (came.Replied slot) (told.Reply message) asked = hey_behind (IsAnswered (hey_item h) slot message) asked
    hey_line (came.SendRefused at where_at why) (told.Refused e) asked = (asked.0, hey_behind (IsRefused (hey_item h) at where_at why) asked.1)
    hey_line _ _ asked = absurd asked

    hey_so : (result : Result Came NoMemory) → MayCome (IsAsked (so_far ++ xs) h first) (IsAskedInVain (so_far ++ xs) h first) result ys → MayCome (IsHeyLine heads so_far h) (CutsHey heads so_far h) result (xs ++ ys)
    hey_so (Ok c) asked = hey_line c.outcome c.told asked
    hey_so (Err e) asked = cuts_behind heads so_far h.app team first loopers place 0 xs finds first (omega (arith, some)) (omega arith) (λ looper. AsksInVain (address_of looper (hey_item h)) (hey_item h)) ys asked

  pub hey_came : (result : Result Came NoMemory) (start : ℕ) (so_far : List Step) (middle s' : Session) → GoesOn heads start so_far (FoundSo heads h.app (found.Team team first loopers place)) middle
      → ((now : List Step) → Stands heads start now middle → GoesOn heads start now (MayCome (IsAsked now h first) (IsAskedInVain now h first) result) s')
      → GoesOn heads start so_far (MayCome (IsHeyLine heads so_far h) (CutsHey heads so_far h) result) s'
  hey_came result start so_far middle s' one two =
      goes_then heads start so_far s' (FoundSo heads h.app (found.Team team first loopers place)) (MayCome (IsHeyLine heads so_far h) (CutsHey heads so_far h) result) (λ now. MayCome (IsAsked now h first) (IsAskedInVain now h first) result)
      middle one two (λ xs ys finds asked. hey_so so_far xs ys finds result asked)

-- ---- posts
module _ (heads : List AppHead) (p : Post) (team first loopers place : ℕ) where
  module _ (within : p.looper < loopers) (looper : ℕ) (looper_is : looper ≡ first + p.looper) where
    module _ (so_far xs ys : List Step) (finds : FoundSo heads p.app (found.Team team first loopers place) xs) where
      post_behind : (P : ℕ → List Step → Type 0) → Through (so_far ++ xs) looper (P looper) ys → FindingThrough so_far heads p.app p.looper P (xs ++ ys)
      post_behind P through = finding_through heads so_far p.app team first loopers place p.looper xs finds looper within looper_is P ys through

      post_line : (o : Outcome) (t : Told) → IsSent (so_far ++ xs) p looper o t ys → IsPostLine heads so_far p o t (xs ++ ys)
      post_line (came.Posted at position) told.Posted sent = post_behind (IsPosted (post_item p) at position) sent
      post_line (came.SendRefused at where_at why) (told.Refused e) sent = (sent.0, post_behind (IsPostRefused p.waits at where_at why) sent.1)
      post_line _ _ sent = absurd sent

      post_so : (result : Result Came NoMemory) → MayCome (IsSent (so_far ++ xs) p looper) (EndsInVain (so_far ++ xs) looper) result ys → MayCome (IsPostLine heads so_far p) (CutsPost heads so_far p) result (xs ++ ys)
      post_so (Ok c) sent = post_line c.outcome c.told sent
      post_so (Err e) sent = cuts_behind heads so_far p.app team first loopers place p.looper xs finds looper within looper_is (λ k. IsNothing) ys sent

    pub post_came : (result : Result Came NoMemory) (start : ℕ) (so_far : List Step) (middle s' : Session) → GoesOn heads start so_far (FoundSo heads p.app (found.Team team first loopers place)) middle
        → ((now : List Step) → Stands heads start now middle → GoesOn heads start now (MayCome (IsSent now p looper) (EndsInVain now looper) result) s')
        → GoesOn heads start so_far (MayCome (IsPostLine heads so_far p) (CutsPost heads so_far p) result) s'
    post_came result start so_far middle s' one two =
        goes_then heads start so_far s' (FoundSo heads p.app (found.Team team first loopers place)) (MayCome (IsPostLine heads so_far p) (CutsPost heads so_far p) result) (λ now. MayCome (IsSent now p looper) (EndsInVain now looper) result)
        middle one two (λ xs ys finds sent. post_so so_far xs ys finds result sent)

-- ---- edits
module _ (heads : List AppHead) (l : Lock) (team first loopers place : ℕ) where
  module _ (within : l.looper < loopers) (looper : ℕ) (looper_is : looper ≡ first + l.looper) where
    module _ (so_far xs ys : List Step) (finds : FoundSo heads l.app (found.Team team first loopers place) xs) where
      lock_line : (o : Outcome) (t : Told) → IsLocked (so_far ++ xs) l looper o t ys → IsLockLine heads so_far l o t (xs ++ ys)
      lock_line (came.Edited at where_at) (told.Edit answer) locked = finding_through heads so_far l.app team first loopers place l.looper xs finds looper within looper_is (IsEdited l at where_at answer) ys locked
      lock_line _ _ locked = absurd locked

      lock_so : (result : Result Came NoMemory) → MayCome (IsLocked (so_far ++ xs) l looper) (EndsInVain (so_far ++ xs) looper) result ys → MayCome (IsLockLine heads so_far l) (CutsLock heads so_far l) result (xs ++ ys)
      lock_so (Ok c) locked = lock_line c.outcome c.told locked
      lock_so (Err e) locked = cuts_behind heads so_far l.app team first loopers place l.looper xs finds looper within looper_is (λ k. IsNothing) ys locked

    pub lock_came : (result : Result Came NoMemory) (start : ℕ) (so_far : List Step) (middle s' : Session) → GoesOn heads start so_far (FoundSo heads l.app (found.Team team first loopers place)) middle
        → ((now : List Step) → Stands heads start now middle → GoesOn heads start now (MayCome (IsLocked now l looper) (EndsInVain now looper) result) s')
        → GoesOn heads start so_far (MayCome (IsLockLine heads so_far l) (CutsLock heads so_far l) result) s'
    lock_came result start so_far middle s' one two =
        goes_then heads start so_far s' (FoundSo heads l.app (found.Team team first loopers place)) (MayCome (IsLockLine heads so_far l) (CutsLock heads so_far l) result) (λ now. MayCome (IsLocked now l looper) (EndsInVain now looper) result)
        middle one two (λ xs ys finds locked. lock_so so_far xs ys finds result locked)

-- ---- no team fits, or it has no such looper
module _ (heads : List AppHead) (word : AppWord) (start : ℕ) (so_far : List Step) (s' : Session) (P : Outcome → Told → List Step → Type 0) (Cut : List Step → Type 0) (place : ℕ) (c : Came) where
  pub no_team_came : ((xs : List Step) → FindsAt heads word None place xs → P (came.NoTeam place) told.NoTeam xs) → c.outcome ≡ came.NoTeam place → c.told ≡ told.NoTeam
      → GoesOn heads start so_far (FoundSo heads word (found.NoTeam place)) s' → GoesOn heads start so_far (MayCome P Cut (Ok c)) s'
  no_team_came tells outcome_is told_is =
      goes_as heads start so_far s' (FoundSo heads word (found.NoTeam place)) (MayCome P Cut (Ok c))
      (λ xs finds. subst (λ (o : Outcome). P o c.told xs) (sym outcome_is) (subst (λ (t : Told). P (came.NoTeam place) t xs) (sym told_is) (tells xs finds)))

  pub no_looper_came : (team first loopers n : ℕ) → loopers ≤ n → ((xs : List Step) → FindingNone heads word n place xs → P (came.NoLooper place) told.NoLooper xs) → c.outcome ≡ came.NoLooper place → c.told ≡ told.NoLooper
      → GoesOn heads start so_far (FoundSo heads word (found.Team team first loopers place)) s' → GoesOn heads start so_far (MayCome P Cut (Ok c)) s'
  no_looper_came team first loopers n past tells outcome_is told_is =
      goes_as heads start so_far s' (FoundSo heads word (found.Team team first loopers place)) (MayCome P Cut (Ok c))
      (λ xs finds. subst (λ (o : Outcome). P o c.told xs) (sym outcome_is) (subst (λ (t : Told). P (came.NoLooper place) t xs) (sym told_is) (tells xs (finding_none heads so_far word team first loopers place n xs finds past))))

-- no memory for the look-up
pub no_find_came : (heads : List AppHead) (word : AppWord) (start : ℕ) (so_far : List Step) (s' : Session) (n : ℕ) (V : ℕ → List Step → Type 0) → GoesOn heads start so_far (FoundSo heads word found.NoMemory) s' → GoesOn heads start so_far (Cuts so_far heads word n V) s'
no_find_came heads word start so_far s' n V = goes_as heads start so_far s' (FoundSo heads word found.NoMemory) (Cuts so_far heads word n V) (λ xs none. inl none)
