-- How many sessions, lines and loopers the script of a number has.
use Rattle.std.proofs.Common.{◌≡◌, ◌≤◌, ◌+◌, ◌*◌, ℕ, zero, suc, [], ◌∷◌, length, refl, arith}
use Rattle.std.specs.List.{All}
use Rattle.std.proofs.lemmas.List.{length-append}
use Rattle.std.proofs.lemmas.List.Elements.{All-nil, All-push}
use Rattle.ak_script.specs.Generated.{GeneratedCounts, generated, generated_limit, incr, place_in, session, up_to}
use Rattle.ak_script.specs.Limits.{statement_limit}
use Rattle.ak_script.specs.Statement.{SessionData, hey_line, lines_in}

-- ---- of each number up to one
length-up_to : {A : Type 0} (n : ℕ) (f : ℕ → A) → length (up_to n f) ≡ n
length-up_to zero f = refl
length-up_to (suc n) f = omega (arith, length-append (up_to n f) (f (suc n) ∷ []), length-up_to n f)

all_up_to : {A : Type 0} (P : A → Type 0) (n : ℕ) (f : ℕ → A) → ((i : ℕ) → P (f i)) → All P (up_to n f)
all_up_to P zero f holds = All-nil P
all_up_to P (suc n) f holds = All-push P (up_to n f) (f (suc n)) (all_up_to P n f holds) (holds (suc n))

-- ---- lines
length-session : (n s : ℕ) → length (session n s).lines ≡ n
length-session n s = length-up_to n (λ (i : ℕ). hey_line (incr (place_in s i)))

lines_are : (n : ℕ) → lines_in (generated n).statements ≡ 4 * n + 4
lines_are n = omega (arith, length-session n 1, length-session n 2, length-session n 3, length-session n 4)

pub few_lines : (n : ℕ) → n ≤ generated_limit → lines_in (generated n).statements ≤ statement_limit
few_lines n few = omega (arith, few, lines_are n)

pub counts : GeneratedCounts
counts n =
    record {
      sessions = refl;
      few_sessions = omega arith;
      session_lines = all_up_to (λ (s : SessionData). length s.lines ≡ n) 4 (session n) (length-session n);
      lines = lines_are n;
      few_lines = few_lines n;
      apps = refl;
      loopers = refl;
    }
