-- Threads that a spawner was asked for: some, and then others.
use Rattle.std.proofs.Common.{◌≡◌, ◌≤◌, ◌+◌, ℕ, zero, suc, Bool, true, false, Option, refl, sym, subst, arith}
use Rattle.std.specs.Prelude.{IsFalse, IsTrue}
use Rattle.ak_outside.specs.Calls.{Calls}
use Rattle.ak_outside.specs.Spawner.{HasGivenBack, HasStarted}
use Rattle.ak_run.specs.Starts.{StartsAll, StartsButLast, StartsMore, StartsSome, StopsStarting}

-- ---- some, and then some more
all_then_all : (m n : ℕ) (a b c : Option Calls) → StartsAll m a b → StartsAll n b c → StartsAll (n + m) a c
all_then_all m zero a b c one two =
    let none : m ≡ zero + m = omega arith in
    subst (λ (k : ℕ). StartsAll k a c) none (subst (StartsAll m a) (sym two) one)
all_then_all m (suc n) a b c one two =
    let next : suc (n + m) ≡ suc n + m = omega arith in
    subst (λ (k : ℕ). StartsAll k a c) next (two.0, all_then_all m n a b two.0 one two.1, two.2)

all_then_last : (m n : ℕ) (a b c : Option Calls) → StartsAll m a b → StartsButLast n b c → StartsButLast (n + m) a c
all_then_last m zero a b c one two = absurd two
all_then_last m (suc n) a b c one two =
    let next : suc (n + m) ≡ suc n + m = omega arith in
    subst (λ (k : ℕ). StartsButLast k a c) next (two.0, all_then_all m n a b two.0 one two.1, two.2)

-- one at least was asked for
some_asked : (n : ℕ) (a b : Option Calls) → StartsButLast n a b → 1 ≤ n
some_asked zero a b last = absurd last
some_asked (suc n) a b last = omega arith

-- some and one more, by the code's count
pub one_more : (n : ℕ) (a b c : Option Calls) → StartsAll n a b → HasStarted b c → StartsAll (n + 1) a c
one_more n a b c all one = let next : suc n ≡ n + 1 = omega arith in subst (λ (k : ℕ). StartsAll k a c) next (b, all, one)

pub last_one : (n : ℕ) (a b c : Option Calls) → StartsAll n a b → HasGivenBack b c → StartsButLast (n + 1) a c
last_one n a b c all back = let next : suc n ≡ n + 1 = omega arith in subst (λ (k : ℕ). StartsButLast k a c) next (b, all, back)

-- ---- the threads of a run
pub none_more : (x y : ℕ) (calls : Option Calls) → y ≡ x → StartsMore x y calls calls
none_more x y calls same = record { more = 0; count = omega (arith, same); starts = refl }

pub starts_then : (x y z : ℕ) (a b c : Option Calls) → StartsMore x y a b → StartsMore y z b c → StartsMore x z a c
starts_then x y z a b c one two = record { more = two.more + one.more; count = omega (arith, one.count, two.count); starts = all_then_all one.more two.more a b c one.starts two.starts }

pub stops_then : (last x y z : ℕ) (a b c : Option Calls) → StartsMore x y a b → StopsStarting last y z b c → StopsStarting last x z a c
stops_then last x y z a b c one two = record {
  more = two.more + one.more;
  count = omega (arith, one.count, two.count);
  asked = two.asked + one.more;
  within = omega (arith, two.within);
  near = omega (arith, two.near);
  starts = all_then_last one.more two.asked a b c one.starts two.starts;
}

-- a team of `many` loopers, of which not all were started
pub stops_team : (limit many x y : ℕ) (a b : Option Calls) → many ≤ limit → y ≡ x + many → StartsSome many a b → StopsStarting limit x y a b
stops_team limit many x y a b few count some = record {
  more = many;
  count = count;
  asked = some.0;
  within = some.1;
  near = omega (arith, few, some_asked some.0 a b some.2);
  starts = some.2;
}

-- the sessions of a block, the last of which was refused
pub stops_block : (many x y : ℕ) (a b : Option Calls) → y ≡ x + many → StartsButLast many a b → StopsStarting 1 x y a b
stops_block many x y a b count last = record { more = many; count = count; asked = many; within = omega arith; near = omega arith; starts = last }

-- ---- while the loopers of a team start
-- of `many`, all that are not left were started
pub record StartedBut (left many : ℕ) (old new : Option Calls) : Type 0 where
  pub so_far : ℕ
  pub count : so_far + left ≡ many
  pub starts : StartsAll so_far old new

-- of those, the last that was asked for was refused
pub record RefusedBut (left many : ℕ) (old new : Option Calls) : Type 0 where
  pub asked : ℕ
  pub count : asked + left ≤ many
  pub starts : StartsButLast asked old new

module _ (left many : ℕ) (a b c : Option Calls) where
  pub next_started : StartedBut (left + 1) many a b → HasStarted b c → StartedBut left many a c
  next_started is one = record { so_far = is.so_far + 1; count = omega (arith, is.count); starts = one_more is.so_far a b c is.starts one }

  next_refused : StartedBut (left + 1) many a b → HasGivenBack b c → RefusedBut left many a c
  next_refused is back = record { asked = is.so_far + 1; count = omega (arith, is.count); starts = last_one is.so_far a b c is.starts back }

  still_refused : RefusedBut (left + 1) many a b → c ≡ b → RefusedBut left many a c
  still_refused is same = record { asked = is.asked; count = omega (arith, is.count); starts = subst (StartsButLast is.asked a) (sym same) is.starts }

  -- by whether all were started before it
  pub refused_so_far : (all : Bool) → (IsTrue all → StartedBut (left + 1) many a b) → (IsFalse all → RefusedBut (left + 1) many a b) → (IsTrue all → HasGivenBack b c) → (IsFalse all → c ≡ b) → RefusedBut left many a c
  refused_so_far true started refused back same = next_refused (started refl) (back refl)
  refused_so_far false started refused back same = still_refused (refused refl) (same refl)

pub none_yet : (many : ℕ) (calls : Option Calls) → StartedBut many many calls calls
none_yet many calls = record { so_far = 0; count = omega arith; starts = refl }

-- none is left
pub whole_started : (many : ℕ) (a b : Option Calls) → StartedBut 0 many a b → StartsAll many a b
whole_started many a b is = let all : is.so_far ≡ many = omega (arith, is.count) in subst (λ (k : ℕ). StartsAll k a b) all is.starts

pub some_started : (many : ℕ) (a b : Option Calls) → RefusedBut 0 many a b → StartsSome many a b
some_started many a b is = (is.asked, omega (arith, is.count), is.starts)
