-- A lock as it is made.
use Rattle.std.proofs.Common.{◌≡◌, ◌≢◌, ℕ, zero, suc, ◌%◌, ◌^◌, ◌<◌, false, List, [], ◌∷◌, length, All, Contains, Some, sym, refl, ap, ◌∙◌, subst, arith, mod-eq_of_lt}
use Rattle.std.proofs.lemmas.List.Elements.{All-nil, All-cons, All-weaker}
use mathlib.Core.Option.{some, some-injective, some-ne-none}
use lib.ListN.{get_elem?}
use Rattle.atomic_table.specs.Table as table
use Rattle.ak_turn.specs.declared.view.View.{View}
use Rattle.ak_turn.specs.Entries.{places}
use Rattle.ak_turn.specs.Rule.{World, IsOurs, IsLive, Fits, Kept}
use Rattle.ak_turn.specs.Steps.{first_view}
use Rattle.ak_turn.proofs.Placing.{IsKnown-whole}

module _ {B O L : Type 0} (opening : B → O) (entries : B → List L) (at_rest : B → Type 0) (by : L → ℕ) where
  abbrev at_first : O → List L → ℕ → World O L
  at_first o history thread = record { opening = o; history = history; served = 0; queue = []; busy = false; names = thread ∷ []; owner = λ _. 0; head = 0 }

  alone : (thread : ℕ) → Contains (thread ∷ []) thread
  alone thread = (0, omega arith, refl)

  first_lives : (o : O) (history : List L) (thread : ℕ) → IsLive by (at_first o history thread) 0 (first_view by o history thread)
  first_lives o history thread = record {
    opening = refl;
    timely = λ k at. some-ne-none thread (sym at);
    me = record { known = IsKnown-whole by history record { thread = thread; front = history; own = places by thread history } refl refl; owned = refl; named = alone thread };
    joined = All-nil (IsOurs by (at_first o history thread) 0);
    apart = All-nil (λ part. thread ≢ part.thread);
    names = λ ns is. ((let e : Some ns ≡ Some (thread ∷ []) = sym is in cc), refl);
  }

  first_seat_fits : (w : World O L) (v : View O L) → IsLive by w 0 v → (id : ℕ) (u : View O L) → get_elem? (v ∷ []) id ≡ some u → Fits by w id u
  first_seat_fits w v live zero u at = λ _. subst (IsLive by w 0) (some-injective v u at) live
  first_seat_fits w v live (suc id) u at = absurd (some-ne-none u (sym at))

  pub starts : (book : B) (thread count : ℕ) → at_rest book → All (λ entry. by entry ≡ thread) (entries book) → thread < 2 ^ 32 → count < 2 ^ 64 → count ≡ length (entries book)
      → Kept opening entries at_rest by (table.opening (0 ∷ 0 ∷ count ∷ []) (Some book ∷ []) (first_view by (opening book) (entries book) thread))
  starts book thread count rests own small fits is = (
    at_first (opening book) (entries book) thread,
    record {
      words = ap (λ (n : ℕ). 0 ∷ 0 ∷ n ∷ []) (sym (mod-eq_of_lt fits) ∙ ap (λ (n : ℕ). n % 2 ^ 64) is);
      slot = (book, refl, record { rests = rests; opened_so = refl; told = refl });
      waited = λ no. absurd (cc);
      queue = λ i j x at _. absurd (some-ne-none x (sym at));
      queued = All-nil (Contains (thread ∷ []));
      names = All-cons (λ x. x < 2 ^ 32) thread [] small (All-nil (λ x. x < 2 ^ 32));
      makers = All-weaker (λ entry. by entry ≡ thread) (λ entry. Contains (thread ∷ []) (by entry)) (λ entry e. subst (Contains (thread ∷ [])) (sym e) (alone thread)) (entries book) own;
      seats = first_seat_fits (at_first (opening book) (entries book) thread) (first_view by (opening book) (entries book) thread) (first_lives (opening book) (entries book) thread);
    },
  )
