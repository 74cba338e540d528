-- The laws of flat text.
use Rattle.std.proofs.Common.{◌≡◌, ℕ, ◌^◌, ◌<◌, ◌≤◌, Bool, true, false, cond, leb, ◌⊎◌, List, length, Option, Some, Result, Ok, Err, refl, sym, ap, subst, ◌∙◌, arith, inl, inr}
use Rattle.std.specs.Prelude.{IfOk, IfErr}
use Rattle.std.specs.Result.{result_err}
use Rattle.std.proofs.lemmas.Bool.{le-leb, leb-true}
use Rattle.ak_message.specs.Message.{MessageData}
use Rattle.ak_flatten.specs.declared.fault.FlatFault.{FlatFault}
use Rattle.ak_flatten.specs.declared.fault.FlatKind.TheVariants as fault
use Rattle.ak_flatten.specs.declared.fault.UnflattenFault.{UnflattenFault}
use Rattle.ak_flatten.specs.declared.fault.UnflattenFault.TheVariants as unflatten
use Rattle.ak_flatten.specs.Laws.{Spells, IsFirstFault, first_fault, AreBytes, OneSpelling, SpelledOrFaulty, WrittenIsRead}
use Rattle.ak_message.specs.Popped.{unpopped}
use Rattle.ak_flatten.specs.Reading.{message_from, read_message}
use Rattle.ak_flatten.specs.Seen.{Fails, Gives}
use Rattle.ak_flatten.specs.Spelling.{spelling}
use Rattle.ak_flatten.proofs.Parts.{at, ok_is}
use Rattle.ak_flatten.proofs.Values.{IsReadMessage}
use Rattle.ak_flatten.proofs.Messages.{message_takes, message_again}
use Rattle.ak_message.proofs.Surface.{whole-unpopped, is_unpopped}
use Rattle.ak_flatten.proofs.Unpopping.{spelling-unpopped}

-- what is spelled is read, and what is read is spelled so
pub spelled_is_read : (bytes : List ℕ) (m : MessageData) → Spells bytes m → read_message bytes ≡ Ok m
unfolding read_message
spelled_is_read bytes m s =
    let limit : length (spelling m) ≤ 4096 = subst (λ (t : List ℕ). length t ≤ 4096) s.spelled s.limit in
    let short = le-leb _ _ s.limit in
    let read = message_again 16 0 m (record { whole = s.whole; unpopped = s.unpopped; shallow = s.whole.0.depth_within }) (omega arith) in
    rw (short, s.spelled) read

short_read : (test : Bool) (r : Result MessageData FlatFault) (f : FlatFault) (m : MessageData) → cond test r (Err f) ≡ Ok m → (test ≡ true) × (r ≡ Ok m)
short_read true r f m e = (refl, e)
short_read false r f m e = absurd cc

pub read_is_spelled : (bytes : List ℕ) (m : MessageData) → AreBytes bytes → read_message bytes ≡ Ok m → Spells bytes m
unfolding read_message
read_is_spelled bytes m fits e =
    let r = short_read (leb (length bytes) 4096) (message_from 16 (at 0 bytes)) (record { place = 4096; kind = fault.TooLong }) m e in
    let t = message_takes 16 (omega arith) (at 0 bytes) m fits r.1 in
    record { whole = t.1.whole; unpopped = t.1.unpopped; spelled = sym t.0; limit = leb-true _ _ r.0 }

pub one_spelling_holds : OneSpelling
one_spelling_holds bytes m n s t = ok_is m n (sym (spelled_is_read bytes m s) ∙ spelled_is_read bytes n t)

by_reading : (bytes : List ℕ) (r : Result MessageData FlatFault) → AreBytes bytes → read_message bytes ≡ r → ((m : MessageData) × Spells bytes m) ⊎ ((f : FlatFault) × (first_fault bytes ≡ Some f))
by_reading bytes (Ok m) fits e = inl (m, read_is_spelled bytes m fits e)
by_reading bytes (Err f) fits e = inr (f, ap (λ (r : Result MessageData FlatFault). result_err r) e)

pub spelled_or_faulty_holds : SpelledOrFaulty
spelled_or_faulty_holds bytes fits =
    (by_reading bytes (read_message bytes) fits refl, λ m f s e. let read = ap (λ (r : Result MessageData FlatFault). result_err r) (spelled_is_read bytes m s) in absurd cc)

pub written_is_read_holds : WrittenIsRead
written_is_read_holds m whole limit =
    record { whole = whole-unpopped m whole; unpopped = is_unpopped m; spelled = sym (spelling-unpopped m); limit = limit }

-- ---- what an answer that agrees with reading says
pub read_spelled : (bytes : List ℕ) (r : Result MessageData UnflattenFault) → AreBytes bytes → Gives (λ m. m) r (read_message bytes) → IfOk r (λ m. Spells bytes m)
read_spelled bytes (Ok m) fits given = read_is_spelled bytes m fits given
read_spelled bytes (Err e) fits given = tt

pub read_only : (bytes : List ℕ) (r : Result MessageData UnflattenFault) → Gives (λ m. m) r (read_message bytes) → (m : MessageData) → Spells bytes m → Gives (λ x. x) r (Ok m)
read_only bytes r given m s = subst (λ (read : Result MessageData FlatFault). Gives (λ x. x) r read) (spelled_is_read bytes m s) given

is_first : (bytes : List ℕ) (e : UnflattenFault) → Fails e (read_message bytes) → IsFirstFault bytes e
is_first bytes unflatten.NoMemory given = tt
is_first bytes (unflatten.Bad f) given = ap (λ (r : Result MessageData FlatFault). result_err r) given

pub read_fault : (bytes : List ℕ) (r : Result MessageData UnflattenFault) → Gives (λ m. m) r (read_message bytes) → IfErr r (λ e. IsFirstFault bytes e)
read_fault bytes (Ok m) given = tt
read_fault bytes (Err e) given = is_first bytes e given

err_of : (r : Result MessageData FlatFault) (f : FlatFault) → result_err r ≡ Some f → r ≡ Err f
err_of (Ok m) f e = absurd cc
err_of (Err d) f e = let same : d ≡ f = cc in ap (λ (x : FlatFault). Err x) same

pub read_refused : (bytes : List ℕ) (r : Result MessageData UnflattenFault) → Gives (λ m. m) r (read_message bytes) → (f : FlatFault) → first_fault bytes ≡ Some f → Gives (λ x. x) r (Err f)
read_refused bytes r given f e = subst (λ (read : Result MessageData FlatFault). Gives (λ x. x) r read) (err_of (read_message bytes) f e) given
