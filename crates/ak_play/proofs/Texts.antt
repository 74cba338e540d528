-- Lines are written, one after the other, as far as nothing stops it.
use Rattle.std.proofs.Common.{◌≡◌, ◌≤◌, ◌+◌, ◌<◌, ℕ, zero, suc, List, [], ◌∷◌, ◌++◌, length, length-append, take, drop, get_or, map, refl, sym, ap, ◌∙◌, subst, append_assoc, append-nil, arith}
use Rattle.std.specs.Prelude.{Option, Result, Ok, Err, IsErrOf}
use Rattle.std.specs.Io.KnownBytes.{Appends}
use Rattle.std.proofs.lemmas.List.{take_more}
use Rattle.ak_outside.proofs.Surface.{Appends-joined}
use Rattle.ak_print.specs.declared.told.Told.{Told}
use Rattle.ak_print.specs.Told.{told_line}
use Rattle.ak_block.specs.declared.blocks.Heard.{Heard}
use Rattle.ak_block.specs.Together.{part_of}
use Rattle.ak_play.specs.declared.stop.Untold.{Untold}
use Rattle.ak_play.specs.declared.stop.Untold.TheVariants as untold
use Rattle.ak_play.specs.Parts.{session_tolds}
use Rattle.ak_play.specs.Play.{AreWritten, IsCutText, IsFrontText, text_of}
use Rattle.ak_play.specs.Steps.{HasWritten, HasWrittenAll, lines_told}
use Rattle.ak_play.proofs.Parts.{text-append}

-- ---- a list, at one of its places
-- those before it and it
pub taken_next : {X : Type 0} (xs : List X) (i : ℕ) (x : X) → i < length xs → x ≡ get_or xs i x → take (i + 1) xs ≡ take i xs ++ x ∷ []
taken_next xs i x lt is = take_more xs i x lt ∙ ap (λ y. take i xs ++ y ∷ []) (sym is)

-- and those behind it
pub split_at : {X : Type 0} (xs : List X) (i : ℕ) (x : X) → i < length xs → x ≡ get_or xs i x → xs ≡ take i xs ++ (x ∷ [] ++ drop (i + 1) xs)
split_at [] i x lt is = absurd (omega (arith, lt))
split_at (y ∷ xs) zero x lt is = ap (λ z. z ∷ xs) (sym is)
split_at (y ∷ xs) (suc i) x lt is =
    let next : suc i + 1 ≡ suc (i + 1) = omega arith in
    ap (λ l. y ∷ l) (split_at xs i x (omega (arith, lt)) is) ∙ ap (λ n. y ∷ (take i xs ++ (x ∷ [] ++ drop n (y ∷ xs)))) (sym next)

-- ---- the front of a list
module _ {X : Type 0} where
  pub front_of : (xs ys : List X) (n : ℕ) → n ≤ length xs → take n (xs ++ ys) ≡ take n xs
  front_of xs ys zero most = refl
  front_of [] ys (suc n) most = absurd (omega (arith, most))
  front_of (x ∷ xs) ys (suc n) most = ap (λ l. x ∷ l) (front_of xs ys n (omega (arith, most)))

  pub front_behind : (xs ys : List X) (n m : ℕ) → m ≡ length xs + n → take m (xs ++ ys) ≡ xs ++ take n ys
  front_behind [] ys n m is = ap (λ k. take k ys) (let same : m ≡ n = omega (arith, is) in same)
  front_behind (x ∷ xs) ys n zero is = absurd (omega (arith, is))
  front_behind (x ∷ xs) ys n (suc m) is = ap (λ l. x ∷ l) (front_behind xs ys n m (omega (arith, is)))

-- ---- lines behind lines
module _ (before lines : List Told) (old mid new : Option (List ℕ)) (one : Appends old mid (text_of before)) where
  pub lines_on : Appends mid new (text_of lines) → Appends old new (text_of (before ++ lines))
  lines_on two = subst (Appends old new) (sym (text-append before lines)) (Appends-joined old mid new (text_of before) (text_of lines) one two)

  -- of the last ones a beginning; others would come behind them
  module _ (behind : List Told) where
    cut_within : IsCutText [] lines mid new → IsCutText [] (before ++ (lines ++ behind)) old new
    cut_within cut = record {
      front = before ++ cut.front;
      line = cut.line;
      behind = cut.behind ++ behind;
      last_is = ap (λ (l : List Told). before ++ (l ++ behind)) cut.last_is ∙ ap (λ (l : List Told). before ++ l) (append_assoc cut.front (cut.line ∷ cut.behind) behind) ∙ sym (append_assoc before cut.front (cut.line ∷ (cut.behind ++ behind)));
      part = cut.part;
      short = cut.short;
      written = subst (Appends old new) (sym regrouped) (Appends-joined old mid new (text_of before) (text_of cut.front ++ take cut.part (told_line cut.line)) one cut.written);
    }
      where
        regrouped : text_of (before ++ cut.front) ++ take cut.part (told_line cut.line) ≡ text_of before ++ (text_of cut.front ++ take cut.part (told_line cut.line))
        regrouped = ap (λ (l : List ℕ). l ++ take cut.part (told_line cut.line)) (text-append before cut.front) ∙ append_assoc (text_of before) (text_of cut.front) (take cut.part (told_line cut.line))

    front_within : IsFrontText [] lines mid new → IsFrontText [] (before ++ (lines ++ behind)) old new
    front_within front = record {
      lines = length before + front.lines;
      not_all = omega (arith, front.not_all, length-append before (lines ++ behind), length-append lines behind);
      written = subst (Appends old new) (sym (ap text_of first ∙ text-append before (take front.lines lines))) (Appends-joined old mid new (text_of before) (text_of (take front.lines lines)) one front.written);
    }
      where
        first : take (length before + front.lines) (before ++ (lines ++ behind)) ≡ before ++ take front.lines lines
        first = front_behind before (lines ++ behind) front.lines (length before + front.lines) refl ∙ ap (λ (l : List Told). before ++ l) (front_of lines behind front.lines (omega (arith, front.not_all)))

    pub lines_stop : (why : Untold) → HasWrittenAll {A = Unit {0}} (Err why) lines mid new → HasWrittenAll {A = Unit {0}} (Err why) (before ++ (lines ++ behind)) old new
    lines_stop untold.WriteFault written = cut_within written
    lines_stop untold.NoMemory written = front_within written

-- ---- one line
pub one_text : (t : Told) → text_of (t ∷ []) ≡ told_line t
one_text t = append-nil (told_line t)

pub one_written : (result : Result (Unit {0}) Untold) (t : Told) (old new : Option (List ℕ)) → HasWritten result (told_line t) old new → HasWrittenAll result (t ∷ []) old new
one_written (Ok x) t old new written = subst (Appends old new) (sym (one_text t)) written
one_written (Err untold.WriteFault) t old new written = record { front = []; line = t; behind = []; last_is = refl; part = written.0; short = written.1; written = written.2 }
one_written (Err untold.NoMemory) t old new written = record { lines = 0; not_all = omega arith; written = written }

-- by what became of them; a write failed only where it was told so
pub written_as : (told : Result (Unit {0}) Untold) (Failed Kept : Type 0) (lines : List Told) (old new : Option (List ℕ)) → (IsErrOf told untold.WriteFault → Failed) → (¬ (IsErrOf told untold.WriteFault) → Kept) → HasWrittenAll told lines old new
    → AreWritten (lines_told told) Failed Kept [] lines old new
written_as (Ok x) Failed Kept lines old new failed kept written = (written, kept (λ bad. absurd (cc bad)))
written_as (Err untold.WriteFault) Failed Kept lines old new failed kept written = (written, failed refl)
written_as (Err untold.NoMemory) Failed Kept lines old new failed kept written = (written, kept (λ bad. absurd (cc bad)))

-- ---- the lines of sessions
pub tolds-append : (xs ys : List Heard) → session_tolds (map part_of (xs ++ ys)) ≡ session_tolds (map part_of xs) ++ session_tolds (map part_of ys)
tolds-append [] ys = refl
tolds-append (x ∷ xs) ys = ap (λ (l : List Told). x.tolds.items ++ l) (tolds-append xs ys) ∙ sym (append_assoc x.tolds.items (session_tolds (map part_of xs)) (session_tolds (map part_of ys)))

pub tolds_of_one : (x : Heard) → session_tolds (map part_of (x ∷ [])) ≡ x.tolds.items
tolds_of_one x = append-nil x.tolds.items
