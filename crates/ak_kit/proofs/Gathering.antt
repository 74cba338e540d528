-- The lines of entries, some at a time.
use Rattle.std.proofs.Common.{◌≡◌, ◌∙◌, ℕ, zero, suc, ◌+◌, ◌<◌, ◌≤◌, List, [], ◌∷◌, ◌++◌, take, length, slice_get, Option, None, Some, Result, Ok, Err, IsErrAnd, inr, refl, sym, ap, subst, append_assoc, append-nil, arith, length-append}
use Rattle.std.proofs.lemmas.List.{take_all}
use Rattle.std.proofs.lemmas.List.Elements.{All-cons, All-head, All-nil, All-tail}
use Rattle.std.proofs.Math.Seq.{take-append-add}
use Rattle.std.specs.Io.KnownBytes.{Appends}
use Rattle.ak_outside.specs.Sink.{AppendsPart}
use Rattle.ak_outside.proofs.Surface.{Appends-joined}
use Rattle.ak_journal.specs.declared.entry.Entry.{Entry}
use Rattle.ak_journal.specs.Legible.{IsLegible}
use Rattle.ak_journal.specs.Line.{entry_line}
use Rattle.ak_kit.specs.declared.journal.Untold.{Untold}
use Rattle.ak_kit.specs.declared.journal.Untold.TheVariants as untold
use Rattle.ak_play.specs.declared.run_end.Lines.{Lines}
use Rattle.ak_play.specs.declared.run_end.Lines.TheVariants as lines
use Rattle.ak_diary.specs.declared.histories.Histories.{Histories}
use Rattle.ak_world.specs.Merged.{IsMerged}
use Rattle.ak_kit.specs.Journal.{AreLegible, HasJournaled, HasWrittenEntries, entries_text, head_line}
use Rattle.ak_kit.specs.Untold.{lines_told}

-- a piece of which a part was written, behind others: a part of them all
part_behind : (a b c : Option (List ℕ)) (front piece : List ℕ) → Appends a b front → AppendsPart b c piece → AppendsPart a c (front ++ piece)
part_behind a b c front piece first part = (
  length front + part.0,
  omega (arith, part.1, length-append front piece),
  subst (Appends a c) (sym (take-append-add front piece part.0)) (Appends-joined a b c front (take part.0 piece) first part.2),
)

-- the lines of the first ones and of the next
text_and_next : (entries : List Entry) (index : ℕ) (e : Entry) → slice_get entries index ≡ Some e → entries_text (take (suc index) entries) ≡ entries_text (take index entries) ++ entries_text (e ∷ [])
text_and_next [] index e is = absurd (cc is)
text_and_next (x ∷ entries) zero e is = let same : x ≡ e = cc is in ap (λ (y : Entry). entries_text (y ∷ [])) same
text_and_next (x ∷ entries) (suc index) e is =
    ap (λ (l : List ℕ). (entry_line x ++ 10 ∷ []) ++ l) (text_and_next entries index e is) ∙ sym (append_assoc (entry_line x ++ 10 ∷ []) (entries_text (take index entries)) (entries_text (e ∷ [])))

nothing : (given : Option (List ℕ)) → Appends given given []
nothing None = tt
nothing (Some bytes) = sym (append-nil bytes)

-- ---- each entry is legible
legible_next : (entries : List Entry) (index : ℕ) (e : Entry) → slice_get entries index ≡ Some e → IsLegible e → AreLegible (take index entries) → AreLegible (take (suc index) entries)
legible_next [] index e is one all = absurd (cc is)
legible_next (x ∷ entries) zero e is one all = let same : x ≡ e = cc is in All-cons IsLegible x [] (subst IsLegible (sym same) one) (All-nil IsLegible)
legible_next (x ∷ entries) (suc index) e is one all =
    All-cons IsLegible x (take (suc index) entries) (All-head IsLegible x (take index entries) all) (legible_next entries index e is one (All-tail IsLegible x (take index entries) all))

legible_first : (entries : List Entry) (count index : ℕ) → count ≤ index → AreLegible (take index entries) → AreLegible (take count entries)
legible_first entries zero index most all = All-nil IsLegible
legible_first entries (suc count) zero most all = absurd (omega (arith, most))
legible_first [] (suc count) (suc index) most all = All-nil IsLegible
legible_first (x ∷ entries) (suc count) (suc index) most all =
    All-cons IsLegible x (take count entries) (All-head IsLegible x (take index entries) all)
    (legible_first entries count index (omega (arith, most)) (All-tail IsLegible x (take index entries) all))

-- of the first entries, up to that place, each is legible; the lines of some are written, and those of the rest are gathered
pub record IsGathered (old now : Option (List ℕ)) (entries : List Entry) (index : ℕ) (lines : List ℕ) : Type 0 where
  pub count : ℕ
  pub most : count ≤ index
  pub legible : AreLegible (take index entries)
  pub written : Appends old now (entries_text (take count entries))
  pub rest : entries_text (take index entries) ≡ entries_text (take count entries) ++ lines

module _ (old now : Option (List ℕ)) (entries : List Entry) where
  pub none_gathered : IsGathered old old entries 0 []
  none_gathered = record { count = 0; most = omega (arith); legible = All-nil IsLegible; written = nothing old; rest = refl }

  pub one_gathered : (index next : ℕ) (e : Entry) (lines lines' : List ℕ) → next ≡ suc index → slice_get entries index ≡ Some e → IsLegible e → lines' ≡ lines ++ entries_text (e ∷ [])
      → IsGathered old now entries index lines → IsGathered old now entries next lines'
  one_gathered index next e lines lines' next_is there legible more so_far = record {
    count = so_far.count;
    most = omega (arith, so_far.most, next_is);
    legible = subst (λ (n : ℕ). AreLegible (take n entries)) (sym next_is) (legible_next entries index e there legible so_far.legible);
    written = so_far.written;
    rest =
        ap (λ (n : ℕ). entries_text (take n entries)) next_is ∙ text_and_next entries index e there ∙ ap (λ (l : List ℕ). l ++ entries_text (e ∷ [])) so_far.rest
        ∙ append_assoc (entries_text (take so_far.count entries)) lines (entries_text (e ∷ [])) ∙ ap (λ (l : List ℕ). entries_text (take so_far.count entries) ++ l) (sym more);
  }

  module _ (index : ℕ) (text : List ℕ) (new : Option (List ℕ)) (so_far : IsGathered old now entries index text) where
    with_lines : Appends now new text → Appends old new (entries_text (take index entries))
    with_lines more = subst (Appends old new) (sym so_far.rest) (Appends-joined old now new (entries_text (take so_far.count entries)) text so_far.written more)

    pub gathered_written : Appends now new text → IsGathered old new entries index []
    gathered_written more = record {
      count = index;
      most = omega (arith);
      legible = so_far.legible;
      written = with_lines more;
      rest = sym (append-nil (entries_text (take index entries)));
    }

    -- a write failed: a part of the lines of the first ones
    pub gathered_cut : AppendsPart now new text → HasWrittenEntries entries lines.Cut old new
    gathered_cut part = (
      index,
      so_far.legible,
      subst (AppendsPart old new) (sym so_far.rest) (part_behind old now new (entries_text (take so_far.count entries)) text so_far.written part),
    )

    -- all are written
    pub all_written : length entries ≤ index → Appends now new text → HasWrittenEntries entries lines.Whole old new
    all_written all more =
        subst (λ (those : List Entry). AreLegible those × Appends old new (entries_text those)) (take_all index entries all) (so_far.legible, with_lines more)

-- memory ran out before all were gathered
pub lacking_told : (told : Result (Unit {0}) Untold) (entries : List Entry) (old now : Option (List ℕ)) (index : ℕ) (lines : List ℕ) → IsErrAnd told (λ why. why ≡ untold.NoMemory) → index < length entries → IsGathered old now entries index lines → HasWrittenEntries entries (lines_told told) old now
lacking_told (Ok x) entries old now index lines is more gathered = absurd is
lacking_told (Err why) entries old now index lines is more gathered =
    subst (λ (x : Untold). HasWrittenEntries entries (lines_told {A = Unit {0}} (Err x)) old now) (sym is)
    (gathered.count, omega (arith, gathered.most, more), legible_first entries gathered.count index gathered.most gathered.legible, gathered.written)

-- a write failed
pub cut_told : (told : Result (Unit {0}) Untold) (entries : List Entry) (old new : Option (List ℕ)) → IsErrAnd told (λ why. why ≡ untold.WriteFault) → HasWrittenEntries entries lines.Cut old new → HasWrittenEntries entries (lines_told told) old new
cut_told (Ok x) entries old new is part = absurd is
cut_told (Err why) entries old new is part = subst (λ (x : Untold). HasWrittenEntries entries (lines_told {A = Unit {0}} (Err x)) old new) (sym is) part

-- ---- the journal
-- its first line was not written whole
pub head_cut : (told : Result (Unit {0}) Untold) (h : Histories) (entries : List Entry) (old new : Option (List ℕ)) → IsMerged h entries → IsErrAnd told (λ why. why ≡ untold.WriteFault) → AppendsPart old new head_line → HasJournaled h (lines_told told) old new
head_cut (Ok x) h entries old new merged is part = absurd is
head_cut (Err why) h entries old new merged is part =
    subst (λ (x : Untold). HasJournaled h (lines_told {A = Unit {0}} (Err x)) old new) (sym is)
    (entries, merged, (0, All-nil IsLegible, subst (AppendsPart old new) (sym (append-nil head_line)) part))

-- behind its first line stand so many of the others
pub head_and_entries : (told : Lines) (h : Histories) (entries : List Entry) (old mid new : Option (List ℕ)) → IsMerged h entries → Appends old mid head_line → HasWrittenEntries entries told mid new → HasJournaled h told old new
head_and_entries lines.Whole h entries old mid new merged head written = (entries, merged, (written.0, Appends-joined old mid new head_line (entries_text entries) head written.1))
head_and_entries lines.Cut h entries old mid new merged head written =
    (entries, merged, (written.0, written.1, part_behind old mid new head_line (entries_text (take written.0 entries)) head written.2))
head_and_entries lines.Lacking h entries old mid new merged head written =
    inr (entries, merged, (written.0, written.1, written.2, Appends-joined old mid new head_line (entries_text (take written.0 entries)) head written.3))
