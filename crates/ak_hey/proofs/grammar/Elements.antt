-- The elements that a word says are read of it, and no others.
use Rattle.std.proofs.Common.{◌≡◌, ◌↔◌, ℕ, Bool, true, false, cond, List, [], ◌∷◌, Some, refl, sym, subst}
use Rattle.std.specs.Prelude.{◌==◌, option_map}
use Rattle.std.specs.List.{starts_with}
use Rattle.ak_base.specs.declared.limited.Limited.{Limited}
use Rattle.ak_base.specs.declared.limited.Limited.TheVariants.{Within, Over}
use Rattle.ak_message.specs.declared.specifier.At.{At}
use Rattle.ak_message.specs.declared.specifier.At.TheVariants as at
use Rattle.ak_input.specs.MessageText.{quoted}
use Rattle.ak_input.specs.Said.{WritesText}
use Rattle.ak_input.specs.Written.{quoted_text}
use Rattle.ak_input.proofs.Surface.{mapped_some, texts_are_written}
use Rattle.ak_hey.specs.Bracketed.{IsBracket}
use Rattle.ak_hey.specs.Brackets.{bracket_at}
use Rattle.ak_hey.specs.Grammar.{AreElements}
use Rattle.ak_hey.specs.Hey.{bracket, elements, named}
use Rattle.ak_hey.proofs.grammar.Bracketing.{brackets_are_read}

-- ---- what is said is read
-- a text in quotes begins with no bracket
by_name : (word bytes : List ℕ) (text : Limited (List ℕ)) → word ≡ quoted bytes → quoted_text word ≡ Some text → elements word ≡ Some (named text)
by_name word bytes text is read =
    let other : starts_with ◌==◌ word (91 ∷ []) ≡ false = subst (λ (w : List ℕ). starts_with ◌==◌ w (91 ∷ []) ≡ false) (sym is) refl in
    rw (other, read) refl

by_bracket : (word : List ℕ) (a : At) → IsBracket word a → elements word ≡ Some (Within a)
by_bracket word a is =
    let begins : starts_with ◌==◌ word (91 ∷ []) ≡ true = subst (λ (w : List ℕ). starts_with ◌==◌ w (91 ∷ []) ≡ true) (sym is.2) refl in
    rw (begins, (brackets_are_read word a).1 is) refl

again : (word : List ℕ) (a : Limited At) → AreElements word a → elements word ≡ Some a
again word Over is = by_name word is.bytes Over is.text_is ((texts_are_written word Over).0 is)
again word (Within (at.Name name)) is = by_name word name (Within name) is.0 ((texts_are_written word (Within name)).0 is)
again word (Within at.Direct) is = absurd is
again word (Within (at.Index z)) is = by_bracket word (at.Index z) is
again word (Within (at.Reverse z)) is = by_bracket word (at.Reverse z) is
again word (Within (at.Id z)) is = by_bracket word (at.Id z) is
again word (Within (at.Range z count)) is = by_bracket word (at.Range z count) is
again word (Within (at.ReverseRange z count)) is = by_bracket word (at.ReverseRange z count) is

-- ---- what is read is said
bracket_said : (word : List ℕ) (a : At) → IsBracket word a → AreElements word (Within a)
bracket_said word at.Direct is = absurd is.4
bracket_said word (at.Name name) is = absurd is.4
bracket_said word (at.Index z) is = is
bracket_said word (at.Reverse z) is = is
bracket_said word (at.Id z) is = is
bracket_said word (at.Range z count) is = is
bracket_said word (at.ReverseRange z count) is = is

name_said : (word : List ℕ) (text : Limited (List ℕ)) → WritesText word text → AreElements word (named text)
name_said word Over is = is
name_said word (Within name) is = is

takes : (word : List ℕ) (a : Limited At) → elements word ≡ Some a → AreElements word a
takes word a e = by_test (starts_with ◌==◌ word (91 ∷ [])) e where
  by_test : (b : Bool) → cond b (bracket word) (option_map named (quoted_text word)) ≡ Some a → AreElements word a
  by_test true e =
      let m = mapped_some (λ (x : At). Within x) (bracket_at word) a e in
      subst (λ (x : Limited At). AreElements word x) m.2 (bracket_said word m.0 ((brackets_are_read word m.0).0 m.1))
  by_test false e =
      let m = mapped_some named (quoted_text word) a e in
      subst (λ (x : Limited At). AreElements word x) m.2 (name_said word m.0 ((texts_are_written word m.0).1 m.1))

pub elements_are_written : (word : List ℕ) (a : Limited At) → AreElements word a ↔ (elements word ≡ Some a)
elements_are_written word a = (λ is. again word a is, λ e. takes word a e)
