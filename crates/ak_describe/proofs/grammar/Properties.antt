-- The further words of the lines of properties and elements.
use Rattle.std.proofs.Common.{◌≡◌, ◌≢◌, ◌↔◌, ℕ, Bool, true, List, [], ◌∷◌, ◌++◌, Option, Some, None, refl, sym, ap, subst, ◌∙◌, arith}
use Rattle.std.specs.Prelude.{codes}
use Rattle.std.specs.Str.{bytes_eq}
use Rattle.std.proofs.lemmas.Bool.{eq-eqb}
use Rattle.std.proofs.lemmas.List.{append-nil}
use Rattle.std.proofs.lemmas.Slice.Eq.{bytes_eq-Decides}
use Rattle.ak_base.specs.Word.{is_word}
use Rattle.ak_base.specs.declared.code.Code.{Code}
use Rattle.ak_message.specs.declared.kind.Kind.{Kind}
use Rattle.ak_message.specs.declared.kind.Kind.TheVariants as k
use Rattle.ak_message.specs.Kind.{kind_letters, code_of_kind, is_same_kind, same_kind-is}
use Rattle.ak_message.specs.Message.{ValueData}
use Rattle.ak_base.specs.Option.{where_true, ◌>>=◌}
use Rattle.ak_base.specs.declared.limited.Limited.{Limited}
use Rattle.ak_base.specs.declared.limited.Limited.TheVariants.{Within, Over}
use Rattle.ak_input.specs.Reading.{Got, code_from, read_value}
use Rattle.ak_base.proofs.Surface.{bind_some, cond_some}
use Rattle.ak_input.specs.Written.{WritesNumber, code_of}
use Rattle.ak_describe.specs.declared.form.property.PropertyForm.{PropertyForm}
use Rattle.ak_describe.specs.Forms.{kind_at, form_of, commands_at, forms_at, text_behind, property_form, both, element_form}
use Rattle.ak_describe.specs.Grammar.{WritesCode, AreParts, IsTextPart, SaysProperty, IsElement, SaysElement}
use Rattle.ak_describe.specs.Made.{value_of_kind}
use Rattle.ak_describe.specs.Words.{kind_of, name_at, name_of, ends}
use Rattle.ak_describe.proofs.grammar.Choices.{chosen}
use Rattle.ak_describe.proofs.grammar.Codes.{code_again_is, code_takes_is}
use Rattle.ak_input.proofs.Surface.{values_are_written}
use Rattle.ak_describe.proofs.grammar.Numbers.{number_none, no_number}
use Rattle.ak_describe.proofs.grammar.Parts.{read_as, ends_nil, all_of, NotFirst, IsStop, IsBehind, name_at-takes, name_at-again, word_at, word_at-takes, word_at-again, parts_take, parts_again, parts_begin, form_takes, form_again, text_part_takes, text_part_again, text_begins_all}

-- ---- the letters of a kind that is not the one of messages
abbrev property_kinds : List Kind
property_kinds = k.Bool ∷ k.Int8 ∷ k.Int16 ∷ k.Int32 ∷ k.Int64 ∷ k.UInt8 ∷ k.UInt16 ∷ k.UInt32 ∷ k.UInt64 ∷ k.Text ∷ k.Messenger ∷ k.Raw ∷ []

letters_take : (word : List ℕ) (kind : Kind) → kind_of word ≡ Some kind → word ≡ kind_letters kind
letters_take word kind e = chosen bytes_eq bytes_eq-Decides kind_letters word property_kinds kind e

no_message : (word : List ℕ) (kind : Kind) → kind_of word ≡ Some kind → kind ≢ k.Message
no_message word kind e is =
    let letters : word ≡ codes "MSGG" = letters_take word kind e ∙ ap kind_letters is in
    let none : kind_of word ≡ None = ap kind_of letters in
    absurd cc

letters_again : (kind : Kind) → kind ≢ k.Message → kind_of (kind_letters kind) ≡ Some kind
letters_again k.Bool other = refl
letters_again k.Int8 other = refl
letters_again k.Int16 other = refl
letters_again k.Int32 other = refl
letters_again k.Int64 other = refl
letters_again k.UInt8 other = refl
letters_again k.UInt16 other = refl
letters_again k.UInt32 other = refl
letters_again k.UInt64 other = refl
letters_again k.Text other = refl
letters_again k.Message other = absurd (other refl)
letters_again k.Messenger other = refl
letters_again k.Raw other = refl

-- ---- keys are no codes, and no numbers
no_code_forms : code_of (codes "forms") ≡ None
unfolding code_from
no_code_forms = refl

no_code_usage : code_of (codes "usage") ≡ None
unfolding code_from
no_code_usage = refl

no_form_usage : form_of (codes "usage") ≡ None
no_form_usage = number_none 1 7 (codes "usage") (omega arith) (λ n written. no_number 1 7 117 (codes "sage") n (omega arith) (omega arith) written)

-- ---- properties
abbrev property_with : List ℕ → Kind → List Code → List ℕ → Limited (List ℕ) → PropertyForm
property_with name kind commands forms usage = record { name = name; kind = kind; commands = commands; forms = forms; usage = usage }

abbrev with_usage : List ℕ → Kind → List Code → List ℕ → Limited (List ℕ) × List (List ℕ) → Option PropertyForm
with_usage name kind commands forms usage = where_true (ends usage.1) (property_with name kind commands forms usage.0)

abbrev with_forms : List ℕ → Kind → List Code → List ℕ × List (List ℕ) → Option PropertyForm
with_forms name kind commands forms = text_behind forms.1 (codes "usage") >>= λ (usage : Limited (List ℕ) × List (List ℕ)). with_usage name kind commands forms.0 usage

abbrev with_commands : List ℕ → Kind → List Code × List (List ℕ) → Option PropertyForm
with_commands name kind commands = forms_at commands.1 >>= λ (forms : List ℕ × List (List ℕ)). with_forms name kind commands.0 forms

abbrev with_kind : List ℕ → Kind × List (List ℕ) → Option PropertyForm
with_kind name kind = commands_at kind.1 >>= λ (commands : List Code × List (List ℕ)). with_commands name kind.0 commands

abbrev with_name : List ℕ × List (List ℕ) → Option PropertyForm
with_name name = kind_at name.1 >>= λ (kind : Kind × List (List ℕ)). with_kind name.0 kind

property_of : (words after_name after_kind after_commands after_forms rest : List (List ℕ)) (name : List ℕ) (kind : Kind) (commands : List Code) (forms : List ℕ) (usage : Limited (List ℕ)) → (words ≡ name ∷ after_name) × (is_word name ≡ true)
    → (after_name ≡ kind_letters kind ∷ after_kind) × (kind ≢ k.Message) → IsBehind (AreParts (codes "commands") WritesCode) commands after_kind after_commands → IsBehind (AreParts (codes "forms") (WritesNumber 1 7)) forms after_commands after_forms
    → IsBehind (IsTextPart (codes "usage")) usage after_forms rest → rest ≡ [] → SaysProperty words (property_with name kind commands forms usage)
property_of words after_name after_kind after_commands after_forms rest name kind commands forms usage n l command_part form_part usage_part none =
    let last = all_of after_forms usage_part.0 rest usage_part.1 none in
    let parts = command_part.1 ∙ ap (λ (ws : List (List ℕ)). command_part.0 ++ ws) (form_part.1 ∙ ap (λ (ws : List (List ℕ)). form_part.0 ++ ws) last) in
    record {
      command_part = command_part.0;
      form_part = form_part.0;
      usage_part = usage_part.0;
      all = n.0 ∙ ap (λ (ws : List (List ℕ)). name ∷ ws) (l.0 ∙ ap (λ (ws : List (List ℕ)). kind_letters kind ∷ ws) parts);
      name_is = n.1;
      kind_is = l.1;
      commands_are = command_part.2;
      forms_are = form_part.2;
      usage_is = usage_part.2;
    }

letters_at : (words : List (List ℕ)) (kind : Kind) (rest : List (List ℕ)) → word_at kind_of words ≡ read_as kind rest → (words ≡ kind_letters kind ∷ rest) × (kind ≢ k.Message)
letters_at words kind rest e =
    let w = word_at-takes kind_of words kind rest e in
    (w.1 ∙ ap (λ (v : List ℕ). v ∷ rest) (letters_take w.0 kind w.2), no_message w.0 kind w.2)

property_takes : (words : List (List ℕ)) (p : PropertyForm) → property_form words ≡ Some p → SaysProperty words p
unfolding property_form name_at
property_takes words p e =
    let name = bind_some (word_at name_of words) with_name p e in
    let kind = bind_some (word_at kind_of name.0.1) (λ (kind : Kind × List (List ℕ)). with_kind name.0.0 kind) p name.2 in
    let commands = bind_some (commands_at kind.0.1) (λ (commands : List Code × List (List ℕ)). with_commands name.0.0 kind.0.0 commands) p kind.2 in
    let forms = bind_some (forms_at commands.0.1) (λ (forms : List ℕ × List (List ℕ)). with_forms name.0.0 kind.0.0 commands.0.0 forms) p commands.2 in
    let usage = bind_some (text_behind forms.0.1 (codes "usage")) (λ (usage : Limited (List ℕ) × List (List ℕ)). with_usage name.0.0 kind.0.0 commands.0.0 forms.0.0 usage) p forms.2 in
    let t = cond_some (ends usage.0.1) (property_with name.0.0 kind.0.0 commands.0.0 forms.0.0 usage.0.0) p usage.2 in
    subst (λ (q : PropertyForm). SaysProperty words q) {x = property_with name.0.0 kind.0.0 commands.0.0 forms.0.0 usage.0.0} {y = p} t.1
    (property_of words name.0.1 kind.0.1 commands.0.1 forms.0.1 usage.0.1 name.0.0 kind.0.0 commands.0.0 forms.0.0 usage.0.0 (name_at-takes words name.0.0 name.0.1 name.1) (letters_at name.0.1 kind.0.0 kind.0.1 kind.1)
    (parts_take code_of WritesCode (codes "commands") kind.0.1 commands.0.0 commands.0.1 code_takes_is commands.1) (parts_take form_of (WritesNumber 1 7) (codes "forms") commands.0.1 forms.0.0 forms.0.1 form_takes forms.1)
    (text_part_takes (codes "usage") forms.0.1 usage.0.0 usage.0.1 usage.1) (ends_nil usage.0.1 t.0))

property_again : (words : List (List ℕ)) (p : PropertyForm) → SaysProperty words p → property_form words ≡ Some p
unfolding property_form name_at
property_again words p is =
    let no_commands =
    parts_begin (WritesNumber 1 7) (codes "forms") p.forms is.form_part is.usage_part (λ ws. NotFirst (codes "commands") ws) is.forms_are
    (text_begins_all (codes "usage") p.usage is.usage_part (λ ws. NotFirst (codes "commands") ws) is.usage_is refl (λ more. refl)) (λ more. refl) in
    let no_code =
    parts_begin (WritesNumber 1 7) (codes "forms") p.forms is.form_part is.usage_part (λ ws. IsStop code_of ws) is.forms_are
    (text_begins_all (codes "usage") p.usage is.usage_part (λ ws. IsStop code_of ws) is.usage_is tt (λ more. no_code_usage)) (λ more. no_code_forms) in
    let no_forms = text_begins_all (codes "usage") p.usage is.usage_part (λ ws. NotFirst (codes "forms") ws) is.usage_is refl (λ more. refl) in
    let no_form = text_begins_all (codes "usage") p.usage is.usage_part (λ ws. IsStop form_of ws) is.usage_is tt (λ more. no_form_usage) in
    let name = name_at-again p.name (kind_letters p.kind ∷ (is.command_part ++ (is.form_part ++ is.usage_part))) is.name_is in
    let kind = word_at-again kind_of (kind_letters p.kind) (is.command_part ++ (is.form_part ++ is.usage_part)) p.kind (letters_again p.kind is.kind_is) in
    let commands = parts_again code_of WritesCode (codes "commands") is.command_part p.commands (is.form_part ++ is.usage_part) code_again_is no_commands no_code is.commands_are in
    let forms = parts_again form_of (WritesNumber 1 7) (codes "forms") is.form_part p.forms is.usage_part form_again no_forms no_form is.forms_are in
    let usage = subst (λ (ws : List (List ℕ)). text_behind ws (codes "usage") ≡ read_as p.usage []) (append-nil is.usage_part) (text_part_again (codes "usage") is.usage_part p.usage [] refl is.usage_is) in
    ap property_form is.all
    ∙ ap (λ (o : Option (List ℕ × List (List ℕ))). o >>= (λ (n : List ℕ × List (List ℕ)). with_name n)) name
    ∙ ap (λ (o : Option (Kind × List (List ℕ))). o >>= (λ (n : Kind × List (List ℕ)). with_kind p.name n)) kind
    ∙ ap (λ (o : Option (List Code × List (List ℕ))). o >>= (λ (n : List Code × List (List ℕ)). with_commands p.name p.kind n)) commands
    ∙ ap (λ (o : Option (List ℕ × List (List ℕ))). o >>= (λ (n : List ℕ × List (List ℕ)). with_forms p.name p.kind p.commands n)) forms
    ∙ ap (λ (o : Option (Limited (List ℕ) × List (List ℕ))). o >>= (λ (n : Limited (List ℕ) × List (List ℕ)). with_usage p.name p.kind p.commands p.forms n)) usage

pub property_is_read : (words : List (List ℕ)) (p : PropertyForm) → SaysProperty words p ↔ (property_form words ≡ Some p)
property_is_read words p = (λ is. property_again words p is, λ e. property_takes words p e)

-- ---- elements
abbrev got_as : Kind → Limited ValueData → Got
got_as kind value = record { kind = kind; value = value }

abbrev some_got : Got → Option Got
some_got g = Some g

value_takes : (kind : Kind) (word : List ℕ) (value : Limited ValueData) → value_of_kind kind word ≡ Some value → read_value word ≡ Some (got_as kind value)
unfolding value_of_kind
value_takes kind word value e =
    let g = bind_some (read_value word) (λ (g : Got). where_true (is_same_kind g.kind kind) g.value) value e in
    let t = cond_some (is_same_kind g.0.kind kind) g.0.value value g.2 in
    g.1 ∙ ap (λ (x : Kind). some_got (got_as x g.0.value)) (same_kind-is g.0.kind kind t.0) ∙ ap (λ (v : Limited ValueData). some_got (got_as kind v)) t.1

value_again : (kind : Kind) (word : List ℕ) (value : Limited ValueData) → read_value word ≡ Some (got_as kind value) → value_of_kind kind word ≡ Some value
unfolding value_of_kind
value_again kind word value is =
    ap (λ (o : Option Got). o >>= (λ (g : Got). where_true (is_same_kind g.kind kind) g.value)) is
    ∙ ap (λ (b : Bool). where_true b value) (eq-eqb (code_of_kind kind) (code_of_kind kind) refl)

pub value_is_read : (kind : Kind) (word : List ℕ) (value : Limited ValueData) → (read_value word ≡ Some (record { kind = kind; value = value })) ↔ (value_of_kind kind word ≡ Some value)
value_is_read kind word value = (λ is. value_again kind word value is, λ e. value_takes kind word value e)

both_are : (name : Limited (List ℕ)) (value : Limited ValueData) (e : Limited (List ℕ × ValueData)) → both name value ≡ e → IsElement name value e
both_are (Within name) (Within value) e is = sym is
both_are Over value e is = sym is
both_are (Within name) Over e is = sym is

are_both : (name : Limited (List ℕ)) (value : Limited ValueData) (e : Limited (List ℕ × ValueData)) → IsElement name value e → both name value ≡ e
are_both (Within name) (Within value) e is = sym is
are_both Over value e is = sym is
are_both (Within name) Over e is = sym is

abbrev with_both : Limited ValueData → Limited (List ℕ) × List (List ℕ) → Option (Limited (List ℕ × ValueData))
with_both value name = where_true (ends name.1) (both name.0 value)

abbrev with_value : List (List ℕ) → Limited ValueData → Option (Limited (List ℕ × ValueData))
with_value words value = text_behind words (codes "name") >>= λ (name : Limited (List ℕ) × List (List ℕ)). with_both value name

abbrev some_element : Limited (List ℕ × ValueData) → Option (Limited (List ℕ × ValueData))
some_element x = Some x

element_of : (kind : Kind) (word : List ℕ) (words rest : List (List ℕ)) (value : Limited ValueData) (name : Limited (List ℕ)) (e : Limited (List ℕ × ValueData)) → read_value word ≡ Some (got_as kind value) → IsBehind (IsTextPart (codes "name")) name words rest
    → rest ≡ [] → both name value ≡ e → SaysElement kind (word ∷ words) e
element_of kind word words rest value name e read part none kept =
    record {
      word = word;
      part = part.0;
      all = ap (λ (ws : List (List ℕ)). word ∷ ws) (all_of words part.0 rest part.1 none);
      value = value;
      value_is = (values_are_written word (got_as kind value)).1 read;
      name = name;
      name_is = part.2;
      kept = both_are name value e kept;
    }

element_takes : (kind : Kind) (words : List (List ℕ)) (e : Limited (List ℕ × ValueData)) → element_form kind words ≡ Some e → SaysElement kind words e
unfolding element_form
element_takes kind [] e h = absurd cc
element_takes kind (w ∷ words) e h =
    let value = bind_some (value_of_kind kind w) (λ (v : Limited ValueData). with_value words v) e h in
    let name = bind_some (text_behind words (codes "name")) (λ (n : Limited (List ℕ) × List (List ℕ)). with_both value.0 n) e value.2 in
    let t = cond_some (ends name.0.1) (both name.0.0 value.0) e name.2 in
    element_of kind w words name.0.1 value.0 name.0.0 e (value_takes kind w value.0 value.1) (text_part_takes (codes "name") words name.0.0 name.0.1 name.1) (ends_nil name.0.1 t.0) t.1

element_again : (kind : Kind) (words : List (List ℕ)) (e : Limited (List ℕ × ValueData)) → SaysElement kind words e → element_form kind words ≡ Some e
unfolding element_form
element_again kind words e is =
    let name = subst (λ (ws : List (List ℕ)). text_behind ws (codes "name") ≡ read_as is.name []) (append-nil is.part) (text_part_again (codes "name") is.part is.name [] refl is.name_is) in
    ap (element_form kind) is.all
    ∙ ap (λ (o : Option (Limited ValueData)). o >>= (λ (v : Limited ValueData). with_value is.part v)) (value_again kind is.word is.value ((values_are_written is.word (got_as kind is.value)).0 is.value_is))
    ∙ ap (λ (o : Option (Limited (List ℕ) × List (List ℕ))). o >>= (λ (n : Limited (List ℕ) × List (List ℕ)). with_both is.value n)) name
    ∙ ap (λ (x : Limited (List ℕ × ValueData)). some_element x) (are_both is.name is.value e is.kept)

pub element_is_read : (kind : Kind) (words : List (List ℕ)) (e : Limited (List ℕ × ValueData)) → SaysElement kind words e ↔ (element_form kind words ≡ Some e)
element_is_read kind words e = (λ is. element_again kind words e is, λ h. element_takes kind words e h)
