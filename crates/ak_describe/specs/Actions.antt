-- The further words of the lines of actions, for a handler with these properties. Of what passes a limit nothing is kept.
use Rattle.std.specs.Prelude.{ℕ, Bool, true, false, ◌==◌, nat_le, if◌then◌else◌, List, [], ◌∷◌, ◌++◌, length, filter, codes, Option, Some, None, option_map}
use Rattle.std.specs.List.{list_any}
use Rattle.std.specs.Str.{bytes_eq}
use Rattle.ak_base.specs.declared.app_word.AppWord.{AppWord}
use Rattle.ak_base.specs.declared.app_word.AppWord.TheVariants as app
use Rattle.ak_base.specs.declared.code.Code.{Code}
use Rattle.ak_base.specs.declared.limited.Limited.{Limited}
use Rattle.ak_base.specs.declared.limited.Limited.TheVariants.{Within, Over}
use Rattle.ak_base.specs.Limited.{limited_map}
use Rattle.ak_message.specs.Message.{ValueData, FieldData, MessageData}
use Rattle.ak_base.specs.Option.{where_true, ◌>>=◌}
use Rattle.ak_input.specs.Reading.{field_split}
use Rattle.ak_input.specs.Written.{app_word_of}
use Rattle.ak_flatten.specs.Spelling.{spelling}
use Rattle.ak_flatten.specs.Limits.{flat_limit}
use Rattle.ak_action.specs.declared.action.Action.{Action}
use Rattle.ak_action.specs.declared.action.Action.TheVariants as action
use Rattle.ak_action.specs.declared.action.Dest.{Dest}
use Rattle.ak_action.specs.declared.action.Dest.TheVariants as dest
use Rattle.ak_action.specs.declared.template.Given.{Given}
use Rattle.ak_action.specs.declared.template.Given.TheVariants as gets
use Rattle.ak_action.specs.declared.template.Template.{Template}
use Rattle.ak_action.specs.declared.template.TemplateFault.{TemplateFault}
use Rattle.ak_action.specs.declared.template.TemplateFault.TheVariants as fault
use Rattle.ak_action.specs.declared.template.TemplateField.{TemplateField}
use Rattle.ak_action.specs.Building.{field_of_values}
use Rattle.ak_action.specs.Template.{add_fault}
use Rattle.ak_action.specs.Values.{ValuesData, is_shallow}
use Rattle.ak_describe.specs.declared.parts.PropertyParts.{PropertyParts}
use Rattle.ak_describe.specs.Made.{values_from, one_from, number_from, limited_then}
use Rattle.ak_describe.specs.Parts.{property_named}
use Rattle.ak_describe.specs.Words.{first_of, last_of, ends, name_at, code_at, name_of}

-- ---- where it is sent: `self`, `looper NAME`, `handler NAME` or `app APP`
abbrev pub to_looper : List (List ℕ) → Option (Dest × List (List ℕ))
to_looper words = name_at words >>= λ name. Some (dest.Looper name.0, name.1)

abbrev pub to_handler : List (List ℕ) → Option (Dest × List (List ℕ))
to_handler words = name_at words >>= λ name. Some (dest.Handler name.0, name.1)

abbrev pub to_app : List (List ℕ) → Option (Dest × List (List ℕ))
to_app words = first_of words >>= λ word. app_word_of word.0 >>= λ a. Some (dest.App a, word.1)

abbrev pub dest_behind : List ℕ → List (List ℕ) → Option (Dest × List (List ℕ))
dest_behind word words =
    if bytes_eq word (codes "self") then Some (dest.Own, words)
    else if bytes_eq word (codes "looper") then to_looper words
    else if bytes_eq word (codes "handler") then to_handler words
    else if bytes_eq word (codes "app") then to_app words
    else None

unfoldable pub dest_at : List (List ℕ) → Option (Dest × List (List ℕ))
dest_at words = first_of words >>= λ word. dest_behind word.0 word.1

-- what is asked: a looper, or an application that is not given by the number of a team
abbrev pub is_described : AppWord → Bool
is_described (app.Team team) = false
is_described (app.Path path) = true
is_described (app.Signature signature) = true
is_described (app.Name name) = true

abbrev pub may_be_asked : Dest → Bool
may_be_asked dest.Own = false
may_be_asked (dest.Looper name) = true
may_be_asked (dest.Handler name) = false
may_be_asked (dest.App word) = is_described word

-- ---- what a field gets: `$NAME` alone, `@NAME` alone, or values
-- the name of a property that the handler has
abbrev pub property_name : List PropertyParts → List ℕ → Option (List ℕ)
property_name properties word = property_named properties word >>= λ _. name_of word

-- the name behind the sign; none where the first byte is neither sign
abbrev pub copied_by : List PropertyParts → ℕ → List ℕ → Option (Option Given)
copied_by properties sign name =
    if sign == 36 then (name_of name >>= λ n. Some (Some (gets.Field n)))
    else if sign == 64 then (property_name properties name >>= λ n. Some (Some (gets.Property n)))
    else Some None

abbrev pub copied_from : List PropertyParts → List ℕ → Option (Option Given)
copied_from properties [] = Some None
copied_from properties (sign ∷ name) = copied_by properties sign name

abbrev pub given_values : Limited ValuesData → Limited Given
given_values values = limited_map gets.Values values

-- what is copied, or else the values
abbrev pub copied_or : Option Given → Option (Limited ValuesData) → Option (Limited Given)
copied_or (Some g) values = Some (Within g)
copied_or None values = option_map given_values values

unfoldable pub given_from : List PropertyParts → List ℕ → Option (Limited Given)
given_from properties text = copied_from properties text >>= λ copied. copied_or copied (values_from text)

-- one value alone
unfoldable pub set_given : List PropertyParts → List ℕ → Option (Limited Given)
set_given properties word = copied_from properties word >>= λ copied. copied_or copied (one_from word)

-- ---- the message of an action: a code, and then a field in each word
-- the names of the fields, and the fields where they pass no limit
pub record Built : Type 0 where
  pub names : List (List ℕ)
  pub fields : Limited (List TemplateField)

abbrev pub has_name : List (List ℕ) → List ℕ → Bool
has_name names name = list_any (λ other. bytes_eq other name) names

-- over 64 fields pass the limit
abbrev pub field_kept : Option TemplateFault → List TemplateField → Option (Limited (List TemplateField))
field_kept None fields = Some (Within fields)
field_kept (Some fault.FieldLimit) fields = Some Over
field_kept (Some fault.BadName) fields = None
field_kept (Some fault.NameInUse) fields = None
field_kept (Some fault.NoMemory) fields = None

-- the fields and one more, where they and it pass no limit
abbrev pub with_field : Limited (List TemplateField) → List ℕ → Limited Given → Option (Limited (List TemplateField))
with_field Over name g = Some Over
with_field (Within fields) name Over = Some Over
with_field (Within fields) name (Within g) = field_kept (add_fault fields name) (fields ++ (record { name = name; given = g }) ∷ [])

abbrev pub named_too : Built → List ℕ → Limited Given → Option Built
named_too b name g = do
  n ← name_of name
  fields ← with_field b.fields n g
  Some (record { names = b.names ++ name ∷ []; fields = fields })

-- its name has to be a new one
abbrev pub field_added : Built → List ℕ → Limited Given → Option Built
field_added b name g = if has_name b.names name then None else named_too b name g

unfoldable pub field_behind : List PropertyParts → Built → List ℕ → Option Built
field_behind properties b word = do
  field ← field_split word
  g ← given_from properties field.1
  field_added b field.0 g

unfoldable pub fields_behind : List PropertyParts → Built → List (List ℕ) → Option Built
fields_behind properties b [] = Some b
fields_behind properties b (word ∷ words) = field_behind properties b word >>= λ more. fields_behind properties more words

-- ---- its length: that of the message of the written values alone, of which no message holds one that is too deep
abbrev pub written_values : Given → List ValueData
written_values (gets.Values v) = filter is_shallow v.list
written_values (gets.Field name) = []
written_values (gets.Property name) = []

abbrev pub written_fields : List TemplateField → List FieldData
written_fields [] = []
written_fields (f ∷ fs) = field_of_values f.name (written_values f.given) ++ written_fields fs

abbrev pub written : Code → List TemplateField → MessageData
written what fields = record { what = what.0; fields = written_fields fields; popped = 0 }

-- at most 4,096 bytes of flat text
abbrev pub short_template : Code → List TemplateField → Limited Template
short_template what fields =
    if nat_le (length (spelling (written what fields))) flat_limit then Within (record { what = what; fields = fields }) else Over

abbrev pub nothing_built : Built
nothing_built = record { names = []; fields = Within [] }

unfoldable pub template_form : List PropertyParts → List (List ℕ) → Option (Limited Template)
template_form properties words = do
  what ← code_at words
  b ← fields_behind properties nothing_built what.1
  Some (limited_then (short_template what.0) b.fields)

-- ---- lines of actions
-- `MESSAGE`
unfoldable pub reply_form : List PropertyParts → List (List ℕ) → Option (Limited Action)
reply_form properties words = option_map (λ (t : Limited Template). limited_map action.Reply t) (template_form properties words)

abbrev pub back_at : List (List ℕ) → Option (List ℕ × List (List ℕ)) → Bool × List (List ℕ)
back_at words None = (false, words)
back_at words (Some last) = if bytes_eq last.0 (codes "back") then (true, last.1) else (false, words)

-- whether the last word is `back`, and the words before it
abbrev pub back_behind : List (List ℕ) → Bool × List (List ℕ)
back_behind words = back_at words (last_of words)

abbrev pub post_action : Dest → Bool → Limited Template → Limited Action
post_action to back t = limited_map (λ (m : Template). action.Post to m back) t

-- `DEST MESSAGE [back]`
unfoldable pub post_form : List PropertyParts → List (List ℕ) → Option (Limited Action)
post_form properties words = do
  to ← dest_at words
  t ← template_form properties (back_behind to.1).1
  Some (post_action to.0 (back_behind to.1).0 t)

-- the word behind `into`, where this is the last word but one, and the words before it
unfoldable pub into_at_end : List (List ℕ) → Option (List ℕ × List (List ℕ))
into_at_end words = do
  name ← last_of words
  key ← last_of name.1
  where_true (bytes_eq key.0 (codes "into")) (name.0, key.1)

abbrev pub into_found : List PropertyParts → List (List ℕ) → Option (List ℕ × List (List ℕ)) → Option (Option (List ℕ) × List (List ℕ))
into_found properties words None = Some (None, words)
into_found properties words (Some last) = property_name properties last.0 >>= λ name. Some (Some name, last.1)

abbrev pub into_behind : List PropertyParts → List (List ℕ) → Option (Option (List ℕ) × List (List ℕ))
into_behind properties words = into_found properties words (into_at_end words)

abbrev pub ask_action : Dest → Option (List ℕ) → Limited Template → Limited Action
ask_action to into t = limited_map (λ (m : Template). action.Ask to m into) t

-- `DEST MESSAGE [into NAME]`, to what may be asked
unfoldable pub ask_form : List PropertyParts → List (List ℕ) → Option (Limited Action)
ask_form properties words = do
  to ← dest_at words
  asked ← where_true (may_be_asked to.0) to.1
  into ← into_behind properties asked
  t ← template_form properties into.1
  Some (ask_action to.0 into.0 t)

-- two words and no more
unfoldable pub two_words : List (List ℕ) → Option (List ℕ × List ℕ)
two_words words = do
  first ← first_of words
  second ← first_of first.1
  where_true (ends second.1) (first.0, second.0)

abbrev pub set_action : List ℕ → Limited Given → Limited Action
set_action property g = limited_map (λ (value : Given). action.Set property value) g

-- `NAME VALUE`, `NAME $NAME` or `NAME @NAME`
unfoldable pub set_form : List PropertyParts → List (List ℕ) → Option (Limited Action)
set_form properties words = do
  two ← two_words words
  property ← property_name properties two.0
  g ← set_given properties two.1
  Some (set_action property g)

-- `NAME VALUE`, the value a whole number of the property's kind; no limit can be passed
unfoldable pub add_form : List PropertyParts → List (List ℕ) → Option Action
add_form properties words = do
  two ← two_words words
  parts ← property_named properties two.0
  amount ← number_from parts.row.kind two.1
  property ← name_of two.0
  Some (action.Add property amount)
