-- What the lines of descriptions say, as a relation on words, apart from how they are read: to be read beside docs/language.md.
-- Values and texts are what words of an input say (ak_input); where one passes a limit, the line is of its form and says none.
use Rattle.std.specs.Prelude.{◌≡◌, ◌≢◌, ℕ, ◌<◌, nat_le, Bool, true, false, ◌&&◌, if◌then◌else◌, ◌⊎◌, List, [], ◌∷◌, ◌++◌, length, slice_index_or, codes, Any, Option, Some, None}
use Rattle.std.specs.List.{AllZip}
use Rattle.ak_base.specs.Word.{is_word}
use Rattle.ak_base.specs.declared.app_word.AppWord.TheVariants as app
use Rattle.ak_base.specs.declared.code.Code.{Code}
use Rattle.ak_base.specs.declared.limited.Limited.{Limited}
use Rattle.ak_base.specs.declared.limited.Limited.TheVariants.{Within, Over}
use Rattle.ak_base.specs.Limited.{limited_map}
use Rattle.ak_base.specs.Limits.{capacity_limit}
use Rattle.ak_filter.specs.declared.filter.DeliveryIs.{DeliveryIs}
use Rattle.ak_filter.specs.declared.filter.DeliveryIs.TheVariants as ways
use Rattle.ak_filter.specs.declared.filter.Filter.{Filter}
use Rattle.ak_filter.specs.declared.filter.SourceIs.{SourceIs}
use Rattle.ak_filter.specs.declared.filter.SourceIs.TheVariants as sides
use Rattle.ak_message.specs.declared.kind.Kind.{Kind}
use Rattle.ak_message.specs.declared.kind.Kind.TheVariants as k
use Rattle.ak_message.specs.Kind.{kind_letters}
use Rattle.ak_message.specs.Message.{ValueData, kind_of}
use Rattle.ak_input.specs.Got.{got}
use Rattle.ak_input.specs.Said.{WritesValue, WritesValues}
use Rattle.ak_flatten.specs.Spelling.{spelling}
use Rattle.ak_action.specs.declared.action.Action.{Action}
use Rattle.ak_action.specs.declared.action.Action.TheVariants as action
use Rattle.ak_action.specs.declared.action.Dest.{Dest}
use Rattle.ak_action.specs.declared.action.Dest.TheVariants as dest
use Rattle.ak_action.specs.declared.number.Number.{Number}
use Rattle.ak_action.specs.declared.template.Given.{Given}
use Rattle.ak_action.specs.declared.template.Given.TheVariants as gets
use Rattle.ak_action.specs.declared.template.Template.{Template}
use Rattle.ak_action.specs.declared.template.TemplateField.{TemplateField}
use Rattle.ak_action.specs.Number.{number_value}
use Rattle.ak_action.specs.Values.{one_value}
use Rattle.ak_roster.specs.declared.head.Mode.{Mode}
use Rattle.ak_roster.specs.declared.head.Mode.TheVariants as mode
use Rattle.ak_message.specs.Limits.{field_limit}
use Rattle.ak_flatten.specs.Limits.{flat_limit}
use Rattle.ak_describe.specs.declared.form.heads.AppForm.{AppForm}
use Rattle.ak_describe.specs.declared.form.heads.LooperForm.{LooperForm}
use Rattle.ak_describe.specs.declared.form.property.PropertyForm.{PropertyForm}
use Rattle.ak_describe.specs.declared.parts.PropertyParts.{PropertyParts}
use Rattle.ak_describe.specs.Actions.{written}
use Rattle.ak_describe.specs.Made.{is_short}
use Rattle.ak_describe.specs.Parts.{property_named}
use Rattle.ak_base.specs.AppName.{is_path, is_signature}
use Rattle.ak_input.specs.Written.{WritesNumber}
use Rattle.ak_describe.specs.Limits.{usual_capacity, form_limit}
pub use Rattle.ak_input.specs.Said.{IsTeamText, SaysAppWord, WritesCode, WritesText}

-- ---- words
abbrev pub IsName : List ℕ → List ℕ → Type 0
IsName word name = (is_word word ≡ true) × (word ≡ name)

abbrev pub mode_word : Mode → List ℕ
mode_word mode.Single = codes "single"
mode_word mode.Multiple = codes "multiple"
mode_word mode.Exclusive = codes "exclusive"

-- ---- parts that may be left out
-- no words, or the key and a word
abbrev pub IsPart : {A : Type 0} → List ℕ → (List ℕ → A → Type 0) → Option A → List (List ℕ) → Type 0
IsPart key Writes None words = words ≡ []
IsPart key Writes (Some x) words = (word : List ℕ) × (words ≡ key ∷ word ∷ []) × Writes word x

-- no words where there is none, or the key and a word for each
abbrev pub AreParts : {A : Type 0} → List ℕ → (List ℕ → A → Type 0) → List A → List (List ℕ) → Type 0
AreParts key Writes [] words = words ≡ []
AreParts key Writes (x ∷ xs) words = (texts : List (List ℕ)) × (words ≡ key ∷ texts) × AllZip Writes texts (x ∷ xs)

-- a text behind the key, or the empty one where the key does not stand there
abbrev pub IsTextPart : List ℕ → Limited (List ℕ) → List (List ℕ) → Type 0
IsTextPart key text words =
    ((words ≡ []) × (text ≡ Within [])) ⊎ ((word : List ℕ) × (words ≡ key ∷ word ∷ []) × WritesText word text)

-- ---- heads
-- `PATH SIGNATURE MODE`
pub record SaysApp (words : List (List ℕ)) (f : AppForm) : Type 0 where
  pub all : words ≡ f.path ∷ f.signature ∷ mode_word f.mode ∷ []
  pub path_is : is_path f.path ≡ true
  pub signature_is : is_signature f.signature ≡ true

-- `NAME [capacity N]`: 100 where nothing is said
abbrev pub IsCapacity : ℕ → ℕ → List (List ℕ) → Type 0
IsCapacity least n words =
    ((words ≡ []) × (n ≡ usual_capacity)) ⊎ ((word : List ℕ) × (words ≡ codes "capacity" ∷ word ∷ []) × WritesNumber least capacity_limit word n)

pub record SaysLooper (least : ℕ) (words : List (List ℕ)) (f : LooperForm) : Type 0 where
  pub part : List (List ℕ)
  pub all : words ≡ f.name ∷ part
  pub name_is : is_word f.name ≡ true
  pub capacity_is : IsCapacity least f.capacity part

-- `NAME`, `CODE`
abbrev pub SaysName : List (List ℕ) → List ℕ → Type 0
SaysName words name = (words ≡ name ∷ []) × (is_word name ≡ true)

abbrev pub SaysCode : List (List ℕ) → Code → Type 0
SaysCode words code = (word : List ℕ) × (words ≡ word ∷ []) × WritesCode word code

-- ---- filters: `[what CODE] [from SIDE] [by WAY]`, and then `skip` or `pass [to NAME] [as CODE]`
abbrev pub IsSide : SourceIs → List (List ℕ) → Type 0
IsSide sides.Any words = words ≡ []
IsSide sides.Local words = words ≡ codes "from" ∷ codes "local" ∷ []
IsSide sides.Remote words = words ≡ codes "from" ∷ codes "remote" ∷ []

abbrev pub IsWay : DeliveryIs → List (List ℕ) → Type 0
IsWay ways.Any words = words ≡ []
IsWay ways.Dropped words = words ≡ codes "by" ∷ codes "dropped" ∷ []
IsWay ways.Programmed words = words ≡ codes "by" ∷ codes "programmed" ∷ []

pub record IsPassing (f : Filter) (words : List (List ℕ)) : Type 0 where
  pub to_part : List (List ℕ)
  pub as_part : List (List ℕ)
  pub all : words ≡ codes "pass" ∷ to_part ++ as_part
  pub to_is : IsPart (codes "to") IsName f.to to_part
  pub as_is : IsPart (codes "as") WritesCode f.set_what as_part

abbrev pub IsVerdict : Bool → Filter → List (List ℕ) → Type 0
IsVerdict true f words = (words ≡ codes "skip" ∷ []) × (f.to ≡ None) × (f.set_what ≡ None)
IsVerdict false f words = IsPassing f words

pub record SaysFilter (words : List (List ℕ)) (f : Filter) : Type 0 where
  pub what_part : List (List ℕ)
  pub side_part : List (List ℕ)
  pub way_part : List (List ℕ)
  pub verdict : List (List ℕ)
  pub all : words ≡ what_part ++ (side_part ++ (way_part ++ verdict))
  pub what_is : IsPart (codes "what") WritesCode f.what what_part
  pub side_is : IsSide f.source side_part
  pub way_is : IsWay f.delivery way_part
  pub verdict_is : IsVerdict f.skip f verdict

-- ---- properties and elements
-- `NAME KIND [commands CODE ...] [forms N ...] [usage TEXT]`, the forms from 1 to 7
pub record SaysProperty (words : List (List ℕ)) (p : PropertyForm) : Type 0 where
  pub command_part : List (List ℕ)
  pub form_part : List (List ℕ)
  pub usage_part : List (List ℕ)
  pub all : words ≡ p.name ∷ kind_letters p.kind ∷ command_part ++ (form_part ++ usage_part)
  pub name_is : is_word p.name ≡ true
  pub kind_is : p.kind ≢ k.Message
  pub commands_are : AreParts (codes "commands") WritesCode p.commands command_part
  pub forms_are : AreParts (codes "forms") (WritesNumber 1 form_limit) p.forms form_part
  pub usage_is : IsTextPart (codes "usage") p.usage usage_part

-- a name and a value, where neither passes a limit
abbrev pub IsElement : Limited (List ℕ) → Limited ValueData → Limited (List ℕ × ValueData) → Type 0
IsElement (Within name) (Within value) e = e ≡ Within (name, value)
IsElement Over value e = e ≡ Over
IsElement (Within name) Over e = e ≡ Over

-- `VALUE [name TEXT]`, the value of that kind
pub record SaysElement (kind : Kind) (words : List (List ℕ)) (e : Limited (List ℕ × ValueData)) : Type 0 where
  pub word : List ℕ
  pub part : List (List ℕ)
  pub all : words ≡ word ∷ part
  pub value : Limited ValueData
  pub value_is : WritesValue word (record { kind = kind; value = value })
  pub name : Limited (List ℕ)
  pub name_is : IsTextPart (codes "name") name part
  pub kept : IsElement name value e

-- ---- messages of actions
-- the handler has a property of that name
abbrev pub IsProperty : List PropertyParts → List ℕ → Type 0
IsProperty properties name = Any (λ (p : PropertyParts). p.row.name ≡ name) properties

-- `$NAME`, `@NAME`
abbrev pub IsCopied : List PropertyParts → List ℕ → Given → Type 0
IsCopied properties text (gets.Field name) = (text ≡ 36 ∷ name) × (is_word name ≡ true)
IsCopied properties text (gets.Property name) = (text ≡ 64 ∷ name) × IsProperty properties name × (is_word name ≡ true)
IsCopied properties text (gets.Values v) = ⊥

-- values of one kind, where they pass no limit
abbrev pub AreValues : List ℕ → Limited Given → Type 0
AreValues text Over = (kind : Kind) × WritesValues text (record { kind = kind; values = Over })
AreValues text (Within (gets.Values v)) = WritesValues text (record { kind = v.kind; values = Within v.list })
AreValues text (Within (gets.Field name)) = ⊥
AreValues text (Within (gets.Property name)) = ⊥

abbrev pub IsCopiedTo : List PropertyParts → List ℕ → Limited Given → Type 0
IsCopiedTo properties text Over = ⊥
IsCopiedTo properties text (Within g) = IsCopied properties text g

-- what begins with a sign is copied, and no value
abbrev pub HasNoSign : List ℕ → Type 0
HasNoSign [] = Unit {0}
HasNoSign (b ∷ bytes) = (b ≢ 36) × (b ≢ 64)

abbrev pub IsGiven : List PropertyParts → List ℕ → Limited Given → Type 0
IsGiven properties text g = IsCopiedTo properties text g ⊎ HasNoSign text × AreValues text g

-- a field as it is written: its name and what it gets, where that passes no limit
pub record FieldText : Type 0 where
  pub name : List ℕ
  pub content : Limited Given

-- `NAME=` and what it gets
pub record SaysField (properties : List PropertyParts) (word : List ℕ) (f : FieldText) : Type 0 where
  pub text : List ℕ
  pub all : word ≡ f.name ++ 61 ∷ text
  pub name_is : is_word f.name ≡ true
  pub given_is : IsGiven properties text f.content

-- no two fields have one name
abbrev pub NamesDiffer : List FieldText → Type 0
NamesDiffer fields =
    (i j : ℕ) (d : FieldText) → i < j → j < length fields → (slice_index_or fields i d).name ≢ (slice_index_or fields j d).name

abbrev pub with_given : List ℕ → List TemplateField → Limited Given → Limited (List TemplateField)
with_given name others Over = Over
with_given name others (Within g) = Within ((record { name = name; given = g }) ∷ others)

-- the fields, where what each of them gets passes no limit
abbrev pub onto_field : FieldText → Limited (List TemplateField) → Limited (List TemplateField)
onto_field f Over = Over
onto_field f (Within others) = with_given f.name others f.content

abbrev pub all_fields : List FieldText → Limited (List TemplateField)
all_fields [] = Within []
all_fields (f ∷ fs) = onto_field f (all_fields fs)

-- at most 64 fields, and 4,096 bytes of the message of the written values alone
abbrev pub is_small : Code → List TemplateField → Bool
is_small what fields = nat_le (length fields) field_limit && nat_le (length (spelling (written what fields))) flat_limit

abbrev pub small_template : Code → Limited (List TemplateField) → Limited Template
small_template what Over = Over
small_template what (Within fields) = if is_small what fields then Within (record { what = what; fields = fields }) else Over

-- CODE and fields
pub record SaysMessage (properties : List PropertyParts) (words : List (List ℕ)) (t : Limited Template) : Type 0 where
  pub word : List ℕ
  pub texts : List (List ℕ)
  pub all : words ≡ word ∷ texts
  pub what : Code
  pub what_is : WritesCode word what
  pub fields : List FieldText
  pub fields_are : AllZip (SaysField properties) texts fields
  pub names_differ : NamesDiffer fields
  pub kept : t ≡ small_template what (all_fields fields)

-- ---- where it is sent
abbrev pub SaysDest : List (List ℕ) → Dest → Type 0
SaysDest words dest.Own = words ≡ codes "self" ∷ []
SaysDest words (dest.Looper name) = (words ≡ codes "looper" ∷ name ∷ []) × (is_word name ≡ true)
SaysDest words (dest.Handler name) = (words ≡ codes "handler" ∷ name ∷ []) × (is_word name ≡ true)
SaysDest words (dest.App a) = (word : List ℕ) × (words ≡ codes "app" ∷ word ∷ []) × SaysAppWord word a

-- what may be asked
abbrev pub MayBeAsked : Dest → Type 0
MayBeAsked dest.Own = ⊥
MayBeAsked (dest.Looper name) = Unit {0}
MayBeAsked (dest.Handler name) = ⊥
MayBeAsked (dest.App (app.Team team)) = ⊥
MayBeAsked (dest.App (app.Path path)) = Unit {0}
MayBeAsked (dest.App (app.Signature signature)) = Unit {0}
MayBeAsked (dest.App (app.Name name)) = Unit {0}

-- ---- actions, where they pass no limit
abbrev pub IsBack : Bool → List (List ℕ) → Type 0
IsBack true words = words ≡ codes "back" ∷ []
IsBack false words = words ≡ []

pub record SaysPost (properties : List PropertyParts) (words : List (List ℕ)) (a : Limited Action) : Type 0 where
  pub to_part : List (List ℕ)
  pub message_part : List (List ℕ)
  pub back_part : List (List ℕ)
  pub all : words ≡ to_part ++ (message_part ++ back_part)
  pub to : Dest
  pub to_is : SaysDest to_part to
  pub message : Limited Template
  pub message_is : SaysMessage properties message_part message
  pub back : Bool
  pub back_is : IsBack back back_part
  pub kept : a ≡ limited_map (λ (m : Template). action.Post to m back) message

abbrev pub IsInto : List PropertyParts → Option (List ℕ) → List (List ℕ) → Type 0
IsInto properties None words = words ≡ []
IsInto properties (Some name) words = (words ≡ codes "into" ∷ name ∷ []) × IsProperty properties name × (is_word name ≡ true)

pub record SaysAsk (properties : List PropertyParts) (words : List (List ℕ)) (a : Limited Action) : Type 0 where
  pub to_part : List (List ℕ)
  pub message_part : List (List ℕ)
  pub into_part : List (List ℕ)
  pub all : words ≡ to_part ++ (message_part ++ into_part)
  pub to : Dest
  pub to_is : SaysDest to_part to
  pub to_may : MayBeAsked to
  pub message : Limited Template
  pub message_is : SaysMessage properties message_part message
  pub into : Option (List ℕ)
  pub into_is : IsInto properties into into_part
  pub kept : a ≡ limited_map (λ (m : Template). action.Ask to m into) message

-- one value alone, where it is no message of over 4,096 bytes; it may be a message that no field can hold
abbrev pub small_value : ValueData → Limited Given
small_value v = if is_short v then Within (gets.Values (one_value v)) else Over

abbrev pub set_value : Limited ValueData → Limited Given
set_value Over = Over
set_value (Within v) = small_value v

abbrev pub IsOne : List ℕ → Limited Given → Type 0
IsOne text g = (kind : Kind) × (value : Limited ValueData) × WritesValue text (record { kind = kind; value = value }) × (g ≡ set_value value)

pub record SaysSet (properties : List PropertyParts) (words : List (List ℕ)) (a : Limited Action) : Type 0 where
  pub name : List ℕ
  pub word : List ℕ
  pub all : words ≡ name ∷ word ∷ []
  pub name_is : IsProperty properties name × (is_word name ≡ true)
  pub value : Limited Given
  pub value_is : IsCopiedTo properties word value ⊎ HasNoSign word × IsOne word value
  pub kept : a ≡ limited_map (λ (g : Given). action.Set name g) value

-- the first property of that name is of the number's kind
abbrev pub IsPropertyOf : List PropertyParts → List ℕ → Kind → Type 0
IsPropertyOf properties name kind = (p : PropertyParts) × (property_named properties name ≡ Some p) × (p.row.kind ≡ kind)

pub record SaysAdd (properties : List PropertyParts) (words : List (List ℕ)) (a : Limited Action) : Type 0 where
  pub name : List ℕ
  pub word : List ℕ
  pub all : words ≡ name ∷ word ∷ []
  pub name_is : is_word name ≡ true
  pub amount : Number
  pub amount_is : WritesValue word (got (number_value amount))
  pub kind_is : IsPropertyOf properties name (kind_of (number_value amount))
  pub kept : a ≡ Within (action.Add name amount)
