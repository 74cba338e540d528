-- The further words of the lines of applications, loopers, filters, properties and elements. What passes a limit is read to its end
-- and left out.
use Rattle.std.specs.Prelude.{ℕ, Bool, true, false, ◌&&◌, if◌then◌else◌, List, [], codes, Option, Some, None}
use Rattle.std.specs.Str.{bytes_eq}
use Rattle.ak_base.specs.declared.code.Code.{Code}
use Rattle.ak_base.specs.declared.limited.Limited.{Limited}
use Rattle.ak_base.specs.declared.limited.Limited.TheVariants.{Within, Over}
use Rattle.ak_base.specs.Limits.{capacity_limit}
use Rattle.ak_filter.specs.declared.filter.DeliveryIs.{DeliveryIs}
use Rattle.ak_filter.specs.declared.filter.DeliveryIs.TheVariants as ways
use Rattle.ak_filter.specs.declared.filter.Filter.{Filter}
use Rattle.ak_filter.specs.declared.filter.SourceIs.{SourceIs}
use Rattle.ak_filter.specs.declared.filter.SourceIs.TheVariants as sides
use Rattle.ak_message.specs.declared.kind.Kind.{Kind}
use Rattle.ak_message.specs.Message.{ValueData}
use Rattle.ak_base.specs.Option.{where_true, ◌>>=◌}
use Rattle.ak_describe.specs.declared.form.filter.Passing.{Passing}
use Rattle.ak_describe.specs.declared.form.heads.AppForm.{AppForm}
use Rattle.ak_describe.specs.declared.form.heads.LooperForm.{LooperForm}
use Rattle.ak_describe.specs.declared.form.property.PropertyForm.{PropertyForm}
use Rattle.ak_describe.specs.Made.{value_of_kind}
use Rattle.ak_base.specs.AppName.{is_path, is_signature}
use Rattle.ak_input.specs.Written.{quoted_text, code_of, number_within}
use Rattle.ak_describe.specs.Words.{first_of, behind, ends, name_at, code_at, mode_of, kind_of, some_behind}
use Rattle.ak_describe.specs.Limits.{usual_capacity, form_limit}

-- ---- heads
-- `PATH SIGNATURE MODE`
unfoldable pub app_form : List (List ℕ) → Option AppForm
app_form words = do
  path ← first_of words
  signature ← first_of path.1
  word ← first_of signature.1
  last ← where_true (ends word.1) word.0
  mode ← mode_of last
  where_true (is_path path.0 && is_signature signature.0) (record { path = path.0; signature = signature.0; mode = mode })

-- a number alone, which is not below `least`
unfoldable pub capacity_at : ℕ → List (List ℕ) → Option ℕ
capacity_at least words = do
  number ← first_of words
  last ← where_true (ends number.1) number.0
  number_within last least capacity_limit

abbrev pub capacity_behind : ℕ → Option (List (List ℕ)) → Option ℕ
capacity_behind least None = None
capacity_behind least (Some words) = capacity_at least words

-- 100 where nothing is said
unfoldable pub capacity_from : ℕ → List (List ℕ) → Option ℕ
capacity_from least words = if ends words then Some usual_capacity else capacity_behind least (behind words (codes "capacity"))

-- `NAME` or `NAME capacity NUMBER`
unfoldable pub looper_form : ℕ → List (List ℕ) → Option LooperForm
looper_form least words = do
  name ← name_at words
  capacity ← capacity_from least name.1
  Some (record { name = name.0; capacity = capacity })

abbrev pub is_end : Option (List (List ℕ)) → Bool
is_end None = false
is_end (Some words) = ends words

-- `quit refuse`
unfoldable pub hook_form : List (List ℕ) → Bool
hook_form words = is_end (behind words (codes "quit") >>= λ rest. behind rest (codes "refuse"))

-- ---- filters: `[what CODE] [from local|remote] [by dropped|programmed]`, and then `skip` or `pass [to NAME] [as CODE]`
abbrev pub code_found : List (List ℕ) → Option (List (List ℕ)) → Option (Option Code × List (List ℕ))
code_found words None = Some (None, words)
code_found words (Some rest) = code_at rest >>= λ code. Some (Some code.0, code.1)

abbrev pub code_behind : List (List ℕ) → List ℕ → Option (Option Code × List (List ℕ))
code_behind words key = code_found words (behind words key)

abbrev pub name_found : List (List ℕ) → Option (List (List ℕ)) → Option (Option (List ℕ) × List (List ℕ))
name_found words None = Some (None, words)
name_found words (Some rest) = name_at rest >>= λ name. Some (Some name.0, name.1)

abbrev pub name_behind : List (List ℕ) → List ℕ → Option (Option (List ℕ) × List (List ℕ))
name_behind words key = name_found words (behind words key)

abbrev pub source_of : List ℕ → Option SourceIs
source_of word =
    if bytes_eq word (codes "local") then Some sides.Local
    else if bytes_eq word (codes "remote") then Some sides.Remote
    else None

abbrev pub source_found : List (List ℕ) → Option (List (List ℕ)) → Option (SourceIs × List (List ℕ))
source_found words None = Some (sides.Any, words)
source_found words (Some rest) = first_of rest >>= λ word. source_of word.0 >>= λ s. Some (s, word.1)

abbrev pub source_at : List (List ℕ) → Option (SourceIs × List (List ℕ))
source_at words = source_found words (behind words (codes "from"))

abbrev pub delivery_of : List ℕ → Option DeliveryIs
delivery_of word =
    if bytes_eq word (codes "dropped") then Some ways.Dropped
    else if bytes_eq word (codes "programmed") then Some ways.Programmed
    else None

abbrev pub delivery_found : List (List ℕ) → Option (List (List ℕ)) → Option (DeliveryIs × List (List ℕ))
delivery_found words None = Some (ways.Any, words)
delivery_found words (Some rest) = first_of rest >>= λ word. delivery_of word.0 >>= λ d. Some (d, word.1)

abbrev pub delivery_at : List (List ℕ) → Option (DeliveryIs × List (List ℕ))
delivery_at words = delivery_found words (behind words (codes "by"))

abbrev pub skipping_at : List (List ℕ) → Option Passing
skipping_at words = where_true (ends words) (record { skip = true; to = None; set_what = None })

-- `[to NAME] [as CODE]`
unfoldable pub passing_at : List (List ℕ) → Option Passing
passing_at words = do
  to ← name_behind words (codes "to")
  set_what ← code_behind to.1 (codes "as")
  where_true (ends set_what.1) (record { skip = false; to = to.0; set_what = set_what.0 })

abbrev pub passing_behind : Option (List (List ℕ)) → Option Passing
passing_behind None = None
passing_behind (Some words) = passing_at words

abbrev pub verdict_from : List (List ℕ) → Option (List (List ℕ)) → Option Passing
verdict_from words (Some rest) = skipping_at rest
verdict_from words None = passing_behind (behind words (codes "pass"))

unfoldable pub passing_from : List (List ℕ) → Option Passing
passing_from words = verdict_from words (behind words (codes "skip"))

unfoldable pub filter_form : List (List ℕ) → Option Filter
filter_form words = do
  what ← code_behind words (codes "what")
  side ← source_at what.1
  way ← delivery_at side.1
  p ← passing_from way.1
  Some (record { what = what.0; source = side.0; delivery = way.0; skip = p.skip; to = p.to; set_what = p.set_what })

-- ---- properties
abbrev pub kind_at : List (List ℕ) → Option (Kind × List (List ℕ))
kind_at words = first_of words >>= λ word. kind_of word.0 >>= λ kind. Some (kind, word.1)

-- a form of specifiers
abbrev pub form_of : List ℕ → Option ℕ
form_of word = number_within word 1 form_limit

abbrev pub commands_at : List (List ℕ) → Option (List Code × List (List ℕ))
commands_at words = some_behind code_of words (behind words (codes "commands"))

abbrev pub forms_at : List (List ℕ) → Option (List ℕ × List (List ℕ))
forms_at words = some_behind form_of words (behind words (codes "forms"))

-- the empty text where the key does not stand there, and else the one behind it, where that passes no limit
abbrev pub text_found : List (List ℕ) → Option (List (List ℕ)) → Option (Limited (List ℕ) × List (List ℕ))
text_found words None = Some (Within [], words)
text_found words (Some rest) = first_of rest >>= λ word. quoted_text word.0 >>= λ text. Some (text, word.1)

abbrev pub text_behind : List (List ℕ) → List ℕ → Option (Limited (List ℕ) × List (List ℕ))
text_behind words key = text_found words (behind words key)

-- `NAME KIND [commands CODE ...] [forms NUMBER ...] [usage TEXT]`
unfoldable pub property_form : List (List ℕ) → Option PropertyForm
property_form words = do
  name ← name_at words
  kind ← kind_at name.1
  commands ← commands_at kind.1
  forms ← forms_at commands.1
  usage ← text_behind forms.1 (codes "usage")
  where_true (ends usage.1) (record { name = name.0; kind = kind.0; commands = commands.0; forms = forms.0; usage = usage.0 })

-- both, where both pass no limit
abbrev pub both : {A B : Type 0} → Limited A → Limited B → Limited (A × B)
both Over y = Over
both (Within x) Over = Over
both (Within x) (Within y) = Within (x, y)

-- `VALUE [name TEXT]`, the value of that kind: the name and the value, where neither passes a limit
unfoldable pub element_form : Kind → List (List ℕ) → Option (Limited (List ℕ × ValueData))
element_form kind words = do
  word ← first_of words
  value ← value_of_kind kind word.0
  name ← text_behind word.1 (codes "name")
  where_true (ends name.1) (both name.0 value)
