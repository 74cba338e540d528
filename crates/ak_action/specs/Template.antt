-- Messages that are still to be made: which fields they may have.
use Rattle.std.specs.Prelude.{ℕ, ◌≢◌, ◌≤◌, nat_lt, Bool, IsTrue, if◌then◌else◌, List, length, All, AllPairs, Option, None, Some}
use Rattle.std.specs.List.{list_any}
use Rattle.std.specs.Str.{bytes_eq}
use Rattle.ak_base.specs.Word.{is_word}
use Rattle.ak_message.specs.Limits.{field_limit}
use Rattle.ak_action.specs.declared.template.TemplateField.{TemplateField}
use Rattle.ak_action.specs.declared.template.TemplateFault.{TemplateFault}
use Rattle.ak_action.specs.declared.template.TemplateFault.TheVariants as fault

-- at most 64, whose names are words and differ
pub record AreTemplateFields (fields : List TemplateField) : Type 0 where
  pub limit : length fields ≤ field_limit
  pub words : All (λ f. IsTrue (is_word f.name)) fields
  pub names_differ : AllPairs (λ f g. f.name ≢ g.name) fields

abbrev pub has_name : List TemplateField → List ℕ → Bool
has_name fields name = list_any (λ f. bytes_eq f.name name) fields

abbrev pub add_fault : List TemplateField → List ℕ → Option TemplateFault
add_fault fields name =
    if is_word name then
    (if has_name fields name then Some fault.NameInUse
    else if nat_lt (length fields) field_limit then None
    else Some fault.FieldLimit)
    else Some fault.BadName
