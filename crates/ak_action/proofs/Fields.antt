-- Fields of a template stay so when one of another name is added.
use Rattle.std.proofs.Common.{◌≡◌, ◌≢◌, ℕ, ◌<◌, Bool, true, false, List, [], ◌∷◌, ◌++◌, length, get_or, IsTrue, sym, subst, ◌∙◌, arith}
use Rattle.std.specs.Str.{bytes_eq}
use Rattle.std.proofs.lemmas.Bool.{false≢true}
use Rattle.std.proofs.lemmas.List.{length_push}
use Rattle.std.proofs.lemmas.List.Elements.{All-push}
use Rattle.std.proofs.lemmas.List.Folds.{list_any_at}
use Rattle.std.proofs.lemmas.List.Quantifiers.{all_pairs_push}
use Rattle.std.proofs.lemmas.Slice.Eq.{bytes_eq-Decides}
use Rattle.ak_base.specs.Word.{is_word}
use Rattle.ak_action.specs.declared.template.TemplateField.{TemplateField}
use Rattle.ak_action.specs.Template.{AreTemplateFields, has_name}

other_names : (fields : List TemplateField) (name : List ℕ) → has_name fields name ≡ false → (i : ℕ) (d : TemplateField) → i < length fields → (get_or fields i d).name ≢ name
other_names fields name none i d within same =
    false≢true (sym none ∙ list_any_at (λ f. bytes_eq f.name name) fields i d within ((bytes_eq-Decides (get_or fields i d).name name).1 same))

pub added : (old new : List TemplateField) (field : TemplateField) → new ≡ old ++ field ∷ [] → is_word field.name ≡ true → has_name old field.name ≡ false → length old < 64 → AreTemplateFields old → AreTemplateFields new
added old new field grown word none room h =
    subst AreTemplateFields (sym grown)
    (record {
      limit = omega (arith, length_push old field);
      words = All-push (λ f. IsTrue (is_word f.name)) old field h.words word;
      names_differ = all_pairs_push (λ f g. f.name ≢ g.name) old field h.names_differ (λ i d within. other_names old field.name none i d within);
    })
