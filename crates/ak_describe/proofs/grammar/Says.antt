-- What a line says is what is read of it.
use Rattle.std.proofs.Common.{◌≡◌, ◌≢◌, ◌↔◌, ℕ, Bool, true, false, List, [], ◌∷◌, codes, Option, Some, None, IfSome, option_map, refl, sym, ap, subst, ◌∙◌}
use Rattle.ak_base.specs.declared.limited.Limited.{Limited}
use Rattle.ak_message.specs.declared.kind.Kind.TheVariants as k
use Rattle.ak_message.specs.Message.{ValueData}
use Rattle.ak_action.specs.declared.action.Action.TheVariants as action
use Rattle.ak_describe.specs.declared.keyword.Keyword.{Keyword}
use Rattle.ak_describe.specs.declared.keyword.Keyword.TheVariants as key
use Rattle.ak_describe.specs.declared.parts.PropertyParts.{PropertyParts}
use Rattle.ak_describe.specs.Actions.{reply_form, post_form, ask_form, set_form}
use Rattle.ak_describe.specs.Forms.{app_form, looper_form, hook_form, filter_form, property_form, element_form}
use Rattle.ak_describe.specs.Grammar.{SaysApp, SaysLooper, SaysName, SaysCode, SaysFilter, SaysProperty, SaysElement, SaysPost, SaysAsk, SaysSet, SaysAdd}
use Rattle.ak_describe.specs.Pass.{State, last_item, loopers_in, bare, added_form}
use Rattle.ak_describe.specs.Says.{Form, says_app, says_looper, says_hook, says_prefer, says_common, says_handler, says_next, says_suite, says_filter, says_property, says_element, says_on, says_action, open_properties, least_of, Says, SaysReply, SaysBare}
use Rattle.ak_describe.specs.Words.{only_name, only_code}
use Rattle.ak_describe.proofs.grammar.Heads.{app_is_read, looper_is_read, name_is_read, code_is_read}
use Rattle.ak_describe.proofs.grammar.Filters.{filter_is_read}
use Rattle.ak_describe.proofs.grammar.Hooks.{hook_is_read}
use Rattle.ak_describe.proofs.grammar.Properties.{property_is_read, element_is_read}
use Rattle.ak_describe.proofs.grammar.Actions.{reply_is_read, post_is_read, ask_is_read, set_is_read, added_is_read, bare_is_read}

-- ---- what is read, by the line's keyword
abbrev pub where_read : Bool → Form → Option Form
where_read true form = Some form
where_read false form = None

abbrev pub element_read : Option PropertyParts → List (List ℕ) → Option Form
element_read None words = None
element_read (Some p) words = option_map says_element (element_form p.row.kind words)

abbrev pub form_read : State → Keyword → List (List ℕ) → Option Form
form_read s key.App words = option_map says_app (app_form words)
form_read s key.Looper words = option_map says_looper (looper_form (least_of (loopers_in (last_item s.apps))) words)
form_read s key.Hook words = where_read (hook_form words) says_hook
form_read s key.Prefer words = option_map says_prefer (only_name words)
form_read s key.Common words = option_map says_common (filter_form words)
form_read s key.Handler words = option_map says_handler (only_name words)
form_read s key.Next words = option_map says_next (only_name words)
form_read s key.Suite words = option_map says_suite (only_name words)
form_read s key.Filter words = option_map says_filter (filter_form words)
form_read s key.Property words = option_map says_property (property_form words)
form_read s key.Element words = element_read (last_item (open_properties s)) words
form_read s key.On words = option_map says_on (only_code words)
form_read s key.Reply words = option_map says_action (reply_form (open_properties s) words)
form_read s key.Post words = option_map says_action (post_form (open_properties s) words)
form_read s key.Ask words = option_map says_action (ask_form (open_properties s) words)
form_read s key.Set words = option_map says_action (set_form (open_properties s) words)
form_read s key.Add words = option_map says_action (added_form (open_properties s) words)
form_read s key.Drop words = option_map says_action (bare action.Stop words)
form_read s key.Quit words = option_map says_action (bare action.Quit words)

-- ---- what is wrapped in a form
module _ {F : Type 0} (wrap : F → Form) (IsSaid : F → Type 0) where
  said_at : (form : Form) (o : Option F) → ((f : F) → IsSaid f ↔ (o ≡ Some f)) → option_map wrap o ≡ Some form → (f : F) × (form ≡ wrap f) × IsSaid f
  said_at form None law e = absurd cc
  said_at form (Some f) law e = (f, (let same : wrap f ≡ form = cc in sym same), (law f).1 refl)

  said_is : (form : Form) (o : Option F) → ((f : F) → IsSaid f ↔ (o ≡ Some f)) → ((f : F) × (form ≡ wrap f) × IsSaid f) ↔ (option_map wrap o ≡ Some form)
  said_is form o law = (λ h. ap (option_map wrap) ((law h.0).0 h.2) ∙ ap (λ (x : Form). Some x) (sym h.1), λ e. said_at form o law e)

hook_said : (form : Form) (words : List (List ℕ)) (b : Bool) → (words ≡ codes "quit" ∷ codes "refuse" ∷ []) ↔ (b ≡ true)
    → ((form ≡ says_hook) × (words ≡ codes "quit" ∷ codes "refuse" ∷ [])) ↔ (where_read b says_hook ≡ Some form)
hook_said form words true law = (λ h. ap (λ (x : Form). Some x) (sym h.0), λ e. ((let same : says_hook ≡ form = cc in sym same), law.1 refl))
hook_said form words false law = (λ h. absurd (let wrong = law.0 h.1 in cc), λ e. absurd cc)

-- of the property that is open
abbrev OfOpen : Option PropertyParts → List (List ℕ) → Limited (List ℕ × ValueData) → Type 0
OfOpen o words e = (p : PropertyParts) × (o ≡ Some p) × SaysElement p.row.kind words e

open_said : (q : PropertyParts) → q.row.kind ≢ k.Message → (words : List (List ℕ)) (e : Limited (List ℕ × ValueData)) → OfOpen (Some q) words e ↔ (element_form q.row.kind words ≡ Some e)
open_said q no_message words e = (
  λ h. let same : h.0 ≡ q = (let is = h.1 in cc) in (element_is_read q.row.kind words e).0 (subst (λ (p : PropertyParts). SaysElement p.row.kind words e) same h.2),
  λ read. (q, refl, (element_is_read q.row.kind words e).1 read),
)

element_said : (form : Form) (words : List (List ℕ)) (o : Option PropertyParts) → IfSome o (λ p. p.row.kind ≢ k.Message)
    → ((e : Limited (List ℕ × ValueData)) × (form ≡ says_element e) × OfOpen o words e) ↔ (element_read o words ≡ Some form)
element_said form words None no_message = (λ h. absurd (let is = h.2.1 in cc), λ e. absurd cc)
element_said form words (Some q) no_message = said_is says_element (OfOpen (Some q) words) form (element_form q.row.kind words) (open_said q no_message words)

-- what a line says is what is read of it
pub says_is_read : (s : State) (keyword : Keyword) (words : List (List ℕ)) (form : Form) → IfSome (last_item (open_properties s)) (λ p. p.row.kind ≢ k.Message) → Says s keyword words form ↔ (form_read s keyword words ≡ Some form)
says_is_read s key.App words form h = said_is says_app (SaysApp words) form (app_form words) (app_is_read words)
says_is_read s key.Looper words form h =
    said_is says_looper (SaysLooper (least_of (loopers_in (last_item s.apps))) words) form (looper_form (least_of (loopers_in (last_item s.apps))) words)
    (looper_is_read (least_of (loopers_in (last_item s.apps))) words)
says_is_read s key.Hook words form h = hook_said form words (hook_form words) (hook_is_read words)
says_is_read s key.Prefer words form h = said_is says_prefer (SaysName words) form (only_name words) (name_is_read words)
says_is_read s key.Common words form h = said_is says_common (SaysFilter words) form (filter_form words) (filter_is_read words)
says_is_read s key.Handler words form h = said_is says_handler (SaysName words) form (only_name words) (name_is_read words)
says_is_read s key.Next words form h = said_is says_next (SaysName words) form (only_name words) (name_is_read words)
says_is_read s key.Suite words form h = said_is says_suite (SaysName words) form (only_name words) (name_is_read words)
says_is_read s key.Filter words form h = said_is says_filter (SaysFilter words) form (filter_form words) (filter_is_read words)
says_is_read s key.Property words form h = said_is says_property (SaysProperty words) form (property_form words) (property_is_read words)
says_is_read s key.Element words form h = element_said form words (last_item (open_properties s)) h
says_is_read s key.On words form h = said_is says_on (SaysCode words) form (only_code words) (code_is_read words)
says_is_read s key.Reply words form h = said_is says_action (SaysReply (open_properties s) words) form (reply_form (open_properties s) words) (reply_is_read (open_properties s) words)
says_is_read s key.Post words form h = said_is says_action (SaysPost (open_properties s) words) form (post_form (open_properties s) words) (post_is_read (open_properties s) words)
says_is_read s key.Ask words form h = said_is says_action (SaysAsk (open_properties s) words) form (ask_form (open_properties s) words) (ask_is_read (open_properties s) words)
says_is_read s key.Set words form h = said_is says_action (SaysSet (open_properties s) words) form (set_form (open_properties s) words) (set_is_read (open_properties s) words)
says_is_read s key.Add words form h = said_is says_action (SaysAdd (open_properties s) words) form (added_form (open_properties s) words) (added_is_read (open_properties s) words)
says_is_read s key.Drop words form h = said_is says_action (SaysBare action.Stop (open_properties s) words) form (bare action.Stop words) (bare_is_read action.Stop (open_properties s) words)
says_is_read s key.Quit words form h = said_is says_action (SaysBare action.Quit (open_properties s) words) form (bare action.Quit words) (bare_is_read action.Quit (open_properties s) words)
