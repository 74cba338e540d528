-- What always holds of what is open, and where a line may stand.
use Rattle.std.proofs.Common.{◌≡◌, ◌≢◌, ◌↔◌, ◌+◌, ◌<◌, ◌≤◌, ◌==◌, true, false, not, List, [], ◌∷◌, length, Option, Some, None, IfSome, is_none, refl, sym, ap, subst, ◌∙◌, inl, inr, ne_eqb, leb-true, leb-false, le-leb, arith}
use Rattle.std.proofs.lemmas.Bool.{and_parts, and_from, not-true, not_from_false, lt-leb}
use Rattle.ak_base.proofs.Surface.{none_is}
use Rattle.ak_message.specs.declared.kind.Kind.TheVariants as k
use Rattle.ak_action.specs.declared.action.Reaction.{Reaction}
use Rattle.ak_describe.specs.declared.keyword.After.{After}
use Rattle.ak_describe.specs.declared.keyword.After.TheVariants as following
use Rattle.ak_describe.specs.declared.keyword.Keyword.{Keyword}
use Rattle.ak_describe.specs.declared.keyword.Keyword.TheVariants as key
use Rattle.ak_describe.specs.declared.parts.PropertyParts.{PropertyParts}
use Rattle.ak_describe.specs.Keyword.{allows_element, allows_action}
use Rattle.ak_describe.specs.Parts.{RowData, LooperData, AppData}
use Rattle.ak_describe.specs.Pass.{State, last_item, has_looper, may_open_app, loopers_in, open_looper, rows_in, is_before_handlers, lacks_next, may_follow, follows, may_stand}
use Rattle.ak_describe.specs.Says.{open_row, InHead, InHandler, InLooper, IsComplete, MayStand}
use Rattle.ak_describe.proofs.ground.Ends.{last_none}

-- ---- what always holds of what is open
-- each element has its number as its id
pub record PropertyFits (p : PropertyParts) : Type 0 where
  pub kind_is : p.row.kind ≢ k.Message
  pub same_kind : p.elements.kind ≡ p.row.kind
  pub limit : length p.elements.list ≤ 64
  pub next_id : p.elements.next_id ≡ length p.elements.list + 1

abbrev pub ReactionFits : Reaction → Type 0
ReactionFits r = length r.actions ≤ 16

-- an element may follow only where there is a property, and an action only where there is a reaction
pub record RowFits (r : RowData) (after : After) : Type 0 where
  pub filters : length r.filters ≤ 32
  pub property : IfSome (last_item r.properties) PropertyFits
  pub reaction : IfSome (last_item r.reactions) ReactionFits
  pub element : after ≡ following.Element → 1 ≤ length r.properties
  pub action : after ≡ following.Action → 1 ≤ length r.reactions

pub record LooperFits (l : LooperData) (after : After) : Type 0 where
  pub common : length l.common ≤ 32
  pub row : RowData
  pub is_last : last_item l.rows ≡ Some row
  pub fits : RowFits row after

abbrev pub OpenFits : Option LooperData → After → Type 0
OpenFits None after = after ≡ following.Plain
OpenFits (Some l) after = LooperFits l after

abbrev pub StateFits : State → Type 0
StateFits s = OpenFits (open_looper s.apps) s.after

-- ---- what is open
pub record Opened (apps : List AppData) (l : LooperData) : Type 0 where
  pub app : AppData
  pub is_app : last_item apps ≡ Some app
  pub is_looper : last_item app.loopers ≡ Some l

opened_by : (apps : List AppData) (l : LooperData) (o : Option AppData) → last_item apps ≡ o → last_item (loopers_in o) ≡ Some l → Opened apps l
opened_by apps l None is e = absurd cc
opened_by apps l (Some a) is e = record { app = a; is_app = is; is_looper = e }

pub opened_parts : (apps : List AppData) (l : LooperData) → open_looper apps ≡ Some l → Opened apps l
opened_parts apps l e = opened_by apps l (last_item apps) refl e

pub open_row_is : (s : State) (l : LooperData) (r : RowData) → open_looper s.apps ≡ Some l → last_item l.rows ≡ Some r → open_row s ≡ Some r
open_row_is s l r is e = ap (λ (o : Option LooperData). last_item (rows_in o)) is ∙ e

pub fits_at : (o : Option LooperData) (after : After) (l : LooperData) → OpenFits o after → o ≡ Some l → LooperFits l after
fits_at o after l h e = subst (λ (x : Option LooperData). OpenFits x after) e h

-- behind a property or a reaction a looper is open
pub is_open_after : (o : Option LooperData) (after : After) → OpenFits o after → after ≢ following.Plain → (l : LooperData) × (o ≡ Some l)
is_open_after None after h other = absurd (other h)
is_open_after (Some l) after h other = (l, refl)

-- ---- tests
filled_is : {X : Type 0} (xs : List X) → not (length xs == 0) ≡ true → xs ≢ []
filled_is [] e same = absurd cc
filled_is (x ∷ xs) e same = absurd cc

pub filled : {X : Type 0} (xs : List X) → xs ≢ [] → not (length xs == 0) ≡ true
filled [] other = absurd (other refl)
filled (x ∷ xs) other = not_from_false (length (x ∷ xs) == 0) (ne_eqb (length (x ∷ xs)) 0 (λ e. omega arith))

complete_by : (apps : List AppData) (o : Option AppData) → last_item apps ≡ o → has_looper o ≡ true → IsComplete apps
complete_by apps None is e = inl (last_none apps is)
complete_by apps (Some a) is e = inr (a, is, filled_is a.loopers e)

complete_has : (apps : List AppData) → IsComplete apps → may_open_app apps ≡ true
complete_has apps (inl none) = ap (λ (xs : List AppData). may_open_app xs) none
complete_has apps (inr (a, is, loopers)) = ap has_looper is ∙ filled a.loopers loopers

pub complete_is : (apps : List AppData) → (may_open_app apps ≡ true) ↔ IsComplete apps
complete_is apps = (λ e. complete_by apps (last_item apps) refl e, λ h. complete_has apps h)

element_is : (after : After) → (allows_element after ≡ true) ↔ (after ≡ following.Element)
element_is following.Plain = (λ e. cc, λ e. cc)
element_is following.Element = (λ e. refl, λ e. refl)
element_is following.Action = (λ e. cc, λ e. cc)

action_is : (after : After) → (allows_action after ≡ true) ↔ (after ≡ following.Action)
action_is following.Plain = (λ e. cc, λ e. cc)
action_is following.Element = (λ e. cc, λ e. cc)
action_is following.Action = (λ e. refl, λ e. refl)

-- ---- in a looper
follows_some : (o : Option LooperData) (keyword : Keyword) → follows o keyword ≡ true → (l : LooperData) × (o ≡ Some l) × (may_follow l keyword ≡ true)
follows_some None keyword e = absurd cc
follows_some (Some l) keyword e = (l, refl, e)

follows_at : (o : Option LooperData) (keyword : Keyword) (l : LooperData) → o ≡ Some l → may_follow l keyword ≡ true → follows o keyword ≡ true
follows_at o keyword l is e = ap (λ (x : Option LooperData). follows x keyword) is ∙ e

looper_stands : (s : State) (keyword : Keyword) → ((l : LooperData) → may_follow l keyword ≡ true) → (follows (open_looper s.apps) keyword ≡ true) ↔ InLooper s
looper_stands s keyword any =
    (λ e. let f = follows_some (open_looper s.apps) keyword e in (f.0, f.1), λ h. follows_at (open_looper s.apps) keyword h.0 h.1 (any h.0))

before_is : (l : LooperData) → is_before_handlers l ≡ true → length l.rows ≤ 1
before_is l e = leb-true (length l.rows) 1 e

hook_stands : (s : State) → (follows (open_looper s.apps) key.Hook ≡ true) ↔ InHead s (λ l. l.quit_refused ≡ false)
hook_stands s = (
  λ e.
      let f = follows_some (open_looper s.apps) key.Hook e in
      let parts = and_parts (is_before_handlers f.0) (not f.0.quit_refused) f.2 in
      (f.0, f.1, before_is f.0 parts.0, not-true f.0.quit_refused parts.1),
  λ h. follows_at (open_looper s.apps) key.Hook h.0 h.1 (and_from (is_before_handlers h.0) (not h.0.quit_refused) (le-leb (length h.0.rows) 1 h.2) (not_from_false h.0.quit_refused h.3)),
)

prefer_stands : (s : State) → (follows (open_looper s.apps) key.Prefer ≡ true) ↔ InHead s (λ l. l.preferred ≡ None)
prefer_stands s = (
  λ e.
      let f = follows_some (open_looper s.apps) key.Prefer e in
      let parts = and_parts (is_before_handlers f.0) (is_none f.0.preferred) f.2 in
      (f.0, f.1, before_is f.0 parts.0, none_is f.0.preferred parts.1),
  λ h. follows_at (open_looper s.apps) key.Prefer h.0 h.1 (and_from (is_before_handlers h.0) (is_none h.0.preferred) (le-leb (length h.0.rows) 1 h.2) (ap is_none h.3)),
)

common_stands : (s : State) → (follows (open_looper s.apps) key.Common ≡ true) ↔ InHead s (λ _. Unit {0})
common_stands s = (
  λ e. let f = follows_some (open_looper s.apps) key.Common e in (f.0, f.1, before_is f.0 f.2, tt),
  λ h. follows_at (open_looper s.apps) key.Common h.0 h.1 (le-leb (length h.0.rows) 1 h.2),
)

lacks_is : (o : Option RowData) → lacks_next o ≡ true → (r : RowData) × (o ≡ Some r) × (r.next ≡ None)
lacks_is None e = absurd cc
lacks_is (Some r) e = (r, refl, none_is r.next e)

behind_is : (l : LooperData) → not (is_before_handlers l) ≡ true → 1 < length l.rows
behind_is l e = leb-false (length l.rows) 1 (not-true (is_before_handlers l) e)

next_stands : (s : State) → (follows (open_looper s.apps) key.Next ≡ true) ↔ InHandler s (λ r. r.next ≡ None)
next_stands s = (
  λ e.
      let f = follows_some (open_looper s.apps) key.Next e in
      let parts = and_parts (not (is_before_handlers f.0)) (lacks_next (last_item f.0.rows)) f.2 in
      let last = lacks_is (last_item f.0.rows) parts.1 in
      (f.0, last.0, f.1, behind_is f.0 parts.0, open_row_is s f.0 last.0 f.1 last.1, last.2),
  λ h.
      let row : last_item h.0.rows ≡ Some h.1 = sym (ap (λ (o : Option LooperData). last_item (rows_in o)) h.2) ∙ h.4 in
      follows_at (open_looper s.apps) key.Next h.0 h.2 (and_from (not (is_before_handlers h.0)) (lacks_next (last_item h.0.rows)) (not_from_false (is_before_handlers h.0) (lt-leb (length h.0.rows) 1 h.3)) (ap lacks_next row ∙ ap is_none h.5)),
)

-- a line may stand exactly where it is let
pub stands_is : (s : State) (keyword : Keyword) → (may_stand s keyword ≡ true) ↔ MayStand s keyword
stands_is s key.App = complete_is s.apps
stands_is s key.Looper = (λ e. filled_is s.apps e, λ h. filled s.apps h)
stands_is s key.Hook = hook_stands s
stands_is s key.Prefer = prefer_stands s
stands_is s key.Common = common_stands s
stands_is s key.Handler = looper_stands s key.Handler (λ l. refl)
stands_is s key.Next = next_stands s
stands_is s key.Suite = looper_stands s key.Suite (λ l. refl)
stands_is s key.Filter = looper_stands s key.Filter (λ l. refl)
stands_is s key.Property = looper_stands s key.Property (λ l. refl)
stands_is s key.Element = element_is s.after
stands_is s key.On = looper_stands s key.On (λ l. refl)
stands_is s key.Reply = action_is s.after
stands_is s key.Post = action_is s.after
stands_is s key.Ask = action_is s.after
stands_is s key.Set = action_is s.after
stands_is s key.Add = action_is s.after
stands_is s key.Drop = action_is s.after
stands_is s key.Quit = action_is s.after
