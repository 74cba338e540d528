-- What is wrong with a name that may be given later, where nothing is wrong with the names before.
use Rattle.std.proofs.Common.{◌≡◌, ◌↔◌, ◌⊎◌, ℕ, ◌≤◌, Bool, true, false, cond, Decides, Any, nat_lt, List, Option, Some, None, is_some, position, slice_get, bytes_eq, refl, sym, ap, subst, ◌∙◌, inl, inr, ltb-true, ltb-false, arith}
use Rattle.std.proofs.lemmas.Slice.Eq.{bytes_eq-Decides}
use Rattle.ak_base.specs.declared.app_word.AppWord.{AppWord}
use Rattle.ak_base.specs.declared.app_word.AppWord.TheVariants as app
use Rattle.ak_base.specs.declared.ending.RefusalKind.{RefusalKind}
use Rattle.ak_base.specs.declared.ending.RefusalKind.TheVariants as refusal
use Rattle.ak_base.specs.AppName.{last_part}
use Rattle.ak_action.specs.Plan.{chains_end}
use Rattle.ak_describe.specs.declared.named.Named.{Named}
use Rattle.ak_describe.specs.declared.named.Need.{Need}
use Rattle.ak_describe.specs.declared.named.Need.TheVariants as needs
use Rattle.ak_describe.specs.Describes.{IsAt, IsRow, IsLooper, Fits, IsNamedThere, ComesBack, ClosesLoop, LooperIsEarly, AppIsEarly, IsEarly, IsNameFault, IsVain, IsGood}
use Rattle.ak_describe.specs.Parts.{RowData, LooperData, AppData, looper_named, row_named}
use Rattle.ak_describe.specs.Second.{unknown, order_fault, fits, first_fit, chained_to, next_fault, fault_of, fault_in_looper, fault_in_app, named_fault}
use Rattle.ak_describe.proofs.chains.Leading.{AreLed, loop_or_ends, no_loop_where_ends}
use Rattle.ak_describe.proofs.ground.Ends.{one_some}
use Rattle.ak_describe.proofs.ground.Searching.{first_at, first_is_first, position_decides, none_passes}

-- ---- one of three faults
abbrev OneOf : Type 0 → Type 0 → Type 0 → RefusalKind → Type 0
OneOf U C E refusal.UnknownName = U
OneOf U C E refusal.ChainLoop = C
OneOf U C E refusal.AskOrder = E
OneOf U C E refusal.UnknownLine = ⊥
OneOf U C E refusal.BadValue = ⊥
OneOf U C E refusal.NameInUse = ⊥
OneOf U C E refusal.Limit = ⊥
OneOf U C E refusal.InputTooLong = ⊥
OneOf U C E refusal.NotUtf8 = ⊥
OneOf U C E refusal.BadWord = ⊥
OneOf U C E (refusal.BadHey column) = ⊥
OneOf U C E refusal.Unfinished = ⊥

-- exactly these faults are told
abbrev pub Tells : Option RefusalKind → (RefusalKind → Type 0) → Type 0
Tells o P = (kind : RefusalKind) → (o ≡ Some kind) ↔ P kind

module _ (U C E : Type 0) where
  none_of : ¬ U → ¬ C → ¬ E → (kind : RefusalKind) → OneOf U C E kind → ⊥
  none_of u c e refusal.UnknownName h = u h
  none_of u c e refusal.ChainLoop h = c h
  none_of u c e refusal.AskOrder h = e h
  none_of u c e _ h = h

  only_unknown : ¬ C → ¬ E → (kind : RefusalKind) → OneOf U C E kind → Some refusal.UnknownName ≡ Some kind
  only_unknown c e refusal.UnknownName h = refl
  only_unknown c e refusal.ChainLoop h = absurd (c h)
  only_unknown c e refusal.AskOrder h = absurd (e h)
  only_unknown c e _ h = absurd h

  only_loop : ¬ U → ¬ E → (kind : RefusalKind) → OneOf U C E kind → Some refusal.ChainLoop ≡ Some kind
  only_loop u e refusal.ChainLoop h = refl
  only_loop u e refusal.UnknownName h = absurd (u h)
  only_loop u e refusal.AskOrder h = absurd (e h)
  only_loop u e _ h = absurd h

  only_order : ¬ U → ¬ C → (kind : RefusalKind) → OneOf U C E kind → Some refusal.AskOrder ≡ Some kind
  only_order u c refusal.AskOrder h = refl
  only_order u c refusal.UnknownName h = absurd (u h)
  only_order u c refusal.ChainLoop h = absurd (c h)
  only_order u c _ h = absurd h

same_kind : (a b : RefusalKind) → Some a ≡ Some b → a ≡ b
same_kind a b e = cc

tells_none : (U C E : Type 0) → ¬ U → ¬ C → ¬ E → Tells None (OneOf U C E)
tells_none U C E u c e kind = (λ h. absurd cc, λ h. absurd (none_of U C E u c e kind h))

tells_unknown : (U C E : Type 0) → U → ¬ C → ¬ E → Tells (Some refusal.UnknownName) (OneOf U C E)
tells_unknown U C E u c e kind = (λ h. subst (OneOf U C E) (same_kind refusal.UnknownName kind h) u, only_unknown U C E c e kind)

tells_loop : (U C E : Type 0) → ¬ U → C → ¬ E → Tells (Some refusal.ChainLoop) (OneOf U C E)
tells_loop U C E u c e kind = (λ h. subst (OneOf U C E) (same_kind refusal.ChainLoop kind h) c, only_loop U C E u e kind)

tells_order : (U C E : Type 0) → ¬ U → ¬ C → E → Tells (Some refusal.AskOrder) (OneOf U C E)
tells_order U C E u c e kind = (λ h. subst (OneOf U C E) (same_kind refusal.AskOrder kind h) e, only_order U C E u c kind)

-- ---- a name that has to be there
unknown_tells : (U : Type 0) (o : Option ℕ) → Decides (is_some o) U → Tells (unknown o) (OneOf (¬ U) ⊥ ⊥)
unknown_tells U None d = tells_unknown (¬ U) ⊥ ⊥ (λ u. let wrong = d.1 u in absurd cc) (λ h. h) (λ h. h)
unknown_tells U (Some place) d = tells_none (¬ U) ⊥ ⊥ (λ n. n (d.0 refl)) (λ h. h) (λ h. h)

order_by : (U E : Type 0) (late : Bool) → U → (late ≡ true → ¬ E) → (late ≡ false → E) → Tells (cond late None (Some refusal.AskOrder)) (OneOf (¬ U) ⊥ E)
order_by U E true u no_early early = tells_none (¬ U) ⊥ E (λ n. n u) (λ h. h) (no_early refl)
order_by U E false u no_early early = tells_order (¬ U) ⊥ E (λ n. n u) (λ h. h) (early refl)

-- the first one that is named so is the earliest
abbrev IsEarlyOf : {X : Type 0} → (X → Bool) → List X → ℕ → Type 0
IsEarlyOf {X} p xs asks = (place : ℕ) × (x : X) × (place ≤ asks) × (slice_get xs place ≡ Some x) × (p x ≡ true)

order_tells : {X : Type 0} (p : X → Bool) (xs : List X) (asks : ℕ) (U : Type 0) (o : Option ℕ) → Decides (is_some o) U → position p xs ≡ o → Tells (order_fault o asks) (OneOf (¬ U) ⊥ (IsEarlyOf p xs asks))
order_tells p xs asks U None d is =
    tells_unknown (¬ U) ⊥ (IsEarlyOf p xs asks) (λ u. let wrong = d.1 u in absurd cc) (λ h. h)
    (λ e. absurd (none_passes p xs e.0 e.1 is e.3 e.4))
order_tells p xs asks U (Some place) d is =
    order_by U (IsEarlyOf p xs asks) (nat_lt asks place) (d.0 refl)
    (λ late e. let first = first_is_first p xs place e.0 e.1 is e.3 e.4 in absurd (omega (arith, first, e.2, ltb-true asks place late)))
    (λ early. let at = first_at p xs place is in (place, at.0, ltb-false asks place early, at.1, at.2))

same_early : (U C E F : Type 0) (o : Option RefusalKind) → (E → F) → (F → E) → Tells o (OneOf U C E) → Tells o (OneOf U C F)
same_early U C E F o to from t kind = (λ e. mapped E F to kind ((t kind).0 e), λ h. (t kind).1 (mapped F E from kind h))
  where
    mapped : (G H : Type 0) → (G → H) → (k : RefusalKind) → OneOf U C G k → OneOf U C H k
    mapped G H f refusal.AskOrder h = f h
    mapped G H f refusal.UnknownName h = h
    mapped G H f refusal.ChainLoop h = h
    mapped G H f _ h = h

-- ---- a next handler
next_tells : (U B : Type 0) (there ends : Bool) → Decides there U → (ends ≡ true → ¬ B) → (ends ≡ false → B) → Tells (cond there (cond ends None (Some refusal.ChainLoop)) (Some refusal.UnknownName)) (OneOf (¬ U) (U × B) ⊥)
next_tells U B false ends d no_loop loop = tells_unknown (¬ U) (U × B) ⊥ (λ u. let wrong = d.1 u in absurd cc) (λ h. let wrong = d.1 h.0 in absurd cc) (λ h. h)
next_tells U B true true d no_loop loop = tells_none (¬ U) (U × B) ⊥ (λ n. n (d.0 refl)) (λ h. no_loop refl h.1) (λ h. h)
next_tells U B true false d no_loop loop = tells_loop (¬ U) (U × B) ⊥ (λ n. n (d.0 refl)) (d.0 refl, loop refl) (λ h. h)

loop_of : (l : LooperData) (row : ℕ) → chains_end (chained_to row l.rows) ≡ false → ComesBack l row ⊎ (chains_end (chained_to row l.rows) ≡ true) → ComesBack l row
loop_of l row e (inl back) = back
loop_of l row e (inr ends) = absurd cc

-- ---- applications
pub fits_decides : (word : AppWord) (a : AppData) → Decides (fits word a) (Fits word a)
fits_decides (app.Path path) a = bytes_eq-Decides a.path path
fits_decides (app.Signature signature) a = bytes_eq-Decides a.signature signature
fits_decides (app.Name name) a = bytes_eq-Decides (last_part a.path) name
fits_decides (app.Team team) a = (λ e. absurd cc, λ h. absurd h)

-- ---- each need
rows_decide : (l : LooperData) (name : List ℕ) → Decides (is_some (row_named l.rows name)) (IsRow l name)
rows_decide l name = position_decides (λ (r : RowData). bytes_eq r.name name) (λ (r : RowData). r.name ≡ name) (λ r. bytes_eq-Decides r.name name) l.rows

loopers_decide : (a : AppData) (name : List ℕ) → Decides (is_some (looper_named a.loopers name)) (IsLooper a name)
loopers_decide a name = position_decides (λ (l : LooperData). bytes_eq l.name name) (λ (l : LooperData). l.name ≡ name) (λ l. bytes_eq-Decides l.name name) a.loopers

module _ (apps : List AppData) (a : AppData) (l : LooperData) (n : Named) where
  abbrev NeedFault : Need → RefusalKind → Type 0
  NeedFault need = OneOf (¬ (IsNamedThere apps a l need)) (ClosesLoop l n need) (IsEarly apps a n need)

  looper_early : (name : List ℕ) → IsEarlyOf (λ (m : LooperData). bytes_eq m.name name) a.loopers n.looper → LooperIsEarly a n.looper name
  looper_early name e = record { place = e.0; early = e.2; looper = e.1; is_at = e.3; named = (bytes_eq-Decides e.1.name name).0 e.4 }

  early_looper : (name : List ℕ) → LooperIsEarly a n.looper name → IsEarlyOf (λ (m : LooperData). bytes_eq m.name name) a.loopers n.looper
  early_looper name e = (e.place, e.looper, e.early, e.is_at, (bytes_eq-Decides e.looper.name name).1 e.named)

  app_early : (word : AppWord) → IsEarlyOf (fits word) apps n.app → AppIsEarly apps n.app word
  app_early word e = record { place = e.0; early = e.2; found = e.1; is_at = e.3; fits = (fits_decides word e.1).0 e.4 }

  early_app : (word : AppWord) → AppIsEarly apps n.app word → IsEarlyOf (fits word) apps n.app
  early_app word e = (e.place, e.found, e.early, e.is_at, (fits_decides word e.found).1 e.fits)

  need_tells : (need : Need) → ((name : List ℕ) → need ≡ needs.Next name → AreLed l.rows n.row) → Tells (fault_of apps a l n need) (NeedFault need)
  need_tells (needs.Next name) led =
      next_tells (IsRow l name) (ComesBack l n.row) (is_some (row_named l.rows name)) (chains_end (chained_to n.row l.rows)) (rows_decide l name)
      (λ ends back. no_loop_where_ends l n.row back ends)
      (λ open_ends. loop_of l n.row open_ends (loop_or_ends l n.row (led name refl)))
  need_tells (needs.Handler name) led = unknown_tells (IsRow l name) (row_named l.rows name) (rows_decide l name)
  need_tells (needs.Looper name) led = unknown_tells (IsLooper a name) (looper_named a.loopers name) (loopers_decide a name)
  need_tells (needs.AskLooper name) led =
      same_early (¬ (IsLooper a name)) ⊥ (IsEarlyOf (λ (m : LooperData). bytes_eq m.name name) a.loopers n.looper) (LooperIsEarly a n.looper name) (order_fault (looper_named a.loopers name) n.looper)
      (looper_early name) (early_looper name)
      (order_tells (λ (m : LooperData). bytes_eq m.name name) a.loopers n.looper (IsLooper a name) (looper_named a.loopers name) (loopers_decide a name) refl)
  need_tells (needs.AskApp word) led =
      same_early (¬ (Any (Fits word) apps)) ⊥ (IsEarlyOf (fits word) apps n.app) (AppIsEarly apps n.app word) (order_fault (first_fit apps word) n.app)
      (app_early word) (early_app word)
      (order_tells (fits word) apps n.app (Any (Fits word) apps) (first_fit apps word) (position_decides (fits word) (Fits word) (fits_decides word) apps) refl)

  -- ---- the same, as it is told
  to_need : (kind : RefusalKind) → IsNameFault apps a l n kind → NeedFault n.need kind
  to_need refusal.UnknownName h = h
  to_need refusal.ChainLoop h = h
  to_need refusal.AskOrder h = h
  to_need _ h = absurd h

  from_need : (kind : RefusalKind) → NeedFault n.need kind → IsNameFault apps a l n kind
  from_need refusal.UnknownName h = h
  from_need refusal.ChainLoop h = h
  from_need refusal.AskOrder h = h
  from_need _ h = absurd h

-- ---- where it stands
same_place : (apps : List AppData) (n : Named) (a b : AppData) (l m : LooperData) (kind : RefusalKind) → IsAt apps n a l → IsAt apps n b m → IsNameFault apps b m n kind → IsNameFault apps a l n kind
same_place apps n a b l m kind at other f =
    let same_app : b ≡ a = one_some (slice_get apps n.app) b a other.in_app at.in_app in
    let moved : slice_get a.loopers n.looper ≡ Some m = subst (λ (x : AppData). slice_get x.loopers n.looper ≡ Some m) same_app other.in_looper in
    let same_looper : m ≡ l = one_some (slice_get a.loopers n.looper) m l moved at.in_looper in
    let first : IsNameFault apps a m n kind = subst (λ (x : AppData). IsNameFault apps x m n kind) same_app f in
    subst (λ (x : LooperData). IsNameFault apps a x n kind) same_looper first

-- the lines of handlers before it close no loop, where it is a next handler
abbrev pub IsLedTo : List AppData → Named → Type 0
IsLedTo apps n = (a : AppData) (l : LooperData) (name : List ℕ) → IsAt apps n a l → n.need ≡ needs.Next name → AreLed l.rows n.row

at_tells : (apps : List AppData) (n : Named) (a : AppData) (l : LooperData) → IsAt apps n a l → IsLedTo apps n → Tells (fault_of apps a l n n.need) (IsVain apps n)
at_tells apps n a l at led kind =
    let t = need_tells apps a l n n.need (λ name e. led a l name at e) kind in
    (λ e. (a, l, at, from_need apps a l n kind (t.0 e)), λ v. t.1 (to_need apps a l n kind (same_place apps n a v.0 l v.1 kind at v.2 v.3)))

looper_tells : (apps : List AppData) (n : Named) (a : AppData) (o : Option LooperData) → slice_get apps n.app ≡ Some a → slice_get a.loopers n.looper ≡ o → IsLedTo apps n → Tells (fault_in_looper apps a n o) (IsVain apps n)
looper_tells apps n a None is_app is led kind = (
  λ e. absurd cc,
  λ v.
      let same : v.0 ≡ a = one_some (slice_get apps n.app) v.0 a v.2.in_app is_app in
      let moved : slice_get a.loopers n.looper ≡ Some v.1 = subst (λ (x : AppData). slice_get x.loopers n.looper ≡ Some v.1) same v.2.in_looper in
      absurd (cc (moved, is)),
)
looper_tells apps n a (Some l) is_app is led kind = at_tells apps n a l (record { in_app = is_app; in_looper = is }) led kind

app_tells : (apps : List AppData) (n : Named) (o : Option AppData) → slice_get apps n.app ≡ o → IsLedTo apps n → Tells (fault_in_app apps n o) (IsVain apps n)
app_tells apps n None is led kind = (λ e. absurd cc, λ v. let at = v.2.in_app in absurd (cc (at, is)))
app_tells apps n (Some a) is led kind = looper_tells apps n a (slice_get a.loopers n.looper) is refl led kind

-- what is wrong with a name is told
pub named_tells : (apps : List AppData) (n : Named) → IsLedTo apps n → Tells (named_fault apps n) (IsVain apps n)
named_tells apps n led = app_tells apps n (slice_get apps n.app) refl led

-- ---- and where nothing is wrong
none_by : (o : Option RefusalKind) (P : RefusalKind → Type 0) → Tells o P → ((kind : RefusalKind) → P kind → ⊥) → o ≡ None
none_by None P t good = refl
none_by (Some kind) P t good = absurd (good kind ((t kind).0 refl))

pub none_if_good : (apps : List AppData) (n : Named) → IsLedTo apps n → IsGood apps n → named_fault apps n ≡ None
none_if_good apps n led good = none_by (named_fault apps n) (IsVain apps n) (named_tells apps n led) good

pub good_if_none : (apps : List AppData) (n : Named) → IsLedTo apps n → named_fault apps n ≡ None → IsGood apps n
good_if_none apps n led none kind v = let some = (named_tells apps n led kind).1 v in cc (none, some)

-- ---- a next handler with which nothing is wrong closes no loop
ended_by : (there ends : Bool) → cond there (cond ends None (Some refusal.ChainLoop)) (Some refusal.UnknownName) ≡ None → ends ≡ true
ended_by true true e = refl
ended_by true false e = absurd cc
ended_by false ends e = absurd cc

pub ends_if_none : (apps : List AppData) (n : Named) (a : AppData) (l : LooperData) (name : List ℕ) → IsAt apps n a l → n.need ≡ needs.Next name → named_fault apps n ≡ None → chains_end (chained_to n.row l.rows) ≡ true
ends_if_none apps n a l name at is none =
    let in_app : named_fault apps n ≡ fault_in_looper apps a n (slice_get a.loopers n.looper) = ap (fault_in_app apps n) at.in_app in
    let in_looper : fault_in_looper apps a n (slice_get a.loopers n.looper) ≡ fault_of apps a l n n.need = ap (fault_in_looper apps a n) at.in_looper in
    let told : fault_of apps a l n n.need ≡ next_fault l.rows n.row name = ap (fault_of apps a l n) is in
    ended_by (is_some (row_named l.rows name)) (chains_end (chained_to n.row l.rows)) (sym told ∙ (sym in_looper ∙ (sym in_app ∙ none)))
