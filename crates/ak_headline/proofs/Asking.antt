-- An ask among the steps of a diary, and writes that are counted.
use Rattle.std.proofs.Common.{◌≡◌, ◌⊎◌, ℕ, zero, suc, ◌≤◌, ◌==◌, Bool, true, false, cond, List, [], ◌∷◌, ◌++◌, Contains, Some, slice_get, refl, sym, ap, ◌∙◌, subst, append_assoc, arith, eq-eqb, eqb-true}
use Rattle.std.proofs.lemmas.Bool.{false≢true}
use Rattle.std.proofs.lemmas.Grind.{flat_map-append}
use Rattle.std.proofs.lemmas.List.Elements.{Contains-append_cases, Contains-append_left, Contains-append_right}
use Rattle.std.proofs.lemmas.Option.{slice_get-get_or}
use Rattle.ak_message.specs.declared.address.Address.{Address}
use Rattle.ak_flatten.specs.Item.{ItemData}
use Rattle.ak_turn.specs.Noted.{Noted}
use Rattle.ak_port.specs.declared.port_entry.PortEntry.{PortEntry}
use Rattle.ak_port.specs.declared.reply_entry.ReplyEvent.TheVariants as slot
use Rattle.ak_diary.specs.Step.{Step, at_book, at_port, port_entries, port_entry}
use Rattle.ak_diary.specs.Wants.{Converses}
use Rattle.ak_headline.specs.Sends.{HasAsk}
use Rattle.ak_headline.specs.Tally.{how_many, sends_to, writes_owing}
use Rattle.ak_headline.proofs.Counts.{there_counts}
use Rattle.ak_headline.proofs.Shares.{steps_at_port}

-- ---- elements
module _ {X : Type 0} where
  pub at_place : (xs : List X) (x : X) (w : Contains xs x) → slice_get xs w.0 ≡ Some x
  at_place xs x w = slice_get-get_or xs w.0 x w.1 ∙ ap Some w.2

  pub none_in : (x : X) → Contains [] x → ⊥
  none_in x w = absurd (omega (arith, w.1))

  pub first_in : (x : X) (xs : List X) → Contains (x ∷ xs) x
  first_in x xs = (zero, omega arith, refl)

  pub later_in : (y : X) (xs : List X) (x : X) → Contains xs x → Contains (y ∷ xs) x
  later_in y xs x w = Contains-append_right (y ∷ []) xs x w

  one_get : (y : X) (k : ℕ) (x : X) → slice_get (y ∷ []) k ≡ Some x → y ≡ x
  one_get y zero x at = cc at
  one_get y (suc k) x at = absurd (cc at)

  -- the one thing
  pub only_in : (y x : X) → Contains (y ∷ []) x → y ≡ x
  only_in y x w = one_get y w.0 x (at_place (y ∷ []) x w)

  pub only_if : (b : Bool) (y x : X) → Contains (cond b (y ∷ []) [] ++ []) x → (b ≡ true) × (y ≡ x)
  only_if true y x w = (refl, only_in y x w)
  only_if false y x w = absurd (none_in x w)

  pub first_if : (b : Bool) (x : X) (xs : List X) → b ≡ true → Contains (cond b (x ∷ xs) xs) x
  first_if true x xs is = first_in x xs
  first_if false x xs is = absurd (false≢true is)

  pub later_if : (b : Bool) (x : X) (xs : List X) (y : X) → Contains xs y → Contains (cond b (x ∷ xs) xs) y
  later_if true x xs y there = later_in x xs y there
  later_if false x xs y there = there

-- at a port, in two parts
pub port_cases : (looper : ℕ) (xs ys : List Step) (x : Noted PortEntry) → Contains (port_entries looper (xs ++ ys)) x → Contains (port_entries looper xs) x ⊎ Contains (port_entries looper ys) x
port_cases looper xs ys x there =
    Contains-append_cases (port_entries looper xs) (port_entries looper ys) x (subst (λ l. Contains l x) (flat_map-append (port_entry looper) xs ys) there)

pub port_left : (looper : ℕ) (xs ys : List Step) (x : Noted PortEntry) → Contains (port_entries looper xs) x → Contains (port_entries looper (xs ++ ys)) x
port_left looper xs ys x there = subst (λ l. Contains l x) (sym (flat_map-append (port_entry looper) xs ys)) (Contains-append_left (port_entries looper xs) (port_entries looper ys) x there)

pub port_right : (looper : ℕ) (xs ys : List Step) (x : Noted PortEntry) → Contains (port_entries looper ys) x → Contains (port_entries looper (xs ++ ys)) x
port_right looper xs ys x there = subst (λ l. Contains l x) (sym (flat_map-append (port_entry looper) xs ys)) (Contains-append_right (port_entries looper xs) (port_entries looper ys) x there)

pub port_here : (looper : ℕ) (x : Noted PortEntry) (steps : List Step) → Contains (port_entries looper (at_port looper x ∷ steps)) x
port_here looper x steps =
    subst (λ (b : Bool). Contains (cond b (x ∷ []) [] ++ port_entries looper steps) x) (sym (eq-eqb looper looper refl)) (first_in x (port_entries looper steps))

-- what is there and owes the slot is counted
pub wrote_counts : (n looper : ℕ) (steps : List Step) (x : Noted PortEntry) → Contains (port_entries looper steps) x → writes_owing n x.entry.event ≡ true → 1 ≤ how_many (sends_to n looper) steps
wrote_counts n looper steps x there owed =
    let some = there_counts (λ (m : Noted PortEntry). writes_owing n m.entry.event) (port_entries looper steps) there.0 x (at_place (port_entries looper steps) x there) owed in
    omega (arith, some, steps_at_port n looper steps)

-- ---- an ask stays one with more steps around it
module _ (n looper : ℕ) (x : Noted PortEntry) where
  pub ask_as : (xs ys : List Step) → xs ≡ ys → HasAsk n looper x ys → HasAsk n looper x xs
  ask_as xs ys is a = subst (HasAsk n looper x) (sym is) a

  pub ask_left : (xs ys : List Step) → HasAsk n looper x xs → HasAsk n looper x (xs ++ ys)
  ask_left xs ys a = record {
    before = a.before;
    opened = a.opened;
    taken = a.taken;
    behind = a.behind ++ ys;
    there = ap (λ l. l ++ ys) a.there ∙ append_assoc a.before (at_book a.opened ∷ at_port looper x ∷ at_book a.taken ∷ a.behind) ys;
    opened_is = a.opened_is;
    owed = a.owed;
    taken_is = a.taken_is;
  }

  pub ask_right : (xs ys : List Step) → HasAsk n looper x ys → HasAsk n looper x (xs ++ ys)
  ask_right xs ys a = record {
    before = xs ++ a.before;
    opened = a.opened;
    taken = a.taken;
    behind = a.behind;
    there = ap (λ l. xs ++ l) a.there ∙ sym (append_assoc xs a.before (at_book a.opened ∷ at_port looper x ∷ at_book a.taken ∷ a.behind));
    opened_is = a.opened_is;
    owed = a.owed;
    taken_is = a.taken_is;
  }

  -- it is one of the entries at that port
  pub ask_there : (steps : List Step) → HasAsk n looper x steps → Contains (port_entries looper steps) x
  ask_there steps a =
      subst (λ l. Contains (port_entries looper l) x) (sym a.there)
      (port_right looper a.before (at_book a.opened ∷ at_port looper x ∷ at_book a.taken ∷ a.behind) x (port_here looper x (at_book a.taken ∷ a.behind)))

-- ---- the three steps of an ask
module _ (n : ℕ) (to : Address) (item : ItemData) (flat : List ℕ) (steps : List Step) (c : Converses to item flat steps) where
  slot_is : (c.slot == n) ≡ true → c.slot ≡ n
  slot_is e = eqb-true c.slot n e

  writes_slot : writes_owing n c.written.entry.event ≡ (c.slot == n)
  writes_slot = ap (writes_owing n) c.written_is

  pub converses_asks : (c.slot == n) ≡ true → HasAsk n to.looper c.written (at_book c.opened ∷ at_port to.looper c.written ∷ at_book c.taken ∷ [])
  converses_asks e = record {
    before = [];
    opened = c.opened;
    taken = c.taken;
    behind = [];
    there = refl;
    opened_is = c.opened_is ∙ ap slot.Opened (slot_is e);
    owed = writes_slot ∙ e;
    taken_is = c.taken_is ∙ ap slot.Taken (slot_is e);
  }

  -- whatever it writes with the slot is that ask
  pub converses_wrote : (looper : ℕ) (x : Noted PortEntry) → Contains (port_entries looper (at_book c.opened ∷ at_port to.looper c.written ∷ at_book c.taken ∷ [])) x → writes_owing n x.entry.event ≡ true
      → HasAsk n looper x (at_book c.opened ∷ at_port to.looper c.written ∷ at_book c.taken ∷ [])
  converses_wrote looper x there owed =
      let one = only_if (to.looper == looper) c.written x there in
      let same_looper : to.looper ≡ looper = eqb-true to.looper looper one.0 in
      let same : c.written ≡ x = one.1 in
      let e : (c.slot == n) ≡ true = sym writes_slot ∙ ap (λ (k : Noted PortEntry). writes_owing n k.entry.event) same ∙ owed in
      subst (λ (k : Noted PortEntry). HasAsk n looper k (at_book c.opened ∷ at_port to.looper c.written ∷ at_book c.taken ∷ [])) same
      (subst (λ (m : ℕ). HasAsk n m c.written (at_book c.opened ∷ at_port to.looper c.written ∷ at_book c.taken ∷ [])) same_looper (converses_asks e))
