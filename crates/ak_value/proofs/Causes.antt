-- Each refusal comes exactly where its cause holds.
use Rattle.std.proofs.Common.{◌≡◌, ◌≢◌, ◌↔◌, ℕ, Bool, true, false, cond, eqb, Option, None, Some, Result, Ok, Err, ok_or, IfOk, IfErr, IsErrOf, IsOkUnless, refl, ap, sym, subst, ◌∙◌, arith}
use Rattle.std.proofs.lemmas.Bool.{false≢true, eqb-true}
use Rattle.ak_message.specs.declared.specifier.At.{At}
use Rattle.ak_message.specs.declared.specifier.At.TheVariants as at
use Rattle.ak_message.specs.Message.{ValueData, MessageData}
use Rattle.ak_message.specs.Fields.{IsMessage}
use Rattle.ak_value.specs.declared.fault.ElementFault.{ElementFault}
use Rattle.ak_value.specs.declared.fault.ElementFault.TheVariants as fault
use Rattle.ak_value.specs.Elements.{ElementsData}
use Rattle.ak_value.specs.Choice.{Part, part_of, chosen, choice_fault}
use Rattle.ak_value.specs.Access.{Accessed, access_of, has_form, is_name, chooses, data_of, has_room, HasData, Refuses, then_do, on_chosen, get, set, delete, count, create, name_of}
use Rattle.ak_value.specs.Laws.{OneCause}
use Rattle.ak_value.proofs.Bringing.{no_data, other_data, same_data, no_field, other_kind, same_kind, data_cases}

-- ---- the choice
module _ (F : Part → Accessed) where
  not_chosen : (at : At) (list : _) → part_of list at ≡ None → then_do (chosen list at) (λ p. Ok (F p)) ≡ Err (choice_fault at)
  not_chosen at list e = ap (λ o. then_do (ok_or o (choice_fault at)) (λ p. Ok (F p))) e

  choice_refused : (o : Option Part) (g f : ElementFault) → then_do (ok_or o g) (λ p. Ok (F p)) ≡ Err f → (o ≡ None) × (f ≡ g)
  choice_refused None g f e = (refl, cc)
  choice_refused (Some p) g f e = absurd cc

name_fault : (at : At) → is_name at ≡ true → choice_fault at ≡ fault.NameNotFound
name_fault (at.Name name) e = refl
name_fault at.Direct e = absurd (false≢true e)
name_fault (at.Index _) e = absurd (false≢true e)
name_fault (at.Reverse _) e = absurd (false≢true e)
name_fault (at.Range _ _) e = absurd (false≢true e)
name_fault (at.ReverseRange _ _) e = absurd (false≢true e)
name_fault (at.Id _) e = absurd (false≢true e)

index_fault : (at : At) → is_name at ≡ false → choice_fault at ≡ fault.BadIndex
index_fault (at.Name name) e = absurd (false≢true (sym e))
index_fault at.Direct e = refl
index_fault (at.Index _) e = refl
index_fault (at.Reverse _) e = refl
index_fault (at.Range _ _) e = refl
index_fault (at.ReverseRange _ _) e = refl
index_fault (at.Id _) e = refl

-- ---- what is known of one result
same_fault : (r : Result Accessed ElementFault) (f g : ElementFault) → r ≡ Err f → r ≡ Err g → f ≡ g
same_fault r f g e h = cc

not_refused : (r : Result Accessed ElementFault) (a : Accessed) (f : ElementFault) → r ≡ Ok a → r ≡ Err f → ⊥
not_refused r a f e h = absurd cc

abbrev Law : ElementsData → ℕ → At → MessageData → ElementFault → Type 0
Law e what at m f = (access_of e what at m ≡ Err f) ↔ Refuses f e what at m

module _ (e : ElementsData) (what : ℕ) (at : At) (m : MessageData) where
  -- where it is refused, and every cause gives a refusal
  by_refusal : (g f : ElementFault) → access_of e what at m ≡ Err g → Refuses g e what at m → access_of e what at m ≡ Err f → Refuses f e what at m
  by_refusal g f r cause h = subst (λ x. Refuses x e what at m) (same_fault _ g f r h) cause

-- ---- a form that the command does not take
module _ (e : ElementsData) (what : ℕ) (at : At) (m : MessageData) (no : has_form what at ≡ false) where
  not_carried_out : access_of e what at m ≡ Err fault.BadScript
  not_carried_out = rw no refl

  no_form_causes : (f : ElementFault) → Refuses f e what at m → access_of e what at m ≡ Err f
  no_form_causes fault.BadScript h = not_carried_out
  no_form_causes fault.BadValue h = absurd (false≢true (sym no ∙ h.0))
  no_form_causes fault.BadType h = absurd (false≢true (sym no ∙ h.0))
  no_form_causes fault.NameNotFound h = absurd (false≢true (sym no ∙ h.0))
  no_form_causes fault.BadIndex h = absurd (false≢true (sym no ∙ h.0))
  no_form_causes fault.ElementLimit h = absurd (false≢true (sym no ∙ h.0))
  no_form_causes fault.NoMemory h = absurd h

  pub no_form : (f : ElementFault) → Law e what at m f
  no_form f = (by_refusal e what at m fault.BadScript f not_carried_out no, no_form_causes f)

-- ---- a choice that is not there
choice_cause : (e : ElementsData) (what : ℕ) (at : At) (m : MessageData) → has_form what at ≡ true → HasData e.kind what m → chooses what ≡ true → part_of e.list at ≡ None → Refuses (choice_fault at) e what at m
choice_cause e what (at.Name name) m form has choosing none = (form, has, choosing, refl, none)
choice_cause e what at.Direct m form has choosing none = (form, has, choosing, refl, none)
choice_cause e what (at.Index _) m form has choosing none = (form, has, choosing, refl, none)
choice_cause e what (at.Reverse _) m form has choosing none = (form, has, choosing, refl, none)
choice_cause e what (at.Range _ _) m form has choosing none = (form, has, choosing, refl, none)
choice_cause e what (at.ReverseRange _ _) m form has choosing none = (form, has, choosing, refl, none)
choice_cause e what (at.Id _) m form has choosing none = (form, has, choosing, refl, none)

abbrev GET : ℕ
GET = 0x50474554

abbrev SET : ℕ
SET = 0x50534554

abbrev COUNT : ℕ
COUNT = 0x50434e54

abbrev CREATE : ℕ
CREATE = 0x50435254

abbrev DELETE : ℕ
DELETE = 0x5044454c

module _ (e : ElementsData) (at : At) (m : MessageData) where
  -- ---- the commands that need no value
  get_causes : (f : ElementFault) → Refuses f e GET at m → access_of e GET at m ≡ Err f
  get_causes fault.BadScript h = absurd (false≢true (sym h))
  get_causes fault.BadValue h = absurd (false≢true h.1)
  get_causes fault.BadType h = absurd (false≢true h.1)
  get_causes fault.NameNotFound h = not_chosen (get e) at e.list h.4 ∙ ap Err (name_fault at h.3)
  get_causes fault.BadIndex h = not_chosen (get e) at e.list h.4 ∙ ap Err (index_fault at h.3)
  get_causes fault.ElementLimit h = absurd (false≢true h.2)
  get_causes fault.NoMemory h = absurd h

  get_refused : (f : ElementFault) → access_of e GET at m ≡ Err f → Refuses f e GET at m
  get_refused f h =
      let r = choice_refused (get e) (part_of e.list at) (choice_fault at) f h in
      subst (λ x. Refuses x e GET at m) (sym r.1) (choice_cause e GET at m refl (λ need. absurd (false≢true need)) refl r.0)

  pub get_law : (f : ElementFault) → Law e GET at m f
  get_law f = (get_refused f, get_causes f)

  delete_is : has_form DELETE at ≡ true → access_of e DELETE at m ≡ on_chosen e at (delete e)
  delete_is form = rw form refl

  delete_causes : has_form DELETE at ≡ true → (f : ElementFault) → Refuses f e DELETE at m → access_of e DELETE at m ≡ Err f
  delete_causes form fault.BadScript h = absurd (false≢true (sym h ∙ form))
  delete_causes form fault.BadValue h = absurd (false≢true h.1)
  delete_causes form fault.BadType h = absurd (false≢true h.1)
  delete_causes form fault.NameNotFound h = delete_is form ∙ not_chosen (delete e) at e.list h.4 ∙ ap Err (name_fault at h.3)
  delete_causes form fault.BadIndex h = delete_is form ∙ not_chosen (delete e) at e.list h.4 ∙ ap Err (index_fault at h.3)
  delete_causes form fault.ElementLimit h = absurd (false≢true h.2)
  delete_causes form fault.NoMemory h = absurd h

  delete_refused : has_form DELETE at ≡ true → (f : ElementFault) → access_of e DELETE at m ≡ Err f → Refuses f e DELETE at m
  delete_refused form f h =
      let r = choice_refused (delete e) (part_of e.list at) (choice_fault at) f (sym (delete_is form) ∙ h) in
      subst (λ x. Refuses x e DELETE at m) (sym r.1) (choice_cause e DELETE at m form (λ need. absurd (false≢true need)) refl r.0)

  pub delete_law : has_form DELETE at ≡ true → (f : ElementFault) → Law e DELETE at m f
  delete_law form f = (delete_refused form f, delete_causes form f)

  count_is : has_form COUNT at ≡ true → access_of e COUNT at m ≡ Ok (count e)
  count_is form = rw form refl

  count_causes : has_form COUNT at ≡ true → (f : ElementFault) → Refuses f e COUNT at m → access_of e COUNT at m ≡ Err f
  count_causes form fault.BadScript h = absurd (false≢true (sym h ∙ form))
  count_causes form fault.BadValue h = absurd (false≢true h.1)
  count_causes form fault.BadType h = absurd (false≢true h.1)
  count_causes form fault.NameNotFound h = absurd (false≢true h.2)
  count_causes form fault.BadIndex h = absurd (false≢true h.2)
  count_causes form fault.ElementLimit h = absurd (false≢true h.2)
  count_causes form fault.NoMemory h = absurd h

  pub count_law : has_form COUNT at ≡ true → (f : ElementFault) → Law e COUNT at m f
  count_law form f = (λ h. absurd (not_refused _ (count e) f (count_is form) h), count_causes form f)

-- ---- the commands that need a value
module _ (e : ElementsData) (at : At) (m : MessageData) (sound : IsMessage m) where
  abbrev SetTo : ValueData → Result Accessed ElementFault
  SetTo value = on_chosen e at (λ p. set e p value)

  set_by : (d : Result ValueData ElementFault) → data_of e.kind m ≡ d → access_of e SET at m ≡ then_do d SetTo
  set_by d h = ap (λ x. then_do x SetTo) h

  set_unchosen : HasData e.kind SET m → part_of e.list at ≡ None → access_of e SET at m ≡ Err (choice_fault at)
  set_unchosen has none =
      let f = has refl in
      let b = same_data e.kind m f.0 f.1 f.2 sound in
      set_by (Ok b.value) b.found ∙ not_chosen (λ p. set e p b.value) at e.list none

  set_causes : (f : ElementFault) → Refuses f e SET at m → access_of e SET at m ≡ Err f
  set_causes fault.BadScript h = absurd (false≢true (sym h))
  set_causes fault.BadValue h = set_by _ (no_data e.kind m h.2)
  set_causes fault.BadType h = set_by _ (other_data e.kind m h.2.0 h.2.1 h.2.2)
  set_causes fault.NameNotFound h = set_unchosen h.1 h.4 ∙ ap Err (name_fault at h.3)
  set_causes fault.BadIndex h = set_unchosen h.1 h.4 ∙ ap Err (index_fault at h.3)
  set_causes fault.ElementLimit h = absurd (false≢true h.2)
  set_causes fault.NoMemory h = absurd h

  set_refused : (f : ElementFault) → access_of e SET at m ≡ Err f → Refuses f e SET at m
  set_refused f h =
      elim (data_cases e.kind m) [
        | no_field none ↦ by_refusal e SET at m fault.BadValue f (set_by _ (no_data e.kind m none)) (refl, refl, none) h
        | other_kind g some other ↦
            by_refusal e SET at m fault.BadType f (set_by _ (other_data e.kind m g some other)) (refl, refl, (g, some, other)) h
        | same_kind g some same ↦
            let b = same_data e.kind m g some same sound in
            let r = choice_refused (λ p. set e p b.value) (part_of e.list at) (choice_fault at) f (sym (set_by (Ok b.value) b.found) ∙ h) in
            subst (λ x. Refuses x e SET at m) (sym r.1) (choice_cause e SET at m refl (λ _. (g, some, same)) refl r.0)
      ]

  pub set_law : (f : ElementFault) → Law e SET at m f
  set_law f = (set_refused f, set_causes f)

  abbrev CreatedWith : ValueData → Result Accessed ElementFault
  CreatedWith value = cond (has_room e) (Ok (create e (name_of at m) value)) (Err fault.ElementLimit)

  module _ (form : has_form CREATE at ≡ true) where
    create_by : (d : Result ValueData ElementFault) → data_of e.kind m ≡ d → access_of e CREATE at m ≡ then_do d CreatedWith
    create_by d h = rw form (ap (λ x. then_do x CreatedWith) h)

    without_room : HasData e.kind CREATE m → has_room e ≡ false → access_of e CREATE at m ≡ Err fault.ElementLimit
    without_room has full =
        let f = has refl in
        let b = same_data e.kind m f.0 f.1 f.2 sound in
        create_by (Ok b.value) b.found ∙ rw full refl

    create_causes : (f : ElementFault) → Refuses f e CREATE at m → access_of e CREATE at m ≡ Err f
    create_causes fault.BadScript h = absurd (false≢true (sym h ∙ form))
    create_causes fault.BadValue h = create_by _ (no_data e.kind m h.2)
    create_causes fault.BadType h = create_by _ (other_data e.kind m h.2.0 h.2.1 h.2.2)
    create_causes fault.NameNotFound h = absurd (false≢true h.2)
    create_causes fault.BadIndex h = absurd (false≢true h.2)
    create_causes fault.ElementLimit h = without_room h.1 h.3
    create_causes fault.NoMemory h = absurd h

    by_room : (has : HasData e.kind CREATE m) (room : Bool) → has_room e ≡ room → (f : ElementFault) → access_of e CREATE at m ≡ Err f → Refuses f e CREATE at m
    by_room has true r f h =
        let g = has refl in
        let b = same_data e.kind m g.0 g.1 g.2 sound in
        absurd (not_refused _ (create e (name_of at m) b.value) f (create_by (Ok b.value) b.found ∙ rw r refl) h)
    by_room has false r f h =
        by_refusal e CREATE at m fault.ElementLimit f (without_room has r) (form, has, refl, r) h

    create_refused : (f : ElementFault) → access_of e CREATE at m ≡ Err f → Refuses f e CREATE at m
    create_refused f h =
        elim (data_cases e.kind m) [
          | no_field none ↦ by_refusal e CREATE at m fault.BadValue f (create_by _ (no_data e.kind m none)) (form, refl, none) h
          | other_kind g some other ↦
              by_refusal e CREATE at m fault.BadType f (create_by _ (other_data e.kind m g some other)) (form, refl, (g, some, other)) h
          | same_kind g some same ↦ by_room (λ _. (g, some, same)) (has_room e) refl f h
        ]

    pub create_law : (f : ElementFault) → Law e CREATE at m f
    create_law f = (create_refused f, create_causes f)

-- ---- each command
module _ (e : ElementsData) (what : ℕ) (at : At) (m : MessageData) (f : ElementFault) (sound : IsMessage m) where
  at_code : (code : ℕ) → eqb what code ≡ true → Law e code at m f → Law e what at m f
  at_code code same law = subst (λ w. Law e w at m f) (sym (eqb-true what code same)) law

  form_at : (code : ℕ) → eqb what code ≡ true → has_form what at ≡ true → has_form code at ≡ true
  form_at code same form = subst (λ w. has_form w at ≡ true) (eqb-true what code same) form

  by_code : has_form what at ≡ true → (g s c r d : Bool) → eqb what GET ≡ g → eqb what SET ≡ s → eqb what COUNT ≡ c → eqb what CREATE ≡ r → eqb what DELETE ≡ d → Law e what at m f
  by_code form true s c r d eg es ec er ed = at_code GET eg (get_law e at m f)
  by_code form false true c r d eg es ec er ed = at_code SET es (set_law e at m sound f)
  by_code form false false true r d eg es ec er ed = at_code COUNT ec (count_law e at m (form_at COUNT ec form) f)
  by_code form false false false true d eg es ec er ed =
      at_code CREATE er (create_law e at m sound (form_at CREATE er form) f)
  by_code form false false false false true eg es ec er ed =
      at_code DELETE ed (delete_law e at m (form_at DELETE ed form) f)
  by_code form false false false false false eg es ec er ed =
      let none : has_form what at ≡ false = rw (eg, es, ec, er, ed) refl in
      absurd (false≢true (sym none ∙ form))

  by_form : (b : Bool) → has_form what at ≡ b → Law e what at m f
  by_form true form =
      by_code form (eqb what GET) (eqb what SET) (eqb what COUNT) (eqb what CREATE) (eqb what DELETE) refl refl refl refl refl
  by_form false other = no_form e what at m other f

pub one_cause : OneCause
one_cause e what at m f sound = by_form e what at m f sound (has_form what at) refl

-- ---- of an answer that follows it
module _ {A : Type 0} (f : ElementFault) (known : f ≢ fault.NoMemory) where
  err_of : (r : Result Accessed ElementFault) (answer : Result A ElementFault) → IfErr r (λ g. answer ≡ Err g) → IfOk r (λ _. IsOkUnless answer fault.NoMemory) → answer ≡ Err f → r ≡ Err f
  err_of (Ok a) (Ok x) refused only e = absurd cc
  err_of (Ok a) (Err g) refused only e =
      let same : f ≡ g = cc in
      absurd (known (same ∙ only))
  err_of (Err g) answer refused only e = grind arith

  answer_of : (r : Result Accessed ElementFault) (answer : Result A ElementFault) → IfErr r (λ g. answer ≡ Err g) → r ≡ Err f → answer ≡ Err f
  answer_of (Ok a) answer refused e = absurd (not_refused (Ok a) a f refl e)
  answer_of (Err g) answer refused e = grind arith

pub cause_of : {A : Type 0} (e : ElementsData) (what : ℕ) (at : At) (m : MessageData) (answer : Result A ElementFault) → IsMessage m → IfErr (access_of e what at m) (λ f. answer ≡ Err f) → IfOk (access_of e what at m) (λ _. IsOkUnless answer fault.NoMemory) → (f : ElementFault) → f ≢ fault.NoMemory → IsErrOf answer f ↔ Refuses f e what at m
cause_of e what at m answer sound refused only f known =
    let law = one_cause e what at m f sound in
    (λ h. law.0 (err_of f known (access_of e what at m) answer refused only h), λ h. answer_of f known (access_of e what at m) answer refused (law.1 h))
