-- What is done to the elements at one place.
use Rattle.std.proofs.Common.{◌≡◌, ℕ, ◌<◌, List, length, codes, get_or, Option, None, Some, option_map, Result, Ok, Err, IfOk, IfErr, IsOkUnless, refl, sym, ap, subst, ◌∙◌}
use Rattle.std.specs.List.{slice_get, slice_set}
use Rattle.std.specs.Result.{result_ok}
use Rattle.std.proofs.lemmas.List.{set-get_or}
use Rattle.std.proofs.lemmas.Option.{slice_get_read, get_or_from_slice_get}
use Rattle.ak_message.specs.declared.fault.FindFault.{FindFault}
use Rattle.ak_message.specs.declared.kind.Kind.{Kind}
use Rattle.ak_message.specs.declared.message.Value.{Value}
use Rattle.ak_message.specs.declared.specifier.At.{At}
use Rattle.ak_message.specs.Fields.{found_in}
use Rattle.ak_message.specs.Message.{ValueData, MessageData}
use Rattle.ak_value.specs.declared.fault.ElementFault.{ElementFault}
use Rattle.ak_value.specs.declared.fault.ElementFault.TheVariants as fault
use Rattle.ak_value.specs.Access.{Accessed, access_of}
use Rattle.ak_value.specs.Elements.{ElementsData}
use Rattle.ak_value.specs.Seen.{answer_of}
use Rattle.ak_action.specs.Properties.{access_at, access_in, accessed_in, changed_in, result_set, with_result_at}

-- ---- a reply without a result of the kind
module _ (list : List ElementsData) (place : ℕ) (reply : MessageData) where
  abbrev pub found : Kind → Result ValueData FindFault
  found kind = found_in reply.fields (codes "result") kind 0

  abbrev taken_by : ElementsData → ElementsData
  taken_by e = result_set e (found e.kind)

  kept_by : (e : ElementsData) (r : Result ValueData FindFault) → result_ok r ≡ None → result_set e r ≡ e
  kept_by e (Ok w) h = absurd cc
  kept_by e (Err _) h = refl

  kept_in : (o : Option ElementsData) (kind : Kind) → slice_get list place ≡ o → option_map (λ e. e.kind) o ≡ Some kind → result_ok (found kind) ≡ None → list ≡ changed_in taken_by list place o
  kept_in None kind there is h = refl
  kept_in (Some e) kind there is h =
      let same : e.kind ≡ kind = cc in
      let stays : taken_by e ≡ e = kept_by e (found e.kind) (ap (λ k. result_ok (found k)) same ∙ h) in
      sym (ap (slice_set list place) (stays ∙ sym (get_or_from_slice_get list place e e there)) ∙ set-get_or list place e)

  pub kept : (kind : Kind) → option_map (λ e. e.kind) (slice_get list place) ≡ Some kind → result_ok (found kind) ≡ None → list ≡ with_result_at list place reply
  kept kind is h = kept_in (slice_get list place) kind refl is h

-- ---- a command at a place
module _ (list : List ElementsData) (place : ℕ) where
  refused_in : {T : Type 0} (done : Result Accessed ElementFault) (r : Result T ElementFault) → IfErr done (λ f. r ≡ Err f) → IfErr (accessed_in list place done) (λ f. r ≡ Err f)
  refused_in (Ok a) r h = tt
  refused_in (Err f) r h = h

  only_in : {T : Type 0} (done : Result Accessed ElementFault) (r : Result T ElementFault) → IfOk done (λ _. IsOkUnless r fault.NoMemory) → IfOk (accessed_in list place done) (λ _. IsOkUnless r fault.NoMemory)
  only_in (Ok a) r h = h
  only_in (Err f) r h = tt

  ok_in : (done : Result Accessed ElementFault) (y : ElementsData) (r : Result (Option (List Value)) ElementFault) → IfOk r (λ values. done ≡ Ok (record { elements = y; values = answer_of values })) → IfOk r (λ values. accessed_in list place done ≡ Ok (record { list = slice_set list place y; values = answer_of values }))
  ok_in done y (Ok values) h = ap (accessed_in list place) h
  ok_in done y (Err f) h = tt

-- `seen` is what contracts see of the list
module _ (seen list : List ElementsData) (same : seen ≡ list) (place what : ℕ) (at : At) (m : MessageData) (x : ElementsData) (within : place < length list) (is : x ≡ get_or list place x) where
  there : access_at seen place what at m ≡ accessed_in list place (access_of x what at m)
  there =
      ap (λ l. access_at l place what at m) same ∙ ap (λ o. access_in list place o what at m) (slice_get_read list (length list) place x refl within is)

  pub refused : {T : Type 0} (r : Result T ElementFault) → IfErr (access_of x what at m) (λ f. r ≡ Err f) → IfErr (access_at seen place what at m) (λ f. r ≡ Err f)
  refused r h =
      subst (λ d. IfErr d (λ f. r ≡ Err f)) (sym there) (refused_in list place (access_of x what at m) r h)

  pub only : {T : Type 0} (r : Result T ElementFault) → IfOk (access_of x what at m) (λ _. IsOkUnless r fault.NoMemory) → IfOk (access_at seen place what at m) (λ _. IsOkUnless r fault.NoMemory)
  only r h =
      subst (λ d. IfOk d (λ _. IsOkUnless r fault.NoMemory)) (sym there) (only_in list place (access_of x what at m) r h)

  pub ok : (y : ElementsData) (r : Result (Option (List Value)) ElementFault) → IfOk r (λ values. access_of x what at m ≡ Ok (record { elements = y; values = answer_of values })) → IfOk r (λ values. access_at seen place what at m ≡ Ok (record { list = slice_set list place y; values = answer_of values }))
  ok y r h =
      subst (λ d. IfOk r (λ values. d ≡ Ok (record { list = slice_set list place y; values = answer_of values }))) (sym there) (ok_in list place (access_of x what at m) y r h)
