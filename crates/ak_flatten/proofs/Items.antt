-- An item of a message, or of a flat text: its bytes spell the message, and the popped specifiers are there.
use Rattle.std.proofs.Common.{◌≡◌, ℕ, ◌<◌, ◌≤◌, Bool, true, false, cond, List, [], ◌∷◌, length, map, find, codes, Option, None, Some, Result, Ok, refl, sym, ap, subst, ◌∙◌, arith}
use Rattle.std.specs.Prelude.{if◌then◌else◌}
use Rattle.std.specs.Result.{result_err}
use Rattle.std.proofs.lemmas.Bool.Decides.{nat_tests}
use Rattle.std.proofs.lemmas.List.{length-map}
use Rattle.ak_message.specs.declared.kind.Kind.TheVariants as k
use Rattle.ak_message.specs.Kind.{is_same_kind}
use Rattle.ak_message.specs.Message.{FieldData, MessageData}
use Rattle.ak_message.specs.Fields.{is_named, specifier_count, specifier_count_in}
use Rattle.ak_message.specs.Whole.{IsWhole}
use Rattle.ak_flatten.specs.declared.fault.FlatFault.{FlatFault}
use Rattle.ak_flatten.specs.declared.fault.ItemFault.TheVariants as fault
use Rattle.ak_flatten.specs.declared.fault.UnflattenFault.{UnflattenFault}
use Rattle.ak_flatten.specs.declared.fault.UnflattenFault.TheVariants as unread
use Rattle.ak_flatten.specs.Item.{ItemData, IsItem, IsItemFault, fault_behind, item_fault, message_or_empty, popped_fault, spelled, unread_fault}
use Rattle.ak_flatten.specs.Laws.{Spells, IsFirstFault, first_fault}
use Rattle.ak_message.specs.Popped.{unpopped, unpopped_field, unpopped_value}
use Rattle.ak_flatten.specs.Reading.{read_message}
use Rattle.ak_flatten.specs.Spelling.{spelling}
use Rattle.ak_flatten.proofs.LawsHold.{spelled_is_read, written_is_read_holds}

-- ---- as many specifiers stand in a message with nothing popped
count-unpopped : (f : FieldData) → specifier_count_in (Some (unpopped_field f)) ≡ specifier_count_in (Some f)
count-unpopped f = ap (λ (n : ℕ). if is_same_kind f.kind k.Message then n else 0) (length-map f.values unpopped_value)

chosen-unpopped : (test : Bool) (f : FieldData) (o p : Option FieldData) → specifier_count_in o ≡ specifier_count_in p → specifier_count_in (cond test (Some (unpopped_field f)) o) ≡ specifier_count_in (cond test (Some f) p)
chosen-unpopped true f o p e = count-unpopped f
chosen-unpopped false f o p e = e

named-unpopped : (name : List ℕ) (fs : List FieldData) → specifier_count_in (find (is_named name) (map unpopped_field fs)) ≡ specifier_count_in (find (is_named name) fs)
named-unpopped name [] = refl
named-unpopped name (f ∷ fs) =
    chosen-unpopped (is_named name f) f (find (is_named name) (map unpopped_field fs)) (find (is_named name) fs) (named-unpopped name fs)

pub specifiers-unpopped : (m : MessageData) → specifier_count (unpopped m).fields ≡ specifier_count m.fields
specifiers-unpopped m = named-unpopped (codes "specifiers") m.fields

-- ---- what is read of the bytes
no_fault : (bytes : List ℕ) (m : MessageData) → read_message bytes ≡ Ok m → first_fault bytes ≡ None
no_fault bytes m e = ap (λ (r : Result MessageData FlatFault). result_err r) e

spelled_as_read : (bytes : List ℕ) (m : MessageData) → read_message bytes ≡ Ok m → spelled bytes ≡ m
spelled_as_read bytes m e = ap message_or_empty e

pub spelled_as_spells : (bytes : List ℕ) (m : MessageData) → Spells bytes m → spelled bytes ≡ m
spelled_as_spells bytes m s = spelled_as_read bytes m (spelled_is_read bytes m s)

item_as_read : (item : ItemData) (m : MessageData) → read_message item.flat ≡ Ok m → item.popped ≤ specifier_count m.fields → IsItem item
item_as_read item m e within =
    record {
      spells = no_fault item.flat m e;
      popped_within = subst (λ (n : MessageData). item.popped ≤ specifier_count n.fields) (sym (spelled_as_read item.flat m e)) within;
    }

pub item_of_spelled : (item : ItemData) (m : MessageData) → Spells item.flat m → item.popped ≤ specifier_count m.fields → IsItem item
item_of_spelled item m s within = item_as_read item m (spelled_is_read item.flat m s) within

-- ---- of a message
written_is_unpopped : (m : MessageData) → IsWhole m → length (spelling m) ≤ 4096 → read_message (spelling m) ≡ Ok (unpopped m)
written_is_unpopped m whole limit = spelled_is_read (spelling m) (unpopped m) (written_is_read_holds m whole limit)

pub item_of_message : (item : ItemData) (m : MessageData) → IsWhole m → length (spelling m) ≤ 4096 → item.flat ≡ spelling m → item.popped ≤ specifier_count m.fields → IsItem item
item_of_message item m whole limit flat within =
    item_as_read item (unpopped m) (ap read_message flat ∙ written_is_unpopped m whole limit)
    (omega (arith, within, specifiers-unpopped m))

pub message_is : (flat : List ℕ) (popped : ℕ) (m : MessageData) → IsWhole m → length (spelling m) ≤ 4096 → flat ≡ spelling m → popped ≡ m.popped → record (spelled flat) { popped = popped } ≡ record (unpopped m) { popped = m.popped }
message_is flat popped m whole limit same same_popped =
    let read = spelled_as_read flat (unpopped m) (ap read_message same ∙ written_is_unpopped m whole limit) in
    λ i. record (read i) { popped = same_popped i }

-- ---- of a flat text
popped_fits : (specifiers popped : ℕ) → popped ≤ specifiers → popped_fault specifiers popped ≡ None
popped_fits specifiers popped within = grind (arith, nat_tests)

popped_over : (specifiers popped : ℕ) → specifiers < popped → popped_fault specifiers popped ≡ Some fault.Popped
popped_over specifiers popped over = grind (arith, nat_tests)

-- the bytes spell the message, so the number of popped specifiers decides
fault_of_spelled : (flat : List ℕ) (popped : ℕ) (m : MessageData) → Spells flat m → item_fault flat popped ≡ popped_fault (specifier_count m.fields) popped
fault_of_spelled flat popped m s =
    ap (λ (o : Option FlatFault). fault_behind o (popped_fault (specifier_count (spelled flat).fields) popped)) (no_fault flat m (spelled_is_read flat m s)) ∙ ap (λ (n : MessageData). popped_fault (specifier_count n.fields) popped) (spelled_as_spells flat m s)

pub item_fits : (flat : List ℕ) (popped : ℕ) (m : MessageData) → Spells flat m → popped ≤ specifier_count m.fields → item_fault flat popped ≡ None
item_fits flat popped m s within = fault_of_spelled flat popped m s ∙ popped_fits (specifier_count m.fields) popped within

pub item_over : (flat : List ℕ) (popped : ℕ) (m : MessageData) → Spells flat m → specifier_count m.fields < popped → item_fault flat popped ≡ Some fault.Popped
item_over flat popped m s over = fault_of_spelled flat popped m s ∙ popped_over (specifier_count m.fields) popped over

pub item_unread : (flat : List ℕ) (popped : ℕ) (e : UnflattenFault) → IsFirstFault flat e → IsItemFault flat popped (unread_fault e)
item_unread flat popped unread.NoMemory first = tt
item_unread flat popped (unread.Bad f) first =
    ap (λ (o : Option FlatFault). fault_behind o (popped_fault (specifier_count (spelled flat).fields) popped)) first
