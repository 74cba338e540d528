-- What was done to a port is read of its words.
use Rattle.std.proofs.Common.{◌≡◌, ℕ, Bool, true, false, ltb, List, [], Some, None, refl, ap, arith}
use Rattle.std.specs.Prelude.{Result}
use Rattle.std.specs.Result.{result_ok}
use Rattle.std.specs.Fmt.{decimal}
use Rattle.std.proofs.lemmas.Bool.{le-ltb}
use Rattle.hex.specs.Hex.{IsBytes}
use Rattle.hex.specs.declared.error.FromHexError.{FromHexError}
use Rattle.hex.proofs.HexLemmas.{decode_of-encode_lower}
use Rattle.ak_message.specs.declared.address.Address.{Address}
use Rattle.ak_message.specs.declared.address.Target.{Target}
use Rattle.ak_message.specs.declared.address.Target.TheVariants as target
use Rattle.ak_message.specs.Fields.{specifier_count}
use Rattle.ak_input.specs.MessageText.{address_text, target_text}
use Rattle.ak_message.specs.Whole.{FitsAddress, FitsTarget}
use Rattle.ak_flatten.specs.Item.{IsItem, ItemData, item_fault, spelled}
use Rattle.ak_flatten.specs.declared.item.Duty.{Duty}
use Rattle.ak_flatten.specs.declared.item.Duty.TheVariants as duty
use Rattle.ak_port.specs.declared.port_entry.PortEvent.{PortEvent}
use Rattle.ak_port.specs.declared.port_entry.PortEvent.TheVariants as event
use Rattle.ak_journal.specs.Parts.{duty_text, flat_text, mark_text}
use Rattle.ak_journal.specs.Legible.{FitsDuty, IsLegibleItem, IsLegiblePort}
use Rattle.ak_journal.specs.PortLine.{item_words, port_words}
use Rattle.ak_journal.specs.ReadParts.{flat_of}
use Rattle.ak_journal.specs.ReadPort.{address_of, duty_of, head_at, item_of, mark_of, port_event, target_of}
use Rattle.ak_journal.proofs.Dark.{decimal_digits}
use Rattle.ak_journal.proofs.Numbers.{no_letter, u32_again, u64_again}
use Rattle.ak_journal.proofs.Parted.{before_point, behind_point}

pub flat_again : (flat : List ℕ) → IsBytes flat → flat_of (flat_text flat) ≡ Some flat
flat_again flat bytes = ap (λ (r : Result (List ℕ) FromHexError). result_ok r) (decode_of-encode_lower flat bytes)

target_again : (t : Target) → FitsTarget t → target_of (target_text t) ≡ Some t
target_again target.Preferred fits = refl
target_again (target.Token n) fits = rw (no_letter (decimal n) 112 [] (decimal_digits n) (omega arith), u64_again n fits) refl

mark_again : (dropped : Bool) → mark_of (mark_text dropped) ≡ Some dropped
mark_again true = refl
mark_again false = refl

address_again : (a : Address) → FitsAddress a → address_of (address_text a) ≡ Some a
address_again a fits =
    rw (behind_point (decimal a.looper) (target_text a.target) (decimal_digits a.looper), before_point (decimal a.looper) (target_text a.target) (decimal_digits a.looper), u32_again a.looper fits.0, target_again a.target fits.1) refl

duty_again : (owed : Duty) → FitsDuty owed → duty_of (duty_text owed) ≡ Some owed
duty_again duty.None fits = refl
duty_again (duty.Slot n) fits = rw (u64_again n fits) refl
duty_again (duty.Back a) fits = rw (address_again a fits) refl

-- ---- items
no_fault : (item : ItemData) → IsItem item → item_fault item.flat item.popped ≡ None
no_fault item is =
    let within : ltb (specifier_count (spelled item.flat).fields) item.popped ≡ false = le-ltb (specifier_count (spelled item.flat).fields) item.popped is.popped_within in
    rw (is.spells, within) refl

item_again : (item : ItemData) → IsLegibleItem item → item_of (item_words item) ≡ Some item
unfolding head_at
item_again item legible =
    rw (target_again item.target legible.target, u32_again item.team legible.team, mark_again item.dropped, duty_again item.duty legible.owed, u32_again item.popped legible.popped, flat_again item.flat legible.bytes, no_fault item legible.is_item) refl

-- ---- events
pub port_again : (what : PortEvent) → IsLegiblePort what → port_event (port_words what) ≡ Some what
port_again (event.Made capacity life) legible = rw (u32_again capacity legible.0, u32_again life legible.1) refl
port_again (event.Written position item) legible = rw (u64_again position legible.0, item_again item legible.1) refl
port_again event.Full legible = refl
port_again event.Refused legible = refl
port_again event.Spent legible = refl
port_again (event.Took k) legible = rw (u32_again k legible) refl
port_again (event.Rest k) legible = rw (u32_again k legible) refl
port_again event.Shut legible = refl
