-- The order of entries, and what stands in a merged list.
use Rattle.std.proofs.Common.{◌≡◌, ◌∙◌, List, filter, sym, ap}
use Rattle.std.specs.Cmp.{IsStrictWeakOrder}
use Rattle.std.specs.List.Sorted.{ties}
use Rattle.std.proofs.lemmas.Cmp.{nat_cmp_total, on_total, then_total}
use Rattle.std.proofs.lemmas.List.MinMax.{ranks_by}
use Rattle.ak_turn.specs.Stamps.{Rise}
use Rattle.ak_roster.specs.declared.head.AppHead.{AppHead}
use Rattle.ak_port.specs.declared.port_entry.PortEntry.{PortEntry}
use Rattle.ak_port.specs.declared.reply_entry.ReplyEntry.{ReplyEntry}
use Rattle.ak_desk.specs.Entry.{EntryData}
use Rattle.ak_diary.specs.declared.histories.Histories.{Histories}
use Rattle.ak_diary.specs.Histories.{AreHistories}
use Rattle.ak_headline.specs.Run.{desk_list, port_list}
use Rattle.ak_journal.specs.declared.entry.Entry.{Entry}
use Rattle.ak_journal.specs.declared.entry.ObjectName.{ObjectName}
use Rattle.ak_journal.specs.declared.entry.ObjectName.TheVariants as object
use Rattle.ak_sequence.specs.Laws.{HasEachHistory, entries_at, is_at}
use Rattle.ak_world.specs.Merged.{IsMerged, book_entry, desk_entry, entries_of, is_before, port_entry, roster_entry, stamp_of, thread_of}
use Rattle.ak_sequence.proofs.Kept.{filter_swap}
use Rattle.ak_sequence.proofs.Objects.{at_object}
use Rattle.ak_sequence.proofs.OneOrder.{Up, one_list, up_kept, up_sorted}
use Rattle.ak_sequence.proofs.Sorting.{one_in_order}
use Rattle.ak_sequence.proofs.Rising.{rise_at_desk, rise_at_port, rise_at_roster, rise_mapped, rise_up}

pub by_stamps : IsStrictWeakOrder is_before
by_stamps = ranks_by (then_total (on_total stamp_of nat_cmp_total) (on_total thread_of nat_cmp_total)) (λ (e : Entry). e)

-- two lists that are merged of the same histories
pub merged_once : (h : Histories) (xs ys : List Entry) → IsMerged h xs → IsMerged h ys → xs ≡ ys
merged_once h xs ys m n = one_list is_before by_stamps xs ys (up_sorted is_before by_stamps xs m.ordered) (up_sorted is_before by_stamps ys n.ordered) (λ x. m.each x ∙ sym (n.each x))

-- and there is one
pub merged_there : (h : Histories) → (xs : List Entry) × IsMerged h xs
merged_there h = let one = one_in_order is_before by_stamps (entries_of h) in (one.0, record { ordered = one.1; each = one.2 })

pub merged_up : (h : Histories) (xs : List Entry) → IsMerged h xs → Up is_before xs
merged_up h xs m = up_sorted is_before by_stamps xs m.ordered

-- the stamps of the entries at one object rise
pub object_rises : (heads : List AppHead) (h : Histories) → AreHistories heads h → (name : ObjectName) → Rise stamp_of 0 (entries_at h name)
object_rises heads h are object.Roster = rise_mapped roster_entry 0 h.roster.items (rise_at_roster heads h are)
object_rises heads h are object.Book = rise_mapped (λ (entry : ReplyEntry). book_entry object.Book entry) 0 h.book are.book.stamps
object_rises heads h are (object.Port looper) = rise_mapped (λ (entry : PortEntry). port_entry (object.Port looper) entry) 0 (port_list h looper) (rise_at_port heads h are looper)
object_rises heads h are (object.Desk looper) = rise_mapped (λ (entry : EntryData). desk_entry (object.Desk looper) entry.plain) 0 (desk_list h looper) (rise_at_desk heads h are looper)

-- so a merged list has them in the order of that object's list
pub merged_at : (heads : List AppHead) (h : Histories) → AreHistories heads h → (xs : List Entry) → IsMerged h xs → HasEachHistory h xs
merged_at heads h are xs m name =
    one_list is_before by_stamps (filter (is_at name) xs) (entries_at h name)
    (up_kept is_before (is_at name) xs (merged_up h xs m))
    (rise_up 0 (entries_at h name) (object_rises heads h are name))
    (λ x.
    filter_swap (ties is_before x) (is_at name) xs
    ∙ ap (filter (is_at name)) (m.each x)
    ∙ filter_swap (is_at name) (ties is_before x) (entries_of h)
    ∙ ap (filter (ties is_before x)) (at_object h name))
