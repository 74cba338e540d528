-- A history of a reply book that goes on by one entry, or by several.
use Rattle.std.proofs.Common.{◌≡◌, ℕ, ◌+◌, max, List, [], ◌∷◌, ◌++◌, refl, arith}
use Rattle.ak_turn.specs.Entries.{last_stamp_of}
use Rattle.ak_port.specs.declared.reply_entry.ReplyEntry.{ReplyEntry}
use Rattle.ak_port.specs.Reply.{SlotData, changed, slots_from, slots_after, BookStep, Replays, IsLegal}
use Rattle.ak_port.specs.ReplySeats.{stamp_of}
use Rattle.ak_turn.proofs.Surface.{rise_push}

pub slots_from-append : (slots : List SlotData) (xs ys : List ReplyEntry) → slots_from slots (xs ++ ys) ≡ slots_from (slots_from slots xs) ys
slots_from-append slots [] ys = refl
slots_from-append slots (x ∷ xs) ys = slots_from-append (changed slots x.by.0 x.event) xs ys

pub slots_push : (entries : List ReplyEntry) (entry : ReplyEntry) → slots_after (entries ++ entry ∷ []) ≡ changed (slots_after entries) entry.by.0 entry.event
slots_push entries entry = slots_from-append [] entries (entry ∷ [])

pub Replays-append : (slots : List SlotData) (xs ys : List ReplyEntry) → Replays slots (xs ++ ys) → Replays slots xs × Replays (slots_from slots xs) ys
Replays-append slots [] ys replays = (tt, replays)
Replays-append slots (x ∷ xs) ys replays = let rest = Replays-append (changed slots x.by.0 x.event) xs ys replays.1 in ((replays.0, rest.0), rest.1)

replays_push : (slots : List SlotData) (entries : List ReplyEntry) (entry : ReplyEntry) → Replays slots entries → BookStep (slots_from slots entries) entry.by.0 entry.event → Replays slots (entries ++ entry ∷ [])
replays_push slots [] entry replays step = (step, tt)
replays_push slots (x ∷ xs) entry replays step = (replays.0, replays_push (changed slots x.by.0 x.event) xs entry replays.1 step)

-- a history goes on by an entry that may come next, with a stamp above the last one
pub legal_push : (entries : List ReplyEntry) (entry : ReplyEntry) (time : ℕ) → IsLegal entries → BookStep (slots_after entries) entry.by.0 entry.event → entry.stamp ≡ 1 + max time (last_stamp_of stamp_of entries) → IsLegal (entries ++ entry ∷ [])
legal_push entries entry time legal step stamp = record {
  replays = replays_push [] entries entry legal.replays step;
  stamps = rise_push stamp_of entries entry legal.stamps (omega arith);
}
