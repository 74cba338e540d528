use Rattle.std.proofs.Common.{◌≡◌, ℕ, ◌+◌, max, List, [], ◌∷◌, ◌++◌, length, refl, ap, ◌∙◌, arith, sym, subst}
use Rattle.ak_turn.specs.declared.clock.Clock.{Clock}
use Rattle.ak_turn.specs.Entries.{last_stamp_of}
use Rattle.ak_port.specs.declared.reply_kept.Kept.{Kept}
use Rattle.ak_port.specs.declared.reply_kept.KeptEvent.TheVariants as kept
use Rattle.ak_port.specs.declared.reply_slot.Progress.TheVariants as progress
use Rattle.ak_port.specs.declared.reply_slot.Slot.{Slot}
use Rattle.ak_port.specs.ReplyKept.{Told}
use Rattle.ak_port.proofs.ReplyMoves.{told_opened, last-now}
use Rattle.ak_port.proofs.reply_book.ReplyBook.open_slot.Goals as goal

pub invariant_of-self-2 : goal.invariant_of-self-2
invariant_of-self-2 c =
    let entries : c.make_room-room.new.entries.items ≡ c.self.inside.entries.items = c.in-Ok.ensures.entries.0 in
    let bytes : c.make_room-room.new.store.items ≡ c.self.inside.store.items = c.in-Ok.ensures.bytes.0 in
    let slots : c.make_room-room.new.slots.items ≡ c.self.inside.slots.items = c.in-Ok.ensures.slots.0 in
    let number : c.len-n.result ≡ length c.self.inside.slots.items = c.len-n.ensures ∙ c.self.inside.slots.ok.0 in
    let slot : Slot = record { opener = c.args.clock.now.thread; progress = progress.Open; flat = c.in-Ok.flat } in
    let entry : ℕ → Kept = λ n. record { stamp = c.enter.new.clock.time; by = c.args.clock.now.thread; event = kept.Opened n } in
    let stamp = ap (λ (k : Clock). k.time) c.enter.ensures.clock ∙ ap (λ (l : List Kept). 1 + max c.args.clock.now.time (last_stamp_of (λ (k : Kept). k.stamp) l)) entries in
    let told =
    told_opened _ _ c.enter.new.entries.items _ c.add_slot.new.slots.items _ _ c.enter.new.clock.time c.args.clock.now.thread c.args.clock.now.time c.self.invariant.told stamp slot refl
    (c.in-Ok.ensures.copy ∙ c.as_slice.ensures ∙ c.self.invariant.none) refl
    (c.enter.ensures.entered ∙ ap (λ (l : List Kept). l ++ entry c.len-n.result ∷ []) entries ∙ ap (λ (n : ℕ). c.self.inside.entries.items ++ entry n ∷ []) number) (c.add_slot.ensures ∙ ap (λ (l : List Slot). l ++ slot ∷ []) slots) in
    record {
      told = subst (λ (s : List ℕ). Told s c.enter.new.entries.items c.add_slot.new.slots.items (c.self.inside.waiting + 1) c.self.inside.filled) (sym bytes) told;
      room = record {
        for_entries = omega (arith, c.enter.ensures.len, c.enter.ensures.capacity, c.in-Ok.ensures.entries_room);
        for_bytes = c.in-Ok.ensures.bytes_room;
      };
      none = c.self.invariant.none;
    }

pub returns-clause-legal : goal.returns-clause-legal
returns-clause-legal c = (invariant_of-self-2 c).told.legal

pub returns-clause-clock : goal.returns-clause-clock
returns-clause-clock c =
    let entries : c.make_room-room.new.entries.items ≡ c.self.inside.entries.items = c.in-Ok.ensures.entries.0 in
    let at : ℕ → Clock = λ t. record { thread = c.args.clock.now.thread; time = 1 + max c.args.clock.now.time t } in
    c.enter.ensures.clock ∙ ap at (ap (last_stamp_of (λ (k : Kept). k.stamp)) entries ∙ last-now _ _ _ c.self.view_is)
