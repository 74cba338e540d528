use Rattle.std.proofs.Common.{◌≡◌, ℕ, ◌+◌, ◌≤◌, max, ◌∷◌, [], ◌++◌, length, ap, ◌∙◌, arith, sym, subst}
use Rattle.std.specs.Prelude.{unwrap_or}
use Rattle.ak_turn.specs.declared.clock.Clock.{Clock}
use Rattle.ak_port.specs.declared.reply_slot.Progress.TheVariants as progress
use Rattle.ak_port.specs.Reply.{IsSettled, IsFlatText, none_text}
use Rattle.ak_port.specs.declared.reply_kept.Kept.{Kept}
use Rattle.ak_port.specs.declared.reply_kept.KeptEvent.TheVariants as kept
use Rattle.ak_port.specs.declared.reply_kept.Range.{Range}
use Rattle.ak_port.proofs.ReplyKeeping.{found_at, not_at, some_waiting}
use Rattle.ak_port.proofs.ReplyMoves.{told_filled, found_settled, filled_text, filled_slots, filled-seen, flat_or_none, flat_within, last_below, last-now}
use Rattle.ak_port.proofs.reply_book.ReplyBook.fill.Goals as goal

pub returns-then-not-is_at-clause-settled : goal.returns-then-not-is_at-clause-settled
returns-then-not-is_at-clause-settled c _ =
    let unless = not_at c.self.inside.slots.items c.deref.result.now c.args.n progress.Open c.is_at.result c.is_at.ensures c.deref.ensures.value c.if-not-is_at.true in
    subst (IsSettled c.args.n) c.self.view_is (found_settled _ _ _ _ _ c.args.n c.self.invariant.told (omega (arith, ap length c.deref.ensures.value, c.deref.ensures.len, c.len.ensures, c.if-place-len.false)) unless)

pub overflow_sub-self : goal.overflow_sub-self
overflow_sub-self c =
    let found = found_at c.self.inside.slots.items c.deref.result.now c.args.n progress.Open c.is_at.result c.is_at.ensures c.deref.ensures.value c.if-not-is_at.false in
    some_waiting _ _ _ _ c.args.n found.0 c.self.invariant.told.tallies found.1 found.2

pub put-range-requires : goal.put-range-requires
put-range-requires c =
    let found = found_at c.self.inside.slots.items c.deref.result.now c.args.n progress.Open c.is_at.result c.is_at.ensures c.deref.ensures.value c.if-not-is_at.false in
    let some : 1 ≤ c.self.inside.waiting = some_waiting _ _ _ _ c.args.n found.0 c.self.invariant.told.tallies found.1 found.2 in
    let text : c.as_slice.result.now ≡ unwrap_or c.args.flat none_text =
    filled_text _ _ _ _ _ _ c.args.n found.0 c.self.invariant.told found.1 found.2 c.args.flat _ _ (c.fill_slot.ensures.moved found.0 found.1) c.index.ensures c.as_slice.ensures in
    let short : length c.as_slice.result.now ≤ 4096 = flat_within _ (subst IsFlatText (sym text) (flat_or_none c.args.flat c.requires.text)) in
    omega (arith, some, short, c.self.invariant.room.for_bytes)

pub enter-requires-clause-room : goal.enter-requires-clause-room
enter-requires-clause-room c =
    let found = found_at c.self.inside.slots.items c.deref.result.now c.args.n progress.Open c.is_at.result c.is_at.ensures c.deref.ensures.value c.if-not-is_at.false in
    omega (arith, some_waiting _ _ _ _ c.args.n found.0 c.self.invariant.told.tallies found.1 found.2, c.self.invariant.room.for_entries)

pub enter-requires-clause-last : goal.enter-requires-clause-last
enter-requires-clause-last c = last_below _ _ _ c.self.view_is c.requires.last

pub invariant_of-self : goal.invariant_of-self
invariant_of-self c =
    let found = found_at c.self.inside.slots.items c.deref.result.now c.args.n progress.Open c.is_at.result c.is_at.ensures c.deref.ensures.value c.if-not-is_at.false in
    let some : 1 ≤ c.self.inside.waiting = some_waiting _ _ _ _ c.args.n found.0 c.self.invariant.told.tallies found.1 found.2 in
    let text : c.as_slice.result.now ≡ unwrap_or c.args.flat none_text =
    filled_text _ _ _ _ _ _ c.args.n found.0 c.self.invariant.told found.1 found.2 c.args.flat _ _ (c.fill_slot.ensures.moved found.0 found.1) c.index.ensures c.as_slice.ensures in
    let flat : IsFlatText c.as_slice.result.now = subst IsFlatText (sym text) (flat_or_none c.args.flat c.requires.text) in
    let short : length c.as_slice.result.now ≤ 4096 = flat_within _ flat in
    let entry : Range → Kept = λ r. record { stamp = c.enter.new.clock.time; by = c.args.clock.now.thread; event = kept.Filled c.args.n r } in
    record {
      told = told_filled _ _ c.as_slice.result.now _ _ _ _ _ _ c.enter.new.clock.time c.args.clock.now.thread c.args.clock.now.time c.self.invariant.told (ap (λ (k : Clock). k.time) c.enter.ensures.clock) c.args.n found.0 found.1 found.2 flat
          c.put-range.ensures.store (c.enter.ensures.entered ∙ ap (λ (r : Range). c.self.inside.entries.items ++ entry r ∷ []) c.put-range.ensures.range)
          (filled_slots _ _ _ _ _ _ c.args.n found.0 c.self.invariant.told found.1 found.2 c.args.flat _ (c.fill_slot.ensures.moved found.0 found.1) text);
      room = record {
        for_entries = omega (arith, some, c.self.invariant.room.for_entries, c.enter.ensures.len, c.enter.ensures.capacity);
        for_bytes = omega (arith, some, short, c.self.invariant.room.for_bytes, c.put-range.ensures.len, c.put-range.ensures.capacity);
      };
      none = c.self.invariant.none;
    }

pub returns-clause-legal : goal.returns-clause-legal
returns-clause-legal c = (invariant_of-self c).told.legal

pub returns-clause-filled : goal.returns-clause-filled
returns-clause-filled c _ =
    let found = found_at c.self.inside.slots.items c.deref.result.now c.args.n progress.Open c.is_at.result c.is_at.ensures c.deref.ensures.value c.if-not-is_at.false in
    let text : c.as_slice.result.now ≡ unwrap_or c.args.flat none_text =
    filled_text _ _ _ _ _ _ c.args.n found.0 c.self.invariant.told found.1 found.2 c.args.flat _ _ (c.fill_slot.ensures.moved found.0 found.1) c.index.ensures c.as_slice.ensures in
    let entry : Range → Kept = λ r. record { stamp = c.enter.new.clock.time; by = c.args.clock.now.thread; event = kept.Filled c.args.n r } in
    filled-seen _ _ c.as_slice.result.now _ _ _ _ _ c.enter.new.clock.time c.args.clock.now.thread c.enter.new.clock.thread c.args.n _ _ c.self.invariant.told c.put-range.ensures.store
    (c.enter.ensures.entered ∙ ap (λ (r : Range). c.self.inside.entries.items ++ entry r ∷ []) c.put-range.ensures.range) c.self.view_is (sym (ap (λ (k : Clock). k.thread) c.enter.ensures.clock)) text

pub returns-clause-clock : goal.returns-clause-clock
returns-clause-clock c _ =
    let at : ℕ → Clock = λ t. record { thread = c.args.clock.now.thread; time = 1 + max c.args.clock.now.time t } in
    c.enter.ensures.clock ∙ ap at (last-now _ _ _ c.self.view_is)
