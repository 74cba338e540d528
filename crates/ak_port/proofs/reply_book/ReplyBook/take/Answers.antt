use Rattle.std.proofs.Common.{ℕ, ◌+◌, ◌≤◌, max, List, ap, ◌∙◌, arith, sym, subst}
use Rattle.ak_turn.specs.declared.clock.Clock.{Clock}
use Rattle.ak_port.specs.declared.reply_entry.ReplyEntry.{ReplyEntry}
use Rattle.ak_port.specs.declared.reply_slot.Progress.TheVariants as progress
use Rattle.ak_port.specs.Reply.{IsLegal}
use Rattle.ak_port.specs.ReplySeats.{MayTake}
use Rattle.ak_port.proofs.ReplyKeeping.{found_at, some_filled}
use Rattle.ak_port.proofs.ReplyMoves.{told_taken, taken_shown, taken_is_text, last_below, last-now}
use Rattle.ak_port.proofs.reply_book.ReplyBook.take.Goals as goal

pub overflow_sub-self : goal.overflow_sub-self
overflow_sub-self c =
    let found = found_at c.self.inside.slots.items c.deref.result.now c.args.n progress.Filled c.is_at.result c.is_at.ensures c.deref.ensures.value c.if-not-is_at.false in
    some_filled _ _ _ _ c.args.n found.0 c.self.invariant.told.tallies found.1 found.2

pub enter-requires-clause-room : goal.enter-requires-clause-room
enter-requires-clause-room c =
    let found = found_at c.self.inside.slots.items c.deref.result.now c.args.n progress.Filled c.is_at.result c.is_at.ensures c.deref.ensures.value c.if-not-is_at.false in
    omega (arith, some_filled _ _ _ _ c.args.n found.0 c.self.invariant.told.tallies found.1 found.2, c.self.invariant.room.for_entries)

pub enter-requires-clause-last : goal.enter-requires-clause-last
enter-requires-clause-last c = last_below _ _ _ c.self.view_is c.requires.last

pub invariant_of-self : goal.invariant_of-self
invariant_of-self c =
    let found = found_at c.self.inside.slots.items c.deref.result.now c.args.n progress.Filled c.is_at.result c.is_at.ensures c.deref.ensures.value c.if-not-is_at.false in
    let may = subst (λ (all : List ReplyEntry). MayTake c.args.clock.now.thread.0 c.args.n all) (sym c.self.view_is) (c.requires.own (subst IsLegal c.self.view_is c.self.invariant.told.legal)) in
    let some : 1 ≤ c.self.inside.filled = some_filled _ _ _ _ c.args.n found.0 c.self.invariant.told.tallies found.1 found.2 in
    record {
      told = told_taken _ _ _ _ _ _ _ c.enter.new.clock.time c.args.clock.now.thread c.args.clock.now.time c.self.invariant.told (ap (λ (k : Clock). k.time) c.enter.ensures.clock) c.args.n found.0 may.stage found.1 found.2 may.slot.there
          c.enter.ensures.entered (c.close_slot-flat.ensures.moved found.0 found.1);
      room = record { for_entries = omega (arith, some, c.self.invariant.room.for_entries, c.enter.ensures.len, c.enter.ensures.capacity); for_bytes = c.self.invariant.room.for_bytes };
      none = c.self.invariant.none;
    }

pub returns-clause-legal : goal.returns-clause-legal
returns-clause-legal c = (invariant_of-self c).told.legal

pub returns-clause-clock : goal.returns-clause-clock
returns-clause-clock c _ =
    let at : ℕ → Clock = λ t. record { thread = c.args.clock.now.thread; time = 1 + max c.args.clock.now.time t } in
    c.enter.ensures.clock ∙ ap at (last-now _ _ _ c.self.view_is)

pub returns-clause-filled : goal.returns-clause-filled
returns-clause-filled c =
    let found = found_at c.self.inside.slots.items c.deref.result.now c.args.n progress.Filled c.is_at.result c.is_at.ensures c.deref.ensures.value c.if-not-is_at.false in
    taken_shown _ _ _ _ _ c.args.n found.0 c.self.invariant.told found.1 found.2 _ _ _ c.close_slot-flat.ensures.bytes c.enter.ensures.entered

pub returns-clause-text : goal.returns-clause-text
returns-clause-text c =
    let found = found_at c.self.inside.slots.items c.deref.result.now c.args.n progress.Filled c.is_at.result c.is_at.ensures c.deref.ensures.value c.if-not-is_at.false in
    taken_is_text _ _ _ _ _ c.args.n found.0 c.self.invariant.told found.1 found.2 _ c.close_slot-flat.ensures.bytes
