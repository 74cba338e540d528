-- The ports and desks so far are those of the loopers so far, and there is room for the rest.
use Rattle.std.proofs.Common.{◌+◌, ◌≤◌, length, vec_capacity}
use Rattle.ak_gather.proofs.Books.{BooksFront}
use Rattle.ak_gather.proofs.gathering.keep_all.Given as goal

abbrev pub invariant-loop-looper : goal.invariant-loop-looper
invariant-loop-looper g l = record {
  books : BooksFront l.fn.joined.items l.looper-iterator.rest.items l.ports.items l.desks.items;
  room_for_ports : length l.ports.items + length l.looper-iterator.rest.items ≤ vec_capacity l.ports;
  room_for_desks : length l.desks.items + length l.looper-iterator.rest.items ≤ vec_capacity l.desks;
}
