-- What the sessions so far came to stands behind the rest; there is room for what the others came to.
use Rattle.std.proofs.Common.{◌≡◌, ◌≤◌, ◌+◌, length, map}
use Rattle.ak_block.specs.Together.{part_of}
use Rattle.ak_script.specs.Limits.{statement_limit}
use Rattle.ak_play.specs.Gathered.{HasRoomFor, KeepsRoom, gathered_and, gathered_seen, of_sessions}
use Rattle.ak_play.specs.Parts.{session_outcomes, session_tolds}
use Rattle.ak_play.proofs.gathered.Gathered.push_sessions.Given as goal

abbrev pub invariant-loop-heard : goal.invariant-loop-heard
invariant-loop-heard l = record {
  all : gathered_and (gathered_seen l.self) (of_sessions l.number (map part_of l.heard-iterator.rest.items)) ≡ gathered_and (gathered_seen l.fn.self) (of_sessions l.fn.from (map part_of l.fn.block.items));
  numbers : l.number + length l.heard-iterator.rest.items ≤ statement_limit + 1;
  room : HasRoomFor (length (session_outcomes (map part_of l.heard-iterator.rest.items))) (length (session_tolds (map part_of l.heard-iterator.rest.items))) (length l.heard-iterator.rest.items) l.self;
  kept : KeepsRoom l.fn.self l.self;
}
