-- Those so far are joined, in order, and the rest are members as before.
use Rattle.std.proofs.Common.{◌≡◌, List, ◌++◌, length, map, All}
use Rattle.ak_roster.specs.declared.head.AppHead.{AppHead}
use Rattle.ak_gather.specs.declared.gathering.Joined.{Joined}
use Rattle.ak_gather.specs.declared.member.Member.{Member}
use Rattle.ak_looper.specs.declared.shared.Shared.{Shared}
use Rattle.ak_gather.specs.Gathering.{GoesOnKnowing, HasRoomFor, IsJoined, IsNoHead, joined_desk_front, joined_front, short_of}
use Rattle.ak_gather.specs.Members.{member_desk_front, member_front, IsMember}
use Rattle.ak_gather.proofs.gathering.join_all.Given as goal

abbrev pub invariant-loop-member : goal.invariant-loop-member
invariant-loop-member g l = record {
  roster : GoesOnKnowing l.fn.roster_seat l.roster_seat;
  book : GoesOnKnowing l.fn.book_seat l.book_seat;
  rest : (heads : List AppHead) (shared : Shared) → All (IsMember heads shared l.fn.roster_seat) l.fn.members.items → All (IsMember heads shared l.fn.roster_seat) l.member-iterator.rest.items;
  joined : (heads : List AppHead) (shared : Shared) → All (IsMember heads shared l.fn.roster_seat) l.fn.members.items → All (IsJoined heads l.roster_seat l.book_seat) l.all.loopers.items;
  no_heads : (heads : List AppHead) (shared : Shared) → All (IsMember heads shared l.fn.roster_seat) l.fn.members.items → All IsNoHead l.all.loopers.items;
  ways : map (λ (j : Joined). j.end.value.doors) l.all.loopers.items ≡ l.all.ways.items;
  short : l.all.short.items ≡ short_of l.all.loopers.items;
  numbers : map (λ (j : Joined). j.number) l.all.loopers.items ++ map (λ (m : Member). m.number) l.member-iterator.rest.items ≡ map (λ (m : Member). m.number) l.fn.members.items;
  jobs : map (λ (j : Joined). j.job.value) l.all.loopers.items ++ map (λ (m : Member). m.job.value) l.member-iterator.rest.items ≡ map (λ (m : Member). m.job.value) l.fn.members.items;
  fronts : map joined_front l.all.loopers.items ++ map member_front l.member-iterator.rest.items ≡ map member_front l.fn.members.items;
  desk_fronts : map joined_desk_front l.all.loopers.items ++ map member_desk_front l.member-iterator.rest.items ≡ map member_desk_front l.fn.members.items;
  room : HasRoomFor (length l.member-iterator.rest.items) l.all;
}
