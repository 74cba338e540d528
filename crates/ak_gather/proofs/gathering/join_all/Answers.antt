-- One more is joined.
use Rattle.std.proofs.Common.{◌≡◌, ℕ, List, [], ◌∷◌, ◌++◌, length, map, All, ap, ◌∙◌, subst, sym, arith, append_assoc}
use Rattle.std.proofs.lemmas.Grind.{common_steps}
use Rattle.std.proofs.lemmas.List.{map-append}
use Rattle.std.proofs.lemmas.List.Elements.{All-head, All-push, All-tail}
use Rattle.ak_gather.specs.declared.gathering.Joined.{Joined}
use Rattle.ak_gather.specs.declared.member.Member.{Member}
use Rattle.ak_gather.specs.Gathering.{HasRoomFor, IsJoined, IsNoHead, joined_desk_front, joined_front, short_of}
use Rattle.ak_gather.specs.Members.{member_desk_front, member_front, IsMember}
use Rattle.ak_gather.proofs.Joining.{all_joined_still, knows_further, member_still}
use Rattle.ak_gather.proofs.Taking.{short_more}
use Rattle.ak_gather.proofs.gathering.join_all.Goals as goal

pub join_one-looper-requires-clause-member : goal.join_one-looper-requires-clause-member
join_one-looper-requires-clause-member g c =
    let so_far = c.loop-member in
    let told = c.requires.members in
    let next : so_far.member-iterator.rest.items ≡ c.in-Some.member ∷ c.next.new.self.rest.items = grind (arith, common_steps) in
    let first = subst (All (IsMember told.0 told.1 c.args.roster_seat.now)) next (so_far.invariant.rest told.0 told.1 told.2) in (
      told.0,
      told.1,
      member_still told.0 told.1 c.args.roster_seat.now so_far.roster_seat c.in-Some.member so_far.invariant.roster (All-head (IsMember told.0 told.1 c.args.roster_seat.now) c.in-Some.member c.next.new.self.rest.items first),
      told.3,
      told.4,
    )

pub put-requires : goal.put-requires
put-requires g c =
    let next : c.loop-member.member-iterator.rest.items ≡ c.in-Some.member ∷ c.next.new.self.rest.items = grind (arith, common_steps) in
    record { room = (length c.next.new.self.rest.items, subst (λ (l : List Member). HasRoomFor (length l) c.loop-member.all) next c.loop-member.invariant.room) }

pub loop-member-preserved : goal.loop-member-preserved
loop-member-preserved g c =
    let was = c.loop-member.invariant in
    let r = c.args.roster_seat.now in
    let between = c.loop-member.roster_seat in
    let r' = c.join_one-looper.new.roster_seat in
    let book = c.loop-member.book_seat in
    let book' = c.join_one-looper.new.book_seat in
    let js = c.loop-member.all.loopers.items in
    let j = c.join_one-looper.result.0 in
    let put = c.put.ensures in
    let m = c.in-Some.member in
    let rest = c.next.new.self.rest.items in
    let one = c.join_one-looper.ensures in
    let all' = c.put.new.self in
    let pushed : all'.loopers.items ≡ js ++ j ∷ [] = put.loopers in
    let next : c.loop-member.member-iterator.rest.items ≡ m ∷ rest = grind (arith, common_steps) in
    record {
      roster = knows_further r between r' was.roster one.roster;
      book = knows_further c.args.book_seat.now book book' was.book one.book;
      rest = λ heads shared all. All-tail (IsMember heads shared r) m rest (subst (All (IsMember heads shared r)) next (was.rest heads shared all));
      joined = λ heads shared all.
          let member = member_still heads shared r between m was.roster (All-head (IsMember heads shared r) m rest (subst (All (IsMember heads shared r)) next (was.rest heads shared all))) in
          subst (All (IsJoined heads r' book')) (sym pushed)
          (All-push (IsJoined heads r' book') js j (all_joined_still heads between r' book book' js one.roster one.book (was.joined heads shared all)) (one.joined heads shared member));
      numbers =
          ap (λ (l : List Joined). map (λ (j : Joined). j.number) l ++ map (λ (m : Member). m.number) rest) pushed
          ∙ ap (λ (l : List _). l ++ map (λ (m : Member). m.number) rest) (map-append (λ (j : Joined). j.number) js (j ∷ []))
          ∙ append_assoc (map (λ (j : Joined). j.number) js) (j.number ∷ []) (map (λ (m : Member). m.number) rest)
          ∙ ap (λ (n : _). map (λ (j : Joined). j.number) js ++ n ∷ map (λ (m : Member). m.number) rest) one.number
          ∙ sym (ap (λ (l : List Member). map (λ (j : Joined). j.number) js ++ map (λ (m : Member). m.number) l) next)
          ∙ was.numbers;
      jobs =
          ap (λ (l : List Joined). map (λ (j : Joined). j.job.value) l ++ map (λ (m : Member). m.job.value) rest) pushed
          ∙ ap (λ (l : List _). l ++ map (λ (m : Member). m.job.value) rest) (map-append (λ (j : Joined). j.job.value) js (j ∷ []))
          ∙ append_assoc (map (λ (j : Joined). j.job.value) js) (j.job.value ∷ []) (map (λ (m : Member). m.job.value) rest)
          ∙ ap (λ (job : _). map (λ (j : Joined). j.job.value) js ++ job ∷ map (λ (m : Member). m.job.value) rest) one.job
          ∙ sym (ap (λ (l : List Member). map (λ (j : Joined). j.job.value) js ++ map (λ (m : Member). m.job.value) l) next)
          ∙ was.jobs;
      fronts =
          ap (λ (l : List Joined). map joined_front l ++ map member_front rest) pushed
          ∙ ap (λ (l : List _). l ++ map member_front rest) (map-append joined_front js (j ∷ []))
          ∙ append_assoc (map joined_front js) (joined_front j ∷ []) (map member_front rest)
          ∙ ap (λ (front : _). map joined_front js ++ front ∷ map member_front rest) one.front
          ∙ sym (ap (λ (l : List Member). map joined_front js ++ map member_front l) next)
          ∙ was.fronts;
      desk_fronts =
          ap (λ (l : List Joined). map joined_desk_front l ++ map member_desk_front rest) pushed
          ∙ ap (λ (l : List _). l ++ map member_desk_front rest) (map-append joined_desk_front js (j ∷ []))
          ∙ append_assoc (map joined_desk_front js) (joined_desk_front j ∷ []) (map member_desk_front rest)
          ∙ ap (λ (front : _). map joined_desk_front js ++ front ∷ map member_desk_front rest) one.desk_front
          ∙ sym (ap (λ (l : List Member). map joined_desk_front js ++ map member_desk_front l) next)
          ∙ was.desk_fronts;
      no_heads = λ heads shared all.
          let member = member_still heads shared r between m was.roster (All-head (IsMember heads shared r) m rest (subst (All (IsMember heads shared r)) next (was.rest heads shared all))) in
          subst (All IsNoHead) (sym pushed) (All-push IsNoHead js j (was.no_heads heads shared all) (one.no_head heads shared member));
      ways =
          ap (map (λ (x : Joined). x.end.value.doors)) pushed ∙ map-append (λ (x : Joined). x.end.value.doors) js (j ∷ [])
          ∙ ap (λ (ws : _). ws ++ j.end.value.doors ∷ []) was.ways ∙ ap (λ (w : _). c.loop-member.all.ways.items ++ w ∷ []) (sym one.ways) ∙ sym put.ways;
      short =
          put.short ∙ ap (λ (ns : List ℕ). ns ++ short_of (j ∷ [])) was.short ∙ sym (short_more js j) ∙ sym (ap short_of pushed);
      room = put.room (length rest) (subst (λ (l : List Member). HasRoomFor (length l) c.loop-member.all) next was.room);
    }
