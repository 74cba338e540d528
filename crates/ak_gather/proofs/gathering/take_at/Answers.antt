-- The looper at that place, whose door takes them in.
use Rattle.std.proofs.Common.{◌≡◌, ◌<◌, ℕ, subst, Some, refl, sym, ap, ◌∙◌}
use Rattle.std.specs.Prelude.{slice_get}
use Rattle.std.proofs.lemmas.Option.{slice_get_read, slice_get_within}
use Rattle.ak_gather.specs.declared.gathering.Joined.{Joined}
use Rattle.ak_gather.proofs.gathering.take_at.Goals as goal

pub index_mut-requires : goal.index_mut-requires
index_mut-requires c = subst (λ (n : ℕ). c.args.place < n) (sym c.args.loopers.now.ok.0) (slice_get_within c.args.loopers.now.items c.args.place c.requires.there.looper c.requires.there.there)

-- the looper there
same : (js : _) (place : _) (a b : Joined) → slice_get js place ≡ Some a → slice_get js place ≡ Some b → a ≡ b
same js place a b one other = let both : Some a ≡ Some b = sym one ∙ other in cc both

pub take_in-requires-clause-port : goal.take_in-requires-clause-port
take_in-requires-clause-port c =
    let js = c.args.loopers.now.items in
    let at = c.requires.there in
    let here : slice_get js c.args.place ≡ Some c.index_mut.result.now = slice_get_read js _ c.args.place c.index_mut.result.now refl (slice_get_within js c.args.place at.looper at.there) c.index_mut.ensures.value in
    (at.at_port ∙ ap (λ (j : Joined). j.door.port_seat.lock) (same js c.args.place at.looper c.index_mut.result.now at.there here), c.requires.port)

pub take_in-requires-clause-desk : goal.take_in-requires-clause-desk
take_in-requires-clause-desk c =
    let js = c.args.loopers.now.items in
    let at = c.requires.there in
    let here : slice_get js c.args.place ≡ Some c.index_mut.result.now = slice_get_read js _ c.args.place c.index_mut.result.now refl (slice_get_within js c.args.place at.looper at.there) c.index_mut.ensures.value in
    (at.at_desk ∙ ap (λ (j : Joined). j.door.desk_seat.lock) (same js c.args.place at.looper c.index_mut.result.now at.there here), c.requires.desk)

pub returns : goal.returns
returns c =
    let js = c.args.loopers.now.items in
    let at = c.requires.there in
    let m = c.index_mut.result.now in
    record {
      before = m;
      there = slice_get_read js _ c.args.place m refl (slice_get_within js c.args.place at.looper at.there) c.index_mut.ensures.value;
      after = record m { door = c.take_in.new.door };
      number = refl;
      kind = refl;
      job = refl;
      end = refl;
      at_port = c.take_in.ensures.port;
      at_desk = c.take_in.ensures.desk;
      is = refl;
    }
