-- The entry of the post, behind its door.
use Rattle.std.proofs.Common.{◌∙◌, Err, ap, refl}
use Rattle.std.proofs.lemmas.Result.{err_from_is_err_and}
use Rattle.ak_messenger.specs.Sends.{post_event}
use Rattle.ak_session.proofs.SentThrough.{posts_on}
use Rattle.ak_session.proofs.Through.{sends_by_door, sends_without_door, still_standing}
use Rattle.ak_session.proofs.session.Session.post_at_once.Goals as goal

pub returns-in_err-place-clause-goes : goal.returns-in_err-place-clause-goes
returns-in_err-place-clause-goes g c heads start so_far stands =
    let told = err_from_is_err_and c.from_residual.result c.from_residual.ensures.1 in
    sends_without_door heads start so_far c.args.looper _ _ c.from_residual.result (told.1 ∙ ap Err told.2) (c.in_err-place.ensures.lacks heads start so_far stands)

pub returns-clause-goes : goal.returns-clause-goes
returns-clause-goes g c heads start so_far stands =
    let middle = c.way_to.new.self in
    let place = c.in_ok-place.place in
    let sent = c.post_through in
    sends_by_door heads start so_far c.args.looper _ _ sent.result middle (c.in_ok-place.ensures.goes heads start so_far stands)
    (λ now at. posts_on heads start now middle _ c.args.looper place c.index_mut.result.now _ at refl c.in_ok-place.ensures.way.1 c.index_mut.ensures.value refl refl sent.ensures.desk_seat (post_event c.args.envelope c.args.message.now sent.result) sent.ensures.book_seat sent.ensures.answered)

pub returns-in_err-place-clause-standing : goal.returns-in_err-place-clause-standing
returns-in_err-place-clause-standing g c = still_standing _ c.args.self.now _ c.requires.standing (returns-in_err-place-clause-goes g c)

pub returns-clause-standing : goal.returns-clause-standing
returns-clause-standing g c = still_standing _ c.args.self.now _ c.requires.standing (returns-clause-goes g c)
