-- Main's turn, in which it looks for a team.
use Rattle.std.proofs.Common.{refl, ap, sym, subst, ◌∙◌, Some, ◌≤◌, length}
use Rattle.ak_base.specs.declared.thread.ThreadId.{ThreadId}
use Rattle.ak_team.specs.Launching.{Book}
use Rattle.ak_run.proofs.LookUps.{found_started, last_there, looks_entered}
use Rattle.ak_run.proofs.Launches.{found_does, is_next, loopers_counted, runs_on}
use Rattle.ak_run.proofs.RosterTurn.{RosterOn, goes_on, sees_all}
use Rattle.ak_run.proofs.Standing.{same_book}
use Rattle.ak_run.proofs.run.Run.find.Goals.{After-finish}
use Rattle.ak_run.proofs.run.Run.find.Goals as goal

pub finish-requires-clause-list : goal.finish-requires-clause-list
finish-requires-clause-list g c =
    let r = c.args.self.now in
    let l = c.look_up_at_turn-answer in
    let entered = looks_entered c.args.word.now l.result c.book.result.now l.new.book l.ensures.found in
    let list = ap (λ (b : Book). b.entries) c.book.ensures.value ∙ c.lock-turn.ensures.list in
    is_next entered.0 0 c.lock-turn.new.seat c.book.result.now l.new.book entered.1 list (ap (λ s. s.thread) c.lock-turn.ensures.seen.after ∙ r.roster_thread ∙ r.main)

-- what was known of main's seat is so behind the turn
on : (g : _) (c : After-finish g) → RosterOn c.book.result.now.heads 0 c.args.self.now.roster_seat c.finish.new.seat
on g c =
    let r = c.args.self.now in
    let l = c.look_up_at_turn-answer in
    let entered = looks_entered c.args.word.now l.result c.book.result.now l.new.book l.ensures.found in
    let list = ap (λ (b : Book). b.entries) c.book.ensures.value ∙ c.lock-turn.ensures.list in
    goes_on r.roster_seat c.lock-turn.new.seat c.finish.new.seat c.book.result.now l.new.book 0 r.roster_idle (r.roster_thread ∙ r.main) c.lock-turn.ensures.seen c.lock-turn.ensures.known list entered.0 entered.1 c.finish.ensures.same c.finish.ensures.entered c.finish.ensures.known

pub invariant_of-self-3-clause-roster_of : goal.invariant_of-self-3-clause-roster_of
invariant_of-self-3-clause-roster_of g c = (on g c).keeps.lock ∙ c.args.self.now.roster_of

pub invariant_of-self-3-clause-roster_idle : goal.invariant_of-self-3-clause-roster_idle
invariant_of-self-3-clause-roster_idle g c = (on g c).keeps.turn ∙ c.args.self.now.roster_idle

pub invariant_of-self-3-clause-roster_thread : goal.invariant_of-self-3-clause-roster_thread
invariant_of-self-3-clause-roster_thread g c = (on g c).keeps.thread ∙ c.args.self.now.roster_thread ∙ ap (λ (t : ThreadId). t.0) (sym c.look_up_at_turn-answer.ensures.clock)

pub found_at-requires : goal.found_at-requires
found_at-requires g c = λ some.
    let r = c.args.self.now in
    let l = c.look_up_at_turn-answer in
    let entered = looks_entered c.args.word.now l.result c.book.result.now l.new.book l.ensures.found in
    let list = ap (λ (b : Book). b.entries) c.book.ensures.value ∙ c.lock-turn.ensures.list in
    subst (λ entries. 1 ≤ length entries) (sym (sees_all r.roster_seat c.lock-turn.new.seat c.finish.new.seat c.book.result.now l.new.book 0 r.roster_idle (r.roster_thread ∙ r.main) c.lock-turn.ensures.seen c.lock-turn.ensures.known list entered.0 entered.1 c.finish.ensures.same c.finish.ensures.entered c.finish.ensures.known))
    (last_there c.args.word.now l.result c.book.result.now l.new.book l.ensures.found some)

pub returns-clause-did : goal.returns-clause-did
returns-clause-did g c =
    let r = c.args.self.now in
    let value = c.book.ensures.value in
    let l = c.look_up_at_turn-answer in
    found_does r _ c.requires.running (record { apps = refl; shared = refl; joined = refl; ports = refl; desks = refl; slots = refl }) refl (same_book r _ refl) refl c.lock-turn.new.seat c.book.result.now l.new.book
    (c.lock-turn.ensures.opening ∙ ap (λ (b : Book). Some b.heads) (sym value)) c.lock-turn.ensures.seen c.lock-turn.ensures.known (ap (λ (b : Book). b.entries) value ∙ c.lock-turn.ensures.list)
    c.finish.ensures.same c.finish.ensures.entered c.finish.ensures.known l.ensures.by_main l.ensures.in_time c.args.word.now l.result c.found_at.result l.ensures.found c.found_at.ensures

pub returns-clause-started : goal.returns-clause-started
returns-clause-started g c =
    let r = c.args.self.now in
    let value = c.book.ensures.value in
    let l = c.look_up_at_turn-answer in
    let entered = looks_entered c.args.word.now l.result c.book.result.now l.new.book l.ensures.found in
    found_started c.args.word.now l.result c.book.result.now l.new.book (length r.members.items) (length c.finish.new.seat.front) c.found_at.result
    (loopers_counted r c.requires.running c.lock-turn.new.seat c.finish.new.seat c.book.result.now l.new.book (c.lock-turn.ensures.opening ∙ ap (λ (b : Book). Some b.heads) (sym value)) c.lock-turn.ensures.seen c.lock-turn.ensures.known
    (ap (λ (b : Book). b.entries) value ∙ c.lock-turn.ensures.list) c.finish.ensures.same c.finish.ensures.entered c.finish.ensures.known l.ensures.by_main entered.0 0 entered.1)
    l.ensures.found c.found_at.ensures

pub returns-clause-running : goal.returns-clause-running
returns-clause-running g c =
    let r = c.args.self.now in
    let value = c.book.ensures.value in
    let l = c.look_up_at_turn-answer in
    let entered = looks_entered c.args.word.now l.result c.book.result.now l.new.book l.ensures.found in
    runs_on r _ c.requires.running (record { apps = refl; shared = refl; joined = refl; ports = refl; desks = refl; slots = refl }) refl (same_book r _ refl) refl c.lock-turn.new.seat c.book.result.now l.new.book
    (c.lock-turn.ensures.opening ∙ ap (λ (b : Book). Some b.heads) (sym value)) c.lock-turn.ensures.seen c.lock-turn.ensures.known (ap (λ (b : Book). b.entries) value ∙ c.lock-turn.ensures.list)
    c.finish.ensures.same c.finish.ensures.entered c.finish.ensures.known l.ensures.by_main l.ensures.in_time entered.0 entered.1
