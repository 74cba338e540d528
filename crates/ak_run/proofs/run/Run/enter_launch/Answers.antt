-- Main's turn, in which it launches.
use Rattle.std.proofs.Common.{Bor, List, Option, refl, ap, sym, subst, ◌∙◌, Some}
use Rattle.std.specs.Prelude.{option_map}
use Rattle.ak_base.specs.declared.thread.ThreadId.{ThreadId}
use Rattle.ak_message.specs.Message.{MessageData}
use Rattle.ak_message.specs.declared.message.Message.{Message}
use Rattle.ak_describe.specs.declared.described.AppText.{AppText}
use Rattle.ak_team.specs.Launching.{Book, ComesTo, TellsTeam}
use Rattle.ak_run.proofs.Launches.{comes_entered, enters, has_entered, is_next}
use Rattle.ak_run.proofs.RosterTurn.{RosterOn, goes_on}
use Rattle.ak_run.proofs.Standing.{same_book}
use Rattle.ak_run.proofs.run.Run.enter_launch.Goals as goal

pub finish-requires-clause-list : goal.finish-requires-clause-list
finish-requires-clause-list g c =
    let r = c.args.self.now in
    let l = c.launch_at_turn-launch in
    let entered = comes_entered c.deref-2.result.now r.shared c.args.word.now c.book.result.now l.new.book l.result l.ensures.launch in
    let list = ap (λ (b : Book). b.entries) c.book.ensures.value ∙ c.lock-turn.ensures.list in
    is_next entered.0 entered.1 c.lock-turn.new.seat c.book.result.now l.new.book entered.2 list (ap (λ s. s.thread) c.lock-turn.ensures.seen.after ∙ r.roster_thread ∙ r.main)

-- what was known of main's seat is so behind the turn
on : (g : _) (c : goal.After-finish g) → RosterOn c.book.result.now.heads (comes_entered c.deref-2.result.now c.args.self.now.shared c.args.word.now c.book.result.now c.launch_at_turn-launch.new.book c.launch_at_turn-launch.result c.launch_at_turn-launch.ensures.launch).1 c.args.self.now.roster_seat c.finish.new.seat
on g c =
    let r = c.args.self.now in
    let l = c.launch_at_turn-launch in
    let entered = comes_entered c.deref-2.result.now r.shared c.args.word.now c.book.result.now l.new.book l.result l.ensures.launch in
    let list = ap (λ (b : Book). b.entries) c.book.ensures.value ∙ c.lock-turn.ensures.list in
    goes_on r.roster_seat c.lock-turn.new.seat c.finish.new.seat c.book.result.now l.new.book entered.1 r.roster_idle (r.roster_thread ∙ r.main) c.lock-turn.ensures.seen c.lock-turn.ensures.known list entered.0 entered.2 c.finish.ensures.same c.finish.ensures.entered c.finish.ensures.known

pub invariant_of-self-2-clause-roster_of : goal.invariant_of-self-2-clause-roster_of
invariant_of-self-2-clause-roster_of g c = (on g c).keeps.lock ∙ c.args.self.now.roster_of

pub invariant_of-self-2-clause-roster_idle : goal.invariant_of-self-2-clause-roster_idle
invariant_of-self-2-clause-roster_idle g c = (on g c).keeps.turn ∙ c.args.self.now.roster_idle

pub invariant_of-self-2-clause-roster_thread : goal.invariant_of-self-2-clause-roster_thread
invariant_of-self-2-clause-roster_thread g c = (on g c).keeps.thread ∙ c.args.self.now.roster_thread ∙ ap (λ (t : ThreadId). t.0) (sym c.launch_at_turn-launch.ensures.clock)

pub returns : goal.returns
returns g c =
    let r = c.args.self.now in
    let value = c.book.ensures.value in
    let l = c.launch_at_turn-launch in
    let arguments : Option MessageData = option_map (λ (b : Bor Message). b.now) c.args.arguments in
    let comes = subst (λ (apps : List AppText). ComesTo apps r.shared c.args.word.now c.book.result.now l.new.book l.result) c.deref-2.ensures.value l.ensures.launch in
    let told = subst (λ (apps : List AppText). TellsTeam apps arguments c.args.word.now c.book.result.now l.result) c.deref-2.ensures.value l.ensures.told in
    record {
      launch = has_entered r _ c.requires.running (record { apps = refl; shared = refl; joined = refl; ports = refl; desks = refl; slots = refl }) refl (same_book r _ l.ensures.book_seat) (ap (λ s. s.front) l.ensures.book_seat) c.lock-turn.new.seat c.book.result.now l.new.book
          (c.lock-turn.ensures.opening ∙ ap (λ (b : Book). Some b.heads) (sym value)) c.lock-turn.ensures.seen c.lock-turn.ensures.known (ap (λ (b : Book). b.entries) value ∙ c.lock-turn.ensures.list)
          c.finish.ensures.same c.finish.ensures.entered c.finish.ensures.known l.ensures.by_main c.args.word.now arguments l.result comes told l.ensures.in_time;
      apps = refl;
      slots = refl;
      count = refl;
      did = enters r _ c.requires.running (record { apps = refl; shared = refl; joined = refl; ports = refl; desks = refl; slots = refl }) refl (same_book r _ l.ensures.book_seat) (ap (λ s. s.front) l.ensures.book_seat) c.lock-turn.new.seat c.book.result.now l.new.book
          (c.lock-turn.ensures.opening ∙ ap (λ (b : Book). Some b.heads) (sym value)) c.lock-turn.ensures.seen c.lock-turn.ensures.known (ap (λ (b : Book). b.entries) value ∙ c.lock-turn.ensures.list)
          c.finish.ensures.same c.finish.ensures.entered c.finish.ensures.known l.ensures.by_main c.args.word.now arguments l.result comes told l.ensures.in_time;
    }
