-- What is begun stays the same message, and what it asks for is served behind all that it asked for before.
use Rattle.std.proofs.Common.{◌≡◌, ◌∙◌, true, false}
use Rattle.ak_diary.specs.Wants.{Serves}
use Rattle.ak_looper.proofs.Carried.{give_is_of, served_more, takes_of, want_is_of}
use Rattle.ak_looper.proofs.Going.{still_standing}
use Rattle.ak_looper.proofs.desk_turn.goes_on.Goals as goal

pub give-requires : goal.give-requires
give-requires g c = takes_of c.in-Ok.want c.serve-answer.result c.want.new.self c.in-Ok.ensures.awaits c.serve-answer.ensures.answer

pub returns : goal.returns
returns g c =
    let w = c.in-Ok.want in
    let a = c.serve-answer.result in
    let taken = c.args.taken.now in
    let before = c.args.desk.now in
    let asked = c.want.new.self in
    let heard = c.give.new.self in
    let r = c.args.reach.now in
    let r' = c.serve-answer.new.self in
    let asking = c.in_default-want.not-Done in
    let serves = c.serve-answer.ensures.goes in
    record {
      goes_on = λ _. c.give.ensures.goes_on;
      done = λ (no : true ≡ false). absurd (cc);
      of = give_is_of taken asked heard a c.give.ensures.given (want_is_of taken before asked w asking c.in-Ok.ensures.ok c.requires.of);
      serves = λ l start so_far served. served_more l start so_far taken w a r r' before asked heard asking c.in-Ok.ensures.ok c.give.ensures.given c.requires.of (λ now there. serves l start now there) served;
      stands = still_standing (λ l so_far. Serves l so_far taken.item w a) r r' c.requires.stands serves;
      opening = c.give.ensures.opening ∙ c.in-Ok.ensures.opening;
      entries = c.give.ensures.entries ∙ c.in-Ok.ensures.entries;
      keeps = c.serve-answer.ensures.keeps;
    }
