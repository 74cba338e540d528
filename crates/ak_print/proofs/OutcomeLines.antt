-- The line of an outcome has no line end but its own.
use Rattle.std.proofs.Common.{◌≡◌, ◌++◌, codes, refl}
use Rattle.std.specs.Fmt.{decimal}
use Rattle.ak_base.specs.Error.{name_of}
use Rattle.ak_base.specs.declared.error.KitError.TheVariants as e
use Rattle.ak_desk.specs.declared.entry.EditAnswer.{EditAnswer}
use Rattle.ak_desk.specs.declared.entry.EditAnswer.TheVariants as answer
use Rattle.ak_input.specs.MessageText.{message_text}
use Rattle.ak_print.specs.declared.told.Told.{Told}
use Rattle.ak_print.specs.declared.told.Told.TheVariants as told
use Rattle.ak_print.specs.Laws.{IsWholeOutcome, OutcomesAreLines}
use Rattle.ak_print.specs.Told.{edit_text, error_of, told_text}
use Rattle.ak_print.proofs.LineEnds.{line_ends, both, decimal_end, message_end, name_end}

-- what is the same in all lines of a kind
fronts
    : (line_ends (codes "launch team ") ≡ 0)
    × (line_ends (codes "launch ") ≡ 0)
    × (line_ends (codes " team ") ≡ 0)
    × (line_ends (codes "reply ") ≡ 0)
    × (line_ends (codes "posted") ≡ 0)
    × (line_ends (codes "edit ") ≡ 0)
    × (line_ends (codes "token ") ≡ 0)
    × (line_ends (codes "error ") ≡ 0)
    × (line_ends (codes "no such application") ≡ 0)
unfolding line_ends
fronts = (refl, refl, refl, refl, refl, refl, refl, refl, refl)

edit_end : (a : EditAnswer) → line_ends (edit_text a) ≡ 0
edit_end answer.Done = name_end e.Ok
edit_end (answer.Token n) = both (codes "token ") (decimal n) fronts.6 (decimal_end n)
edit_end (answer.Refused f) = name_end (error_of f)
edit_end answer.NoMemory = name_end e.NoMemory

text_end : (t : Told) → IsWholeOutcome t → line_ends (told_text t) ≡ 0
text_end (told.Started team) _ = both (codes "launch team ") (decimal team) fronts.0 (decimal_end team)
text_end (told.Running team) _ =
    both (codes "launch " ++ name_of e.AlreadyRunning ++ codes " team ") (decimal team)
    (both (codes "launch " ++ name_of e.AlreadyRunning) (codes " team ") (both (codes "launch ") (name_of e.AlreadyRunning) fronts.1 (name_end e.AlreadyRunning)) fronts.2) (decimal_end team)
text_end told.NotFound _ = both (codes "launch ") (name_of e.LaunchFailedAppNotFound) fronts.1 (name_end e.LaunchFailedAppNotFound)
text_end told.Limit _ = both (codes "launch ") (name_of e.Limit) fronts.1 (name_end e.Limit)
text_end (told.Reply m) whole = both (codes "reply ") (message_text m) fronts.3 (message_end m whole)
text_end told.Posted _ = fronts.4
text_end (told.Edit a) _ = both (codes "edit ") (edit_text a) fronts.5 (edit_end a)
text_end (told.Refused error) _ = both (codes "error ") (name_of error) fronts.7 (name_end error)
text_end told.NoTeam _ = fronts.8
text_end told.NoLooper _ = both (codes "error ") (name_of e.BadValue) fronts.7 (name_end e.BadValue)

pub outcomes_are_lines : OutcomesAreLines
unfolding line_ends
outcomes_are_lines t whole = text_end t whole
