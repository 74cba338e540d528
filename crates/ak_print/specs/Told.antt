-- The line of what a statement came to, as `launch team 1`
use Rattle.std.specs.Prelude.{ℕ, List, [], ◌∷◌, ◌++◌, codes}
use Rattle.std.specs.Fmt.{decimal}
use Rattle.ak_base.specs.Error.{name_of}
use Rattle.ak_base.specs.declared.error.KitError.{KitError}
use Rattle.ak_base.specs.declared.error.KitError.TheVariants as e
use Rattle.ak_handler.specs.declared.fault.HandlerFault.{HandlerFault}
use Rattle.ak_handler.specs.declared.fault.HandlerFault.TheVariants as fault
use Rattle.ak_desk.specs.declared.entry.EditAnswer.{EditAnswer}
use Rattle.ak_desk.specs.declared.entry.EditAnswer.TheVariants as answer
use Rattle.ak_input.specs.MessageText.{message_text}
use Rattle.ak_print.specs.declared.told.Told.{Told}
use Rattle.ak_print.specs.declared.told.Told.TheVariants as told

-- the error that a fault of the handlers is
abbrev pub error_of : HandlerFault → KitError
error_of fault.NameInUse = e.NameInUse
error_of fault.HandlerLimit = e.Limit
error_of fault.BadHandler = e.BadHandler
error_of fault.IsLooper = e.IsLooper
error_of fault.ChainLoop = e.ChainLoop
error_of fault.NoMemory = e.NoMemory

-- what stands behind `edit`
abbrev pub edit_text : EditAnswer → List ℕ
edit_text answer.Done = name_of e.Ok
edit_text (answer.Token n) = codes "token " ++ decimal n
edit_text (answer.Refused f) = name_of (error_of f)
edit_text answer.NoMemory = name_of e.NoMemory

-- the line without its end
abbrev pub told_text : Told → List ℕ
told_text (told.Started team) = codes "launch team " ++ decimal team
told_text (told.Running team) = codes "launch " ++ name_of e.AlreadyRunning ++ codes " team " ++ decimal team
told_text told.NotFound = codes "launch " ++ name_of e.LaunchFailedAppNotFound
told_text told.Limit = codes "launch " ++ name_of e.Limit
told_text (told.Reply m) = codes "reply " ++ message_text m
told_text told.Posted = codes "posted"
told_text (told.Edit a) = codes "edit " ++ edit_text a
told_text (told.Refused error) = codes "error " ++ name_of error
told_text told.NoTeam = codes "no such application"
told_text told.NoLooper = codes "error " ++ name_of e.BadValue

abbrev pub told_line : Told → List ℕ
told_line t = told_text t ++ 10 ∷ []
