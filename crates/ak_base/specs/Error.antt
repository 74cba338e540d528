-- The errors' numbers and names.
use Rattle.std.specs.Prelude.{ℕ, ℤ, pos, negsuc, List, codes}
use Rattle.ak_base.specs.declared.error.KitError.{KitError}
use Rattle.ak_base.specs.declared.error.KitError.TheVariants as e

abbrev pub number_of : KitError → ℤ
number_of e.Ok = pos 0
number_of e.NoMemory = negsuc 0
number_of e.BadType = negsuc 1
number_of e.NameNotFound = negsuc 2
number_of e.BadIndex = negsuc 3
number_of e.BadPortId = negsuc 4
number_of e.WouldBlock = negsuc 5
number_of e.BadValue = negsuc 6
number_of e.BadHandler = negsuc 7
number_of e.NameInUse = negsuc 8
number_of e.DuplicateReply = negsuc 9
number_of e.BadScriptSyntax = negsuc 10
number_of e.AlreadyRunning = negsuc 11
number_of e.LaunchFailedAppNotFound = negsuc 12
number_of e.Spent = negsuc 13
number_of e.TooLong = negsuc 14
number_of e.Limit = negsuc 15
number_of e.ChainLoop = negsuc 16
number_of e.IsLooper = negsuc 17
number_of e.NoTeam = negsuc 18

abbrev pub name_of : KitError → List ℕ
name_of e.Ok = codes "B_OK"
name_of e.NoMemory = codes "B_NO_MEMORY"
name_of e.BadType = codes "B_BAD_TYPE"
name_of e.NameNotFound = codes "B_NAME_NOT_FOUND"
name_of e.BadIndex = codes "B_BAD_INDEX"
name_of e.BadPortId = codes "B_BAD_PORT_ID"
name_of e.WouldBlock = codes "B_WOULD_BLOCK"
name_of e.BadValue = codes "B_BAD_VALUE"
name_of e.BadHandler = codes "B_BAD_HANDLER"
name_of e.NameInUse = codes "B_NAME_IN_USE"
name_of e.DuplicateReply = codes "B_DUPLICATE_REPLY"
name_of e.BadScriptSyntax = codes "B_BAD_SCRIPT_SYNTAX"
name_of e.AlreadyRunning = codes "B_ALREADY_RUNNING"
name_of e.LaunchFailedAppNotFound = codes "B_LAUNCH_FAILED_APP_NOT_FOUND"
name_of e.Spent = codes "K_SPENT"
name_of e.TooLong = codes "K_TOO_LONG"
name_of e.Limit = codes "K_LIMIT"
name_of e.ChainLoop = codes "K_CHAIN_LOOP"
name_of e.IsLooper = codes "K_IS_LOOPER"
name_of e.NoTeam = codes "K_NO_TEAM"
