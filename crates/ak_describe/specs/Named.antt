-- What lines name that may be given by later lines.
use Rattle.std.specs.Prelude.{Option, Some, None, option_map}
use Rattle.ak_action.specs.declared.action.Action.{Action}
use Rattle.ak_action.specs.declared.action.Action.TheVariants as action
use Rattle.ak_action.specs.declared.action.Dest.{Dest}
use Rattle.ak_action.specs.declared.action.Dest.TheVariants as dest
use Rattle.ak_filter.specs.declared.filter.Filter.{Filter}
use Rattle.ak_describe.specs.declared.named.Need.{Need}
use Rattle.ak_describe.specs.declared.named.Need.TheVariants as need

-- the handler that a filter passes messages to
abbrev pub need_of_filter : Filter → Option Need
need_of_filter f = option_map need.Handler f.to

-- an application that a message is posted to need not be there
abbrev pub need_of_post : Dest → Option Need
need_of_post dest.Own = None
need_of_post (dest.Looper name) = Some (need.Looper name)
need_of_post (dest.Handler name) = Some (need.Handler name)
need_of_post (dest.App word) = None

-- what is asked has to be there, and stand later
abbrev pub need_of_ask : Dest → Option Need
need_of_ask dest.Own = None
need_of_ask (dest.Looper name) = Some (need.AskLooper name)
need_of_ask (dest.Handler name) = None
need_of_ask (dest.App word) = Some (need.AskApp word)

abbrev pub need_of_action : Action → Option Need
need_of_action (action.Reply m) = None
need_of_action (action.Post to m back) = need_of_post to
need_of_action (action.Ask to m into) = need_of_ask to
need_of_action (action.Set property value) = None
need_of_action (action.Add property amount) = None
need_of_action action.Stop = None
need_of_action action.Quit = None
