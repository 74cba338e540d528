-- The first word of a line, and what may follow the line.
use Rattle.std.specs.Prelude.{ℕ, Bool, true, false, if◌then◌else◌, List, codes, Option, Some, None}
use Rattle.std.specs.Str.{bytes_eq}
use Rattle.ak_describe.specs.declared.keyword.After.{After}
use Rattle.ak_describe.specs.declared.keyword.After.TheVariants as after
use Rattle.ak_describe.specs.declared.keyword.Keyword.{Keyword}
use Rattle.ak_describe.specs.declared.keyword.Keyword.TheVariants as key

-- those that begin an action
abbrev pub action_of : List ℕ → Option Keyword
action_of word =
    if bytes_eq word (codes "reply") then Some key.Reply
    else if bytes_eq word (codes "post") then Some key.Post
    else if bytes_eq word (codes "ask") then Some key.Ask
    else if bytes_eq word (codes "set") then Some key.Set
    else if bytes_eq word (codes "add") then Some key.Add
    else if bytes_eq word (codes "drop") then Some key.Drop
    else if bytes_eq word (codes "quit") then Some key.Quit
    else None

-- those of a handler
abbrev pub handler_word_of : List ℕ → Option Keyword
handler_word_of word =
    if bytes_eq word (codes "handler") then Some key.Handler
    else if bytes_eq word (codes "next") then Some key.Next
    else if bytes_eq word (codes "suite") then Some key.Suite
    else if bytes_eq word (codes "filter") then Some key.Filter
    else if bytes_eq word (codes "property") then Some key.Property
    else if bytes_eq word (codes "element") then Some key.Element
    else if bytes_eq word (codes "on") then Some key.On
    else action_of word

unfoldable pub keyword_of : List ℕ → Option Keyword
keyword_of word =
    if bytes_eq word (codes "app") then Some key.App
    else if bytes_eq word (codes "looper") then Some key.Looper
    else if bytes_eq word (codes "hook") then Some key.Hook
    else if bytes_eq word (codes "prefer") then Some key.Prefer
    else if bytes_eq word (codes "common") then Some key.Common
    else handler_word_of word

-- elements belong to the property before them, and actions to the reaction
abbrev pub after_of : Keyword → After
after_of key.App = after.Plain
after_of key.Looper = after.Plain
after_of key.Hook = after.Plain
after_of key.Prefer = after.Plain
after_of key.Common = after.Plain
after_of key.Handler = after.Plain
after_of key.Next = after.Plain
after_of key.Suite = after.Plain
after_of key.Filter = after.Plain
after_of key.Property = after.Element
after_of key.Element = after.Element
after_of key.On = after.Action
after_of key.Reply = after.Action
after_of key.Post = after.Action
after_of key.Ask = after.Action
after_of key.Set = after.Action
after_of key.Add = after.Action
after_of key.Drop = after.Action
after_of key.Quit = after.Action

abbrev pub allows_element : After → Bool
allows_element after.Plain = false
allows_element after.Element = true
allows_element after.Action = false

abbrev pub allows_action : After → Bool
allows_action after.Plain = false
allows_action after.Element = false
allows_action after.Action = true
