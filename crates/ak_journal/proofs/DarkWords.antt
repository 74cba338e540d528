-- No word of a legible entry has a blank.
use Rattle.std.proofs.Common.{ℕ, ◌-◌, Bool, true, false, cond, eqb, ltb, List, [], ◌∷◌, ◌++◌, Option, Some, None, refl, arith}
use Rattle.std.specs.Prelude.{codes, map}
use Rattle.std.specs.List.{AllByRecursion}
use Rattle.std.specs.Fmt.{decimal}
use Rattle.ak_base.specs.Error.{name_of}
use Rattle.ak_base.specs.declared.error.KitError.{KitError}
use Rattle.ak_base.specs.declared.error.KitError.TheVariants as e
use Rattle.ak_message.specs.declared.address.Address.{Address}
use Rattle.ak_message.specs.declared.address.Target.{Target}
use Rattle.ak_message.specs.declared.address.Target.TheVariants as target
use Rattle.ak_input.specs.MessageText.{address_text, target_text}
use Rattle.ak_flatten.specs.Item.{ItemData}
use Rattle.ak_flatten.specs.declared.item.Duty.{Duty}
use Rattle.ak_flatten.specs.declared.item.Duty.TheVariants as duty
use Rattle.ak_action.specs.declared.answer.AnswerWord.{AnswerWord}
use Rattle.ak_action.specs.declared.answer.AnswerWord.TheVariants as word
use Rattle.ak_port.specs.declared.port_entry.PortEvent.{PortEvent}
use Rattle.ak_port.specs.declared.port_entry.PortEvent.TheVariants as port
use Rattle.ak_port.specs.declared.reply_entry.ReplyEvent.{ReplyEvent}
use Rattle.ak_port.specs.declared.reply_entry.ReplyEvent.TheVariants as book
use Rattle.ak_desk.specs.declared.entry.DeskEvent.{DeskEvent}
use Rattle.ak_desk.specs.declared.entry.DeskEvent.TheVariants as desk
use Rattle.ak_desk.specs.declared.entry.Edit.{Edit}
use Rattle.ak_desk.specs.declared.entry.Edit.TheVariants as edit
use Rattle.ak_desk.specs.declared.entry.EditAnswer.{EditAnswer}
use Rattle.ak_desk.specs.declared.entry.EditAnswer.TheVariants as answer
use Rattle.ak_desk.specs.declared.entry.EntryRoute.{EntryRoute}
use Rattle.ak_desk.specs.declared.entry.EntryRoute.TheVariants as route
use Rattle.ak_roster.specs.declared.entry.FindOutcome.{FindOutcome}
use Rattle.ak_roster.specs.declared.entry.FindOutcome.TheVariants as find
use Rattle.ak_roster.specs.declared.entry.LaunchOutcome.{LaunchOutcome}
use Rattle.ak_roster.specs.declared.entry.LaunchOutcome.TheVariants as launch
use Rattle.ak_roster.specs.declared.entry.RosterEvent.{RosterEvent}
use Rattle.ak_roster.specs.declared.entry.RosterEvent.TheVariants as roster
use Rattle.ak_print.specs.Told.{error_of}
use Rattle.ak_journal.specs.declared.entry.Entry.{Entry}
use Rattle.ak_journal.specs.declared.entry.Event.{Event}
use Rattle.ak_journal.specs.declared.entry.Event.TheVariants as event
use Rattle.ak_journal.specs.declared.entry.ObjectName.{ObjectName}
use Rattle.ak_journal.specs.declared.entry.ObjectName.TheVariants as object
use Rattle.ak_journal.specs.BookLine.{book_words}
use Rattle.ak_journal.specs.DeskLine.{answer_text, desk_words, edit_answer_text, edit_words, quit_words, route_words}
use Rattle.ak_journal.specs.Line.{entry_words, event_words, object_words}
use Rattle.ak_journal.specs.Parts.{duty_text, flat_text, mark_text, thread_text, token_text}
use Rattle.ak_journal.specs.Legible.{IsLegible, IsLegibleAnswer, IsLegibleAt, IsLegibleBook, IsLegibleDesk, IsLegibleEdit, IsLegibleItem, IsLegiblePort, IsLegibleRoster}
use Rattle.ak_journal.specs.PortLine.{item_words, port_words}
use Rattle.ak_journal.specs.RosterLine.{find_words, launch_words, roster_words}
use Rattle.ak_journal.proofs.Dark.{AreDark, IsDark, are_dark_append, dark_append, dark_cons, decimal_dark, flat_dark, word_dark}
use Rattle.ak_journal.proofs.Named.{launched_dark, looked_up_dark}

-- a word that is written out
legible_word : (text : List ℕ) → IsDark text → AreDark (text ∷ [])
legible_word text h = (h, tt)

counted : (text : List ℕ) (n : ℕ) → IsDark text → AreDark (text ∷ decimal n ∷ [])
counted text n h = (h, (decimal_dark n, tt))

keyed : (key : List ℕ) (n : ℕ) → IsDark key → IsDark (key ++ decimal n)
keyed key n h = dark_append key (decimal n) h (decimal_dark n)

-- ---- parts
thread_dark : (n : ℕ) → IsDark (thread_text n)
thread_dark n = by_main (eqb n 0) (ltb n 10000) where
  by_main : (main session : Bool) → IsDark (cond main (codes "m") (cond session (codes "s" ++ decimal n) (codes "l" ++ decimal (n - 10000))))
  by_main true session = record { all = refl }
  by_main false true = keyed (codes "s") n (record { all = refl })
  by_main false false = keyed (codes "l") (n - 10000) (record { all = refl })

target_dark : (t : Target) → IsDark (target_text t)
target_dark target.Preferred = record { all = refl }
target_dark (target.Token n) = decimal_dark n

mark_dark : (dropped : Bool) → IsDark (mark_text dropped)
mark_dark true = record { all = refl }
mark_dark false = record { all = refl }

address_dark : (a : Address) → IsDark (address_text a)
address_dark a = dark_append (decimal a.looper) (46 ∷ target_text a.target) (decimal_dark a.looper) (dark_cons 46 (target_text a.target) (omega arith) (target_dark a.target))

duty_dark : (owed : Duty) → IsDark (duty_text owed)
duty_dark duty.None = record { all = refl }
duty_dark (duty.Slot n) = keyed (codes "slot:") n (record { all = refl })
duty_dark (duty.Back a) = dark_append (codes "back:") (address_text a) (record { all = refl }) (address_dark a)

token_dark : (token : Option ℕ) → IsDark (token_text token)
token_dark None = record { all = refl }
token_dark (Some token) = decimal_dark token

-- ---- ports
item_dark : (item : ItemData) → IsLegibleItem item → AreDark (item_words item)
item_dark item legible = (target_dark item.target, (decimal_dark item.team, (mark_dark item.dropped, (duty_dark item.duty, (decimal_dark item.popped, (flat_dark item.flat legible.bytes, tt))))))

port_dark : (what : PortEvent) → IsLegiblePort what → AreDark (port_words what)
port_dark (port.Made capacity life) legible = (record { all = refl }, (decimal_dark capacity, (decimal_dark life, tt)))
port_dark (port.Written position item) legible = (record { all = refl }, (decimal_dark position, item_dark item legible.1))
port_dark port.Full legible = legible_word (codes "full") (record { all = refl })
port_dark port.Refused legible = legible_word (codes "refused") (record { all = refl })
port_dark port.Spent legible = legible_word (codes "spent") (record { all = refl })
port_dark (port.Took k) legible = counted (codes "took") k (record { all = refl })
port_dark (port.Rest k) legible = counted (codes "rest") k (record { all = refl })
port_dark port.Shut legible = legible_word (codes "shut") (record { all = refl })

-- ---- the reply book
book_dark : (what : ReplyEvent) → IsLegibleBook what → AreDark (book_words what)
book_dark (book.Opened n) legible = counted (codes "opened") n (record { all = refl })
book_dark (book.Filled n flat) legible = (record { all = refl }, (decimal_dark n, (flat_dark flat legible.1.0, tt)))
book_dark (book.Cancelled n) legible = counted (codes "cancelled") n (record { all = refl })
book_dark (book.Taken n) legible = counted (codes "taken") n (record { all = refl })

-- ---- the roster
launch_dark : (outcome : LaunchOutcome) → AreDark (launch_words outcome)
launch_dark (launch.Started description team first) = (record { all = refl }, (decimal_dark description, (decimal_dark team, (decimal_dark first, tt))))
launch_dark (launch.AlreadyRunning team) = counted (codes "running") team (record { all = refl })
launch_dark launch.NotFound = legible_word (codes "not-found") (record { all = refl })
launch_dark launch.Limit = legible_word (codes "limit") (record { all = refl })

find_dark : (outcome : FindOutcome) → AreDark (find_words outcome)
find_dark (find.Team team) = counted (codes "team") team (record { all = refl })
find_dark find.NoTeam = legible_word (codes "no-team") (record { all = refl })

roster_dark : (what : RosterEvent) → IsLegibleRoster what → AreDark (roster_words what)
roster_dark (roster.Launch app outcome) legible = (record { all = refl }, (launched_dark app legible.0, launch_dark outcome))
roster_dark (roster.Find app outcome) legible = (record { all = refl }, (looked_up_dark app legible.0, find_dark outcome))
roster_dark (roster.Gone team) legible = counted (codes "gone") team (record { all = refl })
roster_dark (roster.Door looper) legible = counted (codes "door") looper (record { all = refl })

-- ---- desks
route_dark : (where_to : EntryRoute) → AreDark (route_words where_to)
route_dark (route.To token) = counted (codes "to") token (record { all = refl })
route_dark route.Skipped = legible_word (codes "skipped") (record { all = refl })
route_dark route.Dropped = legible_word (codes "dropped") (record { all = refl })
route_dark route.NotUnderstood = legible_word (codes "not-understood") (record { all = refl })
route_dark (route.Forward looper) = counted (codes "forward") looper (record { all = refl })
route_dark route.NoMemory = legible_word (codes "no-memory") (record { all = refl })

quit_dark : (quit : Bool) → AreDark (quit_words quit)
quit_dark true = legible_word (codes "quit") (record { all = refl })
quit_dark false = tt

error_dark : (error : KitError) → IsDark (name_of error)
error_dark e.Ok = record { all = refl }
error_dark e.NoMemory = record { all = refl }
error_dark e.BadType = record { all = refl }
error_dark e.NameNotFound = record { all = refl }
error_dark e.BadIndex = record { all = refl }
error_dark e.BadPortId = record { all = refl }
error_dark e.WouldBlock = record { all = refl }
error_dark e.BadValue = record { all = refl }
error_dark e.BadHandler = record { all = refl }
error_dark e.NameInUse = record { all = refl }
error_dark e.DuplicateReply = record { all = refl }
error_dark e.BadScriptSyntax = record { all = refl }
error_dark e.AlreadyRunning = record { all = refl }
error_dark e.LaunchFailedAppNotFound = record { all = refl }
error_dark e.Spent = record { all = refl }
error_dark e.TooLong = record { all = refl }
error_dark e.Limit = record { all = refl }
error_dark e.ChainLoop = record { all = refl }
error_dark e.IsLooper = record { all = refl }
error_dark e.NoTeam = record { all = refl }

answer_dark : (told : AnswerWord) → IsLegibleAnswer told → IsDark (answer_text told)
answer_dark (word.Error error) legible = error_dark error
answer_dark (word.Reply flat) legible = dark_append (codes "reply:") (flat_text flat) (record { all = refl }) (flat_dark flat legible.0)
answer_dark (word.Team team) legible = keyed (codes "team:") team (record { all = refl })
answer_dark word.NoTeam legible = record { all = refl }

answers_dark : (answers : List AnswerWord) → AllByRecursion IsLegibleAnswer answers → AreDark (map answer_text answers)
answers_dark [] legible = tt
answers_dark (told ∷ answers) legible = (answer_dark told legible.0, answers_dark answers legible.1)

edit_dark : (asked : Edit) → IsLegibleEdit asked → AreDark (edit_words asked)
edit_dark (edit.Add name) legible = (record { all = refl }, (word_dark name legible, tt))
edit_dark (edit.Remove token) legible = counted (codes "remove") token (record { all = refl })
edit_dark (edit.Next token next) legible = (record { all = refl }, (decimal_dark token, (token_dark next, tt)))
edit_dark (edit.Prefer token) legible = (record { all = refl }, (token_dark token, tt))

edit_answer_dark : (told : EditAnswer) → IsDark (edit_answer_text told)
edit_answer_dark answer.Done = error_dark e.Ok
edit_answer_dark (answer.Token token) = keyed (codes "token:") token (record { all = refl })
edit_answer_dark (answer.Refused fault) = error_dark (error_of fault)
edit_answer_dark answer.NoMemory = error_dark e.NoMemory

desk_dark : (what : DeskEvent) → IsLegibleDesk what → AreDark (desk_words what)
desk_dark (desk.Dispatched position where_to answers quit) legible = (
  record { all = refl },
  (
    decimal_dark position,
    are_dark_append (route_words where_to ++ quit_words quit) (map answer_text answers)
        (are_dark_append (route_words where_to) (quit_words quit) (route_dark where_to) (quit_dark quit)) (answers_dark answers legible.2.each),
  ),
)
desk_dark (desk.Edited asked told) legible =
    (record { all = refl }, are_dark_append (edit_words asked) (edit_answer_text told ∷ []) (edit_dark asked legible.0) (edit_answer_dark told, tt))

-- ---- entries
done_dark : (at : ObjectName) (what : Event) → IsLegibleAt at what → AreDark (object_words at ++ event_words what)
done_dark (object.Port looper) (event.Port p) legible = are_dark_append (object_words (object.Port looper)) (port_words p) (counted (codes "port") looper (record { all = refl })) (port_dark p legible.1)
done_dark (object.Desk looper) (event.Desk d) legible = are_dark_append (object_words (object.Desk looper)) (desk_words d) (counted (codes "desk") looper (record { all = refl })) (desk_dark d legible.1)
done_dark object.Book (event.Book b) legible = (record { all = refl }, book_dark b legible)
done_dark object.Roster (event.Roster r) legible = (record { all = refl }, roster_dark r legible)
done_dark (object.Port looper) (event.Desk d) legible = absurd legible
done_dark (object.Port looper) (event.Book b) legible = absurd legible
done_dark (object.Port looper) (event.Roster r) legible = absurd legible
done_dark (object.Desk looper) (event.Port p) legible = absurd legible
done_dark (object.Desk looper) (event.Book b) legible = absurd legible
done_dark (object.Desk looper) (event.Roster r) legible = absurd legible
done_dark object.Book (event.Port p) legible = absurd legible
done_dark object.Book (event.Desk d) legible = absurd legible
done_dark object.Book (event.Roster r) legible = absurd legible
done_dark object.Roster (event.Port p) legible = absurd legible
done_dark object.Roster (event.Desk d) legible = absurd legible
done_dark object.Roster (event.Book b) legible = absurd legible

pub entry_dark : (entry : Entry) → IsLegible entry → AreDark (entry_words entry)
entry_dark entry legible = (decimal_dark entry.stamp, (thread_dark entry.by.0, done_dark entry.object entry.event legible.done))
