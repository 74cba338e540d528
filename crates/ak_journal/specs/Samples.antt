-- The journal of a run, line by line: an application with one looper is launched, asked for the value of a property, and ended.
use Rattle.std.specs.Prelude.{◌≡◌, ℕ, false, List, [], ◌∷◌, codes, refl}
use Rattle.std.specs.Fmt.{digits}
use Rattle.hex.specs.Hex.{encode_with}
use Rattle.ak_base.specs.declared.app_word.AppWord.TheVariants as app
use Rattle.ak_message.specs.declared.address.Target.TheVariants as target
use Rattle.ak_flatten.specs.Item.{ItemData}
use Rattle.ak_flatten.specs.declared.item.Duty.{Duty}
use Rattle.ak_flatten.specs.declared.item.Duty.TheVariants as duty
use Rattle.ak_port.specs.declared.port_entry.PortEvent.TheVariants as port
use Rattle.ak_port.specs.declared.reply_entry.ReplyEvent.TheVariants as book
use Rattle.ak_desk.specs.declared.entry.DeskEvent.TheVariants as desk
use Rattle.ak_desk.specs.declared.entry.EntryRoute.TheVariants as route
use Rattle.ak_roster.specs.declared.entry.FindOutcome.TheVariants as find
use Rattle.ak_roster.specs.declared.entry.LaunchOutcome.TheVariants as launch
use Rattle.ak_roster.specs.declared.entry.RosterEvent.TheVariants as roster
use Rattle.ak_journal.specs.declared.entry.Entry.{Entry}
use Rattle.ak_journal.specs.declared.entry.Event.{Event}
use Rattle.ak_journal.specs.declared.entry.Event.TheVariants as event
use Rattle.ak_journal.specs.declared.entry.ObjectName.{ObjectName}
use Rattle.ak_journal.specs.declared.entry.ObjectName.TheVariants as object
use Rattle.ak_journal.specs.Line.{entry_line}

-- by main, and by the thread of looper 0
abbrev by_main : ℕ → ObjectName → Event → Entry
by_main stamp where_at what = record { stamp = stamp; by = record { 0 = 0 }; object = where_at; event = what }

abbrev by_looper : ℕ → ObjectName → Event → Entry
by_looper stamp where_at what = record { stamp = stamp; by = record { 0 = 10000 }; object = where_at; event = what }

-- sent by main, for the preferred handler
abbrev sent : Duty → List ℕ → ItemData
sent owed flat = record { target = target.Preferred; team = 0; dropped = false; duty = owed; popped = 0; flat = flat }

-- ready to run; the question; and the reply
abbrev ready : List ℕ
ready = 0x41 ∷ 0x4b ∷ 0x4d ∷ 0x31 ∷ 0x5f ∷ 0x52 ∷ 0x54 ∷ 0x52 ∷ 0x00 ∷ 0x00 ∷ 0x00 ∷ 0x00 ∷ []

abbrev question : List ℕ
question = 0x41 ∷ 0x4b ∷ 0x4d ∷ 0x31 ∷ 0x50 ∷ 0x47 ∷ 0x45 ∷ 0x54 ∷ 0x00 ∷ 0x00 ∷ 0x00 ∷ 0x01 ∷ 0x4d ∷ 0x53 ∷ 0x47 ∷ 0x47 ∷ 0x0a ∷ 0x73 ∷ 0x70 ∷ 0x65 ∷ 0x63 ∷ 0x69 ∷ 0x66 ∷ 0x69 ∷ 0x65 ∷ 0x72 ∷ 0x73 ∷ 0x01 ∷ 0x00 ∷ 0x21 ∷ 0x41 ∷ 0x4b ∷ 0x4d ∷ 0x31 ∷ 0x00 ∷ 0x00 ∷ 0x00 ∷ 0x01 ∷ 0x00 ∷ 0x00 ∷ 0x00 ∷ 0x01 ∷ 0x43 ∷ 0x53 ∷ 0x54 ∷ 0x52 ∷ 0x08 ∷ 0x70 ∷ 0x72 ∷ 0x6f ∷ 0x70 ∷ 0x65 ∷ 0x72 ∷ 0x74 ∷ 0x79 ∷ 0x01 ∷ 0x00 ∷ 0x05 ∷ 0x43 ∷ 0x6f ∷ 0x75 ∷ 0x6e ∷ 0x74 ∷ []

abbrev reply : List ℕ
reply = 0x41 ∷ 0x4b ∷ 0x4d ∷ 0x31 ∷ 0x52 ∷ 0x50 ∷ 0x4c ∷ 0x59 ∷ 0x00 ∷ 0x00 ∷ 0x00 ∷ 0x02 ∷ 0x4c ∷ 0x4f ∷ 0x4e ∷ 0x47 ∷ 0x06 ∷ 0x72 ∷ 0x65 ∷ 0x73 ∷ 0x75 ∷ 0x6c ∷ 0x74 ∷ 0x01 ∷ 0x00 ∷ 0x04 ∷ 0x00 ∷ 0x00 ∷ 0x00 ∷ 0x03 ∷ 0x4c ∷ 0x4f ∷ 0x4e ∷ 0x47 ∷ 0x05 ∷ 0x65 ∷ 0x72 ∷ 0x72 ∷ 0x6f ∷ 0x72 ∷ 0x01 ∷ 0x00 ∷ 0x04 ∷ 0x00 ∷ 0x00 ∷ 0x00 ∷ 0x00 ∷ []

pub line_made : entry_line (by_main 1 (object.Port 0) (event.Port (port.Made 2 8192))) ≡ codes "1 m port 0 made 2 8192"
unfolding digits encode_with
line_made = refl

pub line_greeted : entry_line (by_main 2 (object.Port 0) (event.Port (port.Written 0 (sent duty.None ready)))) ≡ codes "2 m port 0 written 0 p 0 prog none 0 414b4d315f52545200000000"
unfolding digits encode_with
line_greeted = refl

pub line_launched : entry_line (by_main 3 object.Roster (event.Roster (roster.Launch (app.Path (codes "/boot/demo")) (launch.Started 0 1 0)))) ≡ codes "3 m roster launch /boot/demo started 0 1 0"
unfolding digits encode_with
line_launched = refl

pub line_found : entry_line (by_main 4 object.Roster (event.Roster (roster.Find (app.Name (codes "demo")) (find.Team 1)))) ≡ codes "4 m roster find demo team 1"
unfolding digits encode_with
line_found = refl

pub line_took_greeting : entry_line (by_looper 4 (object.Port 0) (event.Port (port.Took 1))) ≡ codes "4 l0 port 0 took 1"
unfolding digits encode_with
line_took_greeting = refl

pub line_opened : entry_line (by_main 5 object.Book (event.Book (book.Opened 0))) ≡ codes "5 m book opened 0"
unfolding digits encode_with
line_opened = refl

pub line_ready_dispatched : entry_line (by_looper 5 (object.Desk 0) (event.Desk (desk.Dispatched 0 (route.To 0) [] false))) ≡ codes "5 l0 desk 0 dispatched 0 to 0"
unfolding digits encode_with
line_ready_dispatched = refl

pub line_asked : entry_line (by_main 6 (object.Port 0) (event.Port (port.Written 1 (sent (duty.Slot 0) question)))) ≡ codes "6 m port 0 written 1 p 0 prog slot:0 0 414b4d3150474554000000014d5347470a73706563696669657273010021414b4d310000000100000001435354520870726f7065727479010005436f756e74"
unfolding digits encode_with
line_asked = refl

pub line_took_question : entry_line (by_looper 7 (object.Port 0) (event.Port (port.Took 1))) ≡ codes "7 l0 port 0 took 1"
unfolding digits encode_with
line_took_question = refl

pub line_dispatched : entry_line (by_looper 8 (object.Desk 0) (event.Desk (desk.Dispatched 1 (route.To 0) [] false))) ≡ codes "8 l0 desk 0 dispatched 1 to 0"
unfolding digits encode_with
line_dispatched = refl

pub line_filled : entry_line (by_looper 9 object.Book (event.Book (book.Filled 0 reply))) ≡ codes "9 l0 book filled 0 414b4d3152504c59000000024c4f4e4706726573756c74010004000000034c4f4e47056572726f7201000400000000"
unfolding digits encode_with
line_filled = refl

pub line_taken : entry_line (by_main 10 object.Book (event.Book (book.Taken 0))) ≡ codes "10 m book taken 0"
unfolding digits encode_with
line_taken = refl

pub line_gone : entry_line (by_main 11 object.Roster (event.Roster (roster.Gone 1))) ≡ codes "11 m roster gone 1"
unfolding digits encode_with
line_gone = refl

pub line_shut : entry_line (by_main 12 (object.Port 0) (event.Port port.Shut)) ≡ codes "12 m port 0 shut"
unfolding digits encode_with
line_shut = refl

pub line_rested : entry_line (by_looper 13 (object.Port 0) (event.Port (port.Rest 0))) ≡ codes "13 l0 port 0 rest 0"
unfolding digits encode_with
line_rested = refl
