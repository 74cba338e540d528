-- Which types that a looper's thread is started with, and that it gives back, may go to another thread, each whole.
use denote.RattleType.{RattleType}
use denote.Param.Send.{IsSend, sendable}
use Rattle.std.proofs.Crossing.{crosses}
use Rattle.ak_turn.proofs.seat.Seat.TheSendSync as Seat'
use Rattle.ak_turn.proofs.lock.TurnLock.TheSendSync as TurnLock'
use Rattle.ak_turn.proofs.clock.Clock.TheSendSync as Clock'
use Rattle.ak_flatten.proofs.item.Taken.TheSendSync as Taken'
use Rattle.ak_port.proofs.port_book.PortBook.TheSendSync as PortBook'
use Rattle.ak_port.proofs.reply_book.ReplyBook.TheSendSync as ReplyBook'
use Rattle.ak_roster.proofs.entry.RosterEntry.TheSendSync as RosterEntry'
use Rattle.ak_roster.proofs.team.Running.TheSendSync as Running'
use Rattle.ak_roster.proofs.head.AppHead.TheSendSync as AppHead'
use Rattle.ak_desk.proofs.Surface.{Desk-send}
use Rattle.ak_roster.specs.declared.grant.Grant as Grant
use Rattle.ak_roster.specs.contracts.book.RosterBook as RosterBook
use Rattle.ak_messenger.specs.contracts.hands.Hands as Hands
use Rattle.ak_looper.specs.contracts.door.Door as Door
use Rattle.ak_looper.specs.contracts.kept_door.KeptDoor as KeptDoor
use Rattle.ak_looper.specs.contracts.job.LooperJob as LooperJob
use Rattle.ak_looper.specs.contracts.job.LooperEnd as LooperEnd

ruleset leaves = (Seat'.the_send, TurnLock'.the_send, TurnLock'.the_sync, Clock'.the_field_send, Taken'.the_field_send, PortBook'.the_send, ReplyBook'.the_send, RosterEntry'.the_field_send, Running'.the_field_send, AppHead'.the_field_send)

pub Hands-send : IsSend Hands.the_field.row
Hands-send = search (leaves, sendable, crosses) depth 24 fits 6000

pub Door-send : IsSend Door.the_field.row
Door-send = search (Desk-send, leaves, sendable, crosses) depth 24 fits 6000

pub KeptDoor-send : IsSend KeptDoor.the_field.row
KeptDoor-send = search (Desk-send, leaves, sendable, crosses) depth 24 fits 6000

-- the roster, as far as what it keeps may go
pub RosterBook-send : (D P O : RattleType) (g : Grant.Ghosts D.Denot P.Denot O.Denot) → IsSend D → IsSend (RosterBook.the_field D P O g).row
RosterBook-send D P O g s = search (leaves, sendable, crosses) depth 24 fits 6000

pub LooperJob-send : IsSend LooperJob.the_row
LooperJob-send = search (RosterBook-send, KeptDoor-send, Door-send, Hands-send, leaves, sendable, crosses) depth 40 fits 6000

pub LooperEnd-send : IsSend LooperEnd.the_field.row
LooperEnd-send = search (RosterBook-send, KeptDoor-send, Door-send, Hands-send, leaves, sendable, crosses) depth 24 fits 6000
