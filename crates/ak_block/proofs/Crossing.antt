-- What goes to a session's thread, and what comes back.
use Prim.Native.Nat.{ℕ}
use mathlib.Core.List.{[], ◌∷◌}
use mir.Syntax.{Sym, Ty}
use denote.Exit.{no}
use denote.RattleType.{RattleType}
use denote.Param.{param, arg}
use denote.Param.Send.{IsSend, sendable}
use denote.Struct.Tuple.{TupleAt}
use Rattle.std.proofs.Crossing.{crosses}
use Rattle.ak_message.proofs.message.Message.TheLaws.TheKnot.{send-Message}
use Rattle.ak_base.proofs.text.Text.TheSendSync as Text'
use Rattle.ak_base.proofs.bytes.Bytes.TheSendSync as Bytes'
use Rattle.ak_base.proofs.raw.Raw.TheSendSync as Raw'
use Rattle.ak_base.proofs.code.Code.TheSendSync as Code'
use Rattle.ak_base.proofs.app_word.AppWord.TheSendSync as AppWord'
use Rattle.ak_base.proofs.error.KitError.TheSendSync as KitError'
use Rattle.ak_message.proofs.address.Target.TheSendSync as Target'
use Rattle.ak_handler.proofs.fault.HandlerFault.TheSendSync as HandlerFault'
use Rattle.ak_turn.proofs.seat.Seat.TheSendSync as Seat'
use Rattle.ak_turn.proofs.lock.TurnLock.TheSendSync as TurnLock'
use Rattle.ak_turn.proofs.clock.Clock.TheSendSync as Clock'
use Rattle.ak_port.proofs.port_book.PortBook.TheSendSync as PortBook'
use Rattle.ak_port.proofs.reply_book.ReplyBook.TheSendSync as ReplyBook'
use Rattle.ak_roster.proofs.entry.RosterEntry.TheSendSync as RosterEntry'
use Rattle.ak_roster.proofs.team.Running.TheSendSync as Running'
use Rattle.ak_roster.proofs.head.AppHead.TheSendSync as AppHead'
use Rattle.ak_lines.proofs.outcome.Outcome.TheSendSync as Outcome'
use Rattle.ak_desk.proofs.Surface.{Desk-send}
use Rattle.std.specs.contracts.alloc.Global as Global
use Rattle.ak_message.specs.contracts.message.Message as Message
use Rattle.ak_roster.specs.declared.grant.Grant as Grant
use Rattle.ak_roster.specs.contracts.book.RosterBook as RosterBook
use Rattle.ak_messenger.specs.contracts.hands.Hands as Hands
use Rattle.ak_looper.specs.contracts.door.Door as Door
use Rattle.ak_looper.specs.contracts.kept_door.KeptDoor as KeptDoor
use Rattle.ak_script.specs.contracts.statement.SessionLines as SessionLines
use Rattle.ak_print.specs.contracts.told.Told as Told
use Rattle.ak_session.specs.contracts.session.Session as Session
use Rattle.ak_lines.specs.contracts.job.SessionJob as SessionJob
use Rattle.ak_lines.specs.contracts.job.SessionEnd as SessionEnd

ruleset leaves = (Text'.the_send, Bytes'.the_send, Raw'.the_send, Code'.the_field_send, AppWord'.the_field_send, KitError'.the_field_send, Target'.the_field_send, HandlerFault'.the_field_send, Outcome'.the_field_send, Seat'.the_send, TurnLock'.the_send, TurnLock'.the_sync, Clock'.the_field_send, PortBook'.the_send, ReplyBook'.the_send, RosterEntry'.the_field_send, Running'.the_field_send, AppHead'.the_field_send)

pub Message-send : IsSend Message.the_field.row
Message-send = search (send-Message, leaves, sendable, crosses) depth 24 fits 6000

pub Lines-send : IsSend SessionLines.the_field.row
Lines-send = search (Message-send, leaves, sendable, crosses) depth 24 fits 6000

pub Told-send : IsSend Told.the_field.row
Told-send = search (Message-send, leaves, sendable, crosses) depth 24 fits 6000

pub Hands-send : IsSend Hands.the_field.row
Hands-send = search (leaves, sendable, crosses) depth 24 fits 6000

pub Door-send : IsSend Door.the_field.row
Door-send = search (Desk-send, leaves, sendable, crosses) depth 24 fits 6000

pub KeptDoor-send : IsSend KeptDoor.the_field.row
KeptDoor-send = search (Desk-send, leaves, sendable, crosses) depth 24 fits 6000

-- the roster, as far as what it keeps may go
pub RosterBook-send : (D P O : RattleType) (g : Grant.Ghosts D.Denot P.Denot O.Denot) → IsSend D → IsSend (RosterBook.the_field D P O g).row
RosterBook-send D P O g s = search (leaves, sendable, crosses) depth 24 fits 6000

pub Session-send : IsSend Session.the_field.row
Session-send = search (RosterBook-send, KeptDoor-send, Door-send, Hands-send, leaves, sendable, crosses) depth 40 fits 6000

pub SessionJob-send : IsSend SessionJob.the_field.row
SessionJob-send = search (Session-send, Lines-send, Told-send, leaves, sendable, crosses) depth 24 fits 6000

pub SessionEnd-send : IsSend SessionEnd.the_field.row
SessionEnd-send = search (Session-send, Told-send, leaves, sendable, crosses) depth 24 fits 6000

-- a closure over three things may go where each of them may
pub closure_send : (i : ℕ) (δ : Ty) (ν : Sym) (A B C : RattleType) → IsSend A → IsSend B → IsSend C → IsSend (param i (arg δ no (TupleAt ν (A ∷ B ∷ C ∷ []))))
closure_send i δ ν A B C a b c = search (sendable, crosses) depth 12

pub Global-send : IsSend Global.the_row
Global-send = search (sendable, crosses) depth 12

pub SessionJob-row : IsSend SessionJob.the_row
SessionJob-row = search (Session-send, Lines-send, Told-send, leaves, sendable, crosses) depth 40 fits 6000
