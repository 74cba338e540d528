-- What a session's thread is started with, and what it gives back, may go to another thread, each whole.
use denote.Param.Send.{IsSend, sendable}
use Rattle.std.proofs.Crossing.{crosses}
use Rattle.ak_message.proofs.message.Message.TheLaws.TheKnot.{send-Message}
use Rattle.ak_base.proofs.text.Text.TheSendSync as Text'
use Rattle.ak_base.proofs.bytes.Bytes.TheSendSync as Bytes'
use Rattle.ak_base.proofs.raw.Raw.TheSendSync as Raw'
use Rattle.ak_base.proofs.code.Code.TheSendSync as Code'
use Rattle.ak_base.proofs.app_word.AppWord.TheSendSync as AppWord'
use Rattle.ak_base.proofs.error.KitError.TheSendSync as KitError'
use Rattle.ak_message.proofs.address.Target.TheSendSync as Target'
use Rattle.ak_message.proofs.kind.Kind.TheSendSync as Kind'
use Rattle.ak_turn.proofs.seat.Seat.TheSendSync as Seat'
use Rattle.ak_turn.proofs.lock.TurnLock.TheSendSync as TurnLock'
use Rattle.ak_desk.proofs.entry.Edit.TheSendSync as Edit'
use Rattle.ak_desk.proofs.entry.EditAnswer.TheSendSync as EditAnswer'
use Rattle.ak_looper.proofs.Surface.{Door-send, Hands-send, KeptDoor-send, RosterBook-send}
use Rattle.ak_message.specs.contracts.message.Message as Message
use Rattle.ak_script.specs.contracts.statement.Hey as Hey
use Rattle.ak_script.specs.contracts.statement.Post as Post
use Rattle.ak_script.specs.contracts.statement.Lock as Lock
use Rattle.ak_script.specs.contracts.statement.SessionLine as SessionLine
use Rattle.ak_script.specs.contracts.statement.SessionLines as SessionLines
use Rattle.ak_print.specs.contracts.told.Told as Told
use Rattle.ak_session.specs.contracts.session.Session as Session
use Rattle.ak_lines.proofs.outcome.Outcome.TheSendSync as Outcome'
use Rattle.ak_lines.specs.contracts.job.SessionJob as SessionJob
use Rattle.ak_lines.specs.contracts.job.SessionEnd as SessionEnd

ruleset leaves = (Text'.the_send, Bytes'.the_send, Raw'.the_send, Code'.the_field_send, Code'.the_send, AppWord'.the_field_send, AppWord'.the_send, KitError'.the_field_send, KitError'.the_send, Target'.the_field_send, Target'.the_send, Kind'.the_field_send, Kind'.the_send, Seat'.the_send, TurnLock'.the_send, TurnLock'.the_sync, Edit'.the_field_send, Edit'.the_send, EditAnswer'.the_field_send, EditAnswer'.the_send, Outcome'.the_field_send, Outcome'.the_send)

Message-send : IsSend Message.the_field.row
Message-send = search (send-Message, leaves, sendable, crosses) depth 24 fits 6000

Hey-send : IsSend Hey.the_field.row
Hey-send = search (Message-send, leaves, sendable, crosses) depth 24 fits 6000

Post-send : IsSend Post.the_field.row
Post-send = search (Message-send, leaves, sendable, crosses) depth 24 fits 6000

Lock-send : IsSend Lock.the_field.row
Lock-send = search (leaves, sendable, crosses) depth 24 fits 6000

SessionLine-send : IsSend SessionLine.the_field.row
SessionLine-send = search (Hey-send, Post-send, Lock-send, leaves, sendable, crosses) depth 24 fits 6000

SessionLines-send : IsSend SessionLines.the_field.row
SessionLines-send = search (SessionLine-send, leaves, sendable, crosses) depth 24 fits 6000

Told-send : IsSend Told.the_field.row
Told-send = search (Message-send, leaves, sendable, crosses) depth 24 fits 6000

Session-send : IsSend Session.the_field.row
Session-send = search (RosterBook-send, KeptDoor-send, Door-send, Hands-send, leaves, sendable, crosses) depth 40 fits 6000

pub SessionJob-send : IsSend SessionJob.the_row
SessionJob-send = search (SessionLines-send, Session-send, Told-send, leaves, sendable, crosses) depth 24 fits 6000

pub SessionEnd-send : IsSend SessionEnd.the_field.row
SessionEnd-send = search (Session-send, Told-send, leaves, sendable, crosses) depth 24 fits 6000
