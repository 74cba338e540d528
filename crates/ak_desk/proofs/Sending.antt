-- Which types of a desk may go to another thread, each whole: a search that goes down through them all stops at its limits.
use denote.RattleType.{RattleType}
use denote.Param.Send.{IsSend, sendable}
use Rattle.std.proofs.Crossing.{crosses}
use Rattle.ak_message.proofs.message.Message.TheLaws.TheKnot.{send-Value, send-Message}
use Rattle.ak_base.proofs.trail.Steps.TheLaws.TheKnot.{send-Steps}
use Rattle.ak_base.proofs.text.Text.TheSendSync as Text'
use Rattle.ak_base.proofs.bytes.Bytes.TheSendSync as Bytes'
use Rattle.ak_base.proofs.raw.Raw.TheSendSync as Raw'
use Rattle.ak_base.proofs.code.Code.TheSendSync as Code'
use Rattle.ak_base.proofs.items.Items.TheSendSync as Items'
use Rattle.ak_base.proofs.app_word.AppWord.TheSendSync as AppWord'
use Rattle.ak_base.proofs.error.KitError.TheSendSync as KitError'
use Rattle.ak_message.proofs.address.Address.TheSendSync as Address'
use Rattle.ak_message.proofs.kind.Kind.TheSendSync as Kind'
use Rattle.ak_property.proofs.table.PropertyTable.TheSendSync as PropertyTable'
use Rattle.ak_filter.proofs.list.FilterList.TheSendSync as FilterList'
use Rattle.ak_handler.proofs.set.HandlerSet.TheSendSync as HandlerSet'
use Rattle.ak_action.proofs.action.Dest.TheSendSync as Dest'
use Rattle.ak_action.proofs.number.Number.TheSendSync as Number'
use Rattle.ak_action.proofs.words.Words.TheSendSync as Words'
use Rattle.ak_action.proofs.doing.Sending.TheSendSync as Sending'
use Rattle.ak_desk.proofs.entry.DeskEntry.TheSendSync as DeskEntry'
use Rattle.ak_desk.proofs.entry.EntryRoute.TheSendSync as EntryRoute'
use Rattle.ak_desk.proofs.reserved.WordRoom.TheSendSync as WordRoom'
use Rattle.ak_base.specs.contracts.trail.Trail as Trail
use Rattle.ak_message.specs.contracts.message.Message as Message
use Rattle.ak_message.specs.contracts.message.Value as Value
use Rattle.ak_action.specs.contracts.values.Values as Values
use Rattle.ak_action.specs.contracts.template.Given as Given
use Rattle.ak_action.specs.contracts.template.TemplateField as TemplateField
use Rattle.ak_action.specs.contracts.template.TemplateFields as TemplateFields
use Rattle.ak_action.specs.contracts.template.Template as Template
use Rattle.ak_action.specs.contracts.action.Action as Action
use Rattle.ak_action.specs.contracts.action.ActionList as ActionList
use Rattle.ak_action.specs.contracts.action.Reaction as Reaction
use Rattle.ak_action.specs.contracts.action.ReactionList as ReactionList
use Rattle.ak_value.specs.contracts.elements.Element as Element
use Rattle.ak_value.specs.contracts.elements.Elements as Elements
use Rattle.ak_action.specs.contracts.properties.ElementsList as ElementsList
use Rattle.ak_action.specs.contracts.row.DeskRow as DeskRow
use Rattle.ak_action.specs.contracts.state.DeskState as DeskState
use Rattle.ak_action.specs.contracts.interp.Stage as Stage
use Rattle.ak_action.specs.contracts.interp.Interp as Interp
use Rattle.ak_desk.specs.contracts.entry.EntryWithItem as EntryWithItem
use Rattle.ak_desk.specs.contracts.reserved.Spare as Spare
use Rattle.ak_desk.specs.contracts.task.Task as Task
use Rattle.ak_desk.specs.contracts.desk.Begun as Begun
use Rattle.ak_desk.specs.contracts.desk.Desk as Desk

pub ruleset leaves = (Text'.the_send, Bytes'.the_send, Raw'.the_send, Code'.the_field_send, Code'.the_send, Items'.the_send, AppWord'.the_field_send, AppWord'.the_send, KitError'.the_field_send, KitError'.the_send, Address'.the_field_send, Address'.the_send, Kind'.the_field_send, Kind'.the_send, PropertyTable'.the_send, FilterList'.the_send, HandlerSet'.the_send, Dest'.the_field_send, Dest'.the_send, Number'.the_field_send, Number'.the_send, Words'.the_send, Sending'.the_field_send, Sending'.the_send, DeskEntry'.the_field_send, DeskEntry'.the_send, EntryRoute'.the_field_send, EntryRoute'.the_send, WordRoom'.the_send)

pub Message-send : IsSend Message.the_field.row
Message-send = search (send-Message, leaves, sendable, crosses) depth 24 fits 6000

pub Value-send : IsSend Value.the_field.row
Value-send = search (send-Value, Message-send, leaves, sendable, crosses) depth 24 fits 6000

pub Values-send : IsSend Values.the_field.row
Values-send = search (Value-send, leaves, sendable, crosses) depth 24 fits 6000

pub Given-send : IsSend Given.the_field.row
Given-send = search (Values-send, leaves, sendable, crosses) depth 24 fits 6000

pub TemplateField-send : IsSend TemplateField.the_field.row
TemplateField-send = search (Given-send, leaves, sendable, crosses) depth 24 fits 6000

pub TemplateFields-send : IsSend TemplateFields.the_field.row
TemplateFields-send = search (TemplateField-send, leaves, sendable, crosses) depth 24 fits 6000

pub Template-send : IsSend Template.the_field.row
Template-send = search (TemplateFields-send, leaves, sendable, crosses) depth 24 fits 6000

pub Action-send : IsSend Action.the_field.row
Action-send = search (Template-send, Given-send, leaves, sendable, crosses) depth 24 fits 6000

pub ActionList-send : IsSend ActionList.the_field.row
ActionList-send = search (Action-send, leaves, sendable, crosses) depth 24 fits 6000

pub Reaction-send : IsSend Reaction.the_field.row
Reaction-send = search (ActionList-send, leaves, sendable, crosses) depth 24 fits 6000

pub ReactionList-send : IsSend ReactionList.the_field.row
ReactionList-send = search (Reaction-send, leaves, sendable, crosses) depth 24 fits 6000

pub Element-send : IsSend Element.the_field.row
Element-send = search (Value-send, leaves, sendable, crosses) depth 24 fits 6000

pub Elements-send : IsSend Elements.the_field.row
Elements-send = search (Element-send, leaves, sendable, crosses) depth 24 fits 6000

pub ElementsList-send : IsSend ElementsList.the_field.row
ElementsList-send = search (Elements-send, leaves, sendable, crosses) depth 24 fits 6000

pub DeskRow-send : IsSend DeskRow.the_field.row
DeskRow-send = search (ElementsList-send, ReactionList-send, leaves, sendable, crosses) depth 24 fits 6000

pub DeskState-send : IsSend DeskState.the_field.row
DeskState-send = search (DeskRow-send, leaves, sendable, crosses) depth 24 fits 6000

pub Stage-send : IsSend Stage.the_field.row
Stage-send = search (Message-send, leaves, sendable, crosses) depth 24 fits 6000

pub Interp-send : IsSend Interp.the_field.row
Interp-send = search (Message-send, Stage-send, leaves, sendable, crosses) depth 24 fits 6000

pub EntryWithItem-send : IsSend EntryWithItem.the_field.row
EntryWithItem-send = search (leaves, sendable, crosses) depth 24 fits 6000

pub Spare-send : IsSend Spare.the_field.row
Spare-send = search (Message-send, leaves, sendable, crosses) depth 24 fits 6000

pub Task-send : IsSend Task.the_field.row
Task-send = search (Interp-send, Message-send, Spare-send, leaves, sendable, crosses) depth 24 fits 6000

-- a list that contracts alone see holds nothing, so it may go whatever its items are
pub Trail-send : (T : RattleType) → IsSend (Trail.the_field T).row
Trail-send T = search (send-Steps, leaves, sendable, crosses) depth 24 fits 6000

pub Begun-send : IsSend Begun.the_field.row
Begun-send = search (Task-send, Spare-send, Trail-send, leaves, sendable, crosses) depth 24 fits 6000

pub Desk-send : IsSend Desk.the_field.row
Desk-send = search (DeskState-send, EntryWithItem-send, Begun-send, leaves, sendable, crosses) depth 24 fits 6000
