-- A legible entry is a plain one that is of its type, part by part.
use Rattle.std.proofs.Common.{◌↔◌, List, [], ◌∷◌, IsTrue, refl}
use Rattle.std.specs.List.{AllByRecursion}
use Rattle.ak_action.specs.declared.answer.AnswerWord.{AnswerWord}
use Rattle.ak_action.specs.declared.answer.AnswerWord.TheVariants as word
use Rattle.ak_port.specs.declared.reply_entry.ReplyEvent.{ReplyEvent}
use Rattle.ak_port.specs.declared.reply_entry.ReplyEvent.TheVariants as book
use Rattle.ak_desk.specs.declared.entry.DeskEvent.{DeskEvent}
use Rattle.ak_desk.specs.declared.entry.DeskEvent.TheVariants as desk
use Rattle.ak_desk.specs.declared.entry.Edit.{Edit}
use Rattle.ak_desk.specs.declared.entry.Edit.TheVariants as edit
use Rattle.ak_desk.specs.declared.entry.EditAnswer.{EditAnswer}
use Rattle.ak_desk.specs.declared.entry.EditAnswer.TheVariants as answer
use Rattle.ak_desk.specs.Plain.{is_plain_edit}
use Rattle.ak_roster.specs.declared.entry.RosterEvent.{RosterEvent}
use Rattle.ak_roster.specs.declared.entry.RosterEvent.TheVariants as roster
use Rattle.ak_journal.specs.declared.entry.Event.{Event}
use Rattle.ak_journal.specs.declared.entry.Event.TheVariants as event
use Rattle.ak_journal.specs.declared.entry.ObjectName.{ObjectName}
use Rattle.ak_journal.specs.declared.entry.ObjectName.TheVariants as object
use Rattle.ak_journal.specs.Legible.{IsLegibleAnswer, IsLegibleAt, IsLegibleBook, IsLegibleDesk, IsLegibleEdit, IsLegibleEditAnswer, IsLegibleRoster}
use Rattle.ak_journal.specs.Plain.{IsPlainAnswer, IsPlainAt, IsPlainBook, IsPlainDesk, IsPlainEditAnswer, IsPlainRoster}
use Rattle.ak_journal.specs.Typed.{IsTypedAnswer, IsTypedBook, IsTypedDesk, IsTypedEdit, IsTypedEditAnswer, IsTypedEvent, IsTypedObject, IsTypedRoster, PlainIsLegible}

-- ---- the reply book, and the roster
book_parts : (e : ReplyEvent) → IsLegibleBook e ↔ (IsPlainBook e × IsTypedBook e)
book_parts (book.Opened n) = (λ h. (tt, h), λ h. h.1)
book_parts (book.Filled n flat) = (λ h. (h.1.1, (h.0, h.1.0)), λ h. (h.1.0, (h.1.1, h.0)))
book_parts (book.Cancelled n) = (λ h. (tt, h), λ h. h.1)
book_parts (book.Taken n) = (λ h. (tt, h), λ h. h.1)

roster_parts : (e : RosterEvent) → IsLegibleRoster e ↔ (IsPlainRoster e × IsTypedRoster e)
roster_parts (roster.Launch named outcome) = (λ h. (h.0, h.1), λ h. (h.0, h.1))
roster_parts (roster.Find named outcome) = (λ h. (h.0, h.1), λ h. (h.0, h.1))
roster_parts (roster.Gone team) = (λ h. (tt, h), λ h. h.1)
roster_parts (roster.Door looper) = (λ h. (tt, h), λ h. h.1)

-- ---- desks
answer_parts : (told : AnswerWord) → IsLegibleAnswer told ↔ (IsPlainAnswer told × IsTypedAnswer told)
answer_parts (word.Error error) = (λ h. (tt, tt), λ h. tt)
answer_parts (word.Reply flat) = (λ h. (h.1, h.0), λ h. (h.1, h.0))
answer_parts (word.Team team) = (λ h. (tt, h), λ h. h.1)
answer_parts word.NoTeam = (λ h. (tt, tt), λ h. tt)

answers_parts : (answers : List AnswerWord) → AllByRecursion IsLegibleAnswer answers ↔ (AllByRecursion IsPlainAnswer answers × AllByRecursion IsTypedAnswer answers)
answers_parts [] = (λ h. (tt, tt), λ h. tt)
answers_parts (told ∷ answers) =
    let one = answer_parts told in
    let others = answers_parts answers in
    (λ h. (((one.0 h.0).0, (others.0 h.1).0), ((one.0 h.0).1, (others.0 h.1).1)), λ h. (one.1 (h.0.0, h.1.0), others.1 (h.0.1, h.1.1)))

edit_parts : (asked : Edit) → IsLegibleEdit asked ↔ (IsTrue (is_plain_edit asked) × IsTypedEdit asked)
edit_parts (edit.Add name) = (λ h. (h, tt), λ h. h.0)
edit_parts (edit.Remove token) = (λ h. (refl, h), λ h. h.1)
edit_parts (edit.Next token next) = (λ h. (refl, h), λ h. h.1)
edit_parts (edit.Prefer token) = (λ h. (refl, h), λ h. h.1)

edit_answer_parts : (told : EditAnswer) → IsLegibleEditAnswer told ↔ (IsPlainEditAnswer told × IsTypedEditAnswer told)
edit_answer_parts answer.Done = (λ h. (tt, tt), λ h. tt)
edit_answer_parts (answer.Token token) = (λ h. (tt, h), λ h. h.1)
edit_answer_parts (answer.Refused refused) = (λ h. (h, tt), λ h. h.0)
edit_answer_parts answer.NoMemory = (λ h. absurd h, λ h. absurd h.0)

desk_parts : (e : DeskEvent) → IsLegibleDesk e ↔ (IsPlainDesk e × IsTypedDesk e)
desk_parts (desk.Dispatched position where_to answers quit) =
    let each = answers_parts answers in (
      λ h. (record { each = (each.0 h.2.each).0; few = h.2.few; few_replies = h.2.few_replies }, (h.0, h.1, (each.0 h.2.each).1)),
      λ h. (h.1.0, h.1.1, record { each = each.1 (h.0.each, h.1.2); few = h.0.few; few_replies = h.0.few_replies }),
    )
desk_parts (desk.Edited asked told) =
    let first = edit_parts asked in
    let second = edit_answer_parts told in
    (λ h. (((first.0 h.0).0, (second.0 h.1).0), ((first.0 h.0).1, (second.0 h.1).1)), λ h. (first.1 (h.0.0, h.1.0), second.1 (h.0.1, h.1.1)))

-- ---- entries
done_parts : (at : ObjectName) (e : Event) → IsLegibleAt at e ↔ (IsPlainAt at e × (IsTypedObject at × IsTypedEvent e))
done_parts (object.Port looper) (event.Port e) = (λ h. (tt, (h.0, h.1)), λ h. (h.1.0, h.1.1))
done_parts (object.Desk looper) (event.Desk e) =
    let both = desk_parts e in (λ h. ((both.0 h.1).0, (h.0, (both.0 h.1).1)), λ h. (h.1.0, both.1 (h.0, h.1.1)))
done_parts object.Book (event.Book e) = let both = book_parts e in (λ h. ((both.0 h).0, (tt, (both.0 h).1)), λ h. both.1 (h.0, h.1.1))
done_parts object.Roster (event.Roster e) = let both = roster_parts e in (λ h. ((both.0 h).0, (tt, (both.0 h).1)), λ h. both.1 (h.0, h.1.1))
done_parts (object.Port looper) (event.Desk e) = (λ h. absurd h, λ h. absurd h.0)
done_parts (object.Port looper) (event.Book e) = (λ h. absurd h, λ h. absurd h.0)
done_parts (object.Port looper) (event.Roster e) = (λ h. absurd h, λ h. absurd h.0)
done_parts (object.Desk looper) (event.Port e) = (λ h. absurd h, λ h. absurd h.0)
done_parts (object.Desk looper) (event.Book e) = (λ h. absurd h, λ h. absurd h.0)
done_parts (object.Desk looper) (event.Roster e) = (λ h. absurd h, λ h. absurd h.0)
done_parts object.Book (event.Port e) = (λ h. absurd h, λ h. absurd h.0)
done_parts object.Book (event.Desk e) = (λ h. absurd h, λ h. absurd h.0)
done_parts object.Book (event.Roster e) = (λ h. absurd h, λ h. absurd h.0)
done_parts object.Roster (event.Port e) = (λ h. absurd h, λ h. absurd h.0)
done_parts object.Roster (event.Desk e) = (λ h. absurd h, λ h. absurd h.0)
done_parts object.Roster (event.Book e) = (λ h. absurd h, λ h. absurd h.0)

pub is_legible : PlainIsLegible
is_legible entry =
    let both = done_parts entry.object entry.event in (
      λ h. (record { done = (both.0 h.done).0 }, record { stamp = h.stamp; by = h.by; object = (both.0 h.done).1.0; event = (both.0 h.done).1.1 }),
      λ h. record { stamp = h.1.stamp; by = h.1.by; done = both.1 (h.0.done, (h.1.object, h.1.event)) },
    )
