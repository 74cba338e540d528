-- A desk is stored as its parts are.
use Rattle.std.specs.Prelude.{ℕ, Bool, List, Option, refl}
use Rattle.std.specs.Coded.{Coded, code_by, coded×, coded_bool, coded_list, coded_option, coded_ℕ}
use Rattle.ak_message.specs.Message.{MessageData}
use Rattle.ak_message.specs.MessageCode.{coded_message}
use Rattle.ak_action.specs.contracts.answer.Answer as answer
use Rattle.ak_action.specs.contracts.answer.AnswerWord as answer_word
use Rattle.ak_action.specs.contracts.answer.Want as want
use Rattle.ak_action.specs.contracts.state.DeskState as desk_state
use Rattle.ak_action.specs.declared.answer.Answer.{Answer}
use Rattle.ak_action.specs.declared.answer.AnswerWord.{AnswerWord}
use Rattle.ak_action.specs.declared.answer.Want.{Want}
use Rattle.ak_action.specs.declared.state.DeskState.{DeskState}
use Rattle.ak_flatten.specs.Item.{ItemData, coded_item}
use Rattle.ak_desk.specs.contracts.entry.EntryRoute as entry_route
use Rattle.ak_desk.specs.declared.entry.EntryRoute.{EntryRoute}
use Rattle.ak_desk.specs.Desk.{BegunData, DeskData}
use Rattle.ak_desk.specs.Dispatch.{Came}
use Rattle.ak_desk.specs.Entry.{EntryData, coded_entry}

abbrev coded_came : Coded Came
coded_came =
    code_by (List AnswerWord × (Option MessageData × Bool)) (coded× (coded_list answer_word.the_row.coded) (coded× (coded_option coded_message) coded_bool))
    (λ c. (c.words, (c.reply, c.quit)))
    (λ p. record { words = p.0; reply = p.1.0; quit = p.1.1 })
    (λ _. refl)

abbrev BegunParts : Type 0
BegunParts = ℕ × (ItemData × (DeskState × (EntryRoute × (List Want × (List Answer × Option Came)))))

abbrev coded_begun : Coded BegunData
coded_begun =
    code_by BegunParts
    (coded× coded_ℕ
    (coded× coded_item
    (coded× desk_state.the_row.coded
    (coded× entry_route.the_row.coded (coded× (coded_list want.the_row.coded) (coded× (coded_list answer.the_row.coded) (coded_option coded_came)))))))
    (λ b. (b.position, (b.item, (b.before, (b.route, (b.asked, (b.heard, b.came)))))))
    (λ p. record {
      position = p.0;
      item = p.1.0;
      before = p.1.1.0;
      route = p.1.1.1.0;
      asked = p.1.1.1.1.0;
      heard = p.1.1.1.1.1.0;
      came = p.1.1.1.1.1.1;
    })
    (λ _. refl)

abbrev DeskParts : Type 0
DeskParts = DeskState × (DeskState × (List EntryData × Option BegunData))

abbrev pub coded_desk : Coded DeskData
coded_desk =
    code_by DeskParts
    (coded× desk_state.the_row.coded (coded× desk_state.the_row.coded (coded× (coded_list coded_entry) (coded_option coded_begun))))
    (λ d. (d.opening, (d.state, (d.entries, d.begun))))
    (λ p. record { opening = p.0; state = p.1.0; entries = p.1.1.0; begun = p.1.1.1 })
    (λ _. refl)
