-- A reaction is stored as its parts are.
use Rattle.std.specs.Prelude.{ℕ, Bool, List, Option, refl}
use Rattle.std.specs.Coded.{Coded, code_by, coded×, coded_bool, coded_list, coded_option, coded_ℕ}
use Rattle.ak_message.specs.Message.{MessageData}
use Rattle.ak_message.specs.MessageCode.{coded_message}
use Rattle.ak_action.specs.contracts.answer.AnswerWord as answer_word
use Rattle.ak_action.specs.contracts.interp.Stage as stage
use Rattle.ak_action.specs.declared.answer.AnswerWord.{AnswerWord}
use Rattle.ak_action.specs.declared.interp.Stage.{Stage}
use Rattle.ak_action.specs.Interp.{InterpData}

abbrev Parts : Type 0
Parts = MessageData × (ℕ × (ℕ × (ℕ × (Stage × (List AnswerWord × (Option MessageData × Bool))))))

abbrev pub coded_interp : Coded InterpData
coded_interp =
    code_by Parts
    (coded× coded_message
    (coded× coded_ℕ
    (coded× coded_ℕ
    (coded× coded_ℕ (coded× stage.the_row.coded (coded× (coded_list answer_word.the_row.coded) (coded× (coded_option coded_message) coded_bool)))))))
    (λ i. (i.message, (i.token, (i.reaction, (i.place, (i.stage, (i.words, (i.reply, i.quit))))))))
    (λ p. record {
      message = p.0;
      token = p.1.0;
      reaction = p.1.1.0;
      place = p.1.1.1.0;
      stage = p.1.1.1.1.0;
      words = p.1.1.1.1.1.0;
      reply = p.1.1.1.1.1.1.0;
      quit = p.1.1.1.1.1.1.1;
    })
    (λ _. refl)
