-- What contracts see of a reaction as the code holds it, and the room that it keeps for words.
use Rattle.std.specs.Prelude.{ℕ, ◌+◌, ◌*◌, ◌<◌, ◌≤◌}
use Rattle.ak_action.specs.declared.interp.Interp.TheInside.{Inside}
use Rattle.ak_action.specs.declared.interp.Stage.{Stage}
use Rattle.ak_action.specs.declared.interp.Stage.TheVariants as stage
use Rattle.ak_action.specs.Interp.{InterpData}
use Rattle.ak_action.specs.Limits.{action_limit, answer_word_limit}

abbrev pub interp_inside : Inside → InterpData
interp_inside i =
    record {
      message = i.message;
      token = i.token;
      reaction = i.reaction;
      place = i.place;
      stage = i.stage;
      words = i.words.list;
      reply = i.reply;
      quit = i.quit;
    }

-- of the action at the place and each one after it, less the word that it has already
abbrev pub HasRoomAt : Stage → ℕ → ℕ → Type 0
HasRoomAt stage.Ready place room = (place ≤ action_limit) × (answer_word_limit ≤ room + 2 * place)
HasRoomAt (stage.Finding _ _) place room = (place < action_limit) × (answer_word_limit ≤ room + 2 * place)
HasRoomAt (stage.Found _ _ _) place room = (place < action_limit) × (answer_word_limit ≤ room + 2 * place + 1)
HasRoomAt (stage.Sent _) place room = (place < action_limit) × (answer_word_limit ≤ room + 2 * place + 1)
HasRoomAt stage.Ended place room = Unit {0}

abbrev pub HasRoom : Inside → Type 0
HasRoom i = HasRoomAt i.stage i.place i.words.room
