-- What one message comes to at a looper, given all answers from outside.
use Rattle.std.specs.Prelude.{ℕ, ◌+◌, ◌-◌, Bool, true, false, nat_lt, is_some, if◌then◌else◌, List, [], ◌∷◌, length, Option, None, Some, option_map, unwrap_or, slice_get}
use Rattle.ak_base.specs.declared.error.KitError.TheVariants as error
use Rattle.ak_flatten.specs.Item.{ItemData}
use Rattle.ak_flatten.specs.Spelling.{spelling}
use Rattle.ak_message.specs.Message.{MessageData}
use Rattle.ak_flatten.specs.Limits.{flat_limit}
use Rattle.ak_route.specs.declared.outcome.Route.{Route}
use Rattle.ak_route.specs.declared.outcome.Route.TheVariants as route
use Rattle.ak_route.specs.declared.outcome.Taker.{Taker}
use Rattle.ak_route.specs.declared.outcome.Taker.TheVariants as taker
use Rattle.ak_action.specs.declared.answer.Answer.{Answer}
use Rattle.ak_action.specs.declared.answer.Answer.TheVariants as answer
use Rattle.ak_action.specs.declared.answer.AnswerWord.{AnswerWord}
use Rattle.ak_action.specs.declared.answer.AnswerWord.TheVariants as word
use Rattle.ak_action.specs.declared.answer.Want.{Want}
use Rattle.ak_action.specs.declared.answer.Want.TheVariants as want
use Rattle.ak_action.specs.declared.state.DeskState.{DeskState}
use Rattle.ak_action.specs.Acts.{Acts, acts, error_of}
use Rattle.ak_action.specs.Laws.{is_waiting}
use Rattle.ak_action.specs.Interp.{actions_of}
use Rattle.ak_desk.specs.declared.entry.EntryRoute.{EntryRoute}
use Rattle.ak_desk.specs.declared.entry.EntryRoute.TheVariants as went
use Rattle.ak_desk.specs.BuiltIns.{built_in_reply, built_in_quits}
use Rattle.ak_desk.specs.Place.{routed_of}
use Rattle.ak_desk.specs.Properties.{Replied, property_replied}
use Rattle.ak_desk.specs.Replies.{none_reply, not_understood, error_reply}

pub record Dispatch : Type 0 where
  -- the handlers as it leaves them
  pub state : DeskState
  -- what was asked for outside, in order
  pub wants : List Want
  pub words : List AnswerWord
  -- none where the message was forwarded
  pub reply : Option MessageData
  pub quit : Bool
  -- whether memory ran out
  pub no_memory : Bool
  -- whether an answer is still missing
  pub waits : Bool
  -- the answers that were not used
  pub answers : List Answer

-- nothing is asked for, and this is the reply
abbrev pub replied : DeskState → MessageData → Bool → List Answer → Dispatch
replied s reply quit answers =
    record { state = s; wants = []; words = []; reply = Some reply; quit = quit; no_memory = false; waits = false; answers = answers }

-- the reply found no memory, and nothing changed; whether the looper is to end does not hang on that
abbrev pub starved : DeskState → Bool → List Answer → Dispatch
starved s quit answers =
    record {
      state = s;
      wants = [];
      words = word.Error error.NoMemory ∷ [];
      reply = Some none_reply;
      quit = quit;
      no_memory = true;
      waits = false;
      answers = answers;
    }

-- ---- a message that is taken
abbrev pub by_property : DeskState → Replied → Bool → List Answer → Dispatch
by_property s r memory answers = if memory then starved s false answers else replied r.state r.reply false answers

abbrev pub by_built_in : DeskState → ℕ → MessageData → Bool → List Answer → Dispatch
by_built_in s token m memory answers =
    if memory then starved s (built_in_quits s m) answers else replied s (built_in_reply s token m) (built_in_quits s m) answers

abbrev pub is_no_memory : AnswerWord → Bool
is_no_memory (word.Error error.NoMemory) = true
is_no_memory _ = false

-- the last word tells where memory ran out
abbrev pub ran_out : List AnswerWord → Bool
ran_out words = unwrap_or (option_map is_no_memory (slice_get words (length words - 1))) false

abbrev pub by_reaction : Acts → Dispatch
by_reaction p =
    record {
      state = p.state;
      wants = p.wants;
      words = p.words;
      reply = Some (unwrap_or p.reply none_reply);
      quit = p.quit;
      no_memory = ran_out p.words;
      waits = is_waiting p.course;
      answers = p.answers;
    }

abbrev pub taken : DeskState → ℕ → MessageData → Taker → List Answer → Option ℕ → Dispatch
taken s token m (taker.Property place) answers memory = by_property s (property_replied s token place m) (is_some memory) answers
taken s token m (taker.Reaction place) answers memory = by_reaction (acts s token m (actions_of s token place) answers memory)
taken s token m taker.BuiltIn answers memory = by_built_in s token m (is_some memory) answers

-- ---- a message that is forwarded: one want and its answer
abbrev pub forward_reply : Answer → Option MessageData
forward_reply (answer.Written _) = None
forward_reply answer.Closed = Some (error_reply error.BadPortId)
forward_reply answer.Spent = Some (error_reply error.Spent)
forward_reply _ = Some none_reply

abbrev pub is_no_memory_answer : Answer → Bool
is_no_memory_answer answer.NoMemory = true
is_no_memory_answer _ = false

abbrev pub forwarded : DeskState → Want → List Answer → Dispatch
forwarded s w [] =
    record { state = s; wants = w ∷ []; words = []; reply = None; quit = false; no_memory = false; waits = true; answers = [] }
forwarded s w (a ∷ rest) =
    record {
      state = s;
      wants = w ∷ [];
      words = word.Error (error_of a) ∷ [];
      reply = forward_reply a;
      quit = false;
      no_memory = is_no_memory_answer a;
      waits = false;
      answers = rest;
    }

-- ---- each route
abbrev pub by_route : DeskState → MessageData → Route → List Answer → Option ℕ → Dispatch
by_route s m (route.Deliver token t) answers memory = taken s token m t answers memory
by_route s m route.Skipped answers memory = replied s none_reply false answers
by_route s m route.Dropped answers memory = replied s none_reply false answers
by_route s m route.NotUnderstood answers memory = replied s not_understood false answers
by_route s m (route.Forward looper) answers memory = forwarded s (want.Forward (s.first + looper) m.popped) answers

-- `memory` says that memory ran out: at the reaction's action of that place, or, of what has no actions, at its reply
abbrev pub dispatch_of : DeskState → ItemData → List Answer → Option ℕ → Dispatch
dispatch_of s item answers memory = by_route s (routed_of s item).message (routed_of s item).route answers memory

-- ---- the reply as it is sent: an error where its flat text is too long
abbrev pub fitting : MessageData → MessageData
fitting reply = if nat_lt flat_limit (length (spelling reply)) then error_reply error.TooLong else reply

-- ---- the route as an entry tells it
abbrev pub entry_route : DeskState → Route → EntryRoute
entry_route s (route.Deliver token t) = went.To token
entry_route s route.Skipped = went.Skipped
entry_route s route.Dropped = went.Dropped
entry_route s route.NotUnderstood = went.NotUnderstood
entry_route s (route.Forward looper) = went.Forward (s.first + looper)

-- ---- what a message came to, once nothing is left to do
pub record Came : Type 0 where
  pub words : List AnswerWord
  -- none where the message was sent on
  pub reply : Option MessageData
  pub quit : Bool

-- as one dispatch that asked for these
abbrev pub came_to : List Want → Came → DeskState → Dispatch
came_to asked c s =
    record {
      state = s;
      wants = asked;
      words = c.words;
      reply = c.reply;
      quit = c.quit;
      no_memory = ran_out c.words;
      waits = false;
      answers = [];
    }
