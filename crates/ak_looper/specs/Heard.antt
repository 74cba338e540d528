-- What a message hears of what was sent for it.
use Rattle.std.specs.Prelude.{◌≡◌, ℕ, Bool, true, false, List, [], ◌∷◌, Result, Ok, Err}
use Rattle.ak_flatten.specs.Item.{ItemData}
use Rattle.ak_port.specs.declared.port_entry.WriteAnswer.{WriteAnswer}
use Rattle.ak_port.specs.declared.port_entry.WriteAnswer.TheVariants as written
use Rattle.ak_messenger.specs.declared.asking.Reply.{Reply}
use Rattle.ak_messenger.specs.declared.fault.SendFault.{SendFault}
use Rattle.ak_messenger.specs.declared.fault.SendFault.TheVariants as fault
use Rattle.ak_action.specs.declared.answer.Answer.{Answer}
use Rattle.ak_action.specs.declared.answer.Answer.TheVariants as answer
use Rattle.ak_diary.specs.Step.{Step, lacked}
use Rattle.ak_diary.specs.Turns.{PostsBack}

abbrev pub heard_post : Result ℕ SendFault → Answer
heard_post (Ok position) = answer.Written position
heard_post (Err fault.TooLong) = answer.TooLong
heard_post (Err fault.NoMemory) = answer.NoMemory
heard_post (Err fault.BadPort) = answer.Closed
heard_post (Err fault.Spent) = answer.Spent
heard_post (Err fault.WouldBlock) = answer.Full

abbrev pub heard_ask : Result Reply SendFault → Answer
heard_ask (Ok reply) = answer.Reply reply.flat reply.message
heard_ask (Err fault.TooLong) = answer.TooLong
heard_ask (Err fault.NoMemory) = answer.NoMemory
heard_ask (Err fault.BadPort) = answer.Closed
heard_ask (Err fault.Spent) = answer.Spent
heard_ask (Err fault.WouldBlock) = answer.NoMemory

abbrev pub heard_write : WriteAnswer → Answer
heard_write (written.Wrote position) = answer.Written position
heard_write (written.Closed back) = answer.Closed
heard_write (written.Spent back) = answer.Spent
heard_write (written.Full back) = answer.NoMemory
heard_write (written.NoMemory back) = answer.NoMemory

-- the port answered the write, or memory was wanting
abbrev pub is_posted : WriteAnswer → Bool
is_posted (written.Wrote position) = true
is_posted (written.Closed back) = true
is_posted (written.Spent back) = true
is_posted (written.Full back) = true
is_posted (written.NoMemory back) = false

-- a reply that was posted back, or for which memory was wanting
abbrev pub RepliedSo : ℕ → ItemData → Bool → List Step → Type 0
RepliedSo looper item true steps = PostsBack looper item steps
RepliedSo looper item false steps = steps ≡ lacked ∷ []
