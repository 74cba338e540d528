-- What fits a want is an answer that the desk takes.
use Rattle.std.proofs.Common.{subst}
use Rattle.ak_action.specs.declared.answer.Want.{Want}
use Rattle.ak_desk.specs.Desk.{DeskAwaits}
use Rattle.run_lists.proofs.heard.is_answer.Goals as goal

pub returns-in-Post : goal.returns-in-Post
returns-in-Post c told = subst (λ (w : Want). DeskAwaits w c.args.desk.now) c.in-Post.is c.requires c.args.a.now (c.posts.ensures told)

pub returns-in-Ask : goal.returns-in-Ask
returns-in-Ask c told = subst (λ (w : Want). DeskAwaits w c.args.desk.now) c.in-Ask.is c.requires c.args.a.now (c.asks.ensures told)
