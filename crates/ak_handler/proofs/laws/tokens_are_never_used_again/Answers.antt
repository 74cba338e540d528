use Rattle.ak_handler.proofs.Births.{tokens_rise, handlers_are_given_tokens, no_token_is_used_again}
use Rattle.ak_handler.proofs.laws.tokens_are_never_used_again.Goals as goal

pub returns-clause-rising : goal.returns-clause-rising
returns-clause-rising g c = tokens_rise _

pub returns-clause-given : goal.returns-clause-given
returns-clause-given g c = handlers_are_given_tokens _

pub returns-clause-once : goal.returns-clause-once
returns-clause-once g c = no_token_is_used_again _
