-- Reading answers once.
use Rattle.ak_describe.proofs.answered.LawsHold.{one_of_both, not_both, one_description, one_first_fault}
use Rattle.ak_describe.proofs.laws.described_or_faulty.Goals as goal

pub returns : goal.returns
returns c = record { one = one_of_both; not_both = not_both; one_description = one_description; one_fault = one_first_fault }
