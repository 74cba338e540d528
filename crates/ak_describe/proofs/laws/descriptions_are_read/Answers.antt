-- What is read is what lines describe, and what is told is their first fault.
use Rattle.ak_describe.proofs.answered.LawsHold.{described_is_read, first_fault_is_told}
use Rattle.ak_describe.proofs.laws.descriptions_are_read.Goals as goal

pub returns : goal.returns
returns c = record { described = described_is_read; first_fault = first_fault_is_told }
