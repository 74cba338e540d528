-- What the first pass leaves: the second pass finds the same with the places kept, and where it finds nothing all loopers are plans.
use Rattle.std.proofs.Common.{◌≡◌, List, None, Ok}
use Rattle.ak_input.specs.declared.line.Line.{Line}
use Rattle.ak_describe.specs.Described.{AreWhole}
use Rattle.ak_describe.specs.Led.{chains_of, led_fault}
use Rattle.ak_describe.specs.Pass.{State, first_pass}
use Rattle.ak_describe.specs.Second.{second_fault}
use Rattle.ak_describe.proofs.built.PartsKept.{first_pass_fits, rows_fit}
use Rattle.ak_describe.proofs.chains.LedNames.{keeps_none, led_names}
use Rattle.ak_describe.proofs.built.Whole.{all_whole}

pub led_is_second : (lines : List Line) (s : State) → first_pass lines ≡ Ok s → led_fault s.apps (chains_of 0 0) s.names ≡ second_fault s.apps s.names
led_is_second lines s e =
    let f = first_pass_fits lines s e in
    led_names s.apps (rows_fit s.apps f.apps) s.names (chains_of 0 0) 0 (keeps_none s.apps) f.nexts

pub are_whole : (lines : List Line) (s : State) → first_pass lines ≡ Ok s → second_fault s.apps s.names ≡ None → AreWhole s.apps
are_whole lines s e good =
    let f = first_pass_fits lines s e in
    all_whole s.apps s.names good f.apps f.nexts f.preferred
