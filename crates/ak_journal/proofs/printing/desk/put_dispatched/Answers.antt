use Rattle.std.proofs.Common.{◌≡◌, ℕ, List, [], ◌∷◌, codes, map, OnOk, subst}
use Rattle.std.specs.Fmt.{decimal}
use Rattle.ak_journal.specs.DeskLine.{answer_text, quit_words, route_words}
use Rattle.ak_journal.proofs.Joining.{four_parts}
use Rattle.ak_journal.proofs.printing.desk.put_dispatched.Goals as goal

pub returns-clause-line : goal.returns-clause-line
returns-clause-line c =
    subst (λ (t : List ℕ). OnOk c.put_answers.result (c.put_answers.new.out ≡ t))
    (four_parts c.args.out.now c.put_counted.new.out c.put_route.new.out c.put_quit.new.out (codes "dispatched" ∷ decimal c.args.position ∷ []) (route_words c.args.route) (quit_words c.args.quit) (map answer_text c.args.answers.now) c.in_ok-put_counted.ensures c.in_ok-put_route.ensures.line c.in_ok-put_quit.ensures)
    c.put_answers.ensures.line
