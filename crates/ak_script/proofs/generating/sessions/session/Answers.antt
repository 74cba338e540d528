-- One line more.
use Rattle.std.proofs.Common.{◌≡◌, ℕ, ◌+◌, List, [], ◌∷◌, ◌++◌, refl, sym, subst, ap₂, ◌∙◌, add-one}
use Rattle.std.proofs.lemmas.List.{map-append}
use Rattle.ak_script.specs.Generated.{incr, place_in, up_to}
use Rattle.ak_script.specs.Statement.{SessionLineData, hey_line}
use Rattle.ak_script.specs.StatementSeen.{line_seen, lines_seen}
use Rattle.ak_script.specs.declared.statement.SessionLine.{SessionLine}
use Rattle.ak_script.proofs.generating.sessions.session.Goals as goal

up_to-next : (n : ℕ) (f : ℕ → SessionLineData) → up_to (n + 1) f ≡ up_to n f ++ f (n + 1) ∷ []
up_to-next n f = subst (λ (k : ℕ). up_to k f ≡ up_to n f ++ f k ∷ []) (sym (add-one n)) refl

next_line : (lines : List SessionLine) (new : SessionLine) (n : ℕ) (f : ℕ → SessionLineData) → lines_seen lines ≡ up_to n f → line_seen new ≡ f (n + 1) → lines_seen (lines ++ new ∷ []) ≡ up_to (n + 1) f
next_line lines new n f before is =
    map-append line_seen lines (new ∷ [])
    ∙ ap₂ (λ (front : List SessionLineData) (last : SessionLineData). front ++ last ∷ []) before is
    ∙ sym (up_to-next n f)

pub loop-i-preserved : goal.loop-i-preserved
loop-i-preserved c =
    let line_at : ℕ → SessionLineData = λ n. hey_line (incr (place_in c.args.s n)) in
    subst (λ (lines : List SessionLine). lines_seen lines ≡ up_to (c.loop-i.i + 1) line_at) (sym {A = List SessionLine} c.in_ok-push.ensures.items)
    (next_line c.loop-i.lines.items c.in_ok-line.field-0 c.loop-i.i line_at c.loop-i.invariant c.in_ok-line.ensures)
