-- The statements of a script are read line by line: behind each line the next one stands outside of blocks, or in one.
use Rattle.std.proofs.Common.{◌≡◌, ◌+◌, ℕ, List, [], ◌∷◌, ◌++◌, Some, None, Result, Ok, Err, refl, ap, ◌∙◌}
use Rattle.std.specs.Prelude.{true}
use Rattle.ak_input.specs.declared.line.Line.{Line}
use Rattle.ak_describe.specs.Pass.{Refusal, then_read}
use Rattle.ak_describe.specs.Words.{behind, ends, texts}
use Rattle.ak_script.specs.declared.part.Part.TheVariants as part
use Rattle.ak_script.specs.Blocks.{Block, new_block, closed}
use Rattle.ak_script.specs.Pass.{SoFar, line_said, lines_said, more_fault}
use Rattle.ak_script.specs.SaysLines.{IsAlone}
use Rattle.ak_script.specs.Statement.{SessionData, StatementData, together_statement, lines_of_sessions, lines_in}
use Rattle.ak_script.proofs.InOrder.{behind_is, ends_is}

-- ---- lines one behind another
pub lines_said-append : (first more : List Line) (s : SoFar) → lines_said s (first ++ more) ≡ then_read (lines_said s first) (λ (t : SoFar). lines_said t more)
unfolding lines_said
lines_said-append [] more s = refl
lines_said-append (line ∷ first) more s = by_first (λ (t : SoFar). lines_said-append first more t) (line_said s line) where
  by_first
      : ((t : SoFar) → lines_said t (first ++ more) ≡ then_read (lines_said t first) (λ (u : SoFar). lines_said u more)) → (r : Result SoFar Refusal)
      → then_read r (λ (t : SoFar). lines_said t (first ++ more)) ≡ then_read (then_read r (λ (t : SoFar). lines_said t first)) (λ (u : SoFar). lines_said u more)
  by_first further (Ok t) = further t
  by_first further (Err e) = refl

pub both_said : (first more : List Line) (s t u : SoFar) → lines_said s first ≡ Ok t → lines_said t more ≡ Ok u → lines_said s (first ++ more) ≡ Ok u
both_said first more s t u e f = lines_said-append first more s ∙ ap (λ (r : Result SoFar Refusal). then_read r (λ (v : SoFar). lines_said v more)) e ∙ f

pub one_said : (line : Line) (s t : SoFar) → line_said s line ≡ Ok t → lines_said s (line ∷ []) ≡ Ok t
unfolding lines_said
one_said line s t e = ap (λ (r : Result SoFar Refusal). then_read r (λ (v : SoFar). lines_said v [])) e

-- ---- where the next line stands
-- in a block, behind statements
abbrev pub inside : List Line → List StatementData → Block → SoFar
inside described statements b =
    record { part = part.Block; descriptions = described; statements = statements; block = b; lines = lines_in statements + lines_of_sessions (closed b) }

-- the block behind its last line, as a statement
abbrev pub block_of : List SessionData → StatementData
block_of sessions = together_statement (record { sessions = sessions })

-- outside of blocks, and in one, where that many lines were counted
abbrev pub counted_outside : List Line → List StatementData → ℕ → SoFar
counted_outside described statements n =
    record { part = part.Statements; descriptions = described; statements = statements; block = new_block; lines = n }

abbrev pub counted_inside : List Line → List StatementData → Block → ℕ → SoFar
counted_inside described statements b n =
    record { part = part.Block; descriptions = described; statements = statements; block = b; lines = n }

pub counted_as : (described : List Line) (statements : List StatementData) (n m : ℕ) → n ≡ m → counted_outside described statements n ≡ counted_outside described statements m
counted_as described statements n m e = ap (counted_outside described statements) e

pub counted_in : (described : List Line) (statements : List StatementData) (b : Block) (n m : ℕ) → n ≡ m → counted_inside described statements b n ≡ counted_inside described statements b m
counted_in described statements b n m e = ap (counted_inside described statements b) e

-- ---- a word alone
pub alone_is : (line : Line) (key : List ℕ) (words : List (List ℕ)) → behind (texts line.words) key ≡ Some words → ends words ≡ true → IsAlone line key
alone_is line key words e last = behind_is (texts line.words) key words e ∙ ap (λ (ws : List (List ℕ)). key ∷ ws) (ends_is words last)

pub no_more : (words : List (List ℕ)) → more_fault words ≡ None → ends words ≡ true
no_more [] e = refl
no_more (word ∷ words) e = absurd cc
