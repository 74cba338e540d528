-- What is read is what the line says, and what is told is why it says nothing.
use Rattle.std.proofs.Common.{ℕ, List, Result, Ok, Err}
use Rattle.std.specs.Prelude.{IfOk, IfErr, IsTrue}
use Rattle.ak_input.specs.declared.line.Word.{Word}
use Rattle.ak_input.specs.Written.{is_looked_up}
use Rattle.ak_input.proofs.Surface.{looked_up_is}
use Rattle.ak_hey.specs.declared.HeyLine.{HeyLine}
use Rattle.ak_hey.specs.declared.fault.HeyFault.{HeyFault}
use Rattle.ak_hey.specs.Answers.{Answers}
use Rattle.ak_hey.specs.Hey.{hey_of}
use Rattle.ak_hey.specs.Laws.{texts, Fits, IsLineOf, IsRefusal}
use Rattle.ak_hey.specs.Seen.{line_of}
use Rattle.ak_hey.proofs.grammar.Columns.{line_said, is_refusal}
use Rattle.ak_hey.proofs.grammar.Fitting.{hey_fits, hey_unpopped}
use Rattle.ak_hey.proofs.read_hey.Goals as goal

said : (end : ℕ) (words : List Word) (result : Result HeyLine HeyFault) → Answers line_of result (hey_of end words) → IfOk result (IsLineOf words)
said end words (Ok line) e = line_said end words line e
said end words (Err f) e = tt

fit : (end : ℕ) (words : List Word) (result : Result HeyLine HeyFault) → Answers line_of result (hey_of end words) → IfOk result Fits
fit end words (Ok line) e =
    let is = line_said end words line e in
    (hey_fits (texts words) line.app line.message is, hey_unpopped (texts words) line.app line.message is)
fit end words (Err f) e = tt

named : (end : ℕ) (words : List Word) (result : Result HeyLine HeyFault) → Answers line_of result (hey_of end words) → IfOk result (λ line. IsTrue (is_looked_up line.app))
named end words (Ok line) e = let is = line_said end words line e in looked_up_is is.app_word line.app is.app_is
named end words (Err f) e = tt

refused : (end : ℕ) (words : List Word) (result : Result HeyLine HeyFault) → Answers line_of result (hey_of end words) → IfErr result (IsRefusal end words)
refused end words (Ok line) e = tt
refused end words (Err f) e = is_refusal end words f e

pub returns : goal.returns
returns c =
    record {
      answer = c.read.ensures;
      said = said c.args.end c.args.words.now c.read.result c.read.ensures;
      fits = fit c.args.end c.args.words.now c.read.result c.read.ensures;
      named = named c.args.end c.args.words.now c.read.result c.read.ensures;
      refused = refused c.args.end c.args.words.now c.read.result c.read.ensures;
    }
