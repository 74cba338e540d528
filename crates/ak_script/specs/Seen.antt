-- What contracts see of scripts, and of what is read of them.
use Rattle.std.specs.Prelude.{ℕ, List, Option, Some, None, Vec}
use Rattle.std.specs.Borrow.{Bor}
use Rattle.std.specs.declared.alloc.Global.{Global}
use Rattle.ak_input.specs.declared.line.Word.{Word}
use Rattle.ak_describe.specs.Words.{texts}
use Rattle.ak_script.specs.declared.block.BlockSoFar.{BlockSoFar}
use Rattle.ak_script.specs.declared.form.post.Posting.{Posting}
use Rattle.ak_script.specs.declared.script.Script.{Script}
use Rattle.ak_script.specs.declared.so_far.ScriptSoFar.{ScriptSoFar}
use Rattle.ak_script.specs.declared.statement.SessionLine.{SessionLine}
use Rattle.ak_script.specs.Blocks.{Block}
use Rattle.ak_script.specs.Forms.{Way}
use Rattle.ak_script.specs.Pass.{SoFar}
use Rattle.ak_script.specs.Script.{ScriptData}
use Rattle.ak_script.specs.Statement.{SessionLineData}
use Rattle.ak_script.specs.StatementSeen.{lines_seen, sessions_seen, statements_seen}

abbrev pub begun_seen : Option (Vec SessionLine Global) → Option (List SessionLineData)
begun_seen None = None
begun_seen (Some lines) = Some (lines_seen lines.items)

abbrev pub block_seen : BlockSoFar → Block
block_seen b = record { sessions = sessions_seen b.sessions.items; begun = begun_seen b.begun }

abbrev pub so_far_of : ScriptSoFar → SoFar
so_far_of s =
    record { part = s.part; descriptions = s.descriptions; statements = statements_seen s.statements.items; block = block_seen s.block; lines = s.lines }

abbrev pub script_seen : Script → ScriptData
script_seen s = record { apps = s.apps.items; statements = statements_seen s.statements.items }

abbrev pub bytes_seen : Bor (List ℕ) → List ℕ
bytes_seen x = x.now

-- what was read, and the words behind it
abbrev pub read_and_rest : {A : Type 0} → A × Bor (List Word) → A × List (List ℕ)
read_and_rest x = (x.0, texts x.1.now)

abbrev pub items_of : Vec (List ℕ) Global → List (List ℕ)
items_of xs = xs.items

abbrev pub way_seen : Posting → Way
way_seen p = record { looper = p.looper; target = p.target; dropped = p.dropped; waits = p.waits }

-- for whom and how, and the words of the message
abbrev pub way_and_rest : Posting × Bor (List Word) → Way × List (List ℕ)
way_and_rest x = (way_seen x.0, texts x.1.now)
