-- What contracts see of statements.
use Rattle.std.specs.Prelude.{List, map}
use Rattle.ak_script.specs.declared.statement.Hey.{Hey}
use Rattle.ak_script.specs.declared.statement.Launch.{Launch}
use Rattle.ak_script.specs.declared.statement.Lock.{Lock}
use Rattle.ak_script.specs.declared.statement.Post.{Post}
use Rattle.ak_script.specs.declared.statement.SessionLine.{SessionLine}
use Rattle.ak_script.specs.declared.statement.SessionLine.TheVariants as line
use Rattle.ak_script.specs.declared.statement.SessionLines.{SessionLines}
use Rattle.ak_script.specs.declared.statement.Statement.{Statement}
use Rattle.ak_script.specs.declared.statement.Statement.TheVariants as says
use Rattle.ak_script.specs.declared.statement.Together.{Together}
use Rattle.ak_script.specs.Statement.{LaunchData, HeyData, PostData, LockData, SessionLineData, hey_line, post_line, lock_line, SessionData, TogetherData, StatementData, launch_statement, hey_statement, post_statement, lock_statement, together_statement}

abbrev pub launch_seen : Launch → LaunchData
launch_seen s = record { word = s.word; arguments = s.arguments }

abbrev pub hey_seen : Hey → HeyData
hey_seen s = record { app = s.app; message = s.message }

abbrev pub post_seen : Post → PostData
post_seen s =
    record { app = s.app; looper = s.looper; target = s.target; dropped = s.dropped; waits = s.waits; message = s.message }

abbrev pub lock_seen : Lock → LockData
lock_seen s = record { app = s.app; looper = s.looper; edit = s.edit }

-- ---- blocks
abbrev pub line_seen : SessionLine → SessionLineData
line_seen (line.Hey s) = hey_line (hey_seen s)
line_seen (line.Post s) = post_line (post_seen s)
line_seen (line.Lock s) = lock_line (lock_seen s)

abbrev pub lines_seen : List SessionLine → List SessionLineData
lines_seen lines = map line_seen lines

abbrev pub session_seen : SessionLines → SessionData
session_seen s = record { lines = lines_seen s.lines.items }

abbrev pub sessions_seen : List SessionLines → List SessionData
sessions_seen sessions = map session_seen sessions

abbrev pub together_seen : Together → TogetherData
together_seen s = record { sessions = sessions_seen s.sessions.items }

-- ---- all of them
abbrev pub statement_seen : Statement → StatementData
statement_seen (says.Launch s) = launch_statement (launch_seen s)
statement_seen (says.Hey s) = hey_statement (hey_seen s)
statement_seen (says.Post s) = post_statement (post_seen s)
statement_seen (says.Lock s) = lock_statement (lock_seen s)
statement_seen (says.Together s) = together_statement (together_seen s)

abbrev pub statements_seen : List Statement → List StatementData
statements_seen statements = map statement_seen statements
