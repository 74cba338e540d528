-- What a script can say: which words it launches by and looks up by, and which edits it asks for; and how the actions of whole applications name
-- applications.
use Rattle.std.specs.Prelude.{List, All, IsTrue, get_or}
use Rattle.std.proofs.lemmas.List.Elements.{All-weaker}
use Rattle.std.specs.List.{list_all}
use Rattle.ak_port.specs.declared.reply_entry.ReplyEntry.{ReplyEntry}
use Rattle.ak_port.specs.Reply.{HasFlatText}
use Rattle.ak_action.specs.declared.plan.PlanParts.{PlanParts}
use Rattle.ak_describe.specs.declared.described.AppText.{AppText}
use Rattle.ak_diary.specs.declared.histories.Histories.{Histories}
use Rattle.ak_script.specs.declared.statement.SessionLine.{SessionLine}
use Rattle.ak_script.specs.declared.statement.SessionLine.TheVariants as line
use Rattle.ak_script.specs.declared.statement.SessionLines.{SessionLines}
use Rattle.ak_script.specs.declared.statement.Statement.{Statement}
use Rattle.ak_script.specs.declared.statement.Statement.TheVariants as statement
use Rattle.ak_desk.specs.Plain.{is_plain_edit}
use Rattle.ak_describe.specs.Whole.{AreWholeApps, IsWholeApp, row_names}
use Rattle.ak_input.specs.Written.{is_launched, is_looked_up}

-- a line of a session
abbrev pub IsSaidLine : SessionLine → Type 0
IsSaidLine (line.Hey h) = IsTrue (is_looked_up h.app)
IsSaidLine (line.Post p) = IsTrue (is_looked_up p.app)
IsSaidLine (line.Lock l) = IsTrue (is_looked_up l.app) × IsTrue (is_plain_edit l.edit)

abbrev pub AreSaidLines : SessionLines → Type 0
AreSaidLines lines = All IsSaidLine lines.lines.items

-- a statement, and all
abbrev pub IsSaid : Statement → Type 0
IsSaid (statement.Launch l) = IsTrue (is_launched l.word)
IsSaid (statement.Hey h) = IsTrue (is_looked_up h.app)
IsSaid (statement.Post p) = IsTrue (is_looked_up p.app)
IsSaid (statement.Lock l) = IsTrue (is_looked_up l.app) × IsTrue (is_plain_edit l.edit)
IsSaid (statement.Together t) = All AreSaidLines t.sessions.items

abbrev pub AreSaid : List Statement → Type 0
AreSaid statements = All IsSaid statements

-- each action that looks for an application names it by a number, a signature or a name
abbrev pub IsNamedApp : AppText → Type 0
IsNamedApp a = All (λ (p : PlanParts). IsTrue (list_all row_names p.rows)) a.loopers

abbrev pub AreNamedApps : List AppText → Type 0
AreNamedApps apps = All IsNamedApp apps

-- each reply that fills a slot is a flat text
abbrev pub HasFlatTexts : Histories → Type 0
HasFlatTexts h = All (λ (entry : ReplyEntry). HasFlatText entry.event) h.book

-- ---- by the types of lines and of statements, and by what whole applications are
said_line : (l : SessionLine) → IsSaidLine l
said_line (line.Hey h) = h.form
said_line (line.Post p) = p.form
said_line (line.Lock l) = (l.form, l.edit_is)

said_statement : (s : Statement) → IsSaid s
said_statement (statement.Launch l) = l.form
said_statement (statement.Hey h) = h.form
said_statement (statement.Post p) = p.form
said_statement (statement.Lock l) = (l.form, l.edit_is)
said_statement (statement.Together t) = λ i d less k e lt. said_line (get_or (get_or t.sessions.items i d).lines.items k e)

pub all_said : (statements : List Statement) → AreSaid statements
all_said statements = λ i d less. said_statement (get_or statements i d)

pub named_apps : (apps : List AppText) → AreWholeApps apps → AreNamedApps apps
named_apps apps whole = All-weaker IsWholeApp IsNamedApp (λ (a : AppText) (w : IsWholeApp a). w.words_are) apps whole.each
