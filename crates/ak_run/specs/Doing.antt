-- What main does by one call, step by step, and what the call answers.
use Rattle.std.specs.Prelude.{◌≡◌, ◌≢◌, ◌⊎◌, ◌≤◌, ◌+◌, ℕ, List, [], ◌∷◌, ◌++◌, length, All, Option, None, Some, option_map, slice_get, unwrap_or, Result, Ok, Err}
use Rattle.std.specs.List.{find}
use Rattle.ak_base.specs.Thread.{main_thread}
use Rattle.ak_base.specs.declared.app_word.AppWord.{AppWord}
use Rattle.ak_message.specs.Message.{MessageData}
use Rattle.ak_flatten.specs.Item.{ItemData}
use Rattle.ak_turn.specs.Entries.{StartsWith}
use Rattle.ak_turn.specs.Noted.{Noted, StandsIn, noted}
use Rattle.ak_roster.specs.declared.entry.LaunchOutcome.{LaunchOutcome}
use Rattle.ak_roster.specs.declared.entry.LaunchOutcome.TheVariants as outcome
use Rattle.ak_roster.specs.declared.entry.RosterEntry.{RosterEntry}
use Rattle.ak_roster.specs.declared.entry.RosterEvent.TheVariants as roster_event
use Rattle.ak_roster.specs.declared.team.Running.{Running}
use Rattle.ak_roster.specs.Machine.{runs_team, state_of}
use Rattle.ak_describe.specs.Whole.{heads_of}
use Rattle.ak_describe.specs.declared.described.AppText.{AppText}
use Rattle.ak_port.specs.declared.port_entry.PortEvent.{PortEvent}
use Rattle.ak_port.specs.declared.port_entry.PortEvent.TheVariants as event
use Rattle.ak_messenger.specs.declared.asking.Reply.{Reply}
use Rattle.ak_messenger.specs.declared.envelope.Envelope.{Envelope}
use Rattle.ak_messenger.specs.declared.fault.SendFault.{SendFault}
use Rattle.ak_messenger.specs.declared.fault.SendFault.TheVariants as fault
use Rattle.ak_messenger.specs.Sends.{post_event}
use Rattle.ak_desk.specs.Entry.{EntryData}
use Rattle.ak_desk.specs.Shared as at_desks
use Rattle.ak_diary.specs.Step.{Step, at_roster, desk_entries}
use Rattle.ak_diary.specs.Wants.{AsksInVain, EntersPort, Withdraws}
use Rattle.ak_looper.specs.Rosters.{plain_of}
use Rattle.ak_run.specs.declared.run.Run.{Run}
use Rattle.ak_team.specs.Greeting.{EntersEach, SendsEach, arguments_told, capacities_in, start_entries}
use Rattle.ak_run.specs.Recording.{GoesBy, IsRecorded, fronts_of, list_at}
use Rattle.ak_gather.specs.Members.{member_desk_front}
use Rattle.ak_run.specs.Stopping.{StopsTeam}
use Rattle.ak_session.specs.Doing.{Answered, address_of}
use Rattle.ak_session.specs.declared.answers.Found.{Found}
use Rattle.ak_session.specs.declared.answers.Found.TheVariants as found
use Rattle.ak_run.specs.declared.answers.LaunchAnswer.{LaunchAnswer}
use Rattle.ak_run.specs.declared.answers.LaunchAnswer.TheVariants as answer

-- ---- what main did
-- what main's seat at that looper's desk has seen; nothing where there is no such looper
abbrev pub desk_front : Run → ℕ → List EntryData
desk_front r looper = unwrap_or (option_map member_desk_front (slice_get r.members.items looper)) []

-- main made no entry at a desk, and each desk's list goes on from what it had seen
pub record IsQuietAtDesks (r r' : Run) : Type 0 where
  pub on : (looper : ℕ) → StartsWith (desk_front r' looper) (desk_front r looper)
  pub same : (looper : ℕ) → noted at_desks.by_number main_thread (desk_front r' looper) ≡ noted at_desks.by_number main_thread (desk_front r looper)

-- By these steps its own entries went on at the roster, at the reply book, at each port and at each desk. The lists of the roster and of each
-- desk go on from what main had seen, and the edits of these steps stand at the desks
pub record Does (steps : List Step) (r r' : Run) : Type 0 where
  pub goes : GoesBy steps (fronts_of r) (fronts_of r')
  pub roster_on : StartsWith (plain_of r'.roster_seat) (plain_of r.roster_seat)
  pub desks : (looper : ℕ) → noted at_desks.by_number main_thread (desk_front r' looper) ≡ noted at_desks.by_number main_thread (desk_front r looper) ++ desk_entries looper steps
  pub desks_on : (looper : ℕ) → StartsWith (desk_front r' looper) (desk_front r looper)
  pub edits : (looper : ℕ) → All (StandsIn (desk_front r' looper)) (desk_entries looper steps)

-- all that main made at a desk are the edits of these steps
abbrev pub IsRecordedAtDesks : List Step → Run → Type 0
IsRecordedAtDesks steps r = (looper : ℕ) → noted at_desks.by_number main_thread (desk_front r looper) ≡ desk_entries looper steps

-- the steps so far: its diary, which has all that it made at the roster, at the reply book, at each port and at each desk, and edits that stand
-- at the desks
pub record HasDoneSoFar (steps : List Step) (r : Run) : Type 0 where
  pub recorded : IsRecorded steps (fronts_of r)
  pub desks : (looper : ℕ) → noted at_desks.by_number main_thread (desk_front r looper) ≡ desk_entries looper steps
  pub edits : (looper : ℕ) → All (StandsIn (desk_front r looper)) (desk_entries looper steps)

-- by some steps, of which that holds
pub record DoesSo (P : List Step → Type 0) (r r' : Run) : Type 0 where
  pub steps : List Step
  pub so : P steps
  pub does : Does steps r r'

-- ---- look-ups
-- a team that was found has a looper, and its loopers were started
abbrev pub IsStartedTeam : ℕ → Found → Type 0
IsStartedTeam loopers_started (found.Team team first loopers place) = (1 ≤ loopers) × (first + loopers ≤ loopers_started)
IsStartedTeam loopers_started (found.NoTeam place) = Unit {0}
IsStartedTeam loopers_started found.NoMemory = Unit {0}

-- ---- launches
-- one entry at the roster, at that place, of that launch
pub record LaunchesAt (word : AppWord) (came : LaunchOutcome) (place : ℕ) (steps : List Step) : Type 0 where
  pub noted : Noted RosterEntry
  pub event_is : noted.entry.event ≡ roster_event.Launch word came
  pub place_is : place ≡ length noted.before
  pub is : steps ≡ at_roster noted ∷ []

-- a team was started: before the entry its ports are made, each with the capacity of its looper, and its first looper is told the arguments
-- and that it is ready to run
pub record StartsTeam (apps : List AppText) (word : AppWord) (arguments : Option MessageData) (team place : ℕ) (steps : List Step) : Type 0 where
  pub description : ℕ
  pub first : ℕ
  pub app : AppText
  pub described : slice_get apps description ≡ Some app
  pub ports : List Step
  pub enters : EntersEach (start_entries first (capacities_in app.loopers) arguments) ports
  pub entry : List Step
  pub launches : LaunchesAt word (outcome.Started description team first) place entry
  pub is : steps ≡ ports ++ entry

-- the team runs, as the roster tells at the entry: behind it the arguments are sent to its first looper
pub record FindsRunning (apps : List AppText) (word : AppWord) (arguments : Option MessageData) (team place : ℕ) (steps : List Step) : Type 0 where
  pub entry : List Step
  pub launches : LaunchesAt word (outcome.AlreadyRunning team) place entry
  pub running : Running
  pub runs : find (runs_team team) (state_of (heads_of apps) launches.noted.before).running ≡ Some running
  pub told : List Step
  pub sends : SendsEach running.first (arguments_told arguments) told
  pub is : steps ≡ entry ++ told

-- the team runs, and memory ran out for the arguments that were to be sent to it: nothing is entered behind the entry. A launch with nothing to send is done there
pub record FindsRunningInVain (word : AppWord) (arguments : Option MessageData) (steps : List Step) : Type 0 where
  pub some : arguments_told arguments ≢ []
  pub team : ℕ
  pub place : ℕ
  pub launches : LaunchesAt word (outcome.AlreadyRunning team) place steps

-- without memory nothing was entered, or no more than that
abbrev pub LaunchesInVain : AppWord → Option MessageData → List Step → Type 0
LaunchesInVain word arguments steps = (steps ≡ []) ⊎ FindsRunningInVain word arguments steps

-- a team was started, of which a looper got no thread; behind its launch the team was ended, with all its loopers
pub record StartsInVain (apps : List AppText) (word : AppWord) (arguments : Option MessageData) (steps : List Step) : Type 0 where
  pub team : ℕ
  pub place : ℕ
  pub started : List Step
  pub starts : StartsTeam apps word arguments team place started
  pub ended : List Step
  pub stops : StopsTeam (heads_of apps) (starts.launches.noted.before ++ starts.launches.noted.entry ∷ []) team starts.first (length starts.app.loopers) ended
  pub is : steps ≡ started ++ ended

-- by its answer; nothing else is entered anywhere
abbrev pub LaunchedSo : List AppText → AppWord → Option MessageData → LaunchAnswer → List Step → Type 0
LaunchedSo apps word arguments (answer.Started team place) steps = StartsTeam apps word arguments team place steps
LaunchedSo apps word arguments (answer.Running team place) steps = FindsRunning apps word arguments team place steps
LaunchedSo apps word arguments (answer.NotFound place) steps = LaunchesAt word outcome.NotFound place steps
LaunchedSo apps word arguments (answer.Limit place) steps = LaunchesAt word outcome.Limit place steps
LaunchedSo apps word arguments answer.ThreadFault steps = StartsInVain apps word arguments steps
LaunchedSo apps word arguments answer.NoMemory steps = LaunchesInVain word arguments steps

-- ---- sends
-- one entry at that port with that event, the last that main has seen there
pub record EntersLast (looper : ℕ) (e : PortEvent) (r' : Run) (steps : List Step) : Type 0 where
  pub enters : EntersPort looper e steps
  pub last : list_at (fronts_of r').ports looper ≡ enters.noted.before ++ enters.noted.entry ∷ []

abbrev pub EnteredSo : ℕ → Run → List Step → Option PortEvent → Type 0
EnteredSo looper r' steps None = steps ≡ []
EnteredSo looper r' steps (Some e) = EntersLast looper e r' steps

-- a post: its one entry, by its answer
abbrev pub PostedSo : ℕ → Envelope → MessageData → Result ℕ SendFault → Run → List Step → Type 0
PostedSo looper envelope message sent r' steps = EnteredSo looper r' steps (post_event envelope message sent)

-- an ask was refused, by the last entry that main has seen at that port
pub record RefusedBy (looper : ℕ) (item : ItemData) (e : PortEvent) (r' : Run) (steps : List Step) : Type 0 where
  pub withdraws : Withdraws (address_of looper item) (Some e) steps
  pub refused : EntersLast looper e r' withdraws.refused

-- an ask, by its answer
abbrev pub AskedSo : ℕ → ItemData → Result Reply SendFault → Run → List Step → Type 0
AskedSo looper item (Ok reply) r' steps = Answered looper item reply steps
AskedSo looper item (Err fault.BadPort) r' steps = RefusedBy looper item event.Refused r' steps
AskedSo looper item (Err fault.Spent) r' steps = RefusedBy looper item event.Spent r' steps
AskedSo looper item (Err fault.TooLong) r' steps = steps ≡ []
AskedSo looper item (Err fault.NoMemory) r' steps = AsksInVain (address_of looper item) item steps
AskedSo looper item (Err fault.WouldBlock) r' steps = ⊥
