-- How a desk stands as its messages end, and as its handlers are edited.
use Rattle.std.proofs.Common.{◌≡◌, ℕ, ◌+◌, ◌<◌, ◌≤◌, max, Bool, true, false, List, [], ◌∷◌, ◌++◌, Option, None, Some, IfSome, IsSome, option_map, length, refl, ap, subst, sym, ◌∙◌, arith}
use Rattle.ak_action.specs.declared.state.DeskState.{DeskState}
use Rattle.ak_desk.specs.declared.desk.Begun.{Begun}
use Rattle.ak_desk.specs.Desk.{BegunData, DeskData, DeskIsDone, Edits, EndsDispatch, HasGivenUp, clock_after, ended, ended_event, given_up_entry, made_by, made_in, made_of, made_without_memory, entry_after, quit_in, stamp_after, stamp_in, with_entry, words_in, HasAdded, edit_entry, edited_to}
use Rattle.ak_desk.specs.DeskInside.{ComesFar, IsBegun, IsOver, Stands, begun_seen, came_seen}
use Rattle.ak_desk.specs.Dispatch.{Came}
use Rattle.ak_desk.specs.Entry.{EntryData}
use Rattle.ak_desk.specs.Machine.{Edited, EditsHandlers, IsHistory, dispatches, edit_of, gave_up, is_no_memory}
use Rattle.ak_handler.specs.Handlers.{HandlersData}
use Rattle.ak_action.specs.declared.row.DeskRow.{DeskRow}
use Rattle.ak_turn.specs.declared.clock.Clock.{Clock}
use Rattle.ak_desk.specs.declared.entry.DeskEvent.{DeskEvent}
use Rattle.ak_desk.specs.declared.entry.DeskEvent.TheVariants as event
use Rattle.ak_desk.specs.declared.entry.Edit.{Edit}
use Rattle.ak_desk.specs.declared.entry.EditAnswer.{EditAnswer}
use Rattle.ak_desk.specs.declared.entry.EditAnswer.TheVariants as answered
use Rattle.ak_desk.specs.declared.entry.EntryRoute.{EntryRoute}
use Rattle.ak_desk.specs.declared.made.Made.{Made}
use Rattle.ak_desk.specs.declared.task.Task.{Task}
use Rattle.ak_desk.specs.Task.{IsDone, came_of}
use Rattle.ak_desk.proofs.Accessing.{facts_same}
use Rattle.ak_desk.proofs.History.{came_event, dispatched_so, ends_on, gave_up_then, history_push}

-- ---- one entry more
later : (a b : ℕ) → b < 1 + max a b
later a b = omega arith

module _ (opening : DeskState) (entries : List EntryData) (clock : Clock) where
  pub ended_stands : (b : BegunData) (t : Task) (s : DeskState) (c : Came) (e : DeskEvent) (new : List EntryData) → IsBegun opening entries b t s → IsOver b t s c → clock.thread.0 ≡ 10000 + opening.looper → e ≡ came_event b c → new ≡ entries ++ entry_after entries clock e (Some b.item) ∷ [] → IsHistory opening new s
  ended_stands b t s c e new h over by is grown =
      subst (λ (l : List EntryData). IsHistory opening l s) (sym grown)
      (ends_on opening entries b t s c h over (entry_after entries clock e (Some b.item)) is refl by (later clock.time (stamp_in entries)))

  module _ (position : ℕ) (new : List EntryData) (grown : new ≡ entries ++ given_up_entry entries clock position ∷ []) where
    pub given_up_stands : (s : DeskState) → IsHistory opening entries s → clock.thread.0 ≡ 10000 + opening.looper → position ≡ dispatches entries → IsHistory opening new s
    given_up_stands s h by at =
        subst (λ (l : List EntryData). IsHistory opening l s) (sym grown)
        (history_push opening entries s (given_up_entry entries clock position) s h (record { by = by; event = (at, (refl, (refl, refl))) }) (later clock.time (stamp_in entries)))

    pub gave_up_now : gave_up new ≡ true
    gave_up_now = ap gave_up grown ∙ gave_up_then entries (given_up_entry entries clock position) refl

    -- of the desk as it is seen
    pub gives_up_so : (o : Option Begun) (s : DeskState) (d : DeskData) → o ≡ None → record { opening = opening; state = s; entries = entries; begun = option_map begun_seen o } ≡ d → Stands opening entries o s → (clock' : Clock) (m : Made) → gave_up d.entries ≡ false → position ≡ dispatches d.entries → clock.thread.0 ≡ 10000 + d.opening.looper → clock' ≡ record clock { time = stamp_after entries clock } → m ≡ made_without_memory → HasGivenUp clock clock' position d.opening d.state d.entries new m
    gives_up_so o s d none seen h clock' m once at by clocked is =
        let rests : IsHistory opening entries s = subst (λ (p : Option Begun). Stands opening entries p s) none h in
        subst (λ (z : DeskData). gave_up z.entries ≡ false → position ≡ dispatches z.entries → clock.thread.0 ≡ 10000 + z.opening.looper → HasGivenUp clock clock' position z.opening z.state z.entries new m) seen
        (λ once at by. record { history = rests; once = once; position_is = at; grown = grown; goes_on = given_up_stands s rests by at; clocked = clocked; made_is = is })
        once at by

-- ---- what the end of a message says of it
-- what came of it, as the task tells it
pub over_so : (done : Bool) (b : BegunData) (t : Task) (s : DeskState) → ComesFar b t s (came_seen done t) → done ≡ true → IsOver b t s (came_of t)
over_so true b t s far e = far
over_so false b t s far e = absurd cc

pub done_is : (done : Bool) (t : Task) → IsSome (came_seen done t) → done ≡ true
done_is true t h = refl
done_is false t h = absurd cc

came_as : (done : Bool) (t : Task) → done ≡ true → came_seen done t ≡ Some (came_of t)
came_as true t e = refl
came_as false t e = absurd cc

module _ (opening : DeskState) (entries : List EntryData) (o : Option Begun) (x : Begun) (s : DeskState) (d : DeskData) (inside : o ≡ Some x) (view : record { opening = opening; state = s; entries = entries; begun = option_map begun_seen o } ≡ d) (h : Stands opening entries o s) (done : DeskIsDone d) where
  abbrev here : DeskData
  here = record { opening = opening; state = s; entries = entries; begun = Some (begun_seen x) }

  seen : here ≡ d
  seen = ap (λ (p : Option Begun). record { opening = opening; state = s; entries = entries; begun = option_map begun_seen p }) (sym inside) ∙ view

  stands : IsBegun opening entries (begun_seen x) x.task s
  stands = subst (λ (p : Option Begun). Stands opening entries p s) inside h

  is_done : x.done ≡ true
  is_done = done_is x.done x.task (subst DeskIsDone (sym seen) done)

  abbrev c : Came
  c = came_of x.task

  over : IsOver (begun_seen x) x.task s c
  over = over_so x.done (begun_seen x) x.task s stands.far is_done

  pub task_done : IsDone x.task
  task_done = over.done

  came_is : (begun_seen x).came ≡ Some c
  came_is = came_as x.done x.task is_done

  event_is : ended_event (begun_seen x) ≡ came_event (begun_seen x) c
  event_is = ap (λ (p : Option Came). event.Dispatched x.position x.route (words_in p) (quit_in p)) came_is

  module _ (clock : Clock) (by : clock.thread.0 ≡ 10000 + opening.looper) (e : DeskEvent) (told : e ≡ came_event (begun_seen x) c) (new : List EntryData) (grown : new ≡ entries ++ entry_after entries clock e (Some x.item.value) ∷ []) where
    pub now_stands : IsHistory opening new s
    now_stands = ended_stands opening entries clock (begun_seen x) x.task s c e new stands over by told grown

    abbrev left : DeskData
    left = record { opening = opening; state = s; entries = new; begun = None }

    pub now_ended : left ≡ ended d clock
    now_ended =
        ap (λ (l : List EntryData). record { opening = opening; state = s; entries = l; begun = None })
        (grown ∙ ap (λ (k : DeskEvent). entries ++ entry_after entries clock k (Some x.item.value) ∷ []) (told ∙ sym event_is))
        ∙ ap (λ (z : DeskData). ended z clock) seen

    pub now_made : (m : Made) → m ≡ made_of c → m ≡ made_by d.begun
    now_made m is = is ∙ sym (ap made_in came_is) ∙ ap (λ (z : DeskData). made_by z.begun) seen

    pub now_dispatched : (clock' : Clock) (m : Made) → m ≡ made_of c → clock' ≡ clock_after here clock → IfSome d.begun (EndsDispatch clock clock' d left m)
    now_dispatched clock' m is clocked =
        let came = dispatched_so opening entries (begun_seen x) x.task s c stands over in
        let all : EndsDispatch clock clock' here left m (begun_seen x) =
        record {
          history = stands.history;
          position_is = stands.position;
          words = c.words;
          quit = c.quit;
          dispatch = came.dispatch;
          heard_are = came.heard_are;
          asked_are = came.asked_are;
          reply = c.reply;
          told = came.told;
          replies = came.replies;
          grown =
              grown ∙ ap (λ (k : DeskEvent). entries ++ entry_after entries clock k (Some x.item.value) ∷ []) told
              ∙ ap (λ (r : EntryRoute). entries ++ entry_after entries clock (event.Dispatched x.position r c.words c.quit) (Some x.item.value) ∷ []) stands.route;
          goes_on = now_stands;
          clocked = clocked;
          made_is = is;
        } in
        subst (λ (z : DeskData). IfSome z.begun (EndsDispatch clock clock' z left m)) seen all

-- ---- edits
edits_so : (h : HandlersData DeskRow) (e : Edit) (answer : EditAnswer) (new : HandlersData DeskRow) → EditsHandlers h e answer new → is_no_memory answer ≡ false → edit_of h e ≡ record { answer = answer; handlers = new }
edits_so h e answered.Done new is other = is
edits_so h e (answered.Token token) new is other = is
edits_so h e (answered.Refused f) new is other = is
edits_so h e answered.NoMemory new is other = absurd cc

pub no_memory_so : (h : HandlersData DeskRow) (e : Edit) (answer : EditAnswer) (new : HandlersData DeskRow) → EditsHandlers h e answer new → is_no_memory answer ≡ true → (answer ≡ answered.NoMemory) × (new ≡ h)
no_memory_so h e answered.Done new is other = absurd cc
no_memory_so h e (answered.Token token) new is other = absurd cc
no_memory_so h e (answered.Refused f) new is other = absurd cc
no_memory_so h e answered.NoMemory new is other = (refl, is)

pub edited_stands : (opening : DeskState) (entries : List EntryData) (clock : Clock) (s : DeskState) (e : Edit) (answer : EditAnswer) (h : HandlersData DeskRow) (t : DeskState) (new : List EntryData) → IsHistory opening entries s → EditsHandlers s.handlers e answer h → is_no_memory answer ≡ false → t ≡ record s { handlers = h } → new ≡ entries ++ entry_after entries clock (event.Edited e answer) None ∷ [] → IsHistory opening new t
edited_stands opening entries clock s e answer h t new history edits other is grown =
    let so = edits_so s.handlers e answer h edits other in
    subst (λ (l : List EntryData). IsHistory opening l t) (sym grown)
    (history_push opening entries s (entry_after entries clock (event.Edited e answer) None) t history
    (record { by = tt; event = (refl, ap (λ (x : Edited). x.answer) so, is ∙ ap (λ (x : Edited). record s { handlers = x.handlers }) (sym so)) })
    (later clock.time (stamp_in entries)))

told_as : (d : DeskData) (clock : Clock) (e : Edit) (answer : EditAnswer) (d' : DeskData) (clock' : Clock) → is_no_memory answer ≡ false → answer ≡ (edit_of d.state.handlers e).answer → d' ≡ with_entry (record d { state = record d.state { handlers = (edit_of d.state.handlers e).handlers } }) clock (event.Edited e (edit_of d.state.handlers e).answer) None → clock' ≡ clock_after d clock → Edits d clock e answer d' clock'
told_as d clock e answered.Done d' clock' other a is c = (a, is, c)
told_as d clock e (answered.Token token) d' clock' other a is c = (a, is, c)
told_as d clock e (answered.Refused f) d' clock' other a is c = (a, is, c)
told_as d clock e answered.NoMemory d' clock' other a is c = absurd cc

pub edits_told : (d : DeskData) (clock : Clock) (e : Edit) (answer : EditAnswer) (h : HandlersData DeskRow) (d' : DeskData) (clock' : Clock) → EditsHandlers d.state.handlers e answer h → is_no_memory answer ≡ false → d' ≡ with_entry (record d { state = record d.state { handlers = h } }) clock (event.Edited e answer) None → clock' ≡ clock_after d clock → Edits d clock e answer d' clock'
edits_told d clock e answer h d' clock' edits other is c =
    let so = edits_so d.state.handlers e answer h edits other in
    told_as d clock e answer d' clock' other (ap (λ (x : Edited). x.answer) (sym so))
    (is ∙ ap (λ (x : Edited). with_entry (record d { state = record d.state { handlers = x.handlers } }) clock (event.Edited e x.answer) None) (sym so)) c

-- ---- an edit, with the facts of the state shown anew
module _ (opening : DeskState) (entries new : List EntryData) (was : Option Begun) (s : DeskState) (none : was ≡ None) (h : Stands opening entries was s) where
  rests : IsHistory opening entries s
  rests = subst (λ (o : Option Begun). Stands opening entries o s) none h

  pub kept_stands : (e : Edit) (answer : EditAnswer) (hs : HandlersData DeskRow) (numbers : s.first + length s.names ≤ 32) (loopers : length s.names ≤ 8) → EditsHandlers s.handlers e answer hs → is_no_memory answer ≡ true → new ≡ entries → Stands opening new was (record s { handlers = hs; numbers = numbers; some_loopers = loopers })
  kept_stands e answer hs numbers loopers edits without same =
      let state : record s { handlers = hs; numbers = numbers; some_loopers = loopers } ≡ s =
      facts_same s hs numbers loopers ∙ ap (λ (k : HandlersData DeskRow). record s { handlers = k }) (no_memory_so s.handlers e answer hs edits without).1 in
      subst (λ (o : Option Begun). Stands opening new o (record s { handlers = hs; numbers = numbers; some_loopers = loopers })) (sym none)
      (subst (λ (l : List EntryData). IsHistory opening l (record s { handlers = hs; numbers = numbers; some_loopers = loopers })) (sym same)
      (subst (IsHistory opening entries) (sym state) rests))

  pub edit_stands : (clock : Clock) (e : Edit) (answer : EditAnswer) (hs : HandlersData DeskRow) (numbers : s.first + length s.names ≤ 32) (loopers : length s.names ≤ 8) → EditsHandlers s.handlers e answer hs → is_no_memory answer ≡ false → new ≡ entries ++ entry_after entries clock (event.Edited e answer) None ∷ [] → Stands opening new was (record s { handlers = hs; numbers = numbers; some_loopers = loopers })
  edit_stands clock e answer hs numbers loopers edits other grown =
      subst (λ (o : Option Begun). Stands opening new o (record s { handlers = hs; numbers = numbers; some_loopers = loopers })) (sym none)
      (edited_stands opening entries clock s e answer hs (record s { handlers = hs; numbers = numbers; some_loopers = loopers }) new rests edits other (facts_same s hs numbers loopers) grown)

none_as : (d : DeskData) (clock : Clock) (e : Edit) (answer : EditAnswer) (d' : DeskData) → answer ≡ answered.NoMemory → d' ≡ d → Edits d clock e answer d' clock
none_as d clock e answer d' is same = subst (λ (a : EditAnswer). Edits d clock e a d' clock) (sym is) (same, refl)

module _ (d : DeskData) (clock : Clock) (e : Edit) (answer : EditAnswer) (hs : HandlersData DeskRow) (numbers : d.state.first + length d.state.names ≤ 32) (loopers : length d.state.names ≤ 8) (entries : List EntryData) (edits : EditsHandlers d.state.handlers e answer hs) where
  pub none_told : is_no_memory answer ≡ true → entries ≡ d.entries → Edits d clock e answer (record d { state = record d.state { handlers = hs; numbers = numbers; some_loopers = loopers }; entries = entries }) clock
  none_told without same =
      let so = no_memory_so d.state.handlers e answer hs edits without in
      let state : record d.state { handlers = hs; numbers = numbers; some_loopers = loopers } ≡ d.state =
      facts_same d.state hs numbers loopers ∙ ap (λ (k : HandlersData DeskRow). record d.state { handlers = k }) so.1 in
      none_as d clock e answer (record d { state = record d.state { handlers = hs; numbers = numbers; some_loopers = loopers }; entries = entries }) so.0
      (ap (λ (t : DeskState). record d { state = t; entries = entries }) state ∙ ap (λ (l : List EntryData). record d { entries = l }) same)

  pub edit_told : (clock' : Clock) → is_no_memory answer ≡ false → entries ≡ d.entries ++ entry_after d.entries clock (event.Edited e answer) None ∷ [] → clock' ≡ clock_after d clock → Edits d clock e answer (record d { state = record d.state { handlers = hs; numbers = numbers; some_loopers = loopers }; entries = entries }) clock'
  edit_told clock' other grown is =
      edits_told d clock e answer hs (record d { state = record d.state { handlers = hs; numbers = numbers; some_loopers = loopers }; entries = entries }) clock' edits other
      (ap (λ (t : DeskState). record d { state = t; entries = entries }) (facts_same d.state hs numbers loopers)
      ∙ ap (λ (l : List EntryData). record d { state = record d.state { handlers = hs }; entries = l }) grown) is

-- of the desk as it is seen
module _ (d seen : DeskData) (same : seen ≡ d) (clock : Clock) (e : Edit) (answer : EditAnswer) (hs : HandlersData DeskRow) (numbers : seen.state.first + length seen.state.names ≤ 32) (loopers : length seen.state.names ≤ 8) (entries : List EntryData) (edits : EditsHandlers seen.state.handlers e answer hs) where
  pub none_told_of : is_no_memory answer ≡ true → entries ≡ seen.entries → Edits d clock e answer (record seen { state = record seen.state { handlers = hs; numbers = numbers; some_loopers = loopers }; entries = entries }) clock
  none_told_of without kept =
      subst (λ (x : DeskData). Edits x clock e answer (record seen { state = record seen.state { handlers = hs; numbers = numbers; some_loopers = loopers }; entries = entries }) clock) same
      (none_told seen clock e answer hs numbers loopers entries edits without kept)

  pub edit_told_of : (clock' : Clock) → is_no_memory answer ≡ false → entries ≡ seen.entries ++ entry_after seen.entries clock (event.Edited e answer) None ∷ [] → clock' ≡ clock_after seen clock → Edits d clock e answer (record seen { state = record seen.state { handlers = hs; numbers = numbers; some_loopers = loopers }; entries = entries }) clock'
  edit_told_of clock' other grown is =
      subst (λ (x : DeskData). Edits x clock e answer (record seen { state = record seen.state { handlers = hs; numbers = numbers; some_loopers = loopers }; entries = entries }) clock') same
      (edit_told seen clock e answer hs numbers loopers entries edits clock' other grown is)

-- ---- at rest
-- nothing is begun inside
pub none_inside : (o : Option Begun) → option_map begun_seen o ≡ None → o ≡ None
none_inside None e = refl
none_inside (Some x) e = absurd cc

pub history_at_rest : (opening : DeskState) (entries : List EntryData) (o : Option Begun) (s : DeskState) (d : DeskData) → record { opening = opening; state = s; entries = entries; begun = option_map begun_seen o } ≡ d → Stands opening entries o s → d.begun ≡ None → IsHistory d.opening d.entries d.state
history_at_rest opening entries o s d same h none =
    let inside : o ≡ None = none_inside o (ap (λ (x : DeskData). x.begun) same ∙ none) in
    let rests : IsHistory opening entries s = subst (λ (p : Option Begun). Stands opening entries p s) inside h in
    subst (λ (x : DeskData). IsHistory x.opening x.entries x.state) same rests

-- ---- what an edit adds
added_by : (d : DeskData) (clock : Clock) (e : Edit) (answer : EditAnswer) (d' : DeskData) (clock' : Clock) → answer ≡ (edit_of d.state.handlers e).answer → d' ≡ edited_to d clock e (edit_of d.state.handlers e) → clock' ≡ clock_after d clock → HasAdded (Some (event.Edited e answer)) clock clock' d d'
added_by d clock e answer d' clock' is same c = (
  (
    ap (λ (x : DeskData). x.opening) same,
    ap (λ (x : DeskData). x.entries) same ∙ ap (λ (a : EditAnswer). d.entries ++ entry_after d.entries clock (event.Edited e a) None ∷ []) (sym is),
    ap (λ (x : DeskData). x.begun) same,
  ),
  c,
)

pub edits_add : (d : DeskData) (clock : Clock) (e : Edit) (answer : EditAnswer) (d' : DeskData) (clock' : Clock) → Edits d clock e answer d' clock' → HasAdded (edit_entry e answer) clock clock' d d'
edits_add d clock e answered.NoMemory d' clock' h = h
edits_add d clock e answered.Done d' clock' h = added_by d clock e answered.Done d' clock' h.0 h.1 h.2
edits_add d clock e (answered.Token token) d' clock' h = added_by d clock e (answered.Token token) d' clock' h.0 h.1 h.2
edits_add d clock e (answered.Refused f) d' clock' h = added_by d clock e (answered.Refused f) d' clock' h.0 h.1 h.2
