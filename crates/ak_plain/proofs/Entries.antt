-- Each entry of a run is plain: those of the roster and of desks by the threads that made them, those of desks by their machine too, and those of the
-- book by their texts.
use Rattle.std.proofs.Common.{◌≡◌, ◌<◌, ℕ, zero, suc, ◌+◌, ◌==◌, Bool, true, false, cond, List, [], ◌∷◌, ◌++◌, map, length, All, Some, option_map, unwrap_or, slice_get, get_or, refl, sym, ap, subst, ◌∙◌, arith, eq-eqb}
use Rattle.std.specs.List.{AllByRecursion}
use Rattle.std.proofs.lemmas.List.Elements.{All-append, All-cons, All-head, All-map, All-nil, All-tail, recursion_from_All}
use Rattle.ak_turn.specs.Entries.{made_by}
use Rattle.ak_turn.specs.Noted.{Noted, entry_of, noted}
use Rattle.ak_turn.proofs.Surface.{noted_is_made}
use Rattle.ak_roster.specs.declared.entry.RosterEntry.{RosterEntry}
use Rattle.ak_port.specs.declared.port_entry.PortEntry.{PortEntry}
use Rattle.ak_port.specs.declared.reply_entry.ReplyEntry.{ReplyEntry}
use Rattle.ak_port.specs.declared.reply_entry.ReplyEvent.{ReplyEvent}
use Rattle.ak_port.specs.declared.reply_entry.ReplyEvent.TheVariants as book
use Rattle.ak_port.specs.PortCalls.{PortData}
use Rattle.ak_port.specs.Reply.{HasFlatText}
use Rattle.ak_action.specs.Laws.{TwoWordsAnAction}
use Rattle.ak_action.specs.Opening.{Opens}
use Rattle.ak_describe.specs.Whole.{heads_of, looper_names}
use Rattle.ak_describe.specs.declared.described.AppText.{AppText}
use Rattle.ak_desk.specs.declared.entry.DeskEvent.{DeskEvent}
use Rattle.ak_desk.specs.declared.entry.DeskEvent.TheVariants as desk_event
use Rattle.ak_desk.specs.Desk.{DeskData}
use Rattle.ak_desk.specs.Entry.{EntryData}
use Rattle.ak_diary.specs.declared.histories.Histories.{Histories}
use Rattle.ak_diary.specs.Histories.{IsDeskBook}
use Rattle.ak_diary.specs.Step.{Step, at_roster, at_book, at_port, at_desk, saw_roster, saw_book, saw_port, lacked, desk_entries, roster_entries}
use Rattle.ak_headline.specs.Run.{ActsIn, IsRunWith, desk_list, desk_maker, roster_maker}
use Rattle.ak_journal.specs.declared.entry.Entry.{Entry}
use Rattle.ak_journal.specs.declared.entry.ObjectName.TheVariants as object
use Rattle.ak_run.specs.Opened.{WasOpened, WereOpened}
use Rattle.ak_script.specs.declared.statement.Statement.{Statement}
use Rattle.ak_lines.specs.declared.outcome.Outcome.{Outcome}
use Rattle.ak_print.specs.declared.told.Told.{Told}
use Rattle.ak_play.specs.Parts.{all_sessions}
use Rattle.ak_play.specs.Play.{HasPlayed, cut_sessions}
use Rattle.ak_world.specs.Merged as world
use Rattle.ak_world.specs.Merged.{each_from, entries_of}
use Rattle.ak_plain.specs.Laws.{EntriesArePlain}
use Rattle.ak_journal.specs.Plain.{IsPlain, IsPlainBook, IsPlainDesk, IsPlainRoster}
use Rattle.ak_plain.proofs.Said.{AreNamedApps, AreSaid, HasFlatTexts, IsSaid, all_said, named_apps}
use Rattle.ak_plain.proofs.Steps.{IsAsked, IsPlainStep, IsTold}
use Rattle.ak_plain.proofs.Lines.{got, got_there}
use Rattle.ak_plain.proofs.Mains.{stopped_so_plain}
use Rattle.ak_plain.proofs.Replaying.{desk_tells}
use Rattle.ak_plain.proofs.Sides.{ArePlain}
use Rattle.ak_plain.proofs.Threads.{ActsPlain, plan_named, thread_acts}

-- ---- entries by their makers
module _ {L : Type 0} (by : L → ℕ) (P : L → Type 0) (Acts : ℕ → Type 0) where
  rest_if : (b : Bool) (x : L) (xs : List L) → All P (cond b (x ∷ xs) xs) → All P xs
  rest_if true x xs all = All-tail P x xs all
  rest_if false x xs all = all

  -- what is so of all that each thread made is so of all
  all_by_makers : (xs : List L) → All (λ (x : L). Acts (by x)) xs → ((thread : ℕ) → Acts thread → All P (made_by by thread xs)) → All P xs
  all_by_makers [] makers each = All-nil P
  all_by_makers (x ∷ xs) makers each =
      let own = All-head (λ (y : L). Acts (by y)) x xs makers in
      let others = made_by by (by x) xs in
      All-cons P x xs
      (All-head P x others (subst (λ b. All P (cond b (x ∷ others) others)) (eq-eqb (by x) (by x) refl) (each (by x) own)))
      (all_by_makers xs (All-tail (λ (y : L). Acts (by y)) x xs makers) (λ thread acts. rest_if (by x == thread) x (made_by by thread xs) (each thread acts)))

  all_noted : (thread : ℕ) (xs : List L) (ns : List (Noted L)) → noted by thread xs ≡ ns → All P (map entry_of ns) → All P (made_by by thread xs)
  all_noted thread xs ns are all = subst (All P) (sym (ap (map entry_of) are) ∙ noted_is_made by thread xs) all

abbrev IsPlainRosterEntry : RosterEntry → Type 0
IsPlainRosterEntry entry = IsPlainRoster entry.event

abbrev IsAskedEntry : EntryData → Type 0
IsAskedEntry entry = IsAsked entry.plain.event

-- what plain steps made at the roster and at a desk
roster_made : (steps : List Step) → AllByRecursion IsPlainStep steps → All IsPlainRosterEntry (map entry_of (roster_entries steps))
roster_made [] plain = All-nil IsPlainRosterEntry
roster_made (at_roster n ∷ steps) plain = All-cons IsPlainRosterEntry n.entry (map entry_of (roster_entries steps)) plain.0 (roster_made steps plain.1)
roster_made (at_book n ∷ steps) plain = roster_made steps plain.1
roster_made (at_port looper n ∷ steps) plain = roster_made steps plain.1
roster_made (at_desk looper n ∷ steps) plain = roster_made steps plain.1
roster_made (saw_roster seen ∷ steps) plain = roster_made steps plain.1
roster_made (saw_book seen ∷ steps) plain = roster_made steps plain.1
roster_made (saw_port looper seen ∷ steps) plain = roster_made steps plain.1
roster_made (lacked ∷ steps) plain = roster_made steps plain.1

one_made : (b : Bool) (n : Noted EntryData) (ns : List (Noted EntryData)) → IsAskedEntry n.entry → All IsAskedEntry (map entry_of ns) → All IsAskedEntry (map entry_of (cond b (n ∷ []) [] ++ ns))
one_made true n ns p all = All-cons IsAskedEntry n.entry (map entry_of ns) p all
one_made false n ns p all = all

desk_made : (looper : ℕ) (steps : List Step) → AllByRecursion IsPlainStep steps → All IsAskedEntry (map entry_of (desk_entries looper steps))
desk_made looper [] plain = All-nil IsAskedEntry
desk_made looper (at_roster n ∷ steps) plain = desk_made looper steps plain.1
desk_made looper (at_book n ∷ steps) plain = desk_made looper steps plain.1
desk_made looper (at_port number n ∷ steps) plain = desk_made looper steps plain.1
desk_made looper (at_desk number n ∷ steps) plain = one_made (number == looper) n (desk_entries looper steps) plain.0 (desk_made looper steps plain.1)
desk_made looper (saw_roster seen ∷ steps) plain = desk_made looper steps plain.1
desk_made looper (saw_book seen ∷ steps) plain = desk_made looper steps plain.1
desk_made looper (saw_port number seen ∷ steps) plain = desk_made looper steps plain.1
desk_made looper (lacked ∷ steps) plain = desk_made looper steps plain.1

-- ---- by object
book_plain : (e : ReplyEvent) → HasFlatText e → IsPlainBook e
book_plain (book.Opened n) h = tt
book_plain (book.Filled n flat) h = h
book_plain (book.Cancelled n) h = tt
book_plain (book.Taken n) h = tt

desk_plain : (e : DeskEvent) → IsAsked e → IsTold e → IsPlainDesk e
desk_plain (desk_event.Dispatched position where_to answers quit) asked told = told
desk_plain (desk_event.Edited edit answer) asked told = (asked, told)

module _ {T : Type 0} (list : ℕ → T → List Entry) where
  each_plain : (number : ℕ) (things : List T) → ((place : ℕ) (thing : T) → slice_get things place ≡ Some thing → All IsPlain (list (place + number) thing)) → All IsPlain (each_from list number things)
  each_plain number [] each = All-nil IsPlain
  each_plain number (thing ∷ things) each =
      All-append IsPlain (list number thing) (each_from list (suc number) things)
      (let here : 0 + number ≡ number = omega arith in subst (λ n. All IsPlain (list n thing)) here (each 0 thing refl))
      (each_plain (suc number) things (λ place other at. let here : suc place + number ≡ place + suc number = omega arith in subst (λ n. All IsPlain (list n other)) here (each (suc place) other at)))

port_plain : (number : ℕ) (port : PortData) → All IsPlain (world.port_entries number port)
port_plain number port = All-map IsPlain (λ (entry : PortEntry). world.port_entry (object.Port number) entry) port.entries (λ i d lt. record { done = tt })

within : {X : Type 0} (xs : List X) (place : ℕ) (x : X) → slice_get xs place ≡ Some x → place < length xs
within [] place x at = absurd cc
within (y ∷ xs) zero x at = omega arith
within (y ∷ xs) (suc place) x at = omega (arith, within xs place x at)

-- ---- the run
module _ (apps : List AppText) (statements : List Statement) (outcomes : List Outcome) (tolds : List Told) (sessions_short short : List ℕ) (h : Histories) (two : TwoWordsAnAction) (named : AreNamedApps apps) (said : AreSaid statements) (texts : HasFlatTexts h) (opened : WereOpened apps h) (played : HasPlayed apps statements outcomes tolds sessions_short h) (stops : ArePlain played.stopped) (run : IsRunWith (all_sessions played.parts + cut_sessions played.cut) (heads_of apps) short h) where
  abbrev Acts : ℕ → Type 0
  Acts thread = ActsIn h (all_sessions played.parts + cut_sessions played.cut) thread

  acts : (thread : ℕ) → Acts thread → ActsPlain h thread
  acts thread is = thread_acts apps statements outcomes tolds sessions_short short h two named said opened played stops run thread is

  roster_plain : All IsPlainRosterEntry h.roster.items
  roster_plain =
      all_by_makers roster_maker IsPlainRosterEntry Acts h.roster.items run.roster_makers
      (λ thread is. let a = acts thread is in all_noted roster_maker IsPlainRosterEntry Acts thread h.roster.items (roster_entries a.steps) a.done.at_roster (roster_made a.steps (recursion_from_All IsPlainStep a.steps a.plain)))

  desk_asked : (looper : ℕ) → All IsAskedEntry (desk_list h looper)
  desk_asked looper =
      all_by_makers desk_maker IsAskedEntry Acts (desk_list h looper) (run.desk_makers looper)
      (λ thread is. let a = acts thread is in all_noted desk_maker IsAskedEntry Acts thread (desk_list h looper) (desk_entries looper a.steps) (a.done.at_desks looper) (desk_made looper a.steps (recursion_from_All IsPlainStep a.steps a.plain)))

  desk_told : (looper : ℕ) (desk : DeskData) → slice_get h.desks.items looper ≡ Some desk → All (λ (entry : EntryData). IsTold entry.plain.event) desk.entries
  desk_told looper desk at =
      let less = within h.desks.items looper desk at in
      let as_many = run.histories.each in
      let w : WasOpened apps h looper = opened looper (omega (arith, less, as_many)) in
      let both_are : Some w.desk ≡ Some desk = sym w.desk_is ∙ at in
      let same : w.desk ≡ desk = cc both_are in
      let opens : Opens w.plan looper w.team w.first (looper_names w.app) desk.opening = subst (λ (d : DeskData). Opens w.plan looper w.team w.first (looper_names w.app) d.opening) same w.opens in
      desk_tells two w.plan looper w.team w.first (looper_names w.app) desk.opening desk.entries opens (plan_named apps h named looper w)
      (got IsDeskBook h.desks.items looper desk (recursion_from_All IsDeskBook h.desks.items run.histories.desks) at)

  desk_entries_plain : (looper : ℕ) (desk : DeskData) → slice_get h.desks.items looper ≡ Some desk → All IsPlain (world.desk_entries looper desk)
  desk_entries_plain looper desk at =
      let asked : All IsAskedEntry desk.entries = subst (λ o. All IsAskedEntry (unwrap_or (option_map (λ (d : DeskData). d.entries) o) [])) at (desk_asked looper) in
      let told = desk_told looper desk at in
      All-map IsPlain (λ (entry : EntryData). world.desk_entry (object.Desk looper) entry.plain) desk.entries
      (λ i d lt. record { done = desk_plain (get_or desk.entries i d).plain.event (asked i d lt) (told i d lt) })

  pub run_plain : All IsPlain (entries_of h)
  run_plain =
      let roster = map world.roster_entry h.roster.items in
      let replies = map (λ (entry : ReplyEntry). world.book_entry object.Book entry) h.book in
      let ports = each_from world.port_entries 0 h.ports.items in
      let desks = each_from world.desk_entries 0 h.desks.items in
      All-append IsPlain roster (replies ++ (ports ++ desks))
      (All-map IsPlain world.roster_entry h.roster.items (λ i d lt. record { done = roster_plain i d lt }))
      (All-append IsPlain replies (ports ++ desks)
      (All-map IsPlain (λ (entry : ReplyEntry). world.book_entry object.Book entry) h.book (λ i d lt. record { done = book_plain (get_or h.book i d).event (texts i d lt) }))
      (All-append IsPlain ports desks
      (each_plain world.port_entries 0 h.ports.items (λ place port at. port_plain (place + 0) port))
      (each_plain world.desk_entries 0 h.desks.items
      (λ place desk at. let here : place ≡ place + 0 = omega arith in subst (λ n. All IsPlain (world.desk_entries n desk)) here (desk_entries_plain place desk at)))))

pub entries_are_plain_holds : TwoWordsAnAction → EntriesArePlain
entries_are_plain_holds two apps statements end run old new faults faults' calls calls' whole opened play =
    let played = play.played in
    let said = all_said statements in
    let place = length played.parts in
    let next = got_there IsSaid statements place (recursion_from_All IsSaid statements said) in
    run_plain apps statements run.outcomes run.tolds run.short.sessions run.short.loopers run.histories two (named_apps apps whole) said play.run_of.histories.texts opened played
    (stopped_so_plain apps (slice_get statements place) played.cut end played.stopped next play.stopped_so) play.run_of
