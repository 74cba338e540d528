-- Entry after entry, the worlds go on: each thread's next entry is what its diary has next, and its looper's work goes on with it.
use Rattle.std.proofs.Common.{◌≡◌, ◌≢◌, ◌∙◌, ℕ, List, [], ◌∷◌, ◌++◌, filter, All, None, refl, sym, ap, subst, eq-eqb, ne_eqb}
use Rattle.std.proofs.lemmas.List.Elements.{All-head, All-tail}
use mathlib.Core.Logic.{dite}
use native.Mathlib.Decide.{ℕ_discrete}
use Rattle.ak_base.specs.Thread.{looper_thread}
use Rattle.ak_turn.specs.Noted.{Noted, note}
use Rattle.ak_roster.specs.declared.head.AppHead.{AppHead}
use Rattle.ak_port.specs.declared.port_entry.PortEntry.{PortEntry}
use Rattle.ak_port.specs.PortCalls as port_calls
use Rattle.ak_action.specs.declared.state.DeskState.{DeskState}
use Rattle.ak_desk.specs.Entry.{EntryData}
use Rattle.ak_desk.specs.Laws.{StateIsOne}
use Rattle.ak_desk.specs.Machine.{IsHistory, Replays}
use Rattle.ak_diary.specs.declared.histories.Histories.{Histories}
use Rattle.ak_diary.specs.Step.{Step, desk_entries, desk_entry, port_entries, port_entry}
use Rattle.ak_headline.specs.Run.{desk_maker}
use Rattle.ak_journal.specs.declared.entry.Entry.{Entry}
use Rattle.ak_sequence.specs.Laws.{is_by}
use Rattle.ak_sequence.specs.Places.{IsSound}
use Rattle.ak_sequence.specs.Worlds.{AreLeft, StepsKeepSound}
use Rattle.ak_world.specs.Merged.{thread_of}
use Rattle.ak_world.specs.World.{World, WorldRun, WorldStep, put}
use Rattle.ak_sequence.proofs.AtTheBook.{book_went}
use Rattle.ak_sequence.proofs.AtTheDesk.{desk_went}
use Rattle.ak_sequence.proofs.AtThePort.{port_went}
use Rattle.ak_sequence.proofs.Doing.{Does, DoesAtDesk, DoesAtPort}
use Rattle.ak_sequence.proofs.Ending.{Ends, all_left, book_ends, desk_ends, port_ends, roster_ends}
use Rattle.ak_sequence.proofs.Nexts.{Elsewhere, NextOf, book_next, desk_next, next_of, port_next, roster_next}
use Rattle.ak_sequence.proofs.ItsItem.{item_of}
use Rattle.ak_sequence.proofs.Kept.{first_kept, first_left}
use Rattle.ak_sequence.proofs.Passing.{Passes, PassesBook, PassesDesk, PassesOne, PassesPort, PassesRoster, Rests, book_step, book_then, desk_step, desk_then, passes_book, passes_desk, passes_port, passes_roster, port_step, port_then, roster_step, roster_then}
use Rattle.ak_sequence.proofs.Standing.{Stands, roster_went}
use Rattle.ak_sequence.proofs.Tying.{Dones, Leads, Notes, Tie, desk_done, desk_leads, entry_elsewhere, entry_here, notes_other, notes_own, port_done, port_leads}

-- one thread is tied anew, and each other stays tied
module _ (short : List ℕ) (openings : ℕ → DeskState) (w : World) (r : Rests) (done : Dones) (es : List Entry) (Acts : ℕ → Type 0) where
  abbrev pub Ties : Type 0
  Ties = (thread : ℕ) → Acts thread → Tie short openings w r done thread es

  each_tied : (thread : ℕ) → Tie short openings w r done thread es → ((other : ℕ) → other ≢ thread → Acts other → Tie short openings w r done other es) → Ties
  each_tied thread own others other acts =
      dite (ℕ_discrete other thread)
      (λ (e : other ≡ thread). subst (λ (n : ℕ). Tie short openings w r done n es) (sym e) own)
      (λ (ne : other ≢ thread). others other ne acts)

module _ (heads : List AppHead) (short : List ℕ) (openings : ℕ → DeskState) (h : Histories) (Acts : ℕ → Type 0) (own_desk : (looper : ℕ) → Acts (looper_thread looper) → (openings looper).looper ≡ looper) (one : StateIsOne) (keep : StepsKeepSound) where
  abbrev ByActing : Entry → Type 0
  ByActing e = Acts (thread_of e)

  abbrev pub Walks : List Entry → Type 0
  Walks es =
      (w : World) (r : Rests) (done : Dones) → IsSound w → Passes heads w.objects r es → All ByActing es → Ties short openings w r done es Acts → Leads openings w.objects done
      → Ends heads openings h w.objects r → (last : World) × AreLeft heads openings h last.objects × WorldRun heads short w es last

  module _ (e : Entry) (es : List Entry) (walks : Walks es) (w : World) (r : Rests) (done : Dones) (sound : IsSound w) (acting : All ByActing (e ∷ es)) (ties : Ties short openings w r done (e ∷ es) Acts)
      (leads : Leads openings w.objects done) (ends : Ends heads openings h w.objects r) where
    abbrev Walked : Type 0
    Walked = (last : World) × AreLeft heads openings h last.objects × WorldRun heads short w (e ∷ es) last

    -- ---- the thread whose entry it is
    module _ (thread : ℕ) (by : thread_of e ≡ thread) where
      acts : Acts thread
      acts = subst Acts by (All-head ByActing e es acting)

      tie : Tie short openings w r done thread (e ∷ es)
      tie = ties thread acts

      abbrev Next : Type 0
      Next = NextOf short openings thread e (filter (is_by thread) es) tie.last tie.doing tie.steps

      next : Next
      next = next_of short openings thread e (filter (is_by thread) es) tie.last tie.steps tie.doing (sym (first_kept (is_by thread) e es (eq-eqb (thread_of e) thread by)) ∙ tie.own) tie.does

      module _ (w' : World) (r' : Rests) (done' : Dones) where
        own_tie : Notes port_calls.by_number thread done'.ports r'.ports (λ (looper : ℕ). port_entries looper next.more) → Notes desk_maker thread done'.desks r'.desks (λ (looper : ℕ). desk_entries looper next.more)
            → Stands w' thread next.between → Tie short openings w' r' done' thread es
        own_tie at_ports at_desks stands = record { steps = next.more; doing = next.between; last = tie.last; own = next.rest_is; ports = at_ports; desks = at_desks; does = next.does_all; stands = stands }

        other_tie : (other : ℕ) → other ≢ thread → (was : Tie short openings w r done other (e ∷ es))
            → Notes port_calls.by_number other done'.ports r'.ports (λ (looper : ℕ). port_entries looper was.steps) → Notes desk_maker other done'.desks r'.desks (λ (looper : ℕ). desk_entries looper was.steps)
            → Stands w' other was.doing → Tie short openings w' r' done' other es
        other_tie other ne was at_ports at_desks stands = record {
          steps = was.steps;
          doing = was.doing;
          last = was.last;
          own = sym (first_left (is_by other) e es (ne_eqb (thread_of e) other (λ same. ne (sym same ∙ by)))) ∙ was.own;
          ports = at_ports;
          desks = at_desks;
          does = was.does;
          stands = stands;
        }

        -- the rest goes on so
        walked : WorldStep heads short w e w' → Passes heads w'.objects r' es → Leads openings w'.objects done' → Ends heads openings h w'.objects r' → Tie short openings w' r' done' thread es
            → ((other : ℕ) → other ≢ thread → Acts other → Tie short openings w' r' done' other es) → Walked
        walked step passes leads' ends' own others =
            let rest = walks w' r' done' (keep heads short w e w' step sound) passes (All-tail ByActing e es acting) (each_tied short openings w' r' done' es Acts thread own others) leads' ends' in
            (rest.0, rest.1, (w', step, rest.2))

      -- at the roster and at the reply book, nothing is noted of ports and of desks
      module _ (elsewhere : Elsewhere short openings thread tie.doing next.between next.step) where
        still_ports : Notes port_calls.by_number thread done.ports r.ports (λ (looper : ℕ). port_entries looper next.more)
        still_ports looper = tie.ports looper ∙ next.ports looper ∙ ap (λ l. l ++ port_entries looper next.more) (elsewhere.no_port looper)

        still_desks : Notes desk_maker thread done.desks r.desks (λ (looper : ℕ). desk_entries looper next.more)
        still_desks looper = tie.desks looper ∙ next.desks looper ∙ ap (λ l. l ++ desk_entries looper next.more) (elsewhere.no_desk looper)

    at_the_roster : PassesRoster heads w.objects r e (λ o' r'. Passes heads o' r' es) → Walked
    at_the_roster p =
        let thread = p.x.by.0 in
        let by : thread_of e ≡ thread = ap thread_of p.is in
        let mine = tie thread by in
        let ahead = next thread by in
        let did = roster_next short openings thread mine.doing ahead.between p.x ahead.step (ahead.entry_is ∙ ap (λ (z : Entry). z ∷ []) p.is) ahead.does in
        let went = roster_went short heads w thread mine.doing ahead.between mine.stands p.x did.1 in
        let w' : World = record { objects = roster_then heads w.objects p.x; works = went.works } in
        let r' : Rests = record r { roster = p.more } in
        let step : WorldStep heads short w e w' = subst (λ (z : Entry). WorldStep heads short w z w') (sym p.is) (record { item = None; object = roster_step heads w.objects p.x p.may p.step; works = went.does }) in
        walked thread by w' r' done step p.behind (record { ports = leads.ports; desks = leads.desks }) (roster_ends heads openings h w.objects r ends p.x p.more p.there)
        (own_tie thread by w' r' done (still_ports thread by did.0) (still_desks thread by did.0) went.own)
        (λ other ne acts. let was = ties other acts in other_tie thread by w' r' done other ne was was.ports was.desks (went.others other ne was.doing was.stands))

    at_the_book : PassesBook heads w.objects r e (λ o' r'. Passes heads o' r' es) → Walked
    at_the_book p =
        let thread = p.x.by.0 in
        let by : thread_of e ≡ thread = ap thread_of p.is in
        let mine = tie thread by in
        let ahead = next thread by in
        let did = book_next short openings thread mine.doing ahead.between p.x ahead.step (ahead.entry_is ∙ ap (λ (z : Entry). z ∷ []) p.is) ahead.does in
        let went = book_went short openings w sound thread mine.doing ahead.between mine.stands p.x.event p.step did.1 in
        let w' : World = record { objects = book_then w.objects p.x; works = went.works } in
        let r' : Rests = record r { book = p.more } in
        let step : WorldStep heads short w e w' = subst (λ (z : Entry). WorldStep heads short w z w') (sym p.is) (record { item = None; object = book_step heads w.objects p.x p.may p.step; works = went.does }) in
        walked thread by w' r' done step p.behind (record { ports = leads.ports; desks = leads.desks }) (book_ends heads openings h w.objects r ends p.x p.more p.there)
        (own_tie thread by w' r' done (still_ports thread by did.0) (still_desks thread by did.0) went.own)
        (λ other ne acts. let was = ties other acts in other_tie thread by w' r' done other ne was was.ports was.desks (went.others other ne was.doing was.stands))

    at_the_port : PassesPort heads w.objects r e (λ o' r'. Passes heads o' r' es) → Walked
    at_the_port p =
        let number = p.number in
        let thread = p.x.by.0 in
        let by : thread_of e ≡ thread = ap thread_of p.is in
        let mine = tie thread by in
        let ahead = next thread by in
        let found = port_next number p.x ahead.step (ahead.entry_is ∙ ap (λ (z : Entry). z ∷ []) p.is) in
        let n = found.0 in
        let later : ℕ → List (Noted PortEntry) = λ looper. port_entries looper ahead.more in
        let noted = notes_own port_calls.by_number thread number done.ports r.ports p.x p.more p.there refl (λ (looper : ℕ). port_entries looper mine.steps) later n mine.ports
        (ahead.ports number ∙ ap (λ (s : Step). port_entry number s ++ later number) found.1 ∙ entry_here n number (later number))
        (λ looper apart. ahead.ports looper ∙ ap (λ (s : Step). port_entry looper s ++ later looper) found.1 ∙ entry_elsewhere n number looper (later looper) apart) in
        let still : Notes desk_maker thread done.desks r.desks (λ (looper : ℕ). desk_entries looper ahead.more) = λ looper.
        mine.desks looper ∙ ahead.desks looper ∙ ap (λ (s : Step). desk_entry looper s ++ desk_entries looper ahead.more) found.1 in
        let does : DoesAtPort short openings thread mine.doing number (done.ports number) p.x.event ahead.between =
        subst (λ (m : Noted PortEntry). DoesAtPort short openings thread mine.doing number m.before m.entry.event ahead.between) noted.is
        (subst (λ (s : Step). Does short openings thread mine.doing s ahead.between) found.1 ahead.does) in
        let went = port_went short openings w sound thread mine.doing ahead.between mine.stands number (done.ports number) (leads.ports number) p.x.event does in
        let w' : World = record { objects = port_then w.objects number p.x; works = went.works } in
        let r' : Rests = record r { ports = put number p.more r.ports } in
        let done' : Dones = port_done openings w.objects done leads number p.x in
        let step : WorldStep heads short w e w' = subst (λ (z : Entry). WorldStep heads short w z w') (sym p.is) (record { item = None; object = port_step heads w.objects number p.x p.may p.step; works = went.does }) in
        walked thread by w' r' done' step p.behind (port_leads openings w.objects done leads number p.x) (port_ends heads openings h w.objects r ends number p.x p.more p.there)
        (own_tie thread by w' r' done' noted.notes still went.own)
        (λ other ne acts. let was = ties other acts in
        other_tie thread by w' r' done' other ne was (notes_other port_calls.by_number other number done.ports r.ports p.x p.more p.there (λ same. ne (sym same)) (λ (looper : ℕ). port_entries looper was.steps) was.ports) was.desks
        (went.others other ne was.doing was.stands))

    at_the_desk : PassesDesk heads w.objects r e (λ o' r'. Passes heads o' r' es) → Walked
    at_the_desk p =
        let number = p.number in
        let thread = p.x.plain.by.0 in
        let by : thread_of e ≡ thread = ap thread_of p.is in
        let mine = tie thread by in
        let ahead = next thread by in
        let found = desk_next number p.x ahead.step (ahead.entry_is ∙ ap (λ (z : Entry). z ∷ []) p.is) in
        let n = found.0 in
        let later : ℕ → List (Noted EntryData) = λ looper. desk_entries looper ahead.more in
        let noted = notes_own desk_maker thread number done.desks r.desks p.x p.more p.there refl (λ (looper : ℕ). desk_entries looper mine.steps) later n mine.desks
        (ahead.desks number ∙ ap (λ (s : Step). desk_entry number s ++ later number) found.1 ∙ entry_here n number (later number))
        (λ looper apart. ahead.desks looper ∙ ap (λ (s : Step). desk_entry looper s ++ later looper) found.1 ∙ entry_elsewhere n number looper (later looper) apart) in
        let still : Notes port_calls.by_number thread done.ports r.ports (λ (looper : ℕ). port_entries looper ahead.more) = λ looper.
        mine.ports looper ∙ ahead.ports looper ∙ ap (λ (s : Step). port_entry looper s ++ port_entries looper ahead.more) found.1 in
        let does : DoesAtDesk short openings thread mine.doing number p.x.plain.event (note (done.desks number) p.x) ahead.between =
        subst (λ (m : Noted EntryData). DoesAtDesk short openings thread mine.doing number m.entry.plain.event m ahead.between) noted.is
        (subst (λ (s : Step). Does short openings thread mine.doing s ahead.between) found.1 ahead.does) in
        let told : thread ≡ looper_thread number → (meets : DeskState) → IsHistory (openings number) (done.desks number) meets → meets ≡ (w.objects.desks number).state = λ is meets leads_there.
        let same : (openings number).looper ≡ number = own_desk number (subst Acts is (acts thread by)) in
        one number 0 (openings number) (done.desks number) meets (w.objects.desks number).state
        (subst (λ (k : ℕ). Replays k 0 (openings number) (done.desks number) meets) same leads_there.replays) (leads.desks number).replays in
        let went = desk_went short openings w thread mine.doing ahead.between mine.stands number (done.desks number) p.x p.leaves told p.x.plain.event does in
        let w' : World = record { objects = desk_then w.objects number p.x p.leaves; works = went.works } in
        let r' : Rests = record r { desks = put number p.more r.desks } in
        let done' : Dones = desk_done openings w.objects done leads number p.x in
        let step : WorldStep heads short w e w' = subst (λ (z : Entry). WorldStep heads short w z w') (sym p.is) (record { item = p.x.item; object = desk_step heads w.objects number p.x p.leaves p.may p.started (item_of short w sound number p.x.plain.event p.x.item went.works went.does) p.step; works = went.does }) in
        walked thread by w' r' done' step p.behind (desk_leads openings w.objects done leads number p.x p.leaves p.step) (desk_ends heads openings h w.objects r ends number p.x p.more p.leaves p.there p.step)
        (own_tie thread by w' r' done' still noted.notes went.own)
        (λ other ne acts. let was = ties other acts in
        other_tie thread by w' r' done' other ne was was.ports (notes_other desk_maker other number done.desks r.desks p.x p.more p.there (λ same. ne (sym same)) (λ (looper : ℕ). desk_entries looper was.steps) was.desks)
        (went.others other ne was.doing was.stands))

    at_one : PassesOne heads w.objects r e (λ o' r'. Passes heads o' r' es) → Walked
    at_one (passes_roster p) = at_the_roster p
    at_one (passes_book p) = at_the_book p
    at_one (passes_port p) = at_the_port p
    at_one (passes_desk p) = at_the_desk p

  pub all_walk : (es : List Entry) → Walks es
  all_walk [] w r done sound passes acting ties leads ends = (w, all_left heads openings h w.objects r ends passes, refl)
  all_walk (e ∷ es) w r done sound passes acting ties leads ends = at_one e es (all_walk es) w r done sound acting ties leads ends passes
