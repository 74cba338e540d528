-- What main does at one port, at the book for an ask, and at the roster, by what its calls say of its seats.
use Rattle.std.proofs.Common.{◌≡◌, ◌≢◌, ◌⊎◌, eq-eqb, ne_eqb, Bool, cond, ℕ, ◌≤◌, List, [], ◌∷◌, ◌++◌, length, All, Any, Option, None, Some, Result, Ok, Err, true, map, refl, sym, ap, ◌∙◌, subst, append_assoc, append-nil, inl, inr, ⊎_elim, arith}
use Rattle.std.specs.Prelude.{IfSome}
use Rattle.std.proofs.lemmas.List.{map-append}
use Rattle.std.proofs.lemmas.List.Elements.{All-cons, All-head, All-map, All-nil, Contains-push_cases}
use Rattle.ak_base.specs.Thread.{main_thread}
use Rattle.ak_message.specs.declared.address.Address.{Address}
use Rattle.ak_flatten.specs.declared.item.Duty.TheVariants as duty
use Rattle.ak_flatten.specs.Item.{ItemData}
use Rattle.ak_turn.specs.declared.clock.Clock.{Clock}
use Rattle.ak_turn.specs.Entries.{AreByOthers, StartsWith}
use Rattle.ak_turn.specs.Noted.{Noted, note, noted}
use Rattle.ak_turn.proofs.Surface.{noted-others, noted-own, starts_itself}
use Rattle.ak_roster.specs.declared.entry.EntryWithObjects.{EntryWithObjects}
use Rattle.ak_roster.specs.declared.entry.RosterEntry.{RosterEntry}
use Rattle.ak_roster.specs.Roster.{plain_entries}
use Rattle.ak_port.specs.declared.port_entry.CloseAnswer.{CloseAnswer}
use Rattle.ak_port.specs.declared.port_entry.CloseAnswer.TheVariants as closed
use Rattle.ak_port.specs.declared.port_entry.PortEntry.{PortEntry}
use Rattle.ak_port.specs.declared.port_entry.PortEvent.{PortEvent}
use Rattle.ak_port.specs.declared.port_entry.PortEvent.TheVariants as event
use Rattle.ak_port.specs.declared.reply_entry.ReplyEntry.{ReplyEntry}
use Rattle.ak_port.specs.declared.reply_entry.ReplyEvent.{ReplyEvent}
use Rattle.ak_port.specs.declared.reply_entry.ReplyEvent.TheVariants as slot_event
use Rattle.ak_port.specs.PortCalls as at_ports
use Rattle.ak_port.specs.PortCalls.{PortSeat, close_entry}
use Rattle.ak_port.specs.PortMachine.{state_of}
use Rattle.ak_port.specs.Reply.{FillsWith}
use Rattle.ak_port.specs.ReplySeats as at_books
use Rattle.ak_port.specs.ReplySeats.{HasEnteredBook, ReplySeat}
use Rattle.ak_messenger.specs.Asks.{AskTells, HasAsked, HasClosed, HasConversed, HasGivenUp, HasLackedMemory}
use Rattle.ak_messenger.specs.Asks as asking
use Rattle.ak_messenger.specs.declared.asking.Reply.{Reply}
use Rattle.ak_messenger.specs.declared.fault.SendFault.{SendFault}
use Rattle.ak_messenger.specs.declared.fault.SendFault.TheVariants as fault
use Rattle.ak_diary.specs.Step.{Step, at_book, at_port, at_roster, desk_entries, saw_book, saw_port}
use Rattle.ak_diary.specs.Turns.{FindsShut, Shuts}
use Rattle.ak_diary.specs.Wants.{AsksInVain, Cancels, Converses, IsRefusedBy, Withdraws}
use Rattle.ak_diary.specs.Wants as wants
use Rattle.ak_headline.specs.Main.{IsMainDiary, MayEnterPort, MayEnterRoster, MayRefuse, asks, asks_in_vain, begun, enters_port, enters_roster, finds_shut}
use Rattle.ak_looper.specs.Rosters.{Object, by_number, maker_of}
use Rattle.ak_run.specs.declared.run.Run.{Run}
use Rattle.ak_run.specs.Doing.{AskedSo, EnteredSo, EntersLast, RefusedBy}
use Rattle.ak_session.specs.Doing.{Answered, address_of}
use Rattle.ak_run.specs.Entering.{AreAtPorts}
use Rattle.ak_team.specs.Launching.{turn_step}
use Rattle.ak_team.specs.InTime.{AddsAtPort, AreInTime}
use Rattle.ak_run.specs.Recording.{GoesBy, fronts, fronts_of, list_at}
use Rattle.ak_run.proofs.Acts.{GoesAtBoth, adds_there, both_then, no_book, no_roster, nothing_goes, one_act, steps_there, there_diary}
use Rattle.ak_team.proofs.Surface.{called_on, called_one, seen_none, seen_on, time_stays}

-- ---- an ask
-- a list of which something holds that does not hold of its last
any_before : {X : Type 0} (P : X → Type 0) (xs : List X) (y : X) → ¬ (P y) → Any P (xs ++ y ∷ []) → Any P xs
any_before P xs y not any =
    ⊎_elim (λ there. (there.0, any.1, there.1, there.2, any.4)) (λ last. absurd (not (subst P (sym last) any.4))) (Contains-push_cases xs y any.1 (any.0, any.2, any.3))

-- taking a slot fills none
filled_before : (n : ℕ) (flat : List ℕ) (k l : Clock) (b b' : ReplySeat) (entered : at_books.HasEntered k l (slot_event.Taken n) b b') → FillsWith n flat b'.front → FillsWith n flat entered.before
filled_before n flat k l b b' entered fills =
    any_before (λ (x : ReplyEntry). x.event ≡ slot_event.Filled n flat) entered.before (at_books.entry_now k entered.before (slot_event.Taken n)) (λ same. cc) (subst (FillsWith n flat) entered.front fills)

-- what main did at both, as acts of which that holds
pub record ActsAtBoth (looper time later : ℕ) (P : List Step → Type 0) (book book' : List ReplyEntry) (port port' : List PortEntry) : Type 0 where
  pub steps : List Step
  pub so : P steps
  pub acts : IsMainDiary steps
  pub goes : GoesAtBoth looper time later steps book book' port port'

-- at the port alone
pub port_acts : (looper time later : ℕ) (book : List ReplyEntry) (a b : List PortEntry) → AddsAtPort time later a b → ActsAtBoth looper time later AreAtPorts book book a b
port_acts looper time later book a b adds = record {
  steps = steps_there looper adds.added;
  so = record { no_roster = no_roster looper adds.added; no_book = no_book looper adds.added };
  acts = there_diary looper adds.added adds.may;
  goes = adds_there looper time later adds.added book a b adds.in_time adds.on adds.noted_is;
}

-- steps of which P holds
record DoesAtBoth (looper time later : ℕ) (P : List Step → Type 0) (book book' : List ReplyEntry) (port port' : List PortEntry) : Type 0 where
  steps : List Step
  does : P steps
  goes : GoesAtBoth looper time later steps book book' port port'

module _ (looper : ℕ) where
  abbrev noted_there : (e : PortEvent) (k l : Clock) (a b : PortSeat) → at_ports.HasEntered k l e a b → Noted PortEntry
  noted_there e k l a b entered = note entered.before (at_ports.entry_now k entered.before e)

  abbrev noted_in_book : (e : ReplyEvent) (k l : Clock) (a b : ReplySeat) → at_books.HasEntered k l e a b → Noted ReplyEntry
  noted_in_book e k l a b entered = note entered.before (at_books.entry_now k entered.before e)

  abbrev same_port : (port : List PortEntry) → noted at_ports.by_number main_thread port ≡ noted at_ports.by_number main_thread port ++ []
  same_port port = sym (append-nil (noted at_ports.by_number main_thread port))

  at_the_book : (e : ReplyEvent) (k l : Clock) (a b : ReplySeat) (port : List PortEntry) → a.thread ≡ main_thread → (entered : at_books.HasEntered k l e a b) → GoesAtBoth looper k.time l.time (at_book (noted_in_book e k l a b entered) ∷ []) a.front b.front port port
  at_the_book e k l a b port main entered = record {
    in_time = record { stamped = (refl, tt); time_is = sym (ap (λ (c : Clock). c.time) entered.clocked) };
    roster_none = refl;
    roster_unseen = refl;
    port_on = starts_itself port;
    port_seen = All-nil (StartsWith port);
    unseen_elsewhere = λ other differ. refl;
    noted_book = called_one at_books.maker_of a b main (at_books.entry_now k entered.before e) entered.before entered.called entered.front;
    book_on = called_on at_books.maker_of a b main (at_books.entry_now k entered.before e) entered.called;
    book_seen = All-nil (StartsWith b.front);
    noted_port = same_port port;
    elsewhere = λ other differ. refl;
    no_edits = λ other. refl;
  }

  at_the_port : (e : PortEvent) (k l : Clock) (a b : PortSeat) (book : List ReplyEntry) → a.thread ≡ main_thread → (entered : at_ports.HasEntered k l e a b) → GoesAtBoth looper k.time l.time (at_port looper (noted_there e k l a b entered) ∷ []) book book a.front b.front
  at_the_port e k l a b book main entered =
      adds_there looper k.time l.time (noted_there e k l a b entered ∷ []) book a.front b.front (refl, sym (ap (λ (c : Clock). c.time) entered.clocked)) (called_on at_ports.by_number a b main (at_ports.entry_now k entered.before e) entered.called)
      (called_one at_ports.by_number a b main (at_ports.entry_now k entered.before e) entered.before entered.called entered.front)

  looks_at_port : (k l : Clock) (a b : PortSeat) (book : List ReplyEntry) → a.thread ≡ main_thread → at_ports.HasLooked k l a b → GoesAtBoth looper k.time l.time [] book book a.front b.front
  looks_at_port k l a b book main looked = adds_there looper k.time l.time [] book a.front b.front (sym (time_stays k l looked.clocked)) (seen_on at_ports.by_number a b main looked.seen) (seen_none at_ports.by_number a b main looked.seen ∙ sym (append-nil (noted at_ports.by_number main_thread a.front)))

  looks_at_book : (k l : Clock) (a b : ReplySeat) (port : List PortEntry) → a.thread ≡ main_thread → at_books.HasLooked k l a b → GoesAtBoth looper k.time l.time [] a.front b.front port port
  looks_at_book k l a b port main looked = record {
    in_time = record { stamped = tt; time_is = sym (time_stays k l looked.clocked) };
    roster_none = refl;
    roster_unseen = refl;
    port_on = starts_itself port;
    port_seen = All-nil (StartsWith port);
    unseen_elsewhere = λ other differ. refl;
    noted_book = seen_none at_books.maker_of a b main looked.seen ∙ sym (append-nil (noted at_books.maker_of main_thread a.front));
    book_on = seen_on at_books.maker_of a b main looked.seen;
    book_seen = All-nil (StartsWith b.front);
    noted_port = same_port port;
    elsewhere = λ other differ. refl;
    no_edits = λ other. refl;
  }

  sees_book : (k l : Clock) (a b : ReplySeat) (port : List PortEntry) → a.thread ≡ main_thread → at_books.HasLooked k l a b → GoesAtBoth looper k.time l.time (saw_book b.front ∷ []) a.front b.front port port
  sees_book k l a b port main looked = record {
    in_time = record { stamped = (tt, tt); time_is = sym (time_stays k l looked.clocked) };
    roster_none = refl;
    roster_unseen = refl;
    port_on = starts_itself port;
    port_seen = All-nil (StartsWith port);
    unseen_elsewhere = λ other differ. refl;
    noted_book = seen_none at_books.maker_of a b main looked.seen ∙ sym (append-nil (noted at_books.maker_of main_thread a.front));
    book_on = seen_on at_books.maker_of a b main looked.seen;
    book_seen = All-cons (StartsWith b.front) b.front [] ([], sym (append-nil b.front)) (All-nil (StartsWith b.front));
    noted_port = same_port port;
    elsewhere = λ other differ. refl;
    no_edits = λ other. refl;
  }

  -- a slot is closed
  closes : (n : ℕ) (k l : Clock) (a b : ReplySeat) (port : List PortEntry) → a.thread ≡ main_thread → HasClosed n k l a b → DoesAtBoth looper k.time l.time (Cancels n) a.front b.front port port
  closes n k l a b port main (inl entered) =
      let x = noted_in_book (slot_event.Cancelled n) k l a b entered.entered in
      record { steps = at_book x ∷ []; does = inl (record { noted = x; event_is = refl; is = refl }); goes = at_the_book (slot_event.Cancelled n) k l a b port main entered.entered }
  closes n k l a b port main (inr found) = record {
    steps = saw_book b.front ∷ [];
    does = inr (record { seen = b.front; filled = found.filled; is = refl });
    goes = sees_book k l a b port main found.looked;
  }

  -- one entry at the port, or none, by what it answers, where main has seen its list to that entry
  pub answers_so : (e : Option PortEvent) (k l : Clock) (a b : PortSeat) (book : List ReplyEntry) (r' : Run) → a.thread ≡ main_thread → list_at (fronts_of r').ports looper ≡ b.front → IfSome e MayEnterPort → at_ports.HasAnswered e k l a b
      → ActsAtBoth looper k.time l.time (λ steps. EnteredSo looper r' steps e) book book a.front b.front
  answers_so None k l a b book r' main sees may looked = record { steps = []; so = refl; acts = begun; goes = looks_at_port k l a b book main looked }
  answers_so (Some e) k l a b book r' main sees may entered =
      let y = noted_there e k l a b entered in
      record {
        steps = at_port looper y ∷ [];
        so = record { enters = record { noted = y; event_is = refl; is = refl }; last = sees ∙ entered.front };
        acts = one_act (at_port looper y ∷ []) (enters_port looper e may (record { noted = y; event_is = refl; is = refl }));
        goes = at_the_port e k l a b book main entered;
      }

  sees_port : (k l : Clock) (a b : PortSeat) (book : List ReplyEntry) → a.thread ≡ main_thread → at_ports.HasLooked k l a b → GoesAtBoth looper k.time l.time (saw_port looper b.front ∷ []) book book a.front b.front
  sees_port k l a b book main looked =
      let goes = looks_at_port k l a b book main looked in
      record {
        in_time = record { stamped = (tt, tt); time_is = sym (time_stays k l looked.clocked) };
        roster_none = refl;
        roster_unseen = refl;
        noted_book = goes.noted_book;
        book_on = goes.book_on;
        book_seen = goes.book_seen;
        noted_port = goes.noted_port;
        port_on = goes.port_on;
        port_seen =
            subst (All (StartsWith b.front)) (sym (ap (λ (same : Bool). cond same (b.front ∷ []) [] ++ []) (eq-eqb looper looper refl)))
            (All-cons (StartsWith b.front) b.front [] (starts_itself b.front) (All-nil (StartsWith b.front)));
        elsewhere = λ other differ. refl;
        unseen_elsewhere = λ other differ. ap (λ (same : Bool). cond same (b.front ∷ []) [] ++ []) (ne_eqb looper other (λ same. differ (sym same)));
        no_edits = λ other. refl;
      }

  -- its port is shut, by one entry or as main saw
  pub shuts_so : (answer : CloseAnswer) (k l : Clock) (a b : PortSeat) (book : List ReplyEntry) → a.thread ≡ main_thread → (state_of b.front).shut ≡ true → at_ports.HasAnswered (close_entry answer) k l a b → ActsAtBoth looper k.time l.time (Shuts looper) book book a.front b.front
  shuts_so closed.Shut k l a b book main shut entered =
      let y = noted_there event.Shut k l a b entered in
      let steps : List Step = at_port looper y ∷ [] in
      record {
        steps = steps;
        so = inl (record { noted = y; event_is = refl; is = refl });
        acts = one_act steps (enters_port looper event.Shut tt (record { noted = y; event_is = refl; is = refl }));
        goes = at_the_port event.Shut k l a b book main entered;
      }
  shuts_so closed.AlreadyShut k l a b book main shut looked =
      let steps : List Step = saw_port looper b.front ∷ [] in
      let finds : FindsShut looper steps = record { seen = b.front; shut = shut; is = refl } in
      record { steps = steps; so = inr finds; acts = one_act steps (finds_shut looper tt finds); goes = sees_port k l a b book main looked }

  -- the looper that is asked
  module _ (item : ItemData) (c c' : Clock) (b b' : ReplySeat) (s s' : PortSeat) (book_main : b.thread ≡ main_thread) (port_main : s.thread ≡ main_thread) (r' : Run) (sees : list_at (fronts_of r').ports looper ≡ s'.front) where
    abbrev to : Address
    to = address_of looper item

    later_main : (n : ℕ) (k : Clock) (b1 : ReplySeat) → HasEnteredBook c k (slot_event.Opened n) b b1 → b1.thread ≡ main_thread
    later_main n k b1 opened = ap (λ (x : ReplySeat). x.thread) opened.entered.called.after ∙ book_main

    -- a slot was opened, the item written, and taken what the slot was filled with
    record Conversed (n : ℕ) (flat : List ℕ) (steps : List Step) : Type 0 where
      does : Converses to item flat steps
      slot_is : does.slot ≡ n

    converses : (n : ℕ) (k : Clock) (b1 : ReplySeat) (flat : List ℕ) → HasEnteredBook c k (slot_event.Opened n) b b1 → HasConversed item k c' b1 b' s s' n flat → ActsAtBoth looper c.time c'.time (Conversed n flat) b.front b'.front s.front s'.front
    converses n k b1 flat opened h =
        let asked : ItemData = record item { duty = duty.Slot n } in
        let position = h.written.0 in
        let x = noted_in_book (slot_event.Opened n) c k b b1 opened.entered in
        let y = noted_there (event.Written position asked) k h.between s s' h.written.1 in
        let z = noted_in_book (slot_event.Taken n) h.between c' b1 b' h.collected.taken.entered in
        let does : Converses to item flat (at_book x ∷ at_port looper y ∷ at_book z ∷ []) = record {
          slot = n;
          position = position;
          opened = x;
          written = y;
          taken = z;
          opened_is = refl;
          written_is = refl;
          taken_is = refl;
          filled = filled_before n flat h.between c' b1 b' h.collected.taken.entered h.collected.filled;
          is = refl;
        } in
        record {
          steps = at_book x ∷ at_port looper y ∷ at_book z ∷ [];
          so = record { does = does; slot_is = refl };
          acts = one_act (at_book x ∷ at_port looper y ∷ at_book z ∷ []) (asks to item flat does);
          goes =
              both_then looper (at_book x ∷ []) (at_port looper y ∷ at_book z ∷ []) c.time k.time c'.time b.front b1.front b'.front s.front s.front s'.front (at_the_book (slot_event.Opened n) c k b b1 s.front book_main opened.entered)
              (both_then looper (at_port looper y ∷ []) (at_book z ∷ []) k.time h.between.time c'.time b1.front b1.front b'.front s.front s'.front s'.front (at_the_port (event.Written position asked) k h.between s s' b1.front port_main h.written.1)
              (at_the_book (slot_event.Taken n) h.between c' b1 b' s'.front (later_main n k b1 opened) h.collected.taken.entered));
        }

    -- the item was refused, by steps of which P holds, and the slot closed
    record Withdrew (e : Option PortEvent) (P : List Step → Type 0) (steps : List Step) : Type 0 where
      does : Withdraws to e steps
      refused_so : P does.refused

    withdraws : (e : Option PortEvent) (P : List Step → Type 0) → ((steps : List Step) → P steps → IsRefusedBy looper e steps) → MayRefuse e → (n : ℕ) (k between : Clock) (b1 : ReplySeat) → HasEnteredBook c k (slot_event.Opened n) b b1
        → DoesAtBoth looper k.time between.time P b1.front b1.front s.front s'.front → HasClosed n between c' b1 b' → ActsAtBoth looper c.time c'.time (Withdrew e P) b.front b'.front s.front s'.front
    withdraws e P tells may n k between b1 opened refused closing =
        let x = noted_in_book (slot_event.Opened n) c k b b1 opened.entered in
        let last = closes n between c' b1 b' s'.front (later_main n k b1 opened) closing in
        let does : Withdraws to e (at_book x ∷ refused.steps ++ last.steps) =
        record { slot = n; opened = x; refused = refused.steps; closing = last.steps; opened_is = refl; refused_is = tells refused.steps refused.does; closes = last.does; is = refl } in
        record {
          steps = at_book x ∷ refused.steps ++ last.steps;
          so = record { does = does; refused_so = refused.does };
          acts = one_act (at_book x ∷ refused.steps ++ last.steps) (asks_in_vain to e may does);
          goes =
              both_then looper (at_book x ∷ []) (refused.steps ++ last.steps) c.time k.time c'.time b.front b1.front b'.front s.front s.front s'.front (at_the_book (slot_event.Opened n) c k b b1 s.front book_main opened.entered)
              (both_then looper refused.steps last.steps k.time between.time c'.time b1.front b1.front b'.front s.front s'.front s'.front refused.goes last.goes);
        }

    -- the port gave a reason, in the last entry that main has seen there
    withdraws_so : (e : PortEvent) → MayRefuse (Some e) → (n : ℕ) (k between : Clock) (b1 : ReplySeat) → HasEnteredBook c k (slot_event.Opened n) b b1 → at_ports.HasEntered k between e s s' → HasClosed n between c' b1 b'
        → ActsAtBoth looper c.time c'.time (RefusedBy looper item e r') b.front b'.front s.front s'.front
    withdraws_so e may n k between b1 opened entered closing =
        let y = noted_there e k between s s' entered in
        let P = EntersLast looper e r' in
        let refused : DoesAtBoth looper k.time between.time P b1.front b1.front s.front s'.front =
        record { steps = at_port looper y ∷ []; does = record { enters = record { noted = y; event_is = refl; is = refl }; last = sees ∙ entered.front }; goes = at_the_port e k between s s' b1.front port_main entered } in
        let all = withdraws (Some e) P (λ steps is. is.enters) may n k between b1 opened refused closing in
        record { steps = all.steps; so = record { withdraws = all.so.does; refused = all.so.refused_so }; acts = all.acts; goes = all.goes }

    -- so it was asked in vain
    so_in_vain : (P : List Step → Type 0) → ((steps : List Step) → P steps → AsksInVain to item steps) → ActsAtBoth looper c.time c'.time P b.front b'.front s.front s'.front → ActsAtBoth looper c.time c'.time (AsksInVain to item) b.front b'.front s.front s'.front
    so_in_vain P turned does = record { steps = does.steps; so = turned does.steps does.so; acts = does.acts; goes = does.goes }

    -- memory was wanting
    in_vain_later : (h : HasAsked item c c' b b' s s' (Err fault.NoMemory)) → (HasGivenUp item h.clock c' h.seat b' s s' h.slot fault.NoMemory ⊎ ((flat : List ℕ) × HasConversed item h.clock c' h.seat b' s s' h.slot flat)) → ActsAtBoth looper c.time c'.time (AsksInVain to item) b.front b'.front s.front s'.front
    in_vain_later h (inl up) =
        let P : List Step → Type 0 = λ steps. steps ≡ [] in
        so_in_vain (Withdrew None P) (λ steps w. wants.for_the_item w.does) (withdraws None P (λ steps is. is) tt h.slot h.clock up.between h.seat h.opened (record { steps = []; does = refl; goes = looks_at_port h.clock up.between s s' h.seat.front port_main up.refused.looked }) up.closed)
    in_vain_later h (inr both) = so_in_vain (Conversed h.slot both.0) (λ steps done. wants.for_the_reply both.0 done.does) (converses h.slot h.clock h.seat both.0 h.opened both.1)

    nothing : (k : Clock) (a : ReplySeat) (p : PortSeat) → k ≡ c → a ≡ b → p ≡ s → ActsAtBoth looper c.time k.time (λ steps. steps ≡ []) b.front a.front s.front p.front
    nothing k a p same_clock same_book same_seat =
        subst (λ (x : ReplySeat). ActsAtBoth looper c.time k.time (λ steps. steps ≡ []) b.front x.front s.front p.front) (sym same_book)
        (subst (λ (x : PortSeat). ActsAtBoth looper c.time k.time (λ steps. steps ≡ []) b.front b.front s.front x.front) (sym same_seat)
        (record { steps = []; so = refl; acts = begun; goes = adds_there looper c.time k.time [] b.front s.front s.front (sym (time_stays c k same_clock)) (starts_itself s.front) (same_port s.front) }))

    in_vain : HasLackedMemory item c c' b b' s s' → ActsAtBoth looper c.time c'.time (AsksInVain to item) b.front b'.front s.front s'.front
    in_vain (asking.before_all none) = so_in_vain (λ steps. steps ≡ []) (λ steps is. wants.before_all is) (nothing c' b' s' none.clock none.book none.port)
    in_vain (asking.for_the_slot none) =
        subst (λ (x : PortSeat). ActsAtBoth looper c.time c'.time (AsksInVain to item) b.front b'.front s.front x.front) (sym none.port) (record { steps = []; so = wants.before_all refl; acts = begun; goes = looks_at_book c c' b b' s.front book_main none.looked.looked })
    in_vain (asking.later h) = in_vain_later h h.became

    -- it was answered, from the slot that it opened
    answered : (reply : Reply) → HasAsked item c c' b b' s s' (Ok reply) → ActsAtBoth looper c.time c'.time (Answered looper item reply) b.front b'.front s.front s'.front
    answered reply h =
        let all = converses h.slot h.clock h.seat reply.flat h.opened h.became.1 in
        record { steps = all.steps; so = record { converses = all.so.does; slot_is = all.so.slot_is ∙ sym h.became.0 }; acts = all.acts; goes = all.goes }

    pub ask_acts : (sent : Result Reply SendFault) → AskTells item c c' b b' s s' sent → ActsAtBoth looper c.time c'.time (AskedSo looper item sent r') b.front b'.front s.front s'.front
    ask_acts (Ok reply) h = answered reply h
    ask_acts (Err fault.TooLong) h = nothing c' b' s' h.clock h.book h.port
    ask_acts (Err fault.NoMemory) h = in_vain h
    ask_acts (Err fault.BadPort) h = withdraws_so event.Refused tt h.slot h.clock h.became.between h.seat h.opened h.became.refused h.became.closed
    ask_acts (Err fault.Spent) h = withdraws_so event.Spent tt h.slot h.clock h.became.between h.seat h.opened h.became.refused h.became.closed
    ask_acts (Err fault.WouldBlock) h = absurd h

-- ---- at the roster
abbrev Entries : Type 0
Entries = List (EntryWithObjects Object)

plain-append : (xs ys : Entries) → plain_entries (xs ++ ys) ≡ plain_entries xs ++ plain_entries ys
plain-append xs ys = map-append (λ (entry : EntryWithObjects Object). entry.plain) xs ys

-- main had its turn there, and made one entry or none
pub roster_goes : (time later : ℕ) (front between before added : Entries) (book : List ReplyEntry) (ports : List (List PortEntry)) → before ≡ front ++ between → AreByOthers by_number main_thread between → length added ≤ 1
    → All (λ (e : EntryWithObjects Object). e.plain.by.0 ≡ main_thread) added → All (λ (e : EntryWithObjects Object). MayEnterRoster e.plain.event) added → AreInTime time (map (turn_step before) added) later
    → GoesBy (map (turn_step before) added) (fronts time (plain_entries front) book ports) (fronts later (plain_entries (before ++ added)) book ports)
roster_goes time later front between before added book ports seen others few mine may in_time = by_added added few mine may in_time
  where
    none_more : noted maker_of main_thread (plain_entries before) ≡ noted maker_of main_thread (plain_entries front)
    none_more =
        ap (λ (l : Entries). noted maker_of main_thread (plain_entries l)) seen ∙ ap (noted maker_of main_thread) (plain-append front between)
        ∙ noted-others maker_of main_thread (plain_entries front) (plain_entries between) (All-map (λ (entry : RosterEntry). entry.by.0 ≢ main_thread) (λ (entry : EntryWithObjects Object). entry.plain) between others)

    on : (xs : Entries) → StartsWith (plain_entries (before ++ xs)) (plain_entries front)
    on xs = (plain_entries (between ++ xs), ap (λ (l : Entries). plain_entries (l ++ xs)) seen ∙ ap (λ (l : Entries). plain_entries l) (append_assoc front between xs) ∙ plain-append front (between ++ xs))

    by_added : (xs : Entries) → length xs ≤ 1 → All (λ (e : EntryWithObjects Object). e.plain.by.0 ≡ main_thread) xs → All (λ (e : EntryWithObjects Object). MayEnterRoster e.plain.event) xs → AreInTime time (map (turn_step before) xs) later
        → GoesBy (map (turn_step before) xs) (fronts time (plain_entries front) book ports) (fronts later (plain_entries (before ++ xs)) book ports)
    by_added [] less by_main allowed at =
        nothing_goes (fronts time (plain_entries front) book ports) (fronts later (plain_entries (before ++ [])) book ports) (sym at.time_is)
        (ap (λ (l : Entries). noted maker_of main_thread (plain_entries l)) (append-nil before) ∙ none_more) (on []) refl (starts_itself book) (λ looper. refl) (λ looper. starts_itself (list_at ports looper))
    by_added (x ∷ []) less by_main allowed at =
        let n : Noted RosterEntry = note (plain_entries before) x.plain in
        record {
          acts = one_act (at_roster n ∷ []) (enters_roster n (All-head (λ (e : EntryWithObjects Object). MayEnterRoster e.plain.event) x [] allowed) refl);
          in_time = at;
          roster =
              ap (noted maker_of main_thread) (plain-append before (x ∷ [])) ∙ noted-own maker_of main_thread (plain_entries before) x.plain (All-head (λ (e : EntryWithObjects Object). e.plain.by.0 ≡ main_thread) x [] by_main)
              ∙ ap (λ l. l ++ n ∷ []) none_more;
          roster_on = on (x ∷ []);
          roster_seen = All-nil (StartsWith (plain_entries (before ++ x ∷ [])));
          book = sym (append-nil (noted at_books.maker_of main_thread book));
          book_on = starts_itself book;
          book_seen = All-nil (StartsWith book);
          ports = λ looper. sym (append-nil (noted at_ports.by_number main_thread (list_at ports looper)));
          ports_on = λ looper. starts_itself (list_at ports looper);
          ports_seen = λ looper. All-nil (StartsWith (list_at ports looper));
        }
    by_added (x ∷ y ∷ zs) less by_main allowed at = absurd (omega (arith, less))

-- none of these is an edit
pub turn_no_edits : (before added : Entries) (looper : ℕ) → desk_entries looper (map (turn_step before) added) ≡ []
turn_no_edits before [] looper = refl
turn_no_edits before (x ∷ xs) looper = turn_no_edits before xs looper
