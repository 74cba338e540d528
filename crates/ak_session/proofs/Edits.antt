-- An edit at the desk behind a door, as a step of the session.
use Rattle.std.proofs.Common.{◌≡◌, ℕ, Bool, List, [], ◌∷◌, ◌++◌, length, All, cond, None, Some, option_map, slice_get, get_or, set, refl, sym, ap, ◌∙◌, subst, eq-eqb, arith}
use Rattle.std.proofs.lemmas.List.Concat.{flat_map-append}
use Rattle.std.proofs.lemmas.List.Elements.{All-nil}
use Rattle.ak_turn.specs.declared.clock.Clock.{Clock}
use Rattle.ak_turn.specs.Called.{entry_now}
use Rattle.ak_turn.specs.Entries.{StartsWith}
use Rattle.ak_turn.specs.Noted.{Noted, note, noted}
use Rattle.ak_turn.proofs.Surface.{called_keeps, called_notes_one, seen_keeps, seen_notes_nothing}
use Rattle.ak_roster.specs.declared.head.AppHead.{AppHead}
use Rattle.ak_port.specs.declared.port_entry.PortEntry.{PortEntry}
use Rattle.ak_port.specs.declared.reply_entry.ReplyEntry.{ReplyEntry}
use Rattle.ak_port.specs.PortCalls.{PortSeat}
use Rattle.ak_port.specs.ReplySeats as books
use Rattle.ak_port.specs.ReplySeats.{ReplySeat}
use Rattle.ak_desk.specs.declared.entry.DeskEvent.TheVariants as event
use Rattle.ak_desk.specs.declared.entry.Edit.{Edit}
use Rattle.ak_desk.specs.Desk.{entry_with, stamp_number}
use Rattle.ak_desk.specs.Entry.{EntryData}
use Rattle.ak_desk.specs.Shared as desks
use Rattle.ak_desk.specs.Shared.{by_number}
use Rattle.ak_diary.specs.Step.{Step, at_desk, book_entries, book_entry, book_sight, book_sights, desk_entries, desk_entry, port_entries, port_entry, port_sight, port_sights}
use Rattle.ak_looper.specs.declared.door.Door.{Door}
use Rattle.ak_looper.specs.Side.{IsOnSide}
use Rattle.ak_looper.specs.Stands.{BookStands, PortStands}
use Rattle.ak_looper.proofs.Surface.{more_none}
use Rattle.ak_session.specs.declared.answers.Edited.{Edited}
use Rattle.ak_session.specs.declared.answers.Edited.TheVariants as edited
use Rattle.ak_session.specs.declared.session.Session.{Session}
use Rattle.ak_session.specs.Calls.{IsAtPlace, edited_event}
use Rattle.ak_session.specs.Doing.{EditedSo}
use Rattle.ak_session.specs.Stands.{GoesOn, Stands}
use Rattle.ak_session.proofs.DoorStands.{stands_behind}
use Rattle.ak_session.proofs.Elsewhere.{desk_leaves, side_leaves}
use Rattle.ak_session.proofs.Lists.{one_longer}

one_there : (looper : ℕ) (n : Noted EntryData) → desk_entries looper (at_desk looper n ∷ []) ≡ n ∷ []
one_there looper n = ap (λ (b : Bool). cond b (n ∷ []) [] ++ []) (eq-eqb looper looper refl)

module _ (heads : List AppHead) (start : ℕ) (so_far : List Step) (s s' : Session) (looper place : ℕ) (door door' : ℕ × Door) (was : Stands heads start so_far s) (roster : s'.roster_seat ≡ s.roster_seat)
    (way : option_map (λ (d : ℕ × Door). d.0) (slice_get s.doors.items place) ≡ Some looper) (read : door ≡ get_or s.doors.items place door) (items : s'.doors.items ≡ set s.doors.items place door') (number : door'.0 ≡ door.0)
    (book : s'.hands.book_seat ≡ s.hands.book_seat) (port : door'.1.port_seat ≡ door.1.port_seat) where
  book_still : (steps : List Step) → book_entries steps ≡ [] → book_sights steps ≡ [] → BookStands so_far s.hands.book_seat → BookStands (so_far ++ steps) s'.hands.book_seat
  book_still steps none unseen had = record {
    noted_is = ap (λ (x : ReplySeat). noted books.maker_of x.thread x.front) book ∙ had.noted_is ∙ sym (more_none book_entry so_far steps none);
    seen = subst (λ (x : ReplySeat). All (StartsWith x.front) (book_sights (so_far ++ steps))) (sym book)
        (subst (λ (lists : List (List ReplyEntry)). All (StartsWith s.hands.book_seat.front) lists) (sym (more_none book_sight so_far steps unseen)) had.seen);
  }

  port_still : (steps : List Step) → port_entries looper steps ≡ [] → port_sights looper steps ≡ [] → PortStands so_far looper door.1.port_seat → PortStands (so_far ++ steps) looper door'.1.port_seat
  port_still steps none unseen had = subst (PortStands (so_far ++ steps) looper) (sym port) (record {
    noted_is = had.noted_is ∙ sym (more_none (port_entry looper) so_far steps none);
    seen = subst (λ (lists : List (List PortEntry)). All (StartsWith door.1.port_seat.front) lists) (sym (more_none (port_sight looper) so_far steps unseen)) had.seen;
  })

  pub edits : (edit : Edit) (result : Edited) → desks.HasAnswered (edited_event edit result) s.hands.clock s'.hands.clock door.1.desk_seat door'.1.desk_seat → IsAtPlace result (length door'.1.desk_seat.front) → GoesOn heads start so_far (EditedSo looper edit result) s'
  edits edit edited.NoMemory looked at = record {
    steps = [];
    does = refl;
    stands = stands_behind heads start so_far s s' looper place door door' was roster way read items number [] (record {
      rest = side_leaves looper [] (All-nil (IsOnSide looper));
      thread = ap (λ (k : Clock). k.thread) looked.clocked;
      stamped = tt;
      time = ap (λ (k : Clock). k.time) (sym looked.clocked);
      book = book_still [] refl refl;
      port = port_still [] refl refl;
      desk = λ had. seen_notes_nothing by_number door.1.desk_seat door'.1.desk_seat looked.seen ∙ had ∙ sym (more_none (desk_entry looper) so_far [] refl);
      port_lock = ap (λ (p : PortSeat). p.lock) port;
      desk_lock = (seen_keeps by_number door.1.desk_seat door'.1.desk_seat looked.seen).lock;
    });
  }
  edits edit (edited.Entered came at_place) entered at =
      let x : EntryData = entry_now stamp_number (entry_with None) s.hands.clock entered.before (event.Edited edit came) in
      let n : Noted EntryData = note entered.before x in
      let steps : List Step = at_desk looper n ∷ [] in
      record {
        steps = steps;
        does = record {
          noted = n;
          event_is = refl;
          place_is = omega (arith, at, one_longer door'.1.desk_seat.front entered.before x entered.front);
          is = refl;
        };
        stands = stands_behind heads start so_far s s' looper place door door' was roster way read items number steps (record {
          rest = desk_leaves looper n;
          thread = ap (λ (k : Clock). k.thread) entered.clocked;
          stamped = (refl, tt);
          time = ap (λ (k : Clock). k.time) (sym entered.clocked);
          book = book_still steps refl refl;
          port = port_still steps refl refl;
          desk = λ had.
              called_notes_one by_number x entered.before door.1.desk_seat door'.1.desk_seat entered.called entered.front ∙ ap (λ (l : List (Noted EntryData)). l ++ n ∷ []) had
              ∙ ap (λ (l : List (Noted EntryData)). desk_entries looper so_far ++ l) (sym (one_there looper n)) ∙ sym (flat_map-append (desk_entry looper) so_far steps);
          port_lock = ap (λ (p : PortSeat). p.lock) port;
          desk_lock = (called_keeps by_number x door.1.desk_seat door'.1.desk_seat entered.called).lock;
        });
      }
