-- At the end main's diary has all that main did, and the lists go on from what main had seen.
use Rattle.std.proofs.Common.{◌≡◌, ℕ, zero, suc, List, [], ◌∷◌, ◌++◌, length, map, All, sym, refl, ap, ◌∙◌, subst, append-nil}
use Rattle.std.proofs.lemmas.List.{length-map}
use Rattle.std.proofs.lemmas.List.Concat.{flat_map-append}
use Rattle.std.proofs.lemmas.List.Elements.{All-weaker}
use Rattle.std.specs.Prelude.{option_map, slice_get, unwrap_or}
use Rattle.ak_base.specs.Thread.{main_thread}
use Rattle.ak_turn.specs.Entries.{StartsWith}
use Rattle.ak_turn.specs.Noted.{Noted, noted}
use Rattle.ak_turn.proofs.Surface.{seen_still, starts_then_starts}
use Rattle.ak_roster.specs.declared.entry.EntryWithObjects.{EntryWithObjects}
use Rattle.ak_roster.specs.declared.entry.RosterEntry.{RosterEntry}
use Rattle.ak_roster.specs.declared.head.AppHead.{AppHead}
use Rattle.ak_roster.specs.Roster.{RosterData, plain_entries}
use Rattle.ak_port.specs.declared.port_entry.PortEntry.{PortEntry}
use Rattle.ak_port.specs.declared.reply_entry.ReplyEntry.{ReplyEntry}
use Rattle.ak_port.specs.PortCalls as at_ports
use Rattle.ak_port.specs.PortCalls.{PortData}
use Rattle.ak_port.specs.ReplySeats as at_books
use Rattle.ak_port.specs.ReplySeats.{ReplySeat}
use Rattle.ak_desk.specs.Desk.{DeskData}
use Rattle.ak_desk.specs.Entry.{EntryData}
use Rattle.ak_desk.specs.Shared as at_desks
use Rattle.ak_diary.specs.declared.histories.Histories.{Histories}
use Rattle.ak_diary.specs.Step.{Step, book_sights, desk_entries, desk_entry, port_entries, port_sights, roster_sights}
use Rattle.ak_headline.specs.Run.{HasDone, desk_list, port_list}
use Rattle.ak_looper.specs.declared.kept_door.KeptDoor.{KeptDoor}
use Rattle.ak_looper.specs.Rosters.{Object, RosterSeat, maker_of, plain_of}
use Rattle.ak_gather.specs.declared.gathering.Joined.{Joined}
use Rattle.ak_gather.specs.declared.member.Member.{Member}
use Rattle.ak_run.specs.declared.run.Run.{Run}
use Rattle.ak_run.specs.AtEnd.{DoneAtEnd}
use Rattle.ak_run.specs.Closing.{ClosesSo, EndsAllTeams}
use Rattle.ak_run.specs.Doing.{HasDoneSoFar, IsQuietAtDesks, IsRecordedAtDesks, desk_front}
use Rattle.ak_run.specs.Ending.{EndsAs}
use Rattle.ak_gather.specs.Gathering.{AreBooksOf, AreGaining, GoesOnKnowing, IsJoined, IsRosterOf, joined_desk_front, joined_front, EndsByOthers, PortsEndByOthers}
use Rattle.ak_run.specs.Recording.{Fronts, IsRecorded, fronts_of, list_at}
use Rattle.ak_gather.specs.Members.{member_desk_front, member_front}
use Rattle.ak_run.specs.Starting.{GoesOn}
use Rattle.ak_run.proofs.Acts.{recorded_on}
use Rattle.ak_run.proofs.Doing.{edits_still}
use Rattle.ak_run.proofs.GoingOn.{desk_in, plain_on}
use Rattle.ak_gather.proofs.Surface.{DesksEndByOthers, IsMains, desk_fronts_still, desks_end, fronts_still, noted_at_end, ports_end, roster_ends}

ports_at_end : (fronts : List (List PortEntry)) (ports : List PortData) → PortsEndByOthers fronts ports → (looper : ℕ)
    → noted at_ports.by_number main_thread (unwrap_or (option_map (λ (port : PortData). port.entries) (slice_get ports looper)) []) ≡ noted at_ports.by_number main_thread (list_at fronts looper)
ports_at_end [] [] ends zero = refl
ports_at_end [] [] ends (suc looper) = refl
ports_at_end (front ∷ fronts) (port ∷ ports) ends zero = noted_at_end at_ports.by_number front port.entries ends.0
ports_at_end (front ∷ fronts) (port ∷ ports) ends (suc looper) = ports_at_end fronts ports ends.1 looper
ports_at_end [] (port ∷ ports) ends looper = absurd ends
ports_at_end (front ∷ fronts) [] ends looper = absurd ends

-- each port's list goes on
ports_go_on : (fronts : List (List PortEntry)) (ports : List PortData) → PortsEndByOthers fronts ports → (looper : ℕ)
    → StartsWith (unwrap_or (option_map (λ (port : PortData). port.entries) (slice_get ports looper)) []) (list_at fronts looper)
ports_go_on [] [] ends zero = ([], refl)
ports_go_on [] [] ends (suc looper) = ([], refl)
ports_go_on (front ∷ fronts) (port ∷ ports) ends zero = (ends.0.between, ends.0.goes_on)
ports_go_on (front ∷ fronts) (port ∷ ports) ends (suc looper) = ports_go_on fronts ports ends.1 looper
ports_go_on [] (port ∷ ports) ends looper = absurd ends
ports_go_on (front ∷ fronts) [] ends looper = absurd ends

pub main_done : (steps : List Step) (f : Fronts) (h : Histories) → IsRecorded steps f → EndsByOthers maker_of f.roster h.roster.items → EndsByOthers at_books.maker_of f.book h.book → PortsEndByOthers f.ports h.ports.items
    → ((looper : ℕ) → noted at_desks.by_number main_thread (desk_list h looper) ≡ desk_entries looper steps) → HasDone h main_thread steps
main_done steps f h is roster book ports desks = record {
  at_roster = noted_at_end maker_of f.roster h.roster.items roster ∙ is.roster;
  at_book = noted_at_end at_books.maker_of f.book h.book book ∙ is.book;
  at_ports = λ looper. ports_at_end f.ports h.ports.items ports looper ∙ is.ports looper;
  at_desks = desks;
  roster_seen = seen_still f.roster h.roster.items (roster_sights steps) (roster.between, roster.goes_on) is.roster_seen;
  book_seen = seen_still f.book h.book (book_sights steps) (book.between, book.goes_on) is.book_seen;
  ports_seen = λ looper. seen_still (list_at f.ports looper) (port_list h looper) (port_sights looper steps) (ports_go_on f.ports h.ports.items ports looper) (is.ports_seen looper);
}

-- the list of a desk, with what main had seen of it
module _ (P : List EntryData → List EntryData → Type 0) (none : P [] []) (one : (front entries : List EntryData) → EndsByOthers at_desks.by_number front entries → P front entries) where
  desk_at_end : (ms : List Member) (desks : List DeskData) → DesksEndByOthers (map member_desk_front ms) desks → (looper : ℕ) → P (desk_in ms looper) (unwrap_or (option_map (λ (desk : DeskData). desk.entries) (slice_get desks looper)) [])
  desk_at_end [] [] ends zero = none
  desk_at_end [] [] ends (suc looper) = none
  desk_at_end (m ∷ ms) (desk ∷ desks) ends zero = one (member_desk_front m) desk.entries ends.0
  desk_at_end (m ∷ ms) (desk ∷ desks) ends (suc looper) = desk_at_end ms desks ends.1 looper
  desk_at_end [] (desk ∷ desks) ends looper = absurd ends
  desk_at_end (m ∷ ms) [] ends looper = absurd ends

-- behind what main's seats had seen others alone made entries
pub record EndsByAllOthers (r : Run) (h : Histories) : Type 0 where
  pub roster : EndsByOthers maker_of (plain_of r.roster_seat) h.roster.items
  pub book : EndsByOthers at_books.maker_of r.hands.book_seat.front h.book
  pub ports : PortsEndByOthers (map member_front r.members.items ++ []) h.ports.items
  pub desks : DesksEndByOthers (map member_desk_front r.members.items) h.desks.items

-- main's seats saw nothing more while the threads were joined
pub ends_by_others : (r : Run) (heads : List AppHead) (main : RosterSeat) (at_book : ReplySeat) (roster : RosterData KeptDoor Object) (book : List ReplyEntry) (js last : List Joined) (h : Histories) → GoesOnKnowing r.roster_seat main → GoesOnKnowing r.hands.book_seat at_book
    → All (IsJoined heads main at_book) js → map joined_front js ≡ map member_front r.members.items → map joined_desk_front js ≡ map member_desk_front r.members.items → AreGaining js last → AreBooksOf last h.ports.items h.desks.items → IsRosterOf main roster → (at_book.thread ≡ main_thread → EndsByOthers at_books.maker_of at_book.front book)
    → h.roster.items ≡ plain_entries roster.entries → h.book ≡ book → EndsByAllOthers r h
ends_by_others r heads main at_book roster book js last h roster_on book_on joined same same_desks gains kept of ends h_roster h_book =
    let by_main : main.thread ≡ main_thread = roster_on.thread ∙ r.roster_thread ∙ r.main in
    let still = fronts_still js last gains in
    let mains : All IsMains last = still.1 (All-weaker (IsJoined heads main at_book) IsMains (λ j is. is.by_main) js joined) in
    record {
      roster =
          subst (EndsByOthers maker_of (plain_of r.roster_seat)) (sym h_roster)
          (subst (λ (l : List (EntryWithObjects Object)). EndsByOthers maker_of (plain_entries l) (plain_entries roster.entries)) roster_on.front (roster_ends main roster by_main of));
      book =
          subst (EndsByOthers at_books.maker_of r.hands.book_seat.front) (sym h_book)
          (subst (λ (l : List ReplyEntry). EndsByOthers at_books.maker_of l book) book_on.front (ends (book_on.thread ∙ r.hands.thread ∙ r.main)));
      ports = subst (λ (l : List (List PortEntry)). PortsEndByOthers l h.ports.items) (still.0 ∙ same ∙ sym (append-nil (map member_front r.members.items))) (ports_end last h.ports.items h.desks.items mains kept);
      desks = subst (λ (l : List (List EntryData)). DesksEndByOthers l h.desks.items) (desk_fronts_still js last gains ∙ same_desks) (desks_end last h.ports.items h.desks.items mains kept);
    }

pub run_done : (r : Run) (h : Histories) → EndsByAllOthers r h → (steps : List Step) → IsRecorded steps (fronts_of r) → IsRecordedAtDesks steps r → HasDone h main_thread steps
run_done r h ends steps is edits =
    let made : List EntryData → List (Noted EntryData) = noted at_desks.by_number main_thread in
    let at_end = desk_at_end (λ front entries. made entries ≡ made front) refl (noted_at_end at_desks.by_number) r.members.items h.desks.items ends.desks in
    main_done steps (fronts_of r) h is ends.roster ends.book ends.ports (λ looper. at_end looper ∙ edits looper)

-- ---- the histories are those of this run
as_many_fronts : (fronts : List (List PortEntry)) (ports : List PortData) → PortsEndByOthers fronts ports → length ports ≡ length fronts
as_many_fronts [] [] ends = refl
as_many_fronts (front ∷ fronts) (port ∷ ports) ends = ap suc (as_many_fronts fronts ports ends.1)
as_many_fronts [] (port ∷ ports) ends = absurd ends
as_many_fronts (front ∷ fronts) [] ends = absurd ends

pub ends_as : (r : Run) (h : Histories) → EndsByAllOthers r h → EndsAs r h
ends_as r h ends =
    let fronts = map member_front r.members.items in
    record {
      loopers = as_many_fronts (fronts ++ []) h.ports.items ends.ports ∙ ap (λ (l : List (List PortEntry)). length l) (append-nil fronts) ∙ length-map r.members.items member_front;
      roster = (ends.roster.between, ends.roster.goes_on);
      book = (ends.book.between, ends.book.goes_on);
      ports = λ looper. ([], ports_at_end (fronts ++ []) h.ports.items ends.ports looper ∙ sym (append-nil (noted at_ports.by_number main_thread (list_at (fronts ++ []) looper))));
      port_lists = ports_go_on (fronts ++ []) h.ports.items ends.ports;
      desks = desk_at_end (λ front entries. StartsWith entries front) ([], refl) (λ front entries desk. (desk.between, desk.goes_on)) r.members.items h.desks.items ends.desks;
    }

-- so they were the run's before, while it went on to its end
pub ends_further : (r r' : Run) (h : Histories) → GoesOn r r' → ((looper : ℕ) → StartsWith (list_at (fronts_of r').ports looper) (list_at (fronts_of r).ports looper)) → EndsAs r' h → EndsAs r h
ends_further r r' h goes ports_on is =
    let by_main : (looper : ℕ) (s : Run) → List (Noted PortEntry) = λ looper s. noted at_ports.by_number main_thread (list_at (fronts_of s).ports looper) in
    let more = goes.recorded [] in
    record {
      loopers = is.loopers ∙ goes.count;
      roster = starts_then_starts (plain_of r.roster_seat) (plain_of r'.roster_seat) h.roster.items (plain_on r.roster_seat r'.roster_seat goes.on) is.roster;
      book = starts_then_starts r.hands.book_seat.front r'.hands.book_seat.front h.book more.goes.book_on is.book;
      ports = λ looper. starts_then_starts (by_main looper r) (by_main looper r') (noted at_ports.by_number main_thread (port_list h looper)) (port_entries looper more.steps, more.goes.ports looper) (is.ports looper);
      port_lists = λ looper. starts_then_starts (list_at (fronts_of r).ports looper) (list_at (fronts_of r').ports looper) (port_list h looper) (ports_on looper) (is.port_lists looper);
      desks = λ looper. starts_then_starts (desk_front r looper) (desk_front r' looper) (desk_list h looper) (goes.desks_on.on looper) (is.desks looper);
    }

-- what main did goes on to the end, and its edits stand
pub at_end : (heads : List AppHead) (r r' : Run) (h : Histories) (steps : List Step) → ClosesSo (EndsAllTeams heads) r r' → HasDoneSoFar steps r → IsQuietAtDesks r r' → ((all : List Step) → IsRecorded all (fronts_of r') → IsRecordedAtDesks all r' → HasDone h main_thread all) → EndsAs r' h → EndsAs r h → DoneAtEnd heads steps h
at_end heads r r' h steps closed done quiet all left ends =
    let recorded = recorded_on steps closed.steps (fronts_of r) (fronts_of r') closed.goes done.recorded in
    record {
      closing = closed.steps;
      closes = record {
        ends = closed.so steps done.recorded.roster;
        roster_seen = All-weaker (StartsWith (plain_of r'.roster_seat)) (StartsWith h.roster.items) (λ (seen : List RosterEntry) starts. starts_then_starts seen (plain_of r'.roster_seat) h.roster.items starts left.roster) (roster_sights closed.steps) closed.goes.roster_seen;
        ports_seen = λ looper.
            let list = list_at (fronts_of r').ports looper in
            All-weaker (StartsWith list) (StartsWith (port_list h looper)) (λ (seen : List PortEntry) starts. starts_then_starts seen list (port_list h looper) starts (left.port_lists looper)) (port_sights looper closed.steps) (closed.goes.ports_seen looper);
      };
      diary = recorded.diary;
      stamped = recorded.in_time.stamped;
      done = all (steps ++ closed.steps) recorded (λ looper.
          quiet.same looper ∙ done.desks looper
          ∙ sym (flat_map-append (desk_entry looper) steps closed.steps ∙ ap (λ l. desk_entries looper steps ++ l) (closed.no_edits looper) ∙ append-nil (desk_entries looper steps)));
      edits = λ looper. edits_still (desk_front r looper) (desk_list h looper) (desk_entries looper steps) (ends.desks looper) (done.edits looper);
    }
