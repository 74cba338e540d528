-- A run in which nothing was done.
use Rattle.std.specs.List.{range_with_len}
use Rattle.std.proofs.Common.{◌≡◌, ℕ, zero, suc, ◌+◌, ◌≤◌, ◌<◌, List, [], ◌∷◌, ◌++◌, length, map, take, refl, sym, ap, ◌∙◌, subst, arith, inl, All, vec_capacity, Some}
use Rattle.std.specs.Prelude.{get_or}
use Rattle.std.proofs.lemmas.List.{map_more}
use Rattle.std.proofs.lemmas.List.Elements.{All-cons, All-nil}
use Rattle.ak_base.specs.Limits.{looper_limit}
use Rattle.ak_base.specs.Thread.{main_thread}
use Rattle.ak_turn.specs.Noted.{StandsIn, noted}
use Rattle.ak_turn.specs.Seats.{KnowsWhole, LockId, first_seat}
use Rattle.ak_turn.proofs.Surface.{first_knows}
use Rattle.ak_roster.specs.declared.head.AppHead.{AppHead}
use Rattle.ak_roster.specs.declared.entry.EntryWithObjects.{EntryWithObjects}
use Rattle.ak_port.specs.declared.reply_entry.ReplyEntry.{ReplyEntry}
use Rattle.ak_port.specs.ReplySeats as books
use Rattle.ak_port.specs.ReplySeats.{ReplySeat}
use Rattle.ak_describe.specs.declared.described.AppText.{AppText}
use Rattle.ak_describe.specs.Whole.{IsWholeApp, head_of, heads_of}
use Rattle.ak_looper.specs.Rosters as rosters
use Rattle.ak_looper.specs.Rosters.{Object, RosterSeat}
use Rattle.ak_desk.specs.Shared as at_desks
use Rattle.ak_gather.specs.declared.member.Member.{Member}
use Rattle.ak_run.specs.declared.run.Run.{Run}
use Rattle.ak_looper.specs.Counting.{started_by_main}
use Rattle.ak_run.specs.Doing.{HasDoneSoFar, IsRecordedAtDesks, desk_front}
use Rattle.ak_run.proofs.EditsMore.{edits_none}
use Rattle.ak_run.proofs.GoingOn.{desk_in}
use Rattle.ak_run.proofs.Recorded.{nothing_yet}
use Rattle.ak_gather.specs.Below.{AreBelow, IsBelow}
use Rattle.ak_run.specs.Running.{HasRoomToEnd, IsOpenedAs, IsRunning}
use Rattle.ak_gather.specs.Members.{IsMember}
use Rattle.ak_run.specs.Sessions.{session_count}
use Rattle.ak_run.proofs.SlotsStand.{no_slots}

-- the heads of one application more
pub heads_more : (apps : List AppText) (index : ℕ) (app : AppText) (head : AppHead) (heads heads' : List AppHead) → index < length apps → app ≡ get_or apps index app → head ≡ head_of app
    → heads ≡ heads_of (take index apps) → heads' ≡ heads ++ head ∷ [] → heads' ≡ heads_of (take (index + 1) apps)
heads_more apps index app head heads heads' within is its_head so_far pushed =
    pushed ∙ ap (λ (l : List AppHead). l ++ head ∷ []) so_far
    ∙ ap (λ (h : AppHead). heads_of (take index apps) ++ h ∷ []) (its_head ∙ ap head_of is)
    ∙ sym (map_more head_of apps index app within)

-- no desk, and no edit
no_edits_yet : (r : Run) → r.members.items ≡ [] → IsRecordedAtDesks [] r
no_edits_yet r none looper = ap (λ (ms : List Member). noted at_desks.by_number main_thread (desk_in ms looper)) none ∙ none_there looper
  where
    none_there : (n : ℕ) → noted at_desks.by_number main_thread (desk_in [] n) ≡ []
    none_there zero = refl
    none_there (suc n) = refl

-- the run itself
pub begins : (heads : List AppHead) (roster book : LockId) (r : Run) → All IsWholeApp r.apps.items → heads ≡ heads_of r.apps.items → r.roster_seat ≡ first_seat roster heads [] [] main_thread → r.hands.book_seat ≡ first_seat book tt [] [] main_thread
    → r.members.items ≡ [] → looper_limit ≤ vec_capacity r.members → HasRoomToEnd r → r.hands.clock.time ≡ 0 → r.slots.sessions.items ≡ [] → r.slots.ways.items ≡ [] → IsRunning r
begins heads roster book r whole heads_are roster_is book_is none room ready time no_sessions no_ways =
    let few : length r.members.items ≡ 0 = ap length none in
    record {
      heads = heads;
      stands = record {
        whole = whole;
        heads_are = heads_are;
        opening = ap (λ (s : RosterSeat). s.opening) roster_is;
        roster_known = subst (KnowsWhole rosters.by_number) (sym roster_is) (first_knows rosters.by_number roster heads [] main_thread (All-nil (λ (entry : EntryWithObjects Object). rosters.by_number entry ≡ main_thread)));
        roster_names = subst (λ (s : RosterSeat). AreBelow (session_count r) (length r.members.items) s.names) (sym roster_is) (main_below (session_count r) (length r.members.items));
        book_known = subst (KnowsWhole books.maker_of) (sym book_is) (first_knows books.maker_of book tt [] main_thread (All-nil (λ (entry : ReplyEntry). books.maker_of entry ≡ main_thread)));
        book_names = subst (λ (s : ReplySeat). AreBelow (session_count r) (length r.members.items) s.names) (sym book_is) (main_below (session_count r) (length r.members.items));
        numbers = subst (λ (ms : List Member). map (λ (m : Member). m.number) ms ≡ range_with_len 0 (length ms)) (sym none) refl;
        each = subst (All (IsMember heads r.shared r.roster_seat)) (sym none) (All-nil (IsMember heads r.shared r.roster_seat));
        opened = subst (All (IsOpenedAs r.apps.items)) (sym none) (All-nil (IsOpenedAs r.apps.items));
        few = omega (arith, few);
        room = room;
        ready = ready;
        sessions = no_slots heads r.shared r.slots no_sessions no_ways;
      };
      all = ap (started_by_main heads) roster_is ∙ sym few;
      recorded = record { did = []; recorded = nothing_yet r time (ap (λ (s : RosterSeat). s.front) roster_is) (ap (λ (s : ReplySeat). s.front) book_is) none; started = edits_none heads; edits = no_edits_yet r none };
    }
  where
    main_below : (sessions n : ℕ) → AreBelow sessions n (Some (main_thread ∷ []))
    main_below sessions n = All-cons (IsBelow sessions n) main_thread [] (inl refl) (All-nil (IsBelow sessions n))

-- and main has done nothing
pub done_nothing : (r : Run) → r.roster_seat.front ≡ [] → r.hands.book_seat.front ≡ [] → r.members.items ≡ [] → r.hands.clock.time ≡ 0 → HasDoneSoFar [] r
done_nothing r roster book none time = record {
  recorded = nothing_yet r time roster book none;
  desks = no_edits_yet r none;
  edits = λ looper. All-nil (StandsIn (desk_front r looper));
}
