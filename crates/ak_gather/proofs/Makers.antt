-- Who made the entries of the lists that were kept: main and the loopers.
use Rattle.std.proofs.Common.{◌≡◌, ◌≢◌, ◌<◌, ◌≤◌, ◌==◌, ◌&&◌, ℕ, ◌+◌, Bool, true, false, cond, List, [], ◌∷◌, length, All, Contains, Option, None, Some, is_some, inl, inr, ⊎_elim, refl, sym, ap, ◌∙◌, subst, leb-true, ltb-true, eq-eqb, arith}
use Rattle.std.specs.Prelude.{IfSome, IsSomeAnd, get_or, option_map, slice_get, unwrap_or}
use Rattle.std.proofs.lemmas.List.{get_or-map, length-map}
use Rattle.std.proofs.lemmas.List.Elements.{All-cons, All-contains, All-map, All-nil, All-weaker}
use Rattle.std.proofs.lemmas.Option.{slice_get_cases, slice_get_within}
use Rattle.ak_base.specs.Thread.{keeper_thread, main_thread}
use Rattle.ak_turn.specs.Entries.{made_by}
use Rattle.ak_turn.specs.Seats.{part_of}
use Rattle.ak_turn.proofs.Surface.{known_is_made}
use Rattle.ak_roster.specs.declared.entry.EntryWithObjects.{EntryWithObjects}
use Rattle.ak_roster.specs.declared.entry.RosterEntry.{RosterEntry}
use Rattle.ak_roster.specs.declared.entry.RosterEvent.{RosterEvent}
use Rattle.ak_roster.specs.declared.entry.RosterEvent.TheVariants as event
use Rattle.ak_roster.specs.declared.entry.LaunchOutcome.TheVariants as launch
use Rattle.ak_roster.specs.declared.head.AppHead.{AppHead}
use Rattle.ak_roster.specs.Laws.{HasLaunched, HoldersAreTold, LaunchesHaveLoopers, TookDoor}
use Rattle.ak_roster.specs.Machine.{IsHistory, LooperData, holders, loopers_at, state_of}
use Rattle.ak_roster.specs.Roster.{AreSame, IsKept, RosterData, plain_entries}
use Rattle.ak_port.specs.declared.port_entry.PortEntry.{PortEntry}
use Rattle.ak_port.specs.declared.reply_entry.ReplyEntry.{ReplyEntry}
use Rattle.ak_port.specs.PortCalls as ports
use Rattle.ak_port.specs.PortCalls.{PortData}
use Rattle.ak_port.specs.ReplySeats as books
use Rattle.ak_port.specs.ReplySeats.{ReplySeat}
use Rattle.ak_desk.specs.Desk.{DeskData}
use Rattle.ak_desk.specs.Entry.{EntryData}
use Rattle.ak_desk.specs.Shared as desks
use Rattle.ak_diary.specs.declared.histories.Histories.{Histories}
use Rattle.ak_headline.specs.Run.{ActsIn, desk_list, desk_maker, port_list}
use Rattle.ak_looper.specs.declared.kept_door.KeptDoor.{KeptDoor}
use Rattle.ak_looper.specs.Rosters as rosters
use Rattle.ak_looper.specs.Rosters.{Object, RosterSeat}
use Rattle.ak_gather.specs.declared.gathering.Joined.{Joined}
use Rattle.ak_gather.specs.Gathering.{AreBooksOf, AreGaining, AreHeadsIn, AreTakenIn, IsBookOf, IsDeskOf, IsHeadFor, IsPortOf}
use Rattle.ak_gather.specs.Below.{AreBelow, IsBelow}
use Rattle.ak_gather.proofs.Books.{as_many_desks, as_many_ports}
use Rattle.ak_looper.proofs.Surface.{threads}
use Rattle.ak_gather.proofs.Knowing.{part_known}
use Rattle.ak_gather.proofs.Launched.{all_launched}
use Rattle.ak_gather.proofs.Paired.{AllAreJoined, all_started, door_count, roster_heads}
use Rattle.ak_gather.proofs.Placed.{books_at, heads_at, kept_at}
use Rattle.ak_gather.proofs.Taking.{and_there, at_place}

-- the lists that were kept; main's doors took in all that other seats know
pub record IsGathered (js later : List Joined) (roster : RosterData KeptDoor Object) (at_book : ReplySeat) (book : List ReplyEntry) (h : Histories) : Type 0 where
  pub gains : AreGaining js later
  pub heads_in : AreHeadsIn later 0 roster.doors
  pub ways_in : All (λ (j : Joined). AreTakenIn later j.end.value.doors) js
  pub kept : AreBooksOf later h.ports.items h.desks.items
  pub of_book : IsBookOf at_book book
  pub h_roster : h.roster.items ≡ plain_entries roster.entries
  pub h_book : h.book ≡ book

-- ---- who made nothing made no entry
none_by : {L : Type 0} (by : L → ℕ) (thread : ℕ) (entries : List L) → made_by by thread entries ≡ [] → All (λ entry. by entry ≢ thread) entries
none_by by thread [] none = All-nil (λ entry. by entry ≢ thread)
none_by {L} by thread (entry ∷ entries) none = by_test (by entry == thread) refl (none_by by thread entries) none
  where
    by_test : (b : Bool) → (by entry == thread) ≡ b → (made_by by thread entries ≡ [] → All (λ e. by e ≢ thread) entries) → cond b (entry ∷ made_by by thread entries) (made_by by thread entries) ≡ [] → All (λ e. by e ≢ thread) (entry ∷ entries)
    by_test true is behind made = absurd cc
    by_test false is behind made = All-cons (λ e. by e ≢ thread) entry entries (λ same. (let bad : true ≡ false = sym (eq-eqb (by entry) thread same) ∙ is in absurd cc)) (behind made)

both : (a b : Bool) → (a && b) ≡ true → (a ≡ true) × (b ≡ true)
both true true is = (refl, refl)
both true false is = absurd cc
both false b is = absurd cc

-- a head's entries are by main, the sessions and the loopers
pub by_names : {L : Type 0} (by : L → ℕ) (sessions next : ℕ) (names : Option (List ℕ)) (entries : List L) → AreBelow sessions next names → ((ns : List ℕ) → names ≡ Some ns → All (λ entry. Contains ns (by entry)) entries) → All (λ entry. IsBelow sessions next (by entry)) entries
by_names by sessions next None entries below named = absurd below
by_names by sessions next (Some ns) entries below named =
    All-weaker (λ entry. Contains ns (by entry)) (λ entry. IsBelow sessions next (by entry)) (λ entry there. All-contains (IsBelow sessions next) ns (by entry) below there) entries (named ns refl)

-- what holds where two things hold of each
All-both : {X : Type 0} (P Q R : X → Type 0) → ((x : X) → P x → Q x → R x) → (xs : List X) → All P xs → All Q xs → All R xs
All-both P Q R tells xs ps qs = λ i d lt. tells (get_or xs i d) (ps i d lt) (qs i d lt)

-- a head's entries are by the threads that hold the door
by_holders : {L : Type 0} (by : L → ℕ) (entries : List L) (n : ℕ) (its : LooperData) (names : Option (List ℕ)) → is_some names ≡ true → IfSome names (λ ns. AreSame ns (holders n its) × (its.starter ≡ main_thread))
    → ((ns : List ℕ) → names ≡ Some ns → All (λ entry. Contains ns (by entry)) entries) → All (λ entry. Contains (holders n its) (by entry)) entries
by_holders by entries n its None some told named = absurd cc
by_holders by entries n its (Some ns) some told named =
    All-weaker (λ entry. Contains ns (by entry)) (λ entry. Contains (holders n its) (by entry)) (λ entry there. (told.0 (by entry)).0 there) entries (named ns refl)

module _ (heads : List AppHead) (main : RosterSeat) (at_book : ReplySeat) (js later : List Joined) (roster : RosterData KeptDoor Object) (book : List ReplyEntry) (h : Histories) (all : AllAreJoined heads main at_book js roster)
    (g : IsGathered js later roster at_book book h) where
  pub history : IsHistory heads (plain_entries roster.entries)
  history = subst (λ (hs : List AppHead). IsHistory hs (plain_entries roster.entries)) (roster_heads heads main at_book js roster all) all.of.legal

  pub as_many : length h.ports.items ≡ length js
  as_many = as_many_ports later h.ports.items h.desks.items g.kept ∙ g.gains.count

  -- ---- the port of a looper, with main's seat there
  pub record PortOf (n : ℕ) (port : PortData) : Type 0 where
    pub looper : Joined
    pub there : slice_get later n ≡ Some looper
    pub is : IsPortOf looper.door.port_seat port

  pub port_of : (n : ℕ) (port : PortData) → slice_get h.ports.items n ≡ Some port → PortOf n port
  port_of n port at =
      let within : n < length later = subst (λ (m : ℕ). n < m) (as_many_ports later h.ports.items h.desks.items g.kept) (slice_get_within h.ports.items n port at) in
      let j = at_place later n within in
      let kept = books_at later h.ports.items h.desks.items n j.0 g.kept j.1 in
      let same : kept.port ≡ port = (let two : Some kept.port ≡ Some port = sym kept.port_there ∙ at in cc two) in
      record { looper = j.0; there = j.1; is = subst (IsPortOf j.0.door.port_seat) same kept.port_is }

  -- the door to it that the roster kept, in whose place main's seats are the heads
  record KeeperAt (n : ℕ) (j : Joined) : Type 0 where
    kept : KeptDoor
    head : IsHeadFor kept j
    its : LooperData
    its_there : slice_get (state_of heads (plain_entries roster.entries)).loopers n ≡ Some its
    told : IsKept threads n kept its

  keeper_at : (n : ℕ) (j : Joined) → slice_get later n ≡ Some j → KeeperAt n j
  keeper_at n j there =
      let within : n < length roster.doors = subst (λ (m : ℕ). n < m) (g.gains.count ∙ sym (door_count heads main at_book js roster all)) (slice_get_within later n j there) in
      let kept = at_place roster.doors n within in
      let here : 0 + n ≡ n = omega arith in
      let told = kept_at threads 0 roster.doors (state_of roster.heads (plain_entries roster.entries)).loopers n kept.0 all.of.kept kept.1 in
      record {
        kept = kept.0;
        head = and_there (IsHeadFor kept.0) (slice_get later n) j there (subst (λ (m : ℕ). IsSomeAnd (slice_get later m) (IsHeadFor kept.0)) here (heads_at later 0 roster.doors n kept.0 g.heads_in kept.1));
        its = told.0;
        its_there = ap (λ (hs : List AppHead). slice_get (state_of hs (plain_entries roster.entries)).loopers n) (sym (roster_heads heads main at_book js roster all)) ∙ told.1;
        told = subst (λ (m : ℕ). IsKept threads m kept.0 told.0) here told.2;
      }

  -- its entries are by those that hold its door; none is the keeper's
  pub record MadeByHolders (n : ℕ) (port : PortData) : Type 0 where
    pub its : LooperData
    pub there : slice_get (state_of heads (plain_entries roster.entries)).loopers n ≡ Some its
    pub makers : All (λ (entry : PortEntry). Contains (holders n its) (ports.by_number entry)) port.entries
    pub no_keeper : All (λ (entry : PortEntry). ports.by_number entry ≢ keeper_thread) port.entries

  pub made_by_holders : (n : ℕ) (port : PortData) → slice_get h.ports.items n ≡ Some port → MadeByHolders n port
  made_by_holders n port at =
      let of = port_of n port at in
      let keeper = keeper_at n of.looper of.there in
      let kept = keeper.kept in
      let seat = kept.port_seat in
      let known = part_known ports.by_number seat of.looper.door.port_seat port.entries of.is.known keeper.head.took.at_port in
      record {
        its = keeper.its;
        there = keeper.its_there;
        makers = by_holders ports.by_number port.entries n keeper.its seat.names kept.head keeper.told (λ names are. of.is.named names (keeper.head.names ∙ are));
        no_keeper = none_by ports.by_number keeper_thread port.entries
            (ap (λ (t : ℕ). made_by ports.by_number t port.entries) (sym kept.keeper) ∙ known_is_made ports.by_number port.entries (part_of seat) known
            ∙ ap (λ (t : ℕ). made_by ports.by_number t seat.front) kept.keeper ∙ kept.keeper_idle);
      }

  -- so are those of its desk
  pub record DeskOf (n : ℕ) (desk : DeskData) : Type 0 where
    pub looper : Joined
    pub there : slice_get later n ≡ Some looper
    pub is : IsDeskOf looper.door.desk_seat desk

  pub desk_of : (n : ℕ) (desk : DeskData) → slice_get h.desks.items n ≡ Some desk → DeskOf n desk
  desk_of n desk at =
      let within : n < length later = subst (λ (m : ℕ). n < m) (as_many_desks later h.ports.items h.desks.items g.kept) (slice_get_within h.desks.items n desk at) in
      let j = at_place later n within in
      let kept = books_at later h.ports.items h.desks.items n j.0 g.kept j.1 in
      let same : kept.desk ≡ desk = (let two : Some kept.desk ≡ Some desk = sym kept.desk_there ∙ at in cc two) in
      record { looper = j.0; there = j.1; is = subst (IsDeskOf j.0.door.desk_seat) same kept.desk_is }

  pub record EditedByHolders (n : ℕ) (desk : DeskData) : Type 0 where
    pub its : LooperData
    pub there : slice_get (state_of heads (plain_entries roster.entries)).loopers n ≡ Some its
    pub makers : All (λ (entry : EntryData). Contains (holders n its) (desks.by_number entry)) desk.entries
    pub no_keeper : All (λ (entry : EntryData). desks.by_number entry ≢ keeper_thread) desk.entries

  pub edited_by_holders : (n : ℕ) (desk : DeskData) → slice_get h.desks.items n ≡ Some desk → EditedByHolders n desk
  edited_by_holders n desk at =
      let of = desk_of n desk at in
      let keeper = keeper_at n of.looper of.there in
      let kept = keeper.kept in
      let seat = kept.desk_seat in
      let known = part_known desks.by_number seat of.looper.door.desk_seat desk.entries of.is.known keeper.head.took.at_desk in
      record {
        its = keeper.its;
        there = keeper.its_there;
        makers = by_holders desks.by_number desk.entries n keeper.its keeper.kept.port_seat.names keeper.kept.head keeper.told (λ names are. of.is.named names (keeper.head.desk_names ∙ keeper.kept.names ∙ are));
        no_keeper = none_by desks.by_number keeper_thread desk.entries
            (ap (λ (t : ℕ). made_by desks.by_number t desk.entries) (sym kept.desk_keeper) ∙ known_is_made desks.by_number desk.entries (part_of seat) known
            ∙ ap (λ (t : ℕ). made_by desks.by_number t seat.front) kept.desk_keeper ∙ kept.desk_keeper_idle);
      }

  -- ---- all entries of the roster are by main, the sessions and the loopers
  module _ (sessions : ℕ) (roster_names : AreBelow sessions (length js) main.names) (told : HoldersAreTold) (launches : LaunchesHaveLoopers) where
    roster_makers : All (λ (entry : RosterEntry). IsBelow sessions (length js) entry.by.0) (plain_entries roster.entries)
    roster_makers =
        All-map (λ (entry : RosterEntry). IsBelow sessions (length js) entry.by.0) (λ (entry : EntryWithObjects Object). entry.plain) roster.entries
        (by_names rosters.by_number sessions (length js) main.names roster.entries roster_names all.of.named)

    -- a looper's own one was started before it
    own_below : (n : ℕ) (its : LooperData) → slice_get (state_of heads (plain_entries roster.entries)).loopers n ≡ Some its → its.own < length js
    own_below n its there =
        let loopers = (state_of heads (plain_entries roster.entries)).loopers in
        let within : n < length js = subst (λ (m : ℕ). n < m) (all_started heads main at_book js roster all) (slice_get_within loopers n its there) in
        let j = at_place js n within in
        let its_team = all_launched heads main at_book js roster all n j.0 j.1 in
        let entry = its_team.launch.1 in
        let keeps : HasLaunched heads loopers entry.plain.by.0 entry.plain.event =
        launches_of entry (launches heads (plain_entries roster.entries) history) its_team.launch.0 its_team.launch.2 its_team.launch.3 in
        let starts = its_team.launch.4 in
        let so : HasLaunched heads loopers entry.plain.by.0 (event.Launch starts.0 (launch.Started starts.1 its_team.facts.team its_team.facts.first)) =
        subst (λ (e : RosterEvent). HasLaunched heads loopers entry.plain.by.0 e) starts.2 keeps in
        let bounds = both _ _ its_team.of_team in
        let low = leb-true its_team.facts.first n bounds.0 in
        let high = ltb-true n (its_team.facts.first + its_team.facts.loopers) bounds.1 in
        let own = and_there (λ (l : LooperData). (l.own ≡ its_team.facts.first) × (l.starter ≡ entry.plain.by.0)) (slice_get loopers n) its there (so n low (omega (arith, high, ap (λ (hs : List AppHead). loopers_at hs starts.1) (sym its_team.heads_are) ∙ starts.3))) in
        omega (arith, own.0, low, within)
      where
        launches_of : (entry : EntryWithObjects Object) → All (λ (e : RosterEntry). HasLaunched heads (state_of heads (plain_entries roster.entries)).loopers e.by.0 e.event) (plain_entries roster.entries)
            → (i : ℕ) → i < length roster.entries → get_or roster.entries i entry ≡ entry → HasLaunched heads (state_of heads (plain_entries roster.entries)).loopers entry.plain.by.0 entry.plain.event
        launches_of entry each i lt at =
            let plain : EntryWithObjects Object → RosterEntry = λ (e : EntryWithObjects Object). e.plain in
            subst (λ (e : RosterEntry). HasLaunched heads (state_of heads (plain_entries roster.entries)).loopers e.by.0 e.event) (get_or-map plain roster.entries i entry entry.plain lt ∙ ap plain at)
            (each i entry.plain (omega (arith, length-map roster.entries plain, lt)))

    of_run : (thread : ℕ) → IsBelow sessions (length js) thread → ActsIn h sessions thread
    of_run thread below =
        ⊎_elim (λ is_main. inl (inl is_main))
        (λ rest. ⊎_elim (λ session. inr session) (λ looper. inl (inr (looper.0, subst (λ (n : ℕ). looper.0 < n) (sym as_many) looper.1, looper.2))) rest) below

    pub roster_made : All (λ (entry : RosterEntry). ActsIn h sessions entry.by.0) h.roster.items
    roster_made =
        subst (All (λ (entry : RosterEntry). ActsIn h sessions entry.by.0)) (sym g.h_roster)
        (All-weaker (λ (entry : RosterEntry). IsBelow sessions (length js) entry.by.0) (λ (entry : RosterEntry). ActsIn h sessions entry.by.0) (λ entry below. of_run entry.by.0 below) (plain_entries roster.entries) roster_makers)

    -- one that holds a looper's door, and is not the keeper
    holder_of_run : (n : ℕ) (its : LooperData) → n < length js → slice_get (state_of heads (plain_entries roster.entries)).loopers n ≡ Some its → (thread : ℕ) → Contains (holders n its) thread → thread ≢ keeper_thread → IsBelow sessions (length js) thread
    holder_of_run n its within there thread holds other =
        ⊎_elim (λ is_main. inl is_main)
        (⊎_elim (λ is_looper. inr (inr (n, within, is_looper)))
        (⊎_elim (λ is_own. inr (inr (its.own, own_below n its there, is_own)))
        (⊎_elim (λ is_keeper. absurd (other is_keeper)) (λ took. took_below took))))
        ((told heads (plain_entries roster.entries) n its history there thread).0 holds)
      where
        took_below : TookDoor (plain_entries roster.entries) n thread → IsBelow sessions (length js) thread
        took_below took = subst (IsBelow sessions (length js)) (ap (λ (e : RosterEntry). e.by.0) took.3 ∙ took.4.0) (roster_makers took.0 took.1 took.2)

    pub port_makers : (n : ℕ) → All (λ (entry : PortEntry). ActsIn h sessions entry.by.0) (port_list h n)
    port_makers n = ⊎_elim within past (slice_get_cases h.ports.items n).1
      where
        within : (port : PortData) × (n < length h.ports.items) × (slice_get h.ports.items n ≡ Some port) × (get_or h.ports.items n port ≡ port) → All (λ (entry : PortEntry). ActsIn h sessions entry.by.0) (port_list h n)
        within at =
            let made = made_by_holders n at.0 at.2 in
            let low : n < length js = omega (arith, at.1, as_many) in
            subst (λ (o : Option PortData). All (λ (entry : PortEntry). ActsIn h sessions entry.by.0) (unwrap_or (option_map (λ (port : PortData). port.entries) o) [])) (sym at.2)
            (All-both (λ (entry : PortEntry). Contains (holders n made.its) (ports.by_number entry)) (λ (entry : PortEntry). ports.by_number entry ≢ keeper_thread) (λ (entry : PortEntry). ActsIn h sessions entry.by.0)
            (λ entry holds other. of_run (ports.by_number entry) (holder_of_run n made.its low made.there (ports.by_number entry) holds other)) at.0.entries made.makers made.no_keeper)

        past : (length h.ports.items ≤ n) × (slice_get h.ports.items n ≡ None) → All (λ (entry : PortEntry). ActsIn h sessions entry.by.0) (port_list h n)
        past at =
            subst (λ (o : Option PortData). All (λ (entry : PortEntry). ActsIn h sessions entry.by.0) (unwrap_or (option_map (λ (port : PortData). port.entries) o) [])) (sym at.1) (All-nil (λ (entry : PortEntry). ActsIn h sessions entry.by.0))

    pub desk_makers : (n : ℕ) → All (λ (entry : EntryData). ActsIn h sessions (desk_maker entry)) (desk_list h n)
    desk_makers n = ⊎_elim within past (slice_get_cases h.desks.items n).1
      where
        within : (desk : DeskData) × (n < length h.desks.items) × (slice_get h.desks.items n ≡ Some desk) × (get_or h.desks.items n desk ≡ desk) → All (λ (entry : EntryData). ActsIn h sessions (desk_maker entry)) (desk_list h n)
        within at =
            let made = edited_by_holders n at.0 at.2 in
            let low : n < length js = omega (arith, at.1, as_many_desks later h.ports.items h.desks.items g.kept, g.gains.count) in
            subst (λ (o : Option DeskData). All (λ (entry : EntryData). ActsIn h sessions (desk_maker entry)) (unwrap_or (option_map (λ (desk : DeskData). desk.entries) o) [])) (sym at.2)
            (All-both (λ (entry : EntryData). Contains (holders n made.its) (desks.by_number entry)) (λ (entry : EntryData). desks.by_number entry ≢ keeper_thread) (λ (entry : EntryData). ActsIn h sessions (desk_maker entry))
            (λ entry holds other. of_run (desks.by_number entry) (holder_of_run n made.its low made.there (desks.by_number entry) holds other)) at.0.entries made.makers made.no_keeper)

        past : (length h.desks.items ≤ n) × (slice_get h.desks.items n ≡ None) → All (λ (entry : EntryData). ActsIn h sessions (desk_maker entry)) (desk_list h n)
        past at =
            subst (λ (o : Option DeskData). All (λ (entry : EntryData). ActsIn h sessions (desk_maker entry)) (unwrap_or (option_map (λ (desk : DeskData). desk.entries) o) [])) (sym at.1) (All-nil (λ (entry : EntryData). ActsIn h sessions (desk_maker entry)))

    pub book_makers : AreBelow sessions (length js) at_book.names → All (λ (entry : ReplyEntry). ActsIn h sessions entry.by.0) h.book
    book_makers names =
        subst (All (λ (entry : ReplyEntry). ActsIn h sessions entry.by.0)) (sym g.h_book)
        (All-weaker (λ (entry : ReplyEntry). IsBelow sessions (length js) (books.maker_of entry)) (λ (entry : ReplyEntry). ActsIn h sessions entry.by.0) (λ entry below. of_run (books.maker_of entry) below) book
        (by_names books.maker_of sessions (length js) at_book.names book names g.of_book.named))
