-- What is known of each looper and of each session, and of the run.
use Rattle.std.proofs.Common.{◌≡◌, ◌≤◌, ℕ, arith, List, refl, subst, sym, ap, ◌∙◌}
use Rattle.ak_base.specs.Limits.{looper_limit}
use Rattle.ak_roster.specs.declared.head.AppHead.{AppHead}
use Rattle.ak_diary.specs.declared.histories.Histories.{Histories}
use Rattle.ak_gather.specs.Ending.{IsRunOfLoopers}
use Rattle.ak_gather.specs.Gathering.{AreHeadsIn, AreKeptIn}
use Rattle.ak_run.specs.Sessions.{session_count, told_in}
use Rattle.ak_roster.specs.Roster.{plain_entries}
use Rattle.ak_team.specs.Launching.{Book}
use Rattle.ak_run.proofs.Endings.{as_many, book_below, joined_all, roster_below}
use Rattle.ak_gather.proofs.Surface.{knows_further, IsGathered, kept_leads, ways_lead, all_gain_further, heads_still, of_all, taken_later, ways_later, ways_of_all, is_run}
use Rattle.ak_run.proofs.SlotsStand.{all_closed_at, all_stood}
use Rattle.ak_run.proofs.ToldOfSessions.{sessions_done, sessions_lead}
use Rattle.ak_run.proofs.MainDone.{ends_as, ends_by_others, run_done}
use Rattle.ak_run.proofs.Opened.{were_opened}
use Rattle.ak_run.proofs.run.Run.gathered.Goals as goal

-- there are no more loopers than there is room for
room : (last taken between first members capacity : ℕ) → last ≡ taken → taken ≡ between → between ≡ first → first ≡ members → members ≤ looper_limit → looper_limit ≤ capacity → last ≤ capacity
room last taken between first members capacity a b c d few fits = omega (arith, a, b, c, d, few, fits)

pub join_slots-doors-requires-clause-closed : goal.join_slots-doors-requires-clause-closed
join_slots-doors-requires-clause-closed g c =
    let r = c.args.self in
    let runs = c.requires.running in
    all_closed_at runs.heads r.shared r.slots c.deref-3.result.now c.deref-4.result.now runs.stands.sessions c.requires.closed (sym c.deref-3.ensures) (sym c.deref-4.ensures)

pub join_slots-doors-requires-clause-no_ways : goal.join_slots-doors-requires-clause-no_ways
join_slots-doors-requires-clause-no_ways g c = c.requires.running.stands.sessions.no_ways

pub join_slots-doors-requires-clause-room : goal.join_slots-doors-requires-clause-room
join_slots-doors-requires-clause-room g c = c.requires.running.stands.sessions.room

pub take_kept-requires-clause-there : goal.take_kept-requires-clause-there
take_kept-requires-clause-there g c =
    let r = c.args.self in
    let runs = c.requires.running in
    let all = c.join_all in
    let with = c.join_slots-doors in
    let js = all.new.all.loopers.items in
    let kept = c.keep_roster-roster.result in
    let joined = joined_all r runs all.new.roster_seat all.ensures.roster js all.ensures.numbers with.new.roster_seat all.new.book_seat with.new.book_seat kept with.ensures.roster with.ensures.book (all.ensures.joined runs.heads r.shared runs.stands.each) c.keep_roster-roster.ensures in
    subst (AreKeptIn js 0) (sym c.take_doors.ensures.doors) (kept_leads runs.heads with.new.roster_seat with.new.book_seat js kept joined)

pub take_kept-requires-clause-no_heads : goal.take_kept-requires-clause-no_heads
take_kept-requires-clause-no_heads g c =
    let runs = c.requires.running in
    c.join_all.ensures.no_heads runs.heads c.args.self.shared runs.stands.each

pub take_all_ways-requires : goal.take_all_ways-requires
take_all_ways-requires g c =
    let r = c.args.self in
    let runs = c.requires.running in
    let all = c.join_all in
    let with = c.join_slots-doors in
    let js = all.new.all.loopers.items in
    let kept = c.keep_roster-roster.result in
    let joined = joined_all r runs all.new.roster_seat all.ensures.roster js all.ensures.numbers with.new.roster_seat all.new.book_seat with.new.book_seat kept with.ensures.roster with.ensures.book (all.ensures.joined runs.heads r.shared runs.stands.each) c.keep_roster-roster.ensures in
    record { there = ways_of_all js c.take_kept.new.loopers.items all.new.all.ways.items all.ensures.ways c.take_kept.ensures.gaining (ways_lead runs.heads with.new.roster_seat with.new.book_seat js kept joined) }

pub take_all_ways-requires-2 : goal.take_all_ways-requires-2
take_all_ways-requires-2 g c =
    let r = c.args.self in
    let runs = c.requires.running in
    let all = c.join_all in
    let with = c.join_slots-doors in
    let js = all.new.all.loopers.items in
    let kept = c.keep_roster-roster.result in
    let joined = joined_all r runs all.new.roster_seat all.ensures.roster js all.ensures.numbers with.new.roster_seat all.new.book_seat with.new.book_seat kept with.ensures.roster with.ensures.book (all.ensures.joined runs.heads r.shared runs.stands.each) c.keep_roster-roster.ensures in
    let lead = sessions_lead runs.heads with.new.roster_seat with.new.book_seat js kept joined (told_in r.slots) with.result.items with.ensures.joined (all_stood runs.heads r.shared r.slots runs.stands.sessions) in
    record { there = ways_later js c.take_all_ways.new.loopers.items with.result.items (all_gain_further js c.take_kept.new.loopers.items c.take_all_ways.new.loopers.items c.take_kept.ensures.gaining c.take_all_ways.ensures.gaining) lead }

pub keep_all-requires-clause-room_for_ports : goal.keep_all-requires-clause-room_for_ports
keep_all-requires-clause-room_for_ports g c =
    let runs = c.requires.running in
    let all = c.join_all in
    room _ _ _ _ _ _ c.take_all_ways-2.ensures.gaining.count c.take_all_ways.ensures.gaining.count c.take_kept.ensures.gaining.count (as_many c.args.self runs all.new.roster_seat all.ensures.roster all.new.all.loopers.items all.ensures.numbers) runs.stands.few runs.stands.ready.for_ports

pub keep_all-requires-clause-room_for_desks : goal.keep_all-requires-clause-room_for_desks
keep_all-requires-clause-room_for_desks g c =
    let runs = c.requires.running in
    let all = c.join_all in
    room _ _ _ _ _ _ c.take_all_ways-2.ensures.gaining.count c.take_all_ways.ensures.gaining.count c.take_kept.ensures.gaining.count (as_many c.args.self runs all.new.roster_seat all.ensures.roster all.new.all.loopers.items all.ensures.numbers) runs.stands.few runs.stands.ready.for_desks

pub returns : goal.returns
returns g c =
    let r = c.args.self in
    let runs = c.requires.running in
    let all = c.join_all in
    let with = c.join_slots-doors in
    let main = with.new.roster_seat in
    let at_book = with.new.book_seat in
    let on = knows_further r.roster_seat all.new.roster_seat main all.ensures.roster with.ensures.roster in
    let on_book = knows_further r.hands.book_seat all.new.book_seat at_book all.ensures.book with.ensures.book in
    let js = all.new.all.loopers.items in
    let kept = c.keep_roster-roster.result in
    let joined = joined_all r runs all.new.roster_seat all.ensures.roster js all.ensures.numbers main all.new.book_seat at_book kept with.ensures.roster with.ensures.book (all.ensures.joined runs.heads r.shared runs.stands.each) c.keep_roster-roster.ensures in
    let book = c.keep_book-book.result in
    let h : Histories = record { roster = c.into_entries.result; book = book; ports = c.keep_all.new.ports; desks = c.keep_all.new.desks } in
    let first = c.take_kept.new.loopers.items in
    let second = c.take_all_ways.new.loopers.items in
    let last = c.take_all_ways-2.new.loopers.items in
    let after = all_gain_further first second last c.take_all_ways.ensures.gaining c.take_all_ways-2.ensures.gaining in
    let gains = all_gain_further js first last c.take_kept.ensures.gaining after in
    let h_roster = c.into_entries.ensures ∙ ap (λ (b : Book). plain_entries b.entries) c.take_doors.ensures.after in
    let ends =
    ends_by_others r runs.heads main at_book kept book js last h on on_book joined.joined all.ensures.fronts all.ensures.desk_fronts gains c.keep_all.ensures c.keep_roster-roster.ensures c.keep_book-book.ensures.ends h_roster refl in
    let same = ends_as r h ends in
    let gathered : IsGathered js last kept at_book book h = record {
      gains = gains;
      heads_in = heads_still first last 0 kept.doors after (subst (AreHeadsIn first 0) c.take_doors.ensures.doors c.take_kept.ensures.heads);
      ways_in = of_all js last all.new.all.ways.items all.ensures.ways (taken_later second last all.new.all.ways.items c.take_all_ways-2.ensures.gaining c.take_all_ways.ensures.taken);
      kept = c.keep_all.ensures;
      of_book = c.keep_book-book.ensures;
      h_roster = h_roster;
      h_book = refl;
    } in
    record {
      run =
          subst (λ (heads : List AppHead). IsRunOfLoopers heads c.from_vec.result (session_count r) h) runs.stands.heads_are
          (is_run runs.heads main at_book js last kept book h joined gathered (session_count r)
          (roster_below r runs all.new.roster_seat all.ensures.roster js all.ensures.numbers main with.ensures.roster) (book_below r runs all.new.roster_seat all.ensures.roster js all.ensures.numbers at_book on_book)
          c.holders_are_told.ensures.holders c.holders_are_told.ensures.strangers c.seats_tell_strangers.ensures.entries c.loopers_are_of_their_teams.ensures.owns c.loopers_are_of_their_teams.ensures.launches
          c.from_vec.result (c.from_vec.ensures ∙ all.ensures.short));
      apps = refl;
      done = run_done r h ends;
      same = same;
      opened = were_opened r runs.heads runs.stands main at_book js last h joined.joined all.ensures.jobs joined.numbers gains c.keep_all.ensures same;
      sessions = sessions_done runs.heads main at_book js last kept book h joined gathered r.shared r.slots runs.stands.sessions with.result.items with.ensures.joined c.take_all_ways-2.ensures.taken c.holders_are_told.ensures.strangers c.seats_tell_strangers.ensures.entries;
    }
