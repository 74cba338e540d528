-- The roster's book, of which contracts see what it keeps.
use Rattle.std.specs.Vec.{vec_capacity}
use Rattle.ak_roster.specs.declared.book.RosterBook.TheInside.{Inside}
use Rattle.ak_roster.specs.Kept.{Kept}

abbrev pub kept_inside : {D P O : Type 0} → Inside D P O → Kept D
kept_inside book =
    record {
      heads = book.heads.items;
      running = book.running.items;
      teams = book.teams;
      loopers = book.loopers;
      entries = book.entries.items;
      room = vec_capacity book.entries;
      taken = book.taken.value.items;
      doors = book.doors.items;
    }
