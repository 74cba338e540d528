-- What a thread did at the book and at one port, by no step, by one, and by steps behind others.
use Rattle.std.proofs.Common.{◌≡◌, ℕ, Bool, List, [], ◌∷◌, ◌++◌, All, cond, refl, sym, ap, ◌∙◌, subst, append_assoc, append-nil, eq-eqb}
use Rattle.std.proofs.lemmas.List.Concat.{flat_map-append}
use Rattle.std.proofs.lemmas.List.Elements.{All-append, All-cons, All-nil}
use Rattle.ak_turn.specs.declared.clock.Clock.{Clock}
use Rattle.ak_turn.specs.Called.{KeepsSeat}
use Rattle.ak_turn.specs.Entries.{StartsWith}
use Rattle.ak_turn.specs.Noted.{Noted, note, noted}
use Rattle.ak_turn.specs.Seats.{SeatData, HasCalled, HasSeen}
use Rattle.ak_turn.proofs.Surface.{called_keeps, called_notes_one, called_starts, keeps_itself, keeps_then_keeps, seen_keeps, seen_notes_nothing, seen_starts, seen_still, starts_itself, starts_then_starts}
use Rattle.ak_port.specs.declared.port_entry.PortEntry.{PortEntry}
use Rattle.ak_port.specs.declared.port_entry.PortEvent.{PortEvent}
use Rattle.ak_port.specs.declared.reply_entry.ReplyEntry.{ReplyEntry}
use Rattle.ak_port.specs.declared.reply_entry.ReplyEvent.{ReplyEvent}
use Rattle.ak_port.specs.PortCalls as ports
use Rattle.ak_port.specs.PortCalls.{PortSeat}
use Rattle.ak_port.specs.ReplySeats as books
use Rattle.ak_port.specs.ReplySeats.{ReplySeat}
use Rattle.ak_diary.specs.Step.{Step, at_book, at_port, saw_book, saw_port, lacked, AreStamped, book_entries, book_entry, book_sight, book_sights, port_entries, port_entry, port_sight, port_sights, time_after, time_of}
use Rattle.ak_looper.specs.Side.{Side, SideDoes, SideGoes, IsOnSide, side}

-- ---- stamps of steps behind others
pub time_behind : (time : ℕ) (xs ys : List Step) → time_of time (xs ++ ys) ≡ time_of (time_of time xs) ys
time_behind time [] ys = refl
time_behind time (step ∷ xs) ys = time_behind (time_after time step) xs ys

pub stamped_behind : (time : ℕ) (xs ys : List Step) → AreStamped time xs → AreStamped (time_of time xs) ys → AreStamped time (xs ++ ys)
stamped_behind time [] ys one two = two
stamped_behind time (step ∷ xs) ys one two = (one.0, stamped_behind (time_after time step) xs ys one.1 two)

-- ---- one seat
module _ {O L : Type 0} where
  module _ (by : L → ℕ) where
    -- the seat went on, and its thread made those entries
    pub record SeatGoes (made : List (Noted L)) (a b : SeatData O L) : Type 0 where
      pub keeps : KeepsSeat a b
      pub on : StartsWith b.front a.front
      pub noted_is : noted by b.thread b.front ≡ noted by a.thread a.front ++ made

    pub stays : (a b : SeatData O L) → b ≡ a → SeatGoes [] a b
    stays a b same = subst (λ (s : SeatData O L). SeatGoes [] a s) (sym same) (record { keeps = keeps_itself a; on = starts_itself a.front; noted_is = sym (append-nil (noted by a.thread a.front)) })

    pub looks : (a b : SeatData O L) → HasSeen by a b → SeatGoes [] a b
    looks a b seen = record {
      keeps = seen_keeps by a b seen;
      on = seen_starts by a b seen;
      noted_is = seen_notes_nothing by a b seen ∙ sym (append-nil (noted by a.thread a.front));
    }

    pub calls : (entry : L) (before : List L) (a b : SeatData O L) → HasCalled by entry a b → b.front ≡ before ++ entry ∷ [] → SeatGoes (note before entry ∷ []) a b
    calls entry before a b call front = record {
      keeps = called_keeps by entry a b call;
      on = called_starts by entry a b call;
      noted_is = called_notes_one by entry before a b call front;
    }

-- ---- at its own port a step is an entry there
port_of_one : (looper : ℕ) (n : Noted PortEntry) → port_entries looper (at_port looper n ∷ []) ≡ n ∷ []
port_of_one looper n = ap (λ (b : Bool). cond b (n ∷ []) [] ++ []) (eq-eqb looper looper refl)

sight_of_one : (looper : ℕ) (seen : List PortEntry) → port_sights looper (saw_port looper seen ∷ []) ≡ seen ∷ []
sight_of_one looper seen = ap (λ (b : Bool). cond b (seen ∷ []) [] ++ []) (eq-eqb looper looper refl)

-- what a call noted
abbrev pub noted_there : (clock clock' : Clock) (e : PortEvent) (a b : PortSeat) → ports.HasEntered clock clock' e a b → Noted PortEntry
noted_there clock clock' e a b entered = note entered.before (ports.entry_now clock entered.before e)

abbrev pub noted_in_book : (clock clock' : Clock) (e : ReplyEvent) (a b : ReplySeat) → books.HasEntered clock clock' e a b → Noted ReplyEntry
noted_in_book clock clock' e a b entered = note entered.before (books.entry_now clock entered.before e)

-- ---- both
module _ (looper : ℕ) where
  pub does_as : (P Q : List Step → Type 0) (a b : Side) → ((steps : List Step) → P steps → Q steps) → SideDoes looper P a b → SideDoes looper Q a b
  does_as P Q a b turned done = record { steps = done.steps; does = turned done.steps done.does; goes = done.goes }

  -- nothing was done
  pub goes_nothing : (clock clock' : Clock) (book book' : ReplySeat) (port port' : PortSeat) → clock' ≡ clock → SeatGoes books.maker_of [] book book' → SeatGoes ports.by_number [] port port' → SideGoes looper [] (side clock book port) (side clock' book' port')
  goes_nothing clock clock' book book' port port' same by_book by_port = record {
    on_side = All-nil (IsOnSide looper);
    thread = ap (λ (c : Clock). c.thread) same;
    stamped = tt;
    time = ap (λ (c : Clock). c.time) (sym same);
    keeps_book = by_book.keeps;
    keeps_port = by_port.keeps;
    book_on = by_book.on;
    port_on = by_port.on;
    book_noted = by_book.noted_is;
    port_noted = by_port.noted_is;
    book_seen = All-nil (StartsWith book'.front);
    port_seen = All-nil (StartsWith port'.front);
  }

  -- but that memory was wanting
  pub goes_lacking : (a b : Side) → SideGoes looper [] a b → SideGoes looper (lacked ∷ []) a b
  goes_lacking a b goes = record {
    on_side = All-cons (IsOnSide looper) lacked [] tt (All-nil (IsOnSide looper));
    thread = goes.thread;
    stamped = (tt, tt);
    time = goes.time;
    keeps_book = goes.keeps_book;
    keeps_port = goes.keeps_port;
    book_on = goes.book_on;
    port_on = goes.port_on;
    book_noted = goes.book_noted;
    port_noted = goes.port_noted;
    book_seen = goes.book_seen;
    port_seen = goes.port_seen;
  }

  -- but that the list was seen
  pub goes_seeing_book : (a b : Side) → SideGoes looper [] a b → SideGoes looper (saw_book b.book.front ∷ []) a b
  goes_seeing_book a b goes = record {
    on_side = All-cons (IsOnSide looper) (saw_book b.book.front) [] tt (All-nil (IsOnSide looper));
    thread = goes.thread;
    stamped = (tt, tt);
    time = goes.time;
    keeps_book = goes.keeps_book;
    keeps_port = goes.keeps_port;
    book_on = goes.book_on;
    port_on = goes.port_on;
    book_noted = goes.book_noted;
    port_noted = goes.port_noted;
    book_seen = All-cons (StartsWith b.book.front) b.book.front [] (starts_itself b.book.front) (All-nil (StartsWith b.book.front));
    port_seen = goes.port_seen;
  }

  pub goes_seeing_port : (a b : Side) → SideGoes looper [] a b → SideGoes looper (saw_port looper b.port.front ∷ []) a b
  goes_seeing_port a b goes = record {
    on_side = All-cons (IsOnSide looper) (saw_port looper b.port.front) [] refl (All-nil (IsOnSide looper));
    thread = goes.thread;
    stamped = (tt, tt);
    time = goes.time;
    keeps_book = goes.keeps_book;
    keeps_port = goes.keeps_port;
    book_on = goes.book_on;
    port_on = goes.port_on;
    book_noted = goes.book_noted;
    port_noted = goes.port_noted;
    book_seen = goes.book_seen;
    port_seen =
        subst (All (StartsWith b.port.front)) (sym (sight_of_one looper b.port.front))
        (All-cons (StartsWith b.port.front) b.port.front [] (starts_itself b.port.front) (All-nil (StartsWith b.port.front)));
  }

  -- one entry
  pub goes_at_port : (clock clock' : Clock) (e : PortEvent) (book : ReplySeat) (port port' : PortSeat) (entered : ports.HasEntered clock clock' e port port')
      → SideGoes looper (at_port looper (noted_there clock clock' e port port' entered) ∷ []) (side clock book port) (side clock' book port')
  goes_at_port clock clock' e book port port' entered =
      let n = noted_there clock clock' e port port' entered in
      let there = calls ports.by_number (ports.entry_now clock entered.before e) entered.before port port' entered.called entered.front in
      record {
        on_side = All-cons (IsOnSide looper) (at_port looper n) [] refl (All-nil (IsOnSide looper));
        thread = ap (λ (c : Clock). c.thread) entered.clocked;
        stamped = (refl, tt);
        time = ap (λ (c : Clock). c.time) (sym entered.clocked);
        keeps_book = keeps_itself book;
        keeps_port = there.keeps;
        book_on = starts_itself book.front;
        port_on = there.on;
        book_noted = sym (append-nil (noted books.maker_of book.thread book.front));
        port_noted = there.noted_is ∙ ap (λ (l : List (Noted PortEntry)). noted ports.by_number port.thread port.front ++ l) (sym (port_of_one looper n));
        book_seen = All-nil (StartsWith book.front);
        port_seen = All-nil (StartsWith port'.front);
      }

  pub goes_at_book : (clock clock' : Clock) (e : ReplyEvent) (book book' : ReplySeat) (port : PortSeat) (entered : books.HasEntered clock clock' e book book')
      → SideGoes looper (at_book (noted_in_book clock clock' e book book' entered) ∷ []) (side clock book port) (side clock' book' port)
  goes_at_book clock clock' e book book' port entered =
      let n = noted_in_book clock clock' e book book' entered in
      let there = calls books.maker_of (books.entry_now clock entered.before e) entered.before book book' entered.called entered.front in
      record {
        on_side = All-cons (IsOnSide looper) (at_book n) [] tt (All-nil (IsOnSide looper));
        thread = ap (λ (c : Clock). c.thread) entered.clocked;
        stamped = (refl, tt);
        time = ap (λ (c : Clock). c.time) (sym entered.clocked);
        keeps_book = there.keeps;
        keeps_port = keeps_itself port;
        book_on = there.on;
        port_on = starts_itself port.front;
        book_noted = there.noted_is;
        port_noted = sym (append-nil (noted ports.by_number port.thread port.front));
        book_seen = All-nil (StartsWith book'.front);
        port_seen = All-nil (StartsWith port.front);
      }

  -- ---- steps behind others
  pub goes_then : (xs ys : List Step) (a b c : Side) → SideGoes looper xs a b → SideGoes looper ys b c → SideGoes looper (xs ++ ys) a c
  goes_then xs ys a b c one two = record {
    on_side = All-append (IsOnSide looper) xs ys one.on_side two.on_side;
    thread = two.thread ∙ one.thread;
    stamped = stamped_behind a.clock.time xs ys one.stamped (subst (λ (t : ℕ). AreStamped t ys) (sym one.time) two.stamped);
    time = time_behind a.clock.time xs ys ∙ ap (λ (t : ℕ). time_of t ys) one.time ∙ two.time;
    keeps_book = keeps_then_keeps a.book b.book c.book one.keeps_book two.keeps_book;
    keeps_port = keeps_then_keeps a.port b.port c.port one.keeps_port two.keeps_port;
    book_on = starts_then_starts a.book.front b.book.front c.book.front one.book_on two.book_on;
    port_on = starts_then_starts a.port.front b.port.front c.port.front one.port_on two.port_on;
    book_noted =
        two.book_noted ∙ ap (λ (l : List (Noted ReplyEntry)). l ++ book_entries ys) one.book_noted
        ∙ append_assoc (noted books.maker_of a.book.thread a.book.front) (book_entries xs) (book_entries ys)
        ∙ ap (λ (l : List (Noted ReplyEntry)). noted books.maker_of a.book.thread a.book.front ++ l) (sym (flat_map-append book_entry xs ys));
    port_noted =
        two.port_noted ∙ ap (λ (l : List (Noted PortEntry)). l ++ port_entries looper ys) one.port_noted
        ∙ append_assoc (noted ports.by_number a.port.thread a.port.front) (port_entries looper xs) (port_entries looper ys)
        ∙ ap (λ (l : List (Noted PortEntry)). noted ports.by_number a.port.thread a.port.front ++ l) (sym (flat_map-append (port_entry looper) xs ys));
    book_seen =
        subst (All (StartsWith c.book.front)) (sym (flat_map-append book_sight xs ys))
        (All-append (StartsWith c.book.front) (book_sights xs) (book_sights ys) (seen_still b.book.front c.book.front (book_sights xs) two.book_on one.book_seen) two.book_seen);
    port_seen =
        subst (All (StartsWith c.port.front)) (sym (flat_map-append (port_sight looper) xs ys))
        (All-append (StartsWith c.port.front) (port_sights looper xs) (port_sights looper ys) (seen_still b.port.front c.port.front (port_sights looper xs) two.port_on one.port_seen) two.port_seen);
  }
