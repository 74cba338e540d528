-- Main's turn at the roster: how many loopers its own entries start, and how its seat goes on.
use Rattle.std.proofs.Common.{◌≡◌, ◌≢◌, ℕ, ◌+◌, ◌≤◌, false, List, [], ◌∷◌, ◌++◌, length, cond, refl, sym, ap, ◌∙◌, subst, append_assoc, append-nil, eq-eqb, arith, All, Option}
use Rattle.std.proofs.lemmas.List.Elements.{All-head, All-map, All-nil, All-tail, filter-append}
use Rattle.ak_base.specs.Thread.{main_thread}
use Rattle.ak_turn.specs.Called.{KeepsSeat}
use Rattle.ak_turn.specs.Entries.{AreByOthers, StartsWith, made_by}
use Rattle.ak_turn.specs.Noted.{noted}
use Rattle.ak_turn.specs.Seats.{HasSeen, IsGiven, KnowsWhole, at_leisure, entered_by}
use Rattle.ak_turn.proofs.Surface.{keeps_same, noted-others, passing_keeps, seen_keeps, seen_starts, turn_keeps}
use Rattle.ak_roster.specs.declared.head.AppHead.{AppHead}
use Rattle.ak_roster.specs.declared.entry.EntryWithObjects.{EntryWithObjects}
use Rattle.ak_roster.specs.declared.entry.RosterEntry.{RosterEntry}
use Rattle.ak_roster.specs.declared.entry.RosterEvent.{RosterEvent}
use Rattle.ak_roster.specs.Kept.{count_of}
use Rattle.ak_roster.specs.Roster.{plain_entries}
use Rattle.ak_looper.specs.Rosters.{Object, RosterSeat, by_number, maker_of, plain_of}
use Rattle.ak_looper.proofs.Surface.{made_on}
use Rattle.ak_looper.specs.Counting.{started_by_main, started_in}
use Rattle.ak_team.specs.Launching.{Book, HasEntered}
use Rattle.ak_team.proofs.Surface.{plain-append}

abbrev Entries : Type 0
Entries = List (EntryWithObjects Object)

-- ---- how many loopers entries start
module _ (heads : List AppHead) where
  regroup : (a b c : ℕ) → a + (b + c) ≡ (a + b) + c
  regroup a b c = omega arith

  none_before : (n : ℕ) → n ≡ 0 + n
  none_before n = omega arith

  started-append : (xs ys : List RosterEntry) → started_in heads (xs ++ ys) ≡ started_in heads xs + started_in heads ys
  started-append [] ys = none_before (started_in heads ys)
  started-append (x ∷ xs) ys = ap (λ n. count_of heads x.event + n) (started-append xs ys) ∙ regroup (count_of heads x.event) (started_in heads xs) (started_in heads ys)

-- what the thread made itself is all its own
made_own : (thread : ℕ) (xs : List RosterEntry) → All (λ (entry : RosterEntry). entry.by.0 ≡ thread) xs → made_by maker_of thread xs ≡ xs
made_own thread [] all = refl
made_own thread (x ∷ xs) all =
    ap (λ b. cond b (x ∷ made_by maker_of thread xs) (made_by maker_of thread xs)) (eq-eqb x.by.0 thread (All-head (λ (entry : RosterEntry). entry.by.0 ≡ thread) x xs all))
    ∙ ap (λ l. x ∷ l) (made_own thread xs (All-tail (λ (entry : RosterEntry). entry.by.0 ≡ thread) x xs all))

made_in_all : (thread : ℕ) (front between added : Entries) → AreByOthers by_number thread between → All (λ (entry : EntryWithObjects Object). entry.plain.by.0 ≡ thread) added
    → made_by maker_of thread (plain_entries ((front ++ between) ++ added)) ≡ made_by maker_of thread (plain_entries front) ++ plain_entries added
made_in_all thread front between added others mine =
    let plain = λ (entry : EntryWithObjects Object). entry.plain in
    ap (made_by maker_of thread) (plain-append (front ++ between) added ∙ ap (λ l. l ++ plain_entries added) (plain-append front between))
    ∙ filter-append _ (plain_entries front ++ plain_entries between) (plain_entries added)
    ∙ ap (λ l. l ++ made_by maker_of thread (plain_entries added)) (made_on maker_of thread (plain_entries front) (plain_entries between) (All-map (λ (entry : RosterEntry). entry.by.0 ≢ thread) plain between others))
    ∙ ap (λ l. made_by maker_of thread (plain_entries front) ++ l) (made_own thread (plain_entries added) (All-map (λ (entry : RosterEntry). entry.by.0 ≡ thread) plain added mine))

-- ---- main's seat goes on, by entries that start so many loopers
pub record RosterOn (heads : List AppHead) (more : ℕ) (seat seat' : RosterSeat) : Type 0 where
  pub keeps : KeepsSeat seat seat'
  pub on : StartsWith seat'.front seat.front
  pub started : started_by_main heads seat' ≡ started_by_main heads seat + more
  pub known : KnowsWhole by_number seat'

-- it saw more, without a turn
module _ (seat seat' : RosterSeat) (thread : seat.thread ≡ main_thread) (seen : HasSeen by_number seat seat') where
  others_alone : AreByOthers by_number main_thread seen.between
  others_alone = subst (λ (t : ℕ). AreByOthers by_number t seen.between) thread seen.others

  seen_front : seat'.front ≡ seat.front ++ seen.between
  seen_front = ap (λ (t : RosterSeat). t.front) seen.after

  pub sees_on : (heads : List AppHead) → (KnowsWhole by_number seat → KnowsWhole by_number seat') → KnowsWhole by_number seat → RosterOn heads 0 seat seat'
  sees_on heads knows known = record {
    keeps = seen_keeps by_number seat seat' seen;
    on = seen_starts by_number seat seat' seen;
    started =
        ap (λ (l : Entries). started_in heads (made_by maker_of main_thread (plain_entries l))) (seen_front ∙ sym (append-nil (seat.front ++ seen.between)))
        ∙ ap (started_in heads)
        (made_in_all main_thread seat.front seen.between [] others_alone (All-nil (λ (entry : EntryWithObjects Object). entry.plain.by.0 ≡ main_thread)) ∙ append-nil (made_by maker_of main_thread (plain_entries seat.front)))
        ∙ none_more (started_by_main heads seat);
    known = knows known;
  }
    where
      none_more : (n : ℕ) → n ≡ n + 0
      none_more n = omega arith

  -- of main's own there is nothing more
  pub sees_no_more : noted maker_of main_thread (plain_of seat') ≡ noted maker_of main_thread (plain_of seat)
  sees_no_more =
      let plain = λ (entry : EntryWithObjects Object). entry.plain in
      ap (λ (l : Entries). noted maker_of main_thread (plain_entries l)) seen_front ∙ ap (noted maker_of main_thread) (plain-append seat.front seen.between)
      ∙ noted-others maker_of main_thread (plain_entries seat.front) (plain_entries seen.between) (All-map (λ (entry : RosterEntry). entry.by.0 ≢ main_thread) plain seen.between others_alone)

module _ (seat given seat' : RosterSeat) (book book' : Book) (more : ℕ) (idle : seat.turn ≡ false) (thread : seat.thread ≡ main_thread) (seen : IsGiven by_number seat given) (known : KnowsWhole by_number given)
    (list : book.entries ≡ given.front) (what : Option RosterEvent) (entered : HasEntered what more book book') (same : book'.entries ≡ given.front → seat' ≡ at_leisure given)
    (one : (x : EntryWithObjects Object) → book'.entries ≡ given.front ++ x ∷ [] → seat' ≡ at_leisure (entered_by given x)) (knows : KnowsWhole by_number given → KnowsWhole by_number seat') where
  after : (added : Entries) → length added ≤ 1 → book'.entries ≡ given.front ++ added → (seat'.front ≡ given.front ++ added) × KeepsSeat seat seat'
  after [] few is =
      let left = same (is ∙ append-nil given.front) in
      (ap (λ (t : RosterSeat). t.front) left ∙ sym (append-nil given.front), turn_keeps by_number seat given seat' idle seen (keeps_same (at_leisure given) seat' left))
  after (x ∷ []) few is =
      let left = one x is in
      (ap (λ (t : RosterSeat). t.front) left, turn_keeps by_number seat given seat' idle seen (passing_keeps x given seat' left))
  after (x ∷ y ∷ zs) few is = absurd (omega (arith, few))

  grown : book'.entries ≡ given.front ++ entered.added
  grown = entered.entries ∙ ap (λ (l : Entries). l ++ entered.added) list

  before : given.front ≡ seat.front ++ seen.between
  before = ap (λ (t : RosterSeat). t.front) seen.after

  pub front_is : seat'.front ≡ (seat.front ++ seen.between) ++ entered.added
  front_is = (after entered.added entered.one grown).0 ∙ ap (λ (l : Entries). l ++ entered.added) before

  -- the list that the turn left is what it has seen
  pub sees_all : seat'.front ≡ book'.entries
  sees_all = (after entered.added entered.one grown).0 ∙ sym grown

  pub goes_on : RosterOn book.heads more seat seat'
  goes_on = record {
    keeps = (after entered.added entered.one grown).1;
    on = (seen.between ++ entered.added, front_is ∙ append_assoc seat.front seen.between entered.added);
    started =
        ap (λ (l : Entries). started_in book.heads (made_by maker_of main_thread (plain_entries l))) front_is
        ∙ ap (started_in book.heads) (made_in_all main_thread seat.front seen.between entered.added (subst (λ (t : ℕ). AreByOthers by_number t seen.between) thread seen.others) entered.by_main)
        ∙ started-append book.heads (made_by maker_of main_thread (plain_entries seat.front)) (plain_entries entered.added)
        ∙ ap (λ n. started_in book.heads (made_by maker_of main_thread (plain_entries seat.front)) + n) entered.starts;
    known = knows known;
  }

  -- at the turn it has started as many as before
  pub started_at_turn : started_in book.heads (made_by maker_of main_thread (plain_entries book.entries)) ≡ started_by_main book.heads seat
  started_at_turn =
      ap (λ (l : Entries). started_in book.heads (made_by maker_of main_thread (plain_entries l))) (list ∙ before ∙ sym (append-nil (seat.front ++ seen.between)))
      ∙ ap (started_in book.heads) (made_in_all main_thread seat.front seen.between [] (subst (λ (t : ℕ). AreByOthers by_number t seen.between) thread seen.others) (λ i d lt. absurd (omega (arith, lt))) ∙ append-nil (made_by maker_of main_thread (plain_entries seat.front)))
