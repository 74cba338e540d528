-- Main's acts, one after another, and what they add at each object.
use Rattle.std.proofs.Common.{◌≡◌, ◌≢◌, ℕ, zero, suc, ◌<◌, cond, List, [], ◌∷◌, ◌++◌, length, map, All, refl, sym, ap, ◌∙◌, subst, append_assoc, append-nil, eq-eqb, ne_eqb, arith}
use Rattle.std.specs.Prelude.{set}
use Rattle.std.specs.List.{flat_map}
use Rattle.std.proofs.lemmas.List.Concat.{flat_map-append}
use Rattle.std.proofs.lemmas.List.Elements.{All-append, All-cons, All-head, All-nil, All-tail}
use mathlib.Core.Logic.{dite}
use native.Mathlib.Decide.{ℕ_discrete}
use Rattle.ak_base.specs.Thread.{main_thread}
use Rattle.ak_turn.specs.Entries.{StartsWith}
use Rattle.ak_turn.specs.Noted.{Noted, noted}
use Rattle.ak_turn.proofs.Surface.{seen_still, starts_itself, starts_then_starts}
use Rattle.ak_roster.specs.declared.entry.RosterEntry.{RosterEntry}
use Rattle.ak_port.specs.declared.port_entry.PortEntry.{PortEntry}
use Rattle.ak_port.specs.declared.reply_entry.ReplyEntry.{ReplyEntry}
use Rattle.ak_port.specs.PortCalls as at_ports
use Rattle.ak_port.specs.ReplySeats as at_books
use Rattle.ak_diary.specs.Step.{AreStamped, Step, at_port, book_entries, book_entry, book_sight, book_sights, desk_entries, desk_entry, port_entries, port_entry, port_sight, port_sights, roster_entries, roster_entry, roster_sight, roster_sights, saw_roster, time_of}
use Rattle.ak_headline.specs.Main.{IsAct, IsMainDiary, begun, enters_port, finds_gone, went_on}
use Rattle.ak_looper.specs.Rosters.{maker_of}
use Rattle.ak_looper.proofs.Surface.{stamped_on, time_on}
use Rattle.ak_team.specs.InTime.{AreInTime, AreNotesInTime}
use Rattle.ak_run.specs.Recording.{Fronts, GoesBy, IsRecorded, Records, RecordsSo, fronts, list_at}
use Rattle.ak_team.proofs.Surface.{May}
use Rattle.ak_gather.proofs.Surface.{nothing_after}

-- ---- steps
pub diary-append : (xs ys : List Step) → IsMainDiary xs → IsMainDiary ys → IsMainDiary (xs ++ ys)
diary-append xs _ one begun = subst IsMainDiary (sym (append-nil xs)) one
diary-append xs _ one (went_on so_far act diary is) = subst IsMainDiary (append_assoc xs so_far act) (went_on (xs ++ so_far) act (diary-append xs so_far one diary) is)

pub one_act : (act : List Step) → IsAct act → IsMainDiary act
one_act act is = went_on [] act begun is

-- what was noted before, then by these steps, and then by those
pub then_those : {X : Type 0} (f : Step → List X) (xs ys : List Step) (a b c : List X) → b ≡ a ++ flat_map f xs → c ≡ b ++ flat_map f ys → c ≡ a ++ flat_map f (xs ++ ys)
then_those f xs ys a b c one two = two ∙ ap (λ l. l ++ flat_map f ys) one ∙ append_assoc a (flat_map f xs) (flat_map f ys) ∙ ap (λ l. a ++ l) (sym (flat_map-append f xs ys))

-- in time by these steps, and then by those
pub in_time_then : (a b c : ℕ) (xs ys : List Step) → AreInTime a xs b → AreInTime b ys c → AreInTime a (xs ++ ys) c
in_time_then a b c xs ys one two = record {
  stamped = stamped_on a xs ys one.stamped (subst (λ (t : ℕ). AreStamped t ys) (sym one.time_is) two.stamped);
  time_is = time_on a xs ys ∙ ap (λ (t : ℕ). time_of t ys) one.time_is ∙ two.time_is;
}

-- what was seen by these steps, and then by those
pub seen_then : {X : Type 0} (f : Step → List (List X)) (xs ys : List Step) (b c : List X) → StartsWith c b → All (StartsWith b) (flat_map f xs) → All (StartsWith c) (flat_map f ys) → All (StartsWith c) (flat_map f (xs ++ ys))
seen_then f xs ys b c on one two =
    subst (All (StartsWith c)) (sym (flat_map-append f xs ys)) (All-append (StartsWith c) (flat_map f xs) (flat_map f ys) (seen_still b c (flat_map f xs) on one) two)

pub goes_then : (xs ys : List Step) (a b c : Fronts) → GoesBy xs a b → GoesBy ys b c → GoesBy (xs ++ ys) a c
goes_then xs ys a b c one two = record {
  acts = diary-append xs ys one.acts two.acts;
  in_time = in_time_then a.time b.time c.time xs ys one.in_time two.in_time;
  roster_on = starts_then_starts a.roster b.roster c.roster one.roster_on two.roster_on;
  roster_seen = seen_then roster_sight xs ys b.roster c.roster two.roster_on one.roster_seen two.roster_seen;
  roster = then_those roster_entry xs ys (noted maker_of main_thread a.roster) (noted maker_of main_thread b.roster) (noted maker_of main_thread c.roster) one.roster two.roster;
  book = then_those book_entry xs ys (noted at_books.maker_of main_thread a.book) (noted at_books.maker_of main_thread b.book) (noted at_books.maker_of main_thread c.book) one.book two.book;
  book_on = starts_then_starts a.book b.book c.book one.book_on two.book_on;
  book_seen = seen_then book_sight xs ys b.book c.book two.book_on one.book_seen two.book_seen;
  ports_on = λ looper. starts_then_starts (list_at a.ports looper) (list_at b.ports looper) (list_at c.ports looper) (one.ports_on looper) (two.ports_on looper);
  ports_seen = λ looper. seen_then (port_sight looper) xs ys (list_at b.ports looper) (list_at c.ports looper) (two.ports_on looper) (one.ports_seen looper) (two.ports_seen looper);
  ports = λ looper.
      then_those (port_entry looper) xs ys (noted at_ports.by_number main_thread (list_at a.ports looper)) (noted at_ports.by_number main_thread (list_at b.ports looper)) (noted at_ports.by_number main_thread (list_at c.ports looper))
      (one.ports looper) (two.ports looper);
}

-- acts and then acts
pub records_then : (a b c : Fronts) → Records a b → Records b c → Records a c
records_then a b c one two = record {
  steps = one.steps ++ two.steps;
  goes = goes_then one.steps two.steps a b c one.goes two.goes;
  no_edits = λ looper. nothing_after (desk_entry looper) one.steps two.steps (one.no_edits looper) (two.no_edits looper);
}

-- acts of the one kind and then of the other
pub records_so_then : (P Q S : List Step → Type 0) (a b c : Fronts) → ((xs ys : List Step) → P xs → Q ys → S (xs ++ ys)) → RecordsSo P a b → RecordsSo Q b c → RecordsSo S a c
records_so_then P Q S a b c tells one two = record {
  steps = one.steps ++ two.steps;
  so = tells one.steps two.steps one.so two.so;
  goes = goes_then one.steps two.steps a b c one.goes two.goes;
  no_edits = λ looper. nothing_after (desk_entry looper) one.steps two.steps (one.no_edits looper) (two.no_edits looper);
}

-- acts of which one thing holds are acts of which another does
pub records_so_as : (P Q : List Step → Type 0) (a b : Fronts) → ((steps : List Step) → P steps → Q steps) → RecordsSo P a b → RecordsSo Q a b
records_so_as P Q a b tells one = record { steps = one.steps; so = tells one.steps one.so; goes = one.goes; no_edits = one.no_edits }

-- whatever holds of them
pub records_any : (P : List Step → Type 0) (a b : Fronts) → RecordsSo P a b → Records a b
records_any P a b one = record { steps = one.steps; goes = one.goes; no_edits = one.no_edits }

-- main's diary goes on by them
pub recorded_on : (steps more : List Step) (a b : Fronts) → GoesBy more a b → IsRecorded steps a → IsRecorded (steps ++ more) b
recorded_on steps more a b goes is = record {
  diary = diary-append steps more is.diary goes.acts;
  in_time = in_time_then 0 a.time b.time steps more is.in_time goes.in_time;
  roster_seen = seen_then roster_sight steps more a.roster b.roster goes.roster_on is.roster_seen goes.roster_seen;
  ports_seen = λ looper. seen_then (port_sight looper) steps more (list_at a.ports looper) (list_at b.ports looper) (goes.ports_on looper) (is.ports_seen looper) (goes.ports_seen looper);
  roster = then_those roster_entry steps more [] (noted maker_of main_thread a.roster) (noted maker_of main_thread b.roster) is.roster goes.roster;
  book = then_those book_entry steps more [] (noted at_books.maker_of main_thread a.book) (noted at_books.maker_of main_thread b.book) is.book goes.book;
  book_seen = seen_then book_sight steps more a.book b.book goes.book_on is.book_seen goes.book_seen;
  ports = λ looper. then_those (port_entry looper) steps more [] (noted at_ports.by_number main_thread (list_at a.ports looper)) (noted at_ports.by_number main_thread (list_at b.ports looper)) (is.ports looper) (goes.ports looper);
}

-- no act: main made no entry
pub nothing_goes : (a b : Fronts) → b.time ≡ a.time → noted maker_of main_thread b.roster ≡ noted maker_of main_thread a.roster → StartsWith b.roster a.roster → noted at_books.maker_of main_thread b.book ≡ noted at_books.maker_of main_thread a.book → StartsWith b.book a.book
    → ((looper : ℕ) → noted at_ports.by_number main_thread (list_at b.ports looper) ≡ noted at_ports.by_number main_thread (list_at a.ports looper)) → ((looper : ℕ) → StartsWith (list_at b.ports looper) (list_at a.ports looper)) → GoesBy [] a b
nothing_goes a b time roster roster_on book on ports ports_on = record {
  acts = begun;
  in_time = record { stamped = tt; time_is = sym time };
  roster_on = roster_on;
  roster_seen = All-nil (StartsWith b.roster);
  ports_on = ports_on;
  ports_seen = λ looper. All-nil (StartsWith (list_at b.ports looper));
  roster = roster ∙ sym (append-nil (noted maker_of main_thread a.roster));
  book = book ∙ sym (append-nil (noted at_books.maker_of main_thread a.book));
  book_on = on;
  book_seen = All-nil (StartsWith b.book);
  ports = λ looper. ports looper ∙ sym (append-nil (noted at_ports.by_number main_thread (list_at a.ports looper)));
}

pub same_goes : (a b : Fronts) → b ≡ a → GoesBy [] a b
same_goes a b same = subst (GoesBy [] a) (sym same) (nothing_goes a a refl refl (starts_itself a.roster) refl (starts_itself a.book) (λ looper. refl) (λ looper. starts_itself (list_at a.ports looper)))

-- what main saw of the roster, without an entry there
pub sees_roster : (team : ℕ) (a b : Fronts) → GoesBy [] a b → GoesBy (saw_roster b.roster ∷ []) a b
sees_roster team a b quiet = record {
  acts = one_act (saw_roster b.roster ∷ []) (finds_gone team tt b.roster refl);
  in_time = record { stamped = (tt, tt); time_is = quiet.in_time.time_is };
  roster = quiet.roster;
  roster_on = quiet.roster_on;
  roster_seen = All-cons (StartsWith b.roster) b.roster [] (starts_itself b.roster) (All-nil (StartsWith b.roster));
  book = quiet.book;
  book_on = quiet.book_on;
  book_seen = quiet.book_seen;
  ports = quiet.ports;
  ports_on = quiet.ports_on;
  ports_seen = quiet.ports_seen;
}

pub same_fronts : (a b : Fronts) → b ≡ a → Records a b
same_fronts a b same = record { steps = []; goes = same_goes a b same; no_edits = λ looper. refl }

-- no act at all
pub so_same : (P : List Step → Type 0) (a : Fronts) → P [] → RecordsSo P a a
so_same P a none = record { steps = []; so = none; goes = same_goes a a refl; no_edits = λ looper. refl }

-- ---- at the book and at one port
-- from one time to the other the lists of both went on by these steps, from main's seats there
pub record GoesAtBoth (looper time later : ℕ) (steps : List Step) (book book' : List ReplyEntry) (port port' : List PortEntry) : Type 0 where
  pub in_time : AreInTime time steps later
  pub roster_none : roster_entries steps ≡ []
  pub roster_unseen : roster_sights steps ≡ []
  pub noted_book : noted at_books.maker_of main_thread book' ≡ noted at_books.maker_of main_thread book ++ book_entries steps
  pub book_on : StartsWith book' book
  pub book_seen : All (StartsWith book') (book_sights steps)
  pub noted_port : noted at_ports.by_number main_thread port' ≡ noted at_ports.by_number main_thread port ++ port_entries looper steps
  pub port_on : StartsWith port' port
  pub port_seen : All (StartsWith port') (port_sights looper steps)
  pub elsewhere : (other : ℕ) → other ≢ looper → port_entries other steps ≡ []
  pub unseen_elsewhere : (other : ℕ) → other ≢ looper → port_sights other steps ≡ []
  pub no_edits : (other : ℕ) → desk_entries other steps ≡ []

module _ (looper : ℕ) where
  pub both_then : (xs ys : List Step) (t t1 t2 : ℕ) (b b1 b2 : List ReplyEntry) (p p1 p2 : List PortEntry) → GoesAtBoth looper t t1 xs b b1 p p1 → GoesAtBoth looper t1 t2 ys b1 b2 p1 p2 → GoesAtBoth looper t t2 (xs ++ ys) b b2 p p2
  both_then xs ys t t1 t2 b b1 b2 p p1 p2 one two = record {
    in_time = in_time_then t t1 t2 xs ys one.in_time two.in_time;
    roster_none = nothing_after roster_entry xs ys one.roster_none two.roster_none;
    roster_unseen = nothing_after roster_sight xs ys one.roster_unseen two.roster_unseen;
    port_on = starts_then_starts p p1 p2 one.port_on two.port_on;
    port_seen = seen_then (port_sight looper) xs ys p1 p2 two.port_on one.port_seen two.port_seen;
    unseen_elsewhere = λ other differ. nothing_after (port_sight other) xs ys (one.unseen_elsewhere other differ) (two.unseen_elsewhere other differ);
    noted_book = then_those book_entry xs ys (noted at_books.maker_of main_thread b) (noted at_books.maker_of main_thread b1) (noted at_books.maker_of main_thread b2) one.noted_book two.noted_book;
    book_on = starts_then_starts b b1 b2 one.book_on two.book_on;
    book_seen = seen_then book_sight xs ys b1 b2 two.book_on one.book_seen two.book_seen;
    noted_port = then_those (port_entry looper) xs ys (noted at_ports.by_number main_thread p) (noted at_ports.by_number main_thread p1) (noted at_ports.by_number main_thread p2) one.noted_port two.noted_port;
    elsewhere = λ other differ. nothing_after (port_entry other) xs ys (one.elsewhere other differ) (two.elsewhere other differ);
    no_edits = λ other. nothing_after (desk_entry other) xs ys (one.no_edits other) (two.no_edits other);
  }

  -- such entries
  abbrev pub steps_there : List (Noted PortEntry) → List Step
  steps_there notes = map (at_port looper) notes

  pub there_diary : (notes : List (Noted PortEntry)) → All May notes → IsMainDiary (steps_there notes)
  there_diary [] may = begun
  there_diary (n ∷ ns) may =
      diary-append (at_port looper n ∷ []) (steps_there ns) (one_act (at_port looper n ∷ []) (enters_port looper n.entry.event (All-head May n ns may) (record { noted = n; event_is = refl; is = refl }))) (there_diary ns (All-tail May n ns may))

  there_all : (notes : List (Noted PortEntry)) → port_entries looper (steps_there notes) ≡ notes
  there_all [] = refl
  there_all (n ∷ ns) = ap (λ b. cond b (n ∷ []) [] ++ port_entries looper (steps_there ns)) (eq-eqb looper looper refl) ∙ ap (λ l. n ∷ l) (there_all ns)

  there_alone : (other : ℕ) → other ≢ looper → (notes : List (Noted PortEntry)) → port_entries other (steps_there notes) ≡ []
  there_alone other differ [] = refl
  there_alone other differ (n ∷ ns) = ap (λ b. cond b (n ∷ []) [] ++ port_entries other (steps_there ns)) (ne_eqb looper other (λ same. differ (sym same))) ∙ there_alone other differ ns

  no_edit : (other : ℕ) (notes : List (Noted PortEntry)) → desk_entries other (steps_there notes) ≡ []
  no_edit other [] = refl
  no_edit other (n ∷ ns) = no_edit other ns

  pub no_roster : (notes : List (Noted PortEntry)) → roster_entries (steps_there notes) ≡ []
  no_roster [] = refl
  no_roster (n ∷ ns) = no_roster ns

  pub no_book : (notes : List (Noted PortEntry)) → book_entries (steps_there notes) ≡ []
  no_book [] = refl
  no_book (n ∷ ns) = no_book ns

  no_sight : (notes : List (Noted PortEntry)) → book_sights (steps_there notes) ≡ []
  no_sight [] = refl
  no_sight (n ∷ ns) = no_sight ns

  no_roster_sight : (notes : List (Noted PortEntry)) → roster_sights (steps_there notes) ≡ []
  no_roster_sight [] = refl
  no_roster_sight (n ∷ ns) = no_roster_sight ns

  no_port_sight : (other : ℕ) (notes : List (Noted PortEntry)) → port_sights other (steps_there notes) ≡ []
  no_port_sight other [] = refl
  no_port_sight other (n ∷ ns) = no_port_sight other ns

  there_in_time : (time later : ℕ) (notes : List (Noted PortEntry)) → AreNotesInTime time notes later → AreInTime time (steps_there notes) later
  there_in_time time later [] same = record { stamped = tt; time_is = same }
  there_in_time time later (n ∷ ns) is =
      let rest = there_in_time n.entry.stamp later ns is.1 in
      record { stamped = (is.0, rest.stamped); time_is = rest.time_is }

  pub adds_there : (time later : ℕ) (notes : List (Noted PortEntry)) (book : List ReplyEntry) (p p' : List PortEntry) → AreNotesInTime time notes later → StartsWith p' p → noted at_ports.by_number main_thread p' ≡ noted at_ports.by_number main_thread p ++ notes
      → GoesAtBoth looper time later (steps_there notes) book book p p'
  adds_there time later notes book p p' in_time on is = record {
    in_time = there_in_time time later notes in_time;
    roster_none = no_roster notes;
    roster_unseen = no_roster_sight notes;
    port_on = on;
    port_seen = subst (All (StartsWith p')) (sym (no_port_sight looper notes)) (All-nil (StartsWith p'));
    unseen_elsewhere = λ other differ. no_port_sight other notes;
    noted_book = sym (ap (λ l. noted at_books.maker_of main_thread book ++ l) (no_book notes) ∙ append-nil (noted at_books.maker_of main_thread book));
    book_on = ([], sym (append-nil book));
    book_seen = subst (All (StartsWith book)) (sym (no_sight notes)) (All-nil (StartsWith book));
    noted_port = is ∙ ap (λ l. noted at_ports.by_number main_thread p ++ l) (sym (there_all notes));
    elsewhere = λ other differ. there_alone other differ notes;
    no_edits = λ other. no_edit other notes;
  }

  -- so main's seats go on, where that port alone went on
  pub both_goes : (steps : List Step) (time later : ℕ) (roster : List RosterEntry) (book book' : List ReplyEntry) (ports ports' : List (List PortEntry)) → IsMainDiary steps → GoesAtBoth looper time later steps book book' (list_at ports looper) (list_at ports' looper)
      → ((other : ℕ) → other ≢ looper → list_at ports' other ≡ list_at ports other) → GoesBy steps (fronts time roster book ports) (fronts later roster book' ports')
  both_goes steps time later roster book book' ports ports' acts goes others = record {
    acts = acts;
    in_time = goes.in_time;
    roster_on = starts_itself roster;
    roster_seen = subst (All (StartsWith roster)) (sym goes.roster_unseen) (All-nil (StartsWith roster));
    ports_on = λ other. dite (ℕ_discrete other looper)
        (λ same. subst (λ (n : ℕ). StartsWith (list_at ports' n) (list_at ports n)) (sym same) goes.port_on)
        (λ differ. ([], others other differ ∙ sym (append-nil (list_at ports other))));
    ports_seen = λ other. dite (ℕ_discrete other looper)
        (λ same. subst (λ (n : ℕ). All (StartsWith (list_at ports' n)) (port_sights n steps)) (sym same) goes.port_seen)
        (λ differ. subst (All (StartsWith (list_at ports' other))) (sym (goes.unseen_elsewhere other differ)) (All-nil (StartsWith (list_at ports' other))));
    roster = sym (ap (λ l. noted maker_of main_thread roster ++ l) goes.roster_none ∙ append-nil (noted maker_of main_thread roster));
    book = goes.noted_book;
    book_on = goes.book_on;
    book_seen = goes.book_seen;
    ports = λ other. dite (ℕ_discrete other looper)
        (λ same. subst (λ (n : ℕ). noted at_ports.by_number main_thread (list_at ports' n) ≡ noted at_ports.by_number main_thread (list_at ports n) ++ port_entries n steps) (sym same) goes.noted_port)
        (λ differ. ap (noted at_ports.by_number main_thread) (others other differ) ∙ sym (ap (λ l. noted at_ports.by_number main_thread (list_at ports other) ++ l) (goes.elsewhere other differ) ∙ append-nil (noted at_ports.by_number main_thread (list_at ports other))));
  }

-- ---- one port of the list
-- behind those
pub seam_other : (xs ys : List (List PortEntry)) (x y : List PortEntry) (other : ℕ) → other ≢ length xs → list_at (xs ++ y ∷ ys) other ≡ list_at (xs ++ x ∷ ys) other
seam_other [] ys x y zero differ = absurd (differ refl)
seam_other [] ys x y (suc other) differ = refl
seam_other (z ∷ xs) ys x y zero differ = refl
seam_other (z ∷ xs) ys x y (suc other) differ = seam_other xs ys x y other (λ same. differ (ap suc same))

pub push_other : (xs : List (List PortEntry)) (x : List PortEntry) (other : ℕ) → other ≢ length xs → list_at (xs ++ x ∷ []) other ≡ list_at xs other
push_other [] x zero differ = absurd (differ refl)
push_other [] x (suc other) differ = refl
push_other (z ∷ xs) x zero differ = refl
push_other (z ∷ xs) x (suc other) differ = push_other xs x other (λ same. differ (ap suc same))

pub none_behind : (xs : List (List PortEntry)) → list_at xs (length xs) ≡ []
none_behind [] = refl
none_behind (x ∷ xs) = none_behind xs

-- among those before others
pub set_before : (xs ys : List (List PortEntry)) (place : ℕ) (x : List PortEntry) → place < length xs → set xs place x ++ ys ≡ set (xs ++ ys) place x
set_before [] ys place x within = absurd (omega (arith, within))
set_before (z ∷ xs) ys zero x within = refl
set_before (z ∷ xs) ys (suc place) x within = ap (λ l. z ∷ l) (set_before xs ys place x (omega (arith, within)))
