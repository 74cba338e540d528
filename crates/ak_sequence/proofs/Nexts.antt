-- The next entry that a thread makes is that of the next step of its diary that makes one.
use Rattle.std.proofs.Common.{◌≡◌, ◌∙◌, ℕ, List, [], ◌∷◌, ◌++◌, refl, sym, ap, subst}
use Rattle.ak_turn.specs.Noted.{Noted}
use Rattle.ak_roster.specs.declared.entry.RosterEntry.{RosterEntry}
use Rattle.ak_port.specs.declared.port_entry.PortEntry.{PortEntry}
use Rattle.ak_port.specs.declared.reply_entry.ReplyEntry.{ReplyEntry}
use Rattle.ak_port.specs.declared.reply_entry.ReplyEvent.{ReplyEvent}
use Rattle.ak_action.specs.declared.state.DeskState.{DeskState}
use Rattle.ak_desk.specs.Entry.{EntryData}
use Rattle.ak_diary.specs.Step.{Step, at_roster, at_book, at_port, at_desk, saw_roster, saw_book, saw_port, lacked, desk_entries, desk_entry, port_entries, port_entry}
use Rattle.ak_journal.specs.declared.entry.Entry.{Entry}
use Rattle.ak_journal.specs.declared.entry.Event.TheVariants as event
use Rattle.ak_journal.specs.declared.entry.ObjectName.{ObjectName}
use Rattle.ak_journal.specs.declared.entry.ObjectName.TheVariants as object
use Rattle.ak_sequence.specs.Laws.{entries_in, entry_in}
use Rattle.ak_world.specs.Merged.{roster_entry}
use Rattle.ak_sequence.proofs.Doing.{Does, DoesAll, DoesAtBook, Doing}
use Rattle.ak_sequence.proofs.Passing.{book_named, desk_named, port_named}

-- ---- the next step that makes an entry
module _ (short : List ℕ) (openings : ℕ → DeskState) (thread : ℕ) (e : Entry) (rest : List Entry) (last : Doing) where
  pub record NextOf (d : Doing) (steps : List Step) : Type 0 where
    pub step : Step
    pub more : List Step
    pub entry_is : entry_in step ≡ e ∷ []
    pub rest_is : rest ≡ entries_in more
    pub ports : (looper : ℕ) → port_entries looper steps ≡ port_entry looper step ++ port_entries looper more
    pub desks : (looper : ℕ) → desk_entries looper steps ≡ desk_entry looper step ++ desk_entries looper more
    pub between : Doing
    pub does : Does short openings thread d step between
    pub does_all : DoesAll short openings thread between more last

  -- it is the first one
  made : (d : Doing) (step : Step) (x : Entry) (steps : List Step) → entry_in step ≡ x ∷ [] → e ∷ rest ≡ x ∷ entries_in steps → DoesAll short openings thread d (step ∷ steps) last → NextOf d (step ∷ steps)
  made d step x steps entry_is is all =
      let same : e ≡ x = cc is in
      let others : rest ≡ entries_in steps = cc is in
      record {
        step = step;
        more = steps;
        entry_is = entry_is ∙ ap (λ (z : Entry). z ∷ []) (sym same);
        rest_is = others;
        ports = λ looper. refl;
        desks = λ looper. refl;
        between = all.0;
        does = all.1;
        does_all = all.2;
      }

  -- the first one makes none
  passed : (d : Doing) (step : Step) (steps : List Step) → ((looper : ℕ) → port_entry looper step ≡ []) → ((looper : ℕ) → desk_entry looper step ≡ []) → NextOf d steps → NextOf d (step ∷ steps)
  passed d step steps no_port no_desk it = record {
    step = it.step;
    more = it.more;
    entry_is = it.entry_is;
    rest_is = it.rest_is;
    ports = λ looper. ap (λ l. l ++ port_entries looper steps) (no_port looper) ∙ it.ports looper;
    desks = λ looper. ap (λ l. l ++ desk_entries looper steps) (no_desk looper) ∙ it.desks looper;
    between = it.between;
    does = it.does;
    does_all = it.does_all;
  }

  pub next_of : (steps : List Step) (d : Doing) → e ∷ rest ≡ entries_in steps → DoesAll short openings thread d steps last → NextOf d steps
  next_of [] d is all = absurd (cc is)
  next_of (at_roster n ∷ steps) d is all = made d (at_roster n) (roster_entry n.entry) steps refl is all
  next_of (at_book n ∷ steps) d is all = made d (at_book n) (book_named n.entry) steps refl is all
  next_of (at_port number n ∷ steps) d is all = made d (at_port number n) (port_named number n.entry) steps refl is all
  next_of (at_desk number n ∷ steps) d is all = made d (at_desk number n) (desk_named number n.entry) steps refl is all
  next_of (saw_roster seen ∷ steps) d is all = passed d (saw_roster seen) steps (λ looper. refl) (λ looper. refl) (next_of steps d is (subst (λ (x : Doing). DoesAll short openings thread x steps last) all.1 all.2))
  next_of (saw_book seen ∷ steps) d is all = passed d (saw_book seen) steps (λ looper. refl) (λ looper. refl) (next_of steps d is (subst (λ (x : Doing). DoesAll short openings thread x steps last) all.1 all.2))
  next_of (saw_port number seen ∷ steps) d is all = passed d (saw_port number seen) steps (λ looper. refl) (λ looper. refl) (next_of steps d is (subst (λ (x : Doing). DoesAll short openings thread x steps last) all.1 all.2))
  next_of (lacked ∷ steps) d is all = passed d lacked steps (λ looper. refl) (λ looper. refl) (next_of steps d is (subst (λ (x : Doing). DoesAll short openings thread x steps last) all.1 all.2))

-- ---- its object is that of the entry
abbrev object_of : Entry → ObjectName
object_of e = e.object

one_object : (x y : Entry) → x ∷ [] ≡ y ∷ [] → x.object ≡ y.object
one_object x y is = let same : x ≡ y = cc is in ap object_of same

module _ (short : List ℕ) (openings : ℕ → DeskState) (thread : ℕ) (d d' : Doing) where
  pub record Elsewhere (step : Step) : Type 0 where
    pub no_port : (looper : ℕ) → port_entry looper step ≡ []
    pub no_desk : (looper : ℕ) → desk_entry looper step ≡ []

  pub roster_next : (x : RosterEntry) (step : Step) → entry_in step ≡ roster_entry x ∷ [] → Does short openings thread d step d' → Elsewhere step × (d' ≡ d)
  roster_next x (at_roster n) is does = (record { no_port = λ looper. refl; no_desk = λ looper. refl }, does)
  roster_next x (at_book n) is does = let clash : object.Book ≡ object.Roster = one_object (book_named n.entry) (roster_entry x) is in absurd (cc clash)
  roster_next x (at_port number n) is does = let clash : object.Port number ≡ object.Roster = one_object (port_named number n.entry) (roster_entry x) is in absurd (cc clash)
  roster_next x (at_desk number n) is does = let clash : object.Desk number ≡ object.Roster = one_object (desk_named number n.entry) (roster_entry x) is in absurd (cc clash)
  roster_next x (saw_roster seen) is does = absurd (cc is)
  roster_next x (saw_book seen) is does = absurd (cc is)
  roster_next x (saw_port number seen) is does = absurd (cc is)
  roster_next x lacked is does = absurd (cc is)

  pub book_next : (x : ReplyEntry) (step : Step) → entry_in step ≡ book_named x ∷ [] → Does short openings thread d step d' → Elsewhere step × DoesAtBook short openings thread d x.event d'
  book_next x (at_roster n) is does = let clash : object.Roster ≡ object.Book = one_object (roster_entry n.entry) (book_named x) is in absurd (cc clash)
  book_next x (at_book n) is does =
      let same : book_named n.entry ≡ book_named x = cc is in
      let both : event.Book n.entry.event ≡ event.Book x.event = ap (λ (e : Entry). e.event) same in
      let event_is : n.entry.event ≡ x.event = cc both in
      (record { no_port = λ looper. refl; no_desk = λ looper. refl }, subst (λ (e : ReplyEvent). DoesAtBook short openings thread d e d') event_is does)
  book_next x (at_port number n) is does = let clash : object.Port number ≡ object.Book = one_object (port_named number n.entry) (book_named x) is in absurd (cc clash)
  book_next x (at_desk number n) is does = let clash : object.Desk number ≡ object.Book = one_object (desk_named number n.entry) (book_named x) is in absurd (cc clash)
  book_next x (saw_roster seen) is does = absurd (cc is)
  book_next x (saw_book seen) is does = absurd (cc is)
  book_next x (saw_port number seen) is does = absurd (cc is)
  book_next x lacked is does = absurd (cc is)

pub port_next : (number : ℕ) (x : PortEntry) (step : Step) → entry_in step ≡ port_named number x ∷ [] → (n : Noted PortEntry) × (step ≡ at_port number n)
port_next number x (at_roster n) is = let clash : object.Roster ≡ object.Port number = one_object (roster_entry n.entry) (port_named number x) is in absurd (cc clash)
port_next number x (at_book n) is = let clash : object.Book ≡ object.Port number = one_object (book_named n.entry) (port_named number x) is in absurd (cc clash)
port_next number x (at_port looper n) is =
    let both : object.Port looper ≡ object.Port number = one_object (port_named looper n.entry) (port_named number x) is in
    let same : looper ≡ number = cc both in
    (n, ap (λ (k : ℕ). at_port k n) same)
port_next number x (at_desk looper n) is = let clash : object.Desk looper ≡ object.Port number = one_object (desk_named looper n.entry) (port_named number x) is in absurd (cc clash)
port_next number x (saw_roster seen) is = absurd (cc is)
port_next number x (saw_book seen) is = absurd (cc is)
port_next number x (saw_port looper seen) is = absurd (cc is)
port_next number x lacked is = absurd (cc is)

pub desk_next : (number : ℕ) (x : EntryData) (step : Step) → entry_in step ≡ desk_named number x ∷ [] → (n : Noted EntryData) × (step ≡ at_desk number n)
desk_next number x (at_roster n) is = let clash : object.Roster ≡ object.Desk number = one_object (roster_entry n.entry) (desk_named number x) is in absurd (cc clash)
desk_next number x (at_book n) is = let clash : object.Book ≡ object.Desk number = one_object (book_named n.entry) (desk_named number x) is in absurd (cc clash)
desk_next number x (at_port looper n) is = let clash : object.Port looper ≡ object.Desk number = one_object (port_named looper n.entry) (desk_named number x) is in absurd (cc clash)
desk_next number x (at_desk looper n) is =
    let both : object.Desk looper ≡ object.Desk number = one_object (desk_named looper n.entry) (desk_named number x) is in
    let same : looper ≡ number = cc both in
    (n, ap (λ (k : ℕ). at_desk k n) same)
desk_next number x (saw_roster seen) is = absurd (cc is)
desk_next number x (saw_book seen) is = absurd (cc is)
desk_next number x (saw_port looper seen) is = absurd (cc is)
desk_next number x lacked is = absurd (cc is)
