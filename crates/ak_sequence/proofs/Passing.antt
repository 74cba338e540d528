-- How a list passes over the objects: each entry is the first of what is to come at its object, and a step of that object.
use Rattle.std.proofs.Common.{◌≡◌, ℕ, ◌<◌, ◌==◌, Bool, true, false, cond, List, [], ◌∷◌, map, length, None, refl, sym, subst, eqb-true}
use Rattle.ak_base.specs.Thread.{looper_thread}
use Rattle.ak_roster.specs.declared.head.AppHead.{AppHead}
use Rattle.ak_roster.specs.declared.entry.RosterEntry.{RosterEntry}
use Rattle.ak_roster.specs.Machine.{IsLegal, after}
use Rattle.ak_port.specs.declared.port_entry.PortEntry.{PortEntry}
use Rattle.ak_port.specs.declared.reply_entry.ReplyEntry.{ReplyEntry}
use Rattle.ak_port.specs.PortMachine.{PortStep, state_after}
use Rattle.ak_port.specs.Reply as books
use Rattle.ak_action.specs.declared.state.DeskState.{DeskState}
use Rattle.ak_desk.specs.Entry.{EntryData}
use Rattle.ak_desk.specs.Machine.{DeskStep, counted}
use Rattle.ak_journal.specs.declared.entry.Entry.{Entry}
use Rattle.ak_journal.specs.declared.entry.ObjectName.{ObjectName}
use Rattle.ak_journal.specs.declared.entry.ObjectName.TheVariants as object
use Rattle.ak_world.specs.Merged.{book_entry, desk_entry, port_entry, roster_entry}
use Rattle.ak_world.specs.World.{IsItem, MayAct, ObjectStep, Objects, put}

-- ---- things by numbers
-- what holds at one number, and as before at each other, holds at all
module _ {A B : Type 0} (P : ℕ → A → B → Type 0) (number : ℕ) (a : A) (b : B) (f : ℕ → A) (g : ℕ → B) (here : P number a b) (there : (other : ℕ) → (other == number) ≡ false → P other (f other) (g other)) where
  at_each : (other : ℕ) (c : Bool) → (other == number) ≡ c → P other (cond c a (f other)) (cond c b (g other))
  at_each other true e = subst (λ (n : ℕ). P n a b) (sym (eqb-true other number e)) here
  at_each other false e = there other e

  pub put_each : (other : ℕ) → P other (put number a f other) (put number b g other)
  put_each other = at_each other (other == number) refl

-- ---- what is to come at each object
pub record Rests : Type 0 where
  pub roster : List RosterEntry
  pub book : List ReplyEntry
  pub ports : ℕ → List PortEntry
  pub desks : ℕ → List EntryData

abbrev pub book_named : ReplyEntry → Entry
book_named entry = book_entry object.Book entry

abbrev pub port_named : ℕ → PortEntry → Entry
port_named number entry = port_entry (object.Port number) entry

abbrev pub desk_named : ℕ → EntryData → Entry
desk_named number entry = desk_entry (object.Desk number) entry.plain

abbrev pub rest_at : Rests → ObjectName → List Entry
rest_at r object.Roster = map roster_entry r.roster
rest_at r object.Book = map book_named r.book
rest_at r (object.Port looper) = map (port_named looper) (r.ports looper)
rest_at r (object.Desk looper) = map (desk_named looper) (r.desks looper)

-- ---- the objects behind an entry
abbrev pub roster_then : List AppHead → Objects → RosterEntry → Objects
roster_then heads o x = record o { roster = after heads o.roster x.by.0 x.event }

abbrev pub book_then : Objects → ReplyEntry → Objects
book_then o x = record o { slots = books.changed o.slots x.by.0 x.event }

abbrev pub port_then : Objects → ℕ → PortEntry → Objects
port_then o number x = record o { ports = put number (state_after (o.ports number) x.event) o.ports }

abbrev pub desk_then : Objects → ℕ → EntryData → DeskState → Objects
desk_then o number x leaves = record o { desks = put number (record { state = leaves; dispatched = counted (o.desks number).dispatched x.plain.event }) o.desks }

-- ---- the entry is the first of those at its object, that object's step, and the rest goes on so behind it
module _ (heads : List AppHead) (o : Objects) (r : Rests) (e : Entry) (Behind : Objects → Rests → Type 0) where
  pub record PassesRoster : Type 0 where
    pub x : RosterEntry
    pub more : List RosterEntry
    pub there : r.roster ≡ x ∷ more
    pub is : e ≡ roster_entry x
    pub may : MayAct o x.by.0
    pub step : IsLegal heads o.roster x.by.0 x.event
    pub behind : Behind (roster_then heads o x) (record r { roster = more })

  pub record PassesBook : Type 0 where
    pub x : ReplyEntry
    pub more : List ReplyEntry
    pub there : r.book ≡ x ∷ more
    pub is : e ≡ book_named x
    pub may : MayAct o x.by.0
    pub step : books.BookStep o.slots x.by.0 x.event
    pub behind : Behind (book_then o x) (record r { book = more })

  pub record PassesPort : Type 0 where
    pub number : ℕ
    pub x : PortEntry
    pub more : List PortEntry
    pub there : r.ports number ≡ x ∷ more
    pub is : e ≡ port_named number x
    pub may : MayAct o x.by.0
    pub step : PortStep (looper_thread number) (o.ports number) x
    pub behind : Behind (port_then o number x) (record r { ports = put number more r.ports })

  pub record PassesDesk : Type 0 where
    pub number : ℕ
    pub x : EntryData
    pub more : List EntryData
    pub there : r.desks number ≡ x ∷ more
    pub is : e ≡ desk_named number x
    pub may : MayAct o x.plain.by.0
    pub started : number < length o.roster.loopers
    pub leaves : DeskState
    pub step : DeskStep number (o.desks number).dispatched (o.desks number).state x leaves
    pub behind : Behind (desk_then o number x leaves) (record r { desks = put number more r.desks })

  pub data PassesOne : Type 0 where
    passes_roster : PassesRoster → PassesOne
    passes_book : PassesBook → PassesOne
    passes_port : PassesPort → PassesOne
    passes_desk : PassesDesk → PassesOne

-- entry after entry; at the end nothing is to come at any object
abbrev pub Passes : List AppHead → Objects → Rests → List Entry → Type 0
Passes heads o r [] = (name : ObjectName) → rest_at r name ≡ []
Passes heads o r (e ∷ es) = PassesOne heads o r e (λ (o' : Objects) (r' : Rests). Passes heads o' r' es)

-- ---- each is a step of its object
module _ (heads : List AppHead) (o : Objects) where
  pub roster_step : (x : RosterEntry) → MayAct o x.by.0 → IsLegal heads o.roster x.by.0 x.event → ObjectStep heads o (roster_entry x) None (roster_then heads o x)
  roster_step x may step = record { may = may; moves = record { legal = step; after = refl } }

  pub book_step : (x : ReplyEntry) → MayAct o x.by.0 → books.BookStep o.slots x.by.0 x.event → ObjectStep heads o (book_named x) None (book_then o x)
  book_step x may step = record { may = may; moves = record { step = step; after = refl } }

  pub port_step : (number : ℕ) (x : PortEntry) → MayAct o x.by.0 → PortStep (looper_thread number) (o.ports number) x → ObjectStep heads o (port_named number x) None (port_then o number x)
  port_step number x may step = record { may = may; moves = record { step = step; after = refl } }

  pub desk_step : (number : ℕ) (x : EntryData) (leaves : DeskState) → MayAct o x.plain.by.0 → number < length o.roster.loopers → IsItem (o.ports number) x.plain.event x.item
      → DeskStep number (o.desks number).dispatched (o.desks number).state x leaves
      → ObjectStep heads o (desk_named number x) x.item (desk_then o number x leaves)
  desk_step number x leaves may started item_is step = record { may = may; moves = record { started = started; item_is = item_is; leaves = leaves; step = step; after = refl } }
