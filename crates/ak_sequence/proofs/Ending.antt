-- What is to come at each object leads to where the run's lists lead; so the objects are so where nothing is to come.
use Rattle.std.proofs.Common.{◌≡◌, ◌∙◌, ℕ, List, [], ◌∷◌, map, refl, sym, ap, subst}
use Rattle.ak_roster.specs.declared.head.AppHead.{AppHead}
use Rattle.ak_roster.specs.declared.entry.RosterEntry.{RosterEntry}
use Rattle.ak_roster.specs.Machine as roster
use Rattle.ak_port.specs.declared.port_entry.PortEntry.{PortEntry}
use Rattle.ak_port.specs.declared.reply_entry.ReplyEntry.{ReplyEntry}
use Rattle.ak_port.specs.PortMachine.{PortState, replayed, state_after, state_of}
use Rattle.ak_port.specs.Reply.{slots_after, slots_from}
use Rattle.ak_action.specs.declared.state.DeskState.{DeskState}
use Rattle.ak_desk.specs.Entry.{EntryData}
use Rattle.ak_desk.specs.Machine.{DeskStep, Replays, counted, counted_all, dispatches}
use Rattle.ak_diary.specs.declared.histories.Histories.{Histories}
use Rattle.ak_headline.specs.Run.{desk_list, port_list}
use Rattle.ak_journal.specs.declared.entry.Entry.{Entry}
use Rattle.ak_journal.specs.declared.entry.ObjectName.{ObjectName}
use Rattle.ak_journal.specs.declared.entry.ObjectName.TheVariants as object
use Rattle.ak_sequence.specs.Worlds.{AreLeft}
use Rattle.ak_world.specs.World.{DeskPlace, Objects, put}
use Rattle.ak_world.specs.Merged.{roster_entry}
use Rattle.ak_sequence.proofs.Passing.{Rests, book_named, book_then, desk_named, desk_then, port_named, port_then, put_each, rest_at, roster_then}

-- from where the desk is, what is to come leads to where the whole list does, and to as many dispatches
pub record DeskEnds (looper : ℕ) (opening : DeskState) (all : List EntryData) (place : DeskPlace) (rest : List EntryData) : Type 0 where
  pub leads : (leaves : DeskState) → Replays looper place.dispatched place.state rest leaves → Replays looper 0 opening all leaves
  pub count : counted_all place.dispatched rest ≡ dispatches all

pub record Ends (heads : List AppHead) (openings : ℕ → DeskState) (h : Histories) (o : Objects) (r : Rests) : Type 0 where
  pub at_roster : roster.state_from heads o.roster r.roster ≡ roster.state_of heads h.roster.items
  pub at_book : slots_from o.slots r.book ≡ slots_after h.book
  pub at_ports : (looper : ℕ) → replayed (o.ports looper) (r.ports looper) ≡ state_of (port_list h looper)
  pub at_desks : (looper : ℕ) → DeskEnds looper (openings looper) (desk_list h looper) (o.desks looper) (r.desks looper)

nothing_named : {L : Type 0} (f : L → Entry) (xs : List L) → map f xs ≡ [] → xs ≡ []
nothing_named f [] e = refl
nothing_named f (x ∷ xs) e = absurd (cc e)

module _ (heads : List AppHead) (openings : ℕ → DeskState) (h : Histories) (o : Objects) (r : Rests) (ends : Ends heads openings h o r) where
  -- ---- behind one entry more
  pub roster_ends : (x : RosterEntry) (more : List RosterEntry) → r.roster ≡ x ∷ more → Ends heads openings h (roster_then heads o x) (record r { roster = more })
  roster_ends x more there = record {
    at_roster = ap (roster.state_from heads o.roster) (sym there) ∙ ends.at_roster;
    at_book = ends.at_book;
    at_ports = ends.at_ports;
    at_desks = ends.at_desks;
  }

  pub book_ends : (x : ReplyEntry) (more : List ReplyEntry) → r.book ≡ x ∷ more → Ends heads openings h (book_then o x) (record r { book = more })
  book_ends x more there = record {
    at_roster = ends.at_roster;
    at_book = ap (slots_from o.slots) (sym there) ∙ ends.at_book;
    at_ports = ends.at_ports;
    at_desks = ends.at_desks;
  }

  module _ (number : ℕ) where
    pub port_ends : (x : PortEntry) (more : List PortEntry) → r.ports number ≡ x ∷ more → Ends heads openings h (port_then o number x) (record r { ports = put number more r.ports })
    port_ends x more there =
        let here : replayed (state_after (o.ports number) x.event) more ≡ state_of (port_list h number) = ap (replayed (o.ports number)) (sym there) ∙ ends.at_ports number in
        record {
          at_roster = ends.at_roster;
          at_book = ends.at_book;
          at_ports = put_each (λ (k : ℕ) (s : PortState) (l : List PortEntry). replayed s l ≡ state_of (port_list h k)) number (state_after (o.ports number) x.event) more o.ports r.ports here (λ k apart. ends.at_ports k);
          at_desks = ends.at_desks;
        }

    pub desk_ends : (x : EntryData) (more : List EntryData) (leaves : DeskState) → r.desks number ≡ x ∷ more → DeskStep number (o.desks number).dispatched (o.desks number).state x leaves
        → Ends heads openings h (desk_then o number x leaves) (record r { desks = put number more r.desks })
    desk_ends x more leaves there step =
        let was = ends.at_desks number in
        let place : DeskPlace = record { state = leaves; dispatched = counted (o.desks number).dispatched x.plain.event } in
        let here : DeskEnds number (openings number) (desk_list h number) place more = record {
          leads = λ last replays. was.leads last (subst (λ (l : List EntryData). Replays number (o.desks number).dispatched (o.desks number).state l last) (sym there) (leaves, (step, replays)));
          count = ap (counted_all (o.desks number).dispatched) (sym there) ∙ was.count;
        } in
        record {
          at_roster = ends.at_roster;
          at_book = ends.at_book;
          at_ports = ends.at_ports;
          at_desks = put_each (λ (k : ℕ) (p : DeskPlace) (l : List EntryData). DeskEnds k (openings k) (desk_list h k) p l) number place more o.desks r.desks here (λ k apart. ends.at_desks k);
        }

  -- ---- where nothing is to come
  pub all_left : ((name : ObjectName) → rest_at r name ≡ []) → AreLeft heads openings h o
  all_left none =
      let no_roster : r.roster ≡ [] = nothing_named roster_entry r.roster (none object.Roster) in
      let no_book : r.book ≡ [] = nothing_named book_named r.book (none object.Book) in
      let no_port : (looper : ℕ) → r.ports looper ≡ [] = λ looper. nothing_named (port_named looper) (r.ports looper) (none (object.Port looper)) in
      let no_desk : (looper : ℕ) → r.desks looper ≡ [] = λ looper. nothing_named (desk_named looper) (r.desks looper) (none (object.Desk looper)) in
      record {
        roster = ap (roster.state_from heads o.roster) (sym no_roster) ∙ ends.at_roster;
        slots = ap (slots_from o.slots) (sym no_book) ∙ ends.at_book;
        ports = λ looper. ap (replayed (o.ports looper)) (sym (no_port looper)) ∙ ends.at_ports looper;
        desks = λ looper. let was = ends.at_desks looper in let place = o.desks looper in
            let replays = subst (λ (l : List EntryData). Replays looper place.dispatched place.state l place.state) (sym (no_desk looper)) refl in
            (was.leads place.state replays, ap (counted_all place.dispatched) (sym (no_desk looper)) ∙ was.count);
      }
