-- What is left of a list of entries, and of a thread's diary, behind what was done so far at each port and at each desk.
use Rattle.std.proofs.Common.{◌≡◌, ◌≢◌, ◌∙◌, ℕ, ◌==◌, true, false, cond, List, [], ◌∷◌, ◌++◌, filter, refl, sym, ap, subst, eq-eqb, ne_eqb}
use Rattle.ak_turn.specs.Noted.{Noted, note, noted_from}
use Rattle.ak_port.specs.declared.port_entry.PortEntry.{PortEntry}
use Rattle.ak_port.specs.PortCalls as port_calls
use Rattle.ak_port.specs.PortMachine.{PortState, state_after, state_of}
use Rattle.ak_port.proofs.Surface.{state_of-push}
use Rattle.ak_action.specs.declared.state.DeskState.{DeskState}
use Rattle.ak_desk.specs.Entry.{EntryData}
use Rattle.ak_desk.specs.Machine.{DeskStep, Replays, counted, dispatches}
use Rattle.ak_desk.proofs.Surface.{counted_push, replays_push}
use Rattle.ak_diary.specs.Step.{Step, desk_entries, port_entries}
use Rattle.ak_headline.specs.Run.{desk_maker}
use Rattle.ak_journal.specs.declared.entry.Entry.{Entry}
use Rattle.ak_sequence.specs.Laws.{entries_in, is_by}
use Rattle.ak_world.specs.World.{DeskPlace, Objects, World, put}
use Rattle.ak_sequence.proofs.Doing.{Doing, DoesAll}
use Rattle.ak_sequence.proofs.Passing.{Rests, desk_then, port_then, put_each}
use Rattle.ak_sequence.proofs.Standing.{Stands}

-- ---- what a thread notes of what is to come
module _ {L : Type 0} (by : L → ℕ) (thread : ℕ) where
  abbrev pub Notes : (ℕ → List L) → (ℕ → List L) → (ℕ → List (Noted L)) → Type 0
  Notes done rest entries = (looper : ℕ) → noted_from by thread (done looper) (rest looper) ≡ entries looper

  noted_own : (done : List L) (x : L) (more : List L) → by x ≡ thread → noted_from by thread done (x ∷ more) ≡ note done x ∷ noted_from by thread (done ++ x ∷ []) more
  noted_own done x more e = ap (λ b. cond b (note done x ∷ noted_from by thread (done ++ x ∷ []) more) (noted_from by thread (done ++ x ∷ []) more)) (eq-eqb (by x) thread e)

  noted_other : (done : List L) (x : L) (more : List L) → by x ≢ thread → noted_from by thread done (x ∷ more) ≡ noted_from by thread (done ++ x ∷ []) more
  noted_other done x more ne = ap (λ b. cond b (note done x ∷ noted_from by thread (done ++ x ∷ []) more) (noted_from by thread (done ++ x ∷ []) more)) (ne_eqb (by x) thread ne)

  -- the first of what is to come at that number was done
  module _ (number : ℕ) (done rest : ℕ → List L) (x : L) (more : List L) (there : rest number ≡ x ∷ more) where
    abbrev done_then : ℕ → List L
    done_then = put number (done number ++ x ∷ []) done

    abbrev rest_then : ℕ → List L
    rest_then = put number more rest

    pub notes_other : by x ≢ thread → (entries : ℕ → List (Noted L)) → Notes done rest entries → Notes done_then rest_then entries
    notes_other ne entries notes =
        let here : noted_from by thread (done number ++ x ∷ []) more ≡ entries number =
        sym (noted_other (done number) x more ne) ∙ ap (λ (l : List L). noted_from by thread (done number) l) (sym there) ∙ notes number in
        put_each (λ (k : ℕ) (d l : List L). noted_from by thread d l ≡ entries k) number (done number ++ x ∷ []) more done rest here (λ k apart. notes k)

    -- by the thread itself: so the first of its own entries there is that one
    pub record NotesOwn (n : Noted L) (later : ℕ → List (Noted L)) : Type 0 where
      pub is : n ≡ note (done number) x
      pub notes : Notes done_then rest_then later

    pub notes_own : by x ≡ thread → (entries later : ℕ → List (Noted L)) (n : Noted L) → Notes done rest entries → entries number ≡ n ∷ later number → ((k : ℕ) → (k == number) ≡ false → entries k ≡ later k) → NotesOwn n later
    notes_own e entries later n notes first others =
        let all : note (done number) x ∷ noted_from by thread (done number ++ x ∷ []) more ≡ n ∷ later number =
        sym (noted_own (done number) x more e) ∙ ap (λ (l : List L). noted_from by thread (done number) l) (sym there) ∙ notes number ∙ first in
        let one : note (done number) x ≡ n = cc all in
        let here : noted_from by thread (done number ++ x ∷ []) more ≡ later number = cc all in
        record {
          is = sym one;
          notes = put_each (λ (k : ℕ) (d l : List L). noted_from by thread d l ≡ later k) number (done number ++ x ∷ []) more done rest here (λ k apart. notes k ∙ others k apart);
        }

-- the entry of a step at one number, among those at that number and at each other
module _ {L : Type 0} (n : Noted L) (number : ℕ) where
  pub entry_here : (later : List (Noted L)) → cond (number == number) (n ∷ []) [] ++ later ≡ n ∷ later
  entry_here later = ap (λ b. cond b (n ∷ []) [] ++ later) (eq-eqb number number refl)

  pub entry_elsewhere : (looper : ℕ) (later : List (Noted L)) → (looper == number) ≡ false → cond (number == looper) (n ∷ []) [] ++ later ≡ later
  entry_elsewhere looper later apart =
      let ne : number ≢ looper = λ e. let clash : true ≡ false = sym (eq-eqb looper number (sym e)) ∙ apart in cc clash in
      ap (λ b. cond b (n ∷ []) [] ++ later) (ne_eqb number looper ne)

-- ---- what was done so far at each port and at each desk
pub record Dones : Type 0 where
  pub ports : ℕ → List PortEntry
  pub desks : ℕ → List EntryData

-- the objects are what that leads to
pub record DeskLeads (looper : ℕ) (opening : DeskState) (done : List EntryData) (place : DeskPlace) : Type 0 where
  pub replays : Replays looper 0 opening done place.state
  pub count : place.dispatched ≡ dispatches done

pub record Leads (openings : ℕ → DeskState) (o : Objects) (done : Dones) : Type 0 where
  pub ports : (looper : ℕ) → o.ports looper ≡ state_of (done.ports looper)
  pub desks : (looper : ℕ) → DeskLeads looper (openings looper) (done.desks looper) (o.desks looper)

module _ (openings : ℕ → DeskState) (o : Objects) (done : Dones) (leads : Leads openings o done) (number : ℕ) where
  abbrev pub port_done : PortEntry → Dones
  port_done x = record done { ports = put number (done.ports number ++ x ∷ []) done.ports }

  abbrev pub desk_done : EntryData → Dones
  desk_done x = record done { desks = put number (done.desks number ++ x ∷ []) done.desks }

  pub port_leads : (x : PortEntry) → Leads openings (port_then o number x) (port_done x)
  port_leads x =
      let here : state_after (o.ports number) x.event ≡ state_of (done.ports number ++ x ∷ []) = ap (λ (s : PortState). state_after s x.event) (leads.ports number) ∙ sym (state_of-push (done.ports number) x) in
      record {
        ports = put_each (λ (k : ℕ) (s : PortState) (d : List PortEntry). s ≡ state_of d) number (state_after (o.ports number) x.event) (done.ports number ++ x ∷ []) o.ports done.ports here (λ k apart. leads.ports k);
        desks = leads.desks;
      }

  pub desk_leads : (x : EntryData) (leaves : DeskState) → DeskStep number (o.desks number).dispatched (o.desks number).state x leaves → Leads openings (desk_then o number x leaves) (desk_done x)
  desk_leads x leaves step =
      let was = leads.desks number in
      let place : DeskPlace = record { state = leaves; dispatched = counted (o.desks number).dispatched x.plain.event } in
      let here : DeskLeads number (openings number) (done.desks number ++ x ∷ []) place = record {
        replays = replays_push number 0 (openings number) (done.desks number) (o.desks number).state x leaves was.replays (subst (λ (n : ℕ). DeskStep number n (o.desks number).state x leaves) was.count step);
        count = ap (λ (n : ℕ). counted n x.plain.event) was.count ∙ sym (counted_push 0 (done.desks number) x);
      } in
      record {
        ports = leads.ports;
        desks = put_each (λ (k : ℕ) (p : DeskPlace) (d : List EntryData). DeskLeads k (openings k) d p) number place (done.desks number ++ x ∷ []) o.desks done.desks here (λ k apart. leads.desks k);
      }

-- ---- a thread: the entries by it that are to come are those that are left of its diary, which it does from what it has to do now
pub record Tie (short : List ℕ) (openings : ℕ → DeskState) (w : World) (r : Rests) (done : Dones) (thread : ℕ) (es : List Entry) : Type 0 where
  pub steps : List Step
  pub doing : Doing
  pub last : Doing
  pub own : filter (is_by thread) es ≡ entries_in steps
  pub ports : Notes port_calls.by_number thread done.ports r.ports (λ (looper : ℕ). port_entries looper steps)
  pub desks : Notes desk_maker thread done.desks r.desks (λ (looper : ℕ). desk_entries looper steps)
  pub does : DoesAll short openings thread doing steps last
  pub stands : Stands w thread doing
