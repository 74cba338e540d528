-- A port of which the rest was taken, stays so; and its looper dispatches nothing any more.
use Rattle.std.proofs.Common.{◌≡◌, ◌∙◌, ℕ, true, List, All, refl, ap}
use Rattle.std.proofs.lemmas.Bool.{both_ways}
use Rattle.ak_roster.specs.declared.head.AppHead.{AppHead}
use Rattle.ak_port.specs.declared.port_entry.PortEvent.{PortEvent}
use Rattle.ak_port.specs.declared.port_entry.PortEvent.TheVariants as port_event
use Rattle.ak_port.specs.PortMachine.{PortState, state_after}
use Rattle.ak_journal.specs.declared.entry.Entry.{Entry}
use Rattle.ak_world.specs.World.{World, WorldRun}
use Rattle.ak_sequence.specs.Places.{IsSound}
use Rattle.ak_sequence.specs.Worlds.{DispatchesAt, IsNoneDispatchedBehindTheRest, OfWorlds}
use Rattle.ak_sequence.proofs.Before.{dispatch_next}
use Rattle.ak_sequence.proofs.Parted.{begun, each_by}
use Rattle.ak_sequence.proofs.StepsAt.{AtPort, at_port, port_as, port_moves, port_stays}

-- ---- a port of which the rest was taken, stays so
rested_after : (s : PortState) (e : PortEvent) → s.rested ≡ true → (state_after s e).rested ≡ true
rested_after s (port_event.Made capacity life) rested = rested
rested_after s (port_event.Written position item) rested = rested
rested_after s port_event.Full rested = rested
rested_after s port_event.Refused rested = rested
rested_after s port_event.Spent rested = rested
rested_after s (port_event.Took count) rested = rested
rested_after s (port_event.Rest count) rested = refl
rested_after s port_event.Shut rested = rested

pub rested_on : (w : World) (entry : Entry) (w' : World) (looper : ℕ) → AtPort w entry w' looper → (w.objects.ports looper).rested ≡ true → (w'.objects.ports looper).rested ≡ true
rested_on w entry w' looper (port_stays same) rested = ap (λ (s : PortState). s.rested) same ∙ rested
rested_on w entry w' looper (port_moves e at is allowed after) rested = ap (λ (s : PortState). s.rested) after ∙ rested_after (w.objects.ports looper) e rested

-- ---- nothing is dispatched behind
pub none_dispatched
    : (heads : List AppHead) (short : List ℕ) (looper : ℕ) (w : World) (entries : List Entry) (last : World) → IsSound w → WorldRun heads short w entries last
    → (w.objects.ports looper).rested ≡ true → All (λ (e : Entry). (position : ℕ) → ¬ (DispatchesAt looper position e)) entries
none_dispatched heads short looper w entries last sound run rested =
    each_by heads short (λ (v : World). (v.objects.ports looper).rested ≡ true) (λ (e : Entry). (position : ℕ) → ¬ (DispatchesAt looper position e))
    (λ v e v' step safe now. (
      rested_on v e v' looper (at_port heads short v e v' step looper) now,
      λ position dispatches. both_ways (v.objects.ports looper).rested (dispatch_next heads short v e v' step safe looper position dispatches).unrested now,
    ))
    w entries last sound run rested

pub none_behind_the_rest : OfWorlds IsNoneDispatchedBehindTheRest
none_behind_the_rest heads short openings entries last run before entry behind is looper rests =
    let b = begun heads short openings entries last run before entry behind is in
    let rested : (b.parted.next.objects.ports looper).rested ≡ true =
    ap (λ (s : PortState). s.rested) (port_as heads short b.parted.here entry b.parted.next b.parted.step looper (port_event.Rest rests.count) rests.at rests.is) in
    none_dispatched heads short looper b.parted.next behind last b.next_sound b.parted.on rested
