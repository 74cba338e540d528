-- A team that is made, looper by looper.
use Rattle.std.proofs.Common.{◌≡◌, ℕ, suc, ◌+◌, ◌≤◌, List, [], ◌∷◌, ◌++◌, length, map, All, refl, sym, ap, ◌∙◌, subst, append_assoc, arith}
use Rattle.std.specs.Prelude.{slice_index_or}
use Rattle.std.specs.List.{remove}
use Rattle.std.proofs.lemmas.List.{map-append}
use Rattle.ak_base.specs.Thread.{main_thread}
use Rattle.ak_port.specs.declared.port_entry.PortEntry.{PortEntry}
use Rattle.ak_port.specs.declared.port_entry.PortEvent.{PortEvent}
use Rattle.ak_action.specs.declared.plan.PlanParts.{PlanParts}
use Rattle.ak_looper.specs.declared.door.Door.{Door}
use Rattle.ak_looper.specs.declared.kept_door.KeptDoor.{KeptDoor}
use Rattle.ak_team.specs.declared.new_looper.NewLooper.{NewLooper}
use Rattle.ak_team.specs.declared.new_looper.Other.{Other}
use Rattle.ak_team.specs.declared.new_looper.Own.{Own}
use Rattle.ak_looper.specs.declared.shared.Shared.{Shared}
use Rattle.ak_team.specs.declared.new_team.NewTeam.{NewTeam}
use Rattle.ak_team.specs.declared.opening.Opened.{Opened}
use Rattle.ak_team.specs.NewLooper.{IsKept, IsNewLooper, IsNewOther, IsNewOwn, own_threads}
use Rattle.ak_team.specs.NewTeam.{AreOthers, IsNewTeam, IsOther}
use Rattle.ak_team.specs.Greeting.{AreMains, EachMains, FirstHoldsTwo, capacities_in, made_event, made_events, port_events}
use Rattle.ak_team.specs.Opening.{AreOpened, IsOpenedAt, opened_front}
use Rattle.ak_team.specs.InTime.{AddsAtPort, AreMadeInTime, ArePortsInTime, new_front, team_fronts}
use Rattle.ak_team.proofs.NewPorts.{written_in_time}
use Rattle.ak_team.proofs.Teams.{others_push}

module _ (plans : List PlanParts) (team first : ℕ) where
  -- the first one, and those that follow it
  pub first_opened : (os : List Opened) (o : Opened) (rest : List Opened) → 1 ≤ length os → AreOpened plans team first 0 os → o ≡ slice_index_or os 0 o → rest ≡ remove os 0
      → IsOpenedAt plans team first 0 o × AreOpened plans team first 1 rest × (length os ≡ length rest + 1)
  first_opened [] o rest some opened is left = absurd (omega arith)
  first_opened (x ∷ xs) o rest some opened is left =
      (subst (λ (y : Opened). IsOpenedAt plans team first 0 y) (sym is) opened.0, subst (λ (ys : List Opened). AreOpened plans team first 1 ys) (sym left) opened.1, omega (arith, ap length left))

  -- the next one, and those that follow it
  pub next_opened : (k : ℕ) (os : List Opened) (o : Opened) (rest : List Opened) → os ≡ o ∷ rest → AreOpened plans team first k os → IsOpenedAt plans team first k o × AreOpened plans team first (k + 1) rest
  next_opened k os o rest is opened =
      let both : IsOpenedAt plans team first k o × AreOpened plans team first (suc k) rest = subst (λ (ys : List Opened). AreOpened plans team first k ys) is opened in
      (both.0, subst (λ (m : ℕ). AreOpened plans team first m rest) (omega arith) both.1)

  module _ (shared : Shared) where
    -- a team with its own looper alone
    pub begins_team : (own : Own) (t : NewTeam) (kept : List KeptDoor) → IsNewOwn plans team first shared own → t.own ≡ own.looper → t.others.items ≡ [] → t.ways.items ≡ [] → kept ≡ own.kept ∷ []
        → IsNewTeam plans team first shared t kept
    begins_team own t kept new is others ways all = record {
      own = subst (λ (n : NewLooper). IsNewLooper plans team first shared 0 n) (sym is) new.looper;
      own_kept = own.kept;
      rest = [];
      kept_are = all;
      own_kept_is = subst (λ (n : NewLooper). IsKept (own_threads first) n own.kept) (sym is) new.kept;
      others = subst (λ (ns : List NewLooper). AreOthers plans team first shared 1 ns t.ways.items []) (sym others) (subst (λ (ws : List (ℕ × Door)). AreOthers plans team first shared 1 [] ws []) (sym ways) tt);
    }

    -- and with one more
    pub grows_team : (number : ℕ) (o : Other) (t t' : NewTeam) (kept kept' : List KeptDoor) → IsNewTeam plans team first shared t kept → number ≡ first + (length t.others.items + 1)
        → IsNewOther plans team first shared (length t.others.items + 1) o → t'.own ≡ t.own → t'.others.items ≡ t.others.items ++ o.looper ∷ [] → t'.ways.items ≡ t.ways.items ++ (number, o.way) ∷ []
        → kept' ≡ kept ++ o.kept ∷ [] → IsNewTeam plans team first shared t' kept'
    grows_team number o t t' kept kept' made number_is new own others ways all =
        let k : ℕ = length t.others.items + 1 in
        let here : IsOther plans team first shared k o.looper (number, o.way) o.kept = record { looper = new.looper; way_number = number_is; way_is = new.way; kept_is = new.kept } in
        let grown = others_push plans team first shared 1 k t.others.items t.ways.items made.rest o.looper (number, o.way) o.kept made.others (omega arith) here in
        record {
          own = subst (λ (n : NewLooper). IsNewLooper plans team first shared 0 n) (sym own) made.own;
          own_kept = made.own_kept;
          rest = made.rest ++ o.kept ∷ [];
          kept_are = all ∙ ap (λ (ds : List KeptDoor). ds ++ o.kept ∷ []) made.kept_are;
          own_kept_is = subst (λ (n : NewLooper). IsKept (own_threads first) n made.own_kept) (sym own) made.own_kept_is;
          others = subst (λ (ns : List NewLooper). AreOthers plans team first shared 1 ns t'.ways.items (made.rest ++ o.kept ∷ [])) (sym others)
              (subst (λ (ws : List (ℕ × Door)). AreOthers plans team first shared 1 (t.others.items ++ o.looper ∷ []) ws (made.rest ++ o.kept ∷ [])) (sym ways) grown);
        }

-- ---- the ports
-- the first one's, and those that follow it
pub record FirstMade (plans : List PlanParts) (o : Opened) (rest : List Opened) : Type 0 where
  pub capacity : ℕ
  pub capacities : List ℕ
  pub are : capacities_in plans ≡ capacity ∷ capacities
  pub first : AreMains (made_event capacity ∷ []) (opened_front o)
  pub others : EachMains (made_events capacities) (map opened_front rest)
  pub room : FirstHoldsTwo plans → 2 ≤ capacity

pub first_made : (plans : List PlanParts) (os : List Opened) (o : Opened) (rest : List Opened) → 1 ≤ length os → EachMains (made_events (capacities_in plans)) (map opened_front os) → o ≡ slice_index_or os 0 o → rest ≡ remove os 0 → FirstMade plans o rest
first_made (p ∷ plans) (x ∷ os) o rest some each is left = record {
  capacity = p.capacity;
  capacities = capacities_in plans;
  are = refl;
  first = subst (λ (y : Opened). AreMains (made_event p.capacity ∷ []) (opened_front y)) (sym is) each.0;
  others = subst (λ (ys : List Opened). EachMains (made_events (capacities_in plans)) (map opened_front ys)) (sym left) each.1;
  room = λ holds. holds;
}
first_made plans [] o rest some each is left = absurd (omega (arith, some))
first_made [] (x ∷ os) o rest some each is left = absurd each

-- once the first one is greeted
pub greeted_ports : (plans : List PlanParts) (o : Opened) (rest : List Opened) (made : FirstMade plans o rest) (written : List PortEvent) (front : List PortEntry) (fronts : List (List PortEntry)) → AreMains (made_event made.capacity ∷ written) front → fronts ≡ front ∷ [] → EachMains (port_events (capacities_in plans) written) (fronts ++ map opened_front rest)
greeted_ports plans o rest made written front fronts mains is =
    subst (λ (fs : List (List PortEntry)). EachMains (port_events (capacities_in plans) written) (fs ++ map opened_front rest)) (sym is)
    (subst (λ (cs : List ℕ). EachMains (port_events cs written) (front ∷ map opened_front rest)) (sym made.are) (mains, made.others))

-- one looper more
pub grows_ports : (events : List (List PortEvent)) (fronts fronts' : List (List PortEntry)) (x : Opened) (all rest : List Opened) → all ≡ x ∷ rest → fronts' ≡ fronts ++ opened_front x ∷ [] → EachMains events (fronts ++ map opened_front all) → EachMains events (fronts' ++ map opened_front rest)
grows_ports events fronts fronts' x all rest is grown each =
    subst (EachMains events) (sym (ap (λ (fs : List (List PortEntry)). fs ++ map opened_front rest) grown ∙ append_assoc fronts (opened_front x ∷ []) (map opened_front rest)))
    (subst (λ (os : List Opened). EachMains events (fronts ++ map opened_front os)) is each)

-- in time: the first one is what was made and written, and the others follow
pub greeted_in_time : (time between later : ℕ) (os : List Opened) (o : Opened) (rest : List Opened) (capacity : ℕ) (written : List PortEvent) (front : List PortEntry) (fronts : List (List PortEntry)) → 1 ≤ length os → o ≡ slice_index_or os 0 o → rest ≡ remove os 0
    → AreMadeInTime time (map opened_front os) between → AreMains (made_event capacity ∷ []) (opened_front o) → AreMains (made_event capacity ∷ written) front → AddsAtPort between later (opened_front o) front → fronts ≡ front ∷ []
    → ArePortsInTime time (fronts ++ map opened_front rest) later
greeted_in_time time between later [] o rest capacity written front fronts some is left made first mains adds are = absurd (omega (arith, some))
greeted_in_time time between later (x ∷ os) o rest capacity written front fronts some is left made first mains adds are =
    subst (λ (fs : List (List PortEntry)). ArePortsInTime time (fs ++ map opened_front rest) later) (sym are)
    (by_lists (opened_front o) front first mains adds
    (subst (λ (y : Opened). AreMadeInTime time (opened_front y ∷ map opened_front rest) between) (sym is) (subst (λ (ys : List Opened). AreMadeInTime time (opened_front x ∷ map opened_front ys) between) (sym left) made)))
  where
    by_lists : (one all : List PortEntry) → AreMains (made_event capacity ∷ []) one → AreMains (made_event capacity ∷ written) all → AddsAtPort between later one all → AreMadeInTime time (one ∷ map opened_front rest) between → ArePortsInTime time (all ∷ map opened_front rest) later
    by_lists [] all is_one is_all grows at = absurd (cc is_one.events_are)
    by_lists (e ∷ f ∷ more) all is_one is_all grows at = absurd (cc is_one.events_are)
    by_lists (e ∷ []) [] is_one is_all grows at = absurd (cc is_all.events_are)
    by_lists (e ∷ []) (d ∷ more) is_one is_all grows at =
        let on : d ∷ more ≡ e ∷ grows.on.0 = grows.on.1 in
        let same : d ≡ e = cc on in
        let adds_all : AddsAtPort between later (e ∷ []) (e ∷ more) = subst (λ (x : PortEntry). AddsAtPort between later (e ∷ []) (x ∷ more)) same grows in
        let mine : All (λ (entry : PortEntry). entry.by.0 ≡ main_thread) (e ∷ more) = subst (λ (x : PortEntry). All (λ (entry : PortEntry). entry.by.0 ≡ main_thread) (x ∷ more)) same is_all.mine in
        subst (λ (x : PortEntry). ArePortsInTime time ((x ∷ more) ∷ map opened_front rest) later) (sym same) (between, at, written_in_time between later e more mine adds_all)

-- one looper more
pub grows_in_time : (time later : ℕ) (fronts fronts' : List (List PortEntry)) (x : Opened) (all rest : List Opened) → all ≡ x ∷ rest → fronts' ≡ fronts ++ opened_front x ∷ [] → ArePortsInTime time (fronts ++ map opened_front all) later → ArePortsInTime time (fronts' ++ map opened_front rest) later
grows_in_time time later fronts fronts' x all rest is grown in_time =
    subst (λ (fs : List (List PortEntry)). ArePortsInTime time fs later) (sym (ap (λ (fs : List (List PortEntry)). fs ++ map opened_front rest) grown ∙ append_assoc fronts (opened_front x ∷ []) (map opened_front rest)))
    (subst (λ (os : List Opened). ArePortsInTime time (fronts ++ map opened_front os) later) is in_time)

-- its own looper's port and the others', with one more
pub fronts_push : (t t' : NewTeam) (n : NewLooper) (front : List PortEntry) → t'.own ≡ t.own → t'.others.items ≡ t.others.items ++ n ∷ [] → new_front n ≡ front → team_fronts t' ≡ team_fronts t ++ front ∷ []
fronts_push t t' n front own others is =
    ap (λ (x : NewLooper). new_front x ∷ map new_front t'.others.items) own
    ∙ ap (λ (ns : List NewLooper). new_front t.own ∷ map new_front ns) others
    ∙ ap (λ (fs : List (List PortEntry)). new_front t.own ∷ fs) (map-append new_front t.others.items (n ∷ []) ∙ ap (λ (f : List PortEntry). map new_front t.others.items ++ f ∷ []) is)

-- its own looper's alone
pub first_front : (n : NewLooper) (t : NewTeam) (front : List PortEntry) → t.own ≡ n → t.others.items ≡ [] → new_front n ≡ front → team_fronts t ≡ front ∷ []
first_front n t front own none is =
    ap (λ (x : NewLooper). new_front x ∷ map new_front t.others.items) own ∙ ap (λ (ns : List NewLooper). new_front n ∷ map new_front ns) none ∙ ap (λ (f : List PortEntry). f ∷ []) is
