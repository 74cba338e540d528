-- The doors of a team that is about to start are those that the roster is to keep, and its own looper's lead where the roster says.
use Rattle.std.proofs.Common.{◌≡◌, ℕ, zero, suc, ◌+◌, ◌-◌, List, [], ◌∷◌, ◌++◌, length, length-append, map, Option, Some, refl, sym, ap, ◌∙◌, subst, append_assoc, eq-eqb, arith, All, Contains}
use Rattle.std.specs.Prelude.{IfSome, replicate, slice_get, if◌then◌else◌}
use Rattle.std.specs.List.{range_with_len}
use Rattle.std.specs.Arc.{arc_value}
use Rattle.std.proofs.lemmas.List.Elements.{All-cons, All-nil}
use Rattle.ak_base.specs.Thread.{keeper_thread, main_thread, looper_thread}
use Rattle.ak_roster.specs.declared.head.AppHead.{AppHead}
use Rattle.ak_roster.specs.Machine.{LooperData, holders}
use Rattle.ak_roster.specs.Roster.{AreKept, AreSame, objects_of}
use Rattle.ak_action.specs.declared.plan.PlanParts.{PlanParts}
use Rattle.ak_action.specs.declared.state.DeskState.{DeskState}
use Rattle.ak_looper.specs.declared.door.Door.{Door}
use Rattle.ak_looper.specs.declared.kept_door.KeptDoor.{KeptDoor}
use Rattle.ak_looper.specs.Doors.{IsNewDoor, door_object}
use Rattle.ak_looper.specs.Rosters.{LeadsTo, Object, RosterSeat}
use Rattle.ak_team.specs.declared.new_looper.NewLooper.{NewLooper}
use Rattle.ak_looper.specs.declared.shared.Shared.{Shared}
use Rattle.ak_team.specs.declared.new_team.NewTeam.{NewTeam}
use Rattle.ak_team.specs.Jobs.{HasWays, IsPaired}
use Rattle.ak_team.specs.NewLooper.{other_threads, own_threads}
use Rattle.ak_team.specs.NewTeam.{AreOthers, IsNewTeam}
use Rattle.ak_looper.proofs.Surface.{threads, object}

-- ---- the threads that they tell
abbrev new_looper : ℕ → LooperData
new_looper first = record { own = first; starter = main_thread; given = [] }

-- a number that stands twice
twice : (a b c x : ℕ) → Contains (a ∷ b ∷ c ∷ []) x → Contains (a ∷ b ∷ b ∷ c ∷ []) x
twice a b c x (zero, lt, is) = (0, omega arith, is)
twice a b c x (suc zero, lt, is) = (1, omega arith, is)
twice a b c x (suc (suc zero), lt, is) = (3, omega arith, is)
twice a b c x (suc (suc (suc i)), lt, is) = absurd (omega (arith, lt))

once : (a b c x : ℕ) → Contains (a ∷ b ∷ b ∷ c ∷ []) x → Contains (a ∷ b ∷ c ∷ []) x
once a b c x (zero, lt, is) = (0, omega arith, is)
once a b c x (suc zero, lt, is) = (1, omega arith, is)
once a b c x (suc (suc zero), lt, is) = (1, omega arith, is)
once a b c x (suc (suc (suc zero)), lt, is) = (2, omega arith, is)
once a b c x (suc (suc (suc (suc i))), lt, is) = absurd (omega (arith, lt))

own_same : (first : ℕ) → AreSame (own_threads first) (holders first (new_looper first))
own_same first = λ thread. (twice main_thread (looper_thread first) keeper_thread thread, once main_thread (looper_thread first) keeper_thread thread)

other_same : (first k : ℕ) → AreSame (other_threads first k) (holders (first + k) (new_looper first))
other_same first k = λ thread. (λ there. there, λ there. there)

told : (names : Option (List ℕ)) (known : List ℕ) (P : List ℕ → Type 0) → names ≡ Some known → P known → IfSome names P
told names known P is holds = subst (λ (n : Option (List ℕ)). IfSome n P) (sym is) holds

module _ (plans : List PlanParts) (team first : ℕ) (shared : Shared) where
  others_kept : (k number : ℕ) (ns : List NewLooper) (ways : List (ℕ × Door)) (keeps : List KeptDoor) → number ≡ first + k → AreOthers plans team first shared k ns ways keeps → AreKept threads number keeps (replicate (length keeps) (new_looper first))
  others_kept k number [] [] [] at others = refl
  others_kept k number (n ∷ ns) (w ∷ ws) (d ∷ ds) at others = (
    told d.port_seat.names (other_threads first k) (λ names. AreSame names (holders number (new_looper first)) × (main_thread ≡ main_thread)) others.0.kept_is.threads_are
        (subst (λ m. AreSame (other_threads first k) (holders m (new_looper first))) (sym at) (other_same first k), refl),
    others_kept (suc k) (suc number) ns ws ds (omega (arith, at)) others.1,
  )
  others_kept k number [] [] (d ∷ ds) at others = absurd others
  others_kept k number [] (w ∷ ws) ds at others = absurd others
  others_kept k number (n ∷ ns) [] ds at others = absurd others
  others_kept k number (n ∷ ns) (w ∷ ws) [] at others = absurd others

  count_others : (k : ℕ) (ns : List NewLooper) (ways : List (ℕ × Door)) (keeps : List KeptDoor) → AreOthers plans team first shared k ns ways keeps → (length ways ≡ length ns) × (length keeps ≡ length ns)
  count_others k [] [] [] others = (refl, refl)
  count_others k (n ∷ ns) (w ∷ ws) (d ∷ ds) others = let rest = count_others (suc k) ns ws ds others.1 in (ap suc rest.0, ap suc rest.1)
  count_others k [] [] (d ∷ ds) others = absurd others
  count_others k [] (w ∷ ws) ds others = absurd others
  count_others k (n ∷ ns) [] ds others = absurd others
  count_others k (n ∷ ns) (w ∷ ws) [] others = absurd others

  -- there is one for each looper
  pub kept_count : (t : NewTeam) (kept : List KeptDoor) → IsNewTeam plans team first shared t kept → length kept ≡ length t.others.items + 1
  kept_count t kept new =
      let rest = (count_others 1 t.others.items t.ways.items new.rest new.others).1 in
      let all : length kept ≡ suc (length new.rest) = ap length new.kept_are in
      omega (arith, rest, all)

  -- they tell the threads that the roster says
  pub doors_kept_so : (t : NewTeam) (kept : List KeptDoor) → IsNewTeam plans team first shared t kept → AreKept threads first kept (replicate (length kept) (new_looper first))
  doors_kept_so t kept new =
      let own = told new.own_kept.port_seat.names (own_threads first) (λ names. AreSame names (holders first (new_looper first)) × (main_thread ≡ main_thread)) new.own_kept_is.threads_are (own_same first, refl) in
      subst (λ (ds : List KeptDoor). AreKept threads first ds (replicate (length ds) (new_looper first))) (sym new.kept_are)
      (own, others_kept 1 (suc first) t.others.items t.ways.items new.rest (omega arith) new.others)

  -- ---- the own looper's doors
  ways_numbers : (k : ℕ) (ns : List NewLooper) (ways : List (ℕ × Door)) (keeps : List KeptDoor) → AreOthers plans team first shared k ns ways keeps → map (λ (way : ℕ × Door). way.0) ways ≡ range_with_len (first + k) (length ns)
  ways_numbers k [] [] [] others = refl
  ways_numbers k (n ∷ ns) (w ∷ ws) (d ∷ ds) others =
      let rest = ways_numbers (suc k) ns ws ds others.1 in
      ap (λ m. m ∷ map (λ (way : ℕ × Door). way.0) ws) others.0.way_number ∙ ap (λ l. (first + k) ∷ l) (rest ∙ ap (λ m. range_with_len m (length ns)) (next k))
    where
      next : (k : ℕ) → first + suc k ≡ (first + k) + 1
      next k = omega arith
  ways_numbers k [] [] (d ∷ ds) others = absurd others
  ways_numbers k [] (w ∷ ws) ds others = absurd others
  ways_numbers k (n ∷ ns) [] ds others = absurd others
  ways_numbers k (n ∷ ns) (w ∷ ws) [] others = absurd others

  ways_new : (k : ℕ) (ns : List NewLooper) (ways : List (ℕ × Door)) (keeps : List KeptDoor) → AreOthers plans team first shared k ns ways keeps → All (λ (way : ℕ × Door). IsNewDoor (looper_thread first) way.1.port_seat way.1.desk_seat) ways
  ways_new k [] [] [] others = All-nil (λ (way : ℕ × Door). IsNewDoor (looper_thread first) way.1.port_seat way.1.desk_seat)
  ways_new k (n ∷ ns) (w ∷ ws) (d ∷ ds) others = All-cons (λ (way : ℕ × Door). IsNewDoor (looper_thread first) way.1.port_seat way.1.desk_seat) w ws others.0.way_is.new (ways_new (suc k) ns ws ds others.1)
  ways_new k [] [] (d ∷ ds) others = absurd others
  ways_new k [] (w ∷ ws) ds others = absurd others
  ways_new k (n ∷ ns) [] ds others = absurd others
  ways_new k (n ∷ ns) (w ∷ ws) [] others = absurd others

  -- behind so many objects stand those of the doors from a place on
  at_next : {X : Type 0} (before : List X) (x : X) (xs : List X) (n : ℕ) → length before ≡ n → slice_get (before ++ x ∷ xs) n ≡ Some x
  at_next [] x xs zero is = refl
  at_next [] x xs (suc n) is = absurd (omega (arith, is))
  at_next (b ∷ before) x xs zero is = absurd (omega (arith, is))
  at_next (b ∷ before) x xs (suc n) is = at_next before x xs n (omega (arith, is))

  -- main's doors lead to what the roster pairs with their loopers
  one_paired : (roster : RosterSeat) (before rest : List (Option Object)) (n : NewLooper) (d : KeptDoor) → length before ≡ n.number → arc_value d.port ≡ arc_value n.door.port → arc_value d.desk ≡ arc_value n.door.desk
      → objects_of roster.front ≡ before ++ object d ∷ rest → IsPaired roster n
  one_paired roster before rest n d many port desk are =
      ap (λ l. slice_get l n.number) are ∙ at_next before (object d) rest n.number many
      ∙ ap (λ p. Some (door_object p (arc_value d.desk))) port ∙ ap (λ q. Some (door_object (arc_value n.door.port) q)) desk

  others_paired : (roster : RosterSeat) (k : ℕ) (before : List (Option Object)) (ns : List NewLooper) (ways : List (ℕ × Door)) (keeps : List KeptDoor) → AreOthers plans team first shared k ns ways keeps
      → length before ≡ first + k → objects_of roster.front ≡ before ++ map object keeps → All (IsPaired roster) ns
  others_paired roster k before [] [] [] others many are = All-nil (IsPaired roster)
  others_paired roster k before (n ∷ ns) (w ∷ ws) (d ∷ ds) others many are =
      let o = others.0 in
      All-cons (IsPaired roster) n ns (one_paired roster before (map object ds) n d (many ∙ sym o.looper.number) o.kept_is.port o.kept_is.desk are)
      (others_paired roster (suc k) (before ++ object d ∷ []) ns ws ds others.1 (length-append before (object d ∷ []) ∙ one_more (length before) k many) (are ∙ sym (append_assoc before (object d ∷ []) (map object ds))))
    where
      one_more : (n k : ℕ) → n ≡ first + k → n + 1 ≡ first + suc k
      one_more n k is = omega (arith, is)
  others_paired roster k before [] [] (d ∷ ds) others many are = absurd others
  others_paired roster k before [] (w ∷ ws) ds others many are = absurd others
  others_paired roster k before (n ∷ ns) [] ds others many are = absurd others
  others_paired roster k before (n ∷ ns) (w ∷ ws) [] others many are = absurd others

  pub all_paired : (t : NewTeam) (kept : List KeptDoor) (before : List (Option Object)) (roster : RosterSeat) → IsNewTeam plans team first shared t kept
      → length before ≡ first → objects_of roster.front ≡ before ++ map object kept → All (IsPaired roster) (t.own ∷ t.others.items)
  all_paired t kept before roster new many are =
      let own = new.own_kept in
      let list : objects_of roster.front ≡ before ++ map object (own ∷ new.rest) = are ∙ ap (λ ds. before ++ map object ds) new.kept_are in
      All-cons (IsPaired roster) t.own t.others.items
      (one_paired roster before (map object new.rest) t.own own (at_first (length before) t.own.number many new.own.number) new.own_kept_is.port new.own_kept_is.desk list)
      (others_paired roster 1 (before ++ object own ∷ []) t.others.items t.ways.items new.rest new.others (length-append before (object own ∷ []) ∙ ap (λ n. n + 1) many) (list ∙ sym (append_assoc before (object own ∷ []) (map object new.rest))))
    where
      at_first : (n number : ℕ) → n ≡ first → number ≡ first + 0 → n ≡ number
      at_first n number is at = omega (arith, is, at)

  module _ (roster : RosterSeat) where
    abbrev Leads : ℕ × Door → Type 0
    Leads way = LeadsTo roster way.0 way.1.port_seat.lock way.1.desk_seat.lock

    ways_lead : (k : ℕ) (before : List (Option Object)) (ns : List NewLooper) (ways : List (ℕ × Door)) (keeps : List KeptDoor) → AreOthers plans team first shared k ns ways keeps
        → length before ≡ first + k → objects_of roster.front ≡ before ++ map object keeps → All Leads ways
    ways_lead k before [] [] [] others many are = All-nil Leads
    ways_lead k before (n ∷ ns) (w ∷ ws) (d ∷ ds) others many are =
        let o = others.0 in
        let port : w.1.port_seat.lock ≡ arc_value d.port = w.1.port_of ∙ o.way_is.port ∙ sym o.kept_is.port in
        let desk : w.1.desk_seat.lock ≡ arc_value d.desk = w.1.desk_of ∙ o.way_is.desk ∙ sym o.kept_is.desk in
        let there : slice_get (objects_of roster.front) w.0 ≡ Some (object d) = ap (λ l. slice_get l w.0) are ∙ at_next before (object d) (map object ds) w.0 (many ∙ sym o.way_number) in
        let leads : Leads w = there ∙ ap (λ p. Some (door_object p (arc_value d.desk))) (sym port) ∙ ap (λ q. Some (door_object w.1.port_seat.lock q)) (sym desk) in
        All-cons Leads w ws leads (ways_lead (suc k) (before ++ object d ∷ []) ns ws ds others.1 (length-append before (object d ∷ []) ∙ one_more (length before) k many) (are ∙ sym (append_assoc before (object d ∷ []) (map object ds))))
      where
        one_more : (n k : ℕ) → n ≡ first + k → n + 1 ≡ first + suc k
        one_more n k is = omega (arith, is)
    ways_lead k before [] [] (d ∷ ds) others many are = absurd others
    ways_lead k before [] (w ∷ ws) ds others many are = absurd others
    ways_lead k before (n ∷ ns) [] ds others many are = absurd others
    ways_lead k before (n ∷ ns) (w ∷ ws) [] others many are = absurd others

  -- so an own looper has the doors that it is to have
  pub own_ways : (t : NewTeam) (kept : List KeptDoor) (loopers : ℕ) (before : List (Option Object)) (roster : RosterSeat) (heads : List AppHead) (desk : DeskState) → IsNewTeam plans team first shared t kept
      → loopers ≡ length t.others.items + 1 → length before ≡ first → objects_of roster.front ≡ before ++ map object kept
      → HasWays (record { number = first; team = team; first = first; loopers = loopers; heads = heads; desk = desk }) roster t.ways.items
  own_ways t kept loopers before roster heads desk new all many are =
      let own = new.own_kept in
      let numbers : map (λ (way : ℕ × Door). way.0) t.ways.items ≡ range_with_len (first + 1) (loopers - 1) =
      ways_numbers 1 t.others.items t.ways.items new.rest new.others ∙ ap (range_with_len (first + 1)) (one_less (length t.others.items) loopers all) in
      record {
        numbers = numbers ∙ ap (λ b. if b then range_with_len (first + 1) (loopers - 1) else []) (sym (eq-eqb first first refl));
        new = ways_new 1 t.others.items t.ways.items new.rest new.others;
        lead = ways_lead roster 1 (before ++ object own ∷ []) t.others.items t.ways.items new.rest new.others
            (length-append before (object own ∷ []) ∙ ap (λ n. n + 1) many)
            (are ∙ ap (λ ds. before ++ map object ds) new.kept_are ∙ sym (append_assoc before (object own ∷ []) (map object new.rest)));
      }
    where
      one_less : (n m : ℕ) → m ≡ n + 1 → n ≡ m - 1
      one_less n m is = omega (arith, is)
