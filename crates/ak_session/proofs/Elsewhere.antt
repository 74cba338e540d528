-- What steps at the book, and at one looper's port and desk, leave elsewhere.
use Rattle.std.proofs.Common.{◌≡◌, ◌≢◌, ℕ, Bool, List, [], ◌∷◌, ◌++◌, All, Contains, cond, refl, sym, ap, ◌∙◌, subst, ne_eqb, ◌==◌}
use Rattle.std.proofs.lemmas.List.Concat.{flat_map-append}
use Rattle.std.proofs.lemmas.List.Elements.{All-append, All-cons, All-head, All-nil, All-tail}
use Rattle.ak_turn.specs.Noted.{Noted}
use Rattle.ak_desk.specs.Entry.{EntryData}
use Rattle.ak_diary.specs.Looper.{door_got, doors_got}
use Rattle.ak_diary.specs.Step.{Step, at_roster, at_book, at_port, at_desk, saw_roster, saw_book, saw_port, lacked, desk_entries, desk_entry, port_entries, port_entry, port_sight, port_sights, roster_entries, roster_entry, roster_sight, roster_sights}
use Rattle.ak_looper.specs.Side.{IsOnSide}
use Rattle.ak_session.specs.Stands.{IsAtOneOf}

-- nothing at the roster, and nothing at another looper's port and desk
pub record LeavesRest (looper : ℕ) (steps : List Step) : Type 0 where
  pub roster : roster_entries steps ≡ []
  pub roster_seen : roster_sights steps ≡ []
  pub doors : doors_got steps ≡ []
  pub ports : (other : ℕ) → other ≢ looper → port_entries other steps ≡ []
  pub ports_seen : (other : ℕ) → other ≢ looper → port_sights other steps ≡ []
  pub desks : (other : ℕ) → other ≢ looper → desk_entries other steps ≡ []
  pub at_ways : (numbers : List ℕ) → Contains numbers looper → All (IsAtOneOf numbers) steps

-- a step that is at none of these
quiet_one : (looper : ℕ) (step : Step) → roster_entry step ++ [] ≡ [] → roster_sight step ++ [] ≡ [] → door_got step ++ [] ≡ [] → ((other : ℕ) → port_entry other step ++ [] ≡ []) → ((other : ℕ) → port_sight other step ++ [] ≡ [])
    → ((other : ℕ) → desk_entry other step ++ [] ≡ []) → ((numbers : List ℕ) → IsAtOneOf numbers step) → LeavesRest looper (step ∷ [])
quiet_one looper step roster sight door port seen desk way = record {
  roster = roster;
  roster_seen = sight;
  doors = door;
  ports = λ other differs. port other;
  ports_seen = λ other differs. seen other;
  desks = λ other differs. desk other;
  at_ways = λ numbers there. All-cons (IsAtOneOf numbers) step [] (way numbers) (All-nil (IsAtOneOf numbers));
}

not_there : {A : Type 0} (looper number other : ℕ) (x : A) → number ≡ looper → other ≢ looper → cond (number == other) (x ∷ []) [] ++ [] ≡ []
not_there looper number other x on differs = ap (λ (b : Bool). cond b (x ∷ []) [] ++ []) (ne_eqb number other (λ same. differs (sym same ∙ on)))

-- an edit
pub desk_leaves : (looper : ℕ) (n : Noted EntryData) → LeavesRest looper (at_desk looper n ∷ [])
desk_leaves looper n = record {
  roster = refl;
  roster_seen = refl;
  doors = refl;
  ports = λ other differs. refl;
  ports_seen = λ other differs. refl;
  desks = λ other differs. not_there looper looper other n refl differs;
  at_ways = λ numbers there. All-cons (IsAtOneOf numbers) (at_desk looper n) [] there (All-nil (IsAtOneOf numbers));
}

module _ (looper : ℕ) where
  leaves_one : (step : Step) → IsOnSide looper step → LeavesRest looper (step ∷ [])
  leaves_one (at_roster n) on = absurd on
  leaves_one (at_book n) on = quiet_one looper (at_book n) refl refl refl (λ other. refl) (λ other. refl) (λ other. refl) (λ numbers. tt)
  leaves_one (at_port number n) on = record {
    roster = refl;
    roster_seen = refl;
    doors = refl;
    ports = λ other differs. not_there looper number other n on differs;
    ports_seen = λ other differs. refl;
    desks = λ other differs. refl;
    at_ways = λ numbers there. All-cons (IsAtOneOf numbers) (at_port number n) [] (subst (Contains numbers) (sym on) there) (All-nil (IsAtOneOf numbers));
  }
  leaves_one (at_desk number n) on = absurd on
  leaves_one (saw_roster seen) on = absurd on
  leaves_one (saw_book seen) on = quiet_one looper (saw_book seen) refl refl refl (λ other. refl) (λ other. refl) (λ other. refl) (λ numbers. tt)
  leaves_one (saw_port number seen) on = record {
    roster = refl;
    roster_seen = refl;
    doors = refl;
    ports = λ other differs. refl;
    ports_seen = λ other differs. not_there looper number other seen on differs;
    desks = λ other differs. refl;
    at_ways = λ numbers there. All-cons (IsAtOneOf numbers) (saw_port number seen) [] (subst (Contains numbers) (sym on) there) (All-nil (IsAtOneOf numbers));
  }
  leaves_one lacked on = quiet_one looper lacked refl refl refl (λ other. refl) (λ other. refl) (λ other. refl) (λ numbers. tt)

  leaves_none : LeavesRest looper []
  leaves_none = record {
    roster = refl;
    roster_seen = refl;
    doors = refl;
    ports = λ other differs. refl;
    ports_seen = λ other differs. refl;
    desks = λ other differs. refl;
    at_ways = λ numbers there. All-nil (IsAtOneOf numbers);
  }

  leaves_both : (xs ys : List Step) → LeavesRest looper xs → LeavesRest looper ys → LeavesRest looper (xs ++ ys)
  leaves_both xs ys one two = record {
    roster = flat_map-append roster_entry xs ys ∙ ap (λ l. l ++ roster_entries ys) one.roster ∙ two.roster;
    roster_seen = flat_map-append roster_sight xs ys ∙ ap (λ l. l ++ roster_sights ys) one.roster_seen ∙ two.roster_seen;
    doors = flat_map-append door_got xs ys ∙ ap (λ l. l ++ doors_got ys) one.doors ∙ two.doors;
    ports = λ other differs. flat_map-append (port_entry other) xs ys ∙ ap (λ l. l ++ port_entries other ys) (one.ports other differs) ∙ two.ports other differs;
    ports_seen = λ other differs. flat_map-append (port_sight other) xs ys ∙ ap (λ l. l ++ port_sights other ys) (one.ports_seen other differs) ∙ two.ports_seen other differs;
    desks = λ other differs. flat_map-append (desk_entry other) xs ys ∙ ap (λ l. l ++ desk_entries other ys) (one.desks other differs) ∙ two.desks other differs;
    at_ways = λ numbers there. All-append (IsAtOneOf numbers) xs ys (one.at_ways numbers there) (two.at_ways numbers there);
  }

  -- sends and asks
  pub side_leaves : (steps : List Step) → All (IsOnSide looper) steps → LeavesRest looper steps
  side_leaves [] on = leaves_none
  side_leaves (step ∷ steps) on = leaves_both (step ∷ []) steps (leaves_one step (All-head (IsOnSide looper) step steps on)) (side_leaves steps (All-tail (IsOnSide looper) step steps on))

  -- which are at no desk
  no_edit : (other : ℕ) (step : Step) → IsOnSide looper step → desk_entry other step ≡ []
  no_edit other (at_roster n) on = absurd on
  no_edit other (at_book n) on = refl
  no_edit other (at_port number n) on = refl
  no_edit other (at_desk number n) on = absurd on
  no_edit other (saw_roster seen) on = absurd on
  no_edit other (saw_book seen) on = refl
  no_edit other (saw_port number seen) on = refl
  no_edit other lacked on = refl

  pub no_edits : (other : ℕ) (steps : List Step) → All (IsOnSide looper) steps → desk_entries other steps ≡ []
  no_edits other [] on = refl
  no_edits other (step ∷ steps) on = ap (λ l. l ++ desk_entries other steps) (no_edit other step (All-head (IsOnSide looper) step steps on)) ∙ no_edits other steps (All-tail (IsOnSide looper) step steps on)
