-- The taker takes the rest once.
use Rattle.std.proofs.Common.{◌≡◌, ℕ, ◌+◌, true, false, List, [], ◌∷◌, ◌++◌, length, All, refl, sym, ap, ◌∙◌, subst, arith, append_assoc}
use Rattle.std.proofs.lemmas.Bool.{false_from_ne_true, false≢true}
use Rattle.std.proofs.lemmas.List.Elements.{All-cons, All-nil}
use Rattle.ak_turn.specs.Noted.{Noted, noted}
use Rattle.ak_turn.proofs.Surface.{rise_before}
use Rattle.ak_port.specs.declared.port_entry.PortEntry.{PortEntry}
use Rattle.ak_port.specs.declared.port_entry.PortEvent.{PortEvent}
use Rattle.ak_port.specs.declared.port_entry.PortEvent.TheVariants as event
use Rattle.ak_port.specs.PortCalls.{IsRest, by_number, stamp_number}
use Rattle.ak_port.specs.PortLaws.{WithinLimits}
use Rattle.ak_port.specs.PortMachine.{AreSteps, IsAllowed, IsPort, PortState, PortStep, follows_making, pending_count, replayed, state_after, state_of, taken_items, unmade, written_in}
use Rattle.ak_port.specs.TakerLaws.{HasEnded, NothingAfterRest, TakenAreCounted}
use Rattle.ak_port.proofs.Surface.{AreSteps-before, AreSteps-behind, state_of-push}
use Rattle.ak_diary.specs.Laws.{IsNoRest, TakesRestOnce}
use Rattle.ak_diary.proofs.Lists.{stands_at}

-- ---- a list in two parts
first_part : (taker : ℕ) (xs ys : List PortEntry) → IsPort taker (xs ++ ys) → (state_of xs).made ≡ true → IsPort taker xs
first_part taker xs ys port made = record { steps = AreSteps-before taker unmade xs ys port.steps; stamps = rise_before stamp_number 0 xs ys port.stamps; made = made }

-- ---- entries that take the rest
rested_after : (s : PortState) (e : PortEvent) → s.rested ≡ true → (state_after s e).rested ≡ true
rested_after s (event.Made capacity life) rested = rested
rested_after s (event.Written p item) rested = rested
rested_after s event.Full rested = rested
rested_after s event.Spent rested = rested
rested_after s event.Refused rested = rested
rested_after s (event.Took k) rested = rested
rested_after s (event.Rest k) rested = refl
rested_after s event.Shut rested = rested

stays_rested : (s : PortState) (xs : List PortEntry) → s.rested ≡ true → (replayed s xs).rested ≡ true
stays_rested s [] rested = rested
stays_rested s (x ∷ xs) rested = stays_rested (state_after s x.event) xs (rested_after s x.event rested)

rests : (s : PortState) (e : PortEvent) → IsRest e ≡ true → (state_after s e).rested ≡ true
rests s (event.Made capacity life) is = absurd (false≢true is)
rests s (event.Written p item) is = absurd (false≢true is)
rests s event.Full is = absurd (false≢true is)
rests s event.Spent is = absurd (false≢true is)
rests s event.Refused is = absurd (false≢true is)
rests s (event.Took k) is = absurd (false≢true is)
rests s (event.Rest k) is = refl
rests s event.Shut is = absurd (false≢true is)

-- where the rest is not taken, no entry took it
none_so_far : (s : PortState) (xs : List PortEntry) → (replayed s xs).rested ≡ false → All IsNoRest xs
none_so_far s [] unrested = All-nil IsNoRest
none_so_far s (x ∷ xs) unrested =
    All-cons IsNoRest x xs (false_from_ne_true (IsRest x.event) (λ is. false≢true (sym unrested ∙ stays_rested (state_after s x.event) xs (rests s x.event is)))) (none_so_far (state_after s x.event) xs unrested)

-- where it is taken, none takes it again
no_rest : (taker by : ℕ) (s : PortState) (e : PortEvent) → s.rested ≡ true → IsAllowed taker by s e → IsRest e ≡ false
no_rest taker by s (event.Made capacity life) rested allowed = refl
no_rest taker by s (event.Written p item) rested allowed = refl
no_rest taker by s event.Full rested allowed = refl
no_rest taker by s event.Spent rested allowed = refl
no_rest taker by s event.Refused rested allowed = refl
no_rest taker by s (event.Took k) rested allowed = refl
no_rest taker by s (event.Rest k) rested allowed = absurd (false≢true (sym allowed.2 ∙ rested))
no_rest taker by s event.Shut rested allowed = refl

none_from_now : (taker : ℕ) (s : PortState) (xs : List PortEntry) → s.rested ≡ true → AreSteps taker s xs → All IsNoRest xs
none_from_now taker s [] rested steps = All-nil IsNoRest
none_from_now taker s (x ∷ xs) rested steps =
    All-cons IsNoRest x xs (no_rest taker x.by.0 s x.event rested steps.0.allowed) (none_from_now taker (state_after s x.event) xs (rested_after s x.event rested) steps.1)

-- ---- the rest
-- of the taker's own entries, as it noted them, one that takes the rest
pub record HasRested (taker : ℕ) (mine : List (Noted PortEntry)) (n : Noted PortEntry) (count : ℕ) (port : List PortEntry) : Type 0 where
  pub once : TakesRestOnce n count port
  pub before_port : IsPort taker n.before
  pub before_is : mine ≡ noted by_number taker n.before
  pub all : written_in port ≡ taken_items (state_of port)

module _ (counted : TakenAreCounted) (limits : WithinLimits) (nothing_after : NothingAfterRest) where
  -- where it stands at its place
  module _ (taker : ℕ) (n : Noted PortEntry) (count : ℕ) (behind : List PortEntry) (legal : IsPort taker (n.before ++ n.entry ∷ behind)) (is_rest : n.entry.event ≡ event.Rest count) where
    abbrev port : List PortEntry
    port = n.before ++ n.entry ∷ behind

    abbrev found : PortState
    found = state_of n.before

    abbrev upto : List PortEntry
    upto = n.before ++ n.entry ∷ []

    step : PortStep taker found n.entry
    step = (AreSteps-behind taker unmade n.before (n.entry ∷ behind) legal.steps).0

    allowed : IsAllowed taker n.entry.by.0 found (event.Rest count)
    allowed = subst (IsAllowed taker n.entry.by.0 found) is_rest step.allowed

    made : found.made ≡ true
    made = step.after_making ∙ ap follows_making is_rest

    before_legal : IsPort taker n.before
    before_legal = first_part taker n.before (n.entry ∷ behind) legal made

    after_is : state_of upto ≡ state_after found (event.Rest count)
    after_is = state_of-push n.before n.entry ∙ ap (state_after found) is_rest

    rested : (state_of upto).rested ≡ true
    rested = ap (λ (s : PortState). s.rested) after_is

    regrouped : upto ++ behind ≡ port
    regrouped = append_assoc n.before (n.entry ∷ []) behind

    legal_so : IsPort taker (upto ++ behind)
    legal_so = subst (IsPort taker) (sym regrouped) legal

    upto_legal : IsPort taker upto
    upto_legal = first_part taker upto behind legal_so (ap (λ (s : PortState). s.made) after_is ∙ made)

    ended : HasEnded upto behind
    ended = nothing_after taker upto behind rested legal_so

    all_taken : written_in port ≡ taken_items (state_of upto)
    all_taken = ap written_in (sym regrouped) ∙ ended.all

    all_so : written_in port ≡ taken_items (state_of port)
    all_so = all_taken ∙ sym ended.taken ∙ ap (λ l. taken_items (state_of l)) regrouped

    many : length (written_in port) ≡ length found.written
    many = ap (λ l. length l) all_taken ∙ counted taker upto upto_legal ∙ ap (λ (s : PortState). s.taken) after_is

    total : found.taken + count ≡ length (written_in port)
    total =
        let all : count ≡ pending_count found = allowed.3 in
        let within = (limits taker n.before before_legal).taken in
        omega (arith, all, within, many)

    rests_there : TakesRestOnce n count port
    rests_there = record {
      event_is = is_rest;
      behind = behind;
      is = refl;
      none_before = none_so_far unmade n.before allowed.2;
      none_behind = none_from_now taker (state_of upto) behind rested (AreSteps-behind taker unmade upto behind legal_so.steps);
      ended = ended;
      total = total;
    }

  pub has_rested : (taker : ℕ) (port : List PortEntry) (mine rest : List (Noted PortEntry)) (n : Noted PortEntry) (count : ℕ) → IsPort taker port → n.entry.event ≡ event.Rest count → noted by_number taker port ≡ mine ++ n ∷ rest → HasRested taker mine n count port
  has_rested taker port mine rest n count legal is_rest told =
      let at = stands_at by_number taker [] port mine n rest told in
      let is : port ≡ n.before ++ n.entry ∷ at.behind = at.whole ∙ ap (λ l. l ++ n.entry ∷ at.behind) (sym at.before_is) in
      let there = subst (IsPort taker) is legal in
      record {
        once = subst (TakesRestOnce n count) (sym is) (rests_there taker n count at.behind there is_rest);
        before_port = before_legal taker n count at.behind there is_rest;
        before_is = at.mine_is ∙ ap (noted by_number taker) (sym at.before_is);
        all = subst (λ l. written_in l ≡ taken_items (state_of l)) (sym is) (all_so taker n count at.behind there is_rest);
      }
