-- What a look and a call leave of a seat: its parts stay as they were, and its front goes on.
use Rattle.std.proofs.Common.{◌≡◌, ◌≢◌, ℕ, false, List, [], ◌∷◌, ◌++◌, All, Option, Some, None, refl, sym, ap, ◌∙◌, subst, append_assoc, append-nil}
use Rattle.std.proofs.lemmas.List.Elements.{All-nil, All-weaker}
use Rattle.ak_base.specs.declared.thread.ThreadId.{ThreadId}
use Rattle.ak_turn.specs.declared.clock.Clock.{Clock}
use Rattle.ak_turn.specs.Called.{HasAnswered, HasAnsweredAtTurn, HasEntered, HasLooked, KeepsSeat, clock_after, entry_now}
use Rattle.ak_turn.specs.Entries.{StartsWith}
use Rattle.ak_turn.specs.Seats.{SeatData, HasCalled, HasSeen, IsGiven, at_leisure, entered_by}
use Rattle.ak_turn.proofs.Calls.{seen_then_called, seen_then_seen}

-- ---- lists that go on
module _ {L : Type 0} where
  pub starts_itself : (xs : List L) → StartsWith xs xs
  starts_itself xs = ([], sym (append-nil xs))

  pub starts_then_starts : (xs ys zs : List L) → StartsWith ys xs → StartsWith zs ys → StartsWith zs xs
  starts_then_starts xs ys zs one two = (one.0 ++ two.0, two.1 ∙ ap (λ (l : List L). l ++ two.0) one.1 ∙ append_assoc xs one.0 two.0)

  -- what was seen is still a beginning
  pub seen_still : (ys zs : List L) (seen : List (List L)) → StartsWith zs ys → All (StartsWith ys) seen → All (StartsWith zs) seen
  seen_still ys zs seen on all = All-weaker (StartsWith ys) (StartsWith zs) (λ xs starts. starts_then_starts xs ys zs starts on) seen all

-- ---- a seat's parts
module _ {O L : Type 0} where
  pub keeps_itself : (a : SeatData O L) → KeepsSeat a a
  keeps_itself a = record { lock = refl; opening = refl; thread = refl; joined = refl; turn = refl; names = refl }

  pub keeps_same : (a b : SeatData O L) → b ≡ a → KeepsSeat a b
  keeps_same a b same = subst (λ (s : SeatData O L). KeepsSeat a s) (sym same) (keeps_itself a)

  pub keeps_then_keeps : (a b c : SeatData O L) → KeepsSeat a b → KeepsSeat b c → KeepsSeat a c
  keeps_then_keeps a b c one two = record {
    lock = two.lock ∙ one.lock;
    opening = two.opening ∙ one.opening;
    thread = two.thread ∙ one.thread;
    joined = two.joined ∙ one.joined;
    turn = two.turn ∙ one.turn;
    names = two.names ∙ one.names;
  }

  -- with an entry of its own the turn was passed on
  pub passing_keeps : (entry : L) (b c : SeatData O L) → c ≡ at_leisure (entered_by b entry) → KeepsSeat (at_leisure b) c
  passing_keeps entry b c after = subst (λ (s : SeatData O L). KeepsSeat (at_leisure b) s) (sym after) (record { lock = refl; opening = refl; thread = refl; joined = refl; turn = refl; names = refl })

  module _ (by : L → ℕ) where
    pub seen_keeps : (a b : SeatData O L) → HasSeen by a b → KeepsSeat a b
    seen_keeps a b seen = subst (λ (s : SeatData O L). KeepsSeat a s) (sym seen.after) (record { lock = refl; opening = refl; thread = refl; joined = refl; turn = refl; names = refl })

    pub seen_starts : (a b : SeatData O L) → HasSeen by a b → StartsWith b.front a.front
    seen_starts a b seen = (seen.between, ap (λ (s : SeatData O L). s.front) seen.after)

    pub seen_nothing : (a : SeatData O L) → HasSeen by a a
    seen_nothing a =
        let at : List L → SeatData O L = λ l. record a { front = l } in
        record { between = []; others = All-nil (λ (entry : L). by entry ≢ a.thread); after = ap at (sym (append-nil a.front)) }

    -- who saw, with the clock as it was, and then looked, has looked
    pub seen_then_looked : (k l m : Clock) (a b c : SeatData O L) → HasSeen by a b → l ≡ k → HasLooked by l m b c → HasLooked by k m a c
    seen_then_looked k l m a b c one same two = record { seen = seen_then_seen by a b c one two.seen; clocked = two.clocked ∙ same }

    pub called_keeps : (entry : L) (a b : SeatData O L) → HasCalled by entry a b → KeepsSeat a b
    called_keeps entry a b call = subst (λ (s : SeatData O L). KeepsSeat a s) (sym call.after) (record { lock = refl; opening = refl; thread = refl; joined = refl; turn = refl; names = refl })

    pub called_starts : (entry : L) (a b : SeatData O L) → HasCalled by entry a b → StartsWith b.front a.front
    called_starts entry a b call = (call.between ++ entry ∷ [], ap (λ (s : SeatData O L). s.front) call.after ∙ append_assoc a.front call.between (entry ∷ []))

    -- an idle seat was given the turn, and passed it on
    pub turn_keeps : (a b c : SeatData O L) → a.turn ≡ false → IsGiven by a b → KeepsSeat (at_leisure b) c → KeepsSeat a c
    turn_keeps a b c idle given keeps = record {
      lock = keeps.lock ∙ ap (λ (s : SeatData O L). s.lock) given.after;
      opening = keeps.opening ∙ ap (λ (s : SeatData O L). s.opening) given.after;
      thread = keeps.thread ∙ ap (λ (s : SeatData O L). s.thread) given.after;
      joined = keeps.joined ∙ ap (λ (s : SeatData O L). s.joined) given.after;
      turn = keeps.turn ∙ sym idle;
      names = keeps.names ∙ ap (λ (s : SeatData O L). s.names) given.after;
    }

-- ---- calls
module _ {O L E : Type 0} (by stamp : L → ℕ) (entry_of : ℕ → ThreadId → E → L) where
  pub answered_keeps : (e : Option E) (k l : Clock) (a b : SeatData O L) → HasAnswered by stamp entry_of e k l a b → KeepsSeat a b × (l.thread ≡ k.thread)
  answered_keeps None k l a b looked = (seen_keeps by a b looked.seen, ap (λ (t : Clock). t.thread) looked.clocked)
  answered_keeps (Some event) k l a b entered = (called_keeps by (entry_now stamp entry_of k entered.before event) a b entered.called, ap (λ (t : Clock). t.thread) entered.clocked)

  pub answered_starts : (e : Option E) (k l : Clock) (a b : SeatData O L) → HasAnswered by stamp entry_of e k l a b → StartsWith b.front a.front
  answered_starts None k l a b looked = seen_starts by a b looked.seen
  answered_starts (Some event) k l a b entered = called_starts by (entry_now stamp entry_of k entered.before event) a b entered.called

  pub answered_at_turn_keeps : (e : Option E) (k l : Clock) (b c : SeatData O L) → HasAnsweredAtTurn stamp entry_of e k l b c → KeepsSeat (at_leisure b) c × (l.thread ≡ k.thread)
  answered_at_turn_keeps None k l b c answered = (keeps_same (at_leisure b) c answered.0, ap (λ (t : Clock). t.thread) answered.1)
  answered_at_turn_keeps (Some event) k l b c answered = (passing_keeps (entry_now stamp entry_of k b.front event) b c answered.0, ap (λ (t : Clock). t.thread) answered.1)

  -- who saw, with the clock as it was, and then made an entry, has made it
  pub seen_then_entered : (event : E) (k l m : Clock) (a b c : SeatData O L) → HasSeen by a b → l ≡ k → HasEntered by stamp entry_of l m event b c → HasEntered by stamp entry_of k m event a c
  seen_then_entered event k l m a b c one same two =
      let now : Clock → L = λ t. entry_now stamp entry_of t two.before event in
      record {
        before = two.before;
        front = two.front ∙ ap (λ (t : Clock). two.before ++ now t ∷ []) same;
        called = subst (λ (t : Clock). HasCalled by (now t) a c) same (seen_then_called by (now l) a b c one two.called);
        clocked = two.clocked ∙ ap (λ (t : Clock). clock_after stamp t two.before) same;
      }

  pub looked_then_answered : (e : Option E) (k l m : Clock) (a b c : SeatData O L) → HasLooked by k l a b → HasAnswered by stamp entry_of e l m b c → HasAnswered by stamp entry_of e k m a c
  looked_then_answered None k l m a b c one two = seen_then_looked by k l m a b c one.seen one.clocked two
  looked_then_answered (Some event) k l m a b c one two = seen_then_entered event k l m a b c one.seen one.clocked two
