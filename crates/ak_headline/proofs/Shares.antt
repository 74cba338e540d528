-- An object's list is parted among those who made its entries: so much of it is main's, so much each session's, and so much each looper's.
use Rattle.std.proofs.Common.{◌≡◌, ◌≢◌, ◌⊎◌, ℕ, suc, ◌+◌, ◌<◌, ◌≤◌, ◌==◌, ◌&&◌, Bool, true, false, cond, List, [], ◌∷◌, ◌++◌, length, All, refl, sym, ap, ◌∙◌, inl, inr, ⊎_elim, arith, eq-eqb, ne_eqb}
use Rattle.std.proofs.lemmas.Bool.{cases_lt}
use Rattle.std.proofs.lemmas.List.Elements.{All-head, All-tail}
use Rattle.ak_base.specs.Thread.{looper_thread}
use Rattle.ak_turn.specs.Entries.{made_by}
use Rattle.ak_turn.specs.Noted.{Noted, entry_of, noted}
use Rattle.ak_turn.proofs.Surface.{noted_is_made}
use Rattle.ak_port.specs.declared.port_entry.PortEntry.{PortEntry}
use Rattle.ak_port.specs.declared.reply_entry.ReplyEntry.{ReplyEntry}
use Rattle.ak_port.specs.declared.reply_entry.ReplyEvent.{ReplyEvent}
use Rattle.ak_diary.specs.declared.histories.Histories.{Histories}
use Rattle.ak_diary.specs.Step.{Step, at_roster, at_book, at_port, at_desk, saw_roster, saw_book, saw_port, lacked, book_entries, port_entries}
use Rattle.ak_headline.specs.Run.{ActsIn}
use Rattle.ak_headline.specs.Tally.{at_slot, how_many, sends, sends_to, writes_owing}
use Rattle.ak_headline.proofs.Counts.{how_many-cons, how_many-map, one_if}
use Rattle.ak_headline.proofs.Sums.{total, total_none, total_only, total_same, total_sum}

-- ---- entries and their makers
-- a thread that acts: one of so many clients, or that of a looper
abbrev pub IsClientOrLooper : Histories → ℕ → ℕ → Type 0
IsClientOrLooper h count thread = (thread < count) ⊎ ((looper : ℕ) × (looper < length h.ports.items) × (thread ≡ looper_thread looper))

pub client_or_looper : (h : Histories) (sessions thread : ℕ) → ActsIn h sessions thread → IsClientOrLooper h (suc sessions) thread
client_or_looper h sessions thread (inl (inl main)) = inl (omega (arith, main))
client_or_looper h sessions thread (inl (inr one)) = inr one
client_or_looper h sessions thread (inr session) = inl (omega (arith, session.1))

module _ {L : Type 0} (by : L → ℕ) (test : L → Bool) where
  -- of those that a thread made
  abbrev pub made_so : ℕ → List L → ℕ
  made_so thread xs = how_many test (made_by by thread xs)

  more_if : (b : Bool) (x : L) (xs : List L) → how_many test (cond b (x ∷ xs) xs) ≡ cond b (one_if (test x)) 0 + how_many test xs
  more_if true x xs = how_many-cons test x xs
  more_if false x xs = omega arith

  made_more : (thread : ℕ) (x : L) (xs : List L) → made_so thread (x ∷ xs) ≡ cond (by x == thread) (one_if (test x)) 0 + made_so thread xs
  made_more thread x xs = more_if (by x == thread) x (made_by by thread xs)

  its_own : (thread : ℕ) (x : L) → by x ≡ thread → cond (by x == thread) (one_if (test x)) 0 ≡ one_if (test x)
  its_own thread x e = ap (λ b. cond b (one_if (test x)) 0) (eq-eqb (by x) thread e)

  not_its : (thread : ℕ) (x : L) → by x ≢ thread → cond (by x == thread) (one_if (test x)) 0 ≡ 0
  not_its thread x ne = ap (λ b. cond b (one_if (test x)) 0) (ne_eqb (by x) thread ne)

  module _ (h : Histories) (count : ℕ) (few : count ≤ looper_thread 0) where
    abbrev of_clients : (ℕ → ℕ) → ℕ
    of_clients f = total f count

    abbrev of_loopers : (ℕ → ℕ) → ℕ
    of_loopers f = total f (length h.ports.items)

    abbrev by_client : L → ℕ → ℕ
    by_client x k = cond (by x == k) (one_if (test x)) 0

    abbrev by_looper : L → ℕ → ℕ
    by_looper x k = cond (by x == looper_thread k) (one_if (test x)) 0

    -- one entry is of one of them
    one_maker : (x : L) → IsClientOrLooper h count (by x) → of_clients (by_client x) + of_loopers (by_looper x) ≡ one_if (test x)
    one_maker x of =
        ⊎_elim
        (λ (within : by x < count).
        omega (
          arith,
          total_only (by_client x) (count) (by x) within (λ k lt other. not_its k x (λ e. other (sym e))),
          its_own (by x) x refl,
          total_none (by_looper x) (length h.ports.items) (λ k lt. not_its (looper_thread k) x (λ e. absurd (omega (arith, e, within, few)))),
        ))
        (λ (one : (looper : ℕ) × (looper < length h.ports.items) × (by x ≡ looper_thread looper)).
        omega (
          arith,
          total_none (by_client x) (count) (λ k lt. not_its k x (λ e. absurd (omega (arith, e, lt, one.2, few)))),
          its_own (looper_thread one.0) x one.2,
          total_only (by_looper x) (length h.ports.items) one.0 one.1 (λ k lt other. not_its (looper_thread k) x (λ e. other (omega (arith, e, one.2)))),
        ))
        of

    pub parted : (xs : List L) → All (λ x. IsClientOrLooper h count (by x)) xs → how_many test xs ≡ of_clients (λ k. made_so k xs) + of_loopers (λ k. made_so (looper_thread k) xs)
    parted [] all = omega (arith, total_none (λ k. 0) (count) (λ k lt. refl), total_none (λ k. 0) (length h.ports.items) (λ k lt. refl))
    parted (x ∷ xs) all =
        omega (
          arith,
          how_many-cons test x xs,
          one_maker x (All-head (λ e. IsClientOrLooper h count (by e)) x xs all),
          parted xs (All-tail (λ e. IsClientOrLooper h count (by e)) x xs all),
          total_same (λ k. made_so k (x ∷ xs)) (λ k. by_client x k + made_so k xs) (count) (λ k lt. made_more k x xs),
          total_sum (by_client x) (λ k. made_so k xs) (count),
          total_same (λ k. made_so (looper_thread k) (x ∷ xs)) (λ k. by_looper x k + made_so (looper_thread k) xs) (length h.ports.items) (λ k lt. made_more (looper_thread k) x xs),
          total_sum (by_looper x) (λ k. made_so (looper_thread k) xs) (length h.ports.items),
        )

  -- what a thread noted are its entries
  pub made_is_noted : (thread : ℕ) (xs : List L) → made_so thread xs ≡ how_many (λ (m : Noted L). test m.entry) (noted by thread xs)
  made_is_noted thread xs = ap (how_many test) (sym (noted_is_made by thread xs)) ∙ how_many-map entry_of test (noted by thread xs)

-- ---- steps
-- at the book
pub steps_at_book : (does : ReplyEvent → Bool) (steps : List Step) → how_many (λ (m : Noted ReplyEntry). does m.entry.event) (book_entries steps) ≡ how_many (at_slot does) steps
steps_at_book does [] = refl
steps_at_book does (at_roster m ∷ steps) = steps_at_book does steps
steps_at_book does (at_book m ∷ steps) =
    omega (arith, how_many-cons (λ (k : Noted ReplyEntry). does k.entry.event) m (book_entries steps), how_many-cons (at_slot does) (at_book m) steps, steps_at_book does steps)
steps_at_book does (at_port looper m ∷ steps) = steps_at_book does steps
steps_at_book does (at_desk looper m ∷ steps) = steps_at_book does steps
steps_at_book does (saw_roster seen ∷ steps) = steps_at_book does steps
steps_at_book does (saw_book seen ∷ steps) = steps_at_book does steps
steps_at_book does (saw_port looper seen ∷ steps) = steps_at_book does steps
steps_at_book does (lacked ∷ steps) = steps_at_book does steps

module _ (n : ℕ) where
  abbrev writes_it : Noted PortEntry → Bool
  writes_it m = writes_owing n m.entry.event

  one_there : (b : Bool) (m : Noted PortEntry) (ms : List (Noted PortEntry)) → how_many writes_it (cond b (m ∷ []) [] ++ ms) ≡ one_if (b && writes_it m) + how_many writes_it ms
  one_there true m ms = how_many-cons writes_it m ms
  one_there false m ms = omega arith

  -- at one port
  pub steps_at_port : (looper : ℕ) (steps : List Step) → how_many writes_it (port_entries looper steps) ≡ how_many (sends_to n looper) steps
  steps_at_port looper [] = refl
  steps_at_port looper (at_roster m ∷ steps) = steps_at_port looper steps
  steps_at_port looper (at_book m ∷ steps) = steps_at_port looper steps
  steps_at_port looper (at_port number m ∷ steps) =
      omega (arith, one_there (number == looper) m (port_entries looper steps), how_many-cons (sends_to n looper) (at_port number m) steps, steps_at_port looper steps)
  steps_at_port looper (at_desk number m ∷ steps) = steps_at_port looper steps
  steps_at_port looper (saw_roster seen ∷ steps) = steps_at_port looper steps
  steps_at_port looper (saw_book seen ∷ steps) = steps_at_port looper steps
  steps_at_port looper (saw_port number seen ∷ steps) = steps_at_port looper steps
  steps_at_port looper (lacked ∷ steps) = steps_at_port looper steps

  -- at all ports
  no_front : {X : Type 0} (xs ys : List X) → xs ++ ys ≡ [] → ys ≡ []
  no_front [] ys e = e
  no_front (x ∷ xs) ys e = absurd (cc e)

  abbrev HasNoneFrom : ℕ → List Step → Type 0
  HasNoneFrom count steps = (looper : ℕ) → count ≤ looper → port_entries looper steps ≡ []

  none_behind : (count : ℕ) (number : ℕ) (m : Noted PortEntry) (steps : List Step) → HasNoneFrom count (at_port number m ∷ steps) → HasNoneFrom count steps
  none_behind count number m steps none looper ge = no_front (cond (number == looper) (m ∷ []) []) (port_entries looper steps) (none looper ge)

  is_within : (count : ℕ) (number : ℕ) (m : Noted PortEntry) (steps : List Step) → HasNoneFrom count (at_port number m ∷ steps) → number < count
  is_within count number m steps none =
      ⊎_elim (λ (lt : number < count). lt)
      (λ (ge : count ≤ number).
      let some : m ∷ port_entries number steps ≡ [] = sym (ap (λ b. cond b (m ∷ []) [] ++ port_entries number steps) (eq-eqb number number refl)) ∙ none number ge in
      absurd (cc some))
      (cases_lt number count)

  one_port : (count : ℕ) (number : ℕ) (b : Bool) → number < count → total (λ looper. one_if ((number == looper) && b)) count ≡ one_if b
  one_port count number b lt =
      total_only (λ looper. one_if ((number == looper) && b)) count number lt (λ looper within other. ap (λ t. one_if (t && b)) (ne_eqb number looper (λ e. other (sym e))))
      ∙ ap (λ t. one_if (t && b)) (eq-eqb number number refl)

  pub steps_at_ports : (count : ℕ) (steps : List Step) → HasNoneFrom count steps → how_many (sends n) steps ≡ total (λ looper. how_many (sends_to n looper) steps) count
  steps_at_ports count [] none = sym (total_none (λ looper. 0) count (λ k lt. refl))
  steps_at_ports count (at_roster m ∷ steps) none = steps_at_ports count steps none
  steps_at_ports count (at_book m ∷ steps) none = steps_at_ports count steps none
  steps_at_ports count (at_port number m ∷ steps) none =
      omega (
        arith,
        how_many-cons (sends n) (at_port number m) steps,
        one_port count number (writes_it m) (is_within count number m steps none),
        steps_at_ports count steps (none_behind count number m steps none),
        total_same (λ looper. how_many (sends_to n looper) (at_port number m ∷ steps)) (λ looper. one_if ((number == looper) && writes_it m) + how_many (sends_to n looper) steps) count
            (λ looper lt. how_many-cons (sends_to n looper) (at_port number m) steps),
        total_sum (λ looper. one_if ((number == looper) && writes_it m)) (λ looper. how_many (sends_to n looper) steps) count,
      )
  steps_at_ports count (at_desk number m ∷ steps) none = steps_at_ports count steps none
  steps_at_ports count (saw_roster seen ∷ steps) none = steps_at_ports count steps none
  steps_at_ports count (saw_book seen ∷ steps) none = steps_at_ports count steps none
  steps_at_ports count (saw_port number seen ∷ steps) none = steps_at_ports count steps none
  steps_at_ports count (lacked ∷ steps) none = steps_at_ports count steps none
