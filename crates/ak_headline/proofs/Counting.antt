-- How often steps speak of a slot: it adds up, part by part.
use Rattle.std.proofs.Common.{◌≡◌, ◌⊎◌, ℕ, ◌+◌, ◌<◌, ◌≤◌, ◌==◌, Bool, true, false, cond, List, [], ◌∷◌, ◌++◌, length, refl, sym, ap, ◌∙◌, subst, inl, inr, ⊎_elim, arith, length-append, ne_eqb}
use Rattle.std.specs.Prelude.{◌&&◌, Any, Contains, filter}
use Rattle.std.proofs.lemmas.Bool.{cases_lt}
use Rattle.std.proofs.lemmas.Grind.{flat_map-append}
use Rattle.std.proofs.lemmas.List.Elements.{Contains-append_left, Contains-append_right, filter-append}
use Rattle.ak_turn.specs.Noted.{Noted}
use Rattle.ak_port.specs.declared.port_entry.PortEntry.{PortEntry}
use Rattle.ak_port.specs.declared.port_entry.PortEvent.{PortEvent}
use Rattle.ak_port.specs.declared.reply_entry.ReplyEntry.{ReplyEntry}
use Rattle.ak_port.specs.declared.reply_entry.ReplyEvent.{ReplyEvent}
use Rattle.ak_port.specs.Reply.{IsSettled, fills, takes}
use Rattle.ak_diary.specs.Step.{Step, at_roster, at_book, at_port, at_desk, saw_roster, saw_book, saw_port, lacked, book_sight, book_sights, port_entries}
use Rattle.ak_headline.specs.Answers.{cancels, opens}
use Rattle.ak_headline.specs.Sends.{HasAsk}
use Rattle.ak_headline.specs.Tally.{at_slot, how_many, sends, sends_to, writes_owing}
use Rattle.ak_headline.proofs.Asking.{ask_left, ask_right, port_cases, wrote_counts}

-- ---- numbers
abbrev pub bit : Bool → ℕ
bit b = cond b 1 0

module _ {X : Type 0} (test : X → Bool) where
  pub many_both : (xs ys : List X) → how_many test (xs ++ ys) ≡ how_many test xs + how_many test ys
  many_both xs ys = ap (λ l. length l) (filter-append test xs ys) ∙ length-append (filter test xs) (filter test ys)

  bit_long : (b : Bool) (x : X) → length (cond b (x ∷ []) []) ≡ bit b
  bit_long true x = refl
  bit_long false x = refl

  pub many_one : (x : X) → how_many test (x ∷ []) ≡ bit (test x)
  many_one x = bit_long (test x) x

-- ---- what steps count
-- so many writes that owe the slot, and entries that open, cancel, take from and fill it
pub record Counts (n : ℕ) (steps : List Step) (sent opened cancelled took filled : ℕ) : Type 0 where
  pub sent_are : how_many (sends n) steps ≡ sent
  pub opened_are : how_many (at_slot (opens n)) steps ≡ opened
  pub cancelled_are : how_many (at_slot (cancels n)) steps ≡ cancelled
  pub took_are : how_many (at_slot (takes n)) steps ≡ took
  pub filled_are : how_many (at_slot (fills n)) steps ≡ filled
  pub to_one : (looper : ℕ) → how_many (sends_to n looper) steps ≤ sent

one_of_two : (a b : Bool) → bit (a && b) ≤ bit b
one_of_two true b = omega arith
one_of_two false true = omega arith
one_of_two false false = omega arith

one_sent_to : (n looper : ℕ) (step : Step) → bit (sends_to n looper step) ≤ bit (sends n step)
one_sent_to n looper (at_roster x) = omega arith
one_sent_to n looper (at_book x) = omega arith
one_sent_to n looper (at_port number x) = one_of_two (number == looper) (writes_owing n x.entry.event)
one_sent_to n looper (at_desk number x) = omega arith
one_sent_to n looper (saw_roster seen) = omega arith
one_sent_to n looper (saw_book seen) = omega arith
one_sent_to n looper (saw_port number seen) = omega arith
one_sent_to n looper lacked = omega arith

pub count_none : (n : ℕ) → Counts n [] 0 0 0 0 0
count_none n = record { sent_are = refl; opened_are = refl; cancelled_are = refl; took_are = refl; filled_are = refl; to_one = λ looper. omega arith }

pub count_one : (n : ℕ) (step : Step) → Counts n (step ∷ []) (bit (sends n step)) (bit (at_slot (opens n) step)) (bit (at_slot (cancels n) step)) (bit (at_slot (takes n) step)) (bit (at_slot (fills n) step))
count_one n step = record {
  sent_are = many_one (sends n) step;
  opened_are = many_one (at_slot (opens n)) step;
  cancelled_are = many_one (at_slot (cancels n)) step;
  took_are = many_one (at_slot (takes n)) step;
  filled_are = many_one (at_slot (fills n)) step;
  to_one = λ looper. omega (arith, many_one (sends_to n looper) step, one_sent_to n looper step);
}

pub count_both : (n : ℕ) (xs ys : List Step) (s o c t f s' o' c' t' f' : ℕ) → Counts n xs s o c t f → Counts n ys s' o' c' t' f' → Counts n (xs ++ ys) (s + s') (o + o') (c + c') (t + t') (f + f')
count_both n xs ys s o c t f s' o' c' t' f' a b = record {
  sent_are = many_both (sends n) xs ys ∙ (λ i. a.sent_are i + b.sent_are i);
  opened_are = many_both (at_slot (opens n)) xs ys ∙ (λ i. a.opened_are i + b.opened_are i);
  cancelled_are = many_both (at_slot (cancels n)) xs ys ∙ (λ i. a.cancelled_are i + b.cancelled_are i);
  took_are = many_both (at_slot (takes n)) xs ys ∙ (λ i. a.took_are i + b.took_are i);
  filled_are = many_both (at_slot (fills n)) xs ys ∙ (λ i. a.filled_are i + b.filled_are i);
  to_one = λ looper. omega (arith, many_both (sends_to n looper) xs ys, a.to_one looper, b.to_one looper);
}

-- a step at the book with that event, and one at a port
pub count_book : (n : ℕ) (x : Noted ReplyEntry) (e : ReplyEvent) → x.entry.event ≡ e → Counts n (at_book x ∷ []) 0 (bit (opens n e)) (bit (cancels n e)) (bit (takes n e)) (bit (fills n e))
count_book n x e is = subst (λ (k : ReplyEvent). Counts n (at_book x ∷ []) 0 (bit (opens n k)) (bit (cancels n k)) (bit (takes n k)) (bit (fills n k))) is (count_one n (at_book x))

pub count_port : (n looper : ℕ) (x : Noted PortEntry) (e : PortEvent) → x.entry.event ≡ e → Counts n (at_port looper x ∷ []) (bit (writes_owing n e)) 0 0 0 0
count_port n looper x e is = subst (λ (k : PortEvent). Counts n (at_port looper x ∷ []) (bit (writes_owing n k)) 0 0 0 0) is (count_one n (at_port looper x))

-- ---- what parts of a diary add
-- Some asks, which took what they opened and wrote; so many items that owe the slot sent on, and none to the loopers below; and so many
-- fills that were due, each made or found to be settled. Where none was sent on, each item that owes the slot was asked
pub record Adds (Below : ℕ → Type 0) (n sent due : ℕ) (steps : List Step) : Type 0 where
  pub asks : ℕ
  pub sent_are : how_many (sends n) steps ≡ asks + sent
  pub opened : asks + how_many (at_slot (cancels n)) steps ≤ how_many (at_slot (opens n)) steps
  pub took : how_many (at_slot (takes n)) steps ≡ asks
  pub most : how_many (at_slot (fills n)) steps ≤ due
  pub settled : (how_many (at_slot (fills n)) steps ≡ due) ⊎ Any (IsSettled n) (book_sights steps)
  pub up : (looper : ℕ) → Below looper → how_many (sends_to n looper) steps ≤ asks
  pub wrote : (looper : ℕ) (x : Noted PortEntry) → Contains (port_entries looper steps) x → writes_owing n x.entry.event ≡ true → HasAsk n looper x steps ⊎ (1 ≤ sent)
  pub asked : 1 ≤ how_many (at_slot (takes n)) steps → (looper : ℕ) × (x : Noted PortEntry) × HasAsk n looper x steps

-- an item is among those that are counted
pub wrote_some : (n sent : ℕ) (steps : List Step) → ((looper : ℕ) → how_many (sends_to n looper) steps ≤ sent)
    → (looper : ℕ) (x : Noted PortEntry) → Contains (port_entries looper steps) x → writes_owing n x.entry.event ≡ true → HasAsk n looper x steps ⊎ (1 ≤ sent)
wrote_some n sent steps to_one looper x there owed = inr (omega (arith, wrote_counts n looper steps x there owed, to_one looper))

pub asked_none : (n : ℕ) (steps : List Step) → how_many (at_slot (takes n)) steps ≡ 0 → 1 ≤ how_many (at_slot (takes n)) steps → (looper : ℕ) × (x : Noted PortEntry) × HasAsk n looper x steps
asked_none n steps none some = absurd (omega (arith, none, some))

module _ (n : ℕ) (xs ys : List Step) where
  abbrev IsAsked : List Step → Type 0
  IsAsked steps = (looper : ℕ) × (x : Noted PortEntry) × HasAsk n looper x steps

  pub asked_both : (1 ≤ how_many (at_slot (takes n)) xs → IsAsked xs) → (1 ≤ how_many (at_slot (takes n)) ys → IsAsked ys) → 1 ≤ how_many (at_slot (takes n)) (xs ++ ys) → IsAsked (xs ++ ys)
  asked_both a b some =
      ⊎_elim (λ (first : 0 < how_many (at_slot (takes n)) xs). let it = a (omega (arith, first)) in (it.0, it.1, ask_left n it.0 it.1 xs ys it.2))
      (λ (none : how_many (at_slot (takes n)) xs ≤ 0).
      let it = b (omega (arith, none, some, many_both (at_slot (takes n)) xs ys)) in
      (it.0, it.1, ask_right n it.0 it.1 xs ys it.2)) (cases_lt 0 (how_many (at_slot (takes n)) xs))

  module _ (sent sent' looper : ℕ) (x : Noted PortEntry) where
    wrote_left : HasAsk n looper x xs ⊎ (1 ≤ sent) → HasAsk n looper x (xs ++ ys) ⊎ (1 ≤ sent + sent')
    wrote_left (inl a) = inl (ask_left n looper x xs ys a)
    wrote_left (inr some) = inr (omega (arith, some))

    wrote_right : HasAsk n looper x ys ⊎ (1 ≤ sent') → HasAsk n looper x (xs ++ ys) ⊎ (1 ≤ sent + sent')
    wrote_right (inl a) = inl (ask_right n looper x xs ys a)
    wrote_right (inr some) = inr (omega (arith, some))

-- one of either part
pub any_left : {X : Type 0} (P : X → Type 0) (xs ys : List X) → Any P xs → Any P (xs ++ ys)
any_left P xs ys (k, x, lt, at, p) =
    let there = Contains-append_left xs ys x (k, lt, at) in
    (there.0, x, there.1, there.2, p)

pub any_right : {X : Type 0} (P : X → Type 0) (xs ys : List X) → Any P ys → Any P (xs ++ ys)
any_right P xs ys (k, x, lt, at, p) =
    let there = Contains-append_right xs ys x (k, lt, at) in
    (there.0, x, there.1, there.2, p)

module _ (n : ℕ) (xs ys : List Step) where
  seen_both : book_sights (xs ++ ys) ≡ book_sights xs ++ book_sights ys
  seen_both = flat_map-append book_sight xs ys

  seen_left : Any (IsSettled n) (book_sights xs) → Any (IsSettled n) (book_sights (xs ++ ys))
  seen_left seen = subst (Any (IsSettled n)) (sym seen_both) (any_left (IsSettled n) (book_sights xs) (book_sights ys) seen)

  seen_right : Any (IsSettled n) (book_sights ys) → Any (IsSettled n) (book_sights (xs ++ ys))
  seen_right seen = subst (Any (IsSettled n)) (sym seen_both) (any_right (IsSettled n) (book_sights xs) (book_sights ys) seen)

  settled_both : (due due' : ℕ) → (how_many (at_slot (fills n)) xs ≡ due) ⊎ Any (IsSettled n) (book_sights xs) → (how_many (at_slot (fills n)) ys ≡ due') ⊎ Any (IsSettled n) (book_sights ys)
      → (how_many (at_slot (fills n)) (xs ++ ys) ≡ due + due') ⊎ Any (IsSettled n) (book_sights (xs ++ ys))
  settled_both due due' (inl a) (inl b) = inl (many_both (at_slot (fills n)) xs ys ∙ (λ i. a i + b i))
  settled_both due due' (inl a) (inr b) = inr (seen_right b)
  settled_both due due' (inr a) b = inr (seen_left a)

module _ (Below : ℕ → Type 0) (n : ℕ) where
  pub add_both : (sent due sent' due' : ℕ) (xs ys : List Step) → Adds Below n sent due xs → Adds Below n sent' due' ys → Adds Below n (sent + sent') (due + due') (xs ++ ys)
  add_both sent due sent' due' xs ys a b = record {
    asks = a.asks + b.asks;
    sent_are = omega (arith, many_both (sends n) xs ys, a.sent_are, b.sent_are);
    opened = omega (arith, many_both (at_slot (cancels n)) xs ys, many_both (at_slot (opens n)) xs ys, a.opened, b.opened);
    took = omega (arith, many_both (at_slot (takes n)) xs ys, a.took, b.took);
    most = omega (arith, many_both (at_slot (fills n)) xs ys, a.most, b.most);
    settled = settled_both n xs ys due due' a.settled b.settled;
    up = λ looper below. omega (arith, many_both (sends_to n looper) xs ys, a.up looper below, b.up looper below);
    wrote = λ looper x there owed.
        ⊎_elim (λ (first : Contains (port_entries looper xs) x). wrote_left n xs ys sent sent' looper x (a.wrote looper x first owed))
        (λ (second : Contains (port_entries looper ys) x). wrote_right n xs ys sent sent' looper x (b.wrote looper x second owed)) (port_cases looper xs ys x there);
    asked = asked_both n xs ys a.asked b.asked;
  }

  -- steps that are those
  pub add_as : (sent due : ℕ) (xs ys : List Step) → xs ≡ ys → Adds Below n sent due ys → Adds Below n sent due xs
  add_as sent due xs ys is a = subst (Adds Below n sent due) (sym is) a

  -- as many
  pub add_so : (sent due sent' due' : ℕ) (steps : List Step) → sent ≡ sent' → due ≡ due' → Adds Below n sent due steps → Adds Below n sent' due' steps
  add_so sent due sent' due' steps same alike a = subst (λ (k : ℕ). Adds Below n sent' k steps) alike (subst (λ (k : ℕ). Adds Below n k due steps) same a)

  -- steps that write nothing that owes the slot, take and fill nothing, and open as often as they cancel or more
  pub add_counted : (steps : List Step) (opened cancelled : ℕ) → Counts n steps 0 opened cancelled 0 0 → cancelled ≤ opened → Adds Below n 0 0 steps
  add_counted steps opened cancelled c enough = record {
    asks = 0;
    sent_are = omega (arith, c.sent_are);
    opened = omega (arith, c.cancelled_are, c.opened_are, enough);
    took = c.took_are;
    most = omega (arith, c.filled_are);
    settled = inl c.filled_are;
    up = λ looper below. c.to_one looper;
    wrote = wrote_some n 0 steps c.to_one;
    asked = asked_none n steps c.took_are;
  }

  pub add_none : Adds Below n 0 0 []
  add_none = add_counted [] 0 0 (count_none n) (omega arith)

  -- nothing is done
  pub add_empty : (steps : List Step) → steps ≡ [] → Adds Below n 0 0 steps
  add_empty steps is = add_as 0 0 steps [] is add_none

  -- both parts add nothing
  pub add_idle : (xs ys steps : List Step) → Adds Below n 0 0 xs → Adds Below n 0 0 ys → steps ≡ xs ++ ys → Adds Below n 0 0 steps
  add_idle xs ys steps a b is = add_as 0 0 steps (xs ++ ys) is (add_both 0 0 0 0 xs ys a b)

  -- one of two parts adds nothing
  pub add_before : (sent due : ℕ) (xs ys steps : List Step) → Adds Below n 0 0 xs → Adds Below n sent due ys → steps ≡ xs ++ ys → Adds Below n sent due steps
  add_before sent due xs ys steps a b is = add_as sent due steps (xs ++ ys) is (add_so (0 + sent) (0 + due) sent due (xs ++ ys) (omega arith) (omega arith) (add_both 0 0 sent due xs ys a b))

  pub add_behind : (sent due : ℕ) (xs ys steps : List Step) → Adds Below n sent due xs → Adds Below n 0 0 ys → steps ≡ xs ++ ys → Adds Below n sent due steps
  add_behind sent due xs ys steps a b is = add_as sent due steps (xs ++ ys) is (add_so (sent + 0) (due + 0) sent due (xs ++ ys) (omega arith) (omega arith) (add_both sent due 0 0 xs ys a b))

  -- one entry at a port that writes nothing that owes the slot
  pub add_port : (looper : ℕ) (x : Noted PortEntry) → writes_owing n x.entry.event ≡ false → Adds Below n 0 0 (at_port looper x ∷ [])
  add_port looper x idle =
      add_counted (at_port looper x ∷ []) 0 0
      (subst (λ (b : Bool). Counts n (at_port looper x ∷ []) (bit b) 0 0 0 0) idle (count_one n (at_port looper x))) (omega arith)

  -- one that writes an item which goes on to a looper that is not below
  pub add_sent_on : (looper : ℕ) (x : Noted PortEntry) (owing : Bool) → writes_owing n x.entry.event ≡ owing → (Below looper → ⊥) → Adds Below n (bit owing) 0 (at_port looper x ∷ [])
  add_sent_on looper x owing is apart =
      let c = count_one n (at_port looper x) in
      record {
        asks = 0;
        sent_are = c.sent_are ∙ ap bit is ∙ omega arith;
        opened = omega (arith, c.cancelled_are, c.opened_are);
        took = c.took_are;
        most = omega (arith, c.filled_are);
        settled = inl c.filled_are;
        up = λ number below.
            let other : (looper == number) ≡ false = ne_eqb looper number (λ same. apart (subst Below (sym same) below)) in
            omega (arith, many_one (sends_to n number) (at_port looper x) ∙ ap (λ (b : Bool). bit (b && writes_owing n x.entry.event)) other);
        wrote = wrote_some n (bit owing) (at_port looper x ∷ []) (λ number. omega (arith, c.to_one number, ap bit is));
        asked = asked_none n (at_port looper x ∷ []) c.took_are;
      }
