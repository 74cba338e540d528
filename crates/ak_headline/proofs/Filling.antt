-- What the entries of a diary fill slots with: part by part.
use Rattle.std.proofs.Common.{◌≡◌, ℕ, ◌+◌, ◌≤◌, Bool, true, false, List, [], ◌∷◌, ◌++◌, Some, All, refl, sym, ap, ◌∙◌, subst, arith, eq-eqb, ⊎_elim}
use Rattle.std.proofs.lemmas.Bool.{false≢true}
use Rattle.std.proofs.lemmas.Grind.{flat_map-append}
use Rattle.std.proofs.lemmas.List.Elements.{All-append, All-cons, All-nil, All-weaker, Contains-append_left, Contains-append_right, Contains-push}
use Rattle.ak_message.specs.Message.{MessageData}
use Rattle.ak_flatten.specs.declared.item.Duty.{Duty}
use Rattle.ak_flatten.specs.declared.item.Duty.TheVariants as duty
use Rattle.ak_flatten.specs.declared.item.Taken.{Taken}
use Rattle.ak_flatten.specs.Spelling.{spelling}
use Rattle.ak_turn.specs.Noted.{Noted}
use Rattle.ak_port.specs.declared.reply_entry.ReplyEntry.{ReplyEntry}
use Rattle.ak_port.specs.declared.reply_entry.ReplyEvent.{ReplyEvent}
use Rattle.ak_port.specs.declared.reply_entry.ReplyEvent.TheVariants as slot
use Rattle.ak_port.specs.Reply.{fills, none_text}
use Rattle.ak_diary.specs.Looper.{LooperFacts}
use Rattle.ak_diary.specs.Step.{Step, at_book, at_desk, at_port, at_roster, book_entries, book_entry, lacked, saw_book, saw_port, saw_roster}
use Rattle.ak_diary.specs.Turns as turns
use Rattle.ak_diary.specs.Turns.{Fills, LeavesAll, LeavesOne, Pays}
use Rattle.ak_headline.specs.Answers.{owes}
use Rattle.ak_headline.specs.Tally.{PaidForLeft, at_slot, how_many}
use Rattle.ak_headline.proofs.Counting.{bit, many_both, many_one}
use Rattle.ak_headline.proofs.Owing.{add_pays}

-- an entry that fills a slot fills it so
abbrev pub IsFillSo : (ℕ → List ℕ → Type 0) → Noted ReplyEntry → Type 0
IsFillSo P x = (n : ℕ) (text : List ℕ) → x.entry.event ≡ slot.Filled n text → P n text

abbrev pub FillsSo : (ℕ → List ℕ → Type 0) → List Step → Type 0
FillsSo P steps = All (IsFillSo P) (book_entries steps)

module _ (P : ℕ → List ℕ → Type 0) where
  pub fills_both : (xs ys steps : List Step) → FillsSo P xs → FillsSo P ys → steps ≡ xs ++ ys → FillsSo P steps
  fills_both xs ys steps a b is =
      subst (All (IsFillSo P)) (sym (ap book_entries is ∙ flat_map-append book_entry xs ys)) (All-append (IsFillSo P) (book_entries xs) (book_entries ys) a b)

  pub fills_none : (steps : List Step) → book_entries steps ≡ [] → FillsSo P steps
  fills_none steps is = subst (All (IsFillSo P)) (sym is) (All-nil (IsFillSo P))

pub fills_more : (P Q : ℕ → List ℕ → Type 0) (steps : List Step) → ((n : ℕ) (text : List ℕ) → P n text → Q n text) → FillsSo P steps → FillsSo Q steps
fills_more P Q steps more so = All-weaker (IsFillSo P) (IsFillSo Q) (λ x each n text e. more n text (each n text e)) (book_entries steps) so

-- ---- where no fill is counted there is none
abbrev IsNoFill : ℕ → Noted ReplyEntry → Type 0
IsNoFill n x = fills n x.entry.event ≡ false

no_bit : (b : Bool) (k : ℕ) → bit b + k ≤ 0 → b ≡ false
no_bit false k few = refl
no_bit true k few = absurd (omega (arith, few))

none_counted : (n : ℕ) (steps : List Step) → how_many (at_slot (fills n)) steps ≤ 0 → All (IsNoFill n) (book_entries steps)
none_counted n [] few = All-nil (IsNoFill n)
none_counted n (at_roster x ∷ steps) few = none_counted n steps few
none_counted n (at_book x ∷ steps) few =
    let parts : how_many (at_slot (fills n)) (at_book x ∷ steps) ≡ bit (fills n x.entry.event) + how_many (at_slot (fills n)) steps =
    many_both (at_slot (fills n)) (at_book x ∷ []) steps ∙ ap (λ (k : ℕ). k + how_many (at_slot (fills n)) steps) (many_one (at_slot (fills n)) (at_book x)) in
    All-cons (IsNoFill n) x (book_entries steps) (no_bit (fills n x.entry.event) (how_many (at_slot (fills n)) steps) (omega (arith, parts, few))) (none_counted n steps (omega (arith, parts, few)))
none_counted n (at_port looper x ∷ steps) few = none_counted n steps few
none_counted n (at_desk looper x ∷ steps) few = none_counted n steps few
none_counted n (saw_roster seen ∷ steps) few = none_counted n steps few
none_counted n (saw_book seen ∷ steps) few = none_counted n steps few
none_counted n (saw_port looper seen ∷ steps) few = none_counted n steps few
none_counted n (lacked ∷ steps) few = none_counted n steps few

pub uncounted : (P : ℕ → List ℕ → Type 0) (steps : List Step) → ((n : ℕ) → how_many (at_slot (fills n)) steps ≤ 0) → FillsSo P steps
uncounted P steps few = λ k d lt n text e.
    let not : fills n (slot.Filled n text) ≡ false = subst (λ (v : ReplyEvent). fills n v ≡ false) e (none_counted n steps (few n) k d lt) in
    absurd (false≢true (sym not ∙ eq-eqb n n refl))

-- ---- one fill
module _ (P : ℕ → List ℕ → Type 0) where
  filled_so : (m n : ℕ) (words text : List ℕ) → slot.Filled m words ≡ slot.Filled n text → P m words → P n text
  filled_so m n words text e p =
      let same : m ≡ n = cc in
      let alike : words ≡ text = cc in
      subst (P n) alike (subst (λ (k : ℕ). P k words) same p)

  pub fill_one : (m : ℕ) (words : List ℕ) (steps : List Step) → P m words → Fills m words steps → FillsSo P steps
  fill_one m words steps p f =
      ⊎_elim
      (λ (t : turns.EntersFill m words steps).
      subst (FillsSo P) (sym t.is) (All-cons (IsFillSo P) t.noted [] (λ n text e. filled_so m n words text (sym t.event_is ∙ e) p) (All-nil (IsFillSo P))))
      (λ (t : turns.FindsSettled m steps). fills_none P steps (ap book_entries t.is)) f

  -- what is paid fills the slot that is owed, with the reply
  pub pays_fill : (l : LooperFacts) (so_far : List Step) (owed : Duty) (m : MessageData) (steps : List Step) → ((n : ℕ) → owed ≡ duty.Slot n → P n (spelling m)) → Pays l so_far owed (Some m) steps → FillsSo P steps
  pays_fill l so_far duty.None m steps so p = uncounted P steps (λ n. (add_pays (λ _. ⊥) n l so_far duty.None m steps p).most)
  pays_fill l so_far (duty.Slot n) m steps so p = fill_one n (spelling m) steps (so n refl) p
  pays_fill l so_far (duty.Back to) m steps so p = uncounted P steps (λ n. (add_pays (λ _. ⊥) n l so_far (duty.Back to) m steps p).most)

-- ---- what is left
abbrev pub ForLeft : List Taken → ℕ → List ℕ → Type 0
ForLeft left n text = PaidForLeft n left text

leaves_one_fills : (taken : Taken) (left : List Taken) (owed : Duty) (steps : List Step) → taken.item.duty ≡ owed → LeavesOne owed steps → FillsSo (ForLeft (taken ∷ left)) steps
leaves_one_fills taken left duty.None steps is f = fills_none (ForLeft (taken ∷ left)) steps (ap book_entries f)
leaves_one_fills taken left (duty.Slot n) steps is f =
    fill_one (ForLeft (taken ∷ left)) n none_text steps
    (record { taken = taken; there = Contains-append_left (taken ∷ []) left taken (Contains-push [] taken); owed = ap (owes n) is ∙ eq-eqb n n refl; text_is = refl }) f
leaves_one_fills taken left (duty.Back to) steps is f = fills_none (ForLeft (taken ∷ left)) steps (ap book_entries f)

pub leaves_fill : (left : List Taken) (steps : List Step) → LeavesAll left steps → FillsSo (ForLeft left) steps
leaves_fill [] steps f = fills_none (ForLeft []) steps (ap book_entries f)
leaves_fill (taken ∷ left) steps f =
    fills_both (ForLeft (taken ∷ left)) f.0 f.1 steps (leaves_one_fills taken left taken.item.duty f.0 refl f.2)
    (fills_more (ForLeft left) (ForLeft (taken ∷ left)) f.1
    (λ n text p. record { taken = p.taken; there = Contains-append_right (taken ∷ []) left p.taken p.there; owed = p.owed; text_is = p.text_is }) (leaves_fill left f.1 f.3)) f.4
