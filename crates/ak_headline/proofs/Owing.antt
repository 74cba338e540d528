-- What follows a dispatch: what is owed for an item that was kept is paid once, and else nothing is written, opened, taken or filled.
use Rattle.std.proofs.Common.{◌≡◌, ◌⊎◌, ℕ, ◌+◌, ◌==◌, Bool, true, false, List, [], ◌∷◌, ◌++◌, Option, None, Some, refl, sym, ap, ◌∙◌, subst, inl, inr, arith, eqb-true, ⊎_elim}
use Rattle.std.specs.Prelude.{Any}
use Rattle.std.proofs.lemmas.List.Quantifiers.{Any-push}
use Rattle.ak_message.specs.declared.address.Address.{Address}
use Rattle.ak_message.specs.Message.{MessageData}
use Rattle.ak_flatten.specs.declared.item.Duty.{Duty}
use Rattle.ak_flatten.specs.declared.item.Duty.TheVariants as duty
use Rattle.ak_flatten.specs.declared.item.Taken.{Taken}
use Rattle.ak_flatten.specs.Item.{ItemData}
use Rattle.ak_flatten.specs.Spelling.{spelling}
use Rattle.ak_port.specs.declared.port_entry.PortEvent.{PortEvent}
use Rattle.ak_port.specs.declared.port_entry.PortEvent.TheVariants as event
use Rattle.ak_port.specs.declared.reply_entry.ReplyEntry.{ReplyEntry}
use Rattle.ak_port.specs.declared.reply_entry.ReplyEvent.TheVariants as slot
use Rattle.ak_port.specs.Reply.{IsSettled, fills}
use Rattle.ak_desk.specs.Replies.{none_reply}
use Rattle.ak_diary.specs.Looper.{LooperFacts, closed_by, is_own}
use Rattle.ak_diary.specs.Step.{Step, at_book, book_sights, lacked, saw_book, saw_port, saw_roster}
use Rattle.ak_diary.specs.Turns as turns
use Rattle.ak_diary.specs.Turns.{ClosesIf, Fills, LeavesAll, LeavesOne, LeavesRoster, Pays, RepliesBack, Settles, Shuts, ShutsAll, TriesBack, WritesText, is_no_reply}
use Rattle.ak_diary.specs.Wants as wants
use Rattle.ak_diary.specs.Wants.{Through}
use Rattle.ak_headline.specs.Answers.{owes}
use Rattle.ak_headline.specs.Tally.{at_slot, how_many, owing_in, writes_owing}
use Rattle.ak_headline.proofs.Counting.{Adds, add_as, add_before, add_behind, add_both, add_counted, add_empty, add_idle, add_none, add_so, asked_none, bit, count_book, count_one, many_both, many_one, wrote_some}
use Rattle.ak_headline.proofs.OwnWants.{IsReplied}
use Rattle.ak_headline.proofs.Wanting.{add_enters, add_opens, add_roster}

module _ (Below : ℕ → Type 0) (n : ℕ) where
  abbrev Nothing : List Step → Type 0
  Nothing steps = Adds Below n 0 0 steps

  -- a step that writes no item, and is none at the book
  add_step : (step : Step) (steps : List Step) → steps ≡ step ∷ [] → Nothing (step ∷ []) → Nothing steps
  add_step step steps is a = add_as Below n 0 0 steps (step ∷ []) is a

  add_lack : (steps : List Step) → steps ≡ lacked ∷ [] → Nothing steps
  add_lack steps is = add_step lacked steps is (add_counted Below n (lacked ∷ []) 0 0 (count_one n lacked) (omega arith))

  -- ---- a slot is filled, or found to be settled
  add_fill : (m : ℕ) (text : List ℕ) (steps : List Step) → turns.EntersFill m text steps → Adds Below n 0 (bit (m == n)) steps
  add_fill m text steps f =
      let c = count_book n f.noted (slot.Filled m text) f.event_is in
      add_as Below n 0 (bit (m == n)) steps (at_book f.noted ∷ []) f.is
      (record {
        asks = 0;
        sent_are = c.sent_are;
        opened = omega (arith, c.cancelled_are, c.opened_are);
        took = c.took_are;
        most = omega (arith, c.filled_are);
        settled = inl c.filled_are;
        up = λ looper below. c.to_one looper;
        wrote = wrote_some n 0 (at_book f.noted ∷ []) c.to_one;
        asked = asked_none n (at_book f.noted ∷ []) c.took_are;
      })

  settled_if : (b : Bool) (m : ℕ) (seen : List ReplyEntry) → (m == n) ≡ b → IsSettled m seen → (how_many (at_slot (fills n)) (saw_book seen ∷ []) ≡ bit b) ⊎ Any (IsSettled n) (book_sights (saw_book seen ∷ []))
  settled_if false m seen is settled = inl refl
  settled_if true m seen is settled = inr (Any-push (IsSettled n) [] seen (subst (λ (k : ℕ). IsSettled k seen) (eqb-true m n is) settled))

  add_found : (m : ℕ) (steps : List Step) → turns.FindsSettled m steps → Adds Below n 0 (bit (m == n)) steps
  add_found m steps f =
      let c = count_one n (saw_book f.seen) in
      add_as Below n 0 (bit (m == n)) steps (saw_book f.seen ∷ []) f.is
      (record {
        asks = 0;
        sent_are = c.sent_are;
        opened = omega (arith, c.cancelled_are, c.opened_are);
        took = c.took_are;
        most = omega (arith, c.filled_are);
        settled = settled_if (m == n) m f.seen refl f.settled;
        up = λ looper below. c.to_one looper;
        wrote = wrote_some n 0 (saw_book f.seen ∷ []) c.to_one;
        asked = asked_none n (saw_book f.seen ∷ []) c.took_are;
      })

  pub add_fills : (m : ℕ) (text : List ℕ) (steps : List Step) → Fills m text steps → Adds Below n 0 (bit (m == n)) steps
  add_fills m text steps f = ⊎_elim (λ (t : turns.EntersFill m text steps). add_fill m text steps t) (λ (t : turns.FindsSettled m steps). add_found m steps t) f

  -- ---- a closing
  add_shuts : (looper : ℕ) (steps : List Step) → Shuts looper steps → Nothing steps
  add_shuts looper steps s =
      ⊎_elim (λ (t : turns.EntersShut looper steps). add_enters Below n looper event.Shut steps refl (record { noted = t.noted; event_is = t.event_is; is = t.is }))
      (λ (t : turns.FindsShut looper steps). add_step (saw_port looper t.seen) steps t.is (add_counted Below n (saw_port looper t.seen ∷ []) 0 0 (count_one n (saw_port looper t.seen)) (omega arith))) s

  add_shuts_all : (loopers : List ℕ) (steps : List Step) → ShutsAll loopers steps → Nothing steps
  add_shuts_all [] steps s = add_empty Below n steps s
  add_shuts_all (looper ∷ loopers) steps s = add_idle Below n s.0 s.1 steps (add_shuts looper s.0 s.2) (add_shuts_all loopers s.1 s.3) s.4

  add_leaves_roster : (l : LooperFacts) (own : Bool) (steps : List Step) → LeavesRoster l own steps → Nothing steps
  add_leaves_roster l true steps s =
      ⊎_elim (λ (t : turns.EntersGone l steps). add_roster Below n t.noted steps t.is)
      (λ (t : turns.FindsGone l steps). add_step (saw_roster t.seen) steps t.is (add_counted Below n (saw_roster t.seen ∷ []) 0 0 (count_one n (saw_roster t.seen)) (omega arith))) s
  add_leaves_roster l false steps s = add_empty Below n steps s

  pub add_closes_if : (l : LooperFacts) (due : Bool) (steps : List Step) → ClosesIf l due steps → Nothing steps
  add_closes_if l true steps c = add_idle Below n c.gone c.shut steps (add_leaves_roster l (is_own l) c.gone c.leaves) (add_shuts_all (closed_by l) c.shut c.shuts) c.is
  add_closes_if l false steps c = add_empty Below n steps c

  -- ---- what is owed
  posted_idle : (item : ItemData) (e : PortEvent) → owes n item.duty ≡ false → turns.IsPosted item e → writes_owing n e ≡ false
  posted_idle item _ idle (turns.written position) = idle
  posted_idle item _ idle turns.full = refl
  posted_idle item _ idle turns.refused = refl
  posted_idle item _ idle turns.spent = refl

  add_tries : (looper : ℕ) (item : ItemData) (steps : List Step) → owes n item.duty ≡ false → TriesBack looper item steps → Nothing steps
  add_tries looper item steps idle t =
      ⊎_elim (λ (p : turns.PostsBack looper item steps). add_enters Below n looper p.what steps (posted_idle item p.what idle p.may) p.enters) (λ (is : steps ≡ lacked ∷ []). add_lack steps is) t

  add_back : (l : LooperFacts) (so_far : List Step) (b : Bool) (to : Address) (m : MessageData) (steps : List Step) → RepliesBack l so_far b to m steps → Nothing steps
  add_back l so_far true to m steps r = add_empty Below n steps r
  add_back l so_far false to m steps r =
      ⊎_elim (λ (w : turns.LacksWay l so_far to.looper steps). add_lack steps w.is)
      (λ (t : Through l so_far to.looper (TriesBack to.looper (wants.sent_item l.team to duty.None m)) steps).
      add_idle Below n t.door t.rest steps (add_opens Below n l so_far to.looper t.door t.opens) (add_tries to.looper (wants.sent_item l.team to duty.None m) t.rest refl t.then_does) t.is) r

  -- of an item that was sent on, and of one that was kept
  pub add_pays_none : (l : LooperFacts) (so_far : List Step) (owed : Duty) (told : Option MessageData) (steps : List Step) → told ≡ None → Pays l so_far owed told steps → Nothing steps
  add_pays_none l so_far owed told steps none p = add_empty Below n steps (subst (λ (k : Option MessageData). Pays l so_far owed k steps) none p)

  pub add_pays : (l : LooperFacts) (so_far : List Step) (owed : Duty) (m : MessageData) (steps : List Step) → Pays l so_far owed (Some m) steps → Adds Below n 0 (bit (owes n owed)) steps
  add_pays l so_far duty.None m steps p = add_empty Below n steps p
  add_pays l so_far (duty.Slot k) m steps p = add_fills k (spelling m) steps p
  add_pays l so_far (duty.Back to) m steps p = add_back l so_far (is_no_reply m) to m steps p

  -- ---- its text
  pub text_idle : (owed : Duty) (reply told : Option MessageData) (steps : List Step) → WritesText owed reply told steps → Nothing steps
  text_idle owed reply _ _ turns.with_memory = add_none Below n
  text_idle owed reply _ _ (turns.without wants) = add_lack (lacked ∷ []) refl

-- there is none of no reply, and one of each other
wants_some : (owed : Duty) → turns.wants_text owed None ≡ true → ⊥
wants_some duty.None e = absurd cc
wants_some (duty.Slot m) e = absurd cc
wants_some (duty.Back to) e = absurd cc

pub told_none : (owed : Duty) (reply told : Option MessageData) (steps : List Step) → reply ≡ None → WritesText owed reply told steps → told ≡ None
told_none owed reply _ _ none turns.with_memory = none
told_none owed reply _ _ none (turns.without wants) = absurd (wants_some owed (subst (λ (k : Option MessageData). turns.wants_text owed k ≡ true) none wants))

pub told_some : (owed : Duty) (reply told : Option MessageData) (steps : List Step) → IsReplied reply → WritesText owed reply told steps → IsReplied told
told_some owed reply _ _ some turns.with_memory = some
told_some owed reply _ _ some (turns.without wants) = record { message = none_reply; is = refl }

module _ (Below : ℕ → Type 0) (n : ℕ) (l : LooperFacts) (so_far : List Step) (owed : Duty) (reply : Option MessageData) (steps : List Step) (s : Settles l so_far owed reply steps) where
  -- all but the payment
  settles_add : (due : ℕ) → Adds Below n 0 due s.paying → Adds Below n 0 due steps
  settles_add due paid =
      add_behind Below n 0 due (s.text ++ s.closing ++ s.paying) s.late steps
      (add_before Below n 0 due (s.text ++ s.closing) s.paying (s.text ++ s.closing ++ s.paying)
      (add_idle Below n s.text s.closing (s.text ++ s.closing) (text_idle Below n owed reply s.told s.text s.writes) (add_closes_if Below n l _ s.closing s.closes) refl)
      paid refl)
      (add_closes_if Below n l _ s.late s.closes_late) s.is

  pub settles_none : reply ≡ None → Adds Below n 0 0 steps
  settles_none none = settles_add 0 (add_pays_none Below n l _ owed s.told s.paying (told_none owed reply s.told s.text none s.writes) s.pays)

  pub settles_owed : IsReplied reply → Adds Below n 0 (bit (owes n owed)) steps
  settles_owed some =
      let told = told_some owed reply s.told s.text some s.writes in
      settles_add (bit (owes n owed)) (add_pays Below n l _ owed told.message s.paying (subst (λ (k : Option MessageData). Pays l (so_far ++ s.text ++ s.closing) owed k s.paying) told.is s.pays))

-- ---- what is left
module _ (Below : ℕ → Type 0) (n : ℕ) where
  add_leaves_one : (owed : Duty) (steps : List Step) → LeavesOne owed steps → Adds Below n 0 (bit (owes n owed)) steps
  add_leaves_one duty.None steps f = add_empty Below n steps f
  add_leaves_one (duty.Slot m) steps f = add_fills Below n m _ steps f
  add_leaves_one (duty.Back to) steps f = add_empty Below n steps f

  pub add_leaves_all : (left : List Taken) (steps : List Step) → LeavesAll left steps → Adds Below n 0 (owing_in n left) steps
  add_leaves_all [] steps f = add_empty Below n steps f
  add_leaves_all (taken ∷ left) steps f =
      let first : how_many (λ (t : Taken). owes n t.item.duty) (taken ∷ left) ≡ bit (owes n taken.item.duty) + owing_in n left =
      many_both (λ (t : Taken). owes n t.item.duty) (taken ∷ []) left ∙ ap (λ (k : ℕ). k + owing_in n left) (many_one (λ (t : Taken). owes n t.item.duty) taken) in
      add_as Below n 0 (owing_in n (taken ∷ left)) steps (f.0 ++ f.1) f.4
      (add_so Below n 0 (bit (owes n taken.item.duty) + owing_in n left) 0 (owing_in n (taken ∷ left)) (f.0 ++ f.1) refl (sym first)
      (add_both Below n 0 (bit (owes n taken.item.duty)) 0 (owing_in n left) f.0 f.1 (add_leaves_one taken.item.duty f.0 f.2) (add_leaves_all left f.1 f.3)))
