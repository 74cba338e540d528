-- Where a thread saw the book and made no entry there: it had opened the slot that it found settled, and neither took from it nor cancelled it; or it owed the slot, and did not fill it.
use Rattle.std.proofs.Common.{◌≡◌, ◌⊎◌, ℕ, suc, ◌+◌, ◌≤◌, ◌==◌, ◌||◌, Bool, true, false, List, [], ◌∷◌, ◌++◌, Any, Option, None, Some, refl, sym, ap, ◌∙◌, subst, inl, inr, ⊎_elim, arith, eq-eqb}
use Rattle.std.specs.List.{list_any}
use Rattle.std.proofs.lemmas.Grind.{flat_map-append}
use Rattle.std.proofs.lemmas.List.Quantifiers.{Any-push}
use Rattle.ak_base.specs.declared.app_word.AppWord.{AppWord}
use Rattle.ak_message.specs.declared.address.Address.{Address}
use Rattle.ak_message.specs.Message.{MessageData}
use Rattle.ak_flatten.specs.declared.item.Duty.{Duty}
use Rattle.ak_flatten.specs.declared.item.Duty.TheVariants as duty
use Rattle.ak_flatten.specs.declared.item.Taken.{Taken}
use Rattle.ak_flatten.specs.Item.{ItemData}
use Rattle.ak_flatten.specs.Spelling.{spelling}
use Rattle.ak_turn.specs.Noted.{Noted}
use Rattle.ak_roster.specs.declared.entry.RosterEvent.{RosterEvent}
use Rattle.ak_port.specs.declared.port_entry.PortEvent.{PortEvent}
use Rattle.ak_port.specs.declared.port_entry.PortEvent.TheVariants as event
use Rattle.ak_port.specs.declared.reply_entry.ReplyEntry.{ReplyEntry}
use Rattle.ak_port.specs.declared.reply_entry.ReplyEvent.{ReplyEvent}
use Rattle.ak_port.specs.declared.reply_entry.ReplyEvent.TheVariants as slot
use Rattle.ak_port.specs.Reply.{IsFilled, IsSettled, fills, settles, takes}
use Rattle.ak_action.specs.declared.answer.Answer.{Answer}
use Rattle.ak_action.specs.declared.answer.Answer.TheVariants as answer
use Rattle.ak_action.specs.declared.answer.Want.{Want}
use Rattle.ak_action.specs.declared.answer.Want.TheVariants as want
use Rattle.ak_diary.specs.Looper.{LooperFacts, closed_by, has_door, is_own}
use Rattle.ak_diary.specs.Step.{Step, at_book, at_desk, at_port, at_roster, book_sight, book_sights, lacked, saw_book, saw_port, saw_roster}
use Rattle.ak_diary.specs.Turns as turns
use Rattle.ak_diary.specs.Turns.{ClosesIf, Fills, LeavesAll, LeavesOne, LeavesRoster, Pays, RepliesBack, Settles, Shuts, ShutsAll, TriesBack, WritesText, is_no_reply}
use Rattle.ak_diary.specs.Wants as wants
use Rattle.ak_diary.specs.Wants.{AsksInVain, AsksSo, Converses, EntersPort, ForwardsSo, IsRefusedBy, LooksUp, OpensFor, PostsSo, Serves, ServesAll, ServesFind, Through, ThroughDoor, Withdraws}
use Rattle.ak_headline.specs.Answers.{cancels, opens, owes}
use Rattle.ak_headline.specs.Main.{AreActs, IsAct, IsActBy, IsMainDiary, IsSessionAct, IsSessionDiary, asks, asks_in_vain, begun, edits, enters_port, enters_roster, finds_gone, finds_shut, went_on}
use Rattle.ak_headline.specs.Tally.{at_slot, how_many, owing_in}
use Rattle.ak_headline.proofs.Counting.{any_left, any_right, bit, many_both, many_one}
use Rattle.ak_headline.proofs.Owing.{told_none}

-- how many entries at the book do so
abbrev pub many : (ReplyEvent → Bool) → List Step → ℕ
many does steps = how_many (at_slot does) steps

-- ---- what parts of a diary tell
-- The thread found a slot settled: it opened it more often than it took from it and cancelled it, or filled it less often than it was due
pub record Found (due : ℕ → ℕ) (steps : List Step) : Type 0 where
  pub slot : ℕ
  pub settled : Any (IsSettled slot) (book_sights steps)
  pub missing : (suc (many (takes slot) steps + many (cancels slot) steps) ≤ many (opens slot) steps) ⊎ (suc (many (fills slot) steps) ≤ due slot)

-- it saw nothing without an entry, and took from or cancelled what it opened
pub record IsSightless (steps : List Step) : Type 0 where
  pub none : book_sights steps ≡ []
  pub opened : (n : ℕ) → many (opens n) steps ≡ many (takes n) steps + many (cancels n) steps

-- the one or the other; and never the contrary of what was found
pub record Looks (due : ℕ → ℕ) (steps : List Step) : Type 0 where
  pub enough : (n : ℕ) → many (takes n) steps + many (cancels n) steps ≤ many (opens n) steps
  pub most : (n : ℕ) → many (fills n) steps ≤ due n
  pub finds : IsSightless steps ⊎ Found due steps

abbrev pub nothing_due : ℕ → ℕ
nothing_due n = 0

abbrev pub Idle : List Step → Type 0
Idle steps = Looks nothing_due steps

-- ---- parts put together
module _ (due due' : ℕ → ℕ) (xs ys : List Step) (a : Looks due xs) (b : Looks due' ys) where
  abbrev both_due : ℕ → ℕ
  both_due n = due n + due' n

  seen_both : book_sights (xs ++ ys) ≡ book_sights xs ++ book_sights ys
  seen_both = flat_map-append book_sight xs ys

  found_left : Found due xs → Found both_due (xs ++ ys)
  found_left f =
      let n = f.slot in
      record {
        slot = n;
        settled = subst (Any (IsSettled n)) (sym seen_both) (any_left (IsSettled n) (book_sights xs) (book_sights ys) f.settled);
        missing =
            ⊎_elim
            (λ (more : suc (many (takes n) xs + many (cancels n) xs) ≤ many (opens n) xs).
            inl (omega (arith, more, b.enough n, many_both (at_slot (takes n)) xs ys, many_both (at_slot (cancels n)) xs ys, many_both (at_slot (opens n)) xs ys)))
            (λ (less : suc (many (fills n) xs) ≤ due n). inr (omega (arith, less, b.most n, many_both (at_slot (fills n)) xs ys))) f.missing;
      }

  found_right : Found due' ys → Found both_due (xs ++ ys)
  found_right f =
      let n = f.slot in
      record {
        slot = n;
        settled = subst (Any (IsSettled n)) (sym seen_both) (any_right (IsSettled n) (book_sights xs) (book_sights ys) f.settled);
        missing =
            ⊎_elim
            (λ (more : suc (many (takes n) ys + many (cancels n) ys) ≤ many (opens n) ys).
            inl (omega (arith, more, a.enough n, many_both (at_slot (takes n)) xs ys, many_both (at_slot (cancels n)) xs ys, many_both (at_slot (opens n)) xs ys)))
            (λ (less : suc (many (fills n) ys) ≤ due' n). inr (omega (arith, less, a.most n, many_both (at_slot (fills n)) xs ys))) f.missing;
      }

  sightless_both : IsSightless xs → IsSightless ys → IsSightless (xs ++ ys)
  sightless_both p q = record {
    none = seen_both ∙ (λ i. p.none i ++ q.none i);
    opened = λ n. omega (arith, p.opened n, q.opened n, many_both (at_slot (takes n)) xs ys, many_both (at_slot (cancels n)) xs ys, many_both (at_slot (opens n)) xs ys);
  }

  finds_both : IsSightless xs ⊎ Found due xs → IsSightless ys ⊎ Found due' ys → IsSightless (xs ++ ys) ⊎ Found both_due (xs ++ ys)
  finds_both (inl p) (inl q) = inl (sightless_both p q)
  finds_both (inl p) (inr f) = inr (found_right f)
  finds_both (inr f) q = inr (found_left f)

  pub look_both : Looks both_due (xs ++ ys)
  look_both = record {
    enough = λ n. omega (arith, a.enough n, b.enough n, many_both (at_slot (takes n)) xs ys, many_both (at_slot (cancels n)) xs ys, many_both (at_slot (opens n)) xs ys);
    most = λ n. omega (arith, a.most n, b.most n, many_both (at_slot (fills n)) xs ys);
    finds = finds_both a.finds b.finds;
  }

-- steps that are those, and more that is due
pub look_as : (due : ℕ → ℕ) (xs ys : List Step) → xs ≡ ys → Looks due ys → Looks due xs
look_as due xs ys is a = subst (Looks due) (sym is) a

found_more : (due due' : ℕ → ℕ) (steps : List Step) → ((n : ℕ) → due n ≤ due' n) → Found due steps → Found due' steps
found_more due due' steps more f = record {
  slot = f.slot;
  settled = f.settled;
  missing = ⊎_elim (λ (m : suc (many (takes f.slot) steps + many (cancels f.slot) steps) ≤ many (opens f.slot) steps). inl m)
      (λ (less : suc (many (fills f.slot) steps) ≤ due f.slot). inr (omega (arith, less, more f.slot))) f.missing;
}

pub look_more : (due due' : ℕ → ℕ) (steps : List Step) → ((n : ℕ) → due n ≤ due' n) → Looks due steps → Looks due' steps
look_more due due' steps more a = record {
  enough = a.enough;
  most = λ n. omega (arith, a.most n, more n);
  finds = ⊎_elim (λ (p : IsSightless steps). inl p) (λ (f : Found due steps). inr (found_more due due' steps more f)) a.finds;
}

-- one of two parts is idle
pub look_before : (due : ℕ → ℕ) (xs ys steps : List Step) → Idle xs → Looks due ys → steps ≡ xs ++ ys → Looks due steps
look_before due xs ys steps a b is = look_as due steps (xs ++ ys) is (look_more (λ n. nothing_due n + due n) due (xs ++ ys) (λ n. omega arith) (look_both nothing_due due xs ys a b))

pub look_behind : (due : ℕ → ℕ) (xs ys steps : List Step) → Looks due xs → Idle ys → steps ≡ xs ++ ys → Looks due steps
look_behind due xs ys steps a b is = look_as due steps (xs ++ ys) is (look_more (λ n. due n + nothing_due n) due (xs ++ ys) (λ n. omega arith) (look_both due nothing_due xs ys a b))

pub idle_both : (xs ys steps : List Step) → Idle xs → Idle ys → steps ≡ xs ++ ys → Idle steps
idle_both xs ys steps a b is = look_before nothing_due xs ys steps a b is

-- ---- steps away from the book
-- none at the book, and no sight of it
record IsAway (steps : List Step) : Type 0 where
  none : book_sights steps ≡ []
  many_are : (does : ReplyEvent → Bool) → many does steps ≡ 0

away_idle : (steps : List Step) → IsAway steps → Idle steps
away_idle steps a = record {
  enough = λ n. omega (arith, a.many_are (takes n), a.many_are (cancels n));
  most = λ n. omega (arith, a.many_are (fills n));
  finds = inl (record { none = a.none; opened = λ n. omega (arith, a.many_are (takes n), a.many_are (cancels n), a.many_are (opens n)) });
}

away_none : (steps : List Step) → steps ≡ [] → IsAway steps
away_none steps is = subst IsAway (sym is) (record { none = refl; many_are = λ does. refl })

away_port : (looper : ℕ) (e : PortEvent) (steps : List Step) → EntersPort looper e steps → IsAway steps
away_port looper e steps t = subst IsAway (sym t.is) (record { none = refl; many_are = λ does. refl })

pub idle_none : (steps : List Step) → steps ≡ [] → Idle steps
idle_none steps is = away_idle steps (away_none steps is)

idle_port : (looper : ℕ) (e : PortEvent) (steps : List Step) → EntersPort looper e steps → Idle steps
idle_port looper e steps t = away_idle steps (away_port looper e steps t)

-- a step that is neither at the book nor a sight of it
abbrev pub IsAwayStep : Step → Type 0
IsAwayStep (at_book x) = ⊥
IsAwayStep (saw_book seen) = ⊥
IsAwayStep _ = Unit {0}

away_step : (step : Step) → IsAwayStep step → IsAway (step ∷ [])
away_step (at_roster x) h = record { none = refl; many_are = λ does. refl }
away_step (at_book x) h = absurd h
away_step (at_port looper x) h = record { none = refl; many_are = λ does. refl }
away_step (at_desk looper x) h = record { none = refl; many_are = λ does. refl }
away_step (saw_roster seen) h = record { none = refl; many_are = λ does. refl }
away_step (saw_book seen) h = absurd h
away_step (saw_port looper seen) h = record { none = refl; many_are = λ does. refl }
away_step lacked h = record { none = refl; many_are = λ does. refl }

pub idle_step : (step : Step) (steps : List Step) → IsAwayStep step → steps ≡ step ∷ [] → Idle steps
idle_step step steps h is = look_as nothing_due steps (step ∷ []) is (away_idle (step ∷ []) (away_step step h))

-- ---- one entry at the book, or a sight of it
many_at : (does : ReplyEvent → Bool) (x : Noted ReplyEntry) (e : ReplyEvent) → x.entry.event ≡ e → many does (at_book x ∷ []) ≡ bit (does e)
many_at does x e is = many_one (at_slot does) (at_book x) ∙ ap (λ k. bit (does k)) is

is_one : (n : ℕ) → bit (n == n) ≡ 1
is_one n = ap bit (eq-eqb n n refl)

-- a slot is filled, or found to be settled
abbrev pub due_for : ℕ → ℕ → ℕ
due_for m n = bit (m == n)

look_fill : (m : ℕ) (text : List ℕ) (steps : List Step) → Fills m text steps → Looks (due_for m) steps
look_fill m text steps (inl t) =
    let filled : ReplyEvent = slot.Filled m text in
    look_as (due_for m) steps (at_book t.noted ∷ []) t.is
    (record {
      enough = λ n. omega (arith, many_at (takes n) t.noted filled t.event_is, many_at (cancels n) t.noted filled t.event_is);
      most = λ n. omega (arith, many_at (fills n) t.noted filled t.event_is);
      finds = inl (record {
        none = refl;
        opened = λ n. omega (arith, many_at (takes n) t.noted filled t.event_is, many_at (cancels n) t.noted filled t.event_is, many_at (opens n) t.noted filled t.event_is);
      });
    })
look_fill m text steps (inr t) =
    look_as (due_for m) steps (saw_book t.seen ∷ []) t.is
    (record {
      enough = λ n. omega arith;
      most = λ n. omega arith;
      finds = inr (record { slot = m; settled = Any-push (IsSettled m) [] t.seen t.settled; missing = inr (omega (arith, is_one m)) });
    })

-- ---- asks
-- what is filled is settled
settled_or : (a b c d : Bool) → (a ≡ true → c ≡ true) → (b ≡ true → d ≡ true) → (a || b) ≡ true → (c || d) ≡ true
settled_or true b true d first others e = refl
settled_or true b false d first others e = absurd (cc (first refl))
settled_or false true true d first others e = refl
settled_or false true false d first others e = others refl
settled_or false false c d first others e = absurd (cc e)

fill_settles : (n : ℕ) (e : ReplyEvent) → fills n e ≡ true → settles n e ≡ true
fill_settles n (slot.Opened m) is = absurd (cc is)
fill_settles n (slot.Filled m text) is = is
fill_settles n (slot.Cancelled m) is = absurd (cc is)
fill_settles n (slot.Taken m) is = absurd (cc is)

filled_settled : (n : ℕ) (seen : List ReplyEntry) → IsFilled n seen → IsSettled n seen
filled_settled n [] is = is
filled_settled n (x ∷ seen) is =
    settled_or (fills n x.event) (list_any (λ (entry : ReplyEntry). fills n entry.event) seen) (settles n x.event) (list_any (λ (entry : ReplyEntry). settles n entry.event) seen)
    (fill_settles n x.event) (filled_settled n seen) is

-- an ask took from what it opened
many_first : (does : ReplyEvent → Bool) (step : Step) (steps : List Step) → many does (step ∷ steps) ≡ many does (step ∷ []) + many does steps
many_first does step steps = many_both (at_slot does) (step ∷ []) steps

idle_converses : (to : Address) (item : ItemData) (flat : List ℕ) (steps : List Step) → Converses to item flat steps → Idle steps
idle_converses to item flat steps c =
    let m = c.slot in
    let whole : List Step = at_book c.opened ∷ at_port to.looper c.written ∷ at_book c.taken ∷ [] in
    let counted : (does : ReplyEvent → Bool) → many does whole ≡ bit (does (slot.Opened m)) + bit (does (slot.Taken m)) =
    λ does. omega (
      arith,
      many_first does (at_book c.opened) (at_port to.looper c.written ∷ at_book c.taken ∷ []),
      many_at does c.opened (slot.Opened m) c.opened_is,
      many_at does c.taken (slot.Taken m) c.taken_is,
    ) in
    look_as nothing_due steps whole c.is
    (record {
      enough = λ n. omega (arith, counted (takes n), counted (cancels n), counted (opens n));
      most = λ n. omega (arith, counted (fills n));
      finds = inl (record { none = refl; opened = λ n. omega (arith, counted (takes n), counted (cancels n), counted (opens n)) });
    })

-- one that was refused cancelled it, or found it filled
away_refused : (looper : ℕ) (e : Option PortEvent) (steps : List Step) → IsRefusedBy looper e steps → IsAway steps
away_refused looper None steps r = away_none steps r
away_refused looper (Some e) steps r = away_port looper e steps r

module _ (to : Address) (e : Option PortEvent) (steps : List Step) (w : Withdraws to e steps) where
  abbrev its : ℕ
  its = w.slot

  abbrev whole : List Step
  whole = at_book w.opened ∷ w.refused ++ w.closing

  refused_away : IsAway w.refused
  refused_away = away_refused to.looper e w.refused w.refused_is

  whole_many : (does : ReplyEvent → Bool) → many does whole ≡ bit (does (slot.Opened its)) + many does w.closing
  whole_many does =
      omega (
        arith,
        many_first does (at_book w.opened) (w.refused ++ w.closing),
        many_at does w.opened (slot.Opened its) w.opened_is,
        many_both (at_slot does) w.refused w.closing,
        refused_away.many_are does,
      )

  whole_seen : book_sights whole ≡ book_sights w.closing
  whole_seen = flat_map-append book_sight w.refused w.closing ∙ ap (λ k. k ++ book_sights w.closing) refused_away.none

  look_cancelled : wants.EntersCancel its w.closing → Idle whole
  look_cancelled t =
      let counted : (does : ReplyEvent → Bool) → many does whole ≡ bit (does (slot.Opened its)) + bit (does (slot.Cancelled its)) =
      λ does. whole_many does ∙ ap (λ k. bit (does (slot.Opened its)) + k) (ap (many does) t.is ∙ many_at does t.noted (slot.Cancelled its) t.event_is) in
      record {
        enough = λ n. omega (arith, counted (takes n), counted (cancels n), counted (opens n));
        most = λ n. omega (arith, counted (fills n));
        finds = inl (record { none = whole_seen ∙ ap book_sights t.is; opened = λ n. omega (arith, counted (takes n), counted (cancels n), counted (opens n)) });
      }

  look_filled : wants.FindsFilled its w.closing → Idle whole
  look_filled t =
      let counted : (does : ReplyEvent → Bool) → many does whole ≡ bit (does (slot.Opened its)) = λ does. omega (arith, whole_many does, ap (many does) t.is) in
      record {
        enough = λ n. omega (arith, counted (takes n), counted (cancels n), counted (opens n));
        most = λ n. omega (arith, counted (fills n));
        finds = inr (record {
          slot = its;
          settled = subst (Any (IsSettled its)) (sym (whole_seen ∙ ap book_sights t.is)) (Any-push (IsSettled its) [] t.seen (filled_settled its t.seen t.filled));
          missing = inl (omega (arith, counted (takes its), counted (cancels its), counted (opens its), is_one its));
        });
      }

  idle_withdraws : Idle steps
  idle_withdraws =
      look_as nothing_due steps whole w.is
      (⊎_elim (λ (t : wants.EntersCancel its w.closing). look_cancelled t) (λ (t : wants.FindsFilled its w.closing). look_filled t) w.closes)

idle_vain : (to : Address) (item : ItemData) (steps : List Step) → AsksInVain to item steps → Idle steps
idle_vain to item steps (wants.before_all is) = idle_none steps is
idle_vain to item steps (wants.for_the_item w) = idle_withdraws to None steps w
idle_vain to item steps (wants.for_the_reply flat c) = idle_converses to item flat steps c

idle_asks : (to : Address) (m : MessageData) (item : ItemData) (a : Answer) (steps : List Step) → AsksSo to m item a steps → Idle steps
idle_asks to m item (answer.Reply flat message) steps p = idle_converses to item flat steps p.1.does
idle_asks to m item answer.Closed steps p = idle_withdraws to (Some event.Refused) steps p.does
idle_asks to m item answer.Spent steps p = idle_withdraws to (Some event.Spent) steps p.does
idle_asks to m item answer.TooLong steps p = idle_none steps p.1
idle_asks to m item answer.NoMemory steps p = idle_vain to item steps p
idle_asks to m item (answer.Written position) steps p = absurd p
idle_asks to m item answer.Full steps p = absurd p
idle_asks to m item (answer.Team team first) steps p = absurd p
idle_asks to m item answer.NoTeam steps p = absurd p

-- ---- the other wants
idle_posts : (to : Address) (m : MessageData) (item : ItemData) (a : Answer) (steps : List Step) → PostsSo to m item a steps → Idle steps
idle_posts to m item (answer.Written position) steps p = idle_port to.looper (event.Written position item) steps p.enters
idle_posts to m item answer.Full steps p = idle_port to.looper event.Full steps p.enters
idle_posts to m item answer.Closed steps p = idle_port to.looper event.Refused steps p.enters
idle_posts to m item answer.Spent steps p = idle_port to.looper event.Spent steps p.enters
idle_posts to m item answer.TooLong steps p = idle_none steps p.1
idle_posts to m item answer.NoMemory steps p = idle_none steps p
idle_posts to m item (answer.Team team first) steps p = absurd p
idle_posts to m item answer.NoTeam steps p = absurd p
idle_posts to m item (answer.Reply flat message) steps p = absurd p

idle_forwards : (looper : ℕ) (item : ItemData) (a : Answer) (steps : List Step) → ForwardsSo looper item a steps → Idle steps
idle_forwards looper item (answer.Written position) steps p = idle_port looper (event.Written position item) steps p
idle_forwards looper item answer.Closed steps p = idle_port looper event.Refused steps p
idle_forwards looper item answer.Spent steps p = idle_port looper event.Spent steps p
idle_forwards looper item answer.NoMemory steps p = idle_none steps p
idle_forwards looper item answer.Full steps p = absurd p
idle_forwards looper item answer.TooLong steps p = absurd p
idle_forwards looper item (answer.Team team first) steps p = absurd p
idle_forwards looper item answer.NoTeam steps p = absurd p
idle_forwards looper item (answer.Reply flat message) steps p = absurd p

idle_looks : (l : LooperFacts) (word : AppWord) (a : Answer) (steps : List Step) → LooksUp l word a steps → Idle steps
idle_looks l word a steps f = idle_step (at_roster f.noted) steps tt f.is

idle_finds : (l : LooperFacts) (word : AppWord) (a : Answer) (steps : List Step) → ServesFind l word a steps → Idle steps
idle_finds l word answer.NoMemory steps f = idle_none steps f
idle_finds l word (answer.Team team first) steps f = idle_looks l word (answer.Team team first) steps f
idle_finds l word answer.NoTeam steps f = idle_looks l word answer.NoTeam steps f
idle_finds l word (answer.Written position) steps f = idle_looks l word (answer.Written position) steps f
idle_finds l word answer.Full steps f = idle_looks l word answer.Full steps f
idle_finds l word answer.Closed steps f = idle_looks l word answer.Closed steps f
idle_finds l word answer.Spent steps f = idle_looks l word answer.Spent steps f
idle_finds l word answer.TooLong steps f = idle_looks l word answer.TooLong steps f
idle_finds l word (answer.Reply flat message) steps f = idle_looks l word (answer.Reply flat message) steps f

-- ---- doors
idle_opens_for : (l : LooperFacts) (so_far : List Step) (b : Bool) (looper : ℕ) (steps : List Step) → OpensFor l so_far b looper steps → Idle steps
idle_opens_for l so_far true looper steps o = idle_none steps o
idle_opens_for l so_far false looper steps o = idle_step (at_roster o.noted) steps tt o.is

idle_through : (l : LooperFacts) (so_far : List Step) (looper : ℕ) (P : List Step → Type 0) (steps : List Step) → ((rest : List Step) → P rest → Idle rest) → Through l so_far looper P steps → Idle steps
idle_through l so_far looper P steps each t = idle_both t.door t.rest steps (idle_opens_for l so_far (has_door l so_far looper) looper t.door t.opens) (each t.rest t.then_does) t.is

idle_door : (l : LooperFacts) (so_far : List Step) (looper : ℕ) (a : Answer) (P : List Step → Type 0) (steps : List Step) → ((rest : List Step) → P rest → Idle rest) → ThroughDoor l so_far looper a P steps → Idle steps
idle_door l so_far looper answer.NoMemory P steps each d =
    ⊎_elim (λ (t : wants.LacksDoor l so_far looper steps). idle_none steps t.is) (λ (t : Through l so_far looper P steps). idle_through l so_far looper P steps each t) d
idle_door l so_far looper (answer.Team team first) P steps each d = idle_through l so_far looper P steps each d
idle_door l so_far looper answer.NoTeam P steps each d = idle_through l so_far looper P steps each d
idle_door l so_far looper (answer.Written position) P steps each d = idle_through l so_far looper P steps each d
idle_door l so_far looper answer.Full P steps each d = idle_through l so_far looper P steps each d
idle_door l so_far looper answer.Closed P steps each d = idle_through l so_far looper P steps each d
idle_door l so_far looper answer.Spent P steps each d = idle_through l so_far looper P steps each d
idle_door l so_far looper answer.TooLong P steps each d = idle_through l so_far looper P steps each d
idle_door l so_far looper (answer.Reply flat message) P steps each d = idle_through l so_far looper P steps each d

-- ---- each want
idle_serves : (l : LooperFacts) (so_far : List Step) (item : ItemData) (w : Want) (a : Answer) (steps : List Step) → Serves l so_far item w a steps → Idle steps
idle_serves l so_far item (want.Find word) a steps s = idle_finds l word a steps s
idle_serves l so_far item (want.Post to m back) a steps s =
    idle_door l so_far to.looper a (PostsSo to m (wants.sent_item l.team to (wants.owed_to back) m) a) steps (λ rest p. idle_posts to m (wants.sent_item l.team to (wants.owed_to back) m) a rest p) s
idle_serves l so_far item (want.Ask to m) a steps s =
    idle_door l so_far to.looper a (AsksSo to m (wants.sent_item l.team to duty.None m) a) steps (λ rest p. idle_asks to m (wants.sent_item l.team to duty.None m) a rest p) s
idle_serves l so_far item (want.Forward looper popped) a steps s =
    idle_door l so_far looper a (ForwardsSo looper (wants.forwarded_item item popped) a) steps (λ rest p. idle_forwards looper (wants.forwarded_item item popped) a rest p) s
idle_serves l so_far item want.Done a steps s = absurd s

pub idle_serves_all : (l : LooperFacts) (so_far : List Step) (item : ItemData) (asked : List Want) (heard : List Answer) (steps : List Step) → ServesAll l so_far item asked heard steps → Idle steps
idle_serves_all l so_far item [] [] steps s = idle_none steps s
idle_serves_all l so_far item [] (a ∷ heard) steps s = absurd s
idle_serves_all l so_far item (w ∷ asked) [] steps s = absurd s
idle_serves_all l so_far item (w ∷ asked) (a ∷ heard) steps s = idle_both s.0 s.1 steps (idle_serves l so_far item w a s.0 s.2) (idle_serves_all l (so_far ++ s.0) item asked heard s.1 s.3) s.4

-- ---- a closing
idle_shuts : (looper : ℕ) (steps : List Step) → Shuts looper steps → Idle steps
idle_shuts looper steps s =
    ⊎_elim (λ (t : turns.EntersShut looper steps). idle_step (at_port looper t.noted) steps tt t.is) (λ (t : turns.FindsShut looper steps). idle_step (saw_port looper t.seen) steps tt t.is) s

idle_shuts_all : (loopers : List ℕ) (steps : List Step) → ShutsAll loopers steps → Idle steps
idle_shuts_all [] steps s = idle_none steps s
idle_shuts_all (looper ∷ loopers) steps s = idle_both s.0 s.1 steps (idle_shuts looper s.0 s.2) (idle_shuts_all loopers s.1 s.3) s.4

idle_leaves_roster : (l : LooperFacts) (own : Bool) (steps : List Step) → LeavesRoster l own steps → Idle steps
idle_leaves_roster l true steps s =
    ⊎_elim (λ (t : turns.EntersGone l steps). idle_step (at_roster t.noted) steps tt t.is) (λ (t : turns.FindsGone l steps). idle_step (saw_roster t.seen) steps tt t.is) s
idle_leaves_roster l false steps s = idle_none steps s

idle_closes_if : (l : LooperFacts) (due : Bool) (steps : List Step) → ClosesIf l due steps → Idle steps
idle_closes_if l true steps c = idle_both c.gone c.shut steps (idle_leaves_roster l (is_own l) c.gone c.leaves) (idle_shuts_all (closed_by l) c.shut c.shuts) c.is
idle_closes_if l false steps c = idle_none steps c

-- ---- what is owed
abbrev pub owed_for : Duty → ℕ → ℕ
owed_for owed n = bit (owes n owed)

idle_tries : (looper : ℕ) (item : ItemData) (steps : List Step) → TriesBack looper item steps → Idle steps
idle_tries looper item steps t =
    ⊎_elim (λ (p : turns.PostsBack looper item steps). idle_port looper p.what steps p.enters) (λ (is : steps ≡ lacked ∷ []). idle_step lacked steps tt is) t

idle_back : (l : LooperFacts) (so_far : List Step) (b : Bool) (to : Address) (m : MessageData) (steps : List Step) → RepliesBack l so_far b to m steps → Idle steps
idle_back l so_far true to m steps r = idle_none steps r
idle_back l so_far false to m steps r =
    ⊎_elim (λ (w : turns.LacksWay l so_far to.looper steps). idle_step lacked steps tt w.is)
    (λ (t : Through l so_far to.looper (TriesBack to.looper (wants.sent_item l.team to duty.None m)) steps).
    idle_through l so_far to.looper (TriesBack to.looper (wants.sent_item l.team to duty.None m)) steps (λ rest p. idle_tries to.looper (wants.sent_item l.team to duty.None m) rest p) t) r

idle_owed : (owed : Duty) (steps : List Step) → Idle steps → Looks (owed_for owed) steps
idle_owed owed steps a = look_more nothing_due (owed_for owed) steps (λ n. omega arith) a

look_pays : (l : LooperFacts) (so_far : List Step) (owed : Duty) (told : Option MessageData) (steps : List Step) → Pays l so_far owed told steps → Looks (owed_for owed) steps
look_pays l so_far duty.None None steps p = idle_owed duty.None steps (idle_none steps p)
look_pays l so_far (duty.Slot k) None steps p = idle_owed (duty.Slot k) steps (idle_none steps p)
look_pays l so_far (duty.Back to) None steps p = idle_owed (duty.Back to) steps (idle_none steps p)
look_pays l so_far duty.None (Some m) steps p = idle_owed duty.None steps (idle_none steps p)
look_pays l so_far (duty.Slot k) (Some m) steps p = look_fill k (spelling m) steps p
look_pays l so_far (duty.Back to) (Some m) steps p = idle_owed (duty.Back to) steps (idle_back l so_far (is_no_reply m) to m steps p)

idle_pays_none : (l : LooperFacts) (so_far : List Step) (owed : Duty) (told : Option MessageData) (steps : List Step) → told ≡ None → Pays l so_far owed told steps → Idle steps
idle_pays_none l so_far owed told steps none p = idle_none steps (subst (λ (k : Option MessageData). Pays l so_far owed k steps) none p)

idle_text : (owed : Duty) (reply told : Option MessageData) (steps : List Step) → WritesText owed reply told steps → Idle steps
idle_text owed reply _ _ turns.with_memory = idle_none [] refl
idle_text owed reply _ _ (turns.without wants) = idle_step lacked (lacked ∷ []) tt refl

module _ (l : LooperFacts) (so_far : List Step) (owed : Duty) (reply : Option MessageData) (steps : List Step) (s : Settles l so_far owed reply steps) where
  settles_look : (due : ℕ → ℕ) → Looks due s.paying → Looks due steps
  settles_look due paid =
      look_behind due (s.text ++ s.closing ++ s.paying) s.late steps
      (look_before due (s.text ++ s.closing) s.paying (s.text ++ s.closing ++ s.paying)
      (idle_both s.text s.closing (s.text ++ s.closing) (idle_text owed reply s.told s.text s.writes) (idle_closes_if l _ s.closing s.closes) refl) paid refl)
      (idle_closes_if l _ s.late s.closes_late) s.is

  pub settles_idle : reply ≡ None → Idle steps
  settles_idle none = settles_look nothing_due (idle_pays_none l _ owed s.told s.paying (told_none owed reply s.told s.text none s.writes) s.pays)

  pub settles_owed : Looks (owed_for owed) steps
  settles_owed = settles_look (owed_for owed) (look_pays l _ owed s.told s.paying s.pays)

-- ---- what is left
look_leaves_one : (owed : Duty) (steps : List Step) → LeavesOne owed steps → Looks (owed_for owed) steps
look_leaves_one duty.None steps f = idle_owed duty.None steps (idle_none steps f)
look_leaves_one (duty.Slot k) steps f = look_fill k _ steps f
look_leaves_one (duty.Back to) steps f = idle_owed (duty.Back to) steps (idle_none steps f)

abbrev pub left_due : List Taken → ℕ → ℕ
left_due left n = owing_in n left

pub look_leaves_all : (left : List Taken) (steps : List Step) → LeavesAll left steps → Looks (left_due left) steps
look_leaves_all [] steps f = look_more nothing_due (left_due []) steps (λ n. omega arith) (idle_none steps f)
look_leaves_all (taken ∷ left) steps f =
    look_as (left_due (taken ∷ left)) steps (f.0 ++ f.1) f.4
    (look_more (λ n. owed_for taken.item.duty n + left_due left n) (left_due (taken ∷ left)) (f.0 ++ f.1)
    (λ n. omega (arith, many_both (λ (t : Taken). owes n t.item.duty) (taken ∷ []) left, many_one (λ (t : Taken). owes n t.item.duty) taken))
    (look_both (owed_for taken.item.duty) (left_due left) f.0 f.1 (look_leaves_one taken.item.duty f.0 f.2) (look_leaves_all left f.1 f.3)))

-- ---- main and the sessions
idle_act : (AtPort : PortEvent → Type 0) (AtRoster : RosterEvent → Type 0) (steps : List Step) → IsActBy AtPort AtRoster steps → Idle steps
idle_act AtPort AtRoster steps (asks to item flat c) = idle_converses to item flat steps c
idle_act AtPort AtRoster steps (asks_in_vain to e may w) = idle_withdraws to e steps w
idle_act AtPort AtRoster steps (enters_port looper e may enters) = idle_port looper e steps enters
idle_act AtPort AtRoster steps (finds_shut looper may f) = idle_step (saw_port looper f.seen) steps tt f.is
idle_act AtPort AtRoster steps (edits looper e) = idle_step (at_desk looper e.noted) steps tt e.is
idle_act AtPort AtRoster steps (enters_roster noted may is) = idle_step (at_roster noted) steps tt is
idle_act AtPort AtRoster steps (finds_gone team may seen is) = idle_step (saw_roster seen) steps tt is

idle_acts : (Act : List Step → List Step → Type 0) → ((so_far act : List Step) → Act so_far act → Idle act) → (steps : List Step) → AreActs Act steps → Idle steps
idle_acts Act each _ begun = idle_none [] refl
idle_acts Act each _ (went_on so_far act acts does) = idle_both so_far act (so_far ++ act) (idle_acts Act each so_far acts) (each so_far act does) refl

pub main_looks : (steps : List Step) → IsMainDiary steps → Idle steps
main_looks steps diary = idle_acts (λ so_far act. IsAct act) (λ so_far act does. idle_act _ _ act does) steps diary

pub session_looks : (steps : List Step) → IsSessionDiary steps → Idle steps
session_looks steps diary = idle_acts IsSessionAct (λ so_far act does. idle_act _ _ act does.does) steps diary
