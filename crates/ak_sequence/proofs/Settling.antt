-- What follows a dispatch: the slot that is owed is filled with the reply, or with that of no reply where memory was wanting; all else leaves what is to be done as it is.
use Rattle.std.proofs.Common.{◌≡◌, ◌⊎◌, ◌∙◌, ℕ, Bool, true, false, List, [], ◌∷◌, ◌++◌, Option, None, Some, refl, sym, ap, subst, inl, inr, ⊎_elim}
use Rattle.std.specs.Prelude.{Contains}
use Rattle.ak_message.specs.declared.address.Address.{Address}
use Rattle.ak_message.specs.Message.{MessageData}
use Rattle.ak_flatten.specs.declared.item.Duty.{Duty}
use Rattle.ak_flatten.specs.declared.item.Duty.TheVariants as duty
use Rattle.ak_flatten.specs.Item.{ItemData}
use Rattle.ak_flatten.specs.Spelling.{spelling}
use Rattle.ak_port.specs.declared.port_entry.PortEvent.{PortEvent}
use Rattle.ak_port.specs.declared.port_entry.PortEvent.TheVariants as port_event
use Rattle.ak_port.specs.declared.reply_entry.ReplyEvent.{ReplyEvent}
use Rattle.ak_port.specs.Reply.{none_text}
use Rattle.ak_action.specs.declared.state.DeskState.{DeskState}
use Rattle.ak_desk.specs.Dispatch.{fitting}
use Rattle.ak_desk.specs.Replies.{none_reply}
use Rattle.ak_diary.specs.Looper.{LooperFacts, closed_by, has_door, is_closing, is_own, thread_of}
use Rattle.ak_diary.specs.Step.{Step, at_book, at_roster, lacked, ran_short, saw_port, saw_roster}
use Rattle.ak_diary.specs.Turns as turns
use Rattle.ak_diary.specs.Turns.{ClosesIf, Fills, LeavesRoster, Pays, RepliesBack, Settles, Shuts, ShutsAll, TriesBack, WritesText, is_no_reply}
use Rattle.ak_diary.specs.Wants as wants
use Rattle.ak_diary.specs.Wants.{OpensFor, Through}
use Rattle.ak_headline.specs.Headline.{MissesNone}
use Rattle.ak_headline.specs.Main.{MayEnterPort, owes_no_slot}
use Rattle.ak_headline.proofs.Surface.{short_left, told_none, told_some}
use Rattle.ak_world.specs.World.{Held, Owed, owed_for}
use Rattle.ak_sequence.proofs.Doing.{Doing, DoesAll, DoesAtBook, FillsOwed}
use Rattle.ak_sequence.proofs.Steps.{Stays, does_both, does_none, does_one, misses_first, misses_rest, no_sight, stays_at_port, stays_both, stays_none, stays_one}

-- these in hand, that owed, and nothing else to do
abbrev pub owing_it : List Held → Option Owed → Doing
owing_it hand owed = record { work = record { hand = hand; left = []; owed = owed }; asking = None }

module _ (short : List ℕ) (openings : ℕ → DeskState) (thread : ℕ) where
  lack_stays : (steps : List Step) → steps ≡ lacked ∷ [] → Stays short openings thread steps
  lack_stays steps is = stays_one short openings thread lacked steps is (λ d. refl)

  -- ---- a closing
  shuts_stays : (looper : ℕ) (steps : List Step) → Shuts looper steps → Stays short openings thread steps
  shuts_stays looper steps s =
      ⊎_elim (λ (t : turns.EntersShut looper steps). stays_at_port short openings thread looper port_event.Shut steps tt (record { noted = t.noted; event_is = t.event_is; is = t.is }))
      (λ (t : turns.FindsShut looper steps). stays_one short openings thread (saw_port looper t.seen) steps t.is (λ d. refl)) s

  shuts_all_stays : (loopers : List ℕ) (steps : List Step) → ShutsAll loopers steps → Stays short openings thread steps
  shuts_all_stays [] steps s = stays_none short openings thread steps s
  shuts_all_stays (looper ∷ loopers) steps s = stays_both short openings thread s.0 s.1 steps s.4 (shuts_stays looper s.0 s.2) (shuts_all_stays loopers s.1 s.3)

  leaves_roster_stays : (l : LooperFacts) (own : Bool) (steps : List Step) → LeavesRoster l own steps → Stays short openings thread steps
  leaves_roster_stays l true steps s =
      ⊎_elim (λ (t : turns.EntersGone l steps). stays_one short openings thread (at_roster t.noted) steps t.is (λ d. refl))
      (λ (t : turns.FindsGone l steps). stays_one short openings thread (saw_roster t.seen) steps t.is (λ d. refl)) s
  leaves_roster_stays l false steps s = stays_none short openings thread steps s

  closes_if_stays : (l : LooperFacts) (due : Bool) (steps : List Step) → ClosesIf l due steps → Stays short openings thread steps
  closes_if_stays l true steps c = stays_both short openings thread c.gone c.shut steps c.is (leaves_roster_stays l (is_own l) c.gone c.leaves) (shuts_all_stays (closed_by l) c.shut c.shuts)
  closes_if_stays l false steps c = stays_none short openings thread steps c

  -- ---- a reply that is posted back
  posted_plain : (item : ItemData) (e : PortEvent) → owes_no_slot item.duty ≡ true → turns.IsPosted item e → MayEnterPort e
  posted_plain item _ plain (turns.written position) = plain
  posted_plain item _ plain turns.full = tt
  posted_plain item _ plain turns.refused = tt
  posted_plain item _ plain turns.spent = tt

  tries_stays : (looper : ℕ) (item : ItemData) (steps : List Step) → owes_no_slot item.duty ≡ true → TriesBack looper item steps → Stays short openings thread steps
  tries_stays looper item steps plain t =
      ⊎_elim (λ (p : turns.PostsBack looper item steps). stays_at_port short openings thread looper p.what steps (posted_plain item p.what plain p.may) p.enters)
      (λ (is : steps ≡ lacked ∷ []). lack_stays steps is) t

  opens_for_stays : (l : LooperFacts) (so_far : List Step) (b : Bool) (looper : ℕ) (steps : List Step) → OpensFor l so_far b looper steps → Stays short openings thread steps
  opens_for_stays l so_far true looper steps o = stays_none short openings thread steps o
  opens_for_stays l so_far false looper steps o = stays_one short openings thread (at_roster o.noted) steps o.is (λ d. refl)

  back_stays : (l : LooperFacts) (so_far : List Step) (b : Bool) (to : Address) (m : MessageData) (steps : List Step) → RepliesBack l so_far b to m steps → Stays short openings thread steps
  back_stays l so_far true to m steps r = stays_none short openings thread steps r
  back_stays l so_far false to m steps r =
      let item = wants.sent_item l.team to duty.None m in
      ⊎_elim (λ (w : turns.LacksWay l so_far to.looper steps). lack_stays steps w.is)
      (λ (t : Through l so_far to.looper (TriesBack to.looper item) steps).
      stays_both short openings thread t.door t.rest steps t.is (opens_for_stays l so_far (has_door l so_far to.looper) to.looper t.door t.opens) (tries_stays to.looper item t.rest refl t.then_does)) r

  -- ---- a text
  text_stays : (owed : Duty) (reply told : Option MessageData) (steps : List Step) → WritesText owed reply told steps → Stays short openings thread steps
  text_stays owed reply _ _ turns.with_memory = stays_none short openings thread [] refl
  text_stays owed reply _ _ (turns.without wants) = lack_stays (lacked ∷ []) refl

-- it is that of the reply, or that of no reply where memory was wanting
text_so : (short : List ℕ) (looper : ℕ) (owed : Duty) (reply : MessageData) (made told : Option MessageData) (m : MessageData) (text : List Step) → made ≡ Some (fitting reply) → told ≡ Some m
    → (ran_short text ≡ true → Contains short looper) → WritesText owed made told text → (spelling m ≡ spelling (fitting reply)) ⊎ (Contains short looper × (spelling m ≡ none_text))
text_so short looper owed reply made _ m _ is told among turns.with_memory =
    let same : m ≡ fitting reply = cc in
    inl (ap spelling same)
text_so short looper owed reply made _ m _ is told among (turns.without wants) =
    let same : m ≡ none_reply = cc in
    inr (among refl, ap spelling same)

module _ (short : List ℕ) (openings : ℕ → DeskState) (l : LooperFacts) where
  -- ---- what is owed is paid
  fills_does : (hand : List Held) (n : ℕ) (reply : MessageData) (text : List ℕ) (steps : List Step) → (text ≡ spelling (fitting reply)) ⊎ (Contains short l.number × (text ≡ none_text)) → MissesNone steps
      → Fills n text steps → DoesAll short openings (thread_of l) (owing_it hand (Some (record { slot = n; reply = Some reply }))) steps (owing_it hand None)
  fills_does hand n reply text steps text_is none f =
      let d : Doing = owing_it hand (Some (record { slot = n; reply = Some reply })) in
      ⊎_elim
      (λ (t : turns.EntersFill n text steps).
      let owed : FillsOwed short openings (thread_of l) d n text (owing_it hand None) = record { looper = l.number; is_by = refl; reply = reply; owes = refl; text_is = text_is; after = refl } in
      does_one short openings (thread_of l) d (owing_it hand None) (at_book t.noted) steps t.is
      (subst (λ (k : ReplyEvent). DoesAtBook short openings (thread_of l) d k (owing_it hand None)) (sym t.event_is) (inl owed)))
      (λ (t : turns.FindsSettled n steps). absurd (no_sight t.seen steps t.is none)) f

  module _ (hand : List Held) (so_far : List Step) where
    -- with the reply that the rules make
    pays_reply : (owed : Duty) (reply told : MessageData) (steps : List Step) → (spelling told ≡ spelling (fitting reply)) ⊎ (Contains short l.number × (spelling told ≡ none_text)) → MissesNone steps
        → Pays l so_far owed (Some told) steps → DoesAll short openings (thread_of l) (owing_it hand (owed_for owed (Some reply))) steps (owing_it hand None)
    pays_reply duty.None reply told steps text_is none p = does_none short openings (thread_of l) (owing_it hand None) steps p
    pays_reply (duty.Slot n) reply told steps text_is none p = fills_does hand n reply (spelling told) steps text_is none p
    pays_reply (duty.Back to) reply told steps text_is none p = back_stays short openings (thread_of l) l so_far (is_no_reply told) to told steps p (owing_it hand None)

    -- where there is none, nothing is
    pays_none : (owed : Duty) (told : Option MessageData) (steps : List Step) → told ≡ None → Pays l so_far owed told steps → Stays short openings (thread_of l) steps
    pays_none owed told steps none p = stays_none short openings (thread_of l) steps (subst (λ (k : Option MessageData). Pays l so_far owed k steps) none p)

  module _ (so_far : List Step) (owed : Duty) (made : Option MessageData) (steps : List Step) (s : Settles l so_far owed made steps) where
    abbrev front : List Step
    front = s.text ++ s.closing ++ s.paying

    -- all but the payment
    settles_with : (d d' : Doing) → DoesAll short openings (thread_of l) d s.paying d' → DoesAll short openings (thread_of l) d steps d'
    settles_with d d' paid =
        let text = text_stays short openings (thread_of l) owed made s.told s.text s.writes in
        let closing = closes_if_stays short openings (thread_of l) l (is_closing (so_far ++ s.text)) s.closing s.closes in
        does_both short openings (thread_of l) d d' d' front s.late steps s.is
        (does_both short openings (thread_of l) d d d' (s.text ++ s.closing) s.paying front refl (stays_both short openings (thread_of l) s.text s.closing (s.text ++ s.closing) refl text closing d) paid)
        (closes_if_stays short openings (thread_of l) l _ s.late s.closes_late d')

    misses_in_paying : MissesNone steps → MissesNone s.paying
    misses_in_paying none = misses_rest (s.text ++ s.closing) s.paying front refl (misses_first front s.late steps s.is none)

    short_in_text : ran_short s.text ≡ true → ran_short steps ≡ true
    short_in_text e = ap ran_short s.is ∙ short_left front s.late (short_left (s.text ++ s.closing) s.paying (short_left s.text s.closing e))

    -- of an item that was sent on
    pub settles_none : (hand : List Held) → made ≡ None → Stays short openings (thread_of l) steps
    settles_none hand is d = settles_with d d (pays_none hand (so_far ++ s.text ++ s.closing) owed s.told s.paying (told_none owed made s.told s.text is s.writes) s.pays d)

    -- of one that was kept
    pub settles_reply : (hand : List Held) (reply : MessageData) → made ≡ Some (fitting reply) → (ran_short steps ≡ true → Contains short l.number) → MissesNone steps
        → DoesAll short openings (thread_of l) (owing_it hand (owed_for owed (Some reply))) steps (owing_it hand None)
    settles_reply hand reply is among none =
        let told = told_some owed made s.told s.text (record { message = fitting reply; is = is }) s.writes in
        let text_is = text_so short l.number owed reply made s.told told.message s.text is told.is (λ e. among (short_in_text e)) s.writes in
        settles_with (owing_it hand (owed_for owed (Some reply))) (owing_it hand None)
        (pays_reply hand (so_far ++ s.text ++ s.closing) owed reply told.message s.paying text_is (misses_in_paying none)
        (subst (λ (k : Option MessageData). Pays l (so_far ++ s.text ++ s.closing) owed k s.paying) told.is s.pays))
