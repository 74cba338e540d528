-- The diary of a looper, turn after turn: between turns it has in hand what it took and did not dispatch, and nothing else to do; at its end it fills the slots of what it left.
use Rattle.std.proofs.Common.{◌≡◌, ◌∙◌, ℕ, Bool, true, false, List, [], ◌∷◌, ◌++◌, map, take, Option, None, Some, refl, sym, ap, subst, inr, ⊎_elim, append_assoc}
use Rattle.std.specs.Prelude.{Contains, option_map}
use Rattle.std.proofs.lemmas.List.{map-append}
use Rattle.ak_base.specs.Thread.{looper_thread}
use Rattle.ak_message.specs.Message.{MessageData}
use Rattle.ak_flatten.specs.declared.item.Duty.{Duty}
use Rattle.ak_flatten.specs.declared.item.Duty.TheVariants as duty
use Rattle.ak_flatten.specs.declared.item.Taken.{Taken}
use Rattle.ak_port.specs.declared.port_entry.PortEvent.{PortEvent}
use Rattle.ak_port.specs.declared.reply_entry.ReplyEvent.{ReplyEvent}
use Rattle.ak_port.specs.PortMachine.{handed_out, pending_items, state_of}
use Rattle.ak_port.specs.Reply.{none_text}
use Rattle.ak_port.specs.TakerLaws.{handed_at}
use Rattle.ak_action.specs.declared.state.DeskState.{DeskState}
use Rattle.ak_desk.specs.Dispatch.{fitting}
use Rattle.ak_diary.specs.Diary.{IsDiary, Works, begun, went_on}
use Rattle.ak_diary.specs.Looper.{LooperFacts, in_hand, thread_of}
use Rattle.ak_diary.specs.Step.{Step, at_book, at_desk, at_port, lacked, ran_short}
use Rattle.ak_diary.specs.Turns as turns
use Rattle.ak_diary.specs.Turns.{IsDispatch, IsEnd, IsTake, LeavesAll, LeavesOne, lacked_if, left_at}
use Rattle.ak_headline.specs.Headline.{MissesNone}
use Rattle.ak_headline.proofs.Surface.{is_short, short_left, short_right}
use Rattle.ak_world.specs.World.{Held, Owed, held, owed_for, settled}
use Rattle.ak_sequence.proofs.Dispatching.{HasCome, dispatches_it, has_come}
use Rattle.ak_sequence.proofs.Doing.{Doing, DoesAll, DoesAtBook, DoesAtPort, FillsLeft, handed_then, idle}
use Rattle.ak_sequence.proofs.Parts.{LoopersDo, ServedTo, Serving, kept, sent_on}
use Rattle.ak_sequence.proofs.Settling.{owing_it, settles_none, settles_reply}
use Rattle.ak_sequence.proofs.Steps.{Stays, does_both, does_none, does_one, misses_first, misses_rest, no_sight, stays_none, stays_one}
use Rattle.ak_sequence.proofs.Turning.{dispatched_in_hand, took_in_hand}

-- what it has to do between turns
abbrev pub ready : LooperFacts → List Step → Doing
ready l so_far = owing_it (map held (in_hand l so_far)) None

-- what it has to do at its end
abbrev leaving : List Held → Doing
leaving left = record { work = record { hand = []; left = left; owed = None }; asking = None }

some_fits : (o : Option MessageData) (m : MessageData) → option_map fitting o ≡ Some m → (message : MessageData) × (o ≡ Some message)
some_fits None m e = absurd (cc e)
some_fits (Some reply) m e = (reply, refl)

-- a slot is owed with no reply only where there is none
owed_none : (owed : Duty) → ((n : ℕ) → owed ≡ duty.Slot n → (message : MessageData) × (None ≡ Some message)) → owed_for owed None ≡ None
owed_none duty.None some = refl
owed_none (duty.Slot n) some = absurd (cc (some n refl).1)
owed_none (duty.Back to) some = refl

module _ (short : List ℕ) (openings : ℕ → DeskState) (l : LooperFacts) (opening_is : openings l.number ≡ l.desk) where
  abbrev Among : List Step → Type 0
  Among steps = ran_short steps ≡ true → Contains short l.number

  -- ---- a take
  take_does : (so_far turn : List Step) → Works l so_far → IsTake l so_far turn → DoesAll short openings (thread_of l) (ready l so_far) turn (ready l (so_far ++ turn))
  take_does so_far turn works t =
      let n = t.noted in
      let taken : Doing = owing_it (handed_then short openings (thread_of l) n.before 1) None in
      let before : ready l so_far ≡ idle = ap (λ k. owing_it (map held k) None) t.rested in
      let handed : handed_at n ≡ take 1 (pending_items (state_of n.before)) = ap (handed_out (state_of n.before)) t.event_is in
      let behind : ready l (so_far ++ turn) ≡ taken = ap (λ k. owing_it (map held k) None) (took_in_hand l so_far turn works t ∙ handed) in
      let does : DoesAll short openings (thread_of l) idle turn taken =
      does_one short openings (thread_of l) idle taken (at_port l.number n) turn t.is
      (subst (λ (e : PortEvent). DoesAtPort short openings (thread_of l) idle l.number n.before e taken) (sym t.event_is) (refl, refl)) in
      subst (λ (d : Doing). DoesAll short openings (thread_of l) d turn (ready l (so_far ++ turn))) (sym before)
      (subst (λ (d : Doing). DoesAll short openings (thread_of l) idle turn d) (sym behind) does)

  -- ---- a dispatch
  module _ (serving : Serving) (so_far turn : List Step) (t : IsDispatch l so_far turn) (among : Among turn) (none : MissesNone turn) where
    abbrev others : List Held
    others = map held t.others

    abbrev middle : List Step
    middle = at_desk l.number t.noted ∷ lacked_if t.made.no_memory

    abbrev front : List Step
    front = t.served ++ middle

    come : HasCome l.desk t.taken t.made t.noted
    come = has_come l.desk t.taken t.asked t.heard t.made t.noted t.comes

    lack_stays : (b : Bool) → Stays short openings (thread_of l) (lacked_if b)
    lack_stays true = stays_one short openings (thread_of l) lacked (lacked ∷ []) refl (λ d. refl)
    lack_stays false = stays_none short openings (thread_of l) [] refl

    among_settled : Among t.settled
    among_settled e = among (ap ran_short t.is ∙ short_right front t.settled e)

    among_made : t.made.no_memory ≡ true → Contains short l.number
    among_made e =
        let lacks : ran_short middle ≡ true = ap (λ b. ran_short (at_desk l.number t.noted ∷ lacked_if b)) e in
        among (ap ran_short t.is ∙ short_left front t.settled (short_right t.served middle lacks))

    misses_in_settled : MissesNone t.settled
    misses_in_settled = misses_rest front t.settled turn t.is none

    -- ---- with what was served before its entry
    goes_on : (owed : Duty)
        → DoesAll short openings (thread_of l) (ready l so_far) t.served (owing_it (record { taken = t.taken; owing = owed } ∷ others) None)
        → DoesAll short openings (thread_of l) (owing_it others (owed_for owed come.reply)) t.settled (owing_it others None)
        → DoesAll short openings (thread_of l) (ready l so_far) turn (owing_it others None)
    goes_on owed served settles =
        let first : Doing = owing_it (record { taken = t.taken; owing = owed } ∷ others) None in
        let paying : Doing = owing_it others (owed_for owed come.reply) in
        does_both short openings (thread_of l) (ready l so_far) paying (owing_it others None) front t.settled turn t.is
        (does_both short openings (thread_of l) (ready l so_far) first paying t.served middle front refl served
        (paying, dispatches_it short openings l opening_is t.taken owed others t.made t.noted come among_made, lack_stays t.made.no_memory paying))
        settles

    -- ---- it kept what it owes
    settles_kept : (reply : Option MessageData) → t.made.reply ≡ option_map fitting reply → ((n : ℕ) → t.taken.item.duty ≡ duty.Slot n → (message : MessageData) × (reply ≡ Some message))
        → DoesAll short openings (thread_of l) (owing_it others (owed_for t.taken.item.duty reply)) t.settled (owing_it others None)
    settles_kept None made some =
        subst (λ (o : Option Owed). DoesAll short openings (thread_of l) (owing_it others o) t.settled (owing_it others None)) (sym (owed_none t.taken.item.duty some))
        (settles_none short openings l (so_far ++ t.served ++ middle) t.taken.item.duty t.made.reply t.settled t.settles others made (owing_it others None))
    settles_kept (Some reply) made some = settles_reply short openings l (so_far ++ t.served ++ middle) t.taken.item.duty t.made.reply t.settled t.settles others reply made among_settled misses_in_settled

    -- ---- or it sent the item on
    settles_sent_on : t.made.reply ≡ None → DoesAll short openings (thread_of l) (owing_it others (owed_for duty.None come.reply)) t.settled (owing_it others None)
    settles_sent_on none_made = settles_none short openings l (so_far ++ t.served ++ middle) t.taken.item.duty t.made.reply t.settled t.settles others none_made (owing_it others None)

    served_does : (d : Doing) → DoesAll short openings (thread_of l) (ready l so_far) t.served d → ServedTo t.taken others t.made.reply (ready l so_far) d
        → DoesAll short openings (thread_of l) (ready l so_far) turn (owing_it others None)
    served_does d does (kept same some) =
        let before : d ≡ owing_it (held t.taken ∷ others) None = same ∙ ap (λ k. owing_it (map held k) None) t.oldest in
        goes_on t.taken.item.duty (subst (λ (k : Doing). DoesAll short openings (thread_of l) (ready l so_far) t.served k) before does)
        (settles_kept come.reply come.made_is (λ n is. let made = some n is in some_fits come.reply made.0 (sym come.made_is ∙ made.1)))
    served_does d does (sent_on none_made after) =
        goes_on duty.None (subst (λ (k : Doing). DoesAll short openings (thread_of l) (ready l so_far) t.served k) after does) (settles_sent_on none_made)

    dispatch_does : DoesAll short openings (thread_of l) (ready l so_far) turn (ready l (so_far ++ turn))
    dispatch_does =
        let seen : MissesNone t.served = misses_first t.served middle front refl (misses_first front t.settled turn t.is none) in
        let served = serving short openings l so_far t.taken t.asked t.heard t.made t.noted t.served t.serves t.comes seen others (ready l so_far) refl (ap (map held) t.oldest) in
        subst (λ (k : List Taken). DoesAll short openings (thread_of l) (ready l so_far) turn (owing_it (map held k) None)) (sym (dispatched_in_hand l so_far turn t))
        (served_does served.0 served.1 served.2)

  -- ---- turn after turn
  work_does : Serving → (work : List Step) → Works l work → Among work → MissesNone work → DoesAll short openings (thread_of l) idle work (ready l work)
  work_does serving _ begun among none = refl
  work_does serving _ (went_on so_far turn works does) among none =
      let before = work_does serving so_far works (λ e. among (short_left so_far turn e)) (misses_first so_far turn (so_far ++ turn) refl none) in
      let seen : MissesNone turn = misses_rest so_far turn (so_far ++ turn) refl none in
      does_both short openings (thread_of l) idle (ready l so_far) (ready l (so_far ++ turn)) so_far turn (so_far ++ turn) refl before
      (⊎_elim (λ (t : IsTake l so_far turn). take_does so_far turn works t)
      (λ (t : IsDispatch l so_far turn). dispatch_does serving so_far turn t (λ e. among (short_right so_far turn e)) seen) does)

  -- ---- the end
  -- the first of what is left that was not looked at yet
  leaves_one_does : (before : List Held) (taken : Taken) (behind : List Held) (owed : Duty) (steps : List Step) → taken.item.duty ≡ owed → MissesNone steps → LeavesOne owed steps
      → (one : Held) × DoesAll short openings (thread_of l) (leaving (before ++ held taken ∷ behind)) steps (leaving (before ++ one ∷ behind))
  leaves_one_does before taken behind duty.None steps is none f = (held taken, does_none short openings (thread_of l) (leaving (before ++ held taken ∷ behind)) steps f)
  leaves_one_does before taken behind (duty.Slot n) steps is none f =
      let d : Doing = leaving (before ++ held taken ∷ behind) in
      let d' : Doing = leaving (before ++ settled (held taken) ∷ behind) in (
        settled (held taken),
        ⊎_elim
            (λ (t : turns.EntersFill n none_text steps).
            let left : FillsLeft short openings (thread_of l) d n none_text d' =
            record { looper = l.number; is_by = refl; before = before; one = held taken; behind = behind; left = refl; owes = is; text_is = refl; after = refl } in
            does_one short openings (thread_of l) d d' (at_book t.noted) steps t.is (subst (λ (k : ReplyEvent). DoesAtBook short openings (thread_of l) d k d') (sym t.event_is) (inr left)))
            (λ (t : turns.FindsSettled n steps). absurd (no_sight t.seen steps t.is none)) f,
      )
  leaves_one_does before taken behind (duty.Back to) steps is none f = (held taken, does_none short openings (thread_of l) (leaving (before ++ held taken ∷ behind)) steps f)

  leaves_all_does : (before : List Held) (left : List Taken) (steps : List Step) → MissesNone steps → LeavesAll left steps
      → (d : Doing) × DoesAll short openings (thread_of l) (leaving (before ++ map held left)) steps d
  leaves_all_does before [] steps none f = (leaving (before ++ []), does_none short openings (thread_of l) (leaving (before ++ [])) steps f)
  leaves_all_does before (taken ∷ left) steps none f =
      let behind : List Held = map held left in
      let one = leaves_one_does before taken behind taken.item.duty f.0 refl (misses_first f.0 f.1 steps f.4 none) f.2 in
      let rest = leaves_all_does (before ++ one.0 ∷ []) left f.1 (misses_rest f.0 f.1 steps f.4 none) f.3 in (
        rest.0,
        does_both short openings (thread_of l) (leaving (before ++ held taken ∷ behind)) (leaving (before ++ one.0 ∷ behind)) rest.0 f.0 f.1 steps f.4 one.1
            (subst (λ (k : List Held). DoesAll short openings (thread_of l) (leaving k) f.1 rest.0) (append_assoc before (one.0 ∷ []) behind) rest.1),
      )

  end_does : (so_far turn : List Step) → IsEnd l so_far turn → MissesNone turn → (d : Doing) × DoesAll short openings (thread_of l) (ready l so_far) turn d
  end_does so_far turn e none =
      let n = e.noted in
      let left : List Taken = left_at l so_far n in
      let first : List Step = at_port l.number n ∷ [] in
      let handed : handed_at n ≡ take e.count (pending_items (state_of n.before)) = ap (handed_out (state_of n.before)) e.event_is in
      let left_is : map held left ≡ map held (in_hand l so_far) ++ handed_then short openings (thread_of l) n.before e.count =
      map-append held (in_hand l so_far) (handed_at n) ∙ ap (λ k. map held (in_hand l so_far) ++ map held k) handed in
      let rests : DoesAtPort short openings (thread_of l) (ready l so_far) l.number n.before n.entry.event (leaving (map held left)) =
      subst (λ (k : PortEvent). DoesAtPort short openings (thread_of l) (ready l so_far) l.number n.before k (leaving (map held left))) (sym e.event_is) (refl, ap leaving left_is) in
      let answers = leaves_all_does [] left e.answers (misses_rest first e.answers turn e.is none) e.leaves in (
        answers.0,
        does_both short openings (thread_of l) (ready l so_far) (leaving (map held left)) answers.0 first e.answers turn e.is
            (does_one short openings (thread_of l) (ready l so_far) (leaving (map held left)) (at_port l.number n) first refl rests) answers.1,
      )

  diary_does : Serving → (steps : List Step) → IsDiary l steps → Among steps → MissesNone steps → (d : Doing) × DoesAll short openings (thread_of l) idle steps d
  diary_does serving steps diary among none =
      let work = work_does serving diary.work diary.works (λ e. among (ap ran_short diary.is ∙ short_left diary.work diary.end e)) (misses_first diary.work diary.end steps diary.is none) in
      let end = end_does diary.work diary.end diary.ends (misses_rest diary.work diary.end steps diary.is none) in
      (end.0, does_both short openings (thread_of l) idle (ready l diary.work) end.0 diary.work diary.end steps diary.is work end.1)

pub loopers_do : Serving → LoopersDo
loopers_do serving heads short h looper has none openings opening =
    let l = has.facts in
    let opening_is : openings l.number ≡ l.desk = ap openings has.number_is ∙ opening in
    let among : ran_short has.steps ≡ true → Contains short l.number = λ e. subst (Contains short) (sym has.number_is) (is_short short looper (sym has.short_is ∙ e)) in
    subst (λ (number : ℕ). (d : Doing) × DoesAll short openings (looper_thread number) idle has.steps d) has.number_is
    (diary_does short openings l opening_is serving has.steps has.diary.legal among none)
