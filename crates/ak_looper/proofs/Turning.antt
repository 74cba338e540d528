-- A message in hand is dispatched, and what follows is settled.
use Rattle.std.proofs.Common.{◌≡◌, ℕ, ◌+◌, ◌-◌, Bool, true, false, List, [], ◌∷◌, ◌++◌, length, map, get_or, Some, All, cond, refl, sym, ap, ◌∙◌, subst, inr, ⊎_elim, append_assoc, append-nil, length-append, arith}
use Rattle.std.specs.Prelude.{◌||◌, slice_get, option_map, unwrap_or}
use Rattle.std.proofs.lemmas.List.{append_cancel_left}
use Rattle.std.proofs.lemmas.List.Elements.{All-cons, All-nil}
use Rattle.ak_turn.specs.Noted.{Noted, entry_of}
use Rattle.ak_flatten.specs.declared.item.Taken.{Taken}
use Rattle.ak_action.specs.declared.answer.Answer.{Answer}
use Rattle.ak_action.specs.declared.answer.Want.{Want}
use Rattle.ak_route.specs.declared.outcome.Route.{Route}
use Rattle.ak_route.specs.declared.outcome.Route.TheVariants as routes
use Rattle.ak_action.specs.declared.state.DeskState.{DeskState}
use Rattle.ak_desk.specs.declared.entry.DeskEvent.TheVariants as desk_event
use Rattle.ak_desk.specs.declared.made.Made.{Made}
use Rattle.ak_action.specs.declared.answer.AnswerWord.{AnswerWord}
use Rattle.ak_desk.specs.Desk.{dispatched_entry, given_up_entry}
use Rattle.ak_desk.specs.Dispatch.{entry_route}
use Rattle.ak_desk.specs.Place.{routed_of}
use Rattle.ak_desk.specs.Entry.{EntryData}
use Rattle.ak_desk.specs.Machine.{counted, dispatches, gives_up}
use Rattle.ak_desk.specs.Shared.{DeskSeat}
use Rattle.ak_looper.specs.declared.at_work.After.{After}
use Rattle.ak_looper.specs.declared.reach.Reach.{Reach}
use Rattle.ak_looper.specs.Carrying.{HasDispatchedOne}
use Rattle.ak_looper.specs.Living.{ComesTo, HasInHand, HasSettled, HasWorked, Later, after_of, kind_of}
use Rattle.ak_looper.specs.Stands.{DeskStands, GoesOn, Stands}
use Rattle.ak_diary.specs.Diary.{went_on, ending_of, by_quit, by_team, without_memory}
use Rattle.ak_diary.specs.Looper.{LooperFacts, desk_list, dispatched_in, ends_it, has_quit_mark, is_closing, last_quits, taken_in}
use Rattle.ak_diary.specs.Step.{Step, at_desk, lacked, desk_entries, ran_short}
use Rattle.ak_diary.specs.Turns.{Carried, GivenUp, IsDispatch, lacked_if}
use Rattle.ak_diary.specs.Turns as turns
use Rattle.ak_diary.proofs.Surface.{IsQuiet, IsServing, all_serving, are_quiet, quiet_calls, serving_not_short, settles_quiet}
use Rattle.ak_looper.proofs.Tallies.{closing-append, desk_list_more, desk_quiet, dispatched_more, not_short, short-append, taken-append, taken_quiet}

-- the last things of two lists that are the same
same_last : {A : Type 0} (xs : List A) (x y : A) → xs ++ x ∷ [] ≡ xs ++ y ∷ [] → x ≡ y
same_last xs x y e = ap (λ l. get_or l 0 x) (append_cancel_left xs (x ∷ []) (y ∷ []) e)

-- ---- the entry of a dispatch
-- it is one of a dispatch; whether it ends the looper is its quit mark, or that memory ran out
pub record EntryTells (made : Made) (n : Noted EntryData) : Type 0 where
  pub counts : (k : ℕ) → counted k n.entry.plain.event ≡ k + 1
  pub ends : (ends_it n.entry.plain.event || made.no_memory) ≡ (made.quit || made.no_memory)
  pub mark : has_quit_mark n.entry.plain.event ≡ made.quit

or_false : (b : Bool) → (b || false) ≡ b
or_false true = refl
or_false false = refl

or_true : (b : Bool) → (b || true) ≡ true
or_true true = refl
or_true false = refl

routed_goes_on : (s : DeskState) (r : Route) (position : ℕ) (words : List AnswerWord) (quit : Bool) → gives_up (desk_event.Dispatched position (entry_route s r) words quit) ≡ false
routed_goes_on s (routes.Deliver token t) position words quit = refl
routed_goes_on s routes.Skipped position words quit = refl
routed_goes_on s routes.Dropped position words quit = refl
routed_goes_on s routes.NotUnderstood position words quit = refl
routed_goes_on s (routes.Forward looper) position words quit = refl

carried_tells : (opening : DeskState) (taken : Taken) (asked : List Want) (heard : List Answer) (made : Made) (n : Noted EntryData) → Carried opening taken asked heard made n → EntryTells made n
carried_tells opening taken asked heard made n c =
    let d = c.dispatched in
    let entry = same_last n.before n.entry (dispatched_entry n.before c.clock taken.position taken.item c.before d.words d.quit) d.grown in
    let what = ap (λ (e : EntryData). e.plain.event) entry in
    let quit : made.quit ≡ d.quit = ap (λ (m : Made). m.quit) d.made_is in
    let goes_on = ap gives_up what ∙ routed_goes_on c.before (routed_of c.before taken.item).route taken.position d.words d.quit in
    record {
      counts = λ k. ap (counted k) what;
      ends = ap (λ b. (b || gives_up n.entry.plain.event) || made.no_memory) (ap has_quit_mark what ∙ sym quit) ∙ ap (λ b. (made.quit || b) || made.no_memory) goes_on
          ∙ ap (λ b. b || made.no_memory) (or_false made.quit);
      mark = ap has_quit_mark what ∙ sym quit;
    }

given_up_tells : (opening : DeskState) (taken : Taken) (asked : List Want) (heard : List Answer) (made : Made) (n : Noted EntryData) → GivenUp opening taken asked heard made n → EntryTells made n
given_up_tells opening taken asked heard made n c =
    let d = c.given_up in
    let entry = same_last n.before n.entry (given_up_entry n.before c.clock taken.position) d.grown in
    let what = ap (λ (e : EntryData). e.plain.event) entry in
    let memory : made.no_memory ≡ true = ap (λ (m : Made). m.no_memory) d.made_is in
    record {
      counts = λ k. ap (counted k) what;
      ends = ap (λ b. ends_it n.entry.plain.event || b) memory ∙ or_true (ends_it n.entry.plain.event) ∙ sym (ap (λ b. made.quit || b) memory ∙ or_true made.quit);
      mark = ap has_quit_mark what ∙ sym (ap (λ (m : Made). m.quit) d.made_is);
    }

pub entry_tells : (opening : DeskState) (taken : Taken) (asked : List Want) (heard : List Answer) (made : Made) (n : Noted EntryData) → turns.ComesTo opening taken asked heard made n → EntryTells made n
entry_tells opening taken asked heard made n c = ⊎_elim (carried_tells opening taken asked heard made n) (given_up_tells opening taken asked heard made n) c

-- ---- a step for want of memory
lacks_quiet : (b : Bool) → All IsQuiet (lacked_if b)
lacks_quiet true = All-cons IsQuiet lacked [] tt (All-nil IsQuiet)
lacks_quiet false = All-nil IsQuiet

lacks_short : (b : Bool) → ran_short (lacked_if b) ≡ b
lacks_short true = refl
lacks_short false = refl

-- ---- what one step at its own desk leaves
desk_closing : (l : LooperFacts) (xs : List Step) (n : Noted EntryData) → is_closing (xs ++ at_desk l.number n ∷ []) ≡ (is_closing xs || ends_it n.entry.plain.event)
desk_closing l xs n = closing-append xs (at_desk l.number n ∷ []) ∙ ap (λ b. is_closing xs || b) (or_false (ends_it n.entry.plain.event))

desk_short : (l : LooperFacts) (xs : List Step) (n : Noted EntryData) → ran_short (xs ++ at_desk l.number n ∷ []) ≡ ran_short xs
desk_short l xs n = short-append xs (at_desk l.number n ∷ []) ∙ or_false (ran_short xs)

desk_takes_nothing : (l : LooperFacts) (xs : List Step) (n : Noted EntryData) → taken_in l (xs ++ at_desk l.number n ∷ []) ≡ taken_in l xs
desk_takes_nothing l xs n = taken-append l xs (at_desk l.number n ∷ []) ∙ append-nil (taken_in l xs)

serving_closing : (xs ys : List Step) → is_closing xs ≡ false → All IsServing ys → is_closing (xs ++ ys) ≡ false
serving_closing xs ys calls serving = closing-append xs ys ∙ ap (λ b. b || is_closing ys) calls ∙ quiet_calls ys (are_quiet ys serving) ∙ serving_not_short ys serving

-- the last mark of entries with one more
get_last : {A : Type 0} (xs : List A) (x : A) → slice_get (xs ++ x ∷ []) (length xs) ≡ Some x
get_last [] x = refl
get_last (y ∷ xs) x = get_last xs x

last_mark : (xs : List EntryData) (x : EntryData) → last_quits (xs ++ x ∷ []) ≡ has_quit_mark x.plain.event
last_mark xs x =
    let len : length (xs ++ x ∷ []) - 1 ≡ length xs = omega (arith, length-append xs (x ∷ [])) in
    ap (λ (k : ℕ). unwrap_or (option_map (λ (entry : EntryData). has_quit_mark entry.plain.event) (slice_get (xs ++ x ∷ []) k)) false) len
    ∙ ap (λ o. unwrap_or (option_map (λ (entry : EntryData). has_quit_mark entry.plain.event) o) false) (get_last xs x)

-- ---- a message in hand was dispatched
module _ (l : LooperFacts) (start : ℕ) (work : List Step) (taken : Taken) (made : Made) (r r1 : Reach) (desk desk1 : DeskSeat) (hand : HasInHand l start work taken r desk) (d : HasDispatchedOne l start work taken made desk1 r1) where
  abbrev n : Noted EntryData
  n = d.does.noted

  serving : All IsServing d.does.served
  serving = all_serving l work taken.item d.does.asked d.does.heard d.does.served d.does.serves

  tells : EntryTells made n
  tells = entry_tells l.desk taken d.does.asked d.does.heard made n d.does.comes

  steps_are : work ++ d.steps ≡ (work ++ d.does.served) ++ at_desk l.number n ∷ []
  steps_are = ap (λ k. work ++ k) d.does.is ∙ sym (append_assoc work d.does.served (at_desk l.number n ∷ []))

  closing_then : is_closing (work ++ d.steps) ≡ ends_it n.entry.plain.event
  closing_then = ap is_closing steps_are ∙ desk_closing l (work ++ d.does.served) n ∙ ap (λ b. b || ends_it n.entry.plain.event) (serving_closing work d.does.served hand.not_closing serving)

  short_then : ran_short (work ++ d.steps) ≡ false
  short_then = ap ran_short steps_are ∙ desk_short l (work ++ d.does.served) n ∙ not_short (work ++ d.does.served) (serving_closing work d.does.served hand.not_closing serving)

  taken_then : taken_in l (work ++ d.steps) ≡ taken_in l work
  taken_then = ap (taken_in l) steps_are ∙ desk_takes_nothing l (work ++ d.does.served) n ∙ taken_quiet l work d.does.served (are_quiet d.does.served serving)

  listed_then : desk_list l (work ++ d.steps) ≡ desk_list l work ++ n.entry ∷ []
  listed_then =
      ap (desk_list l) steps_are ∙ desk_list_more l (work ++ d.does.served) n
      ∙ ap (λ k. map entry_of k ++ n.entry ∷ []) (desk_quiet l.number work d.does.served (are_quiet d.does.served serving))

  -- whether it is to close
  pub due_is : is_closing ((work ++ d.steps) ++ lacked_if made.no_memory) ≡ (made.quit || made.no_memory)
  due_is =
      closing-append (work ++ d.steps) (lacked_if made.no_memory) ∙ ap (λ b. b || is_closing (lacked_if made.no_memory)) closing_then
      ∙ ap (λ b. ends_it n.entry.plain.event || b) (quiet_calls (lacked_if made.no_memory) (lacks_quiet made.no_memory) ∙ lacks_short made.no_memory) ∙ tells.ends

  -- ---- and what follows was settled
  module _ (a : After) (r2 : Reach) (s : GoesOn l start ((work ++ d.steps) ++ lacked_if made.no_memory) (HasSettled l ((work ++ d.steps) ++ lacked_if made.no_memory) taken.item.duty made a) r2) where
    abbrev so_far : List Step
    so_far = (work ++ d.steps) ++ lacked_if made.no_memory

    -- what it asked for, its entry, and the want of memory for that
    abbrev first : List Step
    first = d.does.served ++ at_desk l.number n ∷ lacked_if made.no_memory

    abbrev turn : List Step
    turn = first ++ s.steps

    first_is : so_far ≡ work ++ first
    first_is =
        ap (λ k. (work ++ k) ++ lacked_if made.no_memory) d.does.is ∙ append_assoc work (d.does.served ++ at_desk l.number n ∷ []) (lacked_if made.no_memory)
        ∙ ap (λ k. work ++ k) (append_assoc d.does.served (at_desk l.number n ∷ []) (lacked_if made.no_memory))

    behind_is : (work ++ d.does.served) ++ at_desk l.number n ∷ lacked_if made.no_memory ≡ work ++ first
    behind_is = append_assoc work d.does.served (at_desk l.number n ∷ lacked_if made.no_memory)

    whole_is : so_far ++ s.steps ≡ work ++ turn
    whole_is = ap (λ k. k ++ s.steps) first_is ∙ append_assoc work first s.steps

    is_dispatch : IsDispatch l work turn
    is_dispatch = record {
      taken = taken;
      others = [];
      oldest = hand.in_hand_is;
      works = hand.not_closing;
      asked = d.does.asked;
      heard = d.does.heard;
      served = d.does.served;
      serves = d.does.serves;
      made = made;
      noted = n;
      comes = d.does.comes;
      settled = s.steps;
      settles = subst (λ k. turns.Settles l k taken.item.duty made.reply s.steps) (first_is ∙ sym behind_is) s.does.settles;
      is = refl;
    }

    tail_quiet : All IsQuiet s.steps
    tail_quiet = settles_quiet l so_far taken.item.duty made.reply s.steps s.does.settles

    closing_is : is_closing (so_far ++ s.steps) ≡ ((made.quit || made.no_memory) || ran_short s.steps)
    closing_is = closing-append so_far s.steps ∙ ap (λ b. b || is_closing s.steps) due_is ∙ ap (λ b. (made.quit || made.no_memory) || b) (quiet_calls s.steps tail_quiet)

    short_is : ran_short (so_far ++ s.steps) ≡ (made.no_memory || ran_short s.steps)
    short_is =
        short-append so_far s.steps
        ∙ ap (λ b. b || ran_short s.steps) (short-append (work ++ d.steps) (lacked_if made.no_memory) ∙ ap (λ b. b || ran_short (lacked_if made.no_memory)) short_then ∙ lacks_short made.no_memory)

    taken_is : taken_in l (so_far ++ s.steps) ≡ taken_in l work
    taken_is = taken_quiet l so_far s.steps tail_quiet ∙ taken_quiet l (work ++ d.steps) (lacked_if made.no_memory) (lacks_quiet made.no_memory) ∙ taken_then

    entries_are : desk_entries l.number (so_far ++ s.steps) ≡ desk_entries l.number (work ++ d.steps)
    entries_are = desk_quiet l.number so_far s.steps tail_quiet ∙ desk_quiet l.number (work ++ d.steps) (lacked_if made.no_memory) (lacks_quiet made.no_memory)

    listed_is : desk_list l (so_far ++ s.steps) ≡ desk_list l work ++ n.entry ∷ []
    listed_is = ap (map entry_of) entries_are ∙ listed_then

    rested_is : length (taken_in l (so_far ++ s.steps)) ≡ dispatched_in l (so_far ++ s.steps)
    rested_is =
        ap (λ k. length k) taken_is ∙ hand.one_more
        ∙ sym (ap dispatches listed_is ∙ dispatched_more (desk_list l work) n.entry (tells.counts (dispatches (desk_list l work))))

    marked_is : last_quits (desk_list l (so_far ++ s.steps)) ≡ made.quit
    marked_is = ap last_quits listed_is ∙ last_mark (desk_list l work) n.entry ∙ tells.mark

    worked : HasWorked l start (work ++ turn) r2 desk1
    worked = record {
      works = went_on work turn hand.worked.works (inr is_dispatch);
      stands = subst (λ k. Stands l start k r2) whole_is s.stands;
      at_desk = subst (λ k. DeskStands l k desk1) whole_is (record { opening = d.desk.opening; noted_is = d.desk.noted_is ∙ sym entries_are });
    }

    rested : length (taken_in l (work ++ turn)) ≡ dispatched_in l (work ++ turn)
    rested = subst (λ k. length (taken_in l k) ≡ dispatched_in l k) whole_is rested_is

    finish : (q m t : Bool) → made.quit ≡ q → made.no_memory ≡ m → ran_short s.steps ≡ t → ComesTo l start (work ++ turn) (after_of (m || t) ((q || m) || t)) r2 desk1
    finish q true t is_q is_m is_t = (
      record {
        worked = worked;
        rested = rested;
        kind_is = sym (ap (λ k. kind_of (ending_of l k)) (sym whole_is) ∙ ap (λ b. kind_of (cond b without_memory (cond (last_quits (desk_list l (so_far ++ s.steps))) by_quit by_team))) (short_is ∙ ap (λ b. b || ran_short s.steps) is_m));
      },
      ap is_closing (sym whole_is) ∙ closing_is ∙ ap (λ b. (made.quit || b) || ran_short s.steps) is_m ∙ ap (λ b. b || ran_short s.steps) (or_true made.quit),
    )
    finish q false true is_q is_m is_t = (
      record {
        worked = worked;
        rested = rested;
        kind_is = sym (ap (λ k. kind_of (ending_of l k)) (sym whole_is) ∙ ap (λ b. kind_of (cond b without_memory (cond (last_quits (desk_list l (so_far ++ s.steps))) by_quit by_team))) (short_is ∙ ap (λ b. made.no_memory || b) is_t ∙ or_true made.no_memory));
      },
      ap is_closing (sym whole_is) ∙ closing_is ∙ ap (λ b. (made.quit || made.no_memory) || b) is_t ∙ or_true (made.quit || made.no_memory),
    )
    finish true false false is_q is_m is_t = (
      record {
        worked = worked;
        rested = rested;
        kind_is = sym (ap (λ k. kind_of (ending_of l k)) (sym whole_is)
            ∙ ap (λ b. kind_of (cond b without_memory (cond (last_quits (desk_list l (so_far ++ s.steps))) by_quit by_team))) (short_is ∙ ap (λ b. b || ran_short s.steps) is_m ∙ is_t)
            ∙ ap (λ b. kind_of (cond b by_quit by_team)) (marked_is ∙ is_q));
      },
      ap is_closing (sym whole_is) ∙ closing_is ∙ ap (λ b. (b || made.no_memory) || ran_short s.steps) is_q,
    )
    finish false false false is_q is_m is_t =
        record {
          worked = worked;
          rested = rested;
          not_closing = ap is_closing (sym whole_is) ∙ closing_is ∙ ap (λ b. (b || made.no_memory) || ran_short s.steps) is_q ∙ ap (λ b. b || ran_short s.steps) is_m ∙ is_t;
        }

    pub comes_to : Later (λ k. ComesTo l start k a r2 desk1) work
    comes_to = record {
      turn = turn;
      then_is = subst (λ x. ComesTo l start (work ++ turn) x r2 desk1)
          (sym (s.does.after_is ∙ ap (after_of (made.no_memory || ran_short s.steps)) closing_is)) (finish made.quit made.no_memory (ran_short s.steps) refl refl refl);
    }
