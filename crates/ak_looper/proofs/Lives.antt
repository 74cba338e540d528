-- The turns of a looper's thread: a take, a dispatch with what follows, the rest.
use Rattle.std.proofs.Common.{◌≡◌, ℕ, zero, suc, ◌+◌, ◌-◌, ◌==◌, Bool, true, false, List, [], ◌∷◌, ◌++◌, length, map, Option, Some, None, All, cond, refl, sym, ap, ◌∙◌, subst, inl, append-nil, length-append, arith}
use Rattle.std.specs.Prelude.{◌||◌, slice_get, option_map, unwrap_or, IfSome}
use Rattle.std.specs.Option.{option_to_list}
use Rattle.std.proofs.lemmas.Bool.{or_parts}
use Rattle.std.proofs.lemmas.List.{map-append}
use Rattle.std.proofs.lemmas.List.Elements.{All-append, All-cons, All-head, All-nil, All-tail}
use Rattle.ak_turn.specs.Noted.{Noted, entry_of}
use Rattle.ak_flatten.specs.declared.item.Taken.{Taken}
use Rattle.ak_port.specs.declared.port_entry.PortEntry.{PortEntry}
use Rattle.ak_port.specs.declared.port_entry.TakeAnswer.TheVariants as answered
use Rattle.ak_desk.specs.Shared.{DeskSeat}
use Rattle.ak_desk.specs.Entry.{EntryData}
use Rattle.ak_desk.specs.Machine.{gives_up}
use Rattle.ak_looper.specs.declared.job.EndKind.{EndKind}
use Rattle.ak_looper.specs.declared.job.EndKind.TheVariants as kind
use Rattle.ak_port.specs.declared.port_entry.PortEvent.TheVariants as event
use Rattle.ak_port.specs.declared.port_entry.TakeAnswer.{TakeAnswer}
use Rattle.ak_looper.specs.declared.reach.Reach.{Reach}
use Rattle.ak_looper.specs.Living.{GoesOnWorking, HasInHand, HasRested, HasRestedSo, HasStopped, kind_of}
use Rattle.ak_looper.specs.Stands.{DeskStands, GoesOn, Stands}
use Rattle.ak_looper.specs.Taking.{IsTaking, IsTheRest}
use Rattle.ak_diary.specs.Diary.{Works, went_on, ending_of, by_quit, by_team, without_memory}
use Rattle.ak_diary.specs.Looper.{LooperFacts, calls_for_closing, desk_list, dispatched_in, has_quit_mark, is_closing, last_quits, taken_in}
use Rattle.ak_diary.specs.Step.{Step, at_roster, at_book, at_port, at_desk, saw_roster, saw_book, saw_port, lacked, desk_entries, desk_entry}
use Rattle.ak_looper.proofs.Tallies.{closing-append, desk-append, dispatched_as, last_position, none_in_hand, not_short, taken_more, those_in_hand}

module _ (l : LooperFacts) (start : ℕ) (work : List Step) where
  -- a take makes no entry at the desk
  desk_as : (n : Noted PortEntry) (steps : List Step) (desk : DeskSeat) → steps ≡ at_port l.number n ∷ [] → DeskStands l work desk → DeskStands l (work ++ steps) desk
  desk_as n steps desk is stands =
      record { opening = stands.opening; noted_is = stands.noted_is ∙ sym (ap (λ s. desk_entries l.number (work ++ s)) is ∙ desk-append l.number work (at_port l.number n ∷ []) ∙ append-nil (desk_entries l.number work)) }

  -- one item was taken, which is in hand
  pub took_one : (count : ℕ) (queue : List Taken) (taken : Taken) (r r' : Reach) (desk : DeskSeat) → GoesOnWorking l start work r desk → (goes : GoesOn l start work (IsTaking l work (answered.Took count) queue) r') → queue ≡ taken ∷ [] → count ≡ 1
      → HasInHand l start (work ++ goes.steps) taken r' desk
  took_one count queue taken r r' desk working goes only one =
      let t = goes.does in
      let hands : taken_in l (work ++ goes.steps) ≡ taken_in l work ++ taken ∷ [] = ap (λ s. taken_in l (work ++ s)) t.is ∙ taken_more l work t.noted_one ∙ ap (λ k. taken_in l work ++ k) (sym t.queue_is ∙ only) in
      let same : dispatched_in l (work ++ goes.steps) ≡ dispatched_in l work = ap (λ s. dispatched_in l (work ++ s)) t.is ∙ dispatched_as l work t.noted_one in
      let rested : length (taken_in l work) ≡ dispatched_in l (work ++ goes.steps) = working.rested ∙ sym same in
      record {
        worked = record {
          works = went_on work goes.steps working.worked.works
              (inl (record { rested = none_in_hand l work working.rested; works = working.not_closing; noted = t.noted_one; event_is = t.event_is ∙ ap (λ (k : ℕ). event.Took k) one; is = t.is }));
          stands = goes.stands;
          at_desk = desk_as t.noted_one goes.steps desk t.is working.worked.at_desk;
        };
        in_hand_is = those_in_hand l work (work ++ goes.steps) (taken ∷ []) rested hands;
        position = last_position 0 t.items (taken_in l work) taken (sym hands ∙ t.all) ∙ omega (arith, rested);
        one_more = ap (λ k. length k) hands ∙ length-append (taken_in l work) (taken ∷ []) ∙ ap (λ (n : ℕ). n + 1) rested;
        not_closing = ap (λ s. is_closing (work ++ s)) t.is ∙ closing-append work (at_port l.number t.noted_one ∷ []) ∙ ap (λ b. b || false) working.not_closing;
      }

  -- the rest was taken
  pub took_rest : (count : ℕ) (queue : List Taken) (r r' : Reach) (desk : DeskSeat) → Works l work → DeskStands l work desk → length (taken_in l work) ≡ dispatched_in l work
      → (goes : GoesOn l start work (IsTaking l work (answered.Rest count) queue) r') → HasRested l start work queue r' desk
  took_rest count queue r r' desk works stands rested goes =
      let t = goes.does in
      record {
        works = works;
        rested = rested;
        noted = t.noted_one;
        count = count;
        event_is = t.event_is;
        left = t.queue_is;
        stands = subst (λ s. Stands l start (work ++ s) r') t.is goes.stands;
        at_desk = subst (λ s. DeskStands l (work ++ s) desk) t.is (desk_as t.noted_one goes.steps desk t.is stands);
      }

-- ---- how it ends
-- where no thing has a mark, none at any place has
no_mark_at : {A : Type 0} (f : A → Bool) (xs : List A) → All (λ x. f x ≡ false) xs → (k : ℕ) → unwrap_or (option_map f (slice_get xs k)) false ≡ false
no_mark_at f [] none k = refl
no_mark_at f (x ∷ xs) none zero = All-head (λ x. f x ≡ false) x xs none
no_mark_at f (x ∷ xs) none (suc k) = no_mark_at f xs (All-tail (λ x. f x ≡ false) x xs none) k

abbrev HasNoMark : EntryData → Type 0
HasNoMark entry = has_quit_mark entry.plain.event ≡ false

if_no_mark : (b : Bool) (n : Noted EntryData) → HasNoMark n.entry → All HasNoMark (map entry_of (cond b (n ∷ []) []))
if_no_mark true n none = All-cons HasNoMark n.entry [] none (All-nil HasNoMark)
if_no_mark false n none = All-nil HasNoMark

step_no_mark : (looper : ℕ) (s : Step) → calls_for_closing s ≡ false → All HasNoMark (map entry_of (desk_entry looper s))
step_no_mark looper (at_roster n) calls = All-nil HasNoMark
step_no_mark looper (at_book n) calls = All-nil HasNoMark
step_no_mark looper (at_port number n) calls = All-nil HasNoMark
step_no_mark looper (at_desk number n) calls = if_no_mark (number == looper) n (or_parts (has_quit_mark n.entry.plain.event) (gives_up n.entry.plain.event) calls).0
step_no_mark looper (saw_roster seen) calls = All-nil HasNoMark
step_no_mark looper (saw_book seen) calls = All-nil HasNoMark
step_no_mark looper (saw_port number seen) calls = All-nil HasNoMark
step_no_mark looper lacked calls = All-nil HasNoMark

no_marks : (l : LooperFacts) (xs : List Step) → is_closing xs ≡ false → All HasNoMark (desk_list l xs)
no_marks l [] calls = All-nil HasNoMark
no_marks l (x ∷ xs) calls =
    subst (All HasNoMark) (sym (map-append entry_of (desk_entry l.number x) (desk_entries l.number xs)))
    (All-append HasNoMark (map entry_of (desk_entry l.number x)) (desk_list l xs) (step_no_mark l.number x (or_parts (calls_for_closing x) (is_closing xs) calls).0)
    (no_marks l xs (or_parts (calls_for_closing x) (is_closing xs) calls).1))

pub no_last_mark : (l : LooperFacts) (xs : List Step) → is_closing xs ≡ false → last_quits (desk_list l xs) ≡ false
no_last_mark l xs calls = no_mark_at (λ (entry : EntryData). has_quit_mark entry.plain.event) (desk_list l xs) (no_marks l xs calls) (length (desk_list l xs) - 1)

-- what calls for no closing ends by others
pub by_others : (l : LooperFacts) (work : List Step) → is_closing work ≡ false → kind.TeamClosed ≡ kind_of (ending_of l work)
by_others l work calls =
    sym (ap (λ b. kind_of (cond b without_memory (cond (last_quits (desk_list l work)) by_quit by_team))) (not_short work calls)
    ∙ ap (λ b. kind_of (cond b by_quit by_team)) (no_last_mark l work calls))

-- ---- one item is taken off a queue that has one
pub popped_one : (popped : Option Taken) (queue rest : List Taken) → queue ≡ option_to_list popped ++ rest → length queue ≡ 1 → IfSome popped (λ t. queue ≡ t ∷ [])
popped_one None queue rest is one = tt
popped_one (Some t) queue [] is one = is
popped_one (Some t) queue (x ∷ rest) is one = absurd (omega (arith, sym one ∙ ap (λ l. length l) is))

pub each_some : {A : Type 0} (o : Option A) (P Q : A → Type 0) → IfSome o P → ((x : A) → P x → Q x) → IfSome o Q
each_some None P Q p each = tt
each_some (Some x) P Q p each = each x p

-- ---- the rest of a port that is shut
pub rested_so : (l : LooperFacts) (start : ℕ) (work : List Step) (k : EndKind) (answer : TakeAnswer) (queue : List Taken) (r r' : Reach) (desk : DeskSeat) → HasStopped l start work k r desk → IsTheRest answer
    → GoesOn l start work (IsTaking l work answer queue) r' → HasRestedSo l start work k queue r' desk
rested_so l start work k (answered.Took count) queue r r' desk stopped rest goes = absurd rest
rested_so l start work k (answered.Rest count) queue r r' desk stopped rest goes =
    record { so = took_rest l start work count queue r r' desk stopped.worked.works stopped.worked.at_desk stopped.rested goes; kind_is = stopped.kind_is }
