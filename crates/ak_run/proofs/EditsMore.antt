-- Main edits the handlers of loopers alone that it had started: so it stays with each act.
use Rattle.std.proofs.Common.{◌≡◌, ℕ, ◌+◌, ◌<◌, cond, List, [], ◌∷◌, ◌++◌, length, map, refl, sym, ap, ◌∙◌, subst, append-nil, eq-eqb}
use Rattle.std.proofs.lemmas.List.Concat.{flat_map-append}
use Rattle.ak_base.specs.Thread.{main_thread}
use Rattle.ak_turn.specs.Noted.{Noted, entry_of}
use Rattle.ak_turn.proofs.Surface.{noted_is_made}
use Rattle.ak_roster.specs.declared.head.AppHead.{AppHead}
use Rattle.ak_roster.specs.declared.entry.RosterEntry.{RosterEntry}
use Rattle.ak_roster.specs.Kept.{count_of}
use Rattle.ak_desk.specs.declared.entry.Edit.{Edit}
use Rattle.ak_desk.specs.Entry.{EntryData}
use Rattle.ak_diary.specs.Step.{Step, at_desk, desk_entries, desk_entry, roster_entries}
use Rattle.ak_headline.specs.Run.{EditsStarted, started_by}
use Rattle.ak_looper.specs.Counting.{started_in}
use Rattle.ak_looper.specs.Rosters.{maker_of, plain_of}
use Rattle.ak_session.specs.declared.answers.Edited.{Edited}
use Rattle.ak_session.specs.declared.answers.Edited.TheVariants as edited
use Rattle.ak_session.specs.Doing.{EditedSo}
use Rattle.ak_run.specs.declared.run.Run.{Run}
use Rattle.ak_run.specs.Recording.{IsRecorded, fronts_of}
use Rattle.ak_run.specs.Running.{IsRunning}

-- ---- lists
same_head : {X : Type 0} (y b : X) (l r : List X) → y ∷ l ≡ b ∷ r → y ≡ b
same_head y b l r is = cc

same_tail : {X : Type 0} (y b : X) (l r : List X) → y ∷ l ≡ b ∷ r → l ≡ r
same_tail y b l r is = cc

same_both : {X : Type 0} (y b : X) (l r : List X) → y ≡ b → l ≡ r → y ∷ l ≡ b ∷ r
same_both {X} y b l r one others = ap (λ (x : X). x ∷ l) one ∙ ap (λ (t : List X). b ∷ t) others

-- what is in two lists, one after the other, is in the first of them or in the second
pub split_case : {X : Type 0} (P : Type 0) (xs ys before : List X) (x : X) (behind : List X) → xs ++ ys ≡ before ++ x ∷ behind → ((rest : List X) → xs ≡ before ++ x ∷ rest → P) → ((more : List X) → before ≡ xs ++ more → ys ≡ more ++ x ∷ behind → P) → P
split_case P [] ys before x behind is inside beyond = beyond before refl is
split_case P (y ∷ xs) ys [] x behind is inside beyond = inside xs (same_both y x xs xs (same_head y x (xs ++ ys) behind is) refl)
split_case P (y ∷ xs) ys (b ∷ before) x behind is inside beyond =
    let one = same_head y b (xs ++ ys) (before ++ x ∷ behind) is in
    split_case P xs ys before x behind (same_tail y b (xs ++ ys) (before ++ x ∷ behind) is)
    (λ rest so. inside rest (same_both y b xs (before ++ x ∷ rest) one so))
    (λ more so there. beyond more (same_both b y before (xs ++ more) (sym one) so) there)

-- a list with something in it is not empty
never_empty : {X : Type 0} (xs ys : List X) (x : X) → xs ++ x ∷ ys ≡ [] → ⊥
never_empty [] ys x is = absurd cc
never_empty (y ∷ xs) ys x is = absurd cc

-- ---- edits
-- an edit among some steps is one of the desk's
edit_among : (looper : ℕ) (n : Noted EntryData) (more behind : List Step) → desk_entries looper (more ++ at_desk looper n ∷ behind) ≡ desk_entries looper more ++ n ∷ desk_entries looper behind
edit_among looper n more behind =
    flat_map-append (desk_entry looper) more (at_desk looper n ∷ behind)
    ∙ ap (λ b. desk_entries looper more ++ (cond b (n ∷ []) [] ++ desk_entries looper behind)) (eq-eqb looper looper refl)

-- no step, no edit
pub edits_none : (heads : List AppHead) → EditsStarted heads []
edits_none heads before looper n behind is = absurd (never_empty before behind (at_desk looper n) (sym is))

-- steps after others: of an edit of theirs the looper was started by what comes before
edits_behind : (heads : List AppHead) (did steps : List Step) → EditsStarted heads did
    → ((more : List Step) (looper : ℕ) (n : Noted EntryData) (behind : List Step) → steps ≡ more ++ at_desk looper n ∷ behind → looper < started_by heads (roster_entries (did ++ more)))
    → EditsStarted heads (did ++ steps)
edits_behind heads did steps has new before looper n behind is =
    split_case (looper < started_by heads (roster_entries before)) did steps before (at_desk looper n) behind is
    (λ rest inside. has before looper n rest inside)
    (λ more so there. subst (λ (l : List Step). looper < started_by heads (roster_entries l)) (sym so) (new more looper n behind there))

-- steps without an edit
pub edits_more : (heads : List AppHead) (did steps : List Step) → EditsStarted heads did → ((looper : ℕ) → desk_entries looper steps ≡ []) → EditsStarted heads (did ++ steps)
edits_more heads did steps has none =
    edits_behind heads did steps has
    (λ more looper n behind is. absurd (never_empty (desk_entries looper more) (desk_entries looper behind) n (sym (edit_among looper n more behind) ∙ ap (λ (l : List Step). desk_entries looper l) (sym is) ∙ none looper)))

same_looper : (looper other : ℕ) (n m : Noted EntryData) (behind : List Step) → at_desk looper n ∷ [] ≡ at_desk other m ∷ behind → looper ≡ other
same_looper looper other n m behind is = cc

-- one edit, of a looper that was started by then
pub edits_one : (heads : List AppHead) (did : List Step) (looper : ℕ) (n : Noted EntryData) → looper < started_by heads (roster_entries did) → EditsStarted heads did → EditsStarted heads (did ++ at_desk looper n ∷ [])
edits_one heads did looper n within has = edits_behind heads did (at_desk looper n ∷ []) has by_place
  where
    by_place : (more : List Step) (other : ℕ) (m : Noted EntryData) (behind : List Step) → at_desk looper n ∷ [] ≡ more ++ at_desk other m ∷ behind → other < started_by heads (roster_entries (did ++ more))
    by_place [] other m behind is =
        subst (λ (k : ℕ). k < started_by heads (roster_entries (did ++ []))) (same_looper looper other n m behind is)
        (subst (λ (l : List Step). looper < started_by heads (roster_entries l)) (sym (append-nil did)) within)
    by_place (x ∷ []) other m behind is = absurd cc
    by_place (x ∷ y ∷ more) other m behind is = absurd cc

-- by what an edit answered
pub edited_started : (heads : List AppHead) (looper : ℕ) (e : Edit) (result : Edited) (did steps : List Step) → EditedSo looper e result steps → looper < started_by heads (roster_entries did) → EditsStarted heads did → EditsStarted heads (did ++ steps)
edited_started heads looper e (edited.Entered came place) did steps so within has = subst (λ (l : List Step). EditsStarted heads (did ++ l)) (sym so.is) (edits_one heads did looper so.noted within has)
edited_started heads looper e edited.NoMemory did steps so within has = edits_more heads did steps has (λ other. ap (λ (l : List Step). desk_entries other l) so)

-- ---- how many were started
-- as the entries themselves show
pub as_counted : (heads : List AppHead) (notes : List (Noted RosterEntry)) → started_by heads notes ≡ started_in heads (map entry_of notes)
as_counted heads [] = refl
as_counted heads (n ∷ notes) = ap (λ (k : ℕ). count_of heads n.entry.event + k) (as_counted heads notes)

-- main's diary shows the number of loopers
pub started_so_far : (r : Run) (is : IsRunning r) (did : List Step) → IsRecorded did (fronts_of r) → started_by is.heads (roster_entries did) ≡ length r.members.items
started_so_far r is did recorded =
    as_counted is.heads (roster_entries did)
    ∙ ap (λ (notes : List (Noted RosterEntry)). started_in is.heads (map entry_of notes)) (sym recorded.roster)
    ∙ ap (λ (entries : List RosterEntry). started_in is.heads entries) (noted_is_made maker_of main_thread (plain_of r.roster_seat))
    ∙ is.all
