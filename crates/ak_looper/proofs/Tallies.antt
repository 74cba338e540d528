-- What steps add to what a looper took and dispatched, and to whether it closes.
use Rattle.std.proofs.Common.{◌≡◌, ℕ, ◌+◌, true, false, List, [], ◌∷◌, ◌++◌, length, map, drop, get_or, All, cond, refl, sym, ap, ◌∙◌, append-nil, eq-eqb, arith}
use Rattle.std.specs.Prelude.{◌||◌}
use Rattle.std.proofs.lemmas.Grind.{flat_map-append}
use Rattle.std.proofs.lemmas.List.{map-append}
use Rattle.std.proofs.lemmas.List.Folds.{list_any-append}
use Rattle.std.proofs.lemmas.Bool.{false≢true, or_parts}
use Rattle.std.proofs.Math.Seq.{drop-append_seam, drop-length}
use Rattle.ak_turn.specs.Noted.{Noted, entry_of}
use Rattle.ak_flatten.specs.Item.{ItemData}
use Rattle.ak_flatten.specs.declared.item.Taken.{Taken}
use Rattle.ak_port.specs.declared.port_entry.PortEntry.{PortEntry}
use Rattle.ak_port.specs.PortMachine.{numbered}
use Rattle.ak_port.specs.TakerLaws.{handed_at, handed_by}
use Rattle.ak_desk.specs.Entry.{EntryData}
use Rattle.ak_desk.specs.Machine.{counted, dispatches}
use Rattle.ak_desk.proofs.Surface.{counted_push}
use Rattle.ak_diary.specs.Looper.{LooperFacts, calls_for_closing, desk_list, dispatched_in, in_hand, is_closing, taken_in}
use Rattle.ak_diary.specs.Step.{Step, at_roster, at_book, at_port, at_desk, saw_roster, saw_book, saw_port, lacked, desk_entries, desk_entry, is_lack, port_entries, port_entry, ran_short}
use Rattle.ak_diary.proofs.Surface.{IsQuiet, handed-append, quiet_at_no_desk, quiet_hand_nothing}

-- ---- of steps in two parts
pub taken-append : (l : LooperFacts) (xs ys : List Step) → taken_in l (xs ++ ys) ≡ taken_in l xs ++ handed_by (port_entries l.number ys)
taken-append l xs ys = ap handed_by (flat_map-append (port_entry l.number) xs ys) ∙ handed-append (port_entries l.number xs) (port_entries l.number ys)

pub desk-append : (looper : ℕ) (xs ys : List Step) → desk_entries looper (xs ++ ys) ≡ desk_entries looper xs ++ desk_entries looper ys
desk-append looper xs ys = flat_map-append (desk_entry looper) xs ys

pub desk_list-append : (l : LooperFacts) (xs ys : List Step) → desk_list l (xs ++ ys) ≡ desk_list l xs ++ map entry_of (desk_entries l.number ys)
desk_list-append l xs ys = ap (map entry_of) (desk-append l.number xs ys) ∙ map-append entry_of (desk_entries l.number xs) (desk_entries l.number ys)

pub closing-append : (xs ys : List Step) → is_closing (xs ++ ys) ≡ (is_closing xs || is_closing ys)
closing-append xs ys = list_any-append calls_for_closing xs ys

pub short-append : (xs ys : List Step) → ran_short (xs ++ ys) ≡ (ran_short xs || ran_short ys)
short-append xs ys = list_any-append is_lack xs ys

-- ---- of quiet steps nothing
pub taken_quiet : (l : LooperFacts) (xs ys : List Step) → All IsQuiet ys → taken_in l (xs ++ ys) ≡ taken_in l xs
taken_quiet l xs ys quiet = taken-append l xs ys ∙ ap (λ k. taken_in l xs ++ k) (quiet_hand_nothing l.number ys quiet) ∙ append-nil (taken_in l xs)

pub desk_quiet : (looper : ℕ) (xs ys : List Step) → All IsQuiet ys → desk_entries looper (xs ++ ys) ≡ desk_entries looper xs
desk_quiet looper xs ys quiet = desk-append looper xs ys ∙ ap (λ k. desk_entries looper xs ++ k) (quiet_at_no_desk looper ys quiet) ∙ append-nil (desk_entries looper xs)

-- ---- of one step at its own port, and at its own desk
pub own_port : (looper : ℕ) (n : Noted PortEntry) → port_entries looper (at_port looper n ∷ []) ≡ n ∷ []
own_port looper n = ap (λ b. cond b (n ∷ []) [] ++ []) (eq-eqb looper looper refl)

pub own_desk : (looper : ℕ) (n : Noted EntryData) → desk_entries looper (at_desk looper n ∷ []) ≡ n ∷ []
own_desk looper n = ap (λ b. cond b (n ∷ []) [] ++ []) (eq-eqb looper looper refl)

pub taken_more : (l : LooperFacts) (so_far : List Step) (n : Noted PortEntry) → taken_in l (so_far ++ at_port l.number n ∷ []) ≡ taken_in l so_far ++ handed_at n
taken_more l so_far n =
    taken-append l so_far (at_port l.number n ∷ []) ∙ ap (λ k. taken_in l so_far ++ handed_by k) (own_port l.number n) ∙ ap (λ k. taken_in l so_far ++ k) (append-nil (handed_at n))

pub desk_list_more : (l : LooperFacts) (so_far : List Step) (n : Noted EntryData) → desk_list l (so_far ++ at_desk l.number n ∷ []) ≡ desk_list l so_far ++ n.entry ∷ []
desk_list_more l so_far n = desk_list-append l so_far (at_desk l.number n ∷ []) ∙ ap (λ k. desk_list l so_far ++ map entry_of k) (own_desk l.number n)

-- a take is no step at a desk, and dispatches nothing
pub dispatched_as : (l : LooperFacts) (so_far : List Step) (n : Noted PortEntry) → dispatched_in l (so_far ++ at_port l.number n ∷ []) ≡ dispatched_in l so_far
dispatched_as l so_far n = ap dispatches (desk_list-append l so_far (at_port l.number n ∷ []) ∙ append-nil (desk_list l so_far))

-- one more that was dispatched
pub dispatched_more : (entries : List EntryData) (entry : EntryData) → counted (dispatches entries) entry.plain.event ≡ dispatches entries + 1 → dispatches (entries ++ entry ∷ []) ≡ dispatches entries + 1
dispatched_more entries entry one = counted_push 0 entries entry ∙ one

-- ---- items in hand
pub none_in_hand : (l : LooperFacts) (so_far : List Step) → length (taken_in l so_far) ≡ dispatched_in l so_far → in_hand l so_far ≡ []
none_in_hand l so_far rested = ap (λ (n : ℕ). drop n (taken_in l so_far)) (sym rested) ∙ drop-length (taken_in l so_far)

-- where as many were dispatched as taken before, those that come are in hand
pub those_in_hand : (l : LooperFacts) (so_far later : List Step) (items : List Taken) → length (taken_in l so_far) ≡ dispatched_in l later → taken_in l later ≡ taken_in l so_far ++ items → in_hand l later ≡ items
those_in_hand l so_far later items rested taken =
    ap (λ (n : ℕ). drop n (taken_in l later)) (sym rested) ∙ ap (λ k. drop (length (taken_in l so_far)) k) taken ∙ drop-append_seam (taken_in l so_far) items

cons_not_nil : {A : Type 0} (x : A) (xs : List A) → x ∷ xs ≡ [] → ⊥
cons_not_nil x xs e = cc

-- the position of the last of items that are numbered
pub last_position : (n : ℕ) (items : List ItemData) (xs : List Taken) (t : Taken) → xs ++ t ∷ [] ≡ numbered n items → t.position ≡ n + length xs
last_position n [] [] t e = absurd (cons_not_nil t [] e)
last_position n [] (x ∷ xs) t e = absurd (cons_not_nil x (xs ++ t ∷ []) e)
last_position n (i ∷ items) [] t e = ap (λ k. (get_or k 0 t).position) e ∙ omega arith
last_position n (i ∷ items) (x ∷ xs) t e = last_position (n + 1) items xs t (ap (drop 1) e) ∙ omega arith

-- ---- a looper that ran short closes
step_short : (s : Step) → calls_for_closing s ≡ false → is_lack s ≡ false
step_short (at_roster n) calls = refl
step_short (at_book n) calls = refl
step_short (at_port looper n) calls = refl
step_short (at_desk looper n) calls = refl
step_short (saw_roster seen) calls = refl
step_short (saw_book seen) calls = refl
step_short (saw_port looper seen) calls = refl
step_short lacked calls = absurd (false≢true (sym calls))

pub not_short : (xs : List Step) → is_closing xs ≡ false → ran_short xs ≡ false
not_short [] calls = refl
not_short (x ∷ xs) calls =
    ap (λ b. b || ran_short xs) (step_short x (or_parts (calls_for_closing x) (is_closing xs) calls).0) ∙ not_short xs (or_parts (calls_for_closing x) (is_closing xs) calls).1
