-- Item after item each waiting sender of what is left gets no reply.
use Rattle.std.proofs.Common.{ℕ, List, [], ◌∷◌, ◌++◌, refl, sym, subst, append_assoc, append-nil}
use Rattle.ak_flatten.specs.declared.item.Taken.{Taken}
use Rattle.ak_looper.specs.declared.reach.Reach.{Reach}
use Rattle.ak_looper.specs.Stands.{GoesOn, Stands}
use Rattle.ak_diary.specs.Looper.{LooperFacts}
use Rattle.ak_diary.specs.Step.{Step}
use Rattle.ak_diary.specs.Turns.{LeavesAll, LeavesOne}
use Rattle.ak_looper.proofs.Going.{goes_further, stays, tells}

-- these steps, and any that leave the rest, leave all
abbrev pub LeavesFront : List Taken → List Taken → List Step → Type 0
LeavesFront all rest steps = (more : List Step) → LeavesAll rest more → LeavesAll all (steps ++ more)

-- none so far
pub leaves_none : (all : List Taken) → LeavesFront all all []
leaves_none all more leaves = leaves

-- one more
pub leaves_more : (all rest : List Taken) (taken : Taken) (steps one : List Step) → LeavesFront all (taken ∷ rest) steps → LeavesOne taken.item.duty one → LeavesFront all rest (steps ++ one)
leaves_more all rest taken steps one front leaves more leaves_rest =
    subst (LeavesAll all) (sym (append_assoc steps one more)) (front (one ++ more) (one, more, leaves, leaves_rest, refl))

-- all of them
pub leaves_all : (all : List Taken) (steps : List Step) → LeavesFront all [] steps → LeavesAll all steps
leaves_all all steps front = subst (LeavesAll all) (append-nil steps) (front [] refl)

-- ---- as the thread goes on
abbrev pub GoesLeaving : List Taken → List Taken → Reach → Reach → Type 0
GoesLeaving all rest r r' = (l : LooperFacts) (start : ℕ) (so_far : List Step) → Stands l start so_far r → GoesOn l start so_far (LeavesFront all rest) r'

pub begins_leaving : (all : List Taken) (r : Reach) → GoesLeaving all all r r
begins_leaving all r l start so_far stands = stays l start so_far (LeavesFront all all) r stands (leaves_none all)

pub goes_on_leaving : (all rest : List Taken) (taken : Taken) (r between r' : Reach) → GoesLeaving all (taken ∷ rest) r between
    → ((l : LooperFacts) (start : ℕ) (so_far : List Step) → Stands l start so_far between → GoesOn l start so_far (LeavesOne taken.item.duty) r') → GoesLeaving all rest r r'
goes_on_leaving all rest taken r between r' first one l start so_far stands =
    let on = first l start so_far stands in
    goes_further l start so_far (LeavesOne taken.item.duty) (LeavesFront all rest) on.steps r' (λ s leaves. leaves_more all rest taken on.steps s on.does leaves) (one l start (so_far ++ on.steps) on.stands)

pub has_left : (all : List Taken) (r r' : Reach) → GoesLeaving all [] r r' → (l : LooperFacts) (start : ℕ) (so_far : List Step) → Stands l start so_far r → GoesOn l start so_far (LeavesAll all) r'
has_left all r r' goes l start so_far stands = tells l start so_far (LeavesFront all []) (LeavesAll all) r' (λ s front. leaves_all all s front) (goes l start so_far stands)
