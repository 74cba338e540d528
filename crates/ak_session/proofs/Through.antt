-- A session goes on from where it stands: by no step, by some and then by others, and through a door.
use Rattle.std.proofs.Common.{◌≡◌, ◌⊎◌, ℕ, List, ◌++◌, Result, Ok, Err, refl, sym, subst, append_assoc, inl, inr}
use Rattle.ak_roster.specs.declared.head.AppHead.{AppHead}
use Rattle.ak_messenger.specs.declared.fault.SendFault.{SendFault}
use Rattle.ak_messenger.specs.declared.fault.SendFault.TheVariants as fault
use Rattle.ak_diary.specs.Step.{Step}
use Rattle.ak_session.specs.declared.answers.Edited.{Edited}
use Rattle.ak_session.specs.declared.answers.Edited.TheVariants as edited
use Rattle.ak_session.specs.declared.session.Session.{Session}
use Rattle.ak_session.specs.Doing.{EditsThrough, LacksDoor, Opens, SendsThrough, Through}
use Rattle.ak_session.specs.Stands.{GoesOn, IsStanding, Stands}

-- it still stands for some applications and some steps
pub still_standing : (P : List AppHead → List Step → List Step → Type 0) (s s' : Session) → IsStanding s → ((heads : List AppHead) (start : ℕ) (so_far : List Step) → Stands heads start so_far s → GoesOn heads start so_far (P heads so_far) s') → IsStanding s'
still_standing P s s' is goes =
    let on = goes is.heads is.start is.steps is.stands in
    record { heads = is.heads; start = is.start; steps = is.steps ++ on.steps; stands = on.stands }

module _ (heads : List AppHead) (start : ℕ) (so_far : List Step) (looper : ℕ) (P : List Step → Type 0) (s' : Session) where
  -- the door is there, and then it is done
  goes_through : (middle : Session) → GoesOn heads start so_far (Opens so_far looper) middle → ((now : List Step) → Stands heads start now middle → GoesOn heads start now P s') → GoesOn heads start so_far (Through so_far looper P) s'
  goes_through middle opened done =
      let on = done (so_far ++ opened.steps) opened.stands in
      record {
        steps = opened.steps ++ on.steps;
        does = record { door = opened.steps; opens = opened.does; rest = on.steps; then_does = on.does; is = refl };
        stands = subst (λ (steps : List Step). Stands heads start steps s') (append_assoc so_far opened.steps on.steps) on.stands;
      }

  tells : (Q R : List Step → Type 0) → ((steps : List Step) → Q steps → R steps) → GoesOn heads start so_far Q s' → GoesOn heads start so_far R s'
  tells Q R more on = record { steps = on.steps; does = more on.steps on.does; stands = on.stands }

  -- a send, whatever the answer
  sent_through : {A : Type 0} (r : Result A SendFault) (steps : List Step) → Through so_far looper P steps → SendsThrough so_far looper r P steps
  sent_through (Ok x) steps through = through
  sent_through (Err fault.TooLong) steps through = through
  sent_through (Err fault.NoMemory) steps through = inr through
  sent_through (Err fault.BadPort) steps through = through
  sent_through (Err fault.Spent) steps through = through
  sent_through (Err fault.WouldBlock) steps through = through

  pub sends_by_door : {A : Type 0} (r : Result A SendFault) (middle : Session) → GoesOn heads start so_far (Opens so_far looper) middle → ((now : List Step) → Stands heads start now middle → GoesOn heads start now P s') → GoesOn heads start so_far (SendsThrough so_far looper r P) s'
  sends_by_door r middle opened done = tells (Through so_far looper P) (SendsThrough so_far looper r P) (sent_through r) (goes_through middle opened done)

  pub sends_without_door : {A : Type 0} (r : Result A SendFault) → r ≡ Err fault.NoMemory → GoesOn heads start so_far (LacksDoor so_far looper) s' → GoesOn heads start so_far (SendsThrough so_far looper r P) s'
  sends_without_door {A} r is lacks =
      subst (λ (x : Result A SendFault). GoesOn heads start so_far (SendsThrough so_far looper x P) s') (sym is)
      (tells (LacksDoor so_far looper) (λ steps. LacksDoor so_far looper steps ⊎ Through so_far looper P steps) (λ steps does. inl does) lacks)

  -- an edit
  edited_through : (r : Edited) (steps : List Step) → Through so_far looper P steps → EditsThrough so_far looper r P steps
  edited_through (edited.Entered came place) steps through = through
  edited_through edited.NoMemory steps through = inr through

  pub edits_by_door : (r : Edited) (middle : Session) → GoesOn heads start so_far (Opens so_far looper) middle → ((now : List Step) → Stands heads start now middle → GoesOn heads start now P s') → GoesOn heads start so_far (EditsThrough so_far looper r P) s'
  edits_by_door r middle opened done = tells (Through so_far looper P) (EditsThrough so_far looper r P) (edited_through r) (goes_through middle opened done)

  pub edits_without_door : GoesOn heads start so_far (LacksDoor so_far looper) s' → GoesOn heads start so_far (EditsThrough so_far looper edited.NoMemory P) s'
  edits_without_door lacks = tells (LacksDoor so_far looper) (λ steps. LacksDoor so_far looper steps ⊎ Through so_far looper P steps) (λ steps does. inl does) lacks
