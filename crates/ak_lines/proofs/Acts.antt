-- What a line does is acts of a session, one after the other: a look-up, a door, and what it does behind the door.
use Rattle.std.proofs.Common.{◌≡◌, ◌≢◌, ◌⊎◌, ℕ, zero, ◌+◌, ◌==◌, Bool, true, false, List, [], ◌∷◌, ◌++◌, All, Contains, Option, None, Some, refl, sym, ap, ◌∙◌, subst, append_assoc, append-nil, inl, inr, arith}
use Rattle.std.proofs.lemmas.Bool.{eqb-true}
use Rattle.std.proofs.lemmas.List.Concat.{flat_map-append}
use Rattle.std.proofs.lemmas.List.Elements.{All-append, All-cons, All-nil, Contains-append_right}
use Rattle.std.proofs.lemmas.Map.Views.{Contains-from_any}
use Rattle.ak_base.specs.declared.app_word.AppWord.{AppWord}
use Rattle.ak_base.specs.declared.error.KitError.{KitError}
use Rattle.ak_base.specs.declared.error.KitError.TheVariants as error
use Rattle.ak_flatten.specs.Item.{ItemData}
use Rattle.ak_roster.specs.declared.entry.RosterEvent.{RosterEvent}
use Rattle.ak_roster.specs.declared.head.AppHead.{AppHead}
use Rattle.ak_roster.specs.declared.team.Running.{Running}
use Rattle.ak_port.specs.declared.port_entry.PortEvent.{PortEvent}
use Rattle.ak_port.specs.declared.port_entry.PortEvent.TheVariants as event
use Rattle.ak_diary.specs.Looper.{door_got, door_in, doors_got}
use Rattle.ak_diary.specs.Step.{Step, at_book, at_desk, at_port, at_roster, saw_book}
use Rattle.ak_diary.specs.Wants.{AsksInVain, Cancels, Converses, EntersPort, GetsDoor, IsRefusedBy, Withdraws, before_all, for_the_item, for_the_reply}
use Rattle.ak_headline.specs.Main.{IsSessionAct, IsSessionDiary, IsThroughDoor, MayRefuse, SessionMayEnterPort, SessionMayEnterRoster, asks, asks_in_vain, edits, enters_port, enters_roster, went_on}
use Rattle.ak_script.specs.declared.statement.Hey.{Hey}
use Rattle.ak_script.specs.declared.statement.Lock.{Lock}
use Rattle.ak_script.specs.declared.statement.Post.{Post}
use Rattle.ak_script.specs.declared.statement.SessionLine.{SessionLine}
use Rattle.ak_script.specs.declared.statement.SessionLine.TheVariants as line
use Rattle.ak_print.specs.declared.told.Told.{Told}
use Rattle.ak_print.specs.declared.told.Told.TheVariants as told
use Rattle.ak_session.specs.Doing.{FindsAt, LacksDoor, Opens, OpensFor, Through, address_of, has_door}
use Rattle.ak_lines.specs.declared.outcome.Outcome.{Outcome}
use Rattle.ak_lines.specs.declared.outcome.Outcome.TheVariants as came
use Rattle.ak_lines.specs.Blocks.{Cuts, FindingLooper, FindingThrough, IsAnswered, IsCutLine, IsEdited, IsHeyLine, IsLine, IsLockLine, IsNothing, IsPostLine, IsPostRefused, IsPosted, IsRefused, error_of, hey_item, post_item}
use Rattle.ak_lines.proofs.Going.{behind_find, through_same}

act : (so_far steps : List Step) → IsSessionDiary so_far → IsSessionAct so_far steps → IsSessionDiary (so_far ++ steps)
act so_far steps diary does = went_on so_far steps diary does

no_act : (so_far steps : List Step) → IsSessionDiary so_far → steps ≡ [] → IsSessionDiary (so_far ++ steps)
no_act so_far steps diary none = subst IsSessionDiary (sym (append-nil so_far) ∙ ap (λ (l : List Step). so_far ++ l) (sym none)) diary

-- one step that is through a door, or needs none
one_through : (so_far : List Step) (step : Step) (steps : List Step) → IsThroughDoor so_far step → steps ≡ step ∷ [] → All (IsThroughDoor so_far) steps
one_through so_far step steps through is = subst (All (IsThroughDoor so_far)) (sym is) (All-cons (IsThroughDoor so_far) step [] through (All-nil (IsThroughDoor so_far)))

-- ---- look-ups and doors
find_act : (so_far : List Step) (heads : List AppHead) (word : AppWord) (running : Option Running) (place : ℕ) (steps : List Step) → IsSessionDiary so_far → FindsAt heads word running place steps → IsSessionDiary (so_far ++ steps)
find_act so_far heads word running place steps diary finds =
    act so_far steps diary (record {
      does = enters_roster finds.noted (subst SessionMayEnterRoster (sym finds.event_is) tt) finds.is;
      through_doors = one_through so_far (at_roster finds.noted) steps tt finds.is;
    })

module _ (so_far : List Step) (looper : ℕ) where
  gets_act : (steps : List Step) → IsSessionDiary so_far → GetsDoor looper steps → IsSessionDiary (so_far ++ steps)
  gets_act steps diary gets =
      act so_far steps diary (record {
        does = enters_roster gets.noted (subst SessionMayEnterRoster (sym gets.event_is) tt) gets.is;
        through_doors = one_through so_far (at_roster gets.noted) steps tt gets.is;
      })

  got_now : (steps : List Step) → GetsDoor looper steps → Contains (doors_got (so_far ++ steps)) looper
  got_now steps gets =
      let got : doors_got steps ≡ looper ∷ [] = ap doors_got gets.is ∙ ap (λ (e : RosterEvent). door_in e ++ []) gets.event_is in
      subst (λ (l : List ℕ). Contains l looper) (sym (flat_map-append door_got so_far steps ∙ ap (λ (l : List ℕ). doors_got so_far ++ l) got))
      (Contains-append_right (doors_got so_far) (looper ∷ []) looper (zero, omega arith, refl))

  got_before : has_door so_far looper ≡ true → Contains (doors_got so_far) looper
  got_before has = Contains-from_any {eq = λ (x y : ℕ). y == x} (λ x y same. sym (eqb-true y x same)) looper (doors_got so_far) has

  -- the door is there, and the diary goes on
  record IsThere (door : List Step) : Type 0 where
    diary : IsSessionDiary (so_far ++ door)
    there : Contains (doors_got (so_far ++ door)) looper

  opened_for : (has : Bool) (door : List Step) → has_door so_far looper ≡ has → IsSessionDiary so_far → OpensFor so_far has looper door → IsThere door
  opened_for true door is diary none = record {
    diary = no_act so_far door diary none;
    there = subst (λ (l : List Step). Contains (doors_got l) looper) (sym (append-nil so_far) ∙ ap (λ (l : List Step). so_far ++ l) (sym none)) (got_before is);
  }
  opened_for false door is diary gets = record { diary = gets_act door diary gets; there = got_now door gets }

  opened : (door : List Step) → IsSessionDiary so_far → Opens so_far looper door → IsThere door
  opened door diary opens = opened_for (has_door so_far looper) door refl diary opens

-- ---- behind the door
-- what P does at a looper is acts, where its door is there
abbrev AreActsAt : (ℕ → List Step → Type 0) → Type 0
AreActsAt P = (now steps : List Step) (looper : ℕ) → Contains (doors_got now) looper → IsSessionDiary now → P looper steps → IsSessionDiary (now ++ steps)

module _ (now : List Step) (looper : ℕ) (there : Contains (doors_got now) looper) where
  port_through : (e : PortEvent) (steps : List Step) → EntersPort looper e steps → All (IsThroughDoor now) steps
  port_through e steps enters = one_through now (at_port looper enters.noted) steps there enters.is

  entry_act : (e : PortEvent) (steps : List Step) → SessionMayEnterPort e → EntersPort looper e steps → IsSessionAct now steps
  entry_act e steps may enters = record { does = enters_port looper e may enters; through_doors = port_through e steps enters }

  talk_act : (item : ItemData) (flat : List ℕ) (steps : List Step) → Converses (address_of looper item) item flat steps → IsSessionAct now steps
  talk_act item flat steps c = record {
    does = asks (address_of looper item) item flat c;
    through_doors = subst (All (IsThroughDoor now)) (sym c.is)
        (All-cons (IsThroughDoor now) (at_book c.opened) (at_port looper c.written ∷ at_book c.taken ∷ []) tt
        (All-cons (IsThroughDoor now) (at_port looper c.written) (at_book c.taken ∷ []) there (All-cons (IsThroughDoor now) (at_book c.taken) [] tt (All-nil (IsThroughDoor now)))));
  }

  refused_through : (e : Option PortEvent) (steps : List Step) → IsRefusedBy looper e steps → All (IsThroughDoor now) steps
  refused_through None steps none = subst (All (IsThroughDoor now)) (sym none) (All-nil (IsThroughDoor now))
  refused_through (Some e) steps enters = port_through e steps enters

  closing_through : (n : ℕ) (steps : List Step) → Cancels n steps → All (IsThroughDoor now) steps
  closing_through n steps (inl cancel) = one_through now (at_book cancel.noted) steps tt cancel.is
  closing_through n steps (inr filled) = one_through now (saw_book filled.seen) steps tt filled.is

  vain_act : (item : ItemData) (e : Option PortEvent) (steps : List Step) → MayRefuse e → Withdraws (address_of looper item) e steps → IsSessionAct now steps
  vain_act item e steps may w = record {
    does = asks_in_vain (address_of looper item) e may w;
    through_doors = subst (All (IsThroughDoor now)) (sym w.is)
        (All-cons (IsThroughDoor now) (at_book w.opened) (w.refused ++ w.closing) tt
        (All-append (IsThroughDoor now) w.refused w.closing (refused_through e w.refused w.refused_is) (closing_through w.slot w.closing w.closes)));
  }

-- a port's refusal of an ask
may_refuse : (e : PortEvent) (why : KitError) → error_of e ≡ Some why → why ≢ error.WouldBlock → MayRefuse (Some e)
may_refuse event.Refused why is waited = tt
may_refuse event.Spent why is waited = tt
may_refuse event.Full why is waited = absurd (waited (sym (the_why why is)))
  where
    the_why : (why : KitError) → Some error.WouldBlock ≡ Some why → error.WouldBlock ≡ why
    the_why why is = cc is
may_refuse (event.Made capacity life) why is waited = absurd (cc is)
may_refuse (event.Written position item) why is waited = absurd (cc is)
may_refuse (event.Took k) why is waited = absurd (cc is)
may_refuse (event.Rest k) why is waited = absurd (cc is)
may_refuse event.Shut why is waited = absurd (cc is)

-- and of a post
may_enter : (e : PortEvent) (why : KitError) → error_of e ≡ Some why → SessionMayEnterPort e
may_enter event.Refused why is = tt
may_enter event.Spent why is = tt
may_enter event.Full why is = tt
may_enter (event.Made capacity life) why is = absurd (cc is)
may_enter (event.Written position item) why is = absurd (cc is)
may_enter (event.Took k) why is = absurd (cc is)
may_enter (event.Rest k) why is = absurd (cc is)
may_enter event.Shut why is = absurd (cc is)

answered_acts : (item : ItemData) (slot : ℕ) (message : _) → AreActsAt (IsAnswered item slot message)
answered_acts item slot message now steps looper there diary a = act now steps diary (talk_act now looper there item a.reply.flat steps a.answered.converses)

refused_acts : (item : ItemData) (at place : ℕ) (why : KitError) → AreActsAt (IsRefused item at place why)
refused_acts item at place why now steps looper there diary r = act now steps diary (vain_act now looper there item (Some r.e) steps (may_refuse r.e why r.why_is r.waited) r.withdraws)

vain_acts : (item : ItemData) → AreActsAt (λ looper. AsksInVain (address_of looper item) item)
vain_acts item now steps looper there diary (before_all none) = no_act now steps diary none
vain_acts item now steps looper there diary (for_the_item w) = act now steps diary (vain_act now looper there item None steps tt w)
vain_acts item now steps looper there diary (for_the_reply flat c) = act now steps diary (talk_act now looper there item flat steps c)

posted_acts : (p : Post) (at position : ℕ) → AreActsAt (IsPosted (post_item p) at position)
posted_acts p at position now steps looper there diary posted = act now steps diary (entry_act now looper there (event.Written position (post_item p)) steps refl posted.enters)

post_refused_acts : (waits : Bool) (at place : ℕ) (why : KitError) → AreActsAt (IsPostRefused waits at place why)
post_refused_acts waits at place why now steps looper there diary r = act now steps diary (entry_act now looper there r.e steps (may_enter r.e why r.why_is) r.enters)

edited_acts : (l : Lock) (at place : ℕ) (answer : _) → AreActsAt (IsEdited l at place answer)
edited_acts l at place answer now steps looper there diary edited =
    let e = edited.edits in
    act now steps diary (record {
      does = edits looper (record { noted = e.noted; edit = l.edit; answer = answer; event_is = e.event_is; is = e.is });
      through_doors = one_through now (at_desk looper e.noted) steps there e.is;
    })

nothing_acts : AreActsAt (λ looper. IsNothing)
nothing_acts now steps looper there diary none = no_act now steps diary none

-- ---- through the door
through_acts : (P : ℕ → List Step → Type 0) → AreActsAt P → (so_far steps : List Step) (looper : ℕ) → IsSessionDiary so_far → Through so_far looper (P looper) steps → IsSessionDiary (so_far ++ steps)
through_acts P acts so_far steps looper diary t =
    let door = opened so_far looper t.door diary t.opens in
    subst IsSessionDiary (append_assoc so_far t.door t.rest ∙ ap (λ (l : List Step). so_far ++ l) (sym t.is)) (acts (so_far ++ t.door) t.rest looper door.there door.diary t.then_does)

module _ (heads : List AppHead) (word : AppWord) (n : ℕ) (so_far : List Step) (diary : IsSessionDiary so_far) where
  -- behind a look-up
  found_acts : (P : ℕ → List Step → Type 0) → ((now rest : List Step) (looper : ℕ) → doors_got now ≡ doors_got so_far → IsSessionDiary now → P looper rest → IsSessionDiary (now ++ rest)) → (steps : List Step) → FindingLooper heads word n P steps
      → IsSessionDiary (so_far ++ steps)
  found_acts P acts steps f =
      subst IsSessionDiary (append_assoc so_far f.found f.rest ∙ ap (λ (l : List Step). so_far ++ l) (sym f.is))
      (acts (so_far ++ f.found) f.rest (f.running.first + n) (behind_find heads word (Some f.running) f.place so_far f.found f.finds) (find_act so_far heads word (Some f.running) f.place f.found diary f.finds) f.then_does.1)

  found_through : (P : ℕ → List Step → Type 0) → AreActsAt P → (steps : List Step) → FindingThrough so_far heads word n P steps → IsSessionDiary (so_far ++ steps)
  found_through P acts =
      found_acts (λ (looper : ℕ) (rest : List Step). Through so_far looper (P looper) rest)
      (λ now rest looper same now_diary through. through_acts P acts now rest looper now_diary (through_same so_far now (sym same) looper (P looper) rest through))

  cut_behind : (P : ℕ → List Step → Type 0) → AreActsAt P → (now rest : List Step) (looper : ℕ) → doors_got now ≡ doors_got so_far → IsSessionDiary now → LacksDoor so_far looper rest ⊎ Through so_far looper (P looper) rest → IsSessionDiary (now ++ rest)
  cut_behind P acts now rest looper same now_diary (inl lacks) = no_act now rest now_diary lacks.is
  cut_behind P acts now rest looper same now_diary (inr through) = through_acts P acts now rest looper now_diary (through_same so_far now (sym same) looper (P looper) rest through)

  cuts : (P : ℕ → List Step → Type 0) → AreActsAt P → (steps : List Step) → Cuts so_far heads word n P steps → IsSessionDiary (so_far ++ steps)
  cuts P acts steps (inl none) = no_act so_far steps diary none
  cuts P acts steps (inr found) = found_acts (λ (looper : ℕ) (rest : List Step). LacksDoor so_far looper rest ⊎ Through so_far looper (P looper) rest) (cut_behind P acts) steps found

-- ---- each line
module _ (heads : List AppHead) (so_far steps : List Step) (diary : IsSessionDiary so_far) where
  hey_acts : (h : Hey) (o : Outcome) (t : Told) → IsHeyLine heads so_far h o t steps → IsSessionDiary (so_far ++ steps)
  hey_acts h (came.Replied slot) (told.Reply message) is = found_through heads h.app 0 so_far diary (IsAnswered (hey_item h) slot message) (answered_acts (hey_item h) slot message) steps is
  hey_acts h (came.SendRefused looper place why) (told.Refused e) is = found_through heads h.app 0 so_far diary (IsRefused (hey_item h) looper place why) (refused_acts (hey_item h) looper place why) steps is.1
  hey_acts h (came.NoTeam place) told.NoTeam is = find_act so_far heads h.app None place steps diary is
  hey_acts h _ _ is = absurd is

  post_acts : (p : Post) (o : Outcome) (t : Told) → IsPostLine heads so_far p o t steps → IsSessionDiary (so_far ++ steps)
  post_acts p (came.Posted looper position) told.Posted is = found_through heads p.app p.looper so_far diary (IsPosted (post_item p) looper position) (posted_acts p looper position) steps is
  post_acts p (came.SendRefused looper place why) (told.Refused e) is = found_through heads p.app p.looper so_far diary (IsPostRefused p.waits looper place why) (post_refused_acts p.waits looper place why) steps is.1
  post_acts p (came.NoTeam place) told.NoTeam is = find_act so_far heads p.app None place steps diary is
  post_acts p (came.NoLooper place) told.NoLooper is = find_act so_far heads p.app (Some is.0) place steps diary is.2
  post_acts p _ _ is = absurd is

  lock_acts : (l : Lock) (o : Outcome) (t : Told) → IsLockLine heads so_far l o t steps → IsSessionDiary (so_far ++ steps)
  lock_acts l (came.Edited looper place) (told.Edit answer) is = found_through heads l.app l.looper so_far diary (IsEdited l looper place answer) (edited_acts l looper place answer) steps is
  lock_acts l (came.NoTeam place) told.NoTeam is = find_act so_far heads l.app None place steps diary is
  lock_acts l (came.NoLooper place) told.NoLooper is = find_act so_far heads l.app (Some is.0) place steps diary is.2
  lock_acts l _ _ is = absurd is

  pub line_acts : (l : SessionLine) (o : Outcome) (t : Told) → IsLine heads so_far l o t steps → IsSessionDiary (so_far ++ steps)
  line_acts (line.Hey h) o t is = hey_acts h o t is
  line_acts (line.Post p) o t is = post_acts p o t is
  line_acts (line.Lock l) o t is = lock_acts l o t is

  pub cut_acts : (l : SessionLine) → IsCutLine heads so_far l steps → IsSessionDiary (so_far ++ steps)
  cut_acts (line.Hey h) is = cuts heads h.app 0 so_far diary (λ looper. AsksInVain (address_of looper (hey_item h)) (hey_item h)) (vain_acts (hey_item h)) steps is
  cut_acts (line.Post p) is = cuts heads p.app p.looper so_far diary (λ looper. IsNothing) nothing_acts steps is
  cut_acts (line.Lock l) is = cuts heads l.app l.looper so_far diary (λ looper. IsNothing) nothing_acts steps is
