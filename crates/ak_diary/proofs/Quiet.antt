-- What steps leave alone: a want that is served, and what follows a dispatch, take nothing of the looper's own port and make no entry at its desk.
use Rattle.std.proofs.Common.{◌≡◌, ℕ, ◌==◌, Bool, true, false, List, [], ◌∷◌, ◌++◌, Option, Some, None, All, cond, refl, sym, ap, ◌∙◌, subst, ⊎_elim, append_assoc}
use Rattle.std.specs.Prelude.{◌||◌}
use Rattle.std.proofs.lemmas.Bool.{false≢true}
use Rattle.std.proofs.lemmas.List.Elements.{All-append, All-cons, All-head, All-nil, All-tail}
use Rattle.ak_base.specs.declared.app_word.AppWord.{AppWord}
use Rattle.ak_message.specs.declared.address.Address.{Address}
use Rattle.ak_message.specs.Message.{MessageData}
use Rattle.ak_flatten.specs.declared.item.Duty.{Duty}
use Rattle.ak_flatten.specs.declared.item.Duty.TheVariants as duty
use Rattle.ak_flatten.specs.declared.item.Taken.{Taken}
use Rattle.ak_flatten.specs.Item.{ItemData}
use Rattle.ak_turn.specs.Noted.{Noted}
use Rattle.ak_port.specs.declared.port_entry.PortEntry.{PortEntry}
use Rattle.ak_port.specs.declared.port_entry.PortEvent.{PortEvent}
use Rattle.ak_port.specs.declared.port_entry.PortEvent.TheVariants as event
use Rattle.ak_port.specs.PortMachine.{handed_out, state_of}
use Rattle.ak_port.specs.TakerLaws.{IsNoTake, handed_at, handed_by, takes_items}
use Rattle.ak_action.specs.declared.answer.Answer.{Answer}
use Rattle.ak_action.specs.declared.answer.Answer.TheVariants as answer
use Rattle.ak_action.specs.declared.answer.Want.{Want}
use Rattle.ak_action.specs.declared.answer.Want.TheVariants as want
use Rattle.ak_diary.specs.Looper.{LooperFacts, calls_for_closing, closed_by, has_door, is_closing, is_own}
use Rattle.ak_diary.specs.Step.{Step, at_roster, at_book, at_port, at_desk, saw_roster, saw_book, saw_port, lacked, desk_entries, desk_entry, is_lack, port_entries, port_entry, ran_short}
use Rattle.ak_diary.specs.Turns as turns
use Rattle.ak_diary.specs.Turns.{Closes, ClosesIf, Fills, LeavesAll, LeavesOne, LeavesRoster, Pays, RepliesBack, Settles, Shuts, ShutsAll, TriesBack, WritesText, is_no_reply}
use Rattle.ak_diary.specs.Wants as wants
use Rattle.ak_diary.specs.Wants.{AsksInVain, AsksSo, Cancels, Converses, EntersPort, ForwardsSo, IsRefusedBy, Opens, OpensFor, PostsSo, Serves, ServesAll, ServesFind, Through, ThroughDoor, Withdraws}

-- a step that takes nothing and is none at a desk
abbrev pub IsQuiet : Step → Type 0
IsQuiet (at_port looper n) = takes_items n.entry.event ≡ false
IsQuiet (at_desk looper n) = ⊥
IsQuiet _ = Unit {0}

-- and for which there was memory
abbrev pub IsServing : Step → Type 0
IsServing lacked = ⊥
IsServing (at_port looper n) = takes_items n.entry.event ≡ false
IsServing (at_desk looper n) = ⊥
IsServing _ = Unit {0}

pub is_quiet : (step : Step) → IsServing step → IsQuiet step
is_quiet (at_roster n) h = tt
is_quiet (at_book n) h = tt
is_quiet (at_port looper n) h = h
is_quiet (at_desk looper n) h = h
is_quiet (saw_roster seen) h = tt
is_quiet (saw_book seen) h = tt
is_quiet (saw_port looper seen) h = tt
is_quiet lacked h = tt

pub are_quiet : (steps : List Step) → All IsServing steps → All IsQuiet steps
are_quiet [] h = All-nil IsQuiet
are_quiet (s ∷ ss) h = All-cons IsQuiet s ss (is_quiet s (All-head IsServing s ss h)) (are_quiet ss (All-tail IsServing s ss h))

-- ---- parts
module _ (P : Step → Type 0) where
  none : (steps : List Step) → steps ≡ [] → All P steps
  none steps is = subst (All P) (sym is) (All-nil P)

  one : (step : Step) (steps : List Step) → P step → steps ≡ step ∷ [] → All P steps
  one step steps h is = subst (All P) (sym is) (All-cons P step [] h (All-nil P))

  both : (xs ys steps : List Step) → All P xs → All P ys → steps ≡ xs ++ ys → All P steps
  both xs ys steps a b is = subst (All P) (sym is) (All-append P xs ys a b)

port_serving : (looper : ℕ) (e : PortEvent) (steps : List Step) → takes_items e ≡ false → EntersPort looper e steps → All IsServing steps
port_serving looper e steps quiet enters = one IsServing (at_port looper enters.noted) steps (ap takes_items enters.event_is ∙ quiet) enters.is

cancels_serving : (n : ℕ) (steps : List Step) → Cancels n steps → All IsServing steps
cancels_serving n steps c = ⊎_elim (λ (t : wants.EntersCancel n steps). one IsServing (at_book t.noted) steps tt t.is) (λ (t : wants.FindsFilled n steps). one IsServing (saw_book t.seen) steps tt t.is) c

converses_serving : (to : Address) (item : ItemData) (flat : List ℕ) (steps : List Step) → Converses to item flat steps → All IsServing steps
converses_serving to item flat steps c =
    subst (All IsServing) (sym c.is)
    (All-cons IsServing (at_book c.opened) (at_port to.looper c.written ∷ at_book c.taken ∷ []) tt
    (All-cons IsServing (at_port to.looper c.written) (at_book c.taken ∷ []) (ap takes_items c.written_is) (All-cons IsServing (at_book c.taken) [] tt (All-nil IsServing))))

refused_serving : (looper : ℕ) (e : Option PortEvent) (steps : List Step) → IsNoTake e → IsRefusedBy looper e steps → All IsServing steps
refused_serving looper None steps quiet r = none IsServing steps r
refused_serving looper (Some e) steps quiet r = port_serving looper e steps quiet r

withdraws_serving : (to : Address) (e : Option PortEvent) (steps : List Step) → IsNoTake e → Withdraws to e steps → All IsServing steps
withdraws_serving to e steps quiet w =
    both IsServing (at_book w.opened ∷ w.refused) w.closing steps (All-cons IsServing (at_book w.opened) w.refused tt (refused_serving to.looper e w.refused quiet w.refused_is))
    (cancels_serving w.slot w.closing w.closes) w.is

vain_serving : (to : Address) (item : ItemData) (steps : List Step) → AsksInVain to item steps → All IsServing steps
vain_serving to item steps (wants.before_all is) = none IsServing steps is
vain_serving to item steps (wants.for_the_item w) = withdraws_serving to None steps tt w
vain_serving to item steps (wants.for_the_reply flat c) = converses_serving to item flat steps c

opens_for_serving : (l : LooperFacts) (so_far : List Step) (b : Bool) (looper : ℕ) (steps : List Step) → OpensFor l so_far b looper steps → All IsServing steps
opens_for_serving l so_far true looper steps o = none IsServing steps o
opens_for_serving l so_far false looper steps o = one IsServing (at_roster o.noted) steps tt o.is

opens_serving : (l : LooperFacts) (so_far : List Step) (looper : ℕ) (steps : List Step) → Opens l so_far looper steps → All IsServing steps
opens_serving l so_far looper steps o = opens_for_serving l so_far (has_door l so_far looper) looper steps o

through_serving : (l : LooperFacts) (so_far : List Step) (looper : ℕ) (P : List Step → Type 0) (steps : List Step) → ((rest : List Step) → P rest → All IsServing rest) → Through l so_far looper P steps → All IsServing steps
through_serving l so_far looper P steps each t = both IsServing t.door t.rest steps (opens_serving l so_far looper t.door t.opens) (each t.rest t.then_does) t.is

door_serving : (l : LooperFacts) (so_far : List Step) (looper : ℕ) (a : Answer) (P : List Step → Type 0) (steps : List Step) → ((rest : List Step) → P rest → All IsServing rest) → ThroughDoor l so_far looper a P steps → All IsServing steps
door_serving l so_far looper answer.NoMemory P steps each d =
    ⊎_elim (λ (t : wants.LacksDoor l so_far looper steps). none IsServing steps t.is) (λ (t : Through l so_far looper P steps). through_serving l so_far looper P steps each t) d
door_serving l so_far looper (answer.Team team first) P steps each d = through_serving l so_far looper P steps each d
door_serving l so_far looper answer.NoTeam P steps each d = through_serving l so_far looper P steps each d
door_serving l so_far looper (answer.Written position) P steps each d = through_serving l so_far looper P steps each d
door_serving l so_far looper answer.Full P steps each d = through_serving l so_far looper P steps each d
door_serving l so_far looper answer.Closed P steps each d = through_serving l so_far looper P steps each d
door_serving l so_far looper answer.Spent P steps each d = through_serving l so_far looper P steps each d
door_serving l so_far looper answer.TooLong P steps each d = through_serving l so_far looper P steps each d
door_serving l so_far looper (answer.Reply flat message) P steps each d = through_serving l so_far looper P steps each d

posts_serving : (to : Address) (m : MessageData) (item : ItemData) (a : Answer) (steps : List Step) → PostsSo to m item a steps → All IsServing steps
posts_serving to m item (answer.Written position) steps p = port_serving to.looper _ steps refl p.enters
posts_serving to m item answer.Full steps p = port_serving to.looper _ steps refl p.enters
posts_serving to m item answer.Closed steps p = port_serving to.looper _ steps refl p.enters
posts_serving to m item answer.Spent steps p = port_serving to.looper _ steps refl p.enters
posts_serving to m item answer.TooLong steps p = none IsServing steps p.1
posts_serving to m item answer.NoMemory steps p = none IsServing steps p
posts_serving to m item (answer.Team team first) steps p = absurd p
posts_serving to m item answer.NoTeam steps p = absurd p
posts_serving to m item (answer.Reply flat message) steps p = absurd p

asks_serving : (to : Address) (m : MessageData) (item : ItemData) (a : Answer) (steps : List Step) → AsksSo to m item a steps → All IsServing steps
asks_serving to m item (answer.Reply flat message) steps p = converses_serving to item flat steps p.1.does
asks_serving to m item answer.Closed steps p = withdraws_serving to (Some event.Refused) steps refl p.does
asks_serving to m item answer.Spent steps p = withdraws_serving to (Some event.Spent) steps refl p.does
asks_serving to m item answer.TooLong steps p = none IsServing steps p.1
asks_serving to m item answer.NoMemory steps p = vain_serving to item steps p
asks_serving to m item (answer.Written position) steps p = absurd p
asks_serving to m item answer.Full steps p = absurd p
asks_serving to m item (answer.Team team first) steps p = absurd p
asks_serving to m item answer.NoTeam steps p = absurd p

forwards_serving : (looper : ℕ) (item : ItemData) (a : Answer) (steps : List Step) → ForwardsSo looper item a steps → All IsServing steps
forwards_serving looper item (answer.Written position) steps p = port_serving looper _ steps refl p
forwards_serving looper item answer.Closed steps p = port_serving looper _ steps refl p
forwards_serving looper item answer.Spent steps p = port_serving looper _ steps refl p
forwards_serving looper item answer.NoMemory steps p = none IsServing steps p
forwards_serving looper item answer.Full steps p = absurd p
forwards_serving looper item answer.TooLong steps p = absurd p
forwards_serving looper item (answer.Team team first) steps p = absurd p
forwards_serving looper item answer.NoTeam steps p = absurd p
forwards_serving looper item (answer.Reply flat message) steps p = absurd p

looks_serving : (l : LooperFacts) (word : AppWord) (a : Answer) (steps : List Step) → wants.LooksUp l word a steps → All IsServing steps
looks_serving l word a steps f = one IsServing (at_roster f.noted) steps tt f.is

finds_serving : (l : LooperFacts) (word : AppWord) (a : Answer) (steps : List Step) → ServesFind l word a steps → All IsServing steps
finds_serving l word answer.NoMemory steps f = none IsServing steps f
finds_serving l word (answer.Team team first) steps f = looks_serving l word _ steps f
finds_serving l word answer.NoTeam steps f = looks_serving l word _ steps f
finds_serving l word (answer.Written position) steps f = looks_serving l word _ steps f
finds_serving l word answer.Full steps f = looks_serving l word _ steps f
finds_serving l word answer.Closed steps f = looks_serving l word _ steps f
finds_serving l word answer.Spent steps f = looks_serving l word _ steps f
finds_serving l word answer.TooLong steps f = looks_serving l word _ steps f
finds_serving l word (answer.Reply flat message) steps f = looks_serving l word _ steps f

pub serves_serving : (l : LooperFacts) (so_far : List Step) (item : ItemData) (w : Want) (a : Answer) (steps : List Step) → Serves l so_far item w a steps → All IsServing steps
serves_serving l so_far item (want.Find word) a steps s = finds_serving l word a steps s
serves_serving l so_far item (want.Post to m back) a steps s =
    door_serving l so_far to.looper a (PostsSo to m (wants.sent_item l.team to (wants.owed_to back) m) a) steps (posts_serving to m _ a) s
serves_serving l so_far item (want.Ask to m) a steps s = door_serving l so_far to.looper a (AsksSo to m (wants.sent_item l.team to duty.None m) a) steps (asks_serving to m _ a) s
serves_serving l so_far item (want.Forward looper popped) a steps s =
    door_serving l so_far looper a (ForwardsSo looper (wants.forwarded_item item popped) a) steps (forwards_serving looper _ a) s
serves_serving l so_far item want.Done a steps s = absurd s

pub all_serving : (l : LooperFacts) (so_far : List Step) (item : ItemData) (asked : List Want) (heard : List Answer) (steps : List Step) → ServesAll l so_far item asked heard steps → All IsServing steps
all_serving l so_far item [] [] steps s = none IsServing steps s
all_serving l so_far item [] (a ∷ heard) steps s = absurd s
all_serving l so_far item (w ∷ asked) [] steps s = absurd s
all_serving l so_far item (w ∷ asked) (a ∷ heard) steps s =
    both IsServing s.0 s.1 steps (serves_serving l so_far item w a s.0 s.2) (all_serving l (so_far ++ s.0) item asked heard s.1 s.3) s.4

-- ---- what follows a dispatch
fills_quiet : (n : ℕ) (text : List ℕ) (steps : List Step) → Fills n text steps → All IsQuiet steps
fills_quiet n text steps f = ⊎_elim (λ (t : turns.EntersFill n text steps). one IsQuiet (at_book t.noted) steps tt t.is) (λ (t : turns.FindsSettled n steps). one IsQuiet (saw_book t.seen) steps tt t.is) f

shuts_quiet : (looper : ℕ) (steps : List Step) → Shuts looper steps → All IsQuiet steps
shuts_quiet looper steps s =
    ⊎_elim (λ (t : turns.EntersShut looper steps). one IsQuiet (at_port looper t.noted) steps (ap takes_items t.event_is) t.is) (λ (t : turns.FindsShut looper steps). one IsQuiet (saw_port looper t.seen) steps tt t.is) s

shuts_all_quiet : (loopers : List ℕ) (steps : List Step) → ShutsAll loopers steps → All IsQuiet steps
shuts_all_quiet [] steps s = none IsQuiet steps s
shuts_all_quiet (looper ∷ loopers) steps s = both IsQuiet s.0 s.1 steps (shuts_quiet looper s.0 s.2) (shuts_all_quiet loopers s.1 s.3) s.4

leaves_quiet : (l : LooperFacts) (own : Bool) (steps : List Step) → LeavesRoster l own steps → All IsQuiet steps
leaves_quiet l true steps s = ⊎_elim (λ (t : turns.EntersGone l steps). one IsQuiet (at_roster t.noted) steps tt t.is) (λ (t : turns.FindsGone l steps). one IsQuiet (saw_roster t.seen) steps tt t.is) s
leaves_quiet l false steps s = none IsQuiet steps s

pub closes_quiet : (l : LooperFacts) (steps : List Step) → Closes l steps → All IsQuiet steps
closes_quiet l steps c = both IsQuiet c.gone c.shut steps (leaves_quiet l (is_own l) c.gone c.leaves) (shuts_all_quiet (closed_by l) c.shut c.shuts) c.is

closes_if_quiet : (l : LooperFacts) (due : Bool) (steps : List Step) → ClosesIf l due steps → All IsQuiet steps
closes_if_quiet l true steps c = closes_quiet l steps c
closes_if_quiet l false steps c = none IsQuiet steps c

posted_quiet : (item : ItemData) (e : PortEvent) → turns.IsPosted item e → takes_items e ≡ false
posted_quiet item _ (turns.written position) = refl
posted_quiet item _ turns.full = refl
posted_quiet item _ turns.refused = refl
posted_quiet item _ turns.spent = refl

tries_quiet : (looper : ℕ) (item : ItemData) (steps : List Step) → TriesBack looper item steps → All IsQuiet steps
tries_quiet looper item steps t =
    ⊎_elim (λ (p : turns.PostsBack looper item steps). one IsQuiet (at_port looper p.enters.noted) steps (ap takes_items p.enters.event_is ∙ posted_quiet item p.what p.may) p.enters.is)
    (λ (is : steps ≡ lacked ∷ []). one IsQuiet lacked steps tt is) t

back_quiet : (l : LooperFacts) (so_far : List Step) (b : Bool) (to : Address) (m : MessageData) (steps : List Step) → RepliesBack l so_far b to m steps → All IsQuiet steps
back_quiet l so_far true to m steps r = none IsQuiet steps r
back_quiet l so_far false to m steps r =
    ⊎_elim (λ (w : turns.LacksWay l so_far to.looper steps). one IsQuiet lacked steps tt w.is)
    (λ (t : Through l so_far to.looper (TriesBack to.looper (wants.sent_item l.team to duty.None m)) steps).
    both IsQuiet t.door t.rest steps (are_quiet t.door (opens_serving l so_far to.looper t.door t.opens)) (tries_quiet to.looper _ t.rest t.then_does) t.is) r

pays_quiet : (l : LooperFacts) (so_far : List Step) (owed : Duty) (reply : Option MessageData) (steps : List Step) → Pays l so_far owed reply steps → All IsQuiet steps
pays_quiet l so_far owed None steps p = none IsQuiet steps p
pays_quiet l so_far duty.None (Some m) steps p = none IsQuiet steps p
pays_quiet l so_far (duty.Slot n) (Some m) steps p = fills_quiet n _ steps p
pays_quiet l so_far (duty.Back to) (Some m) steps p = back_quiet l so_far (is_no_reply m) to m steps p

text_quiet : (owed : Duty) (reply told : Option MessageData) (steps : List Step) → WritesText owed reply told steps → All IsQuiet steps
text_quiet owed reply _ _ turns.with_memory = All-nil IsQuiet
text_quiet owed reply _ _ (turns.without wants) = All-cons IsQuiet lacked [] tt (All-nil IsQuiet)

pub settles_quiet : (l : LooperFacts) (so_far : List Step) (owed : Duty) (reply : Option MessageData) (steps : List Step) → Settles l so_far owed reply steps → All IsQuiet steps
settles_quiet l so_far owed reply steps s =
    both IsQuiet ((s.text ++ s.closing) ++ s.paying) s.late steps
    (All-append IsQuiet (s.text ++ s.closing) s.paying
    (All-append IsQuiet s.text s.closing (text_quiet owed reply s.told s.text s.writes) (closes_if_quiet l _ s.closing s.closes))
    (pays_quiet l _ owed s.told s.paying s.pays))
    (closes_if_quiet l _ s.late s.closes_late) s.is

leaves_one_quiet : (owed : Duty) (steps : List Step) → LeavesOne owed steps → All IsQuiet steps
leaves_one_quiet duty.None steps f = none IsQuiet steps f
leaves_one_quiet (duty.Slot n) steps f = fills_quiet n _ steps f
leaves_one_quiet (duty.Back to) steps f = none IsQuiet steps f

pub leaves_all_quiet : (left : List Taken) (steps : List Step) → LeavesAll left steps → All IsQuiet steps
leaves_all_quiet [] steps f = none IsQuiet steps f
leaves_all_quiet (taken ∷ left) steps f = both IsQuiet f.0 f.1 steps (leaves_one_quiet taken.item.duty f.0 f.2) (leaves_all_quiet left f.1 f.3) f.4

-- ---- what quiet steps leave
by_event : (n : Noted PortEntry) (e : PortEvent) → takes_items e ≡ false → handed_out (state_of n.before) e ≡ []
by_event n (event.Made capacity life) quiet = refl
by_event n (event.Written p item) quiet = refl
by_event n event.Full quiet = refl
by_event n event.Refused quiet = refl
by_event n event.Spent quiet = refl
by_event n event.Shut quiet = refl
by_event n (event.Took k) quiet = absurd (false≢true (sym quiet))
by_event n (event.Rest k) quiet = absurd (false≢true (sym quiet))

if_noted : (b : Bool) (n : Noted PortEntry) → handed_at n ≡ [] → handed_by (cond b (n ∷ []) []) ≡ []
if_noted true n nothing = ap (λ l. l ++ []) nothing
if_noted false n nothing = refl

pub handed-append : (xs ys : List (Noted PortEntry)) → handed_by (xs ++ ys) ≡ handed_by xs ++ handed_by ys
handed-append [] ys = refl
handed-append (x ∷ xs) ys = ap (λ l. handed_at x ++ l) (handed-append xs ys) ∙ sym (append_assoc (handed_at x) (handed_by xs) (handed_by ys))

step_hands_nothing : (looper : ℕ) (step : Step) → IsQuiet step → handed_by (port_entry looper step) ≡ []
step_hands_nothing looper (at_roster n) quiet = refl
step_hands_nothing looper (at_book n) quiet = refl
step_hands_nothing looper (at_port number n) quiet = if_noted (number == looper) n (by_event n n.entry.event quiet)
step_hands_nothing looper (at_desk number n) quiet = absurd quiet
step_hands_nothing looper (saw_roster seen) quiet = refl
step_hands_nothing looper (saw_book seen) quiet = refl
step_hands_nothing looper (saw_port number seen) quiet = refl
step_hands_nothing looper lacked quiet = refl

pub quiet_hand_nothing : (looper : ℕ) (steps : List Step) → All IsQuiet steps → handed_by (port_entries looper steps) ≡ []
quiet_hand_nothing looper [] quiet = refl
quiet_hand_nothing looper (s ∷ ss) quiet =
    handed-append (port_entry looper s) (port_entries looper ss)
    ∙ ap (λ l. l ++ handed_by (port_entries looper ss)) (step_hands_nothing looper s (All-head IsQuiet s ss quiet))
    ∙ quiet_hand_nothing looper ss (All-tail IsQuiet s ss quiet)

step_at_no_desk : (looper : ℕ) (step : Step) → IsQuiet step → desk_entry looper step ≡ []
step_at_no_desk looper (at_roster n) quiet = refl
step_at_no_desk looper (at_book n) quiet = refl
step_at_no_desk looper (at_port number n) quiet = refl
step_at_no_desk looper (at_desk number n) quiet = absurd quiet
step_at_no_desk looper (saw_roster seen) quiet = refl
step_at_no_desk looper (saw_book seen) quiet = refl
step_at_no_desk looper (saw_port number seen) quiet = refl
step_at_no_desk looper lacked quiet = refl

pub quiet_at_no_desk : (looper : ℕ) (steps : List Step) → All IsQuiet steps → desk_entries looper steps ≡ []
quiet_at_no_desk looper [] quiet = refl
quiet_at_no_desk looper (s ∷ ss) quiet =
    ap (λ l. l ++ desk_entries looper ss) (step_at_no_desk looper s (All-head IsQuiet s ss quiet)) ∙ quiet_at_no_desk looper ss (All-tail IsQuiet s ss quiet)

-- a quiet step calls for closing exactly where there was no memory
step_calls : (step : Step) → IsQuiet step → calls_for_closing step ≡ is_lack step
step_calls (at_roster n) quiet = refl
step_calls (at_book n) quiet = refl
step_calls (at_port number n) quiet = refl
step_calls (at_desk number n) quiet = absurd quiet
step_calls (saw_roster seen) quiet = refl
step_calls (saw_book seen) quiet = refl
step_calls (saw_port number seen) quiet = refl
step_calls lacked quiet = refl

pub quiet_calls : (steps : List Step) → All IsQuiet steps → is_closing steps ≡ ran_short steps
quiet_calls [] quiet = refl
quiet_calls (s ∷ ss) quiet = ap (λ b. b || is_closing ss) (step_calls s (All-head IsQuiet s ss quiet)) ∙ ap (λ b. is_lack s || b) (quiet_calls ss (All-tail IsQuiet s ss quiet))

step_no_lack : (step : Step) → IsServing step → is_lack step ≡ false
step_no_lack (at_roster n) h = refl
step_no_lack (at_book n) h = refl
step_no_lack (at_port number n) h = refl
step_no_lack (at_desk number n) h = refl
step_no_lack (saw_roster seen) h = refl
step_no_lack (saw_book seen) h = refl
step_no_lack (saw_port number seen) h = refl
step_no_lack lacked h = absurd h

pub serving_not_short : (steps : List Step) → All IsServing steps → ran_short steps ≡ false
serving_not_short [] h = refl
serving_not_short (s ∷ ss) h = ap (λ b. b || ran_short ss) (step_no_lack s (All-head IsServing s ss h)) ∙ serving_not_short ss (All-tail IsServing s ss h)
