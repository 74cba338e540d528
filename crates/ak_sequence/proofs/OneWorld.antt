-- An entry makes one world of a sound one.
use Rattle.std.proofs.Common.{◌≡◌, ◌∙◌, ℕ, ◌+◌, ◌≤◌, List, [], ◌∷◌, ◌++◌, map, Option, None, Some, sym, ap, subst, ⊎_elim, arith}
use Rattle.ak_base.specs.Thread.{looper_thread}
use Rattle.ak_message.specs.Message.{MessageData}
use Rattle.ak_flatten.specs.declared.item.Duty.{Duty}
use Rattle.ak_flatten.specs.declared.item.Duty.TheVariants as duty
use Rattle.ak_flatten.specs.declared.item.Taken.{Taken}
use Rattle.ak_flatten.specs.Item.{ItemData}
use Rattle.ak_roster.specs.declared.head.AppHead.{AppHead}
use Rattle.ak_port.specs.declared.port_entry.PortEvent.{PortEvent}
use Rattle.ak_port.specs.declared.port_entry.PortEvent.TheVariants as port_event
use Rattle.ak_port.specs.declared.reply_entry.ReplyEvent.{ReplyEvent}
use Rattle.ak_port.specs.declared.reply_entry.ReplyEvent.TheVariants as slot
use Rattle.ak_port.specs.PortMachine.{numbered}
use Rattle.ak_action.specs.declared.answer.AnswerWord.{AnswerWord}
use Rattle.ak_action.specs.declared.state.DeskState.{DeskState}
use Rattle.ak_desk.specs.declared.entry.DeskEvent.{DeskEvent}
use Rattle.ak_desk.specs.declared.entry.DeskEvent.TheVariants as desk_event
use Rattle.ak_desk.specs.declared.entry.EntryRoute.{EntryRoute}
use Rattle.ak_desk.specs.Laws.{EntryTellsReply, HasOneReply}
use Rattle.ak_desk.specs.Machine.{DispatchStep, StepReplies, counted, paired}
use Rattle.ak_journal.specs.declared.entry.Entry.{Entry}
use Rattle.ak_journal.specs.declared.entry.Event.{Event}
use Rattle.ak_journal.specs.declared.entry.Event.TheVariants as event
use Rattle.ak_journal.specs.declared.entry.ObjectName.{ObjectName}
use Rattle.ak_journal.specs.declared.entry.ObjectName.TheVariants as object
use Rattle.ak_world.specs.Merged.{thread_of}
use Rattle.ak_world.specs.World.{Asks, Held, Moves, PaysLeft, PaysOwed, SendsOn, Work, WorkAtBook, WorkAtPort, Works, World, WorldRun, Writes, first_world, owed_for, put, settled}
use Rattle.ak_sequence.specs.Places.{IsSound, left_over, owed, taken_of}
use Rattle.ak_sequence.specs.Worlds.{StepIsOne, WorldIsOne}
use Rattle.ak_sequence.proofs.Lots.{due, holds_of, is_at, lot, put_by, undispatched}
use Rattle.ak_sequence.proofs.Amid.{one_behind}
use Rattle.ak_sequence.proofs.Moves.{left_was, paid_was}
use Rattle.ak_sequence.proofs.Standing.{hand_written}
use Rattle.ak_sequence.proofs.SoundAtBook.{not_written}
use Rattle.ak_sequence.proofs.Sound.{first_is_sound, steps_keep_sound}

-- ---- a thread is one looper's
one_looper : (by k m : ℕ) → by ≡ looper_thread k → by ≡ looper_thread m → k ≡ m
one_looper by k m a b = omega arith

-- ---- one of a list with rising positions is settled: its position tells which
same_settled
    : (before : List Held) (one : Held) (behind : List Held) (earlier : List Held) (other : Held) (later : List Held) (number : ℕ) (items : List ItemData)
    → map taken_of (before ++ one ∷ behind) ≡ numbered number items → before ++ one ∷ behind ≡ earlier ++ other ∷ later → one.taken.position ≡ other.taken.position
    → before ++ settled one ∷ behind ≡ earlier ++ settled other ∷ later
same_settled [] one behind [] other later number items order same position =
    let a : one ≡ other = cc in
    let b : behind ≡ later = cc in
    λ i. settled (a i) ∷ b i
same_settled [] one behind (o ∷ earlier) other later number [] order same position = absurd (cc)
same_settled [] one behind (o ∷ earlier) other later number (item ∷ items) order same position =
    let head : one.taken ≡ record { position = number; item = item } = cc in
    let here : one.taken.position ≡ number = ap (λ (t : Taken). t.position) head in
    let rest : map taken_of behind ≡ numbered (number + 1) items = cc in
    let tail : behind ≡ earlier ++ other ∷ later = cc in
    let low : number + 1 ≤ other.taken.position = one_behind earlier other later (number + 1) items (ap (map taken_of) (sym tail) ∙ rest) in
    absurd (omega arith)
same_settled (o ∷ before) one behind earlier other later number [] order same position = absurd (cc)
same_settled (o ∷ before) one behind [] other later number (item ∷ items) order same position =
    let head : o.taken ≡ record { position = number; item = item } = cc in
    let first : o ≡ other = cc in
    let here : other.taken.position ≡ number = ap (λ (h : Held). h.taken.position) (sym first) ∙ ap (λ (t : Taken). t.position) head in
    let rest : map taken_of (before ++ one ∷ behind) ≡ numbered (number + 1) items = cc in
    let low : number + 1 ≤ one.taken.position = one_behind before one behind (number + 1) items rest in
    absurd (omega arith)
same_settled (o ∷ before) one behind (p ∷ earlier) other later number (item ∷ items) order same position =
    let first : o ≡ p = cc in
    let tail : before ++ one ∷ behind ≡ earlier ++ other ∷ later = cc in
    let rest : map taken_of (before ++ one ∷ behind) ≡ numbered (number + 1) items = cc in
    let on = same_settled before one behind earlier other later (number + 1) items rest tail position in
    λ i. first i ∷ on i

-- ---- a dispatch has one reply
replies_same
    : (s : DeskState) (route : EntryRoute) (item : Option ItemData) (words : List AnswerWord) → HasOneReply s route item words → (reply other : Option MessageData)
    → StepReplies s route item words reply → StepReplies s route item words other → reply ≡ other
replies_same s route item words one reply other p q = one.alone reply p ∙ sym (one.alone other q)

-- ---- what the loopers have to do
module _ (short : List ℕ) (w : World) (sound : IsSound w) (a b : ℕ → Work) where
  -- a slot that is owed for a dispatch is in no item that was left
  one_due : (by n : ℕ) (text : List ℕ) (u v : ℕ → Work) → PaysOwed short w by n text u → PaysLeft w by n text v → ⊥
  one_due by n text u v p q =
      let was = paid_was (lot w p.looper) (holds_of w p.looper (sound.holds p.looper)) n (Some p.reply) p.owes in
      let left = left_was (lot w q.looper) (holds_of w q.looper (sound.holds q.looper)) n q.before q.one q.behind q.left q.owes in
      let same : owed p.looper was.0 ≡ left_over q.looper q.one.taken.position =
      sound.once n (owed p.looper was.0) (left_over q.looper q.one.taken.position) (is_at w n p.looper due was.0 was.1) (is_at w n q.looper put_by q.one.taken.position left) in
      cc

  one_left : (by n : ℕ) (text : List ℕ) → PaysLeft w by n text a → PaysLeft w by n text b → a ≡ b
  one_left by n text p q =
      let h = holds_of w p.looper (sound.holds p.looper) in
      let was = left_was (lot w p.looper) h n p.before p.one p.behind p.left p.owes in
      let also = left_was (lot w q.looper) (holds_of w q.looper (sound.holds q.looper)) n q.before q.one q.behind q.left q.owes in
      let place : left_over p.looper p.one.taken.position ≡ left_over q.looper q.one.taken.position =
      sound.once n (left_over p.looper p.one.taken.position) (left_over q.looper q.one.taken.position)
      (is_at w n p.looper put_by p.one.taken.position was) (is_at w n q.looper put_by q.one.taken.position also) in
      let same : p.looper ≡ q.looper = cc in
      let position : p.one.taken.position ≡ q.one.taken.position = cc in
      let lists : p.before ++ p.one ∷ p.behind ≡ q.before ++ q.one ∷ q.behind = sym p.left ∙ ap (λ (k : ℕ). (w.works k).left) same ∙ q.left in
      let order = ap (map taken_of) (sym p.left) ∙ (h.left_over p.rested).1 in
      let left = same_settled p.before p.one p.behind q.before q.one q.behind (lot w p.looper).dispatched (undispatched (lot w p.looper)) order lists position in
      p.owes_no_more ∙ (λ i. put (same i) (record (w.works (same i)) { left = left i }) w.works) ∙ sym q.owes_no_more

  one_owed : (by n : ℕ) (text : List ℕ) → PaysOwed short w by n text a → PaysOwed short w by n text b → a ≡ b
  one_owed by n text p q =
      let same : p.looper ≡ q.looper = one_looper by p.looper q.looper p.is_by q.is_by in
      p.owes_no_more ∙ ap (λ (k : ℕ). put k (record (w.works k) { owed = None }) w.works) same ∙ sym q.owes_no_more

  -- the first in hand is the same, and so are those behind it
  one_sent : (by n : ℕ) (item : ItemData) → SendsOn w by n item a → SendsOn w by n item b → a ≡ b
  one_sent by n item p q =
      let same : p.looper ≡ q.looper = one_looper by p.looper q.looper p.is_by q.is_by in
      let hands : p.first ∷ p.others ≡ q.first ∷ q.others = sym p.oldest ∙ ap (λ (k : ℕ). (w.works k).hand) same ∙ q.oldest in
      let first : p.first ≡ q.first = cc in
      let others : p.others ≡ q.others = cc in
      p.owes_no_more ∙ (λ i. put (same i) (record (w.works (same i)) { hand = settled (first i) ∷ others i }) w.works) ∙ sym q.owes_no_more

  -- a slot that nobody was told of yet is owed for nothing in hand
  none_sent : (by n : ℕ) (item : ItemData) (u v : ℕ → Work) → Asks w by n u → SendsOn w by n item v → ⊥
  none_sent by n item u v p q = not_written w n p.unwritten (hand_written w sound n q.looper q.first q.others q.oldest q.owes)

  one_written : (by : ℕ) (item : ItemData) (owing : Duty) → Writes w by item owing a → Writes w by item owing b → a ≡ b
  one_written by item (duty.Slot n) p q =
      ⊎_elim
      (λ (t : Asks w by n a).
      ⊎_elim
      (λ (u : Asks w by n b). t.same ∙ sym u.same)
      (λ (u : SendsOn w by n item b). absurd (none_sent by n item a b t u))
      q)
      (λ (t : SendsOn w by n item a).
      ⊎_elim
      (λ (u : Asks w by n b). absurd (none_sent by n item b a u t))
      (λ (u : SendsOn w by n item b). one_sent by n item t u)
      q)
      p
  one_written by item duty.None p q = p ∙ sym q
  one_written by item (duty.Back to) p q = p ∙ sym q

  one_at_book : (by : ℕ) (e : ReplyEvent) → WorkAtBook short w by e a → WorkAtBook short w by e b → a ≡ b
  one_at_book by (slot.Opened n) p q = p ∙ sym q
  one_at_book by (slot.Filled n text) p q =
      ⊎_elim
      (λ (t : PaysOwed short w by n text a).
      ⊎_elim
      (λ (u : PaysOwed short w by n text b). one_owed by n text t u)
      (λ (u : PaysLeft w by n text b). absurd (one_due by n text a b t u))
      q)
      (λ (t : PaysLeft w by n text a).
      ⊎_elim
      (λ (u : PaysOwed short w by n text b). absurd (one_due by n text b a u t))
      (λ (u : PaysLeft w by n text b). one_left by n text t u)
      q)
      p
  one_at_book by (slot.Cancelled n) p q = p.1 ∙ sym q.1
  one_at_book by (slot.Taken n) p q = p ∙ sym q

  one_at_port : (by looper : ℕ) (e : PortEvent) → WorkAtPort w by looper e a → WorkAtPort w by looper e b → a ≡ b
  one_at_port by looper (port_event.Made capacity life) p q = p ∙ sym q
  one_at_port by looper (port_event.Written position item) p q = one_written by item item.duty p q
  one_at_port by looper port_event.Full p q = p ∙ sym q
  one_at_port by looper port_event.Refused p q = p ∙ sym q
  one_at_port by looper port_event.Spent p q = p ∙ sym q
  one_at_port by looper (port_event.Took count) p q = p ∙ sym q
  one_at_port by looper (port_event.Rest count) p q = p ∙ sym q
  one_at_port by looper port_event.Shut p q = p ∙ sym q

-- ---- each entry
module _ (tells : EntryTellsReply) (heads : List AppHead) (short : List ℕ) (w : World) (entry : Entry) (a b : World) (sound : IsSound w) where
  world_same : a.objects ≡ b.objects → a.works ≡ b.works → a ≡ b
  world_same objects works = λ i. record { objects = objects i; works = works i }

  -- at a desk the handlers are the same, and so is what is owed for the dispatch
  desk_same
      : (looper : ℕ) (e : DeskEvent) (i j : Option ItemData) (m : Moves heads w.objects entry i (object.Desk looper) (event.Desk e) a.objects)
      (n : Moves heads w.objects entry j (object.Desk looper) (event.Desk e) b.objects) → m.leaves ≡ n.leaves → a.objects ≡ b.objects
  desk_same looper e i j m n same =
      m.after
      ∙ ap (λ (s : DeskState). record w.objects { desks = put looper (record { state = s; dispatched = counted (w.objects.desks looper).dispatched e }) w.objects.desks }) same
      ∙ sym n.after

  one_at_desk
      : (looper : ℕ) (e : DeskEvent) (i j : Option ItemData) → Moves heads w.objects entry i (object.Desk looper) (event.Desk e) a.objects
      → Moves heads w.objects entry j (object.Desk looper) (event.Desk e) b.objects → Works short w (thread_of entry) i (object.Desk looper) (event.Desk e) a.works
      → Works short w (thread_of entry) j (object.Desk looper) (event.Desk e) b.works → a ≡ b
  one_at_desk looper (desk_event.Edited edit answer) i j m n p q =
      world_same (desk_same looper (desk_event.Edited edit answer) i j m n (m.step.event.2 ∙ sym n.step.event.2)) (p ∙ sym q)
  one_at_desk looper (desk_event.Dispatched position route words quit) i j m n p q =
      let s : DeskState = (w.objects.desks looper).state in
      let hands : p.first ∷ p.others ≡ q.first ∷ q.others = sym p.oldest ∙ q.oldest in
      let first : p.first ≡ q.first = cc in
      let others : p.others ≡ q.others = cc in
      let item : i ≡ j = p.item_is ∙ ap (λ (h : Held). paired route h.taken.item) first ∙ sym q.item_is in
      let also : DispatchStep s route i words quit n.leaves = subst (λ (k : Option ItemData). DispatchStep s route k words quit n.leaves) (sym item) n.step.event.1 in
      let told = tells s route i words quit quit m.leaves n.leaves m.step.event.1 also in
      let replies : StepReplies s route i words q.reply = subst (λ (k : Option ItemData). StepReplies s route k words q.reply) (sym item) q.replies in
      let reply : p.reply ≡ q.reply = replies_same s route i words told.2 p.reply q.reply p.replies replies in
      world_same
      (desk_same looper (desk_event.Dispatched position route words quit) i j m n told.1)
      (p.owes ∙ (λ k. put looper (record (w.works looper) { hand = others k; owed = owed_for (first k).owing (reply k) }) w.works) ∙ sym q.owes)

  one_at
      : (name : ObjectName) (e : Event) (i j : Option ItemData) → Moves heads w.objects entry i name e a.objects → Moves heads w.objects entry j name e b.objects
      → Works short w (thread_of entry) i name e a.works → Works short w (thread_of entry) j name e b.works → a ≡ b
  one_at object.Roster (event.Roster e) i j m n p q = world_same (m.after ∙ sym n.after) (p ∙ sym q)
  one_at object.Book (event.Book e) i j m n p q = world_same (m.after ∙ sym n.after) (one_at_book short w sound a.works b.works (thread_of entry) e p q)
  one_at (object.Port looper) (event.Port e) i j m n p q = world_same (m.after ∙ sym n.after) (one_at_port short w sound a.works b.works (thread_of entry) looper e p q)
  one_at (object.Desk looper) (event.Desk e) i j m n p q = one_at_desk looper e i j m n p q
  one_at _ _ i j m n p q = absurd m

pub step_is_one : EntryTellsReply → StepIsOne
step_is_one tells heads short w entry a b sound p q = one_at tells heads short w entry a b sound entry.object entry.event p.item q.item p.object.moves q.object.moves p.works q.works

-- ---- entry after entry
run_is_one
    : EntryTellsReply → (heads : List AppHead) (short : List ℕ) (w : World) (entries : List Entry) (a b : World) → IsSound w
    → WorldRun heads short w entries a → WorldRun heads short w entries b → a ≡ b
run_is_one tells heads short w [] a b sound p q = p ∙ sym q
run_is_one tells heads short w (entry ∷ entries) a b sound p q =
    let same : p.0 ≡ q.0 = step_is_one tells heads short w entry p.0 q.0 sound p.1 q.1 in
    run_is_one tells heads short p.0 entries a b (steps_keep_sound heads short w entry p.0 p.1 sound) p.2
    (subst (λ (v : World). WorldRun heads short v entries b) (sym same) q.2)

pub world_is_one : EntryTellsReply → WorldIsOne
world_is_one tells heads short openings entries a b p q = run_is_one tells heads short (first_world openings) entries a b (first_is_sound openings) p q
