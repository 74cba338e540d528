-- The fields of a port tell its state after each entry.
use Rattle.std.proofs.Common.{◌≡◌, ℕ, ◌+◌, ◌-◌, ◌<◌, ◌≤◌, true, false, List, [], ◌∷◌, ◌++◌, length, take, drop, min, Some, None, refl, sym, ap, ◌∙◌, subst, arith, length-append}
use Rattle.std.specs.Vec.{vec_len, vec_capacity}
use Rattle.std.specs.VecDeque.{deque_len, deque_capacity}
use Rattle.std.proofs.lemmas.List.{drop-drop, drop-take, drop-append-le}
use Rattle.ak_flatten.specs.Item.{ItemData}
use Rattle.ak_flatten.specs.declared.item.Duty.TheVariants as duty
use Rattle.ak_message.specs.declared.address.Target.TheVariants as target
use Rattle.ak_port.specs.declared.port_book.PortBook.TheInside.{Inside}
use Rattle.ak_port.specs.declared.port_entry.PortEntry.{PortEntry}
use Rattle.ak_port.specs.declared.port_entry.PortEvent.TheVariants as event
use Rattle.ak_port.specs.declared.port_entry.Refusal.{Refusal}
use Rattle.ak_port.specs.declared.port_entry.Refusal.TheVariants as refusal
use Rattle.ak_turn.specs.Entries.{last_stamp_of}
use Rattle.ak_port.specs.PortCalls.{stamp_number}
use Rattle.ak_port.specs.PortInside.{IsSound, Tells, reserved, one_unless}
use Rattle.ak_port.specs.PortLaws.{IsWithin}
use Rattle.ak_port.specs.PortMachine.{PortState, PortStep, IsPort, IsAllowed, state_after, state_of, pending_count, numbered, last_taken, refusal_of, refused_event, follows_making}
use Rattle.ak_port.proofs.PortLimits.{within_limits}
use Rattle.ak_port.proofs.PortReplays.{IsPort-push, state_of-push}

-- ---- writes
pub open_allows : (taker by : ℕ) (s : PortState) (item : ItemData) → IsWithin s → refusal_of s ≡ None → IsAllowed taker by s (event.Written (length s.written) item)
open_allows taker by s item within none = grind arith

pub refused_allows : (taker by : ℕ) (s : PortState) (why : Refusal) → IsWithin s → refusal_of s ≡ Some why → IsAllowed taker by s (refused_event why)
refused_allows taker by s refusal.Closed within some = grind arith
refused_allows taker by s refusal.Spent within some = grind arith
refused_allows taker by s refusal.Full within some = grind arith

pub refused_stays : (s : PortState) (why : Refusal) → state_after s (refused_event why) ≡ s
refused_stays s refusal.Closed = refl
refused_stays s refusal.Spent = refl
refused_stays s refusal.Full = refl

refused_follows : (why : Refusal) → follows_making (refused_event why) ≡ true
refused_follows refusal.Closed = refl
refused_follows refusal.Spent = refl
refused_follows refusal.Full = refl

-- ---- what a book knows of its fields
pub few_pending : (b : Inside) → IsSound b → (deque_len b.pending ≡ pending_count (state_of b.entries.items)) × (b.written - deque_len b.pending ≡ (state_of b.entries.items).taken) × (deque_len b.pending ≤ b.capacity) × (deque_len b.pending ≤ b.written)
few_pending b sound =
    let within = within_limits b.taker.0 b.entries.items sound.port in
    let most = within.capacity in
    let taken = within.taken in
    let long = sound.tells.pending_len in
    let count = sound.tells.count in
    let capacity = sound.tells.capacity in
    (omega arith, omega arith, omega arith, omega arith)

-- where a write is accepted there is room
pub room_left : (b : Inside) → IsSound b → refusal_of (state_of b.entries.items) ≡ None → (deque_len b.pending < deque_capacity b.pending) × (b.written < 8192)
room_left b sound none =
    let within = within_limits b.taker.0 b.entries.items sound.port in
    let allowed = open_allows 0 0 (state_of b.entries.items) (record { target = target.Preferred; team = 0; dropped = false; duty = duty.None; popped = 0; flat = [] }) within none in
    let below = allowed.1 in
    let room = allowed.2 in
    let few = few_pending b sound in
    let len = few.0 in
    let capacity = sound.tells.capacity in
    let life = sound.tells.life in
    let count = sound.tells.count in
    let ring = sound.ring in
    let most = sound.within.1 in
    (omega arith, omega arith)

-- ---- one entry more
pub sound_next : (b b' : Inside) (x : PortEntry) → IsSound b → b'.taker ≡ b.taker → b'.capacity ≡ b.capacity → b'.life ≡ b.life → b'.entries.items ≡ b.entries.items ++ x ∷ [] → last_stamp_of stamp_number b.entries.items < x.stamp → PortStep b.taker.0 (state_of b.entries.items) x
    → Tells (state_after (state_of b.entries.items) x.event) b' → vec_len b'.entries + reserved b' ≤ vec_capacity b'.entries → b'.capacity ≤ deque_capacity b'.pending → IsSound b'
sound_next b b' x sound taker capacity life items past step tells room ring = record {
  port = subst (λ t. IsPort t b'.entries.items) (ap (λ t. t.0) (sym taker)) (subst (IsPort b.taker.0) (sym items) (IsPort-push b.taker.0 b.entries.items x sound.port step past));
  tells = subst (λ s. Tells s b') (sym (state_of-push b.entries.items x) ∙ ap state_of (sym items)) tells;
  within = (subst (λ n. n ≤ 1000) (sym capacity) sound.within.0, subst (λ n. n ≤ 8192) (sym life) sound.within.1);
  entries = room;
  ring = ring;
}

step_of : (taker : ℕ) (xs : List PortEntry) (x : PortEntry) → IsPort taker xs → follows_making x.event ≡ true → IsAllowed taker x.by.0 (state_of xs) x.event → PortStep taker (state_of xs) x
step_of taker xs x port follows allowed = record { after_making = port.made ∙ sym follows; allowed = allowed }

-- shut
pub shut_sound : (b b' : Inside) (x : PortEntry) → IsSound b → b.shut ≡ false → x.event ≡ event.Shut → b'.taker ≡ b.taker → b'.capacity ≡ b.capacity → b'.life ≡ b.life → b'.entries.items ≡ b.entries.items ++ x ∷ [] → last_stamp_of stamp_number b.entries.items < x.stamp
    → vec_len b'.entries ≡ vec_len b.entries + 1 → vec_capacity b'.entries ≡ vec_capacity b.entries → b'.pending ≡ b.pending → b'.written ≡ b.written → b'.shut ≡ true → b'.rested ≡ b.rested → IsSound b'
shut_sound b b' x sound shut is taker capacity life items past len held pending written shuts rested =
    let s = state_of b.entries.items in
    let was = sound.tells in
    sound_next b b' x sound taker capacity life items past
    (step_of b.taker.0 b.entries.items x sound.port (ap follows_making is) (subst (IsAllowed b.taker.0 x.by.0 s) (sym is) (was.shut ∙ shut)))
    (subst (λ e. Tells (state_after s e) b') (sym is) (record {
      capacity = was.capacity ∙ sym capacity;
      life = was.life ∙ sym life;
      count = was.count ∙ sym written;
      pending = ap (λ q. q.items) pending ∙ was.pending;
      pending_len = ap (λ q. s.taken + deque_len q) pending ∙ was.pending_len ∙ sym written;
      shut = sym shuts;
      rested = was.rested ∙ sym rested;
    }))
    (let p : deque_len b'.pending ≡ deque_len b.pending = ap deque_len pending in
    let after : one_unless b'.shut ≡ 0 = ap one_unless shuts in
    let before : one_unless b.shut ≡ 1 = ap one_unless shut in
    let same : one_unless b'.rested ≡ one_unless b.rested = ap one_unless rested in
    let room = sound.entries in omega arith)
    (subst (λ n. n ≤ deque_capacity b'.pending) (sym capacity) (subst (λ q. b.capacity ≤ deque_capacity q) (sym pending) sound.ring))

-- written
pub written_sound : (b b' : Inside) (x : PortEntry) (item : ItemData) → IsSound b → refusal_of (state_of b.entries.items) ≡ None → x.event ≡ event.Written b.written item → b'.taker ≡ b.taker → b'.capacity ≡ b.capacity → b'.life ≡ b.life → (before : List PortEntry) → before ≡ b.entries.items → b'.entries.items ≡ before ++ x ∷ [] → last_stamp_of stamp_number before < x.stamp
    → vec_len b'.entries + reserved b' ≤ vec_capacity b'.entries → b'.pending.items ≡ b.pending.items ++ item ∷ [] → deque_len b'.pending ≡ deque_len b.pending + 1 → deque_capacity b'.pending ≡ deque_capacity b.pending
    → b'.written ≡ b.written + 1 → b'.shut ≡ b.shut → b'.rested ≡ b.rested → IsSound b'
written_sound b b' x item sound none is taker capacity life before kept items past room pending pending_len ring written shut rested =
    let s = state_of b.entries.items in
    let was = sound.tells in
    let within = within_limits b.taker.0 b.entries.items sound.port in
    let is' : x.event ≡ event.Written (length s.written) item = is ∙ ap (λ n. event.Written n item) (sym was.count) in
    sound_next b b' x sound taker capacity life (items ∙ ap (λ l. l ++ x ∷ []) kept) (subst (λ l. last_stamp_of stamp_number l < x.stamp) kept past)
    (step_of b.taker.0 b.entries.items x sound.port (ap follows_making is) (subst (IsAllowed b.taker.0 x.by.0 s) (sym is') (open_allows b.taker.0 x.by.0 s item within none)))
    (subst (λ e. Tells (state_after s e) b') (sym is) (record {
      capacity = was.capacity ∙ sym capacity;
      life = was.life ∙ sym life;
      count = length-append s.written (item ∷ []) ∙ ap (λ n. n + 1) was.count ∙ sym written;
      pending = pending ∙ ap (λ l. l ++ item ∷ []) was.pending ∙ sym (drop-append-le s.taken s.written (item ∷ []) within.taken);
      pending_len = (let long = was.pending_len in omega arith);
      shut = was.shut ∙ sym shut;
      rested = was.rested ∙ sym rested;
    }))
    room
    (subst (λ n. n ≤ deque_capacity b'.pending) (sym capacity) (subst (λ n. b.capacity ≤ n) (sym ring) sound.ring))

-- refused
pub refused_sound : (b b' : Inside) (x : PortEntry) (why : Refusal) → IsSound b → refusal_of (state_of b.entries.items) ≡ Some why → x.event ≡ refused_event why → b'.taker ≡ b.taker → b'.capacity ≡ b.capacity → b'.life ≡ b.life → (before : List PortEntry) → before ≡ b.entries.items → b'.entries.items ≡ before ++ x ∷ [] → last_stamp_of stamp_number before < x.stamp
    → vec_len b'.entries + reserved b' ≤ vec_capacity b'.entries → b'.pending ≡ b.pending → b'.written ≡ b.written → b'.shut ≡ b.shut → b'.rested ≡ b.rested → IsSound b'
refused_sound b b' x why sound some is taker capacity life before kept items past room pending written shut rested =
    let s = state_of b.entries.items in
    let was = sound.tells in
    let within = within_limits b.taker.0 b.entries.items sound.port in
    sound_next b b' x sound taker capacity life (items ∙ ap (λ l. l ++ x ∷ []) kept) (subst (λ l. last_stamp_of stamp_number l < x.stamp) kept past)
    (step_of b.taker.0 b.entries.items x sound.port (ap follows_making is ∙ refused_follows why) (subst (IsAllowed b.taker.0 x.by.0 s) (sym is) (refused_allows b.taker.0 x.by.0 s why within some)))
    (subst (λ t. Tells t b') (sym (ap (state_after s) is ∙ refused_stays s why)) (record {
      capacity = was.capacity ∙ sym capacity;
      life = was.life ∙ sym life;
      count = was.count ∙ sym written;
      pending = ap (λ q. q.items) pending ∙ was.pending;
      pending_len = ap (λ q. s.taken + deque_len q) pending ∙ was.pending_len ∙ sym written;
      shut = was.shut ∙ sym shut;
      rested = was.rested ∙ sym rested;
    }))
    room
    (subst (λ n. n ≤ deque_capacity b'.pending) (sym capacity) (subst (λ q. b.capacity ≤ deque_capacity q) (sym pending) sound.ring))

-- k items were taken
pub took_sound : (b b' : Inside) (x : PortEntry) (k : ℕ) → IsSound b → x.by.0 ≡ b.taker.0 → b.shut ≡ false → 1 ≤ k → k ≤ deque_len b.pending → x.event ≡ event.Took k → b'.taker ≡ b.taker → b'.capacity ≡ b.capacity → b'.life ≡ b.life → b'.entries.items ≡ b.entries.items ++ x ∷ [] → last_stamp_of stamp_number b.entries.items < x.stamp
    → vec_len b'.entries ≡ vec_len b.entries + 1 → vec_capacity b'.entries ≡ vec_capacity b.entries → b'.pending.items ≡ drop k b.pending.items → deque_len b'.pending + k ≡ deque_len b.pending → deque_capacity b'.pending ≡ deque_capacity b.pending
    → b'.written ≡ b.written → b'.shut ≡ b.shut → b'.rested ≡ b.rested → IsSound b'
took_sound b b' x k sound by opened some most is taker capacity life items past len held pending pending_len ring written shut rested =
    let s = state_of b.entries.items in
    let was = sound.tells in
    let within = within_limits b.taker.0 b.entries.items sound.port in
    let few : k ≤ pending_count s = let long = was.pending_len in let count = was.count in omega arith in
    sound_next b b' x sound taker capacity life items past
    (step_of b.taker.0 b.entries.items x sound.port (ap follows_making is) (subst (IsAllowed b.taker.0 x.by.0 s) (sym is) (by, was.shut ∙ opened, some, few)))
    (subst (λ e. Tells (state_after s e) b') (sym is) (record {
      capacity = was.capacity ∙ sym capacity;
      life = was.life ∙ sym life;
      count = was.count ∙ sym written;
      pending = pending ∙ ap (drop k) was.pending ∙ drop-drop k s.taken s.written;
      pending_len = (let long = was.pending_len in omega arith);
      shut = was.shut ∙ sym shut;
      rested = was.rested ∙ sym rested;
    }))
    (let shuts : one_unless b'.shut ≡ one_unless b.shut = ap one_unless shut in
    let rests : one_unless b'.rested ≡ one_unless b.rested = ap one_unless rested in
    let room = sound.entries in omega arith)
    (subst (λ n. n ≤ deque_capacity b'.pending) (sym capacity) (subst (λ n. b.capacity ≤ n) (sym ring) sound.ring))

-- the rest was taken
pub rest_sound : (b b' : Inside) (x : PortEntry) (k : ℕ) → IsSound b → x.by.0 ≡ b.taker.0 → b.shut ≡ true → b.rested ≡ false → k ≡ deque_len b.pending → x.event ≡ event.Rest k → b'.taker ≡ b.taker → b'.capacity ≡ b.capacity → b'.life ≡ b.life → b'.entries.items ≡ b.entries.items ++ x ∷ [] → last_stamp_of stamp_number b.entries.items < x.stamp
    → vec_len b'.entries ≡ vec_len b.entries + 1 → vec_capacity b'.entries ≡ vec_capacity b.entries → b'.pending.items ≡ drop k b.pending.items → deque_len b'.pending + k ≡ deque_len b.pending → deque_capacity b'.pending ≡ deque_capacity b.pending
    → b'.written ≡ b.written → b'.shut ≡ b.shut → b'.rested ≡ true → IsSound b'
rest_sound b b' x k sound by closed unrested all is taker capacity life items past len held pending pending_len ring written shut rested =
    let s = state_of b.entries.items in
    let was = sound.tells in
    let within = within_limits b.taker.0 b.entries.items sound.port in
    let whole : k ≡ pending_count s = let long = was.pending_len in let count = was.count in omega arith in
    let to_end : s.taken + k ≡ length s.written = let long = was.pending_len in let count = was.count in omega arith in
    sound_next b b' x sound taker capacity life items past
    (step_of b.taker.0 b.entries.items x sound.port (ap follows_making is) (subst (IsAllowed b.taker.0 x.by.0 s) (sym is) (by, was.shut ∙ closed, was.rested ∙ unrested, whole)))
    (subst (λ e. Tells (state_after s e) b') (sym is) (record {
      capacity = was.capacity ∙ sym capacity;
      life = was.life ∙ sym life;
      count = was.count ∙ sym written;
      pending = pending ∙ ap (drop k) was.pending ∙ drop-drop k s.taken s.written ∙ ap (λ n. drop n s.written) to_end;
      pending_len = (let count = was.count in omega arith);
      shut = was.shut ∙ sym shut;
      rested = sym rested;
    }))
    (let shuts : one_unless b'.shut ≡ one_unless b.shut = ap one_unless shut in
    let after : one_unless b'.rested ≡ 0 = ap one_unless rested in
    let before : one_unless b.rested ≡ 1 = ap one_unless unrested in
    let room = sound.entries in omega arith)
    (subst (λ n. n ≤ deque_capacity b'.pending) (sym capacity) (subst (λ n. b.capacity ≤ n) (sym ring) sound.ring))

-- ---- what was handed out
pub took_items : (s : PortState) (k : ℕ) → numbered s.taken (take k (drop s.taken s.written)) ≡ last_taken k (state_after s (event.Took k))
took_items s k =
    let back : s.taken + k - k ≡ s.taken = omega arith in
    ap (numbered s.taken) (sym (drop-take s.taken k s.written)) ∙ ap (λ n. numbered n (drop n (take (s.taken + k) s.written))) (sym back)

pub rest_items : (s : PortState) (k : ℕ) → k ≡ pending_count s → s.taken ≤ length s.written → numbered s.taken (take k (drop s.taken s.written)) ≡ last_taken k (state_after s (event.Rest k))
rest_items s k all within =
    let back : length s.written - k ≡ s.taken = omega arith in
    let to_end : s.taken + k ≡ length s.written = omega arith in
    ap (numbered s.taken) (sym (drop-take s.taken k s.written)) ∙ ap (λ n. numbered s.taken (drop s.taken (take n s.written))) to_end ∙ ap (λ n. numbered n (drop n (take (length s.written) s.written))) (sym back)

-- what a take hands out is what was taken last
pub handed_took : (b : Inside) (x : PortEntry) (first k : ℕ) (items : List PortEntry) → IsSound b → first ≡ (state_of b.entries.items).taken → items ≡ b.entries.items ++ x ∷ [] → x.event ≡ event.Took k → numbered first (take k b.pending.items) ≡ last_taken k (state_of items)
handed_took b x first k items sound oldest after is =
    let s = state_of b.entries.items in
    (λ i. numbered (oldest i) (take k (sound.tells.pending i))) ∙ took_items s k
    ∙ ap (last_taken k) (sym (ap state_of after ∙ state_of-push b.entries.items x ∙ ap (state_after s) is))

pub handed_rest : (b : Inside) (x : PortEntry) (first k : ℕ) (items : List PortEntry) → IsSound b → first ≡ (state_of b.entries.items).taken → k ≡ pending_count (state_of b.entries.items) → items ≡ b.entries.items ++ x ∷ [] → x.event ≡ event.Rest k → numbered first (take k b.pending.items) ≡ last_taken k (state_of items)
handed_rest b x first k items sound oldest all after is =
    let s = state_of b.entries.items in
    (λ i. numbered (oldest i) (take k (sound.tells.pending i))) ∙ rest_items s k all (within_limits b.taker.0 b.entries.items sound.port).taken
    ∙ ap (last_taken k) (sym (ap state_of after ∙ state_of-push b.entries.items x ∙ ap (state_after s) is))

-- how many a take takes
pub some_taken : (b : Inside) (most count n : ℕ) → IsSound b → n ≡ pending_count (state_of b.entries.items) → 0 < n → 0 < most → count ≡ min most n → (1 ≤ count) × (count ≤ deque_len b.pending)
some_taken b most count n sound all some least is =
    let few = few_pending b sound in
    let len = few.0 in
    (omega arith, omega arith)

-- how many are left behind it
pub left_behind : (b : Inside) (x : PortEntry) (k : ℕ) (items : List PortEntry) → IsSound b → k ≤ deque_len b.pending → items ≡ b.entries.items ++ x ∷ [] → x.event ≡ event.Took k → pending_count (state_of b.entries.items) ≡ k + pending_count (state_of items)
left_behind b x k items sound most after is =
    let s = state_of b.entries.items in
    let few = (few_pending b sound).0 in
    let within = (within_limits b.taker.0 b.entries.items sound.port).taken in
    let step : pending_count s ≡ k + pending_count (state_after s (event.Took k)) = omega arith in
    step ∙ ap (λ t. k + pending_count t) (sym (ap state_of after ∙ state_of-push b.entries.items x ∙ ap (state_after s) is))
