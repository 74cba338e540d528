-- A run goes on, call after call.
use Rattle.std.proofs.Common.{◌≡◌, ℕ, zero, suc, ◌+◌, ◌<◌, List, length, ◌∷◌, ◌++◌, Some, refl, ap, sym, subst, [], ◌∙◌, arith, append-nil, length-append}
use Rattle.std.specs.Prelude.{get_or, option_map, set, slice_get, unwrap_or}
use Rattle.ak_base.specs.Thread.{main_thread}
use Rattle.ak_turn.specs.Entries.{StartsWith}
use Rattle.ak_turn.specs.Noted.{noted}
use Rattle.ak_turn.proofs.Surface.{starts_then_starts}
use Rattle.ak_roster.specs.declared.entry.EntryWithObjects.{EntryWithObjects}
use Rattle.ak_roster.specs.declared.head.AppHead.{AppHead}
use Rattle.ak_roster.specs.Roster.{plain_entries}
use Rattle.ak_port.specs.declared.port_entry.PortEntry.{PortEntry}
use Rattle.ak_desk.specs.Entry.{EntryData}
use Rattle.ak_desk.specs.Shared as at_desks
use Rattle.ak_looper.specs.Rosters.{Object, RosterSeat, plain_of}
use Rattle.ak_gather.specs.declared.member.Member.{Member}
use Rattle.ak_run.specs.declared.run.Run.{Run}
use Rattle.ak_looper.specs.Counting.{started_by_main}
use Rattle.ak_run.specs.Doing.{IsQuietAtDesks, desk_front}
use Rattle.ak_run.specs.Recording.{HasRecord, Records, RecordsBeside, fronts_of, fronts_with}
use Rattle.ak_gather.specs.Members.{member_desk_front}
use Rattle.ak_run.specs.Running.{IsRunning, KeepsRest, Stands}
use Rattle.ak_run.specs.Starting.{GoesOn, GoesOnWith}
use Rattle.ak_run.proofs.Recorded.{beside_then, record_on}
use Rattle.ak_run.proofs.RosterTurn.{RosterOn}
use Rattle.ak_team.proofs.Surface.{plain-append}
use Rattle.ak_run.proofs.Standing.{BookOn, SameLoopers, stands_on}
use Rattle.ak_gather.proofs.Surface.{some_same}

-- the place of the last of a list
pub last_of : {L : Type 0} (front before : List L) (x : L) (place : ℕ) → front ≡ before ++ x ∷ [] → length front ≡ place + 1 → place ≡ length before
last_of front before x place is seen = omega (arith, ap length is, length-append before (x ∷ []), seen)

-- ---- the desks
pub desks_then : (r s t : Run) → IsQuietAtDesks r s → IsQuietAtDesks s t → IsQuietAtDesks r t
desks_then r s t one two = record {
  on = λ looper. starts_then_starts (desk_front r looper) (desk_front s looper) (desk_front t looper) (one.on looper) (two.on looper);
  same = λ looper. two.same looper ∙ one.same looper;
}

-- what a desk's list goes on from itself
pub same_list : {L : Type 0} (xs ys : List L) → ys ≡ xs → StartsWith ys xs
same_list xs ys same = ([], same ∙ sym (append-nil xs))

abbrev pub desk_in : List Member → ℕ → List EntryData
desk_in ms looper = unwrap_or (option_map member_desk_front (slice_get ms looper)) []

quiet_by : (r r' : Run) → ((looper : ℕ) → desk_front r' looper ≡ desk_front r looper) → IsQuietAtDesks r r'
quiet_by r r' fronts = record {
  on = λ looper. same_list (desk_front r looper) (desk_front r' looper) (fronts looper);
  same = λ looper. ap (noted at_desks.by_number main_thread) (fronts looper);
}

pub same_desks : (r r' : Run) → r'.members ≡ r.members → IsQuietAtDesks r r'
same_desks r r' same = quiet_by r r' (λ looper. ap (λ v. desk_in v.items looper) same)

-- one of them was put in its place
set_desk : (ms : List Member) (place : ℕ) (m x : Member) (looper : ℕ) → place < length ms → get_or ms place m ≡ m → member_desk_front x ≡ member_desk_front m → desk_in (set ms place x) looper ≡ desk_in ms looper
set_desk [] place m x looper within is front = absurd (omega (arith, within))
set_desk (y ∷ ms) zero m x zero within is front = front ∙ ap member_desk_front (sym is)
set_desk (y ∷ ms) zero m x (suc looper) within is front = refl
set_desk (y ∷ ms) (suc place) m x zero within is front = refl
set_desk (y ∷ ms) (suc place) m x (suc looper) within is front = set_desk ms place m x looper (omega (arith, within)) is front

pub set_desks : (r r' : Run) (place : ℕ) (m x : Member) → place < length r.members.items → get_or r.members.items place m ≡ m → r'.members.items ≡ set r.members.items place x → member_desk_front x ≡ member_desk_front m → IsQuietAtDesks r r'
set_desks r r' place m x within there is front = quiet_by r r' (λ looper. ap (λ (ms : List Member). desk_in ms looper) is ∙ set_desk r.members.items place m x looper within there front)

-- one more was put behind the others, whose desk nobody had used
push_desk : (ms : List Member) (x : Member) (looper : ℕ) → member_desk_front x ≡ [] → desk_in (ms ++ x ∷ []) looper ≡ desk_in ms looper
push_desk [] x zero none = none
push_desk [] x (suc looper) none = refl
push_desk (y ∷ ms) x zero none = refl
push_desk (y ∷ ms) x (suc looper) none = push_desk ms x looper none

pub push_desks : (r r' : Run) (x : Member) → r'.members.items ≡ r.members.items ++ x ∷ [] → member_desk_front x ≡ [] → IsQuietAtDesks r r'
push_desks r r' x is none = quiet_by r r' (λ looper. ap (λ (ms : List Member). desk_in ms looper) is ∙ push_desk r.members.items x looper none)

-- ---- calls
-- one call after another
pub goes_then_goes : (r s t : Run) → GoesOn r s → GoesOn s t → GoesOn r t
goes_then_goes r s t a b = record {
  stands = λ next heads k. b.stands next heads (a.stands next heads k);
  started = λ next heads k. b.started next heads (a.stands next heads k) ∙ a.started next heads k;
  count = b.count ∙ a.count;
  on = starts_then_starts r.roster_seat.front s.roster_seat.front t.roster_seat.front a.on b.on;
  shared = b.shared ∙ a.shared;
  apps = b.apps ∙ a.apps;
  slots = b.slots ∙ a.slots;
  recorded = beside_then r s t a.recorded b.recorded;
  desks_on = desks_then r s t a.desks_on b.desks_on;
}

pub with_then_with : (m n : ℕ) (r s t : Run) → GoesOnWith m r s → GoesOnWith n s t → GoesOnWith (m + n) r t
with_then_with m n r s t a b = record {
  stands = λ heads k. b.stands heads (a.stands heads k);
  started = λ heads k. b.started heads (a.stands heads k) ∙ a.started heads k;
  count = omega (arith, a.count, b.count);
  on = starts_then_starts r.roster_seat.front s.roster_seat.front t.roster_seat.front a.on b.on;
  shared = b.shared ∙ a.shared;
  apps = b.apps ∙ a.apps;
  slots = b.slots ∙ a.slots;
  desks_on = desks_then r s t a.desks_on b.desks_on;
}

-- a call that starts no looper
pub goes_by : (r r' : Run) (roster_heads : List AppHead) → KeepsRest r r' → r.roster_seat.opening ≡ Some roster_heads → RosterOn roster_heads 0 r.roster_seat r'.roster_seat → BookOn r r'
    → ((next : ℕ) (heads : List AppHead) → Stands next heads r → SameLoopers heads r r') → length r'.members.items ≡ length r.members.items → RecordsBeside r r' → r'.members ≡ r.members → GoesOn r r'
goes_by r r' roster_heads keeps opening roster book same count recorded members =
    let roster_so : (next : ℕ) (heads : List AppHead) → Stands next heads r → RosterOn heads 0 r.roster_seat r'.roster_seat =
    λ next heads k. subst (λ h. RosterOn h 0 r.roster_seat r'.roster_seat) (some_same roster_heads heads (sym opening ∙ k.opening)) roster in
    record {
      stands = λ next heads k. stands_on next heads 0 r r' keeps (roster_so next heads k) book (same next heads k) k;
      started = λ next heads k. (roster_so next heads k).started ∙ nothing_more (started_by_main heads r.roster_seat);
      count = count;
      on = roster.on;
      shared = keeps.shared;
      apps = keeps.apps;
      slots = keeps.slots;
      recorded = recorded;
      desks_on = same_desks r r' members;
    }
  where
    nothing_more : (n : ℕ) → n + 0 ≡ n
    nothing_more n = omega arith

-- a call that leaves the roster alone
pub goes_beside : (r r' : Run) → KeepsRest r r' → ((heads : List AppHead) → (next : ℕ) → Stands next heads r → RosterOn heads 0 r.roster_seat r'.roster_seat) → StartsWith r'.roster_seat.front r.roster_seat.front → BookOn r r'
    → ((next : ℕ) (heads : List AppHead) → Stands next heads r → SameLoopers heads r r') → length r'.members.items ≡ length r.members.items → RecordsBeside r r' → IsQuietAtDesks r r' → GoesOn r r'
goes_beside r r' keeps roster on book same count recorded desks = record {
  stands = λ next heads k. stands_on next heads 0 r r' keeps (roster heads next k) book (same next heads k) k;
  started = λ next heads k. (roster heads next k).started ∙ nothing_more (started_by_main heads r.roster_seat);
  count = count;
  on = on;
  shared = keeps.shared;
  apps = keeps.apps;
  slots = keeps.slots;
  recorded = recorded;
  desks_on = desks;
}
  where
    nothing_more : (n : ℕ) → n + 0 ≡ n
    nothing_more n = omega arith

-- a run goes on running
pub still_running : (r r' : Run) → GoesOn r r' → IsRunning r → IsRunning r'
still_running r r' goes is =
    let here = length r.members.items in
    record {
      heads = is.heads;
      stands = subst (λ n. Stands n is.heads r') (sym goes.count) (goes.stands here is.heads is.stands);
      all = goes.started here is.heads is.stands ∙ is.all ∙ sym goes.count;
      recorded = record_on is.heads (fronts_of r) (fronts_of r') (desk_front r) (desk_front r') (goes.recorded []) goes.desks_on.same is.recorded;
    }

-- once all loopers that were launched have started, the run runs
pub all_run : (n : ℕ) (r s : Run) (heads : List AppHead) (new : List (List PortEntry)) → Stands (length r.members.items) heads r → started_by_main heads r.roster_seat ≡ length r.members.items + n → HasRecord heads (fronts_with r new) (desk_front r) → GoesOnWith n r s
    → Records (fronts_with r new) (fronts_of s) → IsRunning s
all_run n r s heads new stands started has goes more = record {
  heads = heads;
  stands = goes.stands heads stands;
  all = goes.started heads stands ∙ started ∙ sym goes.count;
  recorded = record_on heads (fronts_with r new) (fronts_of s) (desk_front r) (desk_front s) more goes.desks_on.same has;
}

-- ---- what main made before stands
pub plain_on : (seat seat' : RosterSeat) → StartsWith seat'.front seat.front → StartsWith (plain_of seat') (plain_of seat)
plain_on seat seat' on = (plain_entries on.0, ap (λ (l : List (EntryWithObjects Object)). plain_entries l) on.1 ∙ plain-append seat.front on.0)
