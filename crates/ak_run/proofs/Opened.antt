-- At the end each looper's desk is the one that was opened as its plan says.
use Rattle.std.proofs.Common.{◌≡◌, ℕ, ◌<◌, List, [], ◌∷◌, ◌++◌, length, map, All, Any, Some, option_map, sym, ap, ◌∙◌, subst}
use Rattle.std.specs.Prelude.{slice_get}
use Rattle.std.specs.List.{range_with_len}
use Rattle.std.proofs.lemmas.List.{length-map, map-append}
use Rattle.std.proofs.lemmas.List.Quantifiers.{Any-push}
use Rattle.std.proofs.lemmas.Option.{slice_get-map}
use Rattle.ak_base.specs.Thread.{looper_thread}
use Rattle.ak_base.specs.declared.app_word.AppWord.{AppWord}
use Rattle.ak_base.specs.declared.thread.ThreadId.{ThreadId}
use Rattle.ak_roster.specs.declared.entry.EntryWithObjects.{EntryWithObjects}
use Rattle.ak_roster.specs.declared.entry.LaunchOutcome.TheVariants as outcome
use Rattle.ak_roster.specs.declared.entry.RosterEvent.TheVariants as event
use Rattle.ak_roster.specs.declared.head.AppHead.{AppHead}
use Rattle.ak_roster.specs.Roster.{plain_entries}
use Rattle.ak_port.specs.ReplySeats.{ReplySeat}
use Rattle.ak_action.specs.declared.state.DeskState.{DeskState}
use Rattle.ak_action.specs.Opening.{Opens}
use Rattle.ak_describe.specs.Whole.{looper_names}
use Rattle.ak_diary.specs.declared.histories.Histories.{Histories}
use Rattle.ak_looper.specs.declared.job.LooperJob.{LooperJob}
use Rattle.ak_looper.specs.Rosters.{Object, RosterSeat, plain_of}
use Rattle.ak_gather.specs.declared.gathering.Joined.{Joined}
use Rattle.ak_gather.specs.declared.member.Member.{Member}
use Rattle.ak_run.specs.declared.run.Run.{Run}
use Rattle.ak_run.specs.Ending.{EndsAs}
use Rattle.ak_gather.specs.Gathering.{AreBooksOf, AreGaining, IsGaining, IsJoined}
use Rattle.ak_team.specs.Launching.{Book, HasEntered}
use Rattle.ak_team.specs.Jobs.{IsLaunchOf}
use Rattle.ak_run.specs.Opened.{WasOpened, WereOpened}
use Rattle.ak_gather.specs.Members.{IsMember}
use Rattle.ak_run.specs.Running.{IsOpenedAs, Stands}
use Rattle.ak_run.proofs.GoingOn.{plain_on}
use Rattle.ak_gather.proofs.Surface.{some_same, books_at, number_at, all_at, at_place, some_and}
use Rattle.ak_run.proofs.Recorded.{one_event}
use Rattle.ak_run.proofs.TeamStarts.{any_on}

-- a launch that main entered is one that its seat has seen
pub launch_seen : (word : AppWord) (description team first n : ℕ) (book book' : Book) (seat : RosterSeat) → HasEntered (Some (event.Launch word (outcome.Started description team first))) n book book' → seat.front ≡ book'.entries
    → Any (IsLaunchOf description team first) (plain_of seat)
launch_seen word description team first n book book' seat entered whole =
    let P = IsLaunchOf description team first in
    let plain = λ (entry : EntryWithObjects Object). entry.plain in
    let x = one_event (event.Launch word (outcome.Started description team first)) entered.added entered.events in
    let is : plain_of seat ≡ plain_entries book.entries ++ x.0.plain ∷ [] =
    ap (λ (l : List (EntryWithObjects Object)). plain_entries l) (whole ∙ entered.entries ∙ ap (λ l. book.entries ++ l) x.1) ∙ map-append plain book.entries (x.0 ∷ []) in
    subst (Any P) (sym is) (Any-push P (plain_entries book.entries) x.0.plain (word, x.2))

-- what stands at the same place in lists of which the same is told
told_there : {X Y Z : Type 0} (f : X → Z) (g : Y → Z) (xs : List X) (ys : List Y) (k : ℕ) (x : X) (y : Y) → map f xs ≡ map g ys → slice_get xs k ≡ Some x → slice_get ys k ≡ Some y → f x ≡ g y
told_there f g xs ys k x y same there here =
    some_same (f x) (g y) (sym (ap (option_map f) there) ∙ sym (slice_get-map f xs k) ∙ ap (λ l. slice_get l k) same ∙ slice_get-map g ys k ∙ ap (option_map g) here)

-- all threads were joined, and the ports and desks kept
module _ (r : Run) (heads : List AppHead) (stands : Stands (length r.members.items) heads r) (main : RosterSeat) (at_book : ReplySeat) (js last : List Joined) (h : Histories)
    (joined : All (IsJoined heads main at_book) js) (jobs : map (λ (j : Joined). j.job.value) js ≡ map (λ (m : Member). m.job.value) r.members.items) (numbers : map (λ (j : Joined). j.number) js ≡ range_with_len 0 (length js))
    (gains : AreGaining js last) (kept : AreBooksOf last h.ports.items h.desks.items) (ends : EndsAs r h) where
  abbrev ms : List Member
  ms = r.members.items

  as_many : length js ≡ length ms
  as_many = sym (length-map js (λ (j : Joined). j.job.value)) ∙ ap (λ (l : List LooperJob). length l) jobs ∙ length-map ms (λ (m : Member). m.job.value)

  one : (k : ℕ) (j : Joined) (m : Member) → slice_get js k ≡ Some j → slice_get ms k ≡ Some m → WasOpened r.apps.items h k
  one k j m there here =
      let is = all_at (IsJoined heads main at_book) js k j joined there in
      let was = all_at (IsMember heads r.shared r.roster_seat) ms k m stands.each here in
      let opened = all_at (IsOpenedAs r.apps.items) ms k m stands.opened here in
      let o = opened.opens in
      let job : j.job.value ≡ m.job.value = told_there (λ (x : Joined). x.job.value) (λ (x : Member). x.job.value) js ms k j m jobs there here in
      let now = some_and (IsGaining j) (slice_get last k) (gains.each k j there) in
      let own = books_at last h.ports.items h.desks.items k now.0 kept now.1 in
      let number : m.number ≡ k = sym was.number ∙ ap (λ (x : LooperJob). x.number) (sym job) ∙ is.number ∙ number_at js k j numbers there in
      let taker : is.taker ≡ own.port.taker = some_same is.taker own.port.taker (sym is.port_opening ∙ sym now.2.port.opening ∙ own.port_is.opening) in
      let desk : opened.desk ≡ own.desk.opening =
      some_same opened.desk own.desk.opening (sym opened.desk_is ∙ ap (λ (x : LooperJob). x.own.desk_seat.opening) (sym job) ∙ is.job_desk ∙ sym is.desk_opening ∙ sym now.2.desk.opening ∙ own.desk_is.opening) in
      let team = m.job.value.team in
      let first = m.job.value.first in
      let P = IsLaunchOf o.description team first in
      record {
        description = o.description;
        team = team;
        first = first;
        launched = any_on P (plain_of r.roster_seat) h.roster.items ends.roster (any_on P (plain_of m.job.value.roster_seat) (plain_of r.roster_seat) (plain_on m.job.value.roster_seat r.roster_seat was.seen) o.launched);
        app = o.app;
        app_is = o.there;
        place = o.place;
        number_is = sym number ∙ o.number_is;
        plan = o.plan;
        plan_is = o.plan_is;
        desk = own.desk;
        desk_is = own.desk_there;
        opens = subst (λ (n : ℕ). Opens o.plan n team first (looper_names o.app) own.desk.opening) number (subst (λ (s : DeskState). Opens o.plan m.number team first (looper_names o.app) s) desk o.opens);
        port = own.port;
        port_is = own.port_there;
        taker_is = ap (λ (t : ThreadId). t.0) (sym taker) ∙ is.taker_is ∙ ap looper_thread (number_at js k j numbers there);
      }

  pub were_opened : WereOpened r.apps.items h
  were_opened k low =
      let within : k < length ms = subst (λ (n : ℕ). k < n) ends.loopers low in
      let m = at_place ms k within in
      let j = at_place js k (subst (λ (n : ℕ). k < n) (sym as_many) within) in
      one k j.0 m.0 j.1 m.1
