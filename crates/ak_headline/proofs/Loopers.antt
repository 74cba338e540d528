-- The loopers of a run, one after another: their ports and desks, and what the diaries tell of them.
use Rattle.std.proofs.Common.{◌≡◌, ℕ, zero, suc, ◌+◌, List, [], ◌∷◌, length, Some, option_map, slice_get, unwrap_or, refl, sym, ap, ◌∙◌, subst, arith}
use Rattle.std.proofs.lemmas.Option.{slice_get_within}
use Rattle.ak_roster.specs.declared.head.AppHead.{AppHead}
use Rattle.ak_port.specs.declared.port_entry.PortEntry.{PortEntry}
use Rattle.ak_port.specs.PortCalls.{PortData}
use Rattle.ak_desk.specs.Desk.{DeskData}
use Rattle.ak_desk.specs.Entry.{EntryData}
use Rattle.ak_diary.specs.declared.histories.Histories.{Histories}
use Rattle.ak_diary.specs.Laws.{AcceptedIsDispatchedThenLeft, EachIsDispatchedByRule, IsAccountedFor, IsDispatchedSo}
use Rattle.ak_headline.specs.Headline.{Each, IsAccounted, IsByRule, RunsAreAccounted, RunsGoByRule}
use Rattle.ak_headline.specs.Run.{HasLooper, desk_list, port_list}

-- what holds of the port and the desk at each place holds of each
module _ (P : ℕ → PortData → DeskData → Type 0) where
  pub each_at : (n : ℕ) (ports : List PortData) (desks : List DeskData) → length desks ≡ length ports
      → ((k : ℕ) (port : PortData) (desk : DeskData) → slice_get ports k ≡ Some port → slice_get desks k ≡ Some desk → P (n + k) port desk) → Each P n ports desks
  each_at n [] [] long tells = tt
  each_at n (port ∷ ports) (desk ∷ desks) long tells =
      let here : n + 0 ≡ n = omega arith in (
        subst (λ (m : ℕ). P m port desk) here (tells zero port desk refl refl),
        each_at (suc n) ports desks (omega (arith, long))
            (λ k p d at_port at_desk. let on : n + suc k ≡ suc n + k = omega arith in subst (λ (m : ℕ). P m p d) on (tells (suc k) p d at_port at_desk)),
      )
  each_at n [] (desk ∷ desks) long tells = absurd (omega (arith, long))
  each_at n (port ∷ ports) [] long tells = absurd (omega (arith, long))

-- ---- the lists at a place
module _ (h : Histories) (k : ℕ) where
  pub port_there : (port : PortData) → slice_get h.ports.items k ≡ Some port → port_list h k ≡ port.entries
  port_there port at = ap (λ o. unwrap_or (option_map (λ (p : PortData). p.entries) o) []) at

  pub desk_there : (desk : DeskData) → slice_get h.desks.items k ≡ Some desk → desk_list h k ≡ desk.entries
  desk_there desk at = ap (λ o. unwrap_or (option_map (λ (d : DeskData). d.entries) o) []) at

-- ---- the two laws, of one looper
module _ (heads : List AppHead) (short : List ℕ) (h : Histories) (k : ℕ) (has : HasLooper heads short h k) (port : PortData) (desk : DeskData) (at_port : slice_get h.ports.items k ≡ Some port)
    (at_desk : slice_get h.desks.items k ≡ Some desk) where
  ports_are : port_list h k ≡ port.entries
  ports_are = port_there h k port at_port

  desks_are : desk_list h k ≡ desk.entries
  desks_are = desk_there h k desk at_desk

  opened_is : has.facts.desk ≡ desk.opening
  opened_is = let both : Some desk.opening ≡ Some has.facts.desk = sym (ap (λ o. option_map (λ (d : DeskData). d.opening) o) at_desk) ∙ has.opened in cc both

  one_accounted : AcceptedIsDispatchedThenLeft → IsAccounted k port desk
  one_accounted law = (
    has.facts,
    has.steps,
    has.diary.legal,
    has.number_is,
    subst (λ (entries : List EntryData). IsAccountedFor has.facts has.steps has.diary.legal port.entries entries) desks_are
        (subst (λ (entries : List PortEntry). IsAccountedFor has.facts has.steps has.diary.legal entries (desk_list h k)) ports_are (law has.facts has.steps (port_list h k) (desk_list h k) has.diary)),
  )

  one_by_rule : EachIsDispatchedByRule → IsByRule k port desk
  one_by_rule law = (
    has.facts,
    has.number_is,
    opened_is,
    λ before entry behind position r words quit there is.
        subst (λ (entries : List PortEntry). IsDispatchedSo has.facts entries before entry position r words quit) ports_are
        (law has.facts has.steps (port_list h k) (desk_list h k) has.diary before entry behind position r words quit (desks_are ∙ there) is),
  )

-- ---- of all
pub runs_are_accounted : AcceptedIsDispatchedThenLeft → RunsAreAccounted
runs_are_accounted law sessions heads short h run =
    each_at IsAccounted 0 h.ports.items h.desks.items run.histories.each
    (λ k port desk at_port at_desk.
    let same : k ≡ 0 + k = omega arith in
    subst (λ (m : ℕ). IsAccounted m port desk) same (one_accounted heads short h k (run.loopers k (slice_get_within h.ports.items k port at_port)) port desk at_port at_desk law))

pub runs_go_by_rule : EachIsDispatchedByRule → RunsGoByRule
runs_go_by_rule law sessions heads short h run =
    each_at IsByRule 0 h.ports.items h.desks.items run.histories.each
    (λ k port desk at_port at_desk.
    let same : k ≡ 0 + k = omega arith in
    subst (λ (m : ℕ). IsByRule m port desk) same (one_by_rule heads short h k (run.loopers k (slice_get_within h.ports.items k port at_port)) port desk at_port at_desk law))
