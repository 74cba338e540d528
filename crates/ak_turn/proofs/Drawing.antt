-- A seat draws a ticket.
use Rattle.std.proofs.Common.{◌≡◌, ◌≢◌, ℕ, ◌+◌, ◌%◌, ◌^◌, List, [], ◌∷◌, ◌++◌, length, get_or, set, Contains, sym, refl, ap, ◌∙◌, subst, ⊎_elim, arith, length-append}
use Rattle.std.specs.Prelude.{Option}
use Rattle.std.proofs.lemmas.List.Elements.{All-push}
use mathlib.Core.Option.{none, some}
use lib.ListN.{get_elem?}
use Rattle.atomic_table.specs.Table.{State, step, keeps, Allows}
use Rattle.atomic_table.proofs.Lists.{at_longer, at_last}
use Rattle.ak_turn.specs.declared.view.Stage.{Stage}
use Rattle.ak_turn.specs.declared.view.Stage.TheVariants.{Idle, Waits, HasTurn, Spent}
use Rattle.ak_turn.specs.declared.view.Part.{Part}
use Rattle.ak_turn.specs.declared.view.View.{View}
use Rattle.ak_turn.specs.Rule.{World, Absent, IsTimely, IsLive, Fits, Holds, Kept}
use Rattle.ak_turn.specs.Steps.{Sat, staged, drew}
use Rattle.ak_turn.proofs.Lists.{at_push, each_stays, distinct_push, next_number}
use Rattle.ak_turn.proofs.Seating.{not_spent_idle, two_threads}

module _ {O L : Type 0} where
  abbrev queued : World O L → ℕ → World O L
  queued w thread = record w { queue = w.queue ++ thread ∷ [] }

  -- the others' stages fit a longer queue
  others_wait : (w : World O L) (thread : ℕ) (part : Part L) (stage : Stage) → part.thread ≢ thread → IsTimely w part stage → IsTimely (queued w thread) part stage
  others_wait w thread part Idle other away = λ k at. ⊎_elim (λ before. away k before) (λ last. other (sym last.1)) (at_push w.queue thread part.thread k at)
  others_wait w thread part (Waits ticket) other t = (t.0, t.1, at_longer w.queue (thread ∷ []) t.0 part.thread t.2, t.3)
  others_wait w thread part (HasTurn ticket) other t = (t.0, at_longer w.queue (thread ∷ []) 0 part.thread t.1, t.2, t.3)
  others_wait w thread part Spent other t = tt

module _ {B O L : Type 0} (opening : B → O) (entries : B → List L) (at_rest : B → Type 0) (by : L → ℕ) where
  abbrev St : Type 0
  St = State (Option B) (View O L)

  drawn : (w : World O L) (s : St) (id : ℕ) (v : View O L) → Holds opening entries at_rest by w s → get_elem? s.views id ≡ some v → v.stage ≡ Idle
      → Holds opening entries at_rest by (queued w v.me.thread) record { words = set s.words 0 ((get_or s.words 0 0 + 1) % 2 ^ 64); homes = s.homes; views = set s.views id (staged (Waits (w.served + length w.queue)) v) }
  drawn w s id v h at idle =
      let live : IsLive by w id v = h.seats id v at (not_spent_idle v.stage idle) in
      let away : Absent w.queue v.me.thread = subst (IsTimely w v.me) idle live.timely in
      let longer : length (w.queue ++ v.me.thread ∷ []) ≡ length w.queue + 1 = length-append w.queue (v.me.thread ∷ []) in
      let count : ((w.served + length w.queue) % 2 ^ 64 + 1) % 2 ^ 64 ≡ (w.served + length (w.queue ++ v.me.thread ∷ [])) % 2 ^ 64 =
      next_number (w.served + length w.queue) (2 ^ 64) ∙ ap (λ (x : ℕ). x % 2 ^ 64) (omega (arith, longer)) in
      record {
        words = ap (λ (ws : List ℕ). set ws 0 ((get_or ws 0 0 + 1) % 2 ^ 64)) h.words ∙ ap (λ (x : ℕ). x ∷ w.served % 2 ^ 64 ∷ length w.history % 2 ^ 64 ∷ []) count;
        slot = h.slot;
        waited = λ busy. omega (arith, longer);
        queue = distinct_push w.queue v.me.thread h.queue away;
        queued = All-push (Contains w.names) w.queue v.me.thread h.queued live.me.named;
        names = h.names;
        makers = h.makers;
        seats = each_stays (Fits by (queued w v.me.thread)) s.views id (staged (Waits (w.served + length w.queue)) v)
            (λ _. record {
              opening = live.opening;
              timely = (length w.queue, refl, at_last w.queue v.me.thread (length w.queue) refl, h.waited);
              me = live.me;
              joined = live.joined;
              apart = live.apart;
              names = live.names;
            })
            (λ j u other there alive.
            let l : IsLive by w j u = h.seats j u there alive in
            record {
              opening = l.opening;
              timely = others_wait w v.me.thread u.me u.stage (two_threads by w j id u.me v.me l.me live.me other) l.timely;
              me = l.me;
              joined = l.joined;
              apart = l.apart;
              names = l.names;
            });
      }

  pub draws : (slots id : ℕ) (m : Sat B O L) → m.0.stage ≡ Idle → m.1 ≡ [] → Allows (Kept opening entries at_rest by) slots id m 0 (λ n. (n + 1) % 2 ^ 64) (drew (step slots 0 1 0 none) m)
  draws slots id m idle empty s kept long at small =
      let w = kept.0 in
      let h = kept.1 in (
        staged (Waits (w.served + length w.queue)) m.0,
        keeps,
        tt,
        (queued w m.0.me.thread, drawn w s id m.0 h at idle),
        (w.served + length w.queue, ap (λ (ws : List ℕ). get_or ws 0 0) h.words, ap (λ c. (staged (Waits (w.served + length w.queue)) m.0, c)) empty),
      )
