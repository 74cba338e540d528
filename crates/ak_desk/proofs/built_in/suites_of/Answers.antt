-- The suites stand one behind the other.
use Rattle.std.proofs.Common.{◌≡◌, ◌≤◌, ℕ, true, false, List, length, take, codes, subst, sym, ◌∙◌, arith}
use Rattle.ak_desk.specs.Place.{is_own}
use Rattle.ak_desk.proofs.Suites.{of_application, of_looper, pushed_as, pushed_len}
use Rattle.ak_desk.proofs.built_in.suites_of.Goals as goal

pub returns-then-not-is_own-clause-suites : goal.returns-then-not-is_own-clause-suites
returns-then-not-is_own-clause-suites c =
    let own : is_own c.args.state.now ≡ false = sym c.is_own.ensures ∙ c.if-not-is_own.true in
    let suites : c.in_ok-suites.suites.items ≡ take 16 c.args.row.now.suites = c.in_ok-suites.ensures ∙ c.first_suites.ensures.suites in
    let first = pushed_as _ c.push.new.self.items (take 16 c.args.row.now.suites) _ (codes "suite/vnd.Be-handler") c.in_ok-push.ensures.items suites c.in_ok-text.ensures in
    let all = pushed_as _ c.push-2.new.self.items _ _ (codes "suite/vnd.Be-looper") c.in_ok-push-2.ensures.items first c.in_ok-text-2.ensures in
    of_looper c.args.state.now c.args.token c.args.row.now c.requires c.if-token-ne-LOOPER.false c.push-2.new.self.items own all

pub returns-clause-suites : goal.returns-clause-suites
returns-clause-suites c =
    let own : is_own c.args.state.now ≡ true = sym c.is_own.ensures ∙ c.if-not-is_own.false in
    let suites : c.in_ok-suites.suites.items ≡ take 16 c.args.row.now.suites = c.in_ok-suites.ensures ∙ c.first_suites.ensures.suites in
    let first = pushed_as _ c.push.new.self.items (take 16 c.args.row.now.suites) _ (codes "suite/vnd.Be-handler") c.in_ok-push.ensures.items suites c.in_ok-text.ensures in
    let second = pushed_as _ c.push-2.new.self.items _ _ (codes "suite/vnd.Be-looper") c.in_ok-push-2.ensures.items first c.in_ok-text-2.ensures in
    let all = pushed_as _ c.push-3.new.self.items _ _ (codes "suite/vnd.Be-application") c.in_ok-push-3.ensures.items second c.in_ok-text-3.ensures in
    of_application c.args.state.now c.args.token c.args.row.now c.requires c.if-token-ne-LOOPER.false c.push-3.new.self.items own all

pub returns-clause-some : goal.returns-clause-some
returns-clause-some c = omega (arith, pushed_len _ c.push-3.new.self.items _ c.in_ok-push-3.ensures.items)

pub returns-clause-limit : goal.returns-clause-limit
returns-clause-limit c =
    let least : length c.in_ok-suites.suites.items ≤ 16 = subst (λ (l : List (List ℕ)). length l ≤ 16) (sym c.in_ok-suites.ensures) c.first_suites.ensures.limit in
    let first = pushed_len _ c.push.new.self.items _ c.in_ok-push.ensures.items in
    let second = pushed_len _ c.push-2.new.self.items _ c.in_ok-push-2.ensures.items in
    let third = pushed_len _ c.push-3.new.self.items _ c.in_ok-push-3.ensures.items in
    omega (arith, least, first, second, third)

pub returns-then-not-is_own-clause-some : goal.returns-then-not-is_own-clause-some
returns-then-not-is_own-clause-some c = omega (arith, pushed_len _ c.push-2.new.self.items _ c.in_ok-push-2.ensures.items)

pub returns-then-not-is_own-clause-limit : goal.returns-then-not-is_own-clause-limit
returns-then-not-is_own-clause-limit c =
    let least : length c.in_ok-suites.suites.items ≤ 16 = subst (λ (l : List (List ℕ)). length l ≤ 16) (sym c.in_ok-suites.ensures) c.first_suites.ensures.limit in
    let first = pushed_len _ c.push.new.self.items _ c.in_ok-push.ensures.items in
    let second = pushed_len _ c.push-2.new.self.items _ c.in_ok-push-2.ensures.items in
    omega (arith, least, first, second)

pub returns-then-token-ne-LOOPER-clause-some : goal.returns-then-token-ne-LOOPER-clause-some
returns-then-token-ne-LOOPER-clause-some c = omega (arith, pushed_len _ c.push.new.self.items _ c.in_ok-push.ensures.items)

pub returns-then-token-ne-LOOPER-clause-limit : goal.returns-then-token-ne-LOOPER-clause-limit
returns-then-token-ne-LOOPER-clause-limit c =
    let least : length c.in_ok-suites.suites.items ≤ 16 = subst (λ (l : List (List ℕ)). length l ≤ 16) (sym c.in_ok-suites.ensures) c.first_suites.ensures.limit in
    omega (arith, least, pushed_len _ c.push.new.self.items _ c.in_ok-push.ensures.items)
