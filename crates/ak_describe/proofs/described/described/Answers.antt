-- The next one is the first of those that are left.
use Rattle.std.proofs.Common.{◌≡◌, [], ◌∷◌, ◌++◌, All, arith}
use Rattle.std.proofs.lemmas.Grind.{common_steps}
use Rattle.ak_describe.specs.Described.{IsWhole, app_text}
use Rattle.ak_describe.specs.Parts.{AppData}
use Rattle.ak_describe.specs.Seen.{app_data}
use Rattle.ak_describe.proofs.ground.Lists.{one_more, first_of_all, rest_of_all}
use Rattle.ak_describe.proofs.described.described.Goals as goal

abbrev AllWhole : AppData → Type 0
AllWhole a = All IsWhole a.loopers

pub app_text-requires : goal.app_text-requires
app_text-requires c =
    let next : c.loop-app.app-iterator.rest.items ≡ c.in-Some.app ∷ c.next.new.self.rest.items = grind (arith, common_steps) in
    first_of_all AllWhole app_data c.loop-app.app-iterator.rest.items c.next.new.self.rest.items c.in-Some.app next c.loop-app.invariant.whole

pub loop-app-preserved : goal.loop-app-preserved
loop-app-preserved c =
    let next : c.loop-app.app-iterator.rest.items ≡ c.in-Some.app ∷ c.next.new.self.rest.items = grind (arith, common_steps) in
    let pushed : c.push.new.self.items ≡ c.loop-app.texts.items ++ c.in_ok-app_text.field-0 ∷ [] = grind (arith, common_steps) in
    record {
      made = one_more app_data app_text c.loop-app.texts.items c.push.new.self.items c.loop-app.app-iterator.rest.items c.next.new.self.rest.items c.in-Some.app c.in_ok-app_text.field-0 _ next pushed c.in_ok-app_text.ensures c.loop-app.invariant.made;
      whole = rest_of_all AllWhole app_data c.loop-app.app-iterator.rest.items c.next.new.self.rest.items c.in-Some.app next c.loop-app.invariant.whole;
    }
