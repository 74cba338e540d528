-- The command is known, so it does what its call did.
use Rattle.std.proofs.Common.{◌≡◌, refl, rules}
use Rattle.ak_message.specs.Specifier.{at_of}
use Rattle.ak_value.proofs.Refusing.{refused_by, only_by, ok_by, ok_of, get_at, set_at, count_at, create_at, no_form_at, never_ok}
use Rattle.ak_value.proofs.elements.Elements.carry_out.Goals as goal

pub returns-then-not-has_form : goal.returns-then-not-has_form
returns-then-not-has_form c =
    let same = no_form_at c.args.self.now c.args.what.0 (at_of c.args.at) c.args.m.now c.if-not-has_form.ensures in
    record { refused = refused_by _ _ same _ refl; only = never_ok _ _ _ same; ok = tt; err = refl }

pub returns-in-GET : goal.returns-in-GET
returns-in-GET c =
    let code : c.args.what.0 ≡ 0x50474554 = search rules in
    let same = get_at c.args.self.now c.args.what.0 (at_of c.args.at) c.args.m.now code in
    record {
      refused = refused_by _ _ same c.get.result c.get.ensures.refused;
      only = only_by _ _ same c.get.result _ c.get.ensures.only;
      ok = ok_by _ _ same c.get.result _ c.get.ensures.ok;
      err = search rules;
    }

pub returns-in-SET : goal.returns-in-SET
returns-in-SET c =
    let code : c.args.what.0 ≡ 0x50534554 = search rules in
    let same = set_at c.args.self.now c.args.what.0 (at_of c.args.at) c.args.m.now code in
    record {
      refused = refused_by _ _ same c.set.result c.set.ensures.refused;
      only = only_by _ _ same c.set.result _ c.set.ensures.only;
      ok = ok_by _ _ same c.set.result _ c.set.ensures.ok;
      err = c.set.ensures.err;
    }

pub returns-in-CREATE : goal.returns-in-CREATE
returns-in-CREATE c =
    let code : c.args.what.0 ≡ 0x50435254 = search rules in
    let same = create_at c.args.self.now c.args.what.0 (at_of c.args.at) c.args.m.now code c.if-not-has_form.ensures in
    record {
      refused = refused_by _ _ same c.create.result c.create.ensures.refused;
      only = only_by _ _ same c.create.result _ c.create.ensures.only;
      ok = ok_by _ _ same c.create.result _ c.create.ensures.ok;
      err = c.create.ensures.err;
    }

pub returns-in-COUNT : goal.returns-in-COUNT
returns-in-COUNT c =
    let code : c.args.what.0 ≡ 0x50434e54 = search rules in
    let same = count_at c.args.self.now c.args.what.0 (at_of c.args.at) c.args.m.now code c.if-not-has_form.ensures in
    record {
      refused = refused_by _ _ same c.count.result tt;
      only = only_by _ _ same c.count.result _ c.count.ensures.only;
      ok = ok_by _ _ same c.count.result _ (ok_of _ c.count.result _ c.count.ensures.ok);
      err = search rules;
    }
