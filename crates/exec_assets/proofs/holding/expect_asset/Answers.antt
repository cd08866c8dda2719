use Rattle.std.proofs.Common.{Bool, None, refl, ap, sym, ◌∙◌}
use Rattle.operands.specs.declared.error.XcmError.TheVariants as error
use Rattle.exec_base.specs.Sending.{unless}
use Rattle.exec_rules.specs.Machine.{machine}
use Rattle.exec_assets.proofs.Joining.{contains_is}
use Rattle.exec_assets.proofs.holding.expect_asset.Goals as goal

pub returns-then-contains-clause-ok : goal.returns-then-contains-clause-ok
returns-then-contains-clause-ok g c =
    let once = c.law_of_bundles.ensures.from_lists c.args.assets.now c.items-list.ensures.list in
    let is = contains_is (machine c.args.r.now (g.H.Host.part c.args.h.now)) c.args.assets.now c.contains.result once c.contains.ensures in
    (ap (λ (b : Bool). unless b error.ExpectationFalse None) (sym is ∙ c.if-contains.true), refl)

pub returns-else-contains-clause-ok : goal.returns-else-contains-clause-ok
returns-else-contains-clause-ok g c =
    let once = c.law_of_bundles.ensures.from_lists c.args.assets.now c.items-list.ensures.list in
    let is = contains_is (machine c.args.r.now (g.H.Host.part c.args.h.now)) c.args.assets.now c.contains.result once c.contains.ensures in
    (ap (λ (b : Bool). unless b error.ExpectationFalse None) (sym is ∙ c.if-contains.false), refl)
