use Rattle.std.proofs.Common.{◌≡◌, ◌+◌, false, true, sym, ap, ◌∙◌, if◌then◌else◌}
use Rattle.std.specs.Prelude.{None}
use Rattle.asset_bundles.specs.Bundles.{held_assets}
use Rattle.exec_base.specs.Host.{first_fault, raise_fault, changed_all, is_teleport}
use Rattle.chain_state.specs.Checked.{change_by}
use Rattle.chain_state.specs.PartOf.{part_of}
use Rattle.chain_state.proofs.Raising.{raised_free}
use Rattle.chain_state.proofs.state.ChainState.raise_for.Goals as goal

pub returns-then-not-is_teleport-clause-step : goal.returns-then-not-is_teleport-clause-step
returns-then-not-is_teleport-clause-step c =
    let p = part_of c.args.self.now in
    let away : is_teleport c.args.way ≡ false = sym c.is_teleport.ensures ∙ c.if-not-is_teleport.true in
    λ i. record p { checking = if sym away i then changed_all (λ n a. n + a) (held_assets c.args.goods.now) p.rows p.checking else p.checking }

pub returns-clause-step : goal.returns-clause-step
returns-clause-step c =
    let f = c.args.self.now in
    let p = part_of f in
    let goods = c.args.goods.now in
    let teleports : is_teleport c.args.way ≡ true = sym c.is_teleport.ensures ∙ c.if-not-is_teleport.false in
    let free : first_fault (raise_fault p) (held_assets goods) ≡ None =
    ap (first_fault (raise_fault p)) (sym c.requires.list) ∙ sym (ap (λ b. if b then first_fault (raise_fault p) c.args.list.now else None) teleports) ∙ c.requires.free in
    let raised = ap (λ xs. changed_all (change_by true) xs p.rows p.checking) c.requires.list ∙ raised_free p goods f.checked free in
    c.change_checking.ensures.step ∙ (λ i. record p { checking = raised i })
    ∙ (λ i. record p { checking = if sym teleports i then changed_all (λ n a. n + a) (held_assets goods) p.rows p.checking else p.checking })
