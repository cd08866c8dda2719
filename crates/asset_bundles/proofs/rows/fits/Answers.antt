use Rattle.asset_bundles.proofs.Claiming.{another_origin, same_origin}
use Rattle.asset_bundles.proofs.rows.fits.Goals as goal

pub returns-then-eq : goal.returns-then-eq
returns-then-eq c = same_origin _ _ c.args.trap.now c.eq.result _ c.eq.ensures c.if-eq.true c.is_list.ensures

pub returns-else-eq : goal.returns-else-eq
returns-else-eq c = (
  λ h. (let same = h in let other = c.if-eq.false in absurd (cc)),
  λ fits. absurd (another_origin c.args.list.now c.args.origin.now c.args.trap.now c.eq.result c.eq.ensures c.if-eq.false fits),
)
