use Rattle.std.proofs.lemmas.Result.{on_ok_weaker}
use Rattle.supply_audit.proofs.Tables.{raised}
use Rattle.supply_audit.proofs.table.raise.Goals as goal

pub returns : goal.returns
returns c =
    let sum = c.sum.ensures in
    on_ok_weaker c.write_supply.result
    (λ wrote. raised c.args.sums.now.entries c.write_supply.new.sums.entries c.args.asset c.supply_in-found.result c.args.more c.sum.result c.supply_in-found.ensures wrote sum.home sum.flight sum.burned)
    c.write_supply.ensures
