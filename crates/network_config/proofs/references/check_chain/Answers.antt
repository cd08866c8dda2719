use Rattle.std.proofs.Common.{Some, sym, ◌∙◌}
use Rattle.network_config.proofs.RowTables.{rows_apart}
use Rattle.network_config.proofs.references.check_chain.Goals as goal

pub check_accounts-requires : goal.check_accounts-requires
check_accounts-requires c =
    record { distinct = rows_apart c.args.chains.now c.args.network c.args.chain.now.chain (Some c.args.index) c.items-assets.result.now (sym c.check_each-2.ensures ∙ c.in_ok-check_each-2.was) }
