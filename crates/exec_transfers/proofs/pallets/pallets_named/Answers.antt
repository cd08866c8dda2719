use Rattle.std.specs.Str.{bytes_eq}
use Rattle.operands.specs.declared.pallet.PalletInfo.{PalletInfo}
use Rattle.exec_transfers.proofs.Filtering.{few_found}
use Rattle.exec_transfers.proofs.pallets.pallets_named.Goals as goal

pub returns-clause-few : goal.returns-clause-few
returns-clause-few c = few_found (λ (info : PalletInfo). bytes_eq info.module_name c.args.name.now) c.args.pallets.now c.loop-pallet.found.items c.loop-pallet.pallet-index c.loop-pallet.invariant
