use Rattle.std.proofs.Common.{◌≡◌, drop}
use Rattle.exec_base.specs.Host.{changed_all}
use Rattle.chain_state.specs.Checked.{change_by}
use Rattle.chain_state.proofs.assets.checking_lists.change_all.Given as goal

abbrev pub invariant-loop-asset : goal.invariant-loop-asset
invariant-loop-asset l = changed_all (change_by l.rises) l.fn.list l.fn.rows l.fn.checking ≡ changed_all (change_by l.rises) (drop l.asset-index l.list) l.rows l.checking
