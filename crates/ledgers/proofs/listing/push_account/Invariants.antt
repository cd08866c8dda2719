use Rattle.std.proofs.Common.{◌≡◌, ◌++◌, map}
use Rattle.asset_lists.specs.declared.units.Asset.{Asset}
use Rattle.ledgers.proofs.listing.push_account.Given as goal

abbrev pub invariant-loop-asset : goal.invariant-loop-asset
invariant-loop-asset l = l.list.items ≡ l.fn.list.items ++ map (λ (a : Asset). (l.fn.who, a)) l.yielded
