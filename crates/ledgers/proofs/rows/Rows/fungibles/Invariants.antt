use Rattle.std.proofs.Common.{◌≡◌, ◌++◌}
use Rattle.std.specs.declared.ops.Bound.TheVariants.{Included, Unbounded}
use Rattle.std.specs.BTreeMap.Range.{IsEntryInRange}
use Rattle.std.specs.Map.{keys_of}
use Rattle.std.specs.List.{AllByRecursion}
use Rattle.std.specs.List.Sorted.{IsStrictlySortedBy}
use Rattle.ledgers.specs.LedgerRows.{amount_key_cmp}
use Rattle.ledgers.proofs.AccountGoods.{fungibles_in}
use Rattle.ledgers.proofs.rows.Rows.fungibles.Given as goal

abbrev pub invariant-loop-key : goal.invariant-loop-key
invariant-loop-key l = record {
  listed : l.goods.items ++ fungibles_in l.self.assets l.who l.key-iterator ≡ fungibles_in l.self.assets l.who l.self.amounts.entries;
  each : AllByRecursion (IsEntryInRange amount_key_cmp (Included (l.who, 0)) Unbounded l.self.amounts) l.key-iterator;
  sorted : IsStrictlySortedBy amount_key_cmp (keys_of l.key-iterator);
}
