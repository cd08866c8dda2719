use Rattle.std.proofs.Common.{◌≡◌, length}
use Rattle.std.specs.declared.ops.Bound.TheVariants.{Included, Unbounded}
use Rattle.std.specs.BTreeMap.Range.{IsEntryInRange}
use Rattle.std.specs.Map.{keys_of}
use Rattle.std.specs.List.{AllByRecursion}
use Rattle.std.specs.List.Sorted.{IsStrictlySortedBy}
use Rattle.ledgers.specs.LedgerRows.{amount_key_cmp}
use Rattle.ledgers.proofs.AccountSums.{AreLeft}
use Rattle.ledgers.proofs.account_sums.account_sums.Given as goal

abbrev pub invariant-loop-key : goal.invariant-loop-key
invariant-loop-key l = record {
  many : length l.sums.items ≡ l.count;
  left : AreLeft l.rows.entries l.who l.key-iterator l.sums.items;
  each : AllByRecursion (IsEntryInRange amount_key_cmp (Included (l.who, 0)) Unbounded l.rows) l.key-iterator;
  sorted : IsStrictlySortedBy amount_key_cmp (keys_of l.key-iterator);
}
