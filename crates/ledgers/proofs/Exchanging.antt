-- Rows that an exchange writes are there, since they say something.
use Rattle.std.proofs.Common.{◌≡◌, ℕ, ◌<◌, ◌≤◌, List, Option, None, Some, refl, sym, ap, ◌∙◌, subst, arith}
use Rattle.std.specs.Prelude.{unwrap_or, IsSome}
use Rattle.std.specs.Ordering.{eq_by_cmp}
use Rattle.std.specs.Map.{lookup}
use Rattle.amounts.specs.Amounts.{amount, minus}
use Rattle.amounts.proofs.Lemmas.{amount-minus}
use Rattle.asset_lists.specs.declared.units.AssetId.{AssetId}
use Rattle.asset_lists.specs.declared.units.Kind.{Kind}
use Rattle.asset_lists.specs.Listed.{Listed}
use Rattle.ledgers.specs.declared.rows.Rows.{Rows}
use Rattle.ledgers.specs.Ledgers.{Holder, Held, number_in}
use Rattle.ledgers.specs.LedgerRows.{amount_key_cmp, HasAmountRow}
use Rattle.ledgers.specs.RowState.{rows_held, AreSound, KeepsRows}
use Rattle.ledgers.proofs.Lemmas.{holder_keys}
use Rattle.ledgers.proofs.RowChanges.{held_listed, held_fungible}

some_unless : (o : Option ℕ) → (o ≡ None → ⊥) → IsSome o
some_unless None h = absurd (h refl)
some_unless (Some n) h = refl

some_of : (o : Option ℕ) → 0 < unwrap_or o 0 → IsSome o
some_of None h = absurd (omega (arith, h))
some_of (Some n) h = refl

pub less_there : (held : Held) (k q : Holder) (less : ℕ) → amount (minus held k less) q ≤ amount held q
less_there held k q less = let left = amount-minus holder_keys held k less q in omega (arith, left)

module _ (old new : Rows) (sound : AreSound old) (kept : KeepsRows old new) (who : List ℕ) (id : AssetId) (some : 0 < amount (rows_held old) (who, (id, None))) where
  pub listed_still : IsSome (number_in new.assets (id, Kind.Fungible))
  listed_still =
      subst (λ (l : List Listed). IsSome (number_in l (id, Kind.Fungible))) (sym kept.assets)
      (some_unless (number_in old.assets (id, Kind.Fungible)) (λ none. let nothing = held_listed old.assets old.amounts.entries old.owners.entries old.sums.items sound who id None none in omega (arith, some, nothing)))

  pub row_still : (n : ℕ) → number_in new.assets (id, Kind.Fungible) ≡ Some n → HasAmountRow new.amounts.entries (who, n)
  row_still n at =
      let there = ap (λ (l : List Listed). number_in l (id, Kind.Fungible)) (sym kept.assets) ∙ at in
      let says = held_fungible old.assets old.amounts.entries old.owners.entries old.sums.items sound n who id there in
      kept.amounts (who, n) (some_of (lookup (eq_by_cmp amount_key_cmp (who, n)) old.amounts.entries) (omega (arith, some, says)))
