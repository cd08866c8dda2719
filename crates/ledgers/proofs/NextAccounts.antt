-- An account holds something where one of its rows says more than 0.
use Rattle.std.proofs.Common.{◌≡◌, ℕ, zero, suc, ◌<◌, Bool, true, false, ◌&&◌, if◌then◌else◌, List, ◌∷◌, refl, sym, ap, ◌∙◌, arith, true≢false}
use Rattle.std.specs.Prelude.{Option, None, Some, unwrap_or, slice_get, IsSome, MatchOption}
use Rattle.std.specs.Ordering.{eq_by_cmp}
use Rattle.std.specs.Map.{lookup}
use Rattle.std.proofs.lemmas.Bool.{and_parts}
use Rattle.amounts.specs.Amounts.{amount}
use Rattle.amounts.proofs.Lemmas.AmountLaws.{total_at_most}
use Rattle.amounts.proofs.Lemmas.{key_same}
use Rattle.asset_lists.specs.declared.units.AssetId.{AssetId}
use Rattle.asset_lists.specs.declared.units.Instance.{Instance}
use Rattle.asset_lists.specs.Listed.{Listed, listed_of}
use Rattle.asset_bundles.specs.declared.wide_sum.WideSum.{WideSum}
use Rattle.ledgers.specs.Ledgers.{is_account, is_holding_of, holding_of, number_in, IsAfter, IsNext}
use Rattle.ledgers.specs.LedgerRows.{AmountKey, amount_key_cmp, OwnerKey, amount_in_row, held_in, IsSound, IsNextRow}
use Rattle.ledgers.proofs.Lemmas.{holder_keys, account_keys}
use Rattle.ledgers.proofs.RowLookups.{amount_keys}
use Rattle.ledgers.proofs.Numbers.{number_at, at_number}
use Rattle.ledgers.proofs.RowChanges.{held_listed, row_at_least}
use Rattle.ledgers.proofs.Reading.{part_is}
use Rattle.ledgers.proofs.Totals.{total_none}

module _ (listed : List Listed) (amounts : List (AmountKey × ℕ)) (owners : List (OwnerKey × Option (List ℕ))) (sums : List WideSum) (sound : IsSound listed amounts owners sums) where
  row_holds : (n : ℕ) (who : List ℕ) → 0 < amount_in_row amounts (who, n) → 0 < holding_of who (held_in listed amounts owners)
  row_holds n who some = elim (slice_get listed n) as (λ o. slice_get listed n ≡ o → IsSome o → 0 < holding_of who (held_in listed amounts owners)) [
    | None ↦ λ at there. absurd (true≢false (sym there))
    | Some asset ↦ λ at there. (
        let part = part_is listed amounts owners sums sound n who asset.0 asset.1 (at_number listed sound.once asset n at) in
        let most = total_at_most (λ h. is_account who h && is_holding_of asset h) (is_account who) (held_in listed amounts owners) (λ h passes. (and_parts (is_account who h) (is_holding_of asset h) passes).0) in
        omega (arith, some, part, most))
  ] refl (sound.numbered n who some)

  none_held_of : (who : List ℕ) → ((n : ℕ) → amount_in_row amounts (who, n) ≡ 0) → (id : AssetId) (x : Option Instance) → amount (held_in listed amounts owners) (who, (id, x)) ≡ 0
  none_held_of who none id x = elim (number_in listed (listed_of (id, x))) as (λ o. number_in listed (listed_of (id, x)) ≡ o → amount (held_in listed amounts owners) (who, (id, x)) ≡ 0) [
    | None ↦ λ e. held_listed listed amounts owners sums sound who id x e
    | Some n ↦ λ e. (
        let most = row_at_least listed amounts owners sums sound n who id x (number_at listed (listed_of (id, x)) n e) in
        let zeros = none n in
        omega (arith, most, zeros))
  ] refl

  pub none_holds : (who : List ℕ) → ((n : ℕ) → amount_in_row amounts (who, n) ≡ 0) → holding_of who (held_in listed amounts owners) ≡ 0
  none_holds who none = total_none holder_keys (is_account who) (held_in listed amounts owners) (λ h passes.
      ap (λ w. amount (held_in listed amounts owners) (w, h.1)) (sym (key_same account_keys who h.0 passes)) ∙ none_held_of who none h.1.0 h.1.1)

  pub next_held : (after : Option (List ℕ)) (who : List ℕ) → IsNextRow after amounts who → IsNext after (held_in listed amounts owners) who
  next_held after who row = record {
    holds = row_holds row.number who row.has;
    later = row.later;
    least = λ w later some before. (let none = none_holds w (λ n. row.least (w, n) later before) in absurd (omega (arith, some, none)));
  }

  -- what the rows say of the next account, of what is held
  pub next_read : (after o : Option (List ℕ)) → MatchOption o ((k : AmountKey) → IsAfter after k.0 → amount_in_row amounts k ≡ 0) (IsNextRow after amounts)
      → MatchOption o ((who : List ℕ) → IsAfter after who → holding_of who (held_in listed amounts owners) ≡ 0) (IsNext after (held_in listed amounts owners))
  next_read after None none = λ who later. none_holds who (λ n. none (who, n) later)
  next_read after (Some who) row = next_held after who row

-- ---- rows passed one after the other
pub nothing : (n : ℕ) → (0 < n → 0 < 0) → n ≡ 0
nothing zero h = refl
nothing (suc n) h = (let zeros = h (omega arith) in absurd (omega (arith, zeros)))

-- a row that isn't looked for is passed
pub row_passed : (e : AmountKey × ℕ) (rest : List (AmountKey × ℕ)) (k : AmountKey) → (k ≡ e.0 → 0 < e.1 → ⊥) → 0 < amount_in_row (e ∷ rest) k → 0 < amount_in_row rest k
row_passed e rest k none = by (eq_by_cmp amount_key_cmp k e.0) refl
  where
    by : (b : Bool) → eq_by_cmp amount_key_cmp k e.0 ≡ b → 0 < unwrap_or (if b then Some e.1 else lookup (eq_by_cmp amount_key_cmp k) rest) 0 → 0 < amount_in_row rest k
    by true t some = absurd (none (key_same amount_keys k e.0 t) some)
    by false t some = some
