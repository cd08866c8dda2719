-- How large sums over rows may be.
use Rattle.std.proofs.Common.{◌≡◌, ℕ, ◌+◌, ◌-◌, ◌*◌, ◌^◌, ◌<◌, ◌≤◌, Bool, true, false, ◌&&◌, List, [], ◌∷◌, length, refl, ap, ◌∙◌, arith}
use Rattle.std.specs.Prelude.{Option, None, Some, slice_get}
use Rattle.amounts.specs.Rows.{amount_if, sum_where}
use Rattle.amounts.specs.Amounts.{total}
use Rattle.asset_lists.specs.declared.units.AssetId.{AssetId}
use Rattle.asset_lists.specs.declared.units.Instance.{Instance}
use Rattle.asset_lists.specs.declared.units.Kind.{Kind}
use Rattle.asset_lists.specs.Units.{asset_id_cmp}
use Rattle.std.specs.Ordering.{eq_by_cmp}
use Rattle.asset_lists.specs.Listed.{Listed}
use Rattle.ledgers.specs.Ledgers.{Holder, is_account, is_holding_of, account_sum_of}
use Rattle.ledgers.specs.LedgerRows.{AmountKey, OwnerKey, fungible_row, amount_row, amount_rows, instance_row, owner_row, owner_rows, held_in, AreSmall}
use Rattle.ledgers.proofs.Lemmas.{holder_keys}
use Rattle.ledgers.proofs.Soundness.{total-at_most}

one_at_most : (b : Bool) (n : ℕ) → amount_if b n ≤ n
one_at_most true n = omega arith
one_at_most false n = omega arith

module _ (p : Holder → Bool) where
  fungible_most : (id : AssetId) (kind : Kind) (who : List ℕ) (v : ℕ) (rest : List (Holder × ℕ)) → v ≤ 2 ^ 128 - 1 → sum_where p (fungible_row id kind who v rest) ≤ (2 ^ 128 - 1) + sum_where p rest
  fungible_most id Kind.Fungible who v rest h = let one = one_at_most (p (who, (id, None))) v in omega (arith, one, h)
  fungible_most id Kind.Class who v rest h = omega arith

  amount_most : (o : Option Listed) (who : List ℕ) (v : ℕ) (rest : List (Holder × ℕ)) → v ≤ 2 ^ 128 - 1 → sum_where p (amount_row o who v rest) ≤ (2 ^ 128 - 1) + sum_where p rest
  amount_most None who v rest h = omega arith
  amount_most (Some asset) who v rest h = fungible_most asset.0 asset.1 who v rest h

  amounts_most : (listed : List Listed) (rows : List (AmountKey × ℕ)) (rest : List (Holder × ℕ)) → AreSmall rows → sum_where p (amount_rows listed rows rest) ≤ (2 ^ 128 - 1) * length rows + sum_where p rest
  amounts_most listed [] rest small = omega arith
  amounts_most listed (row ∷ rows) rest small =
      let one = amount_most (slice_get listed row.0.1) row.0.0 row.1 (amount_rows listed rows rest) small.0 in
      let more = amounts_most listed rows rest small.1 in
      omega (arith, one, more)

  instance_most : (id : AssetId) (kind : Kind) (i : Instance) (owner : Option (List ℕ)) (rest : List (Holder × ℕ)) → sum_where p (instance_row id kind i owner rest) ≤ 1 + sum_where p rest
  instance_most id Kind.Fungible i owner rest = omega arith
  instance_most id Kind.Class i None rest = omega arith
  instance_most id Kind.Class i (Some who) rest = let one = one_at_most (p (who, (id, Some i))) 1 in omega (arith, one)

  owner_most : (o : Option Listed) (i : Instance) (owner : Option (List ℕ)) (rest : List (Holder × ℕ)) → sum_where p (owner_row o i owner rest) ≤ 1 + sum_where p rest
  owner_most None i owner rest = omega arith
  owner_most (Some asset) i owner rest = instance_most asset.0 asset.1 i owner rest

  pub owners_most : (listed : List Listed) (rows : List (OwnerKey × Option (List ℕ))) → sum_where p (owner_rows listed rows) ≤ length rows
  owners_most listed [] = omega arith
  owners_most listed (row ∷ rows) =
      let one = owner_most (slice_get listed row.0.0) row.0.1 row.1 (owner_rows listed rows) in
      let more = owners_most listed rows in
      omega (arith, one, more)

-- a sum over fewer than 2^64 rows is below 2^191 + 2^63
pub sum_bound : (listed : List Listed) (amounts : List (AmountKey × ℕ)) (owners : List (OwnerKey × Option (List ℕ))) (p : Holder → Bool) → AreSmall amounts → length amounts < 2 ^ 63 → length owners < 2 ^ 63
    → total p (held_in listed amounts owners) < 2 ^ 192 - 2 ^ 128
unfolding held_in
sum_bound listed amounts owners p small few few_owners =
    let all = total-at_most holder_keys p (amount_rows listed amounts (owner_rows listed owners)) in
    let front = amounts_most p listed amounts (owner_rows listed owners) small in
    let back = owners_most p listed owners in
    omega (arith, all, front, back, few, few_owners)

-- instances are no more than the rows of owners
not_of_class : (w : List ℕ) (who : List ℕ) (id other : AssetId) → (is_account w (who, (other, None)) && is_holding_of (id, Kind.Class) (who, (other, None))) ≡ false
not_of_class w who id other = both_false (is_account w (who, (other, None))) (eq_by_cmp asset_id_cmp id other)
  where
    both_false : (a b : Bool) → (a && (b && false)) ≡ false
    both_false true true = refl
    both_false true false = refl
    both_false false b = refl

nothing_more : (n : ℕ) → 0 + n ≡ n
nothing_more n = omega arith

class_fungible : (w : List ℕ) (cls : AssetId) (id : AssetId) (kind : Kind) (who : List ℕ) (v : ℕ) (rest : List (Holder × ℕ))
    → sum_where (λ h. is_account w h && is_holding_of (cls, Kind.Class) h) (fungible_row id kind who v rest) ≡ sum_where (λ h. is_account w h && is_holding_of (cls, Kind.Class) h) rest
class_fungible w cls id Kind.Fungible who v rest = ap (λ b. amount_if b v + sum_where (λ h. is_account w h && is_holding_of (cls, Kind.Class) h) rest) (not_of_class w who cls id) ∙ nothing_more _
class_fungible w cls id Kind.Class who v rest = refl

class_amount : (w : List ℕ) (cls : AssetId) (o : Option Listed) (who : List ℕ) (v : ℕ) (rest : List (Holder × ℕ))
    → sum_where (λ h. is_account w h && is_holding_of (cls, Kind.Class) h) (amount_row o who v rest) ≡ sum_where (λ h. is_account w h && is_holding_of (cls, Kind.Class) h) rest
class_amount w cls None who v rest = refl
class_amount w cls (Some asset) who v rest = class_fungible w cls asset.0 asset.1 who v rest

class_amounts : (w : List ℕ) (cls : AssetId) (listed : List Listed) (rows : List (AmountKey × ℕ)) (rest : List (Holder × ℕ))
    → sum_where (λ h. is_account w h && is_holding_of (cls, Kind.Class) h) (amount_rows listed rows rest) ≡ sum_where (λ h. is_account w h && is_holding_of (cls, Kind.Class) h) rest
class_amounts w cls listed [] rest = refl
class_amounts w cls listed (row ∷ rows) rest = class_amount w cls (slice_get listed row.0.1) row.0.0 row.1 (amount_rows listed rows rest) ∙ class_amounts w cls listed rows rest

pub count_bound : (listed : List Listed) (amounts : List (AmountKey × ℕ)) (owners : List (OwnerKey × Option (List ℕ))) (w : List ℕ) (cls : AssetId) → length owners < 2 ^ 63
    → account_sum_of w (cls, Kind.Class) (held_in listed amounts owners) < 2 ^ 63
unfolding held_in
count_bound listed amounts owners w cls few =
    let all = total-at_most holder_keys (λ h. is_account w h && is_holding_of (cls, Kind.Class) h) (amount_rows listed amounts (owner_rows listed owners)) in
    let front = class_amounts w cls listed amounts (owner_rows listed owners) in
    let back = owners_most (λ h. is_account w h && is_holding_of (cls, Kind.Class) h) listed owners in
    omega (arith, all, front, back, few)
