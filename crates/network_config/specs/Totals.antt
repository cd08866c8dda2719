-- Running totals of what accounts hold, as the code keeps them: by an asset's path and its kind's number.
use Rattle.std.specs.Prelude.{ℕ, ◌+◌, List, unwrap_or, if◌then◌else◌}
use Rattle.std.specs.declared.cmp.Ordering.{Ordering}
use Rattle.std.specs.Ordering.{nat_cmp, on, then_cmp, eq_by_cmp}
use Rattle.std.specs.Map.{lookup}
use Rattle.locations.specs.declared.grammar.Junction.{Junction}
use Rattle.locations.specs.Order.{junctions_cmp}
use Rattle.asset_lists.specs.Listed.{kind_number}
use Rattle.network_config.specs.declared.sums.Share.{Share}

abbrev pub TotalKey : Type 0
TotalKey = List Junction × ℕ

abbrev pub total_key_cmp : TotalKey → TotalKey → Ordering
total_key_cmp = then_cmp (on (λ (k : TotalKey). k.0) junctions_cmp) (on (λ (k : TotalKey). k.1) nat_cmp)

-- a share's path and kind
abbrev pub total_key_of : Share → TotalKey
total_key_of share = (share.path, kind_number share.kind)

-- the total of a path and kind, 0 where there is none
abbrev pub total_under_key : List (TotalKey × ℕ) → TotalKey → ℕ
total_under_key totals key = unwrap_or (lookup (eq_by_cmp total_key_cmp key) totals) 0

-- the totals after a share is added
abbrev pub with_share : Share → List (TotalKey × ℕ) → TotalKey → ℕ
with_share share totals key = if eq_by_cmp total_key_cmp (total_key_of share) key then total_under_key totals (total_key_of share) + share.amount else total_under_key totals key
