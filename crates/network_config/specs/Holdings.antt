-- What earlier entries of accounts are of, as the code keeps it: an asset's row and an account, or an asset's row and an instance.
use Rattle.std.specs.Prelude.{ℕ, List, Bool, true, false, Option, Some, None}
use Rattle.std.specs.List.{list_any}
use Rattle.std.specs.Option.{option_cmp}
use Rattle.std.specs.declared.cmp.Ordering.{Ordering}
use Rattle.std.specs.Ordering.{nat_cmp, on, then_cmp, eq_by_cmp}
use Rattle.std.specs.Cmp.Lexicographic.{slice_cmp}
use Rattle.asset_lists.specs.DerivedOrder.{derived_instance_cmp}
use Rattle.asset_lists.specs.Units.{unit_of}
use Rattle.asset_lists.specs.Listed.{Listed, listed_of}
use Rattle.asset_lists.specs.declared.units.Fun.{Fun}
use Rattle.asset_lists.specs.declared.units.Fun.TheVariants.{Fungible, NonFungible}
use Rattle.asset_lists.specs.declared.units.Instance.{Instance}
use Rattle.ledgers.specs.Ledgers.{number_in}
use Rattle.network_spec.specs.declared.chain.Balance.{Balance}
use Rattle.network_config.specs.declared.checks.Flaws.{Flaws}

-- the row of an asset and an account; the row and no account where it is of an instance
abbrev pub HolderKey : Type 0
HolderKey = ℕ × Option (List ℕ)

abbrev pub HoldingKey : Type 0
HoldingKey = HolderKey × Option Instance

abbrev pub holder_key_cmp : HolderKey → HolderKey → Ordering
holder_key_cmp = then_cmp (on (λ (k : HolderKey). k.0) nat_cmp) (on (λ (k : HolderKey). k.1) (option_cmp (slice_cmp nat_cmp)))

abbrev pub holding_key_cmp : HoldingKey → HoldingKey → Ordering
holding_key_cmp = then_cmp (on (λ (k : HoldingKey). k.0) holder_key_cmp) (on (λ (k : HoldingKey). k.1) (option_cmp derived_instance_cmp))

abbrev pub holding_by : ℕ → List ℕ → Fun → HoldingKey
holding_by row who (Fungible amount) = ((row, Some who), None)
holding_by row who (NonFungible instance) = ((row, None), Some instance)

abbrev pub holding_key_of : ℕ → Balance → HoldingKey
holding_key_of row balance = holding_by row balance.who balance.asset.fun

abbrev pub is_held : List HoldingKey → HoldingKey → Bool
is_held keys key = list_any (λ k. eq_by_cmp holding_key_cmp key k) keys

-- the flaws of an entry whose asset has this row, beside these holdings
abbrev pub flaws_beside : Option ℕ → List HoldingKey → Balance → Flaws
flaws_beside None keys balance = record { repeated = false; bad = true; past = false }
flaws_beside (Some row) keys balance = record { repeated = is_held keys (holding_key_of row balance); bad = false; past = false }

-- whether an entry whose asset has this row is of the holding
abbrev pub is_of_holding : Option ℕ → Balance → HoldingKey → Bool
is_of_holding None balance key = false
is_of_holding (Some row) balance key = eq_by_cmp holding_key_cmp (holding_key_of row balance) key

-- the number of the entry's asset among those listed
abbrev pub listed_number : List Listed → Balance → Option ℕ
listed_number listed balance = number_in listed (listed_of (unit_of balance.asset))
