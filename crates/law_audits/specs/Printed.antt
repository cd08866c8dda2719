-- That the sums which a report prints are the sums that are conserved: of each asset what is at
-- homes, what is on its way and what was burned, and of each derivative what is held and what is
-- owed. This project's own rule.
use Rattle.std.specs.Prelude.{◌≡◌, ℕ, ◌+◌, ◌^◌, ◌<◌, ◌≤◌}
use Rattle.chain_ids.specs.declared.chain.ChainId.{ChainId}
use Rattle.law_coherence.specs.UniversalAssets.{UniversalAsset}
use Rattle.network_steps.specs.Worlds.{World, parts_of}
use Rattle.supply_audit.specs.Supply.{supply_at_homes, teleports_in_flight, burned_at_homes, debt_at, held_at_reserve, owed_by, of_debt}

-- a world, beside the first one
pub record IsPrinted (first w : World) : Type 0 where
  -- of each asset what is printed as home, flight and burned is together what it was at first
  pub conserved : (a : UniversalAsset)
      → supply_at_homes a (parts_of w) + teleports_in_flight a (parts_of w) + burned_at_homes a (parts_of w)
      ≡ supply_at_homes a (parts_of first) + teleports_in_flight a (parts_of first) + burned_at_homes a (parts_of first)
  -- and below 2^127, so each is printed in decimal
  pub below : (a : UniversalAsset)
      → supply_at_homes a (parts_of w) + teleports_in_flight a (parts_of w) + burned_at_homes a (parts_of w) < 2 ^ 127
  -- of each row what is printed as owed is at most what is printed as held
  pub covered : (chain : ChainId) (row : ℕ)
      → of_debt owed_by (debt_at (parts_of w) chain row) ≤ of_debt held_at_reserve (debt_at (parts_of w) chain row)
  -- and that is below 2^127 too, so no line of the report says `over`
  pub small : (chain : ChainId) (row : ℕ) → of_debt held_at_reserve (debt_at (parts_of w) chain row) < 2 ^ 127
