-- What exchanges leave of a pool's two reserves, one after the other and in either direction.
use Rattle.std.specs.Prelude.{ℕ, ◌+◌, ◌-◌, ◌*◌, ◌<◌, Bool, if◌then◌else◌, List, [], ◌∷◌, Option, Some, None}
use Rattle.asset_pools.specs.declared.deal.Deal.{Deal}
use Rattle.asset_pools.specs.Pools.{reserve_end, deal_at}

-- the two reserves of a pool
pub record Reserves : Type 0 where
  pub first : ℕ
  pub second : ℕ

abbrev pub product_of : Reserves → ℕ
product_of r = r.first * r.second

abbrev pub swapped : Reserves → Reserves
swapped r = record { first = r.second; second = r.first }

-- what is asked of a pool: whether the second asset is given for the first, and not the first for the second; how much of the given one
-- the holding has; how much of the other is wanted; and whether it is to be the most
pub record Request : Type 0 where
  pub is_turned : Bool
  pub has : ℕ
  pub wants : ℕ
  pub maximal : Bool

-- the reserves after an exchange of the first asset for the second, and after none
abbrev pub with_deal : Reserves → Option Deal → Reserves
with_deal r None = r
with_deal r (Some d) = record { first = r.first + d.to_pool; second = r.second - d.to_holding }

abbrev pub traded : ℕ → Request → Reserves → Reserves
traded g q r = with_deal r (deal_at r.first r.second g q.has q.wants q.maximal)

-- the reserves after what is asked
abbrev pub reserves_after : ℕ → Request → Reserves → Reserves
reserves_after g q r = if q.is_turned then swapped (traded g q (swapped r)) else traded g q r

-- the reserves after all that is asked
abbrev pub reserves_after_all : ℕ → List Request → Reserves → Reserves
reserves_after_all g [] r = r
reserves_after_all g (q ∷ qs) r = reserves_after_all g qs (reserves_after g q r)

-- both reserves are above 0 and below their end
pub record AreUsable (r : Reserves) : Type 0 where
  pub first_some : 0 < r.first
  pub second_some : 0 < r.second
  pub first_end : r.first < reserve_end
  pub second_end : r.second < reserve_end
