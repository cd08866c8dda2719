-- What a pool of two assets gives for what is given to it. A pool keeps some of both, its reserves.
--     x      the reserve of the asset that is given to the pool
--     y      the reserve of the asset that is wanted of it
--     g      how many thousandths of what is given count: 1000 less the pool's fee
--     a      what is given to the pool; h, if it is all that the holding has
--     w      what is wanted of it
-- Source: the exchange at a constant product with a fee, as pallet-asset-conversion documents it. The bounds, and which exchange is
-- refused, are this project's own rule.
use Rattle.std.specs.Prelude.{ℕ, ◌+◌, ◌-◌, ◌*◌, ◌/◌, ◌^◌, ◌<◌, ◌≤◌, Bool, true, false, ◌&&◌, nat_lt, nat_le, if◌then◌else◌, Option, Some, None, find, option_and_then}
use Rattle.std.specs.List.{range_with_len}
use Rattle.asset_pools.specs.declared.deal.Deal.{Deal}

-- what the pool gives for a, rounded down
abbrev pub out : ℕ → ℕ → ℕ → ℕ → ℕ
out x y g a = (y * a * g) / (x * 1000 + a * g)

-- no reserve may reach it
abbrev pub reserve_end : ℕ
reserve_end = 2 ^ 58

-- what the pool gives for a; none where something is 0, or a reserve reaches its end
abbrev pub best_out : ℕ → ℕ → ℕ → ℕ → Option ℕ
best_out x y g a =
    if nat_lt 0 x && nat_lt 0 y && nat_lt 0 a && nat_lt y reserve_end && nat_lt (x + a) reserve_end
    then Some (out x y g a)
    else None

-- whether a pays for w
abbrev pub pays : ℕ → ℕ → ℕ → ℕ → ℕ → Bool
pays x y g w a = nat_le w (out x y g a)

-- the first of 0, 1, 2 .. that pays for w; none where something is 0, w is the whole reserve or more, or a reserve reaches its end
unfoldable pub least_in : ℕ → ℕ → ℕ → ℕ → Option ℕ
least_in x y g w =
    if nat_lt 0 x && nat_lt 0 w && nat_lt w y && nat_lt y reserve_end
    then find (pays x y g w) (range_with_len 0 (reserve_end - x))
    else None

-- a pays for w, and nothing less does
pub record IsLeast (x y g w a : ℕ) : Type 0 where
  pub pays : w ≤ out x y g a
  pub least : (b : ℕ) → b < a → out x y g b < w

-- all that the holding has goes to the pool, for what it gives; none where that is nothing, or less than w
abbrev pub deal_of_all : ℕ → ℕ → ℕ → Option Deal
deal_of_all h w o =
    if nat_lt 0 o && nat_le w o then Some (record { to_pool = h; to_holding = o }) else None

-- the least that pays for w goes to the pool, for w; none where the holding has less
abbrev pub deal_of_least : ℕ → ℕ → ℕ → Option Deal
deal_of_least h w a = if nat_le a h then Some (record { to_pool = a; to_holding = w }) else None

-- the exchange of a holding that has h of the given asset for at least w of the wanted one: for as much as the pool gives for all of h
-- where it is to be the most, and for just w where not
abbrev pub deal_at : ℕ → ℕ → ℕ → ℕ → ℕ → Bool → Option Deal
deal_at x y g h w true = option_and_then (deal_of_all h w) (best_out x y g h)
deal_at x y g h w false = option_and_then (deal_of_least h w) (least_in x y g w)
