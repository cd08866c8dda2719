-- What a refund of weight does to a trader's record, and what closing it does. Source: xcm-executor's documentation of traders (refunding
-- weight). That a refund is at most what is paid is this project's own rule.
use Rattle.std.specs.Prelude.{ℕ, ◌-◌, min, Bool, nat_lt, List, map, Option, Some, None}
use Rattle.std.specs.List.{find}
use Rattle.std.specs.Option.{option_map}
use Rattle.locations.specs.declared.relative.Location.{Location}
use Rattle.operands.specs.declared.weight.Weight.{Weight}
use Rattle.amounts.specs.Amounts.{empty, single}
use Rattle.asset_lists.specs.declared.units.AssetId.{AssetId}
use Rattle.asset_bundles.specs.Bundles.{Bundle}
use Rattle.weight_trader.specs.Prices.{price}
use Rattle.plain_lists.specs.Firsts.{change_first}
use Rattle.weight_trader.specs.Purchases.{Line, new_line}

-- what can be given back of a weight: in each dimension at most what is bought
abbrev pub least_weight : Weight → Weight → Weight
least_weight v w = record { ref_time = min v.ref_time w.ref_time; proof_size = min v.proof_size w.proof_size }

abbrev pub weight_minus : Weight → Weight → Weight
weight_minus v w = record { ref_time = v.ref_time - w.ref_time; proof_size = v.proof_size - w.proof_size }

-- what a line gives back for a weight: its price, and at most what is paid
abbrev pub refund_at : Weight → Line → ℕ
refund_at w line = min (price line.rate (least_weight w line.bought)) line.paid

abbrev pub is_refunded : Weight → Line → Bool
is_refunded w line = nat_lt 0 (refund_at w line)

-- what is given back for a weight, at the first line that gives something: the asset, and the amount in its smallest unit
abbrev pub refund_of : Weight → List Line → Option (Location × ℕ)
refund_of w lines = option_map (λ (line : Line). (line.rate.asset, refund_at w line)) (find (is_refunded w) lines)

abbrev pub goods_of : Option (Location × ℕ) → Bundle
goods_of None = empty
goods_of (Some given) = single (AssetId.Concrete given.0, None) given.1

abbrev pub without_refund : Weight → Line → Line
without_refund w line = record { rate = line.rate; bought = weight_minus line.bought (least_weight w line.bought); paid = line.paid - refund_at w line }

-- the record after a refund; where nothing is given back it stays as it was
unfoldable pub Refunded : Weight → List Line → List Line
Refunded w lines = change_first (is_refunded w) (without_refund w) lines

-- the record after closing: nothing bought, and nothing paid
abbrev pub Closed : List Line → List Line
Closed lines = map (λ (line : Line). new_line line.rate) lines
