-- The text of a total that saturates is that of its sum.
use Rattle.std.proofs.Common.{◌≡◌, ℕ, zero, suc, ◌+◌, ◌-◌, ◌*◌, ◌^◌, ◌<◌, min, nat_lt, true, false, refl, ap, arith}
use Rattle.std.specs.Prelude.{codes, decimal, ◌==◌, if◌then◌else◌}
use Rattle.std.proofs.lemmas.Bool.{ltb-true, ltb-false}
use Rattle.asset_bundles.specs.Books.{most_burned}
use Rattle.asset_bundles.specs.Totals.{total_value}
use Rattle.asset_bundles.specs.declared.totals.Total.{Total}
use Rattle.step_text.specs.Texts.{total_text}
use Rattle.report_text.specs.Sums.{sum_text}
use Rattle.plain_lists.proofs.Lemmas.Facts.{at_least_not_below as is_more, below_told as is_less}

above_none : (h : ℕ) → (suc h == 0) ≡ false
above_none h = grind arith

parts_text : (h l n : ℕ) → l < 2 ^ 128 → h * 2 ^ 128 + l ≡ min n (2 ^ 160 - 1)
    → (if h == 0 then decimal l else codes "over") ≡ (if nat_lt n (2 ^ 128) then decimal n else codes "over")
parts_text zero l n low e =
    let same : l ≡ n = omega (arith, low, e) in
    let small : nat_lt n (2 ^ 128) ≡ true = is_less n (2 ^ 128) (omega (arith, low, e)) in
    rw small (ap decimal same)
parts_text (suc h) l n low e =
    let large : nat_lt n (2 ^ 128) ≡ false = is_more n (2 ^ 128) (omega (arith, e)) in
    rw (large, above_none h) refl

pub total_text_is : (t : Total) (n : ℕ) → t.low < 2 ^ 128 → total_value t ≡ min n most_burned → total_text t ≡ sum_text n
unfolding sum_text
total_text_is t n low e = parts_text t.high t.low n low e

-- and that of a sum is that of what it saturates to
pub text_saturates : (n : ℕ) → sum_text (min n most_burned) ≡ sum_text n
unfolding sum_text
text_saturates n =
    elim (nat_lt n (2 ^ 128)) as (λ b. nat_lt n (2 ^ 128) ≡ b → (if nat_lt (min n (2 ^ 160 - 1)) (2 ^ 128) then decimal (min n (2 ^ 160 - 1)) else codes "over") ≡ (if b then decimal n else codes "over")) [
      | true ↦ λ small.
          let low = ltb-true n (2 ^ 128) small in
          let same : min n (2 ^ 160 - 1) ≡ n = omega (arith, low) in
          rw (is_less (min n (2 ^ 160 - 1)) (2 ^ 128) (omega (arith, low))) (ap decimal same)
      | false ↦ λ large.
          let high = ltb-false n (2 ^ 128) large in
          rw (is_more (min n (2 ^ 160 - 1)) (2 ^ 128) (omega (arith, high))) refl
    ] refl

-- a total is one that fits
pub total_fits : (t : Total) → t.high < 2 ^ 32 → t.low < 2 ^ 128 → total_value t ≡ min (total_value t) most_burned
total_fits t high low = omega (arith, high, low)
