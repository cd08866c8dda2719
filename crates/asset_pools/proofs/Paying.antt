-- When an amount pays for another, as an order of products; and the least that does, as a quotient.
use Rattle.std.proofs.Common.{◌⊎◌, inl, inr, ◌≡◌, ℕ, ◌+◌, ◌-◌, ◌*◌, ◌<◌, ◌≤◌, Bool, true, false, Option, Some, None, refl, sym, subst, arith}
use Rattle.std.specs.Prelude.{nat_lt, nat_le, ◌&&◌, if◌then◌else◌}
use Rattle.std.specs.Int.{div_ceil}
use Rattle.std.proofs.Math.Nat.{mul-le-mul_right, mul-pos, lt_of_not-le}
use Rattle.std.proofs.lemmas.Grind.{div_ceil_times}
use Rattle.std.proofs.lemmas.Bool.Decides.{nat_tests}
use Rattle.asset_pools.specs.Pools.{out, reserve_end, pays, least_in, IsLeast}
use Rattle.asset_pools.proofs.Lemmas.Products.{pays_from, pays_to}
use Rattle.asset_pools.proofs.Firsts.{find-first, find-none}
use Rattle.plain_lists.proofs.Lemmas.Facts.{at_most_told as tells, told_below as is_below}

-- the least number whose product with d reaches n is n / d, rounded up
pub ceil_enough : (n d : ℕ) → 0 < d → n ≤ div_ceil n d * d
ceil_enough n d some = (div_ceil_times n d some).0

pub ceil_least : (n d b : ℕ) → 0 < d → b < div_ceil n d → b * d < n
ceil_least n d b some less =
    let more : (b + 1) * d ≤ div_ceil n d * d = mul-le-mul_right d (omega arith) in
    omega (arith, more, (div_ceil_times n d some).1)

-- the least that pays, as a quotient
abbrev pub quotient : ℕ → ℕ → ℕ → ℕ → ℕ
quotient x y g w = div_ceil (w * x * 1000) ((y - w) * g)

pub quotient_is_least : (x y g w : ℕ) → 1 ≤ g → 0 < x → w < y → IsLeast x y g w (quotient x y g w)
quotient_is_least x y g w share some below =
    let rest : 0 < (y - w) * g = mul-pos (omega arith) share in
    let whole : (y - w) + w ≡ y = omega arith in
    record {
      pays = subst (λ (r : ℕ). w ≤ out x r g (quotient x y g w)) whole (pays_to x (y - w) w g (quotient x y g w) some (ceil_enough _ _ rest));
      least = λ b less. lt_of_not-le (λ (paid : w ≤ out x y g b).
          let too_much : w * x * 1000 ≤ b * ((y - w) * g) = pays_from x (y - w) w g b some (subst (λ (r : ℕ). w ≤ out x r g b) (sym whole) paid) in
          omega (arith, too_much, ceil_least (w * x * 1000) ((y - w) * g) b rest less));
    }

in_bounds : (x y w : ℕ) → 0 < x → 0 < w → w < y → y < reserve_end → (nat_lt 0 x && nat_lt 0 w && nat_lt w y && nat_lt y reserve_end) ≡ true
in_bounds x y w some wanted below small = grind (arith, nat_tests)

if_in : (b : Bool) (o p : Option ℕ) → b ≡ true → o ≡ p → (if b then o else None) ≡ p
if_in true o p h e = e
if_in false o p h e = absurd (cc)

if_out : (b : Bool) (o : Option ℕ) → (b ≡ false) ⊎ (o ≡ None) → (if b then o else None) ≡ None
if_out true o (inl h) = absurd (cc)
if_out true o (inr h) = h
if_out false o h = refl

denies : (m n : ℕ) → n < m → nat_le m n ≡ false
denies m n h = grind (arith, h)

module _ (x y g w a : ℕ) (is_least : IsLeast x y g w a) where
  pub least_found : 0 < x → 0 < w → w < y → y < reserve_end → x + a < reserve_end → least_in x y g w ≡ Some a
  unfolding least_in
  least_found some wanted below small near =
      if_in _ _ _ (in_bounds x y w some wanted below small)
      (find-first (pays x y g w) 0 (reserve_end - x) a
      (record { from = omega arith; below = omega arith; passes = tells _ _ is_least.pays; least = λ j from less. denies _ _ (is_least.least j less) }))

  pub least_far : reserve_end ≤ x + a → least_in x y g w ≡ None
  unfolding least_in
  least_far far = if_out _ _ (inr (find-none (pays x y g w) 0 (reserve_end - x) (λ j from less. denies _ _ (is_least.least j (omega arith)))))

out_of_bounds : (x y w : ℕ) → (x ≡ 0) ⊎ ((w ≡ 0) ⊎ ((y ≤ w) ⊎ ((reserve_end ≤ y) ⊎ (reserve_end ≤ x)))) → ((nat_lt 0 x && nat_lt 0 w && nat_lt w y && nat_lt y reserve_end) ≡ false) ⊎ (reserve_end ≤ x)
out_of_bounds x y w why = grind (arith, nat_tests)

-- where something is 0 or too large, nothing pays
pub least_refused : (x y g w : ℕ) → (x ≡ 0) ⊎ ((w ≡ 0) ⊎ ((y ≤ w) ⊎ ((reserve_end ≤ y) ⊎ (reserve_end ≤ x)))) → least_in x y g w ≡ None
unfolding least_in
least_refused x y g w why =
    if_out _ _ (elim (out_of_bounds x y w why) [
      | inl outside ↦ inl outside
      | inr large ↦ inr (find-none (pays x y g w) 0 (reserve_end - x) (λ j from less. absurd (omega arith)))
    ])

isnt_below : (m n : ℕ) → nat_lt m n ≡ false → n ≤ m
isnt_below m n h = grind (arith, nat_tests)

least_by : (x y g w a : ℕ) (near : Bool) → IsLeast x y g w a → 0 < x → 0 < w → w < y → y < reserve_end → nat_lt (x + a) reserve_end ≡ near
    → least_in x y g w ≡ (if near then Some a else None)
least_by x y g w a true is_least some wanted below small near = least_found x y g w a is_least some wanted below small (is_below _ _ near)
least_by x y g w a false is_least some wanted below small far = least_far x y g w a is_least (isnt_below _ _ far)

pub least_of : (x y g w a : ℕ) → IsLeast x y g w a → 0 < x → 0 < w → w < y → y < reserve_end → least_in x y g w ≡ (if nat_lt (x + a) reserve_end then Some a else None)
least_of x y g w a is_least some wanted below small = least_by x y g w a (nat_lt (x + a) reserve_end) is_least some wanted below small refl
