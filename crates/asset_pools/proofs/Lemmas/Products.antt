-- For proofs alone: a reader may skip this file. Orders of products and quotients that exchanges rest on.
use Rattle.std.proofs.Common.{◌≡◌, ℕ, zero, suc, ◌+◌, ◌-◌, ◌*◌, ◌<◌, ◌≤◌, sym, subst, arith}
use Rattle.std.proofs.Math.Nat.{le-div_iff_mul-le, div-lt_iff_lt-mul, mul-le-mul_left, mul-le-mul_right, mul-pos, le_of_mul-le-mul_right, le-mul_of_pos_right}
use Rattle.asset_pools.specs.Pools.{out}

-- a reserve above 0 makes the divisor so
divides : (x g a : ℕ) → 0 < x → 0 < x * 1000 + a * g
divides x g a some = omega arith

-- the reserve is what is wanted and a rest v: a pays for w just where what counts of a, times the rest, reaches what w needs
pub pays_from : (x v w g a : ℕ) → 0 < x → w ≤ out x (v + w) g a → w * x * 1000 ≤ a * (v * g)
pays_from x v w g a some paid = let whole = (le-div_iff_mul-le {x = w} {y = (v + w) * a * g} (divides x g a some)).0 paid in omega (arith, whole)

pub pays_to : (x v w g a : ℕ) → 0 < x → w * x * 1000 ≤ a * (v * g) → w ≤ out x (v + w) g a
pays_to x v w g a some enough = (le-div_iff_mul-le {x = w} {y = (v + w) * a * g} (divides x g a some)).1 (omega (arith, enough))

-- the pool gives less than it has
pub out_below : (x y g a : ℕ) → 0 < x → 0 < y → out x y g a < y
out_below x y g a x_some y_some =
    let rest : 0 < y * x = mul-pos y_some x_some in
    (div-lt_iff_lt-mul {x = y * a * g} {y = y} (divides x g a x_some)).1 (omega (arith, rest))

-- for more it gives no less
pub out_more : (x y g a b : ℕ) → 0 < x → 0 < y → a ≤ b → out x y g a ≤ out x y g b
out_more x y g a b x_some y_some more =
    let o = out x y g a in
    let less : o < y = out_below x y g a x_some y_some in
    let whole : (y - o) + o ≡ y = omega arith in
    let paid : o * x * 1000 ≤ a * ((y - o) * g) = pays_from x (y - o) o g a x_some (subst (λ (r : ℕ). o ≤ out x r g a) (sym whole) (omega arith)) in
    let grown : a * ((y - o) * g) ≤ b * ((y - o) * g) = mul-le-mul_right ((y - o) * g) more in
    subst (λ (r : ℕ). o ≤ out x r g b) whole (pays_to x (y - o) o g b x_some (omega (arith, paid, grown)))

-- what the pool gives at most, as an order of products with no fee
pub share_kept : (x y g a o : ℕ) → g ≤ 1000 → 0 < x → o ≤ out x y g a → o * (x + a) ≤ y * a
share_kept x y zero a o all some given =
    let whole = (le-div_iff_mul-le {x = o} {y = y * a * 0} (divides x 0 a some)).0 given in
    let none : o ≤ 0 = omega (arith, whole, le-mul_of_pos_right o some) in
    let nothing : o * (x + a) ≤ 0 * (x + a) = mul-le-mul_right (x + a) none in
    omega (arith, nothing)
share_kept x y (suc g) a o all some given =
    let whole = (le-div_iff_mul-le {x = o} {y = y * a * suc g} (divides x (suc g) a some)).0 given in
    let counted : (o * x) * suc g ≤ (o * x) * 1000 = mul-le-mul_left (o * x) all in
    le_of_mul-le-mul_right {k = suc g} (omega (arith, whole, counted)) (omega arith)

product_from : (x v a o : ℕ) → o * (x + a) ≤ (v + o) * a → x * (v + o) ≤ (x + a) * v
product_from x v a o share = omega (arith, share)

-- the product of the reserves doesn't fall
pub product_kept : (x y g a o : ℕ) → g ≤ 1000 → 0 < x → o ≤ y → o ≤ out x y g a → x * y ≤ (x + a) * (y - o)
product_kept x y g a o all x_some inside given =
    let whole : (y - o) + o ≡ y = omega arith in
    let P : ℕ → Type 0 = λ r. x * r ≤ (x + a) * (y - o) in
    subst P whole (product_from x (y - o) a o (subst (λ (r : ℕ). o * (x + a) ≤ r * a) (sym whole) (share_kept x y g a o all x_some given)))

-- what comes back for no more than was got is no more than was given
pub no_gain : (x y A B C D : ℕ) → 0 < y → B ≤ y → C ≤ B → D ≤ x + A → x * y ≤ (x + A) * (y - B) → (y - B) * (x + A) ≤ (y - B + C) * (x + A - D) → D ≤ A
no_gain x y A B C D y_some taken back left first second =
    let fewer : (y - B + C) * (x + A - D) ≤ y * (x + A - D) = mul-le-mul_right (x + A - D) (omega arith) in
    let kept : x * y ≤ (x + A - D) * y = omega (arith, first, second, fewer) in
    let at_least : x ≤ x + A - D = le_of_mul-le-mul_right {k = y} kept y_some in
    omega (arith, at_least)
