use Rattle.std.proofs.Common.{◌≡◌, ◌≤◌, ℕ, ◌+◌, ◌-◌, ◌*◌, Some, sym, ap, ◌∙◌, subst, arith}
use Rattle.asset_pools.specs.Pools.{IsLeast}
use Rattle.asset_pools.proofs.Lemmas.Products.{product_kept}
use Rattle.asset_pools.proofs.Paying.{quotient, quotient_is_least, least_found, least_far, least_refused}
use Rattle.asset_pools.proofs.prices.least_in.Goals as goal

pub returns-then-x-eq0-clause-found : goal.returns-then-x-eq0-clause-found
returns-then-x-eq0-clause-found c = sym (least_refused _ _ _ _ (grind (arith, c.then-x-eq0.either)))

pub returns-then-x-least-ge-RESERVE_END-clause-found : goal.returns-then-x-least-ge-RESERVE_END-clause-found
returns-then-x-least-ge-RESERVE_END-clause-found c =
    let is : c.div_ceil-least.result ≡ quotient c.args.x c.args.y c.args.g c.args.w = cc in
    sym (least_far _ _ _ _ _ (quotient_is_least _ _ _ _ c.requires.some (omega arith) (omega arith)) (omega arith))

pub returns-clause-found : goal.returns-clause-found
returns-clause-found c =
    let is : c.div_ceil-least.result ≡ quotient c.args.x c.args.y c.args.g c.args.w = cc in
    ap Some is
    ∙ sym (least_found c.args.x c.args.y c.args.g c.args.w _ (quotient_is_least _ _ _ _ c.requires.some (omega arith) (omega arith)) (omega arith) (omega arith) (omega arith) (omega arith) (omega arith))

pub returns-clause-least : goal.returns-clause-least
returns-clause-least c =
    let is : c.div_ceil-least.result ≡ quotient c.args.x c.args.y c.args.g c.args.w = cc in
    subst (IsLeast c.args.x c.args.y c.args.g c.args.w) (sym is) (quotient_is_least _ _ _ _ c.requires.some (omega arith) (omega arith))

pub returns-clause-kept : goal.returns-clause-kept
returns-clause-kept c =
    let is : c.div_ceil-least.result ≡ quotient c.args.x c.args.y c.args.g c.args.w = cc in
    let least = quotient_is_least c.args.x c.args.y c.args.g c.args.w c.requires.some (omega arith) (omega arith) in
    subst (λ (a : ℕ). c.args.x * c.args.y ≤ (c.args.x + a) * (c.args.y - c.args.w)) (sym is)
    (product_kept _ _ _ _ _ c.requires.all (omega arith) (omega arith) least.pays)
