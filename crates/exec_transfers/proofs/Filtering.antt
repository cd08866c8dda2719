-- A list that is filtered is no longer than before.
use Rattle.std.proofs.Common.{◌≡◌, ℕ, ◌≤◌, Bool, not, List, length, take, refl, ap, arith}
use Rattle.std.specs.List.{filter}
use Rattle.std.proofs.lemmas.List.Filters.{length-filter_both}
use Rattle.std.proofs.Math.ListN.{length-take}

pub few_found : {X : Type 0} (p : X → Bool) (xs ys : List X) (i : ℕ) → ys ≡ filter p (take i xs) → length ys ≤ length xs
few_found {X = X} p xs ys i is =
    let same = ap (λ (zs : List X). length zs) is in
    let both = length-filter_both p (λ x. not (p x)) (λ x. refl) (take i xs) in
    let most = length-take i xs in
    omega (arith, same, both, most)
