-- Chains that rise, one after another.
use Rattle.std.proofs.Common.{◌≡◌, ℕ, ◌+◌, ◌<◌, List, length, get_or, drop, refl, arith, Bool, true, ◌&&◌}
use Rattle.std.proofs.lemmas.List.{drop_more, drop_all}
use Rattle.chain_ids.specs.declared.chain.ChainId.{ChainId}
use Rattle.network_spec.specs.declared.chain.ChainSpec.{ChainSpec}
use Rattle.network_spec.specs.Networks.{comes_before, rises}

pub risen : (last : ChainId) (xs : List ChainSpec) (k : ℕ) (x : ChainSpec) (b : Bool) → k < length xs → x ≡ get_or xs k x → comes_before last x.chain ≡ b
    → rises last (drop k xs) ≡ (b && rises x.chain (drop (k + 1) xs))
risen last xs k x b l e t = rw (drop_more xs k x l, ← e, t) refl

pub all_risen : (last : ChainId) (xs : List ChainSpec) (k : ℕ) → length xs ≡ k → rises last (drop k xs) ≡ true
all_risen last xs k e = rw (drop_all k xs (omega arith)) refl
