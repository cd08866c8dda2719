-- Two more spaces after an indent are the same as two before it.
use Rattle.std.proofs.Common.{◌≡◌, ℕ, zero, suc, ◌++◌, codes, refl, ap}
use Rattle.message_text.specs.Lines.{indent}

pub indent-next : (n : ℕ) → indent n ++ codes "  " ≡ codes "  " ++ indent n
indent-next zero = refl
indent-next (suc n) = ap (λ t. codes "  " ++ t) (indent-next n)
