-- Lemmas that proofs cite, in this crate and above it: an asset that is held in full is part of the holding. A reader of the contracts may
-- skip this file.
use Rattle.std.proofs.Common.{◌≡◌, ℕ, ◌≤◌, Bool, true, false, [], ◌∷◌, refl, sym, subst, arith}
use Rattle.std.specs.Ordering.{eq_by_cmp}
use Rattle.amounts.specs.Rows.{amount_if}
use Rattle.amounts.specs.Amounts.{amount, IsWithin}
use Rattle.amounts.proofs.Lemmas.{key_same}
use Rattle.asset_lists.specs.declared.units.Asset.{Asset}
use Rattle.asset_lists.specs.Units.{Unit, unit_cmp, unit_of, amount_of}
use Rattle.asset_bundles.proofs.Lemmas.Bundles.{unit_keys}
use Rattle.asset_bundles.proofs.Lemmas.BundleLaws.{amount-bundle_of}
use Rattle.exec_rules.specs.Machine.{Machine}
use Rattle.exec_rules.specs.Holdings.{holds_asset, payment_of}
use Rattle.plain_lists.proofs.Lemmas.Facts.{told_at_most as at_least}

amount_one : (a : Asset) (u : Unit) → amount (payment_of a) u ≡ amount_if (eq_by_cmp unit_cmp u (unit_of a)) (amount_of a)
amount_one a u = let all = amount-bundle_of (a ∷ []) u in omega (arith, all)

if_held : (b : Bool) (n m : ℕ) → (b ≡ true → n ≤ m) → amount_if b n ≤ m
if_held true n m h = h refl
if_held false n m h = omega arith

pub payment_within : (m : Machine) (a : Asset) → holds_asset m a ≡ true → IsWithin (payment_of a) m.regs.holding
payment_within m a h u =
    subst (λ (n : ℕ). n ≤ amount m.regs.holding u) (sym (amount_one a u))
    (if_held (eq_by_cmp unit_cmp u (unit_of a)) (amount_of a) (amount m.regs.holding u)
    (λ t. subst (λ (v : Unit). amount_of a ≤ amount m.regs.holding v) (sym (key_same unit_keys u (unit_of a) t)) (at_least _ _ h)))
