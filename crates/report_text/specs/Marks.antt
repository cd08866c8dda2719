-- A chain that counts as changed from now on. This project's own rule.
use Rattle.std.specs.Prelude.{◌≡◌, ℕ, false}
use Rattle.supply_audit.specs.Stale.{is_stale}
use Rattle.report_text.specs.Kept.{Sheet}

-- the lines stay; a chain that doesn't count as changed didn't before, and isn't this one
pub record IsMarked (number : ℕ) (old new : Sheet) : Type 0 where
  pub supplies : new.supplies ≡ old.supplies
  pub backings : new.backings ≡ old.backings
  pub others : (chain : ℕ) → is_stale new.stale chain ≡ false → is_stale old.stale chain ≡ false
  pub it : (chain : ℕ) → is_stale new.stale chain ≡ false → chain ≡ number → ⊥
