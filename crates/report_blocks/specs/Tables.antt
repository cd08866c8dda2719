-- What the chains of a world list, which no step changes, and what is kept of a world's supply block. This project's own rule.
use Rattle.std.specs.Prelude.{◌≡◌, ℕ, false, List, Option, IfSome, map}
use Rattle.law_coherence.specs.Networks.{Table}
use Rattle.network_steps.specs.Worlds.{World, parts_of}
use Rattle.supply_audit.specs.Places.{chain_table}
use Rattle.supply_audit.specs.Stale.{is_stale}
use Rattle.report_text.specs.Kept.{Sheet}
use Rattle.report_text.specs.Sheets.{IsSheetOf}

abbrev pub world_tables : World → List Table
world_tables w = map chain_table (parts_of w)

-- where lines are kept, they are those of the world, but for chains that may have changed
abbrev pub IsKeptOf : Option Sheet → World → Type 0
IsKeptOf kept w = IfSome kept (λ sheet. IsSheetOf (parts_of w) sheet)

-- the chain of this number counts as changed, where lines are kept
abbrev pub IsChangedIn : Sheet → ℕ → Type 0
IsChangedIn sheet number =
    (chain : ℕ) → is_stale sheet.stale chain ≡ false → chain ≡ number → ⊥

abbrev pub CountsAsChanged : Option Sheet → ℕ → Type 0
CountsAsChanged kept number = IfSome kept (λ sheet. IsChangedIn sheet number)
