-- What a transfer of one unit leaves.
use Rattle.std.proofs.Common.{ℕ, List}
use Rattle.amounts.specs.Amounts.{plus, minus}
use Rattle.asset_lists.specs.Units.{Unit}
use Rattle.ledgers.specs.Ledgers.{Held}

-- ---- one amount moved between accounts
abbrev pub moved_between : Held → Unit → List ℕ → List ℕ → ℕ → Held
moved_between held u from to n = plus (minus held (from, u) n) (to, u) n
