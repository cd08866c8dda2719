-- What is known of messages that wait from one chain to another, or to any: what they carry, row by row of the sender's list. Chains and rows
-- are numbered from 0. This project's own rule.
use Rattle.std.specs.Prelude.{◌≡◌, ℕ, ◌+◌, min, IsTrue, List, length, Option, Some, None, slice_get}
use Rattle.std.specs.List.{IsDistinct}
use Rattle.std.specs.Ordering.{eq_by_cmp}
use Rattle.asset_lists.specs.Listed.{Listed, listed_cmp}
use Rattle.asset_bundles.specs.Books.{most_burned}
use Rattle.asset_bundles.specs.Totals.{total_value}
use Rattle.asset_bundles.specs.declared.totals.Total.{Total}
use Rattle.chain_ids.specs.declared.chain.ChainId.{ChainId}
use Rattle.exec_base.specs.Part.{ChainPart}
use Rattle.supply_audit.specs.declared.figures.Carried.{Carried}
use Rattle.supply_audit.specs.declared.figures.Figure.TheVariants.{Sent}
use Rattle.supply_audit.specs.declared.last_found.LastFound.{LastFound}
use Rattle.supply_audit.specs.RowPlaces.{share_in}

-- the sum of a row, 0 where there is none
abbrev pub sum_or_none : Option Total → ℕ
sum_or_none None = 0
sum_or_none (Some sum) = total_value sum

abbrev pub sum_in_row : List Total → ℕ → ℕ
sum_in_row sums row = sum_or_none (slice_get sums row)

-- what the messages of a chain carry to the chain of this name, or anywhere where none is given, row by row; each sum saturates
abbrev pub AreSentTo : Carried → Option ChainId → Option ChainPart → List Total → Type 0
AreSentTo what to part sums =
    (row : ℕ) → sum_in_row sums row ≡ min (share_in (Sent what to) row part) most_burned

-- what is known is so
abbrev pub IsRightOf : LastFound → Carried → List ChainPart → Type 0
IsRightOf found what parts =
    IsTrue found.known → AreSentTo what found.to (slice_get parts found.from) found.sums.items

-- ---- while the sums are made

-- a sum for each listed asset, of which none is listed twice
abbrev pub AreSumsOf : List Listed → List Total → Type 0
AreSumsOf listed sums = (length sums ≡ length listed) × IsDistinct (eq_by_cmp listed_cmp) listed

-- the sum of each listed asset rises by so much
abbrev pub Rise : List Listed → List Total → List Total → (Listed → ℕ) → Type 0
Rise listed old new more =
    (row n : ℕ) (k : Listed) → slice_get listed row ≡ Some k
    → sum_in_row old row ≡ min n most_burned → sum_in_row new row ≡ min (n + more k) most_burned
