-- That nothing is burned because an amount passes its maximum, or because an instance is there already. This project's own rule.
use Rattle.std.specs.Prelude.{◌≡◌, List}
use Rattle.std.specs.List.{AllByRecursion}
use Rattle.amounts.specs.Amounts.{amount}
use Rattle.asset_lists.specs.Listed.{Listed}
use Rattle.asset_bundles.specs.declared.book.Cause.{Cause}
use Rattle.asset_bundles.specs.Books.{Burns}
use Rattle.network_steps.specs.Worlds.{Member, World}
use Rattle.network_steps.specs.Steps.{Link, Step, worlds}

-- no burn of a book is for one of these two causes
pub record NoExcess (burns : Burns) : Type 0 where
  pub saturated : (asset : Listed) → amount burns (asset, Cause.Saturated) ≡ 0
  pub merged : (asset : Listed) → amount burns (asset, Cause.Merged) ≡ 0

-- nor of any chain's book
abbrev pub NoExcessIn : World → Type 0
NoExcessIn w = AllByRecursion (λ (m : Member). NoExcess m.part.burns) w

-- whatever the steps, in every world from the first on
abbrev pub NoExcessEver : List Link → World → List Step → Type 0
NoExcessEver order w steps = AllByRecursion NoExcessIn (worlds order w steps)
