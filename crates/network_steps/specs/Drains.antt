-- What a drain relies on. This project's own rule.
use Rattle.std.specs.Prelude.{◌≡◌, List}
use Rattle.std.specs.List.{AllByRecursion}
use Rattle.network_steps.specs.Steps.{Link}

-- no channel leads from a chain to itself
abbrev pub HasNoSelfLink : List Link → Type 0
HasNoSelfLink order = AllByRecursion (λ (link : Link). link.0 ≡ link.1 → ⊥) order
