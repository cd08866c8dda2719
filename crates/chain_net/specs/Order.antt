-- The order of the chains of a network. This project's own rule.
use Rattle.std.specs.Prelude.{Bool, true, ◌&&◌, List, [], ◌∷◌}
use Rattle.chain_ids.specs.declared.chain.ChainId.{ChainId}
use Rattle.network_steps.specs.Tests.{comes_before}

-- each chain after the one before it
abbrev pub rise : ChainId → List ChainId → Bool
rise before [] = true
rise before (c ∷ cs) = comes_before before c && rise c cs

-- the relay chain first, then parachains by their numbers
abbrev pub are_in_order : List ChainId → Bool
are_in_order [] = true
are_in_order (c ∷ cs) = rise c cs
