-- When two names are of one chain. Source: this project's own rule.
use Rattle.std.specs.Prelude.{◌==◌, Bool, true, false}
use Rattle.chain_ids.specs.declared.chain.ChainId.{ChainId}
use Rattle.chain_ids.specs.declared.chain.ChainId.TheVariants.{Relay, Para}

-- whether two names are of one chain, as a test that computes
abbrev pub same_chain : ChainId → ChainId → Bool
same_chain Relay Relay = true
same_chain Relay (Para n) = false
same_chain (Para m) Relay = false
same_chain (Para m) (Para n) = m == n
