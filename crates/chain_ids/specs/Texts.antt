-- The texts of chains in step lines and reports. Source: this project's own rule.
use Rattle.std.specs.Prelude.{ℕ, List, codes, decimal}
use Rattle.chain_ids.specs.declared.chain.ChainId.{ChainId}
use Rattle.chain_ids.specs.declared.chain.ChainId.TheVariants.{Relay, Para}

-- `relay`, or the number
abbrev pub chain_text : ChainId → List ℕ
chain_text Relay = codes "relay"
chain_text (Para number) = decimal number
