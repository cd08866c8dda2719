-- The references of chains, chain by chain.
use Rattle.std.proofs.Common.{◌≡◌, ℕ, ◌+◌, ◌<◌, List, length, get_or, take, drop, refl, arith, Ok, Err}
use Rattle.std.proofs.lemmas.List.{drop_more, drop_all, take_more}
use Rattle.locations.specs.declared.grammar.NetworkId.{NetworkId}
use Rattle.network_spec.specs.declared.chain.ChainSpec.{ChainSpec}
use Rattle.document_entries.specs.declared.fault.NetworkFault.{NetworkFault}
use Rattle.document_entries.specs.Forms.{next_index}
use Rattle.network_config.specs.References.{chain_references, chains_references}

pub chain_checked : (chains : List ChainSpec) (network : NetworkId) (xs : List ChainSpec) (k i : ℕ) (x : ChainSpec) → k < length xs → x ≡ get_or xs k x → chain_references chains network i (take k xs) x ≡ Ok tt
    → chains_references chains network i (take k xs) (drop k xs) ≡ chains_references chains network (next_index i) (take (k + 1) xs) (drop (k + 1) xs)
unfolding chains_references
chain_checked chains network xs k i x l e r = rw (drop_more xs k x l, take_more xs k x l, ← e, r) refl

pub chain_refused : (chains : List ChainSpec) (network : NetworkId) (xs : List ChainSpec) (k i : ℕ) (x : ChainSpec) (fault : NetworkFault) → k < length xs → x ≡ get_or xs k x → chain_references chains network i (take k xs) x ≡ Err fault
    → chains_references chains network i (take k xs) (drop k xs) ≡ Err fault
unfolding chains_references
chain_refused chains network xs k i x fault l e r = rw (drop_more xs k x l, ← e, r) refl

pub chains_checked : (chains : List ChainSpec) (network : NetworkId) (xs : List ChainSpec) (k i : ℕ) (earlier : List ChainSpec) → length xs ≡ k → chains_references chains network i earlier (drop k xs) ≡ Ok tt
unfolding chains_references
chains_checked chains network xs k i earlier e = rw (drop_all k xs (omega arith)) refl
