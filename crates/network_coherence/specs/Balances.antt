-- What the balances of a network document say, row by row. This project's own.
use Rattle.std.specs.Prelude.{ℕ, Bool, true, ◌&&◌, not, nat_lt, nat_eq, if◌then◌else◌, List, [], ◌∷◌, Option, None, Some}
use Rattle.std.specs.List.{list_any}
use Rattle.locations.specs.declared.grammar.Junction.{Junction}
use Rattle.asset_lists.specs.Units.{unit_of, amount_of}
use Rattle.ledgers.specs.Ledgers.{Holder, is_account}
use Rattle.chain_ids.specs.declared.chain.ChainId.{ChainId}
use Rattle.chain_ids.specs.Chains.{same_chain}
use Rattle.law_coherence.specs.Networks.{is_home}
use Rattle.law_coherence.specs.UniversalAssets.{UniversalAsset, Choice, every, just, is_unit_at}
use Rattle.law_coherence.specs.Causes.{ChainEntry, chain_of_entry, amount_at, amount_for, is_class_instance}
use Rattle.network_spec.specs.declared.chain.Balance.{Balance}

-- who holds what
abbrev pub holder_of : Balance → Holder
holder_of b = (b.who, unit_of b.asset)

-- the balances as rows, each with its amount
abbrev pub balance_rows : List Balance → List (Holder × ℕ)
balance_rows [] = []
balance_rows (b ∷ bs) = (holder_of b, amount_of b.asset) ∷ balance_rows bs

-- the account, or any where none is given
abbrev pub is_of_account : Option (List ℕ) → Holder → Bool
is_of_account None h = true
is_of_account (Some who) h = is_account who h

-- of the account, or any where none is given, and of these units of the asset
abbrev pub is_held_unit_of : Option (List ℕ) → List Junction → UniversalAsset → Choice → Holder → Bool
is_held_unit_of who context a choice h = is_of_account who h && is_unit_at context a choice h.1

-- a balance above 0 whose holder passes
abbrev pub has_some : (Holder → Bool) → Balance → Bool
has_some test b = nat_lt 0 (amount_of b.asset) && test (holder_of b)

abbrev pub some_balance : (Holder → Bool) → List Balance → Bool
some_balance test balances = list_any (has_some test) balances

-- an instance of the asset that has an owner at the other chain too
abbrev pub is_shared : List Junction → UniversalAsset → ChainEntry → Holder → Bool
is_shared context a d h = is_unit_at context a every h.1 && (is_class_instance h.1.1 && nat_lt 0 (amount_at a (just h.1.1) d))

-- a unit of the asset that the account at the other chain lacks
abbrev pub is_uncovered : List Junction → UniversalAsset → ChainId → ChainEntry → Holder → Bool
is_uncovered context a chain r h = is_unit_at context a every h.1 && nat_eq (amount_for chain a (just h.1.1) r) 0

-- what a chain counts for among the other homes of the asset
abbrev pub share_elsewhere : UniversalAsset → ChainId → ChainEntry → ℕ
share_elsewhere a chain d = if not (same_chain (chain_of_entry d) chain) && is_home a d.table then amount_at a every d else 0
