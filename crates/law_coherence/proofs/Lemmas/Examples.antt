-- The first cause in small networks.
use Rattle.std.specs.Prelude.{◌≡◌, ℕ, List, [], ◌∷◌, Some, None, refl}
use Rattle.locations.specs.declared.grammar.NetworkId.TheVariants.{Polkadot}
use Rattle.locations.specs.declared.grammar.Junction.{Junction}
use Rattle.locations.specs.declared.grammar.Junction.TheVariants.{Parachain, PalletInstance}
use Rattle.locations.specs.declared.relative.Location.{Location}
use Rattle.asset_lists.specs.declared.units.Kind.TheVariants.{Fungible}
use Rattle.chain_ids.specs.declared.chain.ChainId.{ChainId}
use Rattle.chain_ids.specs.declared.chain.ChainId.TheVariants.{Relay, Para}
use Rattle.trust_tables.specs.declared.rows.AssetRow.{AssetRow}
use Rattle.trust_tables.specs.declared.rows.AssetRole.{AssetRole}
use Rattle.trust_tables.specs.declared.rows.AssetRole.TheVariants.{Native, Derivative}
use Rattle.law_coherence.specs.Networks.{Table}
use Rattle.law_coherence.specs.Causes.{PathTwice, IdNotNormal, PartnerUnlisted, ReserveUnlisted, table_cause}

abbrev at : ℕ → List Junction → Location
at parents interior = record { parents = parents; interior = interior }

abbrev row : Location → AssetRole → AssetRow
row id role = record { id = id; kind = Fungible; role = role }

abbrev chain : ChainId → List AssetRow → Table
chain id rows = record { site = record { network = Polkadot; chain = id }; rows = rows }

no_cause : table_cause (chain Relay (row (at 0 []) (Native [] None) ∷ []) ∷ chain (Para 2000) (row (at 1 []) (Derivative Relay) ∷ []) ∷ chain (Para 2001) (row (at 1 []) (Derivative Relay) ∷ []) ∷ []) ≡ None
no_cause = refl

reserve_unlisted : table_cause (chain Relay (row (at 0 []) (Native [] None) ∷ []) ∷ chain (Para 2000) (row (at 1 []) (Derivative Relay) ∷ []) ∷ chain (Para 2001) (row (at 1 []) (Derivative (Para 2000)) ∷ []) ∷ []) ≡ Some (ReserveUnlisted, Para 2001, Para 2000)
reserve_unlisted = refl

partner_unlisted : table_cause (chain Relay (row (at 0 []) (Native (Para 1000 ∷ []) None) ∷ []) ∷ chain (Para 1000) (row (at 1 []) (Native [] None) ∷ []) ∷ []) ≡ Some (PartnerUnlisted, Relay, Para 1000)
partner_unlisted = refl

-- up and down again is another name of the chain itself
not_normal : table_cause (chain (Para 1000) (row (at 1 (Parachain 1000 ∷ PalletInstance 3 ∷ [])) (Native [] None) ∷ []) ∷ []) ≡ Some (IdNotNormal, Para 1000, Para 1000)
not_normal = refl

path_twice : table_cause (chain (Para 1000) (row (at 1 (Parachain 1000 ∷ [])) (Native [] None) ∷ row (at 0 []) (Native [] None) ∷ []) ∷ []) ≡ Some (PathTwice, Para 1000, Para 1000)
path_twice = refl
