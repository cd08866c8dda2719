-- Each cause by itself, as `coherence` looks for it: over chains in order, their rows in listed order and a row's partners in listed
-- order. The first cause is the first of these. This project's own rule.
use Rattle.std.specs.Prelude.{Bool, not, ◌&&◌, List, Option, None, if◌then◌else◌}
use Rattle.std.specs.List.{list_any}
use Rattle.locations.specs.Chains.{is_normal}
use Rattle.chain_ids.specs.declared.chain.ChainId.{ChainId}
use Rattle.trust_tables.specs.declared.rows.AssetRow.{AssetRow}
use Rattle.law_coherence.specs.Networks.{Table, context_of, asset_of_row, is_native_role}
use Rattle.law_coherence.specs.Causes.{Incoherent, ChainEntry, PathTwice, IdNotNormal, PartnerUnlisted, InstanceTwice, chain_of_entry, first_some, when, has_path_twice, is_twin, has_partner, lists_back, partner_unlisted, reserve_unlisted, shares_instance, not_backed, checking_in, falls_short}

abbrev pub paths_twice : List Table → Option Incoherent
paths_twice n = first_some (λ (s : Table). when (has_path_twice s s.rows) (PathTwice, s.site.chain, s.site.chain)) n

-- of a chain: some id isn't normal
abbrev pub id_not_normal : Table → Option Incoherent
id_not_normal s = first_some (λ (x : AssetRow). when (not (is_normal (context_of s) x.id)) (IdNotNormal, s.site.chain, s.site.chain)) s.rows

abbrev pub ids_not_normal : List Table → Option Incoherent
ids_not_normal n = first_some id_not_normal n

-- some row of the second table is of the row's asset, native, with the first chain as partner
abbrev pub has_back : Table → AssetRow → Table → Bool
has_back s x t = list_any (λ y. is_twin s x t y && has_partner s.site.chain y.role) t.rows

-- some row of the second table is of the row's asset, and native
abbrev pub has_source : Table → AssetRow → Table → Bool
has_source s x t = list_any (λ y. is_twin s x t y && is_native_role y.role) t.rows

-- of a row: the first partner that doesn't list it back
abbrev pub first_unlisted : List Table → Table → AssetRow → List ChainId → Option Incoherent
first_unlisted n s x partners = first_some (λ chain. when (not (list_any (lists_back s x chain) n)) (PartnerUnlisted, s.site.chain, chain)) partners

abbrev pub partners_unlisted_at : List Table → Table → Option Incoherent
partners_unlisted_at n s = first_some (λ (x : AssetRow). partner_unlisted n s x x.role) s.rows

abbrev pub partners_unlisted : List Table → List Table → Option Incoherent
partners_unlisted n chains = first_some (partners_unlisted_at n) chains

abbrev pub reserves_unlisted_at : List Table → Table → Option Incoherent
reserves_unlisted_at n s = first_some (λ (x : AssetRow). reserve_unlisted n s x x.role) s.rows

abbrev pub reserves_unlisted : List Table → List Table → Option Incoherent
reserves_unlisted n chains = first_some (reserves_unlisted_at n) chains

-- of a native row: the first later home that shares an instance
abbrev pub first_sharing : ChainEntry → AssetRow → List ChainEntry → Option Incoherent
first_sharing e x later = first_some (λ (d : ChainEntry). when (shares_instance (asset_of_row e.table x) e d) (InstanceTwice, chain_of_entry e, chain_of_entry d)) later

abbrev pub row_sharing : ChainEntry → List ChainEntry → AssetRow → Option Incoherent
row_sharing e later x = if is_native_role x.role then first_sharing e x later else None

-- of a chain: the first row that shares an instance with a later home
abbrev pub chain_sharing : ChainEntry → List ChainEntry → Option Incoherent
chain_sharing e later = first_some (row_sharing e later) e.table.rows

abbrev pub not_backed_at : List ChainEntry → ChainEntry → Option Incoherent
not_backed_at n e = first_some (λ (x : AssetRow). not_backed n e x x.role) e.table.rows

abbrev pub unbacked : List ChainEntry → List ChainEntry → Option Incoherent
unbacked n chains = first_some (not_backed_at n) chains

abbrev pub falls_short_at : List ChainEntry → ChainEntry → Option Incoherent
falls_short_at n e = first_some (λ (x : AssetRow). falls_short n e x (checking_in x.role)) e.table.rows

abbrev pub checkings_short : List ChainEntry → List ChainEntry → Option Incoherent
checkings_short n chains = first_some (falls_short_at n) chains
