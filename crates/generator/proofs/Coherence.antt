-- That none of the causes is found in the generator's network: its tables by computing, and what its parachains owe, which is nothing.
use Rattle.std.proofs.Common.{◌≡◌, ◌∙◌, ℕ, [], Bool, false, refl, ap, Option, Some, None}
use Rattle.std.specs.Prelude.{nat_lt, nat_eq, ◌&&◌}
use Rattle.std.specs.List.{list_any}
use Rattle.std.specs.Option.{option_or}
use Rattle.std.proofs.lemmas.Bool.{or_from}
use Rattle.amounts.specs.Amounts.{empty, rows, total, from_rows, plus_all}
use Rattle.amounts.proofs.Lemmas.AmountLaws.{total-empty}
use Rattle.amounts.proofs.Lemmas.{rows-from_rows}
use Rattle.asset_lists.specs.declared.units.Instance.{Instance}
use Rattle.asset_lists.specs.declared.units.Kind.TheVariants.{Fungible}
use Rattle.chain_ids.specs.declared.chain.ChainId.TheVariants.{Relay, Para}
use Rattle.ledgers.specs.Ledgers.{Holder, holder_cmp}
use Rattle.ledgers.proofs.Lemmas.{holder_keys}
use Rattle.trust_tables.specs.declared.rows.AssetRow.{AssetRow}
use Rattle.trust_tables.specs.declared.rows.AssetRole.TheVariants.{Derivative}
use Rattle.law_coherence.specs.UniversalAssets.{UniversalAsset, every, just, is_unit_at}
use Rattle.law_coherence.specs.Networks.{context_of, asset_of_row}
use Rattle.law_coherence.specs.Causes.{ChainEntry, Incoherent, NotBacked, chain_of_entry, first_some, when, first_cause, table_cause, entry_tables, instance_twice, not_backed, falls_short, checking_in, is_short, entry_at, amount_at, amount_for, any_instance}
use Rattle.network_steps.specs.Genesis.{entry_of, entries_of}
use Rattle.generator.specs.Network.{described_network, up, parachain}
use Rattle.plain_lists.proofs.Lemmas.Facts.{never_below_zero as never_below}

-- ---- who has nothing owes nothing

rows-none : rows (empty {R = holder_cmp}) ≡ []
unfolding from_rows plus_all
rows-none = rows-from_rows holder_keys [] tt tt

nothing_owed : (a : UniversalAsset) (e : ChainEntry) (reserve : Option ChainEntry) → e.held ≡ empty → is_short a e reserve ≡ false
nothing_owed a e None nothing = refl
nothing_owed a e (Some r) nothing =
    let unit : Holder → Bool = λ h. is_unit_at (context_of e.table) a every h.1 in
    let test : Option Instance → Bool = λ instance. nat_eq (amount_for (chain_of_entry e) a (just instance) r) 0 in
    let none : amount_at a every e ≡ 0 = ap (total unit) nothing ∙ total-empty holder_keys unit in
    let no_row : rows e.held ≡ [] = ap rows nothing ∙ rows-none in
    or_from (nat_lt (amount_for (chain_of_entry e) a every r) (amount_at a every e)) (any_instance a e test)
    (ap (nat_lt (amount_for (chain_of_entry e) a every r)) none ∙ never_below (amount_for (chain_of_entry e) a every r))
    (ap (list_any (λ (row : Holder × ℕ). unit row.0 && test row.0.1.1)) no_row)

two_covered : (b c : Bool) (x y : Incoherent) → b ≡ false → c ≡ false
    → option_or (option_or None None) (option_or (option_or (when b x) None) (option_or (option_or (when c y) None) None)) ≡ None
two_covered b c x y e f = rw (e, f) refl

-- ---- the network

abbrev entry : ℕ → ChainEntry
entry id = entry_of described_network (parachain id)

abbrev derivative : AssetRow
derivative = record { id = up 1; kind = Fungible; role = Derivative Relay }

abbrev short : ℕ → Bool
short id = is_short (asset_of_row (entry id).table derivative) (entry id) (entry_at (entries_of described_network) Relay)

-- a parachain's derivative is covered
covered : (id : ℕ) → short id ≡ false
covered id = nothing_owed (asset_of_row (entry id).table derivative) (entry id) (entry_at (entries_of described_network) Relay) refl

tables : table_cause (entry_tables (entries_of described_network)) ≡ None
unfolding described_network
tables = refl

homes : instance_twice (entries_of described_network) ≡ None
unfolding described_network
homes = refl

backed : first_some (λ (e : ChainEntry). first_some (λ (x : AssetRow). not_backed (entries_of described_network) e x x.role) e.table.rows) (entries_of described_network) ≡ None
unfolding described_network
backed = two_covered (short 2000) (short 2001) (NotBacked, Para 2000, Relay) (NotBacked, Para 2001, Relay) (covered 2000) (covered 2001)

checked : first_some (λ (e : ChainEntry). first_some (λ (x : AssetRow). falls_short (entries_of described_network) e x (checking_in x.role)) e.table.rows) (entries_of described_network) ≡ None
unfolding described_network
checked = refl

all_none : (t i b f : Option Incoherent) → t ≡ None → i ≡ None → b ≡ None → f ≡ None → option_or t (option_or i (option_or b f)) ≡ None
all_none t i b f p q r s = ap (λ o. option_or o (option_or i (option_or b f))) p ∙ ap (λ o. option_or o (option_or b f)) q ∙ ap (λ o. option_or o f) r ∙ s

pub no_cause : first_cause (entries_of described_network) ≡ None
no_cause = all_none _ _ _ _ tables homes backed checked
