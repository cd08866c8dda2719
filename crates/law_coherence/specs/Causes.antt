-- Why a network isn't coherent: the first cause, with its two chains. The causes and their order are this project's own rule.
use Rattle.std.specs.Prelude.{ℕ, nat_lt, nat_eq, Bool, true, false, not, ◌&&◌, ◌||◌, if◌then◌else◌, List, [], ◌∷◌, Option, Some, None, find, sum_by}
use Rattle.std.specs.List.{list_any}
use Rattle.std.specs.Option.{option_or}
use Rattle.std.specs.Ordering.{eq_by_cmp}
use Rattle.amounts.specs.Amounts.{total, rows}
use Rattle.locations.specs.Order.{junctions_cmp}
use Rattle.locations.specs.Chains.{is_normal}
use Rattle.asset_lists.specs.declared.units.Instance.{Instance}
use Rattle.ledgers.specs.Ledgers.{Holder, Held, is_account}
use Rattle.chain_ids.specs.declared.chain.ChainId.{ChainId}
use Rattle.trust_tables.specs.declared.rows.AssetRow.{AssetRow}
use Rattle.trust_tables.specs.declared.rows.AssetRole.{AssetRole}
use Rattle.trust_tables.specs.declared.rows.AssetRole.TheVariants.{Native, Derivative}
use Rattle.trust_tables.specs.Accounts.{sovereign_account}
use Rattle.asset_lists.specs.Listed.{same_kind}
use Rattle.chain_ids.specs.Chains.{same_chain}
use Rattle.law_coherence.specs.UniversalAssets.{UniversalAsset, Choice, every, just, is_unit_at}
use Rattle.law_coherence.specs.Networks.{Table, context_of, path_of_row, asset_of_row, is_native_role, is_home}

-- what the document says of a chain: its table, what its accounts hold at genesis; its rows say their checking accounts
pub record ChainEntry : Type 0 where
  pub table : Table
  pub held : Held

abbrev pub chain_of_entry : ChainEntry → ChainId
chain_of_entry e = e.table.site.chain

pub data Cause : Type 0 where
  PathTwice : Cause
  IdNotNormal : Cause
  PartnerUnlisted : Cause
  ReserveUnlisted : Cause
  InstanceTwice : Cause
  NotBacked : Cause
  CheckingShort : Cause

abbrev pub Incoherent : Type 0
Incoherent = Cause × ChainId × ChainId

-- ---- tools
abbrev pub first_some : {A B : Type 0} → (A → Option B) → List A → Option B
first_some f [] = None
first_some f (x ∷ xs) = option_or (f x) (first_some f xs)

abbrev pub when : {B : Type 0} → Bool → B → Option B
when b x = if b then Some x else None

-- ---- 1 and 2: rows of one chain
abbrev pub same_path : Table → AssetRow → AssetRow → Bool
same_path t x y = eq_by_cmp junctions_cmp (path_of_row t x) (path_of_row t y)

abbrev pub has_path_twice : Table → List AssetRow → Bool
has_path_twice t [] = false
has_path_twice t (x ∷ xs) = list_any (same_path t x) xs || has_path_twice t xs

-- ---- 3 and 4: the row at another chain
abbrev pub is_twin : Table → AssetRow → Table → AssetRow → Bool
is_twin s x t y = eq_by_cmp junctions_cmp (path_of_row t y) (path_of_row s x) && same_kind y.kind x.kind

abbrev pub has_partner : ChainId → AssetRole → Bool
has_partner chain (Native partners checking) = list_any (λ partner. same_chain partner chain) partners
has_partner chain (Derivative reserve) = false

abbrev pub lists_back : Table → AssetRow → ChainId → Table → Bool
lists_back s x chain t = same_chain t.site.chain chain && list_any (λ y. is_twin s x t y && has_partner s.site.chain y.role) t.rows

abbrev pub lists_native : Table → AssetRow → ChainId → Table → Bool
lists_native s x chain t = same_chain t.site.chain chain && list_any (λ y. is_twin s x t y && is_native_role y.role) t.rows

abbrev pub partner_unlisted : List Table → Table → AssetRow → AssetRole → Option Incoherent
partner_unlisted n s x (Native partners checking) = first_some (λ chain. when (not (list_any (lists_back s x chain) n)) (PartnerUnlisted, s.site.chain, chain)) partners
partner_unlisted n s x (Derivative reserve) = None

abbrev pub reserve_unlisted : List Table → Table → AssetRow → AssetRole → Option Incoherent
reserve_unlisted n s x (Native partners checking) = None
reserve_unlisted n s x (Derivative chain) = when (not (list_any (lists_native s x chain) n)) (ReserveUnlisted, s.site.chain, chain)

-- the causes that the tables alone show, in their order
abbrev pub table_cause : List Table → Option Incoherent
table_cause n =
    option_or (first_some (λ (s : Table). when (has_path_twice s s.rows) (PathTwice, s.site.chain, s.site.chain)) n)
    (option_or (first_some (λ (s : Table). first_some (λ (x : AssetRow). when (not (is_normal (context_of s) x.id)) (IdNotNormal, s.site.chain, s.site.chain)) s.rows) n)
    (option_or (first_some (λ (s : Table). first_some (λ (x : AssetRow). partner_unlisted n s x x.role) s.rows) n)
    (first_some (λ (s : Table). first_some (λ (x : AssetRow). reserve_unlisted n s x x.role) s.rows) n)))

-- ---- 5 to 7: what is held at genesis
abbrev pub amount_at : UniversalAsset → Choice → ChainEntry → ℕ
amount_at a choice e = total (λ (h : Holder). is_unit_at (context_of e.table) a choice h.1) e.held

abbrev pub amount_for : ChainId → UniversalAsset → Choice → ChainEntry → ℕ
amount_for chain a choice e = total (λ (h : Holder). is_account (sovereign_account (chain_of_entry e) chain) h && is_unit_at (context_of e.table) a choice h.1) e.held

-- some instance of the asset that is at the first chain passes
abbrev pub any_instance : UniversalAsset → ChainEntry → (Option Instance → Bool) → Bool
any_instance a e test = list_any (λ (row : Holder × ℕ). is_unit_at (context_of e.table) a every row.0.1 && test row.0.1.1) (rows e.held)

abbrev pub is_class_instance : Option Instance → Bool
is_class_instance None = false
is_class_instance (Some instance) = true

abbrev pub shares_instance : UniversalAsset → ChainEntry → ChainEntry → Bool
shares_instance a e d = is_home a d.table && any_instance a e (λ instance. is_class_instance instance && nat_lt 0 (amount_at a (just instance) d))

abbrev pub instance_twice : List ChainEntry → Option Incoherent
instance_twice [] = None
instance_twice (e ∷ later) =
    option_or (first_some (λ (x : AssetRow). if is_native_role x.role
    then first_some (λ (d : ChainEntry). when (shares_instance (asset_of_row e.table x) e d) (InstanceTwice, chain_of_entry e, chain_of_entry d)) later else None) e.table.rows)
    (instance_twice later)

-- the reserve keeps less than there is, or not some instance
abbrev pub is_short : UniversalAsset → ChainEntry → Option ChainEntry → Bool
is_short a e None = false
is_short a e (Some r) = nat_lt (amount_for (chain_of_entry e) a every r) (amount_at a every e)
    || any_instance a e (λ instance. nat_eq (amount_for (chain_of_entry e) a (just instance) r) 0)

abbrev pub entry_at : List ChainEntry → ChainId → Option ChainEntry
entry_at n chain = find (λ (e : ChainEntry). same_chain (chain_of_entry e) chain) n

abbrev pub not_backed : List ChainEntry → ChainEntry → AssetRow → AssetRole → Option Incoherent
not_backed n e x (Native partners checking) = None
not_backed n e x (Derivative chain) = when (is_short (asset_of_row e.table x) e (entry_at n chain)) (NotBacked, chain_of_entry e, chain)

-- what other homes have
abbrev pub elsewhere : UniversalAsset → ChainId → List ChainEntry → ℕ
elsewhere a chain n = sum_by (λ (d : ChainEntry). if not (same_chain (chain_of_entry d) chain) && is_home a d.table then amount_at a every d else 0) n

abbrev pub checking_in : AssetRole → Option ℕ
checking_in (Native partners checking) = checking
checking_in (Derivative reserve) = None

-- the account is below what other homes have
abbrev pub falls_short : List ChainEntry → ChainEntry → AssetRow → Option ℕ → Option Incoherent
falls_short n e x None = None
falls_short n e x (Some amount) = when (nat_lt amount (elsewhere (asset_of_row e.table x) (chain_of_entry e) n)) (CheckingShort, chain_of_entry e, chain_of_entry e)

abbrev pub entry_tables : List ChainEntry → List Table
entry_tables [] = []
entry_tables (e ∷ es) = e.table ∷ entry_tables es

-- the first cause
abbrev pub first_cause : List ChainEntry → Option Incoherent
first_cause n =
    option_or (table_cause (entry_tables n))
    (option_or (instance_twice n)
    (option_or (first_some (λ (e : ChainEntry). first_some (λ (x : AssetRow). not_backed n e x x.role) e.table.rows) n)
    (first_some (λ (e : ChainEntry). first_some (λ (x : AssetRow). falls_short n e x (checking_in x.role)) e.table.rows) n)))
