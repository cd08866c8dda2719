-- What a network document gives: chains that are apart, each instance once, and supplies below 2^127.
use Rattle.std.proofs.Common.{◌≡◌, ℕ, zero, suc, ◌^◌, ◌<◌, ◌≤◌, Bool, true, false, List, [], ◌∷◌, length, Option, Some, map, refl, sym, ap, ◌∙◌, subst, arith}
use Rattle.std.specs.Prelude.{⊤, not, nat_le, nat_lt, if◌then◌else◌, slice_get}
use Rattle.std.specs.List.{All, sum_by}
use Rattle.std.proofs.lemmas.Bool.{and_parts}
use Rattle.std.proofs.lemmas.Bool.Decides.{nat_tests}
use Rattle.std.proofs.lemmas.List.Sums.{sum_by-cons}
use Rattle.amounts.specs.Amounts.{total, empty}
use Rattle.amounts.proofs.Lemmas.AmountLaws.{total-empty}
use Rattle.amounts.proofs.Lemmas.{amount_at_most}
use Rattle.locations.specs.declared.grammar.NetworkId.{NetworkId}
use Rattle.asset_lists.specs.Units.{unit_cmp}
use Rattle.asset_lists.specs.Listed.{listed_of, lists}
use Rattle.asset_bundles.proofs.Lemmas.Bundles.{unit_keys}
use Rattle.asset_bundles.proofs.Lemmas.{burn_keys}
use Rattle.ledgers.specs.Ledgers.{Holder, Held}
use Rattle.ledgers.proofs.Lemmas.{holder_keys}
use Rattle.std.specs.Ordering.{eq_by_cmp}
use Rattle.chain_ids.specs.declared.chain.ChainId.{ChainId}
use Rattle.chain_ids.specs.declared.chain.ChainId.TheVariants.{Relay, Para}
use Rattle.trust_tables.specs.declared.rows.AssetRow.{AssetRow}
use Rattle.trust_tables.specs.Accounts.{IsChain}
use Rattle.trust_tables.specs.Trust.{listing}
use Rattle.law_coherence.specs.UniversalAssets.{UniversalAsset, every, just, is_unit_at}
use Rattle.law_coherence.specs.Networks.{Table, context_of, IsIn, path_of_row, IsNetwork, Agrees, is_home}
use Rattle.law_coherence.specs.Causes.{ChainEntry, amount_at, checking_in, table_cause}
use Rattle.law_coherence.specs.Causes as causes
use Rattle.law_coherence.proofs.Lemmas.CauseLaws.{or_none, agrees_of_no_cause}
use Rattle.law_coherence.specs.Parts as sums
use Rattle.law_coherence.specs.Parts.{WorldView, stock, burned, own, home, supply, population, Backed, in_channels, teleported}
use Rattle.law_coherence.specs.Checking.{AllChecked, AllBounded}
use Rattle.law_coherence.proofs.Lemmas.Checking.{first_within}
use Rattle.law_coherence.proofs.Lemmas.CheckingLaws.{all_bounded}
use Rattle.law_coherence.specs.Steps.{tables_of}
use Rattle.law_coherence.specs.Genesis as genesis
use Rattle.law_coherence.specs.Genesis.{HasInstancesOnce, HasLowAccounts}
use Rattle.law_coherence.proofs.Lemmas.Genesis.{sound_first, first_low}
use Rattle.law_coherence.proofs.Lemmas.InstancesOnce.{instances_once}
use Rattle.law_coherence.specs.Payments.{AreHeldListed}
use Rattle.network_spec.specs.declared.chain.ChainSpec.{ChainSpec}
use Rattle.network_spec.specs.declared.network.NetworkSpec.{NetworkSpec}
use Rattle.network_steps.specs.Tests.{has_path, have_paths, past_amounts, role_checking, row_checking, is_low, have_low_checkings, comes_before, rises, is_in_order}
use Rattle.network_steps.specs.Genesis.{with_balances, first_world, entry_of, entries_of}
use Rattle.network_steps.specs.Openable.{IsOpenableChain, IsOpenable}
use Rattle.network_steps.specs.Worlds as networks
use Rattle.law_steps.specs.Shapes.{NothingWaits, AllShaped}
use Rattle.law_steps.proofs.Lemmas.Rooms.{listed_found, unit_of_row}
use Rattle.law_steps.specs.Worlds.{IsFirst}
use Rattle.law_steps.specs.Kept.{IsCoherent}
use Rattle.law_steps.proofs.Balances.{of_unlisted, none_unlisted, one_owner}
use Rattle.law_steps.proofs.Firsts.{all_spelled, all_recursive, same_role, links_in, world_seen, parts_sound, nothing_waits}
use Rattle.plain_lists.proofs.Lemmas.Facts.{told_at_most as at_most, told_below as below}

-- ---- chains in order
lower : (a b c : ℕ) → nat_lt a b ≡ true → nat_lt b c ≡ true → nat_lt a c ≡ true
lower a b c h k = grind (arith, nat_tests, h, k)

before_then : (a b c : ChainId) → comes_before a b ≡ true → comes_before b c ≡ true → comes_before a c ≡ true
before_then Relay Relay c h k = absurd cc
before_then Relay (Para m) Relay h k = absurd cc
before_then Relay (Para m) (Para n) h k = refl
before_then (Para l) Relay c h k = absurd cc
before_then (Para l) (Para m) Relay h k = absurd cc
before_then (Para l) (Para m) (Para n) h k = lower l m n h k

not_before_itself : (a : ChainId) → comes_before a a ≡ true → ⊥
not_before_itself Relay h = absurd cc
not_before_itself (Para n) h = let lt = below n n h in absurd (omega (arith, lt))

same_chain_spec : (x y : ChainSpec) → Some x ≡ Some y → x ≡ y
same_chain_spec x y e = cc

comes_later : (before : ChainId) (cs : List ChainSpec) → rises before cs ≡ true → (k : ℕ) (c : ChainSpec) → slice_get cs k ≡ Some c → comes_before before c.chain ≡ true
comes_later before [] h k c at = absurd cc
comes_later before (d ∷ cs) h zero c at = subst (λ (x : ChainSpec). comes_before before x.chain ≡ true) (same_chain_spec d c at) (and_parts (comes_before before d.chain) (rises d.chain cs) h).0
comes_later before (d ∷ cs) h (suc k) c at =
    let parts = and_parts (comes_before before d.chain) (rises d.chain cs) h in
    before_then before d.chain c.chain parts.0 (comes_later d.chain cs parts.1 k c at)

-- each chain after the one before it
abbrev Rising : List ChainSpec → Type 0
Rising [] = ⊤
Rising (c ∷ cs) = rises c.chain cs ≡ true

rising_tail : (c : ChainSpec) (cs : List ChainSpec) → rises c.chain cs ≡ true → Rising cs
rising_tail c [] h = tt
rising_tail c (d ∷ cs) h = (and_parts (comes_before c.chain d.chain) (rises d.chain cs) h).1

one_place : (cs : List ChainSpec) → Rising cs → (i j : ℕ) (c d : ChainSpec) → slice_get cs i ≡ Some c → slice_get cs j ≡ Some d → c.chain ≡ d.chain → i ≡ j
one_place [] h i j c d at_i at_j same = absurd cc
one_place (x ∷ cs) h zero zero c d at_i at_j same = refl
one_place (x ∷ cs) h zero (suc j) c d at_i at_j same =
    let later = comes_later x.chain cs h j d at_j in
    absurd (not_before_itself d.chain (subst (λ (a : ChainId). comes_before a d.chain ≡ true) (ap (λ (y : ChainSpec). y.chain) (same_chain_spec x c at_i) ∙ same) later))
one_place (x ∷ cs) h (suc i) zero c d at_i at_j same =
    let later = comes_later x.chain cs h i c at_i in
    absurd (not_before_itself c.chain (subst (λ (a : ChainId). comes_before a c.chain ≡ true) (ap (λ (y : ChainSpec). y.chain) (same_chain_spec x d at_j) ∙ sym same) later))
one_place (x ∷ cs) h (suc i) (suc j) c d at_i at_j same = ap suc (one_place cs (rising_tail x cs h) i j c d at_i at_j same)

rising_all : (cs : List ChainSpec) → is_in_order cs ≡ true → Rising cs
rising_all [] h = tt
rising_all (c ∷ cs) h = (and_parts _ (rises c.chain cs) h).1

-- ---- tables
chain_at : (spec : NetworkSpec) (cs : List ChainSpec) (k : ℕ) (t : Table) → slice_get (causes.entry_tables (map (entry_of spec) cs)) k ≡ Some t → (c : ChainSpec) × (slice_get cs k ≡ Some c) × ((entry_of spec c).table ≡ t)
chain_at spec [] k t at = absurd cc
chain_at spec (c ∷ cs) zero t at = (c, refl, cc)
chain_at spec (c ∷ cs) (suc k) t at = chain_at spec cs k t at

openable_at : (network : NetworkId) (cs : List ChainSpec) → All (IsOpenableChain network) cs → (k : ℕ) (c : ChainSpec) → slice_get cs k ≡ Some c → IsOpenableChain network c
openable_at network [] all k c at = absurd cc
openable_at network (d ∷ cs) all zero c at = subst (IsOpenableChain network) (same_chain_spec d c at) (all_spelled (IsOpenableChain network) d cs all).0
openable_at network (d ∷ cs) all (suc k) c at = openable_at network cs (all_spelled (IsOpenableChain network) d cs all).1 k c at

same_row : (x y : AssetRow) → Some x ≡ Some y → x ≡ y
same_row x y e = cc

path_short : (t : Table) (rows : List AssetRow) → have_paths (context_of t) rows ≡ true → (k : ℕ) (x : AssetRow) → slice_get rows k ≡ Some x → length (path_of_row t x) ≤ 8
path_short t [] h k x at = absurd cc
path_short t (r ∷ rows) h zero x at =
    let parts = and_parts (has_path (context_of t) r) (have_paths (context_of t) rows) h in
    subst (λ (y : AssetRow). length (path_of_row t y) ≤ 8) (same_row r x at) (at_most (length (path_of_row t r)) 8 (and_parts _ (nat_le (length (path_of_row t r)) 8) parts.0).1)
path_short t (r ∷ rows) h (suc k) x at = path_short t rows (and_parts (has_path (context_of t) r) (have_paths (context_of t) rows) h).1 k x at

module _ (spec : NetworkSpec) (openable : IsOpenable spec) where
  chain_of_table : (t : Table) → IsIn (causes.entry_tables (entries_of spec)) t → (c : ChainSpec) × IsOpenableChain spec.network c × ((entry_of spec c).table ≡ t)
  chain_of_table t t_in =
      let found = chain_at spec spec.chains t_in.0 t t_in.1 in
      (found.0, openable_at spec.network spec.chains openable.chains t_in.0 found.0 found.1, found.2)

  pub is_network : IsNetwork (causes.entry_tables (entries_of spec))
  is_network = record {
    one_network = λ s t s_in t_in.
        let a = chain_of_table s s_in in
        let b = chain_of_table t t_in in
        ap (λ (x : Table). x.site.network) (sym a.2) ∙ ap (λ (x : Table). x.site.network) b.2;
    chains = λ s s_in. let a = chain_of_table s s_in in subst (λ (x : Table). IsChain x.site.chain) a.2 a.1.named;
    apart = λ i j s t at_i at_j same.
        let a = chain_at spec spec.chains i s at_i in
        let b = chain_at spec spec.chains j t at_j in
        one_place spec.chains (rising_all spec.chains openable.order) i j a.0 b.0 a.1 b.1 (ap (λ (x : Table). x.site.chain) a.2 ∙ same ∙ ap (λ (x : Table). x.site.chain) (sym b.2));
    short = λ s x s_in x_in.
        let a = chain_of_table s s_in in
        subst (λ (t : Table). IsIn t.rows x → length (path_of_row t x) ≤ 8) a.2 (λ inside. path_short (entry_of spec a.0).table a.0.assets a.1.paths inside.0 x inside.1) x_in;
  }

-- ---- each instance once
entry_at_chain : (spec : NetworkSpec) (cs : List ChainSpec) (k : ℕ) (e : ChainEntry) → slice_get (map (entry_of spec) cs) k ≡ Some e → (c : ChainSpec) × (slice_get cs k ≡ Some c) × (entry_of spec c ≡ e)
entry_at_chain spec [] k e at = absurd cc
entry_at_chain spec (c ∷ cs) zero e at = (c, refl, cc)
entry_at_chain spec (c ∷ cs) (suc k) e at = entry_at_chain spec cs k e at

table_at_entry : (n : List ChainEntry) (k : ℕ) (e : ChainEntry) → slice_get n k ≡ Some e → slice_get (causes.entry_tables n) k ≡ Some e.table
table_at_entry [] k e at = absurd cc
table_at_entry (x ∷ n) zero e at = let same : x ≡ e = cc in ap (λ (y : ChainEntry). Some y.table) same
table_at_entry (x ∷ n) (suc k) e at = table_at_entry n k e at

true_unless : (b : Bool) → (not b ≡ true → ⊥) → b ≡ true
true_unless true h = refl
true_unless false h = absurd (h refl)

held_listed : (t : Table) (held : Held) → total (of_unlisted t.rows) held ≡ 0 → AreHeldListed t held
held_listed t held none h some =
    let listed = true_unless (lists (listing t.rows) (listed_of h.1)) (λ un. let le = amount_at_most holder_keys (of_unlisted t.rows) held h un in omega (arith, le, none, some)) in
    let found = listed_found t.rows (listed_of h.1) listed in
    (found.0, found.1, unit_of_row found.0 h.1 found.2)

module _ (spec : NetworkSpec) (openable : IsOpenable spec) (agrees : Agrees (causes.entry_tables (entries_of spec))) where
  chain_once : (c : ChainSpec) → IsOpenableChain spec.network c → IsIn (causes.entry_tables (entries_of spec)) (entry_of spec c).table → HasInstancesOnce (entry_of spec c)
  chain_once c open_chain t_in =
      instances_once (causes.entry_tables (entries_of spec)) agrees (entry_of spec c) t_in
      (held_listed (entry_of spec c).table (with_balances empty c.accounts) (none_unlisted c.assets empty c.accounts (total-empty holder_keys (of_unlisted c.assets)) open_chain.balances))
      (λ unit i is. one_owner unit i is empty c.accounts (total-empty holder_keys (λ (h : Holder). eq_by_cmp unit_cmp unit h.1)) open_chain.held_once)

  pub instances_are_once : (k : ℕ) (e : ChainEntry) → slice_get (entries_of spec) k ≡ Some e → HasInstancesOnce e
  instances_are_once k e at =
      let found = entry_at_chain spec spec.chains k e at in
      subst HasInstancesOnce found.2
      (chain_once found.0 (openable_at spec.network spec.chains openable.chains k found.0 found.1) (k, table_at_entry (entries_of spec) k (entry_of spec found.0) (at ∙ ap Some (sym found.2))))

-- ---- checking accounts
row_low : (rows : List AssetRow) (k : ℕ) (row : AssetRow) (amount : ℕ) → have_low_checkings rows ≡ true → slice_get rows k ≡ Some row → checking_in row.role ≡ Some amount → amount < 2 ^ 127
row_low [] k row amount low at is = absurd cc
row_low (x ∷ rows) zero row amount low at is =
    let same : x ≡ row = cc in
    let account : role_checking x.role ≡ Some amount = same_role x.role ∙ ap (λ (r : AssetRow). checking_in r.role) same ∙ is in
    below (is_low_at (role_checking x.role) amount account (and_parts (is_low (row_checking x)) (have_low_checkings rows) low).0)
  where
    is_low_at : (o : Option ℕ) (amount : ℕ) → o ≡ Some amount → is_low o ≡ true → nat_lt amount past_amounts ≡ true
    is_low_at o amount e h = sym (ap is_low e) ∙ h

    below : nat_lt amount past_amounts ≡ true → amount < 2 ^ 127
    below h = grind (arith, nat_tests, h)
row_low (x ∷ rows) (suc k) row amount low at is = row_low rows k row amount (and_parts (is_low (row_checking x)) (have_low_checkings rows) low).1 at is

accounts_are_low : (spec : NetworkSpec) → IsOpenable spec → (k : ℕ) (e : ChainEntry) → slice_get (entries_of spec) k ≡ Some e → HasLowAccounts e
accounts_are_low spec openable k e at =
    let found = entry_at_chain spec spec.chains k e at in
    subst HasLowAccounts found.2 (λ row amount inside is. row_low found.0.assets inside.0 row amount (openable_at spec.network spec.chains openable.chains k found.0 found.1).low_checkings inside.1 is)

-- ---- supplies
no_channels : (f : sums.Cargo → ℕ) (to : List ChainId) → in_channels f (genesis.empty_channels to) ≡ 0
unfolding in_channels
no_channels f [] = refl
no_channels f (x ∷ xs) =
    let here = sum_by-cons (λ (c : sums.Channel). sum_by f c.queue) (record { to = x; queue = [] }) (genesis.empty_channels xs) in
    let rest = no_channels f xs in
    omega (arith, here, rest)

stock_first : (links : ChainEntry → List ChainId) (a : UniversalAsset) (e : ChainEntry) → stock a every (genesis.genesis_part links e) ≡ amount_at a every e
unfolding stock
stock_first links a e =
    let z = total-empty unit_keys (is_unit_at (context_of e.table) a every) in
    omega (arith, z)

burned_first : (links : ChainEntry → List ChainId) (a : UniversalAsset) (e : ChainEntry) → burned a (genesis.genesis_part links e) ≡ 0
unfolding burned
burned_first links a e = total-empty burn_keys _

home_first : (links : ChainEntry → List ChainId) (a : UniversalAsset) (e : ChainEntry) → home a (genesis.genesis_part links e) ≤ amount_at a every e
unfolding home
home_first links a e =
    let s = stock_first links a e in
    let b = burned_first links a e in
    let f = no_channels (teleported e.table a every) (links e) in
    let all : own a (genesis.genesis_part links e) ≤ amount_at a every e = omega (arith, s, b, f) in
    elim (is_home a e.table) as (λ b. (if b then own a (genesis.genesis_part links e) else 0) ≤ amount_at a every e) [ true ↦ all | false ↦ omega arith ]

supply_first : (links : ChainEntry → List ChainId) (a : UniversalAsset) (n : List ChainEntry) → supply a (genesis.first_world_view links n) ≤ sum_by (λ (e : ChainEntry). amount_at a every e) n
unfolding supply
supply_first links a [] = omega arith
supply_first links a (e ∷ n) =
    let here = home_first links a e in
    let rest = supply_first links a n in
    let one = sum_by-cons (home a) (genesis.genesis_part links e) (genesis.first_world_view links n) in
    let two = sum_by-cons (λ (e : ChainEntry). amount_at a every e) e n in
    omega (arith, here, rest, one, two)

-- ---- the first world of a coherent network
pub is_first : ((w : networks.World) → NothingWaits w → AllShaped w) → (spec : NetworkSpec) → IsCoherent spec → IsFirst (first_world spec)
is_first shaped spec c =
    let network = is_network spec c.openable in
    let none = or_none (table_cause (causes.entry_tables (entries_of spec))) _ c.coherent in
    let agrees = agrees_of_no_cause (causes.entry_tables (entries_of spec)) network none.0 in
    let sound = sound_first (links_in spec) (entries_of spec) network (instances_are_once spec c.openable agrees) c.coherent in
    let first = genesis.first_world_view (links_in spec) (entries_of spec) in
    let small : (a : UniversalAsset) → supply a first < 2 ^ 127 = λ a. let le = supply_first (links_in spec) a (entries_of spec) in let few = c.openable.small a in omega (arith, le, few) in
    let same = sym (world_seen spec) in
    record {
      genesis = record {
        agrees = subst (λ (w : WorldView). Agrees (tables_of w)) same sound.agrees;
        backed = subst Backed same sound.backed;
        checked = subst AllChecked same sound.checked;
        bounded = subst AllBounded same (all_bounded first first sound.agrees refl small (first_low (links_in spec) (entries_of spec) (accounts_are_low spec c.openable)) (first_within first));
        small = λ a. subst (λ (w : WorldView). supply a w < 2 ^ 127) same (small a);
      };
      once = λ a instance. subst (λ (w : WorldView). population a (just (Some instance)) w ≤ 1) same (sound.once a instance);
      shaped = shaped (first_world spec) (nothing_waits spec spec.chains);
      parts = parts_sound spec spec.chains (all_recursive (IsOpenableChain spec.network) spec.chains c.openable.chains) c.openable.channels;
    }
