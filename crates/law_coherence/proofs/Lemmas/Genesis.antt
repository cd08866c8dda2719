-- Lemmas on the definitions of `specs/Genesis.antt`: what proofs cite.
use Rattle.std.specs.Prelude.{◌≡◌, ℕ, zero, suc, ◌+◌, ◌<◌, ◌≤◌, nat_lt, nat_eq, Bool, true, false, not, ◌&&◌, ◌||◌, if◌then◌else◌, List, [], ◌∷◌, map, Option, Some, None, slice_get, sum_by, refl}
use Rattle.std.specs.Option.{option_cmp}
use Rattle.std.specs.Ordering.{eq_by_cmp}
use Rattle.std.proofs.Common.{sym, ap, ◌∙◌, subst, arith, true≢false, ltb-false, eq-eqb, inl, inr}
use Rattle.std.proofs.lemmas.Bool.{and_parts, and_from, lt-ltb, cases_lt}
use Rattle.std.proofs.lemmas.List.Sums.{sum_by-cons}
use Rattle.amounts.specs.Rows.{amount_if, sum_where}
use Rattle.amounts.specs.Amounts.{amount, rows, empty}
use Rattle.amounts.proofs.Lemmas.AmountLaws.{total-rows, total-empty}
use Rattle.amounts.proofs.Lemmas.{key_same}
use Rattle.asset_lists.specs.declared.units.Instance.{Instance}
use Rattle.asset_lists.specs.Units.{instance_cmp}
use Rattle.asset_lists.specs.UnitLaws.{instance_total}
use Rattle.asset_lists.proofs.Lemmas.UnitLaws.{instance_exact}
use Rattle.asset_bundles.proofs.Lemmas.Bundles.{unit_keys}
use Rattle.asset_bundles.proofs.Lemmas.{burn_keys}
use Rattle.ledgers.specs.Ledgers.{Holder}
use Rattle.chain_ids.specs.declared.chain.ChainId.{ChainId}
use Rattle.trust_tables.specs.declared.rows.AssetRow.{AssetRow}
use Rattle.trust_tables.specs.declared.rows.AssetRole.TheVariants.{Derivative}
use Rattle.chain_ids.specs.Chains.{same_chain}
use Rattle.law_coherence.specs.UniversalAssets.{UniversalAsset, Choice, every, just, is_asset_at, is_unit_at}
use Rattle.asset_lists.specs.Listed.{listed_of, same_kind}
use Rattle.asset_lists.proofs.Lemmas.{same_kind_says}
use Rattle.locations.specs.Order.{junctions_cmp}
use Rattle.locations.proofs.Lemmas.OrderLaws.{junctions_decides}
use Rattle.law_coherence.specs.Networks.{Table, context_of, IsIn, path_of_row, asset_of_row, is_native_role, is_native_row, is_home, IsNetwork, Agrees}
use Rattle.law_coherence.specs.Causes.{ChainEntry, Cause, Incoherent, first_some, when, amount_at, amount_for, any_instance, is_class_instance, shares_instance, instance_twice, is_short, entry_at, not_backed, elsewhere, checking_in, falls_short, table_cause, first_cause}
use Rattle.law_coherence.specs.Causes as causes
use Rattle.law_coherence.proofs.Lemmas.CauseLaws.{or_none, first_none, any_in, agrees_of_no_cause}
use Rattle.law_coherence.specs.Parts.{Cargo, Channel, Part, chain_of_part, Count, Whole, Only, choice_of, in_bundle, debt, stock, account_amount, held_for, burned, deposited_amount, withdrawn_amount, in_channels, in_channels_to, flight, deposits, withdrawals, alive, population, Backed}
use Rattle.chain_ids.proofs.Lemmas.{same_chain_itself, same_chain_told}
use Rattle.law_coherence.proofs.Lemmas.Cargoes.{row_of_home}
use Rattle.law_coherence.specs.Checking.{account_in, checking_at, IsChecked, AllChecked}
use Rattle.law_coherence.proofs.Lemmas.Checking.{AllLow}
use Rattle.law_coherence.proofs.Lemmas.Receiving.{finds}
use Rattle.law_coherence.specs.Steps as steps
use Rattle.law_coherence.proofs.Lemmas.Steps as steps_lemmas
use Rattle.law_coherence.specs.Genesis.{empty_channels, genesis_part, first_world_view, HasInstancesOnce, HasLowAccounts, IsSoundFirst}

module _ (links : ChainEntry → List ChainId) where
  none_queued : (f : Cargo → ℕ) (to : List ChainId) → in_channels f (empty_channels to) ≡ 0
  unfolding in_channels
  none_queued f [] = refl
  none_queued f (x ∷ xs) =
      let here = sum_by-cons (λ (c : Channel). sum_by f c.queue) (record { to = x; queue = [] }) (empty_channels xs) in
      let rest = none_queued f xs in
      omega (arith, here, rest)

  none_or_nothing : (b : Bool) → ◌≡◌ {A = ℕ} (if b then 0 else 0) 0
  none_or_nothing true = refl
  none_or_nothing false = refl

  none_queued_to : (chain : ChainId) (f : Cargo → ℕ) (to : List ChainId) → in_channels_to chain f (empty_channels to) ≡ 0
  unfolding in_channels_to
  none_queued_to chain f [] = refl
  none_queued_to chain f (x ∷ xs) =
      let here = sum_by-cons (λ (c : Channel). if same_chain c.to chain then sum_by f c.queue else 0) (record { to = x; queue = [] }) (empty_channels xs) in
      let none : ◌≡◌ {A = ℕ} (if same_chain x chain then 0 else 0) 0 = none_or_nothing (same_chain x chain) in
      let rest = none_queued_to chain f xs in
      omega (arith, here, none, rest)

  stock-opened : (a : UniversalAsset) (choice : Choice) (e : ChainEntry) → stock a choice (genesis_part links e) ≡ amount_at a choice e
  unfolding stock
  stock-opened a choice e =
      let none : in_bundle e.table a choice empty ≡ 0 = total-empty unit_keys (is_unit_at (context_of e.table) a choice) in
      omega (arith, none)

  burned-opened : (a : UniversalAsset) (e : ChainEntry) → burned a (genesis_part links e) ≡ 0
  unfolding burned
  burned-opened a e = total-empty burn_keys _

  debt-opened : (a : UniversalAsset) (count : Count) (e : ChainEntry) → debt a count (genesis_part links e) ≡ amount_at a (choice_of count) e
  debt-opened a Whole e = let s = stock-opened a every e in let b = burned-opened a e in omega (arith, s, b)
  debt-opened a (Only instance) e = stock-opened a (just (Some instance)) e

  held_for-opened : (chain : ChainId) (a : UniversalAsset) (count : Count) (e : ChainEntry) → held_for chain a count (genesis_part links e) ≡ amount_for chain a (choice_of count) e
  unfolding account_amount
  held_for-opened chain a count e = refl

  -- ---- instances
  option_told : (a b : Option Instance) → eq_by_cmp (option_cmp instance_cmp) a b ≡ true → a ≡ b
  option_told None None e = refl
  option_told None (Some j) e = absurd (cc)
  option_told (Some i) None e = absurd (cc)
  option_told (Some i) (Some j) e = ap Some (key_same (record { total = instance_total; exact = instance_exact }) i j e)

  some_row : (p : Holder → Bool) (es : List (Holder × ℕ)) → 0 < sum_where p es → (row : Holder × ℕ) × IsIn es row × (p row.0 ≡ true)
  some_row p [] some = absurd (omega (arith, some))
  some_row p (e ∷ es) some =
      elim (p e.0) as (λ b. p e.0 ≡ b → (row : Holder × ℕ) × IsIn (e ∷ es) row × (p row.0 ≡ true)) [
        | true ↦ λ t. (e, (0, refl), t)
        | false ↦ λ t.
            let rest : 0 < amount_if false e.1 + sum_where p es = subst (λ b. 0 < amount_if b e.1 + sum_where p es) t some in
            let found = some_row p es (omega (arith, rest)) in
            (found.0, (suc found.1.0, found.1.1), found.2)
      ] refl

  -- an instance that is there passes each test that it passes
  instance_there : (a : UniversalAsset) (e : ChainEntry) (instance : Instance) (test : Option Instance → Bool) → 0 < amount_at a (just (Some instance)) e → test (Some instance) ≡ true → any_instance a e test ≡ true
  instance_there a e instance test some passes =
      let p : Holder → Bool = λ (h : Holder). is_unit_at (context_of e.table) a (just (Some instance)) h.1 in
      let found = some_row (λ (h : Holder). is_unit_at (context_of e.table) a (just (Some instance)) h.1) (rows e.held) (subst (λ k. 0 < k) (sym (total-rows (λ (h : Holder). is_unit_at (context_of e.table) a (just (Some instance)) h.1) e.held)) some) in
      let parts = and_parts (is_asset_at (context_of e.table) a (listed_of found.0.0.1)) (just (Some instance) found.0.0.1.1) found.2 in
      let same : Some instance ≡ found.0.0.1.1 = option_told (Some instance) found.0.0.1.1 parts.1 in
      any_in (λ (row : Holder × ℕ). is_unit_at (context_of e.table) a every row.0.1 && test row.0.1.1) (rows e.held) found.0 found.1.0 found.1.1
      (and_from (is_unit_at (context_of e.table) a every found.0.0.1) (test found.0.0.1.1)
      (and_from (is_asset_at (context_of e.table) a (listed_of found.0.0.1)) true parts.0 refl)
      (sym (ap test same) ∙ passes))

  -- ---- no instance at two homes
  or_false : (a b : Bool) → (a || b) ≡ false → (a ≡ false) × (b ≡ false)
  or_false true b e = absurd (true≢false e)
  or_false false b e = (refl, e)

  when_none : {B : Type 0} (b : Bool) (x : B) → when b x ≡ None → b ≡ false
  when_none true x e = absurd (cc)
  when_none false x e = refl

  alive-opened : (a : UniversalAsset) (choice : Choice) (e : ChainEntry) → alive a choice (genesis_part links e) ≡ (if is_home a e.table then amount_at a choice e else 0)
  unfolding alive
  alive-opened a choice e =
      let s = stock-opened a choice e in
      let none : flight a choice (genesis_part links e) ≡ 0 = none_queued _ (links e) in
      let both : stock a choice (genesis_part links e) + flight a choice (genesis_part links e) ≡ amount_at a choice e = omega (arith, s, none) in
      ap (λ k. if is_home a e.table then k else 0) both

  population-cons : (a : UniversalAsset) (choice : Choice) (e : ChainEntry) (es : List ChainEntry) → population a choice (first_world_view links (e ∷ es)) ≡ (if is_home a e.table then amount_at a choice e else 0) + population a choice (first_world_view links es)
  unfolding population
  population-cons a choice e es = sum_by-cons (alive a choice) (genesis_part links e) (first_world_view links es) ∙ ap (λ k. k + sum_by (alive a choice) (first_world_view links es)) (alive-opened a choice e)

  no_later : (a : UniversalAsset) (e : ChainEntry) (instance : Instance) (later : List ChainEntry) → 0 < amount_at a (just (Some instance)) e
      → first_some (λ (d : ChainEntry). when {B = Incoherent} (shares_instance a e d) (Cause.InstanceTwice, causes.chain_of_entry e, causes.chain_of_entry d)) later ≡ None → population a (just (Some instance)) (first_world_view links later) ≡ 0
  unfolding population
  no_later a e instance [] some none = refl
  no_later a e instance (d ∷ later) some none =
      let parts = or_none (when {B = Incoherent} (shares_instance a e d) (Cause.InstanceTwice, causes.chain_of_entry e, causes.chain_of_entry d)) (first_some (λ (d : ChainEntry). when {B = Incoherent} (shares_instance a e d) (Cause.InstanceTwice, causes.chain_of_entry e, causes.chain_of_entry d)) later) none in
      let shared : shares_instance a e d ≡ false = when_none (shares_instance a e d) _ parts.0 in
      let rest : population a (just (Some instance)) (first_world_view links later) ≡ 0 = no_later a e instance later some parts.1 in
      let here : (if is_home a d.table then amount_at a (just (Some instance)) d else 0) ≡ 0 =
      elim (is_home a d.table) as (λ b. is_home a d.table ≡ b → (if b then amount_at a (just (Some instance)) d else 0) ≡ 0) [
        | true ↦ λ home. elim (cases_lt 0 (amount_at a (just (Some instance)) d)) [
          | inl more ↦
              let test : Option Instance → Bool = λ x. is_class_instance x && nat_lt 0 (amount_at a (just x) d) in
              let any : any_instance a e (λ x. is_class_instance x && nat_lt 0 (amount_at a (just x) d)) ≡ true = instance_there a e instance (λ x. is_class_instance x && nat_lt 0 (amount_at a (just x) d)) some (lt-ltb 0 (amount_at a (just (Some instance)) d) more) in
              absurd (true≢false (sym (and_from (is_home a d.table) (any_instance a e (λ x. is_class_instance x && nat_lt 0 (amount_at a (just x) d))) home any) ∙ shared))
          | inr none ↦ omega (arith, none)
        ]
        | false ↦ λ home. refl
      ] refl in
      population-cons a (just (Some instance)) d later ∙ omega (arith, here, rest)

  pub first_population : (n : List ChainEntry) (a : UniversalAsset) (instance : Instance) → ((k : ℕ) (e : ChainEntry) → slice_get n k ≡ Some e → HasInstancesOnce e) → instance_twice n ≡ None
      → population a (just (Some instance)) (first_world_view links n) ≤ 1
  unfolding population
  first_population [] a instance once none = omega arith
  first_population (e ∷ later) a instance once none =
      let parts = or_none _ (instance_twice later) none in
      let rest : population a (just (Some instance)) (first_world_view links later) ≤ 1 = first_population later a instance (λ k d at. once (suc k) d at) parts.1 in
      let cons = population-cons a (just (Some instance)) e later in
      let few = once 0 e refl a instance in
      elim (is_home a e.table) as (λ b. is_home a e.table ≡ b → population a (just (Some instance)) (first_world_view links (e ∷ later)) ≤ 1) [
        | true ↦ λ home. elim (cases_lt 0 (amount_at a (just (Some instance)) e)) [
          | inl some ↦
              let row = row_of_home e.table a home in
              let each = first_none _ e.table.rows row.listed.0 row.row parts.0 row.listed.1 in
              let asset : ◌≡◌ {A = UniversalAsset} (asset_of_row e.table row.row) a = λ i. (row.path i, row.kind i) in
              let seen : first_some (λ (d : ChainEntry). when {B = Incoherent} (shares_instance a e d) (Cause.InstanceTwice, causes.chain_of_entry e, causes.chain_of_entry d)) later ≡ None =
              subst (λ x. first_some (λ (d : ChainEntry). when {B = Incoherent} (shares_instance x e d) (Cause.InstanceTwice, causes.chain_of_entry e, causes.chain_of_entry d)) later ≡ None) asset
              (sym (ap (λ r. if is_native_role r then first_some (λ (d : ChainEntry). when {B = Incoherent} (shares_instance (asset_of_row e.table row.row) e d) (Cause.InstanceTwice, causes.chain_of_entry e, causes.chain_of_entry d)) later else None) row.native) ∙ each) in
              let zero_later = no_later a e instance later some seen in
              let here : (if is_home a e.table then amount_at a (just (Some instance)) e else 0) ≡ amount_at a (just (Some instance)) e = ap (λ b. if b then amount_at a (just (Some instance)) e else 0) home in
              omega (arith, cons, zero_later, here, few)
          | inr none ↦
              let here : (if is_home a e.table then amount_at a (just (Some instance)) e else 0) ≡ amount_at a (just (Some instance)) e = ap (λ b. if b then amount_at a (just (Some instance)) e else 0) home in
              omega (arith, cons, rest, here, none)
        ]
        | false ↦ λ home.
            let here : (if is_home a e.table then amount_at a (just (Some instance)) e else 0) ≡ 0 = ap (λ b. if b then amount_at a (just (Some instance)) e else 0) home in
            omega (arith, cons, rest, here)
      ] refl

  -- ---- the tables, and that the reserve keeps enough
  tables_same : (n : List ChainEntry) → steps.tables_of (first_world_view links n) ≡ causes.entry_tables n
  tables_same [] = refl
  tables_same (e ∷ es) = ap (λ ts. e.table ∷ ts) (tables_same es)

  entry_of : (n : List ChainEntry) (k : ℕ) (p : Part) → slice_get (first_world_view links n) k ≡ Some p → (e : ChainEntry) × (slice_get n k ≡ Some e) × (genesis_part links e ≡ p)
  entry_of [] k p at = absurd (cc)
  entry_of (e ∷ es) zero p at = (e, refl, cc)
  entry_of (e ∷ es) (suc k) p at = entry_of es k p at

  entry_table : (n : List ChainEntry) (k : ℕ) (e : ChainEntry) → slice_get n k ≡ Some e → slice_get (causes.entry_tables n) k ≡ Some e.table
  entry_table [] k e at = absurd (cc)
  entry_table (x ∷ xs) zero e at = let same : x ≡ e = cc in ap (λ (y : ChainEntry). Some y.table) same
  entry_table (x ∷ xs) (suc k) e at = entry_table xs k e at

  entry_same : (x y : ChainEntry) → Some x ≡ Some y → x ≡ y
  entry_same x y e = cc

  enough : (a : UniversalAsset) (e d : ChainEntry) (count : Count) → HasInstancesOnce e → is_short a e (Some d) ≡ false → amount_at a (choice_of count) e ≤ amount_for (causes.chain_of_entry e) a (choice_of count) d
  enough a e d Whole once short = ltb-false (amount_for (causes.chain_of_entry e) a every d) (amount_at a every e) (or_false (nat_lt (amount_for (causes.chain_of_entry e) a every d) (amount_at a every e)) (any_instance a e (λ x. nat_eq (amount_for (causes.chain_of_entry e) a (just x) d) 0)) short).0
  enough a e d (Only instance) once short =
      let few = once a instance in
      elim (cases_lt 0 (amount_at a (just (Some instance)) e)) [
        | inl some ↦ elim (cases_lt 0 (amount_for (causes.chain_of_entry e) a (just (Some instance)) d)) [
          | inl kept ↦ omega (arith, few, kept)
          | inr none ↦
              let nothing : amount_for (causes.chain_of_entry e) a (just (Some instance)) d ≡ 0 = omega (arith, none) in
              let any = instance_there a e instance (λ x. nat_eq (amount_for (causes.chain_of_entry e) a (just x) d) 0) some (eq-eqb (amount_for (causes.chain_of_entry e) a (just (Some instance)) d) 0 nothing) in
              absurd (true≢false (sym any ∙ (or_false (nat_lt (amount_for (causes.chain_of_entry e) a every d) (amount_at a every e)) (any_instance a e (λ x. nat_eq (amount_for (causes.chain_of_entry e) a (just x) d) 0)) short).1))
        ]
        | inr none ↦ omega (arith, none)
      ]

  pub first_backed : (n : List ChainEntry) → IsNetwork (causes.entry_tables n) → ((k : ℕ) (e : ChainEntry) → slice_get n k ≡ Some e → HasInstancesOnce e)
      → first_some (λ (e : ChainEntry). first_some (λ (x : AssetRow). not_backed n e x x.role) e.table.rows) n ≡ None → Backed (first_world_view links n)
  first_backed n network once none i j c r row count at_i at_j inside role =
      let from = entry_of n i c at_i in
      let to = entry_of n j r at_j in
      let e = from.0 in
      let d = to.0 in
      let inside_e : IsIn e.table.rows row = subst (λ (p : Part). IsIn p.table.rows row) (sym from.2) inside in
      let role_d : row.role ≡ Derivative (causes.chain_of_entry d) = role ∙ ap (λ (p : Part). Derivative (chain_of_part p)) (sym to.2) in
      let each = first_none (λ (x : ChainEntry). first_some (λ (y : AssetRow). not_backed n x y y.role) x.table.rows) n i e none from.1 in
      let this = first_none (λ (y : AssetRow). not_backed n e y y.role) e.table.rows inside_e.0 row each inside_e.1 in
      let found = finds (λ (x : ChainEntry). same_chain (causes.chain_of_entry x) (causes.chain_of_entry d)) n j d to.1 (same_chain_itself (causes.chain_of_entry d)) in
      let chains : causes.chain_of_entry found.0 ≡ causes.chain_of_entry d = same_chain_told (causes.chain_of_entry found.0) (causes.chain_of_entry d) found.3 in
      let place : found.2.0 ≡ j = network.apart found.2.0 j found.0.table d.table (entry_table n found.2.0 found.0 found.2.1) (entry_table n j d to.1) chains in
      let entry : found.0 ≡ d = entry_same found.0 d (sym found.2.1 ∙ ap (slice_get n) place ∙ to.1) in
      let at : entry_at n (causes.chain_of_entry d) ≡ Some d = found.1 ∙ ap Some entry in
      let tested : when {B = Incoherent} (is_short (asset_of_row e.table row) e (entry_at n (causes.chain_of_entry d))) (Cause.NotBacked, causes.chain_of_entry e, causes.chain_of_entry d) ≡ None = sym (ap (not_backed n e row) role_d) ∙ this in
      let short : is_short (asset_of_row e.table row) e (Some d) ≡ false = sym (ap (is_short (asset_of_row e.table row) e) at) ∙ when_none (is_short (asset_of_row e.table row) e (entry_at n (causes.chain_of_entry d))) _ tested in
      let le = enough (asset_of_row e.table row) e d count (once i e from.1) short in
      let debts = debt-opened (asset_of_row e.table row) count e in
      let keeps = held_for-opened (causes.chain_of_entry e) (asset_of_row e.table row) count d in
      let no_withdrawals : withdrawals (causes.chain_of_entry d) (asset_of_row e.table row) count (genesis_part links e) ≡ 0 = none_queued_to (causes.chain_of_entry d) (withdrawn_amount e.table (asset_of_row e.table row) (choice_of count)) (links e) in
      let no_deposits : deposits (causes.chain_of_entry e) (asset_of_row e.table row) count (genesis_part links d) ≡ 0 = none_queued_to (causes.chain_of_entry e) (deposited_amount d.table (asset_of_row e.table row) (choice_of count)) (links d) in
      let claim : steps_lemmas.Covered e.table (causes.chain_of_entry d) row count (genesis_part links e) (genesis_part links d) = omega (arith, le, debts, keeps, no_withdrawals, no_deposits) in
      subst (λ (q : Part). steps_lemmas.Covered c.table (chain_of_part q) row count c q) to.2 (subst (λ (p : Part). steps_lemmas.Covered p.table (causes.chain_of_entry d) row count p (genesis_part links d)) from.2 claim)

  -- ---- the checking accounts
  -- the role of the row whose account it is
  account_row : (t : Table) (a : UniversalAsset) (amount : ℕ) (rows : List AssetRow) → account_in t a rows (map (λ (row : AssetRow). checking_in row.role) rows) ≡ Some amount
      → (row : AssetRow) × IsIn rows row × (is_native_row t a row ≡ true) × (checking_in row.role ≡ Some amount)
  account_row t a amount [] e = absurd (cc)
  account_row t a amount (row ∷ rows) e =
      elim (is_native_row t a row) as (λ b. is_native_row t a row ≡ b → (if b then checking_in row.role else account_in t a rows (map (λ (row : AssetRow). checking_in row.role) rows)) ≡ Some amount
      → (x : AssetRow) × IsIn (row ∷ rows) x × (is_native_row t a x ≡ true) × (checking_in x.role ≡ Some amount)) [
        | true ↦ λ native h. (row, (0, refl), native, h)
        | false ↦ λ native h. let rest = account_row t a amount rows h in (rest.0, (suc rest.1.0, rest.1.1), rest.2, rest.3)
      ] refl e

  asset_told : (t : Table) (a : UniversalAsset) (row : AssetRow) → is_native_row t a row ≡ true → ◌≡◌ {A = UniversalAsset} (asset_of_row t row) a
  asset_told t a row native =
      let parts = and_parts (is_native_role row.role) (eq_by_cmp junctions_cmp (path_of_row t row) a.0 && same_kind row.kind a.1) native in
      let paths = and_parts (eq_by_cmp junctions_cmp (path_of_row t row) a.0) (same_kind row.kind a.1) parts.1 in
      λ i. ((junctions_decides (path_of_row t row) a.0).0 paths.0 i, (same_kind_says row.kind a.1).0 paths.1 i)

  elsewhere-cons : (a : UniversalAsset) (chain : ChainId) (d : ChainEntry) (ds : List ChainEntry) → elsewhere a chain (d ∷ ds) ≡ (if not (same_chain (causes.chain_of_entry d) chain) && is_home a d.table then amount_at a every d else 0) + elsewhere a chain ds
  elsewhere-cons a chain d ds = sum_by-cons (λ (d : ChainEntry). if not (same_chain (causes.chain_of_entry d) chain) && is_home a d.table then amount_at a every d else 0) d ds

  other_counted : (a : UniversalAsset) (chain : ChainId) (d : ChainEntry) → same_chain (causes.chain_of_entry d) chain ≡ false → (if not (same_chain (causes.chain_of_entry d) chain) && is_home a d.table then amount_at a every d else 0) ≡ (if is_home a d.table then amount_at a every d else 0)
  other_counted a chain d other = ap (λ b. if not b && is_home a d.table then amount_at a every d else 0) other

  all_others : (a : UniversalAsset) (chain : ChainId) (ds : List ChainEntry) → ((k : ℕ) (d : ChainEntry) → slice_get ds k ≡ Some d → same_chain (causes.chain_of_entry d) chain ≡ false) → population a every (first_world_view links ds) ≤ elsewhere a chain ds
  unfolding population
  all_others a chain [] others = omega arith
  all_others a chain (d ∷ ds) others =
      let rest : population a every (first_world_view links ds) ≤ elsewhere a chain ds = all_others a chain ds (λ k x at. others (suc k) x at) in
      let one = population-cons a every d ds in
      let two = elsewhere-cons a chain d ds in
      let same = other_counted a chain d (others 0 d refl) in
      omega (arith, rest, one, two, same)

  if_at_most : (b : Bool) (n : ℕ) → (if b then n else 0) ≤ n
  if_at_most true n = omega arith
  if_at_most false n = omega arith

  -- but for one chain, all that there is is elsewhere
  all_but_one : (a : UniversalAsset) (chain : ChainId) (ds : List ChainEntry) (k : ℕ) (e : ChainEntry) → slice_get ds k ≡ Some e → ((j : ℕ) (d : ChainEntry) → slice_get ds j ≡ Some d → (j ≡ k → ⊥) → same_chain (causes.chain_of_entry d) chain ≡ false)
      → population a every (first_world_view links ds) ≤ elsewhere a chain ds + amount_at a every e
  unfolding population
  all_but_one a chain [] k e at others = absurd (cc)
  all_but_one a chain (d ∷ ds) zero e at others =
      let same : d ≡ e = cc in
      let rest = all_others a chain ds (λ j x at_j. others (suc j) x at_j (λ h. absurd (cc))) in
      let one = population-cons a every d ds in
      let two = elsewhere-cons a chain d ds in
      let few = if_at_most (is_home a d.table) (amount_at a every d) in
      let here = ap (amount_at a every) same in
      omega (arith, rest, one, two, few, here)
  all_but_one a chain (d ∷ ds) (suc k) e at others =
      let rest = all_but_one a chain ds k e at (λ j x at_j n. others (suc j) x at_j (λ h. n (let s : suc j ≡ suc k = h in omega (arith, s)))) in
      let one = population-cons a every d ds in
      let two = elsewhere-cons a chain d ds in
      let same = other_counted a chain d (others 0 d refl (λ h. absurd (cc))) in
      omega (arith, rest, one, two, same)

  pub first_checked : (n : List ChainEntry) → IsNetwork (causes.entry_tables n) → first_some (λ (e : ChainEntry). first_some (λ (x : AssetRow). falls_short n e x (checking_in x.role)) e.table.rows) n ≡ None → AllChecked (first_world_view links n)
  first_checked n network none k p a amount at is =
      let from = entry_of n k p at in
      let e = from.0 in
      let row = account_row e.table a amount e.table.rows (ap (checking_at a) from.2 ∙ is) in
      let each = first_none (λ (x : ChainEntry). first_some (λ (y : AssetRow). falls_short n x y (checking_in y.role)) x.table.rows) n k e none from.1 in
      let this = first_none (λ (y : AssetRow). falls_short n e y (checking_in y.role)) e.table.rows row.1.0 row.0 each row.1.1 in
      let tested : when {B = Incoherent} (nat_lt amount (elsewhere (asset_of_row e.table row.0) (causes.chain_of_entry e) n)) (Cause.CheckingShort, causes.chain_of_entry e, causes.chain_of_entry e) ≡ None = sym (ap (falls_short n e row.0) row.3) ∙ this in
      let le = ltb-false amount (elsewhere (asset_of_row e.table row.0) (causes.chain_of_entry e) n) (when_none (nat_lt amount (elsewhere (asset_of_row e.table row.0) (causes.chain_of_entry e) n)) _ tested) in
      let asset = ap (λ (b : UniversalAsset). elsewhere b (causes.chain_of_entry e) n) (asset_told e.table a row.0 row.2) in
      let all = all_but_one a (causes.chain_of_entry e) n k e from.1 (λ j d at_j differ. not_same (causes.chain_of_entry d) (causes.chain_of_entry e) (λ same. differ (network.apart j k d.table e.table (entry_table n j d at_j) (entry_table n k e from.1) same))) in
      let here = stock-opened a every e in
      subst (λ (x : Part). IsChecked (first_world_view links n) x a amount) from.2 (omega (arith, le, asset, all, here))
    where
      not_same : (c d : ChainId) → (c ≡ d → ⊥) → same_chain c d ≡ false
      not_same c d differ = elim (same_chain c d) as (λ b. same_chain c d ≡ b → b ≡ false) [ true ↦ λ t. absurd (differ (same_chain_told c d t)) | false ↦ λ t. refl ] refl

  pub first_low : (n : List ChainEntry) → ((k : ℕ) (e : ChainEntry) → slice_get n k ≡ Some e → HasLowAccounts e) → AllLow (first_world_view links n)
  first_low n low k p a amount at is =
      let from = entry_of n k p at in
      let row = account_row from.0.table a amount from.0.table.rows (ap (checking_at a) from.2 ∙ is) in
      low k from.0 from.1 row.0 amount row.1 row.3

  pub sound_first : (n : List ChainEntry) → IsNetwork (causes.entry_tables n) → ((k : ℕ) (e : ChainEntry) → slice_get n k ≡ Some e → HasInstancesOnce e) → first_cause n ≡ None → IsSoundFirst links n
  sound_first n network once none =
      let one = or_none (table_cause (causes.entry_tables n)) _ none in
      let two = or_none (instance_twice n) _ one.1 in
      let three = or_none (first_some (λ (e : ChainEntry). first_some (λ (x : AssetRow). not_backed n e x x.role) e.table.rows) n) _ two.1 in
      record {
        agrees = subst Agrees (sym (tables_same n)) (agrees_of_no_cause (causes.entry_tables n) network one.0);
        backed = first_backed n network once three.0;
        once = λ a instance. first_population n a instance once two.0;
        checked = first_checked n network three.1;
      }
