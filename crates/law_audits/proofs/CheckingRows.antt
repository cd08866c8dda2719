-- Checking accounts by the indices of their rows: what a list that is teleported does to each, and what is refused for it.
use Rattle.std.proofs.Common.{◌≡◌, ℕ, zero, suc, ◌+◌, ◌-◌, ◌^◌, ◌<◌, ◌≤◌, Bool, true, false, List, [], ◌∷◌, Option, Some, None, get_or, refl, sym, ap, ◌∙◌, subst, cond, arith}
use Rattle.std.specs.Prelude.{if◌then◌else◌, nat_le, position, slice_get}
use Rattle.std.specs.List.{AllByRecursion, IsDistinct}
use Rattle.std.specs.Option.{option_map, option_map_or, option_and_then}
use Rattle.std.specs.Ordering.{eq_by_cmp}
use Rattle.std.proofs.lemmas.Bool.Decides.{nat_tests}
use Rattle.std.proofs.lemmas.List.Quantifiers.{position-Some}
use Rattle.std.proofs.lemmas.List.Sums.{sum_by-cons}
use Rattle.std.proofs.lemmas.Option.{slice_get-get_or}
use Rattle.amounts.specs.Amounts.{total, rows}
use Rattle.amounts.proofs.Lemmas.AmountLaws.{rows_positive, total-rows}
use Rattle.amounts.proofs.Lemmas.{same_key}
use Rattle.amounts.specs.Rows.{amount_if, sum_where, IsPositive}
use Rattle.locations.specs.declared.relative.Location.{Location}
use Rattle.operands.specs.declared.error.XcmError.TheVariants as error
use Rattle.operands.specs.declared.error.XcmError.{XcmError}
use Rattle.asset_lists.specs.declared.units.Asset.{Asset}
use Rattle.asset_lists.specs.declared.units.AssetId.{AssetId}
use Rattle.asset_lists.specs.declared.units.AssetId.TheVariants.{Concrete}
use Rattle.asset_lists.specs.declared.units.Instance.{Instance}
use Rattle.asset_lists.specs.declared.units.Kind.{Kind}
use Rattle.asset_lists.specs.Listed.{Listed, listed_cmp, kind_of}
use Rattle.asset_lists.specs.Lists.{is_of}
use Rattle.asset_lists.specs.Moves.{occurrences}
use Rattle.asset_lists.specs.Units.{Unit, unit_of, amount_of}
use Rattle.asset_bundles.specs.Bundles.{Bundle, bundle_of, rows_of, fun_of, assets_of_rows, held_assets}
use Rattle.asset_bundles.proofs.Lemmas.Bundles.{unit_keys}
use Rattle.asset_bundles.proofs.Lemmas.BundleLaws.{total-bundle_of}
use Rattle.asset_bundles.proofs.Lemmas.{listed_keys}
use Rattle.chain_ids.specs.declared.chain.ChainId.{ChainId}
use Rattle.trust_tables.specs.declared.rows.AssetRole.{AssetRole}
use Rattle.trust_tables.specs.declared.rows.AssetRow.{AssetRow}
use Rattle.trust_tables.specs.Trust.{listed_row, listing, is_row_of, row_of, is_reserve_role, holds_of}
use Rattle.trust_tables.proofs.Lemmas.TrustLaws.{is_row_of_says, row_at-position, row_listed}
use Rattle.law_coherence.specs.Networks.{is_native_role}
use Rattle.exec_base.specs.Part.{ChainPart}
use Rattle.exec_base.specs.Sending.{unless, or_else}
use Rattle.exec_base.specs.Host.{first_fault, trust_fault, checking_of, lower_fault, raise_fault, changed_rows, changed_all}
use Rattle.exec_rules.proofs.Lemmas.AnswerLaws.{unless_held, none_first, none_next}
use Rattle.law_audits.specs.Ends.{is_of_row}
use Rattle.plain_lists.proofs.Lemmas.Facts.{false_not_true as not_both, told_at_most as at_most}

abbrev pub RowsApart : List AssetRow → Type 0
RowsApart rows = IsDistinct (eq_by_cmp listed_cmp) (listing rows)

same_row : (x y : AssetRow) → Some x ≡ Some y → x ≡ y
same_row x y e = cc

-- ---- the one row of an asset
one_listing : (a : Asset) (x y : AssetRow) → is_row_of a x ≡ true → is_row_of a y ≡ true → eq_by_cmp listed_cmp (listed_row x) (listed_row y) ≡ true
one_listing a x y h k =
    let first = (is_row_of_says a x).0 h in
    let second = (is_row_of_says a y).0 k in
    let ids : Concrete x.id ≡ Concrete y.id = sym first.0 ∙ second.0 in
    let kinds : x.kind ≡ y.kind = sym first.1 ∙ second.1 in
    let same : ◌≡◌ {A = Listed} (listed_row x) (listed_row y) = λ i. (ids i, kinds i) in
    subst (λ (l : Listed). eq_by_cmp listed_cmp (listed_row x) l ≡ true) same (same_key listed_keys (listed_row x))

-- no row after its row is of the asset
none_behind : (a : Asset) (first row : AssetRow) (rows : List AssetRow) (place : ℕ) → AllByRecursion (λ (l : Listed). eq_by_cmp listed_cmp (listed_row first) l ≡ false) (listing rows)
    → is_row_of a first ≡ true → slice_get rows place ≡ Some row → is_row_of a row ≡ true → ⊥
none_behind a first row [] place apart is at here = absurd (cc at)
none_behind a first row (r ∷ rs) zero apart is at here = not_both _ apart.0 (one_listing a first r is (ap (is_row_of a) (same_row r row at) ∙ here))
none_behind a first row (r ∷ rs) (suc place) apart is at here = none_behind a first row rs place apart.1 is at here

one_place : (a : Asset) (rows : List AssetRow) (i j : ℕ) (x y : AssetRow) → RowsApart rows → slice_get rows i ≡ Some x → is_row_of a x ≡ true → slice_get rows j ≡ Some y → is_row_of a y ≡ true → i ≡ j
unfolding IsDistinct
one_place a [] i j x y apart at is there as_well = absurd (cc at)
one_place a (r ∷ rs) zero zero x y apart at is there as_well = refl
one_place a (r ∷ rs) zero (suc j) x y apart at is there as_well = absurd (none_behind a r y rs j apart.0 (ap (is_row_of a) (same_row r x at) ∙ is) there as_well)
one_place a (r ∷ rs) (suc i) zero x y apart at is there as_well = absurd (none_behind a r x rs i apart.0 (ap (is_row_of a) (same_row r y there) ∙ as_well) at is)
one_place a (r ∷ rs) (suc i) (suc j) x y apart at is there as_well = ap suc (one_place a rs i j x y apart.1 at is there as_well)

first_found : (b : Bool) (r : AssetRow) (o : Option AssetRow) → b ≡ true → (if b then Some r else o) ≡ None → ⊥
first_found true r o is none = absurd (cc none)
first_found false r o is none = absurd (cc is)

next_found : (b : Bool) (r : AssetRow) (o : Option AssetRow) → (if b then Some r else o) ≡ None → o ≡ None
next_found true r o none = absurd (cc none)
next_found false r o none = none

finds : (a : Asset) (rows : List AssetRow) (place : ℕ) (row : AssetRow) → slice_get rows place ≡ Some row → is_row_of a row ≡ true → row_of rows a ≡ None → ⊥
finds a [] place row at is none = absurd (cc at)
finds a (r ∷ rs) zero row at is none = first_found (is_row_of a r) r (row_of rs a) (ap (is_row_of a) (same_row r row at) ∙ is) none
finds a (r ∷ rs) (suc place) row at is none = finds a rs place row at is (next_found (is_row_of a r) r (row_of rs a) none)

module _ (a : Asset) (rows : List AssetRow) (place : ℕ) (row : AssetRow) (apart : RowsApart rows) (at : slice_get rows place ≡ Some row) (is : is_row_of a row ≡ true) where
  place_by : (o : Option ℕ) → position (is_row_of a) rows ≡ o → o ≡ Some place
  place_by None e = absurd (finds a rows place row at is (sym (row_at-position rows a) ∙ ap (option_and_then (slice_get rows)) e))
  place_by (Some j) e =
      let first = position-Some (is_row_of a) rows j row e in
      ap Some (one_place a rows j place (get_or rows j row) row apart (slice_get-get_or rows j row first.0) first.1 at is)

  place_is : position (is_row_of a) rows ≡ Some place
  place_is = place_by (position (is_row_of a) rows) refl

  row_is : row_of rows a ≡ Some row
  row_is = sym (row_at-position rows a) ∙ ap (option_and_then (slice_get rows)) place_is ∙ at

-- its checking account
account_is : (p : ChainPart) (a : Asset) (place : ℕ) (row : AssetRow) (n : ℕ) → RowsApart p.rows → slice_get p.rows place ≡ Some row → is_row_of a row ≡ true → slice_get p.checking place ≡ Some (Some n) → checking_of p a ≡ Some n
account_is p a place row n apart at is there =
    ap (option_and_then (λ (place : ℕ). option_and_then (λ (c : Option ℕ). c) (slice_get p.checking place))) (place_is a p.rows place row apart at is)
    ∙ ap (option_and_then (λ (c : Option ℕ). c)) there

-- ---- an asset's account, changed
abbrev changed_if : Bool → (ℕ → ℕ) → Option ℕ → Option ℕ
changed_if b f c = if b then option_map f c else c

stays : (f : ℕ → ℕ) (o : Option (Option ℕ)) → o ≡ option_map (changed_if false f) o
stays f None = refl
stays f (Some c) = refl

changed_at : (f : ℕ → ℕ → ℕ) (a : Asset) (rows : List AssetRow) (cs : List (Option ℕ)) (place : ℕ) (row : AssetRow) → RowsApart rows → slice_get rows place ≡ Some row
    → slice_get (changed_rows f a rows cs) place ≡ option_map (changed_if (is_row_of a row) (λ n. f n (amount_of a))) (slice_get cs place)
unfolding IsDistinct
changed_at f a [] cs place row apart at = absurd (cc at)
changed_at f a (r ∷ rs) [] place row apart at = refl
changed_at f a (r ∷ rs) (c ∷ cs) zero row apart at =
    elim (is_row_of a r) as (λ b. is_row_of a r ≡ b → slice_get (if b then option_map (λ n. f n (amount_of a)) c ∷ cs else c ∷ changed_rows f a rs cs) zero ≡ Some (changed_if (is_row_of a row) (λ n. f n (amount_of a)) c)) [
      | true ↦ λ t. ap (λ b. Some (changed_if b (λ n. f n (amount_of a)) c)) (sym t ∙ ap (is_row_of a) (same_row r row at))
      | false ↦ λ t. ap (λ b. Some (changed_if b (λ n. f n (amount_of a)) c)) (sym t ∙ ap (is_row_of a) (same_row r row at))
    ] refl
changed_at f a (r ∷ rs) (c ∷ cs) (suc place) row apart at =
    elim (is_row_of a r) as (λ b. is_row_of a r ≡ b → slice_get (if b then option_map (λ n. f n (amount_of a)) c ∷ cs else c ∷ changed_rows f a rs cs) (suc place) ≡ option_map (changed_if (is_row_of a row) (λ n. f n (amount_of a))) (slice_get cs place)) [
      | true ↦ λ t.
          stays (λ n. f n (amount_of a)) (slice_get cs place)
          ∙ ap (λ b. option_map (changed_if b (λ n. f n (amount_of a))) (slice_get cs place)) (sym (not_true (is_row_of a row) (λ here. none_behind a r row rs place apart.0 t at here)))
      | false ↦ λ t. changed_at f a rs cs place row apart.1 at
    ] refl
  where
    not_true : (b : Bool) → (b ≡ true → ⊥) → b ≡ false
    not_true true n = absurd (n refl)
    not_true false n = refl

-- ---- a list of assets

-- what it has of the row's asset
abbrev pub listed_sum : AssetRow → List Asset → ℕ
listed_sum row list = sum_where (is_of_row row) (rows_of list)

pub sum_is : (row : AssetRow) (list : List Asset) → total (is_of_row row) (bundle_of list) ≡ listed_sum row list
sum_is row list = total-bundle_of (is_of_row row) list

raised_more : (b : Bool) (n rest : ℕ) (o : Option (Option ℕ)) → option_map (option_map (λ m. m + rest)) (option_map (changed_if b (λ m. m + n)) o) ≡ option_map (option_map (λ m. m + (amount_if b n + rest))) o
raised_more b n rest None = refl
raised_more true n rest (Some None) = refl
raised_more false n rest (Some None) = refl
raised_more true n rest (Some (Some m)) = ap (λ x. Some (Some x)) (let e : (m + n) + rest ≡ m + (n + rest) = omega arith in e)
raised_more false n rest (Some (Some m)) = ap (λ x. Some (Some x)) (let e : m + rest ≡ m + (0 + rest) = omega arith in e)

lowered_more : (b : Bool) (n rest : ℕ) (o : Option (Option ℕ)) → option_map (option_map (λ m. m - rest)) (option_map (changed_if b (λ m. m - n)) o) ≡ option_map (option_map (λ m. m - (amount_if b n + rest))) o
lowered_more b n rest None = refl
lowered_more true n rest (Some None) = refl
lowered_more false n rest (Some None) = refl
lowered_more true n rest (Some (Some m)) = ap (λ x. Some (Some x)) (let e : (m - n) - rest ≡ m - (n + rest) = omega arith in e)
lowered_more false n rest (Some (Some m)) = ap (λ x. Some (Some x)) (let e : m - rest ≡ m - (0 + rest) = omega arith in e)

none_raised : (o : Option (Option ℕ)) → o ≡ option_map (option_map (λ m. m + 0)) o
none_raised None = refl
none_raised (Some None) = refl
none_raised (Some (Some m)) = ap (λ x. Some (Some x)) (let e : m ≡ m + 0 = omega arith in e)

none_lowered : (o : Option (Option ℕ)) → o ≡ option_map (option_map (λ m. m - 0)) o
none_lowered None = refl
none_lowered (Some None) = refl
none_lowered (Some (Some m)) = ap (λ x. Some (Some x)) (let e : m ≡ m - 0 = omega arith in e)

module _ (rows : List AssetRow) (place : ℕ) (row : AssetRow) (apart : RowsApart rows) (at : slice_get rows place ≡ Some row) where
  pub all_raised : (list : List Asset) (cs : List (Option ℕ)) → slice_get (changed_all (λ n a. n + a) list rows cs) place ≡ option_map (option_map (λ n. n + listed_sum row list)) (slice_get cs place)
  all_raised [] cs = none_raised (slice_get cs place)
  all_raised (a ∷ list) cs =
      all_raised list (changed_rows (λ n m. n + m) a rows cs)
      ∙ ap (option_map (option_map (λ n. n + listed_sum row list))) (changed_at (λ n m. n + m) a rows cs place row apart at)
      ∙ raised_more (is_row_of a row) (amount_of a) (listed_sum row list) (slice_get cs place)
      ∙ ap (λ b. option_map (option_map (λ m. m + (amount_if b (amount_of a) + listed_sum row list))) (slice_get cs place)) (sym (row_listed a row))

  pub all_lowered : (list : List Asset) (cs : List (Option ℕ)) → slice_get (changed_all (λ n a. n - a) list rows cs) place ≡ option_map (option_map (λ n. n - listed_sum row list)) (slice_get cs place)
  all_lowered [] cs = none_lowered (slice_get cs place)
  all_lowered (a ∷ list) cs =
      all_lowered list (changed_rows (λ n m. n - m) a rows cs)
      ∙ ap (option_map (option_map (λ n. n - listed_sum row list))) (changed_at (λ n m. n - m) a rows cs place row apart at)
      ∙ lowered_more (is_row_of a row) (amount_of a) (listed_sum row list) (slice_get cs place)
      ∙ ap (λ b. option_map (option_map (λ m. m - (amount_if b (amount_of a) + listed_sum row list))) (slice_get cs place)) (sym (row_listed a row))

-- the account that there was
pub was_there : (f : ℕ → ℕ) (o : Option (Option ℕ)) (n : ℕ) → option_map (option_map f) o ≡ Some (Some n) → (m : ℕ) × (o ≡ Some (Some m)) × (f m ≡ n)
was_there f None n e = absurd (cc e)
was_there f (Some None) n e = absurd (cc e)
was_there f (Some (Some m)) n e = (m, refl, cc e)

-- ---- what comes by a reserve's deposit is of no native row
not_reserve : (here : ChainId) (l : Location) (role : AssetRole) → is_native_role role ≡ true → is_reserve_role here l role ≡ false
not_reserve here l (AssetRole.Native partners checking) h = refl
not_reserve here l (AssetRole.Derivative reserve) h = absurd (cc h)

module _ (p : ChainPart) (place : ℕ) (row : AssetRow) (apart : RowsApart p.rows) (at : slice_get p.rows place ≡ Some row) where
  untrusted : (who : Location) (a : Asset) → is_native_role row.role ≡ true → trust_fault p who false a ≡ None → is_row_of a row ≡ true → ⊥
  untrusted who a native ok is =
      not_both (is_reserve_role p.site.chain who row.role) (not_reserve p.site.chain who row.role native)
      (sym (ap (holds_of (is_reserve_role p.site.chain who)) (row_is a p.rows place row apart at is)) ∙ unless_held _ _ _ ok)

  pub none_deposited : (who : Location) (list : List Asset) → is_native_role row.role ≡ true → first_fault (trust_fault p who false) list ≡ None → listed_sum row list ≡ 0
  none_deposited who [] native ok = refl
  none_deposited who (a ∷ list) native ok =
      let rest = none_deposited who list native (none_next (trust_fault p who false a) (first_fault (trust_fault p who false) list) ok) in
      let none : amount_if (is_of_row row (unit_of a)) (amount_of a) ≡ 0 =
      elim (is_of_row row (unit_of a)) as (λ b. is_of_row row (unit_of a) ≡ b → amount_if b (amount_of a) ≡ 0) [
        | true ↦ λ t. absurd (untrusted who a native (none_first _ _ ok) (sym (row_listed a row) ∙ t))
        | false ↦ λ f. refl
      ] refl in
      omega (arith, rest, none)

-- ---- what comes by a teleport is no more than the account has
fungible : (o : Option Instance) → kind_of o ≡ Kind.Fungible → o ≡ None
fungible None e = refl
fungible (Some i) e = absurd (cc e)

abbrev pub unit_of_row : AssetRow → Unit
unit_of_row row = (Concrete row.id, None)

row_unit : (a : Asset) (row : AssetRow) → row.kind ≡ Kind.Fungible → is_row_of a row ≡ true → ◌≡◌ {A = Unit} (unit_of a) (unit_of_row row)
row_unit a row kind is =
    let says = (is_row_of_says a row).0 is in
    let ids : a.id ≡ Concrete row.id = says.0 in
    let one : (unit_of a).1 ≡ None = fungible (unit_of a).1 (says.1 ∙ kind) in
    λ i. (ids i, one i)

counts : (row : AssetRow) (a : Asset) (list : List Asset) → row.kind ≡ Kind.Fungible → is_row_of a row ≡ true → occurrences (unit_of_row row) (a ∷ list) ≡ 1 + occurrences (unit_of_row row) list
counts row a list kind is =
    sum_by-cons (λ b. cond {A = ℕ} (is_of (unit_of_row row) b) 1 0) a list
    ∙ ap (λ t. cond {A = ℕ} t 1 0 + occurrences (unit_of_row row) list) (subst (λ (u : Unit). is_of u a ≡ true) (row_unit a row kind is) (same_key unit_keys (unit_of a)))

fewer_left : (row : AssetRow) (a : Asset) (list : List Asset) → occurrences (unit_of_row row) list ≤ occurrences (unit_of_row row) (a ∷ list)
fewer_left row a list = let e = sum_by-cons (λ b. cond {A = ℕ} (is_of (unit_of_row row) b) 1 0) a list in omega (arith, e)

none_left : (row : AssetRow) (list : List Asset) → row.kind ≡ Kind.Fungible → occurrences (unit_of_row row) list ≡ 0 → listed_sum row list ≡ 0
none_left row [] kind none = refl
none_left row (a ∷ list) kind none =
    let less = fewer_left row a list in
    let rest = none_left row list kind (omega (arith, less, none)) in
    let nothing : amount_if (is_of_row row (unit_of a)) (amount_of a) ≡ 0 =
    elim (is_of_row row (unit_of a)) as (λ b. is_of_row row (unit_of a) ≡ b → amount_if b (amount_of a) ≡ 0) [
      | true ↦ λ t. absurd (let one = counts row a list kind (sym (row_listed a row) ∙ t) in omega (arith, one, none))
      | false ↦ λ f. refl
    ] refl in
    omega (arith, rest, nothing)

module _ (p : ChainPart) (place : ℕ) (row : AssetRow) (n : ℕ) (apart : RowsApart p.rows) (at : slice_get p.rows place ≡ Some row) (there : slice_get p.checking place ≡ Some (Some n)) (kind : row.kind ≡ Kind.Fungible) where
  one_covered : (a : Asset) → lower_fault p a ≡ None → is_row_of a row ≡ true → amount_of a ≤ n
  one_covered a ok is = at_most (amount_of a) n
      (sym (ap (λ (o : Option ℕ). option_map_or (λ (n : ℕ). nat_le (amount_of a) n) o true) (account_is p a place row n apart at is there)) ∙ unless_held _ _ _ ok)

  pub all_covered : (list : List Asset) → first_fault (lower_fault p) list ≡ None → occurrences (unit_of_row row) list ≤ 1 → listed_sum row list ≤ n
  all_covered [] ok once = omega arith
  all_covered (a ∷ list) ok once =
      elim (is_of_row row (unit_of a)) as (λ b. is_of_row row (unit_of a) ≡ b → amount_if b (amount_of a) + listed_sum row list ≤ n) [
        | true ↦ λ t.
            let is = sym (row_listed a row) ∙ t in
            let one = counts row a list kind is in
            let none_more : occurrences (unit_of_row row) list ≡ 0 = omega (arith, one, once) in
            let rest : listed_sum row list ≡ 0 = none_left row list kind none_more in
            let here : amount_of a ≤ n = one_covered a (none_first _ _ ok) is in
            omega (arith, rest, here)
        | false ↦ λ f.
            let less = fewer_left row a list in
            let one_more : occurrences (unit_of_row row) list ≤ 1 = omega (arith, less, once) in
            let rest : listed_sum row list ≤ n = all_covered list (none_next (lower_fault p a) (first_fault (lower_fault p) list) ok) one_more in
            omega (arith, rest)
      ] refl

-- ---- the assets of a bundle have no more than the bundle
unit_back : (id : AssetId) (o : Option Instance) (n : ℕ) → ◌≡◌ {A = Unit} (unit_of (record { id = id; fun = fun_of o n })) (id, o)
unit_back id None n = refl
unit_back id (Some instance) n = refl

amount_back : (id : AssetId) (o : Option Instance) (n : ℕ) → 0 < n → amount_of (record { id = id; fun = fun_of o n }) ≤ n
amount_back id None n some = omega arith
amount_back id (Some instance) n some = omega (arith, some)

if_less : (b : Bool) (m n : ℕ) → m ≤ n → amount_if b m ≤ amount_if b n
if_less true m n le = le
if_less false m n le = omega arith

assets_less : (test : Unit → Bool) (rs : List (Unit × ℕ)) → IsPositive rs → sum_where test (rows_of (assets_of_rows rs)) ≤ sum_where test rs
assets_less test [] positive = omega arith
assets_less test (r ∷ rs) positive =
    let x : Asset = record { id = r.0.0; fun = fun_of r.0.1 r.1 } in
    let rest = assets_less test rs positive.1 in
    let same : amount_if (test (unit_of x)) (amount_of x) ≡ amount_if (test r.0) (amount_of x) = ap (λ (u : Unit). amount_if (test u) (amount_of x)) (unit_back r.0.0 r.0.1 r.1) in
    let less = if_less (test r.0) (amount_of x) r.1 (amount_back r.0.0 r.0.1 r.1 positive.0) in
    omega (arith, rest, same, less)

pub held_less : (row : AssetRow) (goods : Bundle) → listed_sum row (held_assets goods) ≤ total (is_of_row row) goods
unfolding held_assets
held_less row goods = let less = assets_less (is_of_row row) (rows goods) (rows_positive goods) in let e = total-rows (is_of_row row) goods in omega (arith, less, e)

-- ---- a list that each account has room for
abbrev pub LeavesRoom : ChainPart → List Asset → Type 0
LeavesRoom p list = (place : ℕ) (row : AssetRow) (n : ℕ) → slice_get p.rows place ≡ Some row → slice_get p.checking place ≡ Some (Some n) → n + listed_sum row list < 2 ^ 128 - 1

below_end : (n m : ℕ) → n + m < 2 ^ 128 - 1 → nat_le (n + m) (2 ^ 128 - 1) ≡ true
below_end n m lt = grind (arith, nat_tests, lt)

module _ (p : ChainPart) (a : Asset) (list : List Asset) (room : LeavesRoom p (a ∷ list)) where
  by_account : (place : ℕ) (row : AssetRow) → slice_get p.rows place ≡ Some row → is_row_of a row ≡ true → (o : Option (Option ℕ)) → slice_get p.checking place ≡ o
      → unless (option_map_or (λ (n : ℕ). nat_le (n + amount_of a) (2 ^ 128 - 1)) (option_and_then (λ (c : Option ℕ). c) o) true) error.NotDepositable None ≡ None
  by_account place row at is None e = refl
  by_account place row at is (Some None) e = refl
  by_account place row at is (Some (Some n)) e =
      let lt = room place row n at e in
      let here : amount_if (is_of_row row (unit_of a)) (amount_of a) ≡ amount_of a = ap (λ b. amount_if b (amount_of a)) (row_listed a row ∙ is) in
      ap (λ (b : Bool). unless b error.NotDepositable None) (below_end n (amount_of a) (omega (arith, lt, here)))

  by_place : (o : Option ℕ) → position (is_row_of a) p.rows ≡ o
      → unless (option_map_or (λ (n : ℕ). nat_le (n + amount_of a) (2 ^ 128 - 1)) (option_and_then (λ (place : ℕ). option_and_then (λ (c : Option ℕ). c) (slice_get p.checking place)) o) true) error.NotDepositable None ≡ None
  by_place None e = refl
  by_place (Some place) e = by_row p.rows refl e
    where
      by_row : (rows : List AssetRow) → p.rows ≡ rows → position (is_row_of a) rows ≡ Some place
          → unless (option_map_or (λ (n : ℕ). nat_le (n + amount_of a) (2 ^ 128 - 1)) (option_and_then (λ (c : Option ℕ). c) (slice_get p.checking place)) true) error.NotDepositable None ≡ None
      by_row [] same at = absurd (cc at)
      by_row (r ∷ rs) same at =
          let first = position-Some (is_row_of a) (r ∷ rs) place r at in
          by_account place (get_or (r ∷ rs) place r) (ap (λ (rows : List AssetRow). slice_get rows place) same ∙ slice_get-get_or (r ∷ rs) place r first.0) first.1 (slice_get p.checking place) refl

  one_raised : raise_fault p a ≡ None
  one_raised = by_place (position (is_row_of a) p.rows) refl

pub all_rise : (p : ChainPart) (list : List Asset) → LeavesRoom p list → first_fault (raise_fault p) list ≡ None
all_rise p [] room = refl
all_rise p (a ∷ list) room =
    ap (λ (o : Option XcmError). or_else o (first_fault (raise_fault p) list)) (one_raised p a list room)
    ∙ all_rise p list (λ place row n at there. let lt = room place row n at there in omega (arith, lt))
