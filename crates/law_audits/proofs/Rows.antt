-- A sum over all units of some listed assets is the sum over the rows of these, each under its id and kind: where nothing else than what the
-- rows list counts, and no two rows list the same.
use Rattle.std.specs.Prelude.{◌≡◌, ℕ, ◌+◌, ◌≤◌, Bool, true, false, ◌&&◌, ◌||◌, not, if◌then◌else◌, List, [], ◌∷◌, sum_by, refl}
use Rattle.std.specs.List.{list_any, AllByRecursion, IsDistinct}
use Rattle.std.specs.Ordering.{eq_by_cmp}
use Rattle.std.proofs.Common.{sym, ap, ◌∙◌, arith}
use Rattle.std.proofs.lemmas.List.Sums.{sum_by-cons}
use Rattle.amounts.proofs.Lemmas.{same_key, key_same}
use Rattle.asset_lists.specs.Listed.{Listed, listed_cmp, lists}
use Rattle.asset_bundles.proofs.Lemmas.{listed_keys}
use Rattle.trust_tables.specs.declared.rows.AssetRow.{AssetRow}
use Rattle.trust_tables.specs.Trust.{listing, listed_row}
use Rattle.law_steps.specs.Rooms.{unlisted}
use Rattle.plain_lists.proofs.Lemmas.Facts.{false_where_not_true as fails, second_false as no_other}

-- a sum of what listed assets have: it rises with the test of them, and splits by any other
pub record IsSum (f : (Listed → Bool) → ℕ) : Type 0 where
  pub rises : (t u : Listed → Bool) → ((k : Listed) → t k ≡ true → u k ≡ true) → f t ≤ f u
  pub splits : (t u : Listed → Bool) → f t ≡ f (λ k. u k && t k) + f (λ k. not (u k) && t k)

-- ---- tests
abbrev pub is_at : AssetRow → Listed → Bool
is_at row k = eq_by_cmp listed_cmp (listed_row row) k

-- one of the rows that pass lists the asset
abbrev any_of : (AssetRow → Bool) → List AssetRow → Listed → Bool
any_of on rows k = list_any (λ (row : AssetRow). on row && is_at row k) rows

not_both : {A : Type 0} (b : Bool) → b ≡ true → b ≡ false → A
not_both true h k = absurd cc
not_both false h k = absurd cc

first_alone : (e x : Bool) → (e && (e || x)) ≡ e
first_alone true x = refl
first_alone false x = refl

second_alone : (e x : Bool) → (e ≡ true → x ≡ false) → (e && x) ≡ false
second_alone true x h = h refl
second_alone false x h = refl

none_here : (a x : Bool) → ((a && false) || x) ≡ x
none_here true x = refl
none_here false x = refl

without_first : (a e x : Bool) → (e ≡ true → x ≡ false) → (not e && ((a && e) || x)) ≡ x
without_first a true x h = sym (h refl)
without_first a false x h = none_here a x

both_pass : (a t : Bool) → (a ≡ true → t ≡ true) → (a && t) ≡ a
both_pass true t h = h refl
both_pass false t h = refl

-- what another row lists isn't among these
apart_row : (row other : AssetRow) (k : Listed) → eq_by_cmp listed_cmp (listed_row row) (listed_row other) ≡ false → is_at row k ≡ true → is_at other k ≡ false
apart_row row other k apart here = fails (is_at other k) (λ there.
    let same : listed_row row ≡ listed_row other = key_same listed_keys (listed_row row) k here ∙ sym (key_same listed_keys (listed_row other) k there) in
    not_both (eq_by_cmp listed_cmp (listed_row row) (listed_row other)) (ap (eq_by_cmp listed_cmp (listed_row row)) (sym same) ∙ same_key listed_keys (listed_row row)) apart)

apart_rows : (on : AssetRow → Bool) (row : AssetRow) (rows : List AssetRow) (k : Listed) → AllByRecursion (λ l. eq_by_cmp listed_cmp (listed_row row) l ≡ false) (listing rows) → is_at row k ≡ true → any_of on rows k ≡ false
apart_rows on row [] k apart here = refl
apart_rows on row (r ∷ rows) k apart here =
    let away : (on r && is_at r k) ≡ false = no_other (on r) (is_at r k) (apart_row row r k apart.0 here) in
    ap (λ (b : Bool). b || any_of on rows k) away ∙ apart_rows on row rows k apart.1 here

-- a test of what rows list
module _ (test : Listed → Bool) where
  abbrev passes : AssetRow → Bool
  passes row = test (listed_row row)

  passes_here : (row : AssetRow) (k : Listed) (b x : Bool) → passes row ≡ b → listed_row row ≡ k → (x ≡ true → test k ≡ true) → ((b && true) || x) ≡ true → test k ≡ true
  passes_here row k true x e same rest g = ap test (sym same) ∙ e
  passes_here row k false x e same rest g = rest g

  any_passes : (rows : List AssetRow) (k : Listed) → any_of passes rows k ≡ true → test k ≡ true
  any_passes [] k h = absurd cc
  any_passes (row ∷ rows) k h =
      elim (is_at row k) as (λ b. is_at row k ≡ b → ((passes row && b) || any_of passes rows k) ≡ true → test k ≡ true) [
        | true ↦ λ t g. passes_here row k (passes row) (any_of passes rows k) refl (key_same listed_keys (listed_row row) k t) (any_passes rows k) g
        | false ↦ λ t g. any_passes rows k (sym (none_here (passes row) (any_of passes rows k)) ∙ g)
      ] refl h

  any_there : (rows : List AssetRow) (k : Listed) → lists (listing rows) k ≡ true → test k ≡ true → any_of passes rows k ≡ true
  any_there [] k h pass = absurd cc
  any_there (row ∷ rows) k h pass =
      elim (eq_by_cmp listed_cmp k (listed_row row)) as (λ b. eq_by_cmp listed_cmp k (listed_row row) ≡ b → (b || lists (listing rows) k) ≡ true → ((passes row && is_at row k) || any_of passes rows k) ≡ true) [
        | true ↦ λ t g.
            let same : k ≡ listed_row row = key_same listed_keys k (listed_row row) t in
            let one : passes row ≡ true = ap test (sym same) ∙ pass in
            let two : is_at row k ≡ true = ap (eq_by_cmp listed_cmp (listed_row row)) same ∙ same_key listed_keys (listed_row row) in
            (λ i. (one i && two i) || any_of passes rows k)
        | false ↦ λ t g. or_second (passes row && is_at row k) (any_of passes rows k) (any_there rows k g pass)
      ] refl h
    where
      or_second : (a b : Bool) → b ≡ true → (a || b) ≡ true
      or_second true b h = refl
      or_second false b h = h

  left_unlisted : (rows : List AssetRow) (k : Listed) → (not (any_of passes rows k) && test k) ≡ true → unlisted rows k ≡ true
  left_unlisted rows k h =
      elim (lists (listing rows) k) as (λ b. lists (listing rows) k ≡ b → not b ≡ true) [
        | true ↦ λ there. neither (any_of passes rows k) (test k) (any_there rows k there) h
        | false ↦ λ there. refl
      ] refl
    where
      neither : {A : Type 0} (a t : Bool) → (t ≡ true → a ≡ true) → (not a && t) ≡ true → A
      neither true t h g = absurd cc
      neither false true h g = absurd (not_both false (h refl) refl)
      neither false false h g = absurd cc

-- ---- sums
module _ (f : (Listed → Bool) → ℕ) (is : IsSum f) where
  alike : (t u : Listed → Bool) → ((k : Listed) → t k ≡ u k) → f t ≡ f u
  alike t u same = ap f (λ i k. same k i)

  nothing : f (λ k. false) ≡ 0
  nothing = let split = is.splits (λ k. false) (λ k. false) in omega (arith, split)

  abbrev share : (AssetRow → Bool) → AssetRow → ℕ
  share on row = if on row then f (is_at row) else 0

  own_share : (on : AssetRow → Bool) (row : AssetRow) (rows : List AssetRow) → AllByRecursion (λ l. eq_by_cmp listed_cmp (listed_row row) l ≡ false) (listing rows)
      → f (λ k. is_at row k && any_of on (row ∷ rows) k) ≡ share on row
  own_share on row rows apart =
      elim (on row) as (λ b. f (λ k. is_at row k && ((b && is_at row k) || any_of on rows k)) ≡ (if b then f (is_at row) else 0)) [
        | true ↦ alike _ (is_at row) (λ k. first_alone (is_at row k) (any_of on rows k))
        | false ↦ alike _ (λ k. false) (λ k. second_alone (is_at row k) (any_of on rows k) (apart_rows on row rows k apart)) ∙ nothing
      ]

  by_rows : (on : AssetRow → Bool) (rows : List AssetRow) → IsDistinct (eq_by_cmp listed_cmp) (listing rows) → sum_by (share on) rows ≡ f (any_of on rows)
  unfolding IsDistinct
  by_rows on [] once = sym nothing
  by_rows on (row ∷ rows) once =
      let rest = by_rows on rows once.1 in
      let all = sum_by-cons (share on) row rows in
      let split = is.splits (any_of on (row ∷ rows)) (is_at row) in
      let here = own_share on row rows once.0 in
      let others = alike (λ k. not (is_at row k) && any_of on (row ∷ rows) k) (any_of on rows) (λ k. without_first (on row) (is_at row k) (any_of on rows k) (apart_rows on row rows k once.0)) in
      omega (arith, rest, all, split, here, others)

  -- over the rows that pass
  pub over_listed : (test : Listed → Bool) (rows : List AssetRow) → IsDistinct (eq_by_cmp listed_cmp) (listing rows) → f (unlisted rows) ≡ 0
      → sum_by (λ (row : AssetRow). if test (listed_row row) then f (is_at row) else 0) rows ≡ f test
  over_listed test rows once none =
      let any = any_of (passes test) rows in
      let sums = by_rows (passes test) rows once in
      let split = is.splits test any in
      let these = alike (λ k. any k && test k) any (λ k. both_pass (any k) (test k) (any_passes test rows k)) in
      let others = is.rises (λ k. not (any k) && test k) (unlisted rows) (left_unlisted test rows) in
      omega (arith, sums, split, these, others, none)
