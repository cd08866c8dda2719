-- What the rows of an account say, number by number.
use Rattle.std.proofs.Common.{◌≡◌, ℕ, zero, suc, ◌<◌, ◌≤◌, true, if◌then◌else◌, List, [], ◌∷◌, ◌++◌, take, length, map, get_or, set, inl, inr, refl, sym, ap, ◌∙◌, subst, arith, true≢false, get_or-set_same, get_or-set_other}
use Rattle.std.specs.Prelude.{Option, None, Some, unwrap_or, slice_get}
use Rattle.std.specs.Ordering.{eq_by_cmp, nat_cmp, is_eq, ordering_then}
use Rattle.std.specs.declared.cmp.Ordering.TheVariants.{Less}
use Rattle.std.specs.declared.ops.Bound.TheVariants.{Included, Unbounded}
use Rattle.std.specs.BTreeMap.Range.{range_contains, entries_between}
use Rattle.std.specs.Map.{lookup, keys_of}
use Rattle.std.specs.List.{AllByRecursion}
use Rattle.std.proofs.Math.Seq.{take-append_seam}
use Rattle.std.proofs.lemmas.Bool.{cases_Bool}
use Rattle.std.proofs.lemmas.Map.Entries.{lookup-filter-keys}
use Rattle.amounts.proofs.Lemmas.{key_same}
use Rattle.asset_lists.specs.Listed.{Listed}
use Rattle.asset_bundles.specs.declared.wide_sum.WideSum.{WideSum}
use Rattle.ledgers.specs.Ledgers.{account_cmp, account_sum_of}
use Rattle.ledgers.specs.LedgerRows.{AmountKey, OwnerKey, amount_key_cmp, amount_in_row, held_in, IsSound}
use Rattle.ledgers.proofs.Lemmas.{account_keys}
use Rattle.ledgers.proofs.RowLookups.{amount_keys, same_as, none_behind}
use Rattle.ledgers.proofs.AccountGoods.{first_in_range}
use Rattle.ledgers.proofs.NextRows.{not_behind}
use Rattle.ledgers.proofs.Numbers.{at_number}
use Rattle.ledgers.proofs.Reading.{inside, part_is}
use Rattle.plain_lists.proofs.Lemmas.Facts.{false_where_not_true as not_true}

-- what the rows that are left, or else the sums so far, say of a number
abbrev pub said : List ℕ → List (AmountKey × ℕ) → List ℕ → ℕ → ℕ
said who rest sums n = unwrap_or (lookup (eq_by_cmp amount_key_cmp (who, n)) rest) (get_or sums n 0)

-- together they say what all rows say
abbrev pub AreLeft : List (AmountKey × ℕ) → List ℕ → List (AmountKey × ℕ) → List ℕ → Type 0
AreLeft rows who rest sums = (n : ℕ) → n < length sums → said who rest sums n ≡ amount_in_row rows (who, n)

pub set_past : (xs : List ℕ) (i v : ℕ) → length xs ≤ i → set xs i v ≡ xs
set_past [] i v past = refl
set_past (x ∷ xs) zero v past = absurd (omega (arith, past))
set_past (x ∷ xs) (suc i) v past = ap (λ ys. x ∷ ys) (set_past xs i v (omega (arith, past)))

module _ (rows : List (AmountKey × ℕ)) (who : List ℕ) where
  -- at first all are left
  pub all_left : (rest : List (AmountKey × ℕ)) (sums : List ℕ) → rest ≡ entries_between amount_key_cmp (Included (who, 0)) Unbounded rows → ((n : ℕ) → get_or sums n 0 ≡ 0) → AreLeft rows who rest sums
  all_left rest sums is zeros n few =
      ap (λ d. unwrap_or (lookup (eq_by_cmp amount_key_cmp (who, n)) rest) d) (zeros n)
      ∙ ap (λ es. unwrap_or (lookup (eq_by_cmp amount_key_cmp (who, n)) es) 0) is
      ∙ ap (λ o. unwrap_or o 0) (lookup-filter-keys (eq_by_cmp amount_key_cmp (who, n)) (range_contains amount_key_cmp (Included (who, 0)) Unbounded) true within rows)
    where
      within : (k : AmountKey) → eq_by_cmp amount_key_cmp (who, n) k ≡ true → range_contains amount_key_cmp (Included (who, 0)) Unbounded k ≡ true
      within k t = first_in_range who k (same_as account_keys who k.0 (ap (λ (q : AmountKey). q.0) (key_same amount_keys (who, n) k t)))

  -- the next one is written at its number
  pub one_written : (row : AmountKey × ℕ) (rest : List (AmountKey × ℕ)) (sums : List ℕ) → eq_by_cmp account_cmp who row.0.0 ≡ true → AllByRecursion (λ q. amount_key_cmp row.0 q ≡ Less) (keys_of rest)
      → length (set sums row.0.1 row.1) ≡ length sums → AreLeft rows who (row ∷ rest) sums → AreLeft rows who rest (set sums row.0.1 row.1)
  one_written row rest sums own later many left n few =
      elim (cases_Bool (eq_by_cmp amount_key_cmp (who, n) row.0)) [
        | inl t ↦ (
            let number : n ≡ row.0.1 = ap (λ (q : AmountKey). q.1) (key_same amount_keys (who, n) row.0 t) in
            let none : lookup (eq_by_cmp amount_key_cmp (who, n)) rest ≡ None = none_behind amount_keys (who, n) row.0 rest later t in
            let inside : row.0.1 < length sums = omega (arith, few, many, number) in
            let now : get_or (set sums row.0.1 row.1) n 0 ≡ row.1 = ap (λ m. get_or (set sums row.0.1 row.1) m 0) number ∙ get_or-set_same sums row.0.1 row.1 0 inside in
            let was : said who (row ∷ rest) sums n ≡ row.1 = ap (λ b. unwrap_or (if b then Some row.1 else lookup (eq_by_cmp amount_key_cmp (who, n)) rest) (get_or sums n 0)) t in
            ap (λ o. unwrap_or o (get_or (set sums row.0.1 row.1) n 0)) none ∙ now ∙ sym was ∙ left n (omega (arith, few, many)))
        | inr f ↦ (
            let other : row.0.1 ≡ n → ⊥ = λ e. true≢false (sym (same_as amount_keys (who, n) row.0 (λ i. (key_same account_keys who row.0.0 own i, sym e i))) ∙ f) in
            let now : get_or (set sums row.0.1 row.1) n 0 ≡ get_or sums n 0 = get_or-set_other sums row.0.1 n row.1 0 (λ e. other (sym e)) in
            let was : said who (row ∷ rest) sums n ≡ said who rest sums n = ap (λ b. unwrap_or (if b then Some row.1 else lookup (eq_by_cmp amount_key_cmp (who, n)) rest) (get_or sums n 0)) f in
            ap (λ d. unwrap_or (lookup (eq_by_cmp amount_key_cmp (who, n)) rest) d) now ∙ sym was ∙ left n (omega (arith, few, many)))
      ]

  -- where the next one is of a later account, nothing is left
  none_later : (row : AmountKey × ℕ) (rest : List (AmountKey × ℕ)) (n : ℕ) → account_cmp who row.0.0 ≡ Less → AllByRecursion (λ q. amount_key_cmp row.0 q ≡ Less) (keys_of rest)
      → lookup (eq_by_cmp amount_key_cmp (who, n)) rest ≡ None
  none_later row [] n less later = refl
  none_later row (e ∷ rest) n less later =
      ap (λ b. if b then Some e.1 else lookup (eq_by_cmp amount_key_cmp (who, n)) rest)
      (not_true _ (λ t. not_behind row.0 e.0 later.0 (subst (λ (q : AmountKey). account_cmp q.0 row.0.0 ≡ Less) (key_same amount_keys (who, n) e.0 t) less)))
      ∙ none_later row rest n less later.1

  pub left_at_later : (row : AmountKey × ℕ) (rest : List (AmountKey × ℕ)) (sums : List ℕ) → account_cmp who row.0.0 ≡ Less → AllByRecursion (λ q. amount_key_cmp row.0 q ≡ Less) (keys_of rest)
      → AreLeft rows who (row ∷ rest) sums → (n : ℕ) → n < length sums → get_or sums n 0 ≡ amount_in_row rows (who, n)
  left_at_later row rest sums less later left n few =
      sym (ap (λ b. unwrap_or (if b then Some row.1 else lookup (eq_by_cmp amount_key_cmp (who, n)) rest) (get_or sums n 0)) (ap (λ o. is_eq (ordering_then o (nat_cmp n row.0.1))) less)
      ∙ ap (λ o. unwrap_or o (get_or sums n 0)) (none_later row rest n less later)) ∙ left n few

  pub left_at_end : (rest : List (AmountKey × ℕ)) (sums : List ℕ) → rest ≡ [] → AreLeft rows who rest sums → (n : ℕ) → n < length sums → get_or sums n 0 ≡ amount_in_row rows (who, n)
  left_at_end rest sums is left n few = sym (ap (λ es. said who es sums n) is) ∙ left n few

-- ---- as a list of all listed assets
listed_sums : (sums : List ℕ) (listed : List Listed) (has : Listed → ℕ) → length sums ≡ length listed → ((n : ℕ) (k : Listed) → slice_get listed n ≡ Some k → get_or sums n 0 ≡ has k) → sums ≡ map has listed
listed_sums [] [] has many each = refl
listed_sums [] (k ∷ listed) has many each = absurd (omega (arith, many))
listed_sums (x ∷ sums) [] has many each = absurd (omega (arith, many))
listed_sums (x ∷ sums) (k ∷ listed) has many each = λ i. each 0 k refl i ∷ listed_sums sums listed has (omega (arith, many)) (λ n. each (suc n)) i

pub sums_of : (listed : List Listed) (amounts : List (AmountKey × ℕ)) (owners : List (OwnerKey × Option (List ℕ))) (wide : List WideSum) → IsSound listed amounts owners wide
    → (who sums : List ℕ) (count : ℕ) → count ≡ length listed → length sums ≡ count → ((n : ℕ) → n < count → get_or sums n 0 ≡ amount_in_row amounts (who, n))
    → sums ≡ map (λ asset. account_sum_of who asset (held_in listed amounts owners)) listed
sums_of listed amounts owners wide sound who sums count all many says =
    listed_sums sums listed (λ asset. account_sum_of who asset (held_in listed amounts owners)) (many ∙ all)
    (λ n k at. let few = inside listed n k at in
    says n (omega (arith, few, all)) ∙ part_is listed amounts owners wide sound n who k.0 k.1 (at_number listed sound.once k n at))

-- what was lent is written back whole
pub whole : (n : ℕ) (xs ys zs : List ℕ) → xs ≡ zs → length zs ≡ n → take n (xs ++ ys) ≡ zs
whole n xs ys zs same many = (λ i. take n (same i ++ ys)) ∙ ap (λ m. take m (zs ++ ys)) (sym many) ∙ take-append_seam zs ys
