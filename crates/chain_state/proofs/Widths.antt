-- Amounts that may pass 2^128-1, as lines tell them and as they are booked.
use Rattle.std.proofs.Common.{◌≡◌, ℕ, suc, ◌+◌, ◌-◌, ◌*◌, ◌^◌, ◌<◌, ◌≤◌, min, Bool, true, false, List, [], ◌∷◌, length, get_or, drop, refl, sym, ap, ◌∙◌, arith, add-one, drop-cons}
use Rattle.std.specs.Ordering.{eq_by_cmp}
use Rattle.std.proofs.lemmas.Nat.{div-mul-add, mod-mul-add}
use Rattle.std.proofs.lemmas.List.{drop_all}
use Rattle.amounts.specs.Rows.{amount_if, rows_at}
use Rattle.amounts.specs.Amounts.{single, merge, from_rows, plus_all, empty}
use Rattle.amounts.proofs.Lemmas.AmountLaws.{same_amounts}
use Rattle.amounts.proofs.Lemmas.{amount-single, amount-merge, amount-from_rows, single-zero}
use Rattle.asset_lists.specs.Units.{Unit}
use Rattle.asset_bundles.specs.Books.{Burn, burn_cmp, Burns, Book, Booked}
use Rattle.asset_bundles.proofs.Lemmas.{burn_keys, booked_again, booked_nothing, listed-Booked}
use Rattle.exec_base.specs.Host.{total_of}

-- the total that a line tells
pub wide_total : (high low : ℕ) → low < 2 ^ 128 → total_of (high * 2 ^ 128 + low) ≡ record { low = low; high = min high (2 ^ 32 - 1) }
wide_total high low small = λ i. record { low = mod-mul-add high (2 ^ 128) low small i; high = min (div-mul-add high (2 ^ 128) low small i) (2 ^ 32 - 1) }

-- ---- one asset
both : (b : Bool) (m n : ℕ) → amount_if b m + amount_if b n ≡ amount_if b (m + n)
both true m n = refl
both false m n = refl

single_sum : (k : Burn) (m n : ℕ) → merge (single {R = burn_cmp} k m) (single k n) ≡ single k (m + n)
single_sum k m n = same_amounts burn_keys _ _ (λ q.
    amount-merge burn_keys (single k m) (single k n) q ∙ (λ i. amount-single burn_keys k m q i + amount-single burn_keys k n q i)
    ∙ both (eq_by_cmp burn_cmp q k) m n ∙ sym (amount-single burn_keys k (m + n) q))

-- booked twice is booked at once
pub booked_more : (book : Book) (k : Burn) (m n : ℕ) → Booked (Booked book (single k m)) (single k n) ≡ Booked book (single k (m + n))
booked_more book k m n = booked_again book (single k m) (single k n) ∙ ap (Booked book) (single_sum k m n)

pub booked_zero : (book : Book) (k : Burn) → book ≡ Booked book (single k 0)
booked_zero book k = sym (ap (Booked book) (single-zero burn_keys k) ∙ booked_nothing book)

next_whole : (i : ℕ) → i * 2 ^ 128 + (2 ^ 128 - 1) + 1 ≡ (i + 1) * 2 ^ 128
next_whole i = omega arith

-- 2^128 more, in two parts
pub booked_whole : (book old next after : Book) (k : Burn) (i : ℕ) → old ≡ Booked book (single k (i * 2 ^ 128)) → next ≡ Booked old (single k (2 ^ 128 - 1)) → after ≡ Booked next (single k 1)
    → after ≡ Booked book (single k ((i + 1) * 2 ^ 128))
booked_whole book old next after k i so_far first second =
    second ∙ ap (λ b. Booked b (single k 1)) (first ∙ ap (λ b. Booked b (single k (2 ^ 128 - 1))) so_far ∙ booked_more book k (i * 2 ^ 128) (2 ^ 128 - 1))
    ∙ booked_more book k (i * 2 ^ 128 + (2 ^ 128 - 1)) 1 ∙ ap (λ n. Booked book (single k n)) (next_whole i)

pub rows_stay : (book after : Book) (more : Burns) → after ≡ Booked book more → after.listed ≡ book.listed
rows_stay book after more is = ap (λ (b : Book). b.listed) is ∙ listed-Booked book more

-- ---- all assets
module _ (f : Unit → Burn) where
  rows_cons : (r : Unit × ℕ) (rs : List (Unit × ℕ)) → from_rows {R = burn_cmp} (rows_at f (r ∷ rs)) ≡ merge (single (f r.0) r.1) (from_rows (rows_at f rs))
  rows_cons r rs = same_amounts burn_keys _ _ (λ q.
      amount-from_rows burn_keys (rows_at f (r ∷ rs)) q
      ∙ sym (λ i. amount-single burn_keys (f r.0) r.1 q i + amount-from_rows burn_keys (rows_at f rs) q i)
      ∙ sym (amount-merge burn_keys (single (f r.0) r.1) (from_rows (rows_at f rs)) q))

  -- the first of the rest is booked
  pub booked_next : (units : List (Unit × ℕ)) (i : ℕ) (r : Unit × ℕ) (book old after : Book) → i < length units → r ≡ get_or units i r → after ≡ Booked old (single (f r.0) r.1)
      → Booked old (from_rows (rows_at f (drop i units))) ≡ Booked book (from_rows (rows_at f units)) → Booked after (from_rows (rows_at f (drop (i + 1) units))) ≡ Booked book (from_rows (rows_at f units))
  booked_next units i r book old after inside at is so_far =
      let here : drop i units ≡ r ∷ drop (i + 1) units = rw (add-one, drop-cons units i r) (ap (λ (x : Unit × ℕ). x ∷ drop (suc i) units) (sym at)) in
      ap (λ b. Booked b (from_rows (rows_at f (drop (i + 1) units)))) is
      ∙ booked_again old (single (f r.0) r.1) (from_rows (rows_at f (drop (i + 1) units)))
      ∙ ap (Booked old) (sym (rows_cons r (drop (i + 1) units)))
      ∙ ap (λ (us : List (Unit × ℕ)). Booked old (from_rows (rows_at f us))) (sym here) ∙ so_far

  no_rows : from_rows {R = burn_cmp} (rows_at f []) ≡ empty
  unfolding from_rows plus_all
  no_rows = refl

  pub booked_all : (units : List (Unit × ℕ)) (i : ℕ) (book after : Book) → length units ≤ i → Booked after (from_rows (rows_at f (drop i units))) ≡ Booked book (from_rows (rows_at f units)) → after ≡ Booked book (from_rows (rows_at f units))
  booked_all units i book after past so_far =
      sym (ap (λ (us : List (Unit × ℕ)). Booked after (from_rows (rows_at f us))) (drop_all i units past) ∙ ap (Booked after) no_rows ∙ booked_nothing after) ∙ so_far

pub all_counted : (i n : ℕ) → i ≤ n → n ≤ i → i ≡ n
all_counted i n within past = omega (arith, within, past)
