-- Lemmas that proofs cite. A reader of the definitions may skip this file.
-- The rows of what all accounts hold, account by account.
use Rattle.std.proofs.Common.{◌≡◌, ◌∙◌, ℕ, suc, ◌+◌, ◌<◌, ◌≤◌, Bool, true, false, not, cond, List, [], ◌∷◌, ◌++◌, length, Option, Some, None, refl, sym, ap, subst, arith, true≢false}
use Rattle.std.specs.Ordering.{eq_by_cmp, is_eq, is_lt, ordering_then, ordering_reverse}
use Rattle.std.specs.declared.cmp.Ordering.{Ordering}
use Rattle.std.specs.declared.cmp.Ordering.TheVariants.{Less, Equal, Greater}
use Rattle.std.specs.FinMap.{is_sorted}
use Rattle.std.specs.FinMap.Entries.{below_all}
use Rattle.std.specs.List.{AllByRecursion}
use Rattle.std.proofs.lemmas.Bool.{and_parts}
use Rattle.amounts.specs.Rows.{IsPositive, sum_where, amount_if}
use Rattle.amounts.proofs.Lemmas.{same_key}
use Rattle.ledgers.specs.Ledgers.{Holder, account_cmp, holder_cmp, is_account, IsAfter}
use Rattle.ledgers.proofs.Lemmas.{account_keys}
use Rattle.ledgers.proofs.Lemmas.Shown.{is_upto, shown, rows_of_account}

abbrev Row : Type 0
Row = Holder × ℕ

-- ---- orderings
-- the account of a row before another isn't after the other's
then_less : (o u : Ordering) → is_lt (ordering_then o u) ≡ true → o ≡ Greater → ⊥
then_less Less u h e = cc
then_less Equal u h e = cc
then_less Greater u h e = cc

then_equal : (o u : Ordering) → is_lt (ordering_then o u) ≡ true → o ≡ Equal → is_lt u ≡ true
then_equal Less u h e = cc
then_equal Equal u h e = h
then_equal Greater u h e = cc

not_less_itself : (a : List ℕ) → account_cmp a a ≡ Less → ⊥
not_less_itself a e = true≢false (sym (same_key account_keys a) ∙ ap is_eq e)

equal_is : (a b : List ℕ) → account_cmp a b ≡ Equal → a ≡ b
equal_is a b e = account_keys.exact a b e

-- after an account, and not before another, is after the account too
after_on : (after : Option (List ℕ)) (w v : List ℕ) → IsAfter after w → (account_cmp w v ≡ Greater → ⊥) → IsAfter after v
after_on None w v h n = tt
after_on (Some a) w v h n = by (account_cmp w v) refl
  where
    by : (o : Ordering) → account_cmp w v ≡ o → account_cmp a v ≡ Less
    by Less e = account_keys.total.trans a w v h e
    by Equal e = subst (λ x. account_cmp a x ≡ Less) (equal_is w v e) h
    by Greater e = absurd (n e)

after_not_upto : (after : Option (List ℕ)) (w : List ℕ) → IsAfter after w → is_upto after w ≡ false
after_not_upto None w h = refl
after_not_upto (Some a) w h = ap (λ o. not (is_lt o)) h

-- an account is up to another, or after it
upto_or_after : (after : Option (List ℕ)) (w : List ℕ) → is_upto after w ≡ false → IsAfter after w
upto_or_after None w h = tt
upto_or_after (Some a) w h = by (account_cmp a w) refl
  where
    by : (o : Ordering) → account_cmp a w ≡ o → account_cmp a w ≡ Less
    by Less e = e
    by Equal e = absurd (true≢false (sym (ap (λ o. not (is_lt o)) e) ∙ h))
    by Greater e = absurd (true≢false (sym (ap (λ o. not (is_lt o)) e) ∙ h))

-- ---- rows after one of an account after `after`
behind : (after : Option (List ℕ)) (e : Row) (es : List Row) → IsAfter after e.0.0 → below_all holder_cmp e.0 es ≡ true → shown after es ≡ []
behind after e [] h b = refl
behind after e (f ∷ es) h b =
    let parts = and_parts (is_lt (holder_cmp e.0 f.0)) (below_all holder_cmp e.0 es) b in
    let later : IsAfter after f.0.0 = after_on after e.0.0 f.0.0 h (then_less _ _ parts.0) in
    ap (λ t. cond t (f ∷ shown after es) (shown after es)) (after_not_upto after f.0.0 later) ∙ behind after e es h parts.1

-- ---- the rows of the next account
abbrev IsLeast : Option (List ℕ) → List ℕ → List Row → Type 0
IsLeast after who es = AllByRecursion (λ (r : Row). IsAfter after r.0.0 → account_cmp r.0.0 who ≡ Less → ⊥) es

upto_next : (after : Option (List ℕ)) (who w : List ℕ) → IsAfter after who → is_upto after w ≡ true → (is_upto (Some who) w ≡ true) × (eq_by_cmp account_cmp who w ≡ false)
upto_next None who w l h = absurd (true≢false (sym h))
upto_next (Some a) who w l h = by (account_cmp who w) refl
  where
    wrong : account_cmp a w ≡ Less → ⊥
    wrong e = true≢false (sym h ∙ ap (λ o. not (is_lt o)) e)

    by : (o : Ordering) → account_cmp who w ≡ o → (not (is_lt (account_cmp who w)) ≡ true) × (is_eq (account_cmp who w) ≡ false)
    by Less e = absurd (wrong (account_keys.total.trans a who w l e))
    by Equal e = absurd (wrong (subst (λ x. account_cmp a x ≡ Less) (equal_is who w e) l))
    by Greater e = (ap (λ o. not (is_lt o)) e, ap is_eq e)

reversed : (w who : List ℕ) → account_cmp who w ≡ Greater → account_cmp w who ≡ Less
reversed w who e = account_keys.total.antisymm w who ∙ ap ordering_reverse e

-- the three lists of one row more
abbrev Three : Option (List ℕ) → List ℕ → Row → List Row → Bool → Bool → Bool → Type 0
Three after who e es a b c = cond a (e ∷ shown (Some who) es) (shown (Some who) es) ≡ cond b (e ∷ shown after es) (shown after es) ++ cond c (e ∷ rows_of_account who es) (rows_of_account who es)

abbrev IsRest : Option (List ℕ) → List ℕ → List Row → Type 0
IsRest after who es = shown (Some who) es ≡ shown after es ++ rows_of_account who es

three_are : (after : Option (List ℕ)) (who : List ℕ) (e : Row) (es : List Row) (a b c : Bool) → is_upto (Some who) e.0.0 ≡ a → is_upto after e.0.0 ≡ b → is_account who e.0 ≡ c
    → Three after who e es a b c → IsRest after who (e ∷ es)
three_are after who e es a b c ea eb ec t = rw (ea, eb, ec) t

-- a row of an account that isn't shown yet
later_row : (after : Option (List ℕ)) (who : List ℕ) (e : Row) (es : List Row) (o : Ordering) → account_cmp who e.0.0 ≡ o → is_upto after e.0.0 ≡ false → below_all holder_cmp e.0 es ≡ true
    → (IsAfter after e.0.0 → account_cmp e.0.0 who ≡ Less → ⊥) → IsRest after who es → IsRest after who (e ∷ es)
later_row after who e es Less x h b m rest = three_are after who e es false false false (ap (λ o. not (is_lt o)) x) h (ap is_eq x) rest
later_row after who e es Equal x h b m rest =
    let none : shown after es ≡ [] = behind after e es (upto_or_after after e.0.0 h) b in
    let alone : shown (Some who) es ≡ rows_of_account who es = rest ∙ ap (λ xs. xs ++ rows_of_account who es) none in
    three_are after who e es true false true (ap (λ o. not (is_lt o)) x) h (ap is_eq x) (ap (λ xs. e ∷ xs) alone ∙ ap (λ xs. xs ++ (e ∷ rows_of_account who es)) (sym none))
later_row after who e es Greater x h b m rest = absurd (m (upto_or_after after e.0.0 h) (reversed e.0.0 who x))

-- a row that is shown, or not yet
row_on : (after : Option (List ℕ)) (who : List ℕ) (e : Row) (es : List Row) (b : Bool) → is_upto after e.0.0 ≡ b → IsAfter after who → below_all holder_cmp e.0 es ≡ true
    → (IsAfter after e.0.0 → account_cmp e.0.0 who ≡ Less → ⊥) → IsRest after who es → IsRest after who (e ∷ es)
row_on after who e es true h l b m rest =
    let both = upto_next after who e.0.0 l h in
    three_are after who e es true true false both.0 h both.1 (ap (λ xs. e ∷ xs) rest)
row_on after who e es false h l b m rest = later_row after who e es (account_cmp who e.0.0) refl h b m rest

pub next_rows : (after : Option (List ℕ)) (who : List ℕ) (es : List Row) → IsAfter after who → is_sorted holder_cmp es ≡ true → IsLeast after who es
    → shown (Some who) es ≡ shown after es ++ rows_of_account who es
next_rows after who [] l s m = refl
next_rows after who (e ∷ es) l s m =
    let parts = and_parts (below_all holder_cmp e.0 es) (is_sorted holder_cmp es) s in
    row_on after who e es (is_upto after e.0.0) refl l parts.0 m.0 (next_rows after who es l parts.1 m.1)

-- ---- each row's account holds something

one_more : (p : Holder → Bool) (e : Row) (es : List Row) → sum_where p es ≤ sum_where p (e ∷ es)
one_more p e es = omega arith

holds_all : (whole es : List Row) → IsPositive es → ((p : Holder → Bool) → sum_where p es ≤ sum_where p whole) → AllByRecursion (λ (r : Row). 0 < sum_where (is_account r.0.0) whole) es
holds_all whole [] pos more = tt
holds_all whole (e ∷ es) pos more =
    let here : sum_where (is_account e.0.0) (e ∷ es) ≡ e.1 + sum_where (is_account e.0.0) es = ap (λ t. amount_if t e.1 + sum_where (is_account e.0.0) es) (same_key account_keys e.0.0) in
    let most = more (is_account e.0.0) in
    (omega (arith, here, most, pos.0), holds_all whole es pos.1 (λ p. (let m = more p in omega (arith, m))))

pub row_holds : (es : List Row) → IsPositive es → AllByRecursion (λ (r : Row). 0 < sum_where (is_account r.0.0) es) es
row_holds es pos = holds_all es es pos (λ p. omega arith)

pub all_from : (P Q : Row → Type 0) → ((r : Row) → P r → Q r) → (es : List Row) → AllByRecursion P es → AllByRecursion Q es
all_from P Q f [] h = tt
all_from P Q f (e ∷ es) h = (f e h.0, all_from P Q f es h.1)

-- where each account is up to this one, all rows are shown
pub all_shown : (after : Option (List ℕ)) (es : List Row) → AllByRecursion (λ (r : Row). is_upto after r.0.0 ≡ true) es → shown after es ≡ es
all_shown after [] h = refl
all_shown after (e ∷ es) h = ap (λ t. cond t (e ∷ shown after es) (shown after es)) h.0 ∙ ap (λ xs. e ∷ xs) (all_shown after es h.1)

pub none_after : (after : Option (List ℕ)) (who : List ℕ) → (IsAfter after who → ⊥) → is_upto after who ≡ true
none_after after who n = by (is_upto after who) refl
  where
    by : (b : Bool) → is_upto after who ≡ b → is_upto after who ≡ true
    by true e = e
    by false e = absurd (n (upto_or_after after who e))

pub none_shown : (es : List Row) → shown None es ≡ []
none_shown [] = refl
none_shown (e ∷ es) = none_shown es

-- an account that holds something has rows
some_on : (who : List ℕ) (e : Row) (es : List Row) (b : Bool) → is_account who e.0 ≡ b → 0 < sum_where (is_account who) (e ∷ es) → (0 < sum_where (is_account who) es → 0 < length (rows_of_account who es))
    → 0 < length (rows_of_account who (e ∷ es))
some_on who e es true t h rest = rw t (omega arith)
some_on who e es false t h rest =
    let here : 0 < amount_if false e.1 + sum_where (is_account who) es = subst (λ b. 0 < amount_if b e.1 + sum_where (is_account who) es) t h in
    let less : 0 < sum_where (is_account who) es = omega (arith, here) in
    rw t (rest less)

pub some_rows : (who : List ℕ) (es : List Row) → 0 < sum_where (is_account who) es → 0 < length (rows_of_account who es)
some_rows who [] h = absurd (omega (arith, h))
some_rows who (e ∷ es) h = some_on who e es (is_account who e.0) refl h (some_rows who es)

pub shown_most : (after : Option (List ℕ)) (es : List Row) → length (shown after es) ≤ length es
shown_most after [] = omega arith
shown_most after (e ∷ es) = (let rest = shown_most after es in elim (is_upto after e.0.0) as (λ b. length (cond b (e ∷ shown after es) (shown after es)) ≤ suc (length es)) [ true ↦ omega (arith, rest) | false ↦ omega (arith, rest) ])
