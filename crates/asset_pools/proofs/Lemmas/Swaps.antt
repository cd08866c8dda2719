-- For proofs alone: a reader may skip this file. An amount goes out of a map and another comes into it.
use Rattle.std.proofs.Common.{◌≡◌, ℕ, ◌+◌, ◌-◌, ◌*◌, ◌<◌, ◌≤◌, inl, inr, Bool, true, false, sym, ap, ◌∙◌, subst, arith}
use Rattle.std.specs.Ordering.{eq_by_cmp}
use Rattle.std.specs.declared.cmp.Ordering.{Ordering}
use Rattle.std.proofs.lemmas.Bool.{cases_Bool}
use Rattle.amounts.specs.Rows.{amount_if}
use Rattle.amounts.proofs.Lemmas.Rows.{IsKeyOrder}
use Rattle.amounts.specs.Amounts.{Amounts, amount, total, plus, minus}
use Rattle.amounts.proofs.Lemmas.{same_key, key_same, amount-minus, amount-plus, total-plus, total-minus}

module _ {K : Type 0} {R : K → K → Ordering} where
  -- so much less at one key, and so much more at another
  abbrev pub swapped : Amounts R → K → ℕ → K → ℕ → Amounts R
  swapped m out n into a = plus (minus m out n) into a

module _ {K : Type 0} {R : K → K → Ordering} (o : IsKeyOrder R) where
  pub other_key : (j k : K) → (j ≡ k → ⊥) → eq_by_cmp R j k ≡ false
  other_key j k apart = elim (cases_Bool (eq_by_cmp R j k)) [ inl same ↦ absurd (apart (key_same o j k same)) | inr other ↦ other ]

  if_here : (b : Bool) (n : ℕ) → b ≡ true → amount_if b n ≡ n
  if_here b n h = ap (λ (v : Bool). amount_if v n) h

  pub if_elsewhere : (b : Bool) (n : ℕ) → b ≡ false → amount_if b n ≡ 0
  if_elsewhere b n h = ap (λ (v : Bool). amount_if v n) h

  pub amount_swapped : (m : Amounts R) (out into : K) (n a : ℕ) (q : K) → amount (swapped m out n into a) q ≡ (amount m q - amount_if (eq_by_cmp R q out) n) + amount_if (eq_by_cmp R q into) a
  amount_swapped m out into n a q = let more = amount-plus o (minus m out n) into a q in let less = amount-minus o m out n q in more ∙ ap (λ (v : ℕ). v + amount_if (eq_by_cmp R q into) a) less

  module _ (m : Amounts R) (out into : K) (n a : ℕ) where
    pub amount_into : (into ≡ out → ⊥) → amount (swapped m out n into a) into ≡ amount m into + a
    amount_into apart =
        let here = amount_swapped m out into n a into in
        let one = if_here (eq_by_cmp R into into) a (same_key o into) in
        let none = if_elsewhere (eq_by_cmp R into out) n (other_key into out apart) in
        omega (arith, here, one, none)

    pub amount_out : (into ≡ out → ⊥) → amount (swapped m out n into a) out ≡ amount m out - n
    amount_out apart =
        let here = amount_swapped m out into n a out in
        let one = if_here (eq_by_cmp R out out) n (same_key o out) in
        let none = if_elsewhere (eq_by_cmp R out into) a (other_key out into (λ e. apart (sym e))) in
        omega (arith, here, one, none)

    pub amount_beside : (q : K) → (q ≡ out → ⊥) → (q ≡ into → ⊥) → amount (swapped m out n into a) q ≡ amount m q
    amount_beside q not_out not_into =
        let here = amount_swapped m out into n a q in
        let one = if_elsewhere (eq_by_cmp R q out) n (other_key q out not_out) in
        let none = if_elsewhere (eq_by_cmp R q into) a (other_key q into not_into) in
        omega (arith, here, one, none)

    -- what has less is where it went out
    pub swap_lowers : (q : K) → amount (swapped m out n into a) q < amount m q → q ≡ out
    swap_lowers q less =
        elim (cases_Bool (eq_by_cmp R q out)) [
          | inl here ↦ key_same o q out here
          | inr apart ↦ absurd (let all = amount_swapped m out into n a q in let none = if_elsewhere (eq_by_cmp R q out) n apart in omega (arith, less, all, none))
        ]

    pub total_swapped : (p : K → Bool) → n ≤ amount m out → total p (swapped m out n into a) + amount_if (p out) n ≡ total p m + amount_if (p into) a
    total_swapped p enough = let more = total-plus o p (minus m out n) into a in let less = total-minus o p m out n enough in omega (arith, more, less)

    -- a test that doesn't pass what went out loses nothing
    pub total_no_less : (p : K → Bool) → n ≤ amount m out → p out ≡ false → total p m ≤ total p (swapped m out n into a)
    total_no_less p enough passes_not = let all = total_swapped p enough in let none = if_elsewhere (p out) n passes_not in omega (arith, all, none)

    -- two amounts whose product is kept
    pub product_swapped : (into ≡ out → ⊥) → amount m into * amount m out ≤ (amount m into + a) * (amount m out - n)
        → amount m into * amount m out ≤ amount (swapped m out n into a) into * amount (swapped m out n into a) out
    product_swapped apart kept =
        let P : ℕ → ℕ → Type 0 = λ i j. amount m into * amount m out ≤ i * j in
        subst (λ (i : ℕ). P i (amount (swapped m out n into a) out)) (sym (amount_into apart)) (subst (P (amount m into + a)) (sym (amount_out apart)) kept)

module _ {J K : Type 0} {S : J → J → Ordering} {R : K → K → Ordering} (s : IsKeyOrder S) (r : IsKeyOrder R) where
  -- what goes out of one map comes into the other, and the other way round: the two tests count both alike
  pub total_exchanged : (p : J → Bool) (q : K → Bool) (from : Amounts S) (to : Amounts R) (got given : J) (get give : K) (n a : ℕ)
      → n ≤ amount from got → a ≤ amount to give → p got ≡ q get → p given ≡ q give
      → total p (swapped from got n given a) + total q (swapped to give a get n) ≡ total p from + total q to
  total_exchanged p q from to got given get give n a has gives same_got same_given =
      let one = total_swapped s from got given n a p has in
      let two = total_swapped r to give get a n q gives in
      let as_much : amount_if (p got) n ≡ amount_if (q get) n = ap (λ (b : Bool). amount_if b n) same_got in
      let as_many : amount_if (p given) a ≡ amount_if (q give) a = ap (λ (b : Bool). amount_if b a) same_given in
      omega (arith, one, two, as_much, as_many)
