-- A move of amounts from one map to another keeps their sum. The two maps may have keys of different kinds:
-- an account's key names its owner and the asset, and a bundle's key the asset alone.
use Rattle.std.specs.Prelude.{◌≡◌, ℕ, ◌+◌, ◌≤◌, Bool}
use Rattle.std.specs.declared.cmp.Ordering.{Ordering}
use Rattle.std.proofs.Common.{ap, arith}
use Rattle.amounts.specs.Rows.{amount_if}
use Rattle.amounts.proofs.Lemmas.Rows.{IsKeyOrder}
use Rattle.amounts.specs.Amounts.{Amounts, amount, total, plus, minus, merge, difference, map_keys, IsWithin}
use Rattle.amounts.proofs.Lemmas.AmountLaws.{total_alike}
use Rattle.amounts.proofs.Lemmas.{total-plus, total-minus, total-merge, total-difference, total-map_keys}

module _ {J K : Type 0} {S : J → J → Ordering} {R : K → K → Ordering} (s : IsKeyOrder S) (r : IsKeyOrder R) where
  -- an amount goes from a key of one map to a key of the other, and the two tests count the keys alike
  pub total_kept : (p : J → Bool) (q : K → Bool) (from : Amounts S) (to : Amounts R) (j : J) (k : K) (a : ℕ) → a ≤ amount from j → p j ≡ q k
      → total p (minus from j a) + total q (plus to k a) ≡ total p from + total q to
  total_kept p q from to j k a le same =
      let less = total-minus s p from j a le in
      let more = total-plus r q to k a in
      let counted : amount_if (p j) a ≡ amount_if (q k) a = ap (λ b. amount_if b a) same in
      omega (arith, less, more, counted)

  -- all amounts of a third map go, each from its key in one map to its key in the other
  pub total_kept_all : {L : Type 0} {Q : L → L → Ordering} (p : J → Bool) (q : K → Bool) (f : L → J) (g : L → K) (from : Amounts S) (to : Amounts R) (moved : Amounts Q)
      → IsWithin (map_keys f moved) from → ((l : L) → p (f l) ≡ q (g l)) → total p (difference from (map_keys f moved)) + total q (merge to (map_keys g moved)) ≡ total p from + total q to
  total_kept_all {Q = Q} p q f g from to moved within same =
      let less = total-difference s p from (map_keys f moved) within in
      let more = total-merge r q to (map_keys g moved) in
      let given = total-map_keys {S = Q} s p f moved in
      let got = total-map_keys {S = Q} r q g moved in
      let counted = total_alike (λ l. p (f l)) (λ l. q (g l)) moved same in
      omega (arith, less, more, given, got, counted)
