-- A loop that reads so many of one kind: what is read so far, and what is left to read.
use Rattle.std.proofs.Common.{◌≡◌, ℕ, suc, ◌+◌, ◌-◌, ◌<◌, ◌≤◌, List, [], ◌∷◌, ◌++◌, Option, Some, None, refl, sym, ap, ◌∙◌, append_assoc, arith}
use Rattle.std.proofs.lemmas.List.{append-nil}
use Rattle.scale_codec.specs.Reading.{◌>>=◌, repeated}

module _ {X S : Type 0} where
  abbrev pub with_front : List X → Option (List X × S) → Option (List X × S)
  with_front front read = read >>= λ x. Some (front ++ x.0, x.1)

  with-nothing : (read : Option (List X × S)) → with_front [] read ≡ read
  with-nothing (Some x) = refl
  with-nothing None = refl

  regroup : (front : List X) (x : X) (read : Option (List X × S)) → with_front front (read >>= λ xs. Some (x ∷ xs.0, xs.1)) ≡ with_front (front ++ x ∷ []) read
  regroup front x (Some xs) = ap (λ (ys : List X). Some (ys, xs.1)) (sym (append_assoc front (x ∷ []) xs.0))
  regroup front x None = refl

  pub begins : (r : S → Option (X × S)) (n : ℕ) (s : S) → with_front [] (repeated r (n - 0) s) ≡ repeated r n s
  begins r n s = let e : n - 0 ≡ n = omega arith in rw e (with-nothing (repeated r n s))

  pub goes_on : (r : S → Option (X × S)) (front : List X) (count i : ℕ) (s after : S) (x : X) (whole : Option (List X × S)) → i < count → r s ≡ Some (x, after)
      → with_front front (repeated r (count - i) s) ≡ whole → with_front (front ++ x ∷ []) (repeated r (count - (i + 1)) after) ≡ whole
  unfolding repeated
  goes_on r front count i s after x whole lt read so_far =
      let k : count - i ≡ suc (count - (i + 1)) = omega arith in
      let one : with_front front (repeated r (count - i) s) ≡ with_front (front ++ x ∷ []) (repeated r (count - (i + 1)) after) = rw (k, read) (regroup front x (repeated r (count - (i + 1)) after)) in
      sym one ∙ so_far

  pub fails : (r : S → Option (X × S)) (front : List X) (count i : ℕ) (s : S) (whole : Option (List X × S)) → i < count → r s ≡ None
      → with_front front (repeated r (count - i) s) ≡ whole → whole ≡ None
  unfolding repeated
  fails r front count i s whole lt read so_far =
      let k : count - i ≡ suc (count - (i + 1)) = omega arith in
      let one : with_front front (repeated r (count - i) s) ≡ None = rw (k, read) refl in
      sym so_far ∙ one

  pub ends : (r : S → Option (X × S)) (front : List X) (count i : ℕ) (s : S) (whole : Option (List X × S)) → count ≤ i
      → with_front front (repeated r (count - i) s) ≡ whole → whole ≡ Some (front, s)
  unfolding repeated
  ends r front count i s whole le so_far =
      let k : count - i ≡ 0 = omega arith in
      let one : with_front front (repeated r (count - i) s) ≡ Some (front, s) = rw k (ap (λ (xs : List X). Some (xs, s)) (append-nil front)) in
      sym so_far ∙ one
