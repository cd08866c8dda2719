-- Accounts compared eight bytes at a time: the numbers of eight bytes are ordered as the bytes are.
use Rattle.std.proofs.Common.{◌≡◌, ℕ, suc, zero, ◌+◌, ◌*◌, ◌<◌, List, [], ◌∷◌, length, take, drop, refl, sym, ap, ◌∙◌, arith}
use Rattle.std.specs.List.{AllByRecursion}
use Rattle.std.specs.Slice.Scan.{big_endian}
use Rattle.std.specs.declared.cmp.Ordering.{Ordering}
use Rattle.std.specs.declared.cmp.Ordering.TheVariants.{Less, Equal, Greater}
use Rattle.std.specs.Prelude.{true, false}
use Rattle.std.specs.Ordering.{nat_cmp, ordering_then, is_ne}
use Rattle.std.proofs.lemmas.Bool.Decides.{nat_tests}
use Rattle.std.proofs.lemmas.List.{drop-drop}
use Rattle.ledgers.specs.Ledgers.{account_cmp}

then_then : (a b c : Ordering) → ordering_then (ordering_then a b) c ≡ ordering_then a (ordering_then b c)
then_then Less b c = refl
then_then Equal b c = refl
then_then Greater b c = refl

-- one byte more on both sides
one_byte : (m n x y : ℕ) → x < 256 → y < 256 → nat_cmp (m * 256 + x) (n * 256 + y) ≡ ordering_then (nat_cmp m n) (nat_cmp x y)
one_byte m n x y small few = grind (arith, nat_tests)

-- as many bytes more on both sides
more_bytes : (m n : ℕ) (xs ys : List ℕ) → length xs ≡ length ys → AllByRecursion (λ b. b < 256) xs → AllByRecursion (λ b. b < 256) ys
    → nat_cmp (big_endian m xs) (big_endian n ys) ≡ ordering_then (nat_cmp m n) (account_cmp xs ys)
more_bytes m n [] [] same small few = then_equal (nat_cmp m n)
  where
    then_equal : (o : Ordering) → o ≡ ordering_then o Equal
    then_equal Less = refl
    then_equal Equal = refl
    then_equal Greater = refl
more_bytes m n [] (y ∷ ys) same small few = absurd (cc)
more_bytes m n (x ∷ xs) [] same small few = absurd (cc)
more_bytes m n (x ∷ xs) (y ∷ ys) same small few =
    more_bytes (m * 256 + x) (n * 256 + y) xs ys (omega (arith, same)) small.1 few.1
    ∙ ap (λ o. ordering_then o (account_cmp xs ys)) (one_byte m n x y small.0 few.0)
    ∙ then_then (nat_cmp m n) (nat_cmp x y) (account_cmp xs ys)

pub by_numbers : (xs ys : List ℕ) → length xs ≡ 8 → length ys ≡ 8 → AllByRecursion (λ b. b < 256) xs → AllByRecursion (λ b. b < 256) ys
    → nat_cmp (big_endian 0 xs) (big_endian 0 ys) ≡ account_cmp xs ys
by_numbers xs ys eight too small few = more_bytes 0 0 xs ys (eight ∙ sym too) small few

-- the first so many decide, and then the others
parted : (k : ℕ) (xs ys : List ℕ) → account_cmp xs ys ≡ ordering_then (account_cmp (take k xs) (take k ys)) (account_cmp (drop k xs) (drop k ys))
parted zero xs ys = refl
parted (suc k) [] [] = refl
parted (suc k) [] (y ∷ ys) = refl
parted (suc k) (x ∷ xs) [] = refl
parted (suc k) (x ∷ xs) (y ∷ ys) =
    ap (λ o. ordering_then (nat_cmp x y) o) (parted k xs ys)
    ∙ sym (then_then (nat_cmp x y) (account_cmp (take k xs) (take k ys)) (account_cmp (drop k xs) (drop k ys)))

whole : (n : ℕ) (xs : List ℕ) → length xs ≡ n → take n xs ≡ xs
whole zero [] same = refl
whole zero (x ∷ xs) same = absurd (cc)
whole (suc n) [] same = absurd (cc)
whole (suc n) (x ∷ xs) same = ap (λ ys. x ∷ ys) (whole n xs (omega (arith, same)))

left : (k n : ℕ) (xs : List ℕ) → length xs ≡ k + n → length (drop k xs) ≡ n
left zero n xs same = omega (arith, same)
left (suc k) n [] same = absurd (omega (arith, same))
left (suc k) n (x ∷ xs) same = left k n xs (omega (arith, same))

abbrev pub at_place : ℕ → List ℕ → List ℕ → Ordering
at_place k xs ys = account_cmp (take 8 (drop k xs)) (take 8 (drop k ys))

further : (k : ℕ) (xs ys : List ℕ) → account_cmp (drop k xs) (drop k ys) ≡ ordering_then (at_place k xs ys) (account_cmp (drop (k + 8) xs) (drop (k + 8) ys))
further k xs ys =
    parted 8 (drop k xs) (drop k ys)
    ∙ (λ i. ordering_then (at_place k xs ys) (account_cmp (drop-drop 8 k xs i) (drop-drop 8 k ys i)))

-- the four parts of an account, one after the other
four_parts : (xs ys : List ℕ) → length xs ≡ 32 → length ys ≡ 32
    → ordering_then (at_place 0 xs ys) (ordering_then (at_place 8 xs ys) (ordering_then (at_place 16 xs ys) (at_place 24 xs ys))) ≡ account_cmp xs ys
four_parts xs ys all both =
    let last : at_place 24 xs ys ≡ account_cmp (drop 24 xs) (drop 24 ys) = λ i. account_cmp (whole 8 (drop 24 xs) (left 24 8 xs all) i) (whole 8 (drop 24 ys) (left 24 8 ys both) i) in
    let third = ap (λ o. ordering_then (at_place 16 xs ys) o) last ∙ sym (further 16 xs ys) in
    let second = ap (λ o. ordering_then (at_place 8 xs ys) o) third ∙ sym (further 8 xs ys) in
    ap (λ o. ordering_then (at_place 0 xs ys) o) second ∙ sym (further 0 xs ys)

tied : (p q : Ordering) → is_ne p ≡ false → ordering_then p q ≡ q
tied Less q same = absurd (cc)
tied Equal q same = refl
tied Greater q same = absurd (cc)

decides : (p q : Ordering) → is_ne p ≡ true → ordering_then p q ≡ p
decides Less q apart = refl
decides Equal q apart = absurd (cc)
decides Greater q apart = refl

-- the first part that isn't the same decides
module _ (xs ys : List ℕ) (all : length xs ≡ 32) (both : length ys ≡ 32) where
  pub first_decides : is_ne (at_place 0 xs ys) ≡ true → at_place 0 xs ys ≡ account_cmp xs ys
  first_decides apart = sym (decides (at_place 0 xs ys) _ apart) ∙ four_parts xs ys all both

  pub second_decides : is_ne (at_place 0 xs ys) ≡ false → is_ne (at_place 8 xs ys) ≡ true → at_place 8 xs ys ≡ account_cmp xs ys
  second_decides same apart = sym (decides (at_place 8 xs ys) _ apart) ∙ sym (tied (at_place 0 xs ys) _ same) ∙ four_parts xs ys all both

  pub third_decides : is_ne (at_place 0 xs ys) ≡ false → is_ne (at_place 8 xs ys) ≡ false → is_ne (at_place 16 xs ys) ≡ true → at_place 16 xs ys ≡ account_cmp xs ys
  third_decides same alike apart = sym (decides (at_place 16 xs ys) _ apart) ∙ sym (tied (at_place 8 xs ys) _ alike) ∙ sym (tied (at_place 0 xs ys) _ same) ∙ four_parts xs ys all both

  pub last_decides : is_ne (at_place 0 xs ys) ≡ false → is_ne (at_place 8 xs ys) ≡ false → is_ne (at_place 16 xs ys) ≡ false → at_place 24 xs ys ≡ account_cmp xs ys
  last_decides same alike again = sym (tied (at_place 16 xs ys) _ again) ∙ sym (tied (at_place 8 xs ys) _ alike) ∙ sym (tied (at_place 0 xs ys) _ same) ∙ four_parts xs ys all both

  pub all_same : is_ne (at_place 0 xs ys) ≡ false → is_ne (at_place 8 xs ys) ≡ false → is_ne (at_place 16 xs ys) ≡ false → is_ne (at_place 24 xs ys) ≡ false → Equal ≡ account_cmp xs ys
  all_same same alike again too = equal (at_place 24 xs ys) too ∙ last_decides same alike again
    where
      equal : (o : Ordering) → is_ne o ≡ false → Equal ≡ o
      equal Less h = absurd (cc)
      equal Equal h = refl
      equal Greater h = absurd (cc)
