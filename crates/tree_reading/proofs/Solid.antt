-- Texts without spaces.
use Rattle.std.proofs.Common.{◌≡◌, ◌∙◌, ℕ, zero, suc, ◌+◌, ◌%◌, ◌^◌, ◌<◌, Bool, true, false, List, [], ◌∷◌, ◌++◌, length, get_or, Option, refl, ap, lit<, length-append, arith}
use Rattle.std.specs.Prelude.{decimal, ◌≢◌}
use Rattle.std.specs.Option.{MatchOption}
use Rattle.std.specs.Borrow.{Bor}
use Rattle.std.specs.List.{list_all}
use Rattle.std.proofs.lemmas.Bool.{and_parts, and_from}
use Rattle.std.proofs.lemmas.Bool.Decides.{nat_tests}
use Rattle.std.proofs.lemmas.Fmt.{decimal_by_steps_wide}
use Rattle.std.proofs.lemmas.Str.Pattern.{IsSplitOnceResult, split_after}
use Rattle.tree_reading.specs.Rows.{is_solid, IsSolid, is_dotless, IsDotless}

pub all-append : (p : ℕ → Bool) (xs ys : List ℕ) → list_all p xs ≡ true → list_all p ys ≡ true → list_all p (xs ++ ys) ≡ true
all-append p [] ys h k = k
all-append p (x ∷ xs) ys h k = let a = and_parts (p x) (list_all p xs) h in and_from (p x) (list_all p (xs ++ ys)) a.0 (all-append p xs ys a.1 k)

-- a byte that doesn't pass the test isn't in the text
pub all_without : (p : ℕ → Bool) (c : ℕ) (xs : List ℕ) → p c ≡ false → list_all p xs ≡ true → (i : ℕ) → i < length xs → get_or xs i 0 ≢ c
all_without p c [] fails h i lt e = absurd (omega (arith, lt))
all_without p c (x ∷ xs) fails h zero lt e = let a = and_parts (p x) (list_all p xs) h in absurd (cc (a.0, fails, ap p e))
all_without p c (x ∷ xs) fails h (suc i) lt e = let a = and_parts (p x) (list_all p xs) h in all_without p c xs fails a.1 i (omega (arith, lt)) e

pub space_split : (bs one rest : List ℕ) (r : Option (Bor (List ℕ) × Bor (List ℕ))) → IsSplitOnceResult 32 bs r → IsSolid one → bs ≡ one ++ 32 ∷ rest → MatchOption r ⊥ (λ x. (x.0.now ≡ one) × (x.1.now ≡ rest))
space_split bs one rest r h solid e = split_after 32 bs one rest r h (lit< tt) e (all_without is_solid 32 one refl solid)

solid_one : (b : ℕ) → 33 < b + 1 → b < 127 → IsSolid (b ∷ [])
solid_one b low high = grind (arith, nat_tests)

pub solid_decimal : (n : ℕ) → n < 10 ^ 64 → IsSolid (decimal n)
solid_decimal n lt =
    decimal_by_steps_wide (λ n ds. IsSolid ds)
    (λ n few. solid_one (48 + n) (omega arith) (omega (arith, few)))
    (λ n ds more h. all-append is_solid ds ((48 + n % 10) ∷ []) h (solid_one (48 + n % 10) (omega arith) (omega arith))) n lt

-- a text without the byte isn't cut
pub uncut : (p : ℕ → Bool) (c : ℕ) (bs one rest : List ℕ) → p c ≡ false → list_all p bs ≡ true → bs ≡ one ++ c ∷ rest → ⊥
uncut p c bs one rest fails all e =
    all_without p c bs fails all (length one) (rw e (omega (arith, length-append one (c ∷ rest)))) (ap (λ t. get_or t (length one) 0) e ∙ behind one)
  where
    behind : (front : List ℕ) → get_or (front ++ c ∷ rest) (length front) 0 ≡ c
    behind [] = refl
    behind (b ∷ front) = behind front

pub dot_split : (bs one rest : List ℕ) (r : Option (Bor (List ℕ) × Bor (List ℕ))) → IsSplitOnceResult 46 bs r → IsDotless one → bs ≡ one ++ 46 ∷ rest → MatchOption r ⊥ (λ x. (x.0.now ≡ one) × (x.1.now ≡ rest))
dot_split bs one rest r h dotless e = split_after 46 bs one rest r h (lit< tt) e (all_without is_dotless 46 one refl dotless)

dotless_one : (b : ℕ) → 47 < b → b < 127 → IsDotless (b ∷ [])
dotless_one b low high = grind (arith, nat_tests)

pub dotless_decimal : (n : ℕ) → n < 10 ^ 64 → IsDotless (decimal n)
dotless_decimal n lt =
    decimal_by_steps_wide (λ n ds. IsDotless ds)
    (λ n few. dotless_one (48 + n) (omega arith) (omega (arith, few)))
    (λ n ds more h. all-append is_dotless ds ((48 + n % 10) ∷ []) h (dotless_one (48 + n % 10) (omega arith) (omega arith))) n lt
