-- Facts of Booleans, numbers, orderings, options and lists that proofs of several crates cite.
use Rattle.std.proofs.Common.{Bool, IfSome, List, None, Option, Some, T, [], ap, arith, cond, eqb, false, get_or, inl, inr, length, not, refl, suc, sym, true, zero, ℕ, ◌&&◌, ◌++◌, ◌+◌, ◌<◌, ◌||◌, ◌∙◌, ◌∷◌, ◌≡◌, ◌≤◌}
use Rattle.std.proofs.lemmas.Bool.{and_parts, true≢false}
use Rattle.std.proofs.lemmas.Bool.Decides.{nat_tests}
use Rattle.std.proofs.lemmas.Slice.Eq.{bytes_eq-Decides}
use Rattle.std.proofs.lemmas.Str.Parse.{IsNumeralModel, numerals_by_value, tells_all_ascii_digits}
use Rattle.std.specs.List.{AllByRecursion, list_all}
use Rattle.std.specs.Ordering.{is_eq, is_gt, is_lt, ordering_then}
use Rattle.std.specs.Prelude.{MatchOption, find, if◌then◌else◌, map, min, nat_eq, nat_le, nat_lt, option_map, ◌⊎◌}
use Rattle.std.specs.Str.{all_ascii_digits, bytes_eq}
use Rattle.std.specs.Str.Parse.{digits_value}
use Rattle.std.specs.declared.cmp.Ordering.{Ordering}
use Rattle.std.specs.declared.cmp.Ordering.TheVariants.{Equal, Greater, Less}

pub all_at : {A : Type 0} (p : A → Bool) (xs : List A) (i : ℕ) (a : A) → list_all p xs ≡ true → i < length xs → a ≡ get_or xs i a → p a ≡ true
all_at p [] i a all inside at = absurd (omega (arith, inside))
all_at p (x ∷ xs) zero a all inside at = ap p at ∙ (and_parts (p x) (list_all p xs) all).0
all_at p (x ∷ xs) (suc i) a all inside at = all_at p xs i a (and_parts (p x) (list_all p xs) all).1 (omega (arith, inside)) at

pub all_with_last : {A : Type 0} (P : A → Type 0) (xs : List A) (x : A) → AllByRecursion P xs → P x → AllByRecursion P (xs ++ x ∷ [])
all_with_last P [] x all here = (here, tt)
all_with_last P (y ∷ xs) x all here = (all.0, all_with_last P xs x all.1 here)

pub and_false : (b : Bool) → (b && false) ≡ false
and_false true = refl
and_false false = refl

pub and_first : (a b : Bool) → T (a && b) → T a
and_first true b h = tt
and_first false b h = h

pub and_second : (a b : Bool) → T (a && b) → T b
and_second true b h = h
and_second false b h = absurd h

pub and_true : (b : Bool) → (b && true) ≡ b
and_true true = refl
and_true false = refl

pub at_least_not_below : (n m : ℕ) → m ≤ n → nat_lt n m ≡ false
at_least_not_below n m h = grind (arith, h)

pub at_most_not_above : (n m : ℕ) → nat_le n m ≡ true → nat_lt m n ≡ false
at_most_not_above n m h = grind (arith, nat_tests, h)

pub at_most_told : (m n : ℕ) → m ≤ n → nat_le m n ≡ true
at_most_told m n h = grind (arith, h)

pub at_none : {A : Type 0} {P : Type 0} (Q : A → Type 0) (o : Option A) → ((x : A) → o ≡ Some x → ⊥) → MatchOption o P Q → P
at_none Q None h p = p
at_none Q (Some x) h p = absurd (h x refl)

pub below_by_one : (n m : ℕ) → nat_lt (1 + n) (suc m) ≡ nat_lt n m
below_by_one n m = grind arith

pub below_told : (a b : ℕ) → a < b → nat_lt a b ≡ true
below_told a b h = grind (arith, h)

pub below_zero_back : (n : ℕ) → true ≡ nat_lt 0 (suc n)
below_zero_back n = grind arith

pub both_are : (a b : Bool) → a ≡ true → b ≡ true → (a && b) ≡ true
both_are true b h k = k
both_are false b h k = absurd cc

pub both_true : (a b : Bool) → (a && b) ≡ true → (a ≡ true) × (b ≡ true)
both_true true b h = (refl, h)
both_true false b h = absurd cc

pub bytes_themselves : (xs : List ℕ) → bytes_eq xs xs ≡ true
bytes_themselves xs = (bytes_eq-Decides xs xs).1 refl

pub decimal_numerals : IsNumeralModel (λ ds. all_ascii_digits ds ≡ true) (digits_value 10)
decimal_numerals = numerals_by_value (λ ds. all_ascii_digits ds ≡ true) tells_all_ascii_digits

pub either_first : (a b : Bool) → a ≡ true → (a || b) ≡ true
either_first a b h = ap (λ x. x || b) h

pub either_second : (b c : Bool) → c ≡ true → (b || c) ≡ true
either_second true c h = refl
either_second false c h = h

pub equal_then : (r s : Ordering) → is_eq (ordering_then r s) ≡ (is_eq r && is_eq s)
equal_then Less s = refl
equal_then Equal s = refl
equal_then Greater s = refl

pub equal_then_equal : (r : Ordering) → (is_eq r && true) ≡ is_eq (ordering_then r Equal)
equal_then_equal Less = refl
equal_then_equal Equal = refl
equal_then_equal Greater = refl

pub equal_told : (r : Ordering) → is_eq r ≡ true → r ≡ Equal
equal_told Less h = cc
equal_told Equal h = refl
equal_told Greater h = cc

pub every_some : (o : Option (List ℕ)) (P : List ℕ → Type 0) → ((x : List ℕ) → P x) → IfSome o P
every_some (Some x) P f = f x
every_some None P f = tt

pub false_not_true : (b : Bool) → b ≡ false → b ≡ true → ⊥
false_not_true true h k = absurd cc
false_not_true false h k = absurd cc

pub false_where_not_true : (a : Bool) → (a ≡ true → ⊥) → a ≡ false
false_where_not_true true h = absurd (h refl)
false_where_not_true false h = refl

pub find_mapped : {X A : Type 0} (g : X → A) (p : A → Bool) (xs : List X) → find p (map g xs) ≡ option_map g (find (λ x. p (g x)) xs)
find_mapped g p [] = refl
find_mapped g p (x ∷ xs) =
    elim (p (g x)) as (λ b. cond b (Some (g x)) (find p (map g xs)) ≡ option_map g (cond b (Some x) (find (λ z. p (g z)) xs))) [ true ↦ refl | false ↦ find_mapped g p xs ]

pub first_apart : (r s : Ordering) → is_eq r ≡ false → is_eq (ordering_then r s) ≡ false
first_apart Less s h = refl
first_apart Equal s h = absurd (true≢false h)
first_apart Greater s h = refl

pub first_false : (a b : Bool) → (a || b) ≡ false → a ≡ false
first_false true b h = absurd cc
first_false false b h = refl

pub first_not_greater : (o p : Ordering) → is_gt (ordering_then o p) ≡ false → is_gt o ≡ false
first_not_greater Less p h = refl
first_not_greater Equal p h = refl
first_not_greater Greater p h = h

pub first_true : (a b : Bool) → (a && b) ≡ true → a ≡ true
first_true true b e = refl
first_true false b e = e

pub found_some : (n m : ℕ) → n < m → cond (nat_lt n m) (Some n) None ≡ Some n
found_some n m h = grind (arith, h)

pub is_less : (r : Ordering) → T (is_lt r) → r ≡ Less
is_less Less h = refl
is_less Equal h = absurd h
is_less Greater h = absurd h

pub less_told : (o : Ordering) → is_lt o ≡ true → o ≡ Less
less_told Less h = refl
less_told Equal h = cc
less_told Greater h = cc

pub map_some : (o : Option (List ℕ)) (P Q : List ℕ → Type 0) → ((x : List ℕ) → P x → Q x) → IfSome o P → IfSome o Q
map_some (Some x) P Q f p = f x p
map_some None P Q f p = tt

pub neither_true : (a b : Bool) → (a || b) ≡ false → (a ≡ false) × (b ≡ false)
neither_true true b h = absurd (cc)
neither_true false b h = (refl, h)

pub never_below_zero : (n : ℕ) → nat_lt n 0 ≡ false
never_below_zero n = grind (arith, nat_tests)

pub none_if : {A : Type 0} (o : Option A) → ((x : A) → o ≡ Some x → ⊥) → o ≡ None
none_if None h = refl
none_if (Some x) h = absurd (h x refl)

pub not_false_true : (b : Bool) → not b ≡ false → b ≡ true
not_false_true true h = refl
not_false_true false h = absurd cc

pub not_zero_positive : (n : ℕ) → nat_eq n 0 ≡ false → 0 < n
not_zero_positive n h = grind (arith, h)

pub one_at_most : (b : Bool) → (if b then 1 else 0) ≤ 1
one_at_most true = omega arith
one_at_most false = omega arith

pub one_of_either : (a b : Bool) → (a || b) ≡ true → (a ≡ true) ⊎ (b ≡ true)
one_of_either true b h = inl refl
one_of_either false b h = inr h

pub or_associated : (a b c : Bool) → (a || (b || c)) ≡ ((a || b) || c)
or_associated true b c = refl
or_associated false b c = refl

pub or_associative : (a b c : Bool) → ((a || b) || c) ≡ (a || (b || c))
or_associative true b c = refl
or_associative false b c = refl

pub or_swapped : (a b c : Bool) → (a || (b || c)) ≡ (b || (a || c))
or_swapped true true c = refl
or_swapped true false c = refl
or_swapped false true c = refl
or_swapped false false c = refl

pub other_byte : (c x : ℕ) → not (eqb x c) ≡ true → eqb x c ≡ false
other_byte c x h = grind arith

pub positive_not_zero : (n : ℕ) → 0 < n → nat_eq n 0 ≡ false
positive_not_zero n h = grind (arith, h)

pub positive_sum : (P : Type 0) (m n : ℕ) → (0 < m → P) → (0 < n → P) → 0 < m + n → P
positive_sum P zero n first second some = second (omega (arith, some))
positive_sum P (suc m) n first second some = first (omega arith)

pub same_bools : (p q : Bool) → (p ≡ true → q ≡ true) → (q ≡ true → p ≡ true) → p ≡ q
same_bools true q h g = sym (h refl)
same_bools false true h g = g refl
same_bools false false h g = refl

pub same_some : {X : Type 0} (x y : X) → Some x ≡ Some y → x ≡ y
same_some x y e = cc

pub same_some_number : (i j : ℕ) → Some i ≡ Some j → i ≡ j
same_some_number i j e = cc

pub saturates_once : (a b m : ℕ) → min (min a m + b) m ≡ min (a + b) m
saturates_once a b m = omega arith

pub second_false : (a b : Bool) → b ≡ false → (a && b) ≡ false
second_false true b h = h
second_false false b h = refl

pub second_true : (a b : Bool) → (a && b) ≡ true → b ≡ true
second_true true b e = e
second_true false b e = absurd cc

pub told_at_most : (a b : ℕ) → nat_le a b ≡ true → a ≤ b
told_at_most a b h = grind (arith, h)

pub told_below : (a b : ℕ) → nat_lt a b ≡ true → a < b
told_below a b h = grind (arith, h)

pub zero_below : (n : ℕ) → nat_lt 0 (suc n) ≡ true
zero_below n = grind arith
