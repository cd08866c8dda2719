-- Words that are numbers in decimal.
use Rattle.std.proofs.Common.{◌≡◌, ◌≢◌, ◌∙◌, ◌<◌, ◌^◌, ℕ, List, Bool, true, false, ◌&&◌, not, refl, sym, ap, Some, None, Result, Ok, Err, decimal, arith}
use Rattle.std.proofs.lemmas.Bool.{cond-true, cond-false, and_from}
use Rattle.std.proofs.lemmas.Bool.Decides.{nat_tests}
use Rattle.std.proofs.lemmas.Fmt.{parse-decimal, decimal_is_IsNumeral}
use Rattle.std.proofs.lemmas.Slice.Eq.{bytes_eq-Decides}
use Rattle.std.specs.Prelude.{nat_lt, bytes_eq}
use Rattle.std.specs.Str.Parse.{digits_value, ParsesUnsigned}
use Rattle.xcm_cli.specs.Words.{number_of_word}

-- the decimal of a number is read as that number
pub number_is : (word : List ℕ) (n : ℕ) → n < 2 ^ 64 → word ≡ decimal n → number_of_word word ≡ Some n
unfolding number_of_word
number_is word n l e =
    let value : digits_value 10 word ≡ n = ap (digits_value 10) e ∙ (decimal_is_IsNumeral n l).1 in
    let same : bytes_eq word (decimal (digits_value 10 word)) ≡ true = (bytes_eq-Decides word (decimal (digits_value 10 word))).1 (e ∙ ap decimal (sym value)) in
    let small : nat_lt (digits_value 10 word) (2 ^ 64) ≡ true = rw value (grind (arith, nat_tests)) in
    cond-true _ _ _ (and_from _ _ same small) ∙ ap Some value

not_both : (same small : Bool) → (same ≡ true → small ≡ true → ⊥) → (same && small) ≡ false
not_both true true never = absurd (never refl refl)
not_both true false never = refl
not_both false small never = refl

-- no other word is
pub number_none : (word : List ℕ) → ((n : ℕ) → n < 2 ^ 64 → word ≡ decimal n → ⊥) → number_of_word word ≡ None
unfolding number_of_word
number_none word none =
    cond-false _ _ _ (not_both (bytes_eq word (decimal (digits_value 10 word))) (nat_lt (digits_value 10 word) (2 ^ 64))
    (λ same small. none (digits_value 10 word) (grind (arith, nat_tests)) ((bytes_eq-Decides word (decimal (digits_value 10 word))).0 same)))

-- what doesn't parse is the decimal of no number
pub unparsed : {E : Type 0} (word : List ℕ) (r : Result ℕ E) (e : E) → ParsesUnsigned 64 10 word r → r ≡ Err e → number_of_word word ≡ None
unparsed word r e p f = number_none word (λ n l d. let ok : r ≡ Ok n = parse-decimal 64 n word r l l d p in cc)

-- nor is what parses to a number with another decimal
pub other_decimal : {E : Type 0} (word : List ℕ) (r : Result ℕ E) (n : ℕ) → ParsesUnsigned 64 10 word r → r ≡ Ok n → word ≢ decimal n → number_of_word word ≡ None
other_decimal word r n p f m = number_none word (λ k l d. let ok : r ≡ Ok k = parse-decimal 64 k word r l l d p in let same : k ≡ n = cc in m (d ∙ ap decimal same))

-- texts that are told apart, and texts that are not
pub unlike : (a b : List ℕ) → true ≡ not (bytes_eq a b) → a ≢ b
unlike a b n e = let same : bytes_eq a b ≡ true = (bytes_eq-Decides a b).1 e in cc

pub alike_by : (a b : List ℕ) (same : Bool) → bytes_eq a b ≡ same → false ≡ not same → a ≡ b
alike_by a b true e n = (bytes_eq-Decides a b).0 e
alike_by a b false e n = absurd cc

pub alike : (a b : List ℕ) → false ≡ not (bytes_eq a b) → a ≡ b
alike a b n = alike_by a b (bytes_eq a b) refl n
