-- What `parse` reads of a number without leading zeros.
use Rattle.std.proofs.Common.{◌≡◌, ◌≢◌, ℕ, zero, suc, ◌<◌, ◌≤◌, ◌^◌, List, [], ◌∷◌, length, get_or, Bool, true, false, cond, ◌&&◌, ◌||◌, not, refl, sym, arith, Some, None, Result, Ok, Err, eqb, ap, ◌∙◌, decimal}
use Rattle.std.proofs.lemmas.Bool.Decides.{nat_tests}
use Rattle.std.proofs.lemmas.Str.{IsUtf8-from_ascii}
use Rattle.std.proofs.lemmas.Str.Parse.{numerals_by_value, tells_all_ascii_digits, parse_plain}
use Rattle.std.proofs.lemmas.Fmt.{digits_decimal, digits_value-decimal, first_decimal, decimal_digit, decimal_nonempty}
use Rattle.std.specs.Str.{all_ascii_digits, IsUtf8, IsAscii}
use Rattle.std.specs.Char.{is_ascii_digit}
use Rattle.std.specs.Str.Parse.{digits_value, ParsesUnsigned}
use Rattle.std.specs.Result.{OkIff, result_ok}
use Rattle.std.specs.Prelude.{nat_lt}
use Rattle.input_lines.specs.Numbers.{read_number}
use Rattle.plain_lists.proofs.Lemmas.Facts.{decimal_numerals as own, first_true as and_front, second_true as and_back}

third_false : (a b c d : Bool) (n : ℕ) → c ≡ false → cond (a && b && c && d) (Some n) None ≡ None
third_false true true true d n e = cc
third_false true true false d n e = refl
third_false true false c d n e = refl
third_false false b c d n e = refl

first_false : (a b c d : Bool) (n : ℕ) → a ≡ false → cond (a && b && c && d) (Some n) None ≡ None
first_false true b c d n e = cc
first_false false b c d n e = refl

all_true : (a b c d : Bool) (n : ℕ) → a ≡ true → b ≡ true → c ≡ true → d ≡ true → cond (a && b && c && d) (Some n) None ≡ Some n
all_true a b c d n ea eb ec ed = rw (ea, eb, ec, ed) refl

ends_false : (a b c d : Bool) (n : ℕ) → (a ≡ true → d ≡ true → ⊥) → cond (a && b && c && d) (Some n) None ≡ None
ends_false true true true true n h = absurd (h refl refl)
ends_false true true true false n h = refl
ends_false true true false d n h = refl
ends_false true false c d n h = refl
ends_false false b c d n h = refl

pub empty_none : (text : List ℕ) → length text ≡ 0 → read_number text ≡ None
unfolding read_number
empty_none [] e = refl
empty_none (c ∷ cs) e = absurd (omega arith)

pub plus_none : (text : List ℕ) → 0 < length text → get_or text 0 0 ≡ 43 → read_number text ≡ None
unfolding read_number
plus_none [] l e = absurd (omega arith)
plus_none (c ∷ cs) l e = rw e refl

pub zero_none : (text : List ℕ) → 1 < length text → get_or text 0 0 ≡ 48 → read_number text ≡ None
unfolding read_number
zero_none text l e = third_false (all_ascii_digits text) (nat_lt 0 (length text)) (eqb (length text) 1 || not (eqb (get_or text 0 0) 48)) (nat_lt (digits_value 10 text) (2 ^ 32)) (digits_value 10 text)
    (grind (arith, nat_tests))

digit_below : (c : ℕ) → is_ascii_digit c ≡ true → c < 128
digit_below c e = grind (arith, nat_tests)

is_ascii : (text : List ℕ) → all_ascii_digits text ≡ true → IsAscii text
is_ascii [] e i = omega arith
is_ascii (c ∷ cs) e zero = digit_below c (and_front (is_ascii_digit c) (all_ascii_digits cs) e)
is_ascii (c ∷ cs) e (suc i) = is_ascii cs (and_back (is_ascii_digit c) (all_ascii_digits cs) e) i

pub other_none : (text : List ℕ) → (IsUtf8 text → ⊥) → read_number text ≡ None
unfolding read_number
other_none text n = ends_false (all_ascii_digits text) (nat_lt 0 (length text)) (eqb (length text) 1 || not (eqb (get_or text 0 0) 48)) (nat_lt (digits_value 10 text) (2 ^ 32)) (digits_value 10 text)
    (λ d _. n (IsUtf8-from_ascii text (is_ascii text d)))

parsed_is : {E : Type 0} (text : List ℕ) (r : Result ℕ E) → OkIff r ((all_ascii_digits text ≡ true) × (0 < length text) × (digits_value 10 text < 2 ^ 32)) (digits_value 10 text)
    → (nat_lt 0 (length text) ≡ true) → ((eqb (length text) 1 || not (eqb (get_or text 0 0) 48)) ≡ true) → result_ok r ≡ read_number text
unfolding read_number
parsed_is text (Ok x) h b c = rw h.1 (sym (all_true _ _ _ _ _ h.0.0 b c (grind (arith, nat_tests, h.0.2))))
parsed_is text (Err e) h b c = sym (ends_false _ _ _ _ _ (λ a d. h (a, grind (arith, nat_tests), grind (arith, nat_tests))))

pub parsed : {E : Type 0} (text : List ℕ) (r : Result ℕ E) → ParsesUnsigned 32 10 text r → 0 < length text → get_or text 0 0 ≢ 43 → (get_or text 0 0 ≡ 48 → length text ≤ 1) → result_ok r ≡ read_number text
parsed text r h l ne lead = parsed_is text r (parse_plain own 32 text r h ne) (grind (arith, nat_tests)) (grind (arith, nat_tests))

plain_lead : (n : ℕ) → n < 2 ^ 32 → (eqb (length (decimal n)) 1 || not (eqb (get_or (decimal n) 0 0) 48)) ≡ true
plain_lead zero l = rw (decimal_digit 0 (omega arith)) refl
plain_lead (suc n) l = grind (arith, nat_tests, first_decimal (suc n) (omega arith) (omega arith))

-- a number's own text is read as that number
pub number_is : (n : ℕ) → n < 2 ^ 32 → read_number (decimal n) ≡ Some n
unfolding read_number
number_is n l =
    let value : digits_value 10 (decimal n) ≡ n = digits_value-decimal (numerals_by_value (λ ds. all_ascii_digits ds ≡ true) tells_all_ascii_digits) n (omega arith) in
    let small : nat_lt (digits_value 10 (decimal n)) (2 ^ 32) ≡ true = grind (arith, nat_tests) in
    let full : nat_lt 0 (length (decimal n)) ≡ true = grind (arith, nat_tests, decimal_nonempty n (omega arith)) in
    all_true _ _ _ _ _ (digits_decimal own n (omega arith)) full (plain_lead n l) small ∙ ap Some value
