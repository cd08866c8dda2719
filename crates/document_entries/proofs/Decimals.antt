-- What `parse` reads of decimal digits.
use Rattle.std.proofs.Common.{◌≡◌, ℕ, ◌<◌, ◌≤◌, ◌^◌, List, [], ◌∷◌, length, true, ◌&&◌, refl, ap, arith, Result, Ok, Err}
use Rattle.std.proofs.lemmas.Str.Parse.{parse_digits}
use Rattle.std.specs.Str.{all_ascii_digits}
use Rattle.std.specs.Char.{is_ascii_digit}
use Rattle.std.specs.Str.Parse.{digits_value, ParsesUnsigned}
use Rattle.std.specs.List.{list_all}
use Rattle.std.proofs.lemmas.Result.{OkIff-at_err}
use Rattle.serde_json.specs.Data.{Data}
use Rattle.document_entries.specs.declared.fault.Place.{Place}
use Rattle.document_entries.specs.declared.fault.NetworkFault.TheVariants.{LimitPassed}
use Rattle.document_entries.specs.Forms.{decimal_below, text, is_decimal}
use Rattle.plain_lists.proofs.Lemmas.Facts.{at_least_not_below as not_below, decimal_numerals as own, first_true as and_front}

pub all_digits : (text : List ℕ) → list_all is_ascii_digit text ≡ all_ascii_digits text
all_digits [] = refl
all_digits (c ∷ cs) = ap (λ b. is_ascii_digit c && b) (all_digits cs)

plain_some : (text : List ℕ) → is_decimal text ≡ true → 0 < length text
plain_some [] e = cc
plain_some (c ∷ cs) e = omega arith

-- digits that aren't read are of a number past 128 bits
past : {E : Type 0} (text : List ℕ) (r : Result ℕ E) (error : E) → ParsesUnsigned 128 10 text r → is_decimal text ≡ true → r ≡ Err error → 2 ^ 128 ≤ digits_value 10 text
past text r error p d e =
    let at : ((0 < length text) × (digits_value 10 text < 2 ^ 128)) → ⊥ = OkIff-at_err r _ (digits_value 10 text) error (parse_digits own 128 text r p (and_front _ _ d)) e in
    let some : 0 < length text = plain_some text d in
    let not_less : digits_value 10 text < 2 ^ 128 → ⊥ = λ l. at (some, l) in
    omega arith

pub unread : {E : Type 0} (place : Place) (limit : ℕ) (d : Data) (digits : List ℕ) (r : Result ℕ E) (error : E) → text place d ≡ Ok digits → is_decimal digits ≡ true → ParsesUnsigned 128 10 digits r → r ≡ Err error → limit < 2 ^ 128
    → decimal_below limit place d ≡ Err (LimitPassed place)
unfolding decimal_below
unread place limit d digits r error t plain p e l = rw (t, plain, not_below (digits_value 10 digits) limit (omega (arith, past digits r error p plain e))) refl
