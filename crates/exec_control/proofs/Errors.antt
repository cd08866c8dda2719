-- The derived test of two errors says whether they are one.
use Rattle.std.proofs.Common.{◌≡◌, ℕ, zero, suc, Bool, true, false, List, [], ◌∷◌, refl, ap, subst, inl, inr, arith}
use Rattle.std.specs.Prelude.{nat_eq}
use Rattle.std.proofs.lemmas.Bool.Decides.{nat_tests}
use denote.Struct.Field.{Field, u64-field}
use denote.Struct.Values.{Values}
use denote.Enum.Declared.{Choice, values_one}
use denote.Enum.Compared.{Each, by}
use Rattle.operands.specs.declared.error.XcmError.{XcmError}
use Rattle.operands.specs.declared.error.XcmError.TheVariants.{Trap}
use Rattle.operands.specs.contracts.error.XcmError.{enum}
use Rattle.operands.specs.contracts.error.XcmErrorPartialEq.TheImpl as derived

-- at each variant the test passes one value alone
abbrev AreTold : (Fss : List (List Field)) → Each Bool Fss → Type 0
AreTold [] each = Unit {0}
AreTold (Fs ∷ Fss) each = ((x y : Values Fs) → each.0 x y ≡ true → x ≡ y) × AreTold Fss each.1

choices_told : (Fss : List (List Field)) (each : Each Bool Fss) → AreTold Fss each → (c d : Choice Fss) → by false false Fss each c d ≡ true → c ≡ d
choices_told [] each told c d h = absurd c
choices_told (Fs ∷ Fss) each told (inl x) (inl y) h = ap inl (told.0 x y h)
choices_told (Fs ∷ Fss) each told (inl x) (inr y) h = absurd cc
choices_told (Fs ∷ Fss) each told (inr x) (inl y) h = absurd cc
choices_told (Fs ∷ Fss) each told (inr x) (inr y) h = ap inr (choices_told Fss each.1 told.1 x y h)

-- n variants without fields, before others
abbrev plain : ℕ → List (List Field) → List (List Field)
plain zero Fss = Fss
plain (suc n) Fss = [] ∷ plain n Fss

abbrev plain_tests : (n : ℕ) (Fss : List (List Field)) → Each Bool Fss → Each Bool (plain n Fss)
plain_tests zero Fss each = each
plain_tests (suc n) Fss each = (λ x y. true, plain_tests n Fss each)

plain_told : (n : ℕ) (Fss : List (List Field)) (each : Each Bool Fss) → AreTold Fss each → AreTold (plain n Fss) (plain_tests n Fss each)
plain_told zero Fss each told = told
plain_told (suc n) Fss each told = (λ x y h. refl, plain_told n Fss each told)

code_told : (x y : ℕ × Unit {0}) → nat_eq x.0 y.0 ≡ true → x ≡ y
code_told x y h = let e : x.0 ≡ y.0 = grind (arith, nat_tests, h) in ap (λ (n : ℕ). let p : ℕ × Unit {0} = (n, tt) in p) e

-- a variant with a code, and 13 without fields
abbrev from_trap : List (List Field)
from_trap = (u64-field ∷ []) ∷ plain 13 []

abbrev trap_tests : Each Bool from_trap
trap_tests = (λ x y. nat_eq x.0 y.0, plain_tests 13 [] tt)

trap_told : AreTold from_trap trap_tests
trap_told = (code_told, plain_told 13 [] tt tt)

-- 21 variants come before Trap
pub errors_told : (a b : XcmError) → derived.ghosts.eq a b ≡ true → a ≡ b
errors_told a b h =
    values_one enum a b
    (choices_told enum.parts (plain_tests 21 from_trap trap_tests) (plain_told 21 from_trap trap_tests trap_told) (enum.as_values a) (enum.as_values b) h)

code_same : (n : ℕ) → nat_eq n n ≡ true
code_same n = grind (arith, nat_tests)

error_itself : (e : XcmError) → derived.ghosts.eq e e ≡ true
error_itself (Trap code) = code_same code
error_itself _ = refl

pub errors_same : (a b : XcmError) → a ≡ b → derived.ghosts.eq a b ≡ true
errors_same a b e = let P : XcmError → Type 0 = λ x. derived.ghosts.eq a x ≡ true in subst P e (error_itself a)
