-- Whether two ghost codes are the same. A reader may skip this file.
use base.Stored.{Gv, gnil, gnum, gcons}
use Rattle.std.proofs.Common.{◌≡◌, ℕ, zero, suc, Bool, true, false, ◌&&◌, refl, ap, subst}
use Rattle.std.specs.Coded.{Coded}
use Rattle.plain_lists.proofs.Lemmas.Facts.{both_true}

same_number : ℕ → ℕ → Bool
same_number zero zero = true
same_number (suc m) (suc n) = same_number m n
same_number zero (suc n) = false
same_number (suc m) zero = false

number_is : (m n : ℕ) → same_number m n ≡ true → m ≡ n
unfolding same_number
number_is zero zero e = refl
number_is (suc m) (suc n) e = ap suc (number_is m n e)
number_is zero (suc n) e = absurd cc
number_is (suc m) zero e = absurd cc

number_self : (m : ℕ) → same_number m m ≡ true
unfolding same_number
number_self zero = refl
number_self (suc m) = number_self m

same_code : Gv → Gv → Bool
same_code gnil gnil = true
same_code (gnum m) (gnum n) = same_number m n
same_code (gcons a b) (gcons c d) = same_code a c && same_code b d
same_code gnil (gnum n) = false
same_code gnil (gcons c d) = false
same_code (gnum m) gnil = false
same_code (gnum m) (gcons c d) = false
same_code (gcons a b) gnil = false
same_code (gcons a b) (gnum n) = false

code_is : (a b : Gv) → same_code a b ≡ true → a ≡ b
unfolding same_code
code_is gnil gnil e = refl
code_is (gnum m) (gnum n) e = ap gnum (number_is m n e)
code_is (gcons a b) (gcons c d) e = let h = both_true (same_code a c) (same_code b d) e in λ i. gcons (code_is a c h.0 i) (code_is b d h.1 i)
code_is gnil (gnum n) e = absurd cc
code_is gnil (gcons c d) e = absurd cc
code_is (gnum m) gnil e = absurd cc
code_is (gnum m) (gcons c d) e = absurd cc
code_is (gcons a b) gnil e = absurd cc
code_is (gcons a b) (gnum n) e = absurd cc

code_self : (a : Gv) → same_code a a ≡ true
unfolding same_code
code_self gnil = refl
code_self (gnum m) = number_self m
code_self (gcons a b) = rw (code_self a, code_self b) refl

-- whether two values are one
pub same : {A : Type 0} → Coded A → A → A → Bool
same c x y = same_code (c.code x) (c.code y)

pub same_is : {A : Type 0} (c : Coded A) (x y : A) → same c x y ≡ true → x ≡ y
unfolding same
same_is c x y e = c.inj x y (code_is (c.code x) (c.code y) e)

pub is_same : {A : Type 0} (c : Coded A) (x y : A) → x ≡ y → same c x y ≡ true
unfolding same
is_same c x y e = subst (λ z. same_code (c.code x) (c.code z) ≡ true) e (code_self (c.code x))
