-- Two values are the same just where their spellings are.
use Rattle.std.proofs.Common.{◌≡◌, ℕ, ◌≤◌, Bool, true, false, ◌&&◌, List, [], ◌++◌, length, refl, sym, ap, ◌∙◌, arith}
use Rattle.std.specs.Prelude.{nat_eq}
use Rattle.std.specs.Str.{bytes_eq}
use Rattle.std.proofs.lemmas.Bool.Decides.{same_from_decides, nat_tests}
use Rattle.std.proofs.lemmas.Slice.Eq.{bytes_eq-Decides}
use Rattle.scale_codec.specs.Spelling.{IsPrefixFree, fixed}
use Rattle.scale_codec.proofs.Lemmas.ReadLaws.{prefix_free}
use Rattle.operands.specs.declared.error.XcmError.{XcmError}
use Rattle.xcm_format.specs.Parts.{xcm_error, failure, FitsFailure, bytes, FitsBytes}
use Rattle.xcm_format.proofs.Lemmas.OperandLaws.FieldLaws.{failure_reads, bytes_reads_most}
use Rattle.plain_lists.proofs.Lemmas.Facts.{both_are, both_true}

same_value : {X : Type 0} (t : X → List ℕ) (F : X → Type 0) → IsPrefixFree t F → (x y : X) → F x → F y → t x ≡ t y → x ≡ y
same_value t F free x y p q e = (free x y (t x) (t y) [] [] (p, refl) (q, refl) (ap (λ (w : List ℕ). w ++ []) e)).0

-- ---- failures
test_true : (n m : ℕ) → nat_eq n m ≡ true → n ≡ m
test_true n m h = grind (arith, nat_tests, h)

test_same : (n m : ℕ) → n ≡ m → nat_eq n m ≡ true
test_same n m h = grind (arith, nat_tests, h)

test_other : (n m : ℕ) → (n ≡ m → ⊥) → nat_eq n m ≡ false
test_other n m h = grind (arith, nat_tests, h)

-- s tests the errors
module _ (s : Bool) (a b : ℕ × XcmError) (p : FitsFailure a) (q : FitsFailure b) (told : s ≡ true → a.1 ≡ b.1) (same : a.1 ≡ b.1 → s ≡ true) where
  failure_tested : (r : Bool) → r ≡ (nat_eq a.0 b.0 && s) → r ≡ bytes_eq (failure a) (failure b)
  failure_tested r is = same_from_decides r (bytes_eq (failure a) (failure b)) (
    λ (e : r ≡ true). let t = both_true (nat_eq a.0 b.0) s (sym is ∙ e) in
        ap (λ (n : ℕ). fixed 4 n ++ xcm_error a.1) (test_true a.0 b.0 t.0) ∙ ap (λ (x : XcmError). fixed 4 b.0 ++ xcm_error x) (told t.1),
    λ (e : failure a ≡ failure b). let one = same_value failure FitsFailure (prefix_free failure _ _ failure_reads) a b p q e in
        is ∙ both_are _ _ (test_same a.0 b.0 (ap (λ (f : ℕ × XcmError). f.0) one)) (same (ap (λ (f : ℕ × XcmError). f.1) one)),
  ) (bytes_eq-Decides (failure a) (failure b))

  pub failure_then : a.0 ≡ b.0 → s ≡ bytes_eq (failure a) (failure b)
  failure_then e = failure_tested s (ap (λ (t : Bool). t && s) (sym (test_same a.0 b.0 e)))

  pub failure_else : (a.0 ≡ b.0 → ⊥) → nat_eq a.0 b.0 ≡ bytes_eq (failure a) (failure b)
  failure_else e = test_other a.0 b.0 e ∙ failure_tested false (ap (λ (t : Bool). t && s) (sym (test_other a.0 b.0 e)))

-- ---- bytes
pub bytes_tested : (r : Bool) (a b : List ℕ) → length a ≤ 128 → length b ≤ 128 → r ≡ bytes_eq a b → r ≡ bytes_eq (bytes a) (bytes b)
bytes_tested r a b p q is =
    let d = bytes_eq-Decides a b in
    same_from_decides r (bytes_eq (bytes a) (bytes b)) (
      λ (e : r ≡ true). ap bytes (d.0 (sym is ∙ e)),
      λ (e : bytes a ≡ bytes b). is ∙ d.1 (same_value bytes (FitsBytes 128) (prefix_free bytes _ _ (bytes_reads_most 128 (omega arith))) a b p q e),
    ) (bytes_eq-Decides (bytes a) (bytes b))
