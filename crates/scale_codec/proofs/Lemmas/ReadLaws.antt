-- What the laws of a reader say of a call, and of spellings.
use Rattle.std.proofs.Common.{◌≡◌, ℕ, List, ◌++◌, Option, Some, None, Result, Ok, Err, sym, ap, ◌∙◌}
use Rattle.scale_codec.specs.declared.faults.NoSpelling.{NoSpelling}
use Rattle.scale_codec.specs.Spelling.{HasOneSpelling, IsPrefixFree}
use Rattle.scale_codec.specs.Reading.{Reader, Reads}
use Rattle.scale_codec.specs.declared.faults.WireFault.{WireFault}
use Rattle.scale_codec.specs.declared.faults.WireFault.TheVariants as faults
use Rattle.scale_codec.specs.Answers.{Gives, GivesOrFails, Refuses, IsRead, IsRefusal, IsReadOrFails}
use Rattle.plain_lists.proofs.Lemmas.Facts.{same_some}

module _ {X : Type 0} (t : X → List ℕ) (F : X → Type 0) where
  -- a call that answers as the reader does reads what is spelled
  pub is_read : (at : Reader X) → Reads t F at → (r : Result X NoSpelling) (old new : List ℕ) → Gives r (at old) old new → IsRead t F r old new
  is_read at rr (Ok x) old new given = let h = rr.takes old x new given in (h.1, h.0)
  is_read at rr (Err e) old new given = (
    λ x rest fits is. let found : at old ≡ Some (x, rest) = ap at is ∙ rr.again x rest fits in absurd (cc (found, given.0)),
    given.1,
  )

  pub one_spelling : HasOneSpelling t F
  one_spelling x s u a b = a.1 ∙ sym b.1

  pub prefix_free : (at : Reader X) → Reads t F at → IsPrefixFree t F
  prefix_free at rr x y s u a b p q e =
      let whole : t x ++ a ≡ t y ++ b = ap (λ (w : List ℕ). w ++ a) (sym p.1) ∙ e ∙ ap (λ (w : List ℕ). w ++ b) q.1 in
      let both : Some (x, a) ≡ Some (y, b) = sym (rr.again x a p.0) ∙ ap at whole ∙ rr.again y b q.0 in
      let same = same_some (x, a) (y, b) both in
      let value : x ≡ y = ap (λ (z : X × List ℕ). z.0) same in
      (value, p.1 ∙ ap t value ∙ sym q.1, ap (λ (z : X × List ℕ). z.1) same)

  is_refusal : (at : Reader X) → Reads t F at → (fault : WireFault) (old : List ℕ) → Refuses fault (at old) → IsRefusal t F fault old
  is_refusal at rr faults.NoSpelling old none = λ x rest fits is. let found : at old ≡ Some (x, rest) = ap at is ∙ rr.again x rest fits in absurd (cc (found, none))
  is_refusal at rr faults.Memory old none = tt

  -- the same of a call that may run out of memory
  pub is_read_or_fails : (at : Reader X) → Reads t F at → (r : Result X WireFault) (old new : List ℕ) → GivesOrFails r (at old) old new → IsReadOrFails t F r old new
  is_read_or_fails at rr (Ok x) old new given = let h = rr.takes old x new given in (h.1, h.0)
  is_read_or_fails at rr (Err fault) old new given = (is_refusal at rr fault old given.0, given.1)

-- what memory refuses, refuses anything
pub refuses_as : {Y Z : Type 0} (fault : WireFault) (a : Option Y) (b : Option Z) → ((a ≡ None) → b ≡ None) → Refuses fault a → Refuses fault b
refuses_as faults.NoSpelling a b h none = h none
refuses_as faults.Memory a b h none = tt
