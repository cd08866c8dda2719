-- A put after others.
use Rattle.std.proofs.Common.{◌≡◌, ◌∙◌, ℕ, Bool, false, eqb, get_or, List, ◌++◌, Result, Ok, Err, sym, ap, append_assoc}
use Rattle.std.proofs.lemmas.Bool.{eqb-false}
use Rattle.tree_reading.specs.Puts.{AreBytes, PutsWords}

-- texts that differ at a place are two
pub unlike : (xs ys : List ℕ) (i : ℕ) → xs ≡ ys → eqb (get_or xs i 0) (get_or ys i 0) ≡ false → ⊥
unlike xs ys i e d = eqb-false (get_or xs i 0) (get_or ys i 0) d (ap (λ t. get_or t i 0) e)

-- What is put last is the end of what the words are the text of.
pub record IsEnd {X Y : Type 0} (Fits : Y → Type 0) (text spelling : Y → List ℕ) (whole : X → List ℕ) (x : X) (inner old mid : List ℕ) : Type 0 where
  pub value : Y
  pub fits : Fits value
  pub bytes : AreBytes (spelling value)
  pub words : inner ≡ text value
  pub front : List ℕ
  pub put : mid ≡ old ++ front
  pub spelled : whole x ≡ front ++ spelling value

pub put_behind : {X Y E : Type 0} (FitsX : X → Type 0) (textX spellX : X → List ℕ) (FitsY : Y → Type 0) (textY spellY : Y → List ℕ) (words inner : List ℕ) (result : Result Bool E) (old mid new : List ℕ)
    → ((x : X) → FitsX x → AreBytes (spellX x) → words ≡ textX x → IsEnd FitsY textY spellY spellX x inner old mid) → PutsWords FitsY textY spellY inner result mid new → PutsWords FitsX textX spellX words result old new
put_behind FitsX textX spellX FitsY textY spellY words inner (Err e) old mid new take h = tt
put_behind FitsX textX spellX FitsY textY spellY words inner (Ok done) old mid new take h = λ x fits bytes e.
    let t = take x fits bytes e in
    let k = h t.value t.fits t.bytes t.words in
    (k.0, k.1 ∙ ap (λ m. m ++ spellY t.value) t.put ∙ append_assoc old t.front (spellY t.value) ∙ ap (λ s. old ++ s) (sym t.spelled))
