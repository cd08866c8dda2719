-- What is written for a text. Source: this project's own rule.
use Rattle.std.specs.Prelude.{◌≡◌, ◌<◌, ◌^◌, ℕ, Bool, true, List, ◌++◌, Result, IfOk, ⊤}
use Rattle.operands.specs.declared.status.MaybeError.{MaybeError}
use Rattle.operands.specs.declared.status.MaybeError.TheVariants.{Success}
use Rattle.std.specs.List.{AllByRecursion}

abbrev pub AreBytes : List ℕ → Type 0
AreBytes xs = AllByRecursion (λ b. b < 2 ^ 8) xs

-- how a call failed, if it did
abbrev pub FitsCallError : MaybeError → Type 0
FitsCallError Success = ⊥
FitsCallError _ = ⊤

-- Where the words are the text of a value that fits, its spelling is appended; unless memory ran out.
abbrev pub PutsWords : {X E : Type 0} → (X → Type 0) → (X → List ℕ) → (X → List ℕ) → List ℕ → Result Bool E → List ℕ → List ℕ → Type 0
PutsWords Fits text spelling words result old new =
    IfOk result (λ done. (x : _) → Fits x → AreBytes (spelling x) → words ≡ text x → (done ≡ true) × (new ≡ old ++ spelling x))
