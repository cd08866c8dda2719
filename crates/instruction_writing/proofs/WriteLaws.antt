-- The number of an instruction comes first.
use Rattle.std.proofs.Common.{◌≡◌, ℕ, List, [], ◌∷◌, ◌++◌, Result, Ok, Err, refl, sym, ap, ◌∙◌, append_assoc}
use Rattle.operands.specs.declared.version.Version.{Version}
use Rattle.scale_codec.specs.Answers.{Drafted, Appends}
use Rattle.xcm_program.specs.declared.instruction.Instruction.{Instruction}
use Rattle.xcm_program.specs.declared.instruction.Instruction.TheOpen.{Instruction-F}
use Rattle.xcm_program.specs.Indices.{index}
use Rattle.xcm_format.specs.Programs.{head, FitsHead}
use Rattle.instruction_writing.specs.Fields.{instruction_fields}

pub index_first : {X : Type 0} (v : Version) (l : Instruction-F X) → head v l ≡ index l ∷ instruction_fields v l
unfolding head
index_first v (Instruction-F.WithdrawAsset list) = refl
index_first v _ = refl

-- the number, and then the fields
pub head_put : {A E : Type 0} (r : Result A E) (v : Version) (l : Instruction-F Instruction) (old mid new : Drafted) → mid.kept ≡ old.kept → mid.text ≡ old.text ++ index l ∷ [] → Appends r mid new (instruction_fields v l) (FitsHead v l)
    → Appends r old new (head v l) (FitsHead v l)
head_put (Ok x) v l old mid new kept first h = (
  h.0 ∙ kept,
  (
    h.1.0 ∙ ap (λ (t : List ℕ). t ++ instruction_fields v l) first ∙ append_assoc old.text (index l ∷ []) (instruction_fields v l) ∙ ap (λ (t : List ℕ). old.text ++ t) (sym (index_first v l)),
    h.1.1,
  ),
)
head_put (Err e) v l old mid new kept first h = (h.0 ∙ kept, tt)
