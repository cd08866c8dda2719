-- What is written, by one layer.
use Rattle.std.proofs.Common.{◌≡◌, ℕ, ◌+◌, ◌<◌, ◌≤◌, ◌^◌, List, ◌++◌, length, map, drop, Option, Some, None, Result, Ok, Err, sym, ap, subst, ◌∙◌, append_assoc, arith}
use Rattle.std.proofs.lemmas.List.{append-nil}
use Rattle.std.specs.List.{AllByRecursion}
use Rattle.scale_codec.specs.Spelling.{joined}
use Rattle.scale_codec.specs.Answers.{Drafted, Puts}
use Rattle.scale_codec.proofs.Lemmas.WriteLoops.{wrote_all, fits_all}
use Rattle.operands.specs.declared.version.Version.{Version}
use Rattle.xcm_program.specs.declared.instruction.Instruction.{Instruction, out-Instruction}
use Rattle.xcm_program.specs.Measure.{inner_of, deep_count_one, deep_count}
use Rattle.xcm_program.specs.Everywhere.{AllInside}
use Rattle.xcm_program.specs.Conversions.{HasAmounts}
use Rattle.xcm_program.proofs.Lemmas.{deep_count_one-is, deep_count_inside, length-deep_count, amounts_open}
use Rattle.xcm_format.specs.Programs.{head, FitsHead, behind, instruction_spelling, program_spelling, FitsInstruction, FitsProgram}
use Rattle.xcm_format.specs.Writable.{IsNamedOne, IsWritable}
use Rattle.xcm_format.proofs.Lemmas.{texts, spelling-is, Inside, fits_here, named_open}

pub nested_writable : (v : Version) (i : Instruction) (p : List Instruction) → Some p ≡ inner_of i → IsNamedOne v i → HasAmounts i → deep_count_one i < 2 ^ 32 → (deep_count_one i ≡ 1 + deep_count p) × IsWritable v p
nested_writable v i p is named amounts few =
    let n : deep_count_one i ≡ 1 + deep_count p = deep_count_one-is i ∙ ap (λ (o : Option (List Instruction)). 1 + deep_count_inside o) (sym is) in (
      n,
      record {
        few = omega (arith, n);
        named = subst (λ (o : Option (List Instruction)). AllInside (IsNamedOne v) o) (sym is) (named_open v i named).1;
        amounts = subst (λ (o : Option (List Instruction)). AllInside HasAmounts o) (sym is) (amounts_open i amounts).1;
      },
    )

-- a value has a spelling, and a draft has it after what it had
abbrev pub IsPut : {X : Type 0} → (X → List ℕ) → (X → Type 0) → X → Drafted → Drafted → Type 0
IsPut t F x old new = (new.kept ≡ old.kept) × ((new.text ≡ old.text ++ t x) × F x)

-- the head of an instruction
abbrev pub IsHeadPut : Version → Instruction → Drafted → Drafted → Type 0
IsHeadPut v = IsPut (λ i. head v (out-Instruction i)) (λ i. FitsHead v (out-Instruction i))

pub wrote_plain : (v : Version) (i : Instruction) (old new : Drafted) → None ≡ inner_of i → IsHeadPut v i old new → IsPut (instruction_spelling v) (FitsInstruction v) i old new
wrote_plain v i old new is a =
    let text : instruction_spelling v i ≡ head v (out-Instruction i) = spelling-is v i ∙ ap (λ (o : Option (List Instruction)). head v (out-Instruction i) ++ behind (texts v o)) (sym is) ∙ append-nil (head v (out-Instruction i)) in
    (a.0, (a.1.0 ∙ ap (λ (t : List ℕ). old.text ++ t) (sym text), fits_here v i a.1.1 (subst (Inside v) is tt)))

pub wrote_nested : {A E : Type 0} (r : Result A E) (v : Version) (i : Instruction) (p : List Instruction) (old mid new : Drafted) → Some p ≡ inner_of i → IsHeadPut v i old mid
    → Puts (program_spelling v) (FitsProgram v) p r mid new → Puts (instruction_spelling v) (FitsInstruction v) i r old new
wrote_nested (Ok x) v i p old mid new is a b =
    let h = head v (out-Instruction i) in
    let text : instruction_spelling v i ≡ h ++ program_spelling v p = spelling-is v i ∙ ap (λ (o : Option (List Instruction)). h ++ behind (texts v o)) (sym is) in
    (b.0 ∙ a.0, (b.1.0 ∙ ap (λ (t : List ℕ). t ++ program_spelling v p) a.1.0 ∙ append_assoc old.text h (program_spelling v p) ∙ ap (λ (t : List ℕ). old.text ++ t) (sym text), fits_here v i a.1.1 (subst (Inside v) is b.1.1)))
wrote_nested (Err fault) v i p old mid new is a b = (b.0 ∙ a.0, tt)

pub wrote_program : (v : Version) (p : List Instruction) (k : ℕ) (old o : Drafted) → length p ≤ k → deep_count p < 2 ^ 32 → o.kept ≡ old.kept
    → o.text ++ joined (map (instruction_spelling v) (drop k p)) ≡ old.text ++ program_spelling v p → (AllByRecursion (FitsInstruction v) (drop k p) → AllByRecursion (FitsInstruction v) p)
    → IsPut (program_spelling v) (FitsProgram v) p old o
wrote_program v p k old o le few kept text fits =
    (kept, (sym (wrote_all (instruction_spelling v) p k o.text le) ∙ text, (omega (arith, length-deep_count p), fits_all (FitsInstruction v) p k le fits)))
