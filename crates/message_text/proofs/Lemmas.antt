-- Lemmas that proofs cite: one layer of an instruction's text. A reader of the contracts may skip this file.
-- ---- the name and the fields are those of the layer alone
use Rattle.std.proofs.Common.{◌≡◌, ℕ, ◌+◌, List, [], ◌∷◌, ◌++◌, map, Option, Some, None, refl, ap, ◌∙◌, arith}
use Rattle.std.proofs.lemmas.List.{append-nil}
use Rattle.scale_codec.specs.Spelling.{joined}
use Rattle.std.specs.Option.{option_map}
use Rattle.xcm_program.specs.declared.instruction.Instruction.{Instruction, out-Instruction, fold_out-Instruction, map-Instruction}
use Rattle.xcm_program.specs.declared.instruction.Instruction.TheOpen.{Instruction-F}
use Rattle.xcm_program.specs.Measure.{inner, inner_of}
use Rattle.xcm_program.specs.Texts.{instruction_name}
use Rattle.xcm_program.proofs.Lemmas.{inner-map}
use Rattle.message_text.specs.declared.names.FieldName.TheVariants.{Xcm}
use Rattle.message_text.specs.Names.{name_text}
use Rattle.message_text.specs.Lines.{line}
use Rattle.message_text.specs.Messages.{own_fields, nested_at, instruction_text, program_text}

name-map : {X Y : Type 0} (f : X → Y) (l : Instruction-F X)
    → instruction_name (map-Instruction X Y f l) ≡ instruction_name l
name-map f (Instruction-F.WithdrawAsset list) = refl
name-map f _ = refl

own_fields-map : {X Y : Type 0} (n : ℕ) (f : X → Y) (l : Instruction-F X)
    → own_fields n (map-Instruction X Y f l) ≡ own_fields n l
unfolding own_fields
own_fields-map n f (Instruction-F.WithdrawAsset list) = refl
own_fields-map n f _ = refl

-- ---- the text

-- what is in the program inside, by the text of each instruction
abbrev pub texts : Option (List Instruction) → Option (List (ℕ → List ℕ))
texts o = option_map (map instruction_text) o

-- the program inside, below its name
abbrev pub nested_text : ℕ → Option (List Instruction) → List ℕ
nested_text level o = nested_at level (texts o)

-- an instruction of this layer with this program inside
abbrev pub text_with : {X : Type 0} → ℕ → Instruction-F X → Option (List Instruction) → List ℕ
text_with level l nested =
    line level (instruction_name l)
    ++ (own_fields (level + 1) l ++ nested_text (level + 1) nested)

pub text_is : (i : Instruction) (level : ℕ)
    → instruction_text i level ≡ text_with level (out-Instruction i) (inner_of i)
unfolding instruction_text
text_is i level =
    let l = out-Instruction i in
    let mapped = map-Instruction Instruction (ℕ → List ℕ) instruction_text l in
    ap (λ (t : ℕ → List ℕ). t level) (fold_out-Instruction (ℕ → List ℕ) (λ l level. line level (instruction_name l)
    ++ (own_fields (level + 1) l ++ nested_at (level + 1) (inner l))) i)
    ∙ ap (λ (t : List ℕ). line level t ++ (own_fields (level + 1) mapped ++ nested_at (level + 1) (inner mapped))) (name-map instruction_text l)
    ∙ ap (λ (t : List ℕ). line level (instruction_name l) ++ (t ++ nested_at (level + 1) (inner mapped))) (own_fields-map (level + 1) instruction_text l)
    ∙ ap (λ (o : Option (List (ℕ → List ℕ))). line level (instruction_name l) ++ (own_fields (level + 1) l ++ nested_at (level + 1) o)) (inner-map instruction_text l)

text_by : (i : Instruction) (level : ℕ) (nested : Option (List Instruction)) → inner_of i ≡ nested
    → instruction_text i level ≡ text_with level (out-Instruction i) nested
text_by i level nested inside =
    text_is i level ∙ ap (λ (o : Option (List Instruction)). text_with level (out-Instruction i) o) inside

two_more : (level : ℕ) → level + 1 + 1 ≡ level + 2
two_more level = omega (arith)

two_deeper : (level : ℕ) (p : List Instruction)
    → joined (map (λ (text : ℕ → List ℕ). text (level + 1 + 1)) (map instruction_text p)) ≡ program_text (level + 2) p
two_deeper level [] = refl
two_deeper level (i ∷ p) = λ k. instruction_text i (two_more level k) ++ two_deeper level p k

-- where there is no program inside
pub none_text : (i : Instruction) (level : ℕ) → inner_of i ≡ None
    → instruction_text i level
    ≡ line level (instruction_name (out-Instruction i)) ++ own_fields (level + 1) (out-Instruction i)
none_text i level inside =
    text_by i level None inside
    ∙ ap (λ t. line level (instruction_name (out-Instruction i)) ++ t) (append-nil (own_fields (level + 1) (out-Instruction i)))

-- where this one is
pub some_text : (i : Instruction) (level : ℕ) (p : List Instruction) → inner_of i ≡ Some p
    → instruction_text i level
    ≡ line level (instruction_name (out-Instruction i)) ++ (own_fields (level + 1) (out-Instruction i)
    ++ (line (level + 1) (name_text Xcm) ++ program_text (level + 2) p))
some_text i level p inside =
    text_by i level (Some p) inside
    ∙ ap (λ t. line level (instruction_name (out-Instruction i)) ++ (own_fields (level + 1) (out-Instruction i)
    ++ (line (level + 1) (name_text Xcm) ++ t))) (two_deeper level p)
