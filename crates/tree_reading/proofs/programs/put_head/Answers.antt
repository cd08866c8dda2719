use Rattle.std.proofs.Common.{◌≡◌, ◌∙◌, ℕ, ◌+◌, ◌<◌, List, [], ◌∷◌, ◌++◌, map, sym, ap, subst, append_assoc, arith}
use Rattle.std.specs.Borrow.{Bor}
use Rattle.std.proofs.lemmas.Result.{err_from_is_err_and}
use Rattle.operands.specs.declared.version.Version.{Version}
use Rattle.xcm_program.specs.declared.instruction.Instruction.{Instruction}
use Rattle.xcm_program.specs.declared.instruction.Instruction.TheOpen.{Instruction-F}
use Rattle.xcm_program.specs.Indices.{index}
use Rattle.xcm_program.specs.Names.{names, instruction_name_at}
use Rattle.xcm_program.specs.Texts.{instruction_name}
use Rattle.message_text.specs.Messages.{own_fields}
use Rattle.tree_reading.specs.declared.table.Kind.{Kind}
use Rattle.tree_reading.specs.Rows.{IsOutside}
use Rattle.tree_reading.specs.Table.{fields_at_index, nests}
use Rattle.tree_reading.specs.FieldRows.{SaysFields}
use Rattle.tree_reading.proofs.Once.{same_place}
use Rattle.tree_reading.proofs.InstructionNames.{names_once, name_at, name_from, index_low, nests_is}
use Rattle.tree_reading.proofs.HeadFields.{head_fields}
use Rattle.tree_reading.proofs.ProgramRows.{instruction_words}
use Rattle.tree_reading.proofs.programs.put_head.Goals as goal

-- a name stands at one index
one_index : (name : List ℕ) (n : ℕ) (l : Instruction-F Instruction) → n < 48 → name ≡ instruction_name_at n → name ≡ instruction_name l → n ≡ index l
one_index name n l low is e = same_place names n (index l) names_once low (index_low l) (sym (name_from n) ∙ sym is ∙ e ∙ name_at l ∙ name_from (index l))

-- the fields that were found are those of the instruction
fields_are : (v : Version) (level : ℕ) (l : Instruction-F Instruction) (found : List (List ℕ × Kind)) (n : ℕ) (said : List ℕ) → found ≡ fields_at_index n → n ≡ index l → SaysFields v level (fields_at_index (index l)) (own_fields level l) said
    → SaysFields v level found (own_fields level l) said
fields_are v level l found n said is same s = subst (λ (fs : List (List ℕ × Kind)). SaysFields v level fs (own_fields level l) said) (sym (is ∙ ap fields_at_index same)) s

outside_deeper : (level : ℕ) (rest : List ℕ) → IsOutside (level + 2) rest → IsOutside (level + 1 + 1) rest
outside_deeper level rest h = let same : level + 2 ≡ level + 1 + 1 = omega arith in subst (λ (n : ℕ). IsOutside n rest) same h

pub returns-in_default-clause-reads : goal.returns-in_default-clause-reads
returns-in_default-clause-reads c = λ l rest has outside e.
    let t = c.in_ok-name.ensures.found (instruction_name l) (own_fields (c.args.level + 1) l ++ rest) (instruction_words l) e in
    absurd (c.in_default.ensures (index l) (index_low l) (t.0 ∙ name_at l))

pub returns-in_err-put_fields-clause-reads : goal.returns-in_err-put_fields-clause-reads
returns-in_err-put_fields-clause-reads c = λ l rest has outside e.
    let level = c.args.level in
    let v = c.args.form.version in
    let t = c.in_ok-name.ensures.found (instruction_name l) (own_fields (level + 1) l ++ rest) (instruction_words l) e in
    let same = one_index c.in_ok-name.name.now c.in-Some.index l c.in-Some.ensures.0 c.in-Some.ensures.1 t.0 in
    let h = head_fields v (level + 1) l has in
    let fields = fields_are v (level + 1) l (map (λ (f : Bor (List ℕ) × Kind). (f.0.now, f.1)) c.fields_at.result.now) c.in-Some.index h.said c.fields_at.ensures same h.says in
    let p = err_from_is_err_and c.from_residual-in_err-put_fields.result c.from_residual-in_err-put_fields.ensures.1 in
    rw (p.1, p.2) (c.in_err-put_fields.ensures.reads (own_fields (level + 1) l) h.said rest fields (outside_deeper level rest outside) t.1)

pub returns-clause-reads : goal.returns-clause-reads
returns-clause-reads c = λ l rest has outside e.
    let level = c.args.level in
    let v = c.args.form.version in
    let old = c.args.out.now in
    let t = c.in_ok-name.ensures.found (instruction_name l) (own_fields (level + 1) l ++ rest) (instruction_words l) e in
    let same = one_index c.in_ok-name.name.now c.in-Some.index l c.in-Some.ensures.0 c.in-Some.ensures.1 t.0 in
    let h = head_fields v (level + 1) l has in
    let fields = fields_are v (level + 1) l (map (λ (f : Bor (List ℕ) × Kind). (f.0.now, f.1)) c.fields_at.result.now) c.in-Some.index h.said c.fields_at.ensures same h.says in
    let f = c.in_ok-put_fields.ensures.reads (own_fields (level + 1) l) h.said rest fields (outside_deeper level rest outside) t.1 in (
      c.is_nesting.ensures ∙ ap nests same ∙ nests_is l,
      f.0,
      f.1 ∙ ap (λ m. m ++ h.said) (c.in_ok-put_u8.ensures.ok ∙ ap (λ n. old ++ n ∷ []) same) ∙ append_assoc old (index l ∷ []) h.said ∙ ap (λ m. old ++ m) (sym h.is),
    )
