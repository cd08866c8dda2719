use Rattle.std.proofs.Common.{◌+◌, ◌++◌, string_bytes, ap, sym, ◌∙◌, append_assoc}
use Rattle.xcm_program.specs.declared.instruction.Instruction.{out-Instruction}
use Rattle.xcm_program.specs.Texts.{instruction_name}
use Rattle.message_text.specs.declared.names.FieldName.TheVariants.{Xcm}
use Rattle.message_text.specs.Names.{name_text}
use Rattle.message_text.specs.Lines.{line}
use Rattle.message_text.specs.Messages.{own_fields, program_text}
use Rattle.message_text.proofs.Lemmas.{none_text, some_text}
use Rattle.message_text.proofs.messages.+program.Goals as goal

pub push_instruction-returns-in-None : goal.push_instruction-returns-in-None
push_instruction-returns-in-None t c =
    let i = c.args.instruction.now in
    let level = c.args.level in
    let old = string_bytes c.args.text.now in
    let head = line level (instruction_name (out-Instruction i)) in
    let own = own_fields (level + 1) (out-Instruction i) in
    c.in_ok-push_own.ensures
    ∙ ap (λ t. t ++ own) (c.in_ok-push_line.ensures ∙ ap (λ w. old ++ line level w) c.name.ensures)
    ∙ append_assoc old head own
    ∙ ap (λ t. old ++ t) (sym (none_text i level (sym c.in-None.ensures)))

pub push_instruction-returns-in_ok-push_line-in-Some : goal.push_instruction-returns-in_ok-push_line-in-Some
push_instruction-returns-in_ok-push_line-in-Some t c =
    let i = c.args.instruction.now in
    let level = c.args.level in
    let old = string_bytes c.args.text.now in
    let head = line level (instruction_name (out-Instruction i)) in
    let own = own_fields (level + 1) (out-Instruction i) in
    let xcm = line (level + 1) (name_text Xcm) in
    let rest = program_text (level + 2) c.in-Some.xcm.now in
    let named = c.in_ok-push_line.ensures ∙ ap (λ w. old ++ line level w) c.name.ensures in
    let fields = c.in_ok-push_own.ensures ∙ ap (λ t. t ++ own) named in
    let inside =
    c.in_ok-push_line-in-Some.ensures ∙ ap (λ w. string_bytes c.push_own.new.text ++ line (level + 1) w) c.name_text.ensures
    ∙ ap (λ t. t ++ xcm) fields in
    rw (
    ap (λ t. t ++ rest) inside
    ∙ append_assoc (old ++ head ++ own) xcm rest ∙ append_assoc (old ++ head) own (xcm ++ rest)
    ∙ append_assoc old head (own ++ (xcm ++ rest))
    ∙ ap (λ t. old ++ t) (sym (some_text i level c.in-Some.xcm.now (sym c.in-Some.ensures)))
    ) at c.push_program.ensures
