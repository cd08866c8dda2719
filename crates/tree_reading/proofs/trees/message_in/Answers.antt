use Rattle.std.proofs.Common.{◌≡◌, ◌∙◌, List, ℕ, [], ◌∷◌, ◌++◌, refl, sym, ap, inl}
use Rattle.std.proofs.lemmas.List.{append-nil}
use Rattle.std.proofs.lemmas.Result.{err_from_is_err_and}
use Rattle.operands.specs.declared.version.Version.{Version}
use Rattle.xcm_program.specs.declared.instruction.Instruction.{Instruction}
use Rattle.xcm_format.specs.Programs.{program_spelling}
use Rattle.xcm_format.specs.Messages.{version_byte, message}
use Rattle.message_text.specs.Messages.{program_text}
use Rattle.tree_reading.proofs.trees.message_in.Goals as goal

whole : (v : Version) (program : List Instruction) (b : ℕ) (old mid new : List ℕ) → old ≡ [] → b ≡ version_byte v → mid ≡ old ++ b ∷ [] → new ≡ mid ++ program_spelling v program → new ≡ message v program
unfolding message
whole v program b old mid new none is first rest = rest ∙ ap (λ t. t ++ program_spelling v program) (first ∙ ap (λ t. t ++ b ∷ []) none) ∙ ap (λ x. x ∷ program_spelling v program) is

pub returns-in_err-put_program : goal.returns-in_err-put_program
returns-in_err-put_program c = λ program tree small e.
    let h = c.in_err-put_program.ensures.reads program [] tree small.few small.low (inl refl) (e ∙ sym (append-nil (program_text 1 program))) in
    let p = err_from_is_err_and c.from_residual-in_err-put_program.result c.from_residual-in_err-put_program.ensures.1 in
    rw p.1 (cc (p.2, h))

pub returns-then-not-is_at_end : goal.returns-then-not-is_at_end
returns-then-not-is_at_end c = λ program tree small e.
    let p = c.in_ok-put_program.ensures.reads program [] tree small.few small.low (inl refl) (e ∙ sym (append-nil (program_text 1 program))) in
    absurd (cc (c.is_at_end.ensures p.0, c.if-not-is_at_end.true))

pub returns : goal.returns
returns c = λ program tree small e.
    let p = c.in_ok-put_program.ensures.reads program [] tree small.few small.low (inl refl) (e ∙ sym (append-nil (program_text 1 program))) in
    c.into_vec.ensures ∙ whole c.args.form.version program c.version_byte.result c.new-out.result c.put_u8.new.self c.put_program.new.out c.new-out.ensures c.version_byte.ensures c.in_ok-put_u8.ensures.ok p.1
