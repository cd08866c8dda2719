use Rattle.std.proofs.Common.{arith, sym, ◌∙◌, ◌≡◌, ◌≤◌, length, get_or}
use Rattle.std.proofs.lemmas.Bool.Decides.{nat_tests}
use Rattle.input_lines.proofs.Decimals.{empty_none, plus_none, zero_none, parsed, other_none}
use Rattle.input_lines.proofs.number.read_number.Goals as goal
use Rattle.input_lines.proofs.number.read_number.Goals.{else-text-eq48-via-then-text-eq48+else-text-gt1, else-text-eq48-via-else-text-eq48}

pub returns-then-is_empty : goal.returns-then-is_empty
returns-then-is_empty c = sym (empty_none c.args.text.now (grind (arith, nat_tests)))

pub returns-then-text-eq43 : goal.returns-then-text-eq43
returns-then-text-eq43 c = sym (plus_none c.args.text.now (grind (arith, nat_tests)) c.if-text-eq43.true)

pub returns-then-text-gt1 : goal.returns-then-text-gt1
returns-then-text-gt1 c = sym (zero_none c.args.text.now c.if-text-gt1.true c.if-text-eq48.true)

pub returns-in-Ok : goal.returns-in-Ok
returns-in-Ok c =
    let same : c.in-Ok.digits.now ≡ c.args.text.now = c.in-Ok.ensures.cases.0 in
    let lead : get_or c.args.text.now 0 0 ≡ 48 → length c.args.text.now ≤ 1 =
    λ e. elim c.else-text-eq48.branch [ else-text-eq48-via-then-text-eq48+else-text-gt1 w ↦ omega arith | else-text-eq48-via-else-text-eq48 w ↦ absurd (w.if-text-eq48.false e) ] in
    c.ok.ensures.value ∙ parsed c.args.text.now c.parse.result (rw same at c.parse.ensures.value.0) (grind (arith, nat_tests)) c.if-text-eq43.false lead

pub returns-in-Err : goal.returns-in-Err
returns-in-Err c = sym (other_none c.args.text.now c.in-Err.ensures.cases.0)
