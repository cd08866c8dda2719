use Rattle.std.proofs.Common.{◌≡◌, ◌≤◌, ◌+◌, ◌++◌, List, ℕ, length, map, drop}
use Rattle.tree_reading.specs.Rows.{IsOutside}
use Rattle.tree_reading.specs.FieldRows.{SaysFields}
use Rattle.tree_reading.proofs.FieldSteps.{seen, FieldsLeft}
use Rattle.tree_reading.proofs.fields.put_fields.Given as goal

abbrev pub invariant-loop-field : goal.invariant-loop-field
invariant-loop-field l = record {
  shorter : length l.rows.rest.now ≤ length l.initial.rows.rest.now;
  remains : (text said rest : List ℕ) → SaysFields l.form.version l.level (map seen l.fields) text said → IsOutside (l.level + 1) rest → l.initial.rows.rest.now ≡ text ++ rest
      → FieldsLeft l.form.version l.level (drop l.field-index l.fields) rest l.rows.rest.now l.initial.out l.out said;
}
