use Rattle.std.proofs.Common.{◌≡◌, ◌<◌, ◌≤◌, ◌^◌, ◌++◌, List, ℕ, length}
use Rattle.tree_reading.specs.Rows.{IsOutside}
use Rattle.tree_reading.specs.Took.{AreItems, rows_text}
use Rattle.tree_reading.proofs.Items.{Remains}
use Rattle.tree_reading.proofs.lists.put_items.Given as goal

abbrev pub decreases-loop-form : goal.decreases-loop-form
decreases-loop-form l = length l.rows.rest.now

abbrev pub invariant-loop-form : goal.invariant-loop-form
invariant-loop-form l = record {
  shorter : length l.rows.rest.now ≤ length l.initial.rows.rest.now;
  remains : (items : List (List ℕ × List ℕ)) (rest : List ℕ) → AreItems l.form.version l.kind items → length items < 2 ^ 32 → IsOutside l.level rest → l.initial.rows.rest.now ≡ rows_text l.level items ++ rest
      → Remains l.form.version l.kind l.level items rest l.rows.rest.now l.initial.out l.out l.count;
}
