use Rattle.tree_reading.proofs.RowLaws.{visible_utf8}
use Rattle.tree_reading.proofs.rows.as_text.Goals as goal

pub returns-in-Err : goal.returns-in-Err
returns-in-Err c = λ h. c.in-Err.ensures.cases.0 (visible_utf8 c.args.row.now h)
