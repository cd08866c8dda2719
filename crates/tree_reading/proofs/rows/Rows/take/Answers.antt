use Rattle.std.proofs.Common.{◌∙◌}
use Rattle.tree_reading.proofs.RowLaws.{row_split, seen}
use Rattle.tree_reading.proofs.rows.Rows.take.Goals as goal

pub returns-in_default-clause-found : goal.returns-in_default-clause-found
returns-in_default-clause-found c = λ words rest w e. absurd (rw c.in_default.is at (row_split c.args.level c.args.self.now.rest.now words rest c.first_row.result c.first_row.ensures.found w e))

pub returns-in_default-as_text-clause-found : goal.returns-in_default-as_text-clause-found
returns-in_default-as_text-clause-found c = λ words rest w e.
    let p = rw c.in-Some.is at (row_split c.args.level c.args.self.now.rest.now words rest c.first_row.result c.first_row.ensures.found w e) in
    absurd (rw c.in_default-as_text.is at (c.as_text.ensures (seen c.args.level words c.in-Some.bytes.now w p.0)))

pub returns-in_default-words_at-clause-found : goal.returns-in_default-words_at-clause-found
returns-in_default-words_at-clause-found c = λ words rest w e.
    let p = rw c.in-Some.is at (row_split c.args.level c.args.self.now.rest.now words rest c.first_row.result c.first_row.ensures.found w e) in
    let t = rw c.in-Some-as_text.is at (c.as_text.ensures (seen c.args.level words c.in-Some.bytes.now w p.0)) in
    absurd (rw c.in_default-words_at.is at (c.words_at.ensures words w (t ∙ p.0)))

pub returns-clause-found : goal.returns-clause-found
returns-clause-found c = λ words rest w e.
    let p = rw c.in-Some.is at (row_split c.args.level c.args.self.now.rest.now words rest c.first_row.result c.first_row.ensures.found w e) in
    let t = rw c.in-Some-as_text.is at (c.as_text.ensures (seen c.args.level words c.in-Some.bytes.now w p.0)) in
    (rw c.in-Some-words_at.is at (c.words_at.ensures words w (t ∙ p.0)), p.1)
