use Rattle.std.proofs.Common.{◌∙◌}
use Rattle.tree_reading.proofs.RowLaws.{row_split, outside_row, seen}
use Rattle.tree_reading.proofs.rows.Rows.has_row.Goals as goal

pub returns-in_default-clause-found : goal.returns-in_default-clause-found
returns-in_default-clause-found c = λ words rest w e. absurd (rw c.in_default.is at (row_split c.args.level c.args.self.now.rest.now words rest c.first_row.result c.first_row.ensures.found w e))

pub returns-in_default-as_text-clause-ended : goal.returns-in_default-as_text-clause-ended
returns-in_default-as_text-clause-ended c = λ out.
    let p = outside_row c.args.level c.args.self.now.rest.now c.first_row.result (c.in-Some.bytes, c.in-Some._rest) c.first_row.ensures.found c.in-Some.ensures.cut c.in-Some.is out in
    absurd (rw c.in_default-as_text.is at (c.as_text.ensures (seen p.0 p.1 c.in-Some.bytes.now p.3 p.4)))

pub returns-then-is_above-clause-found : goal.returns-then-is_above-clause-found
returns-then-is_above-clause-found c = λ words rest w e.
    let p = rw c.in-Some.is at (row_split c.args.level c.args.self.now.rest.now words rest c.first_row.result c.first_row.ensures.found w e) in
    let t = rw c.in-Some-as_text.is at (c.as_text.ensures (seen c.args.level words c.in-Some.bytes.now w p.0)) in
    absurd (cc (c.is_above.ensures.here words (t ∙ p.0), c.if-is_above.true))

pub returns-in-Some-words_at-clause-ended : goal.returns-in-Some-words_at-clause-ended
returns-in-Some-words_at-clause-ended c = λ out.
    let p = outside_row c.args.level c.args.self.now.rest.now c.first_row.result (c.in-Some.bytes, c.in-Some._rest) c.first_row.ensures.found c.in-Some.ensures.cut c.in-Some.is out in
    let t = rw c.in-Some-as_text.is at (c.as_text.ensures (seen p.0 p.1 c.in-Some.bytes.now p.3 p.4)) in
    absurd (cc (c.is_above.ensures.above p.0 p.1 p.2 p.3 (t ∙ p.4), c.if-is_above.false))

pub returns-in-None-clause-found : goal.returns-in-None-clause-found
returns-in-None-clause-found c = λ words rest w e.
    let p = rw c.in-Some.is at (row_split c.args.level c.args.self.now.rest.now words rest c.first_row.result c.first_row.ensures.found w e) in
    let t = rw c.in-Some-as_text.is at (c.as_text.ensures (seen c.args.level words c.in-Some.bytes.now w p.0)) in
    absurd (rw c.in-None.is at (c.words_at.ensures words w (t ∙ p.0)))

pub returns-in-None-clause-ended : goal.returns-in-None-clause-ended
returns-in-None-clause-ended c = λ out.
    let p = outside_row c.args.level c.args.self.now.rest.now c.first_row.result (c.in-Some.bytes, c.in-Some._rest) c.first_row.ensures.found c.in-Some.ensures.cut c.in-Some.is out in
    let t = rw c.in-Some-as_text.is at (c.as_text.ensures (seen p.0 p.1 c.in-Some.bytes.now p.3 p.4)) in
    absurd (cc (c.is_above.ensures.above p.0 p.1 p.2 p.3 (t ∙ p.4), c.if-is_above.false))
