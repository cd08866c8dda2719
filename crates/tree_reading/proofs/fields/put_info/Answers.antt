use Rattle.std.proofs.Common.{◌∙◌, ℕ, ◌+◌, List, ◌∷◌, ◌++◌, ap, append_assoc}
use Rattle.std.specs.Prelude.{codes}
use Rattle.std.proofs.lemmas.Result.{err_from_is_err_and}
use Rattle.message_text.specs.Lines.{line}
use Rattle.tree_reading.proofs.Following.{took_after}
use Rattle.tree_reading.proofs.fields.put_info.Goals as goal

-- the rows behind the first
abbrev Last : ℕ → List ℕ → List ℕ → List ℕ
Last level most rest = line (level + 1) (codes "max_weight" ++ 32 ∷ most) ++ rest

abbrev Later : ℕ → List ℕ → List ℕ → List ℕ → List ℕ
Later level query most rest = line (level + 1) (codes "query_id" ++ 32 ∷ query) ++ Last level most rest

abbrev Rows : ℕ → List ℕ → List ℕ → List ℕ → List ℕ → List ℕ
Rows level place query most rest = line (level + 1) (codes "destination" ++ 32 ∷ place) ++ Later level query most rest

pub returns-in_err-put_field_row-clause-reads : goal.returns-in_err-put_field_row-clause-reads
returns-in_err-put_field_row-clause-reads c = λ place query most place_said query_said most_said rest named place_are query_are most_are place_says query_says most_says e.
    let n = c.in_ok-take_name.ensures.reads (Rows c.args.level place query most rest) named e in
    let p = err_from_is_err_and c.from_residual-in_err-put_field_row.result c.from_residual-in_err-put_field_row.ensures.1 in
    rw (p.1, p.2) (c.in_err-put_field_row.ensures.reads place place_said (Later c.args.level query most rest) place_are place_says n)

pub returns-in_err-put_field_row-2-clause-reads : goal.returns-in_err-put_field_row-2-clause-reads
returns-in_err-put_field_row-2-clause-reads c = λ place query most place_said query_said most_said rest named place_are query_are most_are place_says query_says most_says e.
    let n = c.in_ok-take_name.ensures.reads (Rows c.args.level place query most rest) named e in
    let one = c.in_ok-put_field_row.ensures.reads place place_said (Later c.args.level query most rest) place_are place_says n in
    let p = err_from_is_err_and c.from_residual-in_err-put_field_row-2.result c.from_residual-in_err-put_field_row-2.ensures.1 in
    rw (p.1, p.2) (c.in_err-put_field_row-2.ensures.reads query query_said (Last c.args.level most rest) query_are query_says one.0)

pub returns-clause-reads : goal.returns-clause-reads
returns-clause-reads c = λ place query most place_said query_said most_said rest named place_are query_are most_are place_says query_says most_says e.
    let n = c.in_ok-take_name.ensures.reads (Rows c.args.level place query most rest) named e in
    let one = c.in_ok-put_field_row.ensures.reads place place_said (Later c.args.level query most rest) place_are place_says n in
    let two = c.in_ok-put_field_row-2.ensures.reads query query_said (Last c.args.level most rest) query_are query_says one.0 in
    let three = c.put_field_row-3.ensures.reads most most_said rest most_are most_says two.0 in
    let put = two.1 ∙ ap (λ t. t ++ query_said) one.1 ∙ append_assoc c.args.out.now place_said query_said in
    took_after rest (place_said ++ query_said) most_said c.put_field_row-3.result c.put_field_row-3.new.rows.rest.now c.args.out.now c.put_field_row-2.new.out c.put_field_row-3.new.out put three
