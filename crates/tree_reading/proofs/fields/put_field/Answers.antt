use Rattle.std.proofs.Common.{◌≡◌, ◌∙◌, ℕ, ◌+◌, List, ◌∷◌, ◌++◌, Result, sym, ap, subst, append_assoc, inl, inr}
use Rattle.std.specs.Prelude.{codes}
use Rattle.message_text.specs.Lines.{line}
use Rattle.tree_reading.specs.declared.expected.TreeFault.{TreeFault}
use Rattle.tree_reading.specs.Took.{Took, rows_text, list_said}
use Rattle.tree_reading.specs.FieldRows.{SaysRow, SaysAssets, SaysFilter, SaysInfo, SaysResponse}
use Rattle.tree_reading.proofs.fields.put_field.Goals as goal

-- by what is said
said_as : {A : Type 0} (rest said same : List ℕ) (result : Result A TreeFault) (rows old new : List ℕ) → said ≡ same → Took rest same result rows old new → Took rest said result rows old new
said_as rest said same result rows old new is t = subst (λ (w : List ℕ). Took rest w result rows old new) (sym is) t

assets_rows : (name below same rest rows text : List ℕ) → rows ≡ text ++ rest → text ≡ name ++ below → below ≡ same → rows ≡ name ++ (same ++ rest)
assets_rows name below same rest rows text e is list = e ∙ ap (λ t. t ++ rest) (is ∙ ap (λ t. name ++ t) list) ∙ append_assoc name same rest

info_rows : (name place query most p q m rest rows text : List ℕ) → rows ≡ text ++ rest → text ≡ name ++ (place ++ (query ++ most)) → place ≡ p → query ≡ q → most ≡ m → rows ≡ name ++ (p ++ (q ++ (m ++ rest)))
info_rows name place query most p q m rest rows text e is a b c =
    e ∙ ap (λ t. t ++ rest) is ∙ append_assoc name (place ++ (query ++ most)) rest
    ∙ ap (λ t. name ++ t) (append_assoc place (query ++ most) rest ∙ ap (λ t. place ++ t) (append_assoc query most rest))
    ∙ ap (λ t. name ++ (t ++ (query ++ (most ++ rest)))) a
    ∙ ap (λ t. name ++ (p ++ (t ++ (most ++ rest)))) b
    ∙ ap (λ t. name ++ (p ++ (q ++ (t ++ rest)))) c

pub returns-in-Row-clause-reads : goal.returns-in-Row-clause-reads
returns-in-Row-clause-reads c = λ text said rest s outside e.
    let r : SaysRow c.args.form.version c.in-Row.words c.args.level c.args.name.now text said = rw c.in-Row.is at s in
    c.put_field_row.ensures.reads r.value said rest r.are r.says (e ∙ ap (λ t. t ++ rest) r.is)

pub returns-in-Assets-clause-reads : goal.returns-in-Assets-clause-reads
returns-in-Assets-clause-reads c = λ text said rest s outside e.
    let a : SaysAssets c.args.form.version c.args.level c.args.name.now text said = rw c.in-Assets.is at s in
    let items = a.list.items in
    said_as rest said (list_said items) c.put_assets.result c.put_assets.new.rows.rest.now c.args.out.now c.put_assets.new.out a.list.spelled
    (c.put_assets.ensures.reads items rest a.named a.list.are a.list.few outside
    (assets_rows (line c.args.level c.args.name.now) a.below (rows_text (c.args.level + 1) items) rest c.args.rows.now.rest.now text e a.is a.list.is))

pub returns-in-Filter-clause-reads : goal.returns-in-Filter-clause-reads
returns-in-Filter-clause-reads c = λ text said rest s outside e.
    let f : SaysFilter c.args.form.version c.args.level c.args.name.now text said = rw c.in-Filter.is at s in
    elim f [
      | inl a ↦
          let l = a.says.list in
          said_as rest said (0 ∷ list_said l.items) c.put_filter.result c.put_filter.new.rows.rest.now c.args.out.now c.put_filter.new.out (a.is ∙ ap (λ t. 0 ∷ t) l.spelled)
          (c.put_filter.ensures.assets l.items rest a.says.named l.are l.few outside
          (assets_rows (line c.args.level c.args.name.now) a.says.below (rows_text (c.args.level + 1) l.items) rest c.args.rows.now.rest.now text e a.says.is l.is))
      | inr w ↦
          said_as rest said (1 ∷ w.rest) c.put_filter.result c.put_filter.new.rows.rest.now c.args.out.now c.put_filter.new.out w.is
          (c.put_filter.ensures.wild w.says.value w.rest rest w.says.are w.says.says (e ∙ ap (λ t. t ++ rest) w.says.is))
    ]

pub returns-in-Info-clause-reads : goal.returns-in-Info-clause-reads
returns-in-Info-clause-reads c = λ text said rest s outside e.
    let i : SaysInfo c.args.form.version c.args.level c.args.name.now text said = rw c.in-Info.is at s in
    let below = c.args.level + 1 in
    said_as rest said (i.place_said ++ i.query_said ++ i.most_said) c.put_info.result c.put_info.new.rows.rest.now c.args.out.now c.put_info.new.out i.spelled
    (c.put_info.ensures.reads i.place_says.value i.query_says.value i.most_says.value i.place_said i.query_said i.most_said rest i.named i.place_says.are i.query_says.are i.most_says.are i.place_says.says i.query_says.says i.most_says.says
    (info_rows (line c.args.level c.args.name.now) i.place i.query i.most (line below (codes "destination" ++ 32 ∷ i.place_says.value)) (line below (codes "query_id" ++ 32 ∷ i.query_says.value)) (line below (codes "max_weight" ++ 32 ∷ i.most_says.value))
    rest c.args.rows.now.rest.now text e i.is i.place_says.is i.query_says.is i.most_says.is))

pub returns-in-Response-clause-reads : goal.returns-in-Response-clause-reads
returns-in-Response-clause-reads c = λ text said rest s outside e.
    let r : SaysResponse c.args.form.version c.args.level c.args.name.now text said = rw c.in-Response.is at s in
    c.put_response.ensures.reads r.value r.below said rest r.are r.says outside
    (e ∙ ap (λ t. t ++ rest) r.is ∙ append_assoc (line c.args.level (c.args.name.now ++ 32 ∷ r.value)) r.below rest)
