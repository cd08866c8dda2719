use Rattle.std.proofs.Common.{◌∙◌, [], ◌∷◌, ◌++◌, sym, ap}
use Rattle.tree_reading.specs.Took.{list_said}
use Rattle.tree_reading.proofs.Following.{took_as, took_rest}
use Rattle.tree_reading.proofs.FieldSteps.{answer_null, answer_assets, answer_pallets, answer_valued}
use Rattle.tree_reading.proofs.fields.put_answer.Goals as goal

pub returns-in_ok-put_u8-in-Null-clause-reads : goal.returns-in_ok-put_u8-in-Null-clause-reads
returns-in_ok-put_u8-in-Null-clause-reads c = λ below said rest says outside e.
    let a = answer_null c.args.form.version c.args.level c.args.text.now below said c.in-Null.is says in
    (e ∙ ap (λ t. t ++ rest) a.0, c.in_ok-put_u8-in-Null.ensures.ok ∙ ap (λ t. c.args.out.now ++ t) (sym a.1))

pub returns-in_ok-put_u8-in-Assets-clause-reads : goal.returns-in_ok-put_u8-in-Assets-clause-reads
returns-in_ok-put_u8-in-Assets-clause-reads c = λ below said rest says outside e.
    let a = answer_assets c.args.form.version c.args.level c.args.text.now below said c.in-Assets.is says in
    let l = a.says in
    took_as rest (1 ∷ []) (list_said l.items) said c.put_list.result c.put_list.new.rows.rest.now c.args.out.now c.put_u8-in-Assets.new.self c.put_list.new.out (a.is ∙ ap (λ t. 1 ∷ t) l.spelled) c.in_ok-put_u8-in-Assets.ensures.ok
    (c.put_list.ensures.reads l.items rest l.are l.few outside (e ∙ ap (λ t. t ++ rest) l.is))

pub returns-in_ok-put_u8-in-PalletsInfo-clause-reads : goal.returns-in_ok-put_u8-in-PalletsInfo-clause-reads
returns-in_ok-put_u8-in-PalletsInfo-clause-reads c = λ below said rest says outside e.
    let a = answer_pallets c.args.form.version c.args.level c.args.text.now below said c.in-PalletsInfo.is says in
    let l = a.says in
    took_as rest (4 ∷ []) (list_said l.items) said c.put_list-in-PalletsInfo.result c.put_list-in-PalletsInfo.new.rows.rest.now c.args.out.now c.put_u8-in-PalletsInfo.new.self c.put_list-in-PalletsInfo.new.out (a.is ∙ ap (λ t. 4 ∷ t) l.spelled) c.in_ok-put_u8-in-PalletsInfo.ensures.ok
    (c.put_list-in-PalletsInfo.ensures.reads l.items rest l.are l.few outside (e ∙ ap (λ t. t ++ rest) l.is))

pub returns-in_default-clause-reads : goal.returns-in_default-clause-reads
returns-in_default-clause-reads c = λ below said rest says outside e.
    let a = answer_valued c.args.form.version c.args.level c.args.text.now below said c.in_default.not-Null c.in_default.not-Assets c.in_default.not-PalletsInfo says in
    took_rest c.args.rows.now.rest.now rest said c.put_text.result c.args.out.now c.put_text.new.out (e ∙ ap (λ t. t ++ rest) a.1) (c.put_text.ensures said a.0)
