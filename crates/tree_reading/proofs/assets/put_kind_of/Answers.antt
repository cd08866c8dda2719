use Rattle.std.proofs.Common.{refl}
use Rattle.asset_lists.specs.declared.filters.WildFun.{WildFun}
use Rattle.std.specs.Prelude.{⊤}
use Rattle.asset_wire.specs.Spelling.{asset_id, wild_fun}
use Rattle.message_text.specs.Words.{id_text, wild_fun_text}
use Rattle.tree_reading.specs.Assets.{FitsKindOf, kind_of_text, kind_of_spelling}
use Rattle.tree_reading.proofs.Bytes.{bytes_front, bytes_back}
use Rattle.tree_reading.proofs.Behind.{put_behind}
use Rattle.tree_reading.proofs.AssetParts.{solid_id}
use Rattle.tree_reading.proofs.assets.put_kind_of.Goals as goal

pub returns-in_default : goal.returns-in_default
returns-in_default c = λ x fits bytes e.
    let v = c.args.version in
    absurd (rw c.in_default.is at (c.at_space.ensures (id_text x.0) (wild_fun_text x.1) (solid_id v x.0 fits (bytes_front (asset_id v x.0) (wild_fun x.1) bytes)) e))

pub returns-then-not-done : goal.returns-then-not-done
returns-then-not-done c = λ x fits bytes e.
    let v = c.args.version in
    let all = bytes_front (asset_id v x.0) (wild_fun x.1) bytes in
    let cut = rw c.in-Some.is at (c.at_space.ensures (id_text x.0) (wild_fun_text x.1) (solid_id v x.0 fits all) e) in
    let put = c.in_ok-done.ensures x.0 fits all cut.0 in
    absurd (cc (put.0, c.if-not-done.true))

pub returns : goal.returns
returns c =
    let v = c.args.version in
    put_behind (FitsKindOf v) kind_of_text (kind_of_spelling v) (λ (k : WildFun). ⊤) wild_fun_text wild_fun c.args.text.now c.in-Some.fun.now c.put_wild_fun.result c.args.out.now c.put_id.new.out c.put_wild_fun.new.out
    (λ x fits bytes e.
    let all = bytes_front (asset_id v x.0) (wild_fun x.1) bytes in
    let cut = rw c.in-Some.is at (c.at_space.ensures (id_text x.0) (wild_fun_text x.1) (solid_id v x.0 fits all) e) in
    let put = c.in_ok-done.ensures x.0 fits all cut.0 in
    record { value = x.1; fits = tt; bytes = bytes_back (asset_id v x.0) (wild_fun x.1) bytes; words = cut.1; front = asset_id v x.0; put = put.1; spelled = refl })
    c.put_wild_fun.ensures
