use Rattle.std.proofs.Common.{[], ◌∷◌, ◌++◌, refl}
use Rattle.tree_reading.proofs.Following.{took_as, took_rest}
use Rattle.tree_reading.proofs.fields.put_filter.Goals as goal

pub returns-clause-wild : goal.returns-clause-wild
returns-clause-wild c = λ value said rest are says e.
    let t = c.in_ok-words.ensures.found (c.args.name.now ++ 32 ∷ value) rest are e in
    took_as rest (1 ∷ []) said (1 ∷ said) c.put_value.result c.take.new.self.rest.now c.args.out.now c.put_u8-2.new.self c.put_value.new.out refl c.in_ok-put_u8-2.ensures.ok
    (took_rest c.take.new.self.rest.now rest said c.put_value.result c.put_u8-2.new.self c.put_value.new.out t.1 (c.put_value.ensures value said t.0 says))
