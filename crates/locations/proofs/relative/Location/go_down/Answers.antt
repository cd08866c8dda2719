use Rattle.std.proofs.Common.{◌≡◌, ◌∙◌, ◌≤◌, ◌-◌, ◌++◌, subst, sym, ap, length, length-append, take, replicate, arith, rules, refl}
use Rattle.std.specs.Prelude.{min}
use Rattle.std.proofs.lemmas.List.{take-replicate}
use Rattle.locations.specs.declared.grammar.Junction.TheVariants.{OnlyChild}
use Rattle.locations.specs.Chains.{last}
use Rattle.locations.proofs.WaysDown.{way_made}
use Rattle.locations.proofs.relative.Location.go_down.Goals as goal

pub returns : goal.returns
returns c =
    let target = c.args.target.now in
    let own = c.args.self.now in
    let known : c.last-known.result.now ≡ last target.parents c.args.context.now = search rules in
    let blanks : c.min-blanks.result ≡ min (target.parents - own.parents) (target.parents - length c.last-known.result.now) = search rules in
    let within : c.min-blanks.result ≤ 8 = omega (arith, blanks, c.requires.near) in
    let front : c.set_unknown.new.self ≡ take c.min-blanks.result (replicate 8 OnlyChild) = c.set_unknown.ensures ∙ sym (take-replicate c.min-blanks.result 8 OnlyChild within) in
    let pushed : c.extend.new.self ≡ c.set_unknown.new.self ++ take (target.parents - own.parents - c.min-blanks.result) c.last-known.result.now = search rules in
    let way = pushed ∙ ap (λ xs. xs ++ take (target.parents - own.parents - c.min-blanks.result) c.last-known.result.now) front in
    let made = way_made own target c.args.context.now c.last-known.result.now c.extend.new.self c.min-blanks.result c.requires.near known blanks way in
    let joined : c.append.new.self ≡ c.extend.new.self ++ own.interior = search rules in
    let few : length (c.extend.new.self ++ own.interior) ≤ 8 = let all = length-append c.extend.new.self own.interior in omega (arith, all, c.in_ok-append.ensures.room.0 refl) in
    (subst (λ w. length w ≤ 8) made few, joined ∙ made)
