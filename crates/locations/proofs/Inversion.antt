-- The interior that `invert_target` puts together is the one of the rule.
use Rattle.std.proofs.Common.{◌≡◌, ap, ◌∙◌, subst, ℕ, ◌-◌, ◌≤◌, List, ◌++◌, length, take, replicate, arith}
use Rattle.std.proofs.lemmas.List.{take-replicate}
use Rattle.locations.specs.declared.grammar.Junction.{Junction}
use Rattle.locations.specs.declared.grammar.Junction.TheVariants.{OnlyChild}
use Rattle.locations.specs.declared.relative.Location.{Location}
use Rattle.locations.specs.Chains.{last}
use Rattle.locations.specs.Steps.{last_known, inverted}

-- with at most eight `OnlyChild` to take from
known_with_blanks : (n : ℕ) (context : List Junction) → n ≤ 8
    → take (n - length context) (replicate 8 OnlyChild) ++ last n context ≡ last_known n context
known_with_blanks n context few =
    ap (λ front. front ++ last n context) (take-replicate (n - length context) 8 OnlyChild (omega (arith, few)))

-- from what the calls answered, one equation each
pub made_inverted : (context : List Junction) (target : Location) (wanted missing parents : ℕ) (known end interior : List Junction)
    → wanted ≡ target.parents → known ≡ context → missing ≡ wanted - length known → end ≡ last wanted known → wanted ≤ 8
    → interior ≡ take missing (replicate 8 OnlyChild) ++ end → parents ≡ length target.interior
    → (let made : Location = record { parents = parents; interior = interior } in made ≡ inverted context target)
made_inverted context target wanted missing parents known end interior is_wanted is_known is_missing is_end few is_interior is_parents =
    let whole : interior ≡ last_known target.parents context =
    is_interior
    ∙ (λ i. take (is_missing i) (replicate 8 OnlyChild) ++ is_end i)
    ∙ (λ i. take (is_wanted i - length (is_known i)) (replicate 8 OnlyChild) ++ last (is_wanted i) (is_known i))
    ∙ known_with_blanks target.parents context (subst (λ n. n ≤ 8) is_wanted few) in
    λ i. record { parents = is_parents i; interior = whole i }
