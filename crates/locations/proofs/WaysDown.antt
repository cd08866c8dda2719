-- The way down from the highest point that a target reaches is put together from `OnlyChild` junctions, what is known of the context, and the location's own.
use Rattle.std.proofs.Common.{◌≡◌, sym, ap, ◌∙◌, ℕ, ◌+◌, ◌-◌, ◌≤◌, List, ◌++◌, length, take, replicate, append-nil, arith, inl, inr}
use Rattle.std.specs.Prelude.{min}
use Rattle.std.proofs.Math.Seq.{take-append-add}
use Rattle.std.proofs.lemmas.Bool.{cases_lt}
use Rattle.std.proofs.lemmas.List.{length-replicate, length-drop, take-append-le, take-replicate}
use Rattle.locations.specs.declared.grammar.Junction.{Junction}
use Rattle.locations.specs.declared.grammar.Junction.TheVariants.{OnlyChild}
use Rattle.locations.specs.declared.relative.Location.{Location}
use Rattle.locations.specs.Chains.{last}
use Rattle.locations.specs.Reanchoring.{way_down}

-- the first so many of a list of `OnlyChild` followed by what is known
first_known : (missing above : ℕ) (known : List Junction) → missing ≤ 8
    → take (min above missing) (replicate 8 OnlyChild) ++ take (above - min above missing) known ≡ take above (replicate missing OnlyChild ++ known)
first_known missing above known few =
    let blanks : length (replicate missing OnlyChild) ≡ missing = length-replicate missing OnlyChild in
    elim (cases_lt above missing) [
      | inl short ↦
          let least : min above missing ≡ above = omega (arith, short) in
          let none : above - above ≡ 0 = omega arith in
          ap (λ n. take n (replicate 8 OnlyChild) ++ take (above - n) known) least
          ∙ ap (λ n. take above (replicate 8 OnlyChild) ++ take n known) none
          ∙ append-nil (take above (replicate 8 OnlyChild))
          ∙ take-replicate above 8 OnlyChild (omega (arith, short, few))
          ∙ sym (take-append-le above (replicate missing OnlyChild) known (omega (arith, short, blanks)) ∙ take-replicate above missing OnlyChild (omega (arith, short)))
      | inr long ↦
          let least : min above missing ≡ missing = omega (arith, long) in
          let all : above ≡ length (replicate missing OnlyChild) + (above - missing) = omega (arith, blanks, long) in
          ap (λ n. take n (replicate 8 OnlyChild) ++ take (above - n) known) least
          ∙ ap (λ front. front ++ take (above - missing) known) (take-replicate missing 8 OnlyChild few)
          ∙ sym (ap (λ n. take n (replicate missing OnlyChild ++ known)) all ∙ take-append-add (replicate missing OnlyChild) known (above - missing))
    ]

-- from what the calls answered, one equation each
pub way_made : (l target : Location) (context known way : List Junction) (blanks : ℕ) → target.parents ≤ 8 → known ≡ last target.parents context
    → blanks ≡ min (target.parents - l.parents) (target.parents - length known)
    → way ≡ take blanks (replicate 8 OnlyChild) ++ take (target.parents - l.parents - blanks) known → way ++ l.interior ≡ way_down l target context
way_made l target context known way blanks near is_known is_blanks is_way =
    let above = target.parents - l.parents in
    let missing : target.parents - length known ≡ target.parents - length context =
    let e : length known ≡ length (last target.parents context) = ap length is_known in
    omega (arith, e, length-drop (length context - target.parents) context) in
    ap (λ w. w ++ l.interior)
    (is_way
    ∙ (λ i. take (is_blanks i) (replicate 8 OnlyChild) ++ take (above - is_blanks i) known)
    ∙ ap (λ m. take (min above m) (replicate 8 OnlyChild) ++ take (above - min above m) known) missing
    ∙ first_known (target.parents - length context) above known (omega (arith, near))
    ∙ ap (λ k. take above (replicate (target.parents - length context) OnlyChild ++ k)) is_known)
