use Rattle.std.proofs.Common.{◌≡◌, Option, Some, None, sym, ◌∙◌}
use Rattle.network_steps.specs.Steps.{Link}
use Rattle.network_steps.specs.Worlds.{World}
use Rattle.law_independence.specs.Acts.{Act, takes_from}
use Rattle.law_independence.specs.Freedom.{TakesFreely}
use Rattle.law_independence.proofs.laws.law_of_local_acts.Goals as goal

nothing_taken : (o : Option Link) (link : Link) → o ≡ None → o ≡ Some link → ⊥
nothing_taken o link none some = let e : None ≡ Some link = sym none ∙ some in cc

takes_nothing : (w : World) (s t : Act) → takes_from s ≡ None → TakesFreely w s t
takes_nothing w s t none = λ to some. absurd (nothing_taken (takes_from s) _ none some)

pub returns : goal.returns
returns c = record { free = λ w s t apart none_s none_t. c.law_of_independence.ensures.free w s t apart (takes_nothing w s t none_s) (takes_nothing w t s none_t) }
