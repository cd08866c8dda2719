-- Steps that are drawn and run one after another.
use Rattle.std.proofs.Common.{◌≡◌, ◌∙◌, ◌+◌, ◌-◌, ◌<◌, ℕ, zero, suc, Bool, cond, List, [], ◌∷◌, length, refl, sym, ap, subst, arith}
use Rattle.std.specs.Prelude.{count_by}
use Rattle.std.proofs.lemmas.List.Sums.{sum_by-cons}
use Rattle.network_steps.specs.declared.step_result.StepResult.{StepResult}
use Rattle.network_steps.specs.declared.step_result.StepResult.TheVariants.{Ran, Empty, NoSuchChain, NoSuchChannel, SovereignCaller, Message, NotAClaim, Sent, Unsent}
use Rattle.xcm_program.specs.declared.outcome.Outcome.TheVariants.{Complete, Incomplete, Error}
use Rattle.network_steps.specs.Worlds.{World}
use Rattle.network_steps.specs.Steps.{Step, Link, next_world, last_world}
use Rattle.generator.specs.declared.counts.Counts.{Counts}
use Rattle.generator.specs.declared.turns.Turn.{Turn}
use Rattle.generator.specs.Turns.{drawn, step_of_turn, steps_from}
use Rattle.generator.specs.Results.{is_complete, is_incomplete, is_error, is_empty}
use Rattle.generator.specs.Generated.{answer_to_step, answers, counts_of, all_steps}

abbrev pub one : Bool → ℕ
one b = cond b 1 0

-- each answer is counted once
pub one_kind : (a : StepResult) → one (is_complete a) + one (is_incomplete a) + one (is_error a) + one (is_empty a) ≡ 1
one_kind (Ran (Complete used)) = refl
one_kind (Ran (Incomplete used error)) = refl
one_kind (Ran (Error error)) = refl
one_kind Empty = refl
one_kind NoSuchChain = refl
one_kind NoSuchChannel = refl
one_kind SovereignCaller = refl
one_kind (Message fault) = refl
one_kind NotAClaim = refl
one_kind (Sent number) = refl
one_kind (Unsent error) = refl

-- the answer is counted, in one count
pub record Counted (a : StepResult) (before now : Counts) : Type 0 where
  pub complete : now.complete ≡ before.complete + one (is_complete a)
  pub incomplete : now.incomplete ≡ before.incomplete + one (is_incomplete a)
  pub error : now.error ≡ before.error + one (is_error a)
  pub empty : now.empty ≡ before.empty + one (is_empty a)

pub counted_total : (a : StepResult) (before now : Counts) → Counted a before now → all_steps now ≡ all_steps before + 1
counted_total a before now c = omega (arith, c.complete, c.incomplete, c.error, c.empty, one_kind a)

-- what is counted, and what comes yet, are the answers of all steps; and the world goes on to the same last one
pub record Goes (order : List Link) (start : World) (steps : List Step) (c : Counts) (now : World) (rest : List Step) : Type 0 where
  pub complete : count_by is_complete (answers order start steps) ≡ c.complete + count_by is_complete (answers order now rest)
  pub incomplete : count_by is_incomplete (answers order start steps) ≡ c.incomplete + count_by is_incomplete (answers order now rest)
  pub error : count_by is_error (answers order start steps) ≡ c.error + count_by is_error (answers order now rest)
  pub empty : count_by is_empty (answers order start steps) ≡ c.empty + count_by is_empty (answers order now rest)
  pub world : last_world order start steps ≡ last_world order now rest

-- nothing is counted yet
pub goes_first : (order : List Link) (start : World) (steps : List Step) (c : Counts) → c.complete ≡ 0 → c.incomplete ≡ 0 → c.error ≡ 0 → c.empty ≡ 0 → Goes order start steps c start steps
goes_first order start steps c e f g h = record {
  complete = omega (arith, e);
  incomplete = omega (arith, f);
  error = omega (arith, g);
  empty = omega (arith, h);
  world = refl;
}

-- an answer more is counted
one_more : (p : StepResult → Bool) (a : StepResult) (rest : List StepResult) (whole before now : ℕ) → whole ≡ before + count_by p (a ∷ rest) → now ≡ before + one (p a) → whole ≡ now + count_by p rest
one_more p a rest whole before now e f = omega (arith, e, f, sum_by-cons (λ x. one (p x)) a rest)

-- one more step
goes_step : (order : List Link) (start : World) (steps : List Step) (c d : Counts) (now : World) (step : Step) (rest : List Step) → Goes order start steps c now (step ∷ rest)
    → Counted (answer_to_step now step) c d → Goes order start steps d (next_world order now step) rest
goes_step order start steps c d now step rest g k =
    let behind = answers order (next_world order now step) rest in
    record {
      complete = one_more is_complete (answer_to_step now step) behind _ _ _ g.complete k.complete;
      incomplete = one_more is_incomplete (answer_to_step now step) behind _ _ _ g.incomplete k.incomplete;
      error = one_more is_error (answer_to_step now step) behind _ _ _ g.error k.error;
      empty = one_more is_empty (answer_to_step now step) behind _ _ _ g.empty k.empty;
      world = g.world;
    }

-- the steps that come yet, with the first of them apart
one_drawn : (left more x : ℕ) → left ≡ suc more → steps_from left x ≡ step_of_turn (drawn x).1 ∷ steps_from more (drawn x).0
unfolding steps_from
one_drawn left more x e = ap (λ n. steps_from n x) e

goes_on : (order : List Link) (start : World) (steps : List Step) (c d : Counts) (now : World) (left more x : ℕ) → left ≡ suc more → Goes order start steps c now (steps_from left x)
    → Counted (answer_to_step now (step_of_turn (drawn x).1)) c d → Goes order start steps d (next_world order now (step_of_turn (drawn x).1)) (steps_from more (drawn x).0)
goes_on order start steps c d now left more x e g k =
    goes_step order start steps c d now _ _ (subst (λ rest. Goes order start steps c now rest) (one_drawn left more x e) g) k

-- a turn was drawn, and run
pub record Taken (order : List Link) (now next : World) (x y : ℕ) (turn : Turn) (answer : StepResult) : Type 0 where
  pub drew : turn ≡ (drawn x).1
  pub state : y ≡ (drawn x).0
  pub told : answer ≡ answer_to_step now (step_of_turn turn)
  pub world : next ≡ next_world order now (step_of_turn turn)

pub goes_taken : (order : List Link) (start : World) (steps : List Step) (c d : Counts) (now next : World) (all done x y : ℕ) (turn : Turn) (answer : StepResult) → done < all
    → Goes order start steps c now (steps_from (all - done) x) → Taken order now next x y turn answer → Counted answer c d → Goes order start steps d next (steps_from (all - (done + 1)) y)
goes_taken order start steps c d now next all done x y turn answer lt g t k =
    let left : all - done ≡ suc (all - (done + 1)) = omega (arith, lt) in
    let same : answer ≡ answer_to_step now (step_of_turn (drawn x).1) = t.told ∙ ap (λ m. answer_to_step now (step_of_turn m)) t.drew in
    let there : next ≡ next_world order now (step_of_turn (drawn x).1) = t.world ∙ ap (λ m. next_world order now (step_of_turn m)) t.drew in
    let on = goes_on order start steps c d now _ (all - (done + 1)) x left g (subst (λ a. Counted a c d) same k) in
    subst (λ z. Goes order start steps d next (steps_from (all - (done + 1)) z)) (sym t.state) (subst (λ w. Goes order start steps d w (steps_from (all - (done + 1)) (drawn x).0)) (sym there) on)

none_drawn : (left x : ℕ) → left ≡ 0 → steps_from left x ≡ []
unfolding steps_from
none_drawn left x e = ap (λ n. steps_from n x) e

counts_same : (c d : Counts) → c.complete ≡ d.complete → c.incomplete ≡ d.incomplete → c.error ≡ d.error → c.empty ≡ d.empty → c ≡ d
counts_same c d e f g h =
    ap (λ n. record c { complete = n }) e ∙ ap (λ n. record c { complete = d.complete; incomplete = n }) f ∙ ap (λ n. record c { complete = d.complete; incomplete = d.incomplete; error = n }) g
    ∙ ap (λ n. record d { empty = n }) h

-- all steps were taken
pub goes_end : (order : List Link) (start : World) (steps : List Step) (c : Counts) (now : World) (left x : ℕ) → left ≡ 0 → Goes order start steps c now (steps_from left x)
    → (c ≡ counts_of (answers order start steps)) × (now ≡ last_world order start steps)
goes_end order start steps c now left x none g =
    let end = subst (λ rest. Goes order start steps c now rest) (none_drawn left x none) g in
    (counts_same c (counts_of (answers order start steps)) (omega (arith, end.complete)) (omega (arith, end.incomplete)) (omega (arith, end.error)) (omega (arith, end.empty)), sym end.world)

-- ---- each step is counted once

four : (a : StepResult) (rest : List StepResult) → all_steps (counts_of (a ∷ rest)) ≡ all_steps (counts_of rest) + 1
four a rest =
    omega (
      arith,
      one_kind a,
      sum_by-cons (λ x. one (is_complete x)) a rest,
      sum_by-cons (λ x. one (is_incomplete x)) a rest,
      sum_by-cons (λ x. one (is_error x)) a rest,
      sum_by-cons (λ x. one (is_empty x)) a rest,
    )

all_counted : (order : List Link) (w : World) (steps : List Step) → all_steps (counts_of (answers order w steps)) ≡ length steps
all_counted order w [] = refl
all_counted order w (step ∷ steps) =
    omega (arith, four (answer_to_step w step) (answers order (next_world order w step) steps), all_counted order (next_world order w step) steps)

so_many : (count x : ℕ) → length (steps_from count x) ≡ count
unfolding steps_from
so_many zero x = refl
so_many (suc count) x = omega (arith, so_many count (drawn x).0)

pub all_drawn_counted : (order : List Link) (w : World) (number steps : ℕ) → all_steps (counts_of (answers order w (steps_from steps number))) ≡ steps
all_drawn_counted order w number steps = all_counted order w (steps_from steps number) ∙ so_many steps number
