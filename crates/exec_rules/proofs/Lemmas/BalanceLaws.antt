-- Lemmas that proofs cite, in this crate and above it: what an instruction leaves of a balance. A reader of the contracts may skip this file.
use Rattle.std.proofs.Common.{◌≡◌, ⊎_elim, ℕ, ◌+◌, ◌<◌, ◌≤◌, ◌^◌, List, [], ◌∷◌, Bool, true, false, ◌&&◌, Option, Some, None, refl, sym, ap, subst, arith}
use Rattle.std.specs.Prelude.{if◌then◌else◌}
use Rattle.operands.specs.declared.weight.Weight.{Weight}
use Rattle.xcm_program.specs.declared.rule.WeightRule.{WeightRule}
use Rattle.xcm_program.specs.declared.instruction.Instruction.{Instruction, out-Instruction}
use Rattle.xcm_program.specs.declared.instruction.Instruction.TheOpen.{Instruction-F}
use Rattle.xcm_program.specs.Measure.{deep_count_one, deep_count}
use Rattle.xcm_program.specs.Weights.{kept, required, kept_one, kept_count, weight_one, weight_in, ref_time_of, proof_size_of, weight_of}
use Rattle.exec_base.specs.declared.registers.Registers.{Registers}
use Rattle.operands.specs.Weights.{IsWithin}
use Rattle.weight_trader.specs.Purchases.{no_weight}
use Rattle.weight_trader.specs.Sums.{weight_sum}
use Rattle.exec_rules.specs.Machine.{weight_added, Control, control_of, Steers}
use Rattle.exec_rules.specs.Accounts.{BalancesIn, Balances, ref_time, proof_size, freed, HasWeight, IsAffordable}
use Rattle.xcm_program.proofs.Lemmas.{total_of, total_inside, kept_one-is, weight_one-is, deep_count_one-kept}
use Rattle.plain_lists.proofs.Lemmas.Facts.{at_most_told as at_most, below_told as below}

abbrev itself : List Instruction → List Instruction
itself p = p

-- ---- one dimension
module _ (dimension : Weight → ℕ) (adds : (v w : Weight) → dimension (weight_added v w) ≡ dimension v + dimension w) (sums : (rule : WeightRule) (p : List Instruction) → dimension (weight_sum rule p) ≡ weight_in dimension (dimension rule.unit) p)
    (within : (v w : Weight) → IsWithin v w → dimension v ≤ dimension w) (none : dimension no_weight ≡ 0) where
  abbrev weighs : Control → Instruction → ℕ
  weighs c = weight_one dimension (dimension c.rule.unit)

  nothing_done : (most w behind : ℕ) (c d : Control) → d ≡ c → BalancesIn dimension most (w + behind) c → BalancesIn dimension most behind d
  nothing_done most w behind c d e b = subst (BalancesIn dimension most behind) (sym e) (record { handler = b.handler; appendix = b.appendix; within = omega (arith, b.within); refunded = b.refunded })

  -- an instruction of weight w
  spend : (l : Instruction-F Instruction) (most w behind : ℕ) (c d : Control) → w ≡ dimension c.rule.unit + dimension (required l) + total_inside (weighs c) (kept l) → Steers itself l c d → BalancesIn dimension most (w + behind) c
      → BalancesIn dimension most behind d
  spend (Instruction-F.SetErrorHandler xcm) most w behind c d is e b = subst (BalancesIn dimension most behind) (sym e) (record {
    handler = sums c.rule xcm;
    appendix = b.appendix;
    within = let a = adds c.surplus c.handler_weight in let s = sums c.rule xcm in omega (arith, b.within, is, a, s);
    refunded = let a = adds c.surplus c.handler_weight in omega (arith, b.refunded, a);
  })
  spend (Instruction-F.SetAppendix xcm) most w behind c d is e b = subst (BalancesIn dimension most behind) (sym e) (record {
    handler = b.handler;
    appendix = sums c.rule xcm;
    within = let a = adds c.surplus c.appendix_weight in let s = sums c.rule xcm in omega (arith, b.within, is, a, s);
    refunded = let a = adds c.surplus c.appendix_weight in omega (arith, b.refunded, a);
  })
  spend Instruction-F.RefundSurplus most w behind c d is e b = ⊎_elim (λ f. nothing_done most w behind c d f b)
      (λ f. subst (BalancesIn dimension most behind) (sym f) (record { handler = b.handler; appendix = b.appendix; within = omega (arith, b.within); refunded = omega arith })) e
  spend (Instruction-F.Transact kind at_most call) most w behind c d is e b = subst (BalancesIn dimension most behind) (sym e.2) (record {
    handler = b.handler;
    appendix = b.appendix;
    within = let a = adds c.surplus e.0 in let s = within e.0 at_most e.1 in omega (arith, b.within, is, a, s);
    refunded = let a = adds c.surplus e.0 in omega (arith, b.refunded, a);
  })
  spend _ most w behind c d is e b = nothing_done most w behind c d e b

  -- the rest of a program is given up, and what it weighs is surplus
  gives_up : (most ahead : ℕ) (c : Control) (v : Weight) → dimension v ≤ ahead → BalancesIn dimension most ahead c → BalancesIn dimension most 0 (record c { surplus = weight_added c.surplus v })
  gives_up most ahead c v le b = record {
    handler = b.handler;
    appendix = b.appendix;
    within = let a = adds c.surplus v in omega (arith, b.within, a, le);
    refunded = let a = adds c.surplus v in omega (arith, b.refunded, a);
  }

  takes_handler : (most : ℕ) (c : Control) → BalancesIn dimension most 0 c → BalancesIn dimension most (weight_in dimension (dimension c.rule.unit) c.handler) (record c { handler = []; handler_weight = no_weight })
  takes_handler most c b = record { handler = none; appendix = b.appendix; within = omega (arith, b.within, b.handler, none); refunded = b.refunded }

  drops_handler : (most : ℕ) (c : Control) → BalancesIn dimension most 0 c → BalancesIn dimension most 0 (record c { handler = []; handler_weight = no_weight; surplus = weight_added c.surplus c.handler_weight })
  drops_handler most c b = record {
    handler = none;
    appendix = b.appendix;
    within = let a = adds c.surplus c.handler_weight in omega (arith, b.within, a, none);
    refunded = let a = adds c.surplus c.handler_weight in omega (arith, b.refunded, a);
  }

  takes_appendix : (most : ℕ) (c : Control) → BalancesIn dimension most 0 c → BalancesIn dimension most (weight_in dimension (dimension c.rule.unit) c.appendix) (record c { appendix = []; appendix_weight = no_weight })
  takes_appendix most c b = record { handler = b.handler; appendix = none; within = omega (arith, b.within, b.appendix, none); refunded = b.refunded }

  -- what an instruction adds fits
  freed_fits : (l : Instruction-F Instruction) (most w behind : ℕ) (c : Control) → w ≡ dimension c.rule.unit + dimension (required l) + total_inside (weighs c) (kept l) → BalancesIn dimension most (w + behind) c
      → dimension c.surplus + dimension (freed l c) ≤ most
  freed_fits (Instruction-F.SetErrorHandler xcm) most w behind c is b = omega (arith, b.within)
  freed_fits (Instruction-F.SetAppendix xcm) most w behind c is b = omega (arith, b.within)
  freed_fits _ most w behind c is b = omega (arith, b.within, is)

-- ---- a count
module _ (one : Instruction → ℕ) where
  abbrev pub kept_by : Control → ℕ
  kept_by c = total_of one c.handler + total_of one c.appendix

  same_kept : (n : ℕ) (c d : Control) → d ≡ c → n + 1 + kept_by d ≤ n + 1 + kept_by c
  same_kept n c d e = subst (λ (d : Control). n + 1 + kept_by d ≤ n + 1 + kept_by c) (sym e) (omega arith)

  pub counts : (l : Instruction-F Instruction) (w behind : ℕ) (c d : Control) → 1 + total_inside one (kept l) ≤ w → Steers itself l c d → behind + 1 + kept_by d ≤ w + behind + kept_by c
  counts (Instruction-F.SetErrorHandler xcm) w behind c d is e = subst (λ (d : Control). behind + 1 + kept_by d ≤ w + behind + kept_by c) (sym e) (omega (arith, is))
  counts (Instruction-F.SetAppendix xcm) w behind c d is e = subst (λ (d : Control). behind + 1 + kept_by d ≤ w + behind + kept_by c) (sym e) (omega (arith, is))
  counts Instruction-F.RefundSurplus w behind c d is e = ⊎_elim (λ f. subst (λ (d : Control). behind + 1 + kept_by d ≤ w + behind + kept_by c) (sym f) (omega (arith, is))) (λ f. subst (λ (d : Control). behind + 1 + kept_by d ≤ w + behind + kept_by c) (sym f) (omega (arith, is))) e
  counts (Instruction-F.Transact kind at_most call) w behind c d is e = subst (λ (d : Control). behind + 1 + kept_by d ≤ w + behind + kept_by c) (sym e.2) (omega (arith, is))
  counts _ w behind c d is e = let s = same_kept behind c d e in omega (arith, s, is)

-- ---- both dimensions and both counts

steered_rule : (l : Instruction-F Instruction) (c d : Control) → Steers itself l c d → d.rule ≡ c.rule
steered_rule (Instruction-F.SetErrorHandler xcm) c d e = ap (λ (k : Control). k.rule) e
steered_rule (Instruction-F.SetAppendix xcm) c d e = ap (λ (k : Control). k.rule) e
steered_rule Instruction-F.RefundSurplus c d e = ⊎_elim (λ f. ap (λ (k : Control). k.rule) f) (λ f. ap (λ (k : Control). k.rule) f) e
steered_rule (Instruction-F.Transact kind at_most call) c d e = ap (λ (k : Control). k.rule) e.2
steered_rule _ c d e = ap (λ (k : Control). k.rule) e

-- an instruction ran, and these are still_to_run
pub ran_balances : (most : Weight) (x : Instruction) (behind : List Instruction) (c d : Control) → Steers itself (out-Instruction x) c d → Balances most (x ∷ behind) c → Balances most behind d
ran_balances most x behind c d e b =
    let rule = steered_rule (out-Instruction x) c d e in
    let k = counts kept_one (out-Instruction x) (kept_one x) (kept_count behind) c d (omega (arith, kept_one-is x)) e in
    let f = counts deep_count_one (out-Instruction x) (deep_count_one x) (deep_count behind) c d (deep_count_one-kept x) e in
    record {
      in_time = subst (λ (r : WeightRule). BalancesIn ref_time most.ref_time (ref_time_of r behind) d) (sym rule)
          (spend ref_time (λ v w. refl) (λ r p. refl) (λ v w h. h.ref_time) refl (out-Instruction x) most.ref_time (weight_one ref_time c.rule.unit.ref_time x) (ref_time_of c.rule behind) c d (weight_one-is ref_time c.rule.unit.ref_time x) e b.in_time);
      in_size = subst (λ (r : WeightRule). BalancesIn proof_size most.proof_size (proof_size_of r behind) d) (sym rule)
          (spend proof_size (λ v w. refl) (λ r p. refl) (λ v w h. h.proof_size) refl (out-Instruction x) most.proof_size (weight_one proof_size c.rule.unit.proof_size x) (proof_size_of c.rule behind) c d (weight_one-is proof_size c.rule.unit.proof_size x) e b.in_size);
      counted = let m = ap (λ (r : WeightRule). r.max_instructions) rule in omega (arith, k, b.counted, m);
      few = omega (arith, f, b.few);
      short = b.short;
      small = b.small;
    }

-- an instruction failed, and those after it are given up
pub failed_balances : (most : Weight) (x : Instruction) (behind : List Instruction) (c : Control) → Balances most (x ∷ behind) c → Balances most [] (record c { surplus = weight_added c.surplus (weight_sum c.rule behind) })
failed_balances most x behind c b = record {
  in_time = gives_up ref_time (λ v w. refl) (λ r p. refl) (λ v w h. h.ref_time) refl most.ref_time _ c (weight_sum c.rule behind) (omega arith) b.in_time;
  in_size = gives_up proof_size (λ v w. refl) (λ r p. refl) (λ v w h. h.proof_size) refl most.proof_size _ c (weight_sum c.rule behind) (omega arith) b.in_size;
  counted = omega (arith, b.counted);
  few = omega (arith, b.few);
  short = b.short;
  small = b.small;
}

pub handler_balances : (most : Weight) (c : Control) → Balances most [] c → Balances most c.handler (record c { handler = []; handler_weight = no_weight })
handler_balances most c b = record {
  in_time = takes_handler ref_time (λ v w. refl) (λ r p. refl) (λ v w h. h.ref_time) refl most.ref_time c b.in_time;
  in_size = takes_handler proof_size (λ v w. refl) (λ r p. refl) (λ v w h. h.proof_size) refl most.proof_size c b.in_size;
  counted = omega (arith, b.counted);
  few = omega (arith, b.few);
  short = b.short;
  small = b.small;
}

pub dropped_balances : (most : Weight) (c : Control) → Balances most [] c → Balances most [] (record c { handler = []; handler_weight = no_weight; surplus = weight_added c.surplus c.handler_weight })
dropped_balances most c b = record {
  in_time = drops_handler ref_time (λ v w. refl) (λ r p. refl) (λ v w h. h.ref_time) refl most.ref_time c b.in_time;
  in_size = drops_handler proof_size (λ v w. refl) (λ r p. refl) (λ v w h. h.proof_size) refl most.proof_size c b.in_size;
  counted = omega (arith, b.counted);
  few = omega (arith, b.few);
  short = b.short;
  small = b.small;
}

pub appendix_balances : (most : Weight) (c : Control) → Balances most [] c → Balances most c.appendix (record c { appendix = []; appendix_weight = no_weight })
appendix_balances most c b = record {
  in_time = takes_appendix ref_time (λ v w. refl) (λ r p. refl) (λ v w h. h.ref_time) refl most.ref_time c b.in_time;
  in_size = takes_appendix proof_size (λ v w. refl) (λ r p. refl) (λ v w h. h.proof_size) refl most.proof_size c b.in_size;
  counted = omega (arith, b.counted);
  few = omega (arith, b.few);
  short = b.short;
  small = b.small;
}

-- ---- what an instruction may rely on

if_three : (a b c : Bool) (w : Weight) → a ≡ true → b ≡ true → c ≡ true → (if a && b && c then Some w else None) ≡ Some w
if_three true true true w x y z = refl
if_three true true false w x y z = absurd (cc)
if_three true false c w x y z = absurd (cc)
if_three false b c w x y z = absurd (cc)

pub weight_of_sum : (rule : WeightRule) (p : List Instruction) → kept_count p ≤ rule.max_instructions → ref_time_of rule p < 2 ^ 64 → proof_size_of rule p < 2 ^ 64 → weight_of rule p ≡ Some (weight_sum rule p)
unfolding weight_of
weight_of_sum rule p few short small = if_three _ _ _ _ (at_most _ _ few) (below _ _ short) (below _ _ small)

pub has_weight : (rule : WeightRule) (o : Option (List Instruction)) → total_inside kept_one o ≤ rule.max_instructions → total_inside (weight_one ref_time rule.unit.ref_time) o < 2 ^ 64 → total_inside (weight_one proof_size rule.unit.proof_size) o < 2 ^ 64
    → total_inside deep_count_one o < 2 ^ 32 → HasWeight rule o
has_weight rule None few short small n = tt
has_weight rule (Some p) few short small n = (weight_of_sum rule p few short small, n)

pub affordable : (most : Weight) (x : Instruction) (behind : List Instruction) (r : Registers) → Balances most (x ∷ behind) (control_of r) → IsAffordable x r
affordable most x behind r b =
    let k = kept_one-is x in
    let n = deep_count_one-kept x in
    let t = weight_one-is ref_time r.rule.unit.ref_time x in
    let z = weight_one-is proof_size r.rule.unit.proof_size x in
    let a = freed_fits ref_time (λ v w. refl) (λ r p. refl) (λ v w h. h.ref_time) refl (out-Instruction x) most.ref_time (weight_one ref_time r.rule.unit.ref_time x) (ref_time_of r.rule behind) (control_of r) t b.in_time in
    let s = freed_fits proof_size (λ v w. refl) (λ r p. refl) (λ v w h. h.proof_size) refl (out-Instruction x) most.proof_size (weight_one proof_size r.rule.unit.proof_size x) (proof_size_of r.rule behind) (control_of r) z b.in_size in
    record {
      refunded = record { ref_time = b.in_time.refunded; proof_size = b.in_size.refunded };
      weighs = has_weight r.rule _ (omega (arith, b.counted, k)) (omega (arith, b.in_time.within, b.short, t)) (omega (arith, b.in_size.within, b.small, z)) (omega (arith, b.few, n));
      short = omega (arith, a, b.short);
      small = omega (arith, s, b.small);
    }
