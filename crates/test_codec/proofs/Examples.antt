-- That the programs of the tests can be written.
use denote.Hole.Carrier
use Rattle.std.proofs.Common.{◌≡◌, ◌<◌, ◌≤◌, ◌^◌, ◌+◌, ◌∙◌, ℕ, List, [], ◌∷◌, ◌++◌, length, get_or, refl, sym, ap, subst, arith}
use Rattle.std.specs.List.{AllByRecursion}
use Rattle.operands.specs.declared.version.Version.{Version}
use Rattle.xcm_program.specs.declared.instruction.Instruction.{Instruction, ClearOrigin, Trap, out-Instruction}
use Rattle.xcm_program.specs.declared.instruction.Instruction.TheOpen.{Instruction-F}
use Rattle.xcm_program.specs.Measure.{inner, deep_count_one, deep_count}
use Rattle.xcm_program.specs.Everywhere.{AllInside}
use Rattle.xcm_program.specs.Conversions.{HasAmount, HasAmounts}
use Rattle.xcm_program.proofs.Lemmas.{amounts_here, deep_count_inside, deep_count_one-is}
use Rattle.xcm_format.specs.Writable.{IsNamedHead, IsNamedOne, IsWritable}
use Rattle.xcm_format.proofs.Lemmas.{named_here}
use Rattle.versioned_xcm.proofs.Lemmas.ProgramLaws.Writable.{writable_in}
use Rattle.versioned_xcm.specs.Message.{forwarded, IsDecoded}
use Rattle.versioned_xcm.proofs.Lemmas.{clear-out, clear_count}
use Rattle.test_codec.specs.Examples.{AreClears}

-- what was decoded can be written in either version
pub decoded_writable : (bytes : List ℕ) (w : Version) (p : List Instruction) → IsDecoded bytes p → IsWritable w p
decoded_writable bytes w p d = writable_in d.message.0 w p d.message.1.readable d.convertible

-- what holds of each holds of the first
pub of_first : (P : Instruction → Type 0) (p : List Instruction) (i : Instruction) → 0 < length p → i ≡ get_or p 0 i → AllByRecursion P p → P i
of_first P [] i some at all = absurd (omega (arith, some))
of_first P (j ∷ p) i some at all = subst P (sym at) all.0

-- ---- instructions that name no asset

plain_named : (v : Version) (i : Instruction) (l : Instruction-F Instruction) → out-Instruction i ≡ l → IsNamedHead v Instruction l → AllInside (IsNamedOne v) (inner l) → IsNamedOne v i
plain_named v i l is here inside =
    named_here v i (subst (λ (m : Instruction-F Instruction). IsNamedHead v Instruction m) (sym is) here) (subst (λ (m : Instruction-F Instruction). AllInside (IsNamedOne v) (inner m)) (sym is) inside)

plain_amounts : (i : Instruction) (l : Instruction-F Instruction) → out-Instruction i ≡ l → HasAmount Instruction l → AllInside HasAmounts (inner l) → HasAmounts i
plain_amounts i l is here inside =
    amounts_here i (subst (λ (m : Instruction-F Instruction). HasAmount Instruction m) (sym is) here) (subst (λ (m : Instruction-F Instruction). AllInside HasAmounts (inner m)) (sym is) inside)

clear_named : (v : Version) → IsNamedOne v ClearOrigin
clear_named v = plain_named v ClearOrigin Instruction-F.ClearOrigin clear-out tt tt

clear_amounts : HasAmounts ClearOrigin
clear_amounts = plain_amounts ClearOrigin Instruction-F.ClearOrigin clear-out tt tt

trap-out : (code : ℕ) → out-Instruction (Trap code) ≡ Instruction-F.Trap code
unfolding out-Instruction denote.Hole.Carrier.out
trap-out code = refl

trap_count : (code : ℕ) → deep_count_one (Trap code) ≡ 1
trap_count code = deep_count_one-is (Trap code) ∙ ap (λ (l : Instruction-F Instruction). 1 + deep_count_inside (inner l)) (trap-out code)

trap_writable : (v : Version) (code : ℕ) → IsWritable v (Trap code ∷ [])
trap_writable v code = record {
  few = omega (arith, trap_count code);
  named = (plain_named v (Trap code) (Instruction-F.Trap code) (trap-out code) tt tt, tt);
  amounts = (plain_amounts (Trap code) (Instruction-F.Trap code) (trap-out code) tt tt, tt);
}

pub trap_writable_so : (v : Version) (code : ℕ) (p : List Instruction) → p ≡ Trap code ∷ [] → IsWritable v p
trap_writable_so v code p is = subst (IsWritable v) (sym is) (trap_writable v code)

-- ---- instructions that clear the origin

pub clears_more : (p : List Instruction) → AreClears p → AreClears (p ++ ClearOrigin ∷ [])
clears_more [] all = (refl, tt)
clears_more (i ∷ p) all = (all.0, clears_more p all.1)

each_is : (P : Instruction → Type 0) → P ClearOrigin → (p : List Instruction) → AreClears p → AllByRecursion P p
each_is P here [] all = tt
each_is P here (i ∷ p) all = (subst P (sym all.0) here, each_is P here p all.1)

clears_count : (p : List Instruction) → AreClears p → deep_count p ≡ length p
clears_count [] all = refl
clears_count (i ∷ p) all = omega (arith, ap deep_count_one all.0, clear_count, clears_count p all.1)

pub clears_writable : (v : Version) (p : List Instruction) → AreClears p → length p < 2 ^ 32 → IsWritable v p
clears_writable v p all few = record {
  few = omega (arith, clears_count p all, few);
  named = each_is (IsNamedOne v) (clear_named v) p all;
  amounts = each_is HasAmounts clear_amounts p all;
}

-- ---- what is sent on

forwarded_writable : (v : Version) (p rest : List Instruction) (first : Instruction) → 0 < length p → first ≡ get_or p 0 first → IsWritable v p → IsWritable v rest → deep_count p ≤ 100 → deep_count rest ≤ 100 → IsWritable v (forwarded first rest)
forwarded_writable v [] rest first some at w u few small = absurd (omega (arith, some))
forwarded_writable v (i ∷ p) rest first some at w u few small = record {
  few = omega (arith, ap deep_count_one at, clear_count, few, small);
  named = (subst (IsNamedOne v) (sym at) w.named.0, (clear_named v, u.named));
  amounts = (subst HasAmounts (sym at) w.amounts.0, (clear_amounts, u.amounts));
}

-- the first instruction of a message that was decoded, and the program of another after it
pub decoded_forwarded : (v : Version) (a b : List ℕ) (p rest : List Instruction) (first : Instruction) → 0 < length p → first ≡ get_or p 0 first → IsDecoded a p → IsDecoded b rest → IsWritable v (forwarded first rest)
decoded_forwarded v a b p rest first some at d e =
    forwarded_writable v p rest first some at (decoded_writable a v p d) (decoded_writable b v rest e) d.message.1.readable.small.few e.message.1.readable.small.few
