use Rattle.std.proofs.Common.{subst, arith}
use Rattle.std.specs.Prelude.{MatchResult}
use Rattle.versioned_xcm.specs.Message.{IsDecoded, IsCause}
use Rattle.network_steps.proofs.laws.law_of_decoded_programs.Goals as goal

pub returns : goal.returns
returns c = record {
  forwardable = λ bytes program e.
      let decoded : IsDecoded bytes program = subst (λ r. MatchResult r (IsDecoded bytes) (IsCause bytes)) e (c.law_of_messages.ensures bytes) in
      let readable = decoded.message.1.readable in
      let writable = c.law_of_writable.ensures.same decoded.message.0 program readable in
      let few = readable.small.few in
      record { few = omega (arith, few); named = decoded.convertible; amounts = writable.amounts };
}
