-- The first refusal.
use Rattle.std.proofs.Common.{◌≡◌, refl, sym, ap, subst}
use Rattle.std.specs.Prelude.{Option, None, Some, Err}
use Rattle.operands.specs.declared.error.XcmError.{XcmError}
use Rattle.asset_bundles.specs.Bundles.{Bundle}
use Rattle.exec_base.specs.declared.faults.HostFault.{HostFault}
use Rattle.exec_base.specs.declared.faults.HostFault.TheVariants.{Xcm, Memory}
use Rattle.exec_base.specs.Answers.{AnswersOrRefuses, TakesGoodsOrRefuses}
use Rattle.exec_base.specs.Part.{ChainPart}
use Rattle.exec_base.specs.Sending.{or_else}
use Rattle.chain_state.specs.Sends.{IsSendFault}

pub refused_first : (x rest : Option XcmError) (e : XcmError) → x ≡ Some e → or_else x rest ≡ Some e
refused_first x rest e h = ap (λ r. or_else r rest) h

pub passed_first : (x rest : Option XcmError) → x ≡ None → or_else x rest ≡ rest
passed_first x rest h = ap (λ r. or_else r rest) h

pub both_none : (x rest : Option XcmError) → or_else x rest ≡ None → (x ≡ None) × (rest ≡ None)
both_none None rest h = (refl, h)
both_none (Some e) rest h = absurd (cc)

-- what is refused second, or for memory, is refused
pub later_fault : (x rest : Option XcmError) (fault : HostFault) → x ≡ None → IsSendFault rest fault → IsSendFault (or_else x rest) fault
later_fault x rest fault none h = subst (λ r. IsSendFault r fault) (sym (passed_first x rest none)) h

pub answers_fault : {A : Type 0} (refusal : Option XcmError) (answer : A) (after before : ChainPart) (fault : HostFault) → IsSendFault refusal fault → AnswersOrRefuses refusal answer after before (Err fault) before
answers_fault refusal answer after before (Xcm e) h = (h, refl)
answers_fault refusal answer after before Memory h = refl

pub hands_back : {A : Type 0} (refusal : Option XcmError) (goods : Bundle) (answer : A) (after before : ChainPart) (fault : HostFault) → IsSendFault refusal fault → TakesGoodsOrRefuses refusal goods answer after before (Err (goods, fault)) before
hands_back refusal goods answer after before (Xcm e) h = (refl, h, refl)
hands_back refusal goods answer after before Memory h = (refl, refl)
