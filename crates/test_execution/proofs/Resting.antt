-- The chain is at rest as it is opened, and each program that was decoded may be sent.
use Rattle.std.proofs.Common.{◌≡◌, ℕ, List, Result, Ok, Err, refl, subst, sym, arith}
use Rattle.asset_lists.specs.declared.units.Asset.{Asset}
use Rattle.operands.specs.declared.query.OpenQuery.{OpenQuery}
use Rattle.trust_tables.specs.declared.chains.Site.{Site}
use Rattle.trust_tables.specs.declared.rows.AssetRow.{AssetRow}
use Rattle.operands.specs.declared.version.Version.{Version}
use Rattle.xcm_program.specs.declared.instruction.Instruction.{Instruction}
use Rattle.xcm_format.specs.Messages.{IsReadable}
use Rattle.xcm_format.specs.Writable.{IsWritable}
use Rattle.std.specs.Prelude.{IfOk, MatchResult}
use Rattle.std.specs.declared.alloc.AllocError.{AllocError}
use Rattle.versioned_xcm.specs.Message.{IsDecoded, IsCause}
use Rattle.versioned_xcm.specs.declared.faults.MessageFault.{MessageFault}
use Rattle.exec_base.specs.Sending.{IsForwardable}
use Rattle.exec_rules.specs.Readiness.{IsAtRest}
use Rattle.test_execution.specs.declared.fake.FakeHost.{FakeHost}
use Rattle.test_execution.specs.PartOf.{fake_part_of}
use Rattle.test_execution.specs.Opening.{opened_part}

opened_rests : (site : Site) (rows : List AssetRow) (accounts : List (List ℕ × Asset)) (queries : List OpenQuery) → IsAtRest (opened_part site rows accounts queries)
opened_rests site rows accounts queries = record { order = record { traps = tt; rates = tt; paid = tt; pools = tt; unparked = refl }; slot = refl }

pub if_opened : (site : Site) (rows : List AssetRow) (accounts : List (List ℕ × Asset)) (queries : List OpenQuery) (made : Result FakeHost AllocError) → IfOk made (λ host. fake_part_of host ≡ opened_part site rows accounts queries) → IfOk made (λ host. IsAtRest (fake_part_of host))
if_opened site rows accounts queries (Ok host) e = subst IsAtRest (sym e) (opened_rests site rows accounts queries)
if_opened site rows accounts queries (Err fault) e = tt

decoded_forwardable : (bytes : List ℕ) (program : List Instruction) → IsDecoded bytes program → ((v : Version) (p : List Instruction) → IsReadable v p → IsWritable v p) → IsForwardable program
decoded_forwardable bytes program d writable = record {
  few = let small = d.message.1.readable.small in omega (arith, small.few);
  named = d.convertible;
  amounts = (writable d.message.0 program d.message.1.readable).amounts;
}

pub if_decoded : (bytes : List ℕ) (answer : Result (List Instruction) MessageFault) → MatchResult answer (IsDecoded bytes) (IsCause bytes) → ((v : Version) (p : List Instruction) → IsReadable v p → IsWritable v p) → IfOk answer IsForwardable
if_decoded bytes (Ok program) d writable = decoded_forwardable bytes program d writable
if_decoded bytes (Err fault) d writable = tt
