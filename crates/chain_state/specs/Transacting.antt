-- What a chain's transactors handle and keep, and what a host says where they refuse. Source: xcm-executor's asset transactors; which error
-- a refusal is, is this project's own rule.
--     error_of      the error that a transactor's refusal is
--     fault_of      the fault of a host that it is
--     handled_rows      the rows that are handled: those of amounts, then those of classes
--     kept_floors      what each account must keep of each unit
use Rattle.std.specs.Prelude.{List, ◌++◌}
use Rattle.asset_lists.specs.declared.units.Kind.{Kind}
use Rattle.operands.specs.declared.error.XcmError.{XcmError}
use Rattle.operands.specs.declared.error.XcmError.TheVariants as error
use Rattle.trust_tables.specs.declared.rows.AssetRow.{AssetRow}
use Rattle.transactors.specs.declared.faults.MoveFault.{MoveFault}
use Rattle.transactors.specs.declared.faults.MoveFault.TheVariants.{NotHandled, NoAccount, Refused, Memory}
use Rattle.transactors.specs.Floors.{UnitFloors, no_unit_floors, locked_floors, higher_floors}
use Rattle.transactors.specs.Checks.{rows_of_kind}
use Rattle.exec_base.specs.declared.faults.HostFault.{HostFault}
use Rattle.exec_base.specs.declared.faults.HostFault.TheVariants as host
use Rattle.exec_base.specs.Part.{ChainPart}

-- no rule refuses for memory
abbrev pub error_of : MoveFault → XcmError
error_of NotHandled = error.AssetNotFound
error_of NoAccount = error.FailedToTransactAsset
error_of Refused = error.FailedToTransactAsset
error_of Memory = error.FailedToTransactAsset

abbrev pub fault_of : MoveFault → HostFault
fault_of Memory = host.Memory
fault_of fault = host.Xcm (error_of fault)

abbrev pub handled_rows : ChainPart → List AssetRow
handled_rows p = rows_of_kind Kind.Fungible p.rows ++ rows_of_kind Kind.Class p.rows

abbrev pub kept_floors : ChainPart → UnitFloors
kept_floors p = higher_floors no_unit_floors (locked_floors p.locked)
