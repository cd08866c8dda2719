-- Instructions about the origin register. Source: the XCM format's instruction set.
use Rattle.std.specs.Prelude.{◌+◌, nat_le, Bool, true, false, length, List, [], ◌∷◌, ◌++◌, Option, Some, None}
use Rattle.std.specs.Ordering.{eq_by_cmp}
use Rattle.locations.specs.declared.grammar.Junction.{Junction}
use Rattle.locations.specs.declared.relative.Location.{Location}
use Rattle.locations.specs.Order.{junction_cmp, location_cmp}
use Rattle.operands.specs.declared.error.XcmError.{XcmError}
use Rattle.operands.specs.declared.error.XcmError.TheVariants as error
use Rattle.trust_tables.specs.Chains.{path_of_site}
use Rattle.xcm_program.specs.declared.instruction.Instruction.TheOpen.{Instruction-F}
use Rattle.exec_base.specs.Sending.{unless}
use Rattle.exec_rules.specs.Machine.{Machine}

-- two origins are the same, both empty or both the same location
abbrev pub same_origin : Option Location → Option Location → Bool
same_origin None None = true
same_origin (Some a) (Some b) = eq_by_cmp location_cmp a b
same_origin _ _ = false

-- the origin register holds for whom the run began
abbrev pub is_original : Machine → Bool
is_original m = same_origin m.regs.origin (Some m.regs.original)

abbrev pub if_original : Machine → Option XcmError → Option XcmError
if_original m next = unless (is_original m) error.BadOrigin next

-- no origin is asked for, or it is the register's
abbrev pub is_checked_origin : Machine → Option Location → Bool
is_checked_origin m None = true
is_checked_origin m (Some who) = same_origin m.regs.origin (Some who)

-- a location has at most 8 junctions
abbrev pub fits_below : Location → List Junction → Bool
fits_below who path = nat_le (length who.interior + length path) 8

abbrev pub descended : Location → List Junction → Location
descended who path = record who { interior = who.interior ++ path }

-- the chain's own first junction
abbrev pub starts_with : List Junction → Junction → Bool
starts_with [] junction = false
starts_with (first ∷ rest) junction = eq_by_cmp junction_cmp junction first

abbrev pub is_own_network : Machine → Junction → Bool
is_own_network m junction = starts_with (path_of_site m.part.site) junction

-- ---- the instructions that need an origin before anything else

abbrev pub needs_origin : {X : Type 0} → Instruction-F X → Bool
needs_origin (Instruction-F.WithdrawAsset list) = true
needs_origin (Instruction-F.ReserveAssetDeposited list) = true
needs_origin (Instruction-F.ReceiveTeleportedAsset list) = true
needs_origin (Instruction-F.QueryResponse query answer weight querier) = true
needs_origin (Instruction-F.TransferAsset list who) = true
needs_origin (Instruction-F.TransferReserveAsset list dest xcm) = true
needs_origin (Instruction-F.Transact kind most call) = true
needs_origin (Instruction-F.DescendOrigin path) = true
needs_origin (Instruction-F.ClaimAsset list ticket) = true
needs_origin (Instruction-F.SubscribeVersion query weight) = true
needs_origin Instruction-F.UnsubscribeVersion = true
needs_origin (Instruction-F.ExportMessage network path xcm) = true
needs_origin (Instruction-F.LockAsset asset unlocker) = true
needs_origin (Instruction-F.UnlockAsset asset target) = true
needs_origin (Instruction-F.NoteUnlockable asset owner) = true
needs_origin (Instruction-F.RequestUnlock asset locker) = true
needs_origin (Instruction-F.AliasOrigin target) = true
needs_origin _ = false
