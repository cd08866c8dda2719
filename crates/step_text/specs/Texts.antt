-- The texts of the words of a report: kinds, causes, totals, assets. This project's own rule; the names are those of the types.
use Rattle.std.specs.Prelude.{ℕ, ◌==◌, Bool, true, false, List, [], ◌∷◌, ◌++◌, Option, Some, None, codes, decimal, flat_map, if◌then◌else◌}
use Rattle.locations.specs.declared.relative.Location.{Location}
use Rattle.location_wire.specs.Texts.{hex_text, location_text}
use Rattle.asset_lists.specs.declared.units.Asset.{Asset}
use Rattle.asset_lists.specs.declared.units.Kind.{Kind}
use Rattle.asset_lists.specs.declared.units.Kind.TheVariants as kinds
use Rattle.message_text.specs.Words.{asset_text}
use Rattle.asset_bundles.specs.declared.book.Cause.{Cause}
use Rattle.asset_bundles.specs.declared.book.Cause.TheVariants.{BurnAsset, LostTeleport, Merged, Saturated}
use Rattle.asset_bundles.specs.declared.totals.Total.{Total}
use Rattle.operands.specs.Texts.{error_text}
use Rattle.operands.specs.declared.error.XcmError.{XcmError}
use Rattle.exec_base.specs.declared.event.Part.{Part}
use Rattle.exec_base.specs.declared.event.Part.TheVariants.{Program, Handler, Appendix}

-- ---- words

abbrev pub kind_name : Kind → List ℕ
kind_name kinds.Fungible = codes "fungible"
kind_name kinds.Class = codes "class"

-- why assets were given up
abbrev pub cause_name : Cause → List ℕ
cause_name BurnAsset = codes "BurnAsset"
cause_name LostTeleport = codes "LostTeleport"
cause_name Merged = codes "Merged"
cause_name Saturated = codes "Saturated"

-- which program of a run
abbrev pub part_letter : Part → List ℕ
part_letter Program = codes "p"
part_letter Handler = codes "h"
part_letter Appendix = codes "a"

-- a call by its number in the set of calls
abbrev pub call_name : ℕ → List ℕ
call_name index =
    if index == 0 then codes "remark"
    else if index == 1 then codes "transfer"
    else if index == 2 then codes "fail"
    else codes "batch"

-- how a call ended
abbrev pub call_result : Bool → List ℕ
call_result true = codes "ok"
call_result false = codes "failed"

-- how an instruction ended
abbrev pub result_text : Option XcmError → List ℕ
result_text None = codes "ok"
result_text (Some error) = error_text error

-- a sum in decimal, or `over` where it passes 2^128-1
abbrev pub total_text : Total → List ℕ
total_text t = if t.high == 0 then decimal t.low else codes "over"

-- ---- registers, `-` where they are empty

abbrev pub origin_text : Option Location → List ℕ
origin_text None = codes "-"
origin_text (Some l) = location_text l

abbrev pub topic_text : Option (List ℕ) → List ℕ
topic_text None = codes "-"
topic_text (Some topic) = hex_text topic

-- ---- assets

-- after another asset
abbrev pub next_text : Asset → List ℕ
next_text a = codes ", " ++ asset_text a

-- a comma and a space between them
abbrev pub assets_text : List Asset → List ℕ
assets_text [] = []
assets_text (a ∷ rest) = asset_text a ++ flat_map next_text rest
