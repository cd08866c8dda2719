use Rattle.std.proofs.Common.{◌≡◌, ◌++◌, drop, map}
use Rattle.std.specs.List.{AllByRecursion}
use Rattle.scale_codec.specs.Spelling.{joined, counted, compact}
use Rattle.xcm_format.specs.Parts.{pallet_info, FitsPallet}
use Rattle.xcm_format.proofs.writing.put_pallet_infos.Given as goal

abbrev pub invariant-loop-pallet : goal.invariant-loop-pallet
invariant-loop-pallet l = record {
  kept : l.o.kept ≡ l.fn.o.kept;
  text : l.o.text ++ joined (map pallet_info (drop l.pallet-index l.items)) ≡ l.fn.o.text ++ counted compact pallet_info l.items;
  fits : AllByRecursion FitsPallet (drop l.pallet-index l.items) → AllByRecursion FitsPallet l.items;
}
