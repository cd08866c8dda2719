use Rattle.std.proofs.Common.{◌≡◌, ◌++◌, drop, map}
use Rattle.std.specs.List.{AllByRecursion}
use Rattle.scale_codec.specs.Spelling.{joined}
use Rattle.asset_wire.specs.Spelling.{asset, assets, FitsAsset, AreNamed}
use Rattle.asset_wire.proofs.writing.put_assets.Given as goal

abbrev pub invariant-loop-a : goal.invariant-loop-a
invariant-loop-a l = record {
  kept : l.o.kept ≡ l.fn.o.kept;
  text : l.o.text ++ joined (map (asset l.v) (drop l.a-index l.items)) ≡ l.fn.o.text ++ assets l.v l.items;
  fits : AllByRecursion (FitsAsset l.v) (drop l.a-index l.items) → AllByRecursion (FitsAsset l.v) l.items;
  named : AreNamed l.v (drop l.a-index l.items);
}
