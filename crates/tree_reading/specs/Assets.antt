-- Assets whose ids are locations, and the parts of wildcards. Source: this project's own rule; the spellings are those of the XCM format.
use Rattle.std.specs.Prelude.{◌≡◌, ℕ, ◌≤◌, true, List, ◌++◌, codes, decimal}
use Rattle.scale_codec.specs.Spelling.{compact}
use Rattle.asset_lists.specs.declared.units.AssetId.{AssetId}
use Rattle.asset_lists.specs.declared.units.Asset.{Asset}
use Rattle.asset_lists.specs.declared.filters.WildFun.{WildFun}
use Rattle.asset_lists.specs.declared.filters.Wild.{Wild}
use Rattle.asset_lists.specs.declared.filters.Wild.TheVariants.{All}
use Rattle.asset_wire.specs.Spelling.{asset_id, FitsId, FitsAsset, wild_fun, FitsWild}
use Rattle.operands.specs.declared.version.Version.{Version}
use Rattle.xcm_program.specs.Conversions.{is_concrete_id, wild_is_concrete}
use Rattle.message_text.specs.Words.{id_text, wild_fun_text}

abbrev pub FitsPlaceId : Version → AssetId → Type 0
FitsPlaceId v id = (is_concrete_id id ≡ true) × FitsId v id

abbrev pub FitsPlaceAsset : Version → Asset → Type 0
FitsPlaceAsset v a = (is_concrete_id a.id ≡ true) × FitsAsset v a

-- ---- an id, and what a wildcard means of it

abbrev pub FitsKindOf : Version → AssetId × WildFun → Type 0
FitsKindOf v x = FitsPlaceId v x.0

abbrev pub kind_of_text : AssetId × WildFun → List ℕ
kind_of_text x = id_text x.0 ++ (codes " " ++ wild_fun_text x.1)

abbrev pub kind_of_spelling : Version → AssetId × WildFun → List ℕ
kind_of_spelling v x = asset_id v x.0 ++ wild_fun x.1

-- ---- the same with how many

abbrev pub FitsCounting : WildFun × ℕ → Type 0
FitsCounting x = x.1 ≤ 4294967295

abbrev pub counting_text : WildFun × ℕ → List ℕ
counting_text x = wild_fun_text x.0 ++ (codes " " ++ decimal x.1)

abbrev pub counting_spelling : WildFun × ℕ → List ℕ
counting_spelling x = wild_fun x.0 ++ compact x.1

abbrev pub FitsCountOf : Version → AssetId × (WildFun × ℕ) → Type 0
FitsCountOf v x = FitsPlaceId v x.0 × FitsCounting x.1

abbrev pub count_of_text : AssetId × (WildFun × ℕ) → List ℕ
count_of_text x = id_text x.0 ++ (codes " " ++ counting_text x.1)

abbrev pub count_of_spelling : Version → AssetId × (WildFun × ℕ) → List ℕ
count_of_spelling v x = asset_id v x.0 ++ counting_spelling x.1

-- ---- wildcards

abbrev pub FitsPlaceWild : Version → Wild → Type 0
FitsPlaceWild v which = (wild_is_concrete which ≡ true) × FitsWild v which

-- any but the one that means all assets
abbrev pub FitsSomeWild : Version → Wild → Type 0
FitsSomeWild v All = ⊥
FitsSomeWild v which = FitsPlaceWild v which
