-- Lemmas on the definitions of `specs/AssetLaws.antt`: what proofs cite.
use Rattle.std.specs.Prelude.{◌≡◌, ◌&&◌, refl}
use Rattle.std.specs.Ordering.{nat_cmp, ordering_then, eq_by_cmp, is_eq}
use Rattle.std.specs.declared.cmp.Ordering.{Ordering}
use Rattle.std.specs.declared.cmp.Ordering.TheVariants.{Less, Equal, Greater}
use Rattle.locations.specs.Order.{junctions_cmp}
use Rattle.locations.proofs.Lemmas.OrderLaws.{junctions_exact, first_tie, second_tie}
use Rattle.asset_lists.specs.declared.units.Kind.{Kind}
use Rattle.asset_lists.specs.declared.units.Kind.TheVariants.{Fungible, Class}
use Rattle.asset_lists.specs.Listed.{kind_number, same_kind}
use Rattle.law_coherence.specs.UniversalAssets.{UniversalAsset}
use Rattle.supply_audit.specs.Assets.{universal_asset_cmp}
use Rattle.std.proofs.Common.{◌∙◌, ap}
use Rattle.plain_lists.proofs.Lemmas.Facts.{equal_then as then_says}

same_kinds : (a b : Kind) → nat_cmp (kind_number a) (kind_number b) ≡ Equal → a ≡ b
same_kinds Fungible Fungible tie = refl
same_kinds Class Class tie = refl
same_kinds Fungible Class tie = absurd (cc)
same_kinds Class Fungible tie = absurd (cc)

pub asset_exact : (x y : UniversalAsset) → universal_asset_cmp x y ≡ Equal → x ≡ y
asset_exact x y tie =
    let paths = junctions_exact x.0 y.0 (first_tie (junctions_cmp x.0 y.0) (nat_cmp (kind_number x.1) (kind_number y.1)) tie) in
    let kinds = same_kinds x.1 y.1 (second_tie (junctions_cmp x.0 y.0) (nat_cmp (kind_number x.1) (kind_number y.1)) tie) in
    λ i. (paths i, kinds i)

number_says : (a b : Kind) → is_eq (nat_cmp (kind_number a) (kind_number b)) ≡ same_kind a b
number_says Fungible Fungible = refl
number_says Fungible Class = refl
number_says Class Fungible = refl
number_says Class Class = refl

-- assets tie where their paths and kinds are the same
pub asset_tests : (x y : UniversalAsset) → eq_by_cmp universal_asset_cmp x y ≡ (eq_by_cmp junctions_cmp x.0 y.0 && same_kind x.1 y.1)
asset_tests x y =
    then_says (junctions_cmp x.0 y.0) (nat_cmp (kind_number x.1) (kind_number y.1)) ∙ ap (λ b. eq_by_cmp junctions_cmp x.0 y.0 && b) (number_says x.1 y.1)
