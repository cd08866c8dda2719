-- The derived orders are those of the definitions.
use Rattle.std.proofs.Common.{◌≡◌, refl, ap, ◌∙◌, List, Option, Some, None, length}
use Rattle.std.specs.declared.cmp.Ordering.{Ordering}
use Rattle.std.specs.declared.cmp.Ordering.TheVariants.{Less, Equal, Greater}
use Rattle.std.specs.Ordering.{ordering_then, nat_cmp}
use Rattle.std.specs.Option.{option_cmp}
use Rattle.std.specs.Cmp.Lexicographic.{slice_cmp}
use Rattle.locations.specs.declared.grammar.NetworkId.{NetworkId}
use Rattle.locations.specs.declared.grammar.NetworkId.TheVariants.{ByGenesis, ByFork, Polkadot, Kusama, Westend, Rococo, Wococo, Ethereum, BitcoinCore, BitcoinCash}
use Rattle.locations.specs.declared.grammar.BodyId.{BodyId}
use Rattle.locations.specs.declared.grammar.BodyId.TheVariants.{Unit, Moniker, Index, Executive, Technical, Legislative, Judicial, Defense, Administration, Treasury}
use Rattle.locations.specs.declared.grammar.BodyPart.{BodyPart}
use Rattle.locations.specs.declared.grammar.BodyPart.TheVariants.{Voice, Members, Fraction, AtLeastProportion, MoreThanProportion}
use Rattle.locations.specs.declared.grammar.Junction.{Junction}
use Rattle.locations.specs.declared.grammar.Junction.TheVariants.{Parachain, AccountId32, AccountIndex64, AccountKey20, PalletInstance, GeneralIndex, GeneralKey, OnlyChild, Plurality, GlobalConsensus}
use Rattle.locations.specs.DerivedOrder.{derived_network_cmp, derived_body_cmp, derived_part_cmp, derived_junction_cmp}
use Rattle.locations.specs.Order.{fields_cmp, any_network_fields, network_cmp, body_cmp, part_cmp, junction_cmp, junctions_cmp}

-- an order is itself with one, two or three more that tie
once : (r : Ordering) → r ≡ ordering_then r Equal
once Less = refl
once Equal = refl
once Greater = refl

twice : (r : Ordering) → r ≡ ordering_then (ordering_then r Equal) Equal
twice r = once r ∙ ap (λ s. ordering_then s Equal) (once r)

thrice : (r : Ordering) → r ≡ ordering_then (ordering_then (ordering_then r Equal) Equal) Equal
thrice r = twice r ∙ ap (λ s. ordering_then (ordering_then s Equal) Equal) (once r)

both : {a b c d : Ordering} → a ≡ b → c ≡ d → ordering_then a c ≡ ordering_then b d
both p q = λ i. ordering_then (p i) (q i)

pub networks_same : (x y : NetworkId) → derived_network_cmp x y ≡ network_cmp x y
networks_same (ByGenesis a) (ByGenesis b) = once (slice_cmp nat_cmp a b)
networks_same (ByFork a b) (ByFork c d) = both (once (nat_cmp a c)) (once (slice_cmp nat_cmp b d))
networks_same Polkadot Polkadot = refl
networks_same Kusama Kusama = refl
networks_same Westend Westend = refl
networks_same Rococo Rococo = refl
networks_same Wococo Wococo = refl
networks_same (Ethereum a) (Ethereum b) = twice (nat_cmp a b)
networks_same BitcoinCore BitcoinCore = refl
networks_same BitcoinCash BitcoinCash = refl
networks_same _ _ = refl

pub bodies_same : (x y : BodyId) → derived_body_cmp x y ≡ body_cmp x y
bodies_same Unit Unit = refl
bodies_same (Moniker a) (Moniker b) = once (slice_cmp nat_cmp a b)
bodies_same (Index a) (Index b) = twice (nat_cmp a b)
bodies_same Executive Executive = refl
bodies_same Technical Technical = refl
bodies_same Legislative Legislative = refl
bodies_same Judicial Judicial = refl
bodies_same Defense Defense = refl
bodies_same Administration Administration = refl
bodies_same Treasury Treasury = refl
bodies_same _ _ = refl

pub parts_same : (x y : BodyPart) → derived_part_cmp x y ≡ part_cmp x y
parts_same Voice Voice = refl
parts_same (Members a) (Members b) = twice (nat_cmp a b)
parts_same (Fraction a b) (Fraction c d) = both (once (nat_cmp a c)) (twice (nat_cmp b d))
parts_same (AtLeastProportion a b) (AtLeastProportion c d) = both (once (nat_cmp a c)) (twice (nat_cmp b d))
parts_same (MoreThanProportion a b) (MoreThanProportion c d) = both (once (nat_cmp a c)) (twice (nat_cmp b d))
parts_same _ _ = refl

any_networks_same : (x y : Option NetworkId) → option_cmp (derived_network_cmp) x y ≡ fields_cmp (any_network_fields x) (any_network_fields y)
any_networks_same None None = refl
any_networks_same None (Some y) = refl
any_networks_same (Some x) None = refl
any_networks_same (Some x) (Some y) = networks_same x y

pub junctions_same : (x y : Junction) → derived_junction_cmp x y ≡ junction_cmp x y
junctions_same (Parachain a) (Parachain b) = thrice (nat_cmp a b)
junctions_same (AccountId32 m a) (AccountId32 n b) = both (any_networks_same m n) (twice (slice_cmp nat_cmp a b))
junctions_same (AccountIndex64 m a) (AccountIndex64 n b) = both (any_networks_same m n) (thrice (nat_cmp a b))
junctions_same (AccountKey20 m a) (AccountKey20 n b) = both (any_networks_same m n) (twice (slice_cmp nat_cmp a b))
junctions_same (PalletInstance a) (PalletInstance b) = thrice (nat_cmp a b)
junctions_same (GeneralIndex a) (GeneralIndex b) = thrice (nat_cmp a b)
junctions_same (GeneralKey a b) (GeneralKey c d) = both (twice (nat_cmp a c)) (twice (slice_cmp nat_cmp b d))
junctions_same OnlyChild OnlyChild = refl
junctions_same (Plurality a b) (Plurality c d) = both (bodies_same a c) (parts_same b d ∙ once (part_cmp b d))
junctions_same (GlobalConsensus a) (GlobalConsensus b) = networks_same a b ∙ once (network_cmp a b)
junctions_same _ _ = refl

-- as one function
pub junctions_are : derived_junction_cmp ≡ junction_cmp
junctions_are = λ i x y. junctions_same x y i

-- an answer by the number of junctions, and then by the derived order of each
pub counted : (xs ys us vs : List Junction) (a b r : Ordering) → xs ≡ us → ys ≡ vs → a ≡ nat_cmp (length xs) (length ys)
    → b ≡ slice_cmp (derived_junction_cmp) xs ys → r ≡ ordering_then a b → r ≡ junctions_cmp us vs
counted xs ys us vs a b r p q first second whole =
    whole ∙ both first second
    ∙ (λ i. ordering_then (nat_cmp (length (p i)) (length (q i))) (slice_cmp (junctions_are i) (p i) (q i)))
