-- Lemmas on the definitions of `specs/OrderLaws.antt`: what proofs cite.
use Rattle.std.specs.Prelude.{◌≡◌, ℕ, Bool, true, false, List, [], ◌∷◌, length, Option, Some, None, refl, get_or}
use Rattle.std.proofs.Common.{sym, ap, ◌∙◌}
use Rattle.std.specs.declared.cmp.Ordering.{Ordering}
use Rattle.std.specs.declared.cmp.Ordering.TheVariants.{Less, Equal, Greater}
use Rattle.std.specs.Ordering.{nat_cmp, on, ordering_then, eq_by_cmp, is_eq}
use Rattle.std.specs.Bool.{Decides}
use Rattle.std.specs.Cmp.{IsTotalOrder, on_total, Equal-is, tied_itself}
use Rattle.std.specs.FinMap.{IsAntisymmetric, nat_cmp-IsAntisymmetric, slice_cmp-IsAntisymmetric}
use Rattle.locations.specs.declared.grammar.NetworkId.{NetworkId}
use Rattle.locations.specs.declared.grammar.NetworkId.TheVariants.{ByGenesis, ByFork, Polkadot, Kusama, Westend, Rococo, Wococo, Ethereum, BitcoinCore, BitcoinCash}
use Rattle.locations.specs.declared.grammar.BodyId.{BodyId}
use Rattle.locations.specs.declared.grammar.BodyId.TheVariants.{Unit, Moniker, Index, Executive, Technical, Legislative, Judicial, Defense, Administration, Treasury}
use Rattle.locations.specs.declared.grammar.BodyPart.{BodyPart}
use Rattle.locations.specs.declared.grammar.BodyPart.TheVariants.{Voice, Members, Fraction, AtLeastProportion, MoreThanProportion}
use Rattle.locations.specs.declared.grammar.Junction.{Junction}
use Rattle.locations.specs.declared.grammar.Junction.TheVariants.{Parachain, AccountId32, AccountIndex64, AccountKey20, PalletInstance, GeneralIndex, GeneralKey, OnlyChild, Plurality, GlobalConsensus}
use Rattle.locations.specs.declared.relative.Location.{Location}
use Rattle.locations.specs.Order.{network_fields, any_network_fields, body_fields, part_fields, junction_fields, fields_cmp, network_cmp, body_cmp, part_cmp, junction_cmp, junctions_cmp, location_cmp, IsExactOrder}
use Rattle.locations.specs.OrderLaws.{fields_total, junction_total, junctions_total, location_total}

-- the bytes or the number at an index
abbrev bytes_at : ℕ → List (List ℕ) → List ℕ
bytes_at i fields = get_or fields i []

abbrev number_at : ℕ → List (List ℕ) → ℕ
number_at i fields = get_or (bytes_at i fields) 0 0

-- the values that the fields came from
network_of : List (List ℕ) → NetworkId
network_of fs = get_or (ByGenesis (bytes_at 1 fs) ∷ ByFork (number_at 1 fs) (bytes_at 2 fs) ∷ Polkadot ∷ Kusama ∷ Westend ∷ Rococo ∷ Wococo ∷ Ethereum (number_at 1 fs) ∷ BitcoinCore ∷ BitcoinCash ∷ []) (number_at 0 fs) Polkadot

network_back : (n : NetworkId) → network_of (network_fields n) ≡ n
unfolding network_of
network_back (ByGenesis hash) = refl
network_back (ByFork height hash) = refl
network_back Polkadot = refl
network_back Kusama = refl
network_back Westend = refl
network_back Rococo = refl
network_back Wococo = refl
network_back (Ethereum chain) = refl
network_back BitcoinCore = refl
network_back BitcoinCash = refl

any_network_of : List (List ℕ) → Option NetworkId
any_network_of [] = None
any_network_of (tag ∷ fs) = get_or (None ∷ Some (network_of fs) ∷ []) (get_or tag 0 0) None

any_network_back : (n : Option NetworkId) → any_network_of (any_network_fields n) ≡ n
unfolding any_network_of
any_network_back None = refl
any_network_back (Some n) = ap Some (network_back n)

body_of : List (List ℕ) → BodyId
body_of fs = get_or (Unit ∷ Moniker (bytes_at 1 fs) ∷ Index (number_at 1 fs) ∷ Executive ∷ Technical ∷ Legislative ∷ Judicial ∷ Defense ∷ Administration ∷ Treasury ∷ []) (number_at 0 fs) Unit

body_back : (b : BodyId) → body_of (body_fields b) ≡ b
unfolding body_of
body_back Unit = refl
body_back (Moniker name) = refl
body_back (Index index) = refl
body_back Executive = refl
body_back Technical = refl
body_back Legislative = refl
body_back Judicial = refl
body_back Defense = refl
body_back Administration = refl
body_back Treasury = refl

part_of : List (List ℕ) → BodyPart
part_of fs = get_or (Voice ∷ Members (number_at 1 fs) ∷ Fraction (number_at 1 fs) (number_at 2 fs) ∷ AtLeastProportion (number_at 1 fs) (number_at 2 fs) ∷ MoreThanProportion (number_at 1 fs) (number_at 2 fs) ∷ []) (number_at 0 fs) Voice

part_back : (p : BodyPart) → part_of (part_fields p) ≡ p
unfolding part_of
part_back Voice = refl
part_back (Members count) = refl
part_back (Fraction nom denom) = refl
part_back (AtLeastProportion nom denom) = refl
part_back (MoreThanProportion nom denom) = refl

-- the fields at an index, and the bytes or the number that are alone there
abbrev at : ℕ → List (List (List ℕ)) → List (List ℕ)
at i fs = get_or fs i []

junction_of : List (List (List ℕ)) → Junction
junction_of fs = get_or (Parachain (number_at 0 (at 1 fs)) ∷ AccountId32 (any_network_of (at 1 fs)) (bytes_at 0 (at 2 fs)) ∷ AccountIndex64 (any_network_of (at 1 fs)) (number_at 0 (at 2 fs)) ∷ AccountKey20 (any_network_of (at 1 fs)) (bytes_at 0 (at 2 fs)) ∷ PalletInstance (number_at 0 (at 1 fs)) ∷ GeneralIndex (number_at 0 (at 1 fs)) ∷ GeneralKey (number_at 0 (at 1 fs)) (bytes_at 0 (at 2 fs)) ∷ OnlyChild ∷ Plurality (body_of (at 1 fs)) (part_of (at 2 fs)) ∷ GlobalConsensus (network_of (at 1 fs)) ∷ []) (number_at 0 (at 0 fs)) OnlyChild

junction_back : (j : Junction) → junction_of (junction_fields j) ≡ j
unfolding junction_of
junction_back (Parachain para) = refl
junction_back (AccountId32 network id) = ap (λ n. AccountId32 n id) (any_network_back network)
junction_back (AccountIndex64 network index) = ap (λ n. AccountIndex64 n index) (any_network_back network)
junction_back (AccountKey20 network key) = ap (λ n. AccountKey20 n key) (any_network_back network)
junction_back (PalletInstance index) = refl
junction_back (GeneralIndex index) = refl
junction_back (GeneralKey len key) = refl
junction_back OnlyChild = refl
junction_back (Plurality id part) = λ i. Plurality (body_back id i) (part_back part i)
junction_back (GlobalConsensus network) = ap GlobalConsensus (network_back network)

-- an order through a function that can be undone ties only equal values
pub on_exact : {K J : Type 0} {R : J → J → Ordering} (f : K → J) (back : J → K) → ((x : K) → back (f x) ≡ x)
    → IsAntisymmetric R → IsAntisymmetric (on f R)
on_exact f back undone exact x y tie = sym (undone x) ∙ ap back (exact (f x) (f y) tie) ∙ undone y

pub fields_exact : IsAntisymmetric fields_cmp
fields_exact = slice_cmp-IsAntisymmetric (slice_cmp-IsAntisymmetric nat_cmp-IsAntisymmetric)

pub network_total : IsTotalOrder network_cmp
network_total = on_total network_fields fields_total

pub network_exact : IsAntisymmetric network_cmp
network_exact = on_exact network_fields network_of network_back fields_exact

pub body_total : IsTotalOrder body_cmp
body_total = on_total body_fields fields_total

pub body_exact : IsAntisymmetric body_cmp
body_exact = on_exact body_fields body_of body_back fields_exact

pub part_total : IsTotalOrder part_cmp
part_total = on_total part_fields fields_total

pub part_exact : IsAntisymmetric part_cmp
part_exact = on_exact part_fields part_of part_back fields_exact

pub junction_exact : IsAntisymmetric junction_cmp
junction_exact = on_exact junction_fields junction_of junction_back (slice_cmp-IsAntisymmetric fields_exact)

-- a tie of an order with a second one for its ties is a tie of both
pub first_tie : (a b : Ordering) → ordering_then a b ≡ Equal → a ≡ Equal
first_tie Less b tie = tie
first_tie Equal b tie = refl
first_tie Greater b tie = tie

pub second_tie : (a b : Ordering) → ordering_then a b ≡ Equal → b ≡ Equal
second_tie Less b tie = absurd (cc)
second_tie Equal b tie = tie
second_tie Greater b tie = absurd (cc)

pub junctions_exact : IsAntisymmetric junctions_cmp
junctions_exact xs ys tie = slice_cmp-IsAntisymmetric junction_exact xs ys (second_tie (nat_cmp (length xs) (length ys)) _ tie)

pub location_exact : IsAntisymmetric location_cmp
location_exact x y tie =
    let parents = nat_cmp-IsAntisymmetric x.parents y.parents (first_tie (nat_cmp x.parents y.parents) (junctions_cmp x.interior y.interior) tie) in
    let interior = junctions_exact x.interior y.interior (second_tie (nat_cmp x.parents y.parents) (junctions_cmp x.interior y.interior) tie) in
    λ i. record { parents = parents i; interior = interior i }

-- what such an order ties is what is equal
pub tie_decides : {K : Type 0} {R : K → K → Ordering} → IsTotalOrder R → IsAntisymmetric R
    → (x y : K) → Decides (eq_by_cmp R x y) (x ≡ y)
tie_decides {R = R} total exact x y =
    (λ same. exact x y ((Equal-is (R x y)).0 same), λ same. ap (λ z. eq_by_cmp R x z) (sym same) ∙ ap is_eq (tied_itself total x))

-- a test of what isn't so fails
pub undecided : {P : Type 0} {b : Bool} → Decides b P → (P → ⊥) → false ≡ b
undecided {b = true} told not_so = absurd (not_so (told.0 refl))
undecided {b = false} told not_so = refl

pub junctions_decides : (xs ys : List Junction) → Decides (eq_by_cmp junctions_cmp xs ys) (xs ≡ ys)
junctions_decides = tie_decides junctions_total junctions_exact

pub location_decides : (x y : Location) → Decides (eq_by_cmp location_cmp x y) (x ≡ y)
location_decides = tie_decides location_total location_exact

pub junction_decides : (x y : Junction) → Decides (eq_by_cmp junction_cmp x y) (x ≡ y)
junction_decides = tie_decides junction_total junction_exact

pub exact_order : {K : Type 0} {R : K → K → Ordering} → IsTotalOrder R → IsAntisymmetric R → IsExactOrder R
exact_order {R = R} total exact = record {
  antisymmetric = total.antisymm;
  transitive = total.trans;
  exact = λ x y. (exact x y, λ same. ap (λ z. R x z) (sym same) ∙ tied_itself total x);
}

pub networks_exactly : IsExactOrder network_cmp
networks_exactly = exact_order network_total network_exact

pub bodies_exactly : IsExactOrder body_cmp
bodies_exactly = exact_order body_total body_exact

pub parts_exactly : IsExactOrder part_cmp
parts_exactly = exact_order part_total part_exact

pub junctions_exactly : IsExactOrder junction_cmp
junctions_exactly = exact_order junction_total junction_exact

pub interiors_exactly : IsExactOrder junctions_cmp
interiors_exactly = exact_order junctions_total junctions_exact

pub locations_exactly : IsExactOrder location_cmp
locations_exactly = exact_order location_total location_exact
