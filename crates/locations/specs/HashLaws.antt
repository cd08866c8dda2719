-- Proofs that a reader skips: equal locations are hashed alike.
use Rattle.std.specs.Prelude.{◌≡◌, ℕ, true, List, [], ◌∷◌, ◌++◌, length, refl, slice_index_or}
use Rattle.std.proofs.Common.{sym, ap, ◌∙◌}
use Rattle.std.specs.Hash as fed
use Rattle.std.specs.Hash.{HashWrites}
use Rattle.std.specs.Ordering.{nat_cmp, eq_by_cmp, is_eq}
use Rattle.std.specs.Cmp.{Equal-is, first_so, second_so, tied_then}
use Rattle.std.specs.Cmp.Lexicographic.{slice_cmp}
use Rattle.std.specs.FinMap.{IsAntisymmetric, nat_cmp-IsAntisymmetric, slice_cmp-IsAntisymmetric}
use Rattle.locations.specs.declared.grammar.Junction.{Junction}
use Rattle.locations.specs.declared.grammar.Junction.TheVariants.{Parachain, AccountId32, AccountIndex64, AccountKey20, PalletInstance, GeneralIndex, GeneralKey, OnlyChild, Plurality, GlobalConsensus}
use Rattle.locations.specs.declared.relative.Location.{Location}
use Rattle.locations.specs.Order.{junction_fields, fields_cmp, junction_cmp, junctions_cmp, location_cmp}
use Rattle.locations.specs.Hashing.{junction_input, junctions_input, location_input}

-- what the hasher is given, from the fields
field_bytes : ℕ → List (List (List ℕ)) → List ℕ
field_bytes i fields = slice_index_or (slice_index_or fields i []) 0 []

field_number : ℕ → List (List (List ℕ)) → ℕ
field_number i fields = slice_index_or (field_bytes i fields) 0 0

fields_input : List (List (List ℕ)) → HashWrites
fields_input fs = slice_index_or (fed.u32 (field_number 1 fs) ∷ (field_bytes 2 fs ∷ []) ∷ fed.u64 (field_number 2 fs) ∷ (field_bytes 2 fs ∷ []) ∷ fed.u8 (field_number 1 fs) ∷ fed.u128 (field_number 1 fs) ∷ (field_bytes 2 fs ∷ []) ∷ []) (field_number 0 fs) []

input_by_fields : (j : Junction) → fields_input (junction_fields j) ≡ junction_input j
unfolding fields_input field_number field_bytes
input_by_fields (Parachain para) = refl
input_by_fields (AccountId32 network id) = refl
input_by_fields (AccountIndex64 network index) = refl
input_by_fields (AccountKey20 network key) = refl
input_by_fields (PalletInstance index) = refl
input_by_fields (GeneralIndex index) = refl
input_by_fields (GeneralKey len key) = refl
input_by_fields OnlyChild = refl
input_by_fields (Plurality id part) = refl
input_by_fields (GlobalConsensus network) = refl

junction_fields_exact : IsAntisymmetric (slice_cmp fields_cmp)
junction_fields_exact = slice_cmp-IsAntisymmetric (slice_cmp-IsAntisymmetric (slice_cmp-IsAntisymmetric nat_cmp-IsAntisymmetric))

junction_alike : (x y : Junction) → eq_by_cmp junction_cmp x y ≡ true → junction_input x ≡ junction_input y
junction_alike x y same =
    let fields : junction_fields x ≡ junction_fields y = junction_fields_exact (junction_fields x) (junction_fields y) ((Equal-is (junction_cmp x y)).0 same) in
    sym (input_by_fields x) ∙ ap fields_input fields ∙ input_by_fields y

each_alike : (xs ys : List Junction) → eq_by_cmp (slice_cmp junction_cmp) xs ys ≡ true → junctions_input xs ≡ junctions_input ys
each_alike [] [] same = refl
each_alike [] (y ∷ ys) same = absurd (cc)
each_alike (x ∷ xs) [] same = absurd (cc)
each_alike (x ∷ xs) (y ∷ ys) same =
    let both = tied_then (junction_cmp x y) (slice_cmp junction_cmp xs ys) ∙ same in
    λ i. junction_alike x y (first_so (is_eq (junction_cmp x y)) (is_eq (slice_cmp junction_cmp xs ys)) both) i ++ each_alike xs ys (second_so (is_eq (junction_cmp x y)) (is_eq (slice_cmp junction_cmp xs ys)) both) i

pub junctions_alike : (xs ys : List Junction) → eq_by_cmp junctions_cmp xs ys ≡ true → junctions_input xs ≡ junctions_input ys
junctions_alike xs ys same =
    each_alike xs ys (second_so (is_eq (nat_cmp (length xs) (length ys))) (is_eq (slice_cmp junction_cmp xs ys)) (tied_then (nat_cmp (length xs) (length ys)) (slice_cmp junction_cmp xs ys) ∙ same))

pub location_alike : (x y : Location) → eq_by_cmp location_cmp x y ≡ true → location_input x ≡ location_input y
location_alike x y same =
    let both = tied_then (nat_cmp x.parents y.parents) (junctions_cmp x.interior y.interior) ∙ same in
    let parents : x.parents ≡ y.parents = nat_cmp-IsAntisymmetric x.parents y.parents ((Equal-is (nat_cmp x.parents y.parents)).0 (first_so (is_eq (nat_cmp x.parents y.parents)) (is_eq (junctions_cmp x.interior y.interior)) both)) in
    let interior = junctions_alike x.interior y.interior (second_so (is_eq (nat_cmp x.parents y.parents)) (is_eq (junctions_cmp x.interior y.interior)) both) in
    λ i. fed.u8 (parents i) ++ interior i
