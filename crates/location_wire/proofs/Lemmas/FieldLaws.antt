-- One law for each type: its reader takes what is spelled, and nothing else.
use Rattle.std.proofs.Common.{◌≡◌, ℕ, List, ◌++◌, length, Some, refl, arith}
use Rattle.std.specs.Prelude.{IfSome}
use Rattle.scale_codec.specs.Spelling.{byte, fixed, compact, optional}
use Rattle.scale_codec.specs.Reading.{Reads, u8_at, take_at, indexed_at, optional_at}
use Rattle.scale_codec.proofs.Lemmas.NumberLaws.{byte_reads, fixed_reads, bytes_reads}
use Rattle.scale_codec.proofs.Lemmas.Compact.{c32, c64, c128}
use Rattle.scale_codec.proofs.Lemmas.Schemes.{◌&◌, AllFormed, at_most_reads, indexed_reads, made1_again, made2_again, made2_reads, formed0, formed1, formed2, optional_reads, counted_reads}
use Rattle.locations.specs.declared.grammar.NetworkId.{NetworkId}
use Rattle.locations.specs.declared.grammar.NetworkId.TheVariants.{ByGenesis, ByFork, Polkadot, Kusama, Westend, Rococo, Wococo, Ethereum, BitcoinCore, BitcoinCash}
use Rattle.locations.specs.declared.grammar.BodyId.{BodyId}
use Rattle.locations.specs.declared.grammar.BodyId.TheVariants.{Unit, Moniker, Index, Executive, Technical, Legislative, Judicial, Defense, Administration, Treasury}
use Rattle.locations.specs.declared.grammar.BodyPart.{BodyPart}
use Rattle.locations.specs.declared.grammar.BodyPart.TheVariants.{Voice, Members, Fraction, AtLeastProportion, MoreThanProportion}
use Rattle.locations.specs.declared.grammar.Junction.{Junction}
use Rattle.locations.specs.declared.grammar.Junction.TheVariants.{Parachain, AccountId32, AccountIndex64, AccountKey20, PalletInstance, GeneralIndex, GeneralKey, OnlyChild, Plurality, GlobalConsensus}
use Rattle.location_wire.specs.Spelling.{network, FitsNetwork, body, FitsBody, part, FitsPart, junction, FitsJunction, junctions, FitsJunctions, location, FitsLocation}
use Rattle.location_wire.specs.Reading.{network_forms, network_at, body_forms, body_at, part_forms, body_part_at, junction_forms, junction_at, junction_count_at, junctions_at, location_at}

pub taken : (n : ℕ) → Reads (λ x. x) (λ x. length x ≡ n) (take_at n)
taken = bytes_reads

-- ---- networks

network_formed : AllFormed network FitsNetwork 0 network_forms
network_formed =
    formed1 network FitsNetwork (λ x. x) _ _ (taken 32) ByGenesis 0 (λ _. refl) (λ _ h. h)
    & formed2 network FitsNetwork (fixed 8) _ _ (fixed_reads 8) (λ x. x) _ _ (taken 32) ByFork 1 (λ _ _. refl) (λ _ _ h k. (h, k))
    & formed0 network FitsNetwork 2 Polkadot refl tt
    & formed0 network FitsNetwork 3 Kusama refl tt
    & formed0 network FitsNetwork 4 Westend refl tt
    & formed0 network FitsNetwork 5 Rococo refl tt
    & formed0 network FitsNetwork 6 Wococo refl tt
    & formed1 network FitsNetwork compact _ _ c64 Ethereum 7 (λ _. refl) (λ _ h. h)
    & formed0 network FitsNetwork 8 BitcoinCore refl tt
    & formed0 network FitsNetwork 9 BitcoinCash refl tt
    & tt

network_again : (n : NetworkId) (rest : List ℕ) → FitsNetwork n → indexed_at network_forms (network n ++ rest) ≡ Some (n, rest)
network_again (ByGenesis hash) rest fits = made1_again (λ x. x) _ _ (taken 32) ByGenesis hash rest fits
network_again (ByFork number hash) rest fits = made2_again (fixed 8) _ _ (fixed_reads 8) (λ x. x) _ _ (taken 32) ByFork number hash rest fits.0 fits.1
network_again Polkadot rest fits = refl
network_again Kusama rest fits = refl
network_again Westend rest fits = refl
network_again Rococo rest fits = refl
network_again Wococo rest fits = refl
network_again (Ethereum chain) rest fits = made1_again compact _ _ c64 Ethereum chain rest fits
network_again BitcoinCore rest fits = refl
network_again BitcoinCash rest fits = refl

pub network_reads : Reads network FitsNetwork network_at
unfolding network_at
network_reads = indexed_reads network FitsNetwork network_forms network_formed network_again

-- ---- bodies

body_formed : AllFormed body FitsBody 0 body_forms
body_formed =
    formed0 body FitsBody 0 Unit refl tt
    & formed1 body FitsBody (λ x. x) _ _ (taken 4) Moniker 1 (λ _. refl) (λ _ h. h)
    & formed1 body FitsBody compact _ _ c32 Index 2 (λ _. refl) (λ _ h. h)
    & formed0 body FitsBody 3 Executive refl tt
    & formed0 body FitsBody 4 Technical refl tt
    & formed0 body FitsBody 5 Legislative refl tt
    & formed0 body FitsBody 6 Judicial refl tt
    & formed0 body FitsBody 7 Defense refl tt
    & formed0 body FitsBody 8 Administration refl tt
    & formed0 body FitsBody 9 Treasury refl tt
    & tt

body_again : (b : BodyId) (rest : List ℕ) → FitsBody b → indexed_at body_forms (body b ++ rest) ≡ Some (b, rest)
body_again Unit rest fits = refl
body_again (Moniker name) rest fits = made1_again (λ x. x) _ _ (taken 4) Moniker name rest fits
body_again (Index index) rest fits = made1_again compact _ _ c32 Index index rest fits
body_again Executive rest fits = refl
body_again Technical rest fits = refl
body_again Legislative rest fits = refl
body_again Judicial rest fits = refl
body_again Defense rest fits = refl
body_again Administration rest fits = refl
body_again Treasury rest fits = refl

pub body_reads : Reads body FitsBody body_at
unfolding body_at
body_reads = indexed_reads body FitsBody body_forms body_formed body_again

part_formed : AllFormed part FitsPart 0 part_forms
part_formed =
    formed0 part FitsPart 0 Voice refl tt
    & formed1 part FitsPart compact _ _ c32 Members 1 (λ _. refl) (λ _ h. h)
    & formed2 part FitsPart compact _ _ c32 compact _ _ c32 Fraction 2 (λ _ _. refl) (λ _ _ h k. (h, k))
    & formed2 part FitsPart compact _ _ c32 compact _ _ c32 AtLeastProportion 3 (λ _ _. refl) (λ _ _ h k. (h, k))
    & formed2 part FitsPart compact _ _ c32 compact _ _ c32 MoreThanProportion 4 (λ _ _. refl) (λ _ _ h k. (h, k))
    & tt

part_again : (p : BodyPart) (rest : List ℕ) → FitsPart p → indexed_at part_forms (part p ++ rest) ≡ Some (p, rest)
part_again Voice rest fits = refl
part_again (Members count) rest fits = made1_again compact _ _ c32 Members count rest fits
part_again (Fraction nom denom) rest fits = made2_again compact _ _ c32 compact _ _ c32 Fraction nom denom rest fits.0 fits.1
part_again (AtLeastProportion nom denom) rest fits = made2_again compact _ _ c32 compact _ _ c32 AtLeastProportion nom denom rest fits.0 fits.1
part_again (MoreThanProportion nom denom) rest fits = made2_again compact _ _ c32 compact _ _ c32 MoreThanProportion nom denom rest fits.0 fits.1

pub part_reads : Reads part FitsPart body_part_at
unfolding body_part_at
part_reads = indexed_reads part FitsPart part_forms part_formed part_again

-- ---- junctions

pub optional_network_reads : Reads (optional network) (λ o. IfSome o FitsNetwork) (optional_at network_at)
optional_network_reads = optional_reads network FitsNetwork network_at network_reads

junction_formed : AllFormed junction FitsJunction 0 junction_forms
unfolding junction
junction_formed =
    formed1 junction FitsJunction compact _ _ c32 Parachain 0 (λ _. refl) (λ _ h. h)
    & formed2 junction FitsJunction (optional network) _ _ optional_network_reads (λ x. x) _ _ (taken 32) AccountId32 1 (λ _ _. refl) (λ _ _ h k. (h, k))
    & formed2 junction FitsJunction (optional network) _ _ optional_network_reads compact _ _ c64 AccountIndex64 2 (λ _ _. refl) (λ _ _ h k. (h, k))
    & formed2 junction FitsJunction (optional network) _ _ optional_network_reads (λ x. x) _ _ (taken 20) AccountKey20 3 (λ _ _. refl) (λ _ _ h k. (h, k))
    & formed1 junction FitsJunction byte _ _ byte_reads PalletInstance 4 (λ _. refl) (λ _ h. h)
    & formed1 junction FitsJunction compact _ _ c128 GeneralIndex 5 (λ _. refl) (λ _ h. h)
    & formed2 junction FitsJunction byte _ _ byte_reads (λ x. x) _ _ (taken 32) GeneralKey 6 (λ _ _. refl) (λ _ _ h k. (h, k))
    & formed0 junction FitsJunction 7 OnlyChild refl tt
    & formed2 junction FitsJunction body _ _ body_reads part _ _ part_reads Plurality 8 (λ _ _. refl) (λ _ _ h k. (h, k))
    & formed1 junction FitsJunction network _ _ network_reads GlobalConsensus 9 (λ _. refl) (λ _ h. h)
    & tt

junction_again : (j : Junction) (rest : List ℕ) → FitsJunction j → indexed_at junction_forms (junction j ++ rest) ≡ Some (j, rest)
unfolding junction
junction_again (Parachain id) rest fits = made1_again compact _ _ c32 Parachain id rest fits
junction_again (AccountId32 net id) rest fits = made2_again (optional network) _ _ optional_network_reads (λ x. x) _ _ (taken 32) AccountId32 net id rest fits.0 fits.1
junction_again (AccountIndex64 net index) rest fits = made2_again (optional network) _ _ optional_network_reads compact _ _ c64 AccountIndex64 net index rest fits.0 fits.1
junction_again (AccountKey20 net key) rest fits = made2_again (optional network) _ _ optional_network_reads (λ x. x) _ _ (taken 20) AccountKey20 net key rest fits.0 fits.1
junction_again (PalletInstance index) rest fits = made1_again byte _ _ byte_reads PalletInstance index rest fits
junction_again (GeneralIndex index) rest fits = made1_again compact _ _ c128 GeneralIndex index rest fits
junction_again (GeneralKey len key) rest fits = made2_again byte _ _ byte_reads (λ x. x) _ _ (taken 32) GeneralKey len key rest fits.0 fits.1
junction_again OnlyChild rest fits = refl
junction_again (Plurality id share) rest fits = made2_again body _ _ body_reads part _ _ part_reads Plurality id share rest fits.0 fits.1
junction_again (GlobalConsensus net) rest fits = made1_again network _ _ network_reads GlobalConsensus net rest fits

pub junction_reads : Reads junction FitsJunction junction_at
unfolding junction_at
junction_reads = indexed_reads junction FitsJunction junction_forms junction_formed junction_again

-- ---- lists of junctions, and locations

pub junctions_reads : Reads junctions FitsJunctions junctions_at
unfolding junctions_at
junctions_reads = counted_reads byte _ junction_count_at (at_most_reads byte _ u8_at byte_reads 8 (λ n h. omega arith)) junction FitsJunction junction_at junction_reads

pub location_reads : Reads location FitsLocation location_at
unfolding location_at
location_reads = made2_reads byte _ _ byte_reads junctions _ _ junctions_reads (λ p i. record { parents = p; interior = i }) (λ l. (l.parents, l.interior)) (λ _. refl) (λ _. refl)
