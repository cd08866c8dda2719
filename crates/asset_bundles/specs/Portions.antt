-- Lists of assets with other amounts, as the code makes them.
use Rattle.std.specs.Ordering.{eq_by_cmp}
use Rattle.std.specs.Prelude.{Bool, not, ℕ, zero, suc, ◌+◌, ◌-◌, nat_eq, nat_le, min, take, if◌then◌else◌, List, [], ◌∷◌, Option, Some, None, IsTrue, ⊤}
use Rattle.asset_lists.specs.declared.units.Fun.{Fun}
use Rattle.asset_lists.specs.declared.units.Asset.{Asset}
use Rattle.asset_lists.specs.declared.filters.Wild.{Wild}
use Rattle.asset_lists.specs.declared.filters.Filter.{Filter}
use Rattle.std.specs.List.{list_all}
use Rattle.asset_lists.specs.Units.{Unit, unit_of, amount_of, unit_cmp}
use Rattle.asset_lists.specs.Lists.{IsAssetList}
use Rattle.asset_bundles.specs.Bundles.{found}
use Rattle.asset_bundles.specs.Filters.{is_all_of}
use Rattle.asset_bundles.specs.Joins.{most_of, within_most, above_most}

abbrev pub fun_with : Fun → ℕ → Fun
fun_with (Fun.Fungible amount) n = Fun.Fungible n
fun_with (Fun.NonFungible instance) n = Fun.NonFungible instance

-- the same asset with this amount; an instance stays as it is
abbrev pub asset_with : Asset → ℕ → Asset
asset_with a n = record { id = a.id; fun = fun_with a.fun n }

-- put before others, if the amount isn't 0
abbrev pub with_remainder : Asset → ℕ → List Asset → List Asset
with_remainder a zero rest = rest
with_remainder a (suc n) rest = asset_with a (suc n) ∷ rest

-- each asset with the amount that f gives, without those that have none
abbrev pub changed : (Unit → ℕ → ℕ) → List Asset → List Asset
changed f [] = []
changed f (a ∷ xs) = with_remainder a (f (unit_of a) (amount_of a)) (changed f xs)

-- what is taken of each unit where these are asked for
abbrev pub common_with : List Asset → Unit → ℕ → ℕ
common_with list unit n = min n (found unit list)

-- what is left of each unit where the listed assets are taken
abbrev pub left_of : List Asset → Unit → ℕ → ℕ
left_of taken unit n = n - found unit taken

abbrev pub wanted_wild : Wild → Unit → ℕ → ℕ
wanted_wild Wild.All unit n = n
wanted_wild (Wild.AllOf id fun) unit n = if is_all_of id fun unit then n else 0
wanted_wild (Wild.AllCounted count) unit n = n
wanted_wild (Wild.AllOfCounted id fun count) unit n = if is_all_of id fun unit then n else 0

-- what a filter wants of each unit, were there no count
abbrev pub wanted : Filter → Unit → ℕ → ℕ
wanted (Filter.Definite list) unit n = common_with list unit n
wanted (Filter.Wild wild) unit n = wanted_wild wild unit n

abbrev pub count_wild : Wild → Option ℕ
count_wild Wild.All = None
count_wild (Wild.AllOf id fun) = None
count_wild (Wild.AllCounted count) = Some count
count_wild (Wild.AllOfCounted id fun count) = Some count

abbrev pub count_of_filter : Filter → Option ℕ
count_of_filter (Filter.Definite list) = None
count_of_filter (Filter.Wild wild) = count_wild wild

abbrev pub at_most : Option ℕ → List Asset → List Asset
at_most None xs = xs
at_most (Some n) xs = take n xs

-- what a filter takes of a list in holding order
abbrev pub chosen : Filter → List Asset → List Asset
chosen filter xs = at_most (count_of_filter filter) (changed (wanted filter) xs)

-- the assets that a filter names are a list
abbrev pub IsListed : Filter → Type 0
IsListed (Filter.Definite list) = IsAssetList list
IsListed (Filter.Wild wild) = ⊤

-- so much of a unit taken from the first asset that is of it
abbrev pub spent : Unit → ℕ → List Asset → List Asset
spent unit n [] = []
spent unit n (a ∷ xs) = if eq_by_cmp unit_cmp unit (unit_of a) then with_remainder a (amount_of a - n) xs else (a ∷ spent unit n xs)

abbrev pub is_other : Unit → Asset → Bool
is_other unit a = not (eq_by_cmp unit_cmp unit (unit_of a))

-- what is kept of each unit with what there is more of it
abbrev pub grown_by : List Asset → Unit → ℕ → ℕ
grown_by more unit n = within_most unit (n + found unit more)

-- what is given up of each unit with what there is more of it
abbrev pub above_by : List Asset → Unit → ℕ → ℕ
above_by more unit n = above_most unit (n + found unit more)

-- what there is of each unit that isn't there yet
abbrev pub new_to : List Asset → Unit → ℕ → ℕ
new_to items unit n = if nat_eq (found unit items) 0 then n else 0

abbrev pub is_within_most : Asset → Bool
is_within_most a = nat_le (amount_of a) (most_of (unit_of a).1)

-- no amount is above the most that a bundle holds
abbrev pub AreWithinMost : List Asset → Type 0
AreWithinMost xs = IsTrue (list_all is_within_most xs)
