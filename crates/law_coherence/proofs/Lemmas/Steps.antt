-- Lemmas on the definitions of `specs/Steps.antt`: what proofs cite.
use Rattle.std.specs.Prelude.{◌≡◌, ◌≢◌, ℕ, zero, suc, ◌+◌, ◌≤◌, true, if◌then◌else◌, List, [], ◌∷◌, map, Option, Some, None, slice_get, slice_set, sum_by, option_map, refl}
use Rattle.std.proofs.Common.{sym, ap, ◌∙◌, subst, arith, ⊎_elim}
use Rattle.std.proofs.lemmas.Bool.{cases_eq}
use Rattle.std.proofs.lemmas.Option.{slice_get_within, get_or_from_slice_get, slice_get-map}
use Rattle.std.proofs.lemmas.List.Sums.{sum_by-set}
use Rattle.chain_ids.specs.declared.chain.ChainId.{ChainId}
use Rattle.trust_tables.specs.declared.rows.AssetRow.{AssetRow}
use Rattle.trust_tables.specs.declared.rows.AssetRole.TheVariants.{Native, Derivative}
use Rattle.trust_tables.specs.Accounts.{IsChain}
use Rattle.law_coherence.specs.UniversalAssets.{UniversalAsset, Choice, every}
use Rattle.law_coherence.specs.Networks.{Table, IsIn, asset_of_row, AreTwins, HasReserve, Agrees, is_home}
use Rattle.law_coherence.specs.Parts.{Part, WorldView, chain_of_part, Count, debt, stock, held_for, flight, deposits, withdrawals, home, supply, alive, population, owed, Backed, KeepsCover, NoCoverShrinks}
use Rattle.law_coherence.specs.Checking.{checking_at, IsChecked, AllChecked, AllWithin, IsWithinStart, IsAccounted, NoAccount, Accounted}
use Rattle.law_coherence.proofs.Lemmas.Checking.{home_of_account, accounted_alone, within_then}
use Rattle.law_coherence.specs.Steps.{tables_of, KeepsBut, none_but, KeepsBacking, IsSafe, IsExchange, SafeStep}
use Rattle.plain_lists.proofs.Lemmas.Facts.{same_some as some_same, same_some_number as some_number}

-- ---- indices of a list after a write
pub get_set_same : (w : WorldView) (c : ℕ) (p q : Part) → slice_get w c ≡ Some p → slice_get (slice_set w c q) c ≡ Some q
get_set_same [] c p q h = absurd (cc h)
get_set_same (x ∷ xs) zero p q h = refl
get_set_same (x ∷ xs) (suc c) p q h = get_set_same xs c p q h

pub get_set_other : (w : WorldView) (c d : ℕ) (q : Part) → (d ≡ c → ⊥) → slice_get (slice_set w c q) d ≡ slice_get w d
get_set_other [] c d q n = refl
get_set_other (x ∷ xs) zero zero q n = absurd (n refl)
get_set_other (x ∷ xs) zero (suc d) q n = refl
get_set_other (x ∷ xs) (suc c) zero q n = refl
get_set_other (x ∷ xs) (suc c) (suc d) q n = get_set_other xs c d q (λ e. n (ap suc e))

some_table : (x y : Table) → Some x ≡ Some y → x ≡ y
some_table x y e = cc

pub tables_set : (w : WorldView) (c : ℕ) (p q : Part) → slice_get w c ≡ Some p → q.table ≡ p.table → tables_of (slice_set w c q) ≡ tables_of w
tables_set [] c p q h same = refl
tables_set (x ∷ xs) zero p q h same = let there : x ≡ p = some_same x p h in ap (λ t. t ∷ tables_of xs) (same ∙ ap (λ (y : Part). y.table) (sym there))
tables_set (x ∷ xs) (suc c) p q h same = ap (λ ts. x.table ∷ ts) (tables_set xs c p q h same)

pub table_at : (w : WorldView) (c : ℕ) (p : Part) → slice_get w c ≡ Some p → slice_get (tables_of w) c ≡ Some p.table
table_at w c p h = slice_get-map (λ (p : Part). p.table) w c ∙ ap (option_map (λ (p : Part). p.table)) h

-- the part of a listed table
pub part_at : (w : WorldView) (k : ℕ) (t : Table) → slice_get (map (λ (p : Part). p.table) w) k ≡ Some t → (p : Part) × (slice_get w k ≡ Some p) × (p.table ≡ t)
part_at [] k t at = absurd (cc)
part_at (x ∷ xs) zero t at = (x, refl, cc)
part_at (x ∷ xs) (suc k) t at = part_at xs k t at

pub supply-set : (a : UniversalAsset) (w : WorldView) (c : ℕ) (p q : Part) → slice_get w c ≡ Some p → supply a (slice_set w c q) + home a p ≡ supply a w + home a q
unfolding supply
supply-set a w c p q h =
    let s = sum_by-set (home a) w c q p (slice_get_within w c p h) in
    ap (λ x. sum_by (home a) (slice_set w c q) + home a x) (sym (get_or_from_slice_get w c p p h)) ∙ s

pub population-set : (a : UniversalAsset) (choice : Choice) (w : WorldView) (c : ℕ) (p q : Part) → slice_get w c ≡ Some p → population a choice (slice_set w c q) + alive a choice p ≡ population a choice w + alive a choice q
unfolding population
population-set a choice w c p q h =
    let s = sum_by-set (alive a choice) w c q p (slice_get_within w c p h) in
    ap (λ x. sum_by (alive a choice) (slice_set w c q) + alive a choice x) (sym (get_or_from_slice_get w c p p h)) ∙ s

-- ---- a covered row
abbrev pub Covered : Table → ChainId → AssetRow → Count → Part → Part → Type 0
Covered t chain row count c r =
    debt (asset_of_row t row) count c + withdrawals chain (asset_of_row t row) count c + deposits t.site.chain (asset_of_row t row) count r ≤ held_for t.site.chain (asset_of_row t row) count r

-- ---- covers that don't shrink
-- the part that a chain had, where the tables are the same
part_there : (w v : WorldView) → tables_of v ≡ tables_of w → (k : ℕ) (x : Part) → slice_get v k ≡ Some x → (c : Part) × (slice_get w k ≡ Some c) × (c.table ≡ x.table)
part_there w v tables k x at =
    part_at w k x.table (ap (λ (ts : List Table). slice_get ts k) (sym tables) ∙ table_at v k x at)

pub same_cover : (w : WorldView) → NoCoverShrinks w w
same_cover w i j c c' r r' at_c at_c' at_r at_r' row count inside role =
    let chain : c ≡ c' = some_same c c' (sym at_c ∙ at_c') in
    let reserve : r ≡ r' = some_same r r' (sym at_r ∙ at_r') in
    let a = asset_of_row c.table row in
    subst (λ (x : Part). owed a count x r' + held_for (chain_of_part c) a count r ≤ owed a count c r + held_for (chain_of_part c) a count r') chain
    (subst (λ (z : Part). owed a count c z + held_for (chain_of_part c) a count r ≤ owed a count c r + held_for (chain_of_part c) a count z) reserve (omega arith))

pub cover_then : (w v u : WorldView) → tables_of v ≡ tables_of w → NoCoverShrinks w v → NoCoverShrinks v u → NoCoverShrinks w u
cover_then w v u tables one two i j c c' r r' at_c at_c' at_r at_r' row count inside role =
    let m = part_there v w (sym tables) i c at_c in
    let n = part_there v w (sym tables) j r at_r in
    let first = one i j c m.0 r n.0 at_c m.1 at_r n.1 row count inside role in
    let last = two i j m.0 c' n.0 r' m.1 at_c' n.1 at_r' row count (subst (λ (t : Table). IsIn t.rows row) (sym m.2) inside) (role ∙ ap (λ (t : Table). Derivative t.site.chain) (sym n.2)) in
    let second = subst (λ (t : Table). owed (asset_of_row t row) count c' r' + held_for t.site.chain (asset_of_row t row) count n.0 ≤ owed (asset_of_row t row) count m.0 n.0 + held_for t.site.chain (asset_of_row t row) count r') m.2 last in
    omega (arith, first, second)

-- what was covered is covered still
pub backed_then : (w v : WorldView) → tables_of v ≡ tables_of w → NoCoverShrinks w v → Backed w → Backed v
backed_then w v tables cover b i j x z row count at_x at_z inside role =
    let c = part_there w v tables i x at_x in
    let r = part_there w v tables j z at_z in
    let inside_c = subst (λ (t : Table). IsIn t.rows row) (sym c.2) inside in
    let role_r = role ∙ ap (λ (t : Table). Derivative t.site.chain) (sym r.2) in
    let before = b i j c.0 r.0 row count c.1 r.1 inside_c role_r in
    let kept = cover i j c.0 x r.0 z c.1 at_x r.1 at_z row count inside_c role_r in
    subst (λ (t : Table). owed (asset_of_row t row) count x z ≤ held_for t.site.chain (asset_of_row t row) count z) c.2 (omega (arith, before, kept))

-- a chain of the new world, and what it was
pub record Was (w : WorldView) (k : ℕ) (x : Part) (but : ChainId → Type 0) : Type 0 where
  pub old : Part
  pub at : slice_get w k ≡ Some old
  pub keeps : KeepsBut but old x

pub keeps_itself : (but : ChainId → Type 0) (p : Part) → KeepsBut but p p
keeps_itself but p = record { table = refl; owing = λ row chain count inside role other. omega arith; covering = λ chain a count number foreign other. omega arith }

native_or_derivative : (row : AssetRow) (partners : List ChainId) (checking : Option ℕ) (chain : ChainId) → row.role ≡ Native partners checking → row.role ≡ Derivative chain → ⊥
native_or_derivative row partners checking chain n d = absurd (cc)

-- ---- checking accounts
pub alive_here : (a : UniversalAsset) (p : Part) → is_home a p.table ≡ true → alive a every p ≡ stock a every p + flight a every p
unfolding alive
alive_here a p home = ap (λ b. if b then stock a every p + flight a every p else 0) home

alive_now : (a : UniversalAsset) (p q : Part) → q.table ≡ p.table → is_home a q.table ≡ true → (alive a every q ≡ stock a every q + flight a every q) × (alive a every p ≡ stock a every p + flight a every p)
alive_now a p q table home = (alive_here a q home, alive_here a p (ap (is_home a) (sym table) ∙ home))

-- where the chain of the account changes, in worlds with so much of the asset
account_covers : (a : UniversalAsset) (p q : Part) (amount away_before away all_before all : ℕ) → q.table ≡ p.table → IsAccounted (checking_at a p) (checking_at a q) (flight a every p + away_before) (flight a every q + away) (stock a every p) (stock a every q)
    → checking_at a q ≡ Some amount → all + (away_before + alive a every p) ≤ all_before + (away + alive a every q) → ((m : ℕ) → checking_at a p ≡ Some m → all_before ≤ m + stock a every p) → all ≤ amount + stock a every q
account_covers a p q amount away_before away all_before all table (NoAccount was now) is less covered = absurd (let e : None ≡ Some amount = sym now ∙ is in cc)
account_covers a p q amount away_before away all_before all table (Accounted m n was now out in_all) is less covered =
    let same = some_number n amount (sym now ∙ is) in
    let lives = alive_now a p q table (home_of_account a q amount is) in
    let before = covered m was in
    omega (arith, same, lives.0, lives.1, before, out, less)

module _ (w : WorldView) (i : ℕ) (p q : Part) (at : slice_get w i ≡ Some p) (safe : IsSafe p q) where
  all_checked : AllChecked w → AllChecked (slice_set w i q)
  all_checked checked k x a amount at_k is = ⊎_elim
      (λ (same : k ≡ i).
      let there : q ≡ x = some_same q x (sym (get_set_same w i p q at) ∙ ap (slice_get (slice_set w i q)) (sym same) ∙ at_k) in
      let set = population-set a every w i p q at in
      subst (λ (y : Part). IsChecked (slice_set w i q) y a amount) there
      (account_covers a p q amount 0 0 (population a every w) (population a every (slice_set w i q)) safe.keeps.table (accounted_alone (checking_at a p) (checking_at a q) (flight a every p) (flight a every q) (stock a every p) (stock a every q) (safe.accounted a)) (ap (checking_at a) there ∙ is) (omega (arith, set)) (λ m was. checked i p a m at was)))
      (λ n.
      let set = population-set a every w i p q at in
      let less = safe.rare a every in
      let before = checked k x a amount (sym (get_set_other w i k q n) ∙ at_k) is in
      omega (arith, set, less, before))
      (cases_eq k i)

  all_within : (first : WorldView) → AllWithin first w → AllWithin first (slice_set w i q)
  all_within first within k g x a at_g at_k = ⊎_elim
      (λ (same : k ≡ i).
      let there : q ≡ x = some_same q x (sym (get_set_same w i p q at) ∙ ap (slice_get (slice_set w i q)) (sym same) ∙ at_k) in
      subst (λ (y : Part). IsWithinStart (checking_at a g) (checking_at a y) (stock a every g) (stock a every y)) there
      (within_then (checking_at a g) (checking_at a p) (checking_at a q) _ _ (stock a every g) (stock a every p) (stock a every q) (within k g p a at_g (ap (slice_get w) same ∙ at)) (safe.accounted a)))
      (λ n. within k g x a at_g (sym (get_set_other w i k q n) ∙ at_k))
      (cases_eq k i)

module _ (w : WorldView) (agrees : Agrees (tables_of w)) where
  in_tables : (k : ℕ) (p : Part) → slice_get w k ≡ Some p → IsIn (tables_of w) p.table
  in_tables k p h = (k, table_at w k p h)

  pub number_of : (k : ℕ) (p : Part) → slice_get w k ≡ Some p → IsChain (chain_of_part p)
  number_of k p h = agrees.network.chains p.table (in_tables k p h)

  pub place_of_one : (k l : ℕ) (p q : Part) → slice_get w k ≡ Some p → slice_get w l ≡ Some q → chain_of_part p ≡ chain_of_part q → k ≡ l
  place_of_one k l p q hk hl same = agrees.network.apart k l p.table q.table (table_at w k p hk) (table_at w l q hl) same

  -- no chain is its own reserve
  pub reserve_is_other : (k : ℕ) (p : Part) (row : AssetRow) (chain : ChainId) → slice_get w k ≡ Some p → IsIn p.table.rows row → row.role ≡ Derivative chain → chain ≢ chain_of_part p
  reserve_is_other k p row chain h inside role self =
      let r : HasReserve (tables_of w) p.table row chain = agrees.reserves p.table row chain (in_tables k p h) inside role in
      let place : r.listed.0 ≡ k = agrees.network.apart r.listed.0 k r.table p.table r.listed.1 (table_at w k p h) (r.at_chain ∙ self) in
      let table : r.table ≡ p.table = some_table r.table p.table (sym r.listed.1 ∙ ap (slice_get (tables_of w)) place ∙ table_at w k p h) in
      let twins : AreTwins p.table p.table row r.row = subst (λ (t : Table). AreTwins p.table t row r.row) table r.twins in
      let rows : r.row ≡ row = agrees.paths_apart p.table r.row row (in_tables k p h) twins.there inside twins.path in
      native_or_derivative row r.partners r.checking chain (sym (ap (λ (x : AssetRow). x.role) rows) ∙ r.native) role

  -- a pair of chains, neither of which deals with the other
  pair_covers : (k l : ℕ) (x z : Part) (but_k but_l : ChainId → Type 0) (was : Was w k x but_k) (had : Was w l z but_l) → (but_k (chain_of_part had.old) → ⊥) → (but_l (chain_of_part was.old) → ⊥) → KeepsCover was.old x had.old z
  pair_covers k l x z but_k but_l was had fine_k fine_l row count inside role =
      let y = was.old in
      let u = had.old in
      let a = asset_of_row y.table row in
      let less = was.keeps.owing row (chain_of_part u) count inside role fine_k in
      let more = had.keeps.covering (chain_of_part y) a count (number_of k y was.at) (λ same. reserve_is_other k y row (chain_of_part u) was.at inside role (sym same)) fine_l in
      let reserves : withdrawals (chain_of_part z) a count x ≡ withdrawals (chain_of_part u) a count x = ap (λ (t : Table). withdrawals t.site.chain a count x) had.keeps.table in
      let chains : deposits (chain_of_part x) a count z ≡ deposits (chain_of_part y) a count z = ap (λ (t : Table). deposits t.site.chain a count z) was.keeps.table in
      omega (arith, less, more, reserves, chains)

  -- so for the parts that these chains had
  pair_covers_at : (k l : ℕ) (c x r z : Part) (but_k but_l : ChainId → Type 0) (was : Was w k x but_k) (had : Was w l z but_l) → slice_get w k ≡ Some c → slice_get w l ≡ Some r
      → (but_k (chain_of_part r) → ⊥) → (but_l (chain_of_part c) → ⊥) → KeepsCover c x r z
  pair_covers_at k l c x r z but_k but_l was had at_k at_l fine_k fine_l =
      let chain : was.old ≡ c = some_same was.old c (sym was.at ∙ at_k) in
      let reserve : had.old ≡ r = some_same had.old r (sym had.at ∙ at_l) in
      subst (λ (y : Part). KeepsCover y x r z) chain (subst (λ (u : Part). KeepsCover was.old x u z) reserve
      (pair_covers k l x z but_k but_l was had (subst (λ (u : Part). but_k (chain_of_part u) → ⊥) (sym reserve) fine_k) (subst (λ (y : Part). but_l (chain_of_part y) → ⊥) (sym chain) fine_l)))

  -- ONE CHAIN
  was_here : (i k : ℕ) (p q x : Part) → slice_get w i ≡ Some p → KeepsBacking p q → slice_get (slice_set w i q) k ≡ Some x → Was w k x none_but
  was_here i k p q x at kept now = ⊎_elim
      (λ (same : k ≡ i).
      let there : q ≡ x = some_same q x (sym (get_set_same w i p q at) ∙ ap (slice_get (slice_set w i q)) (sym same) ∙ now) in
      let r : Was w k x none_but = record { old = p; at = ap (slice_get w) same ∙ at; keeps = subst (KeepsBut none_but p) there kept } in r)
      (λ n. let r : Was w k x none_but = record { old = x; at = sym (get_set_other w i k q n) ∙ now; keeps = keeps_itself none_but x } in r)
      (cases_eq k i)

  one_covers : (i : ℕ) (p q : Part) → slice_get w i ≡ Some p → KeepsBacking p q → NoCoverShrinks w (slice_set w i q)
  one_covers i p q at kept k l c x r z at_c at_x at_r at_z =
      pair_covers_at k l c x r z none_but none_but (was_here i k p q x at kept at_x) (was_here i l p q z at kept at_z) at_c at_r (λ e. e) (λ e. e)

  pub safe_step : (i : ℕ) (p q : Part) → slice_get w i ≡ Some p → IsSafe p q → SafeStep w (slice_set w i q)
  safe_step i p q at safe = record {
    tables = tables_set w i p q at safe.keeps.table;
    supplied = λ a. let s = supply-set a w i p q at in let h = safe.owned a in omega (arith, s, h);
    rare = λ a choice. let s = population-set a choice w i p q at in let h = safe.rare a choice in omega (arith, s, h);
    cover = one_covers i p q at safe.keeps;
    backed = backed_then w (slice_set w i q) (tables_set w i p q at safe.keeps.table) (one_covers i p q at safe.keeps);
    checked = all_checked w i p q at safe;
    within = all_within w i p q at safe;
  }

-- where a chain is after two writes
pub data Spot (w : WorldView) (i j : ℕ) (p q : Part) (k : ℕ) (x : Part) : Type 0 where
  AtFirst : k ≡ i → p ≡ x → Spot w i j p q k x
  AtSecond : k ≡ j → q ≡ x → Spot w i j p q k x
  Elsewhere : (k ≡ i → ⊥) → (k ≡ j → ⊥) → slice_get w k ≡ Some x → Spot w i j p q k x

spot_of : (w : WorldView) (i j : ℕ) (p p' q q' : Part) → slice_get w i ≡ Some p → slice_get w j ≡ Some q → (i ≡ j → ⊥) → (k : ℕ) (x : Part) → slice_get (slice_set (slice_set w i p') j q') k ≡ Some x → Spot w i j p' q' k x
spot_of w i j p p' q q' at_i at_j apart k x now =
    let mid : slice_get (slice_set w i p') j ≡ Some q = get_set_other w i j p' (λ e. apart (sym e)) ∙ at_j in
    ⊎_elim
    (λ (kj : k ≡ j). let r : Spot w i j p' q' k x = AtSecond kj (some_same q' x (sym (get_set_same (slice_set w i p') j q q' mid) ∙ ap (slice_get (slice_set (slice_set w i p') j q')) (sym kj) ∙ now)) in r)
    (λ nj. let mid_k : slice_get (slice_set w i p') k ≡ Some x = sym (get_set_other (slice_set w i p') j k q' nj) ∙ now in
    ⊎_elim
    (λ (ki : k ≡ i). let r : Spot w i j p' q' k x = AtFirst ki (some_same p' x (sym (get_set_same w i p p' at_i) ∙ ap (slice_get (slice_set w i p')) (sym ki) ∙ mid_k)) in r)
    (λ ni. let r : Spot w i j p' q' k x = Elsewhere ni nj (sym (get_set_other w i k p' ni) ∙ mid_k) in r)
    (cases_eq k i))
    (cases_eq k j)

module _ (w : WorldView) (agrees : Agrees (tables_of w)) (i j : ℕ) (p p' q q' : Part) (at_i : slice_get w i ≡ Some p) (at_j : slice_get w j ≡ Some q) (apart : i ≡ j → ⊥) (e : IsExchange p p' q q') where
  self_reserve : (k : ℕ) (y x z : Part) (row : AssetRow) → slice_get w k ≡ Some y → x.table ≡ y.table → z.table ≡ y.table → IsIn x.table.rows row → row.role ≡ Derivative (chain_of_part z) → ⊥
  self_reserve k y x z row at xt zt inside role =
      reserve_is_other w agrees k y row (chain_of_part z) at (subst (λ (t : Table). IsIn t.rows row) xt inside) role (ap (λ (t : Table). t.site.chain) zt)

  first_was : (k : ℕ) (x : Part) → k ≡ i → p' ≡ x → Was w k x (λ chain. chain ≡ chain_of_part q)
  first_was k x ki px = record { old = p; at = ap (slice_get w) ki ∙ at_i; keeps = subst (KeepsBut (λ chain. chain ≡ chain_of_part q) p) px e.first }

  second_was : (k : ℕ) (x : Part) → k ≡ j → q' ≡ x → Was w k x (λ chain. chain ≡ chain_of_part p)
  second_was k x kj qx = record { old = q; at = ap (slice_get w) kj ∙ at_j; keeps = subst (KeepsBut (λ chain. chain ≡ chain_of_part p) q) qx e.second }

  other_was : (k : ℕ) (x : Part) → slice_get w k ≡ Some x → Was w k x none_but
  other_was k x at = record { old = x; at = at; keeps = keeps_itself none_but x }

  -- the part that was where the first was written, and the second
  first_old : (k : ℕ) (c : Part) → slice_get w k ≡ Some c → k ≡ i → p ≡ c
  first_old k c at ki = some_same p c (sym at_i ∙ ap (slice_get w) (sym ki) ∙ at)

  second_old : (k : ℕ) (c : Part) → slice_get w k ≡ Some c → k ≡ j → q ≡ c
  second_old k c at kj = some_same q c (sym at_j ∙ ap (slice_get w) (sym kj) ∙ at)

  table_same : (x y : Part) → x ≡ y → y.table ≡ x.table
  table_same x y e = ap (λ (z : Part). z.table) (sym e)

  spots_cover : (k l : ℕ) (c x r z : Part) → slice_get w k ≡ Some c → slice_get w l ≡ Some r → Spot w i j p' q' k x → Spot w i j p' q' l z → KeepsCover c x r z
  unfolding other_was
  spots_cover k l c x r z at_c at_r (AtFirst ki px) (AtFirst li pz) =
      λ row count inside role. absurd (self_reserve i p c r row at_i (table_same p c (first_old k c at_c ki)) (table_same p r (first_old l r at_r li)) inside role)
  spots_cover k l c x r z at_c at_r (AtFirst ki px) (AtSecond lj qz) =
      subst (λ (y : Part). KeepsCover y x r z) (first_old k c at_c ki) (subst (λ (u : Part). KeepsCover p x u z) (second_old l r at_r lj)
      (subst (λ (y : Part). KeepsCover p y q z) px (subst (KeepsCover p p' q) qz e.there)))
  spots_cover k l c x r z at_c at_r (AtFirst ki px) (Elsewhere ni nj at) =
      pair_covers_at w agrees k l c x r z (λ chain. chain ≡ chain_of_part q) none_but (first_was k x ki px) (other_was l z at) at_c at_r
      (λ same. nj (place_of_one w agrees l j r q at_r at_j same)) (λ h. h)
  spots_cover k l c x r z at_c at_r (AtSecond kj qx) (AtFirst li pz) =
      subst (λ (y : Part). KeepsCover y x r z) (second_old k c at_c kj) (subst (λ (u : Part). KeepsCover q x u z) (first_old l r at_r li)
      (subst (λ (y : Part). KeepsCover q y p z) qx (subst (KeepsCover q q' p) pz e.back)))
  spots_cover k l c x r z at_c at_r (AtSecond kj qx) (AtSecond lj qz) =
      λ row count inside role. absurd (self_reserve j q c r row at_j (table_same q c (second_old k c at_c kj)) (table_same q r (second_old l r at_r lj)) inside role)
  spots_cover k l c x r z at_c at_r (AtSecond kj qx) (Elsewhere ni nj at) =
      pair_covers_at w agrees k l c x r z (λ chain. chain ≡ chain_of_part p) none_but (second_was k x kj qx) (other_was l z at) at_c at_r
      (λ same. ni (place_of_one w agrees l i r p at_r at_i same)) (λ h. h)
  spots_cover k l c x r z at_c at_r (Elsewhere ni nj at) (AtFirst li pz) =
      pair_covers_at w agrees k l c x r z none_but (λ chain. chain ≡ chain_of_part q) (other_was k x at) (first_was l z li pz) at_c at_r
      (λ h. h) (λ same. nj (place_of_one w agrees k j c q at_c at_j same))
  spots_cover k l c x r z at_c at_r (Elsewhere ni nj at) (AtSecond lj qz) =
      pair_covers_at w agrees k l c x r z none_but (λ chain. chain ≡ chain_of_part p) (other_was k x at) (second_was l z lj qz) at_c at_r
      (λ h. h) (λ same. ni (place_of_one w agrees k i c p at_c at_i same))
  spots_cover k l c x r z at_c at_r (Elsewhere ni nj at) (Elsewhere mi mj has) =
      pair_covers_at w agrees k l c x r z none_but none_but (other_was k x at) (other_was l z has) at_c at_r (λ h. h) (λ h. h)

  two_cover : NoCoverShrinks w (slice_set (slice_set w i p') j q')
  two_cover k l c x r z at_c at_x at_r at_z =
      spots_cover k l c x r z at_c at_r (spot_of w i j p p' q q' at_i at_j apart k x at_x) (spot_of w i j p p' q q' at_i at_j apart l z at_z)

module _ (w : WorldView) (i j : ℕ) (p p' q q' : Part) (at_i : slice_get w i ≡ Some p) (at_j : slice_get w j ≡ Some q) (apart : i ≡ j → ⊥) (e : IsExchange p p' q q') where
  population-both : (a : UniversalAsset) → population a every (slice_set (slice_set w i p') j q') + (alive a every p + alive a every q) ≡ population a every w + (alive a every p' + alive a every q')
  population-both a =
      let one = population-set a every w i p p' at_i in
      let two = population-set a every (slice_set w i p') j q q' (get_set_other w i j p' (λ h. apart (sym h)) ∙ at_j) in
      omega (arith, one, two)

  both_checked : AllChecked w → (k : ℕ) (x : Part) (a : UniversalAsset) (amount : ℕ) → Spot w i j p' q' k x → checking_at a x ≡ Some amount → IsChecked (slice_set (slice_set w i p') j q') x a amount
  both_checked checked k x a amount (AtFirst ki px) is =
      let both = population-both a in
      subst (λ (y : Part). IsChecked (slice_set (slice_set w i p') j q') y a amount) px
      (account_covers a p p' amount (alive a every q) (alive a every q') (population a every w) (population a every (slice_set (slice_set w i p') j q')) e.first.table (e.accounted_back a) (ap (checking_at a) px ∙ is)
      (omega (arith, both)) (λ m was. checked i p a m at_i was))
  both_checked checked k x a amount (AtSecond kj qx) is =
      let both = population-both a in
      subst (λ (y : Part). IsChecked (slice_set (slice_set w i p') j q') y a amount) qx
      (account_covers a q q' amount (alive a every p) (alive a every p') (population a every w) (population a every (slice_set (slice_set w i p') j q')) e.second.table (e.accounted a) (ap (checking_at a) qx ∙ is)
      (omega (arith, both)) (λ m was. checked j q a m at_j was))
  both_checked checked k x a amount (Elsewhere ni nj at) is =
      let both = population-both a in
      let less = e.rare a every in
      let before = checked k x a amount at is in
      omega (arith, both, less, before)

  both_within : (first : WorldView) → AllWithin first w → (k : ℕ) (g x : Part) (a : UniversalAsset) → slice_get first k ≡ Some g → Spot w i j p' q' k x → IsWithinStart (checking_at a g) (checking_at a x) (stock a every g) (stock a every x)
  both_within first within k g x a at_g (AtFirst ki px) =
      subst (λ (y : Part). IsWithinStart (checking_at a g) (checking_at a y) (stock a every g) (stock a every y)) px
      (within_then (checking_at a g) (checking_at a p) (checking_at a p') _ _ (stock a every g) (stock a every p) (stock a every p') (within k g p a at_g (ap (slice_get w) ki ∙ at_i)) (e.accounted_back a))
  both_within first within k g x a at_g (AtSecond kj qx) =
      subst (λ (y : Part). IsWithinStart (checking_at a g) (checking_at a y) (stock a every g) (stock a every y)) qx
      (within_then (checking_at a g) (checking_at a q) (checking_at a q') _ _ (stock a every g) (stock a every q) (stock a every q') (within k g q a at_g (ap (slice_get w) kj ∙ at_j)) (e.accounted a))
  both_within first within k g x a at_g (Elsewhere ni nj at) = within k g x a at_g at

-- TWO CHAINS
pub safe_exchange : (w : WorldView) → Agrees (tables_of w) → (i j : ℕ) (p p' q q' : Part) → slice_get w i ≡ Some p → slice_get w j ≡ Some q → (i ≡ j → ⊥) → IsExchange p p' q q'
    → SafeStep w (slice_set (slice_set w i p') j q')
safe_exchange w agrees i j p p' q q' at_i at_j apart e =
    let mid : slice_get (slice_set w i p') j ≡ Some q = get_set_other w i j p' (λ h. apart (sym h)) ∙ at_j in
    let tables : tables_of (slice_set (slice_set w i p') j q') ≡ tables_of w = tables_set (slice_set w i p') j q q' mid e.second.table ∙ tables_set w i p p' at_i e.first.table in
    let cover = two_cover w agrees i j p p' q q' at_i at_j apart e in
    record {
      tables = tables;
      supplied = λ a.
          let one = supply-set a w i p p' at_i in
          let two = supply-set a (slice_set w i p') j q q' mid in
          let both = e.owned a in
          omega (arith, one, two, both);
      rare = λ a choice.
          let one = population-set a choice w i p p' at_i in
          let two = population-set a choice (slice_set w i p') j q q' mid in
          let both = e.rare a choice in
          omega (arith, one, two, both);
      cover = cover;
      backed = backed_then w (slice_set (slice_set w i p') j q') tables cover;
      checked = λ checked k x a amount at_k is. both_checked w i j p p' q q' at_i at_j apart e checked k x a amount (spot_of w i j p p' q q' at_i at_j apart k x at_k) is;
      within = λ first within k g x a at_g at_k. both_within w i j p p' q q' at_i at_j apart e first within k g x a at_g (spot_of w i j p p' q q' at_i at_j apart k x at_k);
    }
