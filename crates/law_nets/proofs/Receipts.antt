-- Lemmas: a receiver trusts what is teleported to it, and its checking accounts have as much. A reader may skip this file.
use Rattle.std.proofs.Common.{◌≡◌, ℕ, suc, ◌+◌, ◌≤◌, Bool, true, false, List, [], ◌∷◌, length, Option, Some, None, cond, refl, sym, ap, ◌∙◌, subst, arith}
use Rattle.std.specs.Prelude.{IsTrue, if◌then◌else◌, map, nat_le, nat_lt, not, position, slice_get}
use Rattle.std.specs.List.{AllByRecursion, position_or_len}
use Rattle.std.specs.Option.{option_and_then, option_map_or}
use Rattle.std.specs.Ordering.{eq_by_cmp}
use Rattle.std.proofs.Math.Numerals.{one-add}
use Rattle.std.proofs.lemmas.Bool.{and_parts, and_from}
use Rattle.amounts.specs.Amounts.{amount, empty}
use Rattle.amounts.proofs.Lemmas.{amount_at_most}
use Rattle.locations.specs.declared.relative.Location.{Location}
use Rattle.locations.specs.Order.{junctions_cmp}
use Rattle.locations.proofs.Lemmas.OrderLaws.{junctions_decides}
use Rattle.operands.specs.declared.error.XcmError.TheVariants as error
use Rattle.asset_lists.specs.declared.units.Asset.{Asset}
use Rattle.asset_lists.specs.declared.units.AssetId.TheVariants.{Concrete}
use Rattle.asset_lists.proofs.Lemmas.{same_kind_says}
use Rattle.asset_lists.specs.Listed.{kind_of}
use Rattle.asset_lists.specs.Moves.{moved}
use Rattle.asset_lists.specs.Units.{Unit, unit_of, amount_of}
use Rattle.asset_bundles.specs.Bundles.{Bundle, held_assets, IsGoods}
use Rattle.asset_bundles.proofs.Lemmas.Bundles.{unit_keys}
use Rattle.chain_ids.specs.declared.chain.ChainId.{ChainId}
use Rattle.trust_tables.specs.declared.rows.AssetRow.{AssetRow}
use Rattle.trust_tables.specs.declared.rows.AssetRole.TheVariants.{Native}
use Rattle.trust_tables.specs.Chains.{location_of}
use Rattle.trust_tables.specs.Trust.{is_row_of, is_partner, IsRowOf}
use Rattle.trust_tables.proofs.Lemmas.TrustLaws.{is_row_of_says}
use Rattle.exec_base.specs.Part.{ChainPart}
use Rattle.exec_base.specs.Sending.{unless}
use Rattle.exec_base.specs.Host.{first_fault, trust_fault, checking_of, lower_fault}
use Rattle.law_coherence.specs.UniversalAssets.{UniversalAsset, every, is_unit_at}
use Rattle.law_coherence.specs.Networks.{Table, context_of, IsIn, path_of_row, asset_of_row, is_native_role, is_native_row, Agrees}
use Rattle.law_coherence.proofs.Lemmas.Twins.{unit_named}
use Rattle.law_coherence.specs.Trusting.{IsShared}
use Rattle.law_coherence.proofs.Lemmas.Cargoes.{home_of_row}
use Rattle.law_coherence.specs.Channels as queues
use Rattle.law_coherence.specs.Checking.{account_in, checking_at, AllChecked}
use Rattle.law_coherence.proofs.Lemmas.CheckingLaws.{covers_teleport}
use Rattle.law_coherence.specs.Parts.{Teleport, WorldView, in_bundle}
use Rattle.law_coherence.proofs.Lemmas.Receiving.{shared_there, partner_there}
use Rattle.law_coherence.specs.Steps.{tables_of}
use Rattle.law_coherence.proofs.Lemmas.Steps.{table_at}
use Rattle.law_runs.proofs.Lemmas.Shipping.{IsNamedList}
use Rattle.law_runs.specs.Views.{table_of, channel_of, seen}
use Rattle.law_nets.proofs.Lists.{of_both, held_each, each_named, moved_to}
use Rattle.law_nets.proofs.Payments.{passes, no_fault}
use Rattle.plain_lists.proofs.Lemmas.Facts.{below_by_one as below_more, below_zero_back as first_below, same_bools as both_ways, at_most_told as within}

-- ---- the account at an asset's index is that of its row
abbrev at_place : List (Option ℕ) → Option ℕ → Option ℕ
at_place cs o = option_and_then (λ (place : ℕ). option_and_then (λ (c : Option ℕ). c) (slice_get cs place)) o

nowhere : (o : Option ℕ) → at_place [] o ≡ None
nowhere None = refl
nowhere (Some n) = refl

further : (c : Option ℕ) (cs : List (Option ℕ)) (b : Bool) (n : ℕ) → at_place (c ∷ cs) (cond b (Some (suc n)) None) ≡ at_place cs (cond b (Some n) None)
further c cs true n = refl
further c cs false n = refl

account_at : (b : Asset) (t : Table) (a : UniversalAsset) (rows : List AssetRow) (cs : List (Option ℕ)) → ((row : AssetRow) → IsIn rows row → is_row_of b row ≡ is_native_row t a row) → at_place cs (position (is_row_of b) rows) ≡ account_in t a rows cs
account_at b t a [] cs same = refl
account_at b t a (row ∷ rows) [] same = nowhere (position (is_row_of b) (row ∷ rows))
account_at b t a (row ∷ rows) (c ∷ cs) same =
    let n = position_or_len (is_row_of b) rows in
    let rest = account_at b t a rows cs (λ r inside. same r (suc inside.0, inside.1)) in
    elim (is_row_of b row) as (λ x. at_place (c ∷ cs) (cond {A = Option ℕ} (nat_lt (cond {A = ℕ} (not x) (1 + n) 0) (suc (length rows))) (Some (cond {A = ℕ} (not x) (1 + n) 0)) None) ≡ (if x then c else account_in t a rows cs)) [
      | true ↦ ap (λ x. at_place (c ∷ cs) (cond {A = Option ℕ} x (Some 0) None)) (sym (first_below (length rows)))
      | false ↦
          (λ i. at_place (c ∷ cs) (cond {A = Option ℕ} (below_more n (length rows) i) (Some (one-add n i)) None))
          ∙ further c cs (nat_lt n (length rows)) n ∙ rest
    ]
    ∙ ap (λ (x : Bool). if x then c else account_in t a rows cs) (same row (0, refl))

location_same : (x y : Location) → Concrete x ≡ Concrete y → x ≡ y
location_same x y e = cc

-- the one native row of its asset
native_row : (t : Table) (y : AssetRow) (partners : List ChainId) (checking : Option ℕ) → y.role ≡ Native partners checking → is_native_row t (asset_of_row t y) y ≡ true
native_row t y partners checking native =
    and_from (is_native_role y.role) _ (ap is_native_role native) (and_from _ _ ((junctions_decides (path_of_row t y) (path_of_row t y)).1 refl) ((same_kind_says y.kind y.kind).1 refl))

one_row : (n : List Table) → Agrees n → (t : Table) → IsIn n t → (b : Asset) (y : AssetRow) (partners : List ChainId) (checking : Option ℕ) → IsIn t.rows y → y.role ≡ Native partners checking → IsRowOf b y
    → (row : AssetRow) → IsIn t.rows row → is_row_of b row ≡ is_native_row t (asset_of_row t y) row
one_row n agrees t t_in b y partners checking y_in native of row inside = both_ways (is_row_of b row) (is_native_row t (asset_of_row t y) row)
    (λ passes.
    let told = (is_row_of_says b row).0 passes in
    let ids : row.id ≡ y.id = location_same row.id y.id (sym told.0 ∙ of.0) in
    let same : row ≡ y = agrees.paths_apart t row y t_in inside y_in (ap (λ (l : Location). Rattle.locations.specs.Chains.path_of (context_of t) l) ids) in
    subst (λ (r : AssetRow). is_native_row t (asset_of_row t y) r ≡ true) (sym same) (native_row t y partners checking native))
    (λ passes.
    let rest = and_parts (is_native_role row.role) _ passes in
    let path = and_parts (eq_by_cmp junctions_cmp (path_of_row t row) (path_of_row t y)) _ rest.1 in
    let same : row ≡ y = agrees.paths_apart t row y t_in inside y_in ((junctions_decides (path_of_row t row) (path_of_row t y)).0 path.0) in
    subst (λ (r : AssetRow). is_row_of b r ≡ true) (sym same) ((is_row_of_says b y).1 of))

no_short : (o : Option ℕ) (n : ℕ) → ((m : ℕ) → o ≡ Some m → n ≤ m) → unless (option_map_or (λ (m : ℕ). nat_le n m) o true) error.NotWithdrawable None ≡ None
no_short None n enough = refl
no_short (Some m) n enough = passes _ _ _ (within n m (enough m refl)) refl

module _ (v : WorldView) (agrees : Agrees (tables_of v)) (checked : AllChecked v) (i j : ℕ) (ps pr : ChainPart) (at_i : slice_get v i ≡ Some (seen empty ps)) (at_j : slice_get v j ≡ Some (seen empty pr)) (apart : i ≡ j → ⊥)
    (name origin : Location) (leads : location_of ps.site.chain pr.site.chain ≡ Some name) (back : location_of pr.site.chain ps.site.chain ≡ Some origin)
    (units : Bundle) (first : queues.front pr.site.chain (map channel_of ps.channels) ≡ Some (Teleport units)) where
  s_in : IsIn (tables_of v) (table_of ps)
  s_in = (i, table_at v i (seen empty ps) at_i)

  t_in : IsIn (tables_of v) (table_of pr)
  t_in = (j, table_at v j (seen empty pr) at_j)

  -- what is listed of the cargo is no more than what is teleported of its asset
  counted : (u : Unit) (h : IsShared (table_of ps) (table_of pr) u) → amount units u ≤ in_bundle (table_of ps) (asset_of_row (table_of pr) h.twin.twin) every units
  counted u h =
      let t = table_of ps in
      let twin = h.twin in
      let asset : ◌≡◌ {A = UniversalAsset} (asset_of_row t twin.row) (asset_of_row (table_of pr) twin.twin) = λ k. (sym twin.twins.path k, sym twin.twins.kind k) in
      let here : is_unit_at (context_of t) (asset_of_row t twin.row) every (Concrete twin.row.id, u.1) ≡ true =
      and_from _ _ (and_from _ _ ((junctions_decides (path_of_row t twin.row) (path_of_row t twin.row)).1 refl) ((same_kind_says (kind_of u.1) twin.row.kind).1 twin.unit.kind)) refl in
      let unit : ◌≡◌ {A = Unit} (Concrete twin.row.id, u.1) u = λ k. (sym twin.unit.id k, u.1) in
      let passes : is_unit_at (context_of t) (asset_of_row (table_of pr) twin.twin) every u ≡ true =
      subst (λ (a : UniversalAsset). is_unit_at (context_of t) a every u ≡ true) asset (subst (λ (w : Unit). is_unit_at (context_of t) (asset_of_row t twin.row) every w ≡ true) unit here) in
      amount_at_most unit_keys (is_unit_at (context_of t) (asset_of_row (table_of pr) twin.twin) every) units u passes

  -- one asset of the cargo, under the receiver's name
  abbrev pub IsTaken : Asset → Type 0
  IsTaken b = (trust_fault pr origin true b ≡ None) × (lower_fault pr b ≡ None)

  one_taken : (a b : Asset) → IsTrue (is_partner ps.rows ps.site a name) → amount_of a ≤ amount units (unit_of a) → moved name (context_of (table_of ps)) a ≡ Some b → IsTaken b
  one_taken a b trusted most moves =
      let t = table_of pr in
      let shared : IsShared (table_of ps) t (unit_of a) = shared_there (tables_of v) agrees (table_of ps) t s_in t_in name origin leads back a trusted in
      let twin = shared.twin in
      let same : b ≡ record { id = Concrete twin.twin.id; fun = a.fun } = moved_to name (context_of (table_of ps)) a b (Concrete twin.twin.id) (unit_named (tables_of v) agrees (table_of ps) t s_in t_in name leads (unit_of a) twin) moves in
      let of : IsRowOf b twin.twin = (ap (λ (x : Asset). x.id) same, ap (λ (x : Asset). kind_of (unit_of x).1) same ∙ twin.unit.kind ∙ sym twin.twins.kind) in
      let trust : is_partner pr.rows pr.site b origin ≡ true = partner_there (tables_of v) agrees (table_of ps) t s_in t_in name origin leads back (unit_of a) b shared (ap unit_of same) in
      let asset = asset_of_row t twin.twin in
      let home = home_of_row (table_of ps) asset twin.row shared.here.0 shared.here.1 twin.listed shared.here.2 (record { path = sym twin.twins.path; kind = sym twin.twins.kind }) in
      let account : checking_of pr b ≡ checking_at asset (seen empty pr) =
      account_at b t asset pr.rows pr.checking (one_row (tables_of v) agrees t t_in b twin.twin shared.there.0 shared.there.1 twin.twins.there shared.there.2 of) in
      let much : amount_of b ≡ amount_of a = ap amount_of same in
      let sum = counted (unit_of a) shared in (
        passes (is_partner pr.rows pr.site b origin) error.UntrustedTeleportLocation None trust refl,
        no_short (checking_of pr b) (amount_of b) (λ m stands.
            let covered : in_bundle (table_of ps) asset every units ≤ m = covers_teleport v i j (seen empty ps) (seen empty pr) asset m (Teleport units) at_i at_j apart home first checked (sym account ∙ stands) in
            omega (arith, most, sum, covered, much)),
      )

  -- the whole list
  pub all_taken : (new : List Asset) → IsNamedList name (context_of (table_of ps)) (held_assets units) new → IsGoods units → AllByRecursion (λ (a : Asset). IsTrue (is_partner ps.rows ps.site a name)) (held_assets units)
      → (first_fault (trust_fault pr origin true) new ≡ None) × (first_fault (lower_fault pr) new ≡ None)
  all_taken new named whole partners =
      let all = each_named (λ (a : Asset). IsTrue (is_partner ps.rows ps.site a name) × (amount_of a ≤ amount units (unit_of a))) IsTaken
      name (context_of (table_of ps)) (λ a b known moves. one_taken a b known.0 known.1 moves) (held_assets units) new named
      (of_both (λ (a : Asset). IsTrue (is_partner ps.rows ps.site a name)) (λ (a : Asset). amount_of a ≤ amount units (unit_of a)) (λ (a : Asset). IsTrue (is_partner ps.rows ps.site a name) × (amount_of a ≤ amount units (unit_of a)))
      (held_assets units) (λ a x y. (x, y)) partners (held_each units whole)) in (
        no_fault (trust_fault pr origin true) new (of_both IsTaken IsTaken (λ (b : Asset). trust_fault pr origin true b ≡ None) new (λ b x y. x.0) all all),
        no_fault (lower_fault pr) new (of_both IsTaken IsTaken (λ (b : Asset). lower_fault pr b ≡ None) new (λ b x y. x.1) all all),
      )
