-- Checking accounts that rise by what is shipped.
use Rattle.std.proofs.Common.{◌≡◌, ℕ, suc, ◌+◌, ◌-◌, ◌^◌, Bool, true, false, not, cond, ◌&&◌, if◌then◌else◌, List, [], ◌∷◌, length, refl, sym, ap, ◌∙◌, subst, arith, min, true≢false}
use Rattle.std.specs.Prelude.{Option, None, Some, ⊤, nat_lt, nat_le, position, slice_get, option_and_then}
use Rattle.std.specs.List.{AllByRecursion, position_or_len}
use Rattle.std.specs.List.Sorted.{IsStrictlySortedBy}
use Rattle.std.specs.Map.{keys_of}
use Rattle.std.specs.Option.{option_map, option_map_or}
use Rattle.std.specs.declared.cmp.Ordering.TheVariants.{Less, Equal}
use Rattle.std.proofs.Math.Numerals.{one-add}
use Rattle.std.proofs.lemmas.Bool.{and_parts}
use Rattle.std.proofs.lemmas.Cmp.{tied_itself}
use Rattle.amounts.proofs.Lemmas.Rows.{keys_rising}
use Rattle.amounts.specs.Amounts.{rows}
use Rattle.amounts.proofs.Lemmas.AmountLaws.{rows_sorted}
use Rattle.operands.specs.declared.error.XcmError.{XcmError}
use Rattle.operands.specs.declared.error.XcmError.TheVariants as error
use Rattle.asset_lists.specs.declared.units.Asset.{Asset}
use Rattle.asset_lists.specs.declared.units.AssetId.TheVariants.{Concrete}
use Rattle.asset_lists.specs.declared.units.Instance.{Instance}
use Rattle.asset_lists.specs.declared.units.Kind.{Kind}
use Rattle.asset_lists.specs.declared.units.Kind.TheVariants.{Fungible, Class}
use Rattle.asset_lists.specs.Units.{Unit, unit_of, unit_cmp, amount_of}
use Rattle.asset_lists.specs.UnitLaws.{unit_total}
use Rattle.asset_lists.specs.Listed.{kind_of}
use Rattle.asset_bundles.specs.Bundles.{Bundle, fun_of, assets_of_rows, held_assets}
use Rattle.trust_tables.specs.declared.rows.AssetRow.{AssetRow}
use Rattle.trust_tables.specs.Trust.{is_row_of}
use Rattle.trust_tables.proofs.Lemmas.TrustLaws.{is_row_of_says}
use Rattle.exec_base.specs.Part.{ChainPart}
use Rattle.exec_base.specs.Sending.{unless}
use Rattle.exec_base.specs.Host.{first_fault, checking_of, raise_fault, changed_rows, changed_all}
use Rattle.network_steps.specs.Tests.{may_check}
use Rattle.chain_state.specs.Checked.{are_checked, change_by}
use Rattle.chain_state.proofs.First.{both_none}
use Rattle.chain_state.proofs.Forwarding.{same_instance}
use Rattle.plain_lists.proofs.Lemmas.Facts.{below_by_one as below_more, below_zero_back as first_below}

-- ---- the checking account of the asset's row, row by row
checking_at : Asset → List AssetRow → List (Option ℕ) → Option ℕ
checking_at a [] cs = None
checking_at a (row ∷ rows) [] = None
checking_at a (row ∷ rows) (c ∷ cs) = if is_row_of a row then c else checking_at a rows cs

at_place : List (Option ℕ) → Option ℕ → Option ℕ
at_place cs o = option_and_then (λ (place : ℕ). option_and_then (λ (c : Option ℕ). c) (slice_get cs place)) o

nowhere : (o : Option ℕ) → at_place [] o ≡ None
unfolding at_place
nowhere None = refl
nowhere (Some n) = refl

further : (c : Option ℕ) (cs : List (Option ℕ)) (b : Bool) (n : ℕ) → at_place (c ∷ cs) (cond b (Some (suc n)) None) ≡ at_place cs (cond b (Some n) None)
unfolding at_place
further c cs true n = refl
further c cs false n = refl

here : (c : Option ℕ) → option_and_then (λ (x : Option ℕ). x) (Some c) ≡ c
here c = refl

at_is : (a : Asset) (rows : List AssetRow) (cs : List (Option ℕ)) → at_place cs (position (is_row_of a) rows) ≡ checking_at a rows cs
unfolding at_place checking_at
at_is a [] cs = refl
at_is a (row ∷ rows) [] = nowhere (position (is_row_of a) (row ∷ rows))
at_is a (row ∷ rows) (c ∷ cs) =
    let n = position_or_len (is_row_of a) rows in
    elim (is_row_of a row) as (λ b. at_place (c ∷ cs) (cond {A = Option ℕ} (nat_lt (cond {A = ℕ} (not b) (1 + n) 0) (suc (length rows))) (Some (cond {A = ℕ} (not b) (1 + n) 0)) None) ≡ (if b then c else checking_at a rows cs)) [
      | true ↦ ap (λ b. at_place (c ∷ cs) (cond {A = Option ℕ} b (Some 0) None)) (sym (first_below (length rows)))
      | false ↦
          (λ i. at_place (c ∷ cs) (cond {A = Option ℕ} (below_more n (length rows) i) (Some (one-add n i)) None))
          ∙ further c cs (nat_lt n (length rows)) n ∙ at_is a rows cs
    ]

checking_is : (p : ChainPart) (a : Asset) → checking_of p a ≡ checking_at a p.rows p.checking
unfolding at_place
checking_is p a = at_is a p.rows p.checking

-- ---- two changes that do the same to the amount there
pub AgreeAt : (ℕ → ℕ → ℕ) → (ℕ → ℕ → ℕ) → ℕ → Option ℕ → Type 0
AgreeAt f g a None = ⊤
AgreeAt f g a (Some n) = f n a ≡ g n a

agree_here : (f g : ℕ → ℕ → ℕ) (a : ℕ) (c : Option ℕ) → AgreeAt f g a c → option_map (λ (n : ℕ). f n a) c ≡ option_map (λ (n : ℕ). g n a) c
unfolding AgreeAt
agree_here f g a None same = refl
agree_here f g a (Some n) same = ap Some same

agree_at : (f g : ℕ → ℕ → ℕ) (a : Asset) (rows : List AssetRow) (cs : List (Option ℕ)) → AgreeAt f g (amount_of a) (checking_at a rows cs) → changed_rows f a rows cs ≡ changed_rows g a rows cs
unfolding checking_at
agree_at f g a [] cs same = refl
agree_at f g a (row ∷ rows) [] same = refl
agree_at f g a (row ∷ rows) (c ∷ cs) same =
    elim (is_row_of a row) as (λ b. AgreeAt f g (amount_of a) (if b then c else checking_at a rows cs)
    → (if b then option_map (λ (n : ℕ). f n (amount_of a)) c ∷ cs else c ∷ changed_rows f a rows cs) ≡ (if b then option_map (λ (n : ℕ). g n (amount_of a)) c ∷ cs else c ∷ changed_rows g a rows cs)) [
      | true ↦ λ e. ap (λ x. x ∷ cs) (agree_here f g (amount_of a) c e)
      | false ↦ λ e. ap (λ ds. c ∷ ds) (agree_at f g a rows cs e)
    ] same

-- ---- only rows of fungible assets have one
no_instance : (x : Option Instance) → kind_of x ≡ Fungible → x ≡ None
no_instance None is = refl
no_instance (Some i) is = absurd (cc)

has_amounts : (k : Kind) (n : ℕ) → may_check k (Some n) ≡ true → k ≡ Fungible
has_amounts Fungible n may = refl
has_amounts Class n may = absurd (true≢false (sym may))

unit_at : (a : Asset) (row : AssetRow) → is_row_of a row ≡ true → row.kind ≡ Fungible → unit_of a ≡ (Concrete row.id, None)
unit_at a row at fungible =
    let says = (is_row_of_says a row).0 at in
    let none = no_instance (unit_of a).1 (says.1 ∙ fungible) in
    λ i. (says.0 i, none i)

same_after : (k : Kind) (c : Option ℕ) (f : ℕ → ℕ) → may_check k (option_map f c) ≡ may_check k c
same_after Fungible c f = refl
same_after Class None f = refl
same_after Class (Some n) f = refl

-- a change keeps where they are
pub kept_checked : (f : ℕ → ℕ → ℕ) (a : Asset) (rows : List AssetRow) (cs : List (Option ℕ)) → are_checked rows (changed_rows f a rows cs) ≡ are_checked rows cs
kept_checked f a [] cs = refl
kept_checked f a (row ∷ rows) [] = refl
kept_checked f a (row ∷ rows) (c ∷ cs) =
    elim (is_row_of a row) as (λ b. are_checked (row ∷ rows) (if b then option_map (λ (n : ℕ). f n (amount_of a)) c ∷ cs else c ∷ changed_rows f a rows cs) ≡ (may_check row.kind c && are_checked rows cs)) [
      | true ↦ ap (λ b. b && are_checked rows cs) (same_after row.kind c (λ n. f n (amount_of a)))
      | false ↦ ap (λ b. may_check row.kind c && b) (kept_checked f a rows cs)
    ]

pub all_kept_checked : (f : ℕ → ℕ → ℕ) (list : List Asset) (rows : List AssetRow) (cs : List (Option ℕ)) → are_checked rows (changed_all f list rows cs) ≡ are_checked rows cs
all_kept_checked f [] rows cs = refl
all_kept_checked f (a ∷ list) rows cs = all_kept_checked f list rows (changed_rows f a rows cs) ∙ kept_checked f a rows cs

-- a change for one unit leaves the account of another
both_there : (a b : Asset) (row : AssetRow) (c : Option ℕ) (f : ℕ → ℕ) → is_row_of a row ≡ true → is_row_of b row ≡ true → (unit_of a ≡ unit_of b → ⊥) → may_check row.kind c ≡ true → option_map f c ≡ c
both_there a b row None f at_a at_b other checked = refl
both_there a b row (Some n) f at_a at_b other checked = absurd (other (let amounts = has_amounts row.kind n checked in unit_at a row at_a amounts ∙ sym (unit_at b row at_b amounts)))

stays_at : (f : ℕ → ℕ → ℕ) (a b : Asset) (rows : List AssetRow) (cs : List (Option ℕ)) → (unit_of a ≡ unit_of b → ⊥) → are_checked rows cs ≡ true → checking_at b rows (changed_rows f a rows cs) ≡ checking_at b rows cs
unfolding checking_at
stays_at f a b [] cs other checked = refl
stays_at f a b (row ∷ rows) [] other checked = refl
stays_at f a b (row ∷ rows) (c ∷ cs) other checked =
    let parts = and_parts (may_check row.kind c) (are_checked rows cs) checked in
    elim (is_row_of a row) as (λ x. is_row_of a row ≡ x → checking_at b (row ∷ rows) (if x then option_map (λ (n : ℕ). f n (amount_of a)) c ∷ cs else c ∷ changed_rows f a rows cs) ≡ (if is_row_of b row then c else checking_at b rows cs)) [
      | true ↦ λ at_a. elim (is_row_of b row) as (λ y. is_row_of b row ≡ y → (if y then option_map (λ (n : ℕ). f n (amount_of a)) c else checking_at b rows cs) ≡ (if y then c else checking_at b rows cs)) [
        | true ↦ λ at_b. both_there a b row c (λ n. f n (amount_of a)) at_a at_b other parts.0
        | false ↦ λ at_b. refl
      ] refl
      | false ↦ λ at_a. ap (λ (o : Option ℕ). if is_row_of b row then c else o) (stays_at f a b rows cs other parts.1)
    ] refl

-- ---- the units of a bundle are changed one by one
asset_at : Unit × ℕ → Asset
asset_at e = record { id = e.0.0; fun = fun_of e.0.1 e.1 }

unit_there : (e : Unit × ℕ) → unit_of (asset_at e) ≡ e.0
unfolding asset_at
unit_there e = λ i. (e.0.0, same_instance e.0.1 e.1 i)

less_other : (u v : Unit) → unit_cmp u v ≡ Less → u ≡ v → ⊥
less_other u v less same = let both : Less ≡ Equal = sym less ∙ ap (unit_cmp u) (sym same) ∙ tied_itself unit_total u in absurd (cc)

AllAgree : (ℕ → ℕ → ℕ) → (ℕ → ℕ → ℕ) → List AssetRow → List (Option ℕ) → List Asset → Type 0
AllAgree f g rows cs list = AllByRecursion (λ (a : Asset). AgreeAt f g (amount_of a) (checking_at a rows cs)) list

others_agree : (f g h : ℕ → ℕ → ℕ) (e : Unit × ℕ) (rows : List AssetRow) (cs : List (Option ℕ)) (es : List (Unit × ℕ)) → are_checked rows cs ≡ true → AllByRecursion (λ u. unit_cmp e.0 u ≡ Less) (keys_of es)
    → AllAgree f g rows cs (assets_of_rows es) → AllAgree f g rows (changed_rows h (asset_at e) rows cs) (assets_of_rows es)
unfolding AllAgree asset_at
others_agree f g h e rows cs [] checked less agree = tt
others_agree f g h e rows cs (d ∷ es) checked less agree =
    let other : unit_of (asset_at e) ≡ unit_of (asset_at d) → ⊥ = λ same. less_other e.0 d.0 less.0 (sym (unit_there e) ∙ same ∙ unit_there d) in (
      subst (AgreeAt f g (amount_of (asset_at d))) (sym (stays_at h (asset_at e) (asset_at d) rows cs other checked)) agree.0,
      others_agree f g h e rows cs es checked less.1 agree.1,
    )

all_agree : (f g : ℕ → ℕ → ℕ) (table : List AssetRow) (cs : List (Option ℕ)) (es : List (Unit × ℕ)) → IsStrictlySortedBy unit_cmp (keys_of es) → are_checked table cs ≡ true
    → AllAgree f g table cs (assets_of_rows es) → changed_all f (assets_of_rows es) table cs ≡ changed_all g (assets_of_rows es) table cs
unfolding AllAgree asset_at IsStrictlySortedBy
all_agree f g table cs [] rising checked agree = refl
all_agree f g table cs (e ∷ es) rising checked agree =
    let a = asset_at e in
    ap (changed_all f (assets_of_rows es) table) (agree_at f g a table cs agree.0)
    ∙ all_agree f g table (changed_rows g a table cs) es rising.1 (kept_checked g a table cs ∙ checked) (others_agree f g g e table cs es checked rising.0 agree.1)

-- ---- no account is raised past the maximum
room_for : (n a most : ℕ) → nat_le (n + a) most ≡ true → min (n + a) most ≡ n + a
room_for n a most fits = grind (arith, fits)

plus : ℕ → ℕ → ℕ
plus n a = n + a

unless_none : (b : Bool) (e : XcmError) → unless b e None ≡ None → b ≡ true
unless_none true e none = refl
unless_none false e none = absurd (cc)

free_at : (a most : ℕ) (c : Option ℕ) → option_map_or (λ (n : ℕ). nat_le (n + a) most) c true ≡ true → AgreeAt (λ n b. min (n + b) most) plus a c
unfolding AgreeAt plus
free_at a most None fits = tt
free_at a most (Some n) fits = room_for n a most fits

free_asset : (p : ChainPart) (a : Asset) → raise_fault p a ≡ None → AgreeAt (change_by true) plus (amount_of a) (checking_at a p.rows p.checking)
free_asset p a none =
    subst (AgreeAt (change_by true) plus (amount_of a)) (checking_is p a) (free_at (amount_of a) (2 ^ 128 - 1) (checking_of p a) (unless_none _ error.NotDepositable none))

free_all : (p : ChainPart) (list : List Asset) → first_fault (raise_fault p) list ≡ None → AllAgree (change_by true) plus p.rows p.checking list
unfolding AllAgree
free_all p [] none = tt
free_all p (a ∷ list) none = (let parts = both_none (raise_fault p a) (first_fault (raise_fault p) list) none in (free_asset p a parts.0, free_all p list parts.1))

pub raised_free : (p : ChainPart) (goods : Bundle) → are_checked p.rows p.checking ≡ true → first_fault (raise_fault p) (held_assets goods) ≡ None
    → changed_all (change_by true) (held_assets goods) p.rows p.checking ≡ changed_all (λ n a. n + a) (held_assets goods) p.rows p.checking
unfolding held_assets plus
raised_free p goods checked none = all_agree (change_by true) plus p.rows p.checking (rows goods) (keys_rising unit_cmp (rows goods) (rows_sorted goods)) checked (free_all p (held_assets goods) none)
