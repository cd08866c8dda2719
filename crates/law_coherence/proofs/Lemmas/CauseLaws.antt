-- Proofs that a reader may skip, but for the first definitions. -- What it says of a network that no cause is found.
use Rattle.std.specs.Prelude.{◌≡◌, ℕ, zero, suc, Bool, true, false, not, ◌&&◌, ◌||◌, List, [], ◌∷◌, Option, Some, None, slice_get, refl}
use Rattle.std.specs.List.{list_any}
use Rattle.std.specs.Option.{option_or}
use Rattle.std.specs.Ordering.{eq_by_cmp}
use Rattle.std.proofs.Common.{sym, ap, ◌∙◌, true≢false}
use Rattle.std.proofs.lemmas.Bool.{and_parts}
use Rattle.locations.specs.Order.{junctions_cmp}
use Rattle.locations.proofs.Lemmas.OrderLaws.{junctions_decides}
use Rattle.locations.specs.Chains.{is_normal}
use Rattle.chain_ids.specs.declared.chain.ChainId.{ChainId}
use Rattle.trust_tables.specs.declared.rows.AssetRow.{AssetRow}
use Rattle.trust_tables.specs.declared.rows.AssetRole.{AssetRole}
use Rattle.trust_tables.specs.declared.rows.AssetRole.TheVariants.{Native, Derivative}
use Rattle.asset_lists.specs.Listed.{same_kind}
use Rattle.asset_lists.proofs.Lemmas.{same_kind_says}
use Rattle.chain_ids.specs.Chains.{same_chain}
use Rattle.chain_ids.proofs.Lemmas.{same_chain_told}
use Rattle.locations.proofs.Lemmas.{normal_told}
use Rattle.law_coherence.specs.Networks.{Table, context_of, IsIn, path_of_row, is_native_role, AreTwins, HasPartner, HasReserve, IsNetwork, Agrees}
use Rattle.law_coherence.specs.Causes.{Cause, Incoherent, PartnerUnlisted, ReserveUnlisted, first_some, when, same_path, has_path_twice, is_twin, has_partner, lists_back, lists_native, partner_unlisted, reserve_unlisted, table_cause}
use Rattle.plain_lists.proofs.Lemmas.Facts.{neither_true as or_false, not_false_true as not_none}

-- ---- tests and lists
pub or_none : {B : Type 0} (a b : Option B) → option_or a b ≡ None → (a ≡ None) × (b ≡ None)
or_none None b e = (refl, e)
or_none (Some x) b e = absurd (cc)

pub first_none : {A B : Type 0} (f : A → Option B) (xs : List A) (k : ℕ) (x : A) → first_some f xs ≡ None → slice_get xs k ≡ Some x → f x ≡ None
first_none f [] k x e at = absurd (cc)
first_none f (y ∷ ys) zero x e at = let same : y ≡ x = cc in ap f (sym same) ∙ (or_none (f y) (first_some f ys) e).0
first_none f (y ∷ ys) (suc k) x e at = first_none f ys k x (or_none (f y) (first_some f ys) e).1 at

when_none : {B : Type 0} (b : Bool) (x : B) → when b x ≡ None → b ≡ false
when_none true x e = absurd (cc)
when_none false x e = refl

pub any_in : {A : Type 0} (p : A → Bool) (xs : List A) (x : A) (k : ℕ) → slice_get xs k ≡ Some x → p x ≡ true → list_any p xs ≡ true
any_in p [] x k at passes = absurd (cc)
any_in p (y ∷ ys) x zero at passes = let same : y ≡ x = cc in ap (λ z. p z || list_any p ys) same ∙ ap (λ b. b || list_any p ys) passes
any_in p (y ∷ ys) x (suc k) at passes = elim (p y) as (λ b. (b || list_any p ys) ≡ true) [ true ↦ refl | false ↦ any_in p ys x k at passes ]

pub any_found : {A : Type 0} (p : A → Bool) (xs : List A) → list_any p xs ≡ true → (x : A) × IsIn xs x × (p x ≡ true)
any_found p [] e = absurd (cc)
any_found p (y ∷ ys) e =
    elim (p y) as (λ b. p y ≡ b → (b || list_any p ys) ≡ true → (x : _) × IsIn (y ∷ ys) x × (p x ≡ true)) [
      | true ↦ λ t e. (y, (0, refl), t)
      | false ↦ λ t e. let rest = any_found p ys e in (rest.0, (suc rest.1.0, rest.1.1), rest.2)
    ] refl e

pub native_told : (role : AssetRole) → is_native_role role ≡ true → (partners : List ChainId) × (checking : Option ℕ) × (role ≡ Native partners checking)
native_told (Native partners checking) e = (partners, checking, refl)
native_told (Derivative reserve) e = absurd (cc)

partner_told : (chain : ChainId) (role : AssetRole) → has_partner chain role ≡ true → (partners : List ChainId) × (checking : Option ℕ) × (role ≡ Native partners checking) × IsIn partners chain
partner_told chain (Native partners checking) e =
    let found = any_found (λ partner. same_chain partner chain) partners e in
    (partners, checking, refl, (found.1.0, found.1.1 ∙ ap Some (same_chain_told found.0 chain found.2)))
partner_told chain (Derivative reserve) e = absurd (cc)

-- ---- paths apart
apart_rows : (t : Table) (xs : List AssetRow) (i j : ℕ) (x y : AssetRow) → has_path_twice t xs ≡ false → slice_get xs i ≡ Some x → slice_get xs j ≡ Some y → path_of_row t x ≡ path_of_row t y → x ≡ y
apart_rows t [] i j x y none at_i at_j path = absurd (cc)
apart_rows t (z ∷ zs) zero zero x y none at_i at_j path = cc
apart_rows t (z ∷ zs) zero (suc j) x y none at_i at_j path =
    let same : z ≡ x = cc in
    let test : same_path t z y ≡ true = (junctions_decides (path_of_row t z) (path_of_row t y)).1 (ap (path_of_row t) same ∙ path) in
    absurd (true≢false (sym (any_in (same_path t z) zs y j at_j test) ∙ (or_false (list_any (same_path t z) zs) (has_path_twice t zs) none).0))
apart_rows t (z ∷ zs) (suc i) zero x y none at_i at_j path =
    let same : z ≡ y = cc in
    let test : same_path t z x ≡ true = (junctions_decides (path_of_row t z) (path_of_row t x)).1 (ap (path_of_row t) same ∙ sym path) in
    absurd (true≢false (sym (any_in (same_path t z) zs x i at_i test) ∙ (or_false (list_any (same_path t z) zs) (has_path_twice t zs) none).0))
apart_rows t (z ∷ zs) (suc i) (suc j) x y none at_i at_j path = apart_rows t zs i j x y (or_false (list_any (same_path t z) zs) (has_path_twice t zs) none).1 at_i at_j path

-- ---- rows at other chains
module _ (n : List Table) (s : Table) (x : AssetRow) where
  twins_told : (t : Table) (y : AssetRow) → IsIn t.rows y → is_twin s x t y ≡ true → AreTwins s t x y
  twins_told t y inside passes =
      let parts = and_parts (eq_by_cmp junctions_cmp (path_of_row t y) (path_of_row s x)) (same_kind y.kind x.kind) passes in
      record { there = inside; path = (junctions_decides (path_of_row t y) (path_of_row s x)).0 parts.0; kind = (same_kind_says y.kind x.kind).0 parts.1 }

  partner_found : (chain : ChainId) → list_any (lists_back s x chain) n ≡ true → HasPartner n s x chain
  partner_found chain e =
      let at = any_found (lists_back s x chain) n e in
      let parts = and_parts (same_chain at.0.site.chain chain) (list_any (λ y. is_twin s x at.0 y && has_partner s.site.chain y.role) at.0.rows) at.2 in
      let row = any_found (λ y. is_twin s x at.0 y && has_partner s.site.chain y.role) at.0.rows parts.1 in
      let says = and_parts (is_twin s x at.0 row.0) (has_partner s.site.chain row.0.role) row.2 in
      let role = partner_told s.site.chain row.0.role says.1 in
      record { table = at.0; listed = at.1; at_chain = same_chain_told at.0.site.chain chain parts.0; row = row.0; twins = twins_told at.0 row.0 row.1 says.0; partners = role.0; checking = role.1; native = role.2; back = role.3 }

  reserve_found : (chain : ChainId) → list_any (lists_native s x chain) n ≡ true → HasReserve n s x chain
  reserve_found chain e =
      let at = any_found (lists_native s x chain) n e in
      let parts = and_parts (same_chain at.0.site.chain chain) (list_any (λ y. is_twin s x at.0 y && is_native_role y.role) at.0.rows) at.2 in
      let row = any_found (λ y. is_twin s x at.0 y && is_native_role y.role) at.0.rows parts.1 in
      let says = and_parts (is_twin s x at.0 row.0) (is_native_role row.0.role) row.2 in
      let role = native_told row.0.role says.1 in
      record { table = at.0; listed = at.1; at_chain = same_chain_told at.0.site.chain chain parts.0; row = row.0; twins = twins_told at.0 row.0 row.1 says.0; partners = role.0; checking = role.1; native = role.2 }

-- no cause in the tables: the chains agree
pub agrees_of_no_cause : (n : List Table) → IsNetwork n → table_cause n ≡ None → Agrees n
agrees_of_no_cause n network none =
    let one = or_none _ _ none in
    let two = or_none _ _ one.1 in
    let three = or_none _ _ two.1 in
    record {
      network = network;
      paths_apart = λ s x y s_in x_in y_in path.
          let here = first_none (λ (t : Table). when {B = Incoherent} (has_path_twice t t.rows) (Cause.PathTwice, t.site.chain, t.site.chain)) n s_in.0 s one.0 s_in.1 in
          apart_rows s s.rows x_in.0 y_in.0 x y (when_none (has_path_twice s s.rows) _ here) x_in.1 y_in.1 path;
      normal = λ s x s_in x_in.
          let here = first_none (λ (t : Table). first_some (λ (y : AssetRow). when {B = Incoherent} (not (is_normal (context_of t) y.id)) (Cause.IdNotNormal, t.site.chain, t.site.chain)) t.rows) n s_in.0 s two.0 s_in.1 in
          let row = first_none (λ (y : AssetRow). when {B = Incoherent} (not (is_normal (context_of s) y.id)) (Cause.IdNotNormal, s.site.chain, s.site.chain)) s.rows x_in.0 x here x_in.1 in
          normal_told (context_of s) x.id (not_none (is_normal (context_of s) x.id) (when_none (not (is_normal (context_of s) x.id)) _ row));
      partners = λ s x partners checking chain s_in x_in role inside.
          let here = first_none (λ (t : Table). first_some (λ (y : AssetRow). partner_unlisted n t y y.role) t.rows) n s_in.0 s three.0 s_in.1 in
          let row = first_none (λ (y : AssetRow). partner_unlisted n s y y.role) s.rows x_in.0 x here x_in.1 in
          let each : first_some (λ chain. when {B = Incoherent} (not (list_any (lists_back s x chain) n)) (PartnerUnlisted, s.site.chain, chain)) partners ≡ None = sym (ap (partner_unlisted n s x) role) ∙ row in
          let this = first_none (λ chain. when {B = Incoherent} (not (list_any (lists_back s x chain) n)) (PartnerUnlisted, s.site.chain, chain)) partners inside.0 chain each inside.1 in
          partner_found n s x chain (not_none (list_any (lists_back s x chain) n) (when_none (not (list_any (lists_back s x chain) n)) _ this));
      reserves = λ s x chain s_in x_in role.
          let here = first_none (λ (t : Table). first_some (λ (y : AssetRow). reserve_unlisted n t y y.role) t.rows) n s_in.0 s three.1 s_in.1 in
          let row = first_none (λ (y : AssetRow). reserve_unlisted n s y y.role) s.rows x_in.0 x here x_in.1 in
          let this : when {B = Incoherent} (not (list_any (lists_native s x chain) n)) (ReserveUnlisted, s.site.chain, chain) ≡ None = sym (ap (reserve_unlisted n s x) role) ∙ row in
          reserve_found n s x chain (not_none (list_any (lists_native s x chain) n) (when_none (not (list_any (lists_native s x chain) n)) _ this));
    }
