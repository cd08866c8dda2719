-- Lemmas on the definitions of `specs/Trusting.antt`: what proofs cite.
use Rattle.std.specs.Prelude.{◌≡◌, ℕ, IsTrue, List, Option, Some, None, IsSomeAnd, refl}
use Rattle.std.proofs.Common.{sym, ap, ◌∙◌, subst}
use Rattle.std.proofs.lemmas.Option.{slice_get-get_or}
use Rattle.locations.specs.declared.relative.Location.{Location}
use Rattle.asset_lists.specs.declared.units.Asset.{Asset}
use Rattle.asset_lists.specs.Units.{Unit, unit_of}
use Rattle.chain_ids.specs.declared.chain.ChainId.{ChainId}
use Rattle.trust_tables.specs.declared.rows.AssetRow.{AssetRow}
use Rattle.trust_tables.specs.declared.rows.AssetRole.{AssetRole}
use Rattle.trust_tables.specs.declared.rows.AssetRole.TheVariants.{Native, Derivative}
use Rattle.trust_tables.specs.Chains.{location_of}
use Rattle.trust_tables.specs.Trust.{row_of, is_reserve, is_partner, IsReserveRole, IsPartnerRole}
use Rattle.trust_tables.proofs.Lemmas.TrustLaws.{row_found, is_reserve_says, is_partner_says}
use Rattle.law_coherence.specs.Networks.{Table, IsIn, HasPartner, HasReserve, Agrees, IsUnitOf, HasTwin}
use Rattle.law_coherence.specs.Trusting.{IsShared}

-- ---- the row that is found
row_there : (rows : List AssetRow) (a : Asset) (row : AssetRow) → row_of rows a ≡ Some row → IsIn rows row × IsUnitOf (unit_of a) row
row_there rows a row e =
    let found = row_found rows a row e in
    ((found.0, found.1), record { id = found.2.0; kind = found.2.1 })

some_row : {P : AssetRow → Type 0} (o : Option AssetRow) → IsSomeAnd o P → (row : AssetRow) × (o ≡ Some row) × P row
some_row None h = absurd h
some_row (Some row) h = (row, refl, h)

-- the asset's row at the first chain is a derivative of the second, where it is native
pub record IsOwed (c r : Table) (u : Unit) : Type 0 where
  pub twin : HasTwin c r u
  pub here : twin.row.role ≡ Derivative r.site.chain
  pub there : (partners : List ChainId) × (checking : Option ℕ) × (twin.twin.role ≡ Native partners checking)

-- a table with this location
pub record IsAt (n : List Table) (s : Table) (l : Location) (t : Table) : Type 0 where
  pub listed : IsIn n t
  pub leads : location_of s.site.chain t.site.chain ≡ Some l

module _ (n : List Table) (agrees : Agrees n) (s : Table) (s_in : IsIn n s) where
  partner_role : (here : ChainId) (l : Location) (role : AssetRole) → IsPartnerRole here l role → (partners : List ChainId) × (checking : Option ℕ) × (chain : ChainId) × (role ≡ Native partners checking) × IsIn partners chain × (location_of here chain ≡ Some l)
  partner_role here l (Native partners checking) h = (partners, checking, h.1, refl, (h.0, slice_get-get_or partners h.0 h.1 h.2 ∙ ap Some h.3), h.4)
  partner_role here l (Derivative reserve) h = absurd h

  reserve_role : (here : ChainId) (l : Location) (role : AssetRole) → IsReserveRole here l role → (chain : ChainId) × (role ≡ Derivative chain) × (location_of here chain ≡ Some l)
  reserve_role here l (Native partners checking) h = absurd h
  reserve_role here l (Derivative reserve) h = (reserve, refl, h)

  pub of_partner : (a : Asset) (l : Location) → IsTrue (is_partner s.rows s.site a l) → (t : Table) × IsAt n s l t × IsShared s t (unit_of a)
  of_partner a l trusted =
      let found = some_row (row_of s.rows a) ((is_partner_says s.rows s.site a l).0 trusted) in
      let row = row_there s.rows a found.0 found.1 in
      let role = partner_role s.site.chain l found.0.role found.2 in
      let back : HasPartner n s found.0 role.2 = agrees.partners s found.0 role.0 role.1 role.2 s_in row.0 role.3 role.4 in (
        back.table,
        record { listed = back.listed; leads = ap (location_of s.site.chain) back.at_chain ∙ role.5 },
        record {
          twin = record { row = found.0; listed = row.0; unit = row.1; twin = back.row; twins = back.twins };
          here = (role.0, role.1, role.3, subst (IsIn role.0) (sym back.at_chain) role.4);
          there = (back.partners, back.checking, back.native, back.back);
        },
      )

  pub of_reserve : (a : Asset) (l : Location) → IsTrue (is_reserve s.rows s.site a l) → (t : Table) × IsAt n s l t × IsOwed s t (unit_of a)
  of_reserve a l trusted =
      let found = some_row (row_of s.rows a) ((is_reserve_says s.rows s.site a l).0 trusted) in
      let row = row_there s.rows a found.0 found.1 in
      let role = reserve_role s.site.chain l found.0.role found.2 in
      let back : HasReserve n s found.0 role.0 = agrees.reserves s found.0 role.0 s_in row.0 role.1 in (
        back.table,
        record { listed = back.listed; leads = ap (location_of s.site.chain) back.at_chain ∙ role.2 },
        record {
          twin = record { row = found.0; listed = row.0; unit = row.1; twin = back.row; twins = back.twins };
          here = role.1 ∙ ap Derivative (sym back.at_chain);
          there = (back.partners, back.checking, back.native);
        },
      )
