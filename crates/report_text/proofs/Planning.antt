-- The block by its plan.
use Rattle.std.proofs.Common.{◌≡◌, ◌∙◌, ℕ, true, false, List, [], ◌∷◌, ◌++◌, flat_map, map, refl, ap, sym, append-nil, append_assoc}
use Rattle.std.specs.Prelude.{codes, if◌then◌else◌}
use Rattle.std.specs.List.{enumerate_from}
use Rattle.std.proofs.lemmas.Grind.{flat_map-append}
use Rattle.std.proofs.lemmas.List.Folds.{flat_map-map}
use Rattle.location_wire.specs.Texts.{path_text}
use Rattle.chain_ids.specs.Texts.{chain_text}
use Rattle.trust_tables.specs.declared.chains.Site.{Site}
use Rattle.trust_tables.specs.declared.rows.AssetRow.{AssetRow}
use Rattle.law_coherence.specs.UniversalAssets.{UniversalAsset}
use Rattle.law_coherence.specs.Networks.{Table, is_native_role}
use Rattle.exec_base.specs.Part.{ChainPart}
use Rattle.step_text.specs.Texts.{kind_name}
use Rattle.supply_audit.specs.Places.{chain_table}
use Rattle.supply_audit.proofs.Lemmas.PlaceLaws.{home_sums, covers_as}
use Rattle.supply_audit.specs.Supply.{supply_at_homes, teleports_in_flight, burned_at_homes, debt_at, of_debt, held_at_reserve, owed_by}
use Rattle.report_text.specs.Natives.{path_in, native_assets, put_assets}
use Rattle.report_text.specs.Sums.{sum_text}
use Rattle.report_text.specs.Block.{supply_text_of, backing_text_of, backing_if, backings_of, supply_block}
use Rattle.report_text.specs.Planned.{Plan, PlannedSupply, PlannedBacking}
use Rattle.report_text.specs.Plan.{supply_beginning, backing_beginning, planned_supply, natives_in, natives_of_tables, planned_backing, planned_if, planned_backings, plan_of, planned_supply_text, planned_backing_text, planned_block}

-- ---- texts

-- one piece, and then the rest
pub behind : (start mid end piece rest : List ℕ) → mid ≡ start ++ piece → end ≡ mid ++ rest → end ≡ start ++ (piece ++ rest)
behind start mid end piece rest first next = next ∙ ap (λ t. t ++ rest) first ∙ append_assoc start piece rest

front_five : (a b c d e rest : List ℕ) → (a ++ (b ++ (c ++ (d ++ e)))) ++ rest ≡ a ++ (b ++ (c ++ (d ++ (e ++ rest))))
front_five a b c d e rest =
    append_assoc a (b ++ (c ++ (d ++ e))) rest
    ∙ ap (λ t. a ++ t) (append_assoc b (c ++ (d ++ e)) rest
    ∙ ap (λ t. b ++ t) (append_assoc c (d ++ e) rest
    ∙ ap (λ t. c ++ t) (append_assoc d e rest)))

-- ---- lines

module _ (parts : List ChainPart) where
  supply_line_is : (a : UniversalAsset) → planned_supply_text parts (planned_supply (map chain_table parts) a) ≡ supply_text_of parts a
  unfolding supply_text_of supply_beginning
  supply_line_is a =
      let sums = home_sums parts a in
      let h : sum_text _ ≡ sum_text (supply_at_homes a parts) = ap sum_text sums.home in
      let f : sum_text _ ≡ sum_text (teleports_in_flight a parts) = ap sum_text sums.flight in
      let b : sum_text _ ≡ sum_text (burned_at_homes a parts) = ap sum_text sums.burned in
      front_five (codes "  supply ") (kind_name a.1) (codes " ") (path_text a.0) (codes " home ") _
      ∙ (λ i. codes "  supply " ++ (kind_name a.1 ++ (codes " " ++ (path_text a.0 ++ (codes " home " ++ (h i
      ++ (codes " flight " ++ (f i ++ (codes " burned " ++ (b i ++ codes "\n"))))))))))

  backing_line_is : (site : Site) (place : ℕ) (row : AssetRow) → planned_backing_text parts (planned_backing (map chain_table parts) site place row) ≡ backing_text_of parts site place row
  unfolding backing_text_of backing_beginning
  backing_line_is site place row =
      let are = covers_as parts site.chain place in
      let rest = kind_name row.kind ++ (codes " " ++ (path_text (path_in site row) ++ codes " held ")) in
      let h : sum_text _ ≡ sum_text (of_debt held_at_reserve (debt_at parts site.chain place)) = ap sum_text are.held in
      let o : sum_text _ ≡ sum_text (of_debt owed_by (debt_at parts site.chain place)) = ap sum_text are.owed in
      append_assoc (codes "  backing ") (chain_text site.chain ++ (codes " " ++ rest)) _
      ∙ ap (λ t. codes "  backing " ++ t) (append_assoc (chain_text site.chain) (codes " " ++ rest) _
      ∙ ap (λ t. chain_text site.chain ++ t) (front_five (codes " ") (kind_name row.kind) (codes " ") (path_text (path_in site row)) (codes " held ") _))
      ∙ (λ i. codes "  backing " ++ (chain_text site.chain ++ (codes " " ++ (kind_name row.kind ++ (codes " " ++ (path_text (path_in site row)
      ++ (codes " held " ++ (h i ++ (codes " owed " ++ (o i ++ codes "\n"))))))))))

  row_is : (site : Site) (row : ℕ × AssetRow) → flat_map (planned_backing_text parts) (planned_if (map chain_table parts) site row) ≡ backing_if parts site row
  row_is site row =
      elim (is_native_role row.1.role) as (λ b. flat_map (planned_backing_text parts) (if b then [] else planned_backing (map chain_table parts) site row.0 row.1 ∷ []) ≡ (if b then [] else backing_text_of parts site row.0 row.1)) [
        | true ↦ refl
        | false ↦ append-nil (planned_backing_text parts (planned_backing (map chain_table parts) site row.0 row.1)) ∙ backing_line_is site row.0 row.1
      ]

-- ---- the block

in_turn : {A B : Type 0} (g : B → List ℕ) (f : A → List B) (xs : List A) → flat_map g (flat_map f xs) ≡ flat_map (λ x. flat_map g (f x)) xs
in_turn g f [] = refl
in_turn g f (x ∷ xs) = flat_map-append g (f x) (flat_map f xs) ∙ ap (λ t. flat_map g (f x) ++ t) (in_turn g f xs)

natives_are : (parts : List ChainPart) → natives_of_tables (map chain_table parts) ≡ native_assets parts
natives_are parts = ap (put_assets []) (flat_map-map natives_in chain_table parts)

supplies_are : (parts : List ChainPart) → flat_map (planned_supply_text parts) (map (planned_supply (map chain_table parts)) (natives_of_tables (map chain_table parts))) ≡ flat_map (supply_text_of parts) (native_assets parts)
supplies_are parts =
    flat_map-map (planned_supply_text parts) (planned_supply (map chain_table parts)) (natives_of_tables (map chain_table parts))
    ∙ (λ i. flat_map (λ a. supply_line_is parts a i) (natives_are parts i))

chain_is : (parts : List ChainPart) (p : ChainPart) → flat_map (planned_backing_text parts) (planned_backings (map chain_table parts) (chain_table p)) ≡ backings_of parts p
chain_is parts p =
    in_turn (planned_backing_text parts) (planned_if (map chain_table parts) p.site) (enumerate_from 0 p.rows)
    ∙ (λ i. flat_map (λ row. row_is parts p.site row i) (enumerate_from 0 p.rows))

backings_are : (parts : List ChainPart) → flat_map (planned_backing_text parts) (flat_map (planned_backings (map chain_table parts)) (map chain_table parts)) ≡ flat_map (backings_of parts) parts
backings_are parts =
    in_turn (planned_backing_text parts) (planned_backings (map chain_table parts)) (map chain_table parts)
    ∙ flat_map-map (λ (t : Table). flat_map (planned_backing_text parts) (planned_backings (map chain_table parts) t)) chain_table parts
    ∙ (λ i. flat_map (λ p. chain_is parts p i) parts)

pub plan_is : (parts : List ChainPart) (supplies : List PlannedSupply) (backings : List PlannedBacking) → supplies ≡ map (planned_supply (map chain_table parts)) (native_assets parts)
    → backings ≡ flat_map (planned_backings (map chain_table parts)) (map chain_table parts) → (let made : Plan = record { supplies = supplies; backings = backings } in made) ≡ plan_of (map chain_table parts)
unfolding plan_of
plan_is parts supplies backings s b = λ i. record { supplies = (s ∙ ap (map (planned_supply (map chain_table parts))) (sym (natives_are parts))) i; backings = b i }

pub block_is : (parts : List ChainPart) → planned_block parts (plan_of (map chain_table parts)) ≡ supply_block parts
unfolding plan_of
block_is parts = λ i. supplies_are parts i ++ backings_are parts i
