-- Where no message waits, nothing is on its way.
use Rattle.std.specs.Prelude.{◌≡◌, ℕ, min, Bool, true, false, not, ◌||◌, nat_eq, if◌then◌else◌, List, [], ◌∷◌, length, Option, refl, sum_by}
use Rattle.std.specs.List.{list_all}
use Rattle.std.proofs.Common.{ap, sym, ◌∙◌, arith}
use Rattle.std.proofs.lemmas.Bool.{and_parts, eqb-true}
use Rattle.std.proofs.lemmas.List.Sums.{sum_by-cons}
use Rattle.asset_lists.specs.declared.units.AssetId.{AssetId}
use Rattle.asset_lists.specs.declared.units.AssetId.TheVariants.{Concrete}
use Rattle.asset_lists.specs.declared.units.Kind.{Kind}
use Rattle.chain_ids.specs.declared.chain.ChainId.{ChainId}
use Rattle.trust_tables.specs.declared.rows.AssetRow.{AssetRow}
use Rattle.channel_parts.specs.Channels.{Waiting, Outgoing}
use Rattle.law_coherence.specs.UniversalAssets.{UniversalAsset}
use Rattle.exec_base.specs.Part.{ChainPart}
use Rattle.asset_bundles.specs.Books.{most_burned}
use Rattle.supply_audit.specs.declared.figures.Carried.{Carried}
use Rattle.supply_audit.specs.Places.{is_idle, is_towards, in_channel, carried_amount, channel_share, total_sent, is_chain_row_of, row_share, over_rows}

-- a sum of what is nothing each time
no_sum : {X : Type 0} (f : X → ℕ) (xs : List X) → ((x : X) → f x ≡ 0) → sum_by f xs ≡ 0
no_sum f [] none = refl
no_sum f (x ∷ xs) none = let here = none x in let rest = no_sum f xs none in let all = sum_by-cons f x xs in omega (arith, here, rest, all)

none_waits : (what : Carried) (id : AssetId) (kind : Kind) (c : Outgoing) (queue : List Waiting) → c.queue ≡ queue → nat_eq (length queue) 0 ≡ true → in_channel what id kind c ≡ 0
none_waits what id kind c [] is empty = ap (λ (ws : List Waiting). sum_by (λ (w : Waiting). carried_amount what id kind w.cargo) ws) is
none_waits what id kind c (w ∷ ws) is empty = let none = eqb-true (length (w ∷ ws)) 0 empty in absurd (omega (arith, none))

no_share : (what : Carried) (to : Option ChainId) (id : AssetId) (kind : Kind) (c : Outgoing) → is_idle to c ≡ true → channel_share what to id kind c ≡ 0
no_share what to id kind c idle =
    elim (is_towards to c) as (λ b. (not b || nat_eq (length c.queue) 0) ≡ true → (if b then in_channel what id kind c else 0) ≡ 0) [
      | true ↦ λ q. none_waits what id kind c c.queue refl q
      | false ↦ λ q. refl
    ] idle

pub none_sent : (what : Carried) (to : Option ChainId) (id : AssetId) (kind : Kind) (cs : List Outgoing) → list_all (is_idle to) cs ≡ true → total_sent what to cs id kind ≡ 0
none_sent what to id kind [] idle = refl
none_sent what to id kind (c ∷ cs) idle =
    let parts = and_parts (is_idle to c) (list_all (is_idle to) cs) idle in
    let here = no_share what to id kind c parts.0 in
    let rest = none_sent what to id kind cs parts.1 in
    let all = sum_by-cons (channel_share what to id kind) c cs in
    omega (arith, here, rest, all)

nothing_listed : (p : ChainPart) (a : UniversalAsset) (has : AssetId → Kind → ℕ) → ((id : AssetId) (kind : Kind) → has id kind ≡ 0) → over_rows p a has ≡ 0
nothing_listed p a has none = no_sum (row_share p a has) p.rows each where
  each : (row : AssetRow) → row_share p a has row ≡ 0
  each row = elim (is_chain_row_of p a row) as (λ b. (if b then has (Concrete row.id) row.kind else 0) ≡ 0) [ true ↦ none (Concrete row.id) row.kind | false ↦ refl ]

pub nothing_sent : (p : ChainPart) (a : UniversalAsset) (what : Carried) (to : Option ChainId) (idle : Bool) → idle ≡ list_all (is_idle to) p.channels → idle ≡ true
    → 0 ≡ min (over_rows p a (total_sent what to p.channels)) most_burned
nothing_sent p a what to idle says so =
    let none = nothing_listed p a (total_sent what to p.channels) (λ id kind. none_sent what to id kind p.channels (sym says ∙ so)) in
    omega (arith, none)
