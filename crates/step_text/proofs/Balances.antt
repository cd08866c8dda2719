-- What is shown when the next account is.
use Rattle.std.proofs.Common.{◌≡◌, ◌∙◌, ℕ, List, [], ◌∷◌, ◌++◌, map, flat_map, Option, Some, None, refl, sym, ap}
use Rattle.std.proofs.lemmas.Grind.{flat_map-append}
use Rattle.amounts.specs.Amounts.{rows}
use Rattle.chain_ids.specs.declared.chain.ChainId.{ChainId}
use Rattle.asset_lists.specs.declared.units.Asset.{Asset}
use Rattle.asset_bundles.specs.Bundles.{held_assets}
use Rattle.ledgers.specs.Ledgers.{Holder, Held, IsNext, account_goods}
use Rattle.ledgers.specs.Holdings.{holding_at}
use Rattle.ledgers.proofs.Lemmas.Shown.{shown, rows_of_account}
use Rattle.ledgers.proofs.Lemmas.RowLaws.{none_shown}
use Rattle.ledgers.proofs.Lemmas.HoldingLaws.{account_assets, shown_next}
use Rattle.step_text.specs.Lines.{balance_line}
use Rattle.step_text.specs.Blocks.{holder_line}

abbrev holding_line : ChainId → List ℕ × Asset → List ℕ
holding_line chain holding = balance_line chain holding.0 holding.1

-- the lines of an account, of what it holds as a bundle and of its rows
of_assets : (chain : ChainId) (who : List ℕ) (assets : List Asset) → flat_map (balance_line chain who) assets ≡ flat_map (holding_line chain) (map (λ (a : Asset). (who, a)) assets)
of_assets chain who [] = refl
of_assets chain who (a ∷ assets) = ap (λ t. balance_line chain who a ++ t) (of_assets chain who assets)

of_rows : (chain : ChainId) (es : List (Holder × ℕ)) → flat_map (holding_line chain) (map holding_at es) ≡ flat_map (holder_line chain) es
of_rows chain [] = refl
of_rows chain (e ∷ es) = ap (λ t. holder_line chain e ++ t) (of_rows chain es)

account_lines : (chain : ChainId) (who : List ℕ) (held : Held) → flat_map (balance_line chain who) (held_assets (account_goods who held)) ≡ flat_map (holder_line chain) (rows_of_account who (rows held))
account_lines chain who held =
    of_assets chain who (held_assets (account_goods who held))
    ∙ ap (flat_map (holding_line chain)) (account_assets who held)
    ∙ of_rows chain (rows_of_account who (rows held))

-- the lines of the next account after those that are shown
pub lines_next : (chain : ChainId) (after : Option (List ℕ)) (who text more : List ℕ) (held : Held) → IsNext after held who
    → text ≡ flat_map (holder_line chain) (shown after (rows held)) → more ≡ text ++ flat_map (balance_line chain who) (held_assets (account_goods who held))
    → more ≡ flat_map (holder_line chain) (shown (Some who) (rows held))
lines_next chain after who text more held n t m =
    m ∙ (λ i. t i ++ account_lines chain who held i)
    ∙ sym (flat_map-append (holder_line chain) (shown after (rows held)) (rows_of_account who (rows held)))
    ∙ ap (flat_map (holder_line chain)) (sym (shown_next after who held n))

pub nothing_shown : (chain : ChainId) (held : Held) → [] ≡ flat_map (holder_line chain) (shown None (rows held))
nothing_shown chain held = ap (flat_map (holder_line chain)) (sym (none_shown (rows held)))
