-- What the list has once it has the next account's assets.
use Rattle.std.proofs.Common.{◌≡◌, ◌∙◌, ℕ, List, [], ◌++◌, map, Option, Some, None, sym, ap}
use Rattle.std.proofs.lemmas.List.{map-append}
use Rattle.amounts.specs.Amounts.{rows}
use Rattle.asset_lists.specs.declared.units.Asset.{Asset}
use Rattle.asset_bundles.specs.Bundles.{held_assets}
use Rattle.ledgers.specs.Ledgers.{Held, IsNext, account_goods}
use Rattle.ledgers.specs.Holdings.{holding_at}
use Rattle.ledgers.proofs.Lemmas.Shown.{shown, rows_of_account}
use Rattle.ledgers.proofs.Lemmas.RowLaws.{none_shown}
use Rattle.ledgers.proofs.Lemmas.HoldingLaws.{account_assets, shown_next}

pub next_listed : (after : Option (List ℕ)) (who : List ℕ) (list more : List (List ℕ × Asset)) (held : Held) → IsNext after held who
    → list ≡ map holding_at (shown after (rows held)) → more ≡ list ++ map (λ (a : Asset). (who, a)) (held_assets (account_goods who held))
    → more ≡ map holding_at (shown (Some who) (rows held))
next_listed after who list more held n l m =
    m ∙ (λ i. l i ++ account_assets who held i)
    ∙ sym (map-append holding_at (shown after (rows held)) (rows_of_account who (rows held)))
    ∙ ap (map holding_at) (sym (shown_next after who held n))

pub nothing_listed : (held : Held) → [] ≡ map holding_at (shown None (rows held))
nothing_listed held = ap (map holding_at) (sym (none_shown (rows held)))
