-- What lowers only one account, and what exchanges lower.
use Rattle.std.proofs.Common.{◌≡◌, ℕ, Bool, List, Option, Some, None, refl}
use Rattle.std.specs.Option.{option_map_or}
use Rattle.asset_lists.specs.declared.units.Asset.{Asset}
use Rattle.asset_bundles.specs.Bundles.{Bundle}
use Rattle.asset_pools.specs.declared.exchanges.Exchange.{Exchange}
use Rattle.asset_pools.specs.Exchanges.{held_after}
use Rattle.asset_pools.specs.Spending.{IsSpeaker, Spends}
use Rattle.asset_pools.proofs.Lemmas.Keeping.{exchange_says}
use Rattle.asset_pools.proofs.Lemmas.SpendingLaws.{spends_others, spends_exchange}
use Rattle.exec_base.specs.Part.{ChainPart}
use Rattle.exec_base.specs.Pools.{exchange_at, exchanged}
use Rattle.law_authority.specs.Origins.{SpendsOf, SpendsOnly, KeepsBurns}
use Rattle.law_authority.proofs.Lemmas.SpendingLaws.{same_burns, same_spends}
use Rattle.law_authority.proofs.Lowering.{LowersOnly}

-- what lowers only that account spends only that account's
pub spends_by : (s : Option (List ℕ)) (p q : ChainPart) → q.settings ≡ p.settings → LowersOnly s p.held q.held → KeepsBurns p.burns q.burns → SpendsOnly s p q
spends_by s p q same h kept = record { settings = same; spends = spends_others (IsSpeaker s) p.pools p.held q.held h; burns = kept }

-- ---- exchanges
exchange_spends : (may : List ℕ → Type 0) (p : ChainPart) (give : Bundle) (want : List Asset) (maximal : Bool) (o : Option Exchange) → exchange_at p give want maximal ≡ o
    → Spends may p.pools p.held (option_map_or (λ (e : Exchange). let q : ChainPart = record p { held = held_after e p.held } in q) o p).held
exchange_spends may p give want maximal None is = (same_spends may p).spends
exchange_spends may p give want maximal (Some e) is = spends_exchange may p.pools p.held give e (exchange_says p.pools p.held give want maximal e is)

pub exchanged_spends : (may : List ℕ → Type 0) (p : ChainPart) (give : Bundle) (want : List Asset) (maximal : Bool) → SpendsOf may p (record p { held = (exchanged p give want maximal).held })
unfolding exchanged
exchanged_spends may p give want maximal = record { settings = refl; spends = exchange_spends may p give want maximal (exchange_at p give want maximal) refl; burns = same_burns p.burns }
