use Rattle.asset_pools.proofs.Lemmas.ExchangeLaws.{least_says, least_gives}
use Rattle.asset_pools.proofs.Paying.{quotient, quotient_is_least, least_of}
use Rattle.asset_pools.proofs.exchange_laws.law_of_least_amounts.Goals as goal

pub returns : goal.returns
returns c = record {
  there_is = λ x y g w share some below. (quotient x y g w, quotient_is_least x y g w share some below);
  is_found = least_of;
  is_least = λ x y g w a told. (least_says x y g w a told).least;
  is_taken = least_gives;
}
