use Rattle.std.proofs.Common.{◌≡◌, ◌∙◌, ℕ, ◌+◌, ◌-◌, ◌<◌, ap, sym, cond, drop, get_or, length, Option, Some, arith}
use Rattle.std.proofs.lemmas.List.{drop_all, drop_more}
use Rattle.chain_ids.specs.Chains.{same_chain}
use Rattle.network_config.specs.Names.{named_place, first_place}
use Rattle.network_config.proofs.names.NamedChains.of.Goals as goal

pub loop-at-init : goal.loop-at-init
loop-at-init c =
    let xs = c.args.chains.now in
    record {
      within = omega arith;
      places = λ q. ap (λ es. named_place es q) c.in_ok-places.ensures.empty ∙ ap (λ ys. first_place (length xs) ys q) (sym (drop_all (length xs) xs (omega arith)));
    }

pub loop-at-preserved : goal.loop-at-preserved
loop-at-preserved c =
    let xs = c.args.chains.now in
    let k = c.loop-at.at - 1 in
    let next : c.loop-at.at ≡ k + 1 = omega arith in
    let inside : k < length xs = omega (arith, c.loop-at.invariant.within, c.loop-at-test.true) in
    record {
      within = omega (arith, inside);
      places = λ q.
          c.in_ok-put_name.ensures q
          ∙ (λ i. cond {A = Option ℕ} (same_chain (get_or xs k c.index-chains-at.result).chain q) (Some k) ((c.loop-at.invariant.places q ∙ ap (λ m. first_place m (drop m xs) q) next) i))
          ∙ ap (λ ys. first_place k ys q) (sym (drop_more xs k c.index-chains-at.result inside));
    }
