use Rattle.std.proofs.Common.{◌≡◌, ◌∙◌, ◌+◌, length, take, sym, ap, inl, inr, arith}
use Rattle.std.proofs.lemmas.Result.{err_from_is_err_and}
use Rattle.std.specs.Prelude.{nat_lt}
use Rattle.document_entries.specs.declared.fault.NetworkFault.TheVariants.{LimitPassed}
use Rattle.document_entries.specs.Entries.{amount_limit}
use Rattle.network_config.specs.Sums.{total_up_to}
use Rattle.network_config.specs.Totals.{total_key_of, total_under_key}
use Rattle.network_config.proofs.Summing.{within, beyond, summed, total_is, total_more, stops_at}
use Rattle.network_config.proofs.sums.check_shares.Goals as goal

pub returns-in_err-add_total : goal.returns-in_err-add_total
returns-in_err-add_total c =
    let same : total_under_key c.loop-share.totals.entries (total_key_of c.share-item.result) + c.share-item.result.amount ≡ total_up_to (take c.loop-share.share-index c.args.shares.now) c.share-item.result =
    total_is c.loop-share.totals.entries (take c.loop-share.share-index c.args.shares.now) c.share-item.result c.loop-share.invariant.totals in
    let p = err_from_is_err_and c.from_residual.result c.from_residual.ensures.1 in
    rw (p.1, p.2) (stops_at c.in_err-add_total.field-0.0 c.args.shares.now (LimitPassed c.share-item.result.place)
    (elim c.in_err-add_total.ensures.refused [
      | inl e ↦ inl e
      | inr e ↦ inr (e.0, c.loop-share.invariant.sums ∙ beyond c.args.shares.now c.loop-share.share-index c.share-item.result c.loop-share-test.true c.share-item.is (ap (λ n. nat_lt n amount_limit) (sym same) ∙ e.1))
    ]))

pub loop-share-preserved : goal.loop-share-preserved
loop-share-preserved c =
    let same : total_under_key c.loop-share.totals.entries (total_key_of c.share-item.result) + c.share-item.result.amount ≡ total_up_to (take c.loop-share.share-index c.args.shares.now) c.share-item.result =
    total_is c.loop-share.totals.entries (take c.loop-share.share-index c.args.shares.now) c.share-item.result c.loop-share.invariant.totals in
    record {
      sums = c.loop-share.invariant.sums ∙ within c.args.shares.now c.loop-share.share-index c.share-item.result c.loop-share-test.true c.share-item.is (ap (λ n. nat_lt n amount_limit) (sym same) ∙ c.in_ok-add_total.ensures.below);
      totals = total_more c.loop-share.totals.entries c.add_total.new.totals.entries c.args.shares.now c.loop-share.share-index c.share-item.result c.loop-share-test.true c.share-item.is c.in_ok-add_total.ensures.added c.loop-share.invariant.totals;
    }

pub returns : goal.returns
returns c = let all : length c.args.shares.now ≡ c.loop-share.share-index = omega arith in c.loop-share.invariant.sums ∙ summed c.args.shares.now c.loop-share.share-index _ all
