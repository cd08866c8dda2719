use Rattle.std.proofs.Common.{◌++◌, length, map, sym, ap, subst, ◌∙◌}
use Rattle.asset_bundles.specs.Books.{AreListed}
use Rattle.asset_bundles.proofs.Lemmas.{listed_list}
use Rattle.asset_bundles.specs.Traps.{Store, with_trapped}
use Rattle.asset_bundles.specs.Sums.{keys_in, raised_sum_row}
use Rattle.asset_bundles.proofs.Settling.{raised_sums, is_trapped}
use Rattle.asset_bundles.proofs.store.TrapStore.take_in.Goals as goal

pub invariant_of-self-2 : goal.invariant_of-self-2
invariant_of-self-2 c =
    let before : Store = record { traps = c.self.inside.traps; next = c.self.inside.next } in
    raised_sums c.make_rows.new.rows.items c.raise_all.new.rows _ c.make_rows.new.rows.len before c.args.origin.now c.args.goods.now c.append.new.self
    (ap length (sym c.as_mut_slice.ensures.value) ∙ c.as_mut_slice.ensures.len)
    (c.raise_all.ensures ∙ ap (map (raised_sum_row c.args.goods.now)) c.as_mut_slice.ensures.value)
    (subst (AreListed (keys_in c.make_rows.new.rows.items)) c.items.ensures.bundle (listed_list (keys_in c.make_rows.new.rows.items) c.items.result.now c.in_ok-make_rows.ensures.listed))
    (c.in_ok-append.ensures ∙ ap (λ ts. c.self.inside.traps ++ ts) c.in_ok-traps.ensures.traps)
    (λ k. c.make_rows.ensures.same k ∙ c.self.invariant k)

pub returns : goal.returns
returns c =
    let before : Store = record { traps = c.self.inside.traps; next = c.self.inside.next } in (
      ap (λ (s : Store). s.next) c.self.view_is,
      is_trapped before c.args.origin.now c.args.goods.now c.in_ok-traps.traps.items c.append.new.self c.in_ok-traps.next c.in_ok-append.ensures c.in_ok-traps.ensures.traps c.in_ok-traps.ensures.number
          ∙ ap (λ s. with_trapped s c.args.origin.now c.args.goods.now) c.self.view_is,
    )
