use Rattle.std.proofs.Common.{◌≡◌, true, Vec, Global, map, sym, ◌∙◌, subst}
use Rattle.std.specs.Prelude.{Some, IfOk}
use Rattle.std.specs.List.{list_all}
use Rattle.asset_lists.specs.Units.{unit_of}
use Rattle.asset_lists.specs.Listed.{listed_of, lists}
use Rattle.asset_bundles.specs.declared.book.Cause.{Cause}
use Rattle.trust_tables.specs.Trust.{listing}
use Rattle.exec_base.specs.declared.event.Event.{Event}
use Rattle.exec_base.specs.Host.{burned_line, burned_lines}
use Rattle.chain_state.specs.PartOf.{part_of}
use Rattle.chain_state.specs.Lines.{cause_by}
use Rattle.chain_state.proofs.Bundles.{goods_listed}
use Rattle.chain_state.proofs.state.ChainState.burnt_lines.Goals as goal

pub lines-requires : goal.lines-requires
lines-requires c =
    subst (λ xs. list_all (λ a. lists (listing c.args.self.now.settings.rows) (listed_of (unit_of a))) xs ≡ true) (sym (c.as_slice.ensures.value ∙ c.in_ok-assets.ensures.listed))
    (goods_listed (listing c.args.self.now.settings.rows) c.args.goods.now c.requires)

pub returns : goal.returns
unfolding burned_lines
returns c =
    subst (λ xs. IfOk c.lines.result (λ (lines : Vec Event Global). lines.items ≡ map (burned_line (part_of c.args.self.now) (cause_by (Some Cause.BurnAsset))) xs)) (c.as_slice.ensures.value ∙ c.in_ok-assets.ensures.listed)
    c.lines.ensures
