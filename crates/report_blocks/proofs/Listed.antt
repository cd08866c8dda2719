-- No step changes what chains list.
use Rattle.std.proofs.Common.{◌≡◌, ◌∙◌, ℕ, zero, suc, List, [], ◌∷◌, map, Option, Some, None, refl, sym, ap}
use Rattle.std.specs.Option.{option_map_or}
use Rattle.chain_ids.specs.declared.chain.ChainId.{ChainId}
use Rattle.law_coherence.specs.Networks.{Table}
use Rattle.exec_rules.specs.declared.rules.ChainRules.{ChainRules}
use Rattle.network_steps.specs.Worlds.{World}
use Rattle.network_steps.specs.Fixed.{Fixed, all_settings}
use Rattle.network_steps.specs.Steps.{Link, Step, exec, deliver, claim, next_world, next_channel, deliveries, world_behind}
use Rattle.network_steps.specs.Sends.{deliveries_left}
use Rattle.network_steps.specs.Steps as steps
use Rattle.supply_audit.specs.Places.{chain_table}
use Rattle.report_blocks.specs.Tables.{world_tables}

abbrev table_in : ChainRules × Fixed → Table
table_in s = record { site = s.1.settings.site; rows = s.1.settings.rows }

said : (w : World) → map table_in (all_settings w) ≡ world_tables w
said [] = refl
said (m ∷ w) = ap (λ (ts : List Table). chain_table m.part ∷ ts) (said w)

same_tables : (now w : World) → all_settings now ≡ all_settings w → world_tables now ≡ world_tables w
same_tables now w same = sym (said now) ∙ ap (map table_in) same ∙ said w

-- what a law says of each step
pub record KeepsSettings : Type 0 where
  pub exec : (w : World) (chain : ChainId) (account bytes : List ℕ) → all_settings (exec w chain account bytes).world ≡ all_settings w
  pub deliver : (w : World) (from to : ChainId) → all_settings (deliver w from to).world ≡ all_settings w
  pub claim : (w : World) (from to : ChainId) (bytes : List ℕ) → all_settings (claim w from to bytes).world ≡ all_settings w

module _ (keeps : KeepsSettings) (order : List Link) where
  behind : (n : ℕ) (w : World) → world_tables (world_behind w (deliveries n order w)) ≡ world_tables w
  unfolding deliveries
  behind zero w = refl
  behind (suc n) w =
      elim (next_channel order w) as (λ (next : Option Link).
      world_tables (world_behind w (option_map_or (λ (link : Link). (link, deliver w link.0 link.1) ∷ deliveries n order (deliver w link.0 link.1).world) next [])) ≡ world_tables w) [
        | None ↦ refl
        | Some link ↦ behind n (deliver w link.0 link.1).world ∙ same_tables (deliver w link.0 link.1).world w (keeps.deliver w link.0 link.1)
      ]

  pub tables_kept : (w : World) (step : Step) → world_tables (next_world order w step) ≡ world_tables w
  tables_kept w (steps.Exec chain account bytes) = same_tables (exec w chain account bytes).world w (keeps.exec w chain account bytes)
  tables_kept w (steps.Deliver from to) = same_tables (deliver w from to).world w (keeps.deliver w from to)
  tables_kept w (steps.Claim from to bytes) = same_tables (claim w from to bytes).world w (keeps.claim w from to bytes)
  tables_kept w steps.Drain = behind (deliveries_left w) w
  tables_kept w steps.Balances = refl
  tables_kept w steps.Traps = refl
  tables_kept w steps.Queues = refl
  tables_kept w steps.Supply = refl
