-- What no step changes of a chain: what the network document says of it. This project's own vocabulary.
use Rattle.std.specs.Prelude.{List, map}
use Rattle.channel_parts.specs.declared.channel.Channel.{Channel}
use Rattle.channel_parts.specs.Channels.{Outgoing}
use Rattle.exec_base.specs.declared.settings.Settings.{Settings}
use Rattle.exec_base.specs.Part.{ChainPart}
use Rattle.exec_rules.specs.declared.rules.ChainRules.{ChainRules}
use Rattle.network_steps.specs.Worlds.{Member, World}

-- its settings, and its channels without what waits in them
pub record Fixed : Type 0 where
  pub settings : Settings
  pub open settings use *
  pub channels : List Channel

abbrev pub fixed_of : ChainPart → Fixed
fixed_of p = record { settings = p.settings; channels = map (λ (c : Outgoing). c.channel) p.channels }

-- of all chains, in order, with how each runs programs
abbrev pub all_settings : World → List (ChainRules × Fixed)
all_settings w = map (λ (m : Member). (m.rules, fixed_of m.part)) w
