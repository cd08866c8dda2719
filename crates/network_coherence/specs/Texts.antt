-- The texts of what makes a network incoherent. Source: this project's own rule.
use Rattle.std.specs.Prelude.{ℕ, List, ◌++◌, codes}
use Rattle.chain_ids.specs.Texts.{chain_text}
use Rattle.network_coherence.specs.declared.faults.Incoherent.{Incoherent}
use Rattle.network_coherence.specs.declared.faults.IncoherentCause.{IncoherentCause}
use Rattle.network_coherence.specs.declared.faults.IncoherentCause.TheVariants.{PathTwice, IdNotNormal, PartnerUnlisted, ReserveUnlisted, InstanceTwice, NotBacked, CheckingShort}

abbrev pub cause_text : IncoherentCause → List ℕ
cause_text PathTwice = codes "PathTwice"
cause_text IdNotNormal = codes "IdNotNormal"
cause_text PartnerUnlisted = codes "PartnerUnlisted"
cause_text ReserveUnlisted = codes "ReserveUnlisted"
cause_text InstanceTwice = codes "InstanceTwice"
cause_text NotBacked = codes "NotBacked"
cause_text CheckingShort = codes "CheckingShort"

abbrev pub incoherent_text : Incoherent → List ℕ
incoherent_text i = cause_text i.cause ++ codes " " ++ chain_text i.first ++ codes " " ++ chain_text i.second
