-- An answer of the code in the words of `coherence`, whose definitions say which cause is the first; and a chain of a network document as
-- these definitions see it. This project's own.
use Rattle.std.specs.Prelude.{map, List, Option, Some, None}
use Rattle.law_coherence.specs.Networks.{Table}
use Rattle.law_coherence.specs.Causes as causes
use Rattle.law_coherence.specs.Causes.{Cause, ChainEntry}
use Rattle.network_spec.specs.declared.chain.ChainSpec.{ChainSpec}
use Rattle.network_spec.specs.declared.network.NetworkSpec.{NetworkSpec}
use Rattle.network_steps.specs.Genesis.{entry_of, entries_of}
use Rattle.network_coherence.specs.declared.faults.Incoherent.{Incoherent}
use Rattle.network_coherence.specs.declared.faults.IncoherentCause.{IncoherentCause}
use Rattle.network_coherence.specs.declared.faults.IncoherentCause.TheVariants.{PathTwice, IdNotNormal, PartnerUnlisted, ReserveUnlisted, InstanceTwice, NotBacked, CheckingShort}

-- the cause by its name
abbrev pub cause_of : IncoherentCause → Cause
cause_of PathTwice = Cause.PathTwice
cause_of IdNotNormal = Cause.IdNotNormal
cause_of PartnerUnlisted = Cause.PartnerUnlisted
cause_of ReserveUnlisted = Cause.ReserveUnlisted
cause_of InstanceTwice = Cause.InstanceTwice
cause_of NotBacked = Cause.NotBacked
cause_of CheckingShort = Cause.CheckingShort

-- the cause with its two chains
abbrev pub incoherent_of : Incoherent → causes.Incoherent
incoherent_of i = (cause_of i.cause, i.first, i.second)

-- the same of what may be found
abbrev pub finding_of : Option Incoherent → Option causes.Incoherent
finding_of None = None
finding_of (Some i) = Some (incoherent_of i)

-- what a chain of the document lists
abbrev pub document_table : NetworkSpec → ChainSpec → Table
document_table spec c = (entry_of spec c).table

-- chains with what their accounts hold
abbrev pub entries_in : NetworkSpec → List ChainSpec → List ChainEntry
entries_in spec chains = map (entry_of spec) chains

-- the tables of all chains
abbrev pub tables_in : NetworkSpec → List Table
tables_in spec = causes.entry_tables (entries_of spec)
