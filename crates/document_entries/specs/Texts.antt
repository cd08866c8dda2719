-- What a report says of a refused network document. Source: this project's own rule.
use Rattle.std.specs.Prelude.{ℕ, List, ◌++◌, codes, decimal, Option, Some, None}
use Rattle.document_entries.specs.declared.fault.NetworkFault.{NetworkFault}
use Rattle.document_entries.specs.declared.fault.NetworkFault.TheVariants.{NotJson, MissingField, WrongKind, UnknownField, BadValue, Repeated, LimitPassed, Memory}
use Rattle.document_entries.specs.declared.fault.Place.{Place}
use Rattle.document_entries.specs.declared.fault.Section.{Section}
use Rattle.document_entries.specs.declared.fault.Section.TheVariants.{Top, Fields, Barriers, Rates, Assets, Accounts, Pallets, Queries, Pools, Channels}

abbrev pub section_name : Section → List ℕ
section_name Top = codes "top"
section_name Fields = codes "fields"
section_name Barriers = codes "barriers"
section_name Rates = codes "rates"
section_name Assets = codes "assets"
section_name Accounts = codes "accounts"
section_name Pallets = codes "pallets"
section_name Queries = codes "queries"
section_name Pools = codes "pools"
section_name Channels = codes "channels"

abbrev pub in_section : Section → ℕ → List ℕ
in_section section index = section_name section ++ codes " " ++ decimal index

abbrev pub with_chain_prefix : Option ℕ → List ℕ → List ℕ
with_chain_prefix None text = text
with_chain_prefix (Some chain) text = codes "chains " ++ decimal chain ++ codes " " ++ text

abbrev pub document_place_text : Place → List ℕ
document_place_text place = with_chain_prefix place.chain (in_section place.section place.index)

abbrev pub fault_text : NetworkFault → List ℕ
fault_text (NotJson place) = codes "NotJson at " ++ document_place_text place
fault_text (MissingField place) = codes "MissingField at " ++ document_place_text place
fault_text (WrongKind place) = codes "WrongKind at " ++ document_place_text place
fault_text (UnknownField place) = codes "UnknownField at " ++ document_place_text place
fault_text (BadValue place) = codes "BadValue at " ++ document_place_text place
fault_text (Repeated place) = codes "Repeated at " ++ document_place_text place
fault_text (LimitPassed place) = codes "LimitPassed at " ++ document_place_text place
fault_text Memory = codes "out of memory"
