-- The document of the generator's network, read stage by stage, each by computing.
use Rattle.std.proofs.Common.{◌≡◌, ◌∙◌, true, refl, ap, Some, None, Ok, codes}
use Rattle.std.specs.Str.{is_utf8}
use Rattle.std.specs.Fmt.{digits}
use Rattle.std.proofs.lemmas.Str.{is_utf8-from_IsUtf8}
use Rattle.std.proofs.lemmas.Bool.{cond-true}
use lib.Utf8.{encode}
use Rattle.json.specs.Json.{items, members, value}
use Rattle.json.specs.Lex.{lex, punctuate}
use Rattle.json.specs.Text.{content, short_escape, code_unit}
use Rattle.json.specs.Word.{word, after_number}
use Rattle.std.specs.Float.Numeral.{scan_numeral}
use Rattle.serde_json.specs.Data.{Data, unsigned, number, string, array, object, no_items, item, no_members, member}
use Rattle.serde_json.specs.Read.{read, number_of}
use Rattle.hex.specs.Hex.{decode_pairs}
use Rattle.document_entries.specs.Forms.{◌>>=◌, ◌>>◌, fields, required_field, list_field, list, entries, whole_number, number_within, text, decimal_below, bytes32_form, chain, passing, pair}
use Rattle.document_entries.specs.LocationTexts.{parsed_location, junctions_of, junction_of}
use Rattle.document_entries.specs.Entries.{location_form, locations, instance_form, rate_limit, amount_limit, positive_amount_form, barrier, rate, kind, asset_row, account, version, channel_entry}
use Rattle.network_config.specs.Chains.{chain_head, short_list, checked_lists, barriers_field, truth, own_chain_fields, chain_entry}
use Rattle.network_config.specs.Document.{shapes, chains_list, has_fees, network_id_form as network_form}
use Rattle.network_config.specs.References.{references, chains_references, chain_references, each_in}
use Rattle.network_config.specs.Sums.{sums, sums_in, shares_of, shares_in}
use Rattle.network_config.specs.Network.{json_of, of_value, network_of_value, network_of, arranged, sorted_chains, put_chain}
use Rattle.generator.specs.Network.{document, described_network}

-- the JSON value of the document
abbrev pub described : Data
described = object (member (codes "chains") (array (item (object (member (codes "accounts") (array (item (object (member (codes "amount") (string (codes "1000000")) (member (codes "asset") (string (codes "0")) (member (codes "who") (string (codes "0x0101010101010101010101010101010101010101010101010101010101010101")) (no_members))))) (no_items))) (member (codes "assets") (array (item (object (member (codes "id") (string (codes "0")) (member (codes "native") (array (no_items)) (no_members)))) (no_items))) (member (codes "rates") (array (item (object (member (codes "asset") (string (codes "0")) (member (codes "per_mb") (string (codes "0")) (member (codes "per_second") (string (codes "1000000000")) (no_members))))) (no_items))) (no_members))))) (item (object (member (codes "assets") (array (item (object (member (codes "id") (string (codes "1")) (member (codes "reserve") (string (codes "relay")) (no_members)))) (no_items))) (member (codes "para") (number (unsigned 2000)) (member (codes "rates") (array (item (object (member (codes "asset") (string (codes "1")) (member (codes "per_mb") (string (codes "0")) (member (codes "per_second") (string (codes "1000000000")) (no_members))))) (no_items))) (no_members))))) (item (object (member (codes "assets") (array (item (object (member (codes "id") (string (codes "1")) (member (codes "reserve") (string (codes "relay")) (no_members)))) (no_items))) (member (codes "para") (number (unsigned 2001)) (member (codes "rates") (array (item (object (member (codes "asset") (string (codes "1")) (member (codes "per_mb") (string (codes "0")) (member (codes "per_second") (string (codes "1000000000")) (no_members))))) (no_items))) (no_members))))) (no_items))))) (member (codes "channels") (array (item (object (member (codes "from") (string (codes "relay")) (member (codes "to") (number (unsigned 2000)) (no_members)))) (item (object (member (codes "from") (number (unsigned 2000)) (member (codes "to") (string (codes "relay")) (no_members)))) (item (object (member (codes "from") (string (codes "relay")) (member (codes "to") (number (unsigned 2001)) (no_members)))) (item (object (member (codes "from") (number (unsigned 2001)) (member (codes "to") (string (codes "relay")) (no_members)))) (no_items)))))) (no_members)))

pub is_text : is_utf8 document ≡ true
unfolding encode
is_text = is_utf8-from_IsUtf8 document (document, (refl, refl))

pub is_read : read document ≡ Some described
unfolding items members value lex punctuate content short_escape code_unit word after_number number_of scan_numeral
is_read = refl

pub is_shaped : shapes described ≡ Ok described_network
unfolding shapes described_network fields required_field list_field list entries whole_number number_within text decimal_below bytes32_form chain passing pair parsed_location junctions_of junction_of location_form locations instance_form rate_limit amount_limit positive_amount_form barrier rate kind asset_row account version channel_entry chain_head short_list checked_lists barriers_field truth own_chain_fields chain_entry chains_list has_fees network_form decode_pairs digits
is_shaped = refl

pub is_referred : references described_network ≡ Ok tt
unfolding described_network references chains_references chain_references each_in
is_referred = refl

pub is_summed : sums described_network ≡ Ok tt
unfolding described_network sums sums_in shares_of shares_in amount_limit
is_summed = refl

pub is_arranged : arranged described_network ≡ described_network
unfolding described_network sorted_chains put_chain
is_arranged = refl

is_described : network_of_value described ≡ Ok described_network
unfolding network_of_value
is_described =
    ap (λ r. r >>= λ spec. references spec >> (sums spec >> Ok (arranged spec))) is_shaped
    ∙ ap (λ r. r >> (sums described_network >> Ok (arranged described_network))) is_referred
    ∙ ap (λ r. r >> Ok (arranged described_network)) is_summed
    ∙ ap Ok is_arranged

-- the document is accepted
pub is_accepted : network_of document ≡ Ok described_network
unfolding network_of json_of
is_accepted = ap of_value (cond-true (is_utf8 document) (read document) None is_text ∙ is_read) ∙ is_described
