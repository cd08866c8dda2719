-- Where every unit of a chain is listed. This project's own rule.
use Rattle.std.proofs.Common.{◌≡◌, ◌+◌, Bool, List}
use Rattle.std.specs.Prelude.{not}
use Rattle.asset_lists.specs.Listed.{Listed, lists}
use Rattle.asset_bundles.specs.Books.{is_unit_where}
use Rattle.trust_tables.specs.declared.rows.AssetRow.{AssetRow}
use Rattle.trust_tables.specs.Trust.{listing}
use Rattle.exec_base.specs.Part.{ChainPart}
use Rattle.law_runs.specs.Sums.{in_places, burned_where, Sum}

-- ---- what isn't listed
abbrev pub unlisted : List AssetRow → Listed → Bool
unlisted rows k = not (lists (listing rows) k)

-- all that is on a chain, what comes in, and all that was burned is listed
abbrev pub AllListed : Sum → ChainPart → Type 0
AllListed ins p = burned_where (unlisted p.rows) p + (in_places (is_unit_where (unlisted p.rows)) p + ins (is_unit_where (unlisted p.rows))) ≡ 0
