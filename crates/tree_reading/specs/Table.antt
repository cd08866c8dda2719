-- The fields of the instructions by their indices, in the order of the XCM format: their names, and the kinds of their values. This project's own
-- profile of versions 3 and 4: both have the same fields.
use Rattle.std.specs.Prelude.{ℕ, Bool, ◌==◌, ◌||◌, List, [], ◌∷◌, get_or, codes}
use Rattle.tree_reading.specs.declared.kinds.Words.TheVariants as words
use Rattle.tree_reading.specs.declared.table.Kind.{Kind}
use Rattle.tree_reading.specs.declared.table.Kind.TheVariants as kinds

-- in the order of the indices, from 0
abbrev pub table : List (List (List ℕ × Kind))
table = ((codes "assets", kinds.Assets) ∷ [])
    ∷ ((codes "assets", kinds.Assets) ∷ [])
    ∷ ((codes "assets", kinds.Assets) ∷ [])
    ∷ ((codes "query_id", kinds.Row words.Number64) ∷ (codes "response", kinds.Response) ∷ (codes "max_weight", kinds.Row words.Weight) ∷ (codes "querier", kinds.Row words.LocationOrNone) ∷ [])
    ∷ ((codes "assets", kinds.Assets) ∷ (codes "beneficiary", kinds.Row words.Location) ∷ [])
    ∷ ((codes "assets", kinds.Assets) ∷ (codes "dest", kinds.Row words.Location) ∷ [])
    ∷ ((codes "origin_kind", kinds.Row words.OriginKind) ∷ (codes "require_weight_at_most", kinds.Row words.Weight) ∷ (codes "call", kinds.Row words.Bytes) ∷ [])
    ∷ ((codes "sender", kinds.Row words.Number32) ∷ (codes "max_message_size", kinds.Row words.Number32) ∷ (codes "max_capacity", kinds.Row words.Number32) ∷ [])
    ∷ ((codes "recipient", kinds.Row words.Number32) ∷ [])
    ∷ ((codes "initiator", kinds.Row words.Number32) ∷ (codes "sender", kinds.Row words.Number32) ∷ (codes "recipient", kinds.Row words.Number32) ∷ [])
    ∷ ([])
    ∷ ((codes "interior", kinds.Row words.Path) ∷ [])
    ∷ ((codes "info", kinds.Info) ∷ [])
    ∷ ((codes "assets", kinds.Filter) ∷ (codes "beneficiary", kinds.Row words.Location) ∷ [])
    ∷ ((codes "assets", kinds.Filter) ∷ (codes "dest", kinds.Row words.Location) ∷ [])
    ∷ ((codes "give", kinds.Filter) ∷ (codes "want", kinds.Assets) ∷ (codes "maximal", kinds.Row words.Flag) ∷ [])
    ∷ ((codes "assets", kinds.Filter) ∷ (codes "reserve", kinds.Row words.Location) ∷ [])
    ∷ ((codes "assets", kinds.Filter) ∷ (codes "dest", kinds.Row words.Location) ∷ [])
    ∷ ((codes "info", kinds.Info) ∷ (codes "assets", kinds.Filter) ∷ [])
    ∷ ((codes "fees", kinds.Row words.Asset) ∷ (codes "limit", kinds.Row words.Limit) ∷ [])
    ∷ ([])
    ∷ ([])
    ∷ ([])
    ∷ ([])
    ∷ ((codes "assets", kinds.Assets) ∷ (codes "ticket", kinds.Row words.Location) ∷ [])
    ∷ ((codes "code", kinds.Row words.Number64) ∷ [])
    ∷ ((codes "query_id", kinds.Row words.Number64) ∷ (codes "max_response_weight", kinds.Row words.Weight) ∷ [])
    ∷ ([])
    ∷ ((codes "assets", kinds.Assets) ∷ [])
    ∷ ((codes "assets", kinds.Assets) ∷ [])
    ∷ ((codes "origin", kinds.Row words.LocationOrNone) ∷ [])
    ∷ ((codes "error", kinds.Row words.Failure) ∷ [])
    ∷ ((codes "status", kinds.Row words.Status) ∷ [])
    ∷ ((codes "module_name", kinds.Row words.Bytes) ∷ (codes "info", kinds.Info) ∷ [])
    ∷ ((codes "index", kinds.Row words.Number32) ∷ (codes "name", kinds.Row words.Bytes) ∷ (codes "module_name", kinds.Row words.Bytes) ∷ (codes "crate_major", kinds.Row words.Number32) ∷ (codes "min_crate_minor", kinds.Row words.Number32) ∷ [])
    ∷ ((codes "info", kinds.Info) ∷ [])
    ∷ ([])
    ∷ ((codes "junction", kinds.Row words.Junction) ∷ [])
    ∷ ((codes "network", kinds.Row words.Network) ∷ (codes "destination", kinds.Row words.Path) ∷ [])
    ∷ ((codes "asset", kinds.Row words.Asset) ∷ (codes "unlocker", kinds.Row words.Location) ∷ [])
    ∷ ((codes "asset", kinds.Row words.Asset) ∷ (codes "target", kinds.Row words.Location) ∷ [])
    ∷ ((codes "asset", kinds.Row words.Asset) ∷ (codes "owner", kinds.Row words.Location) ∷ [])
    ∷ ((codes "asset", kinds.Row words.Asset) ∷ (codes "locker", kinds.Row words.Location) ∷ [])
    ∷ ((codes "jit_withdraw", kinds.Row words.Flag) ∷ [])
    ∷ ((codes "topic", kinds.Row words.Topic) ∷ [])
    ∷ ([])
    ∷ ((codes "target", kinds.Row words.Location) ∷ [])
    ∷ ((codes "limit", kinds.Row words.Limit) ∷ (codes "check_origin", kinds.Row words.LocationOrNone) ∷ [])
    ∷ []

-- but for the program inside
unfoldable pub fields_at_index : ℕ → List (List ℕ × Kind)
fields_at_index index = get_or table index []

-- whether a program is inside
abbrev pub nests : ℕ → Bool
nests n = (n == 5) || (n == 14) || (n == 16) || (n == 17) || (n == 21) || (n == 22) || (n == 38)
