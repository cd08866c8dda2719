-- Lemmas on the definitions of `specs/Histories.antt`: what proofs cite.
use Rattle.std.specs.Prelude.{◌≡◌, ℕ, ◌+◌, ◌<◌, ◌^◌, Some, slice_get, slice_set, refl}
use Rattle.std.proofs.Common.{sym, ◌∙◌, subst, arith}
use Rattle.trust_tables.specs.declared.rows.AssetRow.{AssetRow}
use Rattle.law_coherence.specs.UniversalAssets.{UniversalAsset, every}
use Rattle.law_coherence.specs.Networks.{IsIn, asset_of_row, Agrees}
use Rattle.law_coherence.specs.Parts.{Part, WorldView, stock, burned, supply, Backed}
use Rattle.law_coherence.specs.Steps.{tables_of, SafeStep}
use Rattle.law_coherence.proofs.Lemmas.Steps.{same_cover, cover_then, safe_step, safe_exchange}
use Rattle.law_coherence.proofs.Lemmas.Bounds.{row_at_most}
use Rattle.law_coherence.specs.Histories.{Start, One, Two, History}

pub safe_same : (w : WorldView) → SafeStep w w
safe_same w = record { tables = refl; supplied = λ a. refl; rare = λ a choice. omega arith; cover = same_cover w; backed = λ b. b; checked = λ c. c; within = λ first c. c }

pub safe_then : (w v u : WorldView) → SafeStep w v → SafeStep v u → SafeStep w u
safe_then w v u x y = record {
  tables = y.tables ∙ x.tables;
  supplied = λ a. y.supplied a ∙ x.supplied a;
  rare = λ a choice. let one = x.rare a choice in let two = y.rare a choice in omega (arith, one, two);
  cover = cover_then w v u x.tables x.cover y.cover;
  backed = λ b. y.backed (x.backed b);
  checked = λ c. y.checked (x.checked c);
  within = λ first c. y.within first (x.within first c);
}

pub safe_history : (w v : WorldView) → Agrees (tables_of w) → History w v → SafeStep w v
safe_history w v agrees Start = safe_same w
safe_history w u agrees (One v i p q before at safe) =
    let so_far = safe_history w v agrees before in
    safe_then w v (slice_set v i q) so_far (safe_step v (subst Agrees (sym so_far.tables) agrees) i p q at safe)
safe_history w u agrees (Two v i j p p' q q' before at_i at_j apart e) =
    let so_far = safe_history w v agrees before in
    safe_then w v (slice_set (slice_set v i p') j q') so_far (safe_exchange v (subst Agrees (sym so_far.tables) agrees) i j p p' q q' at_i at_j apart e)

-- below 2^127 at genesis, below 2^127 at each chain for ever, burned ones included
pub never_passes : (w v : WorldView) → Agrees (tables_of w) → Backed w → ((a : UniversalAsset) → supply a w < 2 ^ 127) → History w v
    → (k : ℕ) (p : Part) (row : AssetRow) → slice_get v k ≡ Some p → IsIn p.table.rows row → stock (asset_of_row p.table row) every p + burned (asset_of_row p.table row) p < 2 ^ 127
never_passes w v agrees b small history k p row at inside =
    let safe = safe_history w v agrees history in
    let le = row_at_most v (subst Agrees (sym safe.tables) agrees) (safe.backed b) k p row at inside in
    let same = safe.supplied (asset_of_row p.table row) in
    let few = small (asset_of_row p.table row) in
    omega (arith, le, same, few)
