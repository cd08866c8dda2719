-- The notes after one is written.
use Rattle.std.proofs.Common.{◌≡◌, ℕ, ◌≤◌, List, None, sym, ap, ◌∙◌, arith}
use Rattle.std.specs.Prelude.{if◌then◌else◌, Option, unwrap_or}
use Rattle.std.specs.Ordering.{eq_by_cmp}
use Rattle.std.specs.Cmp.{eq_by_cmp_equiv}
use Rattle.std.specs.Map.{lookup}
use Rattle.amounts.specs.Amounts.{with_amount}
use Rattle.amounts.proofs.Lemmas.Entries.{amount-from_entries, from_entries_changed}
use Rattle.asset_locks.specs.LockMaps.{NoteKey, note_cmp}
use Rattle.asset_locks.specs.NoteRows.{notes_in, note_at}
use Rattle.asset_locks.proofs.Lemmas.{note_keys}

module _ (rows : List (NoteKey × ℕ)) (key said : NoteKey) (same : said ≡ key) where
  pub note_read : (o : Option ℕ) → o ≡ lookup (eq_by_cmp note_cmp said) rows → unwrap_or o 0 ≡ note_at rows key
  note_read o is = ap (λ f. unwrap_or f 0) (is ∙ ap (λ k. lookup (eq_by_cmp note_cmp k) rows) same) ∙ sym (amount-from_entries note_keys rows key)

  pub note_written : (new : List (NoteKey × ℕ)) (v : Option ℕ) → ((q : NoteKey) → lookup (eq_by_cmp note_cmp q) new ≡ (if eq_by_cmp note_cmp said q then v else lookup (eq_by_cmp note_cmp q) rows))
      → notes_in new ≡ with_amount (notes_in rows) key (unwrap_or v 0)
  note_written new v wrote = from_entries_changed note_keys rows new key v (λ q.
      wrote q ∙ ap (λ k. if eq_by_cmp note_cmp k q then v else lookup (eq_by_cmp note_cmp q) rows) same
      ∙ ap (λ b. if b then v else lookup (eq_by_cmp note_cmp q) rows) ((eq_by_cmp_equiv note_keys.total).symm key q))

  pub note_absent : lookup (eq_by_cmp note_cmp said) rows ≡ None → (a : ℕ) → a ≤ note_at rows key → a ≡ 0
  note_absent none a le =
      let is : 0 ≡ note_at rows key = note_read None (sym none) in
      omega (arith, is, le)
