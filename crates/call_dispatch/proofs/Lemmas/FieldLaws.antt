-- One law for each type: its reader takes what is spelled, and nothing else.
use Rattle.std.proofs.Common.{◌≡◌, ℕ, ◌<◌, ◌≤◌, ◌^◌, ltb, List, ◌++◌, length, Some, refl, arith}
use Rattle.std.proofs.lemmas.Bool.{ltb-true, lt-ltb}
use Rattle.scale_codec.specs.Spelling.{byte, compact, measured, counted}
use Rattle.scale_codec.specs.Reading.{Reads, below_at, indexed_at}
use Rattle.scale_codec.proofs.Lemmas.NumberLaws.{byte_reads, bytes_reads}
use Rattle.scale_codec.proofs.Lemmas.Compact.{c32, c128}
use Rattle.scale_codec.proofs.Lemmas.Schemes.{◌&◌, AllFormed, guarded_reads, at_most_reads, indexed_reads, made1_again, made3_again, formed1, formed3, counted_reads, measured_reads}
use Rattle.call_dispatch.specs.declared.call.Call.TheVariants.{Remark, Transfer, Fail, Batch}
use Rattle.call_dispatch.specs.Spelling.{Item, AnyCall, FitsPositive, item, FitsItem, FitsItems, call, FitsCall}
use Rattle.call_dispatch.specs.Reading.{at_most_at, remark_at, positive_at, item_forms, item_at, batch_at, call_forms, call_at}

at_most : (most : ℕ) → most < 2 ^ 32 → Reads compact (λ n. n ≤ most) (at_most_at most)
at_most most few = at_most_reads compact _ _ c32 most (λ n le. omega (arith, le, few))

remark_reads : Reads (measured compact) (λ bytes. length bytes ≤ 1024) remark_at
unfolding remark_at
remark_reads = measured_reads compact _ _ (at_most 1024 (omega arith))

amount_reads : Reads compact FitsPositive positive_at
amount_reads = guarded_reads compact _ (λ n. 0 < n) (λ n. ltb 0 n) (below_at (2 ^ 128)) (λ n. ltb-true 0 n) (λ n. lt-ltb 0 n) c128

-- ---- calls that are no batches

item_formed : AllFormed item FitsItem 0 item_forms
item_formed =
    formed1 item FitsItem (measured compact) _ _ remark_reads Remark 0 (λ _. refl) (λ _ h. h)
    & formed3 item FitsItem compact _ _ c32 (λ x. x) _ _ (bytes_reads 32) compact _ _ amount_reads Transfer 1 (λ _ _ _. refl) (λ _ _ _ h j k. (h, j, k))
    & formed1 item FitsItem byte _ _ byte_reads Fail 2 (λ _. refl) (λ _ h. h)
    & tt

item_again : (i : Item) (rest : List ℕ) → FitsItem i → indexed_at item_forms (item i ++ rest) ≡ Some (i, rest)
item_again (Remark bytes) rest fits = made1_again (measured compact) _ _ remark_reads Remark bytes rest fits
item_again (Transfer row dest amount) rest fits = made3_again compact _ _ c32 (λ x. x) _ _ (bytes_reads 32) compact _ _ amount_reads Transfer row dest amount rest fits.0 fits.1 fits.2
item_again (Fail code) rest fits = made1_again byte _ _ byte_reads Fail code rest fits
item_again (Batch none) rest fits = absurd fits

pub item_reads : Reads item FitsItem item_at
unfolding item_at
item_reads = indexed_reads item FitsItem item_forms item_formed item_again

-- ---- any call

items_reads : Reads (counted compact item) FitsItems batch_at
unfolding batch_at
items_reads = counted_reads compact (λ n. n ≤ 8) _ (at_most 8 (omega arith)) item _ _ item_reads

call_formed : AllFormed call FitsCall 0 call_forms
call_formed =
    formed1 call FitsCall (measured compact) _ _ remark_reads Remark 0 (λ _. refl) (λ _ h. h)
    & formed3 call FitsCall compact _ _ c32 (λ x. x) _ _ (bytes_reads 32) compact _ _ amount_reads Transfer 1 (λ _ _ _. refl) (λ _ _ _ h j k. (h, j, k))
    & formed1 call FitsCall byte _ _ byte_reads Fail 2 (λ _. refl) (λ _ h. h)
    & formed1 call FitsCall (counted compact item) _ _ items_reads Batch 3 (λ _. refl) (λ _ h. h)
    & tt

call_again : (c : AnyCall) (rest : List ℕ) → FitsCall c → indexed_at call_forms (call c ++ rest) ≡ Some (c, rest)
call_again (Remark bytes) rest fits = made1_again (measured compact) _ _ remark_reads Remark bytes rest fits
call_again (Transfer row dest amount) rest fits = made3_again compact _ _ c32 (λ x. x) _ _ (bytes_reads 32) compact _ _ amount_reads Transfer row dest amount rest fits.0 fits.1 fits.2
call_again (Fail code) rest fits = made1_again byte _ _ byte_reads Fail code rest fits
call_again (Batch items) rest fits = made1_again (counted compact item) _ _ items_reads Batch items rest fits

pub call_reads : Reads call FitsCall call_at
unfolding call_at
call_reads = indexed_reads call FitsCall call_forms call_formed call_again
