-- The steps of the loop that writes.
use Rattle.std.proofs.Common.{◌≡◌, ℕ, ◌+◌, ◌*◌, ◌<◌, ◌≤◌, true, cond, leb, List, ◌++◌, length, take, drop, Ok, Err, sym, refl, ap, ◌∙◌, ap₂, add-one, arith, length-append}
use borrow.Rule.Slice.PartMut.{put_mid}
use Rattle.std.proofs.lemmas.List.{take_at, drop_at, take_all, drop-drop}
use Rattle.std.proofs.lemmas.Slice.{put_mid-paste}
use Rattle.std.proofs.lemmas.Bool.{le-leb}
use Rattle.net.specs.declared.refusal.Refusal.TheVariants.{ShortList}
use Rattle.net.specs.Refusals.{plain}
use Rattle.net.specs.Meaning.{Meaning}
use Rattle.net.specs.Limits.{Lawful}
use Rattle.records.specs.Layout.{record_size}
use Rattle.records.specs.File.{net_of}
use Rattle.records.specs.Write.{record_of, written, records_of, bytes_of, file_of, over_front, write_answer, write_after}
use Rattle.records.proofs.Trips.{length_record_of, length_written, net_written}

-- a part written straight after what is written over the front of a list
put_over : (xs ys old : List ℕ) (a k : ℕ) → length xs ≡ a → length ys ≡ k → put_mid a k (over_front xs old) ys ≡ over_front (xs ++ ys) old
put_over xs ys old a k at size =
    let rest = drop (length xs) old in
    let back : drop (a + k) (xs ++ rest) ≡ drop (length (xs ++ ys)) old =
    sym (drop-drop k a (xs ++ rest)) ∙ ap (drop k) (drop_at xs rest a at) ∙ drop-drop k (length xs) old ∙ ap (λ j. drop j old) (omega (arith, length-append xs ys)) in
    put_mid-paste a k (over_front xs old) ys ys k refl refl (sym size)
    ∙ ap₂ (λ front end. (front ++ take k ys) ++ end) (take_at xs rest a at) back
    ∙ ap (λ mid. (xs ++ mid) ++ drop (length (xs ++ ys)) old) (take_all k ys (omega arith))

-- one record more
pub written_more : (m : Meaning) → Lawful m → (k j : ℕ) (out old last bytes : List ℕ) → k < records_of m → out ≡ over_front (written m k) old → bytes ≡ record_of m k → last ≡ bytes → j ≡ record_size →
    put_mid (record_size * k) j out last ≡ over_front (written m (k + 1)) old
written_more m law k j out old last bytes l out_is bytes_are last_is size =
    ap (λ o. put_mid (record_size * k) j o last) out_is
    ∙ put_over (written m k) last old (record_size * k) j (length_written m law k (omega arith)) (ap length (last_is ∙ bytes_are) ∙ length_record_of m law k l ∙ sym size)
    ∙ ap (λ r. over_front (written m k ++ r) old) (last_is ∙ bytes_are)
    ∙ ap (λ i. over_front (written m i) old) (sym (add-one k))

-- all of them
module _ (m : Meaning) (law : Lawful m) (count k : ℕ) (out old : List ℕ) (count_is : count ≡ records_of m) (k_is : k ≡ count) (out_is : out ≡ over_front (written m k) old) (room : record_size * count ≤ length old) where
  fits : leb (bytes_of m) (length old) ≡ true
  fits = le-leb (bytes_of m) (length old) (omega arith)

  whole : out ≡ over_front (file_of m) old
  whole = out_is ∙ ap (λ i. over_front (written m i) old) (k_is ∙ count_is)

  pub all_answer : Ok (record_size * count) ≡ write_answer m old
  all_answer = ap (λ c. Ok (record_size * c)) count_is ∙ sym (ap (λ v. cond v (Ok (bytes_of m)) (Err (plain ShortList))) fits)

  pub all_after : out ≡ write_after m old
  all_after = whole ∙ sym (ap (λ v. cond v (over_front (file_of m) old) old) fits)

  pub all_same : net_of (take (record_size * count) out) ≡ m
  all_same =
      ap net_of (ap₂ (λ c o. take (record_size * c) o) count_is whole ∙ take_at (file_of m) (drop (length (file_of m)) old) (bytes_of m) (length_written m law (records_of m) (omega arith)))
      ∙ net_written m law
