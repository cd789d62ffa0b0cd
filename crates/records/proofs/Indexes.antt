-- The steps of the index.
use Rattle.std.proofs.Common.{sym, take, set, length-set, ◌≡◌, ℕ, zero, suc, ◌+◌, ◌-◌, ◌<◌, ◌≤◌, Bool, true, false, cond, List, [], ◌∷◌, ◌++◌, length, ap, ◌∙◌, subst, ⊎_elim, add-zero, add-suc, add-one, arith, length-append}
use Rattle.std.proofs.lemmas.List.{take_more_set}
use Rattle.net.specs.Limits.{most_transitions}
use Rattle.std.proofs.lemmas.Bool.{cases_Bool}
use Rattle.records.specs.Layout.{most_records, transition_kind, record_count, record_at, at}
use Rattle.records.specs.Entry.{is_transition, reading}
use Rattle.records.specs.EntryLaws.{moving_bytes, kind_moves}
use Rattle.records.specs.CheckLaws.{Few, few_to, few_records, counts_are, passed_at}
use Rattle.records.specs.File.{sound, transition_records}
use Rattle.records.specs.FileLaws.{Admits, admits, length_transition_records}

longer_by : (b : List ℕ) (k d : ℕ) → length (transition_records b k) ≤ length (transition_records b (k + d))
longer_by b k zero = rw add-zero (omega arith)
longer_by b k (suc d) = rw add-suc (go (longer_by b k d) (is_transition (reading (record_at b (k + d)))))
  where
    go : length (transition_records b k) ≤ length (transition_records b (k + d)) → (v : Bool) → length (transition_records b k) ≤ length (cond v (transition_records b (k + d) ++ (k + d) ∷ []) (transition_records b (k + d)))
    go h true = simp length-append (omega arith)
    go h false = h

longer : (b : List ℕ) (k m : ℕ) → k ≤ m → length (transition_records b k) ≤ length (transition_records b m)
longer b k m h =
    let same : k + (m - k) ≡ m = omega arith in
    subst (λ j. length (transition_records b k) ≤ length (transition_records b j)) same (longer_by b k (m - k))

index_yes : (b : List ℕ) (k : ℕ) → is_transition (reading (record_at b k)) ≡ true → transition_records b (k + 1) ≡ transition_records b k ++ k ∷ []
index_yes b k kind = ap (transition_records b) (add-one k) ∙ ap (λ v. cond v (transition_records b k ++ k ∷ []) (transition_records b k)) kind

index_no : (b : List ℕ) (k : ℕ) → is_transition (reading (record_at b k)) ≡ false → transition_records b (k + 1) ≡ transition_records b k
index_no b k kind = ap (transition_records b) (add-one k) ∙ ap (λ v. cond v (transition_records b k ++ k ∷ []) (transition_records b k)) kind

module _ (b : List ℕ) (ok : sound b ≡ true) where
  all : Admits b
  all = admits b ok

  few : length (transition_records b (record_count b)) ≤ most_transitions
  few =
      let l = subst Few (counts_are b (record_count b) all.counts all.all) (few_to b (record_count b) all.counts all.all) in
      omega (arith, length_transition_records b (record_count b), l.few_transitions)

  pub number_small : (k : ℕ) → k < record_count b → k < most_records
  number_small k h = omega (arith, few_records b (record_count b) all.counts all.all)

  -- the kind of an admitted record tells whether it is a transition record
  pub kind_yes : (k : ℕ) → k < record_count b → at (record_at b k) 0 ≡ transition_kind → is_transition (reading (record_at b k)) ≡ true
  kind_yes k h kind = kind_moves (record_at b k) (passed_at b (record_count b) all.counts all.all k h).formed kind

pub kind_no : (b : List ℕ) (k : ℕ) → (at (record_at b k) 0 ≡ transition_kind → ⊥) → is_transition (reading (record_at b k)) ≡ false
kind_no b k other = ⊎_elim (λ e. absurd (other (moving_bytes (record_at b k) e).kind)) (λ e. e) (cases_Bool (is_transition (reading (record_at b k))))

-- the numbers of the transition records among the first k, in the front of the table
pub record Indexed (b : List ℕ) (k count : ℕ) (starts : List ℕ) : Type 0 where
  pub counted : count ≡ length (transition_records b k)
  pub listed : take count starts ≡ transition_records b k
  pub size : length starts ≡ most_transitions

module _ (b : List ℕ) (k count : ℕ) (starts : List ℕ) (i : Indexed b k count starts) where
  -- there is room for a transition record more
  pub index_room : sound b ≡ true → k < record_count b → is_transition (reading (record_at b k)) ≡ true → count < most_transitions
  index_room ok h kind =
      omega (arith, few b ok, i.counted, ap length (index_yes b k kind), length-append (transition_records b k) (k ∷ []), longer b (k + 1) (record_count b) (omega arith))

  pub indexed_yes : is_transition (reading (record_at b k)) ≡ true → count < most_transitions → Indexed b (k + 1) (count + 1) (set starts count k)
  indexed_yes kind room =
      let more = index_yes b k kind in
      record {
        counted = omega (arith, i.counted, ap length more, length-append (transition_records b k) (k ∷ []));
        listed = take_more_set starts count k (omega (arith, i.size, room)) ∙ ap (λ xs. xs ++ k ∷ []) i.listed ∙ sym more;
        size = length-set starts count k ∙ i.size;
      }

  pub indexed_no : is_transition (reading (record_at b k)) ≡ false → Indexed b (k + 1) count starts
  indexed_no kind =
      let same = index_no b k kind in
      record { counted = i.counted ∙ ap length (sym same); listed = i.listed ∙ sym same; size = i.size }
