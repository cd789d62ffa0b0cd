-- One row of the greedy table, cell by cell.
use Rattle.std.proofs.Common.{◌≡◌, ℕ, ◌+◌, ◌-◌, ◌*◌, ◌<◌, ◌≤◌, min, cond, List, [], ◌∷◌, ◌++◌, length, get_or, set, sym, ap, ◌∙◌, ap₂, subst, append_assoc, append-nil, arith, length-append, below_more}
use Rattle.std.proofs.lemmas.List.{get_or-set_same, get_or-set_other}
use Rattle.team.specs.Below.{tally}
use Rattle.team.specs.Tables.{same}
use Rattle.team.specs.Pairings.{Greedy}
use Rattle.team.proofs.Sums.{tally_next, tally_grows}
use Rattle.team.proofs.Greedy.{greedy_is, column_within}
use Rattle.crews.specs.Counting.{places_of}
use Rattle.crews.specs.Swaps.{swap_at, row_swaps, swaps, swap_list}
use Rattle.crews.specs.Pairs.{table_of}
use Rattle.crews.specs.declared.crewed.Crewed.{Crewed}
use Rattle.crews.specs.declared.swap.Swap.{Swap}
use Rattle.crews.proofs.SwapLists.{row_swaps_more, swap_some, swap_none, swaps_room, swap_list_short}

-- each cell takes what its row and its column have left
cells_greedy : (w : Crewed) → Greedy (places_of w) (same w.classes.now) w.left.now w.right.now (table_of w)
cells_greedy w = greedy_is (places_of w) (same w.classes.now) w.left.now w.right.now

-- the whole list has two entries at most for each place
pub list_short : (w : Crewed) → length (swap_list (table_of w) (places_of w)) ≤ 2 * places_of w
list_short w = swap_list_short (places_of w) (same w.classes.now) w.left.now w.right.now (table_of w) (cells_greedy w)

-- before column q of row p, with `have` tokens left in it
pub record RowGoing (w : Crewed) (p q : ℕ) (before : List Swap) (taken : List ℕ) (have : ℕ) (list : List Swap) : Type 0 where
  pub in_row : have ≡ get_or w.left.now p 0 - tally q (table_of w p)
  pub done : (j : ℕ) → j < q → get_or taken j 0 ≡ tally (p + 1) (λ i. table_of w i j)
  pub later : (j : ℕ) → q ≤ j → j < places_of w → get_or taken j 0 ≡ tally p (λ i. table_of w i j)
  pub listed : list ≡ before ++ row_swaps (table_of w) p q

module _ (w : Crewed) (p q : ℕ) (before : List Swap) (taken : List ℕ) (have : ℕ) (list : List Swap) (l : p < places_of w) (k : q < places_of w) (g : RowGoing w p q before taken have list) where
  -- the columns before hold no more than there is
  pub column_small : get_or taken q 0 ≤ get_or w.right.now q 0
  column_small =
      let T = table_of w in
      omega (arith, g.later q (omega arith) k, tally_grows (places_of w) p (λ i. T i q) (omega arith), column_within (places_of w) (same w.classes.now) w.left.now w.right.now T (cells_greedy w) q k)

  module _ (c : ℕ) (is : c ≡ cond (same w.classes.now p q) (min have (get_or w.right.now q 0 - get_or taken q 0)) 0) where
    cell_is : c ≡ table_of w p q
    cell_is =
        is ∙ ap₂ (λ a b. cond (same w.classes.now p q) (min a (get_or w.right.now q 0 - b)) 0) g.in_row (g.later q (omega arith) k) ∙ sym (cells_greedy w p q l k)

    -- there is room for the entry
    pub entry_room : before ≡ swaps (table_of w) (places_of w) p → 0 < c → length list < 2 * places_of w
    entry_room begun h =
        omega (
          arith,
          swaps_room (places_of w) (same w.classes.now) w.left.now w.right.now (table_of w) (cells_greedy w) p q l k (omega (arith, cell_is, h)),
          ap length begun,
          ap length g.listed ∙ length-append before (row_swaps (table_of w) p q),
        )

    module _ (long : q < length taken) where
      now_done : (j : ℕ) → j < q + 1 → get_or (set taken q (get_or taken q 0 + c)) j 0 ≡ tally (p + 1) (λ i. table_of w i j)
      now_done = below_more _ _
          (λ j w. get_or-set_other taken q j (get_or taken q 0 + c) 0 (omega arith) ∙ g.done j w)
          (get_or-set_same taken q (get_or taken q 0 + c) 0 long ∙ omega (arith, tally_next p (λ i. table_of w i q), cell_is, g.later q (omega arith) k))

      still_later : (j : ℕ) → q + 1 ≤ j → j < places_of w → get_or (set taken q (get_or taken q 0 + c)) j 0 ≡ tally p (λ i. table_of w i j)
      still_later j w v = get_or-set_other taken q j (get_or taken q 0 + c) 0 (omega arith) ∙ g.later j (omega arith) v

      -- the next column, with what its cell adds to the list
      cell_listed : (more : List Swap) → swap_at (table_of w) p q ≡ more → RowGoing w p (q + 1) before (set taken q (get_or taken q 0 + c)) (have - c) (list ++ more)
      cell_listed more e =
          let T = table_of w in
          record {
            in_row = omega (arith, tally_next q (T p), cell_is, g.in_row);
            done = now_done;
            later = still_later;
            listed = ap₂ (λ xs ys. xs ++ ys) g.listed (sym e) ∙ append_assoc before (row_swaps T p q) (swap_at T p q)
                ∙ ap (λ es. before ++ es) (sym (row_swaps_more T p q));
          }

      pub row_kept : c ≤ 0 → RowGoing w p (q + 1) before (set taken q (get_or taken q 0 + c)) (have - c) list
      row_kept none = subst (RowGoing w p (q + 1) before (set taken q (get_or taken q 0 + c)) (have - c)) (append-nil list) (cell_listed [] (swap_none (table_of w) p q (omega (arith, cell_is, none))))

      pub row_pushed : 0 < c → RowGoing w p (q + 1) before (set taken q (get_or taken q 0 + c)) (have - c) (list ++ record { left = p; right = q; count = c } ∷ [])
      row_pushed some = cell_listed (record { left = p; right = q; count = c } ∷ [])
          (swap_some (table_of w) p q (omega (arith, cell_is, some)) ∙ ap (λ (v : ℕ). record { left = p; right = q; count = v } ∷ []) (sym cell_is))
