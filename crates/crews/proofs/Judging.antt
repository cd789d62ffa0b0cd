-- From a list of classes to the verdict on two crews.
use Rattle.std.proofs.Common.{◌≡◌, ℕ, ◌-◌, ◌<◌, ◌≤◌, min, cond, eqb, ◌⊎◌, List, get_or, None, Decides, sym, refl, ap, ◌∙◌, subst, inl, inr, arith}
use Rattle.std.proofs.lemmas.Bool.{cases_lt, eqb-true}
use Rattle.std.proofs.lemmas.Bool.Decides.{same_from_decides, Decides-eqb, Decides-like}
use Rattle.net.specs.Meaning.{Meaning}
use Rattle.net.specs.Limits.{Lawful}
use Rattle.team.specs.Below.{tally}
use Rattle.team.specs.Tables.{same}
use Rattle.team.specs.Teams.{Bisimilar}
use Rattle.team.specs.Classes.{alike, class_count, Even, Lowest, ClassedBy, InClass}
use Rattle.team.specs.Pairings.{Greedy, greedy}
use Rattle.team.proofs.Sums.{tally_cong, tally_some, cond_some}
use Rattle.team.proofs.Greedy.{greedy_is}
use Rattle.team.proofs.Classes.{alike_decides, counts_tell, paired_even, even_paired}
use Rattle.team.proofs.Theorems.{greedy_is_greatest}
use Rattle.crews.specs.Crews.{Crews}
use Rattle.crews.specs.Counting.{in_class, places_of, counted, DiffersAt, Found}
use Rattle.crews.specs.Swaps.{swap_list}
use Rattle.crews.specs.Pairs.{table_of}
use Rattle.crews.specs.Verdicts.{AlikeBy, ApartBy}
use Rattle.crews.specs.declared.crewed.Crewed.{Crewed}
use Rattle.crews.specs.declared.swap.Difference.{Difference}
use Rattle.crews.proofs.SwapLists.{swap_list_short}

module _ (m : Meaning) (law : Lawful m) (cs : List ℕ) (classed : ClassedBy m cs) where
  -- two places have one entry exactly when they are bisimilar
  same_decides : (p q : ℕ) → p < m.places → q < m.places → Decides (same cs p q) (Bisimilar m p q)
  same_decides p q l k =
      Decides-like (same cs p q) (classed.same_class p q l k).0 (classed.same_class p q l k).1 (Decides-eqb (get_or cs p 0) (get_or cs q 0))

  pub same_alike : (p q : ℕ) → p < m.places → q < m.places → same cs p q ≡ alike m p q
  same_alike p q l k = same_from_decides (same cs p q) (alike m p q) (same_decides p q l k) (alike_decides m law p q l k)

  pub class_small : (p : ℕ) → p < m.places → get_or cs p 0 < 128
  class_small p l = omega (arith, (classed.lowest p l).most, law.few_places)

  -- the entry of a place names a class: it is its own entry
  class_names : (p : ℕ) → p < m.places → get_or cs (get_or cs p 0) 0 ≡ get_or cs p 0
  class_names p l = (classed.same_class (get_or cs p 0) p (omega (arith, (classed.lowest p l).most)) l).1 (classed.lowest p l).near

  -- the tokens counted at a place's entry are those of its class
  pub in_class_is : (xs : List ℕ) (p : ℕ) → p < m.places → in_class m.places cs xs (get_or cs p 0) ≡ class_count m xs p
  in_class_is xs p l =
      tally_cong m.places (λ i. cond (eqb (get_or cs p 0) (get_or cs i 0)) (get_or xs i 0) 0) (λ i. cond (alike m p i) (get_or xs i 0) 0)
      (λ i k. ap (λ b. cond b (get_or xs i 0) 0) (same_alike p i l k))

  module _ (xs ys : List ℕ) where
    pub level_even : ((c : ℕ) → c < m.places → in_class m.places cs xs c ≡ in_class m.places cs ys c) → Even m xs ys
    level_even level p l =
        sym (in_class_is xs p l) ∙ level (get_or cs p 0) (omega (arith, (classed.lowest p l).most)) ∙ in_class_is ys p l

    -- the table that is greedy by the list of classes is greedy by bisimilarity
    pub greedy_alike : Greedy m.places (alike m) xs ys (greedy (same cs) xs ys)
    greedy_alike p q l k =
        greedy_is m.places (same cs) xs ys p q l k
        ∙ ap (λ b. cond b (min (get_or xs p 0 - tally q (greedy (same cs) xs ys p)) (get_or ys q 0 - tally p (λ i. greedy (same cs) xs ys i q))) 0) (same_alike p q l k)

-- ## The verdict on two crews

-- the two crews on these places
abbrev pub crews_on : Crewed → Crews
crews_on x = record { left = x.left.now; right = x.right.now }

module _ (m : Meaning) (law : Lawful m) (x : Crewed) (places : places_of x ≡ m.places) (classed : ClassedBy m x.classes.now) where
  counted_is : (xs : List ℕ) (c : ℕ) → counted x xs c ≡ in_class m.places x.classes.now xs c
  counted_is xs c = ap (λ (n : ℕ). in_class n x.classes.now xs c) places

  pub judged_alike : Found x None → AlikeBy m (crews_on x) (swap_list (table_of x) m.places)
  judged_alike found =
      let T = table_of x in
      let level : (c : ℕ) → c < m.places → in_class m.places x.classes.now x.left.now c ≡ in_class m.places x.classes.now x.right.now c =
      λ c l. sym (counted_is x.left.now c) ∙ found c (omega (arith, l, places)) ∙ counted_is x.right.now c in
      let even = level_even m law x.classes.now classed x.left.now x.right.now level in
      let rows = greedy_alike m law x.classes.now classed x.left.now x.right.now in
      record {
        paired = even_paired m law x.left.now x.right.now (x.lefts ∙ places) (x.rights ∙ places) even;
        table = T;
        greatest = (greedy_is_greatest m law x.left.now x.right.now even).greatest T rows;
        listed = refl;
        short = swap_list_short m.places (alike m) x.left.now x.right.now T rows;
      }

  module _ (d : Difference) (at : DiffersAt x d) where
    known : d.class < m.places
    known = omega (arith, at.known, places)

    -- some place has the class that differs
    holder : (c : ℕ) (xs : List ℕ) → 0 < in_class m.places x.classes.now xs c → (i : ℕ) × (i < m.places) × (c ≡ get_or x.classes.now i 0)
    holder c xs h =
        let (i, l, some) = tally_some m.places (λ i. cond (eqb c (get_or x.classes.now i 0)) (get_or xs i 0) 0) h in
        (i, l, eqb-true c (get_or x.classes.now i 0) (cond_some (eqb c (get_or x.classes.now i 0)) (get_or xs i 0) some).0)

    entry : get_or x.classes.now d.class 0 ≡ d.class
    entry = by_side (cases_lt 0 (in_class m.places x.classes.now x.left.now d.class))
      where
        from_holder : (xs : List ℕ) → 0 < in_class m.places x.classes.now xs d.class → get_or x.classes.now d.class 0 ≡ d.class
        from_holder xs h =
            let (i, l, e) = holder d.class xs h in
            ap (λ (p : ℕ). get_or x.classes.now p 0) e ∙ class_names m law x.classes.now classed i l ∙ sym e

        by_side : (0 < in_class m.places x.classes.now x.left.now d.class) ⊎ (in_class m.places x.classes.now x.left.now d.class ≤ 0) → get_or x.classes.now d.class 0 ≡ d.class
        by_side (inl h) = from_holder x.left.now h
        by_side (inr z) = by_other (cases_lt 0 (in_class m.places x.classes.now x.right.now d.class))
          where
            by_other : (0 < in_class m.places x.classes.now x.right.now d.class) ⊎ (in_class m.places x.classes.now x.right.now d.class ≤ 0) → get_or x.classes.now d.class 0 ≡ d.class
            by_other (inl h) = from_holder x.right.now h
            by_other (inr w) =
                absurd (at.differ (omega (arith, z, w, at.on_left, at.on_right, counted_is x.left.now d.class, counted_is x.right.now d.class)))

    -- the tokens counted in a class are those of the place that names it
    count_is : (xs : List ℕ) → counted x xs d.class ≡ class_count m xs d.class
    count_is xs = counted_is xs d.class ∙ ap (in_class m.places x.classes.now xs) (sym entry) ∙ in_class_is m law x.classes.now classed xs d.class known

    left_is : d.left ≡ class_count m x.left.now d.class
    left_is = at.on_left ∙ count_is x.left.now

    right_is : d.right ≡ class_count m x.right.now d.class
    right_is = at.on_right ∙ count_is x.right.now

    level_below : (q : ℕ) → q < d.class → class_count m x.left.now q ≡ class_count m x.right.now q
    level_below q w =
        let l : q < m.places = omega (arith, w, known) in
        sym (in_class_is m law x.classes.now classed x.left.now q l) ∙ sym (counted_is x.left.now (get_or x.classes.now q 0))
        ∙ at.lower (get_or x.classes.now q 0) (omega (arith, w, (classed.lowest q l).most))
        ∙ counted_is x.right.now (get_or x.classes.now q 0) ∙ in_class_is m law x.classes.now classed x.right.now q l

    pub judged_apart : ApartBy m (crews_on x) d
    judged_apart = record {
      unpaired = λ pair. at.differ (left_is ∙ paired_even m law x.left.now x.right.now pair d.class known ∙ sym right_is);
      known = known;
      named = subst (Lowest m d.class) entry (classed.lowest d.class known);
      on_left = subst (InClass m x.left.now d.class) (sym left_is) (counts_tell m law x.left.now d.class known).counts;
      on_right = subst (InClass m x.right.now d.class) (sym right_is) (counts_tell m law x.right.now d.class known).counts;
      differ = at.differ;
      lower = λ q k l w a b.
          let here : q < m.places = omega (arith, w, known) in
          (counts_tell m law x.left.now q here).alone k a ∙ level_below q w ∙ sym ((counts_tell m law x.right.now q here).alone l b);
    }
