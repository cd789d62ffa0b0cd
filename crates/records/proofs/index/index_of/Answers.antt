use Rattle.std.proofs.Common.{◌≡◌, ◌+◌, true, sym, ap, ◌∙◌, subst₂, rules}
use Rattle.records.specs.Layout.{record_at, at}
use Rattle.records.specs.Entry.{is_transition, reading}
use Rattle.records.proofs.Indexes.{Indexed, number_small, kind_yes, kind_no, index_room, indexed_yes, indexed_no}
use Rattle.records.proofs.index.index_of.Goals as goal
use Rattle.records.proofs.index.index_of.Goals.{then-record_at-eq-TRANSITION_KIND, else-record_at-eq-TRANSITION_KIND}

-- record k is a transition record
is : (c : goal.Then-record_at-eq-TRANSITION_KIND) → is_transition (reading (record_at c.args.bytes.now c.loop-k.k)) ≡ true
is c =
    let b = c.args.bytes.now in
    let k = c.loop-k.k in
    kind_yes b c.requires k c.loop-k-test.true (ap (λ r. at r 0) (sym c.record_at.ensures.value) ∙ c.if-record_at-eq-TRANSITION_KIND.true)

pub overflow_cast-starts : goal.overflow_cast-starts
overflow_cast-starts c = let small = number_small c.args.bytes.now c.requires c.loop-k.k c.loop-k-test.true in search rules

pub bounds-starts-count : goal.bounds-starts-count
bounds-starts-count c = index_room c.args.bytes.now c.loop-k.k c.loop-k.count c.loop-k.starts c.loop-k.invariant c.requires c.loop-k-test.true (is c)

pub loop-k-preserved : goal.loop-k-preserved
loop-k-preserved c =
    let b = c.args.bytes.now in
    let k = c.loop-k.k in
    let count = c.loop-k.count in
    let starts = c.loop-k.starts in
    let i = c.loop-k.invariant in
    elim c.if-record_at-eq-TRANSITION_KIND.branch [
      | then-record_at-eq-TRANSITION_KIND w ↦
          let kind = kind_yes b c.requires k c.loop-k-test.true (ap (λ r. at r 0) (sym c.record_at.ensures.value) ∙ w.if-record_at-eq-TRANSITION_KIND.true) in
          subst₂ (Indexed b (k + 1)) (sym w.count-is) (sym w.starts-is)
          (indexed_yes b k count starts i kind (index_room b k count starts i c.requires c.loop-k-test.true kind))
      | else-record_at-eq-TRANSITION_KIND w ↦
          let kind = kind_no b k (λ e. w.if-record_at-eq-TRANSITION_KIND.false (ap (λ r. at r 0) c.record_at.ensures.value ∙ e)) in
          subst₂ (Indexed b (k + 1)) (sym w.count-is) (sym w.starts-is) (indexed_no b k count starts i kind)
    ]
