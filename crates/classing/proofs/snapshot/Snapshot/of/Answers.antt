use Rattle.std.proofs.Common.{◌≡◌, ◌≤◌, length, take, arith, rules}
use Rattle.std.proofs.lemmas.List.{length-take-le}
use Rattle.classing.specs.Snapshots.{place_at}
use Rattle.classing.proofs.Runs.{grouped_alike, place_in_front, places_known}
use Rattle.classing.proofs.snapshot.Snapshot.of.Goals as goal

pub invariant_of-result : goal.invariant_of-result
invariant_of-result g c =
    let m = g.N.Net.meaning c.args.net.now in
    let law = g.N.Net.lawful c.args.net.now in
    let n = c.transitions-count.result in
    let long : length (take n c.ask_all.new.moves) ≡ n = length-take-le n c.ask_all.new.moves (omega (arith, law.few_transitions)) in
    let few : m.places ≤ 128 = law.few_places in
    record {
      sound = record {
        few_places = search rules;
        few_moves = omega (arith, law.few_transitions);
        known = λ t l. (let inside = places_known m law c.ask_all.new.moves c.ask_all.ensures t (omega arith) in search rules);
        grouped = grouped_alike n (place_at (take n c.ask_all.new.moves)) (place_at c.ask_all.new.moves) (place_in_front n c.ask_all.new.moves) c.starts-starts.result c.order-order.result
            (rw long at c.order-order.ensures);
      };
    }
