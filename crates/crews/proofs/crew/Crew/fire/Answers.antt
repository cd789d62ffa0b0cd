use Rattle.std.proofs.Common.{◌≡◌, ℕ, sum, ap, ◌∙◌, arith}
use Rattle.net.specs.Meaning.{transition}
use Rattle.net.specs.Markings.{fewer}
use Rattle.net.proofs.Markings.{sum_plus}
use Rattle.crews.proofs.crew.Crew.fire.Goals as goal

pub put_down-requires-clause-fits : goal.put_down-requires-clause-fits
put_down-requires-clause-fits g c =
    let t = transition (g.N.Net.meaning c.args.net.now) c.args.transition in
    let taken : sum c.remove.new.self.counts ≡ sum (fewer c.args.self.now.counts t.place 1) =
    ap sum c.remove.ensures ∙ ap (λ (p : ℕ). sum (fewer c.args.self.now.counts p 1)) c.place.ensures in
    omega (arith, taken, sum_plus (fewer c.args.self.now.counts t.place 1) t.puts, c.requires.fits)
