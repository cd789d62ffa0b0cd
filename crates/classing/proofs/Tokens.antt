-- The tokens on the places with one entry are those in a class.
use Rattle.std.proofs.Common.{◌≡◌, ℕ, ◌<◌, cond, eqb, List, get_or, sym, ap, ◌∙◌}
use Rattle.std.proofs.lemmas.Bool.Decides.{Decides-eqb, Decides-like, same_from_decides}
use Rattle.net.specs.Meaning.{Meaning}
use Rattle.net.specs.Limits.{Lawful}
use Rattle.team.specs.Below.{tally}
use Rattle.team.specs.Classes.{alike, ClassedBy, class_count}
use Rattle.team.proofs.Sums.{tally_cong}
use Rattle.team.proofs.Classes.{alike_decides}

pub class_tokens : (m : Meaning) → Lawful m → (cs : List ℕ) → ClassedBy m cs → (xs : List ℕ) (c class : ℕ) → c < m.places → class ≡ get_or cs c 0
    → tally m.places (λ p. cond (eqb (get_or cs p 0) class) (get_or xs p 0) 0) ≡ class_count m xs c
class_tokens m law cs C xs c class l e =
    tally_cong m.places (λ p. cond (eqb (get_or cs p 0) class) (get_or xs p 0) 0) (λ p. cond (alike m c p) (get_or xs p 0) 0)
    (λ p k. ap (λ b. cond b (get_or xs p 0) 0)
    (same_from_decides (eqb (get_or cs p 0) class) (alike m c p) (Decides-eqb (get_or cs p 0) class)
    (Decides-like (alike m c p) (λ b. sym ((C.same_class c p l k).1 b) ∙ sym e) (λ s. (C.same_class c p l k).0 (sym e ∙ sym s)) (alike_decides m law c p l k))))
