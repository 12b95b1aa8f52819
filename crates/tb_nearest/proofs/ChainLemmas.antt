-- Needs are chains of nearest needs.
use Rattle.std.proofs.Common.{⊎_elim, ◌<◌, ◌≤◌, ◌+◌, ℕ, zero, suc, ◌∷◌, length, length-append, arith}
use Rattle.std.specs.Prelude.{◌↔◌}
use Rattle.tb_model.specs.Facts.{History}
use Rattle.tb_model.specs.Legal.{Cells, Legal}
use Rattle.tb_model.specs.Closure.{Needs, directly, by_way}
use Rattle.tb_model.proofs.NeighboursLemmas.{legal_below}
use Rattle.tb_nearest.specs.Nearest.{Chain, link, further}
use Rattle.tb_nearest.proofs.DirectLemmas.{nearest_needs}
use Rattle.tb_nearest.proofs.CaseLemmas.{nearest_or_way}

to_needs : {F G : History} → Chain F G → Needs F G
to_needs (link v u between front n) = directly v u between front (nearest_needs v u between front n)
to_needs (further c d) = by_way (to_needs c) (to_needs d)

older : {F G : History} → Needs F G → length G < length F
older (directly v u b front h) = omega (arith, length-append b (u ∷ front))
older (by_way n m) = omega (arith, older n, older m)

-- what is needed of a legal history is a legal one
legal_front : (cells : Cells) {F G : History} → Needs F G → Legal cells F → Legal cells G
legal_front cells (directly v u b front h) l = legal_below cells b (u ∷ front) l.0
legal_front cells (by_way n m) l = legal_front cells m (legal_front cells n l)

-- by the count of events from the one to the other
to_chain : (cells : Cells) (n : ℕ) {F G : History} → Needs F G → Legal cells F → length F ≤ n + length G → Chain F G
to_chain cells n (by_way {F} {G} {H} p q) l i =
    further (to_chain cells n p l (omega (arith, i, older q))) (to_chain cells n q (legal_front cells p l) (omega (arith, i, older p)))
to_chain cells zero (directly v u b front h) l i = absurd (omega (arith, i, length-append b (u ∷ front)))
to_chain cells (suc n) (directly v u b front h) l i =
    ⊎_elim (λ m. link v u b front m)
    (λ w. further (to_chain cells n w.upper l (omega (arith, i, older w.lower))) (to_chain cells n w.lower (legal_front cells w.upper l) (omega (arith, i, older w.upper))))
    (nearest_or_way cells v u b front l h)

pub chained : (cells : Cells) (F G : History) → Legal cells F → Needs F G ↔ Chain F G
chained cells F G l = (λ n. to_chain cells (length F) n l (omega arith), λ c. to_needs c)
