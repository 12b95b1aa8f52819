use Rattle.tb_model.specs.Facts.{is_store_to, touches}
use Rattle.tb_next.proofs.NewestLemmas.{AreLeft}
use Rattle.tb_next.proofs.newest.place_of_store.Given as goal

abbrev pub invariant-back : goal.invariant-back
invariant-back l = AreLeft (λ v. touches l.cell v.action) (is_store_to l.cell) l.entries l.places l.left

abbrev pub decreases-back : goal.decreases-back
decreases-back l = l.left
