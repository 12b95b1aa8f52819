use Rattle.std.proofs.Common.{refl, arith}
use Rattle.tb_places.proofs.PlacesLemmas.{index_reserved}
use Rattle.tb_places.proofs.RoomLemmas.{as_kept}
use Rattle.tb_places.proofs.places.Places.reserve.Goals as goal

pub returns-in_err-reserve_at-clause-same : goal.returns-in_err-reserve_at-clause-same
returns-in_err-reserve_at-clause-same c names events = index_reserved names events c.args.self.now _ c.reserve_at.ensures.same (λ k. refl)

pub returns-clause-same : goal.returns-clause-same
returns-clause-same c names events = index_reserved names events c.args.self.now _ c.reserve_at.ensures.same c.reserve_at-2.ensures.same

pub returns-in_err-reserve_at-clause-keeps : goal.returns-in_err-reserve_at-clause-keeps
returns-in_err-reserve_at-clause-keeps c = as_kept c.args.self.now _ _ c.reserve_at.ensures.same c.reserve_at.ensures.keeps (λ k. refl) (λ k. omega arith)

pub returns-clause-keeps : goal.returns-clause-keeps
returns-clause-keeps c = as_kept c.args.self.now _ _ c.reserve_at.ensures.same c.reserve_at.ensures.keeps c.reserve_at-2.ensures.same c.reserve_at-2.ensures.keeps
