use Rattle.std.proofs.Common.{◌≡◌, ◌-◌, ◌<◌, ◌∙◌, length, sym, ap, arith}
use Rattle.tb_model.specs.Names.{Name}
use Rattle.tb_lanes.specs.Numbering.{place_of, touched}
use Rattle.tb_lanes.proofs.NumberLemmas.{put_newest, same_newest, first_newest, told_place}
use Rattle.tb_order.proofs.numbering.previous_of.Goals as goal
use Rattle.tb_order.proofs.numbering.previous_of.Goals.{then-at-gt0+else-are_of_one+in_ok-put, else-at-gt0}
use Rattle.tb_steps.proofs.FirstLemmas.{there}

pub returns-then-are_of_one-clause-newest : goal.returns-then-are_of_one-clause-newest
returns-then-are_of_one-clause-newest c =
    let entries = c.args.entries.now in
    let n = c.args.at in
    let inside : n - 1 < length entries = omega (arith, c.requires.at) in
    let x = there entries n c.requires.at in
    let y = there entries (n - 1) inside in
    same_newest entries n c.requires.at x.0 x.1 (n - 1) inside y.0 y.1 (omega (arith, c.if-at-gt0.true)) (sym (c.are_of_one.ensures x.0 y.0 x.1 y.1) ∙ c.if-are_of_one.true) c.args.newest.now.entries c.requires.newest

pub returns-clause-previous : goal.returns-clause-previous
returns-clause-previous c =
    let n = c.args.at in
    let entries = c.args.entries.now in
    let inside : n - 1 < length entries = omega (arith, c.requires.at) in
    let x = there entries n c.requires.at in
    let y = there entries (n - 1) inside in
    let all : (t : Name) → place_of c.if-at-gt0.newest.entries t ≡ touched entries t n = elim c.if-at-gt0.branch [
      | then-at-gt0+else-are_of_one+in_ok-put w ↦
          λ t. ap (λ m. place_of m.entries t) w.newest-is ∙ put_newest entries n c.requires.at x.0 x.1 (n - 1) inside y.0 y.1 (omega (arith, w.if-at-gt0.true)) w.task.result.now (w.task.ensures y.0 y.1) c.args.newest.now.entries _ c.requires.newest w.in_ok-put.ensures t
      | else-at-gt0 w ↦
          λ t. ap (λ m. place_of m.entries t) w.newest-is ∙ first_newest entries n c.args.newest.now.entries (omega (arith, w.if-at-gt0.false)) c.requires.newest t
    ] in
    told_place entries n c.requires.at x.0 x.1 c.if-at-gt0.newest.entries all c.task-2.result.now (c.task-2.ensures x.0 x.1) c.place_in.result c.place_in.ensures

pub returns-clause-newest : goal.returns-clause-newest
returns-clause-newest c t other =
    let n = c.args.at in
    let entries = c.args.entries.now in
    let inside : n - 1 < length entries = omega (arith, c.requires.at) in
    let x = there entries n c.requires.at in
    let y = there entries (n - 1) inside in
    elim c.if-at-gt0.branch [
      | then-at-gt0+else-are_of_one+in_ok-put w ↦
          ap (λ m. place_of m.entries t) w.newest-is ∙ put_newest entries n c.requires.at x.0 x.1 (n - 1) inside y.0 y.1 (omega (arith, w.if-at-gt0.true)) w.task.result.now (w.task.ensures y.0 y.1) c.args.newest.now.entries _ c.requires.newest w.in_ok-put.ensures t
      | else-at-gt0 w ↦
          ap (λ m. place_of m.entries t) w.newest-is ∙ first_newest entries n c.args.newest.now.entries (omega (arith, w.if-at-gt0.false)) c.requires.newest t
    ]
