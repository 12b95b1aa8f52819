use Rattle.std.proofs.Common.{◌≡◌, ◌∙◌, ◌-◌, ◌++◌, take, drop, ◌<◌, ◌≤◌, ap, ap₂, sym, refl, length, arith, subst}
use Rattle.tb_model.specs.Names.{is_within, same_name}
use Rattle.tb_model.specs.Blocks.{far_numbers, IsSplit}
use Rattle.tb_model.proofs.BlockEndLemmas.{IsFront, front_near, front_block, fewer_blocks, fewer_near, fewer_left, by_end, end_split}
use Rattle.tb_model.proofs.within.ends_with.Goals.{in-empty, in-len1-up}
use Rattle.tb_model.proofs.within.ends_with.Goals as goal

pub returns-then-numbers-shared : goal.returns-then-numbers-shared
returns-then-numbers-shared c =
    sym (fewer_blocks c.numbers.inside.near c.numbers.inside.far.now c.end.inside.near c.end.inside.far.now c.numbers.invariant c.end.invariant c.if-numbers-shared.true)
    ∙ ap₂ is_within c.end.view_is c.numbers.view_is

pub returns-then-front-count : goal.returns-then-front-count
returns-then-front-count c =
    sym (elim c.if-numbers-shared-lt1.branch [
      | in-empty w ↦
          fewer_near c.numbers.inside.near c.numbers.inside.far.now c.end.inside.near c.end.inside.far.now c.numbers.invariant c.end.invariant
          (fewer_left c.numbers.inside.far.now (length c.end.inside.far.now) c.if-numbers-shared.false w.in-empty.len_below)
          (subst (λ n. length n < length c.end.inside.near) (ap (λ r. r.now) w.front-is ∙ w.as_slice-front.ensures)
          (subst (λ n. length c.if-numbers-shared-lt1.front.now < length n) c.as_slice-count.ensures c.if-front-count.true))
      | in-len1-up w ↦
          absurd (omega (arith, c.if-front-count.true, ap length c.as_slice-count.ensures, c.end.invariant.short, ap (λ r. length r.now) w.front-is, ap length w.as_slice-front-in-len1-up.ensures.is, w.as_slice-front-in-len1-up.ensures.full))
    ])
    ∙ ap₂ is_within c.end.view_is c.numbers.view_is

pub invariant_of-is_same : goal.invariant_of-is_same
invariant_of-is_same c =
    let front = c.if-numbers-shared-lt1.front.now in
    let near = c.of_slice.ensures ∙ ap (λ n. take (length front - (length front - length n)) (drop (length front - length n) front)) c.as_slice-count.ensures in
    subst (λ n. IsSplit n (take (length c.end.inside.far.now) c.numbers.inside.far.now)) (sym near)
    (end_split c.numbers.inside.near c.numbers.inside.far.now c.end.inside.near c.end.inside.far.now c.numbers.invariant c.end.invariant c.if-numbers-shared-lt1.front.now (subst (λ n. length n ≤ length c.if-numbers-shared-lt1.front.now) c.as_slice-count.ensures c.if-front-count.false))

pub returns : goal.returns
returns c =
    let stands : IsFront c.numbers.inside.near c.numbers.inside.far.now (length c.end.inside.far.now) c.if-numbers-shared-lt1.front.now =
    elim c.if-numbers-shared-lt1.branch [
      | in-empty w ↦
          subst (IsFront c.numbers.inside.near c.numbers.inside.far.now (length c.end.inside.far.now)) (sym (ap (λ r. r.now) w.front-is ∙ w.as_slice-front.ensures))
          (front_near c.numbers.inside.near c.numbers.inside.far.now (length c.end.inside.far.now) w.in-empty.len_below)
      | in-len1-up w ↦
          front_block c.numbers.inside.near c.numbers.inside.far.now (length c.end.inside.far.now) w.block-item.result c.if-numbers-shared-lt1.front.now
          w.in-len1-up.len_at_least w.block-item.is (ap (λ r. r.now) w.front-is ∙ w.as_slice-front-in-len1-up.ensures.is)
    ] in
    let front = c.if-numbers-shared-lt1.front.now in
    let near = take (length front - (length front - length c.end.inside.near)) (drop (length front - length c.end.inside.near) front) in
    let kept = far_numbers (take (length c.end.inside.far.now) c.numbers.inside.far.now) in
    let same : c.of_slice.result ≡ near = c.of_slice.ensures ∙ ap (λ n. take (length front - (length front - length n)) (drop (length front - length n) front)) c.as_slice-count.ensures in
    c.is_same.ensures ∙ ap (λ n. same_name c.args.end.now (n ++ kept)) same
    ∙ ap (λ x. same_name x (near ++ kept)) (sym c.end.view_is)
    ∙ sym (by_end c.numbers.inside.near c.numbers.inside.far.now c.end.inside.near c.end.inside.far.now c.numbers.invariant c.end.invariant
    front near stands c.if-numbers-shared.false (subst (λ n. length n ≤ length front) c.as_slice-count.ensures c.if-front-count.false) refl)
    ∙ ap₂ is_within c.end.view_is c.numbers.view_is
