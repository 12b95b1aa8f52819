use Rattle.std.proofs.Common.{◌++◌, ◌∙◌, [], subst, sym, ap, append-nil, reverse}
use Rattle.tb_core.specs.Listed.{Rises}
use Rattle.tb_view.specs.Tasks.{names_of}
use Rattle.tb_view.proofs.NamedLemmas.{gap_moved, rises_either}
use Rattle.tb_view.proofs.UnendedLemmas.{rises_insert}
use Rattle.tb_view.proofs.named_tasks.NamedTasks.insert.Goals as goal

pub invariant_of-self-then-goes_between : goal.invariant_of-self-then-goes_between
invariant_of-self-then-goes_between c =
    let map = c.self.inside.map.entries in
    let back = reverse c.self.inside.back.items in
    let put = c.goes_between.ensures c.if-goes_between.true c.args.body ∙ ap (λ r. map ++ r ++ back) (sym c.in_ok-push.ensures.items) in
    subst (λ es. Rises (names_of es)) put (rises_insert c.args.name c.args.body (map ++ c.self.inside.front.items ++ back) c.self.invariant)

pub invariant_of-self-then-goes_between-2 : goal.invariant_of-self-then-goes_between-2
invariant_of-self-then-goes_between-2 c =
    let map = c.self.inside.map.entries in
    let front = c.turn_to.new.front.items in
    let back = reverse c.turn_to.new.back.items in
    let same = gap_moved map c.self.inside.front.items c.self.inside.back.items front c.turn_to.new.back.items c.turn_to.ensures in
    let put = c.goes_between-2.ensures c.if-goes_between-2.true c.args.body ∙ ap (λ r. map ++ r ++ back) (sym c.in_ok-push-2.ensures.items) in
    subst (λ es. Rises (names_of es)) put (rises_insert c.args.name c.args.body (map ++ front ++ back) (subst (λ es. Rises (names_of es)) (sym same) c.self.invariant))

pub invariant_of-self-2 : goal.invariant_of-self-2
invariant_of-self-2 c =
    let new = c.insert.new.self.entries in
    let front = ap (λ r. r.items) c.replace-row.ensures.after ∙ c.new.ensures.items in
    let is = ap (λ r. new ++ r ++ reverse c.close.new.back.items) front ∙ ap (λ r. new ++ [] ++ reverse r) c.in_ok-close.ensures.none ∙ append-nil (new ++ []) ∙ append-nil new in
    subst (λ es. Rises (names_of es)) (sym is)
    (rises_either c.insert.result c.put_all.new.map.entries new c.args.name c.args.body c.insert.ensures.entries c.insert.ensures.err c.put_all.ensures.rises)
