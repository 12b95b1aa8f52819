use Rattle.std.proofs.Common.{[], ◌∙◌, ◌++◌, ◌∷◌, length, length-append, add-one, arith, subst, sym, ap, ap₂, unwrap_or}
use Rattle.std.specs.List.{AllByRecursion}
use Rattle.tb_journal.specs.Compact.{IsThere, StandsFor}
use Rattle.tb_journal.specs.Turns.{Begins, Rises, entries, task_at}
use Rattle.tb_journal.proofs.CompactLemmas.{one_more_there, there_grows}
use Rattle.tb_journal.proofs.TurnLemmas.{entry_pushed}
use Rattle.tb_journal.proofs.journal.Journal.put.Goals as goal

pub invariant_of-self : goal.invariant_of-self
invariant_of-self c =
    let apart = c.self.inside.apart.items in
    let compact = c.self.inside.compact.items in
    let turns = c.self.inside.turns.items in
    let begun = subst (λ ks. Begins (length ks) (unwrap_or c.args.new (task_at [] turns (length ks))) turns c.begin.new.turns.items) c.as_slice.ensures.value c.begin.ensures.begun in
    let one_more = ap length c.push_reserved.ensures.items ∙ length-append compact (c.args.compact ∷ []) ∙ add-one (length compact) in
    let there = one_more_there (length apart) (length apart) (omega arith) compact c.args.compact c.self.invariant.0 (there_grows 0 (length apart) (omega arith) c.args.compact c.requires.there) in
    (subst (AllByRecursion (IsThere (length apart))) (sym c.push_reserved.ensures.items) there, subst (Rises 0 c.begin.new.turns.items) (sym one_more) begun.rises)

pub returns-clause-items : goal.returns-clause-items
returns-clause-items c = λ e stands.
    let apart = c.self.inside.apart.items in
    let compact = c.self.inside.compact.items in
    let turns = c.self.inside.turns.items in
    let task = unwrap_or c.args.new (task_at [] turns (length compact)) in
    let begun = subst (λ ks. Begins (length ks) (unwrap_or c.args.new (task_at [] turns (length ks))) turns c.begin.new.turns.items) c.as_slice.ensures.value c.begin.ensures.begun in
    let stands_here = subst (λ j. StandsFor e (unwrap_or c.args.new j.turn) c.args.compact) (sym c.self.view_is) stands in
    ap (entries apart c.begin.new.turns.items 0) c.push_reserved.ensures.items
    ∙ entry_pushed apart turns c.begin.new.turns.items compact task c.args.compact begun
    ∙ ap₂ (λ j x. j.items ++ x ∷ []) c.self.view_is (stands_here.is apart)
