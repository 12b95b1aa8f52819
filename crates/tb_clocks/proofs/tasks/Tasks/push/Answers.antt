use Rattle.std.proofs.Common.{◌+◌, ap, inl, length, refl, subst, sym}
use Rattle.tb_clocks.specs.Steps.{Advances, IsChildRow, Stays}
use Rattle.tb_clocks.proofs.StepLemmas.{kept, on_err, pushed}
use Rattle.tb_clocks.proofs.tasks.Tasks.push.Goals as goal

pub returns-in_err-reserve-clause-err : goal.returns-in_err-reserve-clause-err
returns-in_err-reserve-clause-err c =
    on_err c.from_residual-in_err-reserve.result (λ cells H a.
    kept cells H c.args.self.now (record { rows = c.reserve.new.self; count = c.args.self.now.count }) c.args.task a (inl c.reserve.ensures.items) refl)

pub returns-in_err-advance-clause-err : goal.returns-in_err-advance-clause-err
returns-in_err-advance-clause-err c =
    on_err c.from_residual-in_err-advance.result (λ cells H a.
    kept cells H c.args.self.now (record { rows = c.advance.new.rows; count = c.args.self.now.count }) c.args.task a
    (subst (λ xs. Stays c.args.task xs c.advance.new.rows.items) c.reserve.ensures.items c.in_err-advance.ensures.err) refl)

pub returns-clause-ok : goal.returns-clause-ok
returns-clause-ok c cells H v a is l id =
    pushed cells H v l c.args.self.now a c.args.task id (record { rows = c.add.new.rows; count = c.args.self.now.count + 1 }) c.advance.new.rows.items c.in_ok-child.child
    (subst (λ b. IsChildRow c.args.task b c.in_ok-child.child) (sym is) c.in_ok-child.ensures)
    (subst (λ b. Advances c.args.task (length H) b c.args.self.now.rows.items c.advance.new.rows.items) (sym is)
    (subst (λ xs. Advances c.args.task (length H) c.args.action.now xs c.advance.new.rows.items) c.reserve.ensures.items
    (subst (λ n. Advances c.args.task n c.args.action.now c.reserve.new.self.items c.advance.new.rows.items) a.count c.in_ok-advance.ensures.ok)))
    c.add.ensures (ap (λ n. n + 1) a.count)
