use Rattle.std.proofs.Common.{◌<◌, ◌∙◌, ◌∷◌, List, length, take, get_or, sym, ap, subst, arith}
use Rattle.tb_model.specs.Facts.{is_of, own}
use Rattle.tb_steps.specs.Entries.{Entry}
use Rattle.tb_core.specs.Lending.{IsLast, IsNoneBetween}
use Rattle.tb_steps.specs.Scans.{history_of}
use Rattle.tb_cause.specs.Keys.{held_by}
use Rattle.tb_cause.proofs.StandingLemmas.{newest_own, none_own}
use Rattle.tb_cause.proofs.indexed.Indexed.held_at.Goals as goal
use Rattle.tb_steps.proofs.FirstLemmas.{there}

pub action-requires : goal.action-requires
action-requires c =
    let entries = c.args.self.now in
    let w = there entries c.args.at c.requires in
    let here = w.1 ∙ ap (λ (es : List Entry). get_or es c.args.at w.0) (sym c.self.view_is) in
    omega (arith, (c.in-Some.ensures.some w.0 here).front, c.requires, ap length c.self.view_is)

pub returns-in-Some : goal.returns-in-Some
returns-in-Some c e here =
    let entries = c.args.self.now in
    let at = c.args.at in
    let before = c.in-Some.before in
    let last = subst (λ (es : List Entry). IsLast (is_of e.event.task) es at before) c.self.view_is (c.in-Some.ensures.some e (here ∙ ap (λ (es : List Entry). get_or es at e) (sym c.self.view_is))) in
    let within : before < length entries = omega (arith, last.front, c.requires) in
    let d = there entries before within in
    let action = c.action.ensures d.0 (d.1 ∙ ap (λ (es : List Entry). get_or es before d.0) (sym c.self.view_is)) in
    c.undeferred.ensures (own e.event.task (history_of (take before entries)))
    ∙ ap (λ a. held_by (a ∷ own e.event.task (history_of (take before entries)))) action
    ∙ ap held_by (sym (newest_own entries at e c.requires before d.0 last d.1))

pub returns-in-None : goal.returns-in-None
returns-in-None c e here =
    let entries = c.args.self.now in
    let at = c.args.at in
    let none = subst (λ (es : List Entry). IsNoneBetween (is_of e.event.task) es 0 at) c.self.view_is (c.in-None.ensures.none e (here ∙ ap (λ (es : List Entry). get_or es at e) (sym c.self.view_is))) in
    ap held_by (sym (none_own entries at e c.requires none))
