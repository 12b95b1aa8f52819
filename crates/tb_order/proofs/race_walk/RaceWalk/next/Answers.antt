use Rattle.std.proofs.Common.{◌≡◌, ◌∷◌, sym, ap, ap₂, ◌∙◌, take, subst}
use Rattle.std.proofs.lemmas.Result.{IfOk-weaker, on_ok_weaker}
use Rattle.tb_model.specs.declared.event.Event.{Event}
use Rattle.tb_model.specs.Legal.{Legal}
use Rattle.tb_steps.specs.Entries.{Entry}
use Rattle.tb_steps.specs.Scans.{history_of}
use Rattle.tb_steps.proofs.FirstLemmas.{legal_to, there}
use Rattle.tb_steps.proofs.ScanLemmas.{history_more}
use Rattle.tb_races.specs.Racing.{race_of}
use Rattle.tb_stream.specs.Halves.{AreRaces, event_of}
use Rattle.tb_order.proofs.AnswerLemmas.{races_more, read_there}
use Rattle.tb_order.proofs.race_walk.RaceWalk.next.Goals as goal

pub returns-clause-race : goal.returns-clause-race
returns-clause-race c =
    let entries = c.args.entries.now in
    let n = c.args.at in
    let w = c.requires.at in
    let x = there entries n w in
    let F = history_of (take n entries) in
    let cells = c.requires.legal.cells in
    let same : event_of c.task.result.now c.action.result.now ≡ x.0.event = ap₂ event_of (c.task.ensures x.0 x.1) (c.action.ensures x.0 x.1) in
    let legal : Legal cells (event_of c.task.result.now c.action.result.now ∷ F) =
    subst (λ (v : Event). Legal cells (v ∷ F)) (sym same) (legal_to cells entries n x.0 w x.1 c.requires.legal.legal) in
    IfOk-weaker c.push_action.result _ _
    (λ race is.
    let its = is cells F (c.requires.walk.known cells c.requires.legal.legal) legal in
    races_more entries n x.0 w x.1 race (λ v there. its ∙ ap (race_of F) (same ∙ ap (λ (e : Entry). e.event) (read_there entries n x.0 v w x.1 there))))
    c.push_action.ensures.race

pub returns-clause-walk : goal.returns-clause-walk
returns-clause-walk c =
    let entries = c.args.entries.now in
    let n = c.args.at in
    let w = c.requires.at in
    let x = there entries n w in
    let F = history_of (take n entries) in
    let same : event_of c.task.result.now c.action.result.now ≡ x.0.event = ap₂ event_of (c.task.ensures x.0 x.1) (c.action.ensures x.0 x.1) in
    on_ok_weaker c.push_action.result
    (λ is. record {
      known = λ cells all.
          let legal : Legal cells (event_of c.task.result.now c.action.result.now ∷ F) =
          subst (λ (v : Event). Legal cells (v ∷ F)) (sym same) (legal_to cells entries n x.0 w x.1 all) in
          subst (λ H. AreRaces cells H c.push_action.new.self) (sym (history_more entries n x.0 w x.1))
          (subst (λ (v : Event). AreRaces cells (v ∷ F) c.push_action.new.self) same
          (is cells F (c.requires.walk.known cells all) legal));
    })
    c.push_action.ensures.more
