use Rattle.std.proofs.Common.{◌≡◌, ◌∙◌, ap, map, length, Some, arith, subst, suc}
use Rattle.std.proofs.lemmas.List.{length-map}
use Rattle.tb_read.specs.Flow.{Arrives, end_of, levels_behind}
use Rattle.tb_read.specs.Flow.Arrives.{stands, passed, ended, turned_over, back}
use Rattle.tb_read.specs.Shown.{shown_line}
use Rattle.tb_read.proofs.LevelLemmas.{end_within}
use Rattle.tb_read.proofs.follow.arrival.Goals as goal

pub behind-requires-in-Else : goal.behind-requires-in-Else
behind-requires-in-Else c =
    let lines = map shown_line c.args.lines.now in
    let count : length lines ≡ length c.args.lines.now = simp length-map in
    let same : c.end_of.result ≡ end_of c.args.at (levels_behind lines c.args.at) = c.end_of.ensures ∙ ap (end_of c.args.at) c.requires.levels in
    let lies = end_within lines c.args.at (omega (arith, count, c.requires.at)) in
    omega (arith, lies.below, same, count, c.requires.room)

pub returns-in-Passed : goal.returns-in-Passed
returns-in-Passed c =
    passed (c.line_at.ensures ∙ ap (λ l. Some (shown_line l)) c.in-Passed.is) (rw c.behind.ensures (c.requires.arrives (suc c.args.at) (omega arith) (omega (arith, c.requires.at))))

pub returns-in-EndIf : goal.returns-in-EndIf
returns-in-EndIf c =
    ended (c.line_at.ensures ∙ ap (λ l. Some (shown_line l)) c.in-EndIf.is) (rw c.behind-in-EndIf.ensures (c.requires.arrives (suc c.args.at) (omega arith) (omega (arith, c.requires.at))))

pub returns-in-Stands : goal.returns-in-Stands
returns-in-Stands c = stands (c.line_at.ensures ∙ ap (λ l. Some (shown_line l)) c.in-Stands.is)

pub returns-in-Else : goal.returns-in-Else
returns-in-Else c =
    let lines = map shown_line c.args.lines.now in
    let count : length lines ≡ length c.args.lines.now = simp length-map in
    let same : c.end_of.result ≡ end_of c.args.at (levels_behind lines c.args.at) = c.end_of.ensures ∙ ap (end_of c.args.at) c.requires.levels in
    let lies = end_within lines c.args.at (omega (arith, count, c.requires.at)) in
    let further = c.requires.arrives (suc c.end_of.result) (omega (arith, lies.from, same)) (omega (arith, lies.below, same, count)) in
    turned_over (c.line_at.ensures ∙ ap (λ l. Some (shown_line l)) c.in-Else.is) (subst (λ n. Arrives lines (suc n) c.behind-in-Else.result) same (rw c.behind-in-Else.ensures further))

pub returns-in-EndWhile : goal.returns-in-EndWhile
returns-in-EndWhile c = back (c.line_at.ensures ∙ ap (λ l. Some (shown_line l)) c.in-EndWhile.is)
