use Rattle.std.proofs.Common.{arith, sym, ◌∙◌, map, take}
use Rattle.std.proofs.lemmas.List.{map-append}
use Rattle.tb_read.proofs.PieceLemmas.{word_found, blank_found, comment_words}
use Rattle.tb_read.proofs.TextLemmas.{text_more, all_found, no_words}
use Rattle.tb_read.proofs.text.split.Goals as goal
use Rattle.tb_read.proofs.text.split.Goals.{then-at-gt0+in_ok-push, else-at-gt0}

pub returns-then-begins_comment-clause-text : goal.returns-then-begins_comment-clause-text
returns-then-begins_comment-clause-text c =
    all_found c.loop-rest.text _ c.loop-rest.rest.now c.args.line.now c.loop-rest.invariant.text c.loop-rest.invariant.words (comment_words c.loop-rest.rest.now (sym c.if-begins_comment.ensures))

pub returns-clause-text : goal.returns-clause-text
returns-clause-text c =
    all_found c.loop-rest.text _ c.loop-rest.rest.now c.args.line.now c.loop-rest.invariant.text c.loop-rest.invariant.words (no_words c.loop-rest.rest.now c.loop-rest-test.ensures)

pub loop-rest-preserved : goal.loop-rest-preserved
loop-rest-preserved c =
    rw c.behind-rest.ensures (elim c.if-at-gt0.branch [
      | then-at-gt0+in_ok-push w ↦ record {
        words = rw (w.words-is, w.in_ok-push.ensures.items) (simp map-append (word_found _ c.loop-rest.rest.now _ c.front-at.result.0 (omega arith) (sym c.if-begins_comment.ensures) c.front-at.ensures.len c.loop-rest.invariant.words));
        text = rw (w.words-is, w.in_ok-push.ensures.items) (simp map-append (text_more _ _ _ (map (λ word. word.now) c.loop-rest.words.items) (take c.front-at.result.0 c.loop-rest.rest.now) w.text-is c.loop-rest.invariant.text c.front-at.ensures.text));
      }
      | else-at-gt0 w ↦ record {
        words = rw w.words-is (blank_found _ c.loop-rest.rest.now _ c.front-at.result.0 (omega arith) (sym c.if-begins_comment.ensures) c.front-at.ensures.len c.loop-rest.invariant.words);
        text = rw w.words-is (w.text-is ∙ c.loop-rest.invariant.text);
      }
    ])
