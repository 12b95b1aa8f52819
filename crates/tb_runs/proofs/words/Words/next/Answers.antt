use Rattle.std.proofs.Common.{take, ◌∷◌, ap, sym, ◌∙◌}
use Rattle.tb_read.specs.Text.{line_words}
use Rattle.tb_runs.proofs.WordsLemmas.{next_word}
use Rattle.tb_runs.proofs.words.Words.next.Goals as goal

pub returns-then-at-gt0-clause-some : goal.returns-then-at-gt0-clause-some
returns-then-at-gt0-clause-some c =
    next_word c.loop-rest.rest.now c.args.self.now c.word_len-at.result c.if-at-gt0.true (sym c.if-begins_comment.ensures) c.word_len-at.ensures.len c.loop-rest.invariant.words
    ∙ ap (λ ws. take c.word_len-at.result c.loop-rest.rest.now ∷ ws) (sym (ap line_words c.behind-self-inside.ensures))
