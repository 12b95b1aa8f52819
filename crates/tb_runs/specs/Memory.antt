-- For what lines memory may be wanted: their event's task has a name of more than three ordinals,
-- or it spawns or waits.
use Rattle.std.specs.Prelude.{ℕ, Bool, true, false, not, ◌&&◌, ◌||◌, nat_lt, codes, count_by, List, [], ◌∷◌, length, Option, Some, None}
use Rattle.tb_model.specs.Spelling.{is_dot}
use Rattle.tb_read.specs.Text.{line_words, before_comment, is_text}
use Rattle.tb_read.specs.Word.{Word}
use Rattle.tb_runs.specs.Reading.{begins}
use Rattle.tb_runs.specs.Actions.{verb_of}
use Rattle.tb_runs.specs.Lines.{longest}
use Rattle.tb_runs.specs.declared.said.Stage.{Stage}
use Rattle.tb_runs.specs.declared.said.Stage.TheVariants as stage
use Rattle.tb_runs.specs.declared.verb.Verb.{Verb}
use Rattle.tb_runs.specs.declared.verb.Verb.TheVariants.{Spawn, Wait}

-- the word has more than three dots, so a name in it may have more than three ordinals
abbrev pub is_long : Word → Bool
is_long word = nat_lt 3 (count_by is_dot word)

-- what was done has a list of items
abbrev pub has_items : Verb → Bool
has_items Spawn = true
has_items Wait = true
has_items _ = false

abbrev pub lists : Option Verb → Bool
lists None = false
lists (Some verb) = has_items verb

abbrev pub action_takes : List Word → Bool
action_takes [] = false
action_takes (word ∷ words) = lists (verb_of word)

abbrev pub id_takes : List Word → Bool
id_takes [] = false
id_takes (word ∷ words) = is_long word

abbrev pub event_takes : List Word → Bool
event_takes [] = false
event_takes (word ∷ words) = is_long word || action_takes words

abbrev pub words_take : Stage → List Word → Bool
words_take stage.Begin words = false
words_take (stage.Cells count) words = not (begins (codes "cell") words || begins (codes "hist") words) && event_takes words
words_take (stage.Events count) words = event_takes words

-- of a line that is too long, or isn't text, nothing is taken
abbrev pub line_takes : Stage → List ℕ → Bool
line_takes at line = not (nat_lt longest (length line)) && (is_text (before_comment line) && words_take at (line_words line))
