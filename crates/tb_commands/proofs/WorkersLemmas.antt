-- What asks for a go names a worker at least.
use Rattle.std.proofs.Common.{◌≡◌, ◌≤◌, ℕ, List, [], ◌∷◌, Bool, true, false, cond, nat_lt, Option, Some, None, refl, arith}
use Rattle.std.specs.Prelude.{⊤, codes}
use Rattle.std.proofs.lemmas.Bool.Decides.{nat_tests}
use Rattle.tb_read.specs.Text.{line_words}
use Rattle.tb_read.specs.Word.{same_word}
use Rattle.tb_commands.specs.Commands.{Words, with_none, with_one, named, numbered, number_within, positive, break_of, go_with, go_of, asked_of, asked_by, asked_with, asked, verb_of, is_bad_line}
use Rattle.tb_commands.specs.declared.command.Command.{Command}
use Rattle.tb_commands.specs.declared.command.Verb.{Verb}
use Rattle.tb_commands.specs.declared.command.Verb.TheVariants.{Step, Undo, Roll, RollTask, RollCell, RollPrint, Run, Clear, Tasks, Task, Cells, Out, Ready, Waits, Deps, Hist, Why, Causes, Who, Races, Edges, Breaks}
use Rattle.tb_commands.specs.declared.asked.Asked.{Asked}
use Rattle.tb_commands.specs.declared.asked.Asked.TheVariants.{Nothing, Command as Asks, Go, Fault}

abbrev pub HasWorkers : Asked → Type 0
HasWorkers Nothing = ⊤
HasWorkers (Asks command) = ⊤
HasWorkers (Go workers most) = 1 ≤ workers
HasWorkers (Fault fault) = ⊤

of_named : {A : Type 0} (o : Option A) (command : A → Command) → HasWorkers (named o command)
of_named (Some x) command = tt
of_named None command = tt

of_numbered : (o : Option ℕ) (command : ℕ → Command) → HasWorkers (numbered o command)
of_numbered (Some n) command = tt
of_numbered None command = tt

of_none : (words : Words) (command : Command) → HasWorkers (with_none words command)
of_none [] command = tt
of_none (word ∷ words) command = tt

of_one : (words : Words) (read : List ℕ → Asked) → ((word : List ℕ) → HasWorkers (read word)) → HasWorkers (with_one words read)
of_one [] read h = tt
of_one (word ∷ []) read h = h word
of_one (word ∷ other ∷ words) read h = tt

either : (b : Bool) (x y : Asked) → HasWorkers x → HasWorkers y → HasWorkers (cond b x y)
either true x y h k = h
either false x y h k = k

of_break : (words : Words) → HasWorkers (break_of words)
of_break [] = tt
of_break (kind ∷ words) =
    either (same_word kind (codes "task")) _ _ (of_one words _ (λ word. of_named _ _))
    (either (same_word kind (codes "cell")) _ _ (of_one words _ (λ word. of_numbered _ _))
    (either (same_word kind (codes "body")) _ _ (of_one words _ (λ word. tt))
    (either (same_word kind (codes "print")) _ _ (of_none words _)
    (either (same_word kind (codes "fault")) _ _ (of_none words _) tt))))

of_go_with : (workers most : Option ℕ) → HasWorkers (go_with (positive workers) most)
of_go_with None most = tt
of_go_with (Some n) most = at (nat_lt 0 n) refl most
  where
    at : (b : Bool) → nat_lt 0 n ≡ b → (most : Option ℕ) → HasWorkers (go_with (cond b (Some n) None) most)
    at true e None = tt
    at true e (Some m) = grind (arith, nat_tests)
    at false e None = tt
    at false e (Some m) = tt

of_go : (limit : ℕ) (words : Words) → HasWorkers (go_of limit words)
of_go limit [] = tt
of_go limit (workers ∷ []) = tt
of_go limit (workers ∷ most ∷ []) = of_go_with (number_within limit workers) (number_within 1000000 most)
of_go limit (workers ∷ most ∷ word ∷ words) = tt

of_verb : (verb : Verb) (words : Words) → HasWorkers (asked_of verb words)
of_verb Step words = of_one words _ (λ word. of_named _ _)
of_verb Undo words = of_one words _ (λ word. of_named _ _)
of_verb Roll words = of_one words _ (λ word. of_named _ _)
of_verb RollTask words = of_one words _ (λ word. of_named _ _)
of_verb RollCell words = of_one words _ (λ word. of_numbered _ _)
of_verb RollPrint words = of_none words _
of_verb Run words = of_one words _ (λ word. of_numbered _ _)
of_verb Clear words = of_one words _ (λ word. of_numbered _ _)
of_verb Tasks words = of_none words _
of_verb Task words = of_one words _ (λ word. of_named _ _)
of_verb Cells words = of_none words _
of_verb Out words = of_none words _
of_verb Ready words = of_none words _
of_verb Waits words = of_none words _
of_verb Deps words = of_one words _ (λ word. of_named _ _)
of_verb Hist words = of_none words _
of_verb Why words = of_one words _ (λ word. of_named _ _)
of_verb Causes words = of_one words _ (λ word. of_named _ _)
of_verb Who words = of_one words _ (λ word. of_named _ _)
of_verb Races words = of_none words _
of_verb Edges words = of_none words _
of_verb Breaks words = of_none words _

of_found : (found : Option Verb) (words : Words) → HasWorkers (asked_by found words)
of_found (Some verb) words = of_verb verb words
of_found None words = tt

of_words : (limit : ℕ) (line : List ℕ) (words : Words) → HasWorkers (asked_with limit line words)
of_words limit line [] = tt
of_words limit line (word ∷ words) =
    either (is_bad_line line) _ _ tt
    (either (same_word word (codes "break")) _ _ (of_break words) (either (same_word word (codes "go")) _ _ (of_go limit words) (of_found (verb_of word) words)))

pub asked_has_workers : (limit : ℕ) (line : List ℕ) → HasWorkers (asked limit line)
asked_has_workers limit line = of_words limit line (line_words line)
