-- What the words of a command line say, as `clap` takes them.
use Rattle.std.specs.Prelude.{List, Option, Some, codes, true}
use Rattle.clap.specs.Simple.{on_top}
use Rattle.clap.specs.Words.{App, Rule, Text, first_of, matches_of, new_app, new_rule, with_rule}
use Rattle.clap.specs.declared.builder.action.ArgAction.TheVariants.{Set}

-- an argument with one value at most
abbrev pub file_rule : Rule
file_rule = record (new_rule (codes "FILE")) { action = Some Set }

-- `taskcheck [FILE]`, which has a version
abbrev pub run_command : App
run_command = with_rule
    (on_top (λ s. record s { has_version = true }) (new_app (codes "taskcheck"))) file_rule

-- the file that the words name
abbrev pub file_of : List Text → Option Text
file_of words = first_of (codes "FILE") (matches_of run_command words)
