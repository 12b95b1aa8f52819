-- What an event's words say that its task did.
use Rattle.std.specs.Prelude.{ℕ, ℤ, true, false, not, codes, List, drop, Option, Some, None, Ok, Err, if◌then◌else◌}
use Rattle.tb_model.specs.declared.item.Item.{Item}
use Rattle.tb_model.specs.declared.action.Action.{Action}
use Rattle.tb_model.specs.declared.action.Action.TheVariants.{Start, Let, Load, Store, Print, Spawn, Wait, Open, Close, Test, End, Fault as Faulted}
use Rattle.tb_model.specs.Names.{Name}
use Rattle.tb_read.specs.Word.{Word, same_word}
use Rattle.tb_runs.specs.Reading.{Reading, and_then, found, begins, word_in, number_in, register_in, task_in, cell_in, body_in, items_in, args_in}
use Rattle.tb_runs.specs.declared.fault.Fault.TheVariants.{UnknownWord}
use Rattle.tb_runs.specs.declared.verb.Verb.{Verb}
use Rattle.tb_runs.specs.declared.verb.Verb.TheVariants as verb

-- ---- the word that says what was done

abbrev pub rare_verb_of : Word → Option Verb
rare_verb_of word =
    if same_word word (codes "spawn") then Some verb.Spawn
    else (if same_word word (codes "wait") then Some verb.Wait
    else (if same_word word (codes "open") then Some verb.Open
    else (if same_word word (codes "close") then Some verb.Close
    else (if same_word word (codes "print") then Some verb.Print
    else (if same_word word (codes "fault") then Some verb.Fault
    else None)))))

abbrev pub verb_of : Word → Option Verb
verb_of word =
    if same_word word (codes "load") then Some verb.Load
    else (if same_word word (codes "store") then Some verb.Store
    else (if same_word word (codes "test") then Some verb.Test
    else (if same_word word (codes "let") then Some verb.Let
    else (if same_word word (codes "start") then Some verb.Start
    else (if same_word word (codes "end") then Some verb.End
    else rare_verb_of word)))))

-- ---- the words after it

abbrev pub let_in : List Word → Reading Action
let_in words = and_then (register_in words) (λ r words. and_then (number_in words) (λ x words. Ok (Let r x, words)))

abbrev pub load_in : ℕ → List Word → Reading Action
load_in cells words =
    and_then (register_in words) (λ r words. and_then (cell_in cells words) (λ c words. and_then (number_in words) (λ x words. Ok (Load r c x, words))))

abbrev pub store_in : ℕ → List Word → Reading Action
store_in cells words = and_then (cell_in cells words) (λ c words. and_then (number_in words) (λ x words. Ok (Store c x, words)))

abbrev pub print_in : List Word → Reading Action
print_in words = and_then (number_in words) (λ x words. Ok (Print x, words))

abbrev pub wait_in : ℕ → List Word → Reading Action
wait_in cells words = and_then (items_in true cells 64 words) (λ items words. Ok (Wait items, words))

-- a run has no bodies, so none is stored; `undeferred` may be last
abbrev pub spawn_of : Name → List ℤ → List Item → List Word → Reading Action
spawn_of child args items words =
    let undeferred = begins (codes "undeferred") words in
    Ok (Spawn (record { child = child; body = 0; args = args; items = items; deferred = not undeferred }), (if undeferred then drop 1 words else words))

abbrev pub spawn_in : ℕ → List Word → Reading Action
spawn_in cells words =
    and_then (task_in words) (λ child words. and_then (body_in words) (λ body words. and_then (args_in 16 words) (λ args words.
    and_then (items_in false cells 64 words) (λ items words. spawn_of child args items words))))

abbrev pub test_by : Word → List Word → Reading Action
test_by word words =
    if same_word word (codes "yes") then Ok (Test true, words)
    else (if same_word word (codes "no") then Ok (Test false, words)
    else Err UnknownWord)

abbrev pub test_in : List Word → Reading Action
test_in words = and_then (word_in words) test_by

abbrev pub action_by : ℕ → Verb → List Word → Reading Action
action_by cells verb.Start words = Ok (Start, words)
action_by cells verb.Let words = let_in words
action_by cells verb.Load words = load_in cells words
action_by cells verb.Store words = store_in cells words
action_by cells verb.Print words = print_in words
action_by cells verb.Spawn words = spawn_in cells words
action_by cells verb.Wait words = wait_in cells words
action_by cells verb.Open words = Ok (Open, words)
action_by cells verb.Close words = Ok (Close, words)
action_by cells verb.Test words = test_in words
action_by cells verb.End words = Ok (End, words)
action_by cells verb.Fault words = Ok (Faulted, words)

abbrev pub verb_in : List Word → Reading Verb
verb_in words = and_then (word_in words) (λ word. found UnknownWord (verb_of word))

abbrev pub action_in : ℕ → List Word → Reading Action
action_in cells words = and_then (verb_in words) (action_by cells)
