-- The words of a `task` line after its name, and those of a `taskwait`: arguments, depend clauses,
-- an `if` clause. OpenMP 5.2, 15.9.5 depend Clause, 12.5 task Construct.
use Rattle.std.specs.Prelude.{ℕ, suc, Bool, true, false, not, List, [], ◌∷◌, ◌==◌, if◌then◌else◌, Option, Some, None, unwrap_or, length, map, take, drop, ◌||◌, ◌&&◌, ℤ, codes}
use Rattle.std.specs.List.{list_any, position_or_len}
use Rattle.tb_model.specs.declared.operand.Operand.{Operand}
use Rattle.tb_model.specs.declared.operand.Operand.TheVariants.{Number}
use Rattle.tb_model.specs.declared.comparison.Comparison.{Comparison}
use Rattle.tb_model.specs.declared.comparison.Comparison.TheVariants.{Equal}
use Rattle.tb_model.specs.declared.condition.Condition.{Condition}
use Rattle.tb_model.specs.declared.address.Address.{Address}
use Rattle.tb_model.specs.declared.address.Address.TheVariants.{Cell, All}
use Rattle.tb_model.specs.declared.clause.Clause.{Clause}
use Rattle.tb_model.specs.declared.kind.Kind.TheVariants.{In}
use Rattle.tb_read.specs.Word.{Word, same_word, word_at, operand_of, comparison_of, kind_of, is_all}
use Rattle.tb_read.specs.Grammar.{misfit, is_fault, is_misplaced}
use Rattle.tb_read.specs.declared.fault.FaultKind.{FaultKind}
use Rattle.tb_read.specs.declared.place.Place.{Place}
use Rattle.tb_read.specs.declared.place.Place.TheVariants.{Operand as AnOperand, Comparison as AComparison, Depend, Dependence, Address as AnAddress}

-- ---- where the clauses begin

abbrev pub begins_clause : Word → Bool
begins_clause word = same_word word (codes "depend") || same_word word (codes "if")

-- the words up to the first `depend` or `if` are arguments
abbrev pub argument_count : List Word → ℕ
argument_count words = position_or_len begins_clause words

abbrev pub arguments : List Word → List Word
arguments words = take (argument_count words) words

abbrev pub clause_words : List Word → List Word
clause_words words = drop (argument_count words) words

-- ---- the clauses are read in threes: `depend`, a type, an address

-- on a `task` line, a three whose first word is `if` begins the last clause
abbrev pub begins_test : Bool → Word → Bool
begins_test on_wait word = not on_wait && same_word word (codes "if")

abbrev pub allows_all : Word → Bool
allows_all type = same_word type (codes "out") || same_word type (codes "inout")

abbrev pub three_places : Bool → Word → List Place
three_places on_wait type = Depend ∷ Dependence on_wait ∷ AnAddress (allows_all type) ∷ []

-- a comparison of two operands
abbrev pub test_places : List Place
test_places = AnOperand ∷ AComparison ∷ AnOperand ∷ []

-- fewer than three words have their indexes too
abbrev pub is_misplaced_in_rest : FaultKind → Bool → List Word → Bool
is_misplaced_in_rest fault on_wait [] = false
is_misplaced_in_rest fault on_wait (word ∷ words) =
    if begins_test on_wait word then is_misplaced fault test_places words
    else is_misplaced fault (three_places on_wait (word_at words 0)) (word ∷ words)

-- some word of the clauses has the fault at its index
abbrev pub is_misplaced_in_clauses : FaultKind → Bool → List Word → Bool
is_misplaced_in_clauses fault on_wait (word ∷ type ∷ address ∷ words) =
    if begins_test on_wait word then is_misplaced fault test_places (type ∷ address ∷ words)
    else is_misplaced fault (three_places on_wait type) (word ∷ type ∷ address ∷ []) || is_misplaced_in_clauses fault on_wait words
is_misplaced_in_clauses fault on_wait words = is_misplaced_in_rest fault on_wait words

-- the last three isn't whole, or an `if` clause isn't the last four words
abbrev pub is_broken : Bool → List Word → Bool
is_broken on_wait [] = false
is_broken on_wait (word ∷ type ∷ address ∷ words) = if begins_test on_wait word then not (length words == 1) else is_broken on_wait words
is_broken on_wait words = true

-- the count of depend items
abbrev pub item_count : Bool → List Word → ℕ
item_count on_wait (word ∷ type ∷ address ∷ words) = if begins_test on_wait word then 0 else suc (item_count on_wait words)
item_count on_wait words = 0

-- ---- some word after a `task` line's name has the fault at its index

abbrev pub is_misplaced_argument : FaultKind → Word → Bool
is_misplaced_argument fault word = is_fault fault (misfit AnOperand word)

abbrev pub is_misplaced_behind_name : FaultKind → List Word → Bool
is_misplaced_behind_name fault words =
    list_any (is_misplaced_argument fault) (arguments words) || is_misplaced_in_clauses fault false (clause_words words)

-- ---- what the words mean; in a line without a fault no word is missing and none is wrong

abbrev pub operand_in : Word → Operand
operand_in word = unwrap_or (operand_of word) (Number (ℤ.pos 0))

abbrev pub comparison_in : Word → Comparison
comparison_in word = unwrap_or (comparison_of word) Equal

abbrev pub condition_in : Word → Word → Word → Condition
condition_in left comparison right = record { left = operand_in left; comparison = comparison_in comparison; right = operand_in right }

abbrev pub address_in : Word → Address
address_in word = if is_all word then All else Cell (operand_in word)

abbrev pub clause_in : Word → Word → Clause
clause_in type address = record { kind = unwrap_or (kind_of type) In; address = address_in address }

-- no body has more than 16 parameters
abbrev pub args_of : List Word → List Operand
args_of words = map operand_in (take 16 (arguments words))

abbrev pub clauses_of : Bool → List Word → List Clause
clauses_of on_wait (word ∷ type ∷ address ∷ words) = if begins_test on_wait word then [] else clause_in type address ∷ clauses_of on_wait words
clauses_of on_wait words = []

-- the test of the `if` clause
abbrev pub test_of : List Word → Option Condition
test_of (word ∷ left ∷ comparison ∷ words) = if begins_test false word then Some (condition_in left comparison (word_at words 0)) else test_of words
test_of words = None
