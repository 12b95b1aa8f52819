-- The words of a line, taken from the left: each at its index says something, or is the line's
-- fault.
use Rattle.std.specs.Prelude.{ℕ, zero, suc, ℤ, Bool, true, false, not, ◌||◌, nat_lt, codes, List, [], ◌∷◌, drop, Option, Some, None, Result, Ok, Err, if◌then◌else◌}
use Rattle.tb_model.specs.declared.item.Item.{Item}
use Rattle.tb_model.specs.declared.place.Place.{Place}
use Rattle.tb_model.specs.declared.place.Place.TheVariants.{Cell, All}
use Rattle.tb_model.specs.declared.kind.Kind.{Kind}
use Rattle.tb_model.specs.declared.kind.Kind.TheVariants.{Out, Inout, Mutexinoutset}
use Rattle.tb_model.specs.Names.{Name}
use Rattle.tb_read.specs.Word.{Word, same_word, number_of, register_of, kind_of, is_name}
use Rattle.tb_runs.specs.Names.{task_of, id_of}
use Rattle.tb_runs.specs.declared.name.Id.{Id}
use Rattle.tb_runs.specs.declared.fault.Fault.{Fault}
use Rattle.tb_runs.specs.declared.fault.Fault.TheVariants.{BadNumber, CellRange, UnknownWord, BadName, Arity, Register, DependType, TooLarge}

-- what the words say from the left on, with the words that are left; or the fault of the first that is wrong
abbrev pub Reading : Type 0 → Type 0
Reading A = Result (A × List Word) Fault

-- one thing, then another by what the first says
abbrev pub and_then : {A B : Type 0} → Reading A → (A → List Word → Reading B) → Reading B
and_then (Err fault) more = Err fault
and_then (Ok (x, words)) more = more x words

-- no word is left
abbrev pub ended : {A : Type 0} → Reading A → Result A Fault
ended (Err fault) = Err fault
ended (Ok (x, [])) = Ok x
ended (Ok (x, (word ∷ words))) = Err Arity

-- ---- one word

abbrev pub word_in : List Word → Reading Word
word_in [] = Err Arity
word_in (word ∷ words) = Ok (word, words)

-- what was found in the word, or this fault
abbrev pub found : {A : Type 0} → Fault → Option A → List Word → Reading A
found fault None words = Err fault
found fault (Some x) words = Ok (x, words)

abbrev pub number_in : List Word → Reading ℤ
number_in words = and_then (word_in words) (λ word. found BadNumber (number_of word))

abbrev pub register_in : List Word → Reading ℕ
register_in words = and_then (word_in words) (λ word. found Register (register_of word))

abbrev pub task_in : List Word → Reading Name
task_in words = and_then (word_in words) (λ word. found BadName (task_of word))

abbrev pub id_in : List Word → Reading Id
id_in words = and_then (word_in words) (λ word. found BadName (id_of word))

-- a cell, of which there are so many
abbrev pub cell_by : ℕ → ℤ → List Word → Reading ℕ
cell_by cells (ℤ.pos n) words = if nat_lt n cells then Ok (n, words) else Err CellRange
cell_by cells (ℤ.negsuc n) words = Err CellRange

abbrev pub cell_in : ℕ → List Word → Reading ℕ
cell_in cells words = and_then (number_in words) (cell_by cells)

-- the name of a body
abbrev pub body_by : Word → List Word → Reading Word
body_by word words = if is_name word then Ok (word, words) else Err UnknownWord

abbrev pub body_in : List Word → Reading Word
body_in words = and_then (word_in words) body_by

-- the next word is this one
abbrev pub begins : Word → List Word → Bool
begins expected [] = false
begins expected (word ∷ words) = same_word word expected

-- one after another, up to words at which they stop, and at most so many
unfoldable pub listed : {A : Type 0} → (List Word → Bool) → (List Word → Reading A) → ℕ → List Word → Reading (List A)
listed stops one zero words = if stops words then Ok ([], words) else and_then (one words) (λ x words. Err TooLarge)
listed stops one (suc room) words =
    if stops words then Ok ([], words)
    else and_then (one words) (λ x words. and_then (listed stops one room words) (λ xs words. Ok (x ∷ xs, words)))

-- ---- depend clauses: OpenMP 5.2, 15.9.5

-- the line may name the type: a `wait` excludes nothing
abbrev pub is_type : Bool → Kind → Bool
is_type on_wait Mutexinoutset = not on_wait
is_type on_wait kind = true

abbrev pub type_by : Bool → Kind → List Word → Reading Kind
type_by on_wait kind words = if is_type on_wait kind then Ok (kind, words) else Err DependType

abbrev pub kind_in : List Word → Reading Kind
kind_in words = and_then (word_in words) (λ word. found DependType (kind_of word))

abbrev pub type_in : Bool → List Word → Reading Kind
type_in on_wait words = and_then (kind_in words) (type_by on_wait)

-- all memory may be an item of these types
abbrev pub allows_all : Kind → Bool
allows_all Out = true
allows_all Inout = true
allows_all kind = false

abbrev pub cell_place : ℕ → List Word → Reading Place
cell_place cells words = and_then (cell_in cells words) (λ c words. Ok (Cell c, words))

abbrev pub all_place : Kind → List Word → Reading Place
all_place kind words = if allows_all kind then Ok (All, words) else Err DependType

abbrev pub place_in : ℕ → Kind → List Word → Reading Place
place_in cells kind words = if begins (codes "all") words then all_place kind (drop 1 words) else cell_place cells words

-- after `depend`: a type, and a cell or all memory
abbrev pub item_in : Bool → ℕ → List Word → Reading Item
item_in on_wait cells words =
    and_then (type_in on_wait words) (λ kind words. and_then (place_in cells kind words) (λ place words. Ok (record { kind = kind; place = place }, words)))

-- the clauses that follow one another, at most so many
abbrev pub items_in : Bool → ℕ → ℕ → List Word → Reading (List Item)
items_in on_wait cells room words = listed (λ words. not (begins (codes "depend") words)) (λ words. item_in on_wait cells (drop 1 words)) room words

-- ---- arguments

-- no further argument comes
abbrev pub ends_args : List Word → Bool
ends_args [] = true
ends_args (word ∷ words) = same_word word (codes "depend") || same_word word (codes "undeferred")

-- the numbers up to that, at most so many
abbrev pub args_in : ℕ → List Word → Reading (List ℤ)
args_in room words = listed ends_args number_in room words
