-- The words that say an event are text.
use Rattle.std.proofs.Common.{◌≡◌, ℕ, zero, suc, ℤ, ◌==◌, ◌&&◌, not, nat_lt, nat_le, Bool, true, false, cond, List, [], ◌∷◌, drop, length, codes, ◌+◌, ◌-◌, ◌^◌, neg_ℤ, refl, sym, ap, ◌∙◌, subst, arith, Option, Some, None, Ok, Err}
use Rattle.std.proofs.lemmas.Bool.{and_from, and_parts}
use Rattle.std.proofs.lemmas.Bool.Decides.{nat_tests}
use Rattle.std.specs.Char.{is_ascii_digit}
use Rattle.std.specs.Cmp.Lexicographic.{same_text}
use Rattle.std.specs.List.{list_all}
use Rattle.std.specs.Str.Parse.{digits_value}
use Rattle.tb_model.specs.Names.{Name}
use Rattle.tb_model.specs.declared.item.Item.{Item}
use Rattle.tb_model.specs.declared.place.Place.TheVariants.{Cell, All}
use Rattle.tb_model.specs.declared.kind.Kind.{Kind}
use Rattle.tb_model.specs.declared.action.Action.{Action}
use Rattle.tb_model.specs.declared.action.Action.TheVariants.{Let, Load, Store, Print, Spawn, Wait, Test}
use Rattle.tb_read.specs.Text.{line_words, before_comment, is_text, is_text_byte}
use Rattle.tb_read.specs.Word.{Word, same_word, is_numeral, number_of, number_above, number_below, register_of, kind_of, is_name, begins_name, continues_name}
use Rattle.tb_read.proofs.TextLemmas.{words_text}
use Rattle.tb_runs.specs.Actions.{action_by, action_in, rare_verb_of, spawn_of, test_by, test_in, verb_in, verb_of}
use Rattle.tb_runs.specs.Lines.{event_said, line_said, longest, said_by, some_said}
use Rattle.tb_runs.specs.Names.{task_of, id_of}
use Rattle.tb_runs.specs.Reading.{Reading, all_place, allows_all, and_then, args_in, begins, body_by, body_in, cell_by, cell_in, cell_place, ended, ends_args, found, id_in, is_type, item_in, items_in, kind_in, listed, number_in, place_in, register_in, task_in, type_by, type_in, word_in}
use Rattle.tb_runs.specs.declared.fault.Fault.{Fault}
use Rattle.tb_runs.specs.declared.fault.Fault.TheVariants.{Arity, BadName, BadNumber, CellRange, DependType, Register, TooLarge, UnknownWord}
use Rattle.tb_runs.specs.declared.name.Id.{Id}
use Rattle.tb_runs.specs.declared.said.Said.{Said}
use Rattle.tb_runs.specs.declared.said.Said.TheVariants.{Event as AnEvent}
use Rattle.tb_runs.specs.declared.said.Stage.TheVariants as stage
use Rattle.tb_runs.specs.declared.verb.Verb.{Verb}
use Rattle.tb_runs.specs.declared.verb.Verb.TheVariants as verb
use Rattle.tb_runs.proofs.NamedLemmas.{is_name_byte, is_step_byte, named_bytes, stepped_bytes}
use Rattle.tb_runs.proofs.RangeLemmas.{both, not_ok}

abbrev are_text : List Word → Bool
are_text words = list_all is_text words

-- the words that were read are text, where those that are left are
abbrev AreRead : {A : Type 0} → Reading A → List Word → Type 0
AreRead {A} r words = (x : A) (rest : List Word) → r ≡ Ok (x, rest) → are_text rest ≡ true → are_text words ≡ true

rest_is : {A : Type 0} (x y : A) (words rest : List Word) → ◌≡◌ {A = Reading A} (Ok (x, words)) (Ok (y, rest)) → rest ≡ words
rest_is {A} x y words rest e = (let h : ◌≡◌ {A = A × List Word} (x, words) (y, rest) = cc in sym (ap (λ (p : A × List Word). p.1) h))

done : {A : Type 0} (x : A) (words : List Word) → AreRead (Ok (x, words)) words
done x words y rest e h = subst (λ l. are_text l ≡ true) (rest_is x y words rest e) h

faulty : {A : Type 0} (fault : Fault) (words : List Word) → AreRead {A = A} (Err fault) words
faulty fault words x rest e h = absurd (not_ok fault (x, rest) e)

then : {A B : Type 0} (r : Reading A) (more : A → List Word → Reading B) (words : List Word) → AreRead r words → ((x : A) (ws : List Word) →
    AreRead (more x ws) ws) → AreRead (and_then r more) words
then r more words one other y rest e h =
    let b = both r more (y, rest) e in
    one b.x b.words b.one (other b.x b.words y rest b.other h)

-- a word that is text, if anything is read in it
one_word : {A : Type 0} (more : Word → List Word → Reading A) (words : List Word) → ((w : Word) (ws : List Word) → AreRead (more w ws) (w ∷ ws)) →
    AreRead (and_then (word_in words) more) words
one_word more [] one = faulty Arity []
one_word more (w ∷ ws) one = one w ws

found_in : {A : Type 0} (fault : Fault) (o : Option A) (w : Word) (ws : List Word) → ((x : A) → o ≡ Some x → is_text w ≡ true) →
    AreRead (found fault o ws) (w ∷ ws)
found_in fault None w ws h y rest e k = faulty fault (w ∷ ws) y rest e k
found_in fault (Some x) w ws h y rest e k = and_from (is_text w) (are_text ws) (h x refl) (done x ws y rest e k)

-- ---- bytes

text_by : (p : ℕ → Bool) → ((b : ℕ) → p b ≡ true → is_text_byte b ≡ true) → (bytes : List ℕ) → list_all p bytes ≡ true → is_text bytes ≡ true
text_by p each [] h = refl
text_by p each (b ∷ bytes) h =
    let q = and_parts (p b) (list_all p bytes) h in
    and_from (is_text_byte b) (is_text bytes) (each b q.0) (text_by p each bytes q.1)

digit_text : (b : ℕ) → is_ascii_digit b ≡ true → is_text_byte b ≡ true
digit_text b h = grind (arith, nat_tests)

name_byte_text : (b : ℕ) → is_name_byte b ≡ true → is_text_byte b ≡ true
name_byte_text b h = grind (arith, nat_tests)

letter_text : (b : ℕ) → continues_name b ≡ true → is_text_byte b ≡ true
letter_text b h = grind (arith, nat_tests)

step_byte_text : (b : ℕ) → is_step_byte b ≡ true → is_text_byte b ≡ true
step_byte_text b h = grind (arith, nat_tests)

same_as : (w expected : Word) → is_text expected ≡ true → same_word w expected ≡ true → is_text w ≡ true
same_as w expected h same = subst (λ l. is_text l ≡ true) (sym (same_text w expected (sym same))) h

-- ---- what a word is

some_by : {A : Type 0} (numeral less : Bool) (x y : A) → cond (numeral && less) (Some x) None ≡ Some y → numeral ≡ true
some_by true less x y e = refl
some_by {A} false less x y e = absurd (let no : ◌≡◌ {A = Option A} None (Some y) = e in cc)

numeral_text : (digits : List ℕ) → is_numeral digits ≡ true → is_text digits ≡ true
numeral_text digits h = text_by is_ascii_digit digit_text digits (and_parts (nat_lt 0 (length digits)) (list_all is_ascii_digit digits) h).1

signed_by : (sign : Bool) (b : ℕ) (bytes : List ℕ) (x : ℤ) → (b == 45) ≡ sign → cond sign (number_below bytes) (number_above (b ∷ bytes)) ≡ Some x →
    is_text (b ∷ bytes) ≡ true
signed_by true b bytes x s e =
    let byte : is_text_byte b ≡ true = grind (arith, nat_tests) in
    and_from (is_text_byte b) (is_text bytes) byte (numeral_text bytes (some_by (is_numeral bytes) (nat_le (digits_value 10 bytes) (2 ^ 63))
    (neg_ℤ (ℤ.pos (digits_value 10 bytes))) x e))
signed_by false b bytes x s e = numeral_text (b ∷ bytes) (some_by (is_numeral (b ∷ bytes)) (nat_lt (digits_value 10 (b ∷ bytes)) (2 ^ 63))
    (ℤ.pos (digits_value 10 (b ∷ bytes))) x e)

signed_text : (w : Word) (x : ℤ) → number_of w ≡ Some x → is_text w ≡ true
signed_text [] x e = refl
signed_text (b ∷ bytes) x e = signed_by (b == 45) b bytes x refl e

cond_true : {A : Type 0} (b : Bool) (x y : A) → cond b (Some x) None ≡ Some y → b ≡ true
cond_true true x y e = refl
cond_true {A} false x y e = absurd (let no : ◌≡◌ {A = Option A} None (Some y) = e in cc)

register_text : (w : Word) (r : ℕ) → register_of w ≡ Some r → is_text w ≡ true
register_text [] r e = refl
register_text (a ∷ []) r e = absurd (let no : ◌≡◌ {A = Option ℕ} None (Some r) = e in cc)
register_text (a ∷ d ∷ []) r e =
    let h = cond_true ((a == 114) && is_ascii_digit d) (d - 48) r e in
    let first : is_text_byte a ≡ true = grind (arith, nat_tests) in
    let second : is_text_byte d ≡ true = grind (arith, nat_tests) in
    rw (first, second) refl
register_text (a ∷ t ∷ d ∷ []) r e =
    let h = cond_true ((a == 114) && ((t == 49) && (nat_le 48 d && nat_le d 53))) (10 + (d - 48)) r e in
    let first : is_text_byte a ≡ true = grind (arith, nat_tests) in
    let second : is_text_byte t ≡ true = grind (arith, nat_tests) in
    let third : is_text_byte d ≡ true = grind (arith, nat_tests) in
    rw (first, second, third) refl
register_text (a ∷ t ∷ d ∷ b ∷ w) r e = absurd (let no : ◌≡◌ {A = Option ℕ} None (Some r) = e in cc)

-- one of several words
either_word : {A : Type 0} (w expected : Word) (same : Bool) (x y : A) (more : Option A) → is_text expected ≡ true → same_word w expected ≡ same →
    (more ≡ Some y → is_text w ≡ true) →
    cond same (Some x) more ≡ Some y → is_text w ≡ true
either_word w expected true x y more h is on e = same_as w expected h is
either_word w expected false x y more h is on e = on e

no_word : {A : Type 0} (w : Word) (y : A) → ◌≡◌ {A = Option A} None (Some y) → is_text w ≡ true
no_word w y e = absurd cc

kind_text : (w : Word) (k : Kind) → kind_of w ≡ Some k → is_text w ≡ true
kind_text w k e =
    either_word w (codes "in") _ _ k _ refl refl (λ e. either_word w (codes "out") _ _ k _ refl refl (λ e. either_word w (codes "inout") _ _ k _ refl refl
    (λ e. either_word w (codes "mutexinoutset") _ _ k _ refl refl (λ e. either_word w (codes "inoutset") _ _ k _ refl refl (no_word w k) e) e) e) e) e

rare_verb_text : (w : Word) (v : Verb) → rare_verb_of w ≡ Some v → is_text w ≡ true
rare_verb_text w v e =
    either_word w (codes "spawn") _ _ v _ refl refl (λ e. either_word w (codes "wait") _ _ v _ refl refl (λ e. either_word w (codes "open") _ _ v _ refl refl
    (λ e. either_word w (codes "close") _ _ v _ refl refl (λ e. either_word w (codes "print") _ _ v _ refl refl
    (λ e. either_word w (codes "fault") _ _ v _ refl refl (no_word w v) e) e) e) e) e) e

verb_text : (w : Word) (v : Verb) → verb_of w ≡ Some v → is_text w ≡ true
verb_text w v e =
    either_word w (codes "load") _ _ v _ refl refl (λ e. either_word w (codes "store") _ _ v _ refl refl (λ e. either_word w (codes "test") _ _ v _ refl refl
    (λ e. either_word w (codes "let") _ _ v _ refl refl (λ e. either_word w (codes "start") _ _ v _ refl refl
    (λ e. either_word w (codes "end") _ _ v _ refl refl (rare_verb_text w v) e) e) e) e) e) e

task_text : (w : Word) (t : Name) → task_of w ≡ Some t → is_text w ≡ true
task_text w t e = text_by is_name_byte name_byte_text w (named_bytes w t e)

id_text : (w : Word) (id : Id) → id_of w ≡ Some id → is_text w ≡ true
id_text w id e = text_by is_step_byte step_byte_text w (stepped_bytes w id e)

-- ---- readings of one word

signed_words : (words : List Word) → AreRead (number_in words) words
signed_words words = one_word (λ w. found BadNumber (number_of w)) words (λ w ws. found_in BadNumber (number_of w) w ws (signed_text w))

register_words : (words : List Word) → AreRead (register_in words) words
register_words words = one_word (λ w. found Register (register_of w)) words (λ w ws. found_in Register (register_of w) w ws (register_text w))

task_words : (words : List Word) → AreRead (task_in words) words
task_words words = one_word (λ w. found BadName (task_of w)) words (λ w ws. found_in BadName (task_of w) w ws (task_text w))

id_words : (words : List Word) → AreRead (id_in words) words
id_words words = one_word (λ w. found BadName (id_of w)) words (λ w ws. found_in BadName (id_of w) w ws (id_text w))

kind_words : (words : List Word) → AreRead (kind_in words) words
kind_words words = one_word (λ w. found DependType (kind_of w)) words (λ w ws. found_in DependType (kind_of w) w ws (kind_text w))

verb_words : (words : List Word) → AreRead (verb_in words) words
verb_words words = one_word (λ w. found UnknownWord (verb_of w)) words (λ w ws. found_in UnknownWord (verb_of w) w ws (verb_text w))

-- a test of what was read, or of its word
unless : {A : Type 0} (b : Bool) (r : Reading A) (fault : Fault) (words : List Word) → (b ≡ true → AreRead r words) → AreRead (cond b r (Err fault)) words
unless true r fault words h = h refl
unless false r fault words h = faulty fault words

name_text : (w : Word) → is_name w ≡ true → is_text w ≡ true
name_text [] h = refl
name_text (b ∷ w) h =
    let p = and_parts (nat_lt 0 (length (b ∷ w))) _ h in
    let q = and_parts (nat_le (length (b ∷ w)) 32) _ p.1 in
    let r = and_parts (begins_name b) (list_all continues_name (b ∷ w)) q.1 in
    text_by continues_name letter_text (b ∷ w) r.1

body_words : (words : List Word) → AreRead (body_in words) words
body_words words = one_word body_by words (λ w ws. unless (is_name w) (Ok (w, ws)) UnknownWord (w ∷ ws)
    (λ is x rest e h. and_from (is_text w) (are_text ws) (name_text w is) (done w ws x rest e h)))

tested_words : (agreed denied : Bool) (w : Word) (ws : List Word) → same_word w (codes "yes") ≡ agreed → same_word w (codes "no") ≡ denied →
    AreRead {A = Action} (cond agreed (Ok (Test true, ws)) (cond denied (Ok (Test false, ws)) (Err UnknownWord))) (w ∷ ws)
tested_words true denied w ws y n x rest e h = and_from (is_text w) (are_text ws) (same_as w (codes "yes") refl y) (done (Test true) ws x rest e h)
tested_words false true w ws y n x rest e h = and_from (is_text w) (are_text ws) (same_as w (codes "no") refl n) (done (Test false) ws x rest e h)
tested_words false false w ws y n x rest e h = faulty UnknownWord (w ∷ ws) x rest e h

test_words : (words : List Word) → AreRead (test_in words) words
test_words words = one_word test_by words (λ w ws. tested_words (same_word w (codes "yes")) (same_word w (codes "no")) w ws refl refl)

-- ---- cells, clauses, arguments

cell_words : (cells : ℕ) (words : List Word) → AreRead (cell_in cells words) words
cell_words cells words = then (number_in words) (cell_by cells) words (signed_words words) by
  where
    by : (z : ℤ) (ws : List Word) → AreRead (cell_by cells z ws) ws
    by (ℤ.pos n) ws = unless (nat_lt n cells) (Ok (n, ws)) CellRange ws (λ is. done n ws)
    by (ℤ.negsuc n) ws = faulty CellRange ws

type_words : (on_wait : Bool) (words : List Word) → AreRead (type_in on_wait words) words
type_words on_wait words =
    then (kind_in words) (type_by on_wait) words (kind_words words) (λ k ws. unless (is_type on_wait k) (Ok (k, ws)) DependType ws (λ is. done k ws))

-- a word that begins them is this one
begun : {A : Type 0} (r : List Word → Reading A) (expected : Word) (words : List Word) → is_text expected ≡ true → ((ws : List Word) → AreRead (r ws) ws) →
    begins expected words ≡ true → AreRead (r (drop 1 words)) words
begun r expected [] h on begins x rest e k = absurd (let no : false ≡ true = begins in cc)
begun r expected (w ∷ ws) h on begins x rest e k = and_from (is_text w) (are_text ws) (same_as w expected h begins) (on ws x rest e k)

either : {A : Type 0} (b : Bool) (r s : Reading A) (words : List Word) → (b ≡ true → AreRead r words) → (b ≡ false → AreRead s words) →
    AreRead (cond b r s) words
either true r s words h k = h refl
either false r s words h k = k refl

cell_or_all : (cells : ℕ) (kind : Kind) (words : List Word) → AreRead (place_in cells kind words) words
cell_or_all cells kind words =
    either (begins (codes "all") words) (all_place kind (drop 1 words)) (cell_place cells words) words
    (begun (all_place kind) (codes "all") words refl (λ ws. unless (allows_all kind) (Ok (All, ws)) DependType ws (λ is. done All ws)))
    (λ no. then (cell_in cells words) (λ c ws. Ok (Cell c, ws)) words (cell_words cells words) (λ c ws. done (Cell c) ws))

item_words : (on_wait : Bool) (cells : ℕ) (words : List Word) → AreRead (item_in on_wait cells words) words
item_words on_wait cells words =
    then (type_in on_wait words) (λ k ws. and_then (place_in cells k ws) (λ p ws. Ok (record { kind = k; place = p }, ws))) words (type_words on_wait words)
    (λ k ws. then (place_in cells k ws) (λ p ws. Ok (record { kind = k; place = p }, ws)) ws (cell_or_all cells k ws)
    (λ p ws. done (record { kind = k; place = p }) ws))

listed_words : {A : Type 0} (stops : List Word → Bool) (one : List Word → Reading A) → ((words : List Word) → stops words ≡ false → AreRead (one words) words) →
    (room : ℕ) (words : List Word) → AreRead (listed stops one room words) words
unfolding listed
listed_words {A} stops one h zero words =
    either {A = List A} (stops words) (Ok ([], words)) (and_then (one words) (λ x words. Err TooLarge)) words (λ is. done [] words)
    (λ no. then (one words) (λ x words. Err TooLarge) words (h words no) (λ x ws. faulty TooLarge ws))
listed_words {A} stops one h (suc room) words =
    either {A = List A} (stops words) (Ok ([], words)) (and_then (one words) (λ x words. and_then (listed stops one room words)
    (λ xs words. Ok (x ∷ xs, words)))) words (λ is. done [] words)
    (λ no. then (one words) (λ x words. and_then (listed stops one room words) (λ xs words. Ok (x ∷ xs, words))) words (h words no)
    (λ x ws. then (listed stops one room ws) (λ xs words. Ok (x ∷ xs, words)) ws (listed_words stops one h room ws) (λ xs ws. done (x ∷ xs) ws)))

items_words : (on_wait : Bool) (cells : ℕ) (words : List Word) → AreRead (items_in on_wait cells 64 words) words
items_words on_wait cells words =
    listed_words (λ words. not (begins (codes "depend") words)) (λ words. item_in on_wait cells (drop 1 words))
    (λ words no. begun (item_in on_wait cells) (codes "depend") words refl (item_words on_wait cells) (unnot (begins (codes "depend") words) no)) 64 words
  where
    unnot : (b : Bool) → not b ≡ false → b ≡ true
    unnot true h = refl
    unnot false h = sym h

args_words : (words : List Word) → AreRead (args_in 16 words) words
args_words words = listed_words ends_args number_in (λ words no. signed_words words) 16 words

-- ---- events

spawn_words : (child : Name) (args : List ℤ) (items : List Item) (words : List Word) → AreRead (spawn_of child args items words) words
spawn_words child args items words = by (begins (codes "undeferred") words) refl
  where
    made : Bool → Action
    made undeferred = Spawn (record { child = child; body = 0; args = args; items = items; deferred = not undeferred })

    by : (undeferred : Bool) → begins (codes "undeferred") words ≡ undeferred →
        AreRead {A = Action} (Ok (made undeferred, cond undeferred (drop 1 words) words)) words
    by true is = begun (λ ws. Ok (made true, ws)) (codes "undeferred") words refl (λ ws. done (made true) ws) is
    by false is = done (made false) words

action_words : (cells : ℕ) (v : Verb) (words : List Word) → AreRead (action_by cells v words) words
action_words cells verb.Start words = done _ words
action_words cells verb.Let words =
    then (register_in words) (λ r ws. and_then (number_in ws) (λ x ws. Ok (Let r x, ws))) words (register_words words)
    (λ r ws. then (number_in ws) (λ x ws. Ok (Let r x, ws)) ws (signed_words ws) (λ x ws. done (Let r x) ws))
action_words cells verb.Load words =
    then (register_in words) (λ r ws. and_then (cell_in cells ws) (λ c ws. and_then (number_in ws) (λ x ws. Ok (Load r c x, ws)))) words
    (register_words words)
    (λ r ws. then (cell_in cells ws) (λ c ws. and_then (number_in ws) (λ x ws. Ok (Load r c x, ws))) ws (cell_words cells ws)
    (λ c ws. then (number_in ws) (λ x ws. Ok (Load r c x, ws)) ws (signed_words ws) (λ x ws. done (Load r c x) ws)))
action_words cells verb.Store words =
    then (cell_in cells words) (λ c ws. and_then (number_in ws) (λ x ws. Ok (Store c x, ws))) words (cell_words cells words)
    (λ c ws. then (number_in ws) (λ x ws. Ok (Store c x, ws)) ws (signed_words ws) (λ x ws. done (Store c x) ws))
action_words cells verb.Print words = then (number_in words) (λ x ws. Ok (Print x, ws)) words (signed_words words) (λ x ws. done (Print x) ws)
action_words cells verb.Spawn words =
    then (task_in words) (λ child ws. and_then (body_in ws) (λ body ws. and_then (args_in 16 ws)
    (λ args ws. and_then (items_in false cells 64 ws) (λ items ws. spawn_of child args items ws)))) words (task_words words)
    (λ child ws. then (body_in ws) (λ body ws. and_then (args_in 16 ws) (λ args ws. and_then (items_in false cells 64 ws)
    (λ items ws. spawn_of child args items ws))) ws (body_words ws)
    (λ body ws. then (args_in 16 ws) (λ args ws. and_then (items_in false cells 64 ws) (λ items ws. spawn_of child args items ws)) ws (args_words ws)
    (λ args ws. then (items_in false cells 64 ws) (λ items ws. spawn_of child args items ws) ws (items_words false cells ws)
    (λ items ws. spawn_words child args items ws))))
action_words cells verb.Wait words = then (items_in true cells 64 words) (λ items ws. Ok (Wait items, ws)) words (items_words true cells words)
    (λ items ws. done (Wait items) ws)
action_words cells verb.Open words = done _ words
action_words cells verb.Close words = done _ words
action_words cells verb.Test words = test_words words
action_words cells verb.End words = done _ words
action_words cells verb.Fault words = done _ words

event_words : (cells : ℕ) (words : List Word) → AreRead (event_said cells words) words
event_words cells words =
    then (id_in words) (λ id ws. and_then (action_in cells ws) (λ action ws. Ok (AnEvent id.step (record { task = id.task; action = action }), ws)))
    words (id_words words)
    (λ id ws. then (action_in cells ws) (λ action ws. Ok (AnEvent id.step (record { task = id.task; action = action }), ws)) ws
    (then (verb_in ws) (action_by cells) ws (verb_words ws) (action_words cells))
    (λ action ws. done (AnEvent id.step (record { task = id.task; action = action })) ws))

whole : (r : Reading Said) (said : Said) → ended r ≡ Ok said → r ≡ Ok (said, [])
whole (Err fault) said e = absurd (not_ok fault said e)
whole (Ok (x, (word ∷ words))) said e = absurd (not_ok Arity said e)
whole (Ok (x, [])) said e = (let same : x ≡ said = cc in ap (λ y. Ok (y, [])) same)

-- a line that says an event is text
pub event_text : (cells : ℕ) (line : List ℕ) (said : Said) → ended (event_said cells (line_words line)) ≡ Ok said → is_text (before_comment line) ≡ true
event_text cells line said e =
    sym (words_text line) ∙ event_words cells (line_words line) said [] (whole (event_said cells (line_words line)) said e) refl

read_by : (cells : ℕ) (words : List Word) (said : Said) → ended (event_said cells words) ≡ Ok said → said_by [] (stage.Events cells) words ≡ Ok (Some said)
read_by cells [] said e = absurd (not_ok Arity said e)
read_by cells (w ∷ ws) said e = ap some_said e

pub event_read : (cells : ℕ) (line : List ℕ) (said : Said) → nat_lt longest (length line) ≡ false → ended (event_said cells (line_words line)) ≡ Ok said →
    line_said [] (stage.Events cells) line ≡ Ok (Some said)
event_read cells line said short e = rw (short, event_text cells line said e) (read_by cells (line_words line) said e)
