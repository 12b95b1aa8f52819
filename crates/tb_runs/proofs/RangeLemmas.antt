-- What an event that was read names is in range.
use Rattle.std.proofs.Common.{◌≡◌, ◌<◌, ◌≤◌, ◌-◌, ◌+◌, ℕ, zero, suc, ℤ, List, [], ◌∷◌, Bool, true, false, not, cond, ◌&&◌, ◌==◌, length, drop, codes, refl, sym, ap, ◌∙◌, arith, Option, Some, None, Result, Ok, Err, nat_lt, nat_le}
use Rattle.std.specs.List.{list_all}
use Rattle.std.specs.Char.{is_ascii_digit}
use Rattle.std.proofs.lemmas.Bool.{and_from}
use Rattle.std.proofs.lemmas.Bool.Decides.{nat_tests}
use Rattle.tb_model.specs.declared.item.Item.{Item}
use Rattle.tb_model.specs.declared.place.Place.{Place}
use Rattle.tb_model.specs.declared.place.Place.TheVariants.{Cell, All}
use Rattle.tb_model.specs.declared.kind.Kind.{Kind}
use Rattle.tb_model.specs.declared.action.Action.{Action}
use Rattle.tb_model.specs.declared.action.Action.TheVariants.{Start, Let, Load, Store, Print, Spawn, Wait, Open, Close, Test, End, Fault as Faulted}
use Rattle.tb_plan.specs.Plans.{names_allowed, is_placed, is_place}
use Rattle.tb_read.specs.Word.{Word, register_of, same_word}
use Rattle.tb_runs.specs.Reading.{Reading, and_then, found, listed, begins, register_in, number_in, cell_in, cell_by, word_in, task_in, body_in, type_in, place_in, allows_all, item_in, items_in, args_in, ends_args}
use Rattle.tb_runs.specs.Actions.{action_in, action_by, verb_in, let_in, load_in, store_in, print_in, spawn_in, spawn_of, wait_in, test_in, test_by}
use Rattle.tb_runs.specs.declared.fault.Fault.{Fault}
use Rattle.tb_runs.specs.declared.fault.Fault.TheVariants.{Register, CellRange, TooLarge, DependType, UnknownWord}
use Rattle.tb_runs.specs.declared.verb.Verb.{Verb}
use Rattle.tb_runs.specs.declared.verb.Verb.TheVariants as verb

pub not_ok : {A : Type 0} (fault : Fault) (p : A) → ◌≡◌ {A = Result A Fault} (Err fault) (Ok p) → ⊥
not_ok fault p e = cc

-- one thing was read, and then another
pub record Both (A B : Type 0) (r : Reading A) (more : A → List Word → Reading B) (p : B × List Word) : Type 0 where
  pub x : A
  pub words : List Word
  pub one : r ≡ Ok (x, words)
  pub other : more x words ≡ Ok p

pub both : {A B : Type 0} (r : Reading A) (more : A → List Word → Reading B) (p : B × List Word) → and_then r more ≡ Ok p → Both A B r more p
both (Err fault) more p e = absurd (not_ok fault p e)
both (Ok (x, words)) more p e = record { x = x; words = words; one = refl; other = e }

pub same_first : {A : Type 0} (x y : A) (v w : List Word) → ◌≡◌ {A = Reading A} (Ok (x, v)) (Ok (y, w)) → x ≡ y
same_first {A} x y v w e = (let h : ◌≡◌ {A = A × List Word} (x, v) (y, w) = cc in ap (λ (p : A × List Word). p.0) h)

-- ---- registers and cells

found_is : {A : Type 0} (fault : Fault) (o : Option A) (words : List Word) (x : A) (rest : List Word) → found fault o words ≡ Ok (x, rest) → o ≡ Some x
found_is fault None words x rest e = absurd (not_ok fault (x, rest) e)
found_is fault (Some y) words x rest e = ap Some (same_first y x words rest e)

short_by : (b : Bool) (d r : ℕ) → (b ≡ true → d - 48 < 16) → cond b (Some (d - 48)) None ≡ Some r → r < 16
short_by true d r h e = (let i : d - 48 ≡ r = cc in omega (arith, i, h refl))
short_by false d r h e = absurd (let i : ◌≡◌ {A = Option ℕ} None (Some r) = e in cc)

long_by : (b : Bool) (d r : ℕ) → (b ≡ true → 10 + (d - 48) < 16) → cond b (Some (10 + (d - 48))) None ≡ Some r → r < 16
long_by true d r h e = (let i : 10 + (d - 48) ≡ r = cc in omega (arith, i, h refl))
long_by false d r h e = absurd (let i : ◌≡◌ {A = Option ℕ} None (Some r) = e in cc)

no_register : (r : ℕ) → ◌≡◌ {A = Option ℕ} None (Some r) → r < 16
no_register r e = absurd cc

register_small : (word : Word) (r : ℕ) → register_of word ≡ Some r → r < 16
register_small [] r e = no_register r e
register_small (a ∷ []) r e = no_register r e
register_small (a ∷ d ∷ []) r e = short_by ((a == 114) && is_ascii_digit d) d r (λ h. grind (arith, nat_tests, h)) e
register_small (a ∷ t ∷ d ∷ []) r e = long_by ((a == 114) && ((t == 49) && (nat_le 48 d && nat_le d 53))) d r (λ h. grind (arith, nat_tests, h)) e
register_small (a ∷ t ∷ d ∷ b ∷ word) r e = no_register r e

register_within : (words rest : List Word) (r : ℕ) → register_in words ≡ Ok (r, rest) → nat_lt r 16 ≡ true
register_within words rest r e =
    let b = both (word_in words) (λ word. found Register (register_of word)) (r, rest) e in
    let small = register_small b.x r (found_is Register (register_of b.x) b.words r rest b.other) in
    grind (arith, nat_tests)

within_by : (b : Bool) (n c : ℕ) (words rest : List Word) → ◌≡◌ {A = Reading ℕ} (cond {A = Reading ℕ} b (Ok (n, words)) (Err CellRange)) (Ok (c, rest)) → (b ≡ true) × (n ≡ c)
within_by true n c words rest e = (refl, same_first n c words rest e)
within_by false n c words rest e = absurd (not_ok CellRange (c, rest) e)

cell_by_within : (cells : ℕ) (z : ℤ) (words rest : List Word) (c : ℕ) → cell_by cells z words ≡ Ok (c, rest) → nat_lt c cells ≡ true
cell_by_within cells (ℤ.pos n) words rest c e =
    let p = within_by (nat_lt n cells) n c words rest e in
    ap (λ m. nat_lt m cells) (sym p.1) ∙ p.0
cell_by_within cells (ℤ.negsuc n) words rest c e = absurd (not_ok CellRange (c, rest) e)

cell_within : (cells : ℕ) (words rest : List Word) (c : ℕ) → cell_in cells words ≡ Ok (c, rest) → nat_lt c cells ≡ true
cell_within cells words rest c e =
    let b = both (number_in words) (cell_by cells) (c, rest) e in
    cell_by_within cells b.x b.words rest c b.other

-- ---- lists

nothing_more : {A : Type 0} (xs : List A) (words rest : List Word) → ◌≡◌ {A = Reading (List A)} (Ok ([], words)) (Ok (xs, rest)) → xs ≡ []
nothing_more xs words rest e = sym (same_first [] xs words rest e)

-- each that was read passes, and there are no more than so many
record Passes (A : Type 0) (p : A → Bool) (room : ℕ) (xs : List A) : Type 0 where
  few : length xs ≤ room
  all : list_all p xs ≡ true

none_passes : {A : Type 0} (p : A → Bool) (room : ℕ) (xs : List A) → xs ≡ [] → Passes A p room xs
none_passes p room xs e = record { few = rw e (omega arith); all = rw e refl }

one_passes : {A : Type 0} (p : A → Bool) (room : ℕ) (x : A) (ys xs : List A) → p x ≡ true → Passes A p room ys → x ∷ ys ≡ xs → Passes A p (suc room) xs
one_passes p room x ys xs h k e = record { few = rw (← e) (omega (arith, k.few)); all = rw (← e) (and_from (p x) (list_all p ys) h k.all) }

too_many_by : {A : Type 0} (p : A → Bool) (b : Bool) (r : Reading A) (words rest : List Word) (xs : List A) →
    cond b (Ok ([], words)) (and_then r (λ x words. Err TooLarge)) ≡ Ok (xs, rest) → Passes A p 0 xs
too_many_by p true r words rest xs e = none_passes p 0 xs (nothing_more xs words rest e)
too_many_by p false (Err fault) words rest xs e = absurd (not_ok fault (xs, rest) e)
too_many_by p false (Ok (x, ws)) words rest xs e = absurd (not_ok TooLarge (xs, rest) e)

more_by : {A : Type 0} (p : A → Bool) (one : List Word → Reading A) → ((words rest : List Word) (x : A) → one words ≡ Ok (x, rest) → p x ≡ true) →
    (room : ℕ) (b : Bool) (words rest : List Word) (xs : List A) (list : List Word → Reading (List A)) →
    ((words rest : List Word) (ys : List A) → list words ≡ Ok (ys, rest) → Passes A p room ys) →
    cond b (Ok ([], words)) (and_then (one words) (λ x words. and_then (list words) (λ ys words. Ok (x ∷ ys, words)))) ≡ Ok (xs, rest) → Passes A p (suc room) xs
more_by p one h room true words rest xs list on e = none_passes p (suc room) xs (nothing_more xs words rest e)
more_by p one h room false words rest xs list on e =
    let b = both (one words) (λ x words. and_then (list words) (λ ys words. Ok (x ∷ ys, words))) (xs, rest) e in
    let c = both (list b.words) (λ ys words. Ok (b.x ∷ ys, words)) (xs, rest) b.other in
    one_passes p room b.x c.x xs (h words b.words b.x b.one) (on b.words c.words c.x c.one) (same_first (b.x ∷ c.x) xs c.words rest c.other)

all_pass : {A : Type 0} (p : A → Bool) (stops : List Word → Bool) (one : List Word → Reading A) → ((words rest : List Word) (x : A) → one words ≡ Ok (x, rest) → p x ≡ true) →
    (room : ℕ) (words rest : List Word) (xs : List A) → listed stops one room words ≡ Ok (xs, rest) → Passes A p room xs
unfolding listed
all_pass p stops one h zero words rest xs e = too_many_by p (stops words) (one words) words rest xs e
all_pass p stops one h (suc room) words rest xs e = more_by p one h room (stops words) words rest xs (listed stops one room) (all_pass p stops one h room) e

-- ---- items

place_by : (cells : ℕ) (b : Bool) (kind : Kind) (words behind rest : List Word) (place : Place) →
    ◌≡◌ {A = Reading Place} (cond {A = Reading Place} b (cond {A = Reading Place} (allows_all kind) (Ok (All, behind)) (Err DependType)) (and_then (cell_in cells words) (λ c words. Ok (Cell c, words)))) (Ok (place, rest)) → is_place cells place ≡ true
place_by cells true kind words behind rest place e = all_by (allows_all kind) e
  where
    all_by : (b : Bool) → ◌≡◌ {A = Reading Place} (cond {A = Reading Place} b (Ok (All, behind)) (Err DependType)) (Ok (place, rest)) → is_place cells place ≡ true
    all_by true e = ap (is_place cells) (sym (same_first All place behind rest e))
    all_by false e = absurd (not_ok DependType (place, rest) e)
place_by cells false kind words behind rest place e =
    let b = both (cell_in cells words) (λ c words. Ok (Cell c, words)) (place, rest) e in
    ap (is_place cells) (sym (same_first (Cell b.x) place b.words rest b.other)) ∙ cell_within cells words b.words b.x b.one

item_placed : (on_wait : Bool) (cells : ℕ) (words rest : List Word) (item : Item) → item_in on_wait cells words ≡ Ok (item, rest) → is_placed cells item ≡ true
item_placed on_wait cells words rest item e =
    let b = both (type_in on_wait words) (λ kind words. and_then (place_in cells kind words) (λ place words. Ok (record { kind = kind; place = place }, words))) (item, rest) e in
    let c = both (place_in cells b.x b.words) (λ place words. Ok (record { kind = b.x; place = place }, words)) (item, rest) b.other in
    ap (is_placed cells) (sym (same_first (record { kind = b.x; place = c.x }) item c.words rest c.other))
    ∙ place_by cells (begins (codes "all") b.words) b.x b.words (drop 1 b.words) c.words c.x c.one

items_placed : (on_wait : Bool) (cells room : ℕ) (words rest : List Word) (items : List Item) → items_in on_wait cells room words ≡ Ok (items, rest) → list_all (is_placed cells) items ≡ true
items_placed on_wait cells room words rest items e =
    (all_pass (is_placed cells) (λ words. not (begins (codes "depend") words)) (λ words. item_in on_wait cells (drop 1 words))
    (λ words rest item h. item_placed on_wait cells (drop 1 words) rest item h) room words rest items e).all

args_few : (room : ℕ) (words rest : List Word) (args : List ℤ) → args_in room words ≡ Ok (args, rest) → length args ≤ room
args_few room words rest args e = (all_pass (λ x. true) ends_args number_in (λ words rest x h. refl) room words rest args e).few

-- ---- actions

allowed_by : (cells : ℕ) (a b : Action) (v w : List Word) → ◌≡◌ {A = Reading Action} (Ok (a, v)) (Ok (b, w)) → names_allowed cells a ≡ true → names_allowed cells b ≡ true
allowed_by cells a b v w e h = ap (names_allowed cells) (sym (same_first a b v w e)) ∙ h

module _ (cells : ℕ) (words rest : List Word) (a : Action) where
  let_allowed : let_in words ≡ Ok (a, rest) → names_allowed cells a ≡ true
  let_allowed e =
      let r = both (register_in words) (λ r words. and_then (number_in words) (λ x words. Ok (Let r x, words))) (a, rest) e in
      let x = both (number_in r.words) (λ x words. Ok (Let r.x x, words)) (a, rest) r.other in
      allowed_by cells (Let r.x x.x) a x.words rest x.other (register_within words r.words r.x r.one)

  load_allowed : load_in cells words ≡ Ok (a, rest) → names_allowed cells a ≡ true
  load_allowed e =
      let r = both (register_in words) (λ r words. and_then (cell_in cells words) (λ c words. and_then (number_in words) (λ x words. Ok (Load r c x, words)))) (a, rest) e in
      let c = both (cell_in cells r.words) (λ c words. and_then (number_in words) (λ x words. Ok (Load r.x c x, words))) (a, rest) r.other in
      let x = both (number_in c.words) (λ x words. Ok (Load r.x c.x x, words)) (a, rest) c.other in
      allowed_by cells (Load r.x c.x x.x) a x.words rest x.other
      (and_from (nat_lt r.x 16) (nat_lt c.x cells) (register_within words r.words r.x r.one) (cell_within cells r.words c.words c.x c.one))

  store_allowed : store_in cells words ≡ Ok (a, rest) → names_allowed cells a ≡ true
  store_allowed e =
      let c = both (cell_in cells words) (λ c words. and_then (number_in words) (λ x words. Ok (Store c x, words))) (a, rest) e in
      let x = both (number_in c.words) (λ x words. Ok (Store c.x x, words)) (a, rest) c.other in
      allowed_by cells (Store c.x x.x) a x.words rest x.other (cell_within cells words c.words c.x c.one)

  print_allowed : print_in words ≡ Ok (a, rest) → names_allowed cells a ≡ true
  print_allowed e =
      let x = both (number_in words) (λ x words. Ok (Print x, words)) (a, rest) e in
      allowed_by cells (Print x.x) a x.words rest x.other refl

  wait_allowed : wait_in cells words ≡ Ok (a, rest) → names_allowed cells a ≡ true
  wait_allowed e =
      let i = both (items_in true cells 64 words) (λ items words. Ok (Wait items, words)) (a, rest) e in
      allowed_by cells (Wait i.x) a i.words rest i.other (items_placed true cells 64 words i.words i.x i.one)

  test_allowed : test_in words ≡ Ok (a, rest) → names_allowed cells a ≡ true
  test_allowed e =
      let w = both (word_in words) test_by (a, rest) e in
      yes_by w.words (same_word w.x (codes "yes")) (same_word w.x (codes "no")) w.other
    where
      yes_by : (ws : List Word) (y n : Bool) → ◌≡◌ {A = Reading Action} (cond {A = Reading Action} y (Ok (Test true, ws)) (cond {A = Reading Action} n (Ok (Test false, ws)) (Err UnknownWord))) (Ok (a, rest)) → names_allowed cells a ≡ true
      yes_by ws true n e = allowed_by cells (Test true) a ws rest e refl
      yes_by ws false true e = allowed_by cells (Test false) a ws rest e refl
      yes_by ws false false e = absurd (not_ok UnknownWord (a, rest) e)

  spawn_allowed : spawn_in cells words ≡ Ok (a, rest) → names_allowed cells a ≡ true
  spawn_allowed e =
      let t = both (task_in words) (λ child words. and_then (body_in words) (λ body words. and_then (args_in 16 words) (λ args words.
      and_then (items_in false cells 64 words) (λ items words. spawn_of child args items words)))) (a, rest) e in
      let b = both (body_in t.words) (λ body words. and_then (args_in 16 words) (λ args words.
      and_then (items_in false cells 64 words) (λ items words. spawn_of t.x args items words))) (a, rest) t.other in
      let x = both (args_in 16 b.words) (λ args words. and_then (items_in false cells 64 words) (λ items words. spawn_of t.x args items words)) (a, rest) b.other in
      let i = both (items_in false cells 64 x.words) (λ items words. spawn_of t.x x.x items words) (a, rest) x.other in
      let few : nat_le (length x.x) 16 ≡ true = (let h = args_few 16 b.words x.words x.x x.one in grind (arith, nat_tests)) in
      allowed_by cells (Spawn (record { child = t.x; body = 0; args = x.x; items = i.x; deferred = not (begins (codes "undeferred") i.words) })) a
      (cond (begins (codes "undeferred") i.words) (drop 1 i.words) i.words) rest i.other
      (and_from (nat_le (length x.x) 16) (list_all (is_placed cells) i.x) few (items_placed false cells 64 x.words i.words i.x i.one))

  by_verb : (v : Verb) → action_by cells v words ≡ Ok (a, rest) → names_allowed cells a ≡ true
  by_verb verb.Start e = allowed_by cells Start a words rest e refl
  by_verb verb.Let e = let_allowed e
  by_verb verb.Load e = load_allowed e
  by_verb verb.Store e = store_allowed e
  by_verb verb.Print e = print_allowed e
  by_verb verb.Spawn e = spawn_allowed e
  by_verb verb.Wait e = wait_allowed e
  by_verb verb.Open e = allowed_by cells Open a words rest e refl
  by_verb verb.Close e = allowed_by cells Close a words rest e refl
  by_verb verb.Test e = test_allowed e
  by_verb verb.End e = allowed_by cells End a words rest e refl
  by_verb verb.Fault e = allowed_by cells Faulted a words rest e refl

pub action_allowed : (cells : ℕ) (words rest : List Word) (a : Action) → action_in cells words ≡ Ok (a, rest) → names_allowed cells a ≡ true
action_allowed cells words rest a e =
    let v = both (verb_in words) (action_by cells) (a, rest) e in
    by_verb cells v.words rest a v.x v.other
