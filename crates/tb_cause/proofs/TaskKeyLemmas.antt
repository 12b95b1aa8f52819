-- Whether there is a key of a stored step's task, known from one stored step to the next.
use Rattle.std.proofs.Common.{◌≡◌, ◌<◌, ◌+◌, ◌-◌, ℕ, List, Bool, true, false, ◌||◌, get_or, length, refl, sym, ap, ◌∙◌, subst, arith}
use Rattle.std.proofs.lemmas.Bool.{or_left}
use Rattle.tb_model.specs.declared.item.Item.{Item as AnItem}
use Rattle.tb_model.specs.Names.{Name, same_name}
use Rattle.tb_model.specs.Facts.{History, is_of}
use Rattle.tb_model.proofs.TestLemmas.{same_refl, same_true}
use Rattle.tb_steps.specs.Entries.{Entry}
use Rattle.tb_cause.specs.Asked.{asks, same_key}
use Rattle.tb_cause.specs.Keys.{Key, Task, Ended, Parent, Within, Item, Stored, Touched, Printed, IsOfTask, gives, own_key}
use Rattle.tb_steps.proofs.FirstLemmas.{there}

-- two stored steps of one task
pub of_same_task : (entries : List Entry) (p q : ℕ) (f : Key → Bool) (b : Bool) → p < length entries → IsOfTask entries p f b
    → ((e d : Entry) → e ≡ get_or entries q e → d ≡ get_or entries p d → is_of e.event.task d.event ≡ true) → IsOfTask entries q f b
of_same_task entries p q f b within of same e is =
    let w = there entries p within in
    of w.0 w.1 ∙ ap (λ t. f (Task t)) (same_true w.0.event.task e.event.task (same e w.0 is w.1))

-- what is known to be there needn't be put there
pub own_known : (t : Name) (f : Key → Bool) → f (Task t) ≡ true → (k : Key) → f k ≡ (own_key t k || f k)
own_known t f known (Task s) = by (same_name t s) refl
  where
    by : (b : Bool) → same_name t s ≡ b → f (Task s) ≡ (b || f (Task s))
    by true same = ap (λ u. f (Task u)) (sym (same_true t s same)) ∙ known
    by false same = refl
own_known t f known (Ended s) = refl
own_known t f known (Parent s) = refl
own_known t f known (Within s) = refl
own_known t f known (Item s n c) = refl
own_known t f known (Stored c) = refl
own_known t f known (Touched c) = refl
own_known t f known Printed = refl

own_is_key : (t : Name) (k : Key) → own_key t k ≡ same_key (Task t) k
own_is_key t (Task s) = refl
own_is_key t (Ended s) = refl
own_is_key t (Parent s) = refl
own_is_key t (Within s) = refl
own_is_key t (Item s n c) = refl
own_is_key t (Stored c) = refl
own_is_key t (Touched c) = refl
own_is_key t Printed = refl

pub key_known : (t : Name) (f : Key → Bool) → f (Task t) ≡ true → (k : Key) → f k ≡ (same_key (Task t) k || f k)
key_known t f known k = own_known t f known k ∙ ap (λ b. b || f k) (own_is_key t k)

-- a stored step that gives its keys gives that of its task
pub of_given : (entries : List Entry) (p : ℕ) (I : Name → List AnItem) (f f' : Key → Bool) → ((k : Key) (e : Entry) → e ≡ get_or entries p e → f' k ≡ (gives I e.event k || f k)) → IsOfTask entries p f' true
of_given entries p I f f' keys e is =
    let k = Task e.event.task in
    sym (keys k e is ∙ or_left (gives I e.event k) (f k) (or_left (own_key e.event.task k) _ (same_refl e.event.task)))

-- a stored step that asks for its keys asks for that of its task
pub of_asked : (entries : List Entry) (p : ℕ) (I : Name → List AnItem) (H : History) (f f' : Key → Bool) → ((k : Key) (e : Entry) → e ≡ get_or entries p e → f' k ≡ (asks I H e.event k || f k)) → IsOfTask entries p f' true
of_asked entries p I H f f' keys e is =
    let k = Task e.event.task in
    sym (keys k e is ∙ or_left (asks I H e.event k) (f k) (or_left (same_key k k) _ (same_refl e.event.task)))

-- a key that is there stays there
pub known_at : (entries : List Entry) (p : ℕ) (f : Key → Bool) (b : Bool) → IsOfTask entries p f b → b ≡ true → IsOfTask entries p f true
known_at entries p f b of h e is = sym h ∙ of e is

-- whether there is a key of the task is known of the stored step in front of the next
pub placed_on : (entries : List Entry) (p : ℕ) (f : Key → Bool) (b : Bool) → IsOfTask entries p f b → IsOfTask entries ((p + 1) - 1) f b
placed_on entries p f b = subst (λ n. IsOfTask entries n f b) (omega arith)
