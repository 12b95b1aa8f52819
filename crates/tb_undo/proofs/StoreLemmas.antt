-- Cells, output and registers after a step, and in front of it again.
use Rattle.std.proofs.Common.{◌≡◌, ◌<◌, ◌-◌, ℕ, List, [], ◌∷◌, ◌++◌, Bool, true, false, ◌==◌, cond, length, refl, sym, ap, ◌∙◌, subst, ℤ, arith, Option, Some, reverse, take, set, get_or, eq-eqb, eqb-true}
use Rattle.std.proofs.lemmas.Bool.{both_ways}
use Rattle.std.proofs.lemmas.List.{length-set, get_or-set_same, get_or-set_other, reverse-append, length-append, set-get_or}
use Rattle.std.proofs.Math.Seq.{take-append_seam, set-set}
use Rattle.tb_model.specs.declared.action.Action.{Action}
use Rattle.tb_model.specs.declared.action.Action.TheVariants.{Start, Let, Load, Store, Print, Spawn, Wait, Open, Close, Test, End, Fault}
use Rattle.tb_model.specs.Names.{Name}
use Rattle.tb_model.specs.Facts.{History, own, last}
use Rattle.tb_model.specs.Legal.{Cells, first_number, Continues}
use Rattle.tb_model.specs.State.{printed, spawn_of}
use Rattle.tb_model.specs.Records.{replaced_by, register, args_in}
use Rattle.tb_model.specs.Program.{Program, zero_ℤ, config}
use Rattle.tb_model.proofs.LinesLemmas as lines
use Rattle.tb_store.specs.Contents.{number_at, with_number}
use Rattle.tb_undo.specs.Tasks.{written, registers_back}
use Rattle.tb_undo.specs.State.{AreLast, registers}
use Rattle.tb_undo.specs.Changes.{cells_by, output_by, cells_back, output_back, number_over}

-- the registers that are stored are those of the definitions
nowhere : Program
nowhere = record { cells = []; bodies = []; lines = []; root_line = 0 }

pub registers_config : (P : Program) (line : ℕ) (args : List ℤ) (acts : List Action) → registers args acts ≡ (config P line args acts).regs
registers_config P line args [] = refl
registers_config P line args (Let r x ∷ acts) = ap (λ regs. set regs r x) (registers_config P line args acts)
registers_config P line args (Load r c x ∷ acts) = ap (λ regs. set regs r x) (registers_config P line args acts)
registers_config P line args (Test true ∷ acts) = registers_config P line args acts
registers_config P line args (Test false ∷ acts) = registers_config P line args acts
registers_config P line args (Start ∷ acts) = registers_config P line args acts
registers_config P line args (Store c x ∷ acts) = registers_config P line args acts
registers_config P line args (Print x ∷ acts) = registers_config P line args acts
registers_config P line args (Spawn s ∷ acts) = registers_config P line args acts
registers_config P line args (Wait items ∷ acts) = registers_config P line args acts
registers_config P line args (Open ∷ acts) = registers_config P line args acts
registers_config P line args (Close ∷ acts) = registers_config P line args acts
registers_config P line args (End ∷ acts) = registers_config P line args acts
registers_config P line args (Fault ∷ acts) = registers_config P line args acts

pub register_kept : (args : List ℤ) (acts : List Action) (r : ℕ) → r < 16 → get_or (registers args acts) r zero_ℤ ≡ register r args acts
register_kept args acts r b = ap (λ regs. get_or regs r zero_ℤ) (registers_config nowhere 0 args acts) ∙ lines.registers nowhere 0 args acts r b

pub cells_more : (first : Cells) (H : History) (t : Name) (a : Action) (cells : List ℤ) → AreLast first H cells → AreLast first (record { task = t; action = a } ∷ H) (cells_by a cells)
cells_more first H t (Store d x) cells l = record {
  count = length-set cells d x ∙ l.count;
  number = λ c b. at c b (c == d) refl;
}
  where
    at : (c : ℕ) → c < length first → (b : Bool) → (c == d) ≡ b → number_at (set cells d x) c ≡ cond (c == d) x (last (first_number first c) c H)
    at c b true e =
        let q = eqb-true c d e in
        ap (λ k. get_or (set cells d x) k zero_ℤ) q ∙ get_or-set_same cells d x zero_ℤ (omega (arith, q, b, l.count)) ∙ sym (ap (λ t. cond t x (last (first_number first c) c H)) e)
    at c b false e =
        get_or-set_other cells d c x zero_ℤ (λ q. both_ways (c == d) e (eq-eqb c d q)) ∙ l.number c b ∙ sym (ap (λ t. cond t x (last (first_number first c) c H)) e)
cells_more first H t Start cells l = record { count = l.count; number = l.number }
cells_more first H t (Let r x) cells l = record { count = l.count; number = l.number }
cells_more first H t (Load r c x) cells l = record { count = l.count; number = l.number }
cells_more first H t (Print x) cells l = record { count = l.count; number = l.number }
cells_more first H t (Spawn s) cells l = record { count = l.count; number = l.number }
cells_more first H t (Wait items) cells l = record { count = l.count; number = l.number }
cells_more first H t Open cells l = record { count = l.count; number = l.number }
cells_more first H t Close cells l = record { count = l.count; number = l.number }
cells_more first H t (Test b) cells l = record { count = l.count; number = l.number }
cells_more first H t End cells l = record { count = l.count; number = l.number }
cells_more first H t Fault cells l = record { count = l.count; number = l.number }

pub output_more : (H : History) (t : Name) (a : Action) → output_by a (reverse (printed H)) ≡ reverse (printed (record { task = t; action = a } ∷ H))
output_more H t (Print x) = sym (reverse-append (x ∷ []) (printed H))
output_more H t Start = refl
output_more H t (Let r x) = refl
output_more H t (Load r c x) = refl
output_more H t (Store c x) = refl
output_more H t (Spawn s) = refl
output_more H t (Wait items) = refl
output_more H t Open = refl
output_more H t Close = refl
output_more H t (Test b) = refl
output_more H t End = refl
output_more H t Fault = refl

-- ---- and back

pub cells_less : (first : Cells) (H : History) (t : Name) (a : Action) (number : Option ℤ) (cells : List ℤ) → AreLast first (record { task = t; action = a } ∷ H) cells → number ≡ replaced_by first H (record { task = t; action = a }) → AreLast first H (cells_back a number cells)
cells_less first H t (Store d x) number cells l e =
    subst (λ o. AreLast first H (with_number cells d o)) (sym e) (record {
      count = length-set cells d (last (first_number first d) d H) ∙ l.count;
      number = λ c b. at c b (c == d) refl;
    })
  where
    y : ℤ
    y = last (first_number first d) d H

    at : (c : ℕ) → c < length first → (b : Bool) → (c == d) ≡ b → number_at (set cells d y) c ≡ last (first_number first c) c H
    at c b true q =
        let same = eqb-true c d q in
        ap (λ k. get_or (set cells d y) k zero_ℤ) same ∙ get_or-set_same cells d y zero_ℤ (omega (arith, same, b, l.count)) ∙ ap (λ k. last (first_number first k) k H) (sym same)
    at c b false q =
        get_or-set_other cells d c y zero_ℤ (λ z. both_ways (c == d) q (eq-eqb c d z)) ∙ l.number c b ∙ ap (λ t. cond t x (last (first_number first c) c H)) q
cells_less first H t Start number cells l e = record { count = l.count; number = l.number }
cells_less first H t (Let r x) number cells l e = record { count = l.count; number = l.number }
cells_less first H t (Load r c x) number cells l e = record { count = l.count; number = l.number }
cells_less first H t (Print x) number cells l e = record { count = l.count; number = l.number }
cells_less first H t (Spawn s) number cells l e = record { count = l.count; number = l.number }
cells_less first H t (Wait items) number cells l e = record { count = l.count; number = l.number }
cells_less first H t Open number cells l e = record { count = l.count; number = l.number }
cells_less first H t Close number cells l e = record { count = l.count; number = l.number }
cells_less first H t (Test b) number cells l e = record { count = l.count; number = l.number }
cells_less first H t End number cells l e = record { count = l.count; number = l.number }
cells_less first H t Fault number cells l e = record { count = l.count; number = l.number }

pub output_less : (H : History) (t : Name) (a : Action) → output_back a (reverse (printed (record { task = t; action = a } ∷ H))) ≡ reverse (printed H)
output_less H t (Print x) =
    let all = reverse-append (x ∷ []) (printed H) in
    let front = reverse (printed H) in
    ap (λ out. take (length out - 1) out) all ∙ ap (λ n. take n (front ++ x ∷ [])) (omega (arith, length-append front (x ∷ []))) ∙ take-append_seam front (x ∷ [])
output_less H t Start = refl
output_less H t (Let r x) = refl
output_less H t (Load r c x) = refl
output_less H t (Store c x) = refl
output_less H t (Spawn s) = refl
output_less H t (Wait items) = refl
output_less H t Open = refl
output_less H t Close = refl
output_less H t (Test b) = refl
output_less H t End = refl
output_less H t Fault = refl

-- the old value in place of the new one
number_back : (regs : List ℤ) (r : ℕ) (x : ℤ) (number : Option ℤ) → number ≡ Some (get_or regs r zero_ℤ) → with_number (set regs r x) r number ≡ regs
number_back regs r x number e = ap (with_number (set regs r x) r) e ∙ set-set regs r x (get_or regs r zero_ℤ) ∙ set-get_or regs r zero_ℤ

-- what a step replaces in its task's registers and in the cells
pub number_right : (first : Cells) (H : History) (t : Name) (a : Action) (cells : List ℤ) → Continues first t (own t H) a → AreLast first H cells
    → number_over a cells (registers (args_in (spawn_of t H)) (own t H)) ≡ replaced_by first H (record { task = t; action = a })
number_right first H t (Let r x) cells k l = ap Some (register_kept (args_in (spawn_of t H)) (own t H) r k.1)
number_right first H t (Load r c x) cells k l = ap Some (register_kept (args_in (spawn_of t H)) (own t H) r k.1)
number_right first H t (Store c x) cells k l = ap Some (l.number c k.1)
number_right first H t Start cells k l = refl
number_right first H t (Print x) cells k l = refl
number_right first H t (Spawn s) cells k l = refl
number_right first H t (Wait items) cells k l = refl
number_right first H t Open cells k l = refl
number_right first H t Close cells k l = refl
number_right first H t (Test b) cells k l = refl
number_right first H t End cells k l = refl
number_right first H t Fault cells k l = refl

-- the registers have their old values again
pub registers_less : (first : Cells) (H : History) (t : Name) (a : Action) (number : Option ℤ) → Continues first t (own t H) a → number ≡ replaced_by first H (record { task = t; action = a })
    → registers_back a number (written a (registers (args_in (spawn_of t H)) (own t H))) ≡ registers (args_in (spawn_of t H)) (own t H)
registers_less first H t (Let r x) number k e =
    number_back (registers (args_in (spawn_of t H)) (own t H)) r x number (e ∙ ap Some (sym (register_kept (args_in (spawn_of t H)) (own t H) r k.1)))
registers_less first H t (Load r c x) number k e =
    number_back (registers (args_in (spawn_of t H)) (own t H)) r x number (e ∙ ap Some (sym (register_kept (args_in (spawn_of t H)) (own t H) r k.1)))
registers_less first H t Start number k e = refl
registers_less first H t (Store c x) number k e = refl
registers_less first H t (Print x) number k e = refl
registers_less first H t (Spawn s) number k e = refl
registers_less first H t (Wait items) number k e = refl
registers_less first H t Open number k e = refl
registers_less first H t Close number k e = refl
registers_less first H t (Test b) number k e = refl
registers_less first H t End number k e = refl
registers_less first H t Fault number k e = refl
