-- Histories that say the same of every task and cell leave the same state, and go on alike.
use Rattle.std.proofs.Common.{◌≡◌, ℕ, length, map, ◌&&◌, not, refl, sym, ap, ap₂, ◌∙◌, Some}
use Rattle.tb_model.specs.declared.action.Action.{Action}
use Rattle.tb_model.specs.declared.action.Action.TheVariants.{Let, Load, Store}
use Rattle.tb_model.specs.Names.{Name, is_child}
use Rattle.tb_model.specs.Facts.{is_member, History, ends, holds}
use Rattle.tb_model.specs.Legal.{Cells, first_number, Legal}
use Rattle.tb_model.specs.State.{status_of, called_by, items_in, open_groups, is_member_of, is_unended}
use Rattle.tb_model.specs.Records.{args_in, register, register_of, replaced_by}
use Rattle.tb_model.specs.Alike.{Alike}
use Rattle.tb_model.specs.SameState.{SameState, GoOnAlike}
use Rattle.tb_model.specs.Program.{Program, config, situation}
use Rattle.tb_model.proofs.AlikeLemmas.{alike_sym, before_alike, apart_alike, spawned_alike, covers_alike, follows_alike}
use Rattle.tb_model.proofs.UndoLemmas.{needs_alike}
use Rattle.tb_model.proofs.ForProgramLemmas.{next_alike}
use Rattle.tb_model.proofs.StateLemmas.{items_of_spawn}

unended_alike : (u : Name) {G H : History} → Alike G H → is_unended G u ≡ is_unended H u
unended_alike u a = ap₂ (λ b c. b && not c) (spawned_alike u a) (a.any (ends u))

register_alike : (t : Name) (r : ℕ) {G H : History} → Alike G H → register_of t r G ≡ register_of t r H
register_alike t r a = ap₂ (λ o acts. register r (args_in o) acts) (a.spawn t) (a.acts t)

situation_alike : (P : Program) (t : Name) {G H : History} → Alike G H → situation P t G ≡ situation P t H
situation_alike P t a =
    ap₂ (λ o acts. config P (called_by P.root_line o).line (called_by P.root_line o).args acts) (a.spawn t) (a.acts t)

-- each part of the state is a function of what is alike
pub same_state : (cells : Cells) (G H : History) → Legal cells G → Legal cells H → Alike G H → SameState G H
same_state cells G H l m a = record {
  cells = a.number;
  output = a.prints;
  tasks = λ t. spawned_alike t a;
  called = λ root_line t. ap (called_by root_line) (a.spawn t);
  items = λ t. items_of_spawn cells G t l ∙ ap items_in (a.spawn t) ∙ sym (items_of_spawn cells H t m);
  status = λ t. ap status_of (a.acts t);
  steps = λ t. ap length (a.acts t);
  registers = λ t r. register_alike t r a;
  situation = λ P t. situation_alike P t a;
  before = λ u t. before_alike u t a;
  apart = λ u t. apart_alike u t a;
  groups = λ t. ap (λ acts. map (λ k. record { task = t; k = k }) (open_groups acts)) (a.acts t);
  children = λ t u. ap (λ b. is_child t u && b) (unended_alike u a);
  covered = λ t items u. ap₂ (λ b c. b && c) (covers_alike t items u a) (unended_alike u a);
  innermost = λ t n. ap₂ (λ b c. b && c) (ap (λ acts. is_member acts n) (a.acts t)) (unended_alike n a);
  members = λ t k n. ap₂ (λ b c. b && c) (ap (λ acts. is_member_of k acts n) (a.acts t)) (unended_alike n a);
  undeferred = λ t u. ap₂ (λ b c. b && not c) (ap (λ acts. holds acts u) (a.acts t)) (a.any (ends u));
}

replaced_alike : (cells : Cells) (t : Name) (x : Action) {G H : History} → Alike G H → replaced_by cells G (record { task = t; action = x }) ≡ replaced_by cells H (record { task = t; action = x })
replaced_alike cells t (Store c x) a = ap Some (a.number (first_number cells c) c)
replaced_alike cells t (Let r x) a = ap Some (register_alike t r a)
replaced_alike cells t (Load r c x) a = ap Some (register_alike t r a)
replaced_alike cells t _ a = refl

-- alike histories go on alike
pub go_on_alike : (G H : History) → Alike G H → GoOnAlike G H
go_on_alike G H a = record {
  may = λ cells v. (follows_alike cells a v, follows_alike cells (alike_sym a) v);
  next = λ P v. (next_alike P a v, next_alike P (alike_sym a) v);
  needs = λ v u. needs_alike a v u;
  replaced = λ cells v. replaced_alike cells v.task v.action a;
}
