-- The rules of a legal history as tests, which ask of the root and of each task that the history generates.
use Rattle.std.specs.Prelude.{ℕ, suc, List, [], ◌∷◌, Bool, true, false, ◌&&◌, ◌||◌, not, ◌==◌, nat_lt, nat_le, length}
use Rattle.std.specs.List.{list_any, list_all}
use Rattle.std.specs.Ordering.{int_eq}
use Rattle.tb_model.specs.declared.place.Place.{Place}
use Rattle.tb_model.specs.declared.place.Place.TheVariants.{Cell, All}
use Rattle.tb_model.specs.declared.item.Item.{Item}
use Rattle.tb_model.specs.declared.action.Action.{Action}
use Rattle.tb_model.specs.declared.action.Action.TheVariants.{Start, Let, Load, Store, Print, Spawn, Wait, Open, Close, Test, End, Fault}
use Rattle.tb_model.specs.declared.event.Event.{Event}
use Rattle.tb_model.specs.Names.{Name, is_child}
use Rattle.tb_model.specs.Facts.{History, own, last, before, apart, covers, groups, is_member, is_spawned, is_end, starts, ends}
use Rattle.tb_model.specs.State.{with_child, is_unended}
use Rattle.tb_model.specs.Legal.{Cells, first_number, spawn_count}

-- ---- what the task's own actions allow

abbrev pub is_empty : {A : Type 0} → List A → Bool
is_empty [] = true
is_empty (x ∷ xs) = false

abbrev pub is_running : List Action → Bool
is_running [] = false
is_running (a ∷ acts) = not (is_end a)

abbrev pub is_place : Cells → Place → Bool
is_place cells (Cell c) = nat_lt c (length cells)
is_place cells All = true

abbrev pub are_places : Cells → List Item → Bool
are_places cells items = list_all (λ i. is_place cells i.place) items

-- the ordinal after k
abbrev pub is_behind : Name → ℕ → Bool
is_behind [] k = false
is_behind (n ∷ t) k = n == suc k

abbrev pub continues : Cells → Name → List Action → Action → Bool
continues cells t acts Start = is_empty acts
continues cells t acts (Let r x) = is_running acts && nat_lt r 16
continues cells t acts (Load r c x) = is_running acts && (nat_lt r 16 && nat_lt c (length cells))
continues cells t acts (Store c x) = is_running acts && nat_lt c (length cells)
continues cells t acts (Print x) = is_running acts
continues cells t acts (Spawn s) =
    is_running acts && ((is_child t s.child && is_behind s.child (spawn_count acts)) && (nat_le (length s.args) 16 && are_places cells s.items))
continues cells t acts (Wait items) = is_running acts && are_places cells items
continues cells t acts Open = is_running acts
continues cells t acts Close = is_running acts && not (is_empty (groups acts))
continues cells t acts (Test answer) = is_running acts
continues cells t acts End = is_running acts
continues cells t acts Fault = is_running acts

-- ---- what the other tasks allow

-- the tasks that the history generates, and the root
abbrev pub everyone : History → List Name
everyone [] = [] ∷ []
everyone (v ∷ H) = with_child v.action (everyone H)

abbrev pub has_ended : History → Name → Bool
has_ended H u = list_any (ends u) H

-- u, where it is before t, has ended
abbrev pub is_past : History → Name → Name → Bool
is_past H t u = not (before H u t) || has_ended H u

-- u, where it excludes t, isn't under way
abbrev pub is_aside : History → Name → Name → Bool
is_aside H t u = not (apart H u t) || (not (list_any (starts u) H) || has_ended H u)

-- u, where the wait covers it, has ended
abbrev pub is_awaited : History → Name → List Item → Name → Bool
is_awaited H t items u = not (covers H t items u) || not (is_unended H u)

-- m, where it is a member of the group, has ended
abbrev pub is_left : History → List Action → Name → Bool
is_left H acts m = not (is_member acts m) || not (is_unended H m)

abbrev pub may_start : History → Name → Bool
may_start H t = is_spawned H t && (list_all (is_past H t) (everyone H) && list_all (is_aside H t) (everyone H))

abbrev pub is_timely : Cells → History → Name → Action → Bool
is_timely cells H t Start = may_start H t
is_timely cells H t (Load r c x) = int_eq x (last (first_number cells c) c H)
is_timely cells H t (Wait items) = list_all (is_awaited H t items) (everyone H)
is_timely cells H t Close = list_all (is_left H (own t H)) (everyone H)
is_timely cells H t _ = true

-- the undeferred child that the newest action generated has ended
abbrev pub is_resumed : History → List Action → Bool
is_resumed H (Spawn s ∷ acts) = s.deferred || has_ended H s.child
is_resumed H _ = true

abbrev pub may_follow : Cells → History → Event → Bool
may_follow cells H v =
    continues cells v.task (own v.task H) v.action
    && (is_resumed H (own v.task H) && is_timely cells H v.task v.action)

abbrev pub is_legal : Cells → History → Bool
is_legal cells [] = true
is_legal cells (v ∷ H) = is_legal cells H && may_follow cells H v
