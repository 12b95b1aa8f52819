use Rattle.std.proofs.Common.{◌≡◌, refl, ap, ◌∙◌, arith, length, Some}
use Rattle.std.specs.List.{zip}
use Rattle.tb_wait.specs.Kin.{fresh, kin_in}
use Rattle.tb_wait.specs.Rows.{key}
use Rattle.tb_wait.specs.Tree.{node}
use Rattle.tb_wait.proofs.WaitLemmas.{absent_slot, child_room_here}
use Rattle.tb_wait.proofs.SpawnLemmas.{number_is, next_is_absent, adds_child, adds_names, adds_fits, adds_after, same_before, names_more, next_here}
use Rattle.tb_wait.proofs.wait.Wait.enter_new.Goals as goal

pub make_place-requires-clause-next : goal.make_place-requires-clause-next
make_place-requires-clause-next c =
    next_here c.args.self.now c.self.inside.names.keys c.self.inside.rows.items c.self.inside.tree.nodes c.self.inside.room c.self.view_is c.self.invariant.0 c.args.parent.now c.args.child c.in-Some.owner c.in-Some.ensures.index c.requires.next

pub make_place-requires-clause-child_room : goal.make_place-requires-clause-child_room
make_place-requires-clause-child_room c =
    child_room_here c.args.self.now c.self.inside.names.keys c.self.inside.rows.items c.self.inside.tree.nodes c.self.inside.room c.self.view_is c.self.invariant.0 c.args.parent.now c.in-Some.owner c.in-Some.ensures.index c.requires.child_room

pub enter-requires-clause-absent : goal.enter-requires-clause-absent
enter-requires-clause-absent c =
    let same = same_before c.args.self.now c.self.inside.names.keys c.self.inside.rows.items c.self.inside.tree.nodes c.self.inside.room c.self.view_is c.self.invariant.0 (zip c.make_place.new.names.keys c.make_place.new.rows.items) c.make_place.ensures.same in
    let at_is : c.len-at.result ≡ length c.self.inside.names.keys = omega (arith, c.len-at.ensures, c.self.inside.rows.ok, c.self.invariant.0.slots_len) in
    next_is_absent (record { tasks = zip c.make_place.new.names.keys c.make_place.new.rows.items; room = c.self.inside.room }) c.make_place.new.names.keys c.make_place.new.rows.items c.make_place.new.tree.nodes c.self.inside.room refl c.make_place.ensures.fits c.args.parent.now c.args.child c.len-at.result c.requires.next.0.children (omega (arith, c.make_place.ensures.len, at_is)) (ap (key c.make_place.new.names.keys) at_is ∙ c.make_place.ensures.named) c.requires.next.2 c.requires.next.0 (same c.args.parent.now ∙ c.requires.next.1) refl

pub invariant_of-self : goal.invariant_of-self
invariant_of-self c =
    let same = same_before c.args.self.now c.self.inside.names.keys c.self.inside.rows.items c.self.inside.tree.nodes c.self.inside.room c.self.view_is c.self.invariant.0 (zip c.make_place.new.names.keys c.make_place.new.rows.items) c.make_place.ensures.same in
    let at_is : c.len-at.result ≡ length c.self.inside.names.keys = omega (arith, c.len-at.ensures, c.self.inside.rows.ok, c.self.invariant.0.slots_len) in (
      adds_fits (record { tasks = zip c.make_place.new.names.keys c.make_place.new.rows.items; room = c.self.inside.room }) c.make_place.new.names.keys c.make_place.new.rows.items c.make_place.new.tree.nodes c.self.inside.room refl c.make_place.ensures.fits c.args.parent.now c.args.child c.len-at.result c.requires.next.0.children (omega (arith, c.make_place.ensures.len, at_is)) (ap (key c.make_place.new.names.keys) at_is ∙ c.make_place.ensures.named) c.requires.next.2 c.requires.next.0 (same c.args.parent.now ∙ c.requires.next.1) c.enter.new.rows.items (Some fresh) (node c.make_place.new.tree.nodes c.len-at.result).number c.enter.ensures.rows c.enter.new.tree.nodes refl (number_is (record { tasks = zip c.make_place.new.names.keys c.make_place.new.rows.items; room = c.self.inside.room }) c.make_place.new.names.keys c.make_place.new.rows.items c.make_place.new.tree.nodes c.self.inside.room refl c.make_place.ensures.fits c.args.parent.now c.args.child c.len-at.result c.requires.next.0.children (omega (arith, c.make_place.ensures.len, at_is)) (ap (key c.make_place.new.names.keys) at_is ∙ c.make_place.ensures.named) c.requires.next.2) refl c.enter.ensures.set,
      omega (arith, c.self.invariant.1, c.make_place.ensures.spare),
      omega (arith, c.self.invariant.2, c.make_place.ensures.fits.slots_len, c.make_place.ensures.len, c.self.invariant.0.slots_len, c.enter.ensures.rows.len, c.enter.ensures.rows_capacity, c.make_place.ensures.rows_capacity),
      omega (arith, c.self.invariant.3, c.enter.ensures.room, c.make_place.ensures.tree_room),
    )

pub returns-in-Some-clause-tasks : goal.returns-in-Some-clause-tasks
returns-in-Some-clause-tasks c =
    let same = same_before c.args.self.now c.self.inside.names.keys c.self.inside.rows.items c.self.inside.tree.nodes c.self.inside.room c.self.view_is c.self.invariant.0 (zip c.make_place.new.names.keys c.make_place.new.rows.items) c.make_place.ensures.same in
    let at_is : c.len-at.result ≡ length c.self.inside.names.keys = omega (arith, c.len-at.ensures, c.self.inside.rows.ok, c.self.invariant.0.slots_len) in
    adds_after _ _ _ c.args.parent.now c.args.child same (adds_child (record { tasks = zip c.make_place.new.names.keys c.make_place.new.rows.items; room = c.self.inside.room }) c.make_place.new.names.keys c.make_place.new.rows.items c.make_place.new.tree.nodes c.self.inside.room refl c.make_place.ensures.fits c.args.parent.now c.args.child c.len-at.result c.requires.next.0.children (omega (arith, c.make_place.ensures.len, at_is)) (ap (key c.make_place.new.names.keys) at_is ∙ c.make_place.ensures.named) c.requires.next.2 c.requires.next.0 (same c.args.parent.now ∙ c.requires.next.1) c.enter.new.rows.items (Some fresh) (node c.make_place.new.tree.nodes c.len-at.result).number c.enter.ensures.rows refl (number_is (record { tasks = zip c.make_place.new.names.keys c.make_place.new.rows.items; room = c.self.inside.room }) c.make_place.new.names.keys c.make_place.new.rows.items c.make_place.new.tree.nodes c.self.inside.room refl c.make_place.ensures.fits c.args.parent.now c.args.child c.len-at.result c.requires.next.0.children (omega (arith, c.make_place.ensures.len, at_is)) (ap (key c.make_place.new.names.keys) at_is ∙ c.make_place.ensures.named) c.requires.next.2) refl)

pub returns-in-Some-clause-names : goal.returns-in-Some-clause-names
returns-in-Some-clause-names c =
    let same = same_before c.args.self.now c.self.inside.names.keys c.self.inside.rows.items c.self.inside.tree.nodes c.self.inside.room c.self.view_is c.self.invariant.0 (zip c.make_place.new.names.keys c.make_place.new.rows.items) c.make_place.ensures.same in
    let at_is : c.len-at.result ≡ length c.self.inside.names.keys = omega (arith, c.len-at.ensures, c.self.inside.rows.ok, c.self.invariant.0.slots_len) in
    adds_names (record { tasks = zip c.make_place.new.names.keys c.make_place.new.rows.items; room = c.self.inside.room }) c.make_place.new.names.keys c.make_place.new.rows.items c.make_place.new.tree.nodes c.self.inside.room refl c.make_place.ensures.fits c.args.parent.now c.args.child c.len-at.result c.requires.next.0.children (omega (arith, c.make_place.ensures.len, at_is)) (ap (key c.make_place.new.names.keys) at_is ∙ c.make_place.ensures.named) c.requires.next.2 c.requires.next.0 (same c.args.parent.now ∙ c.requires.next.1) c.enter.new.rows.items (Some fresh) (node c.make_place.new.tree.nodes c.len-at.result).number c.enter.ensures.rows
    ∙ names_more c.args.self.now c.self.inside.names.keys c.self.inside.rows.items c.self.inside.tree.nodes c.self.inside.room c.self.view_is c.self.invariant.0
    c.make_place.new.names.keys c.make_place.new.rows.items c.args.child c.make_place.ensures.fits.slots_len c.make_place.ensures.names c.requires.unknown

pub returns-in_default-clause-tasks : goal.returns-in_default-clause-tasks
returns-in_default-clause-tasks c =
    let none = ap kin_in (absent_slot c.args.self.now c.self.inside.names.keys c.self.inside.rows.items c.self.inside.tree.nodes c.self.inside.room c.self.view_is c.self.invariant.0 c.args.parent.now c.in_default.ensures.found) in
    let there = c.requires.next.1 in cc

pub returns-in_default-clause-names : goal.returns-in_default-clause-names
returns-in_default-clause-names c =
    let none = ap kin_in (absent_slot c.args.self.now c.self.inside.names.keys c.self.inside.rows.items c.self.inside.tree.nodes c.self.inside.room c.self.view_is c.self.invariant.0 c.args.parent.now c.in_default.ensures.found) in
    let there = c.requires.next.1 in absurd (cc)
