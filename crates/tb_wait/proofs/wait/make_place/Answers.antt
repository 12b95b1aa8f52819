use Rattle.std.proofs.Common.{◌≡◌, ◌++◌, [], ◌∷◌, length, refl, sym, ap, ◌∙◌, subst, arith}
use Rattle.std.specs.List.{zip}
use Rattle.tb_wait.specs.Kin.{IsSame}
use Rattle.tb_wait.specs.Rows.{key, Fits}
use Rattle.tb_wait.proofs.SpawnLemmas.{next_number, fits_pushed, pushed_kin, pushed_key, none_known, length-push}
use Rattle.tb_wait.proofs.wait.make_place.Goals as goal

pub add-requires-clause-number : goal.add-requires-clause-number
add-requires-clause-number c =
    next_number c.args.names.now.keys c.args.rows.now.items c.args.tree.now.nodes c.requires.fits (key c.args.names.now.keys c.args.owner) c.args.child c.args.owner c.requires.within refl c.requires.unknown c.requires.next.0 c.requires.next.1 c.requires.next.2 c.number_of.result (c.number_of.ensures _ _ c.requires.next.2)

pub returns-clause-fits : goal.returns-clause-fits
returns-clause-fits c =
    subst (λ ks. Fits ks c.push.new.rows.items c.add.new.self.nodes) (sym c.push-2.ensures.keys)
    (subst (λ ss. Fits (c.args.names.now.keys ++ c.args.child ∷ []) ss c.add.new.self.nodes) (sym c.push.ensures.rows)
    (fits_pushed c.args.names.now.keys c.args.rows.now.items c.args.tree.now.nodes c.requires.fits (key c.args.names.now.keys c.args.owner) c.args.child c.args.owner c.requires.within refl c.requires.unknown c.requires.next.0 c.requires.next.1 c.requires.next.2 c.set_child_room.new.rows.items c.add.new.self.nodes c.child_room-room.result c.set_child_room.ensures.slot c.child_room-room.ensures c.add.ensures.added (omega (arith, c.child_room-room.ensures, c.requires.child_room))))

pub returns-clause-same : goal.returns-clause-same
returns-clause-same c =
    subst (λ ks. IsSame (zip c.args.names.now.keys c.args.rows.now.items) (zip ks c.push.new.rows.items)) (sym c.push-2.ensures.keys)
    (subst (λ ss. IsSame (zip c.args.names.now.keys c.args.rows.now.items) (zip (c.args.names.now.keys ++ c.args.child ∷ []) ss)) (sym c.push.ensures.rows)
    (λ u. pushed_kin c.args.names.now.keys c.args.rows.now.items c.args.tree.now.nodes c.requires.fits (key c.args.names.now.keys c.args.owner) c.args.child c.args.owner c.requires.within refl c.requires.unknown c.requires.next.0 c.requires.next.1 c.requires.next.2 c.set_child_room.new.rows.items c.add.new.self.nodes c.child_room-room.result c.set_child_room.ensures.slot c.child_room-room.ensures c.add.ensures.added u))

pub returns-clause-named : goal.returns-clause-named
returns-clause-named c =
    subst (λ ks. key ks (length c.args.names.now.keys) ≡ c.args.child) (sym c.push-2.ensures.keys) (pushed_key c.args.names.now.keys c.args.rows.now.items c.args.tree.now.nodes c.requires.fits (key c.args.names.now.keys c.args.owner) c.args.child c.args.owner c.requires.within refl c.requires.unknown c.requires.next.0 c.requires.next.1 c.requires.next.2 c.set_child_room.new.rows.items c.add.new.self.nodes c.child_room-room.result c.set_child_room.ensures.slot c.child_room-room.ensures c.add.ensures.added)

pub returns-clause-len : goal.returns-clause-len
returns-clause-len c =
    ap length c.push-2.ensures.keys ∙ length-push c.args.names.now.keys c.args.child

pub push-requires-2-clause-absent : goal.push-requires-2-clause-absent
push-requires-2-clause-absent c = none_known c.args.names.now.keys c.args.rows.now.items c.args.child c.requires.fits.slots_len c.requires.unknown
