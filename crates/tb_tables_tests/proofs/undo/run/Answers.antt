use Rattle.tb_undo.proofs.RunLemmas.{ahead_start, state_begun, ahead_store, stands, state_back}
use Rattle.tb_tables_tests.proofs.undo.run.Goals as goal

pub apply-requires : goal.apply-requires
apply-requires c = ahead_start c.args.tables.now c.args.start.now c.requires.start c.requires.state

pub apply-requires-2 : goal.apply-requires-2
apply-requires-2 c =
    ahead_store c.apply.new.self c.args.store.now c.requires.store (state_begun c.args.tables.now c.apply.new.self c.args.start.now c.requires.start c.requires.state c.in_ok-begun.ensures.applied)

pub revert-requires : goal.revert-requires
revert-requires c =
    let state = state_begun c.args.tables.now c.apply.new.self c.args.start.now c.requires.start c.requires.state c.in_ok-begun.ensures.applied in
    stands c.apply.new.self c.apply-2.new.self c.args.store.now _ c.requires.store state c.in_ok-stored.ensures.applied c.in_ok-stored.ensures.replaced

pub apply-requires-3 : goal.apply-requires-3
apply-requires-3 c =
    let state = state_begun c.args.tables.now c.apply.new.self c.args.start.now c.requires.start c.requires.state c.in_ok-begun.ensures.applied in
    let back = state_back c.apply.new.self c.apply-2.new.self c.revert.new.self c.args.store.now _ c.requires.store state c.in_ok-stored.ensures.applied c.in_ok-stored.ensures.replaced c.revert.ensures.without in
    ahead_store c.revert.new.self c.args.store.now c.requires.store back
