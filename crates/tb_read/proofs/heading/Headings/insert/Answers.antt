use Rattle.std.proofs.Common.{◌∙◌, sym, ap, is_some}
use Rattle.tb_read.proofs.HeadingLemmas.{heading_inserted, heading_kept, lookup_seen, none_of}
use Rattle.tb_read.proofs.heading.Headings.insert.Goals as goal

pub returns-in_ok-insert : goal.returns-in_ok-insert
returns-in_ok-insert c =
    heading_inserted c.self.inside.by_name.entries c.insert.new.self.entries c.args.name c.args.heading c.args.self.now c.self.view_is
    c.in_ok-insert.ensures.updates.0 (none_of _ (sym c.if-not-contains_key.ensures))

pub returns-else-not-contains_key : goal.returns-else-not-contains_key
returns-else-not-contains_key c =
    heading_kept c.args.self.now c.args.name.now c.args.heading
    (ap is_some (sym (lookup_seen c.self.inside.by_name.entries c.args.self.now c.self.view_is c.args.name.now)) ∙ sym c.if-not-contains_key.ensures)
