use Rattle.std.proofs.Common.{[], ◌≡◌, ◌<◌, ◌∙◌, length, get_or, subst, sym, ap, ap₂}
use Rattle.tb_model.specs.declared.entry.Entry.{Entry}
use Rattle.tb_journal.specs.Compact.{entry_of}
use Rattle.tb_journal.specs.Turns.{entries, task_at}
use Rattle.tb_journal.proofs.TurnLemmas.{entry_at, entries_length, ok_is}
use Rattle.tb_journal.proofs.journal.Journal.entry.Goals as goal

pub returns : goal.returns
returns c =
    let apart = c.self.inside.apart.items in
    let compact = c.self.inside.compact.items in
    let turns = c.self.inside.turns.items in
    let k = c.index-as_slice-place.result in
    let within : c.args.place < length compact = subst (λ n. c.args.place < n) (sym (ap (λ j. length j.items) c.self.view_is) ∙ entries_length apart turns 0 compact) c.requires in
    let found : (d : Entry) → get_or c.args.self.now.items c.args.place d ≡ entry_of apart (task_at [] turns c.args.place) k =
    (λ d. sym (ap (λ j. get_or j.items c.args.place d) c.self.view_is) ∙ entry_at apart turns compact c.args.place d k within ∙ ap (entry_of apart (task_at [] turns c.args.place)) (sym (c.index-as_slice-place.is ∙ ap (λ ks. get_or ks c.args.place k) c.as_slice-2.ensures.value))) in
    let task = c.task_at-task.ensures ∙ ap₂ (λ root ts. task_at root ts c.args.place) c.root-root.ensures c.as_slice.ensures.value in
    let same = ap₂ (λ xs t. entry_of xs t k) c.as_slice-3.ensures.value task in
    ok_is c.entry.result _ (λ e. (d : Entry) → get_or c.args.self.now.items c.args.place d ≡ e) c.entry.ensures (λ d. found d ∙ sym same)
