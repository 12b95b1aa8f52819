use Rattle.std.proofs.Common.{◌≡◌, ◌++◌, drop, string_bytes}
use Rattle.tb_draft.specs.Passages.{passages_text}
use Rattle.tb_draft.proofs.draft.Draft.into_string.Given as goal

-- the text so far, and that of the passages that are left, are all passages
abbrev pub invariant-passages : goal.invariant-passages
invariant-passages l = string_bytes l.text ++ passages_text (drop l.passage-index l.passage-items) ≡ passages_text l.passage-items
