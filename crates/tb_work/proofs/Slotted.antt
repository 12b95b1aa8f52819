-- What is known of a slot's cell.
use Rattle.std.proofs.Common.{◌≡◌, ◌+◌, ◌-◌, ◌<◌, ◌≤◌, ℕ, List, ◌++◌, map, take, drop, replicate, length, length-append, length-drop, get_or, slice_get, Some, ap, sym, ◌∙◌, arith}
use Rattle.std.proofs.lemmas.List.{get_or-drop, length-map, length-replicate, length-take}
use Rattle.tb_model.specs.declared.entry.Entry.{Entry}
use Rattle.tb_work.specs.declared.told.Told.{Told}
use Rattle.tb_work.specs.Slots.{Slots, cells_in, cells_of}
use Rattle.tb_work.proofs.Standing.{told_at}

-- the slots before the first that has a cell mean nothing
pub slots_length : (f : ℕ) (cs : List ℕ) → length (replicate f 0 ++ cs) ≡ f + length cs
slots_length f cs = length-append (replicate f 0) cs ∙ ap (λ n. n + length cs) (length-replicate f 0)

-- notes are of the slots from the first one on
pub noted_as : (es : List Entry) (f p i : ℕ) (d : Entry) → i + f ≡ p → p < length es → slice_get (map (λ e. Some e) (drop f es)) i ≡ Some (Some (get_or es p d))
noted_as es f p i d at lt =
    let on : f + i ≡ p = omega (arith, at) in
    told_at (drop f es) i d (omega (arith, at, lt, length-drop f es)) ∙ ap (λ x. Some (Some x)) (get_or-drop f es i d ∙ ap (λ k. get_or es k d) on)

-- there are as many notes as slots with a cell
pub notes_count : (told : List Told) (slots : Slots) (n : ℕ) → cells_of told ≡ cells_in slots n → n ≤ length slots.cells → length told ≡ n - slots.first
notes_count told slots n is within =
    let notes = length-map told (λ (t : Told). t.note.cell) in
    omega (arith, notes, ap length is, length-drop slots.first (take n slots.cells), length-take n slots.cells, within)
