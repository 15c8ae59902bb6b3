-- Room for words that frames hold at first.
--   word_sized   such a word has the size of a cell
--   cell_there          the cell lies in its frame, which is active
--   first_room, later_room      the first of words in a row, and those that are left
--   filled_is           a memory after a store that goes on
use Rattle.std.specs.Prelude.{All}
use Rattle.std.specs.Option.{option_map}
use Rattle.std.proofs.Common.{◌≡◌, ℕ, Bool, true, false, List, ◌∷◌, Some, None, ◌≤◌, ◌<◌, ◌+◌, ◌*◌, ◌^◌, sym, ap, subst, ◌∙◌, arith}
use Rattle.std.proofs.lemmas.Bool.{le-leb}
use Rattle.std.proofs.lemmas.List.Elements.{All-head, All-tail}
use Rattle.std.proofs.lemmas.Option.{slice_get-map}
use Rattle.alf_ops.specs.declared.history.FrameShape.{FrameShape}
use Rattle.alf_check.specs.declared.rows.FrameRow.{FrameRow}
use Rattle.alf_check.specs.declared.rows.InitRow.{InitRow}
use Rattle.alf_check.specs.CheckedPrograms.{CheckedParts, seen}
use Rattle.alf_check.specs.Kept.{InitFits}
use Rattle.domain_core.specs.WordSets.{IsWordSize}
use Rattle.domain_core.specs.declared.fault_set.FaultSet.{FaultSet}
use Rattle.pointer_rules.specs.AbstractValues.{AbstractValue}
use Rattle.memory_rules.specs.Covers.{IsCellSize}
use Rattle.memory_rules.specs.Memories.{Mem, is_on}
use Rattle.memory_rules.specs.AbstractSets.{abstract_sets}
use Rattle.memory_model.specs.KeptMemories.{MemoryParts, memory_in, rows_of}
use Rattle.transfer_rules.specs.Remains.{Remains, all_left}
use Rattle.transfer_rules.specs.Evaluating.{word_value, pointer_value, width_of}
use Rattle.transfer_rules.specs.Doing.{stored_through}
use Rattle.transfer_rules.specs.Filling.{filled}
use Rattle.transfer_rules.specs.CellStores.{IsCellAt}
use Rattle.transfer_rules.specs.CellStoreLaws.{stored_in_cell}
use Rattle.transfer_rules.specs.EvaluatingLaws.{word_size}
use Rattle.transfer_rules.specs.DoingLaws.{width_is}
use Rattle.step_statements.specs.Typed.{IsStorable}
use Rattle.step_statements.specs.Found.{done}
use Rattle.step_statements.specs.Rooms.{HasRoom, HaveRoom}

pub word_sized : (parts : MemoryParts) (init : InitRow) → HasRoom parts init → IsWordSize init.num.size
word_sized parts init room = word_size init.num.size room.fits.word.sized

-- the cell lies in its frame, which is active
pub cell_there : (parts : MemoryParts) (init : InitRow) (v : AbstractValue) → HasRoom parts init
    → v ≡ word_value init.num.size init.num.bits
    → IsCellAt (rows_of parts.checked) (memory_in parts).runs init.frame init.offset (width_of v)
cell_there parts init v room is =
    let row = room.fits.row in
    let shape : FrameRow → FrameShape = λ (r : FrameRow). record { owner = r.owner; bits = r.bits } in
    let lies : 8 * init.offset + init.num.size ≤ row.bits = room.fits.lies in
    subst (λ (w : AbstractValue). IsCellAt (rows_of parts.checked) (memory_in parts).runs init.frame init.offset (width_of w)) (sym is) (record {
      row = shape row;
      found = slice_get-map shape (seen parts.checked).frames init.frame ∙ ap (option_map shape) room.fits.at;
      active = ap (is_on (memory_in parts).runs) room.fits.owned ∙ room.active;
      fits = le-leb (init.offset * 8 + init.num.size) row.bits (omega (arith, lies));
    })

-- the first of words in a row
pub first_room : (parts : MemoryParts) (init : InitRow) (others inits : List InitRow) → inits ≡ init ∷ others
    → HaveRoom parts inits → HasRoom parts init
first_room parts init others inits cons room = record {
  owner = room.owner;
  active = room.active;
  fits = All-head (InitFits (seen parts.checked).frames room.owner) init others (subst (All (InitFits (seen parts.checked).frames room.owner)) cons room.fit);
}

-- and those that are left
pub later_room : (parts new : MemoryParts) (init : InitRow) (others inits : List InitRow) → inits ≡ init ∷ others
    → new.checked ≡ parts.checked → (memory_in new).runs ≡ (memory_in parts).runs
    → HaveRoom parts inits → HaveRoom new others
later_room parts new init others inits cons same runs room = record {
  owner = room.owner;
  active = ap (λ (r : ℕ → Bool). is_on r room.owner) runs ∙ room.active;
  fit = subst (λ (checked : CheckedParts). All (InitFits (seen checked).frames room.owner) others) (sym same)
      (All-tail (InitFits (seen parts.checked).frames room.owner) init others (subst (All (InitFits (seen parts.checked).frames room.owner)) cons room.fit));
}

-- ---- cells

goes : (on : Bool) (faults : FaultSet) (new last : Mem abstract_sets) → done (on, faults) new ≡ all_left last
    → new ≡ last
goes true faults new last e = let same : Some new ≡ Some last = ap (λ (r : Remains (Mem abstract_sets)). r.left) e in cc
goes false faults new last e = let bad : None ≡ Some last = ap (λ (r : Remains (Mem abstract_sets)). r.left) e in cc

-- a memory after a store to one cell
pub filled_is : (rows : List FrameShape) (m new : Mem abstract_sets) (frame offset : ℕ) (at v : AbstractValue) (answer : Bool × FaultSet) → offset < 2 ^ 32 → IsStorable v
    → IsCellAt rows m.runs frame offset (width_of v) → at ≡ pointer_value frame offset → done answer new ≡ stored_through rows m at v → new ≡ filled m frame offset (width_of v) v
filled_is rows m new frame offset at v answer small storable cell is_at told =
    let size : IsCellSize (width_of v) = subst IsCellSize (sym (width_is storable.size v storable.is)) storable.cell in
    goes answer.0 answer.1 new (filled m frame offset (width_of v) v)
    (told ∙ ap (λ (p : AbstractValue). stored_through rows m p v) is_at ∙ stored_in_cell rows m frame offset (width_of v) v small size cell)
