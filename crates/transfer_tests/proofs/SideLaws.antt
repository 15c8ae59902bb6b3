-- Laws of sides.
--   both_fresh             both are those before each event
--   first_changed          the first is changed, and the same functions run in it
--   stored_first           so it is by a store
--   both_entered, both_left   a function is entered, or left, in both
--   first_copied, first_joined   the second is a copy of the first; the first is their join
--   cell_there             a cell that is there lies in its frame, which is active
--   cell_of                and is a cell of it
--   beside_itself   a memory beside itself
use Rattle.std.specs.Prelude.{slice_get, if◌then◌else◌, ◌==◌}
use Rattle.std.proofs.Common.{◌≡◌, ◌∙◌, ℕ, Bool, true, false, List, [], ◌∷◌, Option, Some, None, Result, Ok, Err, refl, sym, ap, subst}
use Rattle.lists.specs.TestLaws.{by_test}
use Rattle.alf_ops.specs.declared.history.FrameShape.{FrameShape}
use Rattle.alf_ops.specs.declared.history.RunFault.{RunFault}
use Rattle.alf_ops.specs.declared.history.RunFault.TheVariants.{Bounds, Dead}
use Rattle.alf_ops.specs.declared.history.Value.TheVariants.{Ptr}
use Rattle.alf_ops.specs.Histories.{fits_in}
use Rattle.alf_check.specs.CheckedPrograms.{CheckedParts}
use Rattle.pointer_rules.specs.AbstractValues.{AbstractValue}
use Rattle.memory_rules.specs.AbstractSets.{abstract_sets}
use Rattle.memory_rules.specs.Addresses.{tested, tested_in, stored_at, cells_of}
use Rattle.memory_rules.specs.Memories.{Mem, is_on, fresh, stored, weak_at, weak_all, entered, left}
use Rattle.memory_model.specs.KeptMemories.{MemoryParts, memory_in, rows_of, functions_of, IsMemory}
use Rattle.memory_model.specs.SeenOrders.{joined}
use Rattle.memory_model.specs.SeenOrderLaws.{joined_seen, joined_is}
use Rattle.transfer_rules.specs.CellStores.{IsCellAt}
use Rattle.abstract_memory.specs.Cells.{IsCellOf}
use Rattle.transfer_tests.specs.Sides.{AreReady}

-- both are those before each event
pub both_fresh : (count : ℕ) (checked : CheckedParts) (a b : MemoryParts) → count ≡ functions_of checked
    → a.checked ≡ checked → b.checked ≡ checked → IsMemory a → IsMemory b
    → memory_in a ≡ fresh abstract_sets → memory_in b ≡ fresh abstract_sets → AreReady count a b
both_fresh count checked a b is own other kept kept_other first second = record {
  alike = record {
    checked = own ∙ sym other;
    runs = λ function. ap (λ (m : Mem abstract_sets). m.runs function) (first ∙ sym second);
    first = kept;
    second = kept_other;
  };
  functions = is ∙ ap functions_of (sym own);
}

-- ---- the first is changed

pub first_changed : (count : ℕ) (a b new : MemoryParts) → AreReady count a b → new.checked ≡ a.checked → IsMemory new
    → (memory_in new).runs ≡ (memory_in a).runs → AreReady count new b
first_changed count a b new ready same kept runs = record {
  alike = record {
    checked = same ∙ ready.alike.checked;
    runs = λ function. ap (λ (r : ℕ → Bool). r function) runs ∙ ready.alike.runs function;
    first = kept;
    second = ready.alike.second;
  };
  functions = ready.functions ∙ ap functions_of (sym same);
}

weak_runs : (cells : List (ℕ × ℕ)) (m : Mem abstract_sets) (size : ℕ) (v : AbstractValue)
    → (weak_all abstract_sets m cells size v).runs ≡ m.runs
weak_runs [] m size v = refl
weak_runs (cell ∷ cells) m size v = weak_runs cells (weak_at abstract_sets m cell size v) size v

stored_runs : (cells : List (ℕ × ℕ)) (m : Mem abstract_sets) (size : ℕ) (v : AbstractValue)
    → (stored abstract_sets m cells size v).runs ≡ m.runs
stored_runs [] m size v = refl
stored_runs (cell ∷ []) m size v = refl
stored_runs (cell ∷ other ∷ cells) m size v = weak_runs (cell ∷ other ∷ cells) m size v

pub stored_first : (count : ℕ) (a b new : MemoryParts) (at v : AbstractValue) (size : ℕ) → AreReady count a b
    → new.checked ≡ a.checked → IsMemory new
    → memory_in new ≡ stored_at (rows_of a.checked) (memory_in a) at size v → AreReady count new b
stored_first count a b new at v size ready same kept is =
    first_changed count a b new ready same kept
    (ap (λ (m : Mem abstract_sets). m.runs) is ∙ stored_runs (cells_of (rows_of a.checked) (memory_in a).runs at.places size) (memory_in a) size v)

-- ---- both are

pub both_entered : (count : ℕ) (a b new other : MemoryParts) (f : ℕ) → AreReady count a b → new.checked ≡ a.checked
    → other.checked ≡ b.checked → IsMemory new → IsMemory other
    → memory_in new ≡ entered abstract_sets (rows_of a.checked) (memory_in a) f → memory_in other ≡ entered abstract_sets (rows_of b.checked) (memory_in b) f → AreReady count new other
both_entered count a b new other f ready same same_other kept kept_other is is_other = record {
  alike = record {
    checked = same ∙ ready.alike.checked ∙ sym same_other;
    runs = λ g.
        ap (λ (m : Mem abstract_sets). m.runs g) is
        ∙ ap (λ (r : Bool). if g == f then true else r) (ready.alike.runs g)
        ∙ sym (ap (λ (m : Mem abstract_sets). m.runs g) is_other);
    first = kept;
    second = kept_other;
  };
  functions = ready.functions ∙ ap functions_of (sym same);
}

pub both_left : (count : ℕ) (a b new other : MemoryParts) (f : ℕ) → AreReady count a b → new.checked ≡ a.checked
    → other.checked ≡ b.checked → IsMemory new → IsMemory other
    → memory_in new ≡ left abstract_sets (memory_in a) f → memory_in other ≡ left abstract_sets (memory_in b) f → AreReady count new other
both_left count a b new other f ready same same_other kept kept_other is is_other = record {
  alike = record {
    checked = same ∙ ready.alike.checked ∙ sym same_other;
    runs = λ g.
        ap (λ (m : Mem abstract_sets). m.runs g) is
        ∙ ap (λ (r : Bool). if g == f then false else r) (ready.alike.runs g)
        ∙ sym (ap (λ (m : Mem abstract_sets). m.runs g) is_other);
    first = kept;
    second = kept_other;
  };
  functions = ready.functions ∙ ap functions_of (sym same);
}

-- ---- copies and joins

-- a memory beside itself
pub beside_itself : (count : ℕ) (a : MemoryParts) → IsMemory a → count ≡ functions_of a.checked → AreReady count a a
beside_itself count a kept is = record {
  alike = record { checked = refl; runs = λ function. refl; first = kept; second = kept };
  functions = is;
}

pub turned : (count : ℕ) (a b : MemoryParts) → AreReady count a b → AreReady count b a
turned count a b ready = record {
  alike = record {
    checked = sym ready.alike.checked;
    runs = λ function. sym (ready.alike.runs function);
    first = ready.alike.second;
    second = ready.alike.first;
  };
  functions = ready.functions ∙ ap functions_of ready.alike.checked;
}

pub first_joined : (count : ℕ) (a b new : MemoryParts) → AreReady count a b → new ≡ joined a b → AreReady count new b
first_joined count a b new ready is =
    subst (λ (parts : MemoryParts). AreReady count parts b) (sym is)
    (first_changed count a b (joined a b) ready refl (joined_is a b ready.alike) (ap (λ (m : Mem abstract_sets). m.runs) (joined_seen a b ready.alike)))

-- ---- cells that are there

no_error : (fault : RunFault) (cell : ℕ × ℕ) → Err fault ≡ (let r : Result (ℕ × ℕ) RunFault = Ok cell in r) → ⊥
no_error fault cell e = cc

cell_at : (found : Option FrameShape) (rows : List FrameShape) (runs : ℕ → Bool) (frame offset size : ℕ)
    → slice_get rows frame ≡ found
    → tested_in found runs frame offset size ≡ Ok (frame, offset) → IsCellAt rows runs frame offset size
cell_at None rows runs frame offset size is there = absurd (no_error Dead (frame, offset) there)
cell_at (Some row) rows runs frame offset size is there = by_test (is_on runs row.owner)
    (λ on. by_test (fits_in row.bits offset size)
    (λ fits. record { row = row; found = is; active = on; fits = fits })
    (λ far. absurd (no_error Bounds (frame, offset) (rw (on, far) at there))))
    (λ off. absurd (no_error Dead (frame, offset) (rw off at there)))

pub cell_there : (rows : List FrameShape) (runs : ℕ → Bool) (frame offset size : ℕ)
    → tested rows runs (Ptr frame offset) size ≡ Ok (frame, offset) → IsCellAt rows runs frame offset size
cell_there rows runs frame offset size there = cell_at (slice_get rows frame) rows runs frame offset size refl there

pub cell_of : (rows : List FrameShape) (runs : ℕ → Bool) (frame offset size : ℕ)
    → tested rows runs (Ptr frame offset) size ≡ Ok (frame, offset) → IsCellOf rows frame offset size
cell_of rows runs frame offset size there =
    let c = cell_there rows runs frame offset size there in
    record { row = c.row; found = c.found; fits = c.fits }
