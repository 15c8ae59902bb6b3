-- Laws of memory proofs.
--   store_covers, load_covers, ..   each law of MemoryLaws, under its own name or with the words turned
--   loads_cover         the results of several cells
--   store_sized         each call keeps the sizes
--   start_sharp         before each event
--   memory_pin_covers   the pin of a whole memory
use Rattle.std.specs.Prelude.{Contains}
use Rattle.std.proofs.Common.{List, ℕ, ◌∷◌, inl, inr, sym, subst, []}
use Rattle.alf_ops.specs.declared.history.FrameShape.{FrameShape}
use Rattle.alf_ops.specs.declared.history.RunEvent.{RunEvent}
use Rattle.alf_ops.specs.Histories.{origin, cell_in}
use Rattle.alf_ops.specs.declared.history.RunEvent.TheVariants.{Enter, Leave, Store}
use Rattle.alf_ops.specs.WholeCellLaws.{origin_is_table}
use Rattle.memory_rules.specs.ValueSets.{ValueSets, IsValueSets}
use Rattle.memory_rules.specs.Memories.{fresh, pinned_at, stored, entered, left, both, load_all, Mem, MemCovers, MemSharp, IsPlaced}
use Rattle.memory_rules.specs.MemoryLaws.{StartSharp, MemoryPinCovers, MemoryPinSharp, MemoryPinSized, LoadsCover, LoadsGather, EnterSharp, LeaveSharp, StoreSized, JoinSized, EnterSized, LeaveSized, StoreCovers, LoadCovers, JoinCovers, EnterCovers, LeaveCovers, LoadExact, MemoryStaysSharp}
use Rattle.memory_rules.specs.MemoryCoveringLaws.{mem_fresh_sized, fresh_holds, mem_pinned_sized, pinned_at_holds, mem_holds, mem_covers, stored_holds, both_left, both_right, entered_holds, left_holds, contains_first, contains_none, contains_cases, mem_stored_sized, mem_entered_sized, mem_left_sized, mem_both_sized}
use Rattle.memory_rules.specs.SharpMemoryLaws.{fresh_sharp, pinned_at_sharp, stored_sharp, entered_sharp, left_sharp}
use Rattle.memory_rules.specs.GatheredLaws.{gathered_all, gathered_all_only, all_among, all_results_sized}
use Rattle.memory_rules.specs.LoadLaws.{load_covered}
use Rattle.memory_rules.specs.SharpFrameLaws.{load_exact}

module _ (d : ValueSets) (laws : IsValueSets d) where
  pub store_covers : StoreCovers d
  store_covers rows m history cells frame offset size set value sound sized c is set_sized in_set fits placed among =
      mem_covers d laws rows (stored d m cells size set) (Store frame offset size value ∷ history) (mem_stored_sized d laws rows size set is set_sized m cells sized) (fits, sound)
      (stored_holds d laws rows size set is set_sized value in_set fits m history cells frame offset sized placed among (mem_holds d laws rows m history c))

  pub load_covers : LoadCovers d
  load_covers rows m history frame offset size sound sized c is p =
      load_covered d laws p.row.bits (m.frames frame) (origin p.row.owner frame history) (sized frame) (origin_is_table p.row.owner frame history sound) (c.frames frame p.row p.found p.runs) offset size is p.fits

  pub join_covers : JoinCovers d
  join_covers rows a b history sound s t same = (
    λ c. mem_covers d laws rows (both d a b) history (mem_both_sized d laws rows a b s t) sound (both_left d laws rows a b history s t (mem_holds d laws rows a history c)),
    λ c. mem_covers d laws rows (both d a b) history (mem_both_sized d laws rows a b s t) sound (both_right d laws rows a b history s t same (mem_holds d laws rows b history c)),
  )

  pub enter_covers : EnterCovers d
  enter_covers rows m history function sound sized c =
      mem_covers d laws rows (entered d rows m function) (Enter function ∷ history) (mem_entered_sized d laws rows m function sized) sound (entered_holds d laws rows m history function (mem_holds d laws rows m history c))

  pub leave_covers : LeaveCovers d
  leave_covers rows m history function sound sized c =
      mem_covers d laws rows (left d m function) (Leave function ∷ history) (mem_left_sized d laws rows m function sized) sound (left_holds d laws rows m history function (mem_holds d laws rows m history c))

  pub exact_load : LoadExact d
  exact_load bits m from offset size sized sharp is fits = load_exact d laws bits m from sized sharp offset size is fits

  -- a sharp memory covers
  sharp_covers : (rows : List FrameShape) (m : Mem d) (history : List RunEvent) → MemSharp d rows m history
      → MemCovers d rows m history
  sharp_covers rows m history h = record { active = h.active; frames = λ frame row found runs. (h.frames frame row found runs).covers }

  only_cell : (rows : List FrameShape) (history : List RunEvent) (frame offset size : ℕ)
      → IsPlaced rows history frame offset size → (cell : ℕ × ℕ)
      → Contains ((frame, offset) ∷ []) cell → IsPlaced rows history cell.0 cell.1 size
  only_cell rows history frame offset size p cell among = elim (contains_cases (frame, offset) [] cell among) [
    | inl same ↦ subst (λ (c : ℕ × ℕ). IsPlaced rows history c.0 c.1 size) (sym same) p
    | inr none ↦ absurd (contains_none cell none)
  ]

  pub memory_stays_sharp : MemoryStaysSharp d
  memory_stays_sharp rows m history frame offset size set value sound sized sharp is set_sized only fits p =
      stored_sharp d laws rows m history frame offset size set value sharp
      (store_covers rows m history ((frame, offset) ∷ []) frame offset size set value sound sized (sharp_covers rows m history sharp) is set_sized only.0 fits (only_cell rows history frame offset size p) (contains_first (frame, offset) []))
      is set_sized only fits p

  pub sharp_enter : EnterSharp d
  sharp_enter rows m history function sound sized sharp =
      entered_sharp d laws rows m history function sharp (enter_covers rows m history function sound sized (sharp_covers rows m history sharp))

  pub sharp_leave : LeaveSharp d
  sharp_leave rows m history function sound sized sharp =
      left_sharp d laws rows m history function sharp (leave_covers rows m history function sound sized (sharp_covers rows m history sharp))

  -- the results of several cells
  pub loads_cover : LoadsCover d
  loads_cover rows m history cells frame offset size sound sized c is p among =
      all_among d m size (cell_in (origin p.row.owner frame history) offset size) cells (frame, offset) among (load_covers rows m history frame offset size sound sized c is p)

  pub loads_gather : LoadsGather d
  loads_gather m cells size r sized is =
      let sizes = all_results_sized d laws m size is sized cells in
      (gathered_all d laws size (load_all d m cells size) sizes r, gathered_all_only d laws size (load_all d m cells size) sizes r)

  -- each call keeps the sizes
  pub store_sized : StoreSized d
  store_sized m cells size set sized is set_sized = mem_stored_sized d laws [] size set is set_sized m cells sized

  pub join_sized : JoinSized d
  join_sized a b s t = mem_both_sized d laws [] a b s t

  pub enter_sized : EnterSized d
  enter_sized rows m function sized = mem_entered_sized d laws rows m function sized

  pub leave_sized : LeaveSized d
  leave_sized m function sized = mem_left_sized d laws [] m function sized

  -- before each event
  pub start_sharp : StartSharp d
  start_sharp rows =
      (fresh_sharp d laws rows (mem_covers d laws rows (fresh d) [] (mem_fresh_sized d laws rows) tt (fresh_holds d laws rows)), mem_fresh_sized d laws rows)

  -- the pin of a whole memory
  pub memory_pin_covers : MemoryPinCovers d
  memory_pin_covers rows m history frame offset size set value sound sized c is set_sized p gives in_set =
      mem_covers d laws rows (pinned_at d m (frame, offset) size set) history (mem_pinned_sized d laws rows size set is set_sized m (frame, offset) sized) sound
      (pinned_at_holds d laws rows size set is set_sized m history frame offset value p gives in_set (mem_holds d laws rows m history c))

  pub memory_pin_sharp : MemoryPinSharp d
  memory_pin_sharp rows m history frame offset size set value sound sized sharp is set_sized p gives only =
      pinned_at_sharp d laws rows m history frame offset size set value sharp
      (memory_pin_covers rows m history frame offset size set value sound sized (sharp_covers rows m history sharp) is set_sized p gives only.0) p gives only

  pub memory_pin_sized : MemoryPinSized d
  memory_pin_sized m cell size set sized is set_sized = mem_pinned_sized d laws [] size set is set_sized m cell sized
