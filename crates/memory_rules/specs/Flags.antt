-- A kept cell covers a load by its value and its flags alone: with covered bytes this is the same as by its results.
--   FlagCovers d cell r    the value covers the result, or the flag for it is set
use Rattle.std.specs.Prelude.{IsSomeAnd}
use Rattle.std.proofs.Common.{◌≡◌, ◌⊎◌, true, false, Result, Ok, Err}
use Rattle.alf_ops.specs.declared.history.Value.{Value}
use Rattle.alf_ops.specs.declared.history.RunFault.{RunFault}
use Rattle.alf_ops.specs.declared.history.RunFault.TheVariants.{Uninit, Mixed, Bounds, Dead, Kind, Divide, Pointers}
use Rattle.alf_ops.specs.Values.{is_pointer}
use Rattle.memory_rules.specs.ValueSets.{ValueSets, IsValueSets}
use Rattle.memory_rules.specs.Frames.{Cell}

-- u for a byte without a store, x for a cell that is read from its bytes
abbrev pub FlagFault : {V : Type 0} → Cell V → RunFault → Type 0
FlagFault cell Uninit = cell.u ≡ true
FlagFault cell Mixed = cell.x ≡ true
FlagFault cell Bounds = ⊥
FlagFault cell Dead = ⊥
FlagFault cell Kind = ⊥
FlagFault cell Divide = ⊥
FlagFault cell Pointers = ⊥

-- the load is covered by the value, or is a word and x is set; or its flag is set
abbrev pub FlagCovers : (d : ValueSets) → Cell d.Val → Result Value RunFault → Type 0
FlagCovers d cell (Ok value) = IsSomeAnd cell.value (λ set. d.covers set value) ⊎ ((cell.x ≡ true) × (is_pointer value ≡ false))
FlagCovers d cell (Err fault) = FlagFault cell fault
