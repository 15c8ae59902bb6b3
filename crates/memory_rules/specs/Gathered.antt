-- A load joins its results: the value covers, the faults are told, and sharp results give one of them.
--   EachSized d size results            each value has the size
use Rattle.std.proofs.Common.{◌≡◌, ℕ, List, [], ◌∷◌, Option, Some, None, Result, Ok, Err}
use Rattle.alf_ops.specs.declared.history.RunFault.{RunFault}
use Rattle.memory_rules.specs.ValueSets.{ValueSets}
use Rattle.memory_rules.specs.Frames.{FrameMem, results}
use Rattle.memory_rules.specs.Covers.{FrameSized}

-- each value has the size
abbrev pub EachSized : (d : ValueSets) → ℕ → List (Result d.Val RunFault) → Type 0
EachSized d size [] = Unit {0}
EachSized d size (Ok set ∷ results) = d.val_sized set size × EachSized d size results
EachSized d size (Err fault ∷ results) = EachSized d size results

-- the results of a sized frame are sized
abbrev pub WordSized : (d : ValueSets) → Option d.Word → ℕ → Type 0
WordSized d None size = size ≡ 0
WordSized d (Some word) size = d.sized word size
