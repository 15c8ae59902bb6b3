use Rattle.std.proofs.Common.{◌≡◌, map, drop}
use Rattle.alf_program.specs.Tree.{item_of}
use Rattle.alf_faults.specs.Fault.{any_from}
use Rattle.alf_faults.specs.Returns.{is_breach}
use Rattle.alf_faults.proofs.returns.has_breach.Given as goal

abbrev pub invariant-loop-at : goal.invariant-loop-at
invariant-loop-at l =
    any_from (is_breach l.name l.first l.place l.caller) l.at (map item_of (drop l.at l.items))
    ≡ any_from (is_breach l.name l.first l.place l.caller) 0 (map item_of l.items)
