-- What the walk along the edges keeps.
use Rattle.std.proofs.Common.{◌≡◌, ◌<◌, ℕ, true, false, length, get_or, slice_get, Some}
use Rattle.domain_core.specs.Outlines.{shape_of}
use Rattle.worklist_rules.specs.Policies.{IsExit}
use Rattle.abstract_exec.specs.Points.{IsLeft}
use Rattle.abstract_exec.proofs.points.exits.Given as goal

abbrev pub invariant-loop-e : goal.invariant-loop-e
invariant-loop-e l = record {
  long : length l.flags ≡ length l.outline.nodes;
  sound : (n : ℕ) → get_or l.flags n false ≡ true → IsExit (shape_of l.outline) n;
  done : (k u n : ℕ) → k < l.e → slice_get l.outline.edges k ≡ Some (u, n) → n < length l.outline.nodes
      → IsLeft (shape_of l.outline) u n → get_or l.flags n false ≡ true;
}
