-- What the loop over the spans keeps.
use Rattle.std.proofs.Common.{◌≡◌, ◌<◌, ◌≤◌, ℕ, get_or, None}
use Rattle.recorder_rules.specs.Spans.{collected}
use Rattle.flow_recorders.proofs.spans.collect_all.Given as goal

abbrev pub invariant-loop-i : goal.invariant-loop-i
invariant-loop-i l = record {
  done : (j : ℕ) → j < l.i → get_or l.spreads j None ≡ collected (get_or l.fn.spreads j None) (get_or l.spans j (0, 0));
  rest : (j : ℕ) → l.i ≤ j → get_or l.spreads j None ≡ get_or l.fn.spreads j None;
}
