-- The path bound of a run at the count bound.
use Rattle.report_soundness.proofs.BoundedLemmas.{met_at_bound}
use Rattle.report_soundness.proofs.bounded_laws.a_run_at_the_count_bound_is_at_the_path_bound.Goals as goal

pub returns : goal.returns
returns c = λ o report v above within fit fault k past run met cost. met_at_bound o report v above within fit fault k past run met cost
