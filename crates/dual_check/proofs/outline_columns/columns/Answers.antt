-- The marks are the alarms.
use Rattle.std.proofs.Common.{◌≡◌, ◌<◌, ◌++◌, ◌∙◌, ℕ, List, Bool, false, get_or, map, ap, sym, subst, arith}
use Rattle.std.specs.List.{flat_map, range_with_len}
use Rattle.ipet_rows.specs.Columns.{Column, edge_column, has_alarm}
use Rattle.dual_check.specs.Terms.{fault_if}
use Rattle.dual_check.proofs.Made.{columns_made}
use Rattle.dual_check.proofs.MarkedNodes.{faults_marked}
use Rattle.dual_check.proofs.outline_columns.columns.Goals as goal

pub returns : goal.returns
returns c =
    let o = c.args.outline.now in
    let facts = c.args.facts.now in
    let end = c.node_count-2.result in
    let out = c.push_faults.new.out.items in
    let same : end ≡ c.node_count.result = c.node_count-2.ensures ∙ sym c.node_count.ensures in
    let each : (n : ℕ) → n < end → get_or c.deref.result.now n false ≡ has_alarm facts n =
    λ n low. ap (λ (ms : List Bool). get_or ms n false) c.deref.ensures.value ∙ c.in_ok-marks.ensures.marks n (omega (arith, low, same)) in
    let told = faults_marked end c.deref.result.now facts c.in_ok-out.out.items out each c.in_ok-push_faults.ensures in
    let edges = ap (λ (es : List Column). es ++ flat_map (λ n. fault_if end n (has_alarm facts n)) (range_with_len 0 end)) c.in_ok-out.ensures in
    columns_made o facts out
    (subst (λ (k : ℕ). out ≡ map edge_column o.edges ++ flat_map (λ n. fault_if k n (has_alarm facts n)) (range_with_len 0 k)) c.node_count-2.ensures (told ∙ edges))
