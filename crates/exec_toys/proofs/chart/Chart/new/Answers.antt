use Rattle.std.proofs.Common.{◌≡◌, length, refl, arith}
use Rattle.std.proofs.lemmas.List.{length-map}
use Rattle.domain_core.specs.Outlines.{shape_of}
use Rattle.exec_toys.proofs.ChartLemmas.{chart_along}
use Rattle.exec_toys.specs.Charts.{AreForksAlong}
use Rattle.exec_toys.proofs.chart.Chart.new.Goals as goal

pub returns-clause-along : goal.returns-clause-along
returns-clause-along c =
    let own : length (shape_of c.args.outline.now).own ≡ length c.args.outline.now.nodes = length-map c.args.outline.now.nodes (λ row. row.scope) in
    let many : length c.args.forks.items ≡ length (shape_of c.args.outline.now).own = omega (arith, own, c.len.ensures, c.node_count.ensures, c.if-len-node_count.false) in
    let along : AreForksAlong c.args.outline.now.edges c.args.forks.items = rw c.deref.ensures.value at c.if-not-are_forks_along.ensures refl in
    chart_along c.args.forks.items c.args.first (shape_of c.args.outline.now) c.kept.ensures many along
