use Rattle.std.proofs.Common.{arith, ◌≡◌, []}
use Rattle.std.proofs.lemmas.Grind.{common_steps}
use Rattle.std.proofs.lemmas.Option.{get_or_from_slice_get}
use Rattle.answer_texts.specs.ScopeLines.{name_of}
use Rattle.answer_texts.proofs.run_lines.push_stop.Goals as goal

pub returns : goal.returns
returns c =
    let name : name_of c.args.graph.now c.args.node ≡ c.in_ok-name.name.items = get_or_from_slice_get c.args.graph.now.names c.args.node c.in_ok-name.name.items [] c.in_ok-name.ensures in
    rw name (grind (arith, common_steps))
