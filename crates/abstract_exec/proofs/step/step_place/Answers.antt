-- What is left to show of `step_place`.
use Rattle.std.proofs.Common.{◌+◌, ◌<◌, List, length, ap, arith, rules}
use Rattle.std.proofs.lemmas.List.Edits.{length-remove}
use Rattle.worklist_rules.specs.Pools.{Spot}
use Rattle.abstract_exec.proofs.Stepping.{few_after}
use Rattle.abstract_exec.proofs.step.step_place.Goals as goal

pub followed-requires-clause-placed : goal.followed-requires-clause-placed
followed-requires-clause-placed g c = c.requires.placed c.in_ok-place.place c.in_ok-place.ensures.element

pub returns-clause-few : goal.returns-clause-few
returns-clause-few g c =
    let gone = length-remove c.args.places.now c.args.at c.requires.at in
    let left = ap (λ (xs : List (Spot g.row.S-State.Denot g.row.R.Denot)). length xs) c.in_ok-place.ensures.others in
    let at = c.requires.at in
    let room = c.requires.few in
    let over : c.len.result + c.len-2.result < 4294967296 = search rules in
    let many = c.len.ensures in
    let old = c.len-2.ensures in
    let long = c.in_ok-made.field-0.places.ok.0 in
    few_after c.take.new.self c.put_all.new.line c.in_ok-made.field-0.places.items c.args.at (omega arith) c.in_ok-put_all.ensures (omega arith) (omega arith)
