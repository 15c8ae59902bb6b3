use Rattle.std.proofs.Common.{arith, sym, ◌∙◌}
use Rattle.memory_model.specs.KeptMemories.{memory_in, rows_of}
use Rattle.branch_refinement.proofs.Tellings.{tells_nothing, two_members, compared_told}
use Rattle.branch_refinement.proofs.telling.of_operator.Goals as goal

pub returns-in-len1 : goal.returns-in-len1
returns-in-len1 c =
    let low = c.in-len1.len_below in
    rw c.of-in-len1.ensures (tells_nothing (rows_of c.args.memory.now.checked) (memory_in c.args.memory.now) c.args.op c.args.sizes.now c.args.operands.now c.requires.extends (λ two. omega (arith, two, low)))

pub returns-in-len2 : goal.returns-in-len2
returns-in-len2 c =
    let x = c.first-item.result in
    let y = c.second-item.result in
    let split = two_members c.args.operands.now x y c.in-len2.len_at_least c.in-len2.len_below c.first-item.is c.second-item.is in
    compared_told (rows_of c.args.memory.now.checked) (memory_in c.args.memory.now) c.args.op c.args.sizes.now c.in-Some.rel c.args.operands.now x y c.of_comparison.result c.requires.extends
    (sym c.relation_of.ensures ∙ c.in-Some.is) split c.of_comparison.ensures

pub returns-in-len3-up : goal.returns-in-len3-up
returns-in-len3-up c =
    let low = c.in-len3-up.len_at_least in
    rw c.of-in-len3-up.ensures (tells_nothing (rows_of c.args.memory.now.checked) (memory_in c.args.memory.now) c.args.op c.args.sizes.now c.args.operands.now c.requires.extends (λ two. omega (arith, two, low)))
