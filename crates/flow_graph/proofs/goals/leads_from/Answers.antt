use Rattle.std.proofs.Common.{◌≡◌, ℕ, List, reverse, Some, Option, slice_get, option_map, ap, subst}
use Rattle.alf_program.specs.Tree.{NumberedExpression}
use Rattle.alf_check.specs.CheckedPrograms.{NumberedProgram, NumberedBlock, Switch, Return, blocks_at, block_of, end_of, term_of, seen}
use Rattle.flow_graph.specs.Nodes.{block_node, function_at}
use Rattle.flow_graph.specs.Goals.{GoesToTargets}
use Rattle.flow_graph.proofs.Targets.{switch_goals, end_leads, leads_end}
use Rattle.flow_graph.proofs.Leading.{calls_of, block_low, for_place, back_goals}
use Rattle.flow_graph.proofs.goals.leads_from.Goals as goal

pub function_at-func-requires : goal.function_at-func-requires
function_at-func-requires c = calls_of (seen c.args.checked.now) c.keeps.ensures c.args.place.now c.requires c.as_slice-path.result.now c.as_slice-path.ensures.value

pub block-requires-clause-block : goal.block-requires-clause-block
block-requires-clause-block c =
    block_low (seen c.args.checked.now) c.keeps.ensures c.args.place.now c.requires c.as_slice-path.result.now c.as_slice-path.ensures.value c.in-Some.block c.in-Some.is c.function_at-func.result c.function_at-func.ensures.function

pub back-requires : goal.back-requires
back-requires c = calls_of (seen c.args.checked.now) c.keeps.ensures c.args.place.now c.requires c.as_slice-path.result.now c.as_slice-path.ensures.value

pub returns-in_ok-targeted-in-Switch : goal.returns-in_ok-targeted-in-Switch
returns-in_ok-targeted-in-Switch c =
    let program : NumberedProgram = seen c.args.checked.now in
    let p : List ℕ = c.as_slice-path.result.now in
    let b : ℕ = c.in-Some.block in
    let f : ℕ = c.function_at-func.result in
    let block : NumberedBlock = block_of c.block.result.now in
    let is : f ≡ function_at program (reverse p) = c.function_at-func.ensures.function in
    let at : slice_get (blocks_at program f) b ≡ Some block = c.block.ensures.at in
    let value : NumberedExpression = term_of c.in-Switch.field-0 in
    let targets : List (ℕ × ℕ) = c.in-Switch.targets.items in
    let others : ℕ = c.in-Switch.others in
    let ends : block.ending ≡ Switch value targets others = ap end_of c.in-Switch.is in
    let goes : GoesToTargets c.in_ok-targeted-in-Switch.field-0 p targets others = subst (λ (ts : List (ℕ × ℕ)). GoesToTargets c.in_ok-targeted-in-Switch.field-0 p ts others) c.deref.ensures.value c.in_ok-targeted-in-Switch.ensures in
    for_place program c.keeps.ensures c.args.place.now c.requires p c.as_slice-path.ensures.value b c.in-Some.is (Some c.in_ok-targeted-in-Switch.field-0)
    (switch_goals program (block_node (reverse p) b) c.in_ok-targeted-in-Switch.field-0 p targets others goes
    (λ goal to target e. end_leads program (reverse p) b f block (Switch value targets others) is at ends goal (to, target, e))
    (λ goal lead. leads_end program (reverse p) b f block (Switch value targets others) is at ends goal lead))

pub returns-in_ok-back-in-Return : goal.returns-in_ok-back-in-Return
returns-in_ok-back-in-Return c =
    let program : NumberedProgram = seen c.args.checked.now in
    let p : List ℕ = c.as_slice-path.result.now in
    let b : ℕ = c.in-Some.block in
    let f : ℕ = c.function_at-func.result in
    let block : NumberedBlock = block_of c.block.result.now in
    let is : f ≡ function_at program (reverse p) = c.function_at-func.ensures.function in
    let at : slice_get (blocks_at program f) b ≡ Some block = c.block.ensures.at in
    let value : Option NumberedExpression = option_map term_of c.in-Return.field-0 in
    let ends : block.ending ≡ Return value = ap end_of c.in-Return.is in
    for_place program c.keeps.ensures c.args.place.now c.requires p c.as_slice-path.ensures.value b c.in-Some.is c.in_ok-back-in-Return.field-0
    (back_goals program (block_node (reverse p) b) (reverse p) (calls_of program c.keeps.ensures c.args.place.now c.requires p c.as_slice-path.ensures.value) c.in_ok-back-in-Return.field-0 c.in_ok-back-in-Return.ensures
    (λ goal h. end_leads program (reverse p) b f block (Return value) is at ends goal h)
    (λ goal h. leads_end program (reverse p) b f block (Return value) is at ends goal h))
