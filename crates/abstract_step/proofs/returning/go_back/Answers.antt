use Rattle.std.proofs.Common.{◌≡◌, ◌<◌, ℕ, length, map, Option, Some, sym, ap, subst, ◌∙◌}
use Rattle.std.specs.Prelude.{slice_get}
use Rattle.std.specs.Option.{option_map}
use Rattle.alf_check.specs.declared.rows.BlockEnd.{BlockEnd}
use Rattle.alf_check.specs.CheckedPrograms.{CheckedParts, NumberedBlock, BlockEnding, Call, seen, blocks_at, block_of, end_of, term_of}
use Rattle.flow_graph.specs.Nodes.{ending_at, function_at, block_node}
use Rattle.alf_runs.specs.Steps.{frames_of}
use Rattle.memory_model.specs.KeptMemories.{memory_in}
use Rattle.transfer_rules.specs.Stepping.{back_to}
use Rattle.abstract_step.specs.Turns.{IsTurn}
use Rattle.abstract_step.proofs.EndLaws.{back_at, end_there, is_call, back_leads}
use Rattle.abstract_step.proofs.returning.go_back.Goals as goal

pub block-requires-clause-func : goal.block-requires-clause-func
block-requires-clause-func c =
    let here = c.args.here.now in
    let back = back_at here c.args.block c.requires.back.rest c.requires.back c.requires.back.path_is in
    let caller : c.next_func.result ≡ function_at (seen here.checked) c.requires.back.rest = c.next_func.ensures (block_node c.requires.back.rest back.call.next) back.leads in
    subst (λ (checked : CheckedParts). c.next_func.result < length (seen checked).funcs) (sym c.checked.ensures.value)
    (subst (λ (f : ℕ). f < length (seen here.checked).funcs) (sym caller) back.low)

pub block-requires-clause-block : goal.block-requires-clause-block
block-requires-clause-block c =
    let here = c.args.here.now in
    let back = back_at here c.args.block c.requires.back.rest c.requires.back c.requires.back.path_is in
    let caller : c.next_func.result ≡ function_at (seen here.checked) c.requires.back.rest = c.next_func.ensures (block_node c.requires.back.rest back.call.next) back.leads in
    subst (λ (checked : CheckedParts). c.args.block < length (blocks_at (seen checked) c.next_func.result)) (sym c.checked.ensures.value)
    (subst (λ (f : ℕ). c.args.block < length (blocks_at (seen here.checked) f)) (sym caller) back.there)

pub unreachable-requires : goal.unreachable-requires
unreachable-requires c =
    let here = c.args.here.now in
    let back = back_at here c.args.block c.requires.back.rest c.requires.back c.requires.back.path_is in
    let caller : c.next_func.result ≡ function_at (seen here.checked) c.requires.back.rest = c.next_func.ensures (block_node c.requires.back.rest back.call.next) back.leads in
    let at : slice_get (blocks_at (seen here.checked) (function_at (seen here.checked) c.requires.back.rest)) c.args.block ≡ Some (block_of c.block.result.now) =
    subst (λ (checked : CheckedParts). slice_get (blocks_at (seen checked) (function_at (seen here.checked) c.requires.back.rest)) c.args.block ≡ Some (block_of c.block.result.now)) c.checked.ensures.value
    (subst (λ (f : ℕ). slice_get (blocks_at (seen c.checked.result.now) f) c.args.block ≡ Some (block_of c.block.result.now)) caller c.block.ensures.at) in
    let call = back.call in
    is_call c.block.result.now.end call.callee call.next call.args call.result
    (end_there (seen here.checked) (function_at (seen here.checked) c.requires.back.rest) c.args.block c.block.result.now (Call call.callee call.args call.result call.next) at call.ends) c.in_default.not-Call

pub returns : goal.returns
returns c = λ path cons.
    let here = c.args.here.now in
    let program = seen here.checked in
    let back = back_at here c.args.block path c.requires.back cons in
    let caller : c.next_func.result ≡ function_at program path = c.next_func.ensures (block_node path back.call.next) back.leads in
    let at : slice_get (blocks_at program (function_at program path)) c.args.block ≡ Some (block_of c.block.result.now) =
    subst (λ (checked : CheckedParts). slice_get (blocks_at (seen checked) (function_at program path)) c.args.block ≡ Some (block_of c.block.result.now)) c.checked.ensures.value
    (subst (λ (f : ℕ). slice_get (blocks_at (seen c.checked.result.now) f) c.args.block ≡ Some (block_of c.block.result.now)) caller c.block.ensures.at) in
    let ends : ending_at program (function_at program path) c.args.block ≡ Some (Call c.in-Call.func (map term_of c.in-Call.args.items) c.in-Call.to c.in-Call.next) =
    ap (option_map (λ (r : NumberedBlock). r.ending)) at ∙ ap (λ (e : BlockEnd). Some (end_of e)) c.in-Call.is in
    let stepped = c.in_ok-stepped-in-Call.stepped in
    subst (λ (ending : Option BlockEnding). IsTurn here stepped.next.items stepped.faults (back_to (frames_of program) path ending c.args.value (memory_in c.args.memory))) (sym ends)
    (c.in_ok-stepped-in-Call.ensures path (back_leads here c.args.block path back c.in-Call.func c.in-Call.next (map term_of c.in-Call.args.items) c.in-Call.to ends))
