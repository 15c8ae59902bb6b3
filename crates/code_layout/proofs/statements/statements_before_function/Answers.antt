-- What is left to show of `statements_before_function`.
use Rattle.std.proofs.Common.{◌≡◌, ◌<◌, ℕ, length, take, get_or, ap, ◌∙◌, arith}
use Rattle.std.specs.Prelude.{sum_by}
use Rattle.std.proofs.lemmas.Option.{slice_get-get_or}
use Rattle.alf_check.specs.CheckedPrograms.{NumberedProgram, blocks_at, seen}
use Rattle.code_layout.specs.Layouts.{statements_in, statements_of}
use Rattle.code_layout.specs.LayoutLaws.{no_function}
use Rattle.code_layout.proofs.Summing.{summed_more, function_sum}
use Rattle.code_layout.proofs.statements.statements_before_function.Goals as goal

pub loop-f-preserved : goal.loop-f-preserved
loop-f-preserved c =
    let program : NumberedProgram = seen c.args.checked.now in
    let f = c.loop-f.f in
    let low : f < length program.funcs = (let before = c.loop-f-test.true in let few = c.requires in omega arith) in
    let all : c.statements_before_block-total.result ≡ statements_of (get_or program.funcs f no_function) =
    c.statements_before_block-total.ensures.statements ∙ ap (λ (b : ℕ). sum_by statements_in (take b (blocks_at program f))) c.block_count.ensures ∙ function_sum program f low in
    record {
      statements = summed_more statements_of program.funcs f c.loop-f.total c.statements_before_block-total.result (get_or program.funcs f no_function) (slice_get-get_or program.funcs f no_function low) all c.loop-f.invariant.statements;
      low = (let before = c.loop-f.invariant.low in let one = c.statements_before_block-total.ensures.low in let few = c.block_count.type_inv in omega arith);
    }
