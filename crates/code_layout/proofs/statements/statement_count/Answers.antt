-- All functions are those before the end.
use Rattle.std.proofs.Common.{ℕ, List, length, take, ap, ◌∙◌, arith}
use Rattle.std.specs.Prelude.{sum_by}
use Rattle.std.proofs.lemmas.List.{take_all}
use Rattle.alf_check.specs.CheckedPrograms.{NumberedProgram, NumberedFunction, seen}
use Rattle.code_layout.specs.Layouts.{statements_of}
use Rattle.code_layout.proofs.statements.statement_count.Goals as goal

pub returns : goal.returns
returns c =
    let program : NumberedProgram = seen c.args.checked.now in
    c.statements_before_function.ensures.statements
    ∙ ap (λ (n : ℕ). sum_by statements_of (take n program.funcs)) c.func_count.ensures
    ∙ ap (λ (functions : List NumberedFunction). sum_by statements_of functions) (take_all (length program.funcs) program.funcs (omega arith))
