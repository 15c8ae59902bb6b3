-- What is left to show of `lower`.
use Rattle.std.proofs.Common.{◌≡◌, List, ℕ, ap, sym, ◌∙◌, subst}
use Rattle.alf_program.specs.Tree.{WholeProgram, program_of}
use Rattle.alf_program.specs.Writable.{IsWritable}
use Rattle.alf_check.specs.CheckedPrograms.{seen}
use Rattle.alf_check.specs.Numbered.{numbered}
use Rattle.alf_check.specs.Checking.{Passes}
use Rattle.c_unit.specs.Units.{UnitTree, unit_of}
use Rattle.c_lowered.specs.Programs.{lowered}
use Rattle.c_lower.proofs.Made.{is_lowered}
use Rattle.c_lower.proofs.programs.lower.Goals as goal

pub number-requires-clause-passes : goal.number-requires-clause-passes
number-requires-clause-passes c =
    let root : c.root.result.now ≡ c.args.program.now.root = c.root.ensures in
    subst (λ (name : List ℕ). Passes (program_of c.in_ok-text.text) name) (sym root)
    (subst (λ (whole : WholeProgram). Passes whole c.args.program.now.root) (sym c.in_ok-text.ensures.lowered) c.in_ok-text.ensures.passes)

pub returns : goal.returns
returns c =
    let unit : UnitTree = unit_of c.args.program.now.unit in
    let root = c.args.program.now.root in
    let program = seen c.in_ok-checked.checked in
    let named : c.root.result.now ≡ root = c.root.ensures in
    let writable : IsWritable (lowered unit) = subst IsWritable c.in_ok-text.ensures.lowered c.in_ok-text.ensures.writable in
    let passes : Passes (lowered unit) root = c.in_ok-text.ensures.passes in
    let numbers : program ≡ numbered (lowered unit) root =
    c.in_ok-checked.ensures ∙ ap (λ (name : List ℕ). numbered (program_of c.in_ok-text.text) name) named
    ∙ ap (λ (whole : WholeProgram). numbered whole root) c.in_ok-text.ensures.lowered in
    record {
      passes = passes;
      numbered = numbers;
      outcomes = λ rows given keep within. c.in_ok-text.ensures.outcomes program (is_lowered unit root program c.keeps.ensures writable passes numbers) rows given keep within;
    }
