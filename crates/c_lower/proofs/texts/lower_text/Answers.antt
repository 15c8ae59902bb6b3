-- What is left to show of `lower_text`.
use Rattle.std.proofs.Common.{◌≡◌, ◌≤◌, length, ap, sym, ◌∙◌, subst, rules, arith}
use Rattle.alf_program.specs.Tree.{program_of as text_of}
use Rattle.alf_program.specs.Writable.{IsWritable}
use Rattle.c_unit.specs.declared.unit.CUnit.{CUnit}
use Rattle.c_unit.specs.Units.{UnitTree, unit_of}
use Rattle.c_lowered.specs.Programs.{lowered}
use Rattle.c_meaning.specs.Objects.{program_of}
use Rattle.object_layout.specs.Room.{HasRoom}
use Rattle.c_lower.specs.Walk.{HaveFewNumbers}
use Rattle.c_lower.specs.Passing.{TextHasFewTokens}
use Rattle.c_lower.proofs.Made.{few_tokens}
use Rattle.c_lower.proofs.texts.lower_text.Goals as goal

pub lower_unit-requires-clause-room : goal.lower_unit-requires-clause-room
lower_unit-requires-clause-room c =
    subst (λ (u : CUnit). HasRoom (unit_of u)) (sym c.unit-unit.ensures)
    (c.spelled_units_have_room.ensures (unit_of c.args.program.now.unit) c.keeps.ensures.spelled)

pub lower_unit-requires-clause-few : goal.lower_unit-requires-clause-few
lower_unit-requires-clause-few c =
    let unit : UnitTree = unit_of c.args.program.now.unit in
    let same : c.unit-unit.result.now ≡ c.args.program.now.unit = c.unit-unit.ensures in
    let low : length c.unit-unit.result.now.tokens.items ≤ 4294967296 = search rules in
    let few : TextHasFewTokens unit = subst (λ (u : CUnit). TextHasFewTokens (unit_of u)) same (few_tokens c.unit-unit.result.now (omega arith)) in
    let passes = c.keeps.ensures.passes in
    subst (λ (u : CUnit). HaveFewNumbers (program_of (unit_of u)) (unit_of u).externals) (sym same)
    (c.spelled_programs_have_few_numbers.ensures unit c.args.program.now.root passes.ranks passes.is_program c.keeps.ensures.spelled few)

pub returns : goal.returns
returns c =
    let unit : UnitTree = unit_of c.args.program.now.unit in
    let same : c.unit-unit.result.now ≡ c.args.program.now.unit = c.unit-unit.ensures in
    let low : length c.unit-unit.result.now.tokens.items ≤ 4294967296 = search rules in
    let few : TextHasFewTokens unit = subst (λ (u : CUnit). TextHasFewTokens (unit_of u)) same (few_tokens c.unit-unit.result.now (omega arith)) in
    let whole : text_of c.in_ok-text.text ≡ lowered unit = c.in_ok-text.ensures.lowered ∙ ap (λ (u : CUnit). lowered (unit_of u)) same in
    let root = c.args.program.now.root in
    let ranks = c.keeps.ensures.passes.ranks in
    let passes = c.keeps.ensures.passes.is_program in
    let spelled = c.keeps.ensures.spelled in
    record {
      lowered = whole;
      writable = subst IsWritable (sym whole) (c.spelled_programs_pass.ensures.written unit root ranks passes spelled few);
      passes = c.spelled_programs_pass.ensures.passes unit root ranks passes spelled few;
      outcomes = λ program is rows numbers keep within.
          c.spelled_programs_have_the_outcome_of_their_unit.ensures.starts unit root ranks program rows numbers spelled few passes is keep within;
    }
