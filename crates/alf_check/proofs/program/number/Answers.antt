use Rattle.std.proofs.Common.{◌≡◌, ◌<◌, ◌∙◌, map, length, subst, sym, ap, arith, rules}
use Rattle.std.proofs.lemmas.List.{length-map}
use Rattle.alf_program.specs.Tree.{function_of, program_of}
use Rattle.alf_check.specs.CheckedPrograms.{CheckedParts, function_in, seen}
use Rattle.alf_check.specs.Numbers.{frame_rows, func_number}
use Rattle.alf_check.specs.Numbered.{numbered_inits, functions_from, export_number, numbered}
use Rattle.alf_check.specs.Kept.{IsBounded, IsKept}
use Rattle.alf_check.proofs.Places.{count_rows}
use Rattle.alf_check.proofs.Kept.{count_functions, kept}
use Rattle.alf_check.proofs.program.number.Goals as goal

pub all_functions-requires-clause-frames : goal.all_functions-requires-clause-frames
all_functions-requires-clause-frames c =
    omega (arith, count_rows (program_of c.args.program.now), ap length c.in_ok-frames.ensures.rows, c.in_ok-frames.ensures.few)

pub invariant_of-result : goal.invariant_of-result
invariant_of-result c =
    let whole = program_of c.args.program.now in
    let parts : CheckedParts = record { frames = c.in_ok-frames.frames.items; funcs = c.in_ok-funcs.funcs.items; inits = c.in_ok-inits.inits.items; exports = c.in_ok-exports.exports.items; root = c.func_number.result } in
    let frames : parts.frames ≡ frame_rows whole = search rules in
    let funcs : map function_in parts.funcs ≡ functions_from whole (length whole.decls) whole.funcs = search rules in
    let inits : parts.inits ≡ numbered_inits 0 whole.decls whole.inits = search rules in
    let exports : parts.exports ≡ map (export_number whole) whole.exports = search rules in
    let root : parts.root ≡ func_number whole.funcs c.args.root.now = search rules in
    let is : seen parts ≡ numbered whole c.args.root.now = λ j. record { frames = frames j; funcs = funcs j; inits = inits j; exports = exports j; root = root j } in
    let few : IsBounded (seen parts) = record {
      frames = c.in_ok-frames.ensures.few;
      funcs = (let few : length c.args.program.now.funcs.items < 4294967295 = search rules in omega (arith, ap length funcs ∙ count_functions whole (length whole.decls) whole.funcs ∙ length-map c.args.program.now.funcs.items function_of));
      exports = c.in_ok-exports.ensures.few;
      blocks = c.in_ok-funcs.ensures.few;
    } in
    subst IsKept (sym is) (kept whole c.args.root.now ((c.no_fault_is_by_parts.ensures whole).0 c.requires.passes.sound) c.requires.writable c.requires.passes (subst IsBounded is few))
