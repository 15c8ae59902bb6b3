use Rattle.std.proofs.Common.{◌≡◌, map, take}
use Rattle.alf_program.specs.Tree.{program_of}
use Rattle.alf_check.specs.Numbered.{export_number}
use Rattle.alf_check.proofs.tables.export_numbers.Given as goal

abbrev pub invariant-loop-name : goal.invariant-loop-name
invariant-loop-name l = l.numbers.items ≡ map (export_number (program_of l.program)) (take l.name-index l.program.exports.items)
