-- What the code's names stand for.
--   numbers_of names   the number of each name
use Rattle.std.specs.Prelude.{map}
use Rattle.alf_program.specs.Tree.{allocation_of, item_of, function_of}
use Rattle.alf_check.specs.Numbers.{Numbers, frame_number, func_number, block_number}
use Rattle.alf_check.specs.declared.lookup.Names.{Names}

abbrev pub numbers_of : Names → Numbers
numbers_of names = record {
  frame = frame_number (map allocation_of names.globals.now) (map allocation_of names.args.now) (map allocation_of names.decls.now) names.first_arg names.first_decl;
  func = func_number (map function_of names.funcs.now);
  block = block_number (map item_of names.labels);
}
