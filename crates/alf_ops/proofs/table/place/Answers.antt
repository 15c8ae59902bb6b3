use denote.Enum.Declared.{tag_of}
use Rattle.std.proofs.Common.{◌≡◌, refl, Some}
use Rattle.std.specs.List.{slice_get}
use Rattle.alf_ops.specs.contracts.operator.Op.{the_type}
use Rattle.alf_ops.specs.declared.operator.Op.{Op}
use Rattle.alf_ops.specs.declared.operator.Op.TheVariants.{Neg}
use Rattle.alf_ops.specs.Names.{operators}
use Rattle.alf_ops.proofs.table.place.Goals as goal

pub returns-clause-row : goal.returns-clause-row
returns-clause-row c = elim c.args.op as (λ (op : Op). slice_get operators (tag_of the_type op) ≡ Some op) [ Neg ↦ refl | _ ↦ refl ]
