-- What is looked up around an item.
--   IsScope scope   the returns are those of the program, and the first return and the labels are the function's
use Rattle.std.specs.Prelude.{◌≡◌}
use Rattle.alf_program.specs.Tree.{function_of}
use Rattle.alf_faults.specs.Returns.{first_return, returns_of}
use Rattle.alf_faults.specs.declared.scopes.Scope.{Scope}

pub record IsScope (scope : Scope) : Type 0 where
  pub returns : scope.returns.now ≡ returns_of scope.program.now.funcs.items
  pub first : scope.first ≡ first_return (function_of scope.func.now).items
  pub labels : scope.labels.now ≡ scope.func.now.items.items
