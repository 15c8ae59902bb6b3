-- A function that is defined has a number.
use Rattle.std.proofs.Common.{is_some, ap, ◌∙◌}
use Rattle.c_scopes.proofs.Counting.{defined_named}
use Rattle.c_scopes.proofs.definitions.Definitions.is_defined.Goals as goal

pub returns : goal.returns
returns c = c.is_some.ensures ∙ ap is_some c.number_at.ensures ∙ defined_named c.args.self.now.words c.args.self.now.names c.args.token
