-- A function that is defined before has a number below the count.
use Rattle.std.proofs.Common.{ap, sym, ◌∙◌}
use Rattle.c_scopes.proofs.Counting.{is_below, defined_before}
use Rattle.c_scopes.proofs.definitions.Definitions.is_defined_before.Goals as goal

pub returns-in-Some : goal.returns-in-Some
returns-in-Some c = ap (is_below c.args.count) (sym c.in-Some.is ∙ c.number_at.ensures) ∙ defined_before c.args.self.now.words c.args.self.now.names c.args.token c.args.count

pub returns-in-None : goal.returns-in-None
returns-in-None c = ap (is_below c.args.count) (sym c.in-None.is ∙ c.number_at.ensures) ∙ defined_before c.args.self.now.words c.args.self.now.names c.args.token c.args.count
