-- Whether a constant is a label.
use Rattle.std.proofs.Common.{ap, ◌∙◌}
use Rattle.c_rules.specs.Statements.{is_label}
use Rattle.c_check.specs.Surroundings.{Marks}
use Rattle.c_check.proofs.Marked.{turned}
use Rattle.c_check.proofs.labels.Labels.has.Goals as goal

pub returns : goal.returns
returns c = c.contains.ensures ∙ turned c.self.inside.constants.keys c.args.constant ∙ ap (λ (marks : Marks). is_label marks.labels c.args.constant) c.self.view_is
