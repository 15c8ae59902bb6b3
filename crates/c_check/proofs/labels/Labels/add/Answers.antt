-- One constant more.
use Rattle.std.proofs.Common.{◌≡◌, List, ℕ, ◌∷◌, false, reverse, ap, ◌∙◌}
use Rattle.c_rules.specs.Statements.{is_label}
use Rattle.c_check.specs.Surroundings.{Marks}
use Rattle.c_check.proofs.Marked.{one_more}
use Rattle.c_check.proofs.labels.Labels.add.Goals as goal

pub returns : goal.returns
returns c =
    let keys = c.self.inside.constants.keys in
    let new : is_label (reverse keys) c.args.constant ≡ false = ap (λ (marks : Marks). is_label marks.labels c.args.constant) c.self.view_is ∙ c.requires in
    let more = one_more keys c.insert.new.self.keys c.args.constant new c.in_ok-insert.ensures.keys in
    let marked : Marks → Marks = λ marks. record { labels = c.args.constant ∷ marks.labels; has_default = marks.has_default } in
    let constants : List ℕ → Marks = λ labels. record { labels = labels; has_default = c.self.inside.has_default } in
    ap constants more ∙ ap marked c.self.view_is
