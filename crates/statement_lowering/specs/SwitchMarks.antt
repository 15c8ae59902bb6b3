-- What statements are to the switch in whose body they stand.
--   labels_by mark                    how many labels it allocates
--   targets_by mark within i k others its target, if it has one, before others
--   default_by mark here others       here, where it is the default, else others
--   case_by mark within k items       its label before items
use Rattle.std.specs.Prelude.{ℕ, List, ◌∷◌}
use Rattle.alf_program.specs.declared.program.Num.{Num}
use Rattle.alf_program.specs.Tree.{BodyItem}
use Rattle.c_unit.specs.declared.types.Integer.{Integer}
use Rattle.c_rules.specs.Statements.{label_of}
use Rattle.c_lowered.specs.Conditions.{Within, label_item}
use Rattle.c_lowered.specs.Statements.{target}
use Rattle.statement_lowering.specs.declared.switch_labels.Mark.{Mark}
use Rattle.statement_lowering.specs.declared.switch_labels.Mark.TheVariants as marks

abbrev pub labels_by : Mark → ℕ
labels_by (marks.Case c) = 1
labels_by marks.Default = 1
labels_by marks.Neither = 0

abbrev pub targets_by : Mark → Within → Integer → ℕ → List (Num × List ℕ) → List (Num × List ℕ)
targets_by (marks.Case c) within i k others = target within i (label_of within.program.words c) k ∷ others
targets_by marks.Default within i k others = others
targets_by marks.Neither within i k others = others

abbrev pub default_by : Mark → List ℕ → List ℕ → List ℕ
default_by (marks.Case c) here others = others
default_by marks.Default here others = here
default_by marks.Neither here others = others

abbrev pub case_by : Mark → Within → ℕ → List BodyItem → List BodyItem
case_by (marks.Case c) within k items = label_item within k ∷ items
case_by marks.Default within k items = label_item within k ∷ items
case_by marks.Neither within k items = items
