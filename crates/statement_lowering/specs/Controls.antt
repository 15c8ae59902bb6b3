-- Statements with a part of their own, as what is put before the part and after it.
--   before_part within scopes control k rest   the items before the part of a statement whose labels are numbered from k on
--   labels_at control k          the number of the first label of the part
--   calls_at program control c   the number of the first call of the part
--   around_part within around control k        where `break` and `continue` lead in the part
--   after_part within scopes control k c m rest   the items after the part, up to which labels are numbered to m
--   labels_after control m       the number of the next label after the statement
--   last_label control k         the number of the last label that stands around the part
--   control_items within scopes control part k c around rest   all of them
use Rattle.std.specs.Prelude.{ℕ, ◌+◌, List, [], ◌∷◌}
use Rattle.std.specs.Option.{option_map}
use Rattle.alf_program.specs.Tree.{BodyItem}
use Rattle.c_unit.specs.Tree.{Statement, expression_of, effect_of}
use Rattle.c_rules.specs.Names.{Scope}
use Rattle.c_meaning.specs.Objects.{Program}
use Rattle.c_lowered.specs.Conditions.{Within, label, jump, label_item, condition_labels, condition_items}
use Rattle.c_lowered.specs.Statements.{Around, calls_if, condition_if, effect_if, items_of, labels_if, labels_in}
use Rattle.statement_lowering.specs.declared.controls.Control.{Control}
use Rattle.statement_lowering.specs.declared.controls.Control.TheVariants as controls

abbrev pub before_part : Within → List Scope → Control → ℕ → List BodyItem → List BodyItem
before_part within scopes (controls.If condition) k rest =
    condition_items within scopes (expression_of condition.now) (2 + k) (label within k) (label within (1 + k)) (label_item within k ∷ rest)
before_part within scopes (controls.Then condition) k rest =
    condition_items within scopes (expression_of condition.now) (3 + k) (label within k) (label within (1 + k)) (label_item within k ∷ rest)
before_part within scopes (controls.Else first) k rest = rest
before_part within scopes (controls.While condition) k rest =
    label_item within k ∷ condition_items within scopes (expression_of condition.now) (3 + k) (label within (1 + k)) (label within (2 + k))
    (label_item within (1 + k) ∷ rest)
before_part within scopes (controls.Do condition) k rest = label_item within k ∷ rest
before_part within scopes (controls.For condition last) k rest =
    label_item within k ∷ condition_if within scopes (option_map expression_of condition.now) (4 + k) (1 + k) (3 + k) (label_item within (1 + k) ∷ rest)

abbrev pub labels_at : Control → ℕ → ℕ
labels_at (controls.If condition) k = 2 + k + condition_labels (expression_of condition.now)
labels_at (controls.Then condition) k = 3 + k + condition_labels (expression_of condition.now)
labels_at (controls.Else first) k = k
labels_at (controls.While condition) k = 3 + k + condition_labels (expression_of condition.now)
labels_at (controls.Do condition) k = 3 + k
labels_at (controls.For condition last) k = 4 + k + labels_if (option_map expression_of condition.now)

abbrev pub calls_at : Program → Control → ℕ → ℕ
calls_at program (controls.If condition) c = c
calls_at program (controls.Then condition) c = c
calls_at program (controls.Else first) c = c
calls_at program (controls.While condition) c = c
calls_at program (controls.Do condition) c = c
calls_at program (controls.For condition last) c = c + calls_if program (option_map effect_of last.now)

abbrev pub around_part : Within → Around → Control → ℕ → Around
around_part within around (controls.If condition) k = around
around_part within around (controls.Then condition) k = around
around_part within around (controls.Else first) k = around
around_part within around (controls.While condition) k = record { break = label within (2 + k); continue = label within k }
around_part within around (controls.Do condition) k = record { break = label within (2 + k); continue = label within (1 + k) }
around_part within around (controls.For condition last) k = record { break = label within (3 + k); continue = label within (2 + k) }

abbrev pub after_part : Within → List Scope → Control → ℕ → ℕ → ℕ → List BodyItem → List BodyItem
after_part within scopes (controls.If condition) k c m rest = jump within (1 + k) ∷ label_item within (1 + k) ∷ rest
after_part within scopes (controls.Then condition) k c m rest = jump within (2 + k) ∷ label_item within (1 + k) ∷ rest
after_part within scopes (controls.Else first) k c m rest = label_item within (2 + first) ∷ rest
after_part within scopes (controls.While condition) k c m rest = jump within k ∷ label_item within (2 + k) ∷ rest
after_part within scopes (controls.Do condition) k c m rest =
    label_item within (1 + k) ∷ condition_items within scopes (expression_of condition.now) m (label within k) (label within (2 + k))
    (label_item within (2 + k) ∷ rest)
after_part within scopes (controls.For condition last) k c m rest =
    label_item within (2 + k) ∷ effect_if within scopes (option_map effect_of last.now) c (jump within k ∷ label_item within (3 + k) ∷ rest)

abbrev pub labels_after : Control → ℕ → ℕ
labels_after (controls.If condition) m = m
labels_after (controls.Then condition) m = m
labels_after (controls.Else first) m = m
labels_after (controls.While condition) m = m
labels_after (controls.Do condition) m = m + condition_labels (expression_of condition.now)
labels_after (controls.For condition last) m = m

abbrev pub last_label : Control → ℕ → ℕ
last_label (controls.If condition) k = 1 + k
last_label (controls.Then condition) k = 2 + k
last_label (controls.Else first) k = 2 + first
last_label (controls.While condition) k = 2 + k
last_label (controls.Do condition) k = 2 + k
last_label (controls.For condition last) k = 3 + k

abbrev pub control_items : Within → List Scope → Control → Statement → ℕ → ℕ → Around → List BodyItem → List BodyItem
control_items within scopes control part k c around rest =
    before_part within scopes control k
    (items_of within ([] ∷ scopes) part (labels_at control k) (calls_at within.program control c) (around_part within around control k)
    (after_part within scopes control k c (labels_at control k + labels_in part) rest))
