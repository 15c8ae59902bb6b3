-- Statements, lowered to the items of a function.
--   Around                   where `break` and `continue` lead
--   labels_in s, labels_in_all ss       how many labels statements allocate
--   calls_in s, calls_in_all program ss   how many calls of functions that give something stand in them
--   cases_in ss              how many labels of a switch stand in its body
--   items_of within scopes s labels calls around rest   the items of a statement, whose labels and calls are numbered from these on,
--                            and `rest` after them
--   all_items_of within scopes ss labels calls around rest   those of statements in a row
--   body_items within scopes ss cases labels calls around rest   those of the body of a switch, whose cases have labels from `cases` on
-- Labels are numbered as they are allocated: those of a statement before those of its parts. Calls are numbered in the
-- order of the text: so in a `for` those of the last part come before those of the body.
use Rattle.std.specs.Prelude.{ℕ, suc, ◌+◌, List, [], ◌∷◌, Option, Some, None}
use Rattle.std.specs.Option.{option_map_or}
use Rattle.alf_program.specs.declared.program.Num.{Num}
use Rattle.alf_program.specs.Tree.{NamedExpression, Jump, Switch, Return, BodyItem, Do}
use Rattle.c_unit.specs.declared.types.Integer.{Integer}
use Rattle.c_unit.specs.declared.types.Outcome.{Outcome}
use Rattle.c_unit.specs.declared.types.Outcome.TheVariants as outcomes
use Rattle.c_unit.specs.Tree.{Expression, ValueTree, EffectTree, Statement, Empty, Declares, Block, If, IfElse, While, Do as DoWhile, For, ForAfter, Switch as SwitchOn, Case, Default, Break, Continue, Returns, Does, Statements, Nothing, Then}
use Rattle.c_rules.specs.Names.{Scope}
use Rattle.c_rules.specs.Statements.{scopes_after, label_of}
use Rattle.c_meaning.specs.Values.{is_signed, left_type}
use Rattle.c_meaning.specs.Objects.{Program, function_at}
use Rattle.c_meaning.specs.Expressions.{kind_of}
use Rattle.c_lowered.specs.Values.{cut, value_of}
use Rattle.c_lowered.specs.Conditions.{Within, label, jump, label_item, condition_labels, condition_items}
use Rattle.c_lowered.specs.Effects.{calls_in_value, value_items, calls_in_effect, effect_items, calls_in_locals, locals_items}

-- the labels to which `break` and `continue` lead
pub record Around : Type 0 where
  pub break : List ℕ
  pub continue : List ℕ

-- ---- counts

abbrev pub labels_if : Option Expression → ℕ
labels_if condition = option_map_or condition_labels condition 0

abbrev pub is_case : Statement → ℕ
is_case (Case token c) = 1
is_case (Default token) = 1
is_case _ = 0

-- the labels of a switch, of which each has one
abbrev pub cases_in : Statements → ℕ
cases_in Nothing = 0
cases_in (Then s rest) = is_case s + cases_in rest

abbrev mutual
  pub labels_in : Statement → ℕ
  labels_in (Empty token) = 0
  labels_in (Declares first kind locals) = 0
  labels_in (Block body) = labels_in_all body
  labels_in (If condition body) = 2 + condition_labels condition + labels_in body
  labels_in (IfElse condition body otherwise) = 3 + condition_labels condition + labels_in body + labels_in otherwise
  labels_in (While condition body) = 3 + condition_labels condition + labels_in body
  labels_in (DoWhile body condition) = 3 + labels_in body + condition_labels condition
  labels_in (For condition last body) = 4 + labels_if condition + labels_in body
  labels_in (ForAfter first condition last body) = labels_in first + (4 + labels_if condition + labels_in body)
  labels_in (SwitchOn value body) = cases_in body + 1 + labels_in_all body
  labels_in (Case token c) = 0
  labels_in (Default token) = 0
  labels_in (Break token) = 0
  labels_in (Continue token) = 0
  labels_in (Returns token value) = 0
  labels_in (Does effect) = 0

  pub labels_in_all : Statements → ℕ
  labels_in_all Nothing = 0
  labels_in_all (Then s rest) = labels_in s + labels_in_all rest

abbrev pub calls_if : Program → Option EffectTree → ℕ
calls_if program effect = option_map_or (calls_in_effect program) effect 0

abbrev pub calls_in_returned : Program → Option ValueTree → ℕ
calls_in_returned program value = option_map_or (calls_in_value program) value 0

abbrev mutual
  pub calls_in : Program → Statement → ℕ
  calls_in program (Empty token) = 0
  calls_in program (Declares first kind locals) = calls_in_locals program locals
  calls_in program (Block body) = calls_in_all program body
  calls_in program (If condition body) = calls_in program body
  calls_in program (IfElse condition body otherwise) = calls_in program body + calls_in program otherwise
  calls_in program (While condition body) = calls_in program body
  calls_in program (DoWhile body condition) = calls_in program body
  calls_in program (For condition last body) = calls_if program last + calls_in program body
  calls_in program (ForAfter first condition last body) = calls_in program first + (calls_if program last + calls_in program body)
  calls_in program (SwitchOn value body) = calls_in_all program body
  calls_in program (Case token c) = 0
  calls_in program (Default token) = 0
  calls_in program (Break token) = 0
  calls_in program (Continue token) = 0
  calls_in program (Returns token value) = calls_in_returned program value
  calls_in program (Does effect) = calls_in_effect program effect

  pub calls_in_all : Program → Statements → ℕ
  calls_in_all program Nothing = 0
  calls_in_all program (Then s rest) = calls_in program s + calls_in_all program rest

-- ---- parts of statements

-- without a condition a jump to the body
abbrev pub condition_if : Within → List Scope → Option Expression → ℕ → ℕ → ℕ → List BodyItem → List BodyItem
condition_if within scopes None next held failed rest = jump within held ∷ rest
condition_if within scopes (Some e) next held failed rest = condition_items within scopes e next (label within held) (label within failed) rest

abbrev pub effect_if : Within → List Scope → Option EffectTree → ℕ → List BodyItem → List BodyItem
effect_if within scopes None calls rest = rest
effect_if within scopes (Some effect) calls rest = effect_items within scopes effect calls rest

-- ---- returns

abbrev pub as_result : Outcome → NamedExpression → NamedExpression
as_result outcomes.Nothing value = value
as_result (outcomes.Integer i) value = cut i value

abbrev pub result_within : Within → Outcome
result_within within = (function_at within.program within.function).result

abbrev pub return_item : Within → NamedExpression → BodyItem
return_item within value = Do (Return (Some (as_result (result_within within) value)))

abbrev pub return_items : Within → List Scope → Option ValueTree → ℕ → List BodyItem → List BodyItem
return_items within scopes None calls rest = Do (Return None) ∷ rest
return_items within scopes (Some value) calls rest = value_items within scopes value calls (return_item within) rest

-- ---- switches

abbrev pub target : Within → Integer → ℕ → ℕ → Num × List ℕ
target within i word k = (record { signed = is_signed i; size = 32; bits = word }, label within k)

-- the targets of a switch on a value of the type, whose labels are numbered from k on
abbrev pub targets_in : Within → Integer → ℕ → Statements → List (Num × List ℕ)
targets_in within i k Nothing = []
targets_in within i k (Then (Case token c) rest) = target within i (label_of within.program.words c) k ∷ targets_in within i (suc k) rest
targets_in within i k (Then s rest) = targets_in within i (is_case s + k) rest

-- the label of the default, else this one
abbrev pub default_in : Within → ℕ → ℕ → Statements → List ℕ
default_in within k otherwise Nothing = label within otherwise
default_in within k otherwise (Then (Default token) rest) = label within k
default_in within k otherwise (Then s rest) = default_in within (is_case s + k) otherwise rest

-- the promoted type of the value
abbrev pub switch_type : Within → List Scope → Expression → Integer
switch_type within scopes value = left_type (kind_of within.program.words scopes value)

abbrev pub switch_item : Within → List Scope → Expression → Statements → ℕ → ℕ → BodyItem
switch_item within scopes value body k otherwise =
    Do (Switch (value_of within.program scopes value) (targets_in within (switch_type within scopes value) k body) (default_in within k otherwise body))

-- the label of a case or a default before its items
abbrev pub if_case : Within → Statement → ℕ → List BodyItem → List BodyItem
if_case within (Case token c) k items = label_item within k ∷ items
if_case within (Default token) k items = label_item within k ∷ items
if_case within _ k items = items

-- ---- loops

-- the items of a loop's body, whose labels and calls are numbered from these on
abbrev pub Body : Type 0
Body = ℕ → ℕ → Around → List BodyItem → List BodyItem

-- a `for` without its first part
abbrev pub loop_items : Within → List Scope → Option Expression → Option EffectTree → Body → ℕ → ℕ → List BodyItem
    → List BodyItem
loop_items within scopes condition last body labels calls rest =
    label_item within labels ∷ condition_if within scopes condition (4 + labels) (1 + labels) (3 + labels)
    (label_item within (1 + labels) ∷ body (4 + labels + labels_if condition) (calls + calls_if within.program last)
    (record { break = label within (3 + labels); continue = label within (2 + labels) })
    (label_item within (2 + labels) ∷ effect_if within scopes last calls
    (jump within labels ∷ label_item within (3 + labels) ∷ rest)))

-- ---- statements

abbrev mutual
  pub items_of : Within → List Scope → Statement → ℕ → ℕ → Around → List BodyItem → List BodyItem
  items_of within scopes (Empty token) labels calls around rest = rest
  items_of within scopes (Declares first kind locals) labels calls around rest = locals_items within kind scopes locals calls rest
  items_of within scopes (Block body) labels calls around rest = all_items_of within ([] ∷ scopes) body labels calls around rest
  items_of within scopes (If condition body) labels calls around rest =
      condition_items within scopes condition (2 + labels) (label within labels) (label within (1 + labels))
      (label_item within labels ∷ items_of within ([] ∷ scopes) body (2 + labels + condition_labels condition) calls around
      (jump within (1 + labels) ∷ label_item within (1 + labels) ∷ rest))
  items_of within scopes (IfElse condition body otherwise) labels calls around rest =
      condition_items within scopes condition (3 + labels) (label within labels) (label within (1 + labels))
      (label_item within labels ∷ items_of within ([] ∷ scopes) body (3 + labels + condition_labels condition) calls around
      (jump within (2 + labels) ∷ label_item within (1 + labels)
      ∷ items_of within ([] ∷ scopes) otherwise (3 + labels + condition_labels condition + labels_in body) (calls + calls_in within.program body) around
      (label_item within (2 + labels) ∷ rest)))
  items_of within scopes (While condition body) labels calls around rest =
      label_item within labels ∷ condition_items within scopes condition (3 + labels) (label within (1 + labels)) (label within (2 + labels))
      (label_item within (1 + labels) ∷ items_of within ([] ∷ scopes) body (3 + labels + condition_labels condition) calls
      (record { break = label within (2 + labels); continue = label within labels })
      (jump within labels ∷ label_item within (2 + labels) ∷ rest))
  items_of within scopes (DoWhile body condition) labels calls around rest =
      label_item within labels ∷ items_of within ([] ∷ scopes) body (3 + labels) calls
      (record { break = label within (2 + labels); continue = label within (1 + labels) })
      (label_item within (1 + labels) ∷ condition_items within scopes condition (3 + labels + labels_in body) (label within labels) (label within (2 + labels))
      (label_item within (2 + labels) ∷ rest))
  items_of within scopes (For condition last body) labels calls around rest = loop_items within scopes condition last (items_of within ([] ∷ scopes) body) labels calls rest
  items_of within scopes (ForAfter first condition last body) labels calls around rest =
      items_of within ([] ∷ scopes) first labels calls around
      (loop_items within (scopes_after ([] ∷ scopes) first) condition last (items_of within ([] ∷ scopes_after ([] ∷ scopes) first) body) (labels + labels_in first) (calls + calls_in within.program first) rest)
  items_of within scopes (SwitchOn value body) labels calls around rest =
      switch_item within scopes value body labels (labels + cases_in body)
      ∷ body_items within ([] ∷ scopes) body labels (labels + cases_in body + 1) calls (record { break = label within (labels + cases_in body); continue = around.continue })
      (label_item within (labels + cases_in body) ∷ rest)
  items_of within scopes (Case token c) labels calls around rest = rest
  items_of within scopes (Default token) labels calls around rest = rest
  items_of within scopes (Break token) labels calls around rest = Do (Jump around.break) ∷ rest
  items_of within scopes (Continue token) labels calls around rest = Do (Jump around.continue) ∷ rest
  items_of within scopes (Returns token value) labels calls around rest = return_items within scopes value calls rest
  items_of within scopes (Does effect) labels calls around rest = effect_items within scopes effect calls rest

  pub all_items_of : Within → List Scope → Statements → ℕ → ℕ → Around → List BodyItem → List BodyItem
  all_items_of within scopes Nothing labels calls around rest = rest
  all_items_of within scopes (Then s ss) labels calls around rest =
      items_of within scopes s labels calls around
      (all_items_of within (scopes_after scopes s) ss (labels + labels_in s) (calls + calls_in within.program s) around rest)

  pub body_items : Within → List Scope → Statements → ℕ → ℕ → ℕ → Around → List BodyItem → List BodyItem
  body_items within scopes Nothing cases labels calls around rest = rest
  body_items within scopes (Then s ss) cases labels calls around rest =
      if_case within s cases
      (items_of within scopes s labels calls around
      (body_items within (scopes_after scopes s) ss (is_case s + cases) (labels + labels_in s) (calls + calls_in within.program s) around rest))
