-- Laws of labels.
--   items_counts             a label stands as often in the items of a statement as its number is in the range, and then as often as in the rest
--   label_stands   each label that a function allocates stands once
use Rattle.std.proofs.Common.{◌≡◌, ◌<◌, ◌≤◌, ℕ, zero, suc, ◌+◌, ◌^◌, List, [], ◌∷◌, Option, Some, None, bytes_eq, refl, ◌∙◌, inl, inr, arith, eq-eqb, ne_eqb, lt-ltb, le-ltb}
use Rattle.std.specs.Prelude.{◌==◌}
use Rattle.std.proofs.lemmas.Bool.{cases_eq, cases_lt}
use Rattle.alf_program.specs.Tree.{NamedExpression, Address, BodyItem}
use Rattle.c_unit.specs.declared.types.Integer.{Integer}
use Rattle.c_unit.specs.declared.types.Scalar.{Scalar}
use Rattle.c_unit.specs.declared.types.Scalar.TheVariants as scalars
use Rattle.c_unit.specs.declared.types.Outcome.{Outcome}
use Rattle.c_unit.specs.declared.types.Outcome.TheVariants as outcomes
use Rattle.c_unit.specs.declared.types.Constant.{Constant}
use Rattle.c_unit.specs.Tree.{Expression, OfConstant, OfName, InParentheses, WithUnary, WithCast, AtIndex, WithBinary, ValueTree, OfExpression, OfCall, EffectTree, Assigns, Updates, Steps, Calls, LocalShapeTree, LocalInteger, LocalPointer, LocalArray, LocalTree, Statement, Empty, Declares, Block, If, IfElse, While, Do as DoWhile, For, ForAfter, Switch, Case, Default, Break, Continue, Returns, Does, Statements, Nothing, Then}
use Rattle.c_rules.specs.Names.{Scope}
use Rattle.c_rules.specs.Statements.{with_local, scopes_after}
use Rattle.c_meaning.specs.Values.{bytes_of_type}
use Rattle.c_meaning.specs.Objects.{Program, Function, count_at}
use Rattle.c_meaning.specs.Expressions.{kind_of}
use Rattle.c_meaning.specs.Statements.{further_elements}
use Rattle.c_lowered.specs.Names.{frame_of}
use Rattle.c_lowered.specs.Conditions.{Within, label, jump, label_item, condition_labels, branch, condition_items}
use Rattle.c_lowered.specs.Values.{is_true, test_of, value_of, address_of}
use Rattle.c_lowered.specs.Effects.{call_value, assign, value_items, effect_items, first_items, array_items, element_items, shape_items, locals_items, calls_in_shape}
use Rattle.c_lowered.specs.Statements.{Around, labels_if, is_case, cases_in, labels_in, labels_in_all, calls_if, calls_in, condition_if, effect_if, return_item, return_items, if_case, loop_items, Body, items_of, all_items_of, body_items}
use Rattle.c_lowered.specs.Programs.{last_return, nowhere, function_items}
use Rattle.lowering_simulation.specs.Counts.{one, count, below}
use Rattle.lowering_simulation.specs.ByOperatorLaws.{by_unary_both, by_binary_both}
use Rattle.lowering_simulation.specs.DistinctLaws.{same_labels}

module _ (within : Within) (k : ℕ) (low : k < 2 ^ 64) where
  abbrev name : List ℕ
  name = label within k

  -- how often the label stands in items
  abbrev times : List BodyItem → ℕ
  times items = count name items

  abbrev here : ℕ → ℕ
  here n = one (bytes_eq (label within n) name)

  -- one number more
  step : (n m : ℕ) → n < 2 ^ 64 → m ≡ n + 1 → here n + below n k ≡ below m k
  unfolding below
  step n m few is =
      let same : bytes_eq (label within n) name ≡ (n == k) = same_labels within n k few low in
      elim (cases_eq n k) [
        | inl e ↦ rw (same, eq-eqb n k e, le-ltb k n (omega arith), lt-ltb k m (omega arith)) refl
        | inr other ↦ elim (cases_lt k n) [
          | inl less ↦ rw (same, ne_eqb n k other, lt-ltb k n less, lt-ltb k m (omega arith)) refl
          | inr more ↦ rw (same, ne_eqb n k other, le-ltb k n more, le-ltb k m (omega arith)) refl
        ]
      ]

  -- ---- effects have no labels

  value_times : (scopes : List Scope) (value : ValueTree) (n : ℕ) (made : NamedExpression → BodyItem) (rest : List BodyItem)
      → ((e : NamedExpression) (items : List BodyItem) → times (made e ∷ items) ≡ times items) → times (value_items within scopes value n made rest) ≡ times rest
  value_times scopes (OfExpression e) n made rest plain = plain (value_of within.program scopes e) rest
  value_times scopes (OfCall call) n made rest plain = plain (call_value within call n) rest

  effect_times : (scopes : List Scope) (e : EffectTree) (n : ℕ) (rest : List BodyItem)
      → times (effect_items within scopes e n rest) ≡ times rest
  effect_times scopes (Assigns to token value) n rest =
      value_times scopes value n (assign (kind_of within.program.words scopes to) (address_of within.program scopes to)) rest (λ e items. refl)
  effect_times scopes (Updates to op token e) n rest = refl
  effect_times scopes (Steps operand up token) n rest = refl
  effect_times scopes (Calls call) n rest = refl

  element_times : (at : List ℕ) (kind : Integer) (offset many : ℕ) (cs : List Constant) (rest : List BodyItem)
      → times (element_items within.program at kind offset many cs rest) ≡ times rest
  element_times at kind offset zero cs rest = refl
  element_times at kind offset (suc many) cs rest = element_times at kind (offset + bytes_of_type kind) many (further_elements cs) rest

  first_times : (scopes : List Scope) (t : Scalar) (at : List ℕ) (first : Option ValueTree) (n : ℕ) (rest : List BodyItem)
      → times (first_items within scopes t at first n rest) ≡ times rest
  first_times scopes t at None n rest = refl
  first_times scopes t at (Some value) n rest = value_times scopes value n (assign t (Address at 0)) rest (λ e items. refl)

  array_times : (kind : Integer) (at : List ℕ) (token : ℕ) (firsts : Option (List Constant)) (rest : List BodyItem)
      → times (array_items within.program kind at token firsts rest) ≡ times rest
  array_times kind at token None rest = refl
  array_times kind at token (Some cs) rest = element_times at kind 0 (count_at within.program.words token) cs rest

  shape_times : (scopes : List Scope) (kind : Integer) (at : List ℕ) (shape : LocalShapeTree) (n : ℕ) (rest : List BodyItem)
      → times (shape_items within scopes kind at shape n rest) ≡ times rest
  shape_times scopes kind at (LocalInteger first) n rest = first_times scopes (scalars.Integer kind) at first n rest
  shape_times scopes kind at (LocalPointer first) n rest = first_times scopes (scalars.Pointer kind) at first n rest
  shape_times scopes kind at (LocalArray size firsts) n rest = array_times kind at size firsts rest

  locals_times : (kind : Integer) (scopes : List Scope) (locals : List LocalTree) (n : ℕ) (rest : List BodyItem)
      → times (locals_items within kind scopes locals n rest) ≡ times rest
  locals_times kind scopes [] n rest = refl
  locals_times kind scopes (local ∷ locals) n rest =
      shape_times (with_local kind scopes local) kind (frame_of within.program local.name) local.shape n
      (locals_items within kind (with_local kind scopes local) locals (n + calls_in_shape within.program local.shape) rest)
      ∙ locals_times kind (with_local kind scopes local) locals (n + calls_in_shape within.program local.shape) rest

  effect_if_times : (scopes : List Scope) (e : Option EffectTree) (n : ℕ) (rest : List BodyItem)
      → times (effect_if within scopes e n rest) ≡ times rest
  effect_if_times scopes None n rest = refl
  effect_if_times scopes (Some e) n rest = effect_times scopes e n rest

  return_times : (scopes : List Scope) (value : Option ValueTree) (n : ℕ) (rest : List BodyItem)
      → times (return_items within scopes value n rest) ≡ times rest
  return_times scopes None n rest = refl
  return_times scopes (Some value) n rest = value_times scopes value n (return_item within) rest (λ e items. refl)

  -- ---- conditions

  -- these items have the labels from n on, so many, and then the rest
  abbrev Range : ℕ → List BodyItem → List BodyItem → ℕ → Type 0
  Range n rest items many = (m : ℕ) → m ≡ n + many → m ≤ 2 ^ 64 → times items + below n k ≡ below m k + times rest

  no_labels : (n : ℕ) (rest items : List BodyItem) → times items ≡ times rest → Range n rest items 0
  no_labels n rest items same m is few = let at : m ≡ n = omega arith in rw (at, same) (omega arith)

  -- a second condition after a label
  second : (n many more : ℕ) (first last rest : List BodyItem) → Range (suc n) (label_item within n ∷ last) first many
      → Range (suc n + many) rest last more
      → Range n rest first (suc (many + more))
  second n many more first last rest a b m is few =
      omega (arith, step n (suc n) (omega arith) (omega arith), a (suc n + many) refl (omega arith), b m (omega arith) few)

  condition_counts : (scopes : List Scope) (e : Expression) (n : ℕ) (held failed : List ℕ) (rest : List BodyItem)
      → Range n rest (condition_items within scopes e n held failed rest) (condition_labels e)
  condition_counts scopes (OfConstant token) n held failed rest = no_labels n rest (condition_items within scopes (OfConstant token) n held failed rest) refl
  condition_counts scopes (OfName token) n held failed rest = no_labels n rest (condition_items within scopes (OfName token) n held failed rest) refl
  condition_counts scopes (InParentheses token inner) n held failed rest = condition_counts scopes inner n held failed rest
  condition_counts scopes (WithUnary op token operand) n held failed rest =
      let plain : List BodyItem = branch (is_true (value_of within.program scopes (WithUnary op token operand))) held failed ∷ rest in
      by_unary_both (Range n rest) op (condition_items within scopes operand n failed held rest) plain (condition_labels operand) 0
      (condition_counts scopes operand n failed held rest) (no_labels n rest plain refl)
  condition_counts scopes (WithCast token to operand) n held failed rest =
      no_labels n rest (condition_items within scopes (WithCast token to operand) n held failed rest) refl
  condition_counts scopes (AtIndex base token index) n held failed rest =
      no_labels n rest (condition_items within scopes (AtIndex base token index) n held failed rest) refl
  condition_counts scopes (WithBinary op token left right) n held failed rest =
      let last : List BodyItem = condition_items within scopes right (suc n + condition_labels left) held failed rest in
      let both : List BodyItem = condition_items within scopes left (suc n) (label within n) failed (label_item within n ∷ last) in
      let either : List BodyItem = condition_items within scopes left (suc n) held (label within n) (label_item within n ∷ last) in
      let plain : List BodyItem = branch (test_of op (kind_of within.program.words scopes left) (kind_of within.program.words scopes right)
      (value_of within.program scopes left) (value_of within.program scopes right)) held failed ∷ rest in
      let many : ℕ = condition_labels left in
      let more : ℕ = condition_labels right in
      by_binary_both (Range n rest) op both either plain (suc (many + more)) (suc (many + more)) 0
      (second n many more both last rest (condition_counts scopes left (suc n) (label within n) failed (label_item within n ∷ last)) (condition_counts scopes right (suc n + many) held failed rest))
      (second n many more either last rest (condition_counts scopes left (suc n) held (label within n) (label_item within n ∷ last)) (condition_counts scopes right (suc n + many) held failed rest))
      (no_labels n rest plain refl)

  condition_if_counts : (scopes : List Scope) (e : Option Expression) (n held failed : ℕ) (rest : List BodyItem)
      → Range n rest (condition_if within scopes e n held failed rest) (labels_if e)
  condition_if_counts scopes None n held failed rest = no_labels n rest (jump within held ∷ rest) refl
  condition_if_counts scopes (Some e) n held failed rest = condition_counts scopes e n (label within held) (label within failed) rest

  -- ---- loops and switches

  if_case_counts : (s : Statement) (cases m : ℕ) (items : List BodyItem) → m ≡ is_case s + cases → m ≤ 2 ^ 64
      → times (if_case within s cases items) + below cases k ≡ below m k + times items
  if_case_counts (Case token c) cases m items is few = omega (arith, step cases m (omega arith) (omega arith))
  if_case_counts (Default token) cases m items is few = omega (arith, step cases m (omega arith) (omega arith))
  if_case_counts _ cases m items is few = let at : m ≡ cases = omega arith in rw at (omega arith)

  loop_counts : (scopes : List Scope) (condition : Option Expression) (last : Option EffectTree) (body : Body) (many labels calls : ℕ) (rest : List BodyItem)
      → ((n d : ℕ) (around : Around) (others : List BodyItem) → Range n others (body n d around others) many)
      → Range labels rest (loop_items within scopes condition last body labels calls rest) (4 + labels_if condition + many)
  loop_counts scopes condition last body many labels calls rest bodies m is few =
      let b : ℕ = 4 + labels + labels_if condition in
      let end : List BodyItem = jump within labels ∷ label_item within (3 + labels) ∷ rest in
      let after : List BodyItem = label_item within (2 + labels) ∷ effect_if within scopes last calls end in
      let around : Around = record { break = label within (3 + labels); continue = label within (2 + labels) } in
      let inner : List BodyItem = body b (calls + calls_if within.program last) around after in
      omega (
        arith,
        step labels (1 + labels) (omega arith) (omega arith),
        step (1 + labels) (2 + labels) (omega arith) (omega arith),
        step (2 + labels) (3 + labels) (omega arith) (omega arith),
        step (3 + labels) (4 + labels) (omega arith) (omega arith),
        condition_if_counts scopes condition (4 + labels) (1 + labels) (3 + labels) (label_item within (1 + labels) ∷ inner) b refl (omega arith),
        bodies b (calls + calls_if within.program last) around after m (omega arith) few,
        effect_if_times scopes last calls end,
      )

  -- ---- statements

  mutual
    pub items_counts : (scopes : List Scope) (s : Statement) (labels calls : ℕ) (around : Around) (rest : List BodyItem)
        → Range labels rest (items_of within scopes s labels calls around rest) (labels_in s)
    items_counts scopes (Empty token) labels calls around rest m is few = no_labels labels rest rest refl m is few
    items_counts scopes (Declares first kind locals) labels calls around rest m is few =
        no_labels labels rest (locals_items within kind scopes locals calls rest) (locals_times kind scopes locals calls rest) m is few
    items_counts scopes (Block body) labels calls around rest m is few = all_items_counts ([] ∷ scopes) body labels calls around rest m is few
    items_counts scopes (If condition body) labels calls around rest m is few =
        let b : ℕ = 2 + labels + condition_labels condition in
        let end : List BodyItem = jump within (1 + labels) ∷ label_item within (1 + labels) ∷ rest in
        omega (
          arith,
          step labels (1 + labels) (omega arith) (omega arith),
          step (1 + labels) (2 + labels) (omega arith) (omega arith),
          condition_counts scopes condition (2 + labels) (label within labels) (label within (1 + labels))
              (label_item within labels ∷ items_of within ([] ∷ scopes) body b calls around end) b refl (omega arith),
          items_counts ([] ∷ scopes) body b calls around end m (omega arith) few,
        )
    items_counts scopes (IfElse condition body otherwise) labels calls around rest m is few =
        let b : ℕ = 3 + labels + condition_labels condition in
        let c : ℕ = 3 + labels + condition_labels condition + labels_in body in
        let d : ℕ = calls + calls_in within.program body in
        let end : List BodyItem = label_item within (2 + labels) ∷ rest in
        let middle : List BodyItem = jump within (2 + labels) ∷ label_item within (1 + labels) ∷ items_of within ([] ∷ scopes) otherwise c d around end in
        omega (
          arith,
          step labels (1 + labels) (omega arith) (omega arith),
          step (1 + labels) (2 + labels) (omega arith) (omega arith),
          step (2 + labels) (3 + labels) (omega arith) (omega arith),
          condition_counts scopes condition (3 + labels) (label within labels) (label within (1 + labels))
              (label_item within labels ∷ items_of within ([] ∷ scopes) body b calls around middle) b refl (omega arith),
          items_counts ([] ∷ scopes) body b calls around middle c refl (omega arith),
          items_counts ([] ∷ scopes) otherwise c d around end m (omega arith) few,
        )
    items_counts scopes (While condition body) labels calls around rest m is few =
        let b : ℕ = 3 + labels + condition_labels condition in
        let end : List BodyItem = jump within labels ∷ label_item within (2 + labels) ∷ rest in
        let inside : Around = record { break = label within (2 + labels); continue = label within labels } in
        omega (
          arith,
          step labels (1 + labels) (omega arith) (omega arith),
          step (1 + labels) (2 + labels) (omega arith) (omega arith),
          step (2 + labels) (3 + labels) (omega arith) (omega arith),
          condition_counts scopes condition (3 + labels) (label within (1 + labels)) (label within (2 + labels))
              (label_item within (1 + labels) ∷ items_of within ([] ∷ scopes) body b calls inside end) b refl (omega arith),
          items_counts ([] ∷ scopes) body b calls inside end m (omega arith) few,
        )
    items_counts scopes (DoWhile body condition) labels calls around rest m is few =
        let b : ℕ = 3 + labels + labels_in body in
        let end : List BodyItem = label_item within (2 + labels) ∷ rest in
        let inside : Around = record { break = label within (2 + labels); continue = label within (1 + labels) } in
        let test : List BodyItem = condition_items within scopes condition b (label within labels) (label within (2 + labels)) end in
        omega (
          arith,
          step labels (1 + labels) (omega arith) (omega arith),
          step (1 + labels) (2 + labels) (omega arith) (omega arith),
          step (2 + labels) (3 + labels) (omega arith) (omega arith),
          items_counts ([] ∷ scopes) body (3 + labels) calls inside (label_item within (1 + labels) ∷ test) b refl (omega arith),
          condition_counts scopes condition b (label within labels) (label within (2 + labels)) end m (omega arith) few,
        )
    items_counts scopes (For condition last body) labels calls around rest m is few =
        loop_counts scopes condition last (items_of within ([] ∷ scopes) body) (labels_in body) labels calls rest
        (λ n d inside others. items_counts ([] ∷ scopes) body n d inside others) m is few
    items_counts scopes (ForAfter first condition last body) labels calls around rest m is few =
        let inner : List Scope = scopes_after ([] ∷ scopes) first in
        let b : ℕ = labels + labels_in first in
        let d : ℕ = calls + calls_in within.program first in
        omega (
          arith,
          items_counts ([] ∷ scopes) first labels calls around (loop_items within inner condition last (items_of within ([] ∷ inner) body) b d rest) b refl (omega arith),
          loop_counts inner condition last (items_of within ([] ∷ inner) body) (labels_in body) b d rest
              (λ n e inside others. items_counts ([] ∷ inner) body n e inside others) m (omega arith) few,
        )
    items_counts scopes (Switch value body) labels calls around rest m is few =
        let c : ℕ = labels + cases_in body in
        let inside : Around = record { break = label within c; continue = around.continue } in
        omega (
          arith,
          step c (c + 1) (omega arith) (omega arith),
          body_counts ([] ∷ scopes) body labels (c + 1) calls inside (label_item within c ∷ rest) c m refl (omega arith) (omega arith) few,
        )
    items_counts scopes (Case token c) labels calls around rest m is few = no_labels labels rest rest refl m is few
    items_counts scopes (Default token) labels calls around rest m is few = no_labels labels rest rest refl m is few
    items_counts scopes (Break token) labels calls around rest m is few =
        no_labels labels rest (items_of within scopes (Break token) labels calls around rest) refl m is few
    items_counts scopes (Continue token) labels calls around rest m is few =
        no_labels labels rest (items_of within scopes (Continue token) labels calls around rest) refl m is few
    items_counts scopes (Returns token value) labels calls around rest m is few =
        no_labels labels rest (return_items within scopes value calls rest) (return_times scopes value calls rest) m is few
    items_counts scopes (Does effect) labels calls around rest m is few =
        no_labels labels rest (effect_items within scopes effect calls rest) (effect_times scopes effect calls rest) m is few

    pub all_items_counts : (scopes : List Scope) (ss : Statements) (labels calls : ℕ) (around : Around) (rest : List BodyItem)
        → Range labels rest (all_items_of within scopes ss labels calls around rest) (labels_in_all ss)
    all_items_counts scopes Nothing labels calls around rest m is few = no_labels labels rest rest refl m is few
    all_items_counts scopes (Then s ss) labels calls around rest m is few =
        let b : ℕ = labels + labels_in s in
        let others : List BodyItem = all_items_of within (scopes_after scopes s) ss b (calls + calls_in within.program s) around rest in
        omega (
          arith,
          items_counts scopes s labels calls around others b refl (omega arith),
          all_items_counts (scopes_after scopes s) ss b (calls + calls_in within.program s) around rest m (omega arith) few,
        )

    body_counts : (scopes : List Scope) (ss : Statements) (cases labels calls : ℕ) (around : Around) (rest : List BodyItem) (end m : ℕ)
        → end ≡ cases + cases_in ss → end ≤ 2 ^ 64 → m ≡ labels + labels_in_all ss → m ≤ 2 ^ 64
        → times (body_items within scopes ss cases labels calls around rest) + below labels k + below cases k ≡ below m k + below end k + times rest
    body_counts scopes Nothing cases labels calls around rest end m is few is' few' =
        let a : end ≡ cases = omega arith in let b : m ≡ labels = omega arith in rw (a, b) (omega arith)
    body_counts scopes (Then s ss) cases labels calls around rest end m is few is' few' =
        let b : ℕ = labels + labels_in s in
        let c : ℕ = is_case s + cases in
        let others : List BodyItem = body_items within (scopes_after scopes s) ss c b (calls + calls_in within.program s) around rest in
        omega (
          arith,
          if_case_counts s cases c (items_of within scopes s labels calls around others) refl (omega arith),
          items_counts scopes s labels calls around others b refl (omega arith),
          body_counts (scopes_after scopes s) ss c b (calls + calls_in within.program s) around rest end m (omega arith) few (omega arith) few',
        )

pub last_times : (name : List ℕ) (o : Outcome) → count name (last_return o ∷ []) ≡ 0
last_times name outcomes.Nothing = refl
last_times name (outcomes.Integer i) = refl

below_told : (n k : ℕ) → k < n → below n k ≡ 1
unfolding below
below_told n k low = rw (lt-ltb k n low) refl

below_none : (k : ℕ) → below 0 k ≡ 0
unfolding below
below_none k = rw (le-ltb k 0 (omega arith)) refl

-- each label that a function allocates stands once
pub label_stands : (program : Program) (f : ℕ) (function : Function) (k : ℕ) → k < labels_in_all function.body
    → labels_in_all function.body ≤ 2 ^ 64
    → count (label (record { program = program; function = f }) k) (function_items program f function) ≡ 1
label_stands program f function k low few =
    let within : Within = record { program = program; function = f } in
    let end : List BodyItem = last_return function.result ∷ [] in
    let small : k < 2 ^ 64 = omega arith in
    omega (
      arith,
      below_told (labels_in_all function.body) k low,
      below_none k,
      last_times (label within k) function.result,
      all_items_counts within k small function.scopes function.body 0 0 nowhere end (labels_in_all function.body) (omega arith) few,
    )
