-- Laws of places.
--   after_items              where the items of a statement stand, what follows them stands
--   tail   so do the items after the first
use Rattle.std.proofs.Common.{ℕ, zero, suc, ◌+◌, List, [], ◌∷◌, ◌++◌, Option, Some, None, refl, ◌∙◌, append_assoc}
use Rattle.alf_program.specs.Tree.{NamedExpression, Address, BodyItem, Label, Do}
use Rattle.c_unit.specs.declared.types.Integer.{Integer}
use Rattle.c_unit.specs.declared.types.Scalar.{Scalar}
use Rattle.c_unit.specs.declared.types.Scalar.TheVariants as scalars
use Rattle.c_unit.specs.declared.types.Constant.{Constant}
use Rattle.c_unit.specs.Tree.{Expression, OfConstant, OfName, InParentheses, WithUnary, WithCast, AtIndex, WithBinary, ValueTree, OfExpression, OfCall, EffectTree, Assigns, Updates, Steps, Calls, LocalShapeTree, LocalInteger, LocalPointer, LocalArray, LocalTree, Statement, Empty, Declares, Block, If, IfElse, While, Do as DoWhile, For, ForAfter, Switch, Case, Default, Break, Continue, Returns, Does, Statements, Nothing, Then}
use Rattle.c_rules.specs.Names.{Scope}
use Rattle.c_rules.specs.Statements.{with_local, scopes_after}
use Rattle.c_meaning.specs.Values.{bytes_of_type}
use Rattle.c_meaning.specs.Objects.{count_at}
use Rattle.c_meaning.specs.Expressions.{kind_of}
use Rattle.c_meaning.specs.Statements.{further_elements}
use Rattle.c_lowered.specs.Names.{frame_of}
use Rattle.c_lowered.specs.Conditions.{Within, label, jump, label_item, condition_labels, branch, condition_items}
use Rattle.c_lowered.specs.Values.{is_true, test_of, value_of, address_of}
use Rattle.c_lowered.specs.Effects.{call_value, assign, value_items, effect_items, first_items, array_items, element_items, shape_items, locals_items, calls_in_shape}
use Rattle.c_lowered.specs.Statements.{Around, labels_if, is_case, cases_in, labels_in, calls_if, calls_in, condition_if, effect_if, return_item, return_items, if_case, loop_items, Body, items_of, all_items_of, body_items}
use Rattle.lowering_simulation.specs.ByOperatorLaws.{by_unary_both, by_binary_both}
use Rattle.lowering_simulation.specs.Places.{Stands, Follows}

pub stands_all : (all : List BodyItem) → Stands all all
stands_all all = record { before = []; so = refl }

-- so do the items after the first
pub tail : (all items : List BodyItem) (item : BodyItem) → Stands all (item ∷ items) → Stands all items
tail all items item s = record { before = s.before ++ item ∷ []; so = append_assoc s.before (item ∷ []) items ∙ s.so }

-- ---- what follows items

module _ (all : List BodyItem) (within : Within) where
  after_value : (scopes : List Scope) (value : ValueTree) (n : ℕ) (made : NamedExpression → BodyItem) (rest : List BodyItem)
      → Stands all (value_items within scopes value n made rest) → Stands all rest
  after_value scopes (OfExpression e) n made rest s = tail all rest (made (value_of within.program scopes e)) s
  after_value scopes (OfCall call) n made rest s =
      tail all rest (made (call_value within call n)) (tail all (made (call_value within call n) ∷ rest) _ s)

  pub after_effect : (scopes : List Scope) (e : EffectTree) (n : ℕ) (rest : List BodyItem)
      → Stands all (effect_items within scopes e n rest) → Stands all rest
  after_effect scopes (Assigns to token value) n rest s =
      after_value scopes value n (assign (kind_of within.program.words scopes to) (address_of within.program scopes to)) rest s
  after_effect scopes (Updates to op token e) n rest s = tail all rest _ s
  after_effect scopes (Steps operand up token) n rest s = tail all rest _ s
  after_effect scopes (Calls call) n rest s = tail all rest _ s

  after_elements : (at : List ℕ) (kind : Integer) (offset many : ℕ) (cs : List Constant) (rest : List BodyItem)
      → Stands all (element_items within.program at kind offset many cs rest) → Stands all rest
  after_elements at kind offset zero cs rest s = s
  after_elements at kind offset (suc many) cs rest s =
      after_elements at kind (offset + bytes_of_type kind) many (further_elements cs) rest (tail all _ _ s)

  after_first : (scopes : List Scope) (t : Scalar) (at : List ℕ) (first : Option ValueTree) (n : ℕ) (rest : List BodyItem)
      → Stands all (first_items within scopes t at first n rest) → Stands all rest
  after_first scopes t at None n rest s = s
  after_first scopes t at (Some value) n rest s = after_value scopes value n (assign t (Address at 0)) rest s

  after_array : (kind : Integer) (at : List ℕ) (token : ℕ) (firsts : Option (List Constant)) (rest : List BodyItem)
      → Stands all (array_items within.program kind at token firsts rest) → Stands all rest
  after_array kind at token None rest s = s
  after_array kind at token (Some cs) rest s = after_elements at kind 0 (count_at within.program.words token) cs rest s

  pub after_shape : (scopes : List Scope) (kind : Integer) (at : List ℕ) (shape : LocalShapeTree) (n : ℕ) (rest : List BodyItem)
      → Stands all (shape_items within scopes kind at shape n rest) → Stands all rest
  after_shape scopes kind at (LocalInteger first) n rest s = after_first scopes (scalars.Integer kind) at first n rest s
  after_shape scopes kind at (LocalPointer first) n rest s = after_first scopes (scalars.Pointer kind) at first n rest s
  after_shape scopes kind at (LocalArray size firsts) n rest s = after_array kind at size firsts rest s

  after_locals : (kind : Integer) (scopes : List Scope) (locals : List LocalTree) (n : ℕ) (rest : List BodyItem)
      → Stands all (locals_items within kind scopes locals n rest) → Stands all rest
  after_locals kind scopes [] n rest s = s
  after_locals kind scopes (local ∷ locals) n rest s =
      let inner : List Scope = with_local kind scopes local in
      let d : ℕ = n + calls_in_shape within.program local.shape in
      after_locals kind inner locals d rest
      (after_shape inner kind (frame_of within.program local.name) local.shape n (locals_items within kind inner locals d rest) s)

  pub after_effect_if : (scopes : List Scope) (e : Option EffectTree) (n : ℕ) (rest : List BodyItem)
      → Stands all (effect_if within scopes e n rest) → Stands all rest
  after_effect_if scopes None n rest s = s
  after_effect_if scopes (Some e) n rest s = after_effect scopes e n rest s

  after_return : (scopes : List Scope) (value : Option ValueTree) (n : ℕ) (rest : List BodyItem)
      → Stands all (return_items within scopes value n rest) → Stands all rest
  after_return scopes None n rest s = tail all rest _ s
  after_return scopes (Some value) n rest s = after_value scopes value n (return_item within) rest s

  pub after_condition : (scopes : List Scope) (e : Expression) (n : ℕ) (held failed : List ℕ) (rest : List BodyItem)
      → Follows all within rest (condition_items within scopes e n held failed rest)
  after_condition scopes (OfConstant token) n held failed rest s = tail all rest _ s
  after_condition scopes (OfName token) n held failed rest s = tail all rest _ s
  after_condition scopes (InParentheses token inner) n held failed rest s = after_condition scopes inner n held failed rest s
  after_condition scopes (WithUnary op token operand) n held failed rest s =
      let plain : BodyItem = branch (is_true (value_of within.program scopes (WithUnary op token operand))) held failed in
      by_unary_both (λ (items : List BodyItem) (many : ℕ). Follows all within rest items) op (condition_items within scopes operand n failed held rest) (plain ∷ rest) 0 0
      (after_condition scopes operand n failed held rest) (tail all rest plain) s
  after_condition scopes (WithCast token to operand) n held failed rest s = tail all rest _ s
  after_condition scopes (AtIndex base token index) n held failed rest s = tail all rest _ s
  after_condition scopes (WithBinary op token left right) n held failed rest s =
      let last : List BodyItem = condition_items within scopes right (suc n + condition_labels left) held failed rest in
      let both : List BodyItem = condition_items within scopes left (suc n) (label within n) failed (label_item within n ∷ last) in
      let either : List BodyItem = condition_items within scopes left (suc n) held (label within n) (label_item within n ∷ last) in
      let plain : BodyItem = branch (test_of op (kind_of within.program.words scopes left) (kind_of within.program.words scopes right)
      (value_of within.program scopes left) (value_of within.program scopes right)) held failed in
      by_binary_both (λ (items : List BodyItem) (many : ℕ). Follows all within rest items) op both either (plain ∷ rest) 0 0 0
      (λ u. after_condition scopes right (suc n + condition_labels left) held failed rest (tail all last (label_item within n)
      (after_condition scopes left (suc n) (label within n) failed (label_item within n ∷ last) u)))
      (λ u. after_condition scopes right (suc n + condition_labels left) held failed rest (tail all last (label_item within n)
      (after_condition scopes left (suc n) held (label within n) (label_item within n ∷ last) u)))
      (tail all rest plain) s

  pub after_condition_if : (scopes : List Scope) (e : Option Expression) (n held failed : ℕ) (rest : List BodyItem)
      → Follows all within rest (condition_if within scopes e n held failed rest)
  after_condition_if scopes None n held failed rest s = tail all rest _ s
  after_condition_if scopes (Some e) n held failed rest s = after_condition scopes e n (label within held) (label within failed) rest s

  pub after_case : (s : Statement) (cases : ℕ) (rest : List BodyItem)
      → Follows all within rest (if_case within s cases rest)
  after_case (Case token c) cases rest s = tail all rest _ s
  after_case (Default token) cases rest s = tail all rest _ s
  after_case _ cases rest s = s

  pub after_loop : (scopes : List Scope) (condition : Option Expression) (last : Option EffectTree) (body : Body) (labels calls : ℕ) (rest : List BodyItem)
      → ((n d : ℕ) (around : Around) (others : List BodyItem) → Follows all within others (body n d around others))
      → Follows all within rest (loop_items within scopes condition last body labels calls rest)
  after_loop scopes condition last body labels calls rest bodies s =
      let b : ℕ = 4 + labels + labels_if condition in
      let d : ℕ = calls + calls_if within.program last in
      let around : Around = record { break = label within (3 + labels); continue = label within (2 + labels) } in
      let end : List BodyItem = jump within labels ∷ label_item within (3 + labels) ∷ rest in
      let after : List BodyItem = label_item within (2 + labels) ∷ effect_if within scopes last calls end in
      tail all rest _ (tail all _ _ (after_effect_if scopes last calls end (tail all _ _ (bodies b d around after
      (tail all _ _ (after_condition_if scopes condition (4 + labels) (1 + labels) (3 + labels) (label_item within (1 + labels) ∷ body b d around after) (tail all _ _ s)))))))

  mutual
    pub after_items : (scopes : List Scope) (s : Statement) (labels calls : ℕ) (around : Around) (rest : List BodyItem)
        → Follows all within rest (items_of within scopes s labels calls around rest)
    after_items scopes (Empty token) labels calls around rest s = s
    after_items scopes (Declares first kind locals) labels calls around rest s = after_locals kind scopes locals calls rest s
    after_items scopes (Block body) labels calls around rest s = after_all ([] ∷ scopes) body labels calls around rest s
    after_items scopes (If condition body) labels calls around rest s =
        let b : ℕ = 2 + labels + condition_labels condition in
        let end : List BodyItem = jump within (1 + labels) ∷ label_item within (1 + labels) ∷ rest in
        tail all rest _ (tail all _ _ (after_items ([] ∷ scopes) body b calls around end (tail all _ _
        (after_condition scopes condition (2 + labels) (label within labels) (label within (1 + labels))
        (label_item within labels ∷ items_of within ([] ∷ scopes) body b calls around end) s))))
    after_items scopes (IfElse condition body otherwise) labels calls around rest s =
        let b : ℕ = 3 + labels + condition_labels condition in
        let c : ℕ = 3 + labels + condition_labels condition + labels_in body in
        let d : ℕ = calls + calls_in within.program body in
        let end : List BodyItem = label_item within (2 + labels) ∷ rest in
        let middle : List BodyItem = jump within (2 + labels) ∷ label_item within (1 + labels) ∷ items_of within ([] ∷ scopes) otherwise c d around end in
        tail all rest _ (after_items ([] ∷ scopes) otherwise c d around end (tail all _ _ (tail all _ _ (after_items ([] ∷ scopes) body b calls around middle (tail all _ _
        (after_condition scopes condition (3 + labels) (label within labels) (label within (1 + labels))
        (label_item within labels ∷ items_of within ([] ∷ scopes) body b calls around middle) s))))))
    after_items scopes (While condition body) labels calls around rest s =
        let b : ℕ = 3 + labels + condition_labels condition in
        let end : List BodyItem = jump within labels ∷ label_item within (2 + labels) ∷ rest in
        let inside : Around = record { break = label within (2 + labels); continue = label within labels } in
        tail all rest _ (tail all _ _ (after_items ([] ∷ scopes) body b calls inside end (tail all _ _
        (after_condition scopes condition (3 + labels) (label within (1 + labels)) (label within (2 + labels))
        (label_item within (1 + labels) ∷ items_of within ([] ∷ scopes) body b calls inside end) (tail all _ _ s)))))
    after_items scopes (DoWhile body condition) labels calls around rest s =
        let b : ℕ = 3 + labels + labels_in body in
        let end : List BodyItem = label_item within (2 + labels) ∷ rest in
        let inside : Around = record { break = label within (2 + labels); continue = label within (1 + labels) } in
        let test : List BodyItem = condition_items within scopes condition b (label within labels) (label within (2 + labels)) end in
        tail all rest _ (after_condition scopes condition b (label within labels) (label within (2 + labels)) end (tail all _ _
        (after_items ([] ∷ scopes) body (3 + labels) calls inside (label_item within (1 + labels) ∷ test) (tail all _ _ s))))
    after_items scopes (For condition last body) labels calls around rest s =
        after_loop scopes condition last (items_of within ([] ∷ scopes) body) labels calls rest
        (λ n d inside others. after_items ([] ∷ scopes) body n d inside others) s
    after_items scopes (ForAfter first condition last body) labels calls around rest s =
        let inner : List Scope = scopes_after ([] ∷ scopes) first in
        let b : ℕ = labels + labels_in first in
        let d : ℕ = calls + calls_in within.program first in
        after_loop inner condition last (items_of within ([] ∷ inner) body) b d rest (λ n e inside others. after_items ([] ∷ inner) body n e inside others)
        (after_items ([] ∷ scopes) first labels calls around (loop_items within inner condition last (items_of within ([] ∷ inner) body) b d rest) s)
    after_items scopes (Switch value body) labels calls around rest s =
        let c : ℕ = labels + cases_in body in
        let inside : Around = record { break = label within c; continue = around.continue } in
        tail all rest _ (after_body ([] ∷ scopes) body labels (c + 1) calls inside (label_item within c ∷ rest) (tail all _ _ s))
    after_items scopes (Case token c) labels calls around rest s = s
    after_items scopes (Default token) labels calls around rest s = s
    after_items scopes (Break token) labels calls around rest s = tail all rest _ s
    after_items scopes (Continue token) labels calls around rest s = tail all rest _ s
    after_items scopes (Returns token value) labels calls around rest s = after_return scopes value calls rest s
    after_items scopes (Does effect) labels calls around rest s = after_effect scopes effect calls rest s

    pub after_all : (scopes : List Scope) (ss : Statements) (labels calls : ℕ) (around : Around) (rest : List BodyItem)
        → Follows all within rest (all_items_of within scopes ss labels calls around rest)
    after_all scopes Nothing labels calls around rest s = s
    after_all scopes (Then a ss) labels calls around rest s =
        let b : ℕ = labels + labels_in a in
        let d : ℕ = calls + calls_in within.program a in
        after_all (scopes_after scopes a) ss b d around rest
        (after_items scopes a labels calls around (all_items_of within (scopes_after scopes a) ss b d around rest) s)

    pub after_body : (scopes : List Scope) (ss : Statements) (cases labels calls : ℕ) (around : Around) (rest : List BodyItem)
        → Follows all within rest (body_items within scopes ss cases labels calls around rest)
    after_body scopes Nothing cases labels calls around rest s = s
    after_body scopes (Then a ss) cases labels calls around rest s =
        let b : ℕ = labels + labels_in a in
        let d : ℕ = calls + calls_in within.program a in
        let others : List BodyItem = body_items within (scopes_after scopes a) ss (is_case a + cases) b d around rest in
        after_body (scopes_after scopes a) ss (is_case a + cases) b d around rest
        (after_items scopes a labels calls around others (after_case a cases (items_of within scopes a labels calls around others) s))
