-- Conditions lead where they say.
--   at_label                 after a label of the function is what stands after it
--   condition_run            a condition leads to `held` where it holds and to `failed` where it does not
use Rattle.std.proofs.Common.{◌≡◌, ◌<◌, ◌≤◌, ℕ, suc, ◌+◌, ◌^◌, List, [], ◌∷◌, Option, Some, None, Result, Ok, Err, Bool, true, false, not, refl, sym, ap, subst, arith}
use Rattle.std.specs.Prelude.{◌==◌}
use Rattle.lists.specs.TestLaws.{by_test}
use Rattle.alf_ops.specs.declared.history.Value.{Value}
use Rattle.alf_ops.specs.declared.history.Value.TheVariants as values
use Rattle.alf_ops.specs.declared.history.RunFault.{RunFault}
use Rattle.alf_ops.specs.declared.history.RunEvent.{RunEvent}
use Rattle.alf_program.specs.declared.program.Num.{Num}
use Rattle.alf_program.specs.Tree.{NamedExpression, BodyItem}
use Rattle.item_runs.specs.Stretches.{End, Goes, items_after, switched}
use Rattle.item_runs.specs.ItemRuns.{Waiting, ItemProgram, ahead, ticks}
use Rattle.c_unit.specs.declared.expression.Unary.TheVariants as unary
use Rattle.c_unit.specs.declared.expression.Binary.TheVariants as binary
use Rattle.c_unit.specs.Tree.{Expression, OfConstant, OfName, InParentheses, WithUnary, WithCast, AtIndex, WithBinary}
use Rattle.c_rules.specs.Names.{Scope}
use Rattle.c_meaning.specs.Values.{Valued, on_value, opposite, truth_of, as_value, and_then, or_else}
use Rattle.c_meaning.specs.Objects.{Program}
use Rattle.c_meaning.specs.Expressions as meaning
use Rattle.c_meaning.specs.Expressions.{kind_of, condition_of}
use Rattle.c_meaning.specs.Endings.{History}
use Rattle.c_meaning.specs.Statements as does
use Rattle.c_lowered.specs.Values.{is_true, test_of, value_of}
use Rattle.c_lowered.specs.Conditions.{Within, label, label_item, condition_labels, condition_items}
use Rattle.c_lowered.specs.Statements.{condition_if, labels_if}
use Rattle.lowering_simulation.specs.Counts.{count}
use Rattle.lowering_simulation.specs.Places.{Stands}
use Rattle.lowering_simulation.proofs.PlaceLemmas.{leads}
use Rattle.lowering_simulation.specs.PlaceLaws.{tail, after_condition}
use Rattle.lowering_simulation.specs.Leaves.{as_bit, value_in, TestAgrees, ConditionAgrees, IfAgrees}
use Rattle.lowering_simulation.proofs.Comes.{functions_of, Here, standing, Tests, on_from}

-- ---- truth

abbrev negated : Result Bool RunFault → Result Bool RunFault
negated (Ok b) = Ok (not b)
negated (Err fault) = Err fault

abbrev both_of : Result Bool RunFault → Result Bool RunFault → Result Bool RunFault
both_of (Ok true) r = r
both_of (Ok false) r = Ok false
both_of (Err fault) r = Err fault

abbrev either_of : Result Bool RunFault → Result Bool RunFault → Result Bool RunFault
either_of (Ok true) r = Ok true
either_of (Ok false) r = r
either_of (Err fault) r = Err fault

truth_negated : (v : Valued) → truth_of (on_value opposite v) ≡ negated (truth_of v)
truth_negated (Ok (values.Int size w)) = by_test (w == 0) (λ t. rw t refl) (λ t. rw t refl)
truth_negated (Ok (values.Ptr object offset)) = refl
truth_negated (Err fault) = refl

truth_as : (r : Result Bool RunFault) → truth_of (as_value r) ≡ r
truth_as (Ok true) = refl
truth_as (Ok false) = refl
truth_as (Err fault) = refl

truth_both : (l : Result Bool RunFault) (r : Valued) → truth_of (and_then l r) ≡ both_of l (truth_of r)
truth_both (Ok true) r = truth_as (truth_of r)
truth_both (Ok false) r = refl
truth_both (Err fault) r = refl

truth_either : (l : Result Bool RunFault) (r : Valued) → truth_of (or_else l r) ≡ either_of l (truth_of r)
truth_either (Ok true) r = refl
truth_either (Ok false) r = truth_as (truth_of r)
truth_either (Err fault) r = refl

module _ (of : ItemProgram) (program : Program) (place : ℕ → ℕ) (Rel : List ℕ → List RunEvent → List RunEvent → Type 0) (rank : ℕ → ℕ) (f : ℕ) (stack : List Waiting) where
  abbrev code : Within
  code = record { program = program; function = f }

  abbrev all : List BodyItem
  all = of.items f

  -- tests of this run
  abbrev Test : List BodyItem → List BodyItem → End → List RunEvent → Result Bool RunFault → Type 0
  Test kt kf start m r = Tests of program place Rel f stack kt kf start m r

  -- a stretch that goes to a label
  pub to_label : (name : List ℕ) (k : List BodyItem) (m : List RunEvent) → items_after name all ≡ k → ticks of 1 (standing of program place Rel f stack (Goes name m)) ≡ standing of program place Rel f stack (ahead of f k m)
  to_label name k m e = ap (λ (x : List BodyItem). standing of program place Rel f stack (ahead of f x m)) e

  -- ---- tests in a row

  test_then_and : (k1 kt kf : List BodyItem) (a : End) (m : List RunEvent) (o p : Result Bool RunFault)
      → Test k1 kf a m o → Test kt kf (ahead of f k1 m) m p → Test kt kf a m (both_of o p)
  test_then_and k1 kt kf a m (Err fault) p r q = r
  test_then_and k1 kt kf a m (Ok false) p r q = r
  test_then_and k1 kt kf a m (Ok true) (Err fault) r q = record { count = r.0 + q.count; so = on_from of r.0 q.count _ _ _ r.2 q.so }
  test_then_and k1 kt kf a m (Ok true) (Ok true) r q = (r.0 + q.0, (let h : 1 ≤ r.0 = r.1 in omega arith), on_from of r.0 q.0 _ _ _ r.2 q.2)
  test_then_and k1 kt kf a m (Ok true) (Ok false) r q = (r.0 + q.0, (let h : 1 ≤ r.0 = r.1 in omega arith), on_from of r.0 q.0 _ _ _ r.2 q.2)

  test_then_or : (k1 kt kf : List BodyItem) (a : End) (m : List RunEvent) (o p : Result Bool RunFault)
      → Test kt k1 a m o → Test kt kf (ahead of f k1 m) m p → Test kt kf a m (either_of o p)
  test_then_or k1 kt kf a m (Err fault) p r q = r
  test_then_or k1 kt kf a m (Ok true) p r q = r
  test_then_or k1 kt kf a m (Ok false) (Err fault) r q = record { count = r.0 + q.count; so = on_from of r.0 q.count _ _ _ r.2 q.so }
  test_then_or k1 kt kf a m (Ok false) (Ok true) r q = (r.0 + q.0, (let h : 1 ≤ r.0 = r.1 in omega arith), on_from of r.0 q.0 _ _ _ r.2 q.2)
  test_then_or k1 kt kf a m (Ok false) (Ok false) r q = (r.0 + q.0, (let h : 1 ≤ r.0 = r.1 in omega arith), on_from of r.0 q.0 _ _ _ r.2 q.2)

  swapped : (kt kf : List BodyItem) (a : End) (m : List RunEvent) (o : Result Bool RunFault) → Test kf kt a m o
      → Test kt kf a m (negated o)
  swapped kt kf a m (Err fault) r = r
  swapped kt kf a m (Ok true) r = r
  swapped kt kf a m (Ok false) r = r

  abbrev one_target : List ℕ → List (Num × List ℕ)
  one_target held = (record { signed = false; size = 1; bits = 1 }, held) ∷ []

  on_bit : (held failed : List ℕ) (kt kf : List BodyItem) (m : List RunEvent) (r : Result Bool RunFault)
      → items_after held all ≡ kt → items_after failed all ≡ kf
      → Test kt kf (switched (one_target held) failed m (as_bit r)) m r
  on_bit held failed kt kf m (Err fault) et ef = record { count = 1; so = refl }
  on_bit held failed kt kf m (Ok true) et ef = (1, omega arith, to_label held kt m et)
  on_bit held failed kt kf m (Ok false) et ef = (1, omega arith, to_label failed kf m ef)

  -- a switch on the bit of a test
  branch_run : (e : NamedExpression) (test : History → Result Bool RunFault) (held failed : List ℕ) (kt kf : List BodyItem) (m h : List RunEvent)
      → TestAgrees of program place Rel rank f e test → Here of program place Rel f stack m h → items_after held all ≡ kt → items_after failed all ≡ kf
      → Test kt kf (switched (one_target held) failed m (value_in of program place Rel rank f m e)) m (test h)
  branch_run e test held failed kt kf m h agrees rel et ef =
      subst (λ (r : Result Value RunFault). Test kt kf (switched (one_target held) failed m r) m (test h)) (sym (agrees (functions_of stack) m h rel))
      (on_bit held failed kt kf m (test h) et ef)

  module _ (once : (l : ℕ) → l < 2 ^ 64 → count (label code l) all ≤ 1) where
    -- after a label is what stands after it
    pub at_label : (l : ℕ) (k : List BodyItem) → l < 2 ^ 64 → Stands all (label_item code l ∷ k)
        → items_after (label code l) all ≡ k
    at_label l k low s = leads all k (label code l) (once l low) s

    pub condition_run : (scopes : List Scope) (e : Expression) (n : ℕ) (held failed : List ℕ) (kt kf k : List BodyItem) (m h : List RunEvent)
        → n + condition_labels e ≤ 2 ^ 64 → Stands all (condition_items code scopes e n held failed k) → items_after held all ≡ kt → items_after failed all ≡ kf
        → ConditionAgrees of program place Rel rank f scopes e → Here of program place Rel f stack m h
        → Test kt kf (ahead of f (condition_items code scopes e n held failed k) m) m (condition_of program scopes h e)
    condition_run scopes (OfConstant token) n held failed kt kf k m h room s et ef agrees rel =
        branch_run (is_true (value_of program scopes (OfConstant token))) (λ l. condition_of program scopes l (OfConstant token)) held failed kt kf m h agrees rel et ef
    condition_run scopes (OfName token) n held failed kt kf k m h room s et ef agrees rel =
        branch_run (is_true (value_of program scopes (OfName token))) (λ l. condition_of program scopes l (OfName token)) held failed kt kf m h agrees rel et ef
    condition_run scopes (InParentheses token inner) n held failed kt kf k m h room s et ef agrees rel =
        condition_run scopes inner n held failed kt kf k m h room s et ef agrees rel
    condition_run scopes (WithUnary unary.Not token operand) n held failed kt kf k m h room s et ef agrees rel =
        let start : End = ahead of f (condition_items code scopes operand n failed held k) m in
        let value : Valued = meaning.value_of program scopes h operand in
        subst (λ (r : Result Bool RunFault). Test kt kf start m r) (sym (truth_negated value))
        (swapped kt kf start m (truth_of value) (condition_run scopes operand n failed held kf kt k m h room s ef et agrees rel))
    condition_run scopes (WithUnary op token operand) n held failed kt kf k m h room s et ef agrees rel =
        branch_run (is_true (value_of program scopes (WithUnary op token operand))) (λ l. condition_of program scopes l (WithUnary op token operand)) held failed kt kf m h agrees rel et ef
    condition_run scopes (WithCast token to operand) n held failed kt kf k m h room s et ef agrees rel =
        branch_run (is_true (value_of program scopes (WithCast token to operand))) (λ l. condition_of program scopes l (WithCast token to operand)) held failed kt kf m h agrees rel et ef
    condition_run scopes (AtIndex base token index) n held failed kt kf k m h room s et ef agrees rel =
        branch_run (is_true (value_of program scopes (AtIndex base token index))) (λ l. condition_of program scopes l (AtIndex base token index)) held failed kt kf m h agrees rel et ef
    condition_run scopes (WithBinary binary.Both token left right) n held failed kt kf k m h room s et ef agrees rel =
        let last : List BodyItem = condition_items code scopes right (suc n + condition_labels left) held failed k in
        let start : End = ahead of f (condition_items code scopes left (suc n) (label code n) failed (label_item code n ∷ last)) m in
        let s1 : Stands all (label_item code n ∷ last) = after_condition all code scopes left (suc n) (label code n) failed (label_item code n ∷ last) s in
        let l : Result Bool RunFault = condition_of program scopes h left in
        subst (λ (r : Result Bool RunFault). Test kt kf start m r) (sym (truth_both l (meaning.value_of program scopes h right)))
        (test_then_and last kt kf start m l (condition_of program scopes h right)
        (condition_run scopes left (suc n) (label code n) failed last kf (label_item code n ∷ last) m h (omega arith) s (at_label n last (omega arith) s1) ef agrees.0 rel)
        (condition_run scopes right (suc n + condition_labels left) held failed kt kf k m h (omega arith) (tail all last (label_item code n) s1) et ef agrees.1 rel))
    condition_run scopes (WithBinary binary.Either token left right) n held failed kt kf k m h room s et ef agrees rel =
        let last : List BodyItem = condition_items code scopes right (suc n + condition_labels left) held failed k in
        let start : End = ahead of f (condition_items code scopes left (suc n) held (label code n) (label_item code n ∷ last)) m in
        let s1 : Stands all (label_item code n ∷ last) = after_condition all code scopes left (suc n) held (label code n) (label_item code n ∷ last) s in
        let l : Result Bool RunFault = condition_of program scopes h left in
        subst (λ (r : Result Bool RunFault). Test kt kf start m r) (sym (truth_either l (meaning.value_of program scopes h right)))
        (test_then_or last kt kf start m l (condition_of program scopes h right)
        (condition_run scopes left (suc n) held (label code n) kt last (label_item code n ∷ last) m h (omega arith) s et (at_label n last (omega arith) s1) agrees.0 rel)
        (condition_run scopes right (suc n + condition_labels left) held failed kt kf k m h (omega arith) (tail all last (label_item code n) s1) et ef agrees.1 rel))
    condition_run scopes (WithBinary op token left right) n held failed kt kf k m h room s et ef agrees rel =
        branch_run (test_of op (kind_of program.words scopes left) (kind_of program.words scopes right) (value_of program scopes left) (value_of program scopes right))
        (λ l. condition_of program scopes l (WithBinary op token left right)) held failed kt kf m h agrees rel et ef

    -- without a condition a jump to the body
    pub condition_if_run : (scopes : List Scope) (e : Option Expression) (n held failed : ℕ) (kt kf k : List BodyItem) (m h : List RunEvent)
        → n + labels_if e ≤ 2 ^ 64 → Stands all (condition_if code scopes e n held failed k) → items_after (label code held) all ≡ kt → items_after (label code failed) all ≡ kf
        → IfAgrees of program place Rel rank f scopes e → Here of program place Rel f stack m h
        → Test kt kf (ahead of f (condition_if code scopes e n held failed k) m) m (does.condition_if program scopes e h)
    condition_if_run scopes None n held failed kt kf k m h room s et ef agrees rel = (1, omega arith, to_label (label code held) kt m et)
    condition_if_run scopes (Some e) n held failed kt kf k m h room s et ef agrees rel =
        condition_run scopes e n (label code held) (label code failed) kt kf k m h room s et ef agrees rel
