-- The items of a statement do what it does.
--   items_run                the run from the items of a statement goes as its ending says
--   Cased                    where a switch leads for a case, after which an ending comes, or for none
use Rattle.std.proofs.Common.{◌≡◌, ◌<◌, ◌≤◌, ℕ, suc, ◌+◌, ◌^◌, List, [], ◌∷◌, Option, Some, None, Result, Ok, Err, Bool, true, false, refl, sym, ap, ◌∙◌, subst, arith}
use Rattle.std.specs.Prelude.{◌==◌, if◌then◌else◌}
use Rattle.alf_ops.specs.declared.history.Value.{Value}
use Rattle.alf_ops.specs.declared.history.Value.TheVariants as values
use Rattle.alf_ops.specs.declared.history.RunFault.{RunFault}
use Rattle.alf_ops.specs.declared.history.RunEvent.{RunEvent}
use Rattle.alf_program.specs.declared.program.Num.{Num}
use Rattle.alf_program.specs.Tree.{BodyItem}
use Rattle.item_runs.specs.Stretches.{End, Goes, items_after, label_for, switched}
use Rattle.item_runs.specs.ItemRuns.{Waiting, ItemProgram, ahead}
use Rattle.c_unit.specs.declared.types.Integer.{Integer}
use Rattle.c_unit.specs.Tree.{Expression, EffectTree, Statement, Empty, Declares, Block, If, IfElse, While, Do as DoWhile, For, ForAfter, Switch, Case, Default, Break, Continue, Returns, Does, Statements, Nothing, Then}
use Rattle.c_rules.specs.Names.{Scope}
use Rattle.c_rules.specs.Statements.{scopes_after, label_of}
use Rattle.c_meaning.specs.Values.{Valued}
use Rattle.c_meaning.specs.Objects.{Program}
use Rattle.c_meaning.specs.Expressions as meaning
use Rattle.c_meaning.specs.Expressions.{condition_of}
use Rattle.c_meaning.specs.Endings.{History, Ending, Normal, Broke, Continued, Returned, Faulted, UsedUp, then_do, after_switch, turns}
use Rattle.c_meaning.specs.Statements as does
use Rattle.c_meaning.specs.Statements.{Setting, Callees, statement_done, statements_done, from_label, by_labels, with_word, is_default}
use Rattle.c_lowered.specs.Conditions.{Within, label, jump, label_item, condition_labels, condition_items}
use Rattle.c_lowered.specs.Statements.{Around, labels_if, is_case, cases_in, labels_in, labels_in_all, calls_if, calls_in, condition_if, effect_if, targets_in, default_in, switch_type, switch_item, if_case, loop_items, Body, items_of, all_items_of, body_items}
use Rattle.lowering_values.specs.Embedding.{embedded_result}
use Rattle.lowering_simulation.specs.Counts.{count}
use Rattle.lowering_simulation.specs.Places.{Stands}
use Rattle.lowering_simulation.specs.PlaceLaws.{tail, after_condition, after_condition_if, after_effect_if, after_case, after_items, after_body}
use Rattle.lowering_simulation.specs.Leaves.{ConditionAgrees, IfAgrees, IfDoes, StatementDoes, StatementsDo}
use Rattle.lowering_simulation.proofs.Comes.{IsBelow, Here, Reaches, functions_of, standing, on_from, later_reaches, fewer, sequence, choice, stays, switch_then}
use Rattle.lowering_simulation.proofs.Conditions.{to_label, at_label, condition_run, condition_if_run}
use Rattle.lowering_simulation.proofs.RunCalls.{Called, setting}
use Rattle.lowering_simulation.proofs.RunEffects.{effect_run, effect_if_run, locals_run, return_run}
use Rattle.lowering_simulation.proofs.Loops.{From, Testing, turns_run, rounds_run}

module _ (of : ItemProgram) (program : Program) (place : ℕ → ℕ) (Rel : List ℕ → List RunEvent → List RunEvent → Type 0) (rank : ℕ → ℕ) (f : ℕ) (stack : List Waiting) where
  abbrev code : Within
  code = record { program = program; function = f }

  abbrev all : List BodyItem
  all = of.items f

  -- from these items on, with k after them, the run goes as the ending says
  abbrev Goes_on : Bool → Bool → ℕ → List BodyItem → List BodyItem → List BodyItem → List BodyItem → List RunEvent
      → Ending → Type 0
  Goes_on p q n ko ka k items m e = Reaches of program place Rel f stack p q n ko ka k (ahead of f items m) e

  abbrev Related : List RunEvent → List RunEvent → Type 0
  Related m h = Here of program place Rel f stack m h

  -- a jump after a statement
  then_jump : (p q : Bool) (n : ℕ) (l : ℕ) (ko ka rest k : List BodyItem) (a : End) (r : Ending)
      → items_after (label code l) all ≡ k
      → Reaches of program place Rel f stack p q n ko ka (jump code l ∷ rest) a r → Reaches of program place Rel f stack p q n ko ka k a r
  then_jump p q n l ko ka rest k a (Normal h) e r =
      record {
        count = r.count + 1;
        memory = r.memory;
        rel = r.rel;
        so = on_from of r.count 1 (standing of program place Rel f stack a) (standing of program place Rel f stack (ahead of f (jump code l ∷ rest) r.memory))
            (standing of program place Rel f stack (ahead of f k r.memory)) r.so (to_label of program place Rel rank f stack (label code l) k r.memory e);
      }
  then_jump p q n l ko ka rest k a (Broke h) e r = r
  then_jump p q n l ko ka rest k a (Continued h) e r = r
  then_jump p q n l ko ka rest k a (Returned v h) e r = r
  then_jump p q n l ko ka rest k a (Faulted fault) e r = r
  then_jump p q n l ko ka rest k a UsedUp e r = r

  -- a label after a statement
  then_label : (p q : Bool) (n : ℕ) (l : ℕ) (ko ka k : List BodyItem) (a : End) (r : Ending)
      → Reaches of program place Rel f stack p q n ko ka (label_item code l ∷ k) a r → Reaches of program place Rel f stack p q n ko ka k a r
  then_label p q n l ko ka k a (Normal h) r = r
  then_label p q n l ko ka k a (Broke h) r = r
  then_label p q n l ko ka k a (Continued h) r = r
  then_label p q n l ko ka k a (Returned v h) r = r
  then_label p q n l ko ka k a (Faulted fault) r = r
  then_label p q n l ko ka k a UsedUp r = r

  -- the label of a case does nothing
  case_ahead : (s : Statement) (cases : ℕ) (items : List BodyItem) (m : List RunEvent)
      → ahead of f (if_case code s cases items) m ≡ ahead of f items m
  case_ahead (Case token c) cases items m = refl
  case_ahead (Default token) cases items m = refl
  case_ahead _ cases items m = refl

  -- ---- switches

  -- where a switch leads for a case, after which an ending comes, or for none
  abbrev Cased : Bool → Bool → ℕ → List BodyItem → List BodyItem → List BodyItem → List RunEvent → List ℕ → List ℕ
      → Option Ending → Type 0
  Cased p q n ko ka k m to others None = to ≡ others
  Cased p q n ko ka k m to others (Some e) = Goes_on p q n ko ka k (items_after to all) m e

  on_case : (p q : Bool) (n : ℕ) (ko ka k : List BodyItem) (m : List RunEvent) (b : Bool) (here there others : List ℕ) (e : Ending) (o : Option Ending)
      → Cased p q n ko ka k m here others (Some e) → Cased p q n ko ka k m there others o
      → Cased p q n ko ka k m (if b then here else there) others (if b then Some e else o)
  on_case p q n ko ka k m true here there others e o r s = r
  on_case p q n ko ka k m false here there others e o r s = s

  -- the first of both, and the end where there is none
  switch_to : (p q : Bool) (n c : ℕ) (ko ka k : List BodyItem) (m h : List RunEvent) (to default end : List ℕ) (x y : Option Ending) → Related m h
      → items_after end all ≡ k → Cased p q n ko ka (label_item code c ∷ k) m to default x → Cased p q n ko ka (label_item code c ∷ k) m default end y
      → Goes_on p q n ko ka (label_item code c ∷ k) (items_after to all) m (by_labels x y h)
  switch_to p q n c ko ka k m h to default end (Some e) y rel at r s = r
  switch_to p q n c ko ka k m h to default end None (Some e) rel at r s =
      subst (λ (l : List ℕ). Goes_on p q n ko ka (label_item code c ∷ k) (items_after l all) m e) (sym r) s
  switch_to p q n c ko ka k m h to default end None None rel at r s =
      subst (λ (l : List BodyItem). Goes_on p q n ko ka (label_item code c ∷ k) l m (Normal h)) (sym (ap (λ (l : List ℕ). items_after l all) (r ∙ s) ∙ at))
      (stays of program place Rel f stack p q n ko ka k m h rel)

  -- a switch on a word goes to a label, and on a pointer it faults
  on_word : (p q : Bool) (n : ℕ) (ko ka k : List BodyItem) (m : List RunEvent) (targets : List (Num × List ℕ)) (others : List ℕ) (v : Valued) (go : ℕ → Ending)
      → ((word : ℕ) → Goes_on p q n ko ka k (items_after (label_for targets others word) all) m (go word))
      → Reaches of program place Rel f stack p q n ko ka k (switched targets others m (embedded_result place v)) (with_word v go)
  on_word p q n ko ka k m targets others (Ok (values.Int size word)) go r =
      later_reaches of program place Rel f stack p q n n 1 ko ka k (Goes (label_for targets others word) m) (ahead of f (items_after (label_for targets others word) all) m)
      (go word) (omega arith) refl (r word)
  on_word p q n ko ka k m targets others (Ok (values.Ptr object offset)) go r = record { count = 1; so = refl }
  on_word p q n ko ka k m targets others (Err fault) go r = record { count = 1; so = refl }

  module _ (once : (l : ℕ) → l < 2 ^ 64 → count (label code l) all ≤ 1) (w : ℕ) (callees : Callees) (n n' : ℕ) (few : n ≤ w) (deep : n ≤ suc n') (goes : Called of program place Rel rank n' callees) (below : IsBelow rank (rank f) stack) where
    abbrev set : Setting
    set = setting of program place Rel rank f stack w callees n n' deep goes below

    at : (l : ℕ) (k : List BodyItem) → l < 2 ^ 64 → Stands all (label_item code l ∷ k)
        → items_after (label code l) all ≡ k
    at l k low s = at_label of program place Rel rank f stack once l k low s

    -- the test of a condition
    test_run : (scopes : List Scope) (e : Expression) (l : ℕ) (held failed : List ℕ) (kt kf k : List BodyItem)
        → l + condition_labels e ≤ 2 ^ 64
        → Stands all (condition_items code scopes e l held failed k) → items_after held all ≡ kt → items_after failed all ≡ kf
        → ConditionAgrees of program place Rel rank f scopes e
        → Testing of program place Rel f stack kt kf (condition_items code scopes e l held failed k) (λ h. condition_of program scopes h e)
    test_run scopes e l held failed kt kf k room s et ef agrees m h rel =
        condition_run of program place Rel rank f stack once scopes e l held failed kt kf k m h room s et ef agrees rel

    -- a `for` without its first part
    loop_run : (p q : Bool) (scopes : List Scope) (condition : Option Expression) (last : Option EffectTree) (body : Body) (does_body : History → Ending) (labels calls : ℕ) (ko ka k : List BodyItem)
        → 4 + labels + labels_if condition ≤ 2 ^ 64 → Stands all (loop_items code scopes condition last body labels calls k)
        → ((l d : ℕ) (around : Around) (rest : List BodyItem) → Stands all (body l d around rest) → Stands all rest)
        → ((rest kc : List BodyItem) (inside : Around) → Stands all (body (4 + labels + labels_if condition) (calls + calls_if program last) inside rest)
        → items_after inside.break all ≡ k → items_after inside.continue all ≡ kc
        → From of program place Rel f stack true true n k kc rest (body (4 + labels + labels_if condition) (calls + calls_if program last) inside rest) does_body)
        → IfAgrees of program place Rel rank f scopes condition → IfDoes of program place Rel rank f scopes last calls
        → From of program place Rel f stack p q n ko ka k (loop_items code scopes condition last body labels calls k)
        (turns w (does.condition_if program scopes condition) does_body (does.effect_if set scopes last))
    loop_run p q scopes condition last body does_body labels calls ko ka k room s follows bodies agrees last_does m h rel =
        let b : ℕ = 4 + labels + labels_if condition in
        let d : ℕ = calls + calls_if program last in
        let inside : Around = record { break = label code (3 + labels); continue = label code (2 + labels) } in
        let end : List BodyItem = jump code labels ∷ label_item code (3 + labels) ∷ k in
        let kc : List BodyItem = effect_if code scopes last calls end in
        let kl : List BodyItem = label_item code (2 + labels) ∷ kc in
        let kb : List BodyItem = body b d inside kl in
        let kh : List BodyItem = condition_if code scopes condition (4 + labels) (1 + labels) (3 + labels) (label_item code (1 + labels) ∷ kb) in
        let s0 : Stands all kh = tail all kh (label_item code labels) s in
        let s1 : Stands all (label_item code (1 + labels) ∷ kb) = after_condition_if all code scopes condition (4 + labels) (1 + labels) (3 + labels) (label_item code (1 + labels) ∷ kb) s0 in
        let s2 : Stands all kb = tail all kb (label_item code (1 + labels)) s1 in
        let s3 : Stands all kl = follows b d inside kl s2 in
        let s4 : Stands all kc = tail all kc (label_item code (2 + labels)) s3 in
        let s5 : Stands all end = after_effect_if all code scopes last calls end s4 in
        let s6 : Stands all (label_item code (3 + labels) ∷ k) = tail all (label_item code (3 + labels) ∷ k) (jump code labels) s5 in
        let head : items_after (label code labels) all ≡ kh = at labels kh (omega arith) s in
        let out : items_after (label code (3 + labels)) all ≡ k = at (3 + labels) k (omega arith) s6 in
        let test : History → Result Bool RunFault = does.condition_if program scopes condition in
        let last_part : History → Ending = does.effect_if set scopes last in
        let lasts : (i r : ℕ) → r ≤ n → From of program place Rel f stack p q r ko ka k kh (turns i test does_body last_part)
        → From of program place Rel f stack p q r ko ka k kc (λ l. then_do (last_part l) (turns i test does_body last_part)) =
        λ i r le on u l there. sequence of program place Rel f stack p q r ko ka end k (ahead of f kc u) (last_part l) (turns i test does_body last_part)
        (fewer of program place Rel f stack p q n r ko ka end (ahead of f kc u) (last_part l) le
        (effect_if_run of program place Rel rank f stack w callees n n' deep goes below p q ko ka scopes last calls end u l last_does there))
        (λ v g here. later_reaches of program place Rel f stack p q r r 1 ko ka k (ahead of f end v) (ahead of f kh v) (turns i test does_body last_part g) (omega arith)
        (to_label of program place Rel rank f stack (label code labels) kh v head) (on v g here)) in
        turns_run of program place Rel f stack p q n ko ka k kh kb kl kc test does_body last_part
        (λ u l there. condition_if_run of program place Rel rank f stack once scopes condition (4 + labels) (1 + labels) (3 + labels) kb k (label_item code (1 + labels) ∷ kb) u l
        room s0 (at (1 + labels) kb (omega arith) s1) out agrees there)
        (bodies kl kc inside s2 out (at (2 + labels) kc (omega arith) s3)) lasts lasts w n few (omega arith) m h rel

    -- the items of a statement, with k after them; `break` leads to ko and `continue` to ka
    mutual
      pub items_run : (p q : Bool) (scopes : List Scope) (s : Statement) (labels calls : ℕ) (around : Around) (ko ka k : List BodyItem)
          → labels + labels_in s ≤ 2 ^ 64 → Stands all (items_of code scopes s labels calls around k) → items_after around.break all ≡ ko → items_after around.continue all ≡ ka
          → StatementDoes of program place Rel rank f p q scopes s calls
          → From of program place Rel f stack p q n ko ka k (items_of code scopes s labels calls around k) (statement_done set scopes s)
      items_run p q scopes (Empty token) labels calls around ko ka k room s eo ea do_so m h rel = stays of program place Rel f stack p q n ko ka k m h rel
      items_run p q scopes (Declares first kind locals) labels calls around ko ka k room s eo ea do_so m h rel =
          locals_run of program place Rel rank f stack w callees n n' deep goes below p q ko ka kind scopes locals calls k m h do_so rel
      items_run p q scopes (Block body) labels calls around ko ka k room s eo ea do_so m h rel =
          all_run p q ([] ∷ scopes) body labels calls around ko ka k room s eo ea do_so m h rel
      items_run p q scopes (If condition body) labels calls around ko ka k room s eo ea do_so m h rel =
          let b : ℕ = 2 + labels + condition_labels condition in
          let end : List BodyItem = jump code (1 + labels) ∷ label_item code (1 + labels) ∷ k in
          let inner : List BodyItem = items_of code ([] ∷ scopes) body b calls around end in
          let test : List BodyItem = condition_items code scopes condition (2 + labels) (label code labels) (label code (1 + labels)) (label_item code labels ∷ inner) in
          let s1 : Stands all (label_item code labels ∷ inner) = after_condition all code scopes condition (2 + labels) (label code labels) (label code (1 + labels)) (label_item code labels ∷ inner) s in
          let s2 : Stands all inner = tail all inner (label_item code labels) s1 in
          let s3 : Stands all end = after_items all code ([] ∷ scopes) body b calls around end s2 in
          let out : items_after (label code (1 + labels)) all ≡ k = at (1 + labels) k (omega arith) (tail all (label_item code (1 + labels) ∷ k) (jump code (1 + labels)) s3) in
          choice of program place Rel f stack p q n n ko ka k inner k (ahead of f test m) m (condition_of program scopes h condition) (statement_done set ([] ∷ scopes) body h) (Normal h) (omega arith)
          (test_run scopes condition (2 + labels) (label code labels) (label code (1 + labels)) inner k (label_item code labels ∷ inner) (omega arith) s (at labels inner (omega arith) s1) out do_so.0 m h rel)
          (then_jump p q n (1 + labels) ko ka (label_item code (1 + labels) ∷ k) k (ahead of f inner m) (statement_done set ([] ∷ scopes) body h) out
          (items_run p q ([] ∷ scopes) body b calls around ko ka end (omega arith) s2 eo ea do_so.1 m h rel))
          (stays of program place Rel f stack p q n ko ka k m h rel)
      items_run p q scopes (IfElse condition body otherwise) labels calls around ko ka k room s eo ea do_so m h rel =
          let b : ℕ = 3 + labels + condition_labels condition in
          let c : ℕ = 3 + labels + condition_labels condition + labels_in body in
          let d : ℕ = calls + calls_in program body in
          let end : List BodyItem = label_item code (2 + labels) ∷ k in
          let kf : List BodyItem = items_of code ([] ∷ scopes) otherwise c d around end in
          let middle : List BodyItem = jump code (2 + labels) ∷ label_item code (1 + labels) ∷ kf in
          let kt : List BodyItem = items_of code ([] ∷ scopes) body b calls around middle in
          let test : List BodyItem = condition_items code scopes condition (3 + labels) (label code labels) (label code (1 + labels)) (label_item code labels ∷ kt) in
          let s1 : Stands all (label_item code labels ∷ kt) = after_condition all code scopes condition (3 + labels) (label code labels) (label code (1 + labels)) (label_item code labels ∷ kt) s in
          let s2 : Stands all kt = tail all kt (label_item code labels) s1 in
          let s3 : Stands all (label_item code (1 + labels) ∷ kf) = tail all (label_item code (1 + labels) ∷ kf) (jump code (2 + labels)) (after_items all code ([] ∷ scopes) body b calls around middle s2) in
          let s4 : Stands all kf = tail all kf (label_item code (1 + labels)) s3 in
          let out : items_after (label code (2 + labels)) all ≡ k = at (2 + labels) k (omega arith) (after_items all code ([] ∷ scopes) otherwise c d around end s4) in
          choice of program place Rel f stack p q n n ko ka k kt kf (ahead of f test m) m (condition_of program scopes h condition)
          (statement_done set ([] ∷ scopes) body h) (statement_done set ([] ∷ scopes) otherwise h) (omega arith)
          (test_run scopes condition (3 + labels) (label code labels) (label code (1 + labels)) kt kf (label_item code labels ∷ kt) (omega arith) s (at labels kt (omega arith) s1)
          (at (1 + labels) kf (omega arith) s3) do_so.0 m h rel)
          (then_jump p q n (2 + labels) ko ka (label_item code (1 + labels) ∷ kf) k (ahead of f kt m) (statement_done set ([] ∷ scopes) body h) out
          (items_run p q ([] ∷ scopes) body b calls around ko ka middle (omega arith) s2 eo ea do_so.1 m h rel))
          (then_label p q n (2 + labels) ko ka k (ahead of f kf m) (statement_done set ([] ∷ scopes) otherwise h)
          (items_run p q ([] ∷ scopes) otherwise c d around ko ka end (omega arith) s4 eo ea do_so.2 m h rel))
      items_run p q scopes (While condition body) labels calls around ko ka k room s eo ea do_so m h rel =
          let b : ℕ = 3 + labels + condition_labels condition in
          let end : List BodyItem = jump code labels ∷ label_item code (2 + labels) ∷ k in
          let inside : Around = record { break = label code (2 + labels); continue = label code labels } in
          let kb : List BodyItem = items_of code ([] ∷ scopes) body b calls inside end in
          let kh : List BodyItem = condition_items code scopes condition (3 + labels) (label code (1 + labels)) (label code (2 + labels)) (label_item code (1 + labels) ∷ kb) in
          let s0 : Stands all kh = tail all kh (label_item code labels) s in
          let s1 : Stands all (label_item code (1 + labels) ∷ kb) = after_condition all code scopes condition (3 + labels) (label code (1 + labels)) (label code (2 + labels)) (label_item code (1 + labels) ∷ kb) s0 in
          let s2 : Stands all kb = tail all kb (label_item code (1 + labels)) s1 in
          let s3 : Stands all end = after_items all code ([] ∷ scopes) body b calls inside end s2 in
          let head : items_after (label code labels) all ≡ kh = at labels kh (omega arith) s in
          let out : items_after (label code (2 + labels)) all ≡ k = at (2 + labels) k (omega arith) (tail all (label_item code (2 + labels) ∷ k) (jump code labels) s3) in
          let test : History → Result Bool RunFault = λ l. condition_of program scopes l condition in
          let does_body : History → Ending = statement_done set ([] ∷ scopes) body in
          turns_run of program place Rel f stack p q n ko ka k kh kb end kh test does_body Normal
          (test_run scopes condition (3 + labels) (label code (1 + labels)) (label code (2 + labels)) kb k (label_item code (1 + labels) ∷ kb) (omega arith) s0 (at (1 + labels) kb (omega arith) s1) out do_so.0)
          (items_run true true ([] ∷ scopes) body b calls inside k kh end (omega arith) s2 out head do_so.1)
          (λ i r le on u l there. later_reaches of program place Rel f stack p q r r 1 ko ka k (ahead of f end u) (ahead of f kh u) (turns i test does_body Normal l) (omega arith)
          (to_label of program place Rel rank f stack (label code labels) kh u head) (on u l there))
          (λ i r le on u l there. on u l there)
          w n few (omega arith) m h rel
      items_run p q scopes (DoWhile body condition) labels calls around ko ka k room s eo ea do_so m h rel =
          let b : ℕ = 3 + labels + labels_in body in
          let end : List BodyItem = label_item code (2 + labels) ∷ k in
          let inside : Around = record { break = label code (2 + labels); continue = label code (1 + labels) } in
          let kc : List BodyItem = condition_items code scopes condition b (label code labels) (label code (2 + labels)) end in
          let kb : List BodyItem = items_of code ([] ∷ scopes) body (3 + labels) calls inside (label_item code (1 + labels) ∷ kc) in
          let s1 : Stands all kb = tail all kb (label_item code labels) s in
          let s2 : Stands all (label_item code (1 + labels) ∷ kc) = after_items all code ([] ∷ scopes) body (3 + labels) calls inside (label_item code (1 + labels) ∷ kc) s1 in
          let s3 : Stands all kc = tail all kc (label_item code (1 + labels)) s2 in
          let out : items_after (label code (2 + labels)) all ≡ k = at (2 + labels) k (omega arith) (after_condition all code scopes condition b (label code labels) (label code (2 + labels)) end s3) in
          rounds_run of program place Rel f stack p q n ko ka k kb kc (statement_done set ([] ∷ scopes) body) (λ l. condition_of program scopes l condition)
          (λ u l there. then_label true true n (1 + labels) k kc kc (ahead of f kb u) (statement_done set ([] ∷ scopes) body l)
          (items_run true true ([] ∷ scopes) body (3 + labels) calls inside k kc (label_item code (1 + labels) ∷ kc) (omega arith) s1 out (at (1 + labels) kc (omega arith) s2) do_so.0 u l there))
          (test_run scopes condition b (label code labels) (label code (2 + labels)) kb k end (omega arith) s3 (at labels kb (omega arith) s) out do_so.1)
          w n few (omega arith) m h rel
      items_run p q scopes (For condition last body) labels calls around ko ka k room s eo ea do_so m h rel =
          loop_run p q scopes condition last (items_of code ([] ∷ scopes) body) (statement_done set ([] ∷ scopes) body) labels calls ko ka k (omega arith) s
          (λ l d inside rest. after_items all code ([] ∷ scopes) body l d inside rest)
          (λ rest kc inside st out again. items_run true true ([] ∷ scopes) body (4 + labels + labels_if condition) (calls + calls_if program last) inside k kc rest (omega arith) st out again do_so.2)
          do_so.0 do_so.1 m h rel
      items_run p q scopes (ForAfter first condition last body) labels calls around ko ka k room s eo ea do_so m h rel =
          let inner : List Scope = scopes_after ([] ∷ scopes) first in
          let b : ℕ = labels + labels_in first in
          let d : ℕ = calls + calls_in program first in
          let loop : List BodyItem = loop_items code inner condition last (items_of code ([] ∷ inner) body) b d k in
          let s1 : Stands all loop = after_items all code ([] ∷ scopes) first labels calls around loop s in
          let go : History → Ending = turns w (does.condition_if program inner condition) (statement_done set ([] ∷ inner) body) (does.effect_if set inner last) in
          sequence of program place Rel f stack p q n ko ka loop k (ahead of f (items_of code ([] ∷ scopes) first labels calls around loop) m) (statement_done set ([] ∷ scopes) first h) go
          (items_run p q ([] ∷ scopes) first labels calls around ko ka loop (omega arith) s eo ea do_so.0 m h rel)
          (loop_run p q inner condition last (items_of code ([] ∷ inner) body) (statement_done set ([] ∷ inner) body) b d ko ka k (omega arith) s1
          (λ l e inside rest. after_items all code ([] ∷ inner) body l e inside rest)
          (λ rest kc inside st out again. items_run true true ([] ∷ inner) body (4 + b + labels_if condition) (d + calls_if program last) inside k kc rest (omega arith) st out again do_so.3)
          do_so.1 do_so.2)
      items_run p q scopes (Switch value body) labels calls around ko ka k room s eo ea do_so m h rel =
          let c : ℕ = labels + cases_in body in
          let inside : Around = record { break = label code c; continue = around.continue } in
          let end : List BodyItem = label_item code c ∷ k in
          let kb : List BodyItem = body_items code ([] ∷ scopes) body labels (c + 1) calls inside end in
          let s1 : Stands all kb = tail all kb (switch_item code scopes value body labels c) s in
          let out : items_after (label code c) all ≡ k = at c k (omega arith) (after_body all code ([] ∷ scopes) body labels (c + 1) calls inside end s1) in
          let i : Integer = switch_type code scopes value in
          let targets : List (Num × List ℕ) = targets_in code i labels body in
          let others : List ℕ = default_in code labels c body in
          let v : Valued = meaning.value_of program scopes h value in
          let by_case : ℕ → Option Ending = λ word. from_label set ([] ∷ scopes) (does.is_case program.words word) body h in
          let by_default : Option Ending = from_label set ([] ∷ scopes) is_default body h in
          let go : ℕ → Ending = λ word. after_switch (by_labels (by_case word) by_default h) in
          subst (λ (x : Result Value RunFault). Reaches of program place Rel f stack p q n ko ka k (switched targets others m x) (with_word v go)) (sym (do_so.0 (functions_of stack) m h rel))
          (on_word p q n ko ka k m targets others v go
          (λ word. switch_then of program place Rel f stack p q n ko ka k (ahead of f (items_after (label_for targets others word) all) m) (by_labels (by_case word) by_default h)
          (then_label true q n c k ka k (ahead of f (items_after (label_for targets others word) all) m) (by_labels (by_case word) by_default h)
          (switch_to true q n c k ka k m h (label_for targets others word) others (label code c) (by_case word) by_default rel out
          (cases_lead true q ([] ∷ scopes) body labels (c + 1) calls inside word others i k ka end (omega arith) (omega arith) s1 out ea do_so.1 m h rel)
          (default_leads true q ([] ∷ scopes) body labels (c + 1) calls inside c k ka end (omega arith) (omega arith) s1 out ea do_so.1 m h rel)))))
      items_run p q scopes (Case token constant) labels calls around ko ka k room s eo ea do_so m h rel = stays of program place Rel f stack p q n ko ka k m h rel
      items_run p q scopes (Default token) labels calls around ko ka k room s eo ea do_so m h rel = stays of program place Rel f stack p q n ko ka k m h rel
      items_run p q scopes (Break token) labels calls around ko ka k room s eo ea do_so m h rel =
          (do_so, record { count = 1; memory = m; rel = rel; so = to_label of program place Rel rank f stack around.break ko m eo })
      items_run p q scopes (Continue token) labels calls around ko ka k room s eo ea do_so m h rel =
          (do_so, record { count = 1; memory = m; rel = rel; so = to_label of program place Rel rank f stack around.continue ka m ea })
      items_run p q scopes (Returns token value) labels calls around ko ka k room s eo ea do_so m h rel =
          return_run of program place Rel rank f stack w callees n n' deep goes below p q ko ka scopes value calls k m h do_so rel
      items_run p q scopes (Does effect) labels calls around ko ka k room s eo ea do_so m h rel =
          effect_run of program place Rel rank f stack w callees n n' deep goes below p q ko ka scopes effect calls k m h do_so rel

      pub all_run : (p q : Bool) (scopes : List Scope) (ss : Statements) (labels calls : ℕ) (around : Around) (ko ka k : List BodyItem)
          → labels + labels_in_all ss ≤ 2 ^ 64 → Stands all (all_items_of code scopes ss labels calls around k) → items_after around.break all ≡ ko → items_after around.continue all ≡ ka
          → StatementsDo of program place Rel rank f p q scopes ss calls
          → From of program place Rel f stack p q n ko ka k (all_items_of code scopes ss labels calls around k) (statements_done set scopes ss)
      all_run p q scopes Nothing labels calls around ko ka k room s eo ea do_so m h rel = stays of program place Rel f stack p q n ko ka k m h rel
      all_run p q scopes (Then a ss) labels calls around ko ka k room s eo ea do_so m h rel =
          let inner : List Scope = scopes_after scopes a in
          let others : List BodyItem = all_items_of code inner ss (labels + labels_in a) (calls + calls_in program a) around k in
          sequence of program place Rel f stack p q n ko ka others k (ahead of f (items_of code scopes a labels calls around others) m) (statement_done set scopes a h) (statements_done set inner ss)
          (items_run p q scopes a labels calls around ko ka others (omega arith) s eo ea do_so.0 m h rel)
          (all_run p q inner ss (labels + labels_in a) (calls + calls_in program a) around ko ka k (omega arith) (after_items all code scopes a labels calls around others s) eo ea do_so.1)

      body_run : (p q : Bool) (scopes : List Scope) (ss : Statements) (cases labels calls : ℕ) (around : Around) (ko ka k : List BodyItem)
          → labels + labels_in_all ss ≤ 2 ^ 64 → Stands all (body_items code scopes ss cases labels calls around k) → items_after around.break all ≡ ko → items_after around.continue all ≡ ka
          → StatementsDo of program place Rel rank f p q scopes ss calls
          → From of program place Rel f stack p q n ko ka k (body_items code scopes ss cases labels calls around k) (statements_done set scopes ss)
      body_run p q scopes Nothing cases labels calls around ko ka k room s eo ea do_so m h rel = stays of program place Rel f stack p q n ko ka k m h rel
      body_run p q scopes (Then a ss) cases labels calls around ko ka k room s eo ea do_so m h rel =
          let inner : List Scope = scopes_after scopes a in
          let others : List BodyItem = body_items code inner ss (is_case a + cases) (labels + labels_in a) (calls + calls_in program a) around k in
          let items : List BodyItem = items_of code scopes a labels calls around others in
          let s1 : Stands all items = after_case all code a cases items s in
          let go : Ending = then_do (statement_done set scopes a h) (statements_done set inner ss) in
          subst (λ (e : End). Reaches of program place Rel f stack p q n ko ka k e go) (sym (case_ahead a cases items m))
          (sequence of program place Rel f stack p q n ko ka others k (ahead of f items m) (statement_done set scopes a h) (statements_done set inner ss)
          (items_run p q scopes a labels calls around ko ka others (omega arith) s1 eo ea do_so.0 m h rel)
          (body_run p q inner ss (is_case a + cases) (labels + labels_in a) (calls + calls_in program a) around ko ka k (omega arith)
          (after_items all code scopes a labels calls around others s1) eo ea do_so.1))

      cases_lead : (p q : Bool) (scopes : List Scope) (ss : Statements) (cases labels calls : ℕ) (around : Around) (word : ℕ) (others : List ℕ) (i : Integer) (ko ka k : List BodyItem)
          → cases + cases_in ss ≤ 2 ^ 64 → labels + labels_in_all ss ≤ 2 ^ 64 → Stands all (body_items code scopes ss cases labels calls around k)
          → items_after around.break all ≡ ko → items_after around.continue all ≡ ka → StatementsDo of program place Rel rank f p q scopes ss calls → (m h : List RunEvent) → Related m h
          → Cased p q n ko ka k m (label_for (targets_in code i cases ss) others word) others (from_label set scopes (does.is_case program.words word) ss h)
      cases_lead p q scopes Nothing cases labels calls around word others i ko ka k room room' s eo ea do_so m h rel = refl
      cases_lead p q scopes (Then (Case token constant) ss) cases labels calls around word others i ko ka k room room' s eo ea do_so m h rel =
          let a : Statement = Case token constant in
          let rest : List BodyItem = body_items code scopes ss (is_case a + cases) (labels + labels_in a) (calls + calls_in program a) around k in
          let s1 : Stands all rest = tail all rest (label_item code cases) s in
          let further : ℕ → List ℕ = λ (x : ℕ). label_for (targets_in code i x ss) others word in
          let o : Option Ending = from_label set scopes (does.is_case program.words word) ss h in
          let same : is_case a + cases ≡ suc cases = omega arith in
          on_case p q n ko ka k m (label_of program.words constant == word) (label code cases) (further (suc cases)) others (statements_done set scopes ss h) o
          (subst (λ (x : List BodyItem). Goes_on p q n ko ka k x m (statements_done set scopes ss h)) (sym (at cases rest (omega arith) s))
          (body_run p q scopes ss (is_case a + cases) (labels + labels_in a) (calls + calls_in program a) around ko ka k (omega arith) s1 eo ea do_so.1 m h rel))
          (subst (λ (x : ℕ). Cased p q n ko ka k m (further x) others o) same
          (cases_lead p q scopes ss (is_case a + cases) (labels + labels_in a) (calls + calls_in program a) around word others i ko ka k (omega arith) (omega arith) s1 eo ea do_so.1 m h rel))
      cases_lead p q scopes (Then a ss) cases labels calls around word others i ko ka k room room' s eo ea do_so m h rel =
          let inner : List Scope = scopes_after scopes a in
          let rest : List BodyItem = body_items code inner ss (is_case a + cases) (labels + labels_in a) (calls + calls_in program a) around k in
          let items : List BodyItem = items_of code scopes a labels calls around rest in
          let s1 : Stands all rest = after_items all code scopes a labels calls around rest (after_case all code a cases items s) in
          cases_lead p q inner ss (is_case a + cases) (labels + labels_in a) (calls + calls_in program a) around word others i ko ka k (omega arith) (omega arith) s1 eo ea do_so.1 m h rel

      default_leads : (p q : Bool) (scopes : List Scope) (ss : Statements) (cases labels calls : ℕ) (around : Around) (end : ℕ) (ko ka k : List BodyItem)
          → cases + cases_in ss ≤ 2 ^ 64 → labels + labels_in_all ss ≤ 2 ^ 64 → Stands all (body_items code scopes ss cases labels calls around k)
          → items_after around.break all ≡ ko → items_after around.continue all ≡ ka → StatementsDo of program place Rel rank f p q scopes ss calls → (m h : List RunEvent) → Related m h
          → Cased p q n ko ka k m (default_in code cases end ss) (label code end) (from_label set scopes is_default ss h)
      default_leads p q scopes Nothing cases labels calls around end ko ka k room room' s eo ea do_so m h rel = refl
      default_leads p q scopes (Then (Default token) ss) cases labels calls around end ko ka k room room' s eo ea do_so m h rel =
          let a : Statement = Default token in
          let rest : List BodyItem = body_items code scopes ss (is_case a + cases) (labels + labels_in a) (calls + calls_in program a) around k in
          subst (λ (x : List BodyItem). Goes_on p q n ko ka k x m (statements_done set scopes ss h)) (sym (at cases rest (omega arith) s))
          (body_run p q scopes ss (is_case a + cases) (labels + labels_in a) (calls + calls_in program a) around ko ka k (omega arith) (tail all rest (label_item code cases) s) eo ea do_so.1 m h rel)
      default_leads p q scopes (Then a ss) cases labels calls around end ko ka k room room' s eo ea do_so m h rel =
          let inner : List Scope = scopes_after scopes a in
          let rest : List BodyItem = body_items code inner ss (is_case a + cases) (labels + labels_in a) (calls + calls_in program a) around k in
          let items : List BodyItem = items_of code scopes a labels calls around rest in
          let s1 : Stands all rest = after_items all code scopes a labels calls around rest (after_case all code a cases items s) in
          default_leads p q inner ss (is_case a + cases) (labels + labels_in a) (calls + calls_in program a) around end ko ka k (omega arith) (omega arith) s1 eo ea do_so.1 m h rel
