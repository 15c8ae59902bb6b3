-- Items of statements stand.
--   AroundStands a b     the labels to which `break` and `continue` lead are the function's, where they may stand
--   items_stand, all_items_stand   the items of a statement stand, and of statements in a row
use Rattle.std.proofs.Common.{◌≡◌, ◌<◌, ◌≤◌, ◌+◌, ℕ, true, List, [], ◌∷◌, ◌++◌, Option, None, Some, sym, subst, arith}
use Rattle.alf_program.specs.Tree.{NamedExpression, BodyItem, WholeProgram}
use Rattle.alf_program.specs.Tree as alf
use Rattle.c_unit.specs.declared.types.Integer.{Integer}
use Rattle.c_unit.specs.declared.types.Scalar.TheVariants as scalars
use Rattle.c_unit.specs.declared.types.Outcome.{Outcome}
use Rattle.c_unit.specs.declared.types.Outcome.TheVariants as outcomes
use Rattle.c_unit.specs.Tree.{Expression, ValueTree, EffectTree, Statement, Empty, Declares, Block, If, IfElse, While, Do as DoWhile, For, ForAfter, Switch as SwitchOn, Case, Default, Break, Continue, Returns, Does, Statements, Nothing, Then}
use Rattle.c_rules.specs.Names.{Scope}
use Rattle.c_rules.specs.Statements.{Around, inside, in_loop_of, in_switch_of, around_after, scopes_after}
use Rattle.c_rules.specs.Standing.{IsCondition, IfCondition, IfDone, ReturnStands, StatementStands, StatementsStand}
use Rattle.c_rules.specs.Recursion as asked
use Rattle.c_meaning.specs.Objects.{Object, Program, function_at, locals_in, all_locals_in}
use Rattle.c_lowered.specs.Conditions.{Within, label, condition_labels, condition_items}
use Rattle.c_lowered.specs.Statements.{is_case, cases_in, labels_in, labels_in_all, labels_if, calls_if, calls_in, calls_in_all, condition_if, effect_if, as_result, return_item, return_items, switch_type, Body, loop_items, items_of, all_items_of, body_items}
use Rattle.c_lowered.specs.Statements as lowered
use Rattle.c_rules.specs.SpelledExpressions.{IfValue, IfEffect, IfCondition as InCondition, InStatement, InStatements}
use Rattle.lowering_layout.specs.Lists.{EachOf}
use Rattle.lowering_layout.specs.ListLaws.{each_parts}
use Rattle.lowering_checks.specs.Terms.{Term}
use Rattle.lowering_checks.proofs.TermLaws.{deeper}
use Rattle.lowering_checks.proofs.OperatorLaws.{cut_term}
use Rattle.lowering_checks.specs.Values.{deep}
use Rattle.lowering_checks.proofs.ValueLaws.{names_stand, value_term}
use Rattle.lowering_checks.proofs.StandingLaws as standing_laws
use Rattle.lowering_checks.specs.Effects.{Shallow}
use Rattle.lowering_checks.proofs.EffectLaws.{ResultsUsable, IsAsked, within, value_items_stand, effect_items_stand}
use Rattle.lowering_checks.proofs.DeclarationLaws.{IsLocal, AreKnown, known_with_locals, locals_items_stand}
use Rattle.lowering_checks.proofs.ConditionLaws.{Items, IsOwn, own_label, condition_stands, targets_stand, default_stands, case_stands}

module _ (whole : WholeProgram) (func : alf.Function) (program : Program) (defined : List ℕ) (f labels results : ℕ)
    (usable_results : ResultsUsable whole func program defined f labels results) where
  abbrev pub Stands : List BodyItem → Type 0
  Stands items = Items whole func program defined f labels results items

  abbrev pub Known : List Scope → Type 0
  Known scopes = AreKnown whole func program defined f labels results usable_results scopes

  abbrev pub Locals : List Object → Type 0
  Locals os = EachOf (IsLocal whole func program defined f labels results) os

  abbrev pub Asks : List ℕ → Type 0
  Asks tokens = EachOf (IsAsked whole func program defined f labels results) tokens

  abbrev pub Own : List ℕ → Type 0
  Own name = IsOwn whole func program defined f labels results name

  abbrev pub w : Within
  w = within whole func program defined f labels results

  own : (k : ℕ) → k < labels → Own (label w k)
  own k low = own_label whole func program defined f labels results k low

  pub record AroundStands (a : Around) (b : lowered.Around) : Type 0 where
    pub break : a.may_break ≡ true → Own b.break
    pub continue : a.in_loop ≡ true → Own b.continue
    pub result : a.result ≡ (function_at program f).result

  -- ---- parts

  condition_part : (scopes : List Scope) (e : Expression) (next : ℕ) (held failed : List ℕ) (rest : List BodyItem)
      → Known scopes
      → IsCondition program.words scopes e → Shallow e → next + condition_labels e ≤ labels → Own held → Own failed → Stands rest
      → Stands (condition_items w scopes e next held failed rest)
  condition_part scopes e next held failed rest known is low most is_held is_failed are =
      condition_stands whole func program defined f labels results scopes known.0 e next held failed rest
      (names_stand program.words scopes e is.type is.has) low most is_held is_failed are

  condition_if_stands : (scopes : List Scope) (e : Option Expression) (next held failed : ℕ) (rest : List BodyItem)
      → Known scopes
      → IfCondition program.words scopes e → InCondition Shallow e → next + labels_if e ≤ labels → held < labels
      → failed < labels → Stands rest
      → Stands (condition_if w scopes e next held failed rest)
  condition_if_stands scopes None next held failed rest known is low most is_held is_failed are = (own held is_held, are)
  condition_if_stands scopes (Some e) next held failed rest known is low most is_held is_failed are =
      condition_part scopes e next (label w held) (label w failed) rest known is low most (own held is_held) (own failed is_failed) are

  effect_if_stands : (scopes : List Scope) (effect : Option EffectTree) (n : ℕ) (rest : List BodyItem) → Known scopes
      → IfDone program.words defined scopes effect → IfEffect Shallow effect → Asks (asked.calls_if_done effect)
      → n + calls_if program effect ≤ results → Stands rest → Stands (effect_if w scopes effect n rest)
  effect_if_stands scopes None n rest known is low asks most are = are
  effect_if_stands scopes (Some effect) n rest known is low asks most are =
      effect_items_stand whole func program defined f labels results usable_results scopes known.0 known.1 effect n rest is low asks most are

  loop_stands : (scopes : List Scope) (condition : Option Expression) (last : Option EffectTree) (body : Body) (n c more : ℕ)
      (rest : List BodyItem) → Known scopes → IfCondition program.words scopes condition → InCondition Shallow condition
      → IfDone program.words defined scopes last → IfEffect Shallow last → Asks (asked.calls_if_done last)
      → n + (4 + labels_if condition + more) ≤ labels → c + calls_if program last ≤ results
      → ((b : lowered.Around) (items : List BodyItem) → Own b.break → Own b.continue → Stands items
      → Stands (body (4 + n + labels_if condition) (c + calls_if program last) b items)) → Stands rest
      → Stands (loop_items w scopes condition last body n c rest)
  loop_stands scopes condition last body n c more rest known is low done low_last asks most most_calls in_body are = (
    own n (omega (arith, most)),
    condition_if_stands scopes condition (4 + n) (1 + n) (3 + n) _ known is low (omega (arith, most)) (omega (arith, most)) (omega (arith, most)) (
      own (1 + n) (omega (arith, most)),
      in_body (record { break = label w (3 + n); continue = label w (2 + n) }) _ (own (3 + n) (omega (arith, most))) (own (2 + n) (omega (arith, most))) (
        own (2 + n) (omega (arith, most)),
        effect_if_stands scopes last c _ known done low_last asks most_calls
            (own n (omega (arith, most)), (own (3 + n) (omega (arith, most)), are)),
      ),
    ),
  )

  return_makes : (o : Outcome) (i : Integer) (e : NamedExpression) → o ≡ outcomes.Integer i → Term whole func 32 53 e
      → standing_laws.ReturnStands whole func program f labels o (Some (as_result o e))
  return_makes o i e is term =
      subst (λ (r : Outcome). standing_laws.ReturnStands whole func program f labels r (Some (as_result r e))) (sym is)
      (deeper whole func _ 54 64 _ (omega arith) (cut_term whole func i 53 e term))

  returns_stand : (o : Outcome) (scopes : List Scope) (value : Option ValueTree) (n : ℕ) (rest : List BodyItem)
      → o ≡ (function_at program f).result → Known scopes → ReturnStands program.words defined scopes o value → IfValue Shallow value
      → Asks (asked.calls_if_valued value)
      → n + lowered.calls_in_returned program value ≤ results → Stands rest → Stands (return_items w scopes value n rest)
  returns_stand outcomes.Nothing scopes None n rest same known stand low asks most are =
      (subst (λ (r : Outcome). standing_laws.ReturnStands whole func program f labels r None) same tt, are)
  returns_stand outcomes.Nothing scopes (Some value) n rest same known stand low asks most are = absurd stand
  returns_stand (outcomes.Integer i) scopes None n rest same known stand low asks most are = absurd stand
  returns_stand (outcomes.Integer i) scopes (Some value) n rest same known stand low asks most are =
      value_items_stand whole func program defined f labels results usable_results scopes known.0 known.1 (scalars.Integer i) value n
      (return_item w) rest stand low asks most
      (λ e term. return_makes (function_at program f).result i e (sym same) term) are

  -- ---- what is known after a statement

  again : (a : Around) (b : lowered.Around) → AroundStands a b → AroundStands (inside a) b
  again a b around = record { break = around.break; continue = around.continue; result = around.result }

  known_after : (scopes : List Scope) (s : Statement) → Known scopes → Locals (locals_in program.words f s)
      → Known (scopes_after scopes s)
  known_after scopes (Declares first kind names) known locals =
      known_with_locals whole func program defined f labels results usable_results kind scopes names known locals
  known_after scopes (Case token c) known locals = known
  known_after scopes (Default token) known locals = known
  known_after scopes (Empty token) known locals = known
  known_after scopes (Block body) known locals = known
  known_after scopes (If condition body) known locals = known
  known_after scopes (IfElse condition body otherwise) known locals = known
  known_after scopes (While condition body) known locals = known
  known_after scopes (DoWhile body condition) known locals = known
  known_after scopes (For condition last body) known locals = known
  known_after scopes (ForAfter first condition last body) known locals = known
  known_after scopes (SwitchOn value body) known locals = known
  known_after scopes (Break token) known locals = known
  known_after scopes (Continue token) known locals = known
  known_after scopes (Returns token value) known locals = known
  known_after scopes (Does effect) known locals = known

  around_still : (a : Around) (s : Statement) (b : lowered.Around) → AroundStands a b
      → AroundStands (around_after program.words a s) b
  around_still a (Case token c) b around = record { break = around.break; continue = around.continue; result = around.result }
  around_still a (Default token) b around = record { break = around.break; continue = around.continue; result = around.result }
  around_still a (Declares first kind names) b around = around
  around_still a (Empty token) b around = around
  around_still a (Block body) b around = around
  around_still a (If condition body) b around = around
  around_still a (IfElse condition body otherwise) b around = around
  around_still a (While condition body) b around = around
  around_still a (DoWhile body condition) b around = around
  around_still a (For condition last body) b around = around
  around_still a (ForAfter first condition last body) b around = around
  around_still a (SwitchOn value body) b around = around
  around_still a (Break token) b around = around
  around_still a (Continue token) b around = around
  around_still a (Returns token value) b around = around
  around_still a (Does effect) b around = around

  -- ---- statements

  mutual
    pub items_stand : (a : Around) (scopes : List Scope) (s : Statement) (n c : ℕ) (b : lowered.Around) (rest : List BodyItem)
        → StatementStands program.words defined a scopes s → InStatement Shallow Shallow s → Known scopes
        → Locals (locals_in program.words f s) → Asks (asked.calls_in s) → n + labels_in s ≤ labels → c + calls_in program s ≤ results
        → AroundStands a b → Stands rest → Stands (items_of w scopes s n c b rest)
    items_stand a scopes (Empty token) n c b rest stand low known locals asks most few around are = are
    items_stand a scopes (Declares first kind names) n c b rest stand low known locals asks most few around are =
        locals_items_stand whole func program defined f labels results usable_results kind scopes names c rest known locals stand low asks few are
    items_stand a scopes (Block body) n c b rest stand low known locals asks most few around are =
        all_items_stand (inside a) ([] ∷ scopes) body n c b rest stand low known locals asks most few (again a b around) are
    items_stand a scopes (If condition body) n c b rest stand low known locals asks most few around are =
        condition_part scopes condition (2 + n) (label w n) (label w (1 + n)) _ known stand.0 low.0 (omega (arith, most))
        (own n (omega (arith, most))) (own (1 + n) (omega (arith, most))) (
          own n (omega (arith, most)),
          items_stand (inside a) ([] ∷ scopes) body (2 + n + condition_labels condition) c b _ stand.1 low.1 known locals asks
              (omega (arith, most)) few (again a b around)
              (own (1 + n) (omega (arith, most)), (own (1 + n) (omega (arith, most)), are)),
        )
    items_stand a scopes (IfElse condition body otherwise) n c b rest stand low known locals asks most few around are =
        let parts = each_parts (IsLocal whole func program defined f labels results) (locals_in program.words f body)
        (locals_in program.words f otherwise) locals in
        let ask = each_parts (IsAsked whole func program defined f labels results) (asked.calls_in body) (asked.calls_in otherwise) asks in
        condition_part scopes condition (3 + n) (label w n) (label w (1 + n)) _ known stand.0 low.0 (omega (arith, most))
        (own n (omega (arith, most))) (own (1 + n) (omega (arith, most))) (
          own n (omega (arith, most)),
          items_stand (inside a) ([] ∷ scopes) body (3 + n + condition_labels condition) c b _ stand.1 low.1 known parts.0 ask.0
              (omega (arith, most)) (omega (arith, few)) (again a b around) (
                own (2 + n) (omega (arith, most)),
                (
                  own (1 + n) (omega (arith, most)),
                  items_stand (inside a) ([] ∷ scopes) otherwise (3 + n + condition_labels condition + labels_in body)
                      (c + calls_in program body) b _ stand.2 low.2 known parts.1 ask.1 (omega (arith, most))
                      (omega (arith, few)) (again a b around)
                      (own (2 + n) (omega (arith, most)), are),
                ),
              ),
        )
    items_stand a scopes (While condition body) n c b rest stand low known locals asks most few around are = (
      own n (omega (arith, most)),
      condition_part scopes condition (3 + n) (label w (1 + n)) (label w (2 + n)) _ known stand.0 low.0 (omega (arith, most))
          (own (1 + n) (omega (arith, most))) (own (2 + n) (omega (arith, most))) (
            own (1 + n) (omega (arith, most)),
            items_stand (in_loop_of a) ([] ∷ scopes) body (3 + n + condition_labels condition) c
                (record { break = label w (2 + n); continue = label w n }) _ stand.1 low.1 known locals asks (omega (arith, most)) few
                (record { break = λ _. own (2 + n) (omega (arith, most)); continue = λ _. own n (omega (arith, most)); result = around.result })
                (own n (omega (arith, most)), (own (2 + n) (omega (arith, most)), are)),
          ),
    )
    items_stand a scopes (DoWhile body condition) n c b rest stand low known locals asks most few around are = (
      own n (omega (arith, most)),
      items_stand (in_loop_of a) ([] ∷ scopes) body (3 + n) c (record { break = label w (2 + n); continue = label w (1 + n) })
          _ stand.0 low.0 known locals asks (omega (arith, most)) few
          (record { break = λ _. own (2 + n) (omega (arith, most)); continue = λ _. own (1 + n) (omega (arith, most)); result = around.result }) (
            own (1 + n) (omega (arith, most)),
            condition_part scopes condition (3 + n + labels_in body) (label w n) (label w (2 + n)) _ known stand.1 low.1
                (omega (arith, most)) (own n (omega (arith, most))) (own (2 + n) (omega (arith, most)))
                (own (2 + n) (omega (arith, most)), are),
          ),
    )
    items_stand a scopes (For condition last body) n c b rest stand low known locals asks most few around are =
        let ask = each_parts (IsAsked whole func program defined f labels results) (asked.calls_if_done last) (asked.calls_in body) asks in
        loop_stands scopes condition last (items_of w ([] ∷ scopes) body) n c (labels_in body)
        rest known stand.0 low.0 stand.1 low.1 ask.0 most (omega (arith, few))
        (λ d items is_break is_continue standing. items_stand (in_loop_of a) ([] ∷ scopes) body (4 + n + labels_if condition)
        (c + calls_if program last) d items stand.2 low.2 known locals ask.1 (omega (arith, most)) (omega (arith, few))
        (record { break = λ _. is_break; continue = λ _. is_continue; result = around.result }) standing) are
    items_stand a scopes (ForAfter first condition last body) n c b rest stand low known locals asks most few around are =
        let parts = each_parts (IsLocal whole func program defined f labels results) (locals_in program.words f first)
        (locals_in program.words f body) locals in
        let ask = each_parts (IsAsked whole func program defined f labels results) (asked.calls_in first)
        (asked.calls_if_done last ++ asked.calls_in body) asks in
        let later = each_parts (IsAsked whole func program defined f labels results) (asked.calls_if_done last) (asked.calls_in body) ask.1 in
        let further = scopes_after ([] ∷ scopes) first in
        let known_further = known_after ([] ∷ scopes) first known parts.0 in
        items_stand (inside a) ([] ∷ scopes) first n c b _ stand.0 low.0 known parts.0 ask.0 (omega (arith, most)) (omega (arith, few)) (again a b around)
        (loop_stands further condition last (items_of w ([] ∷ further) body) (n + labels_in first) (c + calls_in program first)
        (labels_in body) rest known_further stand.1 low.1 stand.2 low.2 later.0 (omega (arith, most)) (omega (arith, few))
        (λ d items is_break is_continue standing. items_stand (in_loop_of a) ([] ∷ further) body
        (4 + (n + labels_in first) + labels_if condition) (c + calls_in program first + calls_if program last)
        d items stand.3 low.3 known_further parts.1 later.1 (omega (arith, most)) (omega (arith, few))
        (record { break = λ _. is_break; continue = λ _. is_continue; result = around.result }) standing) are)
    items_stand a scopes (SwitchOn value body) n c b rest stand low known locals asks most few around are =
        let targets = targets_stand whole func program defined f labels results (switch_type w scopes value) n (in_switch_of a)
        ([] ∷ scopes) body stand.1 (omega (arith, most)) in (
          record {
            size = 32;
            some = omega arith;
            small = omega arith;
            value_term =
                deeper whole func 32 (deep value) 64 _ (let shallow : Shallow value = low.0 in
                omega (arith, shallow)) (value_term whole func program scopes known.0 value
                (names_stand program.words scopes value stand.0.type stand.0.has));
            each = targets.each;
            differ = targets.differ;
            leads_else = default_stands whole func program defined f labels results n (n + cases_in body) body (omega (arith, most)) (omega (arith, most));
          },
          body_stands (in_switch_of a) ([] ∷ scopes) body n (n + cases_in body + 1) c
              (record { break = label w (n + cases_in body); continue = b.continue }) _ stand.1 low.1 known locals asks
              (omega (arith, most)) (omega (arith, most)) few
              (record { break = λ _. own (n + cases_in body) (omega (arith, most)); continue = around.continue; result = around.result })
              (own (n + cases_in body) (omega (arith, most)), are),
        )
    items_stand a scopes (Case token constant) n c b rest stand low known locals asks most few around are = are
    items_stand a scopes (Default token) n c b rest stand low known locals asks most few around are = are
    items_stand a scopes (Break token) n c b rest stand low known locals asks most few around are = (around.break stand, are)
    items_stand a scopes (Continue token) n c b rest stand low known locals asks most few around are = (around.continue stand, are)
    items_stand a scopes (Returns token value) n c b rest stand low known locals asks most few around are =
        returns_stand a.result scopes value c rest around.result known stand low asks few are
    items_stand a scopes (Does effect) n c b rest stand low known locals asks most few around are =
        effect_items_stand whole func program defined f labels results usable_results scopes known.0 known.1 effect c rest stand low asks few are

    pub all_items_stand : (a : Around) (scopes : List Scope) (ss : Statements) (n c : ℕ) (b : lowered.Around) (rest : List BodyItem)
        → StatementsStand program.words defined a scopes ss → InStatements Shallow Shallow ss → Known scopes
        → Locals (all_locals_in program.words f ss) → Asks (asked.called_in ss) → n + labels_in_all ss ≤ labels
        → c + calls_in_all program ss ≤ results → AroundStands a b → Stands rest → Stands (all_items_of w scopes ss n c b rest)
    all_items_stand a scopes Nothing n c b rest stand low known locals asks most few around are = are
    all_items_stand a scopes (Then s ss) n c b rest stand low known locals asks most few around are =
        let parts = each_parts (IsLocal whole func program defined f labels results) (locals_in program.words f s) (all_locals_in program.words f ss) locals in
        let ask = each_parts (IsAsked whole func program defined f labels results) (asked.calls_in s) (asked.called_in ss) asks in
        items_stand a scopes s n c b _ stand.0 low.0 known parts.0 ask.0 (omega (arith, most)) (omega (arith, few)) around
        (all_items_stand (around_after program.words a s) (scopes_after scopes s) ss (n + labels_in s) (c + calls_in program s)
        b rest stand.1 low.1 (known_after scopes s known parts.0) parts.1 ask.1 (omega (arith, most)) (omega (arith, few))
        (around_still a s b around) are)

    pub body_stands : (a : Around) (scopes : List Scope) (ss : Statements) (k n c : ℕ) (b : lowered.Around) (rest : List BodyItem)
        → StatementsStand program.words defined a scopes ss → InStatements Shallow Shallow ss → Known scopes
        → Locals (all_locals_in program.words f ss) → Asks (asked.called_in ss) → k + cases_in ss ≤ labels
        → n + labels_in_all ss ≤ labels → c + calls_in_all program ss ≤ results → AroundStands a b → Stands rest
        → Stands (body_items w scopes ss k n c b rest)
    body_stands a scopes Nothing k n c b rest stand low known locals asks cases most few around are = are
    body_stands a scopes (Then s ss) k n c b rest stand low known locals asks cases most few around are =
        let parts = each_parts (IsLocal whole func program defined f labels results) (locals_in program.words f s) (all_locals_in program.words f ss) locals in
        let ask = each_parts (IsAsked whole func program defined f labels results) (asked.calls_in s) (asked.called_in ss) asks in
        case_stands whole func program defined f labels results s k _ (omega (arith, cases))
        (items_stand a scopes s n c b _ stand.0 low.0 known parts.0 ask.0 (omega (arith, most)) (omega (arith, few)) around
        (body_stands (around_after program.words a s) (scopes_after scopes s) ss (is_case s + k) (n + labels_in s)
        (c + calls_in program s) b rest stand.1 low.1 (known_after scopes s known parts.0) parts.1 ask.1 (omega (arith, cases))
        (omega (arith, most)) (omega (arith, few)) (around_still a s b around) are))
