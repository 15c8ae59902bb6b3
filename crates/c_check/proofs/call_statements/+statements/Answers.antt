-- One more statement is gone through.
use Rattle.std.proofs.Common.{◌≡◌, ◌+◌, ◌<◌, ◌++◌, ℕ, List, map, length, drop, get_or, ap, sym, ◌∙◌}
use Rattle.std.specs.Option.{option_map}
use Rattle.std.proofs.lemmas.List.{at_drop_more}
use Rattle.c_unit.specs.declared.statement.Stmt.{Stmt}
use Rattle.c_unit.specs.Tree.{expression_of, effect_of, statement_of, statements_of}
use Rattle.c_unit.specs.Units.{Word}
use Rattle.c_rules.specs.Recursion.{calls_in, calls_if_done, called_in, numbers_at}
use Rattle.c_check.specs.OptionalStatements.{stated, calls_if_stated}
use Rattle.c_check.proofs.Numbering.{joined}
use Rattle.c_check.proofs.Trees.{if_tree, if_calls, for_tree, for_calls}
use Rattle.c_check.proofs.call_statements.+statements.Goals as goal

-- the calls from here on
abbrev called_from : List Stmt → List ℕ
called_from body = called_in (statements_of (map statement_of body))

noted : (words : List Word) (names row : List ℕ) (body : List Stmt) (i : ℕ) (s : Stmt) → i < length body
    → s ≡ get_or body i s
    → (row ++ numbers_at words names (calls_in (statement_of s))) ++ numbers_at words names (called_from (drop (i + 1) body)) ≡ row ++ numbers_at words names (called_from (drop i body))
noted words names row body i s low is =
    sym (at_drop_more (λ (ys : List Stmt). row ++ numbers_at words names (called_from ys)) body i s low
    ∙ rw (← is) (sym (joined words names row (calls_in (statement_of s)) (called_from (drop (i + 1) body)))))

pub note_statements-loop-s-preserved : goal.note_statements-loop-s-preserved
note_statements-loop-s-preserved t c =
    let words = c.args.functions.now.words in
    let names = c.args.functions.now.names in
    let body = c.args.body.now in
    let i = c.loop-s.s-index in
    ap (λ (row : List ℕ). row ++ numbers_at words names (called_from (drop (i + 1) body))) c.in_ok-note_statement.ensures
    ∙ noted words names c.loop-s.row.items body i c.s-item.result c.loop-s-test.true c.s-item.is ∙ c.loop-s.invariant

-- one list of calls, and then another
after : (words : List Word) (names row next last xs ys : List ℕ) → last ≡ next ++ numbers_at words names ys
    → next ≡ row ++ numbers_at words names xs → last ≡ row ++ numbers_at words names (xs ++ ys)
after words names row next last xs ys second first = second ∙ ap (λ (r : List ℕ). r ++ numbers_at words names ys) first ∙ joined words names row xs ys

pub note_statement-returns-in_ok-note_if_stated-in-If : goal.note_statement-returns-in_ok-note_if_stated-in-If
note_statement-returns-in_ok-note_if_stated-in-If t c =
    let words = c.args.functions.now.words in
    let names = c.args.functions.now.names in
    let row = c.args.row.now.items in
    let condition = c.in-If.field-0 in
    let body = c.in-If.body in
    let otherwise = c.in-If.otherwise in
    let is : calls_in (statement_of c.args.s.now) ≡ calls_in (statement_of body.value) ++ calls_if_stated (stated otherwise) =
    rw c.in-If.is (ap calls_in (if_tree condition body otherwise) ∙ if_calls (expression_of condition) (statement_of body.value) (stated otherwise)) in
    let first = c.in_ok-note_statement-in-If.ensures ∙ ap (λ (s : Stmt). row ++ numbers_at words names (calls_in (statement_of s))) c.deref-in-If.ensures in
    after words names row c.note_statement.new.row.items c.note_if_stated.new.row.items (calls_in (statement_of body.value)) (calls_if_stated (stated otherwise)) c.in_ok-note_if_stated-in-If.ensures first
    ∙ ap (λ (calls : List ℕ). row ++ numbers_at words names calls) (sym is)

pub note_statement-returns-in_ok-note_statement-in-For : goal.note_statement-returns-in_ok-note_statement-in-For
note_statement-returns-in_ok-note_statement-in-For t c =
    let words = c.args.functions.now.words in
    let names = c.args.functions.now.names in
    let row = c.args.row.now.items in
    let first = c.in-For.first in
    let condition = c.in-For.field-1 in
    let done = c.in-For.after in
    let body = c.in-For.body in
    let firsts = calls_if_stated (stated first) in
    let behind = calls_if_done (option_map effect_of done) in
    let inner = calls_in (statement_of body.value) in
    let is : calls_in (statement_of c.args.s.now) ≡ firsts ++ (behind ++ inner) =
    rw c.in-For.is (ap calls_in (for_tree first condition done body) ∙ for_calls (stated first) (option_map expression_of condition) (option_map effect_of done) (statement_of body.value)) in
    let begun = c.note_if_stated-in-For.new.row.items in
    let next = c.note_if_done.new.row.items in
    let last = c.note_statement-in-For.new.row.items in
    let ended = c.in_ok-note_statement-in-For.ensures ∙ ap (λ (s : Stmt). next ++ numbers_at words names (calls_in (statement_of s))) c.deref-in-For.ensures in
    after words names row begun last firsts (behind ++ inner) (after words names begun next last behind inner ended c.in_ok-note_if_done-in-For.ensures) c.in_ok-note_if_stated-in-For.ensures
    ∙ ap (λ (calls : List ℕ). row ++ numbers_at words names calls) (sym is)
