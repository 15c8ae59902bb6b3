-- Scopes after statements.
--   others_after   a statement declares in the innermost scope alone
--   left_after     a scope that a statement had for itself is left
--   left_row       a scope that a row had for itself is left
--   for_after      a `for` declares nothing around it
use Rattle.std.proofs.Common.{◌≡◌, List, [], ◌∷◌, Option, Some, Box, refl, ap, sym, ◌∙◌}
use Rattle.std.specs.declared.alloc.Global.{Global}
use Rattle.c_unit.specs.declared.types.Integer.{Integer}
use Rattle.c_unit.specs.declared.expression.Expr.{Expr}
use Rattle.c_unit.specs.declared.statement.Effect.{Effect}
use Rattle.c_unit.specs.declared.statement.Stmt.{Stmt}
use Rattle.c_unit.specs.declared.statement.Stmt.TheFolds.{fold-roll-Stmt}
use Rattle.c_unit.specs.declared.statement.Stmt.TheOpen as stmts
use Rattle.c_unit.specs.declared.statement.Stmt.TheVariants as variants
use Rattle.c_unit.specs.declared.statement.Stmt.TheViews.{rolls-For}
use Rattle.c_unit.specs.Units.{Word}
use Rattle.c_unit.specs.Tree.{LocalTree, Statement, Empty, Declares, Block, If, IfElse, While, Do, For, ForAfter, Switch, Case, Default, Break, Continue, Returns, Does, statement_step, statement_of}
use Rattle.c_rules.specs.Names.{Scope}
use Rattle.c_rules.specs.Statements.{scopes_after, with_local, with_locals}
use Rattle.c_scopes.specs.Views.{Known, others, entered, left}
use Rattle.statement_lowering.specs.Afterwards.{Stays}
use Rattle.statement_lowering.specs.Views.{known_after}

other_locals : (kind : Integer) (scopes : List Scope) (locals : List LocalTree)
    → others (with_locals kind scopes locals) ≡ others scopes
other_locals kind scopes [] = refl
other_locals kind [] (local ∷ locals) = other_locals kind (with_local kind [] local) locals
other_locals kind (scope ∷ scopes) (local ∷ locals) = other_locals kind (with_local kind (scope ∷ scopes) local) locals

-- a statement declares in the innermost scope alone
pub others_after : (scopes : List Scope) (s : Statement) → others (scopes_after scopes s) ≡ others scopes
others_after scopes (Empty token) = refl
others_after scopes (Declares first kind locals) = other_locals kind scopes locals
others_after scopes (Block body) = refl
others_after scopes (If condition body) = refl
others_after scopes (IfElse condition body otherwise) = refl
others_after scopes (While condition body) = refl
others_after scopes (Do body condition) = refl
others_after scopes (For condition after body) = refl
others_after scopes (ForAfter first condition after body) = refl
others_after scopes (Switch value body) = refl
others_after scopes (Case token c) = refl
others_after scopes (Default token) = refl
others_after scopes (Break token) = refl
others_after scopes (Continue token) = refl
others_after scopes (Returns token value) = refl
others_after scopes (Does effect) = refl

-- a scope that a statement had for itself is left
pub left_after : (known : Known) (s : Statement) → left (known_after (entered known) s) ≡ known
left_after known s = ap (λ (scopes : List Scope). record known { scopes = scopes }) (others_after ([] ∷ known.scopes) s)

-- a scope that a row had for itself is left
pub left_row : (known after : Known) → Stays (entered known) after → left after ≡ known
left_row known after stays =
    ap (λ (words : List Word). record after { words = words; scopes = others after.scopes }) stays.words
    ∙ ap (λ (scopes : List Scope). record known { scopes = scopes }) stays.outer

-- a `for` declares nothing around it
pub for_after : (known : Known) (first : Box Stmt Global) (condition : Option Expr) (last : Option Effect) (body : Box Stmt Global) → known_after known (statement_of (variants.For (Some first) condition last body)) ≡ known
for_after known first condition last body =
    ap (λ (s : Statement). known_after known s)
    (ap statement_of (sym (rolls-For (Some first) condition last body)) ∙ fold-roll-Stmt Statement statement_step (stmts.For (Some first) condition last body))
