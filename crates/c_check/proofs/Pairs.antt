-- An `if` with an `else`: what stops the first part stops both, and where the first has no fault, the second tells.
use Rattle.std.proofs.Common.{◌≡◌, ◌++◌, List, [], ◌∷◌, ℕ, Result, Err, ap, sym, ◌∙◌, subst}
use Rattle.std.proofs.lemmas.List.{append_assoc}
use Rattle.c_unit.specs.Units.{Word}
use Rattle.c_unit.specs.Tree.{Expression, Statement, If, IfElse}
use Rattle.c_rules.specs.Faults.{Fault}
use Rattle.c_rules.specs.Names.{Scope}
use Rattle.c_rules.specs.Expressions.{condition_faults}
use Rattle.c_rules.specs.Statements.{Around, inside, statement_faults}
use Rattle.c_scopes.specs.FirstFaultLaws.{before_others}
use Rattle.c_faults.specs.declared.stop.Stop.{Stop}
use Rattle.c_faults.specs.declared.stop.Stop.TheVariants as stops
use Rattle.c_faults.specs.Tells.{Tells}

stops_both : (A : Type 0) (stop : Stop) (xs ys : List Fault) → Tells {A = A} (Err stop) xs
    → Tells {A = A} (Err stop) (xs ++ ys)
stops_both A (stops.Fault fault) xs ys tells = before_others xs ys tells
stops_both A stops.Memory xs ys tells = tt

passes_first : {A : Type 0} (r : Result A Stop) (xs ys : List Fault) → xs ≡ [] → Tells r ys → Tells r (xs ++ ys)
passes_first r xs ys none tells = subst (λ (fs : List Fault). Tells r (fs ++ ys)) (sym none) tells

module _ (words : List Word) (defined : List ℕ) (around : Around) (scopes : List Scope) (c : Expression) (b o : Statement) where
  in_two : statement_faults words defined around scopes (If c b) ++ statement_faults words defined (inside around) ([] ∷ scopes) o ≡ statement_faults words defined around scopes (IfElse c b o)
  in_two = append_assoc (condition_faults words scopes c) (statement_faults words defined (inside around) ([] ∷ scopes) b) (statement_faults words defined (inside around) ([] ∷ scopes) o)

  pub if_else_stops : (A : Type 0) (stop : Stop) (s : Statement) (fs : List Fault) → s ≡ IfElse c b o
      → fs ≡ statement_faults words defined around scopes (If c b)
      → Tells {A = A} (Err stop) fs → Tells {A = A} (Err stop) (statement_faults words defined around scopes s)
  if_else_stops A stop s fs tree first tells =
      let both = stops_both A stop fs (statement_faults words defined (inside around) ([] ∷ scopes) o) tells in
      let same = ap (λ (xs : List Fault). xs ++ statement_faults words defined (inside around) ([] ∷ scopes) o) first ∙ in_two ∙ ap (λ (x : Statement). statement_faults words defined around scopes x) (sym tree) in
      subst (λ (xs : List Fault). Tells {A = A} (Err stop) xs) same both

  pub if_else_tells : {A : Type 0} (r : Result A Stop) (s : Statement) (fs gs : List Fault) → s ≡ IfElse c b o
      → fs ≡ statement_faults words defined around scopes (If c b)
      → gs ≡ statement_faults words defined (inside around) ([] ∷ scopes) o → fs ≡ [] → Tells r gs → Tells r (statement_faults words defined around scopes s)
  if_else_tells r s fs gs tree first second none tells =
      let both = passes_first r fs gs none tells in
      let same = ap (λ (xs : List Fault). xs ++ gs) first ∙ ap (λ (ys : List Fault). statement_faults words defined around scopes (If c b) ++ ys) second ∙ in_two
      ∙ ap (λ (x : Statement). statement_faults words defined around scopes x) (sym tree) in
      subst (λ (xs : List Fault). Tells r xs) same both
