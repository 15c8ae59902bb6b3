-- Boxes of inputs, or that places are left, are the only meaning.
use Rattle.std.proofs.Common.{◌≡◌, ℕ, List, Result, Ok, Err, ap, sym, ◌∙◌}
use Rattle.alf_check.specs.declared.rows.InputRow.{InputRow}
use Rattle.cost_table.specs.CostTables.{CostTable}
use Rattle.worklist_rules.specs.declared.policy.Policy.{Policy}
use Rattle.worst_inputs.specs.Searches.{Searched, IsAnswer}
use Rattle.program_bounder.specs.InputRows.{ranges_of}
use Rattle.program_bounder.specs.PathBounds.{path_answers}
use Rattle.command_plans.specs.Outcome.{Outcome, Unbounded, AreAlikeResults}
use Rattle.command_plans.specs.Work.{IsOnly, alike}
use Rattle.answer_texts.specs.ScopeLines.{left_line}
use Rattle.command_files.specs.Scopes.{ScopedProgram}
use Rattle.sweet_cli.specs.Worst.{WorstMeans}

-- the boxes of an answer, and its scope
found_is : (a b : Searched) → ◌≡◌ {A = Result Searched ℕ} (Ok a) (Ok b) → a ≡ b
found_is a b e = cc

scope_is : (s t : ℕ) → ◌≡◌ {A = Result Searched ℕ} (Err s) (Err t) → s ≡ t
scope_is s t e = cc

found_not : (a : Searched) (s : ℕ) → ◌≡◌ {A = Result Searched ℕ} (Ok a) (Err s) → ⊥
found_not a s e = cc

module _ (program : ScopedProgram) (rows : List InputRow) (costs : CostTable) (policy : Policy) (turns pivots splits : ℕ) where
  -- what is found
  abbrev Finds : Result Searched ℕ → Type 0
  Finds = IsAnswer (path_answers program.expanded.program program.expanded.graph rows costs policy turns pivots) (ranges_of rows) splits

  -- the line of the scope in which places are left
  abbrev left_at : ℕ → Outcome
  left_at scope = record { cause = Unbounded; text = left_line program.expanded.graph program.scoped.scopes scope }

  module _ (one : (first second : Result Searched ℕ) → Finds first → Finds second → first ≡ second) where
    -- boxes are the only meaning
    pub boxes_only : (found : Searched) → Finds (Ok found)
        → IsOnly (WorstMeans program rows costs policy turns pivots splits) (Ok found)
    boxes_only found h = record { means = h; only = only }
      where
        only : (y : Result Searched Outcome) → WorstMeans program rows costs policy turns pivots splits y
            → AreAlikeResults (Ok found) y
        only (Ok other) k = found_is found other (one (Ok found) (Ok other) h k)
        only (Err o) k = found_not found k.scope (one (Ok found) (Err k.scope) h k.left)

    -- and so is that places are left
    pub left_only : (scope : ℕ) (text : List ℕ) → Finds (Err scope)
        → text ≡ left_line program.expanded.graph program.scoped.scopes scope
        → IsOnly (WorstMeans program rows costs policy turns pivots splits) (Err (record { cause = Unbounded; text = text }))
    left_only scope text h is = record { means = record { scope = scope; left = h; line = here }; only = only }
      where
        o : Outcome
        o = record { cause = Unbounded; text = text }

        here : o ≡ left_at scope
        here = λ i. record { cause = Unbounded; text = is i }

        only : (y : Result Searched Outcome) → WorstMeans program rows costs policy turns pivots splits y
            → AreAlikeResults (Err o) y
        only (Ok other) k = found_not other scope (one (Ok other) (Err scope) k h)
        only (Err x) k = alike o x (here ∙ ap left_at (scope_is scope k.scope (one (Err scope) (Err k.scope) h k.left)) ∙ sym k.line)
