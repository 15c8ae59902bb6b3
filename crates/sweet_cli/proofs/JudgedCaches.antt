-- What is told of a cache, or that places are left, is the only meaning.
use Rattle.std.proofs.Common.{◌≡◌, ℕ, List, Result, Ok, Err, ap, sym, ◌∙◌}
use Rattle.alf_check.specs.declared.rows.InputRow.{InputRow}
use Rattle.cost_table.specs.CostTables.{CostTable}
use Rattle.worklist_rules.specs.declared.policy.Policy.{Policy}
use Rattle.line_cache.specs.declared.shape.Shape.{Shape}
use Rattle.cached_runs.specs.Answers.{CacheLines, CacheAnswer, Told, Unbounded as LeftIn}
use Rattle.cache_analysis.specs.Analyses.{IsCacheAnalysis, HasOneAnalysis}
use Rattle.command_plans.specs.Outcome.{Outcome, Unbounded, AreAlikeResults}
use Rattle.command_plans.specs.Work.{IsOnly, alike}
use Rattle.answer_texts.specs.ScopeLines.{left_line}
use Rattle.command_files.specs.Scopes.{ScopedProgram}
use Rattle.sweet_cli.specs.Cache.{CacheMeans}

-- the lines of an answer, and its scope
told_is : (a b : CacheLines) → Told a ≡ Told b → a ≡ b
told_is a b e = cc

left_is : (s t : ℕ) → LeftIn s ≡ LeftIn t → s ≡ t
left_is s t e = cc

told_not : (lines : CacheLines) (scope : ℕ) → Told lines ≡ LeftIn scope → ⊥
told_not lines scope e = cc

module _ (one : HasOneAnalysis) (program : ScopedProgram) (rows : List InputRow) (costs : CostTable) (shape : Shape) (policy : Policy) (turns : ℕ) where
  -- what is found
  abbrev Finds : CacheAnswer → Type 0
  Finds = IsCacheAnalysis program.expanded.program program.expanded.graph rows shape costs policy turns

  same : (a b : CacheAnswer) → Finds a → Finds b → a ≡ b
  same a b h k = one program.expanded.program program.expanded.graph rows shape costs policy turns a b h k

  -- the line of the scope in which places are left
  abbrev left_at : ℕ → Outcome
  left_at scope = record { cause = Unbounded; text = left_line program.expanded.graph program.scoped.scopes scope }

  -- lines are the only meaning
  pub lines_only : (lines : CacheLines) → Finds (Told lines)
      → IsOnly (CacheMeans program rows costs shape policy turns) (Ok lines)
  lines_only lines h = record { means = h; only = only }
    where
      only : (y : Result CacheLines Outcome) → CacheMeans program rows costs shape policy turns y
          → AreAlikeResults (Ok lines) y
      only (Ok other) k = told_is lines other (same (Told lines) (Told other) h k)
      only (Err o) k = told_not lines k.scope (same (Told lines) (LeftIn k.scope) h k.left)

  -- and so is that places are left
  pub left_only : (scope : ℕ) (text : List ℕ) → Finds (LeftIn scope)
      → text ≡ left_line program.expanded.graph program.scoped.scopes scope
      → IsOnly (CacheMeans program rows costs shape policy turns) (Err (record { cause = Unbounded; text = text }))
  left_only scope text h is = record { means = record { scope = scope; left = h; line = here }; only = only }
    where
      o : Outcome
      o = record { cause = Unbounded; text = text }

      here : o ≡ left_at scope
      here = λ i. record { cause = Unbounded; text = is i }

      only : (y : Result CacheLines Outcome) → CacheMeans program rows costs shape policy turns y
          → AreAlikeResults (Err o) y
      only (Ok other) k = told_not other scope (same (Told other) (LeftIn scope) k h)
      only (Err x) k = alike o x (here ∙ ap left_at (left_is scope k.scope (same (LeftIn scope) (LeftIn k.scope) h k.left)) ∙ sym k.line)
