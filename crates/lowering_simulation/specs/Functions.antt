-- What is asked of a lowered program, so that its run does what the unit does.
--   Apart g fs               function g is none of these
--   FunctionsDo              each function has the items that it is lowered to, their leaves do what they say, and related histories stay
--                            related where functions are entered and left
use Rattle.std.specs.Prelude.{◌≡◌, ◌≢◌, ◌<◌, ◌≤◌, ◌^◌, ℕ, false, List, [], ◌∷◌, map, length, ⊤, All}
use Rattle.alf_ops.specs.declared.history.Value.{Value}
use Rattle.alf_ops.specs.declared.history.RunEvent.{RunEvent}
use Rattle.alf_ops.specs.declared.history.RunEvent.TheVariants.{Leave}
use Rattle.alf_ops.specs.Values.{size_of, FitsValue}
use Rattle.alf_runs.specs.Entering as runs
use Rattle.item_runs.specs.ItemRuns.{ItemProgram}
use Rattle.c_meaning.specs.Objects.{Program, function_at}
use Rattle.c_meaning.specs.Programs.{entered}
use Rattle.c_lowered.specs.Statements.{labels_in_all}
use Rattle.c_lowered.specs.Programs.{function_items}
use Rattle.lowering_values.specs.Embedding.{embedded_value}
use Rattle.lowering_simulation.specs.Leaves.{StatementsDo}

abbrev pub Apart : ℕ → List ℕ → Type 0
Apart g [] = ⊤
Apart g (k ∷ ks) = (k ≢ g) × Apart g ks

pub record FunctionsDo (of : ItemProgram) (program : Program) (place : ℕ → ℕ)
    (Rel : List ℕ → List RunEvent → List RunEvent → Type 0) (rank : ℕ → ℕ) : Type 0 where
  pub items : (g : ℕ) → g < length program.functions → of.items g ≡ function_items program g (function_at program g)
  pub room : (g : ℕ) → labels_in_all (function_at program g).body ≤ 2 ^ 64
  pub leaves : (g : ℕ) → g < length program.functions → StatementsDo of program place Rel rank g false false (function_at program g).scopes (function_at program g).body 0
  pub enter : (g : ℕ) (fs : List ℕ) (m h : List RunEvent) (vs : List Value) → g < length program.functions
      → All (λ v. FitsValue (size_of v) v) vs → Rel fs m h
      → Rel (g ∷ fs) (runs.entered of.program g (map (embedded_value place) vs) m) (entered program g vs h)
  pub leave : (g : ℕ) (fs : List ℕ) (m h : List RunEvent) → Apart g fs → Rel (g ∷ fs) m h
      → Rel fs (Leave g ∷ m) (Leave g ∷ h)
