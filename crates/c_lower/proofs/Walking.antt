-- A walk over a unit's text.
--   IsWalk words p known funcs number xs   the functions so far, with those that are defined in what is left, are all; the file's scope alone is known
--   entered_scopes   in a function its parameters are known, and the function itself at file level
--   left_known       once it is left, the file's scope alone is known
--   more_functions   one function more
use Rattle.std.proofs.Common.{◌≡◌, ◌+◌, ◌++◌, ℕ, suc, List, [], ◌∷◌, map, ap, ◌∙◌, append_assoc, arith}
use Rattle.std.proofs.lemmas.List.{map-append}
use Rattle.alf_program.specs.declared.program.Func.{Func}
use Rattle.alf_program.specs.Tree as alf
use Rattle.c_unit.specs.declared.types.Outcome.{Outcome}
use Rattle.c_unit.specs.declared.external.Parameter.{Parameter}
use Rattle.c_unit.specs.Tree.{ExternalTree, Definition, Statement}
use Rattle.c_unit.specs.Units.{Word}
use Rattle.c_rules.specs.Names.{Scope}
use Rattle.c_rules.specs.Units.{File, external_after, function_of, with_parameters}
use Rattle.c_scopes.specs.Views.{Known, left, others}
use Rattle.c_meaning.specs.Objects.{Function, Program, functions_in}
use Rattle.c_lowered.specs.Programs.{lowered_from, lowered_function}
use Rattle.statement_lowering.specs.Afterwards.{Stays}
use Rattle.c_lower.specs.Heads.{known_at, with_head}
use Rattle.c_lower.specs.Walk.{funcs_from}
use Rattle.c_lower.proofs.KnownHeads.{params_known}

pub record IsWalk (words : List Word) (p : Program) (known : Known) (funcs : List Func) (number : ℕ)
    (xs : List ExternalTree) : Type 0 where
  pub file : File
  pub here : known ≡ known_at words file.scope
  pub all : map alf.function_of funcs ++ funcs_from p number file xs ≡ lowered_from p 0 p.functions

-- in a function its parameters are known, and the function itself at file level
pub entered_scopes : (file : File) (first : ℕ) (o : Outcome) (name : ℕ) (params : List Parameter) (body : List Statement) (known entered : Known)
    → known ≡ known_at known.words file.scope → entered ≡ with_head o name params known
    → entered ≡ record { words = known.words; scopes = with_parameters [] params ∷ (external_after file (Definition first o name params body)).scope ∷ [] }
entered_scopes file first o name params body known entered here is =
    is ∙ ap (λ (k : Known). with_head o name params k) here
    ∙ params_known known.words [] ((record { token = name; bound = function_of o params } ∷ file.scope) ∷ []) params

-- once it is left, the file's scope alone is known
pub left_known : (within after : Known) (words : List Word) (inner outer : Scope) → Stays within after
    → within ≡ record { words = words; scopes = inner ∷ outer ∷ [] }
    → left after ≡ known_at words outer
left_known within after words inner outer stays is =
    ap (λ (ws : List Word). record { words = ws; scopes = others after.scopes }) (stays.words ∙ ap (λ (k : Known). k.words) is)
    ∙ ap (λ (ss : List Scope). record { words = words; scopes = ss }) (stays.outer ∙ ap (λ (k : Known). others k.scopes) is)

-- one function more
pub more_functions : (p : Program) (f : ℕ) (fs new : List Func) (func : Func) (function : Function) (rest : List Function) (next : ℕ) → new ≡ fs ++ func ∷ []
    → alf.function_of func ≡ lowered_function p f function → next ≡ f + 1
    → map alf.function_of new ++ lowered_from p next rest ≡ map alf.function_of fs ++ lowered_from p f (function ∷ rest)
more_functions p f fs new func function rest next put is number =
    let after : next ≡ suc f = omega (arith, number) in
    ap (λ (xs : List Func). map alf.function_of xs ++ lowered_from p next rest) put
    ∙ ap (λ (xs : List alf.Function). xs ++ lowered_from p next rest) (map-append alf.function_of fs (func ∷ []))
    ∙ append_assoc (map alf.function_of fs) (alf.function_of func ∷ []) (lowered_from p next rest)
    ∙ ap (λ (x : alf.Function). map alf.function_of fs ++ x ∷ lowered_from p next rest) is
    ∙ ap (λ (k : ℕ). map alf.function_of fs ++ lowered_function p f function ∷ lowered_from p k rest) after
