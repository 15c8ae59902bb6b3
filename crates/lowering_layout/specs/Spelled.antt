-- What the names of a program of C keep.
--   NamesAreSpelled unit   what the grammar says of them: they are identifiers, each object is declared by a token of its own, and there are at most 256,
--                          as there are results of calls in a function
--   HasNames program       this, and what the checks say: no two functions, and no two globals, have one name
use Rattle.std.proofs.Common.{◌≡◌, ◌≢◌, ◌<◌, ◌≤◌, ℕ, List, length, None, Some}
use Rattle.c_unit.specs.Units.{Word, UnitTree}
use Rattle.c_rules.specs.Names.{text_at}
use Rattle.c_meaning.specs.Objects.{Object, Function, Program, program_of, objects_of, functions_of}
use Rattle.c_lowered.specs.Statements.{calls_in_all}
use Rattle.lowering_layout.specs.Lists.{EachOf, Apart}
use Rattle.lowering_layout.specs.Texts.{IsIdentifier}

-- as many as a program of ALF may have frames
abbrev pub most_objects : ℕ
most_objects = 256

abbrev pub FunctionIsNamed : List Word → Function → Type 0
FunctionIsNamed words function = IsIdentifier (text_at words function.name)

abbrev pub ObjectIsNamed : List Word → Object → Type 0
ObjectIsNamed words o = IsIdentifier (text_at words o.token)

abbrev pub OfOtherTokens : Object → Object → Type 0
OfOtherTokens o p = o.token ≢ p.token

-- each call of a function that gives something has a frame, and so there are as few
abbrev pub HasFewCalls : Program → Function → Type 0
HasFewCalls program function = calls_in_all program function.body ≤ most_objects

pub record NamesAreSpelled (unit : UnitTree) : Type 0 where
  pub functions : EachOf (FunctionIsNamed unit.words) (functions_of unit)
  pub objects : EachOf (ObjectIsNamed unit.words) (objects_of unit)
  pub tokens : Apart OfOtherTokens (objects_of unit)
  pub few : length (objects_of unit) ≤ most_objects
  pub few_calls : EachOf (HasFewCalls (program_of unit)) (functions_of unit)

abbrev pub OfOtherNames : List Word → Function → Function → Type 0
OfOtherNames words f g = text_at words f.name ≢ text_at words g.name

-- two globals have two names
abbrev pub DifferAsGlobals : List Word → Object → Object → Type 0
DifferAsGlobals words o p = o.owner ≡ None → p.owner ≡ None → text_at words o.token ≢ text_at words p.token

-- the owner of an object is a function of the program
abbrev pub IsOwned : ℕ → Object → Type 0
IsOwned count o = (f : ℕ) → o.owner ≡ Some f → f < count

pub record HasNames (program : Program) : Type 0 where
  pub functions : EachOf (FunctionIsNamed program.words) program.functions
  pub functions_differ : Apart (OfOtherNames program.words) program.functions
  pub objects : EachOf (ObjectIsNamed program.words) program.objects
  pub tokens : Apart OfOtherTokens program.objects
  pub globals_differ : Apart (DifferAsGlobals program.words) program.objects
  pub owned : EachOf (IsOwned (length program.functions)) program.objects
  pub few : length program.objects ≤ most_objects
  pub few_calls : EachOf (HasFewCalls program) program.functions
