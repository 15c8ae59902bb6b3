-- What the code's values stand for.
--   program_in unit           what the meaning of a unit is made from
--   named_function program token   the function whose name stands at the token; where none is defined, one that does nothing
--   object_of o               an object
--   Signature, signature_of   what a function gives and takes
--   signatures_of xs          those of the functions that are defined, in order
--   signature_or_none all f   that of the function with this number; where there is none, nothing is given and taken
use Rattle.std.specs.Prelude.{ℕ, List, [], ◌∷◌, slice_get}
use Rattle.std.specs.Option.{option_map_or}
use Rattle.c_unit.specs.declared.types.Outcome.{Outcome}
use Rattle.c_unit.specs.declared.types.Outcome.TheVariants as outcomes
use Rattle.c_unit.specs.declared.external.Parameter.{Parameter}
use Rattle.c_unit.specs.Tree.{ExternalTree, Declaration, Definition}
use Rattle.c_unit.specs.declared.unit.CUnit.{CUnit}
use Rattle.c_unit.specs.Units.{unit_of}
use Rattle.c_rules.specs.Names.{text_at}
use Rattle.c_meaning.specs.Objects.{Object, Function, Program, program_of, function_at}
use Rattle.c_meaning.specs.Statements.{number_named}
use Rattle.object_layout.specs.declared.object.Object as objects
use Rattle.object_layout.specs.declared.signature.Signature as signatures

abbrev pub object_of : objects.Object → Object
object_of o = record { token = o.token; owner = o.owner; bits = o.bits }

pub record Signature : Type 0 where
  pub result : Outcome
  pub parameters : List Parameter

abbrev pub signature_of : signatures.Signature → Signature
signature_of s = record { result = s.result; parameters = s.parameters.now }

abbrev pub signature_at : Function → Signature
signature_at f = record { result = f.result; parameters = f.parameters }

abbrev pub signatures_of : List ExternalTree → List Signature
signatures_of [] = []
signatures_of (Declaration first o ds ∷ xs) = signatures_of xs
signatures_of (Definition first o name params body ∷ xs) = record { result = o; parameters = params } ∷ signatures_of xs

abbrev pub signature_or_none : List Signature → ℕ → Signature
signature_or_none all f = option_map_or (λ s. s) (slice_get all f) (record { result = outcomes.Nothing; parameters = [] })

abbrev pub program_in : CUnit → Program
program_in unit = program_of (unit_of unit)

abbrev pub named_function : Program → ℕ → Function
named_function program token = function_at program (number_named program.words program.functions (text_at program.words token))
