-- The walk over what stands at file level.
--   UnitWalk walk   what is asked of declarations and definitions; `unit_goes` is what follows
use Rattle.c_grammar.specs.Statements.{in_block}
use Rattle.c_grammar.specs.StatementWalkLaws.{StatementWalk, semicolon_quiet, standing_goes}
use Rattle.c_grammar.specs.Tokens.{Seen, declares, most_nesting, one_function, some_frames}
use Rattle.c_grammar.specs.TypeWalkLaws.{assign_mark_quiet, before_either_quiet, close_brace_quiet, comma_mark_quiet, integer_told_quiet, next_number_quiet, open_brace_prints, open_paren_prints, parameters_quiet, sees_quiet, signed_constant_quiet, type_of_quiet}
use Rattle.c_grammar.specs.Types.{array, at_assign, at_list_comma}
use Rattle.c_grammar.specs.Expressions.{open_paren}
use Rattle.c_grammar.specs.Units.{after_global, after_sole, body, declaration_after, declarator, definition_after, external, external_after, further_declarator, gives, global_array, global_initial, global_integer, is_left, object, open_body, parameters_of, prototype, sees_body, unit}
use Rattle.c_grammar.specs.WalkLaws.{Quiet, Spelled, Walk, done, either_spelled, judged_spelled, maybe_quiet, row_quiet, row_spelled, spelled_as, ◌>>-◌, ◌>>!◌}
use Rattle.c_unit.specs.Tree.{Declaration, DeclaratorTree, Definition, ExternalTree, Statement}
use Rattle.c_unit.specs.declared.external.Parameter.{Parameter}
use Rattle.c_unit.specs.declared.types.Outcome.{Outcome}
use Rattle.grammar.specs.Rule.{weaken}
use Rattle.std.proofs.Common.{Bool, List, [], ◌∷◌, length, refl, ℕ, ◌-◌}
use Rattle.std.specs.Prelude.{codes}
use Rattle.c_grammar.specs.declared.others.Others.TheVariants as others
use Rattle.c_grammar.specs.declared.specifiers.Setting.TheVariants as settings
use Rattle.c_grammar.specs.declared.standing.Standing.TheVariants as standings

pub record UnitWalk (walk : Walk) : Type 1 where
  pub statements : StatementWalk walk
  pub External : ExternalTree → walk.Count → Type 0
  pub Externals : List ExternalTree → walk.Count → Type 0
  pub frames : (count : ℕ) → Quiet walk (some_frames count).form
  pub functions : Quiet walk one_function.form
  pub known : (text : List ℕ) (gives : Bool) → Quiet walk (declares text gives).form
  pub arrays : Quiet walk array.form
  pub declarations : (n : ℕ) (o : Outcome) (ds : List DeclaratorTree) → External (Declaration n o ds) walk.none
  pub definitions : (n : ℕ) (o : Outcome) (name : ℕ) (ps : List Parameter) (ss : List Statement) (m : walk.Count)
      → statements.Stand ss m → External (Definition n o name ps ss) m
  pub no_externals : Externals [] walk.none
  pub more_externals : (x : ExternalTree) (xs : List ExternalTree) (a m : walk.Count) → External x a → Externals xs m
      → Externals (x ∷ xs) (walk.join a m)

module _ {walk : Walk} (w : UnitWalk walk) where
  global_initial_quiet : Quiet walk global_initial.form
  unfolding global_initial
  global_initial_quiet =
      assign_mark_quiet w.statements.tokens >>- λ _.
      signed_constant_quiet w.statements.tokens others.ExpressionsAndBraces >>- λ c. done refl

  global_integer_quiet : Quiet walk global_integer.form
  unfolding global_integer
  global_integer_quiet =
      maybe_quiet at_assign _ global_initial_quiet >>- λ c.
      before_either_quiet w.statements.tokens (codes ",") (codes ";") (after_global c) >>- λ _. done refl

  global_array_quiet : Quiet walk global_array.form
  unfolding global_array
  global_array_quiet = w.arrays >>- λ a. done refl

  object_quiet : (o : Outcome) (n : ℕ) → Quiet walk (object o n).form
  unfolding object
  object_quiet o n =
      integer_told_quiet w.statements.tokens others.Object o >>- λ _. w.frames 1 >>- λ _. sees_quiet w.statements.tokens (codes "[") >>- λ b.
      either_spelled b (weaken global_array) global_integer global_array_quiet global_integer_quiet >>- λ s. done refl

  open_paren_quiet : Quiet walk open_paren.form
  unfolding open_paren
  open_paren_quiet = w.statements.tokens.marks (codes "(") others.Nothing open_paren_prints >>- λ _. done refl

  prototype_quiet : (o : Outcome) (t : Seen) → Quiet walk (prototype o t).form
  unfolding prototype
  prototype_quiet o t =
      open_paren_quiet >>- λ _. parameters_quiet w.statements.tokens >>- λ ps. w.known t.text (gives o) >>- λ _.
      done refl

  declarator_quiet : (o : Outcome) → Quiet walk (declarator o).form
  unfolding declarator
  declarator_quiet o =
      w.statements.tokens.names others.Stars >>- λ t. sees_quiet w.statements.tokens (codes "(") >>- λ f.
      either_spelled f (weaken (prototype o t)) (object o t.number) (prototype_quiet o t) (object_quiet o t.number) >>- λ d. done refl

  further_declarator_quiet : (o : Outcome) → Quiet walk (further_declarator o).form
  unfolding further_declarator
  further_declarator_quiet o = comma_mark_quiet w.statements.tokens >>- λ _. declarator_quiet o >>- λ d. done refl

  declaration_goes : (n : ℕ) (o : Outcome) (d : DeclaratorTree) → Spelled walk (declaration_after n o d).form w.External
  unfolding declaration_after
  declaration_goes n o d =
      row_quiet at_list_comma _ (further_declarator_quiet o) >>- λ ds. semicolon_quiet w.statements (after_sole d ds) >>- λ _. done (w.declarations n o (d ∷ ds))

  body_goes : Spelled walk body.form w.statements.Stand
  unfolding body
  body_goes =
      row_spelled in_block _ w.statements.Stand (spelled_as (standing_goes w.statements (most_nesting - 1) standings.Item) (λ s m h. h.0)) w.statements.no_statements w.statements.more_statements >>! λ ss m h.
      close_brace_quiet w.statements.tokens >>- λ _. done (refl, h)

  open_body_quiet : (count : ℕ) → Quiet walk (open_body count).form
  unfolding open_body
  open_body_quiet count =
      w.statements.tokens.marks (codes "{") others.Nothing open_brace_prints >>- λ _. w.functions >>- λ _.
      w.frames count >>- λ _. done refl

  definition_goes : (n : ℕ) (o : Outcome) (d : DeclaratorTree) → Spelled walk (definition_after n o d).form w.External
  unfolding definition_after
  definition_goes n o d =
      open_body_quiet (length (parameters_of d.shape)) >>- λ _. body_goes >>! λ ss m h.
      done (refl, w.definitions n o d.name (parameters_of d.shape) ss m h)

  sees_body_quiet : (d : DeclaratorTree) → Quiet walk (sees_body d).form
  unfolding sees_body
  sees_body_quiet d = judged_spelled

  external_after_goes : (n : ℕ) (o : Outcome) (d : DeclaratorTree) → Spelled walk (external_after n o d).form w.External
  unfolding external_after
  external_after_goes n o d =
      sees_body_quiet d >>- λ b.
      either_spelled b (definition_after n o d) (declaration_after n o d) (definition_goes n o d) (declaration_goes n o d) >>! λ e m h. done (refl, h)

  external_goes : Spelled walk external.form w.External
  unfolding external
  external_goes =
      next_number_quiet w.statements.tokens >>- λ n. type_of_quiet w.statements.tokens settings.File >>- λ o. declarator_quiet o >>- λ d.
      external_after_goes n o d >>! λ e m h. done (refl, h)

  pub unit_goes : Spelled walk unit.form w.Externals
  unfolding unit
  unit_goes = row_spelled is_left _ w.Externals external_goes w.no_externals w.more_externals
