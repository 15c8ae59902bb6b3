-- No two objects of a counted unit have one token, each is named, and there are few.
use Rattle.std.proofs.Common.{◌≡◌, ◌≤◌, ◌+◌, ℕ, suc, List, [], ◌∷◌, ◌++◌, length, map, refl, sym, ap, ap₂, ◌∙◌, subst, arith, append_assoc, length-append}
use Rattle.c_unit.specs.declared.external.Parameter.{Parameter}
use Rattle.c_unit.specs.Tree.{Expression, ExternalTree, Declaration, Definition, statements_of}
use Rattle.c_unit.specs.Units.{Word}
use Rattle.c_rules.specs.Names.{text_at}
use Rattle.c_rules.specs.Units.{File, element_of, external_after}
use Rattle.c_meaning.specs.Objects.{Object, Function, all_locals_in, parameter_object, globals_declared, globals_in, owned_in, functions_in}
use Rattle.lowering_layout.specs.Lists.{EachOf}
use Rattle.c_rules.specs.Counts.{all_tokens_in}
use Rattle.c_rules.specs.SpelledUnits.{Names, names_after, tokens_of_declarators, tokens_of_parameters, all_tokens_of, all_frames_of, Ascends, FunctionsStand}
use Rattle.c_limits.proofs.NameTokens.{tokens, tokens_joined, all_tokens, parameter_tokens, declared_tokens, Split, split, Row, row, Both, joined_rows, lower_row, across, flipped, across_left, across_right}

pub tokens_length : (os : List Object) → length (tokens os) ≡ length os
tokens_length [] = refl
tokens_length (o ∷ os) = ap suc (tokens_length os)

module _ (words : List Word) (IsNamed : List ℕ → Type 0) (P : Expression → Type 0) where
  pub both_rows : (k n m : ℕ) (xs : List ExternalTree) → Ascends IsNamed words n m (all_tokens_of xs)
      → FunctionsStand IsNamed P words xs → Both words IsNamed n m (globals_in words xs) (owned_in words k xs)
  both_rows k n m [] up stand = record { globals = record { low = up; lie = tt; apart = tt }; owned = record { low = up; lie = tt; apart = tt }; across_both = tt }
  both_rows k n m (Declaration first o ds ∷ xs) up stand =
      let s : Split words IsNamed n m (tokens_of_declarators ds) (all_tokens_of xs) = split words IsNamed n m (tokens_of_declarators ds) (all_tokens_of xs) up in
      let mid : ℕ = s.middle in
      let here : List Object = globals_declared words (element_of o) ds in
      let own : Row words IsNamed n mid here = row words IsNamed n mid here (subst (λ (ts : List ℕ). Ascends IsNamed words n mid ts) (sym (declared_tokens words (element_of o) ds)) s.left) in
      let rest : Both words IsNamed mid m (globals_in words xs) (owned_in words k xs) = both_rows k mid m xs s.right stand.1 in
      record {
        globals = joined_rows words IsNamed n mid m here (globals_in words xs) own rest.globals;
        owned = lower_row words IsNamed n mid m (owned_in words k xs) own.low rest.owned;
        across_both = across_left words IsNamed here (globals_in words xs) (owned_in words k xs) (across words IsNamed n mid m here (owned_in words k xs) own.lie rest.owned.lie) rest.across_both;
      }
  both_rows k n m (Definition first o name params body ∷ xs) up stand =
      let texts : List ℕ = tokens_of_parameters params ++ all_tokens_in (statements_of body) in
      let s : Split words IsNamed n m texts (all_tokens_of xs) = split words IsNamed n m texts (all_tokens_of xs) up in
      let mid : ℕ = s.middle in
      let ps : List Object = map (parameter_object k) params in
      let ls : List Object = all_locals_in words k (statements_of body) in
      let others : List Object = owned_in words (k + 1) xs in
      let same : tokens (ps ++ ls) ≡ texts = tokens_joined ps ls ∙ ap₂ (λ (us vs : List ℕ). us ++ vs) (parameter_tokens words k params stand.0.1) (all_tokens words k (statements_of body)) in
      let own : Row words IsNamed n mid (ps ++ ls) = row words IsNamed n mid (ps ++ ls) (subst (λ (ts : List ℕ). Ascends IsNamed words n mid ts) (sym same) s.left) in
      let rest : Both words IsNamed mid m (globals_in words xs) others = both_rows (k + 1) mid m xs s.right stand.1 in
      let all : Both words IsNamed n m (globals_in words xs) ((ps ++ ls) ++ others) = record {
        globals = lower_row words IsNamed n mid m (globals_in words xs) own.low rest.globals;
        owned = joined_rows words IsNamed n mid m (ps ++ ls) others own rest.owned;
        across_both = across_right words IsNamed (globals_in words xs) (ps ++ ls) others (flipped words IsNamed n mid m (globals_in words xs) (ps ++ ls) rest.globals.lie own.lie) rest.across_both;
      } in
      subst (λ (os : List Object). Both words IsNamed n m (globals_in words xs) os) (append_assoc ps ls others) all

  -- there are no more objects than frames
  pub few_objects : (k : ℕ) (names : Names) (xs : List ExternalTree)
      → length (globals_in words xs) + length (owned_in words k xs) ≤ all_frames_of words names xs
  few_objects k names [] = omega arith
  few_objects k names (Declaration first o ds ∷ xs) =
      let here : List Object = globals_declared words (element_of o) ds in
      omega (arith, length-append here (globals_in words xs), tokens_length here, ap (λ (ts : List ℕ). length ts) (declared_tokens words (element_of o) ds), few_objects k (names_after words names (Declaration first o ds)) xs)
  few_objects k names (Definition first o name params body ∷ xs) =
      let ps : List Object = map (parameter_object k) params in
      let ls : List Object = all_locals_in words k (statements_of body) in
      let others : List Object = owned_in words (k + 1) xs in
      omega (
        arith,
        length-append ps (ls ++ others),
        length-append ls others,
        parameters_length k params,
        tokens_length ls,
        ap (λ (ts : List ℕ). length ts) (all_tokens words k (statements_of body)),
        few_objects (k + 1) (names_after words names (Definition first o name params body)) xs,
      )
    where
      parameters_length : (k : ℕ) (params : List Parameter) → length (map (parameter_object k) params) ≡ length params
      parameters_length k [] = refl
      parameters_length k (p ∷ ps) = ap suc (parameters_length k ps)

  -- functions are named
  pub functions_named : (file : File) (xs : List ExternalTree) → FunctionsStand IsNamed P words xs
      → EachOf (λ (function : Function). IsNamed (text_at words function.name)) (functions_in file xs)
  functions_named file [] stand = tt
  functions_named file (Declaration first o ds ∷ xs) stand = functions_named (external_after file (Declaration first o ds)) xs stand.1
  functions_named file (Definition first o name params body ∷ xs) stand = (stand.0.0, functions_named (external_after file (Definition first o name params body)) xs stand.1)
