-- Tokens of objects ascend in the text, so no two objects have one.
use Rattle.std.proofs.Common.{◌≡◌, ◌≤◌, ◌<◌, ℕ, suc, Bool, true, false, List, [], ◌∷◌, ◌++◌, map, Option, None, Some, refl, ap, ap₂, ◌∙◌, arith, ◌&&◌}
use Rattle.std.specs.List.{list_all}
use Rattle.std.specs.Option.{is_some, option_map_or}
use Rattle.std.proofs.lemmas.Bool.{false≢true}
use Rattle.c_unit.specs.declared.types.Integer.{Integer}
use Rattle.c_unit.specs.declared.external.Parameter.{Parameter}
use Rattle.c_unit.specs.Tree.{LocalTree, Statement, Empty, Declares, Block, If, IfElse, While, Do, For, ForAfter, Switch, Case, Default, Break, Continue, Returns, Does, Statements, Nothing, Then, ShapeTree, GlobalInteger, GlobalArray, FunctionOf, DeclaratorTree}
use Rattle.c_unit.specs.Units.{Word}
use Rattle.c_rules.specs.Names.{text_at}
use Rattle.c_meaning.specs.Objects.{Object, local_object, locals_in, all_locals_in, parameter_object, global_object, globals_declared}
use Rattle.lowering_layout.specs.Lists.{EachOf, Apart, Across}
use Rattle.lowering_layout.specs.ListLaws.{each_when, each_joined, apart_joined}
use Rattle.lowering_layout.specs.Spelled.{OfOtherTokens}
use Rattle.c_rules.specs.Counts as counts
use Rattle.c_rules.specs.Counts.{tokens_in, all_tokens_in}
use Rattle.c_rules.specs.SpelledUnits.{tokens_of_shape, tokens_of_declarators, token_if, tokens_of_parameters, Ascends}

abbrev pub tokens : List Object → List ℕ
tokens os = map (λ o. o.token) os

pub tokens_joined : (os ps : List Object) → tokens (os ++ ps) ≡ tokens os ++ tokens ps
tokens_joined [] ps = refl
tokens_joined (o ∷ os) ps = ap (λ (ts : List ℕ). o.token ∷ ts) (tokens_joined os ps)

module _ (words : List Word) where
  local_tokens : (f : ℕ) (kind : Integer) (locals : List LocalTree)
      → tokens (map (local_object words f kind) locals) ≡ counts.tokens_of locals
  local_tokens f kind [] = refl
  local_tokens f kind (local ∷ locals) = ap (λ (ts : List ℕ). local.name ∷ ts) (local_tokens f kind locals)

  mutual
    statement_tokens : (f : ℕ) (s : Statement) → tokens (locals_in words f s) ≡ tokens_in s
    statement_tokens f (Empty token) = refl
    statement_tokens f (Declares first kind locals) = local_tokens f kind locals
    statement_tokens f (Block body) = all_tokens f body
    statement_tokens f (If condition body) = statement_tokens f body
    statement_tokens f (IfElse condition body otherwise) =
        tokens_joined (locals_in words f body) (locals_in words f otherwise) ∙ ap₂ (λ (xs ys : List ℕ). xs ++ ys) (statement_tokens f body) (statement_tokens f otherwise)
    statement_tokens f (While condition body) = statement_tokens f body
    statement_tokens f (Do body condition) = statement_tokens f body
    statement_tokens f (For condition last body) = statement_tokens f body
    statement_tokens f (ForAfter first condition last body) =
        tokens_joined (locals_in words f first) (locals_in words f body) ∙ ap₂ (λ (xs ys : List ℕ). xs ++ ys) (statement_tokens f first) (statement_tokens f body)
    statement_tokens f (Switch value body) = all_tokens f body
    statement_tokens f (Case token c) = refl
    statement_tokens f (Default token) = refl
    statement_tokens f (Break token) = refl
    statement_tokens f (Continue token) = refl
    statement_tokens f (Returns token value) = refl
    statement_tokens f (Does effect) = refl

    pub all_tokens : (f : ℕ) (ss : Statements) → tokens (all_locals_in words f ss) ≡ all_tokens_in ss
    all_tokens f Nothing = refl
    all_tokens f (Then s ss) = tokens_joined (locals_in words f s) (all_locals_in words f ss) ∙ ap₂ (λ (xs ys : List ℕ). xs ++ ys) (statement_tokens f s) (all_tokens f ss)

  both : (a b : Bool) → (a && b) ≡ true → (a ≡ true) × (b ≡ true)
  both true b e = (refl, e)
  both false b e = absurd (false≢true e)

  one_parameter : (name : Option ℕ) (first : ℕ) → is_some name ≡ true
      → option_map_or (λ n. n) name first ∷ [] ≡ token_if name
  one_parameter None first e = absurd (false≢true e)
  one_parameter (Some n) first e = refl

  pub parameter_tokens : (f : ℕ) (params : List Parameter) → list_all (λ (p : Parameter). is_some p.name) params ≡ true
      → tokens (map (parameter_object f) params) ≡ tokens_of_parameters params
  parameter_tokens f [] named = refl
  parameter_tokens f (p ∷ ps) named =
      let parts = both (is_some p.name) (list_all (λ (p : Parameter). is_some p.name) ps) named in
      ap₂ (λ (xs ys : List ℕ). xs ++ ys) (one_parameter p.name p.first parts.0) (parameter_tokens f ps parts.1)

  shape_tokens : (kind : Integer) (name : ℕ) (shape : ShapeTree)
      → tokens (global_object words kind name shape) ≡ tokens_of_shape name shape
  shape_tokens kind name (GlobalInteger first) = refl
  shape_tokens kind name (GlobalArray size firsts) = refl
  shape_tokens kind name (FunctionOf params) = refl

  pub declared_tokens : (kind : Integer) (ds : List DeclaratorTree)
      → tokens (globals_declared words kind ds) ≡ tokens_of_declarators ds
  declared_tokens kind [] = refl
  declared_tokens kind (d ∷ ds) = tokens_joined (global_object words kind d.name d.shape) (globals_declared words kind ds) ∙ ap₂ (λ (xs ys : List ℕ). xs ++ ys) (shape_tokens kind d.name d.shape) (declared_tokens kind ds)

  -- ---- ascending tokens

  module _ (IsNamed : List ℕ → Type 0) where
    pub record Split (n m : ℕ) (xs ys : List ℕ) : Type 0 where
      pub middle : ℕ
      pub left : Ascends IsNamed words n middle xs
      pub right : Ascends IsNamed words middle m ys

    pub split : (n m : ℕ) (xs ys : List ℕ) → Ascends IsNamed words n m (xs ++ ys) → Split n m xs ys
    split n m [] ys up = record { middle = n; left = (let e : n ≤ n = omega arith in e); right = up }
    split n m (x ∷ xs) ys up =
        let s = split (suc x) m xs ys up.2 in
        record { middle = s.middle; left = (up.0, up.1, s.left); right = s.right }

    -- from n up to m, and named
    abbrev pub Lies : ℕ → ℕ → Object → Type 0
    Lies n m o = (n ≤ o.token) × (o.token < m) × IsNamed (text_at words o.token)

    pub record Row (n m : ℕ) (os : List Object) : Type 0 where
      pub low : n ≤ m
      pub lie : EachOf (Lies n m) os
      pub apart : Apart OfOtherTokens os

    pub wider : (n m n' m' : ℕ) (os : List Object) → n' ≤ n → m ≤ m' → EachOf (Lies n m) os → EachOf (Lies n' m') os
    wider n m n' m' os low high lie = each_when (Lies n m) (Lies n' m') os (λ o l. (let a : n ≤ o.token = l.0 in omega arith, let b : o.token < m = l.1 in omega arith, l.2)) lie

    pub row : (n m : ℕ) (os : List Object) → Ascends IsNamed words n m (tokens os) → Row n m os
    row n m [] up = record { low = up; lie = tt; apart = tt }
    row n m (o ∷ os) up =
        let r = row (suc o.token) m os up.2 in
        let first : n ≤ o.token = up.0 in
        let low : suc o.token ≤ m = r.low in
        record {
          low = omega arith;
          lie = ((first, omega arith, up.1), wider (suc o.token) m n m os (omega arith) (omega arith) r.lie);
          apart = (each_when (Lies (suc o.token) m) (OfOtherTokens o) os (λ p l. λ (e : o.token ≡ p.token). let a : suc o.token ≤ p.token = l.0 in absurd (omega arith)) r.lie, r.apart);
        }

    pub across : (n k m : ℕ) (os ps : List Object) → EachOf (Lies n k) os → EachOf (Lies k m) ps
        → Across OfOtherTokens os ps
    across n k m os ps lie lie' =
        each_when (Lies n k) (λ (o : Object). EachOf (OfOtherTokens o) ps) os
        (λ o l. each_when (Lies k m) (OfOtherTokens o) ps (λ p l'. λ (e : o.token ≡ p.token). let a : o.token < k = l.1 in let b : k ≤ p.token = l'.0 in absurd (omega arith)) lie') lie

    pub flipped : (n k m : ℕ) (os ps : List Object) → EachOf (Lies k m) os → EachOf (Lies n k) ps
        → Across OfOtherTokens os ps
    flipped n k m os ps lie lie' =
        each_when (Lies k m) (λ (o : Object). EachOf (OfOtherTokens o) ps) os
        (λ o l. each_when (Lies n k) (OfOtherTokens o) ps (λ p l'. λ (e : o.token ≡ p.token). let a : k ≤ o.token = l.0 in let b : p.token < k = l'.1 in absurd (omega arith)) lie') lie

    -- the globals and the objects of functions from here on
    pub record Both (n m : ℕ) (gs os : List Object) : Type 0 where
      pub globals : Row n m gs
      pub owned : Row n m os
      pub across_both : Across OfOtherTokens gs os

    pub joined_rows : (n k m : ℕ) (os ps : List Object) → Row n k os → Row k m ps → Row n m (os ++ ps)
    joined_rows n k m os ps a b =
        let low : n ≤ k = a.low in
        let high : k ≤ m = b.low in
        record {
          low = omega arith;
          lie = each_joined (Lies n m) os ps (wider n k n m os (omega arith) high a.lie) (wider k m n m ps low (omega arith) b.lie);
          apart = apart_joined OfOtherTokens os ps a.apart b.apart (across n k m os ps a.lie b.lie);
        }

    pub lower_row : (n k m : ℕ) (os : List Object) → n ≤ k → Row k m os → Row n m os
    lower_row n k m os low r = record { low = (let high : k ≤ m = r.low in omega arith); lie = wider k m n m os low (omega arith) r.lie; apart = r.apart }

    pub across_left : (os ps qs : List Object) → Across OfOtherTokens os qs → Across OfOtherTokens ps qs
        → Across OfOtherTokens (os ++ ps) qs
    across_left os ps qs a b = each_joined (λ (o : Object). EachOf (OfOtherTokens o) qs) os ps a b

    pub across_right : (os ps qs : List Object) → Across OfOtherTokens os ps → Across OfOtherTokens os qs
        → Across OfOtherTokens os (ps ++ qs)
    across_right [] ps qs a b = tt
    across_right (o ∷ os) ps qs a b = (each_joined (OfOtherTokens o) ps qs a.0 b.0, across_right os ps qs a.1 b.1)
