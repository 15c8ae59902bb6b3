-- What stands at file level counts.
--   Filed n at rest ds fr el fn new   from a position on these tokens are declared, so much is counted, and these functions become known
--   externals_filed                   so is what declarations and definitions count
use Rattle.std.proofs.Common.{◌≡◌, ◌≤◌, ◌+◌, ◌-◌, ◌&&◌, ℕ, suc, Bool, true, false, List, [], ◌∷◌, ◌++◌, length, refl, sym, ap, ap₂, subst, ◌∙◌, arith, append_assoc, append-nil, length-append, bytes_eq, if◌then◌else◌}
use Rattle.std.specs.Prelude.{codes}
use Rattle.grammar.specs.Form.{InARow}
use Rattle.grammar.specs.Rule.{weaken}
use Rattle.grammar.specs.ExactLaws.{ok_is}
use Rattle.c_unit.specs.declared.types.Outcome.{Outcome}
use Rattle.c_unit.specs.declared.types.Outcome.TheVariants as outcomes
use Rattle.c_unit.specs.declared.external.Parameter.{Parameter}
use Rattle.c_unit.specs.Tree.{ShapeTree, GlobalInteger, GlobalArray, FunctionOf, DeclaratorTree, ExternalTree, Declaration, Definition, statements_of}
use Rattle.c_unit.specs.Units.{Word}
use Rattle.c_rules.specs.Names.{text_at}
use Rattle.c_rules.specs.Recursion.{called_in}
use Rattle.c_rules.specs.Units.{definitions}
use Rattle.c_grammar.specs.declared.others.Others.TheVariants as others
use Rattle.c_grammar.specs.declared.specifiers.Setting.TheVariants as settings
use Rattle.c_grammar.specs.declared.standing.Standing.TheVariants as standings
use Rattle.c_grammar.specs.Tokens.{Fault, Seen, Room, Place, name, at_text, declares, gives_value, latest_gives, either, most_nesting}
use Rattle.c_grammar.specs.Types.{at_list_comma}
use Rattle.c_grammar.specs.Statements.{in_block, standing}
use Rattle.c_grammar.specs.Units.{global_initial, global_integer, global_array, after_global, object, prototype, declarator, further_declarator, may_be_defined, all_named, parameters_of, declaration_after, after_sole, body, open_body, definition_after, sees_body, external_after, external, is_left}
use Rattle.c_grammar.specs.Units as grammar
use Rattle.lowering_layout.specs.Texts.{IsIdentifier}
use Rattle.c_rules.specs.Counts.{all_tokens_in}
use Rattle.c_rules.specs.SpelledUnits.{Names, gives, known_after, is_known, names_of_shape, names_of_declarators, names_after, tokens_of_shape, tokens_of_declarators, tokens_of_parameters, tokens_of, all_tokens_of, elements_of_shape, elements_of_declarators, elements_of, all_elements_of, frames_of, all_frames_of, FunctionStands, FunctionsStand}
use Rattle.c_rules.specs.SpelledUnits as units
use Rattle.c_limits.specs.Taking.{Good, Later}
use Rattle.c_limits.proofs.TakingLaws.{later_on, same_place, Takes, mark_takes, maybe_takes, made_takes, ◌>>>◌}
use Rattle.c_limits.proofs.TypesTakeLaws.{assign_mark_takes, signed_constant_takes, before_either_takes, integer_told_takes, sees_takes, next_number_takes, type_of_takes, comma_mark_takes, close_brace_takes}
use Rattle.c_limits.proofs.DepthLaws.{open_paren_takes}
use Rattle.c_limits.specs.Measuring.{Tokens, given, Taken, Fits}
use Rattle.c_limits.proofs.MeasuringLaws.{tokens_joined, q_takes, q_made, q_then, fits_quiet, fits_last, fits_either, fits_as, fits_row}
use Rattle.c_limits.proofs.SpendingLaws.{Spends, frames_spend, function_spends, name_seen, array_fits}
use Rattle.c_limits.specs.Effects.{IsStatement}
use Rattle.c_limits.proofs.EffectLaws.{semicolon_takes}
use Rattle.c_limits.proofs.StatementLaws.{AreStatements, one_statement_more, standing_fits}
use Rattle.c_limits.proofs.ParameterLaws.{Marked, parameters_mark}

module _ (words : List Word) where
  pub record Filed (n : ℕ) (at rest : Place) (ds : List ℕ) (fr el fn : ℕ) (new : Names) : Type 0 where
    pub m : ℕ
    pub tokens : Tokens words n m ds
    pub good : Good words m rest.ahead
    pub frames : at.room.frames ≡ fr + rest.room.frames
    pub elements : at.room.elements ≡ el + rest.room.elements
    pub functions : at.room.functions ≡ fn + rest.room.functions
    pub names : rest.room.names ≡ at.room.names ++ new

  of_later : (n : ℕ) (at rest : Place) → Later at rest → Good words n at.ahead → Filed n at rest [] 0 0 0 []
  of_later n at rest later good =
      let f = ap (λ (r : Room). r.frames) later.room in
      let e = ap (λ (r : Room). r.elements) later.room in
      let g = ap (λ (r : Room). r.functions) later.room in
      record {
        m = n;
        tokens = (let same : n ≤ n = omega arith in same);
        good = later.good words n good;
        frames = omega (arith, f);
        elements = omega (arith, e);
        functions = omega (arith, g);
        names = ap (λ (r : Room). r.names) later.room ∙ sym (append-nil at.room.names);
      }

  of_spends : (n : ℕ) (at rest : Place) (fr el fn : ℕ) → Spends at rest fr el fn → Good words n at.ahead
      → Filed n at rest [] fr el fn []
  of_spends n at rest fr el fn spent good = record {
    m = n;
    tokens = (let same : n ≤ n = omega arith in same);
    good = subst (λ us. Good words n us) (sym spent.ahead) good;
    frames = spent.frames;
    elements = spent.elements;
    functions = spent.functions;
    names = spent.names ∙ sym (append-nil at.room.names);
  }

  of_taken : (n : ℕ) (at rest : Place) (P : List ℕ → List ℕ → ℕ → Type 0) (t : Taken words n at rest P)
      → Filed n at rest t.ds (length t.ds + given words at.room.names t.calls) t.el 0 []
  of_taken n at rest P t =
      let g = t.functions in
      record {
        m = t.m;
        tokens = t.tokens;
        good = t.good;
        frames = t.frames;
        elements = t.elements;
        functions = omega (arith, g);
        names = t.names ∙ sym (append-nil at.room.names);
      }

  two_filed : (n : ℕ) (at mid rest : Place) (ds es : List ℕ) (fr gr el fl fn gn : ℕ) (new more : Names)
      → (f : Filed n at mid ds fr el fn new) → Filed f.m mid rest es gr fl gn more
      → Filed n at rest (ds ++ es) (fr + gr) (el + fl) (fn + gn) (new ++ more)
  two_filed n at mid rest ds es fr gr el fl fn gn new more f g =
      let a = f.frames in
      let b = g.frames in
      let c = f.elements in
      let d = g.elements in
      let e = f.functions in
      let h = g.functions in
      record {
        m = g.m;
        tokens = tokens_joined words n f.m g.m ds es f.tokens g.tokens;
        good = g.good;
        frames = omega (arith, a, b);
        elements = omega (arith, c, d);
        functions = omega (arith, e, h);
        names = g.names ∙ ap (λ (x : Names). x ++ more) f.names ∙ append_assoc at.room.names new more;
      }

  filed_as : (n : ℕ) (at rest : Place) (ds es : List ℕ) (fr gr el fl fn gn : ℕ) (new more : Names) → ds ≡ es → fr ≡ gr
      → el ≡ fl
      → fn ≡ gn → new ≡ more → Filed n at rest ds fr el fn new → Filed n at rest es gr fl gn more
  filed_as n at rest ds es fr gr el fl fn gn new more a b c d e f =
      let x = f.frames in
      let y = f.elements in
      let z = f.functions in
      record {
        m = f.m;
        tokens = subst (λ ts. Tokens words n f.m ts) a f.tokens;
        good = f.good;
        frames = omega (arith, x, b);
        elements = omega (arith, y, c);
        functions = omega (arith, z, d);
        names = f.names ∙ ap (λ (x : Names). at.room.names ++ x) e;
      }

  tokens_low : (n m : ℕ) (ds : List ℕ) → Tokens words n m ds → n ≤ m
  tokens_low n m [] h = h
  tokens_low n m (t ∷ ts) h = let first = h.0 in let rest = tokens_low (suc t) m ts h.2 in omega (arith, first, rest)

  without_tokens : (n : ℕ) (at rest : Place) (ds : List ℕ) (fr el fn : ℕ) (new : Names)
      → Filed n at rest ds fr el fn new → Filed n at rest [] fr el fn new
  without_tokens n at rest ds fr el fn new f =
      record {
        m = f.m;
        tokens = tokens_low n f.m ds f.tokens;
        good = f.good;
        frames = f.frames;
        elements = f.elements;
        functions = f.functions;
        names = f.names;
      }

  -- ---- objects

  abbrev IsShape : ShapeTree → List ℕ → List ℕ → ℕ → Type 0
  IsShape shape ds calls el =
      (ds ≡ []) × (calls ≡ []) × (el ≡ elements_of_shape words shape) × (names_of_shape words outcomes.Nothing 0 shape ≡ [])
      × (tokens_of_shape 0 shape ≡ 0 ∷ [])

  initial_takes : Takes global_initial.form
  unfolding global_initial
  initial_takes = assign_mark_takes >>> λ _. signed_constant_takes others.ExpressionsAndBraces >>> λ c. made_takes

  integer_fits : Fits words global_integer.form IsShape
  unfolding global_integer
  integer_fits =
      fits_quiet words (q_then words (q_takes words (maybe_takes _ _ initial_takes))
      (λ c _. q_then words (q_takes words (before_either_takes (codes ",") (codes ";") (after_global c)))
      (λ _ _. q_made words (GlobalInteger c) (refl, refl, refl, refl, refl))))

  global_array_fits : Fits words global_array.form IsShape
  unfolding global_array
  global_array_fits = fits_last words (array_fits words) (λ a ds calls el is. q_made words (GlobalArray a.0 a.1) (is.0, is.1, is.2, refl, refl))

  object_names : (o p : Outcome) (n k : ℕ) (shape : ShapeTree) → names_of_shape words o n shape ≡ []
      → names_of_shape words p k shape ≡ []
  object_names o p n k (GlobalInteger c) e = refl
  object_names o p n k (GlobalArray s c) e = refl
  object_names o p n k (FunctionOf ps) e = absurd (let bad : (text_at words n, gives o) ∷ [] ≡ [] = e in cc)

  object_tokens : (n : ℕ) (shape : ShapeTree) → tokens_of_shape 0 shape ≡ 0 ∷ [] → tokens_of_shape n shape ≡ n ∷ []
  object_tokens n (GlobalInteger c) e = refl
  object_tokens n (GlobalArray s c) e = refl
  object_tokens n (FunctionOf ps) e = absurd (let bad : [] ≡ 0 ∷ [] = e in cc)

  -- what a declarator tells: its name, and the tokens of an object or of parameters
  abbrev pub all_tokens : DeclaratorTree → List ℕ
  all_tokens d = tokens_of_shape d.name d.shape ++ tokens_of_parameters (parameters_of d.shape)

  pub record IsDeclarator (o : Outcome) (n : ℕ) (at rest : Place) (d : DeclaratorTree) : Type 0 where
    pub named : IsIdentifier (text_at words d.name)
    pub filed : Filed n at rest (all_tokens d) (length (tokens_of_shape d.name d.shape)) (elements_of_shape words d.shape) 0
        (names_of_shape words o d.name d.shape)

  no_parameters : (shape : ShapeTree) → tokens_of_shape 0 shape ≡ 0 ∷ [] → parameters_of shape ≡ []
  no_parameters (GlobalInteger c) e = refl
  no_parameters (GlobalArray s c) e = refl
  no_parameters (FunctionOf ps) e = absurd (let bad : [] ≡ 0 ∷ [] = e in cc)

  object_filed : (o : Outcome) (k n : ℕ) (at rest : Place) (d : DeclaratorTree) → (object o k).form.Spells at d rest
      → Good words n at.ahead
      → (d.name ≡ k) × (tokens_of_shape 0 d.shape ≡ 0 ∷ []) × (names_of_shape words outcomes.Nothing 0 d.shape ≡ [])
      × Filed n at rest [] 1 (elements_of_shape words d.shape) 0 []
  unfolding object
  object_filed o k n at rest d s good =
      let (type, typed, type_spelled, after_type) = s in
      let (frame, framed, frame_taken, after_frame) = after_type in
      let (array, looked, bracket_seen, after_look) = after_frame in
      let (tree, shaped, shape_spelled, end) = after_look in
      let told = of_later n at typed ((integer_told_takes others.Object o).each at type typed type_spelled) good in
      let spent = of_spends told.m typed framed 1 0 0 (frames_spend 1 typed framed frame frame_taken) told.good in
      let seen = of_later spent.m framed looked ((sees_takes (codes "[")).each framed array looked bracket_seen) spent.good in
      let shape = (fits_either words array (weaken global_array)
      global_integer global_array_fits integer_fits).each looked tree shaped shape_spelled seen.m seen.good in
      let is = shape.holds in
      let counted = of_taken seen.m looked shaped _ shape in
      let last = of_later counted.m shaped rest (same_place shaped rest end.1) counted.good in
      let all = two_filed n at typed rest [] _ 0 _ 0 _ 0 _ [] _ told
      (two_filed told.m typed framed rest [] _ 1 _ 0 _ 0 _ [] _ spent
      (two_filed spent.m framed looked rest [] _ 0 _ 0 _ 0 _ [] _ seen
      (two_filed seen.m looked shaped rest shape.ds [] _ 0 _ 0 _ 0 [] [] counted last))) in
      let none : given words looked.room.names shape.calls ≡ 0 = ap (λ cs. given words looked.room.names cs) is.1 in
      let empty : length shape.ds ≡ 0 = ap length is.0 in
      let fine : Filed n at rest [] 1 (elements_of_shape words tree) 0 [] =
      filed_as n at rest _ [] _ 1 _ (elements_of_shape words tree) _ 0 _ [] (append-nil shape.ds ∙ is.0)
      (omega (arith, none, empty)) (let e = is.2 in omega (arith, e)) (omega arith) refl all in
      subst (λ (x : DeclaratorTree). (x.name ≡ k) × (tokens_of_shape 0 x.shape ≡ 0 ∷ [])
      × (names_of_shape words outcomes.Nothing 0 x.shape ≡ []) × Filed n at rest [] 1 (elements_of_shape words x.shape) 0 [])
      (sym end.0) (refl, is.4, is.3, fine)

  -- ---- functions that are declared

  same_gives : (o : Outcome) → grammar.gives o ≡ gives o
  same_gives outcomes.Nothing = refl
  same_gives (outcomes.Integer i) = refl

  declares_filed : (text : List ℕ) (b : Bool) (n : ℕ) (at rest : Place) (x : Unit {0})
      → (declares text b).form.Spells at x rest
      → Good words n at.ahead → Filed n at rest [] 0 0 0 ((text, b) ∷ [])
  unfolding declares
  declares_filed text b n at rest x s good =
      let room = ap (λ (p : Place). p.room) s.1 in
      let f = ap (λ (r : Room). r.frames) room in
      let e = ap (λ (r : Room). r.elements) room in
      let g = ap (λ (r : Room). r.functions) room in
      record {
        m = n;
        tokens = (let same : n ≤ n = omega arith in same);
        good = subst (λ us. Good words n us) (sym (ap (λ (p : Place). p.ahead) s.1)) good;
        frames = omega (arith, f);
        elements = omega (arith, e);
        functions = omega (arith, g);
        names = ap (λ (r : Room). r.names) room;
      }

  of_marked : (n : ℕ) (at rest : Place) (ds : List ℕ) → Marked words n at rest ds → Filed n at rest ds 0 0 0 []
  of_marked n at rest ds k =
      let f = ap (λ (r : Room). r.frames) k.room in
      let e = ap (λ (r : Room). r.elements) k.room in
      let g = ap (λ (r : Room). r.functions) k.room in
      record {
        m = k.m;
        tokens = k.tokens;
        good = k.good;
        frames = omega (arith, f);
        elements = omega (arith, e);
        functions = omega (arith, g);
        names = ap (λ (r : Room). r.names) k.room ∙ sym (append-nil at.room.names);
      }

  pub record IsPrototype (o : Outcome) (t : Seen) (n : ℕ) (at rest : Place) (d : DeclaratorTree) : Type 0 where
    pub params : List Parameter
    pub is : d ≡ record { name = t.number; shape = FunctionOf params }
    pub filed : Filed n at rest (tokens_of_parameters params) 0 0 0 ((t.text, gives o) ∷ [])

  prototype_filed : (o : Outcome) (t : Seen) (n : ℕ) (at rest : Place) (d : DeclaratorTree)
      → (prototype o t).form.Spells at d rest
      → Good words n at.ahead → IsPrototype o t n at rest d
  unfolding prototype
  prototype_filed o t n at rest d s good =
      let (mark, opened, mark_spelled, after_mark) = s in
      let (list, listed, list_spelled, after_list) = after_mark in
      let (function, named, function_told, end) = after_list in
      let paren = of_later n at opened (open_paren_takes.each at mark opened mark_spelled) good in
      let params = of_marked paren.m opened listed _ ((parameters_mark words).each opened list listed list_spelled paren.m paren.good) in
      let known = declares_filed t.text (grammar.gives o) params.m listed named function function_told params.good in
      let last = of_later known.m named rest (same_place named rest end.1) known.good in
      let ds = tokens_of_parameters list in
      let all = two_filed n at opened rest [] (ds ++ ([] ++ [])) 0 _ 0 _ 0 _ [] _ paren
      (two_filed paren.m opened listed rest ds ([] ++ []) 0 _ 0 _ 0 _ [] _ params
      (two_filed params.m listed named rest [] [] 0 _ 0 _ 0 _ _ [] known last)) in
      record {
        params = list;
        is = end.0;
        filed =
            filed_as n at rest _ ds _ 0 _ 0 _ 0 _ ((t.text, gives o) ∷ []) (append-nil ds) (omega arith) (omega arith) (omega arith)
            (ap (λ (b : Bool). (t.text, b) ∷ []) (same_gives o)) all;
      }

  -- ---- declarators

  object_declarator : (o : Outcome) (t : Seen) (n : ℕ) (at mid rest : Place) (d : DeclaratorTree)
      → (f : Filed n at mid (t.number ∷ []) 0 0 0 []) → IsIdentifier (text_at words t.number) → (object o t.number).form.Spells mid d rest
      → IsDeclarator o n at rest d
  object_declarator o t n at mid rest d f is s =
      let obj = object_filed o t.number f.m mid rest d s f.good in
      let tokens : all_tokens d ≡ t.number ∷ [] = ap₂ (λ (xs ys : List ℕ). xs ++ ys)
      (object_tokens d.name d.shape obj.1 ∙ ap (λ (k : ℕ). k ∷ []) obj.0) (ap tokens_of_parameters (no_parameters d.shape obj.1)) in
      let one : length (tokens_of_shape d.name d.shape) ≡ 1 = ap length (object_tokens d.name d.shape obj.1) in
      record {
        named = subst (λ (k : ℕ). IsIdentifier (text_at words k)) (sym obj.0) is;
        filed =
            filed_as n at rest _ (all_tokens d) _ (length (tokens_of_shape d.name d.shape)) _ (elements_of_shape words d.shape) _ 0 _
            (names_of_shape words o d.name d.shape) (sym tokens) (omega (arith, one)) (omega arith) (omega arith)
            (sym (object_names outcomes.Nothing o 0 d.name d.shape obj.2))
            (two_filed n at mid rest (t.number ∷ []) [] 0 1 0 (elements_of_shape words d.shape) 0 0 [] [] f obj.3);
      }

  function_declarator : (o : Outcome) (t : Seen) (n : ℕ) (at mid rest : Place) (d : DeclaratorTree)
      → (f : Filed n at mid [] 0 0 0 [])
      → IsIdentifier (text_at words t.number) → text_at words t.number ≡ t.text → (prototype o t).form.Spells mid d rest
      → IsDeclarator o n at rest d
  function_declarator o t n at mid rest d f is text s =
      let p = prototype_filed o t f.m mid rest d s f.good in
      let fine : IsDeclarator o n at rest (record { name = t.number; shape = FunctionOf p.params }) = record {
        named = is;
        filed =
            filed_as n at rest _ (tokens_of_parameters p.params) _ 0 _ 0 _ 0 _ ((text_at words t.number, gives o) ∷ []) refl
            (omega arith) (omega arith) (omega arith) (ap (λ (x : List ℕ). (x, gives o) ∷ []) (sym text))
            (two_filed n at mid rest [] (tokens_of_parameters p.params) 0 0 0 0 0 0 [] ((t.text, gives o) ∷ []) f p.filed);
      } in
      subst (λ (x : DeclaratorTree). IsDeclarator o n at rest x) (sym p.is) fine

  choice : (b : Bool) (o : Outcome) (t : Seen) (n : ℕ) (at mid rest : Place) (d : DeclaratorTree)
      → Filed n at mid (t.number ∷ []) 0 0 0 [] → IsIdentifier (text_at words t.number) → text_at words t.number ≡ t.text
      → (either b (weaken (prototype o t)) (object o t.number)).form.Spells mid d rest → IsDeclarator o n at rest d
  choice true o t n at mid rest d f is text s = function_declarator o t n at mid rest d (without_tokens n at mid (t.number ∷ []) 0 0 0 [] f) is text s
  choice false o t n at mid rest d f is text s = object_declarator o t n at mid rest d f is s

  declarator_filed : (o : Outcome) (n : ℕ) (at rest : Place) (d : DeclaratorTree) → (declarator o).form.Spells at d rest
      → Good words n at.ahead → IsDeclarator o n at rest d
  unfolding declarator
  declarator_filed o n at rest d s good =
      let (t, named, name_spelled, after_name) = s in
      let (paren, looked, paren_seen, after_look) = after_name in
      let (tree, placed, tree_spelled, end) = after_look in
      let seen = name_seen words others.Stars n at t named name_spelled good in
      let marked : Marked words n at named (t.number ∷ []) =
      record {
        m = suc t.number;
        tokens = (seen.low, seen.is, (let same : suc t.number ≤ suc t.number = omega arith in same));
        good = seen.good;
        room = seen.room;
      } in
      let first = of_marked n at named (t.number ∷ []) marked in
      let sees = of_later first.m named looked ((sees_takes (codes "(")).each named paren looked paren_seen) first.good in
      let before : Filed n at looked (t.number ∷ []) 0 0 0 [] = filed_as n at looked _ (t.number ∷ []) _ 0 _ 0 _ 0 _ [] refl
      (omega arith) (omega arith) (omega arith) refl (two_filed n at named looked (t.number ∷ []) [] 0 0 0 0 0 0 [] [] first sees) in
      let there = choice paren o t n at looked placed tree before seen.is seen.text tree_spelled in
      subst (λ (p : Place). IsDeclarator o n at p d) (sym end.1) (subst (λ (x : DeclaratorTree). IsDeclarator o n at placed x) (sym end.0) there)

  further_filed : (o : Outcome) (n : ℕ) (at rest : Place) (d : DeclaratorTree)
      → (further_declarator o).form.Spells at d rest
      → Good words n at.ahead → IsDeclarator o n at rest d
  unfolding further_declarator
  further_filed o n at rest d s good =
      let (mark, passed, mark_spelled, after_mark) = s in
      let (dd, placed, tree_spelled, end) = after_mark in
      let comma = of_later n at passed (comma_mark_takes.each at mark passed mark_spelled) good in
      let there = declarator_filed o comma.m passed placed dd tree_spelled comma.good in
      let fine : IsDeclarator o n at placed dd = record {
        named = there.named;
        filed =
            filed_as n at placed _ (all_tokens dd) _ (length (tokens_of_shape dd.name dd.shape)) _ (elements_of_shape words dd.shape)
            _ 0 _ (names_of_shape words o dd.name dd.shape) refl (omega arith) (omega arith) (omega arith) refl
            (two_filed n at passed placed [] (all_tokens dd) 0 (length (tokens_of_shape dd.name dd.shape)) 0
            (elements_of_shape words dd.shape) 0 0 [] (names_of_shape words o dd.name dd.shape) comma there.filed);
      } in
      subst (λ (p : Place). IsDeclarator o n at p d) (sym end.1) (subst (λ (x : DeclaratorTree). IsDeclarator o n at placed x) (sym end.0) fine)

  -- a declarator that stands in a declaration declares no parameters
  declared : (o : Outcome) (n : ℕ) (at rest : Place) (d : DeclaratorTree) → IsDeclarator o n at rest d
      → Filed n at rest (tokens_of_shape d.name d.shape) (length (tokens_of_shape d.name d.shape)) (elements_of_shape words d.shape) 0
      (names_of_shape words o d.name d.shape)
  declared o n at rest d is = by_shape d.name d.shape is.filed
    where
      by_shape : (k : ℕ) (shape : ShapeTree)
          → Filed n at rest (tokens_of_shape k shape ++ tokens_of_parameters (parameters_of shape))
          (length (tokens_of_shape k shape)) (elements_of_shape words shape) 0 (names_of_shape words o k shape)
          → Filed n at rest (tokens_of_shape k shape) (length (tokens_of_shape k shape)) (elements_of_shape words shape) 0 (names_of_shape words o k shape)
      by_shape k (GlobalInteger c) f = f
      by_shape k (GlobalArray size c) f = f
      by_shape k (FunctionOf ps) f = without_tokens n at rest (tokens_of_parameters ps) 0 0 0 ((text_at words k, gives o) ∷ []) f

  declarators_filed : (o : Outcome) (n : ℕ) (at : Place) (ds : List DeclaratorTree) (rest : Place)
      → InARow at_list_comma (further_declarator o).form at ds rest → Good words n at.ahead
      → Filed n at rest (tokens_of_declarators ds) (length (tokens_of_declarators ds)) (elements_of_declarators words ds) 0 (names_of_declarators words o ds)
  declarators_filed o n at [] rest s good = of_later n at rest (same_place at rest s) good
  declarators_filed o n at (d ∷ ds) rest s good =
      let f = declared o n at s.1.0 d (further_filed o n at s.1.0 d s.1.1 good) in
      let g = declarators_filed o f.m s.1.0 ds rest s.1.2 f.good in
      let lengths = length-append (tokens_of_shape d.name d.shape) (tokens_of_declarators ds) in
      filed_as n at rest _ _ _ (length (tokens_of_declarators (d ∷ ds))) _ (elements_of_declarators words (d ∷ ds)) _ 0 _ _ refl
      (sym lengths) refl (omega arith) refl
      (two_filed n at s.1.0 rest (tokens_of_shape d.name d.shape) (tokens_of_declarators ds) _ _ _ _ 0 0
      (names_of_shape words o d.name d.shape) (names_of_declarators words o ds) f g)

  -- ---- functions that are defined

  same_known : (text : List ℕ) (names : Names) (known : Bool)
      → latest_gives text known names ≡ known_after known text names
  same_known text [] known = refl
  same_known text (d ∷ ds) known = same_known text ds (if bytes_eq d.0 text then d.1 else known)

  gives_known : (text : List ℕ) (names : Names) → gives_value text names ≡ is_known text names
  unfolding gives_value
  gives_known text names = same_known text names false

  same_given : (names : Names) (ts : List ℕ) → given words names ts ≡ units.given words names ts
  same_given names [] = refl
  same_given names (t ∷ ts) = ap₂ (λ (b : Bool) (n : ℕ). (if b then 1 else 0) + n) (gives_known (text_at words t) names) (same_given names ts)

  open_body_filed : (count n : ℕ) (at rest : Place) (x : Unit {0}) → (open_body count).form.Spells at x rest
      → Good words n at.ahead
      → Filed n at rest [] count 0 1 []
  unfolding open_body
  open_body_filed count n at rest x s good =
      let (mark, opened, mark_spelled, after_mark) = s in
      let (function, numbered, function_taken, after_function) = after_mark in
      let (frame, framed, frames_taken, end) = after_function in
      let brace = of_later n at opened ((mark_takes (codes "{") others.Nothing).each at mark opened mark_spelled) good in
      let one = of_spends brace.m opened numbered 0 0 1 (function_spends opened numbered function function_taken) brace.good in
      let frames = of_spends one.m numbered framed count 0 0 (frames_spend count numbered framed frame frames_taken) one.good in
      let last = of_later frames.m framed rest (same_place framed rest end.1) frames.good in
      filed_as n at rest _ [] _ count _ 0 _ 1 _ [] refl (omega arith) (omega arith) (omega arith) refl
      (two_filed n at opened rest [] [] 0 (0 + (count + 0)) 0 (0 + (0 + 0)) 0 (1 + (0 + 0)) [] [] brace
      (two_filed brace.m opened numbered rest [] [] 0 (count + 0) 0 (0 + 0) 1 (0 + 0) [] [] one
      (two_filed one.m numbered framed rest [] [] count 0 0 0 0 0 [] [] frames last)))

  body_fits : Fits words body.form (AreStatements words)
  unfolding body
  body_fits =
      fits_last words
      (fits_row words in_block (standing (most_nesting - 1) standings.Item).form (IsStatement words) (AreStatements words)
      (fits_as words (λ s ds calls el is. is.0) (standing_fits words (most_nesting - 1) standings.Item)) (refl, refl, refl, tt)
      (one_statement_more words))
      (λ ss ds calls el are. q_then words (q_takes words close_brace_takes) (λ _ _. q_made words ss are))

  abbrev pub new_names : ExternalTree → Names
  new_names (Declaration first o ds) = names_of_declarators words o ds
  new_names (Definition first o name params ss) = (text_at words name, gives o) ∷ []

  abbrev pub defined_in : ExternalTree → ℕ
  defined_in (Declaration first o ds) = 0
  defined_in (Definition first o name params ss) = 1

  pub record IsExternal (n : ℕ) (at rest : Place) (x : ExternalTree) : Type 0 where
    pub filed : Filed n at rest (tokens_of x) (frames_of words at.room.names x) (elements_of words x) (defined_in x) (new_names x)
    pub stands : FunctionStands IsIdentifier units.Shallow words x

  definition_filed : (k : ℕ) (o : Outcome) (dn : ℕ) (ps : List Parameter) (n : ℕ) (at mid rest : Place) (x : ExternalTree)
      → all_named ps ≡ true → IsIdentifier (text_at words dn)
      → (f : Filed n at mid (tokens_of_parameters ps) 0 0 0 ((text_at words dn, gives o) ∷ []))
      → (definition_after k o (record { name = dn; shape = FunctionOf ps })).form.Spells mid x rest → IsExternal n at rest x
  unfolding definition_after
  definition_filed k o dn ps n at mid rest x named is f s =
      let (body_opened, entered, opening, after_opening) = s in
      let (ss, closed, body_spelled, end) = after_opening in
      let opened = open_body_filed (length ps) f.m mid entered body_opened opening f.good in
      let inside = body_fits.each entered ss closed body_spelled opened.m opened.good in
      let are = inside.holds in
      let counted = of_taken opened.m entered closed _ inside in
      let last = of_later counted.m closed rest (same_place closed rest end.1) counted.good in
      let new : Names = (text_at words dn, gives o) ∷ [] in
      let names : entered.room.names ≡ at.room.names ++ new = opened.names ∙ append-nil mid.room.names ∙ f.names in
      let calls : given words entered.room.names inside.calls ≡ units.given words (at.room.names ++ new) (called_in (statements_of ss)) =
      same_given entered.room.names inside.calls ∙ ap₂ (λ (x : Names) (cs : List ℕ). units.given words x cs) names are.1
      in
      let lengths : length inside.ds ≡ length (all_tokens_in (statements_of ss)) = ap length are.0 in
      let el = are.2 in
      let all = two_filed n at mid rest (tokens_of_parameters ps) ([] ++ (inside.ds ++ [])) 0 _ 0 _ 0 _ new _ f
      (two_filed f.m mid entered rest [] (inside.ds ++ []) (length ps) _ 0 _ 1 _ [] _ opened
      (two_filed opened.m entered closed rest inside.ds [] _ 0 _ 0 0 0 [] [] counted last)) in
      let tokens : tokens_of_parameters ps ++ (inside.ds ++ []) ≡ tokens_of_parameters ps ++ all_tokens_in (statements_of ss) =
      ap (λ ts. tokens_of_parameters ps ++ ts) (append-nil inside.ds ∙ are.0) in
      let d : ExternalTree = Definition k o dn ps ss in
      let fine : IsExternal n at rest d = record {
        filed =
            filed_as n at rest _ (tokens_of d) _ (frames_of words at.room.names d) _ (elements_of words d) _ 1 _ new tokens
            (omega (arith, calls, lengths)) (omega (arith, el)) (omega arith) refl all;
        stands = (is, named, are.3);
      } in
      subst (λ (y : ExternalTree). IsExternal n at rest y) (sym end.0) fine

  declaration_filed : (k : ℕ) (o : Outcome) (d : DeclaratorTree) (n : ℕ) (at mid rest : Place) (x : ExternalTree)
      → (f : Filed n at mid (tokens_of_shape d.name d.shape) (length (tokens_of_shape d.name d.shape)) (elements_of_shape words d.shape) 0
      (names_of_shape words o d.name d.shape))
      → (declaration_after k o d).form.Spells mid x rest → IsExternal n at rest x
  unfolding declaration_after
  declaration_filed k o d n at mid rest x f s =
      let (ds, listed, list_spelled, after_list) = s in
      let (mark, passed, mark_spelled, end) = after_list in
      let others_filed = declarators_filed o f.m mid ds listed list_spelled.0 f.good in
      let semi = of_later others_filed.m listed passed ((semicolon_takes words (after_sole d ds)).each listed mark passed mark_spelled) others_filed.good in
      let last = of_later semi.m passed rest (same_place passed rest end.1) semi.good in
      let ts = tokens_of_declarators ds in
      let lengths = length-append (tokens_of_shape d.name d.shape) ts in
      let all = two_filed n at mid rest (tokens_of_shape d.name d.shape) (ts ++ []) _ _ _ _ 0 _ (names_of_shape words o d.name d.shape)
      (names_of_declarators words o ds ++ []) f
      (two_filed f.m mid listed rest ts [] _ 0 _ 0 0 0 (names_of_declarators words o ds) [] others_filed
      (two_filed others_filed.m listed passed rest [] [] 0 0 0 0 0 0 [] [] semi last)) in
      let y : ExternalTree = Declaration k o (d ∷ ds) in
      let fine : IsExternal n at rest y = record {
        filed =
            filed_as n at rest _ (tokens_of y) _ (frames_of words at.room.names y) _ (elements_of words y) _ 0 _ (new_names y)
            (ap (λ us. tokens_of_shape d.name d.shape ++ us) (append-nil ts)) (omega (arith, lengths)) (omega arith) (omega arith)
            (ap (λ (us : Names). names_of_shape words o d.name d.shape ++ us) (append-nil (names_of_declarators words o ds))) all;
        stands = tt;
      } in
      subst (λ (z : ExternalTree). IsExternal n at rest z) (sym end.0) fine

  first_holds : (a b : Bool) → (a && b) ≡ true → a ≡ true
  first_holds true b e = refl
  first_holds false b e = absurd (let bad : false ≡ true = e in cc)

  by_body : (b : Bool) (k : ℕ) (o : Outcome) (dn : ℕ) (shape : ShapeTree) (n : ℕ) (at mid rest : Place) (x : ExternalTree)
      → (b ≡ true → may_be_defined shape ≡ true) → IsDeclarator o n at mid (record { name = dn; shape = shape })
      → (either b (definition_after k o (record { name = dn; shape = shape }))
      (declaration_after k o (record { name = dn; shape = shape }))).form.Spells mid x rest → IsExternal n at rest x
  by_body false k o dn shape n at mid rest x may is s =
      declaration_filed k o (record { name = dn; shape = shape }) n at mid rest x
      (declared o n at mid (record { name = dn; shape = shape }) is) s
  by_body true k o dn (GlobalInteger c) n at mid rest x may is s = absurd (let bad : false ≡ true = may refl in cc)
  by_body true k o dn (GlobalArray size c) n at mid rest x may is s = absurd (let bad : false ≡ true = may refl in cc)
  by_body true k o dn (FunctionOf ps) n at mid rest x may is s = definition_filed k o dn ps n at mid rest x (may refl) is.named is.filed s

  after_filed : (k : ℕ) (o : Outcome) (d : DeclaratorTree) (n : ℕ) (at mid rest : Place) (x : ExternalTree)
      → IsDeclarator o n at mid d
      → (external_after k o d).form.Spells mid x rest → IsExternal n at rest x
  unfolding external_after sees_body
  after_filed k o d n at mid rest x is s =
      let (has_body, looked, body_seen, after_look) = s in
      let (y, placed, tree_spelled, end) = after_look in
      let test = ok_is {F = Fault} (may_be_defined d.shape && at_text (codes "{") mid) has_body body_seen.0 in
      let may : has_body ≡ true → may_be_defined d.shape ≡ true = λ t. first_holds (may_be_defined d.shape) (at_text (codes "{") mid) (test ∙ t) in
      let here : IsDeclarator o n at looked d = subst (λ (p : Place). IsDeclarator o n at p d) (sym body_seen.1) is in
      let there = by_body has_body k o d.name d.shape n at looked placed y may here tree_spelled in
      subst (λ (p : Place). IsExternal n at p x) (sym end.1) (subst (λ (y : ExternalTree). IsExternal n at placed y) (sym end.0) there)

  pub external_filed : (n : ℕ) (at rest : Place) (x : ExternalTree) → external.form.Spells at x rest
      → Good words n at.ahead → IsExternal n at rest x
  unfolding external
  external_filed n at rest x s good =
      let (first, numbered, first_spelled, after_first) = s in
      let (o, typed, type_spelled, after_type) = after_first in
      let (d, declared_at, tree_spelled, after_tree) = after_type in
      let (y, placed, after_spelled, end) = after_tree in
      let number = next_number_takes.each at first numbered first_spelled in
      let type = (type_of_takes settings.File).each numbered o typed type_spelled in
      let before = of_later n at typed (later_on at numbered typed number type) good in
      let there = declarator_filed o before.m typed declared_at d tree_spelled before.good in
      let is : IsDeclarator o n at declared_at d = record {
        named = there.named;
        filed =
            filed_as n at declared_at _ (all_tokens d) _ (length (tokens_of_shape d.name d.shape)) _ (elements_of_shape words d.shape)
            _ 0 _ (names_of_shape words o d.name d.shape) refl (omega arith) (omega arith) (omega arith) refl
            (two_filed n at typed declared_at [] (all_tokens d) 0 (length (tokens_of_shape d.name d.shape)) 0
            (elements_of_shape words d.shape) 0 0 [] (names_of_shape words o d.name d.shape) before there.filed);
      } in
      let after = after_filed first o d n at declared_at placed y is after_spelled in
      subst (λ (p : Place). IsExternal n at p x) (sym end.1) (subst (λ (y : ExternalTree). IsExternal n at placed y) (sym end.0) after)

  -- ---- whole units

  names_step : (names : Names) (x : ExternalTree) → names_after words names x ≡ names ++ new_names x
  names_step names (Declaration first o ds) = refl
  names_step names (Definition first o name params ss) = refl

  pub record AreExternals (n : ℕ) (at rest : Place) (xs : List ExternalTree) : Type 0 where
    pub m : ℕ
    pub tokens : Tokens words n m (all_tokens_of xs)
    pub frames : at.room.frames ≡ all_frames_of words at.room.names xs + rest.room.frames
    pub elements : at.room.elements ≡ all_elements_of words xs + rest.room.elements
    pub functions : at.room.functions ≡ length (definitions xs) + rest.room.functions
    pub stand : FunctionsStand IsIdentifier units.Shallow words xs

  defined_count : (x : ExternalTree) (xs : List ExternalTree)
      → length (definitions (x ∷ xs)) ≡ defined_in x + length (definitions xs)
  defined_count (Declaration first o ds) xs = omega arith
  defined_count (Definition first o name params ss) xs = omega arith

  pub externals_filed : (n : ℕ) (at : Place) (xs : List ExternalTree) (rest : Place)
      → InARow is_left external.form at xs rest
      → Good words n at.ahead → AreExternals n at rest xs
  externals_filed n at [] rest s good =
      let f = of_later n at rest (same_place at rest s) good in
      record { m = f.m; tokens = f.tokens; frames = f.frames; elements = f.elements; functions = f.functions; stand = tt }
  externals_filed n at (x ∷ xs) rest s good =
      let is = external_filed n at s.1.0 x s.1.1 good in
      let f = is.filed in
      let are = externals_filed f.m s.1.0 xs rest s.1.2 f.good in
      let names : s.1.0.room.names ≡ names_after words at.room.names x = f.names ∙ sym (names_step at.room.names x) in
      let a = f.frames in
      let b : s.1.0.room.frames ≡ all_frames_of words (names_after words at.room.names x) xs + rest.room.frames =
      subst (λ (ns : Names). s.1.0.room.frames ≡ all_frames_of words ns xs + rest.room.frames) names are.frames in
      let c = f.elements in
      let d = are.elements in
      let e = f.functions in
      let g = are.functions in
      let count = defined_count x xs in
      record {
        m = are.m;
        tokens = tokens_joined words n f.m are.m (tokens_of x) (all_tokens_of xs) f.tokens are.tokens;
        frames = omega (arith, a, b);
        elements = omega (arith, c, d);
        functions = omega (arith, e, g, count);
        stand = (is.stands, are.stand);
      }
