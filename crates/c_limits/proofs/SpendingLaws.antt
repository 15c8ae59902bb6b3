-- Laws of spending.
--   Spends at rest fr el fn   so many frames, elements and functions are counted, and no token is taken
--   fits_declared             a name and its frame, and then what the others count
--   array_fits, call_fits, assigned_fits   arrays, calls and values
use Rattle.std.proofs.Common.{◌≡◌, ◌≤◌, ◌+◌, ℕ, suc, Bool, List, [], ◌∷◌, length, Result, Ok, None, refl, sym, ap, subst, ◌∙◌, arith, leb-true}
use Rattle.std.specs.Prelude.{codes}
use Rattle.grammar.specs.Form.{first_of, others_of, Form, fit_first, bound}
use Rattle.grammar.specs.Exact.{ok_no_err}
use Rattle.grammar.specs.ExactLaws.{ok_is}
use Rattle.c_unit.specs.Units.{Word}
use Rattle.c_rules.specs.Names.{text_at, worth_at, number_of}
use Rattle.c_grammar.specs.declared.symbol.Symbol.{Symbol}
use Rattle.c_grammar.specs.declared.symbol.Symbol.TheVariants as symbols
use Rattle.c_grammar.specs.declared.others.Others.{Others}
use Rattle.c_grammar.specs.declared.others.Others.TheVariants as others
use Rattle.c_grammar.specs.Tokens.{Fault, Syntax, Seen, Room, Place, misfit, one, fits_name_of, name, fits_constant_of, constant, some_frames, some_elements, one_function}
use Rattle.c_grammar.specs.Types.{after_array, after_constant, array, array_size, at_assign}
use Rattle.lowering_layout.specs.Texts.{IsIdentifier}
use Rattle.c_limits.specs.Taking.{Faithful, Good}
use Rattle.c_limits.proofs.TakingLaws.{good_from, maybe_takes}
use Rattle.c_limits.proofs.TypesTakeLaws.{before_either_takes, element_list_takes, left_bracket_takes, right_bracket_takes}
use Rattle.c_limits.specs.Measuring.{given, Quietly, Fits}
use Rattle.c_limits.proofs.MeasuringLaws.{q_takes, q_made, q_then, fits_after, fits_last}

-- so many are counted, and no token is taken
pub record Spends (at rest : Place) (fr el fn : ℕ) : Type 0 where
  pub ahead : rest.ahead ≡ at.ahead
  pub frames : at.room.frames ≡ fr + rest.room.frames
  pub elements : at.room.elements ≡ el + rest.room.elements
  pub functions : at.room.functions ≡ fn + rest.room.functions
  pub names : rest.room.names ≡ at.room.names

pub frames_spend : (count : ℕ) (at rest : Place) (x : Unit {0}) → (some_frames count).form.Spells at x rest
    → Spends at rest count 0 0
unfolding some_frames
frames_spend count at rest x s =
    let low = leb-true count at.room.frames s.0 in
    let room = ap (λ (p : Place). p.room) s.1 in
    let f = ap (λ (r : Room). r.frames) room in
    let e = ap (λ (r : Room). r.elements) room in
    let g = ap (λ (r : Room). r.functions) room in
    record {
      ahead = ap (λ (p : Place). p.ahead) s.1;
      frames = omega (arith, low, f);
      elements = omega (arith, e);
      functions = omega (arith, g);
      names = ap (λ (r : Room). r.names) room;
    }

pub elements_spend : (count : ℕ) (at rest : Place) (x : Unit {0}) → (some_elements count).form.Spells at x rest
    → Spends at rest 0 count 0
unfolding some_elements
elements_spend count at rest x s =
    let low = leb-true count at.room.elements s.0 in
    let room = ap (λ (p : Place). p.room) s.1 in
    let f = ap (λ (r : Room). r.frames) room in
    let e = ap (λ (r : Room). r.elements) room in
    let g = ap (λ (r : Room). r.functions) room in
    record {
      ahead = ap (λ (p : Place). p.ahead) s.1;
      frames = omega (arith, f);
      elements = omega (arith, low, e);
      functions = omega (arith, g);
      names = ap (λ (r : Room). r.names) room;
    }

pub function_spends : (at rest : Place) (x : Unit {0}) → one_function.form.Spells at x rest → Spends at rest 0 0 1
unfolding one_function
function_spends at rest x s =
    let low = leb-true 1 at.room.functions s.0 in
    let room = ap (λ (p : Place). p.room) s.1 in
    let f = ap (λ (r : Room). r.frames) room in
    let e = ap (λ (r : Room). r.elements) room in
    let g = ap (λ (r : Room). r.functions) room in
    record {
      ahead = ap (λ (p : Place). p.ahead) s.1;
      frames = omega (arith, f);
      elements = omega (arith, e);
      functions = omega (arith, low, g);
      names = ap (λ (r : Room). r.names) room;
    }

module _ (words : List Word) where
  -- ---- one token

  pub record IsSeen {A : Type 0} (fit : Seen → Result A Fault) (n : ℕ) (at : Place) (x : A) (rest : Place) : Type 0 where
    pub t : Seen
    pub fits : fit t ≡ Ok x
    pub low : n ≤ t.number
    pub faithful : Faithful words t
    pub good : Good words (suc t.number) rest.ahead
    pub room : rest.room ≡ at.room

  first_seen : {A : Type 0} (fit : Seen → Result A Fault) (n : ℕ) (ts : List Seen) (at : Place) (x : A) (rest : Place)
      → fit_first (λ (at : Place). Syntax None) (λ (t : Seen) (at : Place). fit t) (first_of ts) at ≡ Ok x → rest.ahead ≡ others_of ts
      → rest.room ≡ at.room
      → Good words n ts → IsSeen fit n at x rest
  first_seen fit n [] at x rest e ahead room good = ok_no_err x (Syntax None) e
  first_seen fit n (t ∷ ts) at x rest e ahead room good =
      record {
        t = t;
        fits = e;
        low = good.0;
        faithful = good.1;
        good = subst (λ (us : List Seen). Good words (suc t.number) us) (sym ahead) good.2;
        room = room;
      }

  pub token_seen : {A : Type 0} (fit : Seen → Result A Fault) (n : ℕ) (at : Place) (x : A) (rest : Place)
      → (one fit).form.Spells at x rest → Good words n at.ahead → IsSeen fit n at x rest
  token_seen fit n at x rest s good = first_seen fit n at.ahead at x rest s.0 (ap (λ (p : Place). p.ahead) s.1) (ap (λ (p : Place). p.room) s.1) good

  -- ---- names

  is_name : (s : Symbol) (o : Others) (t x : Seen) → fits_name_of s o t ≡ Ok x → (s ≡ symbols.Name) × (t ≡ x)
  is_name symbols.Name o t x e = (refl, ok_is {F = Fault} t x e)
  is_name s o t x e = ok_no_err x (misfit o t) e

  pub record IsNamed (n : ℕ) (at : Place) (x : Seen) (rest : Place) : Type 0 where
    pub low : n ≤ x.number
    pub text : text_at words x.number ≡ x.text
    pub is : IsIdentifier (text_at words x.number)
    pub good : Good words (suc x.number) rest.ahead
    pub room : rest.room ≡ at.room

  pub name_seen : (o : Others) (n : ℕ) (at : Place) (x : Seen) (rest : Place) → (name o).form.Spells at x rest
      → Good words n at.ahead → IsNamed n at x rest
  unfolding name
  name_seen o n at x rest s good =
      let seen = token_seen (λ t. fits_name_of t.symbol o t) n at x rest s good in
      let is = is_name seen.t.symbol o seen.t x seen.fits in
      let same = is.1 in
      record {
        low = subst (λ (t : Seen). n ≤ t.number) same seen.low;
        text = subst (λ (t : Seen). text_at words t.number ≡ t.text) same seen.faithful.text;
        is = subst (λ (t : Seen). IsIdentifier (text_at words t.number)) same (subst IsIdentifier (sym seen.faithful.text) (seen.faithful.name is.0));
        good = subst (λ (t : Seen). Good words (suc t.number) rest.ahead) same seen.good;
        room = seen.room;
      }

  -- a name with its frame, and then what the others count
  pub fits_declared : {B : Type 0} {q : Seen → Form Seen Room Fault B} {post : B → List ℕ → List ℕ → ℕ → Type 0} (o : Others)
      → ((t : Seen) → Fits words (q t) (λ y ds calls el. post y (t.number ∷ ds) calls el))
      → Fits words (bound (name o).form (λ t. bound (some_frames 1).form (λ _. q t))) post
  fits_declared {post = post} o h = record {
    each = λ at y rest s n good.
        let (t, named_at, name_spelled, after_name) = s in
        let (frame, framed, frame_taken, others_spelled) = after_name in
        let named = name_seen o n at t named_at name_spelled good in
        let spent = frames_spend 1 named_at framed frame frame_taken in
        let u = (h t).each framed y rest others_spelled (suc t.number)
        (subst (λ (us : List Seen). Good words (suc t.number) us) (sym spent.ahead) named.good) in
        let room = named.room in
        let first = ap (λ (r : Room). r.frames) room in
        let elements = ap (λ (r : Room). r.elements) room in
        let functions = ap (λ (r : Room). r.functions) room in
        let names : framed.room.names ≡ at.room.names = spent.names ∙ ap (λ (r : Room). r.names) room in
        let f = spent.frames in
        let e = spent.elements in
        let g = spent.functions in
        let uf : framed.room.frames ≡ (length u.ds + given words at.room.names u.calls) + rest.room.frames =
        subst (λ (x : List (List ℕ × Bool)). framed.room.frames ≡ (length u.ds + given words x u.calls)
        + rest.room.frames) names u.frames in
        let ue = u.elements in
        let ug = u.functions in
        record {
          ds = t.number ∷ u.ds;
          calls = u.calls;
          el = u.el;
          m = u.m;
          tokens = (named.low, named.is, u.tokens);
          good = u.good;
          frames = omega (arith, first, f, uf);
          elements = omega (arith, elements, e, ue);
          functions = (let same : rest.room.functions ≡ at.room.functions = omega (arith, functions, g, ug) in same);
          names = u.names ∙ names;
          holds = u.holds;
        };
  }

  -- ---- arrays

  is_constant : (s : Symbol) (o : Others) (t : Seen) (x : ℕ × ℕ) → fits_constant_of s o t ≡ Ok x
      → (s ≡ symbols.Constant x.1) × (t.number ≡ x.0)
  is_constant (symbols.Constant n) o t x e =
      let same = ok_is {F = Fault} (t.number, n) x e in
      (ap (λ (p : ℕ × ℕ). symbols.Constant p.1) same, ap (λ (p : ℕ × ℕ). p.0) same)
  is_constant s o t x e = ok_no_err x (misfit o t) e

  pub record IsSize (n : ℕ) (at : Place) (x : ℕ × ℕ) (rest : Place) : Type 0 where
    pub worth : number_of (worth_at words x.0) ≡ x.1
    pub good : Good words n rest.ahead
    pub room : rest.room ≡ at.room

  constant_seen : (o : Others) (n : ℕ) (at : Place) (x : ℕ × ℕ) (rest : Place) → (constant o).form.Spells at x rest
      → Good words n at.ahead → IsSize n at x rest
  unfolding constant
  constant_seen o n at x rest s good =
      let seen = token_seen (λ t. fits_constant_of t.symbol o t) n at x rest s good in
      let is = is_constant seen.t.symbol o seen.t x seen.fits in
      let low = seen.low in
      record {
        worth = subst (λ (k : ℕ). number_of (worth_at words k) ≡ x.1) is.1 (seen.faithful.constant x.1 is.0);
        good = good_from words n (suc seen.t.number) rest.ahead (omega (arith, low)) seen.good;
        room = seen.room;
      }

  abbrev pub Counted : List ℕ → List ℕ → ℕ → List ℕ → List ℕ → ℕ → Type 0
  Counted D C E ds calls el = (ds ≡ D) × (calls ≡ C) × (el ≡ E)

  -- a constant whose number is spent
  spent_size : {B : Type 0} {q : ℕ × ℕ → Form Seen Room Fault B} {post : B → List ℕ → List ℕ → ℕ → Type 0} (o : Others)
      → ((s : ℕ × ℕ) → Quietly words (q s) (λ y. post y [] [] (number_of (worth_at words s.0))))
      → Fits words (bound (constant o).form (λ s. bound (some_elements s.1).form (λ _. q s))) post
  spent_size {post = post} o h = record {
    each = λ at y rest s n good.
        let (x, named_at, constant_spelled, after_constant) = s in
        let (element, counted_at, elements_taken, others_spelled) = after_constant in
        let seen = constant_seen o n at x named_at constant_spelled good in
        let spent = elements_spend x.1 named_at counted_at element elements_taken in
        let u = (h x).each counted_at y rest others_spelled in
        let room = seen.room in
        let later = u.0.room in
        let worth = seen.worth in
        let a = ap (λ (r : Room). r.frames) room in
        let b = ap (λ (r : Room). r.elements) room in
        let c = ap (λ (r : Room). r.functions) room in
        let f = spent.frames in
        let e = spent.elements in
        let g = spent.functions in
        let x1 = ap (λ (r : Room). r.frames) later in
        let x2 = ap (λ (r : Room). r.elements) later in
        let x3 = ap (λ (r : Room). r.functions) later in
        record {
          ds = [];
          calls = [];
          el = number_of (worth_at words x.0);
          m = n;
          tokens = (let same : n ≤ n = omega arith in same);
          good = u.0.good words n (subst (λ (us : List Seen). Good words n us) (sym spent.ahead) seen.good);
          frames = omega (arith, a, f, x1);
          elements = omega (arith, b, e, x2, worth);
          functions = (let same : rest.room.functions ≡ at.room.functions = omega (arith, c, g, x3) in same);
          names = ap (λ (r : Room). r.names) later ∙ spent.names ∙ ap (λ (r : Room). r.names) room;
          holds = u.1;
        };
  }

  pub size_fits : Fits words array_size.form (λ s. Counted [] [] (number_of (worth_at words s)))
  unfolding array_size
  size_fits =
      fits_after words (q_takes words left_bracket_takes)
      (λ _ _. spent_size others.Sizes (λ s. q_then words (q_takes words (right_bracket_takes after_constant))
      (λ _ _. q_made words s.0 (refl, refl, refl))))

  pub array_fits : Fits words array.form (λ a. Counted [] [] (number_of (worth_at words a.0)))
  unfolding array
  array_fits =
      fits_last words size_fits (λ s ds calls el is. q_then words (q_takes words (maybe_takes at_assign _ element_list_takes))
      (λ cs _. q_then words (q_takes words (before_either_takes (codes ",") (codes ";") (after_array cs)))
      (λ _ _. q_made words (s, cs) is)))
