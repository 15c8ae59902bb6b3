-- Laws of effects.
use Rattle.std.proofs.Common.{◌≡◌, ◌≤◌, ◌+◌, ◌-◌, ℕ, suc, Bool, true, false, List, [], ◌∷◌, ◌++◌, Option, refl, sym, ap, ap₂, subst, ◌∙◌, arith}
use Rattle.std.specs.Prelude.{codes}
use Rattle.grammar.specs.Rule.{value}
use Rattle.grammar.specs.ExactLaws.{ok_is}
use Rattle.c_unit.specs.Tree.{CallTree, ValueTree, OfExpression, OfCall, EffectTree, LocalTree}
use Rattle.c_unit.specs.Units.{Word}
use Rattle.c_rules.specs.Names.{text_at}
use Rattle.c_rules.specs.Recursion.{calls_in_value, calls_if_valued, calls_in_effect, calls_in_shape, calls_in_locals}
use Rattle.c_grammar.specs.declared.others.Others.{Others}
use Rattle.c_grammar.specs.Tokens.{Fault, Seen, Room, Place, some_frames, gives_value, either}
use Rattle.c_grammar.specs.Expressions.{some_token, fits_any, call_frame, call, called_value, plain_value, assigned}
use Rattle.c_grammar.specs.Statements.{semicolon}
use Rattle.c_rules.specs.SpelledExpressions.{InCall, InValue, IfValue, InEffect, InShape, InLocals}
use Rattle.c_rules.specs.Counts.{tokens_of, elements_of, elements_of_all}
use Rattle.c_limits.specs.Taking.{Good}
use Rattle.c_limits.proofs.TakingLaws.{same_place, Takes, made_takes, mark_takes, ◌>>>◌}
use Rattle.c_limits.specs.Measuring.{one_if, Fits}
use Rattle.c_limits.proofs.MeasuringLaws.{q_takes, q_made, q_then, fits_quiet, fits_after, fits_last, fits_either}
use Rattle.c_limits.proofs.DepthLaws.{arguments_deep, open_paren_takes, sees_call_takes, whole_expr_deep}
use Rattle.c_limits.specs.Spending.{Shallow}
use Rattle.c_limits.proofs.SpendingLaws.{Spends, frames_spend, token_seen}
use Rattle.c_limits.specs.Effects.{Is}

module _ (words : List Word) where
  pub semicolon_takes : (o : Others) → Takes (semicolon o).form
  unfolding semicolon
  semicolon_takes o = mark_takes (codes ";") o >>> λ _. made_takes

  -- ---- calls

  known_spends : (known : Bool) (at rest : Place) (x : Unit {0})
      → (either known (some_frames 1) (value tt)).form.Spells at x rest
      → Spends at rest (one_if words known) 0 0
  known_spends true at rest x s = frames_spend 1 at rest x s
  known_spends false at rest x s =
      let room = ap (λ (p : Place). p.room) s.1 in
      let f = ap (λ (r : Room). r.frames) room in
      let e = ap (λ (r : Room). r.elements) room in
      let g = ap (λ (r : Room). r.functions) room in
      record {
        ahead = ap (λ (p : Place). p.ahead) s.1;
        frames = omega (arith, f);
        elements = omega (arith, e);
        functions = omega (arith, g);
        names = ap (λ (r : Room). r.names) room;
      }

  call_frame_spends : (text : List ℕ) (at rest : Place) (x : Unit {0}) → (call_frame text).form.Spells at x rest
      → Spends at rest (one_if words (gives_value text at.room.names)) 0 0
  unfolding call_frame
  call_frame_spends text at rest x s =
      let known = ok_is {F = Fault} (gives_value text at.room.names) s.0 s.2.0 in
      subst (λ (b : Bool). Spends at rest (one_if words b) 0 0) (sym known)
      (subst (λ (p : Place). Spends p rest (one_if words s.0) 0 0) s.2.1 (known_spends s.0 s.1 rest x s.3))

  abbrev pub IsCall : CallTree → List ℕ → List ℕ → ℕ → Type 0
  IsCall = Is words (λ c. []) (λ (c : CallTree). c.name ∷ []) (λ c. 0) (InCall Shallow)

  pub call_fits : (p : ℕ) → Fits words (call p).form IsCall
  unfolding call some_token
  call_fits p = record {
    each = λ at y rest s n good.
        let (t, named, name_spelled, after_name) = s in
        let (mark, opened, mark_spelled, after_mark) = after_name in
        let (frame, framed, frame_taken, after_frame) = after_mark in
        let (list, listed, list_spelled, end) = after_frame in
        let seen = token_seen words fits_any n at t named name_spelled good in
        let same = ok_is {F = Fault} seen.t t seen.fits in
        let paren = open_paren_takes.each named mark opened mark_spelled in
        let spent = call_frame_spends t.text opened framed frame frame_taken in
        let args = (arguments_deep words p).each framed list listed list_spelled in
        let last = same_place listed rest end.1 in
        let room1 : opened.room ≡ at.room = paren.room ∙ seen.room in
        let room2 : rest.room ≡ framed.room = last.room ∙ args.0.room in
        let text : text_at words t.number ≡ t.text = subst (λ (x : Seen). text_at words x.number ≡ x.text) same seen.faithful.text in
        let low : n ≤ t.number = subst (λ (x : Seen). n ≤ x.number) same seen.low in
        let gave : one_if words (gives_value (text_at words t.number) at.room.names) ≡ one_if words (gives_value t.text opened.room.names) =
        ap₂ (λ (x : List ℕ) (names : List (List ℕ × Bool)). one_if words (gives_value x names)) text (sym (ap (λ (r : Room). r.names) room1))
        in
        let a = ap (λ (r : Room). r.frames) room1 in
        let b = ap (λ (r : Room). r.elements) room1 in
        let c = ap (λ (r : Room). r.functions) room1 in
        let a2 = ap (λ (r : Room). r.frames) room2 in
        let b2 = ap (λ (r : Room). r.elements) room2 in
        let c2 = ap (λ (r : Room). r.functions) room2 in
        let f = spent.frames in
        let e = spent.elements in
        let g = spent.functions in
        let good1 : Good words (suc t.number) named.ahead = subst (λ (x : Seen). Good words (suc x.number) named.ahead) same seen.good in
        let good2 = paren.good words (suc t.number) good1 in
        let good3 : Good words (suc t.number) framed.ahead = subst (λ (us : List Seen). Good words (suc t.number) us) (sym spent.ahead) good2 in
        let good4 = last.good words (suc t.number) (args.0.good words (suc t.number) good3) in
        record {
          ds = [];
          calls = t.number ∷ [];
          el = 0;
          m = suc t.number;
          tokens = (let fine : n ≤ suc t.number = omega (arith, low) in fine);
          good = good4;
          frames = omega (arith, a, a2, f, gave);
          elements = omega (arith, b, b2, e);
          functions = (let fine : rest.room.functions ≡ at.room.functions = omega (arith, c, c2, g) in fine);
          names = ap (λ (r : Room). r.names) room2 ∙ spent.names ∙ ap (λ (r : Room). r.names) room1;
          holds = subst (λ (z : CallTree). IsCall z [] (t.number ∷ []) 0) (sym end.0) (refl, refl, refl, args.1);
        };
  }

  -- ---- values

  abbrev pub IsValue : ValueTree → List ℕ → List ℕ → ℕ → Type 0
  IsValue = Is words (λ v. []) calls_in_value (λ v. 0) (InValue Shallow)

  called_fits : (p : ℕ) → Fits words (called_value p).form IsValue
  unfolding called_value
  called_fits p = fits_last words (call_fits p) (λ c ds calls el is. q_made words (OfCall c) is)

  plain_fits : (p : ℕ) (o : Others) → Fits words (plain_value p o).form IsValue
  unfolding plain_value
  plain_fits p o = fits_quiet words (q_then words (whole_expr_deep words p o) (λ e low. q_made words (OfExpression e) (refl, refl, refl, low)))

  pub assigned_fits : (p : ℕ) (o : Others) → Fits words (assigned p o).form IsValue
  unfolding assigned
  assigned_fits p o =
      fits_after words (q_takes words sees_call_takes)
      (λ c _. fits_either words c (called_value (p - 1)) (plain_value p o) (called_fits (p - 1)) (plain_fits p o))

  -- ---- effects

  abbrev pub IsEffect : EffectTree → List ℕ → List ℕ → ℕ → Type 0
  IsEffect = Is words (λ e. []) calls_in_effect (λ e. 0) (InEffect Shallow)

  -- ---- locals

  abbrev pub IsFirst : Option ValueTree → List ℕ → List ℕ → ℕ → Type 0
  IsFirst = Is words (λ v. []) calls_if_valued (λ v. 0) (IfValue Shallow)

  abbrev pub IsLocal : LocalTree → List ℕ → List ℕ → ℕ → Type 0
  IsLocal =
      (Is words) (λ (l : LocalTree). l.name ∷ []) (λ (l : LocalTree). calls_in_shape l.shape) (λ (l : LocalTree). elements_of words l.shape)
      (λ (l : LocalTree). InShape Shallow l.shape)

  abbrev pub AreLocals : List LocalTree → List ℕ → List ℕ → ℕ → Type 0
  AreLocals = Is words tokens_of calls_in_locals (elements_of_all words) (InLocals Shallow)

  pub one_more : (l : LocalTree) (ls : List LocalTree) (ds calls : List ℕ) (el : ℕ) (es more : List ℕ) (fl : ℕ)
      → IsLocal l ds calls el
      → AreLocals ls es more fl → AreLocals (l ∷ ls) (ds ++ es) (calls ++ more) (el + fl)
  one_more l ls ds calls el es more fl is are =
      (ap₂ (λ (xs ys : List ℕ). xs ++ ys) is.0 are.0, ap₂ (λ (xs ys : List ℕ). xs ++ ys) is.1 are.1, ap₂ (λ (x y : ℕ). x + y) is.2 are.2, (is.3, are.3))
