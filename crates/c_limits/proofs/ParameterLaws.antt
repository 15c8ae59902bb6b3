-- The tokens of parameters.
--   Marks p D          p counts nothing, and the tokens that D tells ascend and are identifiers
--   parameters_mark    so it is with the names of parameters
use Rattle.std.proofs.Common.{◌≡◌, ◌≤◌, ℕ, suc, Bool, true, false, List, [], ◌∷◌, Option, Some, None, refl, sym, subst, ◌∙◌, arith}
use Rattle.std.specs.Prelude.{codes}
use Rattle.grammar.specs.Form.{Form, bound, InARow, AtMostOne, at_most_one}
use Rattle.grammar.specs.Rule.{weaken}
use Rattle.c_unit.specs.declared.types.Integer.{Integer}
use Rattle.c_unit.specs.declared.types.Outcome.{Outcome}
use Rattle.c_unit.specs.declared.types.Outcome.TheVariants as outcomes
use Rattle.c_unit.specs.declared.external.Parameter.{Parameter}
use Rattle.c_unit.specs.Units.{Word}
use Rattle.c_grammar.specs.declared.others.Others.{Others}
use Rattle.c_grammar.specs.declared.others.Others.TheVariants as others
use Rattle.c_grammar.specs.declared.specifiers.Setting.TheVariants as settings
use Rattle.c_grammar.specs.Tokens.{Fault, Seen, Room, Place, Rule, name, either}
use Rattle.c_grammar.specs.Types.{at_name, number_of_name, after_pointer, pointer_parameter, after_plain, plain_parameter, parameter_tail, further_parameter, parameters_from, void_parameters, parameters_after, some_parameters, no_parameters, parameters, at_list_comma}
use Rattle.c_rules.specs.SpelledUnits.{token_if, tokens_of_parameters}
use Rattle.c_limits.specs.Taking.{Good, Later}
use Rattle.c_limits.proofs.TakingLaws.{later_on, same_place, Takes}
use Rattle.c_limits.proofs.TypesTakeLaws.{star_takes, sees_takes, bracketed_type_takes, parameter_end_takes, comma_mark_takes, next_number_takes, integer_type_takes, right_paren_takes, type_of_takes}
use Rattle.c_limits.specs.Measuring.{Tokens, Quietly}
use Rattle.c_limits.proofs.MeasuringLaws.{tokens_joined, q_takes, q_made, q_then}
use Rattle.c_limits.proofs.SpendingLaws.{name_seen}

module _ (words : List Word) where
  pub record Marked (n : ℕ) (at rest : Place) (ds : List ℕ) : Type 0 where
    pub m : ℕ
    pub tokens : Tokens words n m ds
    pub good : Good words m rest.ahead
    pub room : rest.room ≡ at.room

  pub record Marks {A : Type 0} (p : Form Seen Room Fault A) (D : A → List ℕ) : Type 0 where
    pub each : (at : Place) (x : A) (rest : Place) → p.Spells at x rest → (n : ℕ) → Good words n at.ahead
        → Marked n at rest (D x)

  quiet_marked : (n : ℕ) (at rest : Place) → Later at rest → Good words n at.ahead → Marked n at rest []
  quiet_marked n at rest later good = record { m = n; tokens = (let same : n ≤ n = omega arith in same); good = later.good words n good; room = later.room }

  m_quiet : {A : Type 0} {p : Form Seen Room Fault A} {D : A → List ℕ} → Quietly words p (λ x. D x ≡ []) → Marks p D
  m_quiet {D = D} h = record {
    each = λ at x rest s n good. let a = h.each at x rest s in subst (λ (ds : List ℕ). Marked n at rest ds) (sym a.1) (quiet_marked n at rest a.0 good);
  }

  m_after : {A B : Type 0} {p : Form Seen Room Fault A} {q : A → Form Seen Room Fault B} {D : B → List ℕ} → Takes p
      → ((x : A) → Marks (q x) D) → Marks (bound p q) D
  m_after h k = record {
    each = λ at y rest s n good.
        let a = h.each at s.0 s.1 s.2 in
        let t = (k s.0).each s.1 y rest s.3 n (a.good words n good) in
        record { m = t.m; tokens = t.tokens; good = t.good; room = t.room ∙ a.room };
  }

  m_last : {A B : Type 0} {p : Form Seen Room Fault A} {q : A → Form Seen Room Fault B} {C : A → List ℕ} {D : B → List ℕ} → Marks p C
      → ((x : A) → Quietly words (q x) (λ y. D y ≡ C x)) → Marks (bound p q) D
  m_last h k = record {
    each = λ at y rest s n good.
        let t = h.each at s.0 s.1 s.2 n good in
        let b = (k s.0).each s.1 y rest s.3 in
        record {
          m = t.m;
          tokens = subst (λ (ds : List ℕ). Tokens words n t.m ds) (sym b.1) t.tokens;
          good = b.0.good words t.m t.good;
          room = b.0.room ∙ t.room;
        };
  }

  m_either : {some : Bool} {A : Type 0} {D : A → List ℕ} (b : Bool) (p q : Rule some A) → Marks p.form D
      → Marks q.form D → Marks (either b p q).form D
  m_either true p q h i = h
  m_either false p q h i = i

  name_marks : (o : Others) → Marks (name o).form (λ (t : Seen). t.number ∷ [])
  name_marks o = record {
    each = λ at x rest s n good.
        let seen = name_seen words o n at x rest s good in
        record {
          m = suc x.number;
          tokens = (seen.low, seen.is, (let same : suc x.number ≤ suc x.number = omega arith in same));
          good = seen.good;
          room = seen.room;
        };
  }

  name_if : (o : Others) → Marks (at_most_one at_name (name o).form) (λ (t : Option Seen). token_if (number_of_name t))
  name_if o = record { each = maybe_each }
    where
      maybe_each : (at : Place) (x : Option Seen) (rest : Place) → AtMostOne at_name (name o).form at x rest → (n : ℕ)
          → Good words n at.ahead → Marked n at rest (token_if (number_of_name x))
      maybe_each at None rest s n good = quiet_marked n at rest (same_place at rest s.1) good
      maybe_each at (Some t) rest s n good = (name_marks o).each at t rest s.1 n good

  abbrev pub Named : Parameter → List ℕ
  Named p = token_if p.name

  pointer_marks : (n : ℕ) (i : Integer) → Marks (pointer_parameter n i).form Named
  unfolding pointer_parameter
  pointer_marks n i =
      m_after star_takes (λ _. m_last (name_if others.Nothing)
      (λ t. q_then words (q_takes words (parameter_end_takes (after_pointer t))) (λ _ _. q_made words _ refl)))

  plain_marks : (n : ℕ) (i : Integer) → Marks (plain_parameter n i).form Named
  unfolding plain_parameter
  plain_marks n i =
      m_last (name_if others.Nothing) (λ t. q_then words
      (q_takes words (sees_takes (codes "["))) (λ b _. q_then words (q_takes words (bracketed_type_takes b i))
      (λ k _. q_then words (q_takes words (parameter_end_takes (after_plain b t))) (λ _ _. q_made words _ refl))))

  tail_marks : (n : ℕ) (i : Integer) → Marks (parameter_tail n i).form Named
  unfolding parameter_tail
  tail_marks n i =
      m_after (sees_takes (codes "*")) (λ p. m_last
      (m_either p (weaken (pointer_parameter n i)) (plain_parameter n i) (pointer_marks n i) (plain_marks n i))
      (λ r. q_made words r refl))

  further_marks : Marks further_parameter.form Named
  unfolding further_parameter
  further_marks =
      m_after comma_mark_takes (λ _. m_after next_number_takes
      (λ n. m_after (integer_type_takes settings.Parameter) (λ i. m_last (tail_marks n i) (λ p. q_made words p refl))))

  row_marks : (at : Place) (ps : List Parameter) (rest : Place) → InARow at_list_comma further_parameter.form at ps rest
      → (n : ℕ)
      → Good words n at.ahead → Marked n at rest (tokens_of_parameters ps)
  row_marks at [] rest s n good = quiet_marked n at rest (same_place at rest s) good
  row_marks at (p ∷ ps) rest s n good =
      let t = further_marks.each at p s.1.0 s.1.1 n good in
      let u = row_marks s.1.0 ps rest s.1.2 t.m t.good in
      record { m = u.m; tokens = tokens_joined words n t.m u.m (Named p) (tokens_of_parameters ps) t.tokens u.tokens; good = u.good; room = u.room ∙ t.room }

  from_marks : (n : ℕ) (i : Integer) → Marks (parameters_from n i).form tokens_of_parameters
  unfolding parameters_from
  from_marks k i = record {
    each = λ at y rest s n good.
        let (first, placed, first_spelled, after_first) = s in
        let (list, listed, list_spelled, after_list) = after_first in
        let (mark, closed, mark_spelled, end) = after_list in
        let t = (tail_marks k i).each at first placed first_spelled n good in
        let u = row_marks placed list listed list_spelled.0 t.m t.good in
        let paren = (right_paren_takes others.Nothing).each listed mark closed mark_spelled in
        let last = same_place closed rest end.1 in
        let later = later_on listed closed rest paren last in
        record {
          m = u.m;
          tokens =
              subst (λ (ps : List Parameter). Tokens words n u.m (tokens_of_parameters ps)) (sym end.0)
              (tokens_joined words n t.m u.m (Named first) (tokens_of_parameters list) t.tokens u.tokens);
          good = later.good words u.m u.good;
          room = later.room ∙ u.room ∙ t.room;
        };
  }

  void_marks : Marks void_parameters.form tokens_of_parameters
  unfolding void_parameters
  void_marks = m_quiet (q_then words (q_takes words (right_paren_takes others.Parameter)) (λ _ _. q_made words [] refl))

  after_marks : (n : ℕ) (o : Outcome) → Marks (parameters_after n o).form tokens_of_parameters
  after_marks n outcomes.Nothing = void_marks
  after_marks n (outcomes.Integer i) = from_marks n i

  some_marks : Marks some_parameters.form tokens_of_parameters
  unfolding some_parameters
  some_marks = m_after next_number_takes (λ n. m_after (type_of_takes settings.FirstParameter) (λ o. m_last (after_marks n o) (λ ps. q_made words ps refl)))

  none_marks : Marks no_parameters.form tokens_of_parameters
  unfolding no_parameters
  none_marks = m_quiet (q_then words (q_takes words (right_paren_takes others.Nothing)) (λ _ _. q_made words [] refl))

  pub parameters_mark : Marks parameters.form tokens_of_parameters
  unfolding parameters
  parameters_mark =
      m_after (sees_takes (codes ")")) (λ none. m_last (m_either none no_parameters some_parameters none_marks some_marks)
      (λ ps. q_made words ps refl))
