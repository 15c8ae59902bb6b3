-- What a unit keeps that some text spells.
--   spelled_is_counted   it is within the limits, its tokens ascend and are identifiers, and no expression is deep
use Rattle.std.proofs.Common.{◌≡◌, ◌+◌, ℕ, suc, List, [], ◌∷◌, All, sym, subst, arith, length}
use Rattle.std.proofs.lemmas.List.Elements.{All-head, All-tail}
use Rattle.grammar.specs.Form.{InARow}
use Rattle.c_tokens.specs.Tokens.{tokens_of}
use Rattle.c_unit.specs.Tree.{ExternalTree}
use Rattle.c_unit.specs.Units.{Word, UnitTree}
use Rattle.c_rules.specs.Units.{definitions}
use Rattle.c_grammar.specs.Tokens.{Place}
use Rattle.c_grammar.specs.Units.{unit, external, is_left}
use Rattle.c_text.specs.Language.{start, words_of, IsSpelled}
use Rattle.lowering_layout.specs.Lists.{EachOf}
use Rattle.lowering_layout.specs.Texts.{IsIdentifier}
use Rattle.c_rules.specs.SpelledUnits.{all_tokens_of, all_frames_of, all_elements_of, Ascends, IsCounted}
use Rattle.c_limits.specs.Taking.{Good}
use Rattle.c_limits.specs.Measuring.{Tokens}
use Rattle.c_limits.proofs.ExternalLaws.{AreExternals, externals_filed}
use Rattle.c_limits.proofs.StartLaws.{IsOfKind, good_start}

ascends : (words : List Word) (n m : ℕ) (ts : List ℕ) → Tokens words n m ts → Ascends IsIdentifier words n m ts
ascends words n m [] h = h
ascends words n m (t ∷ ts) h = (h.0, h.1, ascends words (suc t) m ts h.2)

each_of : {A : Type 0} (P : A → Type 0) (xs : List A) → All P xs → EachOf P xs
each_of P [] h = tt
each_of P (x ∷ xs) h = (All-head P x xs h, each_of P xs (All-tail P x xs h))

row_of_unit : (at : Place) (xs : List ExternalTree) (rest : Place) → unit.form.Spells at xs rest
    → InARow is_left external.form at xs rest
unfolding unit
row_of_unit at xs rest s = s.0

counted : (words : List Word) (bytes : List ℕ) (xs : List ExternalTree) (rest : Place) → words_of bytes ≡ words
    → All IsOfKind (tokens_of bytes) → InARow is_left external.form (start bytes) xs rest → AreExternals words 0 (start bytes) rest xs
counted words bytes xs rest same of s =
    externals_filed words 0 (start bytes) xs rest s
    (subst (λ (ws : List Word). Good ws 0 (start bytes).ahead) same
    (good_start bytes (tokens_of bytes) (each_of IsOfKind (tokens_of bytes) of)))

pub spelled_is_counted : ((bytes : List ℕ) → All IsOfKind (tokens_of bytes)) → (whole : UnitTree) → IsSpelled whole
    → IsCounted IsIdentifier whole
spelled_is_counted of whole spelled =
    let trees = spelled.1.trees in
    let are = counted whole.words spelled.0 whole.externals trees.0 (sym spelled.1.words) (of spelled.0)
    (row_of_unit (start spelled.0) whole.externals trees.0 trees.1) in
    let f : 256 ≡ all_frames_of whole.words [] whole.externals + trees.0.room.frames = are.frames in
    let e : 8192 ≡ all_elements_of whole.words whole.externals + trees.0.room.elements = are.elements in
    let g : 256 ≡ length (definitions whole.externals) + trees.0.room.functions = are.functions in
    record {
      frames = omega (arith, f);
      elements = omega (arith, e);
      functions = omega (arith, g);
      last = are.m;
      tokens = ascends whole.words 0 are.m (all_tokens_of whole.externals) are.tokens;
      stand = are.stand;
    }
