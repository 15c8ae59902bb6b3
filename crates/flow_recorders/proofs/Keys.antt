-- The spans of a run that begins.
--   begun_spans   those of the numbers that were counted
--   begun_by      those of keys that were read
use Rattle.std.proofs.Common.{◌≡◌, ℕ, List, Option, Bool, true, false, cond, map, length, get_or, refl, sym, ap, ◌∙◌, arith}
use Rattle.std.proofs.Math.ListN.{get_or-map}
use Rattle.std.proofs.lemmas.List.{length-map}
use Rattle.recorder_rules.specs.Generated.{generated}
use Rattle.recorder_rules.specs.GeneratedLaws.{length-generated, at-generated, generated_is}
use Rattle.recorder_rules.specs.TallyRules.{key_at, is_at}
use Rattle.flow_recorders.specs.SpanLists.{only}

-- those of the numbers that were counted
pub begun_spans : (counts : List ℕ) (n : ℕ) (keys : List (Option ℕ)) → n ≡ length keys
    → counts ≡ generated n (λ i. cond (is_at (key_at keys i) 0) 1 0)
    → map only counts ≡ generated (length keys) (λ i. cond (is_at (key_at keys i) 0) (1, 1) (0, 0))
begun_spans counts n keys all is =
    generated_is (length keys) (λ i. cond (is_at (key_at keys i) 0) (1, 1) (0, 0)) (map only counts) (0, 0) (length-map counts only ∙ ap (λ (xs : List ℕ). length xs) is ∙ length-generated n (λ i. cond (is_at (key_at keys i) 0) 1 0) ∙ all) (λ i low.
    get_or-map only counts i 0 ∙ ap (λ (xs : List ℕ). only (get_or xs i 0)) is ∙ ap only (at-generated n (λ i. cond (is_at (key_at keys i) 0) 1 0) i 0 (omega arith)) ∙ either (is_at (key_at keys i) 0))
  where
    either : (b : Bool) → only (cond b 1 0) ≡ cond b (1, 1) (0, 0)
    either true = refl
    either false = refl

-- those of keys that were read
pub begun_by : (read keys : List (Option ℕ)) (spans : List (ℕ × ℕ)) (scopes nodes : List (Option ℕ))
    → length scopes ≡ length nodes → spans ≡ generated (length read) (λ i. cond (is_at (key_at read i) 0) (1, 1) (0, 0))
    → read ≡ keys → keys ≡ nodes → spans ≡ generated (length scopes) (λ i. cond (is_at (key_at nodes i) 0) (1, 1) (0, 0))
begun_by read keys spans scopes nodes same is seen given =
    is
    ∙ ap (λ (xs : List (Option ℕ)). generated {A = ℕ × ℕ} (length xs) (λ i. cond (is_at (key_at xs i) 0) (1, 1) (0, 0))) (seen ∙ given)
    ∙ ap (λ (n : ℕ). generated {A = ℕ × ℕ} n (λ i. cond (is_at (key_at nodes i) 0) (1, 1) (0, 0))) (sym same)
