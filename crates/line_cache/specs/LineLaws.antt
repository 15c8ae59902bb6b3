-- Outlines that have notes suit.
--   length-line_pairs, first_pair, end_pair, no_pair   two numbers for each part
--   behind_three     what stands behind the first three numbers
--   end_low          the number after the last line of a part is at least that of its first, and small
--   notes_suit       an outline with the notes of as many parts as it has nodes, the first of no size, suits
use Rattle.std.proofs.Common.{◌≡◌, ℕ, zero, suc, ◌+◌, ◌-◌, ◌*◌, ◌/◌, ◌^◌, ◌<◌, ◌≤◌, List, [], ◌∷◌, length, get_or, All, refl, sym, ap, ◌∙◌, subst, arith, eq-eqb}
use Rattle.std.specs.Prelude.{◌==◌}
use Rattle.std.specs.List.{range_with_len}
use Rattle.std.proofs.Math.Nat.{mul-le-mul_left, div-mul-le_self}
use Rattle.std.proofs.lemmas.Bool.{eqb-false}
use Rattle.std.proofs.lemmas.Nat.{le-div, div_below}
use Rattle.std.proofs.lemmas.List.Elements.{All-get_or}
use Rattle.lists.specs.TestLaws.{by_test}
use Rattle.domain_core.specs.Outlines.{Outlined, CostsFit}
use Rattle.line_cache.specs.declared.shape.Shape.{Shape}
use Rattle.line_cache.specs.Lines.{IsShape, IsPart, HasNoSize, first_line, end_line, line_pairs, notes_of, first_of, end_of, IsNoted}

length-line_pairs : (line : ℕ) (parts : List (ℕ × ℕ)) → length (line_pairs line parts) ≡ 2 * length parts
length-line_pairs line [] = refl
length-line_pairs line (part ∷ parts) = let rest = length-line_pairs line parts in omega arith

pub first_pair : (line : ℕ) (parts : List (ℕ × ℕ)) (n i : ℕ) → i ≡ 2 * n
    → get_or (line_pairs line parts) i 0 ≡ first_line line (get_or parts n (0, 0))
first_pair line [] n i e = refl
first_pair line (part ∷ parts) zero i e = let z : i ≡ 0 = omega arith in subst (λ (j : ℕ). get_or (line_pairs line (part ∷ parts)) j 0 ≡ first_line line part) (sym z) refl
first_pair line (part ∷ parts) (suc n) zero e = absurd (omega arith)
first_pair line (part ∷ parts) (suc n) (suc zero) e = absurd (omega arith)
first_pair line (part ∷ parts) (suc n) (suc (suc i)) e = first_pair line parts n i (omega arith)

pub end_pair : (line : ℕ) (parts : List (ℕ × ℕ)) (n i : ℕ) → i ≡ 2 * n + 1
    → get_or (line_pairs line parts) i 0 ≡ end_line line (get_or parts n (0, 0))
end_pair line [] n i e = refl
end_pair line (part ∷ parts) zero zero e = absurd (omega arith)
end_pair line (part ∷ parts) zero (suc i) e = let z : i ≡ 0 = omega arith in subst (λ (j : ℕ). get_or (line_pairs line (part ∷ parts)) (suc j) 0 ≡ end_line line part) (sym z) refl
end_pair line (part ∷ parts) (suc n) zero e = absurd (omega arith)
end_pair line (part ∷ parts) (suc n) (suc zero) e = absurd (omega arith)
end_pair line (part ∷ parts) (suc n) (suc (suc i)) e = end_pair line parts n i (omega arith)

-- of a part of no size both numbers are 0
no_pair : (line : ℕ) (parts : List (ℕ × ℕ)) → HasNoSize parts 0
    → (get_or (line_pairs line parts) 0 0 ≡ 0) × (get_or (line_pairs line parts) 1 0 ≡ 0)
no_pair line [] none = (refl, refl)
no_pair line (part ∷ parts) none = rw (eq-eqb part.1 0 none) (refl, refl)

-- what stands behind the first three
pub behind_three : (a b c : ℕ) (rest : List ℕ) (i k : ℕ) → i ≡ 3 + k → get_or (a ∷ b ∷ c ∷ rest) i 0 ≡ get_or rest k 0
behind_three a b c rest zero k e = absurd (omega arith)
behind_three a b c rest (suc zero) k e = absurd (omega arith)
behind_three a b c rest (suc (suc zero)) k e = absurd (omega arith)
behind_three a b c rest (suc (suc (suc i))) k e = let same : i ≡ k = omega arith in ap (λ (j : ℕ). get_or rest j 0) same

-- the number after the last line of a part is at least that of its first, and small
end_low : (line : ℕ) (part : ℕ × ℕ) → 4 ≤ line → IsPart part
    → (first_line line part ≤ end_line line part) × (end_line line part ≤ 2 ^ 21)
end_low line part wide small = by_test (part.1 == 0)
    (λ none. rw none (omega arith, omega arith))
    (λ some. let apart = eqb-false part.1 0 some in rw some (between part.0 part.1 (sized part.1 apart) small.0 small.1))
  where
    sized : (n : ℕ) → (n ≡ 0 → ⊥) → 1 ≤ n
    sized zero apart = absurd (apart refl)
    sized (suc n) apart = omega arith

    between : (a b : ℕ) → 1 ≤ b → a ≤ 4194304 → b ≤ 4194304
        → (a / line ≤ (a + b - 1) / line + 1) × ((a + b - 1) / line + 1 ≤ 2 ^ 21)
    between a b some a_low b_low =
        let rest = div-mul-le_self a line in
        let up : 2 ^ 21 * 4 ≤ 2 ^ 21 * line = mul-le-mul_left (2 ^ 21) wide in
        let low : a / line ≤ (a + b - 1) / line = le-div (a / line) (a + b - 1) line (omega arith) (omega arith) in
        let high : (a + b - 1) / line < 2 ^ 21 = div_below (a + b - 1) line (2 ^ 21) (omega arith) (omega arith) in
        (omega arith, omega arith)

-- an outline with the notes of as many parts as it has nodes, the first of no size, suits
pub notes_suit : (shape : Shape) (parts : List (ℕ × ℕ)) → IsShape shape → All IsPart parts → (o : Outlined)
    → length o.nodes ≡ length parts → CostsFit o → HasNoSize parts 0 → o.notes ≡ notes_of shape parts → IsNoted o
notes_suit shape parts shaped small o len costs none noted = record {
  two_each = ap length noted ∙ (let e = length-line_pairs shape.line parts in omega arith);
  sets = subst (λ (notes : List ℕ). (1 ≤ get_or notes 0 0) × (get_or notes 0 0 ≤ 1024)) (sym noted) shaped.sets;
  ways = subst (λ (notes : List ℕ). (1 ≤ get_or notes 1 0) × (get_or notes 1 0 ≤ 16)) (sym noted) shaped.ways;
  penalty = subst (λ (notes : List ℕ). get_or notes 2 0 < 2 ^ 32) (sym noted) shaped.penalty;
  within = λ n low.
      let there : n < length parts = omega arith in
      let first : first_of o n ≡ first_line shape.line (get_or parts n (0, 0)) = at (3 + 2 * n) (2 * n) refl ∙ first_pair shape.line parts n (2 * n) refl in
      let end : end_of o n ≡ end_line shape.line (get_or parts n (0, 0)) = at (4 + 2 * n) (2 * n + 1) (omega arith) ∙ end_pair shape.line parts n (2 * n + 1) refl in
      let known = end_low shape.line (get_or parts n (0, 0)) shaped.line.0 (All-get_or IsPart parts n (0, 0) there small) in
      (omega (arith, known.0), omega (arith, known.1));
  none_first =
      let first : first_of o 0 ≡ 0 = at 3 0 refl ∙ (no_pair shape.line parts none).0 in
      let end : end_of o 0 ≡ 0 = at 4 1 refl ∙ (no_pair shape.line parts none).1 in
      let gap : end_of o 0 - first_of o 0 ≡ 0 = omega arith in
      ap (λ (k : ℕ). range_with_len (first_of o 0) k) gap;
  costs = costs;
}
  where
    at : (i k : ℕ) → i ≡ 3 + k → get_or o.notes i 0 ≡ get_or (line_pairs shape.line parts) k 0
    at i k e = ap (λ (notes : List ℕ). get_or notes i 0) noted ∙ behind_three shape.sets shape.ways shape.penalty (line_pairs shape.line parts) i k e
