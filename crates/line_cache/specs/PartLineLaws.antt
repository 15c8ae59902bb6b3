-- Laws of part lines.
--   lines_are              an outline that has the notes of parts has their lines
use Rattle.std.proofs.Common.{◌≡◌, ℕ, ◌+◌, ◌-◌, ◌*◌, List, get_or, refl, ap, ◌∙◌, arith}
use Rattle.std.specs.List.{range_with_len}
use Rattle.domain_core.specs.Outlines.{Outlined}
use Rattle.line_cache.specs.declared.shape.Shape.{Shape}
use Rattle.line_cache.specs.Lines.{first_line, end_line, line_pairs, notes_of, first_of, end_of, lines_of}
use Rattle.line_cache.specs.LineLaws.{first_pair, end_pair, behind_three}
use Rattle.line_cache.specs.PartLines.{part_lines}

-- an outline that has the notes of parts has their lines
pub lines_are : (shape : Shape) (parts : List (ℕ × ℕ)) (o : Outlined) → o.notes ≡ notes_of shape parts → (n : ℕ)
    → lines_of o n ≡ part_lines shape.line (get_or parts n (0, 0))
lines_are shape parts o noted n =
    let part : ℕ × ℕ = get_or parts n (0, 0) in
    let first : first_of o n ≡ first_line shape.line part = at (3 + 2 * n) (2 * n) refl ∙ first_pair shape.line parts n (2 * n) refl in
    let end : end_of o n ≡ end_line shape.line part = at (4 + 2 * n) (2 * n + 1) (omega arith) ∙ end_pair shape.line parts n (2 * n + 1) refl in
    ap (λ (k : ℕ). range_with_len k (end_of o n - k)) first ∙ ap (λ (k : ℕ). range_with_len (first_line shape.line part) (k - first_line shape.line part)) end
  where
    at : (i k : ℕ) → i ≡ 3 + k → get_or o.notes i 0 ≡ get_or (line_pairs shape.line parts) k 0
    at i k e = ap (λ (notes : List ℕ). get_or notes i 0) noted ∙ behind_three shape.sets shape.ways shape.penalty (line_pairs shape.line parts) i k e
