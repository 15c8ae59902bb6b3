-- Laws of covered.
use Rattle.std.proofs.Common.{◌≡◌, ℕ, List, [], ◌∷◌, length, refl, ◌∙◌}
use Rattle.line_cache.specs.Sure.{accessed_rows, rows_after}
use Rattle.line_cache.specs.CoveredLaws.{length-accessed_rows}

-- ---- rows

pub length-rows_after : (sets ways : ℕ) (rows : List (List (ℕ × ℕ))) (lines : List ℕ)
    → length (rows_after sets ways rows lines) ≡ length rows
length-rows_after sets ways rows [] = refl
length-rows_after sets ways rows (line ∷ lines) = length-rows_after sets ways (accessed_rows sets ways rows line) lines ∙ length-accessed_rows sets ways line rows
