-- Relations of two words.
--   operator_of rel     the comparison operator of the relation
--   Related rel s x y   the words x and y of s bits are in the relation: the operator gives 1
use Rattle.std.specs.Prelude.{◌≡◌, ℕ, [], ◌∷◌}
use Rattle.alf_ops.specs.declared.operator.Op.{Op}
use Rattle.alf_ops.specs.declared.operator.Op.TheVariants as operators
use Rattle.alf_ops.specs.Words.{value}
use Rattle.domain_core.specs.declared.relation.Rel.{Rel}
use Rattle.domain_core.specs.declared.relation.Rel.TheVariants.{Eq, Neq, ULt, ULe, UGt, UGe, SLt, SLe, SGt, SGe}

-- the comparison operator of the relation
abbrev pub operator_of : Rel → Op
operator_of Eq = operators.Eq
operator_of Neq = operators.Neq
operator_of ULt = operators.ULt
operator_of ULe = operators.ULe
operator_of UGt = operators.UGt
operator_of UGe = operators.UGe
operator_of SLt = operators.SLt
operator_of SLe = operators.SLe
operator_of SGt = operators.SGt
operator_of SGe = operators.SGe

-- the words x and y of s bits are in the relation
abbrev pub Related : Rel → ℕ → ℕ → ℕ → Type 0
Related rel s x y = value (operator_of rel) (s ∷ []) (x ∷ y ∷ []) ≡ 1
