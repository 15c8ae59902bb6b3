-- What follows from the laws of a domain.
--   joined_left, joined_right   a join has the words of both sides
--   assumed_none   where nothing is kept, no word is in the relation
--   only_none      where nothing is kept, the word is not in the set
--   applied_none   where there is no value, each choice of words divides by 0
use Rattle.std.proofs.Common.{◌≡◌, ℕ, List, Option, Some, None, IsSome, sym, ◌∙◌}
use Rattle.alf_ops.specs.declared.operator.Op.{Op}
use Rattle.alf_ops.specs.Table.{result_size, operand_sizes}
use Rattle.alf_ops.specs.Words.{DividesByZero}
use Rattle.domain_core.specs.declared.relation.Rel.{Rel}
use Rattle.domain_core.specs.Orders.{Order, IsOrder}
use Rattle.domain_core.specs.Relations.{Related}
use Rattle.domain_core.specs.WordSets.{WordSets, IsWordSets, HaveSizes, HaveWords, AreKept, Gives}

module _ {D : Type 0} (order : Order D) (ordered : IsOrder D order) (sets : WordSets D) (laws : IsWordSets D order sets) where
  -- a join has the words of both sides
  pub joined_left : (a b : D) (x : ℕ) → sets.kept a → sets.kept b → sets.size_of a ≡ sets.size_of b → sets.covers a x
      → sets.covers (order.joined a b) x
  joined_left a b x of_a of_b same there = laws.above a (order.joined a b) x (ordered.left a b (laws.alike a b of_a of_b same)) there

  pub joined_right : (a b : D) (x : ℕ) → sets.kept a → sets.kept b → sets.size_of a ≡ sets.size_of b → sets.covers b x
      → sets.covers (order.joined a b) x
  joined_right a b x of_a of_b same there = laws.above b (order.joined a b) x (ordered.right a b (laws.alike a b of_a of_b same)) there

  -- an answer that gives a word is not None
  gives_some : (answer : Option D) (x : ℕ) → Gives sets answer x → answer ≡ None → ⊥
  gives_some answer x gives none = let bad : Some gives.0 ≡ None = sym gives.1 ∙ none in cc

  -- where nothing is kept, no word is in the relation
  pub assumed_none : (rel : Rel) (a b : D) (x y : ℕ) → sets.kept a → sets.kept b → sets.size_of a ≡ sets.size_of b
      → sets.assumed rel a b ≡ None
      → sets.covers a x → sets.covers b y → Related rel (sets.size_of a) x y → ⊥
  assumed_none rel a b x y of_a of_b same none in_a in_b related = gives_some (sets.assumed rel a b) x ((laws.assumed rel a b of_a of_b same).covering x y in_a in_b related) none

  -- where nothing is kept, the word is not in the set
  pub only_none : (d : D) (x : ℕ) → sets.kept d → sets.only d x ≡ None → sets.covers d x → ⊥
  only_none d x of_d none there = gives_some (sets.only d x) x ((laws.only d x of_d).covering there) none

  -- where there is no value, no choice of words does not divide by 0
  pub applied_none : (op : Op) (sizes : List ℕ) (args : List D) (xs : List ℕ) → IsSome (result_size op sizes)
      → HaveSizes sets (operand_sizes op sizes) args → AreKept sets args
      → (sets.applied op sizes args).value ≡ None → HaveWords sets args xs → (DividesByZero op xs → ⊥) → ⊥
  applied_none op sizes args xs typed sized of_args none words divides =
      gives_some (sets.applied op sizes args).value _ ((laws.applied op sizes args typed sized of_args).covering xs words divides) none
