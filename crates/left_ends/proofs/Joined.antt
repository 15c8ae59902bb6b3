-- Memories of ends joined.
--   alike_roots    two memories in which the root alone runs may be joined
--   joined_root    and the root alone runs in their join
--   joined_first, joined_second   which stands for what each stands for
use Rattle.std.specs.Prelude.{◌↔◌}
use Rattle.std.proofs.Common.{◌≡◌, ℕ, Bool, true, false, List, [], Option, Some, refl, sym, ap, subst, ◌∙◌}
use Rattle.std.proofs.lemmas.Bool.{false≢true}
use Rattle.alf_check.specs.CheckedPrograms.{CheckedParts, seen}
use Rattle.memory_rules.specs.Memories.{Mem}
use Rattle.memory_rules.specs.AbstractSets.{abstract_sets}
use Rattle.memory_model.specs.KeptMemories.{MemoryParts, memory_in}
use Rattle.memory_model.specs.SeenOrders.{AreAlike, joined}
use Rattle.memory_model.specs.SeenOrderLaws.{joined_seen, joined_is, parts_are_order}
use Rattle.transfer_rules.specs.SteppingLaws.{same_along}
use Rattle.left_ends.specs.Seen.{IsOfRoot, StandsForAll}

same_flag : (a b : Bool) (P : Type 0) → (a ≡ true) ↔ P → (b ≡ true) ↔ P → a ≡ b
same_flag true true P first second = refl
same_flag false false P first second = refl
same_flag true false P first second = absurd (false≢true (second.1 (first.0 refl)))
same_flag false true P first second = absurd (false≢true (first.1 (second.0 refl)))

module _ (checked : CheckedParts) (a b : MemoryParts) (first : IsOfRoot checked a) (second : IsOfRoot checked b) where
  -- they may be joined
  pub alike_roots : AreAlike a b
  alike_roots = record {
    checked = first.own.checked ∙ sym second.own.checked;
    runs = λ f. same_flag ((memory_in a).runs f) ((memory_in b).runs f) _ (first.along (Some f)) (second.along (Some f));
    first = first.own.is;
    second = second.own.is;
  }

  -- the root alone runs in the join
  pub joined_root : IsOfRoot checked (joined a b)
  joined_root = record {
    own = record { checked = first.own.checked; is = joined_is a b alike_roots };
    along = same_along (seen checked) [] (memory_in a) (memory_in (joined a b)) (ap (λ (m : Mem abstract_sets). m.runs) (joined_seen a b alike_roots)) first.along;
  }

-- it stands for what each stands for
pub joined_first : (a b : MemoryParts) → AreAlike a b → StandsForAll (Some a) (Some (joined a b))
joined_first a b alike rows later stands = (stands.0, parts_are_order.left a b alike rows later stands.0 stands.1)

pub joined_second : (a b : MemoryParts) → AreAlike a b → StandsForAll (Some b) (Some (joined a b))
joined_second a b alike rows later stands = (stands.0, parts_are_order.right a b alike rows later stands.0 stands.1)
