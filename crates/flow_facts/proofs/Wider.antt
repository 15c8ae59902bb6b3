-- Wider facts are met where narrower ones are.
use Rattle.std.proofs.Common.{◌≤◌, ℕ, List, arith}
use Rattle.domain_core.specs.Outlines.{Shape}
use Rattle.flow_facts.specs.declared.fact.Fact.{Fact}
use Rattle.flow_facts.specs.Facts.{Meets, IsBetween, IsWider, wider_loop, wider_count, wider_total}

more_between : (low high lower higher k : ℕ) → lower ≤ low → high ≤ higher → IsBetween low high k
    → IsBetween lower higher k
more_between low high lower higher k below above is = (omega arith, omega arith)

pub wider_met : (f g : Fact) → IsWider f g → (o : Shape) (trace : List ℕ) → Meets o trace f → Meets o trace g
wider_met f g (wider_loop s low high lower higher below above) o trace met = λ e is. more_between low high lower higher _ below above (met e is)
wider_met f g (wider_count s n low high lower higher below above) o trace met = λ e is. more_between low high lower higher _ below above (met e is)
wider_met f g (wider_total n low high lower higher below above) o trace met = more_between low high lower higher _ below above met
