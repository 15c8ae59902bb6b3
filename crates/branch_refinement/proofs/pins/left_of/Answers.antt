use Rattle.std.proofs.Common.{◌≡◌, Option, Some, None, refl, sym, subst}
use Rattle.std.specs.Prelude.{IfSome}
use Rattle.domain_core.specs.declared.relation.Rel.{Rel}
use Rattle.domain_core.specs.WordSets.{GivesSize}
use Rattle.strided_rules.specs.Strides.{Stride, IsStride}
use Rattle.strided_rules.specs.Members.{assumed}
use Rattle.strided_rules.specs.Domains.{stride_sets}
use Rattle.strided_rules.specs.StrideLaws.{stride_is_sets}
use Rattle.branch_refinement.proofs.pins.left_of.Goals as goal

assumed_size : (rel : Rel) (x y : Stride) (o : Option Stride) → IsStride x → IsStride y → x.size ≡ y.size
    → o ≡ assumed rel x y → IfSome o (λ w. w.size ≡ x.size)
assumed_size rel x y o of_x of_y same is = go o (subst (λ (a : Option Stride). GivesSize stride_sets a x.size) (sym is) (stride_is_sets.assumed rel x y of_x of_y same).size)
  where
    go : (o : Option Stride) → GivesSize stride_sets o x.size → IfSome o (λ w. w.size ≡ x.size)
    go None gives = tt
    go (Some w) gives = (gives w refl).size

pub returns-clause-sized : goal.returns-clause-sized
returns-clause-sized c =
    assumed_size c.args.rel c.args.own c.args.other c.assume.result c.numbers-own.ensures.stride c.numbers-other.ensures.stride c.requires c.assume.ensures
