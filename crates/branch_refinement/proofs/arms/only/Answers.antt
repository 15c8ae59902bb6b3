use Rattle.std.proofs.Common.{◌≡◌, ℕ, Option, refl, sym, subst}
use Rattle.std.specs.Prelude.{IfSome}
use Rattle.lists.specs.TestLaws.{by_test}
use Rattle.strided_rules.specs.Strides.{Stride}
use Rattle.strided_rules.specs.Members.{has, only}
use Rattle.branch_refinement.proofs.arms.only.Goals as goal

only_size : (x : Stride) (t : ℕ) (o : Option Stride) → o ≡ only x t → IfSome o (λ w. w.size ≡ x.size)
only_size x t o is = subst (λ (a : Option Stride). IfSome a (λ w. w.size ≡ x.size)) (sym is) (by_test (has x t) (λ e. rw e refl) (λ e. rw e tt))

pub returns-clause-sized : goal.returns-clause-sized
returns-clause-sized c = only_size c.args.words c.args.bits c.only.result c.only.ensures
