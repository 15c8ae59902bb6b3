-- What is left to show of `dead_nodes_have_no_total`.
use Rattle.std.proofs.Common.{refl, arith}
use Rattle.flow_facts.proofs.laws.dead_nodes_have_no_total.Goals as goal

pub returns-clause-none : goal.returns-clause-none
returns-clause-none c = λ o trace n. (λ none. (omega arith, omega (arith, none)), λ total. let most = total.1 in omega (arith, most))

pub returns-clause-exact : goal.returns-clause-exact
returns-clause-exact c = λ o trace n k. (λ total. let least = total.0 in let most = total.1 in omega (arith, least, most), λ same. (omega (arith, same), omega (arith, same)))

pub returns-clause-places : goal.returns-clause-places
returns-clause-places c = refl
