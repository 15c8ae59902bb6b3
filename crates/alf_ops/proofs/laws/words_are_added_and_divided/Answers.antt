use Rattle.alf_ops.proofs.Operators.{adds, subtracts, negates, divides_words, multiplies}
use Rattle.alf_ops.proofs.laws.words_are_added_and_divided.Goals as goal

pub returns-clause-sum : goal.returns-clause-sum
returns-clause-sum c = adds

pub returns-clause-difference : goal.returns-clause-difference
returns-clause-difference c = subtracts

pub returns-clause-negative : goal.returns-clause-negative
returns-clause-negative c = negates

pub returns-clause-product : goal.returns-clause-product
returns-clause-product c = multiplies

pub returns-clause-quotient : goal.returns-clause-quotient
returns-clause-quotient c = divides_words
