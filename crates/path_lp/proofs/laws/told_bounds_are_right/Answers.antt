-- Each path bound that the rule tells is right.
use Rattle.path_lp.proofs.RightLaws.{right_at}
use Rattle.path_lp.proofs.laws.told_bounds_are_right.Goals as goal

pub returns : goal.returns
returns c = λ o facts n ok limited.
    right_at c.rule_answers.ensures.answers c.rule_answers.ensures.point c.rule_answers.ensures.most o facts n
    (c.outlines_open.ensures o facts ok limited) (λ v points fault k past run fits met. (c.verdicts_bound_each_run.ensures o ok facts fault k past run fits met v v points).0)
