use Rattle.interval_congruence.proofs.Cuts.{below_cut, at_most_cut}
use Rattle.interval_congruence.proofs.value.Strided.assumed.Goals as goal

pub returns-in-ULt : goal.returns-in-ULt
returns-in-ULt c = below_cut c.args.rel c.args.self c.args.other c.of-zero.result c.of-one.result c.unsigned_greatest.result c.sub.result c.unsigned_between.result
    c.in-ULt.is c.of-zero.ensures c.of-one.ensures c.unsigned_greatest.ensures.value c.sub.ensures c.unsigned_between.ensures

pub returns-in-ULe : goal.returns-in-ULe
returns-in-ULe c = at_most_cut c.args.rel c.args.self c.args.other c.of-zero.result c.unsigned_greatest-in-ULe.result c.unsigned_between-in-ULe.result
    c.in-ULe.is c.of-zero.ensures c.unsigned_greatest-in-ULe.ensures.value c.unsigned_between-in-ULe.ensures
