use Rattle.std.proofs.Common.{arith, refl}
use Rattle.std.proofs.lemmas.Result.{err_from_is_err_and}
use Rattle.grammar.specs.RowLaws.{count_starts, count_goes_on, count_fails, count_ends}
use Rattle.alf_reader.specs.Grammar.{further}
use Rattle.alf_reader.specs.Reading.{position, fault_of}
use Rattle.alf_reader.proofs.reader.Reader.many_further.Goals as goal

pub loop-init : goal.loop-init
loop-init c = (
  rw c.new-sizes.ensures.items (count_starts (further c.args.op) c.args.count (position c.args.self.now)),
  record { counted = rw c.new-sizes.ensures.items refl; within = omega arith },
)

pub returns-in_err-further-clause-reads : goal.returns-in_err-further-clause-reads
returns-in_err-further-clause-reads c =
    let p = err_from_is_err_and c.from_residual.result c.from_residual.ensures.1 in
    rw (p.1, p.2) (count_fails (further c.args.op) c.args.count (fault_of c.in_err-further.field-0.0) c.loop.counter c.loop.sizes.items (position c.loop.self) (position c.args.self.now) c.loop-test.true c.in_err-further.ensures c.loop.invariant.0)

pub loop-preserved : goal.loop-preserved
loop-preserved c = (
  rw c.in_ok-push.ensures.items (count_goes_on (further c.args.op) c.args.count c.loop.counter c.loop.sizes.items (position c.loop.self) (position c.args.self.now) c.in_ok-further.field-0 (position c.further.new.self) c.loop-test.true c.in_ok-further.ensures c.loop.invariant.0),
  record { counted = omega (arith, c.in_ok-push.ensures.len, c.loop.invariant.1.counted); within = omega (arith, c.loop-test.true) },
)

pub returns-clause-reads : goal.returns-clause-reads
returns-clause-reads c = count_ends (further c.args.op) c.args.count c.loop.counter c.loop.sizes.items (position c.loop.self) (position c.args.self.now) c.loop-test.false c.loop.invariant.0

pub returns-clause-counted : goal.returns-clause-counted
returns-clause-counted c = omega (arith, c.loop.invariant.1.counted, c.loop.invariant.1.within, c.loop-test.false)
