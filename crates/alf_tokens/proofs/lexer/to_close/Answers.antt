use Rattle.std.proofs.Common.{◌≡◌, ◌-◌, sym, arith, take, drop, length}
use Rattle.std.proofs.lemmas.Grind.{common_steps}
use Rattle.alf_tokens.proofs.Closing.{close_goes_on, close_found, close_none}
use Rattle.alf_tokens.proofs.lexer.to_close.Goals as goal

pub returns-then-closes-clause-place : goal.returns-then-closes-clause-place
returns-then-closes-clause-place c =
    let e : take (length c.args.bytes.now - c.loop-i.i) (drop c.loop-i.i c.args.bytes.now) ≡ drop c.loop-i.i c.args.bytes.now = grind (arith, common_steps) in
    close_found c.loop-i.i c.args.bytes.now c.loop-i-test.true (sym (rw e at c.if-closes.ensures.value)) c.loop-i.invariant

pub loop-i-preserved : goal.loop-i-preserved
loop-i-preserved c =
    let e : take (length c.args.bytes.now - c.loop-i.i) (drop c.loop-i.i c.args.bytes.now) ≡ drop c.loop-i.i c.args.bytes.now = grind (arith, common_steps) in
    close_goes_on c.loop-i.i c.args.bytes.now c.loop-i-test.true (sym (rw e at c.if-closes.ensures.value)) c.loop-i.invariant

pub returns-clause-place : goal.returns-clause-place
returns-clause-place c = close_none c.loop-i.i c.args.bytes.now c.loop-i-test.false c.loop-i.invariant
