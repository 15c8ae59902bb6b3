use Rattle.std.proofs.Common.{◌*◌, ◌+◌, ◌^◌, ◌<◌, ◌≤◌, arith}
use Rattle.alf_ops.specs.WordByteLaws.{wider, within_word}
use Rattle.alf_ops.proofs.loads.+read.Goals as goal

pub returns-in-None-clause-small : goal.returns-in-None-clause-small
returns-in-None-clause-small t c =
    let wide : c.read-rest.result.word * 256 + 0 < 2 ^ (8 * c.args.count) = wider c.read-rest.result.word c.args.count 0 (omega arith) c.read-rest.ensures.small (omega arith) in
    omega arith

pub returns-after-points-clause-small : goal.returns-after-points-clause-small
returns-after-points-clause-small t c = wider c.read-rest.result.word c.args.count c.byte_in-low.result (omega arith) c.read-rest.ensures.small c.byte_in-low.ensures.small

pub overflow_mul-result : goal.overflow_mul-result
overflow_mul-result t c =
    let wide : c.read-rest.result.word * 256 + 0 < 2 ^ (8 * c.args.count) = wider c.read-rest.result.word c.args.count 0 (omega arith) c.read-rest.ensures.small (omega arith) in
    let small : 2 ^ (8 * c.args.count) ≤ 2 ^ 64 = within_word c.args.count c.requires.few in
    omega arith

pub overflow_mul-result-in-Some : goal.overflow_mul-result-in-Some
overflow_mul-result-in-Some t c =
    let wide : c.read-rest.result.word * 256 + 0 < 2 ^ (8 * c.args.count) = wider c.read-rest.result.word c.args.count 0 (omega arith) c.read-rest.ensures.small (omega arith) in
    let small : 2 ^ (8 * c.args.count) ≤ 2 ^ 64 = within_word c.args.count c.requires.few in
    omega arith

pub overflow_add-result : goal.overflow_add-result
overflow_add-result t c =
    let wide : c.read-rest.result.word * 256 + c.byte_in-low.result < 2 ^ (8 * c.args.count) =
    wider c.read-rest.result.word c.args.count c.byte_in-low.result (omega arith) c.read-rest.ensures.small c.byte_in-low.ensures.small in
    let small : 2 ^ (8 * c.args.count) ≤ 2 ^ 64 = within_word c.args.count c.requires.few in
    omega arith
