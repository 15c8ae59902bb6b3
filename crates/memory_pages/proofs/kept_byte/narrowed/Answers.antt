-- What is left to show of `narrowed`: the parts are those of the words, and fit.
use Rattle.std.proofs.Common.{ap, sym, subst, arith, Bool, Some}
use Rattle.std.proofs.lemmas.Int.{ints}
use Rattle.strided_rules.specs.Strides.{Stride, IsStride}
use Rattle.memory_pages.specs.declared.byte.Byte.{Byte}
use Rattle.memory_pages.proofs.EightBits.{words_by, are_few}
use Rattle.memory_pages.proofs.kept_byte.narrowed.Goals as goal

abbrev byte_with : Bool → Bool → Stride → Byte
byte_with u p words = record { value = Some words; u = u; p = p }

pub overflow_cast-result-3 : goal.overflow_cast-result-3
overflow_cast-result-3 c =
    let few = are_few c.args.words c.requires c.numbers.ensures.stride in
    search (arith, ints, few.rising, few.thin, c.step.ensures)

pub returns-clause-byte : goal.returns-clause-byte
returns-clause-byte c =
    let few = are_few c.args.words c.requires c.numbers.ensures.stride in
    ap (byte_with c.args.u c.args.p) (words_by c.args.words _ _ _ c.requires
    (omega (arith, ints, c.lo-lo.ensures, few.low, few.high))
    (omega (arith, ints, c.lo-lo.ensures, c.hi.ensures, few.low, few.high, few.once, few.order))
    (omega (arith, ints, c.step.ensures, few.rising, few.thin)))

pub returns-clause-kept : goal.returns-clause-kept
returns-clause-kept c =
    let few = are_few c.args.words c.requires c.numbers.ensures.stride in
    subst IsStride (sym (words_by c.args.words _ _ _ c.requires
    (omega (arith, ints, c.lo-lo.ensures, few.low, few.high))
    (omega (arith, ints, c.lo-lo.ensures, c.hi.ensures, few.low, few.high, few.once, few.order))
    (omega (arith, ints, c.step.ensures, few.rising, few.thin)))) c.numbers.ensures.stride
