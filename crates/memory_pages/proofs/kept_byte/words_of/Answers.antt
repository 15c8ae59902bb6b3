-- What is left to show of `words_of`: words in normal form are kept by their parts.
use Rattle.std.proofs.Common.{◌∙◌, sym, subst, arith}
use Rattle.std.proofs.lemmas.Int.{ints}
use Rattle.progressions.specs.Progressions.{IsProgression}
use Rattle.memory_pages.proofs.EightBits.{numbers_by, norm_by, one_by}
use Rattle.memory_pages.proofs.kept_byte.words_of.Goals as goal

pub returns-then-lo-ge0 : goal.returns-then-lo-ge0
returns-then-lo-ge0 c =
    c.one_word.ensures ∙ one_by c.args.lo c.args.width c.args.step _ c.requires (omega (arith, c.if-width-eq0.true)) (omega (arith, ints, c.ranges.lo, c.if-lo-ge0.true))

pub norm-requires-clause-progression : goal.norm-requires-clause-progression
norm-requires-clause-progression c = subst IsProgression
    (sym (numbers_by c.args.lo c.args.width c.args.step _ _ _ (omega (arith, ints, c.ranges.lo)) (omega (arith, ints, c.ranges.lo, c.ranges.width)) (omega (arith, ints, c.ranges.step))))
    c.requires.placed.progression

pub returns : goal.returns
returns c = c.norm.ensures
    ∙ norm_by c.args.lo c.args.width c.args.step _ c.requires
    (numbers_by c.args.lo c.args.width c.args.step _ _ _ (omega (arith, ints, c.ranges.lo)) (omega (arith, ints, c.ranges.lo, c.ranges.width)) (omega (arith, ints, c.ranges.step)))
