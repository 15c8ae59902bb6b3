use Rattle.std.proofs.Common.{◌≡◌, ◌<◌, ◌^◌, ℤ, pos, ◌≤ℤ◌, ◌+ℤ◌, ◌-ℤ◌, sym, ap, subst, ◌∙◌, arith}
use Rattle.std.proofs.lemmas.Int.{ints}
use Rattle.abstract_memory.proofs.Finding.{IsFirst, first_found, none_found, turned, turned_past, turned_none}
use Rattle.abstract_memory.proofs.offsets.offset_from.Goals as goal

pub returns-in-None : goal.returns-in-None
returns-in-None c =
    let from : c.sub.result ≡ pos c.args.from -ℤ c.args.turn = c.sub.ensures ∙ ap (λ (z : ℤ). z -ℤ c.args.turn) c.of_word.ensures.value in
    turned_none c.args.numbers.now c.args.turn c.args.from (λ other has above.
    none_found c.args.numbers.now c.sub.result c.requires.progression c.in-None.ensures other has (subst (λ (z : ℤ). z ≤ℤ other) (sym from) above))

pub add-offset-requires : goal.add-offset-requires
add-offset-requires c =
    let first = first_found c.args.numbers.now c.sub.result c.in-Some.number c.requires.progression c.in-Some.ensures in
    let low : c.args.numbers.now.lo ≤ℤ c.in-Some.number = first.has.least in
    let high : c.in-Some.number ≤ℤ c.args.numbers.now.hi = first.has.most in
    let small_low = c.requires.small.low in
    let small_high = c.requires.small.high in
    let turn_low = c.requires.low in
    let turn_high = c.requires.high in
    grind (arith, ints, low, high, small_low, small_high, turn_low, turn_high)

pub word-requires-clause-low : goal.word-requires-clause-low
word-requires-clause-low c =
    let from : c.sub.result ≡ pos c.args.from -ℤ c.args.turn = c.sub.ensures ∙ ap (λ (z : ℤ). z -ℤ c.args.turn) c.of_word.ensures.value in
    let first = first_found c.args.numbers.now c.sub.result c.in-Some.number c.requires.progression c.in-Some.ensures in
    let above : c.sub.result ≤ℤ c.in-Some.number = first.above in
    let sum : c.add-offset.result ≡ c.in-Some.number +ℤ c.args.turn = c.add-offset.ensures in
    omega (arith, ints, from, above, sum)

pub returns-then-below : goal.returns-then-below
returns-then-below c =
    let from : c.sub.result ≡ pos c.args.from -ℤ c.args.turn = c.sub.ensures ∙ ap (λ (z : ℤ). z -ℤ c.args.turn) c.of_word.ensures.value in
    let first = first_found c.args.numbers.now c.sub.result c.in-Some.number c.requires.progression c.in-Some.ensures in
    let sum : c.add-offset.result ≡ c.in-Some.number +ℤ c.args.turn = c.add-offset.ensures in
    let word : pos c.word.result ≡ c.add-offset.result = c.word.ensures in
    let small : c.word.result < 2 ^ 32 = grind (arith, ints) in
    turned c.args.numbers.now c.args.turn c.in-Some.number c.args.from c.word.result
    (subst (λ (z : ℤ). IsFirst c.args.numbers.now z c.in-Some.number) from first) (word ∙ sum) small

pub returns-else-below : goal.returns-else-below
returns-else-below c =
    let from : c.sub.result ≡ pos c.args.from -ℤ c.args.turn = c.sub.ensures ∙ ap (λ (z : ℤ). z -ℤ c.args.turn) c.of_word.ensures.value in
    let first = first_found c.args.numbers.now c.sub.result c.in-Some.number c.requires.progression c.in-Some.ensures in
    let sum : c.add-offset.result ≡ c.in-Some.number +ℤ c.args.turn = c.add-offset.ensures in
    let past : pos (2 ^ 32) ≤ℤ (c.in-Some.number +ℤ c.args.turn) = grind (arith, ints) in
    turned_past c.args.numbers.now c.args.turn c.in-Some.number c.args.from (subst (λ (z : ℤ). IsFirst c.args.numbers.now z c.in-Some.number) from first) past
