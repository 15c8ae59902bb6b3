-- The parts fit one after the other.
use Rattle.std.proofs.Common.{◌≡◌, ◌<◌, [], length, drop, take, true, false, not, cond, sym, ◌∙◌, arith, length-drop}
use Rattle.fact_words.specs.Names.{fits_parts, parts_of, further, is_name, is_call, is_end}
use Rattle.fact_words.proofs.NameParts.{at_last, at_more}
use Rattle.fact_words.proofs.names.fits_after_quote.Goals as goal

pub returns-then-not-quoted : goal.returns-then-not-quoted
returns-then-not-quoted c =
    let text = c.loop-others.rest.now in
    let none : further (drop c.part_len.result text) ≡ [] = sym (rw (c.in_default.is, c.split_at.ensures.back) at c.after_quote.ensures.parts) in
    let last : fits_parts false (parts_of text) ≡ is_end (take c.part_len.result text) = rw c.if-not-quoted.true at (at_last c.loop-others.quoted text c.part_len.result c.part_len.ensures.len none) in
    rw (c.is_end.ensures, c.split_at.ensures.front) (sym last ∙ (rw c.if-not-quoted.true at c.loop-others.invariant))

pub returns-else-not-quoted : goal.returns-else-not-quoted
returns-else-not-quoted c =
    let text = c.loop-others.rest.now in
    let none : further (drop c.part_len.result text) ≡ [] = sym (rw (c.in_default.is, c.split_at.ensures.back) at c.after_quote.ensures.parts) in
    let last : fits_parts true (parts_of text) ≡ false = rw c.if-not-quoted.false at (at_last c.loop-others.quoted text c.part_len.result c.part_len.ensures.len none) in
    rw c.if-not-quoted.false (sym last ∙ (rw c.if-not-quoted.false at c.loop-others.invariant))

pub returns-then-not-fits_part : goal.returns-then-not-fits_part
returns-then-not-fits_part c =
    let text = c.loop-others.rest.now in
    let more : further (drop c.part_len.result text) ≡ parts_of c.in-Some.others.now = sym (rw (c.in-Some.is, c.split_at.ensures.back) at c.after_quote.ensures.parts) in
    let fails : cond c.loop-others.quoted (is_name (take c.part_len.result text)) (is_call (take c.part_len.result text)) ≡ false = rw (← c.split_at.ensures.front) (sym c.fits_part.ensures ∙ c.if-not-fits_part.true) in
    let first : fits_parts c.loop-others.quoted (parts_of text) ≡ false = rw fails at (at_more c.loop-others.quoted text c.part_len.result c.part_len.ensures.len c.in-Some.others.now more) in
    sym first ∙ c.loop-others.invariant

pub loop-others-smaller : goal.loop-others-smaller
loop-others-smaller c =
    let text = c.loop-others.rest.now in
    let fewer : length c.in-Some.others.now < length (drop c.part_len.result text) = rw c.split_at.ensures.back at c.in-Some.ensures.shorter in
    omega (arith, fewer, length-drop c.part_len.result text)

pub loop-others-preserved : goal.loop-others-preserved
loop-others-preserved c =
    let text = c.loop-others.rest.now in
    let more : further (drop c.part_len.result text) ≡ parts_of c.in-Some.others.now = sym (rw (c.in-Some.is, c.split_at.ensures.back) at c.after_quote.ensures.parts) in
    let holds : cond c.loop-others.quoted (is_name (take c.part_len.result text)) (is_call (take c.part_len.result text)) ≡ true = rw (← c.split_at.ensures.front) (sym c.fits_part.ensures ∙ c.if-not-fits_part.false) in
    let first : fits_parts c.loop-others.quoted (parts_of text) ≡ fits_parts (not c.loop-others.quoted) (parts_of c.in-Some.others.now) = rw holds at (at_more c.loop-others.quoted text c.part_len.result c.part_len.ensures.len c.in-Some.others.now more) in
    sym first ∙ c.loop-others.invariant
