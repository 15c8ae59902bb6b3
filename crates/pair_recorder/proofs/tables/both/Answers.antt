-- What is left to show of `both`.
use Rattle.std.proofs.Common.{◌+◌, ◌-◌, ℕ, List, bit_or, length, get_or, subst, ap, ◌∙◌}
use Rattle.std.proofs.lemmas.List.{with_items_is}
use Rattle.recorder_rules.specs.BitWords.{is_marked, AreInRange}
use Rattle.recorder_rules.specs.StepBitLaws.{both_bits}
use Rattle.pair_recorder.proofs.tables.both.Goals as goal

pub returns-clause-bits : goal.returns-clause-bits
returns-clause-bits c base n =
    let new = c.add_words.new.into in
    ap (λ (xs : List ℕ). is_marked xs base n) (with_items_is c.in_ok-words.words new (c.add_words.auto.into ∙ c.deref_mut.ensures.len))
    ∙ both_bits c.args.a.now c.args.b.now new c.requires
    (subst (λ (ys : List ℕ). AreInRange 0 (length c.args.a.now) (λ i. bit_or (get_or ys i 0) (get_or c.args.b.now (0 + (i - 0)) 0)) ys new) (c.deref_mut.ensures.value ∙ c.in_ok-words.ensures.items) c.add_words.ensures) base n
