use Rattle.std.proofs.Common.{◌≡◌, true, false, map, sym, ◌∙◌}
use Rattle.std.specs.Prelude.{◌||◌}
use Rattle.pointer_rules.specs.Choices.{is_place, alternative_at}
use Rattle.pointer_domain.specs.Parts.{alternative_of}
use Rattle.pointer_domain.proofs.choice.at_choice.Goals as goal

pub returns-then-some_pointer : goal.returns-then-some_pointer
returns-then-some_pointer c =
    let e : (is_place (alternative_at (map alternative_of c.args.chosen.now) 0) || is_place (alternative_at (map alternative_of c.args.chosen.now) 1) || is_place (alternative_at (map alternative_of c.args.chosen.now) 2)) ≡ true = sym c.some_pointer.ensures ∙ c.if-some_pointer.true in
    rw e c.at_places.ensures

pub returns-else-some_pointer : goal.returns-else-some_pointer
returns-else-some_pointer c =
    let e : (is_place (alternative_at (map alternative_of c.args.chosen.now) 0) || is_place (alternative_at (map alternative_of c.args.chosen.now) 1) || is_place (alternative_at (map alternative_of c.args.chosen.now) 2)) ≡ false = sym c.some_pointer.ensures ∙ c.if-some_pointer.false in
    rw e c.at_words.ensures
