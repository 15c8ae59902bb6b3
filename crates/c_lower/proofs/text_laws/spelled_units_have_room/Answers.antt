-- What is left to show of `spelled_units_have_room`.
use Rattle.c_lower.proofs.text_laws.spelled_units_have_room.Goals as goal

pub returns : goal.returns
returns c unit spelled =
    let counted = c.spelled_units_are_counted.ensures unit spelled in
    record { elements = counted.elements; functions = counted.functions }
