-- What is left to show of `joined_cell`: the values of both cells have one size.
use Rattle.std.proofs.Common.{sym, subst, IfSome}
use Rattle.pointer_rules.specs.AbstractValues.{AbstractValue}
use Rattle.pointer_rules.specs.Covering.{IsValue}
use Rattle.memory_rules.specs.Frames.{Cell}
use Rattle.memory_model.specs.HeldFrames.{frame_of}
use Rattle.frame_memory.proofs.SlotJoins.{stands_sized, suit_values}
use Rattle.frame_memory.proofs.joined_cell.joined_cell.Goals as goal

pub joined_held-requires : goal.joined_held-requires
joined_held-requires c =
    suit_values c.args.size c.in_ok-first.first.value c.in_ok-second.second.value
    (subst (λ (k : Cell AbstractValue). IfSome k.value (IsValue c.args.size)) (sym c.in_ok-first.ensures) (stands_sized (frame_of c.args.a.now) c.requires.first c.args.place c.args.size))
    (subst (λ (k : Cell AbstractValue). IfSome k.value (IsValue c.args.size)) (sym c.in_ok-second.ensures) (stands_sized (frame_of c.args.b.now) c.requires.second c.args.place c.args.size))
