use Rattle.std.proofs.Common.{ℕ, sym, subst}
use Rattle.pointer_rules.specs.AbstractValues.{Words, alone}
use Rattle.pointer_rules.specs.Covering.{IsValue}
use Rattle.transfer_tests.proofs.SlotLaws.{pinned_slots, words_are}
use Rattle.transfer_tests.proofs.frames.pinned.Goals as goal

pub returns-in_ok-pin : goal.returns-in_ok-pin
returns-in_ok-pin c =
    pinned_slots c.args.count c.args.slots.now c.pin.new.slots c.args.offset c.size-size.result (alone (Words c.args.words)) c.requires
    c.in_ok-pin.ensures.length c.in_ok-pin.ensures.canonical
    (subst (λ (n : ℕ). IsValue n (alone (Words c.args.words))) (sym c.size-size.ensures.value) (words_are c.args.words c.numbers.ensures.stride)) c.in_ok-pin.ensures.pinned
