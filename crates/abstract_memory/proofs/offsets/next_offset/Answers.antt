use Rattle.std.proofs.Common.{◌≡◌, ℕ, ℤ, pos, neg_ℤ, ◌^◌, Option, sym, ap, subst, ◌∙◌}
use Rattle.progressions.specs.Progressions.{IsPlaced}
use Rattle.strided_rules.specs.Strides.{Covers}
use Rattle.abstract_memory.specs.NextOffsets.{IsTurned, Finds, lesser_of}
use Rattle.abstract_memory.proofs.Members.{next_found}
use Rattle.abstract_memory.proofs.offsets.next_offset.Goals as goal

pub returns : goal.returns
returns c =
    let p = c.numbers-numbers.result in
    let placed : IsPlaced 32 p = subst (λ (w : ℕ). IsPlaced w p) c.requires (subst (IsPlaced c.args.members.size) (sym c.numbers-numbers.ensures.value) c.numbers-numbers.ensures.stride.placed) in
    let turn : c.power_of_two-turn.result ≡ pos (2 ^ 32) = c.power_of_two-turn.ensures in
    let here = subst (λ (z : ℤ). Finds (IsTurned p z) c.args.from c.offset_from-here.result) c.of.ensures c.offset_from-here.ensures in
    let raised = subst (λ (z : ℤ). Finds (IsTurned p z) c.args.from c.offset_from-raised.result) turn c.offset_from-raised.ensures in
    let lowered = subst (λ (z : ℤ). Finds (IsTurned p z) c.args.from c.offset_from-lowered.result) (c.neg.ensures ∙ ap neg_ℤ turn) c.offset_from-lowered.ensures in
    let is : c.lesser-2.result ≡ lesser_of (lesser_of c.offset_from-here.result c.offset_from-raised.result) c.offset_from-lowered.result =
    c.lesser-2.ensures ∙ ap (λ (o : Option ℕ). lesser_of o c.offset_from-lowered.result) c.lesser.ensures in
    subst (Finds (Covers c.args.members) c.args.from) (sym is)
    (next_found c.args.members p c.args.from c.offset_from-here.result c.offset_from-raised.result c.offset_from-lowered.result c.requires c.numbers-numbers.ensures.value placed here raised lowered)
