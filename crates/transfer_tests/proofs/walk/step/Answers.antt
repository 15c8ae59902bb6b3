use Rattle.std.proofs.Common.{◌≡◌, ◌≢◌, ◌∙◌, ◌<◌, ℕ, List, length, sym, subst, arith}
use Rattle.std.specs.Prelude.{All, Contains}
use Rattle.lists.specs.MemberLaws.{all_members}
use Rattle.memory_model.specs.KeptMemories.{MemoryParts, IsMemory}
use Rattle.transfer_rules.specs.PartMachineLaws.{is_part_machine}
use Rattle.transfer_tests.proofs.walk.step.Goals as goal

pub add_points-requires : goal.add_points-requires
add_points-requires c =
    let s = c.args.stepper.now in
    let points = c.in_ok-stepped.stepped.next.items in
    subst (λ (xs : List (ℕ × MemoryParts)). All (λ (point : ℕ × MemoryParts). point.0 ≢ c.args.exit → IsMemory point.1) xs) (sym c.deref.ensures.value)
    (all_members (λ (point : ℕ × MemoryParts). point.0 ≢ c.args.exit → IsMemory point.1) points
    (λ point among inside.
    let next = subst (λ (nexts : List (ℕ × MemoryParts)). Contains nexts point) c.in_ok-stepped.ensures.next among in
    ((is_part_machine s.checked s.graph s.rows c.kept.ensures).next_fits c.args.point.0 point.0 c.args.point.1 point.1 c.requires.fits next
    (λ same. inside (same ∙ sym c.requires.exit))).0.is))

pub returns : goal.returns
returns c =
    let s = c.args.stepper.now in
    let chosen = c.swap_remove-chosen.result in
    let points = c.in_ok-stepped.stepped.next.items in
    let few = c.if-choice-len.false in
    let many = c.len.ensures in
    let low : c.args.choice < length points = omega (arith, few, many) in
    let among : Contains points chosen = (c.args.choice, low, sym c.swap_remove-chosen.ensures.value) in
    let next = subst (λ (nexts : List (ℕ × MemoryParts)). Contains nexts chosen) c.in_ok-stepped.ensures.next among in
    (is_part_machine s.checked s.graph s.rows c.kept.ensures).next_fits c.args.point.0 chosen.0 c.args.point.1 chosen.1 c.requires.fits next
    (λ same. let other = c.if-chosen-exit.false in let at : chosen.0 ≡ c.args.exit = same ∙ sym c.requires.exit in omega (arith, other, at))
