use Rattle.std.proofs.Common.{◌≡◌, map, ap, ◌∙◌}
use Rattle.alf_ops.specs.Table.{operand_sizes}
use Rattle.pointer_rules.specs.AbstractValues.{alternatives}
use Rattle.pointer_rules.specs.Choices.{choices, at_choice, gathered, nothing}
use Rattle.pointer_domain.specs.Parts.{parts_of}
use Rattle.pointer_domain.proofs.PartLists.{choices_suit}
use Rattle.pointer_domain.proofs.value.AVal.apply.Goals as goal

pub gathered-requires-clause-suits : goal.gathered-requires-clause-suits
gathered-requires-clause-suits c =
    let is : map parts_of c.deref.result.now ≡ choices (map alternatives c.args.args.now) = ap (map parts_of) c.deref.ensures.value ∙ c.in_ok-all.ensures.choices in
    choices_suit (operand_sizes c.args.op c.args.sizes.now) c.args.args.now (map parts_of c.deref.result.now) is c.in_ok-all.ensures.kept c.requires.sized

pub returns : goal.returns
returns c =
    let is : map parts_of c.deref.result.now ≡ choices (map alternatives c.args.args.now) = ap (map parts_of) c.deref.ensures.value ∙ c.in_ok-all.ensures.choices in
    c.in_ok-answer.ensures ∙ ap (λ cs. gathered nothing (map (at_choice c.args.op c.args.sizes.now) cs)) is
