-- What is left to show of `a_fault_has_one_word`.
use Rattle.std.proofs.Common.{refl}
use Rattle.answer_texts.proofs.worked.a_fault_has_one_word.Goals as goal

pub returns-clause-divide : goal.returns-clause-divide
returns-clause-divide c = refl

pub returns-clause-uninit : goal.returns-clause-uninit
returns-clause-uninit c = refl

pub returns-clause-mixed : goal.returns-clause-mixed
returns-clause-mixed c = refl

pub returns-clause-bounds : goal.returns-clause-bounds
returns-clause-bounds c = refl

pub returns-clause-dead : goal.returns-clause-dead
returns-clause-dead c = refl

pub returns-clause-kind : goal.returns-clause-kind
returns-clause-kind c = refl

pub returns-clause-pointers : goal.returns-clause-pointers
returns-clause-pointers c = refl

pub returns-clause-divide_told : goal.returns-clause-divide_told
returns-clause-divide_told c = refl

pub returns-clause-uninit_told : goal.returns-clause-uninit_told
returns-clause-uninit_told c = refl

pub returns-clause-mixed_told : goal.returns-clause-mixed_told
returns-clause-mixed_told c = refl

pub returns-clause-bounds_told : goal.returns-clause-bounds_told
returns-clause-bounds_told c = refl

pub returns-clause-dead_told : goal.returns-clause-dead_told
returns-clause-dead_told c = refl

pub returns-clause-kind_told : goal.returns-clause-kind_told
returns-clause-kind_told c = refl

pub returns-clause-pointers_told : goal.returns-clause-pointers_told
returns-clause-pointers_told c = refl
