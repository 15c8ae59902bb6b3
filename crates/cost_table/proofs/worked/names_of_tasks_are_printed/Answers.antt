-- What is left to show of `names_of_tasks_are_printed`.
use Rattle.std.proofs.Common.{[], ◌∷◌, refl, arith}
use Rattle.std.proofs.lemmas.List.Elements.{All-nil, All-cons}
use Rattle.cost_table.specs.TaskFiles.{IsNameByte}
use Rattle.cost_table.proofs.worked.names_of_tasks_are_printed.Goals as goal

pub returns-clause-blank : goal.returns-clause-blank
returns-clause-blank c = record {
  some = omega arith;
  few = omega arith;
  each = All-cons IsNameByte 97 (32 ∷ 126 ∷ []) (record { from = omega arith; to = omega arith; no_quotation_mark = λ e. omega (arith, e); no_backslash = λ e. omega (arith, e) })
      (All-cons IsNameByte 32 (126 ∷ []) (record { from = omega arith; to = omega arith; no_quotation_mark = λ e. omega (arith, e); no_backslash = λ e. omega (arith, e) })
      (All-cons IsNameByte 126 [] (record { from = omega arith; to = omega arith; no_quotation_mark = λ e. omega (arith, e); no_backslash = λ e. omega (arith, e) }) (All-nil IsNameByte)));
}

pub returns-clause-quotation_mark : goal.returns-clause-quotation_mark
returns-clause-quotation_mark c = λ is. (is.each 1 0 (omega arith)).no_quotation_mark refl

pub returns-clause-backslash : goal.returns-clause-backslash
returns-clause-backslash c = λ is. (is.each 1 0 (omega arith)).no_backslash refl

pub returns-clause-line_feed : goal.returns-clause-line_feed
returns-clause-line_feed c = λ is. let no = (is.each 1 0 (omega arith)).from in omega (arith, no)

pub returns-clause-delete : goal.returns-clause-delete
returns-clause-delete c = λ is. let no = (is.each 1 0 (omega arith)).to in omega (arith, no)

pub returns-clause-empty : goal.returns-clause-empty
returns-clause-empty c = λ is. let no = is.some in omega (arith, no)
