-- A costs file has one answer.
--   costs_one   it has
use Rattle.std.proofs.Common.{◌≡◌, ◌<◌, ◌∙◌, ℕ, List, Some, Result, Ok, Err, IsSome, length, get_or, slice_get, refl, ap, sym, subst, arith}
use Rattle.std.proofs.lemmas.List.{same_lists}
use Rattle.std.proofs.lemmas.Option.{same_Some, slice_get-get_or}
use Rattle.toml.specs.Data.{Data}
use Rattle.alf_check.specs.CheckedPrograms.{NumberedProgram}
use Rattle.cost_table.specs.declared.fault.TableFault.{TableFault}
use Rattle.cost_table.specs.CostTables.{CostTable, cost_at}
use Rattle.cost_table.specs.Costs.{HasBlock, IsCostTable, MeansCosts, cost_entries, cost_entry, cost_judging, cost_of, default_cost}
use Rattle.cost_table.specs.Files.{HasEntries}
use Rattle.cost_table.specs.Laws.{AnswersCosts, CostsHaveOneAnswer}
use Rattle.cost_table.proofs.OneFault.{IsFair, one_document, one_list, one_refusal, one_wrong, right_or_refused, right_or_wrong}

-- entries are judged fairly
fair : (program : NumberedProgram) → IsFair (cost_judging program)
fair program = record {
  apart = λ before k datum fault right wrong. right_or_wrong cost_entry (λ entry. IsSome (cost_of entry.1.cost)) (HasBlock program) k datum fault right wrong;
  one = λ before k datum f g a b. one_wrong cost_entry (λ entry. IsSome (cost_of entry.1.cost)) (HasBlock program) k datum f g a b;
}

-- a cost is one of a row
cost_is : (table : CostTable) (f k d : ℕ) (row : List ℕ) → slice_get table.rows f ≡ Some row → k < length row
    → cost_at table f k ≡ get_or row k d
cost_is table f k d row at low = rw (at, slice_get-get_or row k d low) refl

-- the tables of a default and entries have the same rows
same_row : (program : NumberedProgram) (default : ℕ) (entries : List Data) (a b : CostTable) (f : ℕ) (row other : List ℕ) → IsCostTable program default entries a → IsCostTable program default entries b → slice_get a.rows f ≡ Some row → slice_get b.rows f ≡ Some other → row ≡ other
same_row program default entries a b f row other is is_too at at_too =
    let long : length row ≡ length other = is.rows.blocks f row at ∙ sym (is_too.rows.blocks f other at_too) in
    same_lists row other long (λ k d low. sym (cost_is a f k d row at low) ∙ is.gives f k ∙ sym (is_too.gives f k) ∙ cost_is b f k d other at_too (omega (arith, long, low)))

-- a table is its rows and the cost of what is not there
same_parts : (a b : CostTable) → a.rows ≡ b.rows → a.others ≡ b.others → a ≡ b
same_parts a b rows others = subst (λ (r : List (List ℕ)). a ≡ record { rows = r; others = b.others }) rows (ap (λ (o : ℕ). record { rows = a.rows; others = o }) others)

-- a default and entries have one table
one_table : (program : NumberedProgram) (default : ℕ) (entries : List Data) (a b : CostTable)
    → IsCostTable program default entries a → IsCostTable program default entries b → a ≡ b
one_table program default entries a b is is_too =
    let long : length a.rows ≡ length b.rows = is.rows.functions ∙ sym is_too.rows.functions in
    same_parts a b
    (same_lists a.rows b.rows long (λ f d low. same_row program default entries a b f (get_or a.rows f d) (get_or b.rows f d) is is_too (slice_get-get_or a.rows f d low) (slice_get-get_or b.rows f d (omega (arith, long, low)))))
    (is.others ∙ sym is_too.others)

-- the entries of a file that means costs
entries_of : (bytes : List ℕ) (program : NumberedProgram) (table : CostTable) → (m : MeansCosts bytes program table)
    → HasEntries bytes cost_entries m.entries
entries_of bytes program table m = record { members = m.members; document = m.document; told = m.told }

-- a file means one table
one_meaning : (bytes : List ℕ) (program : NumberedProgram) (a b : CostTable) → MeansCosts bytes program a
    → MeansCosts bytes program b → a ≡ b
one_meaning bytes program a b m n =
    let members : n.members ≡ m.members = one_document bytes n.members m.members n.document m.document in
    let default : n.default ≡ m.default = same_Some n.default m.default (sym n.default_is ∙ ap default_cost members ∙ m.default_is) in
    let entries : n.entries ≡ m.entries = one_list bytes cost_entries n.entries m.entries (entries_of bytes program b n) (entries_of bytes program a m) in
    one_table program m.default m.entries a b m.costs
    (subst (λ (es : List Data). IsCostTable program m.default es b) entries (subst (λ (d : ℕ). IsCostTable program d n.entries b) default n.costs))

-- a costs file has one answer
pub costs_one : CostsHaveOneAnswer
costs_one bytes program = answers
  where
    answers : (a b : Result CostTable TableFault) → AnswersCosts bytes program a → AnswersCosts bytes program b → a ≡ b
    answers (Ok a) (Ok b) m n = ap Ok (one_meaning bytes program a b m n)
    answers (Ok a) (Err f) m r = absurd (right_or_refused bytes cost_entries (cost_judging program) m.entries f (fair program) (entries_of bytes program a m) m.right r)
    answers (Err f) (Ok a) r m = absurd (right_or_refused bytes cost_entries (cost_judging program) m.entries f (fair program) (entries_of bytes program a m) m.right r)
    answers (Err f) (Err g) r s = ap Err (one_refusal bytes cost_entries (cost_judging program) f g (fair program) r s)
