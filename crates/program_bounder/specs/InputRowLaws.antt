-- Laws of rows with other ranges.
--   narrower         rows with narrower ranges keep the rules of inputs
--   inside_within    an input inside an area is inside the ranges of the rows with it
--   words_same, stored_same, starts_same   the words of an input, what is stored and where a run starts rest on no range
--   lone_rows        rows with the ranges of a point have one number each
use Rattle.std.proofs.Common.{◌≡◌, ℕ, suc, List, [], ◌∷◌, length, All, refl, ap, ◌∙◌, arith}
use Rattle.std.specs.Prelude.{ℤ, AllPairs}
use Rattle.std.proofs.lemmas.Int.{ints}
use Rattle.std.proofs.lemmas.List.Elements.{All-nil, All-cons, All-head, All-tail}
use Rattle.std.proofs.lemmas.List.Kept.{AllPairs-cons}
use Rattle.alf_ops.specs.TwosComplement.{word}
use Rattle.alf_ops.specs.declared.history.Value.TheVariants.{Int}
use Rattle.alf_ops.specs.declared.history.RunEvent.{RunEvent}
use Rattle.alf_ops.specs.declared.history.RunEvent.TheVariants.{Store}
use Rattle.alf_check.specs.declared.rows.InputRow.{InputRow}
use Rattle.alf_check.specs.CheckedPrograms.{NumberedProgram}
use Rattle.alf_check.specs.Inputs.{ShareNoByte, KeepsInput, KeepInputs}
use Rattle.alf_runs.specs.Steps.{At}
use Rattle.flow_graph.specs.Nodes.{first_node}
use Rattle.alf_runs.specs.Entering.{with_inits, entered}
use Rattle.alf_runs.specs.Starts.{with_inputs, start, AreWithin, words_of}
use Rattle.program_machines.specs.Starts.{AreLone}
use Rattle.worst_inputs.specs.declared.area.Range.{Range}
use Rattle.worst_inputs.specs.Areas.{Area, IsInside, IsPoint, IsPartOf, IsPart}
use Rattle.program_bounder.specs.InputRows.{with_range, with_ranges}

-- ---- rows with narrower ranges keep the rules

-- one row does
one_narrower : (program : NumberedProgram) (row : InputRow) (range part : Range) → IsPartOf range part
    → KeepsInput program (with_range row range) → KeepsInput program (with_range row part)
one_narrower program row range part is keeps = record {
  row = keeps.row;
  at = keeps.at;
  may = keeps.may;
  sized = keeps.sized;
  lies = keeps.lies;
  ordered = is.ordered;
  least = let l = keeps.least in let m = is.least in omega (arith, ints);
  most = let l = keeps.most in let m = is.most in omega (arith, ints);
  narrow = let n = keeps.narrow in let l = is.least in let m = is.most in omega (arith, ints);
}

each_narrower : (program : NumberedProgram) (rows : List InputRow) (area part : Area) → IsPart area part
    → All (KeepsInput program) (with_ranges rows area) → All (KeepsInput program) (with_ranges rows part)
each_narrower program [] area part is all = All-nil (KeepsInput program)
each_narrower program (row ∷ rows) [] [] is all = All-nil (KeepsInput program)
each_narrower program (row ∷ rows) [] (p ∷ part) is all = absurd is
each_narrower program (row ∷ rows) (range ∷ area) [] is all = absurd is
each_narrower program (row ∷ rows) (range ∷ area) (p ∷ part) is all =
    All-cons (KeepsInput program) (with_range row p) (with_ranges rows part)
    (one_narrower program row range p is.0 (All-head (KeepsInput program) (with_range row range) (with_ranges rows area) all))
    (each_narrower program rows area part is.1 (All-tail (KeepsInput program) (with_range row range) (with_ranges rows area) all))

pairs_head : {A : Type 0} (R : A → A → Type 0) (x : A) (xs : List A) → AllPairs R (x ∷ xs) → All (R x) xs
pairs_head R x xs all = λ k d low. all 0 (suc k) d (omega arith) (omega arith)

pairs_tail : {A : Type 0} (R : A → A → Type 0) (x : A) (xs : List A) → AllPairs R (x ∷ xs) → AllPairs R xs
pairs_tail R x xs all = λ i j d less low. all (suc i) (suc j) d (omega arith) (omega arith)

-- which bytes a row has does not rest on its range
far_from : (a : InputRow) (rows : List InputRow) (area part : Area) → IsPart area part
    → All (ShareNoByte a) (with_ranges rows area) → All (ShareNoByte a) (with_ranges rows part)
far_from a [] area part is all = All-nil (ShareNoByte a)
far_from a (row ∷ rows) [] [] is all = All-nil (ShareNoByte a)
far_from a (row ∷ rows) [] (p ∷ part) is all = absurd is
far_from a (row ∷ rows) (range ∷ area) [] is all = absurd is
far_from a (row ∷ rows) (range ∷ area) (p ∷ part) is all =
    All-cons (ShareNoByte a) (with_range row p) (with_ranges rows part)
    (All-head (ShareNoByte a) (with_range row range) (with_ranges rows area) all)
    (far_from a rows area part is.1 (All-tail (ShareNoByte a) (with_range row range) (with_ranges rows area) all))

apart_still : (rows : List InputRow) (area part : Area) → IsPart area part
    → AllPairs ShareNoByte (with_ranges rows area) → AllPairs ShareNoByte (with_ranges rows part)
apart_still [] area part is all = λ i j d less low. absurd (omega arith)
apart_still (row ∷ rows) [] [] is all = λ i j d less low. absurd (omega arith)
apart_still (row ∷ rows) [] (p ∷ part) is all = absurd is
apart_still (row ∷ rows) (range ∷ area) [] is all = absurd is
apart_still (row ∷ rows) (range ∷ area) (p ∷ part) is all =
    AllPairs-cons ShareNoByte (with_range row p) (with_ranges rows part)
    (far_from (with_range row range) rows area part is.1 (pairs_head ShareNoByte (with_range row range) (with_ranges rows area) all))
    (apart_still rows area part is.1 (pairs_tail ShareNoByte (with_range row range) (with_ranges rows area) all))

pub narrower : (program : NumberedProgram) (rows : List InputRow) (area part : Area) → IsPart area part
    → KeepInputs program (with_ranges rows area) → KeepInputs program (with_ranges rows part)
narrower program rows area part is keeps = record { each = each_narrower program rows area part is keeps.each; apart = apart_still rows area part is keeps.apart }

-- ---- what a run knows of ranges

-- a number for each row, inside its range
pub inside_within : (rows : List InputRow) (area : Area) (input : List ℤ) → length area ≡ length rows
    → IsInside area input → AreWithin (with_ranges rows area) input
inside_within [] [] [] e inside = tt
inside_within [] [] (number ∷ input) e inside = absurd inside
inside_within [] (range ∷ area) input e inside = absurd (omega arith)
inside_within (row ∷ rows) [] input e inside = absurd (omega arith)
inside_within (row ∷ rows) (range ∷ area) [] e inside = absurd inside
inside_within (row ∷ rows) (range ∷ area) (number ∷ input) e inside = (record { least = inside.0.least; most = inside.0.most }, inside_within rows area input (omega arith) inside.1)

-- words rest on sizes alone
pub words_same : (rows : List InputRow) (area : Area) (input : List ℤ) → length area ≡ length rows
    → words_of (with_ranges rows area) input ≡ words_of rows input
words_same [] area input e = refl
words_same (row ∷ rows) [] input e = absurd (omega arith)
words_same (row ∷ rows) (range ∷ area) [] e = refl
words_same (row ∷ rows) (range ∷ area) (number ∷ input) e = ap (λ (ws : List ℕ). word row.size number ∷ ws) (words_same rows area input (omega arith))

-- what is stored rests on cells alone
stored_same : (rows : List InputRow) (area : Area) (words : List ℕ) (history : List RunEvent)
    → length area ≡ length rows → with_inputs (with_ranges rows area) words history ≡ with_inputs rows words history
stored_same [] area words history e = refl
stored_same (row ∷ rows) [] words history e = absurd (omega arith)
stored_same (row ∷ rows) (range ∷ area) [] history e = refl
stored_same (row ∷ rows) (range ∷ area) (bits ∷ words) history e = stored_same rows area words (Store row.frame row.offset row.size (Int row.size bits) ∷ history) (omega arith)

-- a run with an input starts as one of the program with the rows' own ranges
pub starts_same : (program : NumberedProgram) (rows : List InputRow) (area : Area) (input : List ℤ)
    → length area ≡ length rows
    → start program (with_ranges rows area) (words_of (with_ranges rows area) input) ≡ start program rows (words_of rows input)
starts_same program rows area input e =
    ap (λ (ws : List ℕ). start program (with_ranges rows area) ws) (words_same rows area input e)
    ∙ ap (At first_node) (stored_same rows area (words_of rows input) (entered program program.root [] (with_inits program.inits [])) e)

-- the ranges of a point have one number each
pub lone_rows : (rows : List InputRow) (area : Area) → IsPoint area → AreLone (with_ranges rows area)
lone_rows [] area point = All-nil (λ (row : InputRow). row.low ≡ row.high)
lone_rows (row ∷ rows) [] point = All-nil (λ (row : InputRow). row.low ≡ row.high)
lone_rows (row ∷ rows) (range ∷ area) point =
    All-cons (λ (r : InputRow). r.low ≡ r.high) (with_range row range) (with_ranges rows area)
    (All-head (λ (r : Range). r.low ≡ r.high) range area point) (lone_rows rows area (All-tail (λ (r : Range). r.low ≡ r.high) range area point))
