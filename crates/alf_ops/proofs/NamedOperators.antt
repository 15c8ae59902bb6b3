-- Names of rows: where none is found, and tests that a table is right.
use Rattle.std.proofs.Common.{◌≡◌, ◌≢◌, ℕ, List, [], ◌∷◌, All, AllPairs, Some, Bool, true, not, ◌&&◌, length, arith, map, ◌<◌, sym, ap, ◌∙◌, slice_index_or}
use Rattle.std.specs.Prelude.{◌==◌}
use Rattle.std.specs.Str.{bytes_eq}
use Rattle.std.specs.List.{list_all, slice_get}
use Rattle.std.proofs.lemmas.List.{get_or-map, length-map}
use Rattle.std.proofs.lemmas.Option.{slice_get_within, get_or_from_slice_get}
use Rattle.alf_ops.specs.declared.operator.Op.{Op}
use Rattle.std.proofs.lemmas.Grind.{common_steps}
use Rattle.std.proofs.lemmas.List.Elements.{All-cons, All-nil}
use Rattle.std.proofs.lemmas.List.Kept.{AllPairs-cons}
use Rattle.std.proofs.lemmas.Slice.Eq.{bytes_eq-Decides}
use Rattle.alf_ops.specs.declared.table.OpRow.{OpRow}
use Rattle.alf_ops.specs.Layouts.{size_count, operands_by_layout}
use Rattle.alf_ops.specs.Table.{layout_of}
use Rattle.alf_ops.specs.Names.{name_of, operators, spelling, TellsOperator}

-- no name stands twice
abbrev pub names_apart : List (List ℕ) → Bool
names_apart [] = true
names_apart (name ∷ names) = list_all (λ other. not (bytes_eq name other)) names && names_apart names

-- the name is none of these
apart_from : (name : List ℕ) (names : List (List ℕ)) → list_all (λ other. not (bytes_eq name other)) names ≡ true
    → All (λ other. name ≢ other) names
apart_from name [] passed = All-nil (λ other. name ≢ other)
apart_from name (other ∷ names) passed =
    All-cons (λ other. name ≢ other) other names
    (λ same. grind (arith, common_steps, bytes_eq-Decides name other))
    (apart_from name names (grind (arith, common_steps)))

pub apart_names : (names : List (List ℕ)) → names_apart names ≡ true → AllPairs (λ a b. a ≢ b) names
apart_names [] passed = λ i j d below within. grind (arith, common_steps)
apart_names (name ∷ names) passed =
    AllPairs-cons (λ a b. a ≢ b) name names
    (apart_from name names (grind (arith, common_steps)))
    (apart_names names (grind (arith, common_steps)))

-- the row tells its operator
abbrev pub tells : OpRow → Bool
tells row = bytes_eq (name_of row) (spelling row.op)
    && (row.sizes == size_count (layout_of row.op))
    && (row.operands == length (operands_by_layout (layout_of row.op) 0 0 0))

pub told_rows : (rows : List OpRow) → list_all tells rows ≡ true → All TellsOperator rows
told_rows [] passed = All-nil TellsOperator
told_rows (row ∷ rows) passed = All-cons TellsOperator row rows
    (record {
      name = grind (arith, common_steps, bytes_eq-Decides (name_of row) (spelling row.op));
      sizes = grind (arith, common_steps);
      operands = grind (arith, common_steps);
    })
    (told_rows rows (grind (arith, common_steps)))

-- the row at the place of an operator tells its name
pub told_at : (rows : List OpRow) (i : ℕ) (d : OpRow) (op : Op) → map (λ row. row.op) rows ≡ operators
    → All TellsOperator rows → slice_get operators i ≡ Some op
    → name_of (slice_index_or rows i d) ≡ spelling op
told_at rows i d op order told at_place =
    let e : slice_get (map (λ row. row.op) rows) i ≡ Some op = ap (λ (ops : List Op). slice_get ops i) order ∙ at_place in
    let lt : i < length rows = omega (arith, slice_get_within (map (λ row. row.op) rows) i op e, length-map rows (λ row. row.op)) in
    let is : (slice_index_or rows i d).op ≡ op = sym (get_or-map (λ (row : OpRow). row.op) rows i d op lt) ∙ get_or_from_slice_get (map (λ row. row.op) rows) i op op e in
    (told i d lt).name ∙ ap spelling is
