-- Tables of costs, and the costs that entries tell.
--   cost_get     a cost of a table, with a default for each look-up
--   told_more    the cost that entries tell, with one more entry
--   rows_with    a table keeps its rows
--   cost_with    the costs of a table with one of a block
--   with_set     a cost is written in its vector
use Rattle.std.proofs.Common.{◌≡◌, ◌≢◌, ◌<◌, ℕ, ◌&&◌, List, [], ◌∷◌, ◌++◌, length, get_or, map, set, Option, Vec, Global, Some, None, slice_get, unwrap_or, refl, ap, sym, ◌∙◌, subst, nat_eq, arith}
use Rattle.std.specs.Prelude.{if◌then◌else◌}
use Rattle.std.specs.Option.{option_map, option_or}
use Rattle.std.specs.Vec.{with_item}
use Rattle.std.proofs.lemmas.Bool.Decides.{nat_tests}
use Rattle.std.proofs.lemmas.List.{get_or-set_same, get_or-set_other, length-set, map-set}
use Rattle.std.proofs.lemmas.Option.{get_or_from_slice_get, slice_get-get_or, slice_get-map, slice_get_within, unwrap_or-slice_get}
use Rattle.toml.specs.Data.{Data}
use Rattle.lists.specs.TestLaws.{by_test}
use Rattle.alf_check.specs.CheckedPrograms.{NumberedProgram, blocks_at}
use Rattle.cost_table.specs.CostTables.{CostTable, HasRows, cost_at, row_at, with_cost}
use Rattle.cost_table.specs.Costs.{cost_by, last_cost, told_cost}

-- ---- what entries tell

none_last : {A : Type 0} (o : Option A) → option_or o None ≡ o
none_last None = refl
none_last (Some x) = refl

in_threes : {A : Type 0} (o p q : Option A) → option_or (option_or o p) q ≡ option_or o (option_or p q)
in_threes None p q = refl
in_threes (Some x) p q = refl

-- the last cost is that of one more entry, if it gives one
last_more : (program : NumberedProgram) (f b : ℕ) (before : List Data) (datum : Data) → last_cost program f b (before ++ datum ∷ []) ≡ option_or (cost_by program f b datum) (last_cost program f b before)
last_more program f b [] datum = sym (none_last (cost_by program f b datum))
last_more program f b (other ∷ before) datum =
    ap (λ (o : Option ℕ). option_or o (cost_by program f b other)) (last_more program f b before datum)
    ∙ in_threes (cost_by program f b datum) (last_cost program f b before) (cost_by program f b other)

or_default : (o p : Option ℕ) (d : ℕ) → unwrap_or (option_or o p) d ≡ unwrap_or o (unwrap_or p d)
or_default None p d = refl
or_default (Some x) p d = refl

-- the cost that entries tell, with one more
pub told_more : (program : NumberedProgram) (default : ℕ) (before : List Data) (datum : Data) (f b : ℕ) → told_cost program default (before ++ datum ∷ []) f b ≡ unwrap_or (cost_by program f b datum) (told_cost program default before f b)
told_more program default before datum f b =
    ap (λ (o : Option ℕ). unwrap_or o default) (last_more program f b before datum)
    ∙ or_default (cost_by program f b datum) (last_cost program f b before) default

-- ---- tables

-- a cost of a table, with a default for each look-up
pub cost_get : (table : CostTable) (f b : ℕ) → cost_at table f b ≡ get_or (get_or table.rows f []) b table.others
cost_get table f b =
    unwrap_or-slice_get (row_at table f) b table.others
    ∙ ap (λ (row : List ℕ). get_or row b table.others) (unwrap_or-slice_get table.rows f [])

-- the row of a function is as long as it has blocks
pub row_long : (program : NumberedProgram) (table : CostTable) (f : ℕ) → HasRows program table → f < length table.rows
    → length (row_at table f) ≡ length (blocks_at program f)
row_long program table f has low =
    let at : slice_get table.rows f ≡ Some (row_at table f) = slice_get-get_or table.rows f [] low ∙ ap Some (sym (unwrap_or-slice_get table.rows f [])) in
    has.blocks f (row_at table f) at

-- a table keeps its rows
pub rows_with : (program : NumberedProgram) (table : CostTable) (f b cost : ℕ) → HasRows program table
    → f < length table.rows → HasRows program (with_cost table f b cost)
rows_with program table f b cost has low = record {
  functions = length-set table.rows f (set (row_at table f) b cost) ∙ has.functions;
  blocks = λ g row at. by_test (nat_eq g f)
      (λ e.
      let same : g ≡ f = grind (arith, e, nat_tests) in
      let is : row ≡ set (row_at table f) b cost = sym (get_or_from_slice_get (set table.rows f (set (row_at table f) b cost)) g row [] at) ∙ ap (λ (k : ℕ). get_or (set table.rows f (set (row_at table f) b cost)) k []) same ∙ get_or-set_same table.rows f (set (row_at table f) b cost) [] low in
      ap length is ∙ length-set (row_at table f) b cost ∙ row_long program table f has low ∙ ap (λ (k : ℕ). length (blocks_at program k)) (sym same))
      (λ e.
      let other : g ≢ f = grind (arith, e, nat_tests) in
      let within : g < length table.rows = subst (λ (n : ℕ). g < n) (length-set table.rows f (set (row_at table f) b cost)) (slice_get_within (set table.rows f (set (row_at table f) b cost)) g row at) in
      let is : get_or table.rows g [] ≡ row = sym (get_or-set_other table.rows f g (set (row_at table f) b cost) [] other) ∙ get_or_from_slice_get (set table.rows f (set (row_at table f) b cost)) g row [] at in
      has.blocks g row (slice_get-get_or table.rows g [] within ∙ ap Some is));
}

-- the cost of the block itself
cost_there : (table : CostTable) (f b cost : ℕ) → f < length table.rows → b < length (row_at table f)
    → cost_at (with_cost table f b cost) f b ≡ cost
cost_there table f b cost low within =
    cost_get (with_cost table f b cost) f b
    ∙ ap (λ (row : List ℕ). get_or row b table.others) (get_or-set_same table.rows f (set (row_at table f) b cost) [] low)
    ∙ get_or-set_same (row_at table f) b cost table.others within

-- of another block of the function
cost_beside : (table : CostTable) (f b cost c : ℕ) → f < length table.rows → c ≢ b
    → cost_at (with_cost table f b cost) f c ≡ cost_at table f c
cost_beside table f b cost c low other =
    cost_get (with_cost table f b cost) f c
    ∙ ap (λ (row : List ℕ). get_or row c table.others) (get_or-set_same table.rows f (set (row_at table f) b cost) [] low)
    ∙ get_or-set_other (row_at table f) b c cost table.others other
    ∙ sym (unwrap_or-slice_get (row_at table f) c table.others)

-- of a block of another function
cost_elsewhere : (table : CostTable) (f b cost g c : ℕ) → g ≢ f
    → cost_at (with_cost table f b cost) g c ≡ cost_at table g c
cost_elsewhere table f b cost g c other =
    cost_get (with_cost table f b cost) g c
    ∙ ap (λ (row : List ℕ). get_or row c table.others) (get_or-set_other table.rows f g (set (row_at table f) b cost) [] other)
    ∙ sym (cost_get table g c)

-- the costs of a table with one of a block
pub cost_with : (table : CostTable) (f b cost g c : ℕ) → f < length table.rows → b < length (row_at table f) → cost_at (with_cost table f b cost) g c ≡ unwrap_or (if nat_eq g f && nat_eq c b then Some cost else None) (cost_at table g c)
cost_with table f b cost g c low within = by_test (nat_eq g f)
    (λ e.
    let same : f ≡ g = grind (arith, e, nat_tests) in
    by_test (nat_eq c b)
    (λ d.
    let equal : b ≡ c = grind (arith, d, nat_tests) in
    subst (λ (k : ℕ). cost_at (with_cost table f b cost) k c ≡ unwrap_or (if nat_eq g f && nat_eq c b then Some cost else None) (cost_at table g c)) same
    (subst (λ (k : ℕ). cost_at (with_cost table f b cost) f k ≡ unwrap_or (if nat_eq g f && nat_eq c b then Some cost else None) (cost_at table g c)) equal
    (rw (e, d) (cost_there table f b cost low within))))
    (λ d.
    let apart : c ≢ b = grind (arith, d, nat_tests) in
    rw (e, d) (subst (λ (k : ℕ). cost_at (with_cost table f b cost) k c ≡ cost_at table k c) same (cost_beside table f b cost c low apart))))
    (λ e.
    let other : g ≢ f = grind (arith, e, nat_tests) in
    rw e (cost_elsewhere table f b cost g c other))

-- the lists that vectors of costs stand for
abbrev pub rows_of : List (Vec ℕ Global) → List (List ℕ)
rows_of rows = map (λ (row : Vec ℕ Global). row.items) rows

-- a cost is written in its vector
pub with_set : (rows : List (Vec ℕ Global)) (others f b cost : ℕ) (row : Vec ℕ Global) → slice_get rows f ≡ Some row → ◌≡◌ {A = CostTable} (record { rows = rows_of (set rows f (with_item row b cost)); others = others }) (with_cost (record { rows = rows_of rows; others = others }) f b cost)
with_set rows others f b cost row at =
    let is : slice_get (rows_of rows) f ≡ Some row.items = slice_get-map (λ (r : Vec ℕ Global). r.items) rows f ∙ ap (option_map (λ (r : Vec ℕ Global). r.items)) at in
    rw (map-set (λ (r : Vec ℕ Global). r.items) rows f (with_item row b cost), is) refl
