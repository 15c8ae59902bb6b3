-- Rows of frames, by their numbers and their names.
use Rattle.std.specs.Prelude.{slice_get, if◌then◌else◌}
use Rattle.std.specs.Option.{option_map}
use Rattle.std.specs.List.{flat_map}
use Rattle.std.proofs.Common.{◌≡◌, ◌≢◌, ◌≤◌, ◌+◌, ℕ, zero, suc, Bool, true, false, List, [], ◌∷◌, ◌++◌, map, length, Contains, Option, Some, None, refl, sym, ap, ◌∙◌, subst, arith, ltb, ltb-true, ltb-false, append_assoc, bytes_eq}
use Rattle.std.proofs.lemmas.Option.{none-some, same_Some}
use Rattle.std.proofs.lemmas.Bool.{and_parts, and_from, eqb-true, eq-eqb}
use Rattle.std.proofs.lemmas.Slice.Eq.{bytes_eq-Decides}
use Rattle.lists.specs.TestLaws.{by_test}
use Rattle.lists.specs.MemberLaws.{placed as member_at}
use Rattle.alf_program.specs.Tree.{Allocation, Function, WholeProgram}
use Rattle.alf_program.specs.Writable.{own_frames, frames_of}
use Rattle.alf_faults.specs.Places.{frame_place}
use Rattle.alf_check.specs.declared.rows.FrameRow.{FrameRow}
use Rattle.alf_check.specs.Numbers.{row_for, rows_of, rows_from, frame_rows, frames_before, first_frame}
use Rattle.c_lowered.specs.Names.{same_owner}
use Rattle.lowering_layout.specs.Lists.{Apart}
use Rattle.lowering_layout.proofs.ListLemmas.{each_of_image}
use Rattle.lowering_layout.specs.ListLaws.{apart_at}
use Rattle.lowering_layout.specs.PartFrames.{DifferInName}
use Rattle.lowering_values.specs.Frames.{is_row_of, row_number}

-- ---- names

pub same_bytes : (a b : List ℕ) → bytes_eq a b ≡ true → a ≡ b
same_bytes a b is = (bytes_eq-Decides a b).0 is

pub own_bytes : (a b : List ℕ) → a ≡ b → bytes_eq a b ≡ true
own_bytes a b is = (bytes_eq-Decides a b).1 is

one_owner : (a b : Option ℕ) → same_owner a b ≡ true → a ≡ b
one_owner None None is = refl
one_owner None (Some g) is = absurd (let bad : false ≡ true = is in cc)
one_owner (Some f) None is = absurd (let bad : false ≡ true = is in cc)
one_owner (Some f) (Some g) is = ap (λ (n : ℕ). Some n) (eqb-true f g is)

owner_itself : (a : Option ℕ) → same_owner a a ≡ true
owner_itself None = refl
owner_itself (Some f) = eq-eqb f f refl

-- ---- the first frame of a name

pub record IsPlaced (frames : List Allocation) (name : List ℕ) (p : ℕ) : Type 0 where
  pub frame : Allocation
  pub at : slice_get frames p ≡ Some frame
  pub named : frame.name ≡ name

pub placed_at : (frames : List Allocation) (name : List ℕ) (p : ℕ) → frame_place frames name ≡ Some p
    → IsPlaced frames name p
placed_at [] name p is = absurd (none-some p is)
placed_at (a ∷ others) name p is =
    by_test (bytes_eq a.name name)
    (λ same.
    let first : 0 ≡ p = same_Some 0 p (sym (ap (λ (b : Bool). if b then Some 0 else option_map (λ place. place + 1) (frame_place others name)) same) ∙ is) in
    subst (λ (n : ℕ). IsPlaced (a ∷ others) name n) first (record { frame = a; at = refl; named = same_bytes a.name name same }))
    (λ other. further (frame_place others name) (λ q known. placed_at others name q known) (sym (ap (λ (b : Bool). if b then Some 0 else option_map (λ place. place + 1) (frame_place others name)) other) ∙ is))
  where
    further : (found : Option ℕ) → ((q : ℕ) → found ≡ Some q → IsPlaced others name q)
        → option_map (λ place. place + 1) found ≡ Some p → IsPlaced (a ∷ others) name p
    further None later is = absurd (none-some p is)
    further (Some q) later is =
        let rest = later q refl in
        let next : suc q ≡ p = let e : q + 1 ≡ p = same_Some (q + 1) p is in omega (arith, e) in
        subst (λ (n : ℕ). IsPlaced (a ∷ others) name n) next (record { frame = rest.frame; at = rest.at; named = rest.named })

none_of : (found : Option ℕ) → option_map (λ (place : ℕ). place + 1) found ≡ None → found ≡ None
none_of None is = refl
none_of (Some q) is = absurd (none-some (q + 1) (sym is))

not_both : false ≡ true → ⊥
not_both is = cc

none_at : (frames : List Allocation) (name : List ℕ) → frame_place frames name ≡ None → (i : ℕ) (a : Allocation)
    → slice_get frames i ≡ Some a → a.name ≢ name
none_at [] name is i a at e = none-some a at
none_at (b ∷ bs) name is zero a at e =
    by_test (bytes_eq b.name name)
    (λ same. none-some 0 (sym is ∙ ap (λ (t : Bool). if t then Some 0 else option_map (λ place. place + 1) (frame_place bs name)) same))
    (λ other. not_both (sym other ∙ own_bytes b.name name (ap (λ (x : Allocation). x.name) (same_Some b a at) ∙ e)))
none_at (b ∷ bs) name is (suc i) a at e =
    by_test (bytes_eq b.name name)
    (λ same. none-some 0 (sym is ∙ ap (λ (t : Bool). if t then Some 0 else option_map (λ place. place + 1) (frame_place bs name)) same))
    (λ other. none_at bs name (none_of (frame_place bs name) (sym (ap (λ (t : Bool). if t then Some 0 else option_map (λ place. place + 1) (frame_place bs name)) other) ∙ is)) i a at e)

pub not_placed : (frames : List Allocation) (name : List ℕ) → frame_place frames name ≡ None → (a : Allocation)
    → Contains frames a → a.name ≢ name
not_placed frames name is a c e = none_at frames name is c.0 a (member_at frames a c) e

-- ---- the first row of an owner and a name

pub record IsFound (rows : List FrameRow) (owner : Option ℕ) (name : List ℕ) (n : ℕ) : Type 0 where
  pub row : FrameRow
  pub at : slice_get rows n ≡ Some row
  pub owned : row.owner ≡ owner
  pub named : row.name ≡ name

row_first : (owner : Option ℕ) (name : List ℕ) (r : FrameRow) (rs : List FrameRow) → is_row_of owner name r ≡ true
    → IsFound (r ∷ rs) owner name (row_number owner name (r ∷ rs))
row_first owner name r rs first =
    let parts = and_parts (same_owner r.owner owner) (bytes_eq r.name name) first in
    subst (λ (b : Bool). IsFound (r ∷ rs) owner name (if b then 0 else suc (row_number owner name rs))) (sym first)
    (record { row = r; at = refl; owned = one_owner r.owner owner parts.0; named = same_bytes r.name name parts.1 })

row_later : (owner : Option ℕ) (name : List ℕ) (r : FrameRow) (rs : List FrameRow) → is_row_of owner name r ≡ false
    → IsFound rs owner name (row_number owner name rs) → IsFound (r ∷ rs) owner name (row_number owner name (r ∷ rs))
row_later owner name r rs other rest =
    subst (λ (b : Bool). IsFound (r ∷ rs) owner name (if b then 0 else suc (row_number owner name rs))) (sym other)
    (record { row = rest.row; at = rest.at; owned = rest.owned; named = rest.named })

is_own : (owner : Option ℕ) (name : List ℕ) (r : FrameRow) → r.owner ≡ owner → r.name ≡ name
    → is_row_of owner name r ≡ true
is_own owner name r owned named =
    and_from (same_owner r.owner owner) (bytes_eq r.name name) (subst (λ (x : Option ℕ). same_owner r.owner x ≡ true) owned (owner_itself r.owner)) (own_bytes r.name name named)

pub found_row : (owner : Option ℕ) (name : List ℕ) (rows : List FrameRow) (i : ℕ) (row : FrameRow)
    → slice_get rows i ≡ Some row → row.owner ≡ owner → row.name ≡ name
    → IsFound rows owner name (row_number owner name rows)
found_row owner name [] i row at owned named = absurd (none-some row at)
found_row owner name (r ∷ rs) zero row at owned named =
    let here : r ≡ row = same_Some r row at in
    row_first owner name r rs (is_own owner name r (ap (λ (x : FrameRow). x.owner) here ∙ owned) (ap (λ (x : FrameRow). x.name) here ∙ named))
found_row owner name (r ∷ rs) (suc i) row at owned named =
    by_test (is_row_of owner name r) (λ first. row_first owner name r rs first) (λ other. row_later owner name r rs other (found_row owner name rs i row at owned named))

-- ---- rows with names of their own

abbrev pub RowsDiffer : FrameRow → FrameRow → Type 0
RowsDiffer r s = r.name ≢ s.name

abbrev frame_in : FrameRow → Allocation
frame_in row = record { name = row.name; bits = row.bits }

owner_rows : (owner : Option ℕ) (frames : List Allocation) → map frame_in (rows_of owner frames) ≡ frames
owner_rows owner [] = refl
owner_rows owner (a ∷ others) = ap (λ (xs : List Allocation). a ∷ xs) (owner_rows owner others)

map_joined : (xs ys : List FrameRow) → map frame_in (xs ++ ys) ≡ map frame_in xs ++ map frame_in ys
map_joined [] ys = refl
map_joined (x ∷ xs) ys = ap (λ (zs : List Allocation). frame_in x ∷ zs) (map_joined xs ys)

function_rows : (k : ℕ) (funcs : List Function) → map frame_in (rows_from k funcs) ≡ flat_map own_frames funcs
function_rows k [] = refl
function_rows k (func ∷ funcs) =
    map_joined (rows_of (Some k) func.args) (rows_of (Some k) func.decls ++ rows_from (suc k) funcs)
    ∙ ap (λ (xs : List Allocation). xs ++ map frame_in (rows_of (Some k) func.decls ++ rows_from (suc k) funcs)) (owner_rows (Some k) func.args)
    ∙ ap (λ (xs : List Allocation). func.args ++ xs)
    (map_joined (rows_of (Some k) func.decls) (rows_from (suc k) funcs)
    ∙ ap (λ (xs : List Allocation). xs ++ map frame_in (rows_from (suc k) funcs)) (owner_rows (Some k) func.decls)
    ∙ ap (λ (xs : List Allocation). func.decls ++ xs) (function_rows (suc k) funcs))
    ∙ sym (append_assoc func.args func.decls (flat_map own_frames funcs))

all_rows : (whole : WholeProgram) → map frame_in (frame_rows whole) ≡ frames_of whole
all_rows whole =
    map_joined (rows_of None whole.decls) (rows_from 0 whole.funcs)
    ∙ ap (λ (xs : List Allocation). xs ++ map frame_in (rows_from 0 whole.funcs)) (owner_rows None whole.decls)
    ∙ ap (λ (xs : List Allocation). whole.decls ++ xs) (function_rows 0 whole.funcs)

of_image : (rows : List FrameRow) → Apart DifferInName (map frame_in rows) → Apart RowsDiffer rows
of_image [] apart = tt
of_image (r ∷ rs) apart = (each_of_image (DifferInName (frame_in r)) frame_in rs apart.0, of_image rs apart.1)

pub rows_apart : (whole : WholeProgram) → Apart DifferInName (frames_of whole) → Apart RowsDiffer (frame_rows whole)
rows_apart whole apart = of_image (frame_rows whole) (subst (λ (xs : List Allocation). Apart DifferInName xs) (sym (all_rows whole)) apart)

pub one_number : (rows : List FrameRow) (i j : ℕ) (r s : FrameRow) → Apart RowsDiffer rows → slice_get rows i ≡ Some r
    → slice_get rows j ≡ Some s → r.name ≡ s.name → i ≡ j
one_number rows i j r s apart at_i at_j same =
    by_test (ltb i j)
    (λ low. absurd (apart_at RowsDiffer rows i j r s at_i at_j (ltb-true i j low) apart same))
    (λ high. by_test (ltb j i)
    (λ low. absurd (apart_at RowsDiffer rows j i s r at_j at_i (ltb-true j i low) apart (sym same)))
    (λ other. let p : j ≤ i = ltb-false i j high in let q : i ≤ j = ltb-false j i other in omega (arith, p, q)))

-- ---- where rows stand

pub at_left : {A : Type 0} (xs ys : List A) (i : ℕ) (x : A) → slice_get xs i ≡ Some x → slice_get (xs ++ ys) i ≡ Some x
at_left [] ys i x at = absurd (none-some x at)
at_left (z ∷ xs) ys zero x at = at
at_left (z ∷ xs) ys (suc i) x at = at_left xs ys i x at

pub at_right : {A : Type 0} (xs ys : List A) (i : ℕ) → slice_get (xs ++ ys) (length xs + i) ≡ slice_get ys i
at_right [] ys i = ap (λ (n : ℕ). slice_get ys n) (let e : 0 + i ≡ i = omega arith in e)
at_right (x ∷ xs) ys i = ap (λ (n : ℕ). slice_get (x ∷ (xs ++ ys)) n) (let e : suc (length xs) + i ≡ suc (length xs + i) = omega arith in e) ∙ at_right xs ys i

rows_count : (owner : Option ℕ) (frames : List Allocation) → length (rows_of owner frames) ≡ length frames
rows_count owner [] = refl
rows_count owner (a ∷ others) = ap suc (rows_count owner others)

row_at : (owner : Option ℕ) (frames : List Allocation) (i : ℕ) (a : Allocation) → slice_get frames i ≡ Some a
    → slice_get (rows_of owner frames) i ≡ Some (row_for owner a)
row_at owner [] i a at = absurd (none-some a at)
row_at owner (b ∷ bs) zero a at = ap (λ (x : Option Allocation). option_map (row_for owner) x) at
row_at owner (b ∷ bs) (suc i) a at = row_at owner bs i a at

past_rows : (owner : Option ℕ) (frames : List Allocation) (rest : List FrameRow) (i : ℕ)
    → slice_get (rows_of owner frames ++ rest) (length frames + i) ≡ slice_get rest i
past_rows owner frames rest i =
    ap (λ (n : ℕ). slice_get (rows_of owner frames ++ rest) (n + i)) (sym (rows_count owner frames)) ∙ at_right (rows_of owner frames) rest i

-- past the rows of the first function
past_function : (k : ℕ) (g : Function) (gs : List Function) (n j : ℕ)
    → slice_get (rows_from k (g ∷ gs)) (((length g.args + length g.decls) + n) + j) ≡ slice_get (rows_from (suc k) gs) (n + j)
past_function k g gs n j =
    ap (λ (i : ℕ). slice_get (rows_from k (g ∷ gs)) i) (let e : ((length g.args + length g.decls) + n) + j ≡ length g.args + (length g.decls + (n + j)) = omega arith in e)
    ∙ past_rows (Some k) g.args (rows_of (Some k) g.decls ++ rows_from (suc k) gs) (length g.decls + (n + j))
    ∙ past_rows (Some k) g.decls (rows_from (suc k) gs) (n + j)

arg_row : (k : ℕ) (funcs : List Function) (f : ℕ) (func : Function) (j : ℕ) (a : Allocation)
    → slice_get funcs f ≡ Some func → slice_get func.args j ≡ Some a
    → slice_get (rows_from k funcs) (frames_before funcs f + j) ≡ Some (row_for (Some (k + f)) a)
arg_row k [] f func j a at at_arg = absurd (none-some func at)
arg_row k (g ∷ gs) zero func j a at at_arg =
    let here : g ≡ func = same_Some g func at in
    subst (λ (n : ℕ). slice_get (rows_from k (g ∷ gs)) n ≡ Some (row_for (Some (k + 0)) a)) (let e : j ≡ 0 + j = omega arith in e)
    (subst (λ (n : ℕ). slice_get (rows_from k (g ∷ gs)) j ≡ Some (row_for (Some n) a)) (let e : k ≡ k + 0 = omega arith in e)
    (at_left (rows_of (Some k) g.args) (rows_of (Some k) g.decls ++ rows_from (suc k) gs) j (row_for (Some k) a)
    (row_at (Some k) g.args j a (ap (λ (x : Function). slice_get x.args j) here ∙ at_arg))))
arg_row k (g ∷ gs) (suc f) func j a at at_arg =
    past_function k g gs (frames_before gs f) j
    ∙ arg_row (suc k) gs f func j a at at_arg
    ∙ ap (λ (n : ℕ). Some (row_for (Some n) a)) (let e : suc k + f ≡ k + suc f = omega arith in e)

decl_row : (k : ℕ) (funcs : List Function) (f : ℕ) (func : Function) (j : ℕ) (a : Allocation)
    → slice_get funcs f ≡ Some func → slice_get func.decls j ≡ Some a
    → slice_get (rows_from k funcs) (frames_before funcs f + (length func.args + j)) ≡ Some (row_for (Some (k + f)) a)
decl_row k [] f func j a at at_decl = absurd (none-some func at)
decl_row k (g ∷ gs) zero func j a at at_decl =
    let here : g ≡ func = same_Some g func at in
    ap (λ (n : ℕ). slice_get (rows_from k (g ∷ gs)) n) (let e : 0 + (length func.args + j) ≡ length func.args + j = omega arith in e)
    ∙ ap (λ (x : Function). slice_get (rows_from k (g ∷ gs)) (length x.args + j)) (sym here)
    ∙ past_rows (Some k) g.args (rows_of (Some k) g.decls ++ rows_from (suc k) gs) j
    ∙ at_left (rows_of (Some k) g.decls) (rows_from (suc k) gs) j (row_for (Some k) a) (row_at (Some k) g.decls j a (ap (λ (x : Function). slice_get x.decls j) here ∙ at_decl))
    ∙ ap (λ (n : ℕ). Some (row_for (Some n) a)) (let e : k ≡ k + 0 = omega arith in e)
decl_row k (g ∷ gs) (suc f) func j a at at_decl =
    past_function k g gs (frames_before gs f) (length func.args + j)
    ∙ decl_row (suc k) gs f func j a at at_decl
    ∙ ap (λ (n : ℕ). Some (row_for (Some n) a)) (let e : suc k + f ≡ k + suc f = omega arith in e)

module _ (whole : WholeProgram) where
  pub global_at : (j : ℕ) (a : Allocation) → slice_get whole.decls j ≡ Some a
      → slice_get (frame_rows whole) j ≡ Some (row_for None a)
  global_at j a at = at_left (rows_of None whole.decls) (rows_from 0 whole.funcs) j (row_for None a) (row_at None whole.decls j a at)

  pub arg_at : (f : ℕ) (func : Function) (j : ℕ) (a : Allocation) → slice_get whole.funcs f ≡ Some func
      → slice_get func.args j ≡ Some a
      → slice_get (frame_rows whole) (first_frame whole f + j) ≡ Some (row_for (Some f) a)
  arg_at f func j a at at_arg =
      ap (λ (n : ℕ). slice_get (frame_rows whole) n) (let e : (length whole.decls + frames_before whole.funcs f) + j ≡ length whole.decls + (frames_before whole.funcs f + j) = omega arith in e)
      ∙ past_rows None whole.decls (rows_from 0 whole.funcs) (frames_before whole.funcs f + j)
      ∙ arg_row 0 whole.funcs f func j a at at_arg
      ∙ ap (λ (n : ℕ). Some (row_for (Some n) a)) (let e : 0 + f ≡ f = omega arith in e)

  pub decl_at : (f : ℕ) (func : Function) (j : ℕ) (a : Allocation) → slice_get whole.funcs f ≡ Some func
      → slice_get func.decls j ≡ Some a
      → slice_get (frame_rows whole) ((first_frame whole f + length func.args) + j) ≡ Some (row_for (Some f) a)
  decl_at f func j a at at_decl =
      ap (λ (n : ℕ). slice_get (frame_rows whole) n)
      (let e : ((length whole.decls + frames_before whole.funcs f) + length func.args) + j ≡ length whole.decls + (frames_before whole.funcs f + (length func.args + j)) = omega arith in e)
      ∙ past_rows None whole.decls (rows_from 0 whole.funcs) (frames_before whole.funcs f + (length func.args + j))
      ∙ decl_row 0 whole.funcs f func j a at at_decl
      ∙ ap (λ (n : ℕ). Some (row_for (Some n) a)) (let e : 0 + f ≡ f = omega arith in e)
