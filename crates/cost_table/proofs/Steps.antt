-- Entries one after the other.
--   more_entries   the first entries and one more
--   more_rows      the rows of the first entries and of one more
--   right_more     the first entries are right, and one more
--   RowsSoFar      rows and marks of the first entries, which are right
--   all_right      all are, where as many are as there are
use Rattle.std.proofs.Common.{◌≡◌, ◌<◌, ◌≤◌, ◌+◌, ⊎_elim, ◌*◌, ℕ, Bool, List, [], ◌∷◌, ◌++◌, length, take, Some, slice_get, refl, ap, sym, ◌∙◌, subst, arith}
use Rattle.std.specs.List.{flat_map}
use Rattle.std.proofs.lemmas.List.{append-nil, take_more, take_all}
use Rattle.std.proofs.lemmas.List.Elements.{All-nil}
use Rattle.std.proofs.lemmas.Grind.{flat_map-append}
use Rattle.std.proofs.lemmas.Option.{same_Some, slice_get_within, get_or_from_slice_get}
use Rattle.toml.specs.Data.{Data}
use Rattle.cost_table.specs.Entries.{AllRight, Judging, RightBelow}
use Rattle.alf_check.specs.declared.rows.InputRow.{InputRow}
use Rattle.alf_check.specs.CheckedPrograms.{NumberedProgram}
use Rattle.alf_check.specs.Inputs.{KeepInputs, KeepsInput}
use Rattle.cost_table.specs.Inputs.{IsRightInput, entry_rows, input_judging, rows_in}
use Rattle.cost_table.specs.Marks.{AreMarks}
use Rattle.cost_table.proofs.Orders.{below_or_not}

-- the first entries and one more
pub more_entries : {A : Type 0} (xs : List A) (i : ℕ) (x : A) → slice_get xs i ≡ Some x
    → take (i + 1) xs ≡ take i xs ++ x ∷ []
more_entries xs i x at = take_more xs i x (slice_get_within xs i x at) ∙ ap (λ y. take i xs ++ y ∷ []) (get_or_from_slice_get xs i x x at)

-- what is made of the first entries and of one more
pub more_made : {A B : Type 0} (f : A → List B) (xs : List A) (i : ℕ) (x : A) → slice_get xs i ≡ Some x
    → flat_map f (take (i + 1) xs) ≡ flat_map f (take i xs) ++ f x
more_made f xs i x at = ap (flat_map f) (more_entries xs i x at) ∙ flat_map-append f (take i xs) (x ∷ []) ∙ simp append-nil

-- the first entries are right, and one more
pub right_more : (judging : Judging) (entries : List Data) (i : ℕ) (datum : Data) → RightBelow judging entries i
    → slice_get entries i ≡ Some datum → judging.Right (take i entries) i datum → RightBelow judging entries (i + 1)
right_more judging entries i datum below at right = λ k other low stands. ⊎_elim
    (λ (before : k < i). below k other before stands)
    (λ (last : i ≤ k).
    let same : i ≡ k = omega arith in
    let is : datum ≡ other = same_Some datum other (sym at ∙ ap (slice_get entries) same ∙ stands) in
    subst (λ (j : ℕ). judging.Right (take j entries) j other) same (subst (judging.Right (take i entries) i) is right))
    (below_or_not k i)

-- all are right, where as many are as there are
pub all_right : (judging : Judging) (entries : List Data) (n : ℕ) → n ≡ length entries → RightBelow judging entries n
    → AllRight judging entries
all_right judging entries n e below = λ k datum stands. below k datum (let low = slice_get_within entries k datum stands in omega arith) stands

-- what is made of as many as there are is made of all
pub all_made : {A B : Type 0} (f : A → List B) (xs : List A) (n : ℕ) → n ≡ length xs
    → flat_map f (take n xs) ≡ flat_map f xs
all_made f xs n e = ap (flat_map f) (take_all n xs (omega arith))

-- rows and marks of the first n entries, which are right
pub record RowsSoFar (program : NumberedProgram) (entries : List Data) (n : ℕ) (rows : List InputRow)
    (marks : List Bool) : Type 0 where
  pub within : n ≤ length entries
  pub kept : KeepInputs program rows
  pub long : length marks ≡ length program.frames * 65536
  pub marked : AreMarks rows marks
  pub rows_are : rows ≡ rows_in program (take n entries)
  pub below : RightBelow (input_judging program) entries n

-- the rows and marks of one entry more
pub one_more : (program : NumberedProgram) (entries : List Data) (n : ℕ) (rows more : List InputRow) (marks new : List Bool) (datum : Data) → RowsSoFar program entries n rows marks → slice_get entries n ≡ Some datum → IsRightInput program rows datum → more ≡ rows ++ entry_rows program datum → KeepInputs program more → length new ≡ length marks → AreMarks more new → RowsSoFar program entries (n + 1) more new
one_more program entries n rows more marks new datum so_far at right more_is kept same marked = record {
  within = let low = slice_get_within entries n datum at in omega arith;
  kept = kept;
  long = same ∙ so_far.long;
  marked = marked;
  rows_are = more_is ∙ ap (λ first. first ++ entry_rows program datum) so_far.rows_are ∙ sym (more_made (entry_rows program) entries n datum at);
  below = right_more (input_judging program) entries n datum so_far.below at (subst (λ earlier. IsRightInput program earlier datum) so_far.rows_are right);
}

-- before the first entry
pub none_yet : (program : NumberedProgram) (entries : List Data) (marks : List Bool)
    → length marks ≡ length program.frames * 65536 → AreMarks [] marks → RowsSoFar program entries 0 [] marks
none_yet program entries marks long none = record {
  within = omega arith;
  kept = record { each = All-nil (KeepsInput program); apart = λ i j d less low. absurd (omega arith) };
  long = long;
  marked = none;
  rows_are = refl;
  below = λ k datum low stands. absurd (omega arith);
}
