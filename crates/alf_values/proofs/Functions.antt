-- What the functions' states say after one of them was entered or left.
--   get_map               a member of a list that was mapped
--   live_same, live_other   whether the frames of the function are active then, and those of another
--   mark_other, mark_kept, mark_grows   the marks then
use Rattle.std.specs.Prelude.{slice_get, slice_set}
use Rattle.std.specs.Option.{option_map}
use Rattle.std.proofs.Common.{◌≡◌, ◌≢◌, inl, inr, sym, ◌∙◌, ap, ℕ, suc, zero, List, [], ◌∷◌, map, Option, Some, None, refl, arith, ◌<◌, ◌≤◌, length}
use Rattle.std.proofs.lemmas.Bool.{cases_eq}
use Rattle.std.proofs.lemmas.Option.{slice_get-map}
use Rattle.alf_values.specs.declared.cells.Activity.{Activity}
use Rattle.alf_values.specs.Memories.{is_live, true_or}
use Rattle.alf_values.specs.Cells.{mark_of, mark_or, running_of}
use Rattle.alf_values.proofs.Writes.{get_set_same, get_set_other}

-- a member of a list that was mapped
pub get_map : {A B : Type 0} (f : A → B) (xs : List A) (i : ℕ) (x : A) → slice_get xs i ≡ Some x
    → slice_get (map f xs) i ≡ Some (f x)
get_map f xs i x is = slice_get-map f xs i ∙ ap (option_map f) is

-- it is one of a member
pub record IsMapped {A B : Type 0} (f : A → B) (xs : List A) (i : ℕ) (y : B) : Type 0 where
  pub member : A
  pub known : slice_get xs i ≡ Some member
  pub image : f member ≡ y

pub map_found : {A B : Type 0} (f : A → B) (xs : List A) (i : ℕ) (y : B) → slice_get (map f xs) i ≡ Some y
    → IsMapped f xs i y
map_found f [] i y is = cc
map_found f (x ∷ xs) zero y is = record { member = x; known = refl; image = cc }
map_found f (x ∷ xs) (suc i) y is = let h = map_found f xs i y is in record { member = h.member; known = h.known; image = h.image }

module _ (functions : List Activity) (function : ℕ) (activity : Activity) where
  -- the function that was set
  pub live_same : (own : ℕ) → own ≡ function → function < length functions
      → is_live (running_of (slice_set functions function activity)) (Some own) ≡ activity.runs
  live_same own same low =
      ap (λ (n : ℕ). is_live (running_of (slice_set functions function activity)) (Some n)) same
      ∙ ap true_or (get_map (λ one. one.runs) (slice_set functions function activity) function activity (get_set_same functions function activity low))

  -- another function
  pub live_other : (own : ℕ) → own ≢ function → is_live (running_of (slice_set functions function activity)) (Some own) ≡ is_live (running_of functions) (Some own)
  live_other own other = ap true_or
      (slice_get-map (λ one. one.runs) (slice_set functions function activity) own
      ∙ (ap (option_map (λ one. one.runs)) (get_set_other functions function own activity other)
      ∙ sym (slice_get-map (λ one. one.runs) functions own)))

  -- the marks of the frames of the function, and of others
  pub mark_same : (own : ℕ) → own ≡ function → function < length functions
      → mark_of (slice_set functions function activity) (Some own) ≡ activity.mark
  mark_same own same low =
      ap (λ (n : ℕ). mark_of (slice_set functions function activity) (Some n)) same ∙ ap mark_or (get_set_same functions function activity low)

  pub mark_other : (own : ℕ) → own ≢ function
      → mark_of (slice_set functions function activity) (Some own) ≡ mark_of functions (Some own)
  mark_other own other = ap mark_or (get_set_other functions function own activity other)

  -- a mark that is set again
  pub mark_kept : (owner : Option ℕ) → function < length functions → activity.mark ≡ mark_of functions (Some function)
      → mark_of (slice_set functions function activity) owner ≡ mark_of functions owner
  mark_kept None low is = refl
  mark_kept (Some own) low is = elim (cases_eq own function) [
    | inl same ↦ mark_same own same low ∙ (is ∙ ap (λ (n : ℕ). mark_of functions (Some n)) (sym same))
    | inr other ↦ mark_other own other
  ]

  -- a mark that is no less
  pub mark_grows : (owner : Option ℕ) → function < length functions → mark_of functions (Some function) ≤ activity.mark
      → mark_of functions owner ≤ mark_of (slice_set functions function activity) owner
  mark_grows None low is = omega arith
  mark_grows (Some own) low is = elim (cases_eq own function) [
    | inl same ↦
        let before : mark_of functions (Some own) ≡ mark_of functions (Some function) = ap (λ (n : ℕ). mark_of functions (Some n)) same in
        rw (mark_same own same low, before) is
    | inr other ↦ rw (mark_other own other) (omega arith)
  ]
