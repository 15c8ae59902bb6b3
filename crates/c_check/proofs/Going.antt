-- How the text of a unit is gone through.
--   IsUnderWay words names all rest count known   after so many definitions, what is left has the faults of all
--   begins    so it is at first
--   goes_on   so it is after one more that has no fault
--   stops_at  the first fault of one more is that of all
--   ends      where nothing is left there is no fault
use Rattle.std.proofs.Common.{◌≡◌, ◌+◌, ◌≤◌, ℕ, zero, suc, List, [], ◌∷◌, ◌++◌, length, take, drop, reverse, Err, refl, ap, sym, ◌∙◌, subst, arith}
use Rattle.std.specs.Prelude.{⊤}
use Rattle.std.proofs.lemmas.List.{reverse-append}
use Rattle.c_unit.specs.declared.types.Outcome.{Outcome}
use Rattle.c_unit.specs.Tree.{DeclaratorTree, ExternalTree, Declaration, Definition}
use Rattle.c_unit.specs.Units.{Word}
use Rattle.c_rules.specs.Faults.{Fault}
use Rattle.c_rules.specs.Names.{innermost}
use Rattle.c_rules.specs.Units.{File, definitions, with_global, global_bound, with_declarators, external_faults, external_after, externals_faults}
use Rattle.c_scopes.specs.Numbers.{made_by}
use Rattle.c_scopes.specs.Views.{Known}
use Rattle.c_faults.specs.Tells.{Tells}
use Rattle.c_faults.specs.declared.stop.Stop.{Stop}
use Rattle.c_faults.specs.declared.stop.Stop.TheVariants as stops
use Rattle.c_scopes.specs.FirstFaultLaws.{before_others}
use Rattle.c_faults.specs.Files.{IsFile}
use Rattle.c_faults.specs.FileLaws.{known_at}
use Rattle.c_check.specs.Progress.{file_at}

abbrev pub start : File
start = record { scope = []; made = [] }

pub record IsUnderWay (words : List Word) (names : List ℕ) (all rest : List ExternalTree) (count : ℕ)
    (known : Known) : Type 0 where
  pub file : IsFile known
  pub words_same : known.words ≡ words
  pub faults : externals_faults words names start all ≡ externals_faults words names (file_at known names count) rest
  pub names_left : drop count names ≡ definitions rest

-- ---- names after a count

take_next : (names : List ℕ) (count name : ℕ) (more : List ℕ) → drop count names ≡ name ∷ more
    → take (suc count) names ≡ take count names ++ name ∷ []
take_next [] zero name more left = cc
take_next [] (suc count) name more left = cc
take_next (x ∷ xs) zero name more left = cc
take_next (x ∷ xs) (suc count) name more left = ap (λ (ys : List ℕ). x ∷ ys) (take_next xs count name more left)

drop_next : (names : List ℕ) (count name : ℕ) (more : List ℕ) → drop count names ≡ name ∷ more
    → drop (suc count) names ≡ more
drop_next [] zero name more left = cc
drop_next [] (suc count) name more left = cc
drop_next (x ∷ xs) zero name more left = cc
drop_next (x ∷ xs) (suc count) name more left = drop_next xs count name more left

room_next : (names : List ℕ) (count name : ℕ) (more : List ℕ) → drop count names ≡ name ∷ more
    → suc count ≤ length names
room_next [] zero name more left = cc
room_next [] (suc count) name more left = cc
room_next (x ∷ xs) zero name more left = omega arith
room_next (x ∷ xs) (suc count) name more left = let further = room_next xs count name more left in omega arith

room : (names : List ℕ) (count : ℕ) → drop count names ≡ [] → count ≤ length names → count + 0 ≤ length names
room names count left low = omega arith

-- ---- one more

made_kept : (o : Outcome) (file : File) (ds : List DeclaratorTree) → (with_declarators o file ds).made ≡ file.made
made_kept o file [] = refl
made_kept o file (d ∷ ds) = made_kept o (with_global file d.name (global_bound o d.shape)) ds

made_after : (names : List ℕ) (count : ℕ) (known : Known) (x : ExternalTree) (xs : List ExternalTree)
    → drop count names ≡ definitions (x ∷ xs)
    → (external_after (file_at known names count) x).made ≡ reverse (take (count + length (made_by x)) names)
made_after names count known (Declaration first o ds) xs left = let same : count + 0 ≡ count = omega arith in rw same (made_kept o (file_at known names count) ds)
made_after names count known (Definition first o name params body) xs left =
    let same : count + 1 ≡ suc count = omega arith in
    rw (same, take_next names count name (definitions xs) left) (sym (reverse-append (take count names) (name ∷ [])))

left_after : (names : List ℕ) (count : ℕ) (x : ExternalTree) (xs : List ExternalTree)
    → drop count names ≡ definitions (x ∷ xs) → drop (count + length (made_by x)) names ≡ definitions xs
left_after names count (Declaration first o ds) xs left = let same : count + 0 ≡ count = omega arith in rw same left
left_after names count (Definition first o name params body) xs left = let same : count + 1 ≡ suc count = omega arith in rw same (drop_next names count name (definitions xs) left)

module _ (words : List Word) (names : List ℕ) (all : List ExternalTree) where
  pub begins : names ≡ definitions all → IsUnderWay words names all all 0 (known_at words [])
  begins are = record { file = refl; words_same = refl; faults = refl; names_left = are }

  pub goes_on :
      (x : ExternalTree) (xs : List ExternalTree) (count after : ℕ) (known next : Known) → IsUnderWay words names all (x ∷ xs) count known
      → external_faults known.words names (file_at known names count) x ≡ [] → next ≡ known_at known.words (external_after (file_at known names count) x).scope
      → after ≡ count + length (made_by x) → IsUnderWay words names all xs after next
  goes_on x xs count after known next way none is counted =
      let file = external_after (file_at known names count) x in
      let words_next : next.words ≡ words = ap (λ (k : Known). k.words) is ∙ way.words_same in
      let scope : innermost next.scopes ≡ file.scope = ap (λ (k : Known). innermost k.scopes) is in
      let made : reverse (take after names) ≡ file.made = ap (λ (n : ℕ). reverse (take n names)) counted ∙ sym (made_after names count known x xs way.names_left) in
      let here : file_at next names after ≡ file = rw (scope, made) refl in
      record {
        file = subst (λ (k : Known). IsFile k) (sym is) refl;
        words_same = words_next;
        faults =
            way.faults
            ∙ ap (λ (faults : List Fault). faults ++ externals_faults words names file xs) (ap (λ ws. external_faults ws names (file_at known names count) x) (sym way.words_same) ∙ none)
            ∙ ap (λ (f : File). externals_faults words names f xs) (sym here);
        names_left = ap (λ (n : ℕ). drop n names) counted ∙ left_after names count x xs way.names_left;
      }

  first_stop : (stop : Stop) (xs ys : List Fault) → Tells {A = ⊤} (Err stop) xs → Tells {A = ⊤} (Err stop) (xs ++ ys)
  first_stop (stops.Fault fault) xs ys told = before_others xs ys told
  first_stop stops.Memory xs ys told = tt

  pub stops_at :
      (x : ExternalTree) (xs : List ExternalTree) (count : ℕ) (known : Known) (stop : Stop) → IsUnderWay words names all (x ∷ xs) count known
      → Tells {A = ⊤} (Err stop) (external_faults known.words names (file_at known names count) x) → Tells {A = ⊤} (Err stop) (externals_faults words names start all)
  stops_at x xs count known stop way told =
      let file = file_at known names count in
      let here = subst (λ ws. Tells {A = ⊤} (Err stop) (external_faults ws names file x)) way.words_same told in
      subst (λ (faults : List Fault). Tells {A = ⊤} (Err stop) faults) (sym way.faults) (first_stop stop (external_faults words names file x) (externals_faults words names (external_after file x) xs) here)

  pub ends : (count : ℕ) (known : Known) → IsUnderWay words names all [] count known
      → externals_faults words names start all ≡ []
  ends count known way = way.faults

  pub within : (x : ExternalTree) (xs : List ExternalTree) (count : ℕ) → drop count names ≡ definitions (x ∷ xs)
      → count ≤ length names → count + length (made_by x) ≤ length names
  within (Declaration first o ds) xs count left low = omega arith
  within (Definition first o name params body) xs count left low = let next = room_next names count name (definitions xs) left in omega arith
