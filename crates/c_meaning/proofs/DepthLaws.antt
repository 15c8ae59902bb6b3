-- No call of a program is too deep.
--   rows_by_functions        the calls of a function are those of its block
--   IsNumberOf x k count     k is the number that is told, or, where none is, the count
--   named_number             the number that a name has among the definitions is that of the function
--   past_kept                a function that is not there does nothing, whatever calls do
--   same_depth               a function does the same with calls of two depths that are greater than its rank
--   ending_kept_within       so does the root, and calls as deep as there are functions are deep enough
use Rattle.std.proofs.Common.{◌≡◌, ◌<◌, ◌≤◌, ℕ, zero, suc, ◌+◌, Bool, true, false, List, [], ◌∷◌, length, get_or, slice_get, Contains, Option, Some, None, if◌then◌else◌, refl, sym, ap, subst, inl, inr, arith}
use Rattle.std.specs.Prelude.{slice_index}
use Rattle.std.specs.Str.{bytes_eq}
use Rattle.std.specs.Option.{option_map, option_map_or}
use Rattle.std.proofs.lemmas.Bool.{cases_lt}
use Rattle.std.proofs.lemmas.Option.{slice_get_past}
use Rattle.lists.specs.MemberLaws.{first_member, further_member}
use Rattle.graph_walks.specs.Calls.{IsRanked}
use Rattle.alf_ops.specs.declared.history.Value.{Value}
use Rattle.c_unit.specs.Tree.{ExternalTree, Declaration, Definition}
use Rattle.c_unit.specs.Units.{Word, UnitTree}
use Rattle.c_rules.specs.Names.{text_at}
use Rattle.c_rules.specs.Units.{File, definitions, external_after}
use Rattle.c_rules.specs.Recursion.{called_in, number_at, with_number, numbers_at, rows_of, calls_of}
use Rattle.c_meaning.specs.Objects.{Program, Function, no_function, functions_in, functions_of, program_of, function_at}
use Rattle.c_meaning.specs.Endings.{History, Ending}
use Rattle.c_meaning.specs.Statements.{Callees, number_named}
use Rattle.c_meaning.specs.Programs.{Cell, entered, body_done, function_done, start_history, ending_within, ending}
use Rattle.c_meaning.proofs.KeepingLaws.{Kept, unknown, same, AtMost, both_zero, at_next, EachCalled, CallKept, bodies_kept}

-- ---- calls by numbers

abbrev function_in : File → List ExternalTree → ℕ → Function
function_in file xs f = option_map_or (λ function. function) (slice_get (functions_in file xs) f) no_function

rows_by_functions : (words : List Word) (names : List ℕ) (file : File) (xs : List ExternalTree) (f : ℕ)
    → get_or (rows_of words names xs) f [] ≡ numbers_at words names (called_in (function_in file xs f).body)
rows_by_functions words names file [] f = refl
rows_by_functions words names file (Declaration first o ds ∷ xs) f = rows_by_functions words names (external_after file (Declaration first o ds)) xs f
rows_by_functions words names file (Definition first o name params body ∷ xs) zero = refl
rows_by_functions words names file (Definition first o name params body ∷ xs) (suc f) =
    rows_by_functions words names (external_after file (Definition first o name params body)) xs f

as_many_rows : (words : List Word) (names : List ℕ) (file : File) (xs : List ExternalTree)
    → length (rows_of words names xs) ≡ length (functions_in file xs)
as_many_rows words names file [] = refl
as_many_rows words names file (Declaration first o ds ∷ xs) = as_many_rows words names (external_after file (Declaration first o ds)) xs
as_many_rows words names file (Definition first o name params body ∷ xs) =
    ap suc (as_many_rows words names (external_after file (Definition first o name params body)) xs)

abbrev IsNumberOf : Option ℕ → ℕ → ℕ → Type 0
IsNumberOf None k count = k ≡ count
IsNumberOf (Some n) k count = k ≡ n

one_before : (test : Bool) (x : Option ℕ) (k count : ℕ) → IsNumberOf x k count
    → IsNumberOf (if test then Some 0 else option_map (λ n. n + 1) x) (if test then 0 else k + 1) (suc count)
one_before true x k count is = refl
one_before false None k count is = omega arith
one_before false (Some n) k count is = ap (λ (i : ℕ). i + 1) is

named_number : (words : List Word) (file : File) (xs : List ExternalTree) (token : ℕ)
    → IsNumberOf (number_at words (definitions xs) token) (number_named words (functions_in file xs) (text_at words token)) (length (functions_in file xs))
named_number words file [] token = refl
named_number words file (Declaration first o ds ∷ xs) token = named_number words (external_after file (Declaration first o ds)) xs token
named_number words file (Definition first o name params body ∷ xs) token =
    let further : File = external_after file (Definition first o name params body) in
    one_before (bytes_eq (text_at words name) (text_at words token)) (number_at words (definitions xs) token)
    (number_named words (functions_in further xs) (text_at words token)) (length (functions_in further xs)) (named_number words further xs token)

-- what holds of each number that is told holds of the first and of the others
first_number : (G : ℕ → Type 0) (x : Option ℕ) (numbers : List ℕ) (k count : ℕ) → IsNumberOf x k count → G count
    → ((g : ℕ) → Contains (with_number x numbers) g → G g) → G k
first_number G None numbers k count is past all = subst G (sym is) past
first_number G (Some n) numbers k count is past all = subst G (sym is) (all n (first_member n numbers))

other_numbers : (G : ℕ → Type 0) (x : Option ℕ) (numbers : List ℕ)
    → ((g : ℕ) → Contains (with_number x numbers) g → G g) → (g : ℕ) → Contains numbers g → G g
other_numbers G None numbers all g c = all g c
other_numbers G (Some n) numbers all g c = all g (further_member n numbers g c)

equal_turns : (n : ℕ) → AtMost ⊥ n n
equal_turns zero = both_zero
equal_turns (suc n) = at_next (equal_turns n)

kept_equal : {a b : Ending} → Kept ⊥ a b → a ≡ b
kept_equal (unknown allowed) = absurd allowed
kept_equal same = refl

-- ---- one program

module _ (unit : UnitTree) (n : ℕ) where
  abbrev program : Program
  program = program_of unit

  abbrev count : ℕ
  count = length program.functions

  abbrev done : ℕ → Callees
  done depth = function_done program n depth

  past_kept : (c d : Callees) (f : ℕ) → count ≤ f → (h : History)
      → Kept ⊥ (body_done program n c f h) (body_done program n d f h)
  past_kept c d f past h =
      bodies_kept ⊥ program n n (equal_turns n) c d f
      (subst (λ (x : Option Function). EachCalled (CallKept ⊥ program c d) (called_in (option_map_or (λ function. function) x no_function).body))
      (sym (slice_get_past program.functions f past)) tt)
      h

  abbrev OneKept : Callees → Callees → ℕ → Type 0
  OneKept c d g = (vs : List Value) (h : History) → Kept ⊥ (c g vs h) (d g vs h)

  each_token : (c d : Callees) → OneKept c d count → (tokens : List ℕ)
      → ((g : ℕ) → Contains (numbers_at unit.words (definitions unit.externals) tokens) g → OneKept c d g) → EachCalled (CallKept ⊥ program c d) tokens
  each_token c d past [] every = tt
  each_token c d past (token ∷ tokens) every = (
    first_number (OneKept c d) (number_at unit.words (definitions unit.externals) token) (numbers_at unit.words (definitions unit.externals) tokens)
        (number_named unit.words program.functions (text_at unit.words token)) count
        (named_number unit.words (record { scope = []; made = [] }) unit.externals token) past every,
    each_token c d past tokens
        (other_numbers (OneKept c d) (number_at unit.words (definitions unit.externals) token) (numbers_at unit.words (definitions unit.externals) tokens) every),
  )

  module _ (ranks : List ℕ) (ranked : IsRanked (calls_of unit) ranks) where
    falls : (f g : ℕ)
        → Contains (numbers_at unit.words (definitions unit.externals) (called_in (function_at program f).body)) g
        → slice_index ranks g < slice_index ranks f
    falls f g calls =
        ranked.falls f g (subst (λ (row : List ℕ). Contains row g)
        (sym (rows_by_functions unit.words (definitions unit.externals) (record { scope = []; made = [] }) unit.externals f)) calls)

    same_depth : (d e f : ℕ) → slice_index ranks f < d → slice_index ranks f < e → (h : History)
        → Kept ⊥ (body_done program n (done d) f h) (body_done program n (done e) f h)
    same_depth zero e f low low' h = absurd (omega arith)
    same_depth (suc d) zero f low low' h = absurd (omega arith)
    same_depth (suc d) (suc e) f low low' h =
        bodies_kept ⊥ program n n (equal_turns n) (done (suc d)) (done (suc e)) f
        (each_token (done (suc d)) (done (suc e)) (λ vs t. past_kept (done d) (done e) count (omega arith) (entered program count vs t))
        (called_in (function_at program f).body)
        (λ g calls vs t. let less : slice_index ranks g < slice_index ranks f = falls f g calls in
        same_depth d e g (omega arith) (omega arith) (entered program g vs t)))
        h

    low_rank : (f : ℕ) → f < count → slice_index ranks f < count
    low_rank f low =
        let many : length (calls_of unit) ≡ count = as_many_rows unit.words (definitions unit.externals) (record { scope = []; made = [] }) unit.externals in
        subst (λ (m : ℕ). slice_index ranks f < m) many (ranked.within f (subst (λ (m : ℕ). f < m) (sym many) low))

    deep_enough : (d e f : ℕ) → count ≤ d → count ≤ e → (h : History)
        → Kept ⊥ (body_done program n (done d) f h) (body_done program n (done e) f h)
    deep_enough d e f low low' h =
        elim (cases_lt f count) [
          | inl within ↦ (let less : slice_index ranks f < count = low_rank f within in same_depth d e f (omega arith) (omega arith) h)
          | inr past ↦ past_kept (done d) (done e) f past h
        ]

pub ending_kept_within : (unit : UnitTree) (ranks : List ℕ) → IsRanked (calls_of unit) ranks
    → (root n depth : ℕ) (cells : List Cell) → length (functions_of unit) ≤ depth
    → ending_within unit root n depth cells ≡ ending unit root n cells
ending_kept_within unit ranks ranked root n depth cells deep =
    kept_equal (deep_enough unit n ranks ranked depth (length (functions_of unit) + n) root deep (omega arith) (start_history unit root cells))
