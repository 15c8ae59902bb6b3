-- Rules: forms with their proofs. A grammar is written in these.
--   Rule T R F some A    a form that spells values of type A, exact, and which takes some text where some is true
--   token, judge, refuse, value, weaken, spend, ◌>>=◌, ◌>>◌, many, maybe, exactly    how rules are put together
use Rattle.std.specs.Prelude.{ℕ, ◌||◌, List, Bool, true, false, Result, Option}
use Rattle.grammar.specs.Form.{At, Form, one, judged, made, refused, bound, spent, row, at_most_one, exactly_form}
use Rattle.grammar.specs.Exact.{IsExact}
use Rattle.grammar.specs.ExactLaws.{one_exact, judged_exact, made_exact, refused_exact, bound_exact, spent_exact, row_exact, maybe_exact, weaker, exactly_exact}

pub record Rule (T R F : Type 0) (some : Bool) (A : Type 0) : Type 1 where
  pub form : Form T R F A
  pub exact : IsExact some form

module _ {T R F : Type 0} where
  -- one token, which fits or is the departure
  abbrev pub token : {A : Type 0} → (At T R → F) → (T → At T R → Result A F) → Rule T R F true A
  token out fit = record { form = one out fit; exact = one_exact out fit }

  -- the position is judged as a whole
  abbrev pub judge : {A : Type 0} → (At T R → Result A F) → Rule T R F false A
  judge fit = record { form = judged fit; exact = judged_exact fit }

  -- nothing is read
  abbrev pub value : {A : Type 0} → A → Rule T R F false A
  value a = record { form = made a; exact = made_exact a }

  -- a departure, whatever stands here
  abbrev pub refuse : {A : Type 0} {some : Bool} → (At T R → F) → Rule T R F some A
  refuse {some = some} fault = record { form = refused fault; exact = refused_exact fault some }

  -- the same, without that some text is taken
  abbrev pub weaken : {A : Type 0} {some : Bool} → Rule T R F some A → Rule T R F false A
  weaken p = record { form = p.form; exact = weaker p.exact }

  -- as much is spent of what is counted
  abbrev pub spend : (R → ℕ) → (R → ℕ → R) → F → ℕ → Rule T R F false (Unit {0})
  spend of leaving over amount = record { form = spent of leaving over amount; exact = spent_exact of leaving over amount }

  infixl 10 ◌>>=◌
  abbrev pub ◌>>=◌ : {A B : Type 0} {a b : Bool} → Rule T R F a A → (A → Rule T R F b B) → Rule T R F (a || b) B
  p >>= q = record { form = bound p.form (λ x. (q x).form); exact = bound_exact p.exact (λ x. (q x).exact) }

  infixl 10 ◌>>◌
  abbrev pub ◌>>◌ : {A B : Type 0} {a b : Bool} → Rule T R F a A → Rule T R F b B → Rule T R F (a || b) B
  p >> q = p >>= λ _. q

  -- as many parts as the list goes on for
  abbrev pub many : {A : Type 0} → (At T R → Bool) → Rule T R F true A → Rule T R F false (List A)
  many goes_on p = record { form = row goes_on p.form; exact = row_exact goes_on p.exact }

  -- at most one part
  abbrev pub maybe : {A : Type 0} {some : Bool} → (At T R → Bool) → Rule T R F some A → Rule T R F false (Option A)
  maybe begins p = record { form = at_most_one begins p.form; exact = maybe_exact begins p.exact }

  -- n parts of one kind
  abbrev pub exactly : {A : Type 0} {some : Bool} → ℕ → Rule T R F some A → Rule T R F false (List A)
  exactly n p = record { form = exactly_form n p.form; exact = exactly_exact n p.exact }
