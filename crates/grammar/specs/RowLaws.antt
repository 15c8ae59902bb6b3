-- Laws of rows.
--   row_fails   the row ends where its next part departs, or where memory runs out
use Rattle.std.proofs.Common.{◌≡◌, ℕ, zero, suc, ◌+◌, ◌-◌, ◌≤◌, ◌<◌, Bool, true, false, List, [], ◌∷◌, ◌++◌, Result, Ok, Err, Option, Some, None, refl, sym, ap, ◌∙◌, append_assoc, arith}
use Rattle.std.proofs.lemmas.List.{append-nil}
use Rattle.grammar.specs.Form.{At, left, and_then, in_a_row, row, exactly_form, Fails}
use Rattle.grammar.specs.Rule.{Rule}
use Rattle.grammar.specs.Rows.{with_prefix, RowSoFar, CountSoFar}

module _ {T R F A : Type 0} where
  pub with_nothing : (read : Result (List A × At T R) F) → with_prefix [] read ≡ read
  with_nothing (Ok x) = refl
  with_nothing (Err f) = refl

  regroup : (prefix : List A) (x : A) (read : Result (List A × At T R) F)
      → with_prefix prefix (and_then read (λ t. Ok (x ∷ t.0, t.1))) ≡ with_prefix (prefix ++ x ∷ []) read
  regroup prefix x (Ok t) = ap (λ (xs : List A). Ok (xs, t.1)) (simp append_assoc)
  regroup prefix x (Err f) = refl

module _ {T R F A : Type 0} (goes_on : At T R → Bool) (p : Rule T R F true A) where
  pub row_goes_on : (prefix : List A) (rest start : At T R) (x : A) (next : At T R) → goes_on rest ≡ true
      → p.form.reading rest ≡ Ok (x, next)
      → RowSoFar goes_on p prefix rest start → RowSoFar goes_on p (prefix ++ x ∷ []) next start
  row_goes_on prefix rest start x next o e so = at_turns so.turns so.enough so.goes
    where
      at_turns : (turns : ℕ) → left rest < turns
          → with_prefix prefix (in_a_row goes_on p.form turns rest) ≡ (row goes_on p.form).reading start
          → RowSoFar goes_on p (prefix ++ x ∷ []) next start
      at_turns zero enough goes = absurd (omega arith)
      at_turns (suc n) enough goes =
          let less : left next < left rest = p.exact.shrinks rest (x, next) e in
          let one : with_prefix prefix (in_a_row goes_on p.form (suc n) rest) ≡ with_prefix (prefix ++ x ∷ []) (in_a_row goes_on p.form n next) = rw (o, e) (regroup prefix x (in_a_row goes_on p.form n next)) in
          record { turns = n; enough = omega arith; goes = sym one ∙ goes }

  row_errs : (prefix : List A) (rest start : At T R) (f : F) → goes_on rest ≡ true → p.form.reading rest ≡ Err f
      → RowSoFar goes_on p prefix rest start → (row goes_on p.form).reading start ≡ Err f
  row_errs prefix rest start f o h so = at_turns so.turns so.enough so.goes
    where
      at_turns : (turns : ℕ) → left rest < turns
          → with_prefix prefix (in_a_row goes_on p.form turns rest) ≡ (row goes_on p.form).reading start
          → (row goes_on p.form).reading start ≡ Err f
      at_turns zero enough goes = absurd (omega arith)
      at_turns (suc n) enough goes = let one : with_prefix prefix (in_a_row goes_on p.form (suc n) rest) ≡ Err f = rw (o, h) refl in sym goes ∙ one

  pub row_ends : (prefix : List A) (rest start : At T R) → goes_on rest ≡ false → RowSoFar goes_on p prefix rest start
      → (row goes_on p.form).reading start ≡ Ok (prefix, rest)
  row_ends prefix rest start o so = at_turns so.turns so.enough so.goes
    where
      at_turns : (turns : ℕ) → left rest < turns
          → with_prefix prefix (in_a_row goes_on p.form turns rest) ≡ (row goes_on p.form).reading start
          → (row goes_on p.form).reading start ≡ Ok (prefix, rest)
      at_turns zero enough goes = absurd (omega arith)
      at_turns (suc n) enough goes =
          let one : with_prefix prefix (in_a_row goes_on p.form (suc n) rest) ≡ Ok (prefix, rest) = rw o (ap (λ (xs : List A). Ok (xs, rest)) (append-nil prefix)) in
          sym goes ∙ one

  -- the row ends where its next part departs, or where memory runs out
  pub row_fails : (o : Option F) (prefix : List A) (rest start : At T R) → goes_on rest ≡ true
      → Fails o (p.form.reading rest) → RowSoFar goes_on p prefix rest start
      → Fails o ((row goes_on p.form).reading start)
  row_fails None prefix rest start o h so = tt
  row_fails (Some f) prefix rest start o h so = row_errs prefix rest start f o h so

module _ {T R F A : Type 0} {some : Bool} (p : Rule T R F some A) (count : ℕ) where
  pub count_starts : (start : At T R) → CountSoFar p count 0 [] start start
  count_starts start = let e : count - 0 ≡ count = omega arith in record { goes = rw e (with_nothing ((exactly_form count p.form).reading start)) }

  pub count_goes_on : (i : ℕ) (prefix : List A) (rest start : At T R) (x : A) (next : At T R) → i < count
      → p.form.reading rest ≡ Ok (x, next)
      → CountSoFar p count i prefix rest start → CountSoFar p count (i + 1) (prefix ++ x ∷ []) next start
  unfolding exactly_form
  count_goes_on i prefix rest start x next lt e so =
      let k : count - i ≡ suc (count - (i + 1)) = omega arith in
      let one : with_prefix prefix ((exactly_form (count - i) p.form).reading rest) ≡ with_prefix (prefix ++ x ∷ []) ((exactly_form (count - (i + 1)) p.form).reading next) = rw (k, e) (regroup prefix x ((exactly_form (count - (i + 1)) p.form).reading next)) in
      record { goes = sym one ∙ so.goes }

  count_errs : (i : ℕ) (prefix : List A) (rest start : At T R) (f : F) → i < count → p.form.reading rest ≡ Err f
      → CountSoFar p count i prefix rest start → (exactly_form count p.form).reading start ≡ Err f
  unfolding exactly_form
  count_errs i prefix rest start f lt h so =
      let k : count - i ≡ suc (count - (i + 1)) = omega arith in
      let one : with_prefix prefix ((exactly_form (count - i) p.form).reading rest) ≡ Err f = rw (k, h) refl in
      sym so.goes ∙ one

  pub count_fails : (o : Option F) (i : ℕ) (prefix : List A) (rest start : At T R) → i < count
      → Fails o (p.form.reading rest) → CountSoFar p count i prefix rest start
      → Fails o ((exactly_form count p.form).reading start)
  count_fails None i prefix rest start lt h so = tt
  count_fails (Some f) i prefix rest start lt h so = count_errs i prefix rest start f lt h so

  pub count_ends : (i : ℕ) (prefix : List A) (rest start : At T R) → count ≤ i → CountSoFar p count i prefix rest start
      → (exactly_form count p.form).reading start ≡ Ok (prefix, rest)
  unfolding exactly_form
  count_ends i prefix rest start le so =
      let k : count - i ≡ 0 = omega arith in
      let one : with_prefix prefix ((exactly_form (count - i) p.form).reading rest) ≡ Ok (prefix, rest) = rw k (ap (λ (xs : List A). Ok (xs, rest)) (append-nil prefix)) in
      sym so.goes ∙ one
