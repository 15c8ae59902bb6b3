-- How a return is shown to have no fault.
--   agreeing_fits   a return of the size of its function's first return fits, where each call of the function agrees with that one, wherever the call stands
use Rattle.std.proofs.Common.{◌≡◌, ◌+◌, ◌&&◌, ◌==◌, ℕ, zero, suc, Bool, true, false, List, [], ◌∷◌, Contains, Option, Some, is_some, refl, ap, ◌∙◌, eq-eqb}
use Rattle.std.specs.Str.{bytes_eq}
use Rattle.std.proofs.lemmas.Slice.Eq.{bytes_eq-Decides}
use Rattle.lists.specs.TestLaws.{by_test}
use Rattle.lists.specs.MemberLaws.{first_member, further_member}
use Rattle.alf_program.specs.Tree.{NamedExpression, Null, Store, Jump, Switch, Call, Return, BodyItem, Label, Do, Function, WholeProgram}
use Rattle.alf_faults.specs.Places.{function_place}
use Rattle.alf_faults.specs.declared.returns.FirstReturn.{FirstReturn}
use Rattle.alf_faults.specs.Fault.{any_from, is_exactly}
use Rattle.alf_faults.specs.TermSizes.{return_size, same_size}
use Rattle.alf_faults.specs.Returns.{first_return, agrees, is_before, is_disagreeing, is_breach, function_has_breach, is_breached}
use Rattle.alf_faults.specs.Sizes.{breaks_calls, fits_return, return_fits}

-- no member passes a test that none passes at any place
any_none : {A : Type 0} (test : ℕ → A → Bool) (n : ℕ) (xs : List A)
    → ((m : ℕ) (x : A) → Contains xs x → test m x ≡ false) → any_from test n xs ≡ false
any_none test n [] none = refl
any_none test n (x ∷ xs) none = rw (none n x (first_member x xs), any_none test (n + 1) xs (λ m y c. none m y (further_member x xs y c))) refl

-- and nothing follows from two tests of which the second fails
and_false : (a b : Bool) → b ≡ false → (a && b) ≡ false
and_false true b e = e
and_false false b e = refl

module _ (whole : WholeProgram) (name : List ℕ) (found : FirstReturn)
    (agreeing : (caller : Function) (label : List ℕ) (args : List NamedExpression) (result : Option (List ℕ × ℕ)) → Contains whole.funcs caller → Contains caller.items (Do (Call label args result))
    → label ≡ name → agrees (is_some result) found ≡ true) where
  -- an item does not disagree
  item_agrees : (caller : Function) (item : BodyItem) → Contains whole.funcs caller → Contains caller.items item
      → is_disagreeing name found item ≡ false
  item_agrees caller (Label label) c d = refl
  item_agrees caller (Do Null) c d = refl
  item_agrees caller (Do (Store at value)) c d = refl
  item_agrees caller (Do (Jump label)) c d = refl
  item_agrees caller (Do (Switch value targets others)) c d = refl
  item_agrees caller (Do (Return value)) c d = refl
  item_agrees caller (Do (Call label args result)) c d =
      by_test (bytes_eq label name) (λ e. rw (e, agreeing caller label args result c d ((bytes_eq-Decides label name).0 e)) refl) (λ e. rw e refl)

  -- so no call before the return breaks it
  no_breach : (k : ℕ) → is_breached whole.funcs name found k ≡ false
  no_breach k =
      any_none (function_has_breach name found k) 0 whole.funcs
      (λ p caller c. any_none (is_breach name found k p) 0 caller.items (λ m item d. and_false (is_before p m k found.item) (is_disagreeing name found item) (item_agrees caller item c d)))

-- a return of the size of its function's first return fits, where each call of the function agrees with that one
pub agreeing_fits : (whole : WholeProgram) (k : ℕ) (func : Function) (i : ℕ) (value : Option NamedExpression) (found : FirstReturn) (size : ℕ)
    → first_return func.items ≡ Some found → found.size ≡ Some size → return_size value ≡ Some size
    → ((caller : Function) (label : List ℕ) (args : List NamedExpression) (result : Option (List ℕ × ℕ)) → Contains whole.funcs caller → Contains caller.items (Do (Call label args result))
    → label ≡ func.name → agrees (is_some result) found ≡ true)
    → return_fits whole k func i value ≡ true
agreeing_fits whole k func i value found size first found_size value_size agreeing =
    let same : same_size found.size (return_size value) ≡ true = ap (λ (o : Option ℕ). same_size o (return_size value)) found_size ∙ ap (is_exactly size) value_size ∙ eq-eqb size size refl in
    let whole_calls : breaks_calls whole k func.name i found ≡ false =
    and_false ((found.item == i) && is_exactly k (function_place whole.funcs func.name)) (is_breached whole.funcs func.name found k) (no_breach whole func.name found agreeing k)
    in
    ap (λ (o : Option FirstReturn). fits_return whole k func.name i o (return_size value)) first ∙ (rw (same, whole_calls) refl)
