-- The terms of rows, as they are put into lists by columns.
use Rattle.std.proofs.Common.{inl, inr, ◌≡◌, ◌≢◌, ◌<◌, ◌+◌, ℕ, zero, suc, ℤ, pos, List, [], ◌∷◌, ◌++◌, get_or, length, refl, ap, sym, ◌∙◌, subst, arith}
use Rattle.std.specs.Prelude.{slice_set}
use Rattle.std.proofs.lemmas.Int.{ints}
use Rattle.std.proofs.lemmas.List.{append-nil, append_assoc, get_or-set_same, get_or-set_other, length-set}
use Rattle.std.proofs.lemmas.Bool.{cases_eq}
use Rattle.lists.specs.TestLaws.{by_test}
use Rattle.ipet_rows.specs.Sums.{coefficient, StartsAbove, IsAscending}
use Rattle.ipet_rows.specs.Programs.{Row, IsWithin}
use Rattle.ipet_rows.specs.Rows.{vanishes}
use Rattle.ipet_rows.specs.PathSparseLaws.{AreSome}
use Rattle.ipet_rows.specs.UseLaws.{vanish_is}
use Rattle.ipet_rows.specs.Sparse.{column_terms}
use Rattle.ipet_rows.specs.SumLaws.{term_here, term_elsewhere}
use Rattle.dual_check.specs.Terms.{term_if}
use Rattle.dual_check.specs.Systems.{columns_from, AreColumns}

-- a list more without a term
pub nothing_more : (lists : List (List (ℕ × ℤ))) (n : ℕ) → ((m : ℕ) → get_or lists m [] ≡ [])
    → get_or (lists ++ [] ∷ []) n [] ≡ []
nothing_more [] zero none = refl
nothing_more [] (suc n) none = refl
nothing_more (l ∷ lists) zero none = none 0
nothing_more (l ∷ lists) (suc n) none = nothing_more lists n (λ m. none (suc m))

-- ---- one term

none_later : (c : ℕ) (ts : List (ℕ × ℤ)) → StartsAbove c ts → IsAscending ts → coefficient ts c ≡ pos 0
none_later c [] above rises = refl
none_later c (t ∷ []) above rises = omega (arith, ints, term_elsewhere t.0 c t.1 (λ (q : t.0 ≡ c). absurd (omega arith)))
none_later c (t ∷ s ∷ ts) above rises =
    let later : c < s.0 = omega (arith, above, rises.0) in
    omega (arith, ints, term_elsewhere t.0 c t.1 (λ (q : t.0 ≡ c). absurd (omega arith)), none_later c (s ∷ ts) later rises.1)

one_term : (b : ℕ) (z : ℤ) → z ≢ pos 0 → (b, z) ∷ [] ≡ term_if b z
one_term b z some = by_test (vanishes z) (λ none. absurd (some (vanish_is z none))) (λ clear. rw clear refl)

-- a term put into the list of its column
pub put_more : (old new : List (List (ℕ × ℤ))) (b : ℕ) (t : ℕ × ℤ) (ts : List (ℕ × ℤ)) (e : ℕ) (all : List (ℕ × ℤ))
    → t.0 < length old → IsAscending (t ∷ ts) → AreSome (t ∷ ts)
    → get_or old e [] ++ term_if b (coefficient (t ∷ ts) e) ≡ all → new ≡ slice_set old t.0 (get_or old t.0 [] ++ (b, t.1) ∷ [])
    → get_or new e [] ++ term_if b (coefficient ts e) ≡ all
put_more old new b t ts e all below rises some is next = elim (cases_eq e t.0) [
  | inl same ↦
      let none : coefficient ts e ≡ pos 0 = rw same (none_later t.0 ts rises.0 rises.1) in
      let here : coefficient (t ∷ ts) e ≡ t.1 = omega (arith, ints, term_here t.0 e t.1 (sym same), none) in
      let put : get_or new e [] ≡ get_or old e [] ++ (b, t.1) ∷ [] = ap (λ ls. get_or ls e []) next ∙ rw same (get_or-set_same old t.0 (get_or old t.0 [] ++ (b, t.1) ∷ []) [] below) in
      let nothing : term_if b (coefficient ts e) ≡ [] = rw none refl in
      ap (λ xs. get_or new e [] ++ xs) nothing ∙ append-nil (get_or new e []) ∙ put ∙ ap (λ xs. get_or old e [] ++ xs) (one_term b t.1 some.0 ∙ ap (λ (z : ℤ). term_if b z) (sym here)) ∙ is
  | inr other ↦
      let here : coefficient (t ∷ ts) e ≡ coefficient ts e = omega (arith, ints, term_elsewhere t.0 e t.1 (λ same. other (sym same))) in
      let put : get_or new e [] ≡ get_or old e [] = ap (λ ls. get_or ls e []) next ∙ get_or-set_other old t.0 e (get_or old t.0 [] ++ (b, t.1) ∷ []) [] other in
      ap (λ xs. xs ++ term_if b (coefficient ts e)) put ∙ ap (λ (z : ℤ). get_or old e [] ++ term_if b z) (sym here) ∙ is
]

-- with the terms that are left, the lists have all of the row
pub record IsPut (n b : ℕ) (old lists : List (List (ℕ × ℤ))) (rest all : List (ℕ × ℤ)) : Type 0 where
  pub count : length lists ≡ n
  pub within : IsWithin n rest
  pub ascending : IsAscending rest
  pub some : AreSome rest
  pub put : (e : ℕ)
      → get_or lists e [] ++ term_if b (coefficient rest e) ≡ get_or old e [] ++ term_if b (coefficient all e)

pub put_next : (n b : ℕ) (old lists new : List (List (ℕ × ℤ))) (t : ℕ × ℤ) (ts rest all : List (ℕ × ℤ))
    → IsPut n b old lists rest all → rest ≡ t ∷ ts
    → new ≡ slice_set lists t.0 (get_or lists t.0 [] ++ (b, t.1) ∷ []) → IsPut n b old new ts all
put_next n b old lists new t ts rest all i is next =
    let within : IsWithin n (t ∷ ts) = subst (λ (xs : List (ℕ × ℤ)). IsWithin n xs) is i.within in
    let ascending : IsAscending (t ∷ ts) = subst IsAscending is i.ascending in
    let some : AreSome (t ∷ ts) = subst AreSome is i.some in
    let long = i.count in
    let low = within.0 in
    record {
      count = ap length next ∙ length-set lists t.0 (get_or lists t.0 [] ++ (b, t.1) ∷ []) ∙ i.count;
      within = within.1;
      ascending = ascending.1;
      some = some.1;
      put = λ e. put_more lists new b t ts e (get_or old e [] ++ term_if b (coefficient all e)) (omega (arith, long, low)) ascending some
          (ap (λ xs. get_or lists e [] ++ term_if b (coefficient xs e)) (sym is) ∙ i.put e) next;
    }

pub put_all : (n b : ℕ) (old lists : List (List (ℕ × ℤ))) (rest all : List (ℕ × ℤ)) → IsPut n b old lists rest all
    → rest ≡ [] → (e : ℕ) → get_or lists e [] ≡ get_or old e [] ++ term_if b (coefficient all e)
put_all n b old lists rest all i is e =
    let empty : term_if b (coefficient rest e) ≡ [] = rw is refl in
    sym (append-nil (get_or lists e [])) ∙ ap (λ xs. get_or lists e [] ++ xs) (sym empty) ∙ i.put e

-- ---- one row

row_step : (e b : ℕ) (r : Row) (rows : List Row)
    → term_if b (coefficient r.terms e) ++ column_terms e (b + 1) rows ≡ column_terms e b (r ∷ rows)
row_step e b r rows = by_test (vanishes (coefficient r.terms e)) (λ none. rw none refl) (λ some. rw some refl)

pub turned_more : (old new : List (List (ℕ × ℤ))) (b e : ℕ) (r : Row) (rows all : List Row)
    → get_or old e [] ++ column_terms e b (r ∷ rows) ≡ column_terms e 0 all
    → get_or new e [] ≡ get_or old e [] ++ term_if b (coefficient r.terms e) → get_or new e [] ++ column_terms e (b + 1) rows ≡ column_terms e 0 all
turned_more old new b e r rows all is next =
    ap (λ xs. xs ++ column_terms e (b + 1) rows) next ∙ append_assoc (get_or old e []) (term_if b (coefficient r.terms e)) (column_terms e (b + 1) rows)
    ∙ ap (λ xs. get_or old e [] ++ xs) (row_step e b r rows) ∙ is

-- ---- all rows

lists_from : (n b : ℕ) (rows : List Row) (lists : List (List (ℕ × ℤ))) → length lists ≡ n
    → ((e : ℕ) → e < n → get_or lists e [] ≡ column_terms (b + e) 0 rows) → lists ≡ columns_from n b rows
lists_from zero b rows [] long same = refl
lists_from zero b rows (l ∷ lists) long same = absurd (omega arith)
lists_from (suc n) b rows [] long same = absurd (omega arith)
lists_from (suc n) b rows (l ∷ lists) long same =
    let here : l ≡ column_terms b 0 rows = same 0 (omega arith) ∙ (let s : b + 0 ≡ b = omega arith in ap (λ (k : ℕ). column_terms k 0 rows) s) in
    let later = lists_from n (b + 1) rows lists (omega arith) (λ e below. same (suc e) (omega arith) ∙ (let s : b + suc e ≡ (b + 1) + e = omega arith in ap (λ (k : ℕ). column_terms k 0 rows) s)) in
    ap (λ x. x ∷ lists) here ∙ ap (λ xs. column_terms b 0 rows ∷ xs) later

pub turned_all : (n b : ℕ) (rows rest : List Row) (lists : List (List (ℕ × ℤ))) → length lists ≡ n → length rest ≡ 0
    → ((e : ℕ) → get_or lists e [] ++ column_terms e b rest ≡ column_terms e 0 rows) → AreColumns n rows lists
turned_all n b rows (r ∷ rest) lists long is same = absurd (omega arith)
turned_all n b rows [] lists long is same = lists_from n 0 rows lists long
    (λ e below. sym (append-nil (get_or lists e [])) ∙ same e ∙ (let s : e ≡ 0 + e = omega arith in ap (λ (k : ℕ). column_terms k 0 rows) s))
