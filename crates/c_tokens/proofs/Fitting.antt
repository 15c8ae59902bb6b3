-- The piece that is cut by its first bytes is one, and no longer one begins there.
--   Fits of b cs p   after the byte b and one more stand the bytes cs, and `of` tells what these two and more are: p is a piece, and the longest
use Rattle.std.proofs.Common.{◌≡◌, ℕ, zero, suc, ◌+◌, ◌≤◌, Bool, true, false, cond, ◌⊎◌, inl, inr, List, [], ◌∷◌, length, take, Option, Some, None, refl, ap, arith}
use Rattle.std.specs.Prelude.{◌==◌}
use Rattle.std.specs.Option.{is_some}
use Rattle.std.specs.List.{prefix_len, list_all}
use Rattle.std.proofs.lemmas.Bool.{eqb-true, eq-eqb, cases_lt}
use Rattle.std.proofs.lemmas.List.{take_all, length-take-le}
use Rattle.std.proofs.lemmas.List.Sums.{prefix_len-le-length}
use Rattle.c_tokens.specs.declared.token.Kind.{Kind}
use Rattle.c_tokens.specs.declared.token.Kind.TheVariants as kinds
use Rattle.c_tokens.specs.Bytes.{is_blank, in_line}
use Rattle.c_tokens.specs.Ends.{comment_end, closes_comment, goes_on_in_comment, literal_end, closes_literal, goes_on_in_literal, start_of, is_end}
use Rattle.c_tokens.specs.Punctuators.{is_pair, is_triple, is_quadruple, is_punctuator}
use Rattle.c_tokens.specs.Kinds.{only, kind_of_one, comment_kind, literal_kind, quoted_kind}
use Rattle.c_tokens.specs.Cutting.{comment_piece, wide_piece, quoted_piece, begins_triple, begins_quadruple, symbol_piece}
use Rattle.c_tokens.proofs.Prefixes.{run_passes, run_most}
use Rattle.c_tokens.proofs.Ending.{end_within, end_of_prefix, end_kept}

pub record Fits (of : List ℕ → Option Kind) (b : ℕ) (cs : List ℕ) (p : Kind × ℕ) : Type 0 where
  pub within : p.1 ≤ length cs + 2
  pub known : ((p.1 ≡ 1) × (kind_of_one b ≡ p.0)) ⊎ ((n : ℕ) × (p.1 ≡ n + 2) × (of (take n cs) ≡ Some p.0))
  pub most : (k : ℕ) → k ≤ length cs → is_some (of (take k cs)) ≡ true → k + 2 ≤ p.1

-- by cases of a test that both make
pub by_tests : (P : (List ℕ → Option Kind) → Kind × ℕ → Type 0) (t : Bool) (f g : List ℕ → Option Kind) (x y : Kind × ℕ)
    → (t ≡ true → P f x) → (t ≡ false → P g y) → P (λ xs. cond t (f xs) (g xs)) (cond t x y)
by_tests P true f g x y p q = p refl
by_tests P false f g x y p q = q refl

only_some : (t : Bool) (kind : Kind) → is_some (only t kind) ≡ true → t ≡ true
only_some true kind h = refl
only_some false kind h = absurd cc

pub is_end_at : (o : Option ℕ) (xs : List ℕ) → is_end o xs ≡ true → o ≡ Some (length xs)
is_end_at None xs h = absurd cc
is_end_at (Some n) xs h = ap (λ (k : ℕ). Some k) (eqb-true n (length xs) h)

at_least : (t : Bool) (x y : Kind × ℕ) (n : ℕ) → n ≤ x.1 → n ≤ y.1 → n ≤ (cond t x y).1
at_least true x y n h i = h
at_least false x y n h i = i

module _ (b : ℕ) (cs : List ℕ) where
  pub blank_fits : is_blank b ≡ true → Fits (λ xs. None) b cs (kinds.White, 1)
  blank_fits e = record { within = omega arith; known = inl (refl, rw e refl); most = λ k le h. absurd cc }

  pub comment_fits : Fits (λ xs. comment_kind (comment_end xs) xs) b cs (comment_piece (comment_end cs) (length cs))
  comment_fits = at_end (comment_end cs) refl
    where
      at_end : (o : Option ℕ) → comment_end cs ≡ o
          → Fits (λ xs. comment_kind (comment_end xs) xs) b cs (comment_piece o (length cs))
      at_end None e = record {
        within = omega arith;
        known = let w : take (length cs) cs ≡ cs = take_all (length cs) cs (omega arith) in inr (length cs, refl, rw (w, e) refl);
        most = λ k le h. omega arith;
      }
      at_end (Some j) e =
          let inside = end_within closes_comment goes_on_in_comment false cs j e in
          let ends : (k : ℕ) → j ≤ k → comment_end (take k cs) ≡ Some j = λ k le. end_kept closes_comment goes_on_in_comment false cs j k e le in
          record {
            within = omega arith;
            known = let l : length (take j cs) ≡ j = length-take-le j cs (omega arith) in inr (j, refl, rw (ends j (omega arith), l, eq-eqb j j refl) refl);
            most = λ k le h. elim (cases_lt k j) [
              | inl lt ↦ omega arith
              | inr ge ↦ let l : length (take k cs) ≡ k = length-take-le k cs le in
                  let same : j ≡ k = eqb-true j k (only_some (j == k) kinds.White (rw (ends k ge, l) at h)) in omega arith
            ];
          }

  pub line_fits : Fits (λ xs. only (list_all in_line xs) kinds.White) b cs (kinds.White, prefix_len in_line cs + 2)
  line_fits = record {
    within = omega (arith, prefix_len-le-length in_line cs);
    known = inr (prefix_len in_line cs, refl, rw (run_passes in_line cs) refl);
    most = λ k le h. omega (arith, run_most in_line cs k le (only_some (list_all in_line (take k cs)) kinds.White h));
  }

  -- a run that begins with the second byte
  pub run_fits : (passes : List ℕ → Bool) (c : ℕ) (kind : Kind) (l : ℕ) → l ≤ length cs + 1
      → passes (take l (c ∷ cs)) ≡ true
      → ((m : ℕ) → m ≤ length cs + 1 → passes (take m (c ∷ cs)) ≡ true → m ≤ l) → (l ≡ 0 → kind_of_one b ≡ kind) → Fits (λ xs. only (passes (c ∷ xs)) kind) b cs (kind, l + 1)
  run_fits passes c kind zero within holds most single = record {
    within = omega arith;
    known = inl (refl, single refl);
    most = λ k le h. let m = most (suc k) (omega arith) (only_some (passes (c ∷ take k cs)) kind h) in omega arith;
  }
  run_fits passes c kind (suc l) within holds most single = record {
    within = omega arith;
    known = inr (l, omega arith, rw holds refl);
    most = λ k le h. let m = most (suc k) (omega arith) (only_some (passes (c ∷ take k cs)) kind h) in omega arith;
  }

  -- a literal of which the quote is the second byte
  pub wide_fits : (q : ℕ) → kind_of_one b ≡ kinds.Identifier
      → Fits (λ xs. only (is_end (literal_end q xs) xs) (literal_kind q)) b cs (wide_piece q (literal_end q cs))
  wide_fits q single = at_end (literal_end q cs) refl
    where
      found : (k : ℕ) → is_some (only (is_end (literal_end q (take k cs)) (take k cs)) (literal_kind q)) ≡ true
          → literal_end q cs ≡ Some (length (take k cs))
      found k h = end_of_prefix (closes_literal q) (goes_on_in_literal q) (start_of q) cs k (length (take k cs)) (is_end_at (literal_end q (take k cs)) (take k cs) (only_some _ (literal_kind q) h))

      at_end : (o : Option ℕ) → literal_end q cs ≡ o
          → Fits (λ xs. only (is_end (literal_end q xs) xs) (literal_kind q)) b cs (wide_piece q o)
      at_end None e = record { within = omega arith; known = inl (refl, single); most = λ k le h. let f = found k h in absurd cc }
      at_end (Some j) e =
          let inside = end_within (closes_literal q) (goes_on_in_literal q) (start_of q) cs j e in
          let ends : literal_end q (take j cs) ≡ Some j = end_kept (closes_literal q) (goes_on_in_literal q) (start_of q) cs j j e (omega arith) in
          record {
            within = omega arith;
            known = let l : length (take j cs) ≡ j = length-take-le j cs (omega arith) in inr (j, refl, rw (ends, l, eq-eqb j j refl) refl);
            most = λ k le h. let f = found k h in let l : length (take k cs) ≡ k = length-take-le k cs le in let same : j ≡ length (take k cs) = cc in omega arith;
          }

  -- a literal of which the quote is the first byte
  pub quote_fits : (q c : ℕ) → kind_of_one b ≡ kinds.OpenLiteral
      → Fits (λ xs. quoted_kind q (literal_end q (c ∷ xs)) (c ∷ xs)) b cs (quoted_piece q (literal_end q (c ∷ cs)) (prefix_len in_line (c ∷ cs)))
  quote_fits q c single = at_end (literal_end q (c ∷ cs)) refl
    where
      open_before : literal_end q (c ∷ cs) ≡ None → (k : ℕ) (o : Option ℕ) → literal_end q (c ∷ take k cs) ≡ o
          → o ≡ None
      open_before e k None f = refl
      open_before e k (Some j) f = let g : literal_end q (c ∷ cs) ≡ Some j = end_of_prefix (closes_literal q) (goes_on_in_literal q) (start_of q) (c ∷ cs) (suc k) j f in absurd cc

      open_fits : literal_end q (c ∷ cs) ≡ None → ((k : ℕ) → literal_end q (c ∷ take k cs) ≡ None) → (l : ℕ)
          → prefix_len in_line (c ∷ cs) ≡ l
          → Fits (λ xs. quoted_kind q (literal_end q (c ∷ xs)) (c ∷ xs)) b cs (kinds.OpenLiteral, l + 1)
      open_fits e open_at zero is = record {
        within = omega arith;
        known = inl (refl, single);
        most = λ k le h. let p : list_all in_line (c ∷ take k cs) ≡ true = only_some _ kinds.OpenLiteral (rw (open_at k) at h) in omega (arith, run_most in_line (c ∷ cs) (suc k) (omega arith) p, is);
      }
      open_fits e open_at (suc l) is = record {
        within = omega (arith, prefix_len-le-length in_line (c ∷ cs), is);
        known = let p : list_all in_line (c ∷ take l cs) ≡ true = (rw is at (run_passes in_line (c ∷ cs))) in inr (l, omega arith, rw (open_at l, p) refl);
        most = λ k le h. let p : list_all in_line (c ∷ take k cs) ≡ true = only_some _ kinds.OpenLiteral (rw (open_at k) at h) in omega (arith, run_most in_line (c ∷ cs) (suc k) (omega arith) p, is);
      }

      at_end : (o : Option ℕ) → literal_end q (c ∷ cs) ≡ o → Fits (λ xs. quoted_kind q (literal_end q (c ∷ xs)) (c ∷ xs)) b cs (quoted_piece q o (prefix_len in_line (c ∷ cs)))
      at_end None e = open_fits e (λ k. open_before e k (literal_end q (c ∷ take k cs)) refl) (prefix_len in_line (c ∷ cs)) refl
      at_end (Some zero) e = let inside = end_within (closes_literal q) (goes_on_in_literal q) (start_of q) (c ∷ cs) 0 e in absurd (omega arith)
      at_end (Some (suc j)) e =
          let inside = end_within (closes_literal q) (goes_on_in_literal q) (start_of q) (c ∷ cs) (suc j) e in
          let ends : (k : ℕ) → j ≤ k → literal_end q (c ∷ take k cs) ≡ Some (suc j) = λ k le. end_kept (closes_literal q) (goes_on_in_literal q) (start_of q) (c ∷ cs) (suc j) (suc k) e (omega arith) in
          record {
            within = omega arith;
            known = let l : suc (length (take j cs)) ≡ suc j = ap suc (length-take-le j cs (omega arith)) in inr (j, omega arith, rw (ends j (omega arith), l, eq-eqb (suc j) (suc j) refl) refl);
            most = λ k le h. elim (cases_lt k j) [
              | inl lt ↦ omega arith
              | inr ge ↦ let l : suc (length (take k cs)) ≡ suc k = ap suc (length-take-le k cs le) in
                  let same : suc j ≡ suc k = eqb-true (suc j) (suc k) (only_some (suc j == suc k) (literal_kind q) (rw (ends k ge, l) at h)) in omega arith
            ];
          }

symbol_most : (b c : ℕ) (cs : List ℕ) (k : ℕ) → k ≤ length cs → is_punctuator (b ∷ c ∷ take k cs) ≡ true
    → k + 2 ≤ (symbol_piece b c cs).1
symbol_most b c cs zero le h = at_least (begins_quadruple b c cs) _ _ 2 (omega arith) (at_least (begins_triple b c cs) _ _ 2 (omega arith) (rw h (omega arith)))
symbol_most b c [] (suc k) le h = absurd (omega arith)
symbol_most b c (d ∷ ds) (suc zero) le h = at_least (begins_quadruple b c (d ∷ ds)) _ _ 3 (omega arith) (rw h (omega arith))
symbol_most b c (d ∷ []) (suc (suc k)) le h = absurd (omega arith)
symbol_most b c (d ∷ e ∷ es) (suc (suc zero)) le h = rw h (omega arith)
symbol_most b c (d ∷ e ∷ []) (suc (suc (suc k))) le h = absurd (omega arith)
symbol_most b c (d ∷ e ∷ f ∷ fs) (suc (suc (suc k))) le h = absurd cc

pub symbol_fits : (b c : ℕ) (cs : List ℕ)
    → Fits (λ xs. only (is_punctuator (b ∷ c ∷ xs)) kinds.Punctuator) b cs (symbol_piece b c cs)
symbol_fits b c cs = record { within = (at_symbol cs).0; known = (at_symbol cs).1; most = λ k le h. symbol_most b c cs k le (only_some _ kinds.Punctuator h) }
  where
    Known : List ℕ → Kind × ℕ → Type 0
    Known cs p = (p.1 ≤ length cs + 2)
        × (((p.1 ≡ 1) × (kind_of_one b ≡ p.0)) ⊎ ((n : ℕ) × (p.1 ≡ n + 2) × (only (is_punctuator (b ∷ c ∷ take n cs)) kinds.Punctuator ≡ Some p.0)))

    at_pair : (cs : List ℕ) (t : Bool) → is_pair b c ≡ t → Known cs (cond t (kinds.Punctuator, 2) (kind_of_one b, 1))
    at_pair cs true e = (omega arith, inr (0, refl, rw e refl))
    at_pair cs false e = (omega arith, inl (refl, refl))

    at_triple : (d : ℕ) (ds : List ℕ) (t : Bool) → is_triple b c d ≡ t
        → Known (d ∷ ds) (cond t (kinds.Punctuator, 3) (cond (is_pair b c) (kinds.Punctuator, 2) (kind_of_one b, 1)))
    at_triple d ds true e = (omega arith, inr (1, refl, rw e refl))
    at_triple d ds false e = at_pair (d ∷ ds) (is_pair b c) refl

    at_quadruple : (d e : ℕ) (es : List ℕ) (t : Bool) → is_quadruple b c d e ≡ t
        → Known (d ∷ e ∷ es) (cond t (kinds.Punctuator, 4) (cond (is_triple b c d) (kinds.Punctuator, 3) (cond (is_pair b c) (kinds.Punctuator, 2) (kind_of_one b, 1))))
    at_quadruple d e es true h = (omega arith, inr (2, refl, rw h refl))
    at_quadruple d e es false h = at_triple d (e ∷ es) (is_triple b c d) refl

    at_symbol : (cs : List ℕ) → Known cs (symbol_piece b c cs)
    at_symbol [] = at_pair [] (is_pair b c) refl
    at_symbol (d ∷ []) = at_triple d [] (is_triple b c d) refl
    at_symbol (d ∷ e ∷ es) = at_quadruple d e es (is_quadruple b c d e) refl
