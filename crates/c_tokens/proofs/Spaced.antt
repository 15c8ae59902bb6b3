-- A token before a space or a line feed is cut as it was printed.
--   Separates s   the byte is in no token, so it ends what stands before it
use Rattle.std.proofs.Common.{◌≡◌, ℕ, zero, suc, ◌≤◌, ◌<◌, Bool, true, false, cond, ◌&&◌, inl, inr, List, [], ◌∷◌, ◌++◌, length, take, Option, Some, None, refl, ap, arith, length-append}
use Rattle.std.specs.Prelude.{◌==◌}
use Rattle.std.specs.Option.{is_some}
use Rattle.std.specs.List.{list_all}
use Rattle.std.specs.Char.{is_ascii_digit}
use Rattle.std.proofs.lemmas.Bool.{eqb-true, ne_eqb, cases_lt, and_parts}
use Rattle.std.proofs.lemmas.List.{take_at}
use Rattle.c_tokens.specs.declared.token.Kind.{Kind}
use Rattle.c_tokens.specs.declared.token.Kind.TheVariants as kinds
use Rattle.c_tokens.specs.Bytes.{is_blank, is_letter, is_word_byte, is_quote, in_line}
use Rattle.c_tokens.specs.Ends.{comment_end, literal_end, closes_literal, goes_on_in_literal, start_of, is_end}
use Rattle.c_tokens.specs.Numbers.{goes_on, starts_number}
use Rattle.c_tokens.specs.Punctuators.{is_punctuator}
use Rattle.c_tokens.specs.Kinds.{only, kind_of_one, comment_kind, literal_kind, quoted_kind, opens_comment, opens_line_comment, is_wide, kind_of_more, kind_of}
use Rattle.c_tokens.specs.Cutting.{cut_piece}
use Rattle.c_tokens.specs.Printed.{is_printed_kind, has_printed_kind, can_print}
use Rattle.c_tokens.proofs.Prefixes.{run_ends, number_ends}
use Rattle.c_tokens.proofs.Ending.{end_before}
use Rattle.c_tokens.proofs.Fitting.{is_end_at}
use Rattle.c_tokens.proofs.Longest.{quote_alone, longest_is}
use Rattle.c_tokens.proofs.Pieces.{IsPiece}

-- ---- separators

pub record Separates (s : ℕ) : Type 0 where
  pub word : is_word_byte s ≡ false
  pub number : (e : Bool) → goes_on e s ≡ false
  pub quote : is_quote s ≡ false
  pub digit : is_ascii_digit s ≡ false
  pub star : s == 42 ≡ false
  pub slash : s == 47 ≡ false
  pub second : (b : ℕ) (more : List ℕ) → is_punctuator (b ∷ s ∷ more) ≡ false
  pub third : (b c : ℕ) (more : List ℕ) → is_punctuator (b ∷ c ∷ s ∷ more) ≡ false
  pub fourth : (b c d : ℕ) (more : List ℕ) → is_punctuator (b ∷ c ∷ d ∷ s ∷ more) ≡ false
  pub alone : (rest : List ℕ) → cut_piece (s ∷ rest) ≡ (kinds.White, 1)

and_false : (x : Bool) → x && false ≡ false
and_false true = refl
and_false false = refl

space_number : (e : Bool) → goes_on e 32 ≡ false
space_number true = refl
space_number false = refl

space_second : (b : ℕ) (more : List ℕ) → is_punctuator (b ∷ 32 ∷ more) ≡ false
space_second b [] = refl
space_second b (x ∷ []) = simp and_false
space_second b (x ∷ y ∷ []) = simp and_false
space_second b (x ∷ y ∷ z ∷ more) = refl

space_third : (b c : ℕ) (more : List ℕ) → is_punctuator (b ∷ c ∷ 32 ∷ more) ≡ false
space_third b c [] = refl
space_third b c (x ∷ []) = simp and_false
space_third b c (x ∷ y ∷ more) = refl

space_fourth : (b c d : ℕ) (more : List ℕ) → is_punctuator (b ∷ c ∷ d ∷ 32 ∷ more) ≡ false
space_fourth b c d [] = refl
space_fourth b c d (x ∷ more) = refl

space_alone : (rest : List ℕ) → cut_piece (32 ∷ rest) ≡ (kinds.White, 1)
unfolding cut_piece
space_alone [] = refl
space_alone (c ∷ cs) = refl

pub space_separates : Separates 32
space_separates = record {
  word = refl;
  number = space_number;
  quote = refl;
  digit = refl;
  star = refl;
  slash = refl;
  second = space_second;
  third = space_third;
  fourth = space_fourth;
  alone = space_alone;
}

line_number : (e : Bool) → goes_on e 10 ≡ false
line_number true = refl
line_number false = refl

line_second : (b : ℕ) (more : List ℕ) → is_punctuator (b ∷ 10 ∷ more) ≡ false
line_second b [] = refl
line_second b (x ∷ []) = simp and_false
line_second b (x ∷ y ∷ []) = simp and_false
line_second b (x ∷ y ∷ z ∷ more) = refl

line_third : (b c : ℕ) (more : List ℕ) → is_punctuator (b ∷ c ∷ 10 ∷ more) ≡ false
line_third b c [] = refl
line_third b c (x ∷ []) = simp and_false
line_third b c (x ∷ y ∷ more) = refl

line_fourth : (b c d : ℕ) (more : List ℕ) → is_punctuator (b ∷ c ∷ d ∷ 10 ∷ more) ≡ false
line_fourth b c d [] = refl
line_fourth b c d (x ∷ more) = refl

line_alone : (rest : List ℕ) → cut_piece (10 ∷ rest) ≡ (kinds.White, 1)
unfolding cut_piece
line_alone [] = refl
line_alone (c ∷ cs) = refl

pub line_feed_separates : Separates 10
line_feed_separates = record {
  word = refl;
  number = line_number;
  quote = refl;
  digit = refl;
  star = refl;
  slash = refl;
  second = line_second;
  third = line_third;
  fourth = line_fourth;
  alone = line_alone;
}

-- ---- what goes on past a separator is no piece

by_test : (P : Option Kind → Type 0) (t : Bool) (x y : Option Kind) → (t ≡ true → P x) → (t ≡ false → P y)
    → P (cond t x y)
by_test P true x y p q = p refl
by_test P false x y p q = q refl

by_both : (P : Option Kind → Option Kind → Type 0) (t : Bool) (x y x' y' : Option Kind) → (t ≡ true → P x x')
    → (t ≡ false → P y y') → P (cond t x y) (cond t x' y')
by_both P true x y x' y' p q = p refl
by_both P false x y x' y' p q = q refl

only_printed : (t : Bool) (kind : Kind) → has_printed_kind (only t kind) ≡ true → t ≡ true
only_printed true kind h = refl
only_printed false kind h = absurd cc

only_none : (t : Bool) (kind : Kind) → t ≡ false → only t kind ≡ None
only_none true kind h = absurd cc
only_none false kind h = refl

white_unprinted : (t : Bool) → has_printed_kind (only t kinds.White) ≡ true → ⊥
white_unprinted true h = cc
white_unprinted false h = cc

open_unprinted : (t : Bool) → has_printed_kind (only t kinds.OpenLiteral) ≡ true → ⊥
open_unprinted true h = cc
open_unprinted false h = cc

comment_unprinted : (o : Option ℕ) (xs : List ℕ) → has_printed_kind (comment_kind o xs) ≡ true → ⊥
comment_unprinted None xs h = cc
comment_unprinted (Some n) xs h = white_unprinted (n == length xs) h

module _ (s : ℕ) (is : Separates s) where
  literal_ends : (q : ℕ) (xs more : List ℕ) → is_end (literal_end q xs) xs ≡ true
      → is_end (literal_end q (xs ++ s ∷ more)) (xs ++ s ∷ more) ≡ false
  literal_ends q xs more h =
      let e = end_before (closes_literal q) (goes_on_in_literal q) (start_of q) xs (s ∷ more) (length xs) (is_end_at (literal_end q xs) xs h) in
      rw e (ne_eqb (length xs) (length (xs ++ s ∷ more)) (λ same. omega (arith, length-append xs (s ∷ more))))

  quoted_ends : (q : ℕ) (xs more : List ℕ) → has_printed_kind (quoted_kind q (literal_end q xs) xs) ≡ true
      → quoted_kind q (literal_end q (xs ++ s ∷ more)) (xs ++ s ∷ more) ≡ None
  quoted_ends q xs more = at_end (literal_end q xs) refl
    where
      at_end : (o : Option ℕ) → literal_end q xs ≡ o → has_printed_kind (quoted_kind q o xs) ≡ true
          → quoted_kind q (literal_end q (xs ++ s ∷ more)) (xs ++ s ∷ more) ≡ None
      at_end None e h = absurd (open_unprinted (list_all in_line xs) h)
      at_end (Some n) e h =
          let same : n ≡ length xs = eqb-true n (length xs) (only_printed (n == length xs) (literal_kind q) h) in
          let f : literal_end q (xs ++ s ∷ more) ≡ Some n = end_before (closes_literal q) (goes_on_in_literal q) (start_of q) xs (s ∷ more) n e in
          rw f (only_none _ (literal_kind q) (ne_eqb n (length (xs ++ s ∷ more)) (λ eq. omega (arith, length-append xs (s ∷ more)))))

  punctuator_ends : (b c : ℕ) (cs more : List ℕ) → is_punctuator (b ∷ c ∷ (cs ++ s ∷ more)) ≡ false
  punctuator_ends b c [] more = is.third b c more
  punctuator_ends b c (d ∷ []) more = is.fourth b c d more
  punctuator_ends b c (d ∷ e ∷ []) more = refl
  punctuator_ends b c (d ∷ e ∷ f ∷ fs) more = refl

  after_one : (b : ℕ) (more : List ℕ) → is_printed_kind (kind_of_one b) ≡ true → kind_of_more b s more ≡ None
  after_one b more printed =
      let none : Option Kind → Type 0 = λ o. o ≡ None in
      by_test none (is_blank b) _ _ (λ _. refl) (λ _.
      by_test none (opens_comment b s) _ _ (λ h. let f = (and_parts (b == 47) (s == 42) h).1 in let g = is.star in absurd cc) (λ _.
      by_test none (opens_line_comment b s) _ _ (λ h. let f = (and_parts (b == 47) (s == 47) h).1 in let g = is.slash in absurd cc) (λ _.
      by_test none (is_wide b s) _ _ (λ h. let f = (and_parts (b == 76) (is_quote s) h).1 in let g = is.quote in absurd cc) (λ _.
      by_test none (is_letter b) _ _ (λ _. rw is.word refl) (λ _.
      by_test none (starts_number b s) _ _ (λ _. rw (is.number false) refl) (λ _.
      by_test none (is_quote b) _ _ (λ h. let f : is_printed_kind kinds.OpenLiteral ≡ true = (rw (quote_alone b h) at printed) in absurd cc) (λ _. rw (is.second b more) refl)))))))

  after_more : (b c : ℕ) (cs more : List ℕ) → has_printed_kind (kind_of_more b c cs) ≡ true
      → kind_of_more b c (cs ++ s ∷ more) ≡ None
  after_more b c cs more =
      let ends : Option Kind → Option Kind → Type 0 = λ o after. has_printed_kind o ≡ true → after ≡ None in
      by_both ends (is_blank b) _ _ _ _ (λ _ h. refl) (λ _.
      by_both ends (opens_comment b c) _ _ _ _ (λ _ h. absurd (comment_unprinted (comment_end cs) cs h)) (λ _.
      by_both ends (opens_line_comment b c) _ _ _ _ (λ _ h. absurd (white_unprinted (list_all in_line cs) h)) (λ _.
      by_both ends (is_wide b c) _ _ _ _ (λ _ h. only_none _ (literal_kind c) (literal_ends c cs more (only_printed _ (literal_kind c) h))) (λ _.
      by_both ends (is_letter b) _ _ _ _ (λ _ h. only_none _ kinds.Identifier (run_ends is_word_byte (c ∷ cs) s more is.word)) (λ _.
      by_both ends (starts_number b c) _ _ _ _ (λ _ h. only_none _ kinds.Number (number_ends false (c ∷ cs) s more is.number)) (λ _.
      by_both ends (is_quote b) _ _ _ _ (λ _ h. quoted_ends b (c ∷ cs) more h) (λ _ h. only_none _ kinds.Punctuator (punctuator_ends b c cs more))))))))

  after_text : (text more : List ℕ) → can_print text ≡ true → kind_of (text ++ s ∷ more) ≡ None
  unfolding can_print kind_of
  after_text [] more h = absurd cc
  after_text (b ∷ []) more h = after_one b more h
  after_text (b ∷ c ∷ cs) more h = after_more b c cs more h

  take_past : (xs ys : List ℕ) (m : ℕ) → length xs < m → (k : ℕ) × (take m (xs ++ s ∷ ys) ≡ xs ++ s ∷ take k ys)
  take_past xs ys zero lt = absurd (omega arith)
  take_past [] ys (suc m) lt = (m, refl)
  take_past (x ∷ xs) ys (suc m) lt = let more = take_past xs ys m (omega arith) in (more.0, ap (λ (zs : List ℕ). x ∷ zs) more.1)

  some_text : (text : List ℕ) → can_print text ≡ true → 0 < length text
  unfolding can_print kind_of
  some_text [] h = absurd cc
  some_text (b ∷ bs) h = omega arith

  -- a text that can be printed is the piece that is cut, where a separator stands after it
  pub text_is_piece : (text rest : List ℕ) (kind : Kind) → can_print text ≡ true → kind_of text ≡ Some kind
      → IsPiece kind (length text) (text ++ s ∷ rest)
  text_is_piece text rest kind h known = record {
    takes = some_text text h;
    fits = fits;
    known = first;
    longest = longest_is (kind, length text) (text ++ s ∷ rest) (record { takes = some_text text h; fits = fits; known = first; most = λ m le some. at_len m some });
  }
    where
      fits : length text ≤ length (text ++ s ∷ rest)
      fits = omega (arith, length-append text (s ∷ rest))

      first : kind_of (take (length text) (text ++ s ∷ rest)) ≡ Some kind
      first = rw (take_at text (s ∷ rest) (length text) refl) known

      at_len : (m : ℕ) → is_some (kind_of (take m (text ++ s ∷ rest))) ≡ true → m ≤ length text
      at_len m some = elim (cases_lt (length text) m) [
        | inl lt ↦ let past = take_past text rest m lt in
            let none : false ≡ true = (rw (past.1, after_text text (take past.0 rest) h) at some) in absurd cc
        | inr ge ↦ ge
      ]
