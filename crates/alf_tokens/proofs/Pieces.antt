-- What is known of the piece that some bytes begin with, and of the tokens by their first piece.
--   IsCut p bytes   the piece takes some of the bytes, and no more, and shows these bytes; a name has its quotes, and can be printed
use Rattle.std.proofs.Common.{◌≡◌, ℕ, zero, suc, ◌+◌, ◌-◌, ◌≤◌, ◌<◌, Bool, true, false, cond, ◌&&◌, not, ltb, leb, List, [], ◌∷◌, ◌++◌, length, take, drop, filter, Option, Some, None, refl, sym, ap, subst, ◌∙◌, arith}
use Rattle.std.specs.List.{prefix_len, list_all, flat_map}
use Rattle.std.proofs.lemmas.Bool.{eqb-true}
use Rattle.std.specs.Char.{is_ascii_digit, is_ascii_alphabetic}
use Rattle.std.proofs.lemmas.List.{length-drop, length-take-le, take-take}
use Rattle.std.proofs.lemmas.List.Sums.{prefix_len-le-length}
use Rattle.std.proofs.lemmas.List.Folds.{length-prefix_len}
use Rattle.std.specs.Prelude.{◌==◌}
use Rattle.alf_tokens.specs.declared.token.Kind.{Kind}
use Rattle.alf_tokens.specs.declared.token.Kind.TheVariants as kinds
use Rattle.alf_tokens.specs.Bytes.{is_blank, is_word_byte, is_name_byte, begins_with, to_close, closes, one_more}
use Rattle.alf_tokens.specs.Tokens.{Lexeme, pieces_of, name_piece, closed_piece, comment_piece, number_piece, piece, text_of, lexeme_of, cut, is_numeral, is_token, shown, tokens_from}
use Rattle.alf_tokens.specs.Printed.{bytes_of, piece_bytes, is_named_well}

pub and_left : (a b : Bool) → a && b ≡ true → a ≡ true
and_left true b h = refl
and_left false b h = absurd cc

pub and_right : (a b : Bool) → a && b ≡ true → b ≡ true
and_right true b h = h
and_right false b h = absurd cc

-- by cases of a test
by_test : {A : Type 0} (P : A → Type 0) (t : Bool) (x y : A) → (t ≡ true → P x) → (t ≡ false → P y) → P (cond t x y)
by_test P true x y p q = p refl
by_test P false x y p q = q refl

-- ---- the end of a comment

close_more : (o : Option ℕ) (k n : ℕ) → one_more o ≡ Some k → ((j : ℕ) → o ≡ Some j → j ≤ n) → k ≤ suc n
close_more None k n e h = absurd cc
close_more (Some j) k n e h = let g : j + 1 ≡ k = cc in omega (arith, g, h j refl)

closes_long : (bs : List ℕ) → closes bs ≡ true → 2 ≤ length bs
closes_long [] e = absurd cc
closes_long (b ∷ []) e = absurd (not_false (b == 42) e)
  where
    not_false : (x : Bool) → x && false ≡ true → ⊥
    not_false true e = cc
    not_false false e = cc
closes_long (b ∷ c ∷ bs) e = omega arith

close_first : (b : ℕ) (bs : List ℕ) (k : ℕ) (t : Bool) → closes (b ∷ bs) ≡ t
    → cond t (Some 2) (one_more (to_close bs)) ≡ Some k
    → ((j : ℕ) → to_close bs ≡ Some j → j ≤ length bs) → k ≤ suc (length bs)
close_first b bs k true c e h = let g : 2 ≡ k = cc in omega (arith, closes_long (b ∷ bs) c)
close_first b bs k false c e h = close_more (to_close bs) k (length bs) e h

close_within : (bs : List ℕ) (k : ℕ) → to_close bs ≡ Some k → k ≤ length bs
unfolding to_close
close_within [] k e = absurd cc
close_within (b ∷ bs) k e = omega (arith, close_first b bs k (closes (b ∷ bs)) refl e (close_within bs))

begins_within : (b n : ℕ) (bytes : List ℕ) → begins_with b (drop n bytes) ≡ true → n < length bytes
begins_within b n bytes e = at_rest (drop n bytes) refl e
  where
    at_rest : (bs : List ℕ) → drop n bytes ≡ bs → begins_with b bs ≡ true → n < length bytes
    at_rest [] d e = absurd cc
    at_rest (c ∷ cs) d e = omega (arith, length-drop n bytes, ap length d)

-- ---- names

run_passes : (passes : ℕ → Bool) (xs : List ℕ) → list_all passes (take (prefix_len passes xs) xs) ≡ true
run_passes passes [] = refl
run_passes passes (x ∷ xs) = by_byte (run_passes passes xs) (passes x) refl
  where
    by_byte : list_all passes (take (prefix_len passes xs) xs) ≡ true → (t : Bool) → passes x ≡ t
        → list_all passes (take (cond t (1 + prefix_len passes xs) 0) (x ∷ xs)) ≡ true
    by_byte more true e = let k : 1 + prefix_len passes xs ≡ suc (prefix_len passes xs) = omega arith in rw (k, e) more
    by_byte more false e = refl

-- the bytes between the quotes
name_inside : (q : ℕ) (xs : List ℕ) (l : ℕ) → l + 2 ≤ length (q ∷ xs)
    → drop 1 (take (length (take (l + 2) (q ∷ xs)) - 1) (take (l + 2) (q ∷ xs))) ≡ take l xs
name_inside q xs l le =
    let a : l + 2 ≡ suc (suc l) = omega arith in
    let k : length (take (l + 2) (q ∷ xs)) - 1 ≡ suc l = omega (arith, length-take-le (l + 2) (q ∷ xs) le) in
    rw (k, a) (take-take l (suc l) xs (omega arith))

-- ---- one piece

pub record IsCut (p : Kind × ℕ) (bytes : List ℕ) : Type 0 where
  pub takes : 0 < p.1
  pub fits : p.1 ≤ length bytes
  pub quotes : p.0 ≡ kinds.Quoted → 2 ≤ p.1
  pub named : is_named_well (lexeme_of p bytes) ≡ true
  pub whole : bytes_of p.0 (text_of p.0 (take p.1 bytes)) ≡ take p.1 bytes

one_byte : (kind : Kind) (b : ℕ) (bs : List ℕ) → (kind ≡ kinds.Quoted → ⊥)
    → is_named_well (lexeme_of (kind, 1) (b ∷ bs)) ≡ true → bytes_of kind (text_of kind (b ∷ [])) ≡ b ∷ []
    → IsCut (kind, 1) (b ∷ bs)
one_byte kind b bs other named whole = record { takes = omega arith; fits = omega arith; quotes = λ e. absurd (other e); named = named; whole = whole }

all_bytes : (b : ℕ) (bs : List ℕ) → IsCut (kinds.Broken, length (b ∷ bs)) (b ∷ bs)
all_bytes b bs = record { takes = omega arith; fits = omega arith; quotes = λ e. absurd cc; named = refl; whole = refl }

-- the byte after a run
one_more_byte : (l c : ℕ) (bs : List ℕ) → begins_with c (drop l bs) ≡ true → take (suc l) bs ≡ take l bs ++ c ∷ []
one_more_byte zero c [] h = absurd cc
one_more_byte zero c (b ∷ bs) h = ap (λ (x : ℕ). x ∷ []) (eqb-true b c h)
one_more_byte (suc l) c [] h = absurd cc
one_more_byte (suc l) c (b ∷ bs) h = ap (λ (xs : List ℕ). b ∷ xs) (one_more_byte l c bs h)

name_cut : (b : ℕ) (bs : List ℕ) → b == 34 ≡ true → IsCut (name_piece bs (length (b ∷ bs))) (b ∷ bs)
name_cut b bs quote = by_test (λ p. IsCut p (b ∷ bs)) (ltb 0 l && leb l 64 && begins_with 34 (drop l bs)) (kinds.Quoted, l + 2) (kinds.Broken, length (b ∷ bs)) whole (λ _. all_bytes b bs)
  where
    l : ℕ
    l = prefix_len is_name_byte bs

    whole : ltb 0 l && leb l 64 && begins_with 34 (drop l bs) ≡ true → IsCut (kinds.Quoted, l + 2) (b ∷ bs)
    whole h =
        let fits : l + 2 ≤ length (b ∷ bs) = omega (arith, begins_within 34 l bs (and_right (ltb 0 l && leb l 64) (begins_with 34 (drop l bs)) h)) in
        let few = and_left (ltb 0 l && leb l 64) (begins_with 34 (drop l bs)) h in
        let len = length-prefix_len is_name_byte bs in
        let inside = name_inside b bs l fits in
        let two : l + 2 ≡ suc (suc l) = omega arith in
        let last = one_more_byte l 34 bs (and_right (ltb 0 l && leb l 64) (begins_with 34 (drop l bs)) h) in
        record {
          takes = omega arith;
          fits = fits;
          quotes = λ e. omega arith;
          named = rw (inside, len, few) (run_passes is_name_byte bs);
          whole = ap (λ (text : List ℕ). 34 ∷ (text ++ 34 ∷ [])) inside ∙ rw (two, last, eqb-true b 34 quote) refl;
        }

comment_cut : (b : ℕ) (bs : List ℕ) → IsCut (comment_piece bs (length (b ∷ bs))) (b ∷ bs)
comment_cut b bs = by_test (λ p. IsCut p (b ∷ bs)) (begins_with 42 bs) (closed_piece (to_close (drop 1 bs)) (length (b ∷ bs))) (kinds.Broken, length (b ∷ bs))
    (λ h. at_close (to_close (drop 1 bs)) refl h) (λ _. all_bytes b bs)
  where
    at_close : (o : Option ℕ) → to_close (drop 1 bs) ≡ o → begins_with 42 bs ≡ true
        → IsCut (closed_piece o (length (b ∷ bs))) (b ∷ bs)
    at_close None e h = all_bytes b bs
    at_close (Some n) e h = record {
      takes = omega arith;
      fits = omega (arith, close_within (drop 1 bs) n e, length-drop 1 bs, begins_within 42 0 bs h);
      quotes = λ e. absurd cc;
      named = refl;
      whole = refl;
    }

-- a run of bytes of which the first is one
run_some : (passes : ℕ → Bool) (b : ℕ) (bs : List ℕ) → passes b ≡ true → 0 < prefix_len passes (b ∷ bs)
run_some passes b bs h = rw h (omega arith)

number_cut : (b : ℕ) (bs : List ℕ) → is_ascii_digit b ≡ true
    → IsCut (number_piece (prefix_len is_ascii_digit (b ∷ bs))) (b ∷ bs)
number_cut b bs h =
    let n = prefix_len is_ascii_digit (b ∷ bs) in
    let some = run_some is_ascii_digit b bs h in
    let fits = prefix_len-le-length is_ascii_digit (b ∷ bs) in
    by_test (λ p. IsCut p (b ∷ bs)) (leb n 20) (kinds.Number, n) (kinds.Long, n) (λ _. record { takes = some; fits = fits; quotes = λ e. absurd cc; named = refl; whole = refl })
    (λ _. record { takes = some; fits = fits; quotes = λ e. absurd cc; named = refl; whole = refl })

word_cut : (b : ℕ) (bs : List ℕ) → is_ascii_alphabetic b ≡ true
    → IsCut (kinds.Word, prefix_len is_word_byte (b ∷ bs)) (b ∷ bs)
word_cut b bs h =
    let w : is_word_byte b ≡ true = rw h refl in
    record { takes = run_some is_word_byte b bs w; fits = prefix_len-le-length is_word_byte (b ∷ bs); quotes = λ e. absurd cc; named = refl; whole = refl }

pub piece_cut : (numbered : Bool) (b : ℕ) (bs : List ℕ) → IsCut (piece numbered (b ∷ bs)) (b ∷ bs)
unfolding piece
piece_cut numbered b bs =
    let cuts : Kind × ℕ → Type 0 = λ p. IsCut p (b ∷ bs) in
    by_test cuts (is_blank b) _ _ (λ _. one_byte kinds.White b bs (λ e. cc) refl refl) (λ _.
    by_test cuts (b == 123) _ _ (λ _. one_byte kinds.Open b bs (λ e. cc) refl refl) (λ _.
    by_test cuts (b == 125) _ _ (λ _. one_byte kinds.Close b bs (λ e. cc) refl refl) (λ _.
    by_test cuts (b == 34) _ _ (name_cut b bs) (λ _.
    by_test cuts (b == 47) _ _ (λ _. comment_cut b bs) (λ _.
    by_test cuts (is_ascii_digit b) _ _ (number_cut b bs) (λ _.
    by_test cuts (is_ascii_alphabetic b && not numbered) _ _ (λ h. word_cut b bs (and_left (is_ascii_alphabetic b) (not numbered) h)) (λ _. all_bytes b bs)))))))

-- ---- whole texts

rest_fits : (n : ℕ) (p : Kind × ℕ) (b : ℕ) (bs : List ℕ) → IsCut p (b ∷ bs) → length (b ∷ bs) ≤ suc n
    → length (drop p.1 (b ∷ bs)) ≤ n
rest_fits n p b bs h le = omega (arith, length-drop p.1 (b ∷ bs), h.takes)

-- enough turns give all pieces
cut_enough : (n m : ℕ) (numbered : Bool) (bytes : List ℕ) → length bytes ≤ n → length bytes ≤ m
    → cut n numbered bytes ≡ cut m numbered bytes
cut_enough zero zero numbered bytes ln lm = refl
cut_enough zero (suc m) numbered [] ln lm = refl
cut_enough (suc n) zero numbered [] ln lm = refl
cut_enough (suc n) (suc m) numbered [] ln lm = refl
cut_enough zero (suc m) numbered (b ∷ bs) ln lm = absurd (omega arith)
cut_enough (suc n) zero numbered (b ∷ bs) ln lm = absurd (omega arith)
cut_enough (suc n) (suc m) numbered (b ∷ bs) ln lm =
    let p = piece numbered (b ∷ bs) in
    let h = piece_cut numbered b bs in
    ap (λ (ts : List Lexeme). lexeme_of p (b ∷ bs) ∷ ts) (cut_enough n m (is_numeral p.0) (drop p.1 (b ∷ bs)) (rest_fits n p b bs h ln) (rest_fits m p b bs h lm))

split_again : (n : ℕ) (xs : List ℕ) → take n xs ++ drop n xs ≡ xs
split_again zero xs = refl
split_again (suc n) [] = refl
split_again (suc n) (x ∷ xs) = ap (λ (ys : List ℕ). x ∷ ys) (split_again n xs)

-- the pieces in a row are the bytes
in_a_row : (n : ℕ) (numbered : Bool) (bytes : List ℕ) → length bytes ≤ n
    → flat_map piece_bytes (cut n numbered bytes) ≡ bytes
in_a_row zero numbered [] le = refl
in_a_row zero numbered (b ∷ bs) le = absurd (omega arith)
in_a_row (suc n) numbered [] le = refl
in_a_row (suc n) numbered (b ∷ bs) le =
    let p = piece numbered (b ∷ bs) in
    let h = piece_cut numbered b bs in
    rw (h.whole, in_a_row n (is_numeral p.0) (drop p.1 (b ∷ bs)) (rest_fits n p b bs h le)) (split_again p.1 (b ∷ bs))

pub pieces_are_the_text : (bytes : List ℕ) → flat_map piece_bytes (pieces_of bytes) ≡ bytes
pieces_are_the_text bytes = in_a_row (length bytes) false bytes (omega arith)

-- the tokens, by the first piece
pub tokens_step : (numbered : Bool) (b : ℕ) (bs : List ℕ) (p : Kind × ℕ) → piece numbered (b ∷ bs) ≡ p
    → tokens_from numbered (b ∷ bs) ≡ shown (lexeme_of p (b ∷ bs)) ++ tokens_from (is_numeral p.0) (drop p.1 (b ∷ bs))
unfolding tokens_from
tokens_step numbered b bs p e =
    let h : IsCut p (b ∷ bs) = subst (λ (q : Kind × ℕ). IsCut q (b ∷ bs)) e (piece_cut numbered b bs) in
    let rest = drop p.1 (b ∷ bs) in
    let same = cut_enough (length bs) (length rest) (is_numeral p.0) rest (rest_fits (length bs) p b bs h (omega arith)) (omega arith) in
    rw (e, same) (by_kind (is_token (lexeme_of p (b ∷ bs))))
  where
    by_kind : (w : Bool) → cond w (lexeme_of p (b ∷ bs) ∷ tokens_from (is_numeral p.0) (drop p.1 (b ∷ bs))) (tokens_from (is_numeral p.0) (drop p.1 (b ∷ bs)))
        ≡ cond w (lexeme_of p (b ∷ bs) ∷ []) [] ++ tokens_from (is_numeral p.0) (drop p.1 (b ∷ bs))
    by_kind true = refl
    by_kind false = refl

-- at the end there are none
pub no_tokens : (numbered : Bool) (bytes : List ℕ) → length bytes ≡ 0 → tokens_from numbered bytes ≡ []
unfolding tokens_from
no_tokens numbered [] e = refl
no_tokens numbered (b ∷ bs) e = absurd (omega arith)

-- ---- as a cursor uses it: p is the piece that was cut

module _ (numbered : Bool) (p : Kind × ℕ) (rest : List ℕ) (is : p ≡ piece numbered rest) (some : 0 < length rest) where
  pub cut_is : IsCut p rest
  cut_is = rw is (at_rest rest some)
    where
      at_rest : (rest : List ℕ) → 0 < length rest → IsCut (piece numbered rest) rest
      at_rest [] some = absurd (omega arith)
      at_rest (b ∷ bs) some = piece_cut numbered b bs

  pub taken : (bytes : List ℕ) (t : Lexeme) → bytes ≡ take p.1 rest
      → t ≡ record { kind = p.0; text = text_of p.0 bytes; left = length rest }
      → tokens_from numbered rest ≡ shown t ++ tokens_from (is_numeral p.0) (drop p.1 rest)
  taken bytes t first token =
      let t_is : lexeme_of p rest ≡ t = sym (token ∙ ap (λ (bs : List ℕ). record { kind = p.0; text = text_of p.0 bs; left = length rest }) first) in
      at_rest rest some (sym is) ∙ ap (λ (u : Lexeme). shown u ++ tokens_from (is_numeral p.0) (drop p.1 rest)) t_is
    where
      at_rest : (rest : List ℕ) → 0 < length rest → piece numbered rest ≡ p
          → tokens_from numbered rest ≡ shown (lexeme_of p rest) ++ tokens_from (is_numeral p.0) (drop p.1 rest)
      at_rest [] some e = absurd (omega arith)
      at_rest (b ∷ bs) some e = tokens_step numbered b bs p e

-- ---- names

all_named : (n : ℕ) (numbered : Bool) (bytes : List ℕ) → list_all is_named_well (cut n numbered bytes) ≡ true
all_named zero numbered bytes = refl
all_named (suc n) numbered [] = refl
all_named (suc n) numbered (b ∷ bs) = rw (piece_cut numbered b bs).named (all_named n (is_numeral (piece numbered (b ∷ bs)).0) (drop (piece numbered (b ∷ bs)).1 (b ∷ bs)))

filter_all : (p q : Lexeme → Bool) (ts : List Lexeme) → list_all p ts ≡ true → list_all p (filter q ts) ≡ true
filter_all p q [] h = refl
filter_all p q (t ∷ ts) h =
    let more = filter_all p q ts (and_right (p t) (list_all p ts) h) in
    by_test (λ us. list_all p us ≡ true) (q t) (t ∷ filter q ts) (filter q ts) (λ _. rw (and_left (p t) (list_all p ts) h) more) (λ _. more)

pub names_well : (numbered : Bool) (bytes : List ℕ) → list_all is_named_well (tokens_from numbered bytes) ≡ true
unfolding tokens_from
names_well numbered bytes = filter_all is_named_well is_token (cut (length bytes) numbered bytes) (all_named (length bytes) numbered bytes)
