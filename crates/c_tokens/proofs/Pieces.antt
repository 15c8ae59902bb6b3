-- The pieces of a text, and its tokens by their first piece.
use Rattle.std.proofs.Common.{◌≡◌, ℕ, zero, suc, ◌+◌, ◌-◌, ◌≤◌, ◌<◌, Bool, true, false, cond, List, [], ◌∷◌, ◌++◌, length, take, drop, filter, Some, refl, sym, ap, subst, ◌∙◌, arith, take-append-drop}
use Rattle.std.specs.List.{flat_map, All}
use Rattle.std.proofs.lemmas.List.{length-drop, length-take-le, drop-drop}
use Rattle.std.proofs.lemmas.List.Elements.{All-nil, All-cons}
use Rattle.c_tokens.specs.declared.token.Kind.{Kind}
use Rattle.c_tokens.specs.Kinds.{kind_of}
use Rattle.c_tokens.specs.Cutting.{cut_piece}
use Rattle.c_tokens.specs.Tokens.{Lexeme, longest, piece_of, cut, pieces_of, is_token, shown, tokens_of}
use Rattle.c_tokens.specs.Laws.{StandsIn}
use Rattle.c_tokens.proofs.Longest.{piece_is_cut, longest_is}

-- the longest piece, as a record on its length
pub record IsPiece (kind : Kind) (n : ℕ) (bytes : List ℕ) : Type 0 where
  pub takes : 0 < n
  pub fits : n ≤ length bytes
  pub known : kind_of (take n bytes) ≡ Some kind
  pub longest : longest bytes ≡ n

pub piece_at : (b : ℕ) (bs : List ℕ) → IsPiece (cut_piece (b ∷ bs)).0 (cut_piece (b ∷ bs)).1 (b ∷ bs)
piece_at b bs = let h = piece_is_cut b bs in record { takes = h.takes; fits = h.fits; known = h.known; longest = longest_is (cut_piece (b ∷ bs)) (b ∷ bs) h }

abbrev pub lexeme_of : Kind → ℕ → List ℕ → Lexeme
lexeme_of kind n bytes = record { kind = kind; text = take n bytes; left = length bytes }

piece_is : (kind : Kind) (n : ℕ) (bytes : List ℕ) → IsPiece kind n bytes
    → piece_of (take (longest bytes) bytes) (length bytes) ≡ lexeme_of kind n bytes
piece_is kind n bytes h = rw (h.longest, h.known) refl

rest_fits : (n b : ℕ) (bs : List ℕ) → length (b ∷ bs) ≤ suc n → length (drop (longest (b ∷ bs)) (b ∷ bs)) ≤ n
rest_fits n b bs le = let h = piece_at b bs in rw h.longest (omega (arith, length-drop (cut_piece (b ∷ bs)).1 (b ∷ bs), h.takes))

-- enough turns give all pieces
cut_enough : (n m : ℕ) (bytes : List ℕ) → length bytes ≤ n → length bytes ≤ m → cut n bytes ≡ cut m bytes
cut_enough zero zero bytes ln lm = refl
cut_enough zero (suc m) [] ln lm = refl
cut_enough (suc n) zero [] ln lm = refl
cut_enough (suc n) (suc m) [] ln lm = refl
cut_enough zero (suc m) (b ∷ bs) ln lm = absurd (omega arith)
cut_enough (suc n) zero (b ∷ bs) ln lm = absurd (omega arith)
cut_enough (suc n) (suc m) (b ∷ bs) ln lm =
    ap (λ (ts : List Lexeme). piece_of (take (longest (b ∷ bs)) (b ∷ bs)) (length (b ∷ bs)) ∷ ts)
    (cut_enough n m (drop (longest (b ∷ bs)) (b ∷ bs)) (rest_fits n b bs ln) (rest_fits m b bs lm))

-- the pieces in a row are the bytes
in_a_row : (n : ℕ) (bytes : List ℕ) → length bytes ≤ n → flat_map (λ (t : Lexeme). t.text) (cut n bytes) ≡ bytes
in_a_row zero [] le = refl
in_a_row zero (b ∷ bs) le = absurd (omega arith)
in_a_row (suc n) [] le = refl
in_a_row (suc n) (b ∷ bs) le = rw (in_a_row n (drop (longest (b ∷ bs)) (b ∷ bs)) (rest_fits n b bs le)) (take-append-drop (longest (b ∷ bs)) (b ∷ bs))

pub pieces_are_the_text : (bytes : List ℕ) → flat_map (λ (t : Lexeme). t.text) (pieces_of bytes) ≡ bytes
unfolding pieces_of
pieces_are_the_text bytes = in_a_row (length bytes) bytes (omega arith)

-- the tokens, by the first piece
pub tokens_step : (kind : Kind) (n b : ℕ) (bs : List ℕ) → IsPiece kind n (b ∷ bs)
    → tokens_of (b ∷ bs) ≡ shown (lexeme_of kind n (b ∷ bs)) ++ tokens_of (drop n (b ∷ bs))
unfolding tokens_of pieces_of
tokens_step kind n b bs h =
    let le : length (drop n (b ∷ bs)) ≤ length bs = omega (arith, length-drop n (b ∷ bs), h.takes) in
    let same : cut (length bs) (drop n (b ∷ bs)) ≡ cut (length (drop n (b ∷ bs))) (drop n (b ∷ bs)) = cut_enough (length bs) (length (drop n (b ∷ bs))) (drop n (b ∷ bs)) le (omega arith) in
    rw (h.longest, h.known, same) (by_kind (is_token (lexeme_of kind n (b ∷ bs))))
  where
    by_kind : (w : Bool) → cond w (lexeme_of kind n (b ∷ bs) ∷ filter is_token (cut (length (drop n (b ∷ bs))) (drop n (b ∷ bs)))) (filter is_token (cut (length (drop n (b ∷ bs))) (drop n (b ∷ bs))))
        ≡ cond w (lexeme_of kind n (b ∷ bs) ∷ []) [] ++ filter is_token (cut (length (drop n (b ∷ bs))) (drop n (b ∷ bs)))
    by_kind true = refl
    by_kind false = refl

-- at the end there are none
pub no_tokens : (bytes : List ℕ) → length bytes ≡ 0 → tokens_of bytes ≡ []
unfolding tokens_of pieces_of
no_tokens [] e = refl
no_tokens (b ∷ bs) e = absurd (omega arith)

-- each piece is of the kind of its text
abbrev IsKnown : Lexeme → Type 0
IsKnown t = kind_of t.text ≡ Some t.kind

known_first : (t : Lexeme) (ts : List Lexeme) → IsKnown t → All IsKnown ts → (w : Bool)
    → All IsKnown (cond w (t ∷ ts) ts)
known_first t ts known more true = All-cons IsKnown t ts known more
known_first t ts known more false = more

all_known : (n : ℕ) (bytes : List ℕ) → All IsKnown (filter is_token (cut n bytes))
all_known zero bytes = All-nil IsKnown
all_known (suc n) [] = All-nil IsKnown
all_known (suc n) (b ∷ bs) =
    let h = piece_at b bs in
    let p = cut_piece (b ∷ bs) in
    let more = cut n (drop (longest (b ∷ bs)) (b ∷ bs)) in
    subst (λ (t : Lexeme). All IsKnown (filter is_token (t ∷ more))) (sym (piece_is p.0 p.1 (b ∷ bs) h))
    (known_first (lexeme_of p.0 p.1 (b ∷ bs)) (filter is_token more) h.known (all_known n (drop (longest (b ∷ bs)) (b ∷ bs))) (is_token (lexeme_of p.0 p.1 (b ∷ bs))))

pub tokens_known : (bytes : List ℕ) → All (λ (t : Lexeme). kind_of t.text ≡ Some t.kind) (tokens_of bytes)
unfolding tokens_of pieces_of
tokens_known bytes = all_known (length bytes) bytes

-- each piece stands in the text, where the rest of the text from it on is what is left
stands_first : (bytes : List ℕ) (t : Lexeme) (ts : List Lexeme) → StandsIn bytes t → All (StandsIn bytes) ts
    → (w : Bool) → All (StandsIn bytes) (cond w (t ∷ ts) ts)
stands_first bytes t ts here more true = All-cons (StandsIn bytes) t ts here more
stands_first bytes t ts here more false = more

all_stand : (n : ℕ) (bytes : List ℕ) (k : ℕ) (rest : List ℕ) → drop k bytes ≡ rest → k + length rest ≡ length bytes
    → All (StandsIn bytes) (filter is_token (cut n rest))
all_stand zero bytes k rest e len = All-nil (StandsIn bytes)
all_stand (suc n) bytes k [] e len = All-nil (StandsIn bytes)
all_stand (suc n) bytes k (b ∷ bs) e len =
    let h = piece_at b bs in
    let l = longest (b ∷ bs) in
    let fits : l ≤ length (b ∷ bs) = omega (arith, h.longest, h.fits) in
    let at : length bytes - length (b ∷ bs) ≡ k = omega arith in
    let size : length (take l (b ∷ bs)) ≡ l = length-take-le l (b ∷ bs) fits in
    let here : StandsIn bytes (piece_of (take l (b ∷ bs)) (length (b ∷ bs))) = record { within = omega arith; there = rw (at, e, size) refl } in
    let next : drop (k + l) bytes ≡ drop l (b ∷ bs) = sym (drop-drop l k bytes) ∙ ap (drop l) e in
    let more = all_stand n bytes (k + l) (drop l (b ∷ bs)) next (omega (arith, length-drop l (b ∷ bs))) in
    stands_first bytes (piece_of (take l (b ∷ bs)) (length (b ∷ bs))) (filter is_token (cut n (drop l (b ∷ bs)))) here more (is_token (piece_of (take l (b ∷ bs)) (length (b ∷ bs))))

pub tokens_stand : (bytes : List ℕ) → All (StandsIn bytes) (tokens_of bytes)
unfolding tokens_of pieces_of
tokens_stand bytes = all_stand (length bytes) bytes 0 bytes refl (omega arith)

-- ---- as a cursor uses it: p is the piece that was cut

module _ (p : Kind × ℕ) (rest : List ℕ) (is : p ≡ cut_piece rest) (some : 0 < length rest) where
  pub cut_is : IsPiece p.0 p.1 rest
  cut_is = rw is (at_rest rest some)
    where
      at_rest : (rest : List ℕ) → 0 < length rest → IsPiece (cut_piece rest).0 (cut_piece rest).1 rest
      at_rest [] some = absurd (omega arith)
      at_rest (b ∷ bs) some = piece_at b bs

  pub cut_tokens : (text : List ℕ) → text ≡ take p.1 rest
      → tokens_of rest ≡ shown (record { kind = p.0; text = text; left = length rest }) ++ tokens_of (drop p.1 rest)
  cut_tokens text e = rw e (at_rest rest some cut_is)
    where
      at_rest : (rest : List ℕ) → 0 < length rest → IsPiece p.0 p.1 rest
          → tokens_of rest ≡ shown (lexeme_of p.0 p.1 rest) ++ tokens_of (drop p.1 rest)
      at_rest [] some h = absurd (omega arith)
      at_rest (b ∷ bs) some h = tokens_step p.0 p.1 b bs h
