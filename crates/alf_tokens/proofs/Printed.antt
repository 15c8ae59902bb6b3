-- The tokens of a text that was printed are those that were printed.
use Rattle.std.proofs.Common.{◌≡◌, ℕ, suc, ◌+◌, ◌-◌, ◌≤◌, Bool, true, false, ◌&&◌, ◌||◌, ltb, leb, List, [], ◌∷◌, ◌++◌, length, take, drop, refl, sym, ap, subst, ◌∙◌, arith, append_assoc, codes, length-append}
use Rattle.std.specs.Prelude.{◌==◌}
use Rattle.std.specs.List.{prefix_len, list_all, flat_map}
use Rattle.std.specs.Str.{bytes_eq}
use Rattle.std.specs.Char.{is_ascii_digit, is_ascii_alphabetic}
use Rattle.std.specs.Int.{is_in_range}
use Rattle.std.proofs.lemmas.Bool.{eqb-true, leb-true, le-leb}
use Rattle.std.proofs.lemmas.Slice.Eq.{bytes_eq-Decides}
use Rattle.std.proofs.lemmas.List.{take_at, drop_at}
use Rattle.alf_tokens.specs.declared.token.Kind.{Kind}
use Rattle.alf_tokens.specs.declared.token.Kind.TheVariants as kinds
use Rattle.alf_tokens.specs.Bytes.{is_blank, is_word_byte, is_name_byte}
use Rattle.alf_tokens.specs.Tokens.{Lexeme, text_of, is_kind, is_numeral, piece, tokens_from, tokens_of}
use Rattle.alf_tokens.specs.Printed.{Mark, is_word_text, is_number_text, is_name_text, can_print, is_separator, is_mark, bytes_of, printed, text_of_marks, left_before, token_before, tokens_before}
use Rattle.alf_tokens.proofs.Pieces.{and_left, and_right, tokens_step, no_tokens}

-- ---- bytes

-- the two separators
by_separator : (P : ℕ → Type 0) (b : ℕ) → P 32 → P 10 → (t u : Bool) → b == 32 ≡ t → b == 10 ≡ u → t || u ≡ true → P b
by_separator P b p q true u e f h = subst P (sym (eqb-true b 32 e)) p
by_separator P b p q false true e f h = subst P (sym (eqb-true b 10 f)) q
by_separator P b p q false false e f h = absurd cc

separator_is : (P : ℕ → Type 0) (b : ℕ) → is_separator b ≡ true → P 32 → P 10 → P b
separator_is P b h p q = by_separator P b p q (b == 32) (b == 10) refl refl h

-- a run of bytes ends where it stops
run_stops : (passes : ℕ → Bool) (text : List ℕ) (b : ℕ) (rest : List ℕ) → list_all passes text ≡ true → passes b ≡ false
    → prefix_len passes (text ++ b ∷ rest) ≡ length text
run_stops passes [] b rest all stop = rw stop refl
run_stops passes (c ∷ cs) b rest all stop = rw (and_left (passes c) (list_all passes cs) all, run_stops passes cs b rest (and_right (passes c) (list_all passes cs) all) stop) (omega arith)

in_range : (lo hi b : ℕ) → is_in_range lo hi b ≡ true → (lo ≤ b) × (b ≤ hi)
in_range lo hi b h = (leb-true _ _ (and_left (leb lo b) (leb b hi) h), leb-true _ _ (and_right (leb lo b) (leb b hi) h))

letter_within : (b : ℕ) (t u : Bool) → is_in_range 65 90 b ≡ t → is_in_range 97 122 b ≡ u → t || u ≡ true
    → (65 ≤ b) × (b ≤ 122)
letter_within b true u e f h = omega (arith, in_range 65 90 b e)
letter_within b false true e f h = omega (arith, in_range 97 122 b f)
letter_within b false false e f h = absurd cc

-- no byte from 48 to 122 is a blank, a brace, a quote or a slash
record IsPlain (b : ℕ) : Type 0 where
  blank : is_blank b ≡ false
  opens : b == 123 ≡ false
  closes : b == 125 ≡ false
  quotes : b == 34 ≡ false
  slashes : b == 47 ≡ false

plain : (b : ℕ) → 48 ≤ b → b ≤ 122 → IsPlain b
plain b lo hi =
    let n1 : b == 32 ≡ false = grind arith in
    let n2 : b == 9 ≡ false = grind arith in
    let n3 : b == 13 ≡ false = grind arith in
    let n4 : b == 10 ≡ false = grind arith in
    record { blank = rw (n1, n2, n3, n4) refl; opens = grind arith; closes = grind arith; quotes = grind arith; slashes = grind arith }

letter_no_digit : (b : ℕ) → 65 ≤ b → is_ascii_digit b ≡ false
letter_no_digit b h = let l : leb b 57 ≡ false = grind arith in let m : leb 48 b ≡ true = le-leb _ _ (omega arith) in rw (m, l) refl

-- ---- single tokens

-- a token is cut as it was printed, where a separator stands after it
record IsShown (kind : Kind) (text : List ℕ) : Type 0 where
  some : (b : ℕ) × (bs : List ℕ) × (bytes_of kind text ≡ b ∷ bs)
  cut : (b : ℕ) (rest : List ℕ) → is_separator b ≡ true
      → piece false (bytes_of kind text ++ b ∷ rest) ≡ (kind, length (bytes_of kind text))
  shows : text_of kind (bytes_of kind text) ≡ text
  seen : is_kind kinds.White kind ≡ false

open_shown : IsShown kinds.Open (codes "{")
unfolding piece
open_shown = record { some = (123, [], refl); cut = λ b rest e. refl; shows = refl; seen = refl }

close_shown : IsShown kinds.Close (codes "}")
unfolding piece
close_shown = record { some = (125, [], refl); cut = λ b rest e. refl; shows = refl; seen = refl }

word_shown : (text : List ℕ) → is_word_text text ≡ true → IsShown kinds.Word text
unfolding piece
word_shown [] h = absurd cc
word_shown (c ∷ cs) h = record { some = (c, cs, refl); cut = cut_at; shows = refl; seen = refl }
  where
    letter : is_ascii_alphabetic c ≡ true
    letter = and_left (is_ascii_alphabetic c) (list_all is_word_byte cs) h

    cut_at : (b : ℕ) (rest : List ℕ) → is_separator b ≡ true
        → piece false (c ∷ (cs ++ b ∷ rest)) ≡ (kinds.Word, length (c ∷ cs))
    cut_at b rest e =
        let stop : is_word_byte b ≡ false = separator_is (λ (b : ℕ). is_word_byte b ≡ false) b e refl refl in
        let run = run_stops is_word_byte cs b rest (and_right (is_ascii_alphabetic c) (list_all is_word_byte cs) h) stop in
        let w = letter_within c (is_in_range 65 90 c) (is_in_range 97 122 c) refl refl letter in
        let p = plain c (omega (arith, w.0)) w.1 in
        rw (p.blank, p.opens, p.closes, p.quotes, p.slashes, letter_no_digit c w.0, letter, run) (ap (λ (n : ℕ). (kinds.Word, n)) (omega arith))

number_shown : (text : List ℕ) → is_number_text text ≡ true → IsShown kinds.Number text
unfolding piece
number_shown [] h = absurd cc
number_shown (c ∷ cs) h = record { some = (c, cs, refl); cut = cut_at; shows = refl; seen = refl }
  where
    all : list_all is_ascii_digit (c ∷ cs) ≡ true
    all = and_right (ltb 0 (length (c ∷ cs)) && leb (length (c ∷ cs)) 20) (list_all is_ascii_digit (c ∷ cs)) h

    short : leb (length (c ∷ cs)) 20 ≡ true
    short = and_right (ltb 0 (length (c ∷ cs))) _ (and_left _ (list_all is_ascii_digit (c ∷ cs)) h)

    cut_at : (b : ℕ) (rest : List ℕ) → is_separator b ≡ true
        → piece false ((c ∷ cs) ++ b ∷ rest) ≡ (kinds.Number, length (c ∷ cs))
    cut_at b rest e =
        let stop : is_ascii_digit b ≡ false = separator_is (λ (b : ℕ). is_ascii_digit b ≡ false) b e refl refl in
        let run : prefix_len is_ascii_digit ((c ∷ cs) ++ b ∷ rest) ≡ length (c ∷ cs) = run_stops is_ascii_digit (c ∷ cs) b rest all stop in
        let digit = and_left (is_ascii_digit c) (list_all is_ascii_digit cs) all in
        let w = in_range 48 57 c digit in
        let p = plain c w.0 (omega (arith, w.1)) in
        rw (run, p.blank, p.opens, p.closes, p.quotes, p.slashes, digit, short) refl

name_shown : (text : List ℕ) → is_name_text text ≡ true → IsShown kinds.Quoted text
unfolding piece
name_shown name h = record { some = (34, name ++ 34 ∷ [], refl); cut = λ b rest e. cut_at b rest; shows = inside; seen = refl }
  where
    inside : drop 1 (take (length (34 ∷ (name ++ 34 ∷ [])) - 1) (34 ∷ (name ++ 34 ∷ []))) ≡ name
    inside =
        let k : length (34 ∷ (name ++ 34 ∷ [])) - 1 ≡ suc (length name) = omega (arith, length-append name (34 ∷ [])) in
        rw k (take_at name (34 ∷ []) (length name) refl)

    cut_at : (b : ℕ) (rest : List ℕ)
        → piece false (34 ∷ (name ++ 34 ∷ []) ++ b ∷ rest) ≡ (kinds.Quoted, length (34 ∷ (name ++ 34 ∷ [])))
    cut_at b rest =
        let g : (name ++ 34 ∷ []) ++ b ∷ rest ≡ name ++ 34 ∷ b ∷ rest = append_assoc name (34 ∷ []) (b ∷ rest) in
        let few = and_left (ltb 0 (length name) && leb (length name) 64) (list_all is_name_byte name) h in
        let r = run_stops is_name_byte name 34 (b ∷ rest) (and_right (ltb 0 (length name) && leb (length name) 64) (list_all is_name_byte name) h) refl in
        let l : length name + 2 ≡ length (34 ∷ (name ++ 34 ∷ [])) = omega (arith, length-append name (34 ∷ [])) in
        rw (g, r, few, drop_at name (34 ∷ b ∷ rest) (length name) refl) (ap (λ (n : ℕ). (kinds.Quoted, n)) l)

same_bytes : (xs ys : List ℕ) → bytes_eq xs ys ≡ true → xs ≡ ys
same_bytes xs ys h = (bytes_eq-Decides xs ys).0 h

token_shown : (kind : Kind) (text : List ℕ) → can_print kind text ≡ true → IsShown kind text
token_shown kinds.Open text h = subst (IsShown kinds.Open) (sym (same_bytes text (codes "{") h)) open_shown
token_shown kinds.Close text h = subst (IsShown kinds.Close) (sym (same_bytes text (codes "}") h)) close_shown
token_shown kinds.Word text h = word_shown text h
token_shown kinds.Number text h = number_shown text h
token_shown kinds.Quoted text h = name_shown text h
token_shown kinds.White text h = absurd cc
token_shown kinds.Long text h = absurd cc
token_shown kinds.Broken text h = absurd cc

-- ---- texts

piece_white : (numbered : Bool) (b : ℕ) (rest : List ℕ) → is_separator b ≡ true
    → piece numbered (b ∷ rest) ≡ (kinds.White, 1)
unfolding piece
piece_white numbered b rest e = separator_is (λ (b : ℕ). piece numbered (b ∷ rest) ≡ (kinds.White, 1)) b e refl refl

separator_first : (numbered : Bool) (b : ℕ) (rest : List ℕ) → is_separator b ≡ true
    → tokens_from numbered (b ∷ rest) ≡ tokens_from false rest
separator_first numbered b rest e = tokens_step numbered b rest (kinds.White, 1) (piece_white numbered b rest e)

token_first : (kind : Kind) (text : List ℕ) (b : ℕ) (rest : List ℕ) → IsShown kind text → is_separator b ≡ true
    → tokens_from false (bytes_of kind text ++ b ∷ rest) ≡ record { kind = kind; text = text; left = length (bytes_of kind text) + suc (length rest) } ∷ tokens_from (is_numeral kind) (b ∷ rest)
token_first kind text b rest s e = at_bytes (bytes_of kind text) s.some.0 s.some.1 s.some.2 (s.cut b rest e) s.shows
  where
    at_bytes : (bytes : List ℕ) (c : ℕ) (cs : List ℕ) → bytes ≡ c ∷ cs
        → piece false (bytes ++ b ∷ rest) ≡ (kind, length bytes) → text_of kind bytes ≡ text
        → tokens_from false (bytes ++ b ∷ rest) ≡ record { kind = kind; text = text; left = length bytes + suc (length rest) } ∷ tokens_from (is_numeral kind) (b ∷ rest)
    at_bytes [] c cs is cut shows = absurd cc
    at_bytes (d ∷ ds) c cs is cut shows =
        let step = tokens_step false d (ds ++ b ∷ rest) (kind, length (d ∷ ds)) cut in
        let len : length ((d ∷ ds) ++ b ∷ rest) ≡ length (d ∷ ds) + suc (length rest) = length-append (d ∷ ds) (b ∷ rest) in
        step ∙ rw (s.seen, take_at (d ∷ ds) (b ∷ rest) (length (d ∷ ds)) refl, drop_at (d ∷ ds) (b ∷ rest) (length (d ∷ ds)) refl, shows, len) refl

abbrev ended : List Mark → List ℕ
ended ms = flat_map printed ms ++ 10 ∷ []

-- a separator stands first
ended_begins : (ms : List Mark) → list_all is_mark ms ≡ true
    → (b : ℕ) × (rest : List ℕ) × (is_separator b ≡ true) × (ended ms ≡ b ∷ rest)
ended_begins [] all = (10, [], refl, refl)
ended_begins (m ∷ ms) all = (m.blank, (bytes_of m.kind m.text ++ flat_map printed ms) ++ 10 ∷ [], and_left (is_separator m.blank) _ (and_left (is_mark m) (list_all is_mark ms) all), refl)

-- as many bytes are left before the tokens as they were printed with
bytes_left : (ms : List Mark) → length (ended ms) ≡ left_before (tokens_before [] ms)
bytes_left [] = refl
bytes_left (m ∷ ms) =
    let bytes = bytes_of m.kind m.text in
    let g : length ((bytes ++ flat_map printed ms) ++ 10 ∷ []) ≡ length bytes + length (ended ms) = rw (append_assoc bytes (flat_map printed ms) (10 ∷ [])) (length-append bytes (ended ms)) in
    ap suc (g ∙ ap (λ (n : ℕ). length bytes + n) (bytes_left ms))

marks_cut : (numbered : Bool) (ms : List Mark) → list_all is_mark ms ≡ true
    → tokens_from numbered (ended ms) ≡ tokens_before [] ms
marks_cut numbered [] all = separator_first numbered 10 [] refl ∙ no_tokens false [] refl
marks_cut numbered (m ∷ ms) all =
    let here = and_left (is_mark m) (list_all is_mark ms) all in
    let more = and_right (is_mark m) (list_all is_mark ms) all in
    let n = ended_begins ms more in
    let bytes = bytes_of m.kind m.text in
    let s = token_shown m.kind m.text (and_right (is_separator m.blank) (can_print m.kind m.text) here) in
    let left : suc (length n.1) ≡ left_before (tokens_before [] ms) = ap length (sym n.3) ∙ bytes_left ms in
    let first_is : tokens_from false (bytes ++ ended ms) ≡ token_before (tokens_before [] ms) m ∷ tokens_from (is_numeral m.kind) (ended ms)
    = rw (← left, n.3) (token_first m.kind m.text n.0 n.1 s n.2) in
    rw (separator_first numbered m.blank ((bytes ++ flat_map printed ms) ++ 10 ∷ []) (and_left (is_separator m.blank) _ here), append_assoc bytes (flat_map printed ms) (10 ∷ []), first_is)
    (ap (λ (ts : List Lexeme). token_before (tokens_before [] ms) m ∷ ts) (marks_cut (is_numeral m.kind) ms more))

pub printed_cut : (ms : List Mark) → list_all is_mark ms ≡ true → tokens_of (text_of_marks ms) ≡ tokens_before [] ms
unfolding tokens_of
printed_cut [] all = marks_cut false [] all
printed_cut (m ∷ ms) all =
    let blank = and_left (is_separator m.blank) _ (and_left (is_mark m) (list_all is_mark ms) all) in
    sym (separator_first false m.blank ((bytes_of m.kind m.text ++ flat_map printed ms) ++ 10 ∷ []) blank) ∙ marks_cut false (m ∷ ms) all
