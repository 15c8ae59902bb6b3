-- The tokens of a text that was printed are those that were printed.
use Rattle.std.proofs.Common.{◌≡◌, ℕ, zero, suc, ◌+◌, Bool, true, false, cond, ◌&&◌, not, List, [], ◌∷◌, ◌++◌, length, refl, ap, ◌∙◌, arith, length-append, append-nil}
use Rattle.std.specs.List.{flat_map, list_all}
use Rattle.fact_words.specs.Tokens.{ends_word, is_quoted_after, tokens_from, tokens_of}
use Rattle.fact_words.specs.Printed.{Mark, goes_through, is_mark, separator, printed, left_before, tokens_before, text_of_marks}

and_left : (a b : Bool) → a && b ≡ true → a ≡ true
and_left true b h = refl
and_left false b h = absurd cc

and_right : (a b : Bool) → a && b ≡ true → b ≡ true
and_right true b h = h
and_right false b h = absurd cc

not_true : (a : Bool) → not a ≡ true → a ≡ false
not_true true h = absurd cc
not_true false h = refl

-- a word is cut whole at the end of the text
word_last : (line quoted : Bool) (text : List ℕ) → goes_through quoted text ≡ true
    → tokens_from line quoted text ≡ record { line = line; text = text; left = length text } ∷ []
word_last line quoted [] h = refl
word_last line quoted (b ∷ bs) h =
    let stays : ends_word quoted b ≡ false = not_true (ends_word quoted b) (and_left _ _ h) in
    rw (stays, word_last line (is_quoted_after quoted b) bs (and_right (not (ends_word quoted b)) _ h)) refl

-- a word is cut whole before the next
word_first : (line quoted : Bool) (text : List ℕ) (next : Bool) (rest : List ℕ) → goes_through quoted text ≡ true
    → tokens_from line quoted (text ++ separator next ∷ rest) ≡ record { line = line; text = text; left = length text + suc (length rest) } ∷ tokens_from next false rest
word_first line true [] next rest h = absurd cc
word_first line false [] true rest h = let e : 0 + suc (length rest) ≡ suc (length rest) = omega arith in rw e refl
word_first line false [] false rest h = let e : 0 + suc (length rest) ≡ suc (length rest) = omega arith in rw e refl
word_first line quoted (b ∷ bs) next rest h =
    let stays : ends_word quoted b ≡ false = not_true (ends_word quoted b) (and_left _ _ h) in
    rw (stays, word_first line (is_quoted_after quoted b) bs next rest (and_right (not (ends_word quoted b)) _ h))
    (ap (λ (n : ℕ). record { line = line; text = b ∷ bs; left = n } ∷ tokens_from next false rest) (omega arith))

-- as many bytes are left as were printed
left_printed : (ms : List Mark) → length (flat_map printed ms) ≡ left_before (tokens_before [] ms)
left_printed [] = refl
left_printed (m ∷ ms) = let l = length-append m.text (flat_map printed ms) in omega (arith, l, left_printed ms)

marks_cut : (m : Mark) (ms : List Mark) → list_all is_mark (m ∷ ms) ≡ true
    → tokens_from m.line false (m.text ++ flat_map printed ms) ≡ tokens_before [] (m ∷ ms)
marks_cut m [] all =
    let l : length m.text + 0 ≡ length m.text = omega arith in
    let same : m.text ++ [] ≡ m.text = simp append-nil in
    rw (same, l) (word_last m.line false m.text (and_left (is_mark m) _ all))
marks_cut m (n ∷ ns) all =
    let first = word_first m.line false m.text n.line (n.text ++ flat_map printed ns) (and_left (is_mark m) _ all) in
    let left : suc (length (n.text ++ flat_map printed ns)) ≡ left_before (tokens_before [] (n ∷ ns)) = left_printed (n ∷ ns) in
    rw (first, left, marks_cut n ns (and_right (is_mark m) _ all)) refl

pub printed_cut : (first : Mark) (marks : List Mark) → first.line ≡ true → list_all is_mark (first ∷ marks) ≡ true
    → tokens_of (text_of_marks (first ∷ marks)) ≡ tokens_before [] (first ∷ marks)
printed_cut first marks begins all = rw (← begins) (marks_cut first marks all)
