-- The parts of a name, as a loop reads them.
use Rattle.std.proofs.Common.{◌≡◌, ℕ, suc, ◌+◌, ◌&&◌, Bool, true, false, not, cond, List, [], ◌∷◌, take, drop, refl, ◌∙◌, arith}
use Rattle.std.specs.Prelude.{◌==◌}
use Rattle.std.specs.List.{prefix_len}
use Rattle.lists.specs.TestLaws.{by_test}
use Rattle.fact_words.specs.Names.{with_first, parts_of, further, is_name, is_call, is_end, is_over, fits_parts, begins_quoted}

abbrev pub no_quote : ℕ → Bool
no_quote b = not (b == 34)

one_more : (n : ℕ) → 1 + n ≡ suc n
one_more n = omega arith

-- the part before the first quote, and those after it
first_part : (text : List ℕ)
    → parts_of text ≡ take (prefix_len no_quote text) text ∷ further (drop (prefix_len no_quote text) text)
first_part [] = refl
first_part (b ∷ bs) = by_test (b == 34)
    (λ t. rw t refl)
    (λ t. rw (t, one_more (prefix_len no_quote bs), first_part bs) refl)

no_false : (b : Bool) → b && false ≡ false
no_false true = refl
no_false false = refl

-- there is always a part
some_part : (text : List ℕ) → is_over (parts_of text) ≡ false
some_part text = rw (first_part text) refl

-- the last part
last_fits : (quoted : Bool) (part : List ℕ) → fits_parts quoted (part ∷ []) ≡ not quoted && is_end part
last_fits true part = no_false (is_name part)
last_fits false part = refl

-- a part before others
part_fits : (quoted : Bool) (part text : List ℕ) → fits_parts quoted (part ∷ parts_of text) ≡ cond quoted (is_name part) (is_call part) && fits_parts (not quoted) (parts_of text)
part_fits true part text = refl
part_fits false part text = rw (some_part text) refl

-- the last part of the text, and a part before others, where so many bytes stand before the first quote
module _ (quoted : Bool) (text : List ℕ) (n : ℕ) (len : n ≡ prefix_len no_quote text) where
  pub at_last : further (drop n text) ≡ [] → fits_parts quoted (parts_of text) ≡ not quoted && is_end (take n text)
  at_last none = let e : parts_of text ≡ take n text ∷ further (drop n text) = rw len (first_part text) in rw (e, none) (last_fits quoted (take n text))

  pub at_more : (others : List ℕ) → further (drop n text) ≡ parts_of others
      → fits_parts quoted (parts_of text) ≡ cond quoted (is_name (take n text)) (is_call (take n text)) && fits_parts (not quoted) (parts_of others)
  at_more others more = let e : parts_of text ≡ take n text ∷ further (drop n text) = rw len (first_part text) in rw (e, more) (part_fits quoted (take n text) others)

-- no name begins with another byte
pub other_first : (b : ℕ) (ps : List (List ℕ)) → begins_quoted (with_first b ps) ≡ false
other_first b [] = refl
other_first b (p ∷ ps) = refl
