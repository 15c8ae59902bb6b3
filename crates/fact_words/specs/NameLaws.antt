-- The names of nodes, by their parts and as they are made.
use Rattle.std.proofs.Common.{◌≡◌, ℕ, suc, ◌+◌, ◌-◌, ◌^◌, ◌≤◌, ◌&&◌, ◌||◌, Bool, true, false, not, cond, ltb, leb, List, [], ◌∷◌, ◌++◌, length, All, refl, ap, subst, ◌∙◌, arith, append_assoc, append-nil, codes}
use Rattle.std.specs.Prelude.{◌==◌, decimal}
use Rattle.std.specs.List.{list_all}
use Rattle.std.specs.Str.{bytes_eq}
use Rattle.std.specs.Char.{is_ascii_digit}
use Rattle.std.proofs.lemmas.Bool.{le-leb, leb-true, ne_eqb, eqb-true}
use Rattle.std.proofs.lemmas.Bool.Decides.{nat_tests}
use Rattle.std.proofs.lemmas.Slice.Eq.{bytes_eq-Decides}
use Rattle.std.proofs.lemmas.List.Elements.{All-head, All-tail, All-nil, All-cons}
use Rattle.lists.specs.TestLaws.{by_test}
use Rattle.flow_base.specs.Digits.{number_of}
use Rattle.flow_facts.specs.Writable.{IsNumber, IsNameByte, IsName, quoted, IsPathName, of_root, of_call, IsNodeName, of_entry, of_block}
use Rattle.fact_words.specs.Printed.{goes_through, is_word}
use Rattle.fact_words.specs.Numbers.{is_numeral, has_zeros}
use Rattle.fact_words.specs.Names.{with_first, parts_of, is_name_byte, is_name, is_block, is_call, is_end, is_over, fits_parts, begins_quoted, is_node_name}
use Rattle.fact_words.specs.DigitLaws.{decimal_of, decimal_is, decimal_goes}

and_left : (a b : Bool) → a && b ≡ true → a ≡ true
and_left true b h = refl
and_left false b h = absurd cc

and_right : (a b : Bool) → a && b ≡ true → b ≡ true
and_right true b h = h
and_right false b h = absurd cc

abbrev no_quote : ℕ → Bool
no_quote b = not (b == 34)

-- ---- names between quotes

byte_passes : (b : ℕ) → IsNameByte b → is_name_byte b ≡ true
byte_passes b w = rw (le-leb 32 b w.from_space, le-leb b 126 w.to_tilde, ne_eqb b 34 w.no_quote, ne_eqb b 92 w.no_backslash) refl

byte_is : (b : ℕ) → is_name_byte b ≡ true → IsNameByte b
byte_is b h = record { from_space = grind (arith, nat_tests); to_tilde = grind (arith, nat_tests); no_quote = grind (arith, nat_tests); no_backslash = grind (arith, nat_tests) }

bytes_pass : (bs : List ℕ) → All IsNameByte bs → list_all is_name_byte bs ≡ true
bytes_pass [] w = refl
bytes_pass (b ∷ bs) w = rw (byte_passes b (All-head IsNameByte b bs w), bytes_pass bs (All-tail IsNameByte b bs w)) refl

bytes_are : (bs : List ℕ) → list_all is_name_byte bs ≡ true → All IsNameByte bs
bytes_are [] h = All-nil IsNameByte
bytes_are (b ∷ bs) h = by_test (is_name_byte b) (λ t. All-cons IsNameByte b bs (byte_is b t) (bytes_are bs (rw t at h))) (λ t. absurd (let k : false ≡ true = rw t at h in cc))

name_passes : (n : List ℕ) → IsName n → is_name n ≡ true
name_passes n w =
    let some : ltb 0 (length n) ≡ true = grind (arith, w.some) in
    rw (some, le-leb (length n) 64 w.short, bytes_pass n w.bytes) refl

name_is : (n : List ℕ) → is_name n ≡ true → IsName n
name_is n h = record { some = grind (arith, nat_tests); short = grind (arith, nat_tests); bytes = bytes_are n (grind (arith, nat_tests)) }

-- no quote stands in a name, nor among digits
name_unquoted : (bs : List ℕ) → All IsNameByte bs → list_all no_quote bs ≡ true
name_unquoted [] w = refl
name_unquoted (b ∷ bs) w = rw (ne_eqb b 34 (All-head IsNameByte b bs w).no_quote, name_unquoted bs (All-tail IsNameByte b bs w)) refl

digits_unquoted : (ds : List ℕ) → list_all is_ascii_digit ds ≡ true → list_all no_quote ds ≡ true
digits_unquoted [] h = refl
digits_unquoted (d ∷ ds) h = by_test (d == 34)
    (λ t. let e : d ≡ 34 = eqb-true d 34 t in absurd (let k : false ≡ true = rw e at h in cc))
    (λ t. rw (t, digits_unquoted ds (and_right (is_ascii_digit d) (list_all is_ascii_digit ds) h)) refl)

-- ---- parts

parts_before : (xs ys : List ℕ) → list_all no_quote xs ≡ true → parts_of (xs ++ 34 ∷ ys) ≡ xs ∷ parts_of ys
parts_before [] ys h = refl
parts_before (x ∷ xs) ys h = by_test (x == 34)
    (λ t. absurd (let k : false ≡ true = rw t at h in cc))
    (λ t. let more : list_all no_quote xs ≡ true = rw t at h in rw (t, parts_before xs ys more) refl)

parts_single : (xs : List ℕ) → list_all no_quote xs ≡ true → parts_of xs ≡ xs ∷ []
parts_single [] h = refl
parts_single (x ∷ xs) h = by_test (x == 34)
    (λ t. absurd (let k : false ≡ true = rw t at h in cc))
    (λ t. let more : list_all no_quote xs ≡ true = rw t at h in rw (t, parts_single xs more) refl)

call_unquoted : (c b : ℕ) → c == 34 ≡ false → IsNumber b → list_all no_quote (c ∷ decimal b) ≡ true
call_unquoted c b e lt = rw (e, digits_unquoted (decimal b) (decimal_is b lt).digits) refl

block_passes : (b : ℕ) → IsNumber b → is_block (decimal b) ≡ true
block_passes b lt = let w = decimal_is b lt in let le : leb b (2 ^ 32 - 1) ≡ true = le-leb _ _ (omega (arith, lt)) in rw (w.numeral, w.number, le, w.clean) refl

-- ---- names as they are made have fitting parts

assoc_call : (text xs name ys : List ℕ)
    → (text ++ (46 ∷ (xs ++ quoted name))) ++ ys ≡ text ++ ((46 ∷ xs) ++ 34 ∷ (name ++ 34 ∷ ys))
assoc_call text xs name ys = simp append_assoc

assoc_name : (name ys : List ℕ) → (name ++ 34 ∷ []) ++ ys ≡ name ++ 34 ∷ ys
assoc_name name ys = append_assoc name (34 ∷ []) ys

path_fits : (text : List ℕ) → IsPathName text → (ys : List ℕ)
    → begins_quoted (parts_of (text ++ ys)) ≡ fits_parts false (parts_of ys)
path_fits _ (of_root name w) ys = rw (assoc_name name ys, parts_before name ys (name_unquoted name w.bytes), name_passes name w) refl
path_fits _ (of_call text name b h lt w) ys =
    let rest = name ++ 34 ∷ ys in
    rw (assoc_call text (decimal b) name ys, path_fits text h ((46 ∷ decimal b) ++ 34 ∷ rest), parts_before (46 ∷ decimal b) rest (call_unquoted 46 b refl lt), parts_before name ys (name_unquoted name w.bytes))
    (rw (block_passes b lt, name_passes name w) refl)

or_true : (a : Bool) → a || true ≡ true
or_true true = refl
or_true false = refl

pub node_name_passes : (text : List ℕ) → IsNodeName text → is_node_name text ≡ true
unfolding is_node_name
node_name_passes _ (of_entry text h) = path_fits text h (58 ∷ codes "entry")
node_name_passes _ (of_block text b h lt) =
    path_fits text h (58 ∷ decimal b) ∙ rw (parts_single (58 ∷ decimal b) (call_unquoted 58 b refl lt), block_passes b lt) (or_true (bytes_eq (decimal b) (codes "entry")))

-- ---- and are words

inside_goes : (bs ys : List ℕ) → All IsNameByte bs → goes_through true (bs ++ ys) ≡ goes_through true ys
inside_goes [] ys w = refl
inside_goes (b ∷ bs) ys w =
    let h = All-head IsNameByte b bs w in
    let feed : b == 10 ≡ false = ne_eqb b 10 (λ e. absurd (omega (arith, e, h.from_space))) in
    rw (feed, ne_eqb b 34 h.no_quote, never (b == 32)) (inside_goes bs ys (All-tail IsNameByte b bs w))
  where
    never : (x : Bool) → x && false ≡ false
    never true = refl
    never false = refl

path_goes : (text : List ℕ) → IsPathName text → (ys : List ℕ) → goes_through false (text ++ ys) ≡ goes_through false ys
path_goes _ (of_root name w) ys = rw (assoc_name name ys, inside_goes name (34 ∷ ys) w.bytes) refl
path_goes _ (of_call text name b h lt w) ys =
    let rest = name ++ 34 ∷ ys in
    rw (assoc_call text (decimal b) name ys, path_goes text h ((46 ∷ decimal b) ++ 34 ∷ rest), decimal_goes b lt (34 ∷ rest), inside_goes name (34 ∷ ys) w.bytes) refl

pub node_name_word : (text : List ℕ) → IsNodeName text → is_word text ≡ true
node_name_word _ (of_entry text h) = path_goes text h (58 ∷ codes "entry")
node_name_word _ (of_block text b h lt) = path_goes text h (58 ∷ decimal b) ∙ rw (← append-nil (decimal b)) (decimal_goes b lt [])

-- ---- fitting parts make a name

abbrev after_quotes : List (List ℕ) → List ℕ
after_quotes [] = []
after_quotes (p ∷ ps) = 34 ∷ (p ++ after_quotes ps)

abbrev joined : List (List ℕ) → List ℕ
joined [] = []
joined (p ∷ ps) = p ++ after_quotes ps

joined_first : (b : ℕ) (ps : List (List ℕ)) (text : List ℕ) → is_over ps ≡ false → joined ps ≡ text
    → joined (with_first b ps) ≡ b ∷ text
joined_first b [] text h e = absurd cc
joined_first b (p ∷ ps) text h e = ap (λ (xs : List ℕ). b ∷ xs) e

after_is : (ps : List (List ℕ)) → is_over ps ≡ false → after_quotes ps ≡ 34 ∷ joined ps
after_is [] h = absurd cc
after_is (p ∷ ps) h = refl

with_over : (b : ℕ) (ps : List (List ℕ)) → is_over ps ≡ false → is_over (with_first b ps) ≡ false
with_over b [] h = absurd cc
with_over b (p ∷ ps) h = refl

parts_some : (text : List ℕ) → is_over (parts_of text) ≡ false
parts_some [] = refl
parts_some (b ∷ bs) = by_test (b == 34) (λ t. rw t refl) (λ t. rw t (with_over b (parts_of bs) (parts_some bs)))

joined_parts : (text : List ℕ) → joined (parts_of text) ≡ text
joined_parts [] = refl
joined_parts (b ∷ bs) = by_test (b == 34)
    (λ t. rw (t, after_is (parts_of bs) (parts_some bs), joined_parts bs, eqb-true b 34 t) refl)
    (λ t. rw t (joined_first b (parts_of bs) bs (parts_some bs) (joined_parts bs)))

-- digits that are the number of a block
record IsBlockOf (ds : List ℕ) : Type 0 where
  block : ℕ
  small : IsNumber block
  is : decimal block ≡ ds

block_is : (ds : List ℕ) → is_block ds ≡ true → IsBlockOf ds
block_is ds h =
    let both = and_left (is_numeral ds && leb (number_of ds) (2 ^ 32 - 1)) (not (has_zeros ds)) h in
    let numeral = and_left (is_numeral ds) (leb (number_of ds) (2 ^ 32 - 1)) both in
    let low : number_of ds ≤ 2 ^ 32 - 1 = leb-true _ _ (and_right (is_numeral ds) (leb (number_of ds) (2 ^ 32 - 1)) both) in
    let clean = not_true (has_zeros ds) (and_right (is_numeral ds && leb (number_of ds) (2 ^ 32 - 1)) (not (has_zeros ds)) h) in
    record { block = number_of ds; small = omega (arith, low); is = decimal_of ds numeral clean (omega (arith, low)) }
  where
    not_true : (b : Bool) → not b ≡ true → b ≡ false
    not_true true e = absurd cc
    not_true false e = refl

end_makes : (acc part : List ℕ) → IsPathName acc → is_end part ≡ true → IsNodeName (acc ++ part)
end_makes acc [] h e = absurd cc
end_makes acc (b ∷ bs) h e =
    let colon : b ≡ 58 = eqb-true b 58 (and_left (b == 58) _ e) in
    let either = and_right (b == 58) (bytes_eq bs (codes "entry") || is_block bs) e in
    by_test (bytes_eq bs (codes "entry"))
    (λ t. let k : bs ≡ codes "entry" = (bytes_eq-Decides bs (codes "entry")).0 t in rw (colon, k) (of_entry acc h))
    (λ t. let k = block_is bs (rw t at either) in rw (colon, ← k.is) (of_block acc k.block h k.small))

call_makes : (acc part name : List ℕ) → IsPathName acc → is_call part ≡ true → is_name name ≡ true
    → IsPathName (acc ++ (part ++ quoted name))
call_makes acc [] name h e n = absurd cc
call_makes acc (b ∷ bs) name h e n =
    let dot : b ≡ 46 = eqb-true b 46 (and_left (b == 46) _ e) in
    let k = block_is bs (and_right (b == 46) (is_block bs) e) in
    rw (dot, ← k.is) (of_call acc name k.block h k.small (name_is name n))

parts_make : (acc : List ℕ) → IsPathName acc → (ps : List (List ℕ)) → fits_parts false ps ≡ true
    → IsNodeName (acc ++ joined ps)
parts_make acc h [] e = absurd cc
parts_make acc h (p ∷ []) e = rw (append-nil p) (end_makes acc p h e)
parts_make acc h (p ∷ q ∷ ps) e =
    let call = and_left (is_call p) (is_name q && fits_parts false ps) e in
    let more = and_right (is_call p) (is_name q && fits_parts false ps) e in
    let fits = and_right (is_name q) (fits_parts false ps) more in
    let path = call_makes acc p q h call (and_left (is_name q) (fits_parts false ps) more) in
    let some : is_over ps ≡ false = over_fits ps fits in
    rw (after_is ps some) (rw (regroup acc p q (joined ps)) (parts_make (acc ++ (p ++ quoted q)) path ps fits))
  where
    over_fits : (ps : List (List ℕ)) → fits_parts false ps ≡ true → is_over ps ≡ false
    over_fits [] e = absurd cc
    over_fits (p ∷ ps) e = refl

    regroup : (acc p q rest : List ℕ) → acc ++ (p ++ 34 ∷ (q ++ 34 ∷ rest)) ≡ (acc ++ (p ++ quoted q)) ++ rest
    regroup acc p q rest = simp append_assoc

begins_make : (ps : List (List ℕ)) → begins_quoted ps ≡ true → IsNodeName (joined ps)
begins_make [] e = absurd cc
begins_make (p ∷ []) e = absurd (never (bytes_eq p []) e)
  where
    never : (b : Bool) → b && false ≡ true → ⊥
    never true e = cc
    never false e = cc
begins_make (p ∷ q ∷ ps) e =
    let none : p ≡ [] = (bytes_eq-Decides p []).0 (and_left (bytes_eq p []) _ e) in
    let more = and_right (bytes_eq p []) (is_name q && fits_parts false ps) e in
    let fits = and_right (is_name q) (fits_parts false ps) more in
    let path = of_root q (name_is q (and_left (is_name q) (fits_parts false ps) more)) in
    rw (none, after_is ps (over_fits ps fits)) (rw (← assoc_name q (joined ps)) (parts_make (quoted q) path ps fits))
  where
    over_fits : (ps : List (List ℕ)) → fits_parts false ps ≡ true → is_over ps ≡ false
    over_fits [] e = absurd cc
    over_fits (p ∷ ps) e = refl

pub node_name_is : (text : List ℕ) → is_node_name text ≡ true → IsNodeName text
unfolding is_node_name
node_name_is text e = subst IsNodeName (joined_parts text) (begins_make (parts_of text) e)
