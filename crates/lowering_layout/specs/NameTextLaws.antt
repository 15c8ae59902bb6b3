-- Laws of name texts.
--   function_is_name, object_is_name, label_is_name, call_is_name
use Rattle.std.proofs.Common.{◌≡◌, ◌≢◌, ◌<◌, ◌≤◌, ◌^◌, ◌+◌, ◌==◌, ◌&&◌, ◌%◌, ℕ, zero, suc, true, false, List, [], ◌∷◌, ◌++◌, length, slice_get, leb, Option, None, Some, refl, sym, subst, arith, codes, decimal, eqb-true, leb-true, length-append}
use Rattle.std.specs.List.{list_all}
use Rattle.std.proofs.lemmas.Fmt.{decimal_by_steps_wide, length-decimal-le_wide}
use Rattle.lists.specs.TestLaws.{by_test}
use Rattle.alf_program.specs.Writable.{IsNameByte, IsName}
use Rattle.c_tokens.specs.Bytes.{is_word_byte}
use Rattle.c_rules.specs.Names.{text_at}
use Rattle.c_meaning.specs.Objects.{Object, Program}
use Rattle.c_lowered.specs.Names.{function_name, label_name, call_name, further, owned_name, name_at}
use Rattle.lowering_layout.specs.Lists.{EachOf}
use Rattle.lowering_layout.specs.ListLaws.{each_joined, each_all, each_at}
use Rattle.lowering_layout.specs.Texts.{IsIdentifier}
use Rattle.lowering_layout.specs.TextLaws.{head_of}
use Rattle.lowering_layout.specs.Spelled.{HasNames}
use Rattle.lowering_layout.specs.Differ.{IsKnown}
use Rattle.lowering_layout.specs.DifferLaws.{known_objects, function_known}
use Rattle.lowering_layout.specs.PlaceLaws.{named_at}
use Rattle.lowering_layout.specs.NameTexts.{InRange}

-- ---- bytes

in_range : (low high b : ℕ) → (leb low b && leb b high) ≡ true → InRange low high b
in_range low high b h = by_test (leb low b)
    (λ l. by_test (leb b high) (λ k. record { from = leb-true low b l; to = leb-true b high k }) (λ k. absurd (let bad : false ≡ true = rw (l, k) at h in cc)))
    (λ l. absurd (let bad : false ≡ true = rw l at h in cc))

-- what a byte of a word or a digit is
word_byte : (b : ℕ) → is_word_byte b ≡ true → IsNameByte b
word_byte b h =
    by_test (leb 65 b && leb b 90) (λ t. let r = in_range 65 90 b t in name_byte (omega (arith, r.from)) (omega (arith, r.to)) (λ e. absurd (omega (arith, e, r.to))))
    (λ not_upper. by_test (leb 97 b && leb b 122) (λ t. let r = in_range 97 122 b t in name_byte (omega (arith, r.from)) (omega (arith, r.to)) (λ e. absurd (omega (arith, e, r.from))))
    (λ not_lower. by_test (b == 95) (λ t. let e = eqb-true b 95 t in name_byte (omega (arith, e)) (omega (arith, e)) (λ f. absurd (omega (arith, e, f))))
    (λ not_line. by_test (leb 48 b && leb b 57) (λ t. let r = in_range 48 57 b t in name_byte (omega (arith, r.from)) (omega (arith, r.to)) (λ e. absurd (omega (arith, e, r.to))))
    (λ not_digit. absurd (let bad : false ≡ true = rw (not_upper, not_lower, not_line, not_digit) at h in cc)))))
  where
    name_byte : 35 ≤ b → b ≤ 126 → b ≢ 92 → IsNameByte b
    name_byte low high other = record { from_space = omega (arith, low); to_tilde = high; no_quote = λ e. absurd (omega (arith, e, low)); no_backslash = other }

word_bytes : (bytes : List ℕ) → list_all is_word_byte bytes ≡ true → EachOf IsNameByte bytes
word_bytes [] h = tt
word_bytes (b ∷ bs) h = let parts = head_of b bs h in (word_byte b parts.0, word_bytes bs parts.1)

digit_byte : (d : ℕ) → d < 10 → IsNameByte (48 + d)
digit_byte d low = record { from_space = omega (arith, low); to_tilde = omega (arith, low); no_quote = λ e. absurd (omega (arith, e)); no_backslash = λ e. absurd (omega (arith, e, low)) }

digit_bytes : (n : ℕ) → n < 10 ^ 64 → EachOf IsNameByte (decimal n)
digit_bytes n low =
    decimal_by_steps_wide (λ n ds. EachOf IsNameByte ds) (λ n few. (digit_byte n few, tt))
    (λ n ds some known. each_joined IsNameByte ds ((48 + n % 10) ∷ []) known (digit_byte (n % 10) (omega arith), tt)) n low

mark_byte : (b : ℕ) → 35 ≤ b → b ≤ 91 → IsNameByte b
mark_byte b low high = record { from_space = omega (arith, low); to_tilde = omega (arith, high); no_quote = λ e. absurd (omega (arith, e, low)); no_backslash = λ e. absurd (omega (arith, e, high)) }

colon : IsNameByte 58
colon = mark_byte 58 (omega arith) (omega arith)

-- ---- names

pub identifier_is_name : (text : List ℕ) → IsIdentifier text → IsName text
identifier_is_name text is = record { some = is.some; short = omega (arith, is.short); bytes = each_all IsNameByte text (word_bytes text is.bytes) }

-- a name of a function's own, of which 34 bytes are left
within_is_name : (f x : List ℕ) → IsIdentifier f → length x ≤ 34 → EachOf IsNameByte x → IsName (f ++ (codes "::" ++ x))
within_is_name f x is short bytes = record {
  some = omega (arith, length-append f (58 ∷ (58 ∷ x)), is.some);
  short = omega (arith, length-append f (58 ∷ (58 ∷ x)), is.short, short);
  bytes = each_all IsNameByte (f ++ (58 ∷ (58 ∷ x))) (each_joined IsNameByte f (58 ∷ (58 ∷ x)) (word_bytes f is.bytes) (colon, (colon, bytes)));
}

few_digits : (n : ℕ) → n < 2 ^ 64 → length (decimal n) ≤ 20
few_digits n low = length-decimal-le_wide 20 n (omega arith) (omega (arith, low)) (omega (arith, low))

further_short : (k : ℕ) → k < 256 → (length (further k) ≤ 5) × EachOf IsNameByte (further k)
further_short zero low = (omega arith, tt)
further_short (suc k) low =
    let digits : length (decimal (suc k)) ≤ 3 = length-decimal-le_wide 3 (suc k) (omega arith) (omega (arith, low)) (omega (arith, low)) in
    (let short : length (58 ∷ (58 ∷ decimal (suc k))) ≤ 5 = omega (arith, digits) in short, (colon, (colon, digit_bytes (suc k) (omega (arith, low)))))

module _ (program : Program) (names : HasNames program) where
  pub function_is_name : (f : ℕ) → f < length program.functions → IsName (function_name program f)
  function_is_name f low = identifier_is_name (function_name program f) (function_known program names f low)

  pub label_is_name : (f k : ℕ) → f < length program.functions → k < 2 ^ 64 → IsName (label_name program f k)
  label_is_name f k low few =
      let digits = few_digits k few in
      within_is_name (function_name program f) (76 ∷ decimal k) (function_known program names f low) (omega (arith, digits)) (mark_byte 76 (omega arith) (omega arith), digit_bytes k (omega (arith, few)))

  pub call_is_name : (f k : ℕ) → f < length program.functions → k < 2 ^ 64 → IsName (call_name program f k)
  call_is_name f k low few =
      let digits = few_digits k few in
      within_is_name (function_name program f) (36 ∷ decimal k) (function_known program names f low) (omega (arith, digits)) (mark_byte 36 (omega arith) (omega arith), digit_bytes k (omega (arith, few)))

  owned_is_name : (owner : Option ℕ) (t : List ℕ) (like : ℕ) → ((f : ℕ) → owner ≡ Some f → f < length program.functions)
      → IsIdentifier t → like < 256 → IsName (owned_name program owner t like)
  owned_is_name None t like own is few = identifier_is_name t is
  owned_is_name (Some f) t like own is few =
      let rest = further_short like few in
      within_is_name (function_name program f) (t ++ further like) (function_known program names f (own f refl)) (omega (arith, length-append t (further like), is.short, rest.0))
      (each_joined IsNameByte t (further like) (word_bytes t is.bytes) rest.1)

  pub object_is_name : (i : ℕ) (o : Object) → slice_get program.objects i ≡ Some o → IsName (name_at program i)
  object_is_name i o at =
      let named = (named_at program names i o at).named in
      let known = each_at (IsKnown program names) program.objects i o at (known_objects program names) in
      subst IsName (sym named.is) (owned_is_name o.owner (text_at program.words o.token) named.like known.1 known.0 named.few)
