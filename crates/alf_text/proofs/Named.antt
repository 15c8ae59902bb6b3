-- The names of writable programs are the names of printed tokens.
use Rattle.std.proofs.Common.{◌≡◌, ℕ, true, false, ltb, List, [], ◌∷◌, length, All, refl, arith}
use Rattle.std.specs.List.{list_all}
use Rattle.std.proofs.lemmas.Bool.{le-leb, ne_eqb}
use Rattle.std.proofs.lemmas.Bool.Decides.{nat_tests}
use Rattle.std.proofs.lemmas.List.Elements.{All-head, All-tail, All-nil, All-cons}
use Rattle.lists.specs.TestLaws.{by_test}
use Rattle.alf_tokens.specs.Bytes.{is_name_byte}
use Rattle.alf_tokens.specs.Printed.{is_name_text}
use Rattle.alf_program.specs.Writable.{IsNameByte, IsName}

byte_passes : (b : ℕ) → IsNameByte b → is_name_byte b ≡ true
byte_passes b w = rw (le-leb 32 b w.from_space, le-leb b 126 w.to_tilde, ne_eqb b 34 w.no_quote, ne_eqb b 92 w.no_backslash) refl

byte_is : (b : ℕ) → is_name_byte b ≡ true → IsNameByte b
byte_is b h = record { from_space = grind (arith, nat_tests); to_tilde = grind (arith, nat_tests); no_quote = grind (arith, nat_tests); no_backslash = grind (arith, nat_tests) }

bytes_pass : (bs : List ℕ) → All IsNameByte bs → list_all is_name_byte bs ≡ true
bytes_pass [] w = refl
bytes_pass (b ∷ bs) w = rw (byte_passes b (All-head IsNameByte b bs w), bytes_pass bs (All-tail IsNameByte b bs w)) refl

bytes_are : (bs : List ℕ) → list_all is_name_byte bs ≡ true → All IsNameByte bs
bytes_are [] h = All-nil IsNameByte
bytes_are (b ∷ bs) h = by_test (is_name_byte b) (λ t. All-cons IsNameByte b bs (byte_is b t) (bytes_are bs (rw t at h))) (λ t. absurd (let k : false ≡ true = rw t at h in cc))

pub name_text : (n : List ℕ) → IsName n → is_name_text n ≡ true
name_text n w =
    let some : ltb 0 (length n) ≡ true = grind (arith, w.some) in
    rw (some, le-leb (length n) 64 w.short, bytes_pass n w.bytes) refl

pub text_name : (n : List ℕ) → is_name_text n ≡ true → IsName n
text_name n h = record { some = grind (arith, nat_tests); short = grind (arith, nat_tests); bytes = bytes_are n (grind (arith, nat_tests)) }
