-- Laws of texts.
--   cut             up to where a colon comes, words are known
--   alone_differs   a word alone and one after which a colon comes differ
--   decimal_same    two numbers with the same digits are the same
use Rattle.std.proofs.Common.{◌≡◌, ◌≢◌, ◌<◌, ◌^◌, ℕ, true, false, List, [], ◌∷◌, ◌++◌, refl, sym, ap, ◌∙◌, decimal, append-nil}
use Rattle.std.specs.List.{list_all}
use Rattle.std.specs.Str.Parse.{digits_value}
use Rattle.std.proofs.lemmas.Fmt.{decimal_is_IsNumeral_wide}
use Rattle.lists.specs.TestLaws.{by_test}
use Rattle.c_tokens.specs.Bytes.{is_word_byte}
use Rattle.lowering_layout.specs.Texts.{Goes}

-- ---- bytes

pub head_of : (b : ℕ) (bs : List ℕ) → list_all is_word_byte (b ∷ bs) ≡ true
    → (is_word_byte b ≡ true) × (list_all is_word_byte bs ≡ true)
head_of b bs h = by_test (is_word_byte b) (λ t. (t, let more : list_all is_word_byte bs ≡ true = rw t at h in more)) (λ t. absurd (let bad : false ≡ true = rw t at h in cc))

first_same : (a b : ℕ) (xs ys : List ℕ) → a ∷ xs ≡ b ∷ ys → a ≡ b
first_same a b xs ys e = cc

rest_same : (a b : ℕ) (xs ys : List ℕ) → a ∷ xs ≡ b ∷ ys → xs ≡ ys
rest_same a b xs ys e = cc

-- ---- joined texts

no_word : (b : ℕ) {A : Type 0} → is_word_byte b ≡ true → b ≡ 58 → A
no_word b w e = absurd (let bad : true ≡ false = sym w ∙ ap is_word_byte e in cc)

-- up to where a colon comes, words are known
pub cut : (xs ys us bs : List ℕ) → list_all is_word_byte xs ≡ true → list_all is_word_byte ys ≡ true → Goes us → Goes bs
    → xs ++ us ≡ ys ++ bs → (xs ≡ ys) × (us ≡ bs)
cut [] [] us bs p q g h e = (refl, e)
cut [] (y ∷ ys) [] bs p q g h e = absurd (let bad : [] ≡ y ∷ (ys ++ bs) = e in cc)
cut [] (y ∷ ys) (u ∷ us) bs p q g h e = no_word y (head_of y ys q).0 (sym (first_same u y us (ys ++ bs) e) ∙ g)
cut (x ∷ xs) [] us [] p q g h e = absurd (let bad : x ∷ (xs ++ us) ≡ [] = e in cc)
cut (x ∷ xs) [] us (b ∷ bs) p q g h e = no_word x (head_of x xs p).0 (first_same x b (xs ++ us) bs e ∙ h)
cut (x ∷ xs) (y ∷ ys) us bs p q g h e =
    let first = first_same x y (xs ++ us) (ys ++ bs) e in
    let rest = cut xs ys us bs (head_of x xs p).1 (head_of y ys q).1 g h (rest_same x y (xs ++ us) (ys ++ bs) e) in
    (cc, rest.1)

-- a word alone and one after which a colon comes differ
pub alone_differs : (xs ys bs : List ℕ) → list_all is_word_byte xs ≡ true → list_all is_word_byte ys ≡ true
    → xs ≢ ys ++ (58 ∷ bs)
alone_differs xs ys bs p q e =
    let parts = cut xs ys [] (58 ∷ bs) p q tt refl (append-nil xs ∙ e) in
    absurd (let bad : [] ≡ 58 ∷ bs = parts.1 in cc)

-- ---- numbers

-- two numbers with the same digits are the same
pub decimal_same : (m n : ℕ) → m < 10 ^ 64 → n < 10 ^ 64 → decimal m ≡ decimal n → m ≡ n
decimal_same m n low_m low_n e = sym (decimal_is_IsNumeral_wide m low_m).1 ∙ ap (digits_value 10) e ∙ (decimal_is_IsNumeral_wide n low_n).1
