-- Where the reading of a text starts.
--   named_is_identifier   a token that is a name to the grammar is an identifier
--   constant_is_worth     a token that is a constant to the grammar is worth its number
--   good_start            the tokens of a text are those of its words, in order
use Rattle.std.proofs.Common.{◌≡◌, ◌≤◌, ◌+◌, ◌==◌, ◌&&◌, ◌||◌, ℕ, suc, Bool, true, false, List, [], ◌∷◌, map, length, slice_get, Option, Some, None, option_map, refl, sym, ap, subst, ◌∙◌, arith, bytes_eq, eqb-true, ltb, ltb-false, codes, if◌then◌else◌}
use Rattle.std.specs.List.{list_all}
use Rattle.std.specs.Option.{option_map_or}
use Rattle.std.specs.Char.{is_ascii_digit}
use Rattle.std.proofs.lemmas.Option.{none-some, slice_get-map}
use Rattle.lists.specs.TestLaws.{by_test}
use Rattle.c_tokens.specs.declared.token.Kind.{Kind}
use Rattle.c_tokens.specs.declared.token.Kind.TheVariants as kinds
use Rattle.c_tokens.specs.Bytes.{is_blank, is_letter, is_word_byte, is_quote, in_line}
use Rattle.c_tokens.specs.Ends.{comment_end, literal_end, is_end}
use Rattle.c_tokens.specs.Keywords.{is_keyword}
use Rattle.c_tokens.specs.Numbers.{is_number_rest, starts_number}
use Rattle.c_tokens.specs.Punctuators.{is_single, is_punctuator}
use Rattle.c_tokens.specs.Kinds.{only, kind_of_one, comment_kind, literal_kind, quoted_kind, opens_comment, opens_line_comment, is_wide, kind_of_more, kind_of}
use Rattle.c_tokens.specs.Tokens.{Lexeme}
use Rattle.c_tokens.specs.declared.worth.Worth.{Worth}
use Rattle.c_tokens.specs.declared.worth.Worth.TheVariants as worths
use Rattle.c_tokens.specs.Worth.{number_worth, character_worth, plain_character, escaped_character}
use Rattle.c_unit.specs.declared.expression.Binary.{Binary}
use Rattle.c_unit.specs.Units.{Word, word_of}
use Rattle.c_rules.specs.Names.{text_at, worth_of_text, number_of}
use Rattle.c_grammar.specs.declared.symbol.TypeWord.{TypeWord}
use Rattle.c_grammar.specs.declared.symbol.Symbol.{Symbol}
use Rattle.c_grammar.specs.declared.symbol.Symbol.TheVariants as symbols
use Rattle.c_grammar.specs.Symbols.{type_word, is_label_word, is_statement_word, other_word, word_among, word_symbol, operator_byte, bracket_byte, operator_or, repeated_symbol, updated_symbol, with_equals, mark_symbol, constant_symbol, symbol_of}
use Rattle.c_grammar.specs.Tokens.{Seen}
use Rattle.c_reader.specs.Reading.{numbered}
use Rattle.lowering_layout.specs.Lists.{EachOf}
use Rattle.lowering_layout.specs.Texts.{IsIdentifier}
use Rattle.c_limits.specs.Taking.{Good}

-- ---- what is neither a name nor a constant

abbrev is_mark : Symbol → Bool
is_mark symbols.Name = false
is_mark (symbols.Constant n) = false
is_mark _ = true

abbrev is_number : Symbol → Bool
is_number (symbols.Constant n) = true
is_number _ = false

choose : (P : Symbol → Type 0) (b : Bool) (x y : Symbol) → P x → P y → P (if b then x else y)
choose P true x y h i = h
choose P false x y h i = i

abbrev Mark : Symbol → Type 0
Mark s = is_mark s ≡ true

bracket_mark : (b : ℕ) → Mark (bracket_byte b)
bracket_mark b =
    choose Mark (b == 40) _ _ refl (choose Mark (b == 41) _ _ refl
    (choose Mark (b == 91) _ _ refl (choose Mark (b == 93) _ _ refl (choose Mark (b == 123) _ _ refl (choose Mark (b == 125) _ _ refl
    (choose Mark (b == 44) _ _ refl (choose Mark (b == 59) _ _ refl
    (choose Mark (b == 58) _ _ refl (choose Mark (b == 61) _ _ refl
    (choose Mark (b == 33) _ _ refl (choose Mark (b == 126) _ _ refl refl)))))))))))

operator_mark : (o : Option Binary) (s : Symbol) → Mark s → Mark (operator_or o s)
operator_mark (Some op) s h = refl
operator_mark None s h = h

updated_mark : (o : Option Binary) → Mark (updated_symbol o)
updated_mark (Some op) = refl
updated_mark None = refl

repeated_mark : (b : ℕ) → Mark (repeated_symbol b)
repeated_mark b =
    choose Mark (b == 43) _ _ refl (choose Mark (b == 45) _ _ refl
    (choose Mark (b == 60) _ _ refl (choose Mark (b == 62) _ _ refl
    (choose Mark (b == 61) _ _ refl (choose Mark (b == 38) _ _ refl (choose Mark (b == 124) _ _ refl refl))))))

equals_mark : (b : ℕ) → Mark (with_equals b)
equals_mark b = choose Mark (b == 60) _ _ refl (choose Mark (b == 62) _ _ refl (choose Mark (b == 33) _ _ refl (updated_mark (operator_byte b))))

marks : (text : List ℕ) → Mark (mark_symbol text)
marks [] = refl
marks (a ∷ []) = operator_mark (operator_byte a) (bracket_byte a) (bracket_mark a)
marks (a ∷ b ∷ []) = choose Mark (a == b) _ _ (repeated_mark a) (choose Mark (b == 61) _ _ (equals_mark a) refl)
marks (a ∷ b ∷ c ∷ []) = choose Mark ((a == 60) && (c == 61)) _ _ refl (choose Mark ((a == 62) && (c == 61)) _ _ refl refl)
marks (a ∷ b ∷ c ∷ d ∷ ds) = refl

no_name : {A : Type 0} (s : Symbol) → Mark s → s ≡ symbols.Name → A
no_name s h e = absurd (let bad : true ≡ false = sym h ∙ ap is_mark e in cc)

no_constant : {A : Type 0} (s : Symbol) (n : ℕ) → Mark s → s ≡ symbols.Constant n → A
no_constant s n h e = absurd (let bad : true ≡ false = sym h ∙ ap is_mark e in cc)

constant_no_name : {A : Type 0} (w : Worth) → constant_symbol w ≡ symbols.Name → A
constant_no_name worths.NoConstant e = no_name symbols.NoSymbol refl e
constant_no_name worths.TooLarge e = no_name symbols.TooLarge refl e
constant_no_name (worths.Int n) e = absurd (let bad : true ≡ false = ap is_number e in cc)
constant_no_name (worths.UnsignedInt n) e = absurd (let bad : true ≡ false = ap is_number e in cc)

-- ---- identifiers

-- where the first is no name, the second is chosen
not_first : (b : Bool) (x y : Symbol) → Mark x → (if b then x else y) ≡ symbols.Name → (b ≡ false) × (y ≡ symbols.Name)
not_first true x y h e = no_name x h e
not_first false x y h e = (refl, e)

either_false : (a b : Bool) → (a || b) ≡ false → (a ≡ false) × (b ≡ false)
either_false true b e = absurd (let bad : true ≡ false = e in cc)
either_false false b e = (refl, e)

other_short : (text : List ℕ) → other_word text ≡ symbols.Name → length text ≤ 28
unfolding other_word
other_short text e =
    let a = not_first (is_statement_word text) symbols.Statement _ refl e in
    let b = not_first (is_label_word text) symbols.Label _ refl a.1 in
    let c = not_first (bytes_eq text (codes "else")) symbols.Closing _ refl b.1 in
    let d = not_first (bytes_eq text (codes "const")) symbols.Const _ refl c.1 in
    let f = not_first (bytes_eq text (codes "static")) symbols.Static _ refl d.1 in
    let g = not_first (is_keyword text || ltb 28 (length text)) symbols.Unplaced symbols.Name refl f.1 in
    ltb-false 28 (length text) (either_false (is_keyword text) (ltb 28 (length text)) g.0).1

among_short : (w : Option TypeWord) (text : List ℕ) → word_among w text ≡ symbols.Name → length text ≤ 28
among_short (Some w) text e = no_name (symbols.Type w) refl e
among_short None text e = other_short text e

word_short : (text : List ℕ) → word_symbol text ≡ symbols.Name → length text ≤ 28
unfolding word_symbol
word_short text e = among_short (type_word text) text e

abbrev Plain : Symbol → Type 0
Plain s = is_number s ≡ false

other_plain : (text : List ℕ) → Plain (other_word text)
unfolding other_word
other_plain text =
    choose Plain (is_statement_word text) _ _ refl
    (choose Plain (is_label_word text) _ _ refl (choose Plain (bytes_eq text (codes "else")) _ _ refl
    (choose Plain (bytes_eq text (codes "const")) _ _ refl
    (choose Plain (bytes_eq text (codes "static")) _ _ refl (choose Plain (is_keyword text || ltb 28 (length text)) _ _ refl refl)))))

among_plain : (w : Option TypeWord) (text : List ℕ) → Plain (word_among w text)
among_plain (Some w) text = refl
among_plain None text = other_plain text

word_plain : (text : List ℕ) → Plain (word_symbol text)
unfolding word_symbol
word_plain text = among_plain (type_word text) text

-- ---- kinds

abbrev is_identifier : Kind → Bool
is_identifier kinds.Identifier = true
is_identifier _ = false

abbrev is_some_identifier : Option Kind → Bool
is_some_identifier None = false
is_some_identifier (Some k) = is_identifier k

pass : {A : Type 0} (b : Bool) (x y : Option Kind) → is_some_identifier x ≡ false
    → is_some_identifier (if b then x else y) ≡ true
    → (is_some_identifier y ≡ true → A) → A
pass true x y h e f = absurd (let bad : false ≡ true = sym h ∙ e in cc)
pass false x y h e f = f e

only_other : (b : Bool) (k : Kind) → is_identifier k ≡ false → is_some_identifier (only b k) ≡ false
only_other true k h = h
only_other false k h = refl

comment_other : (end : Option ℕ) (bytes : List ℕ) → is_some_identifier (comment_kind end bytes) ≡ false
comment_other None bytes = refl
comment_other (Some n) bytes = only_other (n == length bytes) kinds.White refl

literal_other : (q : ℕ) → is_identifier (literal_kind q) ≡ false
literal_other q = by_test (q == 39) (λ t. rw t refl) (λ f. rw f refl)

quoted_other : (q : ℕ) (end : Option ℕ) (bytes : List ℕ) → is_some_identifier (quoted_kind q end bytes) ≡ false
quoted_other q None bytes = only_other (list_all in_line bytes) kinds.OpenLiteral refl
quoted_other q (Some n) bytes = only_other (n == length bytes) (literal_kind q) (literal_other q)

only_true : (b : Bool) (k : Kind) → is_some_identifier (only b k) ≡ true → b ≡ true
only_true true k e = refl
only_true false k e = absurd (let bad : false ≡ true = e in cc)

letter_then : (b : ℕ) (bs : List ℕ) → is_letter b ≡ true → list_all is_word_byte bs ≡ true
    → list_all is_word_byte (b ∷ bs) ≡ true
letter_then b bs l h = rw (l, h) refl

more_words : (b c : ℕ) (cs : List ℕ) → is_some_identifier (kind_of_more b c cs) ≡ true
    → list_all is_word_byte (b ∷ c ∷ cs) ≡ true
more_words b c cs e =
    pass (is_blank b) None _ refl e (λ e1. pass (opens_comment b c) (comment_kind (comment_end cs) cs) _ (comment_other (comment_end cs) cs) e1
    (λ e2. pass (opens_line_comment b c) (only (list_all in_line cs) kinds.White) _ (only_other (list_all in_line cs) kinds.White refl) e2
    (λ e3. pass (is_wide b c) (only (is_end (literal_end c cs) cs) (literal_kind c)) _
    (only_other (is_end (literal_end c cs) cs) (literal_kind c) (literal_other c)) e3
    (λ e4. by_test (is_letter b)
    (λ letter. letter_then b (c ∷ cs) letter (only_true (list_all is_word_byte (c ∷ cs)) kinds.Identifier
    (sym (ap (λ (x : Bool). is_some_identifier (if x then only (list_all is_word_byte (c ∷ cs))
    kinds.Identifier else after_letter)) letter) ∙ e4)))
    (λ none. absurd (let bad : false ≡ true = sym after_other
    ∙ (sym (ap (λ (x : Bool). is_some_identifier (if x then only (list_all is_word_byte (c ∷ cs)) kinds.Identifier else after_letter))
    none) ∙ e4) in cc))))))
  where
    after_letter : Option Kind
    after_letter =
        if starts_number b c then only (is_number_rest false (c ∷ cs)) kinds.Number else if is_quote b then quoted_kind b
        (literal_end b (c ∷ cs)) (c ∷ cs) else only (is_punctuator (b ∷ c ∷ cs)) kinds.Punctuator

    choose_kind : (x : Bool) (k l : Option Kind) → is_some_identifier k ≡ false → is_some_identifier l ≡ false
        → is_some_identifier (if x then k else l) ≡ false
    choose_kind true k l h i = h
    choose_kind false k l h i = i

    after_other : is_some_identifier after_letter ≡ false
    after_other =
        choose_kind (starts_number b c) _ _ (only_other (is_number_rest false (c ∷ cs)) kinds.Number refl)
        (choose_kind (is_quote b) _ _ (quoted_other b (literal_end b (c ∷ cs)) (c ∷ cs)) (only_other (is_punctuator (b ∷ c ∷ cs)) kinds.Punctuator refl))

choose_one : (x : Bool) (k l : Kind) → is_identifier k ≡ false → is_identifier l ≡ false
    → is_identifier (if x then k else l) ≡ false
choose_one true k l h i = h
choose_one false k l h i = i

one_word : (b : ℕ) → is_identifier (kind_of_one b) ≡ true → is_letter b ≡ true
one_word b e =
    by_test (is_letter b) (λ t. t)
    (λ f. absurd (let bad : false ≡ true = sym (choose_one (is_blank b) kinds.White others refl
    (choose_one (is_ascii_digit b) _ _ refl (choose_one (is_quote b) _ _ refl (choose_one (is_single b) _ _ refl refl))))
    ∙ (sym (ap (λ (x : Bool). is_identifier (if is_blank b then kinds.White else if x then kinds.Identifier else others)) f) ∙ e) in cc))
  where
    others : Kind
    others = if is_ascii_digit b then kinds.Number else if is_quote b then kinds.OpenLiteral else if is_single b then kinds.Punctuator else kinds.Other

identifier_words : (text : List ℕ) → kind_of text ≡ Some kinds.Identifier
    → (1 ≤ length text) × (list_all is_word_byte text ≡ true)
unfolding kind_of
identifier_words [] e = absurd (none-some kinds.Identifier e)
identifier_words (b ∷ []) e = (omega arith, letter_then b [] (one_word b (ap is_some_identifier e)) refl)
identifier_words (b ∷ c ∷ cs) e = (omega arith, more_words b c cs (ap is_some_identifier e))

-- a token that is a name to the grammar is an identifier
pub named_is_identifier : (kind : Kind) (text : List ℕ) → kind_of text ≡ Some kind → symbol_of kind text ≡ symbols.Name
    → IsIdentifier text
named_is_identifier kinds.Identifier text k e = let w = identifier_words text k in record { some = w.0; short = word_short text e; bytes = w.1 }
named_is_identifier kinds.Number text k e = constant_no_name (number_worth text) e
named_is_identifier kinds.Character text k e = constant_no_name (character_worth text) e
named_is_identifier kinds.Punctuator text k e = no_name (mark_symbol text) (marks text) e
named_is_identifier kinds.White text k e = no_name symbols.NoSymbol refl e
named_is_identifier kinds.StringLiteral text k e = no_name symbols.NoSymbol refl e
named_is_identifier kinds.Other text k e = no_name symbols.NoSymbol refl e
named_is_identifier kinds.OpenLiteral text k e = no_name symbols.NoSymbol refl e
named_is_identifier kinds.OpenComment text k e = no_name symbols.NoSymbol refl e

-- ---- constants

abbrev number_in : Symbol → ℕ
number_in (symbols.Constant n) = n
number_in _ = 0

worth_number : (w : Worth) (n : ℕ) → constant_symbol w ≡ symbols.Constant n → number_of w ≡ n
worth_number worths.NoConstant n e = no_constant symbols.NoSymbol n refl e
worth_number worths.TooLarge n e = no_constant symbols.TooLarge n refl e
worth_number (worths.Int m) n e = ap number_in e
worth_number (worths.UnsignedInt m) n e = ap number_in e

no_worth : (w : Worth) (n : ℕ) → w ≡ worths.NoConstant → constant_symbol w ≡ symbols.Constant n → ⊥
no_worth w n none e = no_constant symbols.NoSymbol n refl (sym (ap constant_symbol none) ∙ e)

quote_is_no_number : (b : ℕ) (bs : List ℕ) → b ≡ 39 → number_worth (b ∷ bs) ≡ worths.NoConstant
quote_is_no_number b bs is = ap (λ (x : ℕ). number_worth (x ∷ bs)) is

no_quote : (q : ℕ) (rest : Bool) (x : Worth) → (q == 39) ≡ false
    → (if (q == 39) && rest then x else worths.NoConstant) ≡ worths.NoConstant
no_quote q rest x f = rw f refl

no_quotes : (q : ℕ) (r s : Bool) (x : Worth) → (q == 39) ≡ false
    → (if (q == 39) && r && s then x else worths.NoConstant) ≡ worths.NoConstant
no_quotes q r s x f = rw f refl

unquoted : (b : ℕ) (bs : List ℕ) → (b == 39) ≡ false → character_worth (b ∷ bs) ≡ worths.NoConstant
unquoted b [] f = refl
unquoted b (c ∷ []) f = refl
unquoted b (c ∷ r ∷ []) f = no_quote b (r == 39) (plain_character c) f
unquoted b (s ∷ e ∷ r ∷ []) f = no_quotes b (s == 92) (r == 39) (escaped_character e) f
unquoted b (s ∷ e ∷ r ∷ t ∷ ts) f = refl

text_worth : (b : ℕ) (bs : List ℕ) (v : Bool) → (b == 39) ≡ v
    → worth_of_text (b ∷ bs) ≡ (if v then character_worth (b ∷ bs) else number_worth (b ∷ bs))
text_worth b bs v e = ap (λ (x : Bool). if x then character_worth (b ∷ bs) else number_worth (b ∷ bs)) e

number_is_worth : (text : List ℕ) (n : ℕ) → constant_symbol (number_worth text) ≡ symbols.Constant n
    → number_of (worth_of_text text) ≡ n
number_is_worth [] n e = no_constant symbols.NoSymbol n refl e
number_is_worth (b ∷ bs) n e =
    by_test (b == 39)
    (λ t. absurd (no_worth (number_worth (b ∷ bs)) n (quote_is_no_number b bs (eqb-true b 39 t)) e))
    (λ f. ap number_of (text_worth b bs false f) ∙ worth_number (number_worth (b ∷ bs)) n e)

character_is_worth : (text : List ℕ) (n : ℕ) → constant_symbol (character_worth text) ≡ symbols.Constant n
    → number_of (worth_of_text text) ≡ n
character_is_worth [] n e = no_constant symbols.NoSymbol n refl e
character_is_worth (b ∷ bs) n e =
    by_test (b == 39)
    (λ t. ap number_of (text_worth b bs true t) ∙ worth_number (character_worth (b ∷ bs)) n e)
    (λ f. absurd (no_worth (character_worth (b ∷ bs)) n (unquoted b bs f) e))

-- a token that is a constant to the grammar is worth its number
pub constant_is_worth : (kind : Kind) (text : List ℕ) (n : ℕ) → symbol_of kind text ≡ symbols.Constant n
    → number_of (worth_of_text text) ≡ n
constant_is_worth kinds.Identifier text n e = absurd (let bad : false ≡ true = sym (word_plain text) ∙ ap is_number e in cc)
constant_is_worth kinds.Number text n e = number_is_worth text n e
constant_is_worth kinds.Character text n e = character_is_worth text n e
constant_is_worth kinds.Punctuator text n e = no_constant (mark_symbol text) n (marks text) e
constant_is_worth kinds.White text n e = no_constant symbols.NoSymbol n refl e
constant_is_worth kinds.StringLiteral text n e = no_constant symbols.NoSymbol n refl e
constant_is_worth kinds.Other text n e = no_constant symbols.NoSymbol n refl e
constant_is_worth kinds.OpenLiteral text n e = no_constant symbols.NoSymbol n refl e
constant_is_worth kinds.OpenComment text n e = no_constant symbols.NoSymbol n refl e

-- ---- the tokens of a text

abbrev pub IsOfKind : Lexeme → Type 0
IsOfKind t = kind_of t.text ≡ Some t.kind

good_from_text : (words : List Word) (n : ℕ) (ts : List Lexeme)
    → ((i : ℕ) (t : Lexeme) → slice_get ts i ≡ Some t → text_at words (n + i) ≡ t.text) → EachOf IsOfKind ts → Good words n (numbered n ts)
good_from_text words n [] at of = tt
good_from_text words n (t ∷ ts) at of =
    let text : text_at words n ≡ t.text = ap (text_at words) (let same : n ≡ n + 0 = omega arith in same) ∙ at 0 t refl in
    let more : numbered (n + 1) ts ≡ numbered (suc n) ts = ap (λ (k : ℕ). numbered k ts) (let same : n + 1 ≡ suc n = omega arith in same) in (
      (let same : n ≤ n = omega arith in same),
      record {
        text = text;
        name = λ e. named_is_identifier t.kind t.text of.0 e;
        constant = λ k e. ap (λ (x : List ℕ). number_of (worth_of_text x)) text ∙ constant_is_worth t.kind t.text k e;
      },
      subst (λ (us : List Seen). Good words (suc n) us) (sym more)
          (good_from_text words (suc n) ts (λ i u there. ap (text_at words) (let same : suc n + i ≡ n + suc i = omega arith in same)
          ∙ at (suc i) u there) of.1),
    )

-- the tokens of a text are those of its words
pub good_start : (bytes : List ℕ) (ts : List Lexeme) → EachOf IsOfKind ts
    → Good (map (word_of bytes) ts) 0 (numbered 0 ts)
good_start bytes ts of =
    good_from_text (map (word_of bytes) ts) 0 ts
    (λ i t there.
    ap (λ (k : ℕ). text_at (map (word_of bytes) ts) k) (let same : 0 + i ≡ i = omega arith in same)
    ∙ ap (λ (x : Option Word). option_map_or (λ (word : Word). word.text) x []) (slice_get-map (word_of bytes) ts i ∙ ap (option_map (word_of bytes)) there))
    of
