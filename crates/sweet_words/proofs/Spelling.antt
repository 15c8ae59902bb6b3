-- Options in their two spellings, and in any order.
use Rattle.std.specs.Prelude.{◌≡◌, ℕ, Bool, true, false, not, ◌&&◌, ◌||◌, ◌==◌, zero, suc, List, [], ◌∷◌, ◌++◌, Option, None, Some, option_and_then}
use Rattle.std.specs.List.{list_all}
use Rattle.std.specs.Str.{bytes_eq, chars}
use Rattle.std.proofs.Common.{refl, sym, ap, ◌∙◌, subst, arith, eq-eqb}
use Rattle.std.proofs.lemmas.Slice.Eq.{bytes_eq-Decides}
use Rattle.clap.specs.Lexer.{has_byte, long_of}
use Rattle.clap.proofs.CutLemmas.{list_any-at, before_first-at, after_first-at, before_first-Lacks, Lacks}
use Rattle.sweet_words.specs.Forms.{Text, Form, named}
use Rattle.sweet_words.specs.Given.{Uses, free, wants, given, is_plain, is_nothing, is_used, is_once, is_whole, if_whole, with_use, seated, dashed, value_used, value_of, value_in, or_false}
use Rattle.sweet_words.specs.Commands.{Command, command_named}
use Rattle.sweet_words.specs.Laws.{alone, joined, HaveJoined, HaveTwoSpellings, HaveAnyPlace, HaveAnyOrder, HaveNamesOnce, NamesDiffer}
use Rattle.sweet_words.proofs.Looks.{by_test}

-- ---- spellings

-- what lacks a byte by the test lacks it everywhere
lacks_is : (c : ℕ) (text : Text) → has_byte c text ≡ false → Lacks c text
lacks_is c [] none i lt = absurd (omega arith)
lacks_is c (x ∷ text) none zero lt = λ bad. absurd (let hit : (x == c) ≡ true = eq-eqb x c bad in let wrong : true ≡ false = rw hit at none in cc)
lacks_is c (x ∷ text) none (suc i) lt = by_test (x == c)
    (λ hit. absurd (let wrong : true ≡ false = rw hit at none in cc))
    (λ miss. let rest : has_byte c text ≡ false = rw miss at none in lacks_is c text rest i (omega arith))

long_joined : (name value : Text) → has_byte 61 name ≡ false → is_nothing name ≡ false
    → long_of (joined name value) ≡ Some (name, Some value)
long_joined [] value none some = absurd (let bad : true ≡ false = some in cc)
long_joined (x ∷ name) value none some =
    rw (list_any-at 61 (x ∷ name) value, before_first-at 61 (x ∷ name) value (lacks_is 61 (x ∷ name) none), after_first-at 61 (x ∷ name) value (lacks_is 61 (x ∷ name) none)) refl

long_alone : (name : Text) → has_byte 61 name ≡ false → is_nothing name ≡ false
    → long_of (alone name) ≡ Some (name, None)
long_alone [] none some = absurd (let bad : true ≡ false = some in cc)
long_alone (x ∷ name) none some = rw (before_first-Lacks 61 (x ∷ name) (lacks_is 61 (x ∷ name) none), none) refl

dashes_plain : (x : ℕ) (name : Text) → is_plain (45 ∷ 45 ∷ x ∷ name) ≡ false
unfolding chars
dashes_plain x name = refl

-- a word with two dashes and a name, where nothing is due
free_dashed : (form : Form) (left words : List Text) (word : Text) → is_plain word ≡ false
    → bytes_eq word (45 ∷ 45 ∷ []) ≡ false
    → given form free left (word ∷ words) ≡ dashed form (long_of word) left (λ d l. given form d l words)
unfolding given
free_dashed form left words word dash no_end = rw (dash, no_end) refl

value_comes : (form : Form) (left words : List Text) (name : Text) (attached : Option Text)
    → named name form.values ≡ Some name
    → dashed form (Some (name, attached)) left (λ d l. given form d l words) ≡ value_used name attached left (λ d l. given form d l words)
value_comes form left words name attached there = rw there refl

value_due : (form : Form) (left words : List Text) (name value : Text) → is_plain value ≡ true
    → given form (wants name) left (value ∷ words) ≡ with_use name value (given form free left words)
unfolding given
value_due form left words name value plain = rw plain refl

pub joined_is : HaveJoined
joined_is form [] value has left words = absurd (let bad : true ≡ false = has.some in cc)
joined_is form (x ∷ name) value has left words =
    free_dashed form left words (joined (x ∷ name) value) (dashes_plain x (name ++ 61 ∷ value)) refl
    ∙ ap (λ o. dashed form o left (λ d l. given form d l words)) (long_joined (x ∷ name) value has.plain has.some)
    ∙ value_comes form left words (x ∷ name) (Some value) has.there

pub spelled_twice : HaveTwoSpellings
spelled_twice form [] value has plain left words = absurd (let bad : true ≡ false = has.some in cc)
spelled_twice form (x ∷ name) value has plain left words =
    free_dashed form left (value ∷ words) (alone (x ∷ name)) (dashes_plain x name) refl
    ∙ ap (λ o. dashed form o left (λ d l. given form d l (value ∷ words))) (long_alone (x ∷ name) has.plain has.some)
    ∙ value_comes form left (value ∷ words) (x ∷ name) None has.there
    ∙ value_due form left words (x ∷ name) value plain
    ∙ sym (joined_is form (x ∷ name) value has left words)

-- ---- names once

used_more : (name : Text) (before : Uses) (entry : Text × Text) → is_used name before ≡ true
    → is_used name (before ++ entry ∷ []) ≡ true
used_more name [] entry e = absurd (let bad : false ≡ true = e in cc)
used_more name (first ∷ before) entry e = by_test (bytes_eq first.0 name) (λ t. rw t refl) (λ t. let later : is_used name before ≡ true = rw t at e in rw t (used_more name before entry later))

used_last : (before : Uses) (entry : Text × Text) → is_used entry.0 (before ++ entry ∷ []) ≡ true
used_last [] entry = rw ((bytes_eq-Decides entry.0 entry.0).1 refl) refl
used_last (first ∷ before) entry = by_test (bytes_eq first.0 entry.0) (λ t. rw t refl) (λ t. rw t (used_last before entry))

-- what was used before is not used again
fresh : (name : Text) (before uses : Uses) → is_once before uses ≡ true → is_used name before ≡ true
    → is_used name uses ≡ false
fresh name before [] once used = refl
fresh name before (entry ∷ uses) once used = by_test (is_used entry.0 before)
    (λ again. absurd (let bad : false ≡ true = rw again at once in cc))
    (λ new. let later : is_once (before ++ entry ∷ []) uses ≡ true = rw new at once in
    by_test (bytes_eq entry.0 name)
    (λ same. let it : entry.0 ≡ name = (bytes_eq-Decides entry.0 name).0 same in
    let bad : is_used entry.0 before ≡ true = subst (λ (n : Text). is_used n before ≡ true) (sym it) used in
    absurd (let wrong : true ≡ false = sym bad ∙ new in cc))
    (λ other. rw other (fresh name (before ++ entry ∷ []) uses later (used_more name before entry used))))

differ : (before uses : Uses) → is_once before uses ≡ true → NamesDiffer uses
differ before [] once = tt
differ before (entry ∷ uses) once = by_test (is_used entry.0 before)
    (λ again. absurd (let bad : false ≡ true = rw again at once in cc))
    (λ new. let later : is_once (before ++ entry ∷ []) uses ≡ true = rw new at once in
    (fresh entry.0 (before ++ entry ∷ []) uses later (used_last before entry), differ (before ++ entry ∷ []) uses later))

whole_names : (form : Form) (uses : Uses) → is_whole form uses ≡ true
    → NamesDiffer uses × (list_all (λ name. is_used name uses) form.positionals ≡ true)
whole_names form uses whole = by_test (is_once [] uses)
    (λ once. let all : list_all (λ name. is_used name uses) form.positionals ≡ true = rw once at whole in (differ [] uses once, all))
    (λ once. absurd (let bad : false ≡ true = rw once at whole in cc))

pub used_once : HaveNamesOnce
used_once form words uses e = go (given form free form.positionals words) e
  where
    go : (found : Option Uses) → option_and_then (if_whole form) found ≡ Some uses
        → NamesDiffer uses × (list_all (λ name. is_used name uses) form.positionals ≡ true)
    go None e = absurd (cc)
    go (Some some) e = by_test (is_whole form some)
        (λ whole. let same : Some some ≡ Some uses = rw whole at e in let it : some ≡ uses = cc in whole_names form uses (subst (λ (us : Uses). is_whole form us ≡ true) it whole))
        (λ part. absurd (let bad : None ≡ Some uses = rw part at e in cc))

-- ---- any order

same_back : (a b : Text) → bytes_eq a b ≡ bytes_eq b a
same_back a b = by_test (bytes_eq a b)
    (λ e. e ∙ sym ((bytes_eq-Decides b a).1 (sym ((bytes_eq-Decides a b).0 e))))
    (λ e. by_test (bytes_eq b a)
    (λ f. absurd (let bad : bytes_eq a b ≡ true = (bytes_eq-Decides a b).1 (sym ((bytes_eq-Decides b a).0 f)) in let wrong : true ≡ false = sym bad ∙ e in cc))
    (λ f. e ∙ sym f))

or_swap : (a b c : Bool) → (a || (b || c)) ≡ (b || (a || c))
or_swap true true c = refl
or_swap true false c = refl
or_swap false true c = refl
or_swap false false c = refl

used_end : (name : Text) (uses : Uses) (entry : Text × Text)
    → is_used name (uses ++ entry ∷ []) ≡ (is_used name uses || (bytes_eq entry.0 name || false))
used_end name [] entry = refl
used_end name (first ∷ uses) entry = by_test (bytes_eq first.0 name) (λ e. rw e refl) (λ e. rw e (used_end name uses entry))

once_same : (first second uses : Uses) → ((name : Text) → is_used name first ≡ is_used name second)
    → is_once first uses ≡ is_once second uses
once_same first second [] same = refl
once_same first second (entry ∷ uses) same =
    let later = once_same (first ++ entry ∷ []) (second ++ entry ∷ []) uses
    (λ name. used_end name first entry ∙ ap (λ b. b || (bytes_eq entry.0 name || false)) (same name) ∙ sym (used_end name second entry)) in
    (λ i. not (same entry.0 i) && later i)

swap_once : (a b : Text × Text) (uses : Uses) → is_once [] (a ∷ b ∷ uses) ≡ is_once [] (b ∷ a ∷ uses)
swap_once a b uses =
    let later = once_same (a ∷ b ∷ []) (b ∷ a ∷ []) uses (λ name. or_swap (bytes_eq a.0 name) (bytes_eq b.0 name) false) in
    (λ i. not (same_back a.0 b.0 i || false) && later i)

all_same : (first second : Uses) (names : List Text) → ((name : Text) → is_used name first ≡ is_used name second)
    → list_all (λ name. is_used name first) names ≡ list_all (λ name. is_used name second) names
all_same first second [] same = refl
all_same first second (name ∷ names) same = (λ i. same name i && all_same first second names same i)

swap_whole : (form : Form) (a b : Text × Text) (uses : Uses)
    → is_whole form (a ∷ b ∷ uses) ≡ is_whole form (b ∷ a ∷ uses)
swap_whole form a b uses =
    let all = all_same (a ∷ b ∷ uses) (b ∷ a ∷ uses) form.positionals (λ name. or_swap (bytes_eq a.0 name) (bytes_eq b.0 name) (is_used name uses)) in
    (λ i. swap_once a b uses i && all i)

swap_value : (a b : Text × Text) (uses : Uses) → bytes_eq a.0 b.0 ≡ false → (name : Text)
    → value_of name (a ∷ b ∷ uses) ≡ value_of name (b ∷ a ∷ uses)
swap_value a b uses apart name = by_test (bytes_eq a.0 name)
    (λ e. by_test (bytes_eq b.0 name)
    (λ f. absurd (let same : a.0 ≡ b.0 = (bytes_eq-Decides a.0 name).0 e ∙ sym ((bytes_eq-Decides b.0 name).0 f) in
    let wrong : true ≡ false = sym ((bytes_eq-Decides a.0 b.0).1 same) ∙ apart in cc))
    (λ f. rw (e, f) refl))
    (λ e. rw e refl)

whole_apart : (form : Form) (a b : Text × Text) (uses : Uses) → is_whole form (a ∷ b ∷ uses) ≡ true
    → bytes_eq a.0 b.0 ≡ false
whole_apart form a b uses whole = by_test (bytes_eq a.0 b.0) (λ e. absurd (let bad : false ≡ true = rw e at whole in cc)) (λ e. e)

-- the command of these uses
abbrev made : Form → Option Uses → Option Command
made form found = option_and_then (λ uses. command_named form.name (value_in form uses)) (option_and_then (if_whole form) found)

swapped : (form : Form) (a b : Text × Text) (found : Option Uses)
    → made form (with_use a.0 a.1 (with_use b.0 b.1 found)) ≡ made form (with_use b.0 b.1 (with_use a.0 a.1 found))
swapped form a b None = refl
swapped form a b (Some uses) = by_test (is_whole form (a ∷ b ∷ uses))
    (λ e. let other : is_whole form (b ∷ a ∷ uses) ≡ true = sym (swap_whole form a b uses) ∙ e in
    rw (e, other) (ap (command_named form.name) (λ i name. or_false (swap_value a b uses (whole_apart form a b uses e) name i) (named name form.flags))))
    (λ e. let other : is_whole form (b ∷ a ∷ uses) ≡ false = sym (swap_whole form a b uses) ∙ e in rw (e, other) refl)

plain_seated : (form : Form) (left words : List Text) (word : Text) → is_plain word ≡ true
    → given form free left (word ∷ words) ≡ seated left word (λ l. given form free l words)
unfolding given
plain_seated form left words word plain = rw plain refl

pub any_place : HaveAnyPlace
any_place form name value word has plain words =
    ap (made form) (joined_is form name value has form.positionals (word ∷ words) ∙ ap (with_use name value) (plain_seated form form.positionals words word plain))
    ∙ go form.positionals
    ∙ ap (made form) (sym (plain_seated form form.positionals (joined name value ∷ words) word plain))
  where
    go : (left : List Text) → made form (with_use name value (seated left word (λ l. given form free l words)))
        ≡ made form (seated left word (λ l. given form free l (joined name value ∷ words)))
    go [] = refl
    go (first ∷ left) = swapped form (name, value) (first, word) (given form free left words)
        ∙ ap (λ found. made form (with_use first word found)) (sym (joined_is form name value has left words))

pub any_order : HaveAnyOrder
any_order form name value other found has also words =
    ap (made form) (joined_is form name value has form.positionals (joined other found ∷ words) ∙ ap (with_use name value) (joined_is form other found also form.positionals words))
    ∙ swapped form (name, value) (other, found) (given form free form.positionals words)
    ∙ ap (made form) (sym (joined_is form other found also form.positionals (joined name value ∷ words) ∙ ap (with_use other found) (joined_is form name value has form.positionals words)))
