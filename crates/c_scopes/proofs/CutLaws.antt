-- Scopes as cuts of names in a row.
--   looked_up       the newest entry of all is that of the innermost scope that has one
--   reaches         the newest entry stands in the innermost scope
--   one_more, cut_more   a name more
--   cut_less        the innermost scope left
use Rattle.std.proofs.Common.{◌≡◌, ◌-◌, ◌≤◌, ◌<◌, ℕ, suc, zero, Bool, true, false, List, [], ◌∷◌, length, take, drop, reverse, Option, None, Some, refl, ap, sym, ◌∙◌, subst, arith, IfSome, leb}
use Rattle.std.specs.List.{slice_get}
use Rattle.std.specs.Option.{is_some}
use Rattle.std.specs.Str.{bytes_eq}
use Rattle.std.proofs.lemmas.Bool.Decides.{nat_tests}
use Rattle.std.proofs.lemmas.List.{length-drop}
use Rattle.lists.specs.TestLaws.{by_test}
use Rattle.c_unit.specs.Units.{Word}
use Rattle.c_rules.specs.Names.{Entry, Scope, named, or_further, look_up, text_at, with_name, innermost, is_declared}
use Rattle.c_scopes.specs.Rows.{latest}
use Rattle.c_scopes.specs.Views.{others}
use Rattle.c_scopes.specs.Cuts.{scopes_from, IsCut, begun}
use Rattle.c_scopes.proofs.Ends.{with_last, turned_more}
use Rattle.c_scopes.proofs.RowLaws.{latest_within}

-- names in two parts
split_named : (words : List Word) (token : ℕ) (k : ℕ) (es : List Entry)
    → named words token es ≡ or_further (named words token (take k es)) (named words token (drop k es))
split_named words token zero es = refl
split_named words token (suc k) [] = refl
split_named words token (suc k) (e ∷ es) =
    by_test (bytes_eq (text_at words e.token) (text_at words token)) (λ here. rw here refl) (λ there. rw there (split_named words token k es))

none_left : {A : Type 0} (xs : List A) → length xs ≡ 0 → xs ≡ []
none_left [] none = refl
none_left (x ∷ xs) none = absurd (more (length xs) none)
  where
    more : (n : ℕ) → suc n ≡ 0 → ⊥
    more n none = omega arith

below : (es : Scope) (start : ℕ) → start ≤ length es → length (drop (length es - start) es) ≡ start
below es start low = length-drop (length es - start) es ∙ omega arith

pub looked_up : (words : List Word) (token : ℕ) (es : Scope) (starts : List ℕ) → IsCut (length es) starts
    → named words token es ≡ look_up words (scopes_from es starts) token
looked_up words token es [] cut = rw (none_left es cut) refl
looked_up words token es (start ∷ starts) cut =
    let rest = drop (length es - start) es in
    let further = looked_up words token rest starts (subst (λ (n : ℕ). IsCut n starts) (sym (below es start cut.0)) cut.1) in
    split_named words token (length es - start) es ∙ ap (or_further (named words token (take (length es - start) es))) further

-- the place is at the start or after it
abbrev pub reaches : ℕ → Option ℕ → Bool
reaches start None = false
reaches start (Some place) = leb start place

not_reached : (start n : ℕ) (place : Option ℕ) → n ≤ start → IfSome place (λ k. k < n) → reaches start place ≡ false
not_reached start n None high low = refl
not_reached start n (Some k) high low = grind (arith, nat_tests)

at_start : (words : List Word) (token : ℕ) (start : ℕ) (e : Entry) (es : Scope) → start ≤ length es
    → is_some (named words token (take (length es - start) es)) ≡ reaches start (latest words es (text_at words token))
    → is_some (named words token (take (suc (length es) - start) (e ∷ es))) ≡ reaches start (latest words (e ∷ es) (text_at words token))
at_start words token start e es before further =
    let count : suc (length es) - start ≡ suc (length es - start) = omega arith in
    let reached : leb start (length es) ≡ true = grind (arith, nat_tests) in
    rw count (by_test (bytes_eq (text_at words e.token) (text_at words token)) (λ here. rw (here, reached) refl) (λ there. rw there further))

past_start : (words : List Word) (token : ℕ) (start : ℕ) (e : Entry) (es : Scope) → suc (length es) ≤ start
    → is_some (named words token (take (suc (length es) - start) (e ∷ es))) ≡ reaches start (latest words (e ∷ es) (text_at words token))
past_start words token start e es high =
    let count : suc (length es) - start ≡ 0 = omega arith in
    rw count (sym (not_reached start (suc (length es)) (latest words (e ∷ es) (text_at words token)) high (latest_within words (e ∷ es) (text_at words token))))

pub within_scope : (words : List Word) (token : ℕ) (start : ℕ) (es : Scope) → start ≤ length es
    → is_some (named words token (take (length es - start) es)) ≡ reaches start (latest words es (text_at words token))
within_scope words token start [] low = nothing_taken (0 - start)
  where
    nothing_taken : (k : ℕ) → is_some (named words token (take k [])) ≡ false
    nothing_taken zero = refl
    nothing_taken (suc k) = refl
within_scope words token start (e ∷ es) low =
    by_test (leb start (length es))
    (λ is. let before : start ≤ length es = grind (arith, nat_tests) in at_start words token start e es before (within_scope words token start es before))
    (λ is. let high : suc (length es) ≤ start = grind (arith, nat_tests) in past_start words token start e es high)

-- a name more
pub one_more : (e : Entry) (es : Scope) (start : ℕ) (starts : List ℕ) → start ≤ length es
    → scopes_from (e ∷ es) (start ∷ starts) ≡ with_name e (scopes_from es (start ∷ starts))
one_more e es start starts low =
    let count : suc (length es) - start ≡ suc (length es - start) = omega arith in
    rw count refl

pub begun_more : (e : Entry) (es : Scope) (starts : List ℕ) → IsCut (length es) starts
    → scopes_from (e ∷ es) (begun starts) ≡ with_name e (scopes_from es starts)
begun_more e es [] cut = rw (none_left es cut) refl
begun_more e es (start ∷ starts) cut = one_more e es start starts cut.0

pub cut_more : (n : ℕ) (starts : List ℕ) → IsCut n starts → IsCut (suc n) (begun starts)
cut_more n [] cut = (omega arith, refl)
cut_more n (start ∷ starts) cut = (let low = cut.0 in omega arith, cut.1)

drop_more : {A : Type 0} (n : ℕ) (xs : List A) → drop (suc n) xs ≡ others (drop n xs)
drop_more zero [] = refl
drop_more zero (x ∷ xs) = refl
drop_more (suc n) [] = refl
drop_more (suc n) (x ∷ xs) = drop_more n xs

-- the newest is taken back
pub fewer_length : {A : Type 0} (xs : List A) → length (others xs) ≡ length xs - 1
fewer_length [] = omega arith
fewer_length (x ∷ xs) = omega arith

pub fewer : {A : Type 0} (xs all : List A) → 0 < length xs → length xs ≤ length all
    → xs ≡ drop (length all - length xs) all → others xs ≡ drop (length all - length (others xs)) all
fewer {A} [] all some few is = absurd (nothing some)
  where
    nothing : 0 < 0 → ⊥
    nothing some = omega arith
fewer {A} (x ∷ xs) all some few is =
    let count : suc (length all - suc (length xs)) ≡ length all - length xs = omega arith in
    ap (λ (ys : List A). others ys) is ∙ sym (drop_more (length all - suc (length xs)) all) ∙ ap (λ (n : ℕ). drop n all) count

-- of the innermost scope, by the last of the starts
pub last_start : (words : List Word) (token : ℕ) (es : Scope) (starts : List ℕ) (start : ℕ)
    → slice_get starts (length starts - 1) ≡ Some start → IsCut (length es) (reverse starts)
    → is_declared words (innermost (scopes_from es (reverse starts))) token ≡ reaches start (latest words es (text_at words token))
last_start words token es starts start last cut =
    let turned = ap (λ (xs : List ℕ). reverse xs) (with_last starts start last) ∙ turned_more (take (length starts - 1) starts) start in
    let here : IsCut (length es) (start ∷ reverse (take (length starts - 1) starts)) = subst (λ (xs : List ℕ). IsCut (length es) xs) turned cut in
    rw turned (within_scope words token start es here.0)

-- where taking back ends
pub end_of : (all left count : ℕ) → left ≤ count → left ≤ all → (count ≤ all → count ≤ left)
    → (all ≤ count → left ≡ all) → all - left ≡ all - count
end_of all left count ended few enough whole =
    by_test (leb count all)
    (λ is. let low : count ≤ all = grind (arith, nat_tests) in let same = enough low in omega arith)
    (λ is. let high : all ≤ count = grind (arith, nat_tests) in let same = whole high in omega arith)
