-- How often each node may be there, line by line.
--   AllowSoFar o facts k visits   the visits are those that the first k lines allow
--   allow_at          so it is with one line more
--   are_within        where no node is there more often than it is allowed, none is more often than its lines say
use Rattle.std.proofs.Common.{◌≡◌, ◌≢◌, ◌<◌, ◌≤◌, ◌+◌, ◌==◌, ℕ, zero, suc, List, [], ◌∷◌, ◌++◌, Bool, true, false, cond, get_or, Option, Some, None, length, take, set, slice_get, refl, sym, ap, ◌∙◌, subst, inl, inr, get_or-set_other, length-set, arith}
use Rattle.std.specs.Prelude.{slice_index, count_by}
use Rattle.std.proofs.lemmas.Bool.{eqb-true, eq-eqb, cases_lt}
use Rattle.std.proofs.lemmas.Option.{slice_get_within, slice_get-get_or, get_or_from_slice_get, none-some, same_Some}
use Rattle.std.proofs.lemmas.List.{take_more}
use Rattle.std.proofs.lemmas.List.Sums.{sum_by-cons, sum_by_push}
use Rattle.std.proofs.lemmas.Grind.{get_or-set_at}
use Rattle.lists.specs.TestLaws.{by_test}
use Rattle.domain_core.specs.Outlines.{Outlined}
use Rattle.flow_facts.specs.declared.fact.Fact.{Fact}
use Rattle.flow_facts.specs.declared.fact.Fact.TheVariants.{Loop, Count, Dead, Total, Pair, Alarm}
use Rattle.flow_facts.specs.Facts.{places}
use Rattle.report_objections.specs.Shaping.{tells_total}
use Rattle.report_objections.specs.CountLaws.{line_most, most_of}
use Rattle.run_replays.specs.Replays.{AreWithinLines}
use Rattle.run_replays.specs.Tests.{with_line}
use Rattle.run_replays.specs.Walks.{AreAllowed}

-- 1 where it is so, and 0 where it is not
abbrev bit : Bool → ℕ
bit v = cond v 1 0

-- the members before one that passes, and this one, are among those that pass
count_take : {A : Type 0} (p : A → Bool) (xs : List A) (k : ℕ) (x : A) → slice_get xs k ≡ Some x
    → count_by p (take k xs) + bit (p x) ≤ count_by p xs
count_take p [] k x is = absurd (none-some x is)
count_take {A} p (y ∷ xs) zero x is =
    let same : y ≡ x = same_Some y x is in
    let one : count_by p (y ∷ xs) ≡ bit (p y) + count_by p xs = sum_by-cons (λ z. bit (p z)) y xs in
    let none : count_by p (take 0 (y ∷ xs)) ≡ 0 = refl in
    let passes : bit (p y) ≡ bit (p x) = ap (λ (z : A). bit (p z)) same in
    omega (arith, one, none, passes)
count_take {A} p (y ∷ xs) (suc k) x is =
    let rest = count_take p xs k x is in
    let one : count_by p (y ∷ xs) ≡ bit (p y) + count_by p xs = sum_by-cons (λ z. bit (p z)) y xs in
    let other : count_by p (y ∷ take k xs) ≡ bit (p y) + count_by p (take k xs) = sum_by-cons (λ z. bit (p z)) y (take k xs) in
    let taken : count_by p (take (suc k) (y ∷ xs)) ≡ count_by p (y ∷ take k xs) = refl in
    omega (arith, rest, one, other, taken)

bit_none : (v : Bool) → bit v ≡ 0 → v ≡ false
bit_none true is = absurd (let bad : 1 ≡ 0 = is in omega (arith, bad))
bit_none false is = refl

-- a line that is none of the node allows it no visit
no_line : (n : ℕ) (f : Fact) → tells_total n f ≡ false → line_most n f ≡ 0
no_line n (Loop s low high) is = refl
no_line n (Count s m low high) is = refl
no_line n (Dead m) is = refl
no_line n (Total m low high) is = ap (λ (v : Bool). cond v high 0) is
no_line n (Pair s a b) is = refl
no_line n (Alarm m fault) is = refl

none_most : (n : ℕ) (facts : List Fact) → count_by (λ f. tells_total n f) facts ≡ 0 → most_of n facts ≡ 0
none_most n [] none = refl
none_most n (f ∷ facts) none =
    let one : count_by (λ g. tells_total n g) (f ∷ facts) ≡ bit (tells_total n f) + count_by (λ g. tells_total n g) facts = sum_by-cons (λ g. bit (tells_total n g)) f facts in
    let here : bit (tells_total n f) ≡ 0 = omega (arith, one, none) in
    let rest = none_most n facts (omega (arith, one, none)) in
    let line = no_line n f (bit_none (tells_total n f) here) in
    let sum : most_of n (f ∷ facts) ≡ line_most n f + most_of n facts = sum_by-cons (λ g. line_most n g) f facts in
    omega (arith, rest, line, sum)

-- the visits are those that the first k lines allow
pub record AllowSoFar (o : Outlined) (facts : List Fact) (k : ℕ) (visits : List ℕ) : Type 0 where
  pub long : length visits ≡ length o.nodes
  pub most : (n : ℕ) → n < length o.nodes → slice_index visits n ≡ most_of n (take k facts)

most_more : (n : ℕ) (facts : List Fact) (k : ℕ) (f : Fact) → slice_get facts k ≡ Some f
    → most_of n (take (k + 1) facts) ≡ most_of n (take k facts) + line_most n f
most_more n facts k f is =
    let low = slice_get_within facts k f is in
    let there : get_or facts k f ≡ f = get_or_from_slice_get facts k f f is in
    let parts : take (k + 1) facts ≡ take k facts ++ f ∷ [] = take_more facts k f low ∙ ap (λ (g : Fact). take k facts ++ g ∷ []) there in
    ap (λ (fs : List Fact). most_of n fs) parts ∙ sum_by_push (λ g. line_most n g) (take k facts) f

-- one line more
allow_more : (o : Outlined) (facts : List Fact)
    → ((n : ℕ) → n < length o.nodes → count_by (λ f. tells_total n f) facts ≡ 1) → (k : ℕ) (f : Fact) (visits : List ℕ)
    → slice_get facts k ≡ Some f → AllowSoFar o facts k visits → AllowSoFar o facts (k + 1) (with_line visits f)
allow_more o facts once k f visits is so = record { long = long f; most = λ n low. most n low f is }
  where
    long : (g : Fact) → length (with_line visits g) ≡ length o.nodes
    long (Loop s low high) = so.long
    long (Count s m low high) = so.long
    long (Dead m) = so.long
    long (Total m low high) = length-set visits m high ∙ so.long
    long (Pair s a b) = so.long
    long (Alarm m fault) = so.long

    as_before : (n : ℕ) (g : Fact) → n < length o.nodes → slice_get facts k ≡ Some g → line_most n g ≡ 0
        → slice_index visits n ≡ most_of n (take (k + 1) facts)
    as_before n g low there none = let before = so.most n low in let more = most_more n facts k g there in omega (arith, before, more, none)

    most : (n : ℕ) → n < length o.nodes → (g : Fact) → slice_get facts k ≡ Some g
        → slice_index (with_line visits g) n ≡ most_of n (take (k + 1) facts)
    most n low (Loop s least last) there = as_before n (Loop s least last) low there refl
    most n low (Count s m least last) there = as_before n (Count s m least last) low there refl
    most n low (Dead m) there = as_before n (Dead m) low there refl
    most n low (Total m least last) there =
        by_test (n == m)
        (λ hit.
        let same : n ≡ m = eqb-true n m hit in
        let here : slice_index (set visits m last) n ≡ last = get_or-set_at visits m n last 0 same (let long = so.long in omega (arith, low, same, long)) in
        let counted = count_take (λ h. tells_total n h) facts k (Total m least last) there in
        let bit_one : bit (tells_total n (Total m least last)) ≡ 1 = ap bit hit in
        let one = once n low in
        let before = none_most n (take k facts) (omega (arith, counted, bit_one, one)) in
        let line : line_most n (Total m least last) ≡ last = ap (λ (v : Bool). cond v last 0) hit in
        let more = most_more n facts k (Total m least last) there in
        omega (arith, here, before, line, more))
        (λ miss.
        let other : n ≢ m = λ (same : n ≡ m). (let hit = eq-eqb n m same in let bad : true ≡ false = sym hit ∙ miss in cc) in
        let kept : slice_index (set visits m last) n ≡ slice_index visits n = get_or-set_other visits m n last 0 other in
        kept ∙ as_before n (Total m least last) low there (ap (λ (v : Bool). cond v last 0) miss))
    most n low (Pair s a b) there = as_before n (Pair s a b) low there refl
    most n low (Alarm m fault) there = as_before n (Alarm m fault) low there refl

pub allow_at : (o : Outlined) (facts : List Fact)
    → ((n : ℕ) → n < length o.nodes → count_by (λ f. tells_total n f) facts ≡ 1) → (k : ℕ) (d : Fact) (visits : List ℕ)
    → k < length facts → AllowSoFar o facts k visits → AllowSoFar o facts (k + 1) (with_line visits (get_or facts k d))
allow_at o facts once k d visits low so = allow_more o facts once k (get_or facts k d) visits (slice_get-get_or facts k d low) so

-- where no node is there more often than it is allowed, none is more often than its lines say
pub are_within : (o : Outlined) (facts : List Fact) (visits trace : List ℕ) → length visits ≡ length o.nodes
    → ((n : ℕ) → n < length o.nodes → slice_index visits n ≡ most_of n facts)
    → AreAllowed visits trace → AreWithinLines facts trace
are_within o facts visits trace long most allowed n =
    let few = allowed n in
    elim (cases_lt n (length o.nodes)) [
      | inl low ↦ let is = most n low in omega (arith, few, is)
      | inr high ↦ let none : slice_index visits n ≡ 0 = past visits n (omega (arith, high, long)) in omega (arith, few, none)
    ]
  where
    past : (xs : List ℕ) (i : ℕ) → length xs ≤ i → slice_index xs i ≡ 0
    past [] i high = refl
    past (x ∷ xs) zero high = absurd (omega (arith, high))
    past (x ∷ xs) (suc i) high = past xs i (omega (arith, high))
