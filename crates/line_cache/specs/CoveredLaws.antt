-- Laws of covered.
--   still_stands, stands_nearer   among the others of a list a line stands no farther, and nearer where it stood behind the one that is taken out
--   touched_sure              the row after an access is sure of the set after it
--   is_in_stands              a line that stands in a set hits
--   age_in_row      the bound of a line that is kept stands in the row
--   accessed_sure   an access leaves the rows sure of what it leaves
--   sure_hits       a line that is kept hits
use Rattle.std.proofs.Common.{◌≡◌, ◌≢◌, ℕ, zero, suc, ◌+◌, ◌<◌, ◌≤◌, Bool, true, false, not, cond, ◌||◌, List, [], ◌∷◌, length, take, filter, Contains, Option, Some, None, unwrap_or, slice_get, inl, inr, refl, sym, ap, ◌∙◌, subst, arith, ⊎_elim, eq-eqb}
use Rattle.std.specs.Prelude.{◌==◌, nat_lt, nat_le}
use Rattle.std.specs.Option.{is_some}
use Rattle.std.proofs.Math.ListN.{length-set}
use Rattle.std.proofs.lemmas.Bool.{ne_eqb, eqb-true, eqb-false, leb-false, ltb-false, or_parts, cases_lt, cases_eq, false≢true}
use Rattle.std.proofs.lemmas.Nat.{mod_below}
use Rattle.std.proofs.lemmas.Option.{none-some, same_Some}
use Rattle.std.proofs.lemmas.List.{get_or-set_same, get_or-set_other}
use Rattle.std.proofs.lemmas.List.Elements.{Contains-append_cases}
use Rattle.std.proofs.lemmas.List.Sums.{sum_by-cons}
use Rattle.lists.specs.MemberLaws.{no_member, first_member, further_member, first_or_further}
use Rattle.lists.specs.TestLaws.{by_test}
use Rattle.line_cache.specs.Lru.{Contents, set_of, touched, is_in, is_hit, accessed, Access, accesses_at, missed_of}
use Rattle.line_cache.specs.Sure.{age_in, bound_in, aged, others, touched_row, row_at, is_sure, accessed_rows, unsure}
use Rattle.line_cache.specs.Covered.{Stands, IsSureOf, AreSure, AreFollowed}

-- ---- the concrete set

abbrev without : ℕ → List ℕ → List ℕ
without line lines = filter (λ other. not (other == line)) lines

-- a line stands no farther among the others
still_stands : (line other : ℕ) (lines : List ℕ) (i : ℕ) → other ≢ line → slice_get lines i ≡ Some other
    → Stands (without line lines) other i
still_stands line other [] i apart at = absurd (none-some other at)
still_stands line other (x ∷ lines) zero apart at =
    let same : x ≡ other = same_Some x other at in
    let test : (x == line) ≡ false = ne_eqb x line (λ e. apart (sym same ∙ e)) in
    rw test (0, omega arith, at)
still_stands line other (x ∷ lines) (suc i) apart at =
    let rest = still_stands line other lines i apart at in
    by_test (x == line)
    (λ test. rw test (rest.0, omega (arith, rest.1), rest.2))
    (λ test. rw test (suc rest.0, omega (arith, rest.1), rest.2))

-- and nearer where it stood behind the one that is taken out
stands_nearer : (line other : ℕ) (lines : List ℕ) (p i : ℕ) → other ≢ line → slice_get lines p ≡ Some line
    → slice_get lines i ≡ Some other → p ≤ i → (j : ℕ) × (j + 1 ≤ i) × (slice_get (without line lines) j ≡ Some other)
stands_nearer line other [] p i apart first at le = absurd (none-some other at)
stands_nearer line other (x ∷ lines) zero zero apart first at le = absurd (apart (sym (same_Some x other at) ∙ same_Some x line first))
stands_nearer line other (x ∷ lines) zero (suc i) apart first at le =
    let rest = still_stands line other lines i apart at in
    let test : (x == line) ≡ true = eq-eqb x line (same_Some x line first) in
    rw test (rest.0, omega (arith, rest.1), rest.2)
stands_nearer line other (x ∷ lines) (suc p) zero apart first at le = absurd (omega arith)
stands_nearer line other (x ∷ lines) (suc p) (suc i) apart first at le =
    let rest = stands_nearer line other lines p i apart first at (omega arith) in
    by_test (x == line)
    (λ test. rw test (rest.0, omega (arith, rest.1), rest.2))
    (λ test. rw test (suc rest.0, omega (arith, rest.1), rest.2))

-- what stands before the cut stays
within_cut : (n : ℕ) (lines : List ℕ) (i line : ℕ) → i < n → slice_get lines i ≡ Some line
    → slice_get (take n lines) i ≡ Some line
within_cut n [] i line low at = absurd (none-some line at)
within_cut zero (x ∷ lines) i line low at = absurd (omega arith)
within_cut (suc n) (x ∷ lines) zero line low at = at
within_cut (suc n) (x ∷ lines) (suc i) line low at = within_cut n lines i line (omega arith) at

-- a line that stands in a set hits
pub is_in_stands : (lines : List ℕ) (line i : ℕ) → slice_get lines i ≡ Some line → is_in lines line ≡ true
is_in_stands [] line i at = absurd (none-some line at)
is_in_stands (x ∷ lines) line zero at = rw (eq-eqb x line (same_Some x line at)) refl
is_in_stands (x ∷ lines) line (suc i) at = let rest = is_in_stands lines line i at in by_test (x == line) (λ test. rw test refl) (λ test. rw test rest)

-- ---- the row

-- the bound of a line that is kept stands in the row
pub age_in_row : (row : List (ℕ × ℕ)) (line age : ℕ) → age_in row line ≡ Some age → Contains row (line, age)
age_in_row [] line age found = absurd (none-some age found)
age_in_row (kept ∷ row) line age found = by_test (kept.0 == line)
    (λ test.
    let at : Some kept.1 ≡ Some age = subst (λ (t : Option ℕ). t ≡ Some age) (first_age kept row line test) found in
    let same : kept ≡ (line, age) = pair_is kept line age (eqb-true kept.0 line test) (same_Some kept.1 age at) in
    subst (λ (k : ℕ × ℕ). Contains (k ∷ row) (line, age)) (sym same) (first_member (line, age) row))
    (λ test. further_member kept row (line, age) (age_in_row row line age (subst (λ (t : Option ℕ). t ≡ Some age) (further_age kept row line test) found)))
  where
    first_age : (kept : ℕ × ℕ) (row : List (ℕ × ℕ)) (line : ℕ) → (kept.0 == line) ≡ true
        → age_in (kept ∷ row) line ≡ Some kept.1
    first_age kept row line test = rw test refl

    further_age : (kept : ℕ × ℕ) (row : List (ℕ × ℕ)) (line : ℕ) → (kept.0 == line) ≡ false
        → age_in (kept ∷ row) line ≡ age_in row line
    further_age kept row line test = rw test refl

    pair_is : (kept : ℕ × ℕ) (a b : ℕ) → kept.0 ≡ a → kept.1 ≡ b → kept ≡ (a, b)
    pair_is kept a b first second = ap (λ (x : ℕ). (x, kept.1)) first ∙ ap (λ (x : ℕ). (a, x)) second

-- a line of the others stood in the row, with its age before
record IsFrom (ways line bound : ℕ) (row : List (ℕ × ℕ)) (other age : ℕ) : Type 0 where
  before : ℕ
  there : Contains row (other, before)
  apart : other ≢ line
  is_aged : age ≡ aged bound before
  below : age < ways

other_from : (ways line bound : ℕ) (row : List (ℕ × ℕ)) (other age : ℕ)
    → Contains (others ways line bound row) (other, age) → IsFrom ways line bound row other age
other_from ways line bound [] other age there = no_member (other, age) there
other_from ways line bound (kept ∷ row) other age there = by_test ((kept.0 == line) || nat_le ways (aged bound kept.1))
    (λ test. further (other_from ways line bound row other age (subst (λ (k : List (ℕ × ℕ)). Contains k (other, age)) (dropped test) there)))
    (λ test.
    first_or_further (kept.0, aged bound kept.1) (others ways line bound row) (other, age) (subst (λ (k : List (ℕ × ℕ)). Contains k (other, age)) (stays test) there)
    (λ same.
    let parts = or_parts (kept.0 == line) (nat_le ways (aged bound kept.1)) test in
    let name : kept.0 ≡ other = ap (λ (k : ℕ × ℕ). k.0) same in
    let number : aged bound kept.1 ≡ age = ap (λ (k : ℕ × ℕ). k.1) same in
    let low : aged bound kept.1 < ways = leb-false ways (aged bound kept.1) parts.1 in
    record {
      before = kept.1;
      there = subst (λ (x : ℕ). Contains (kept ∷ row) (x, kept.1)) name (first_member kept row);
      apart = λ e. eqb-false kept.0 line parts.0 (name ∙ e);
      is_aged = sym number;
      below = subst (λ (x : ℕ). x < ways) number low;
    })
    (λ rest. further (other_from ways line bound row other age rest)))
  where
    dropped : ((kept.0 == line) || nat_le ways (aged bound kept.1)) ≡ true
        → others ways line bound (kept ∷ row) ≡ others ways line bound row
    dropped test = rw test refl

    stays : ((kept.0 == line) || nat_le ways (aged bound kept.1)) ≡ false
        → others ways line bound (kept ∷ row) ≡ (kept.0, aged bound kept.1) ∷ others ways line bound row
    stays test = rw test refl

    further : IsFrom ways line bound row other age → IsFrom ways line bound (kept ∷ row) other age
    further from = record {
      before = from.before;
      there = further_member kept row (other, from.before) from.there;
      apart = from.apart;
      is_aged = from.is_aged;
      below = from.below;
    }

-- ---- an access

-- where a line stood at most at its age, it stands behind the accessed line at most at its new age
aged_stands : (ways line : ℕ) (row : List (ℕ × ℕ)) (lines : List ℕ) (other age : ℕ) → IsSureOf row lines
    → IsFrom ways line (bound_in ways row line) row other age
    → (j : ℕ) × (j + 1 ≤ age) × (slice_get (without line lines) j ≡ Some other)
aged_stands ways line row lines other age sure from =
    let stood = sure other from.before from.there in
    let near = still_stands line other lines stood.0 from.apart stood.2 in
    by_test (nat_lt from.before (bound_in ways row line))
    (λ test.
    let e : age ≡ from.before + 1 = from.is_aged ∙ younger from.before (bound_in ways row line) test in
    (near.0, omega (arith, near.1, stood.1), near.2))
    (λ test.
    let e : age ≡ from.before = from.is_aged ∙ older from.before (bound_in ways row line) test in
    let over : bound_in ways row line ≤ from.before = ltb-false from.before (bound_in ways row line) test in
    let below : age < ways = from.below in
    kept_cases (age_in row line) refl e over below stood near)
  where
    younger : (a b : ℕ) → nat_lt a b ≡ true → aged b a ≡ a + 1
    younger a b test = rw test refl

    older : (a b : ℕ) → nat_lt a b ≡ false → aged b a ≡ a
    older a b test = rw test refl

    kept_cases : (found : Option ℕ) → age_in row line ≡ found → age ≡ from.before → bound_in ways row line ≤ from.before
        → age < ways
        → (stood : Stands lines other from.before) → Stands (without line lines) other stood.0
        → (j : ℕ) × (j + 1 ≤ age) × (slice_get (without line lines) j ≡ Some other)
    kept_cases None found e over below stood near =
        let b : bound_in ways row line ≡ ways = ap (λ (o : Option ℕ). unwrap_or o ways) found in
        absurd (omega arith)
    kept_cases (Some bound) found e over below stood near =
        let b : bound_in ways row line ≡ bound = ap (λ (o : Option ℕ). unwrap_or o ways) found in
        let first = sure line bound (age_in_row row line bound found) in
        ⊎_elim
        (λ (before : stood.0 < first.0). (near.0, omega (arith, near.1, stood.1, first.1), near.2))
        (λ (behind : first.0 ≤ stood.0). let nearer = stands_nearer line other lines first.0 stood.0 from.apart first.2 stood.2 behind in (nearer.0, omega (arith, nearer.1, stood.1), nearer.2))
        (cases_lt stood.0 first.0)

-- the row after an access is sure of the set after it
pub touched_sure : (ways line : ℕ) (row : List (ℕ × ℕ)) (lines : List ℕ) → 1 ≤ ways → IsSureOf row lines
    → IsSureOf (touched_row ways line row) (touched ways line lines)
touched_sure ways line row lines some sure other age there = ⊎_elim
    (λ (among : Contains (others ways line (bound_in ways row line) row) (other, age)).
    let from = other_from ways line (bound_in ways row line) row other age among in
    let stands = aged_stands ways line row lines other age sure from in
    let below : age < ways = from.below in
    (suc stands.0, omega (arith, stands.1), within_cut ways (line ∷ without line lines) (suc stands.0) other (omega (arith, stands.1)) stands.2))
    (λ (last : Contains ((line, 0) ∷ []) (other, age)).
    first_or_further (line, 0) [] (other, age) last
    (λ same. (0, omega arith, within_cut ways (line ∷ without line lines) 0 other (omega arith) (ap (λ (k : ℕ × ℕ). Some k.0) same)))
    (λ none. no_member (other, age) none))
    (Contains-append_cases (others ways line (bound_in ways row line) row) ((line, 0) ∷ []) (other, age) there)

-- ---- rows

pub set_low : (sets line : ℕ) → 1 ≤ sets → set_of sets line < sets
set_low sets line some = mod_below line sets (omega arith)

-- an access leaves the rows sure of what it leaves
pub accessed_sure : (sets ways line : ℕ) (rows : List (List (ℕ × ℕ))) (c : Contents) → 1 ≤ sets → 1 ≤ ways
    → length rows ≡ sets → AreSure sets rows c
    → AreSure sets (accessed_rows sets ways rows line) (accessed sets ways c line)
accessed_sure sets ways line rows c some_sets some_ways len sure s low =
    elim (cases_eq s (set_of sets line)) [
      | inl same ↦ subst (λ (t : ℕ). IsSureOf (row_at (accessed_rows sets ways rows line) t) (accessed sets ways c line t)) (sym same) here
      | inr apart ↦ there apart
    ]
  where
    new_row : List (ℕ × ℕ)
    new_row = touched_row ways line (row_at rows (set_of sets line))

    here : IsSureOf (row_at (accessed_rows sets ways rows line) (set_of sets line)) (accessed sets ways c line (set_of sets line))
    here =
        let is_low = set_low sets line some_sets in
        let row_is : row_at (accessed_rows sets ways rows line) (set_of sets line) ≡ touched_row ways line (row_at rows (set_of sets line)) = get_or-set_same rows (set_of sets line) (touched_row ways line (row_at rows (set_of sets line))) [] (omega arith) in
        rw (eq-eqb (set_of sets line) (set_of sets line) refl) (subst (λ (row : List (ℕ × ℕ)). IsSureOf row (touched ways line (c (set_of sets line)))) (sym row_is) (touched_sure ways line (row_at rows (set_of sets line)) (c (set_of sets line)) some_ways (sure (set_of sets line) is_low)))

    there : s ≢ set_of sets line → IsSureOf (row_at (accessed_rows sets ways rows line) s) (accessed sets ways c line s)
    there apart =
        rw (ne_eqb s (set_of sets line) apart) (subst (λ (row : List (ℕ × ℕ)). IsSureOf row (c s)) (sym (get_or-set_other rows (set_of sets line) s (touched_row ways line (row_at rows (set_of sets line))) [] apart)) (sure s low))

pub length-accessed_rows : (sets ways line : ℕ) (rows : List (List (ℕ × ℕ)))
    → length (accessed_rows sets ways rows line) ≡ length rows
length-accessed_rows sets ways line rows = length-set rows (set_of sets line) (touched_row ways line (row_at rows (set_of sets line)))

-- a line that is kept hits
pub sure_hits : (sets line : ℕ) (rows : List (List (ℕ × ℕ))) (c : Contents) → 1 ≤ sets → AreSure sets rows c
    → is_sure sets rows line ≡ true → is_hit sets c line ≡ true
sure_hits sets line rows c some_sets sure kept = found (age_in (row_at rows (set_of sets line)) line) refl
  where
    found : (age : Option ℕ) → age_in (row_at rows (set_of sets line)) line ≡ age → is_hit sets c line ≡ true
    found None none = absurd (false≢true (sym (ap (λ (o : Option ℕ). is_some o) none) ∙ kept))
    found (Some age) is =
        let stands = sure (set_of sets line) (set_low sets line some_sets) line age (age_in_row (row_at rows (set_of sets line)) line age is) in
        is_in_stands (c (set_of sets line)) line stands.0 stands.2

-- ---- the lines of a node

-- one access more before them
follows : (sets ways n line : ℕ) (rows : List (List (ℕ × ℕ))) (c : Contents) (lines : List ℕ) → 1 ≤ sets
    → AreSure sets rows c
    → AreFollowed sets ways n (accessed_rows sets ways rows line) (accessed sets ways c line) lines → AreFollowed sets ways n rows c (line ∷ lines)
follows sets ways n line rows c lines some_sets sure rest = record {
  sure = rest.sure;
  few = few;
  each = each;
}
  where
    at_most : (t : Bool) → cond t 1 0 ≤ 1
    at_most true = omega arith
    at_most false = omega arith

    one : (cond (not (is_hit sets c line)) 1 0 ≤ cond (is_sure sets rows line) 0 1)
        × (is_hit sets c line ≡ false → ◌≡◌ {A = ℕ} (cond (is_sure sets rows line) 0 1) 1)
    one = by_test (is_sure sets rows line)
        (λ kept. let hits = sure_hits sets line rows c some_sets sure kept in rw (kept, hits) (omega arith, λ misses. absurd (false≢true (sym misses))))
        (λ apart. rw apart (at_most (not (is_hit sets c line)), λ misses. refl))

    few : missed_of (accesses_at sets ways c n (line ∷ lines)) ≤ unsure sets ways rows (line ∷ lines)
    few =
        let e = sum_by-cons (λ (a : Access). cond (not a.hits) 1 0) (record { node = n; line = line; hits = is_hit sets c line }) (accesses_at sets ways (accessed sets ways c line) n lines) in
        omega (arith, e, one.0, rest.few)

    each : (a : Access) → Contains (accesses_at sets ways c n (line ∷ lines)) a
        → (a.node ≡ n) × (a.hits ≡ false → 0 < unsure sets ways rows (line ∷ lines))
    each a there = first_or_further (record { node = n; line = line; hits = is_hit sets c line }) (accesses_at sets ways (accessed sets ways c line) n lines) a there
        (λ same. (sym (ap (λ (x : Access). x.node) same), λ misses. let e = one.1 (ap (λ (x : Access). x.hits) same ∙ misses) in omega (arith, e)))
        (λ further. let more = rest.each a further in (more.0, λ misses. let e = more.1 misses in omega (arith, e)))

pub followed : (sets ways n : ℕ) (rows : List (List (ℕ × ℕ))) (c : Contents) (lines : List ℕ) → 1 ≤ sets → 1 ≤ ways
    → length rows ≡ sets → AreSure sets rows c → AreFollowed sets ways n rows c lines
followed sets ways n rows c [] some_sets some_ways len sure = record { sure = sure; few = omega arith; each = λ a none. no_member a none }
followed sets ways n rows c (line ∷ lines) some_sets some_ways len sure =
    follows sets ways n line rows c lines some_sets sure
    (followed sets ways n (accessed_rows sets ways rows line) (accessed sets ways c line) lines some_sets some_ways (length-accessed_rows sets ways line rows ∙ len) (accessed_sure sets ways line rows c some_sets some_ways len sure))
