-- On the way to the laws of lru.
--   empty_contents      an empty cache is contents
--   accessed_contents   what an access leaves of contents is contents
--   contents_stay       and so is what the accesses of a trace leave
use Rattle.std.proofs.Common.{◌≡◌, ℕ, zero, suc, ◌≤◌, false, not, List, [], ◌∷◌, length, take, filter, inl, inr, refl, sym, arith, eq-eqb}
use Rattle.std.specs.Prelude.{◌==◌}
use Rattle.std.proofs.lemmas.Bool.{ne_eqb, or_parts, or_from, cases_eq}
use Rattle.std.proofs.lemmas.List.{length-take}
use Rattle.std.proofs.lemmas.List.Elements.{All-nil, All-cons, All-take, All-filter}
use Rattle.lists.specs.TestLaws.{by_test}
use Rattle.domain_core.specs.Outlines.{Outlined}
use Rattle.line_cache.specs.Lines.{sets_of, ways_of, lines_of}
use Rattle.line_cache.specs.Lru.{Contents, set_of, is_in, StandOnce, IsContents, touched, accessed, contents_after}
use Rattle.line_cache.specs.Traced.{contents_of}

-- ---- contents

pub empty_contents : (sets ways : ℕ) → IsContents sets ways (λ s. [])
empty_contents sets ways = record { few = λ s low. omega arith; once = λ s low. tt; own = λ s low. All-nil (λ line. set_of sets line ≡ s) }

abbrev without : ℕ → List ℕ → List ℕ
without line lines = filter (λ other. not (other == line)) lines

absent_without : (line : ℕ) (lines : List ℕ) → is_in (without line lines) line ≡ false
absent_without line [] = refl
absent_without line (x ∷ lines) = by_test (x == line) (λ test. rw test (absent_without line lines)) (λ test. rw test (rw test (absent_without line lines)))

still_absent : (line other : ℕ) (lines : List ℕ) → is_in lines other ≡ false → is_in (without line lines) other ≡ false
still_absent line other [] absent = refl
still_absent line other (x ∷ lines) absent =
    let parts = or_parts (x == other) (is_in lines other) absent in
    by_test (x == line) (λ test. rw test (still_absent line other lines parts.1)) (λ test. rw test (or_from (x == other) (is_in (without line lines) other) parts.0 (still_absent line other lines parts.1)))

once_without : (line : ℕ) (lines : List ℕ) → StandOnce lines → StandOnce (without line lines)
once_without line [] once = tt
once_without line (x ∷ lines) once = by_test (x == line) (λ test. rw test (once_without line lines once.1)) (λ test. rw test (still_absent line x lines once.0, once_without line lines once.1))

absent_cut : (n other : ℕ) (lines : List ℕ) → is_in lines other ≡ false → is_in (take n lines) other ≡ false
absent_cut zero other lines absent = refl
absent_cut (suc n) other [] absent = refl
absent_cut (suc n) other (x ∷ lines) absent = let parts = or_parts (x == other) (is_in lines other) absent in or_from (x == other) (is_in (take n lines) other) parts.0 (absent_cut n other lines parts.1)

once_cut : (n : ℕ) (lines : List ℕ) → StandOnce lines → StandOnce (take n lines)
once_cut zero lines once = tt
once_cut (suc n) [] once = tt
once_cut (suc n) (x ∷ lines) once = (absent_cut n x lines once.0, once_cut n lines once.1)

-- what an access leaves of contents is contents
pub accessed_contents : (sets ways line : ℕ) (c : Contents) → IsContents sets ways c
    → IsContents sets ways (accessed sets ways c line)
accessed_contents sets ways line c is = record {
  few = λ s low. by s (λ lines. length lines ≤ ways) (let e = length-take ways (line ∷ without line (c s)) in omega arith) (is.few s low);
  once = λ s low. by s StandOnce (once_cut ways (line ∷ without line (c s)) (absent_without line (c s), once_without line (c s) (is.once s low))) (is.once s low);
  own = λ s low. elim (cases_eq s (set_of sets line)) [
    | inl same ↦ rw (eq-eqb s (set_of sets line) same) (All-take (λ l. set_of sets l ≡ s) ways (line ∷ without line (c s)) (All-cons (λ l. set_of sets l ≡ s) line (without line (c s)) (sym same) (All-filter (λ other. not (other == line)) (λ l. set_of sets l ≡ s) (c s) (is.own s low))))
    | inr apart ↦ rw (ne_eqb s (set_of sets line) apart) (is.own s low)
  ];
}
  where
    by : (s : ℕ) (P : List ℕ → Type 0) → P (touched ways line (c s)) → P (c s) → P (accessed sets ways c line s)
    by s P new old = by_test (s == set_of sets line) (λ test. rw test new) (λ test. rw test old)

after_contents : (sets ways : ℕ) (c : Contents) (lines : List ℕ) → IsContents sets ways c
    → IsContents sets ways (contents_after sets ways c lines)
after_contents sets ways c [] is = is
after_contents sets ways c (line ∷ lines) is = after_contents sets ways (accessed sets ways c line) lines (accessed_contents sets ways line c is)

-- and so is what the accesses of a trace leave
pub contents_stay : (o : Outlined) (c : Contents) (past : List ℕ) → IsContents (sets_of o) (ways_of o) c
    → IsContents (sets_of o) (ways_of o) (contents_of o c past)
contents_stay o c [] is = is
contents_stay o c (n ∷ past) is = after_contents (sets_of o) (ways_of o) (contents_of o c past) (lines_of o n) (contents_stay o c past is)
