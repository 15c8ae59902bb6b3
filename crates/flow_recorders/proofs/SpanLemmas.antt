-- Lists of spans that are kept as one number each.
--   only_set, only_replicate   a span that is set, and as many of one
--   zeros_only, zeros_set      numbers that are all 0, and spans of 0 of which one is set to 0
--   zeros_kept, zeros_count, zeros_iff   numbers that are all 0, where so many spans of 0 are kept
--   only_same, single_same     the numbers of spans, and ends that have the same ones
--   once_visited               numbers that are all 0, but for one that is 1
--   same_joined                a list joined with itself
--   room_only, room_least, room_most   there is room for one more
--   visited_only, visited_small, visited_apart   one more at a place
--   room_for_more              there is room at each place, where the greatest number is no limit
use Rattle.std.specs.Prelude.{◌↔◌}
use Rattle.std.proofs.Common.{◌≡◌, ◌<◌, ◌+◌, ◌-◌, ◌^◌, ℕ, zero, suc, List, [], ◌∷◌, map, length, get_or, set, replicate, refl, sym, ap, ◌∙◌, subst, arith}
use Rattle.std.proofs.Math.ListN.{get_or-map}
use Rattle.std.proofs.lemmas.List.{map-set, get_or_read, length-map, length-replicate}
use Rattle.recorder_rules.specs.GeneratedLaws.{generated_is}
use Rattle.recorder_rules.specs.Spans.{span_of, one_more, greatest}
use Rattle.recorder_rules.specs.SpanLaws.{spans_of, below_greatest}
use Rattle.recorder_rules.specs.TotalRules.{span_at}
use Rattle.flow_recorders.specs.SpanLists.{only, spans_in, IsSingle}
use Rattle.flow_recorders.specs.declared.ends.Ends.{Ends}

-- a span that is set
pub only_set : (xs : List ℕ) (i c : ℕ) → map only (set xs i c) ≡ set (map only xs) i (only c)
only_set xs i c = map-set only xs i c

-- as many of one
pub only_replicate : (n c : ℕ) → map only (replicate n c) ≡ replicate n (only c)
only_replicate zero c = refl
only_replicate (suc n) c = ap (λ (xs : List (ℕ × ℕ)). only c ∷ xs) (only_replicate n c)

-- numbers that are all 0
pub zeros_only : (xs : List ℕ) (n : ℕ) → xs ≡ replicate n 0 → map only xs ≡ replicate n (0, 0)
zeros_only xs n zeros = ap (λ (ys : List ℕ). map only ys) zeros ∙ only_replicate n 0

-- so many spans of 0 are those of the numbers
pub zeros_kept : (n : ℕ) (xs read : List ℕ) → n ≡ length read → read ≡ xs → read ≡ replicate (length read) 0
    → replicate n (0, 0) ≡ map only xs
zeros_kept n xs read count is zeros =
    ap (λ (m : ℕ). replicate {A = ℕ × ℕ} m (0, 0)) count ∙ sym (zeros_only read (length read) zeros) ∙ ap (λ (ys : List ℕ). map only ys) is

-- how many numbers there are, where as many spans of 0 are kept
pub zeros_count : (n : ℕ) (xs : List ℕ) (a b : List (ℕ × ℕ)) → a ≡ replicate n (0, 0) → b ≡ map only xs
    → length a ≡ length b → n ≡ length xs
zeros_count n xs a b is_a is_b long =
    sym (length-replicate n (0, 0)) ∙ sym (ap (λ (ys : List (ℕ × ℕ)). length ys) is_a) ∙ long ∙ ap (λ (ys : List (ℕ × ℕ)). length ys) is_b ∙ length-map xs only

-- numbers that are all 0 are as many zeros
pub zeros_iff : (n : ℕ) (xs read : List ℕ) (P : Type 0) → n ≡ length xs → read ≡ xs
    → (P ↔ (read ≡ replicate (length read) 0)) → P ↔ (replicate {A = ℕ} n 0 ≡ xs)
zeros_iff n xs read P count is same = (λ y. zeros ∙ sym (same.0 y) ∙ is, λ e. same.1 (is ∙ sym e ∙ zeros))
  where
    zeros : replicate {A = ℕ} n 0 ≡ replicate (length read) 0
    zeros = ap (λ (m : ℕ). replicate {A = ℕ} m 0) (count ∙ sym (ap (λ (ys : List ℕ). length ys) is))

-- numbers are known from their spans
numbers_of : (xs : List ℕ) → xs ≡ map (λ (s : ℕ × ℕ). s.0) (map only xs)
numbers_of [] = refl
numbers_of (x ∷ xs) = ap (λ (ys : List ℕ). x ∷ ys) (numbers_of xs)

pub only_same : (xs ys : List ℕ) → map only xs ≡ map only ys → xs ≡ ys
only_same xs ys e = numbers_of xs ∙ ap (λ (ss : List (ℕ × ℕ)). map (λ (s : ℕ × ℕ). s.0) ss) e ∙ sym (numbers_of ys)

-- ends of one number each have the same spans where the numbers are the same
pub single_same : (a b : Ends) (xs ys : List ℕ) (P : Type 0) → IsSingle a → IsSingle b → spans_in a ≡ map only xs
    → spans_in b ≡ map only ys → (P ↔ (xs ≡ ys)) → P ↔ (IsSingle a × IsSingle b × (spans_in a ≡ spans_in b))
single_same a b xs ys P one other is_a is_b same = (λ y. (one, other, is_a ∙ ap (λ (zs : List ℕ). map only zs) (same.0 y) ∙ sym is_b), λ h. same.1 (only_same xs ys (sym is_a ∙ h.2 ∙ is_b)))

-- spans of 0, of which one is set to 0
pub zeros_set : (n i : ℕ) → set (replicate n (0, 0)) i (0, 0) ≡ replicate {A = ℕ × ℕ} n (0, 0)
zeros_set zero i = refl
zeros_set (suc n) zero = refl
zeros_set (suc n) (suc i) = ap (λ (xs : List (ℕ × ℕ)). (0, 0) ∷ xs) (zeros_set n i)

-- numbers that are all 0, but for one that is 1
pub once_visited : (xs : List ℕ) (n i : ℕ) → xs ≡ replicate n 0
    → map only (set xs i 1) ≡ set (replicate n (0, 0)) i (1, 1)
once_visited xs n i zeros = only_set xs i 1 ∙ ap (λ (ys : List (ℕ × ℕ)). set ys i (1, 1)) (zeros_only xs n zeros)

-- a list joined with itself
pub same_joined : (a b : List (ℕ × ℕ)) → a ≡ b → a ≡ spans_of a b
same_joined a b same =
    generated_is (length a) (λ i. span_of (get_or a i (0, 0)) (get_or b i (0, 0))) a (0, 0) refl (λ i low.
    subst (λ (xs : List (ℕ × ℕ)). get_or a i (0, 0) ≡ span_of (get_or a i (0, 0)) (get_or xs i (0, 0))) same (itself (get_or a i (0, 0))))
  where
    itself : (s : ℕ × ℕ) → s ≡ span_of s s
    itself s = ap (λ (l : ℕ). (l, s.1)) (omega arith) ∙ ap (λ (m : ℕ). ((span_of s s).0, m)) (omega arith)

-- a span that was read, in the list
read_at : {X : Type 0} (xs ys : List X) (i : ℕ) (x d : X) → xs ≡ ys → i < length ys → x ≡ get_or xs i x
    → x ≡ get_or ys i d
read_at xs ys i x d same low read = get_or_read xs i x (subst (λ zs. i < length zs) (sym same) low) read d ∙ ap (λ zs. get_or zs i d) same

module _ (spans : List (ℕ × ℕ)) (i : ℕ) (low : i < length spans) where
  -- a span that was read, where one number is kept
  only_read : (xs : List ℕ) (c : ℕ) → map only xs ≡ spans → c ≡ get_or xs i c → only c ≡ span_at spans i
  only_read xs c is read = read_at (map only xs) spans i (only c) (0, 0) is low (ap only read ∙ sym (get_or-map only xs i c))

  -- there is room for one more
  pub room_only : (xs : List ℕ) (c : ℕ) → map only xs ≡ spans → c ≡ get_or xs i c → (span_at spans i).0 < 2 ^ 32 - 1
      → c + 1 < 2 ^ 32
  room_only xs c is read most = let same = ap (λ (s : ℕ × ℕ). s.0) (only_read xs c is read) in omega arith

  pub room_least : (xs : List (ℕ × ℕ)) (s : ℕ × ℕ) → xs ≡ spans → s ≡ get_or xs i s → (span_at spans i).0 < 2 ^ 32 - 1
      → s.0 + 1 < 2 ^ 32
  room_least xs s is read most = let same = ap (λ (t : ℕ × ℕ). t.0) (read_at xs spans i s (0, 0) is low read) in omega arith

  pub room_most : (xs : List (ℕ × ℕ)) (s : ℕ × ℕ) → xs ≡ spans → s ≡ get_or xs i s → (span_at spans i).1 < 2 ^ 32 - 1
      → s.1 + 1 < 2 ^ 32
  room_most xs s is read most = let same = ap (λ (t : ℕ × ℕ). t.1) (read_at xs spans i s (0, 0) is low read) in omega arith

  -- one more at a place
  pub visited_only : (xs : List ℕ) (c : ℕ) → map only xs ≡ spans → c ≡ get_or xs i c
      → map only (set xs i (c + 1)) ≡ set spans i (one_more (span_at spans i))
  visited_only xs c is read = only_set xs i (c + 1) ∙ ap (λ (ys : List (ℕ × ℕ)). set ys i (only (c + 1))) is ∙ ap (λ (s : ℕ × ℕ). set spans i (one_more s)) (only_read xs c is read)

  pub visited_small : (xs read : List ℕ) (c : ℕ) → map only xs ≡ spans → read ≡ xs → c ≡ get_or read i 0 + 1
      → map only (set xs i c) ≡ set spans i (one_more (span_at spans i))
  visited_small xs read c is same more =
      ap (λ (n : ℕ). map only (set xs i n)) (more ∙ ap (λ (zs : List ℕ). get_or zs i 0 + 1) same)
      ∙ only_set xs i (get_or xs i 0 + 1) ∙ ap (λ (zs : List (ℕ × ℕ)). set zs i (only (get_or xs i 0 + 1))) is
      ∙ ap (λ (s : ℕ × ℕ). set spans i (one_more s)) (sym (get_or-map only xs i 0) ∙ ap (λ (zs : List (ℕ × ℕ)). get_or zs i (0, 0)) is)

  pub visited_apart : (xs : List (ℕ × ℕ)) (s : ℕ × ℕ) → xs ≡ spans → s ≡ get_or xs i s
      → set xs i (one_more s) ≡ set spans i (one_more (span_at spans i))
  visited_apart xs s is read = ap (λ (ys : List (ℕ × ℕ)). set ys i (one_more s)) is ∙ ap (λ (t : ℕ × ℕ). set spans i (one_more t)) (read_at xs spans i s (0, 0) is low read)

-- where the greatest number is no limit, there is room for one more at each place
pub room_for_more : (kept spans : List (ℕ × ℕ)) (i : ℕ) → kept ≡ spans → i < length spans → greatest spans < 2 ^ 32 - 1
    → ((span_at kept i).0 < 2 ^ 32 - 1) × ((span_at kept i).1 < 2 ^ 32 - 1)
room_for_more kept spans i is low most =
    subst (λ (xs : List (ℕ × ℕ)). ((span_at xs i).0 < 2 ^ 32 - 1) × ((span_at xs i).1 < 2 ^ 32 - 1)) (sym is)
    (let below = below_greatest spans i low in let p = below.0 in let q = below.1 in (omega arith, omega arith))
