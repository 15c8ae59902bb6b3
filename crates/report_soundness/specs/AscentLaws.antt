-- The facts of a report are in the order of lines.
--   told_ascend   each stands before those after it
use Rattle.std.proofs.Common.{◌≡◌, ◌<◌, ◌≤◌, ◌+◌, ◌==◌, ◌&&◌, not, ℕ, zero, suc, List, [], ◌∷◌, ◌++◌, Option, Some, None, Bool, true, false, cond, length, Contains, AllPairs, inl, inr, refl, sym, ap, ◌∙◌, subst, arith}
use Rattle.std.specs.List.{flat_map}
use Rattle.std.specs.Cmp.Lexicographic.{slice_cmp}
use Rattle.std.specs.Ordering.{nat_cmp, ordering_then}
use Rattle.std.specs.Prelude.{nat_lt}
use Rattle.std.specs.declared.cmp.Ordering.{Ordering}
use Rattle.std.specs.declared.cmp.Ordering.TheVariants.{Less, Equal, Greater}
use Rattle.std.proofs.lemmas.Bool.{lt-ltb, le-ltb, eq-eqb}
use Rattle.std.proofs.lemmas.List.Elements.{Contains-append_cases}
use Rattle.std.proofs.lemmas.List.Kept.{AllPairs-cons}
use Rattle.lists.specs.MemberLaws.{no_member, first_member, further_member, first_or_further, all_members}
use Rattle.lists.specs.ImageLaws.{from_joined}
use Rattle.alf_ops.specs.declared.history.RunFault.{RunFault}
use Rattle.domain_core.specs.declared.fault_set.FaultSet.{FaultSet}
use Rattle.domain_core.specs.FaultSets.{has_fault}
use Rattle.domain_core.specs.Outlines.{Outlined, shape_of, kind_of}
use Rattle.flow_facts.specs.declared.fact.Fact.{Fact}
use Rattle.flow_facts.specs.declared.fact.Fact.TheVariants.{Loop, Count, Dead, Total, Pair, Alarm}
use Rattle.flow_facts.specs.Writable.{IsBefore, kind_place, fault_code, numbers_of}
use Rattle.recorder_rules.specs.TotalRules.{spread_at}
use Rattle.recorder_rules.specs.LoopRules.{is_loop, own_of, is_counted}
use Rattle.recorder_rules.specs.PairRules.{together}
use Rattle.worklist_rules.specs.Pools.{alarm_at}
use Rattle.report_soundness.specs.ReportTold.{Found, is_stepped, below, span_lines, loop_lines, count_line, count_lines, dead_lines, total_lines, may_pair, pair_line, pairs_with, pair_lines, all_faults, alarm_line, alarm_lines, told_facts}
use Rattle.report_soundness.specs.BelowLaws.{from_if, from_unless, only_member, from_below, OfSpan, from_span}

-- ---- lists that ascend

-- each fact stands before those after it
abbrev pub Ascends : List Fact → Type 0
Ascends [] = Unit {0}
Ascends (f ∷ facts) = ((g : Fact) → Contains facts g → IsBefore f g) × Ascends facts

-- each of the first list stands before each of the second
abbrev pub AllBefore : List Fact → List Fact → Type 0
AllBefore xs ys = (f g : Fact) → Contains xs f → Contains ys g → IsBefore f g

ascends-append : (xs ys : List Fact) → Ascends xs → Ascends ys → AllBefore xs ys → Ascends (xs ++ ys)
ascends-append [] ys first second between = second
ascends-append (x ∷ xs) ys first second between = (
  λ g there. elim (Contains-append_cases xs ys g there) [ inl left ↦ first.0 g left | inr right ↦ between x g (first_member x xs) right ],
  ascends-append xs ys first.1 second (λ f g left right. between f g (further_member x xs f left) right),
)

ascends_below : (f : ℕ → List Fact) (k : ℕ) → ((n : ℕ) → n < k → Ascends (f n))
    → ((m n : ℕ) → m < n → AllBefore (f m) (f n)) → Ascends (below f k)
ascends_below f zero each between = tt
ascends_below f (suc k) each between =
    ascends-append (below f k) (f k) (ascends_below f k (λ n low. each n (omega arith)) between) (each k (omega arith))
    (λ x y left right. let found = from_below f k x left in between found.0 k found.1 x y found.2 right)

-- at most one line
one_ascends : (f : Fact) → Ascends (f ∷ [])
one_ascends f = (λ g none. no_member g none, tt)

if_ascends : (v : Bool) (xs : List Fact) → Ascends xs → Ascends (cond v xs [])
if_ascends true xs up = up
if_ascends false xs up = tt

span_ascends : (line : ℕ → ℕ → Fact) (spread : Option (ℕ × ℕ)) → Ascends (span_lines line spread)
span_ascends line None = tt
span_ascends line (Some s) = one_ascends (line s.0 s.1)

unless_ascends : (v : Bool) (f : Fact) → Ascends (cond v [] (f ∷ []))
unless_ascends true f = tt
unless_ascends false f = one_ascends f

all_pairs : (facts : List Fact) → Ascends facts → AllPairs IsBefore facts
all_pairs [] up = λ i j d less low. absurd (omega arith)
all_pairs (f ∷ facts) up = AllPairs-cons IsBefore f facts (all_members (IsBefore f) facts up.0) (all_pairs facts up.1)

-- ---- the order of two lines

compared_less : (m n : ℕ) → m < n → nat_cmp m n ≡ Less
compared_less m n low = ap (λ (v : Bool). cond v Less (cond (m == n) Equal Greater)) (lt-ltb m n low)

compared_same : (m : ℕ) → nat_cmp m m ≡ Equal
compared_same m = ap (λ (v : Bool). cond v Less (cond (m == m) Equal Greater)) (le-ltb m m (omega arith)) ∙ ap (λ (v : Bool). cond v Equal Greater) (eq-eqb m m refl)

less_first : (m n : ℕ) (xs ys : List ℕ) → m < n → slice_cmp nat_cmp (m ∷ xs) (n ∷ ys) ≡ Less
less_first m n xs ys low = ap (λ (r : Ordering). ordering_then r (slice_cmp nat_cmp xs ys)) (compared_less m n low)

same_first : (m : ℕ) (xs ys : List ℕ) → slice_cmp nat_cmp xs ys ≡ Less → slice_cmp nat_cmp (m ∷ xs) (m ∷ ys) ≡ Less
same_first m xs ys is = ap (λ (r : Ordering). ordering_then r (slice_cmp nat_cmp xs ys)) (compared_same m) ∙ is

by_kind : (f g : Fact) → kind_place f < kind_place g → IsBefore f g
by_kind f g low = less_first (kind_place f) (kind_place g) (numbers_of f) (numbers_of g) low

-- lines of one kind, by the first of their numbers that differ
loop_before : (s t a b c d : ℕ) → s < t → IsBefore (Loop s a b) (Loop t c d)
loop_before s t a b c d less = same_first 0 (s ∷ a ∷ b ∷ []) (t ∷ c ∷ d ∷ []) (less_first s t (a ∷ b ∷ []) (c ∷ d ∷ []) less)

count_before : (s t m n a b c d : ℕ) → s < t → IsBefore (Count s m a b) (Count t n c d)
count_before s t m n a b c d less = same_first 1 (s ∷ m ∷ a ∷ b ∷ []) (t ∷ n ∷ c ∷ d ∷ []) (less_first s t (m ∷ a ∷ b ∷ []) (n ∷ c ∷ d ∷ []) less)

count_node_before : (s m n a b c d : ℕ) → m < n → IsBefore (Count s m a b) (Count s n c d)
count_node_before s m n a b c d less = same_first 1 (s ∷ m ∷ a ∷ b ∷ []) (s ∷ n ∷ c ∷ d ∷ []) (same_first s (m ∷ a ∷ b ∷ []) (n ∷ c ∷ d ∷ []) (less_first m n (a ∷ b ∷ []) (c ∷ d ∷ []) less))

dead_before : (m n : ℕ) → m < n → IsBefore (Dead m) (Dead n)
dead_before m n less = same_first 2 (m ∷ []) (n ∷ []) (less_first m n [] [] less)

total_before : (m n a b c d : ℕ) → m < n → IsBefore (Total m a b) (Total n c d)
total_before m n a b c d less = same_first 3 (m ∷ a ∷ b ∷ []) (n ∷ c ∷ d ∷ []) (less_first m n (a ∷ b ∷ []) (c ∷ d ∷ []) less)

pair_before : (s t a b c d : ℕ) → s < t → IsBefore (Pair s a b) (Pair t c d)
pair_before s t a b c d less = same_first 4 (s ∷ a ∷ b ∷ []) (t ∷ c ∷ d ∷ []) (less_first s t (a ∷ b ∷ []) (c ∷ d ∷ []) less)

pair_first_before : (s a b c d : ℕ) → a < c → IsBefore (Pair s a b) (Pair s c d)
pair_first_before s a b c d less = same_first 4 (s ∷ a ∷ b ∷ []) (s ∷ c ∷ d ∷ []) (same_first s (a ∷ b ∷ []) (c ∷ d ∷ []) (less_first a c (b ∷ []) (d ∷ []) less))

pair_second_before : (s a b d : ℕ) → b < d → IsBefore (Pair s a b) (Pair s a d)
pair_second_before s a b d less = same_first 4 (s ∷ a ∷ b ∷ []) (s ∷ a ∷ d ∷ []) (same_first s (a ∷ b ∷ []) (a ∷ d ∷ []) (same_first a (b ∷ []) (d ∷ []) (less_first b d [] [] less)))

alarm_before : (m n : ℕ) (k l : RunFault) → m < n → IsBefore (Alarm m k) (Alarm n l)
alarm_before m n k l less = same_first 5 (m ∷ fault_code k ∷ []) (n ∷ fault_code l ∷ []) (less_first m n (fault_code k ∷ []) (fault_code l ∷ []) less)

alarm_code_before : (n : ℕ) (k l : RunFault) → fault_code k < fault_code l → IsBefore (Alarm n k) (Alarm n l)
alarm_code_before n k l less = same_first 5 (n ∷ fault_code k ∷ []) (n ∷ fault_code l ∷ []) (same_first n (fault_code k ∷ []) (fault_code l ∷ []) (less_first (fault_code k) (fault_code l) [] [] less))

-- two facts, where they are these
before_as : (f g x y : Fact) → f ≡ x → g ≡ y → IsBefore f g → IsBefore x y
before_as f g x y first second is = subst (λ (z : Fact). IsBefore x z) second (subst (λ (z : Fact). IsBefore z g) first is)

-- ---- the lines of one kind

module _ (o : Outlined) (found : Found) where
  -- all lines of a list are of one kind
  abbrev OfKind : ℕ → List Fact → Type 0
  OfKind k facts = (f : Fact) → Contains facts f → kind_place f ≡ k

  below_kind : (k : ℕ) (f : ℕ → List Fact) (n : ℕ) → ((m : ℕ) → OfKind k (f m)) → OfKind k (below f n)
  below_kind k f n each fact there = let m = from_below f n fact there in each m.0 fact m.2

  loop_of : (s : ℕ) (fact : Fact) → Contains (loop_lines o found s) fact
      → OfSpan (λ low high. Loop s low high) (spread_at found.books.loops.spreads s) fact
  loop_of s fact there = from_span (λ low high. Loop s low high) (spread_at found.books.loops.spreads s) fact (from_if (is_loop (kind_of o.scopes s)) (span_lines (λ low high. Loop s low high) (spread_at found.books.loops.spreads s)) fact there).1

  loops_ascend : Ascends (below (loop_lines o found) (length o.scopes))
  loops_ascend = ascends_below (loop_lines o found) (length o.scopes)
      (λ s low. if_ascends (is_loop (kind_of o.scopes s)) (span_lines (λ low high. Loop s low high) (spread_at found.books.loops.spreads s)) (span_ascends (λ low high. Loop s low high) (spread_at found.books.loops.spreads s)))
      (λ s t less x y first second.
      let f = loop_of s x first in
      let g = loop_of t y second in
      before_as (Loop s f.low f.high) (Loop t g.low g.high) x y f.is g.is (loop_before s t f.low f.high g.low g.high less))

  count_of : (s n : ℕ) (fact : Fact) → Contains (count_line o found s n) fact
      → OfSpan (λ low high. Count s n low high) (spread_at found.books.counts.spreads n) fact
  count_of s n fact there =
      from_span (λ low high. Count s n low high) (spread_at found.books.counts.spreads n) fact
      (from_if (is_stepped found n && (is_counted (shape_of o) n && (own_of (shape_of o) n == s))) (span_lines (λ low high. Count s n low high) (spread_at found.books.counts.spreads n)) fact there).1

  counts_ascend : Ascends (below (count_lines o found) (length o.scopes))
  counts_ascend = ascends_below (count_lines o found) (length o.scopes)
      (λ s low. ascends_below (count_line o found s) (length o.nodes)
      (λ n less. if_ascends (is_stepped found n && (is_counted (shape_of o) n && (own_of (shape_of o) n == s))) (span_lines (λ low high. Count s n low high) (spread_at found.books.counts.spreads n))
      (span_ascends (λ low high. Count s n low high) (spread_at found.books.counts.spreads n)))
      (λ m n less x y first second.
      let f = count_of s m x first in
      let g = count_of s n y second in
      before_as (Count s m f.low f.high) (Count s n g.low g.high) x y f.is g.is (count_node_before s m n f.low f.high g.low g.high less)))
      (λ s t less x y first second.
      let m = from_below (count_line o found s) (length o.nodes) x first in
      let n = from_below (count_line o found t) (length o.nodes) y second in
      let f = count_of s m.0 x m.2 in
      let g = count_of t n.0 y n.2 in
      before_as (Count s m.0 f.low f.high) (Count t n.0 g.low g.high) x y f.is g.is (count_before s t m.0 n.0 f.low f.high g.low g.high less))

  dead_of : (n : ℕ) (fact : Fact) → Contains (dead_lines found n) fact → Dead n ≡ fact
  dead_of n fact there = only_member (Dead n) fact (from_unless (is_stepped found n) (Dead n ∷ []) fact there).1

  deads_ascend : Ascends (below (dead_lines found) (length o.nodes))
  deads_ascend = ascends_below (dead_lines found) (length o.nodes)
      (λ n low. unless_ascends (is_stepped found n) (Dead n))
      (λ m n less x y first second. before_as (Dead m) (Dead n) x y (dead_of m x first) (dead_of n y second) (dead_before m n less))

  total_of : (n : ℕ) (fact : Fact) → Contains (total_lines found n) fact
      → OfSpan (λ low high. Total n low high) (spread_at found.books.totals n) fact
  total_of n fact there = from_span (λ low high. Total n low high) (spread_at found.books.totals n) fact (from_if (is_stepped found n) (span_lines (λ low high. Total n low high) (spread_at found.books.totals n)) fact there).1

  totals_ascend : Ascends (below (total_lines found) (length o.nodes))
  totals_ascend = ascends_below (total_lines found) (length o.nodes)
      (λ n low. if_ascends (is_stepped found n) (span_lines (λ low high. Total n low high) (spread_at found.books.totals n)) (span_ascends (λ low high. Total n low high) (spread_at found.books.totals n)))
      (λ m n less x y first second.
      let f = total_of m x first in
      let g = total_of n y second in
      before_as (Total m f.low f.high) (Total n g.low g.high) x y f.is g.is (total_before m n f.low f.high g.low g.high less))

  pair_of : (s a b : ℕ) (fact : Fact) → Contains (pair_line o found s a b) fact → Pair s a b ≡ fact
  pair_of s a b fact there = only_member (Pair s a b) fact (from_if (nat_lt a b && (may_pair o found s b && not (together found.books.pairs a b))) (Pair s a b ∷ []) fact there).1

  -- a pair of the node a of the scope s
  pair_with : (s a : ℕ) (fact : Fact) → Contains (pairs_with o found s a) fact → (b : ℕ) × (Pair s a b ≡ fact)
  pair_with s a fact there =
      let m = from_below (pair_line o found s a) (length o.nodes) fact (from_if (may_pair o found s a) (below (pair_line o found s a) (length o.nodes)) fact there).1 in
      (m.0, pair_of s a m.0 fact m.2)

  pairs_ascend : Ascends (below (pair_lines o found) (length o.scopes))
  pairs_ascend = ascends_below (pair_lines o found) (length o.scopes)
      (λ s low. ascends_below (pairs_with o found s) (length o.nodes)
      (λ a less. if_ascends (may_pair o found s a) (below (pair_line o found s a) (length o.nodes))
      (ascends_below (pair_line o found s a) (length o.nodes)
      (λ b within. if_ascends (nat_lt a b && (may_pair o found s b && not (together found.books.pairs a b))) (Pair s a b ∷ []) (one_ascends (Pair s a b)))
      (λ b c before x y first second. before_as (Pair s a b) (Pair s a c) x y (pair_of s a b x first) (pair_of s a c y second) (pair_second_before s a b c before))))
      (λ a b before x y first second.
      let f = pair_with s a x first in
      let g = pair_with s b y second in
      before_as (Pair s a f.0) (Pair s b g.0) x y f.1 g.1 (pair_first_before s a f.0 b g.0 before)))
      (λ s t less x y first second.
      let m = from_below (pairs_with o found s) (length o.nodes) x first in
      let n = from_below (pairs_with o found t) (length o.nodes) y second in
      let f = pair_with s m.0 x m.2 in
      let g = pair_with t n.0 y n.2 in
      before_as (Pair s m.0 f.0) (Pair t n.0 g.0) x y f.1 g.1 (pair_before s t m.0 f.0 n.0 g.0 less))

  -- ---- alarms

  -- the faults come by their numbers
  abbrev CodesAscend : List RunFault → Type 0
  CodesAscend [] = Unit {0}
  CodesAscend (k ∷ []) = Unit {0}
  CodesAscend (k ∷ l ∷ faults) = (fault_code k < fault_code l) × CodesAscend (l ∷ faults)

  later_code : (k : RunFault) (faults : List RunFault) → CodesAscend (k ∷ faults) → (l : RunFault) → Contains faults l
      → fault_code k < fault_code l
  later_code k [] up l there = no_member l there
  later_code k (m ∷ faults) up l there =
      first_or_further m faults l there
      (λ same. subst (λ (x : RunFault). fault_code k < fault_code x) same up.0)
      (λ more. let next = up.0 in let rest = later_code m faults up.1 l more in omega (arith, next, rest))

  rest_ascends : (k : RunFault) (faults : List RunFault) → CodesAscend (k ∷ faults) → CodesAscend faults
  rest_ascends k [] up = tt
  rest_ascends k (l ∷ faults) up = up.1

  alarm_of : (set : FaultSet) (n : ℕ) (fault : RunFault) (fact : Fact) → Contains (alarm_line set n fault) fact
      → Alarm n fault ≡ fact
  alarm_of set n fault fact there = only_member (Alarm n fault) fact (from_if (has_fault set fault) (Alarm n fault ∷ []) fact there).1

  alarm_among : (set : FaultSet) (n : ℕ) (faults : List RunFault) (fact : Fact)
      → Contains (flat_map (alarm_line set n) faults) fact
      → (fault : RunFault) × Contains faults fault × (Alarm n fault ≡ fact)
  alarm_among set n faults fact there = let m = from_joined (alarm_line set n) faults fact there in (m.0, m.1, alarm_of set n m.0 fact m.2)

  faults_ascend : (set : FaultSet) (n : ℕ) (faults : List RunFault) → CodesAscend faults
      → Ascends (flat_map (alarm_line set n) faults)
  faults_ascend set n [] up = tt
  faults_ascend set n (k ∷ faults) up =
      ascends-append (alarm_line set n k) (flat_map (alarm_line set n) faults)
      (if_ascends (has_fault set k) (Alarm n k ∷ []) (one_ascends (Alarm n k)))
      (faults_ascend set n faults (rest_ascends k faults up))
      (λ x y first second.
      let g = alarm_among set n faults y second in
      before_as (Alarm n k) (Alarm n g.0) x y (alarm_of set n k x first) g.2 (alarm_code_before n k g.0 (later_code k faults up g.0 g.1)))

  all_codes : CodesAscend all_faults
  all_codes = (omega arith, (omega arith, (omega arith, (omega arith, (omega arith, (omega arith, tt))))))

  alarms_ascend : Ascends (below (alarm_lines found) (length o.nodes))
  alarms_ascend = ascends_below (alarm_lines found) (length o.nodes)
      (λ n low. faults_ascend (alarm_at found.alarms n) n all_faults all_codes)
      (λ m n less x y first second.
      let f = alarm_among (alarm_at found.alarms m) m all_faults x first in
      let g = alarm_among (alarm_at found.alarms n) n all_faults y second in
      before_as (Alarm m f.0) (Alarm n g.0) x y f.2 g.2 (alarm_before m n f.0 g.0 less))

  -- ---- one kind after another

  -- lists of one kind each, where the first kind comes earlier
  kinds_before : (j k : ℕ) (xs ys : List Fact) → OfKind j xs → ((f : Fact) → Contains ys f → k ≤ kind_place f) → j < k
      → AllBefore xs ys
  kinds_before j k xs ys first second less f g left right = let a = first f left in let b = second g right in by_kind f g (omega arith)

  abbrev OfKindFrom : ℕ → List Fact → Type 0
  OfKindFrom k facts = (f : Fact) → Contains facts f → k ≤ kind_place f

  from_kind : (k : ℕ) (xs ys : List Fact) → OfKind k xs → OfKindFrom (k + 1) ys → OfKindFrom k (xs ++ ys)
  from_kind k xs ys first second f there =
      elim (Contains-append_cases xs ys f there) [
        | inl left ↦ let a = first f left in omega arith
        | inr right ↦ let b = second f right in omega arith
      ]

  next_kind : (k : ℕ) (xs ys : List Fact) → OfKind k xs → OfKindFrom (k + 1) ys → Ascends xs → Ascends ys
      → Ascends (xs ++ ys)
  next_kind k xs ys first second up more = ascends-append xs ys up more (kinds_before k (k + 1) xs ys first second (omega arith))

  loops_kind : OfKind 0 (below (loop_lines o found) (length o.scopes))
  loops_kind = below_kind 0 (loop_lines o found) (length o.scopes) kinds
    where
      kinds : (s : ℕ) → OfKind 0 (loop_lines o found s)
      kinds s f there = let m = loop_of s f there in ap kind_place (sym m.is)

  counts_kind : OfKind 1 (below (count_lines o found) (length o.scopes))
  counts_kind = below_kind 1 (count_lines o found) (length o.scopes) (λ s. below_kind 1 (count_line o found s) (length o.nodes) (λ n. kinds s n))
    where
      kinds : (s n : ℕ) → OfKind 1 (count_line o found s n)
      kinds s n f there = let m = count_of s n f there in ap kind_place (sym m.is)

  deads_kind : OfKind 2 (below (dead_lines found) (length o.nodes))
  deads_kind = below_kind 2 (dead_lines found) (length o.nodes) kinds
    where
      kinds : (n : ℕ) → OfKind 2 (dead_lines found n)
      kinds n f there = ap kind_place (sym (dead_of n f there))

  totals_kind : OfKind 3 (below (total_lines found) (length o.nodes))
  totals_kind = below_kind 3 (total_lines found) (length o.nodes) kinds
    where
      kinds : (n : ℕ) → OfKind 3 (total_lines found n)
      kinds n f there = let m = total_of n f there in ap kind_place (sym m.is)

  pairs_kind : OfKind 4 (below (pair_lines o found) (length o.scopes))
  pairs_kind = below_kind 4 (pair_lines o found) (length o.scopes) (λ s. below_kind 4 (pairs_with o found s) (length o.nodes) (λ a. kinds s a))
    where
      kinds : (s a : ℕ) → OfKind 4 (pairs_with o found s a)
      kinds s a f there = let m = pair_with s a f there in ap kind_place (sym m.1)

  alarms_kind : OfKindFrom 5 (below (alarm_lines found) (length o.nodes))
  alarms_kind f there =
      let m = from_below (alarm_lines found) (length o.nodes) f there in
      let g = alarm_among (alarm_at found.alarms m.0) m.0 all_faults f m.2 in
      let kind : kind_place f ≡ 5 = ap kind_place (sym g.2) in
      omega arith

  told_ascends : Ascends (told_facts o found)
  told_ascends =
      let alarms = below (alarm_lines found) (length o.nodes) in
      let pairs = below (pair_lines o found) (length o.scopes) in
      let totals = below (total_lines found) (length o.nodes) in
      let deads = below (dead_lines found) (length o.nodes) in
      let counts = below (count_lines o found) (length o.scopes) in
      let loops = below (loop_lines o found) (length o.scopes) in
      let from_4 = from_kind 4 pairs alarms pairs_kind alarms_kind in
      let from_3 = from_kind 3 totals (pairs ++ alarms) totals_kind from_4 in
      let from_2 = from_kind 2 deads (totals ++ (pairs ++ alarms)) deads_kind from_3 in
      let from_1 = from_kind 1 counts (deads ++ (totals ++ (pairs ++ alarms))) counts_kind from_2 in
      next_kind 0 loops (counts ++ (deads ++ (totals ++ (pairs ++ alarms)))) loops_kind from_1 loops_ascend
      (next_kind 1 counts (deads ++ (totals ++ (pairs ++ alarms))) counts_kind from_2 counts_ascend
      (next_kind 2 deads (totals ++ (pairs ++ alarms)) deads_kind from_3 deads_ascend
      (next_kind 3 totals (pairs ++ alarms) totals_kind from_4 totals_ascend
      (next_kind 4 pairs alarms pairs_kind alarms_kind pairs_ascend alarms_ascend))))

  -- each fact stands before those after it
  pub told_ascend : AllPairs IsBefore (told_facts o found)
  told_ascend = all_pairs (told_facts o found) told_ascends
