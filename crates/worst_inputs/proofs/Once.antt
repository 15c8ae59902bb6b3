-- A search has one answer.
use Rattle.std.proofs.Common.{◌≡◌, ◌≢◌, ◌≤◌, ◌<◌, ℕ, Bool, true, false, List, [], ◌∷◌, ◌++◌, All, Ok, Err, inl, inr, refl, sym, ap, subst, ◌∙◌, arith}
use Rattle.std.specs.Prelude.{ℤ, pos, ◌+ℤ◌}
use Rattle.std.proofs.lemmas.Bool.{cases_lt}
use Rattle.std.proofs.lemmas.Int.{ints}
use Rattle.std.proofs.lemmas.List.Elements.{All-head, All-tail, All-contains}
use Rattle.worst_inputs.specs.declared.area.Range.{Range}
use Rattle.worst_inputs.specs.declared.bounder.Bounded.{Bounded}
use Rattle.worst_inputs.specs.declared.bounder.Bounded.TheVariants.{At, Left}
use Rattle.worst_inputs.specs.Most.{most_by, IsFirstMost}
use Rattle.worst_inputs.specs.Areas.{Area, width_of, IsRange, IsMiddle}
use Rattle.worst_inputs.specs.Bounders.{Bounding, IsBounding}
use Rattle.worst_inputs.specs.Boxes.{Box, bound_of, HasPointAtTop, Halves, lower_of, upper_of, Cut, IsSplit, IsStopped, Splits, begins, goes_on}
use Rattle.worst_inputs.specs.Searches.{Searched, IsSearched, IsLeftIn, at_first, at_half}
use Rattle.worst_inputs.specs.Promises.{HasOneAnswer}
use Rattle.worst_inputs.proofs.Halving.{lower_part, upper_part}
use Rattle.worst_inputs.proofs.Splitting.{IsBoxOf, cut_among, cut_more, box_suits, box_ranges, all_boxes}

-- ---- one first of the greatest

pub record AreSame {A : Type 0} (front other : List A) (x y : A) (rest another : List A) : Type 0 where
  pub fronts : front ≡ other
  pub it : x ≡ y
  pub rests : rest ≡ another

module _ {A : Type 0} (f : A → ℕ) (most : ℕ) where
  parted_once : (front other : List A) (x y : A) (rest another : List A) → front ++ x ∷ rest ≡ other ++ y ∷ another
      → f x ≡ most → f y ≡ most
      → All (λ z. f z ≢ most) front → All (λ z. f z ≢ most) other → AreSame front other x y rest another
  parted_once [] [] x y rest another e fx fy h k = record { fronts = refl; it = cc; rests = cc }
  parted_once [] (z ∷ other) x y rest another e fx fy h k = let same : x ≡ z = cc in absurd (All-head (λ z. f z ≢ most) z other k (ap f (sym same) ∙ fx))
  parted_once (z ∷ front) [] x y rest another e fx fy h k = let same : z ≡ y = cc in absurd (All-head (λ z. f z ≢ most) z front h (ap f same ∙ fy))
  parted_once (z ∷ front) (w ∷ other) x y rest another e fx fy h k =
      let first : z ≡ w = cc in
      let tails : front ++ x ∷ rest ≡ other ++ y ∷ another = cc in
      let more = parted_once front other x y rest another tails fx fy (All-tail (λ z. f z ≢ most) z front h) (All-tail (λ z. f z ≢ most) w other k) in
      record { fronts = ap (λ (v : A). v ∷ front) first ∙ ap (λ (vs : List A). w ∷ vs) more.fronts; it = more.it; rests = more.rests }

pub first_once : {A : Type 0} (f : A → ℕ) (xs ys front other : List A) (x y : A) (rest another : List A) → xs ≡ ys
    → IsFirstMost f xs front x rest → IsFirstMost f ys other y another → AreSame front other x y rest another
first_once f xs ys front other x y rest another same h k =
    parted_once f (most_by f xs) front other x y rest another (sym h.is ∙ same ∙ k.is) h.most (k.most ∙ ap (most_by f) (sym same)) h.first
    (subst (λ (m : ℕ). All (λ z. f z ≢ m) other) (ap (most_by f) (sym same)) k.first)

middle_once : (range other : Range) (m n : ℤ) → range ≡ other → IsMiddle range m → IsMiddle other n → m ≡ n
middle_once range other m n same h k = let moved : IsMiddle range n = subst (λ (r : Range). IsMiddle r n) (sym same) k in omega (arith, ints)

-- ---- one way to halve an area, and one to cut boxes

module _ (area other : Area) (same : area ≡ other) (h : Halves area) (k : Halves other) where
  parts : AreSame h.before k.before h.range k.range h.after k.after
  parts = first_once width_of area other h.before k.before h.range k.range h.after k.after same h.widest k.widest

  middles : h.middle ≡ k.middle
  middles = middle_once h.range k.range h.middle k.middle parts.it h.half k.half

  pub one_lower : lower_of h ≡ lower_of k
  one_lower = ap (λ (a : Area). a ++ record { low = h.range.low; high = h.middle } ∷ h.after) parts.fronts
      ∙ ap (λ (r : Range). k.before ++ record { low = r.low; high = h.middle } ∷ h.after) parts.it
      ∙ ap (λ (m : ℤ). k.before ++ record { low = k.range.low; high = m } ∷ h.after) middles
      ∙ ap (λ (a : Area). k.before ++ record { low = k.range.low; high = k.middle } ∷ a) parts.rests

  pub one_upper : upper_of h ≡ upper_of k
  one_upper = ap (λ (a : Area). a ++ record { low = h.middle +ℤ pos 1; high = h.range.high } ∷ h.after) parts.fronts
      ∙ ap (λ (r : Range). k.before ++ record { low = h.middle +ℤ pos 1; high = r.high } ∷ h.after) parts.it
      ∙ ap (λ (m : ℤ). k.before ++ record { low = m +ℤ pos 1; high = k.range.high } ∷ h.after) middles
      ∙ ap (λ (a : Area). k.before ++ record { low = k.middle +ℤ pos 1; high = k.range.high } ∷ a) parts.rests

module _ (boxes : List Box) (h k : Cut boxes) where
  pub cuts : AreSame h.front k.front h.box k.box h.rest k.rest
  cuts = first_once bound_of boxes boxes h.front k.front h.box k.box h.rest k.rest refl h.worst k.worst

  pub cut_lower : lower_of h.halves ≡ lower_of k.halves
  cut_lower = one_lower h.box.area k.box.area (ap (λ (box : Box). box.area) cuts.it) h.halves k.halves

  pub cut_upper : upper_of h.halves ≡ upper_of k.halves
  cut_upper = one_upper h.box.area k.box.area (ap (λ (box : Box). box.area) cuts.it) h.halves k.halves

-- ---- one step

at_is : (bound other : ℕ) → At bound ≡ At other → bound ≡ other
at_is bound other e = cc

left_is : (scope other : ℕ) → Left scope ≡ Left other → scope ≡ other
left_is scope other e = cc

at_not : (bound scope : ℕ) → At bound ≡ Left scope → ⊥
at_not bound scope e = cc

module _ (b : Bounding) (laws : IsBounding b) (ranges : Area) (suits : b.suits ranges) (are : All IsRange ranges) where
  module _ (boxes : List Box) (all : All (IsBoxOf b ranges) boxes) (more : HasPointAtTop boxes → ⊥) where
    cut_is : (cut : Cut boxes) → IsBoxOf b ranges cut.box
    cut_is cut = All-contains (IsBoxOf b ranges) boxes cut.box all (cut_among boxes cut)

    low_suits : (cut : Cut boxes) → b.suits (lower_of cut.halves)
    low_suits cut = laws.part_suits cut.box.area (lower_of cut.halves) (box_suits b laws ranges suits are cut.box (cut_is cut))
        (lower_part cut.box.area cut.halves (box_ranges b laws ranges suits are cut.box (cut_is cut)) (cut_more boxes cut more))

    high_suits : (cut : Cut boxes) → b.suits (upper_of cut.halves)
    high_suits cut = laws.part_suits cut.box.area (upper_of cut.halves) (box_suits b laws ranges suits are cut.box (cut_is cut))
        (upper_part cut.box.area cut.halves (box_ranges b laws ranges suits are cut.box (cut_is cut)) (cut_more boxes cut more))

    -- one answer for each half, whichever cut names it
    low_answer : (h k : Cut boxes) (first second : Bounded) → b.answers (lower_of h.halves) first
        → b.answers (lower_of k.halves) second → first ≡ second
    low_answer h k first second at other = laws.one_answer (lower_of k.halves) first second (low_suits k) (subst (λ (a : Area). b.answers a first) (cut_lower boxes h k) at) other

    high_answer : (h k : Cut boxes) (first second : Bounded) → b.answers (upper_of h.halves) first
        → b.answers (upper_of k.halves) second → first ≡ second
    high_answer h k first second at other = laws.one_answer (upper_of k.halves) first second (high_suits k) (subst (λ (a : Area). b.answers a first) (cut_upper boxes h k) at) other

    pub one_next : (next other : List Box) → IsSplit b.answers boxes next → IsSplit b.answers boxes other → next ≡ other
    one_next next other h k =
        let same = cuts boxes h.cut k.cut in
        let low : h.lower ≡ k.lower = at_is h.lower k.lower (low_answer h.cut k.cut (At h.lower) (At k.lower) h.lower_is k.lower_is) in
        let high : h.upper ≡ k.upper = at_is h.upper k.upper (high_answer h.cut k.cut (At h.upper) (At k.upper) h.upper_is k.upper_is) in
        h.next_is
        ∙ ap (λ (bs : List Box). bs ++ record { area = lower_of h.cut.halves; bound = h.lower } ∷ record { area = upper_of h.cut.halves; bound = h.upper } ∷ h.cut.rest) same.fronts
        ∙ ap (λ (a : Area). k.cut.front ++ record { area = a; bound = h.lower } ∷ record { area = upper_of h.cut.halves; bound = h.upper } ∷ h.cut.rest) (cut_lower boxes h.cut k.cut)
        ∙ ap (λ (v : ℕ). k.cut.front ++ record { area = lower_of k.cut.halves; bound = v } ∷ record { area = upper_of h.cut.halves; bound = h.upper } ∷ h.cut.rest) low
        ∙ ap (λ (a : Area). k.cut.front ++ record { area = lower_of k.cut.halves; bound = k.lower } ∷ record { area = a; bound = h.upper } ∷ h.cut.rest) (cut_upper boxes h.cut k.cut)
        ∙ ap (λ (v : ℕ). k.cut.front ++ record { area = lower_of k.cut.halves; bound = k.lower } ∷ record { area = upper_of k.cut.halves; bound = v } ∷ h.cut.rest) high
        ∙ ap (λ (bs : List Box). k.cut.front ++ record { area = lower_of k.cut.halves; bound = k.lower } ∷ record { area = upper_of k.cut.halves; bound = k.upper } ∷ bs) same.rests
        ∙ sym k.next_is

    pub never_both : (next : List Box) (scope : ℕ) → IsSplit b.answers boxes next → IsStopped b.answers boxes scope → ⊥
    never_both next scope h k = elim k.left [
      | inl low ↦ at_not h.lower scope (low_answer h.cut k.cut (At h.lower) (Left scope) h.lower_is low)
      | inr high ↦ at_not h.upper scope (high_answer h.cut k.cut (At h.upper) (Left scope) h.upper_is high.2)
    ]

    pub one_scope : (scope other : ℕ) → IsStopped b.answers boxes scope → IsStopped b.answers boxes other
        → scope ≡ other
    one_scope scope other h k = elim h.left [
      | inl low ↦ elim k.left [
        | inl too ↦ left_is scope other (low_answer h.cut k.cut (Left scope) (Left other) low too)
        | inr high ↦ absurd (at_not high.0 scope (sym (low_answer h.cut k.cut (Left scope) (At high.0) low high.1)))
      ]
      | inr high ↦ elim k.left [
        | inl low ↦ absurd (at_not high.0 other (low_answer h.cut k.cut (At high.0) (Left other) high.1 low))
        | inr too ↦ left_is scope other (high_answer h.cut k.cut (Left scope) (Left other) high.2 too.2)
      ]
    ]

  -- ---- one list after so many splits

  pub one_list : (n : ℕ) (boxes other : List Box) → Splits b.answers ranges n boxes → Splits b.answers ranges n other
      → boxes ≡ other
  one_list n boxes other (begins bound is) (begins bound' is') = ap (λ (v : ℕ). record { area = ranges; bound = v } ∷ []) (at_is bound bound' (laws.one_answer ranges (At bound) (At bound') suits is is'))
  one_list n next another (goes_on k boxes next' before more split) (goes_on k' other another' before' more' split') =
      let same : boxes ≡ other = one_list k boxes other before before' in
      one_next other (all_boxes b laws ranges suits are k other before') more' next another (subst (λ (bs : List Box). IsSplit b.answers bs next) same split) split'

  -- the first box has a bound
  pub first_bound : (n : ℕ) (boxes : List Box) → Splits b.answers ranges n boxes
      → (bound : ℕ) × b.answers ranges (At bound)
  first_bound n boxes (begins bound is) = (bound, is)
  first_bound n next (goes_on k boxes next' before more split) = first_bound k boxes before

  -- what was split on the way
  pub record IsPassed (n : ℕ) : Type 0 where
    pub boxes : List Box
    pub splits : Splits b.answers ranges n boxes
    pub more : HasPointAtTop boxes → ⊥
    pub next : List Box
    pub split : IsSplit b.answers boxes next

  pub passed : (n m : ℕ) (boxes : List Box) → Splits b.answers ranges m boxes → n < m → IsPassed n
  passed n m boxes (begins bound is) low = absurd (omega arith)
  passed n m next (goes_on k boxes next' before more split) low = elim (cases_lt n k) [
    | inl less ↦ passed n k boxes before less
    | inr over ↦
        let same : k ≡ n = omega arith in
        record { boxes = boxes; splits = subst (λ (i : ℕ). Splits b.answers ranges i boxes) same before; more = more; next = next; split = split }
  ]

  module _ (splits : ℕ) where
    -- a search has not ended where the boxes were split further
    never_earlier : (found : Searched) (h : IsSearched b.answers ranges splits found) (other : ℕ) → other ≤ splits
        → h.made < other → IsPassed h.made → ⊥
    never_earlier found h other within less way =
        let same : found.boxes ≡ way.boxes = one_list h.made found.boxes way.boxes h.boxes way.splits in
        elim h.ends [
          | inl top ↦ way.more (subst (λ (bs : List Box). HasPointAtTop bs) same top)
          | inr all ↦ absurd (omega arith)
        ]

    same_bool : (v w : Bool) → (v ≡ true → w ≡ true) → (w ≡ true → v ≡ true) → v ≡ w
    same_bool true true h k = refl
    same_bool true false h k = sym (h refl)
    same_bool false true h k = k refl
    same_bool false false h k = refl

    same_found : (first second : Searched) → first.boxes ≡ second.boxes → first.exact ≡ second.exact → first ≡ second
    same_found first second e x = ap (λ (bs : List Box). record { boxes = bs; exact = first.exact }) e ∙ ap (λ (v : Bool). record { boxes = second.boxes; exact = v }) x

    one_found : (first second : Searched) → IsSearched b.answers ranges splits first
        → IsSearched b.answers ranges splits second → first ≡ second
    one_found first second h k = elim (cases_lt h.made k.made) [
      | inl less ↦ absurd (never_earlier first h k.made k.within less (passed h.made k.made second.boxes k.boxes less))
      | inr over ↦ elim (cases_lt k.made h.made) [
        | inl less ↦ absurd (never_earlier second k h.made h.within less (passed k.made h.made first.boxes h.boxes less))
        | inr under ↦
            let made : h.made ≡ k.made = omega arith in
            let same : first.boxes ≡ second.boxes = one_list k.made first.boxes second.boxes (subst (λ (n : ℕ). Splits b.answers ranges n first.boxes) made h.boxes) k.boxes in
            same_found first second same (same_bool first.exact second.exact
            (λ t. k.exact.1 (subst (λ (bs : List Box). HasPointAtTop bs) same (h.exact.0 t)))
            (λ t. h.exact.1 (subst (λ (bs : List Box). HasPointAtTop bs) (sym same) (k.exact.0 t))))
      ]
    ]

    found_or_left : (found : Searched) (scope : ℕ) → IsSearched b.answers ranges splits found
        → IsLeftIn b.answers ranges splits scope → ⊥
    found_or_left found scope h (at_first left) =
        let first = first_bound h.made found.boxes h.boxes in
        at_not first.0 scope (laws.one_answer ranges (At first.0) (Left scope) suits first.1 left)
    found_or_left found scope h (at_half n boxes low before more stopped) = elim (cases_lt n h.made) [
      | inl less ↦
          let way = passed n h.made found.boxes h.boxes less in
          let same : way.boxes ≡ boxes = one_list n way.boxes boxes way.splits before in
          never_both boxes (all_boxes b laws ranges suits are n boxes before) more way.next scope (subst (λ (bs : List Box). IsSplit b.answers bs way.next) same way.split) stopped
      | inr over ↦ elim (cases_lt h.made n) [
        | inl less ↦ never_earlier found h n (omega arith) less (passed h.made n boxes before less)
        | inr under ↦
            let made : h.made ≡ n = omega arith in
            let same : found.boxes ≡ boxes = one_list n found.boxes boxes (subst (λ (i : ℕ). Splits b.answers ranges i found.boxes) made h.boxes) before in
            elim h.ends [ inl top ↦ more (subst (λ (bs : List Box). HasPointAtTop bs) same top) | inr all ↦ absurd (omega arith) ]
      ]
    ]

    one_left : (scope other : ℕ) → IsLeftIn b.answers ranges splits scope → IsLeftIn b.answers ranges splits other
        → scope ≡ other
    one_left scope other (at_first left) (at_first too) = left_is scope other (laws.one_answer ranges (Left scope) (Left other) suits left too)
    one_left scope other (at_first left) (at_half n boxes low before more stopped) =
        let first = first_bound n boxes before in absurd (at_not first.0 scope (laws.one_answer ranges (At first.0) (Left scope) suits first.1 left))
    one_left scope other (at_half n boxes low before more stopped) (at_first left) =
        let first = first_bound n boxes before in absurd (at_not first.0 other (laws.one_answer ranges (At first.0) (Left other) suits first.1 left))
    one_left scope other (at_half n boxes low before more stopped) (at_half m others low' before' more' stopped') = elim (cases_lt n m) [
      | inl less ↦
          let way = passed n m others before' less in
          let same : way.boxes ≡ boxes = one_list n way.boxes boxes way.splits before in
          absurd (never_both boxes (all_boxes b laws ranges suits are n boxes before) more way.next scope (subst (λ (bs : List Box). IsSplit b.answers bs way.next) same way.split) stopped)
      | inr over ↦ elim (cases_lt m n) [
        | inl less ↦
            let way = passed m n boxes before less in
            let same : way.boxes ≡ others = one_list m way.boxes others way.splits before' in
            absurd (never_both others (all_boxes b laws ranges suits are m others before') more' way.next other (subst (λ (bs : List Box). IsSplit b.answers bs way.next) same way.split) stopped')
        | inr under ↦
            let made : n ≡ m = omega arith in
            let same : boxes ≡ others = one_list m boxes others (subst (λ (i : ℕ). Splits b.answers ranges i boxes) made before) before' in
            one_scope others (all_boxes b laws ranges suits are m others before') more' scope other (subst (λ (bs : List Box). IsStopped b.answers bs scope) same stopped) stopped'
      ]
    ]

-- a search has one answer
pub one_answer : (b : Bounding) → IsBounding b → HasOneAnswer b
one_answer b laws ranges splits (Ok first) (Ok second) suits are h k = ap Ok (one_found b laws ranges suits are splits first second h k)
one_answer b laws ranges splits (Ok found) (Err scope) suits are h k = absurd (found_or_left b laws ranges suits are splits found scope h k)
one_answer b laws ranges splits (Err scope) (Ok found) suits are h k = absurd (found_or_left b laws ranges suits are splits found scope k h)
one_answer b laws ranges splits (Err scope) (Err other) suits are h k = ap Err (one_left b laws ranges suits are splits scope other h k)
