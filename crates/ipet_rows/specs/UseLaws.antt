-- What a run uses of the columns, weighed: the sum over the columns of weight times uses is the sum of the weights of
-- what is used.
--   weigh f steps          the sum of the weights
--   weighted f u cs        the sum over the columns of weight times value
--   AreApart cs            no column stands twice
--   same_is, is_itself     the test of two columns is right
--   all_uses               the two sums are one
--   row_value              a row's terms at the uses have this value
use Rattle.std.proofs.Common.{◌≡◌, ◌+◌, ◌==◌, ◌&&◌, ℕ, suc, ℤ, pos, Bool, true, false, List, [], ◌∷◌, cond, map, Contains, refl, ap, sym, ◌∙◌, subst, arith}
use Rattle.std.specs.Prelude.{◌+ℤ◌, ◌*ℤ◌, int_le}
use Rattle.std.proofs.lemmas.Bool.{eqb-true, eq-eqb, and_parts, false_from_ne_true}
use Rattle.std.proofs.lemmas.Int.{ints}
use Rattle.std.proofs.lemmas.List.Sums.{sum_by-cons}
use Rattle.lists.specs.MemberLaws.{no_member, first_member, further_member, first_or_further}
use Rattle.lists.specs.TestLaws.{by_test}
use Rattle.whole_numbers.specs.MultipleLaws.{sum_times}
use Rattle.ipet_rows.specs.Sums.{value_at}
use Rattle.ipet_rows.specs.Columns.{Column}
use Rattle.ipet_rows.specs.Rows.{vanishes, terms_from}
use Rattle.ipet_rows.specs.Uses.{agree, is_same, uses, number_at, column_counts}

-- the sum of the weights
abbrev pub weigh : (Column → ℤ) → List Column → ℤ
weigh f [] = pos 0
weigh f (c ∷ cs) = f c +ℤ weigh f cs

-- the sum over the columns of weight times value
abbrev pub weighted : (Column → ℤ) → (Column → ℤ) → List Column → ℤ
weighted f u [] = pos 0
weighted f u (c ∷ cs) = (f c *ℤ u c) +ℤ weighted f u cs

-- no column stands twice
abbrev pub AreApart : List Column → Type 0
AreApart [] = Unit {0}
AreApart (c ∷ cs) = (Contains cs c → ⊥) × AreApart cs

-- ---- the test of two columns

agree_is : (a b : Bool) → agree a b ≡ true → a ≡ b
agree_is true b e = sym e
agree_is false true e = absurd (let bad : false ≡ true = e in cc)
agree_is false false e = refl

agree_itself : (a : Bool) → agree a a ≡ true
agree_itself true = refl
agree_itself false = refl

pub same_is : (c d : Column) → is_same c d ≡ true → c ≡ d
same_is c d e =
    let outer = and_parts (c.from == d.from) ((c.into == d.into) && agree c.fault d.fault) e in
    let inner = and_parts (c.into == d.into) (agree c.fault d.fault) outer.1 in
    let from : c.from ≡ d.from = eqb-true c.from d.from outer.0 in
    let into : c.into ≡ d.into = eqb-true c.into d.into inner.0 in
    let fault : c.fault ≡ d.fault = agree_is c.fault d.fault inner.1 in
    let made : ℕ → ℕ → Bool → Column = λ a b f. record { from = a; into = b; fault = f } in
    ap (λ (a : ℕ). made a c.into c.fault) from ∙ ap (λ (b : ℕ). made d.from b c.fault) into ∙ ap (λ (f : Bool). made d.from d.into f) fault

pub is_itself : (c : Column) → is_same c c ≡ true
is_itself c = rw (eq-eqb c.from c.from refl, eq-eqb c.into c.into refl, agree_itself c.fault) refl

-- ---- sums over the columns

weighted_none : (f : Column → ℤ) (cs : List Column) → weighted f (λ c. pos 0) cs ≡ pos 0
weighted_none f [] = refl
weighted_none f (c ∷ cs) = omega (arith, ints, weighted_none f cs)

weighted_more : (f u v : Column → ℤ) (cs : List Column)
    → weighted f (λ c. u c +ℤ v c) cs ≡ weighted f u cs +ℤ weighted f v cs
weighted_more f u v [] = refl
weighted_more f u v (c ∷ cs) =
    let here : f c *ℤ (u c +ℤ v c) ≡ (f c *ℤ u c) +ℤ (f c *ℤ v c) = omega (arith, ints, sum_times (u c) (v c) (f c)) in
    omega (arith, ints, weighted_more f u v cs, here)

pub weighted_same : (f u v : Column → ℤ) (cs : List Column) → ((c : Column) → Contains cs c → u c ≡ v c)
    → weighted f u cs ≡ weighted f v cs
weighted_same f u v [] same = refl
weighted_same f u v (c ∷ cs) same =
    let here : u c ≡ v c = same c (first_member c cs) in
    let later = weighted_same f u v cs (λ d there. same d (further_member c cs d there)) in
    rw here (ap (λ (z : ℤ). (f c *ℤ v c) +ℤ z) later)

-- 1 at one column, and 0 at the others
abbrev is_one : Column → Column → ℤ
is_one s c = pos (cond (is_same c s) 1 0)

weighted_absent : (f : Column → ℤ) (s : Column) (cs : List Column) → (Contains cs s → ⊥)
    → weighted f (λ c. is_one s c) cs ≡ pos 0
weighted_absent f s [] absent = refl
weighted_absent f s (c ∷ cs) absent =
    let other : is_same c s ≡ false = false_from_ne_true (is_same c s) (λ is. absent (subst (λ (d : Column). Contains (c ∷ cs) d) (same_is c s is) (first_member c cs))) in
    let later = weighted_absent f s cs (λ there. absent (further_member c cs s there)) in
    rw other (omega (arith, ints, later))

weighted_one : (f : Column → ℤ) (s : Column) (cs : List Column) → AreApart cs → Contains cs s
    → weighted f (λ c. is_one s c) cs ≡ f s
weighted_one f s [] apart there = no_member s there
weighted_one f s (c ∷ cs) apart there = by_test (is_same c s)
    (λ is.
    let e : c ≡ s = same_is c s is in
    let none = weighted_absent f s cs (subst (λ (d : Column). Contains cs d → ⊥) e apart.0) in
    rw is (subst (λ (d : Column). (f c *ℤ pos 1) +ℤ weighted f (λ k. is_one s k) cs ≡ f d) e (omega (arith, ints, none))))
    (λ other.
    let later = weighted_one f s cs apart.1 (first_or_further c cs s there (λ e. absurd (clash c s e other)) (λ rest. rest)) in
    rw other (omega (arith, ints, later)))
  where
    clash : (c s : Column) → c ≡ s → is_same c s ≡ false → ⊥
    clash c s e other = let bad : true ≡ false = sym (subst (λ (d : Column). is_same c d ≡ true) e (is_itself c)) ∙ other in cc

-- the sum over the columns of weight times uses is the sum of the weights of what is used
pub all_uses : (f : Column → ℤ) (cs steps : List Column) → AreApart cs
    → ((s : Column) → Contains steps s → Contains cs s) → weighted f (λ c. pos (uses c steps)) cs ≡ weigh f steps
all_uses f cs [] apart within = weighted_none f cs
all_uses f cs (s ∷ steps) apart within =
    let one = weighted_one f s cs apart (within s (first_member s steps)) in
    let rest = all_uses f cs steps apart (λ d there. within d (further_member s steps d there)) in
    weighted_same f (λ c. pos (uses c (s ∷ steps))) (λ c. is_one s c +ℤ pos (uses c steps)) cs (λ c there. more c)
    ∙ weighted_more f (λ c. is_one s c) (λ c. pos (uses c steps)) cs
    ∙ ap (λ (z : ℤ). z +ℤ weighted f (λ c. pos (uses c steps)) cs) one
    ∙ ap (λ (z : ℤ). f s +ℤ z) rest
  where
    more : (c : Column) → pos (uses c (s ∷ steps)) ≡ is_one s c +ℤ pos (uses c steps)
    more c = ap pos (sum_by-cons (λ d. cond (is_same c d) 1 0) s steps) ∙ apart_sum (cond (is_same c s) 1 0) (uses c steps)
      where
        apart_sum : (a b : ℕ) → pos (a + b) ≡ pos a +ℤ pos b
        apart_sum a b = omega (arith, ints)

-- ---- rows

-- the values from place e on are those of the columns
abbrev ReadsFrom : (ℕ → ℤ) → ℕ → (Column → ℤ) → List Column → Type 0
ReadsFrom x e u [] = Unit {0}
ReadsFrom x e u (c ∷ cs) = (x e ≡ u c) × ReadsFrom x (e + 1) u cs

pub vanish_is : (z : ℤ) → vanishes z ≡ true → z ≡ pos 0
vanish_is z e = let both = and_parts (int_le z (pos 0)) (int_le (pos 0) z) e in omega (arith, ints, both.0, both.1)

terms_value : (f u : Column → ℤ) (x : ℕ → ℤ) (e : ℕ) (cs : List Column) → ReadsFrom x e u cs
    → value_at (terms_from f e cs) x ≡ weighted f u cs
terms_value f u x e [] reads = refl
terms_value f u x e (c ∷ cs) reads = by_test (vanishes (f c))
    (λ none.
    let zero_here : f c ≡ pos 0 = vanish_is (f c) none in
    let later = terms_value f u x (e + 1) cs reads.1 in
    let here : f c *ℤ u c ≡ pos 0 = rw zero_here (omega (arith, ints)) in
    rw none (omega (arith, ints, later, here)))
    (λ some.
    let later = terms_value f u x (e + 1) cs reads.1 in
    let here = reads.0 in
    rw some (rw here (ap (λ (z : ℤ). (f c *ℤ u c) +ℤ z) later)))

reads_along : (x y : ℕ → ℤ) (e : ℕ) (steps cs : List Column)
    → ((k : ℕ) → x (e + k) ≡ pos (number_at (map (λ c. uses c steps) cs) k))
    → ReadsFrom x e (λ c. pos (uses c steps)) cs
reads_along x y e steps [] same = tt
reads_along x y e steps (c ∷ cs) same = (
  subst (λ (k : ℕ). x k ≡ pos (uses c steps)) (omega arith) (same 0),
  reads_along x y (e + 1) steps cs (λ k. subst (λ (j : ℕ). x j ≡ pos (number_at (map (λ c. uses c steps) cs) k)) (omega arith) (same (suc k))),
)

-- a row's terms at the uses have the sum of the weights of what is used as their value
pub row_value : (f : Column → ℤ) (cs steps : List Column) → AreApart cs
    → ((s : Column) → Contains steps s → Contains cs s)
    → value_at (terms_from f 0 cs) (column_counts cs steps) ≡ weigh f steps
row_value f cs steps apart within =
    terms_value f (λ c. pos (uses c steps)) (column_counts cs steps) 0 cs (reads_along (column_counts cs steps) (column_counts cs steps) 0 steps cs (λ k. ap (λ (j : ℕ). column_counts cs steps j) (omega arith)))
    ∙ all_uses f cs steps apart within
