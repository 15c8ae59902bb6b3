-- A row's terms, found by the columns that touch its nodes.
--   IsSought g end b xs ys zs terms   up to b the terms are made, and from b on only the listed places have one
--   sought_first, sought_next, sought_all   the walk's beginning, a step, and its end
use Rattle.std.proofs.Common.{inl, inr, ◌≡◌, ◌<◌, ◌≤◌, ◌+◌, ◌==◌, ℕ, zero, suc, ℤ, pos, Bool, true, false, List, [], ◌∷◌, ◌++◌, get_or, length, refl, ap, sym, ◌∙◌, subst, arith, add-one}
use Rattle.std.specs.Prelude.{◌||◌, nat_lt}
use Rattle.std.proofs.lemmas.Int.{ints}
use Rattle.std.proofs.lemmas.List.{append-nil, append_assoc}
use Rattle.std.proofs.lemmas.Bool.{eq-eqb, ne_eqb, cases_eq, ltb-true, ltb-false}
use Rattle.lists.specs.TestLaws.{by_test}
use Rattle.domain_core.specs.Outlines.{Shape}
use Rattle.ipet_rows.specs.Columns.{Column}
use Rattle.ipet_rows.specs.Rows.{vanishes, terms_from}
use Rattle.ipet_rows.specs.PathSparseLaws.{weight_at}
use Rattle.dual_check.specs.declared.constraint.Constraint.{Constraint}
use Rattle.dual_check.specs.declared.constraint.Constraint.TheVariants.{Flow, Most, Least, Limit, Demand, Apart}
use Rattle.dual_check.specs.Constraints.{weighing_of, node_of, second_node_of, third_node_of}
use Rattle.dual_check.specs.Terms.{term_if, AreFrom}
use Rattle.dual_check.specs.Places.{least_of, past_of, has, IsRising, touches, touching_of, AreTouching, terms_upto}

-- up to b the terms are made, and from b on only the listed places have one
pub record IsSought (g : ℕ → ℤ) (end b : ℕ) (xs ys zs : List ℕ) (terms : List (ℕ × ℤ)) : Type 0 where
  pub low : b ≤ end
  pub made : terms ≡ terms_upto g b
  pub first : IsRising b xs
  pub second : IsRising b ys
  pub third : IsRising b zs
  pub others : (j : ℕ) → b ≤ j → has xs j ≡ false → has ys j ≡ false → has zs j ≡ false → g j ≡ pos 0

-- ---- the next place

least_low : (xs : List ℕ) (m : ℕ) → least_of xs m ≤ m
least_low [] m = omega arith
least_low (x ∷ xs) m = by_test (nat_lt x m) (λ is. let less = ltb-true x m is in rw is (omega (arith, less))) (λ clear. rw clear (omega arith))

least_first : (x : ℕ) (xs : List ℕ) (m : ℕ) → least_of (x ∷ xs) m ≤ x
least_first x xs m = by_test (nat_lt x m) (λ is. rw is (omega arith)) (λ clear. let more = ltb-false x m clear in rw clear (omega (arith, more)))

least_above : (b : ℕ) (xs : List ℕ) (m : ℕ) → IsRising b xs → b ≤ m → b ≤ least_of xs m
least_above b [] m rises low = low
least_above b (x ∷ xs) m rises low = by_test (nat_lt x m) (λ is. rw is rises.0) (λ clear. rw clear low)

-- numbers that are at least so much rise from there
from_later : (b p m : ℕ) (xs : List ℕ) → IsRising b xs → p ≤ least_of xs m → IsRising p xs
from_later b p m [] rises low = tt
from_later b p m (x ∷ xs) rises low = (omega (arith, low, least_first x xs m), rises.1)

none_before : (p j : ℕ) (xs : List ℕ) → IsRising p xs → j < p → has xs j ≡ false
none_before p j [] rises less = refl
none_before p j (x ∷ xs) rises less =
    let above = rises.0 in
    rw (ne_eqb x j (λ same. omega arith), none_before (x + 1) j xs rises.1 (omega arith)) refl

past_rises : (m : ℕ) (xs : List ℕ) → IsRising m xs → IsRising (m + 1) (past_of xs m)
past_rises m [] rises = tt
past_rises m (x ∷ xs) rises =
    let above = rises.0 in
    elim (cases_eq x m) [
      | inl e ↦ rw (eq-eqb x m e) (subst (λ (k : ℕ). IsRising (k + 1) xs) e rises.1)
      | inr d ↦ rw (ne_eqb x m d) (omega arith, rises.1)
    ]

past_has : (m j : ℕ) (xs : List ℕ) → m < j → has (past_of xs m) j ≡ false → has xs j ≡ false
past_has m j [] less none = refl
past_has m j (x ∷ xs) less none = elim (cases_eq x m) [
  | inl e ↦ let rest : has xs j ≡ false = (let s : past_of (x ∷ xs) m ≡ xs = rw (eq-eqb x m e) refl in subst (λ ys. has ys j ≡ false) s none) in rw (ne_eqb x j (λ same. omega arith), rest) refl
  | inr d ↦ (let s : past_of (x ∷ xs) m ≡ x ∷ xs = rw (ne_eqb x m d) refl in subst (λ ys. has ys j ≡ false) s none)
]

-- places without a term
upto_skips : (g : ℕ → ℤ) (b m : ℕ) → b ≤ m → ((j : ℕ) → b ≤ j → j < m → g j ≡ pos 0) → terms_upto g m ≡ terms_upto g b
upto_skips g b zero low none = let same : b ≡ zero = omega arith in rw same refl
upto_skips g b (suc m) low none = elim (cases_eq b (suc m)) [
  | inl e ↦ rw e refl
  | inr d ↦
      let here : g m ≡ pos 0 = none m (omega arith) (omega arith) in
      let before = upto_skips g b m (omega arith) (λ j above below. none j above (omega arith)) in
      let nothing : term_if m (g m) ≡ [] = rw here refl in
      ap (λ ts. terms_upto g m ++ ts) nothing ∙ append-nil (terms_upto g m) ∙ before
]

-- on to the next place
advance : (g : ℕ → ℤ) (end b p : ℕ) (xs ys zs : List ℕ) (terms : List (ℕ × ℤ)) → IsSought g end b xs ys zs terms
    → p ≡ least_of xs (least_of ys (least_of zs end)) → IsSought g end p xs ys zs terms
advance g end b p xs ys zs terms s is =
    let r = least_of zs end in
    let q = least_of ys r in
    let third_low : r ≤ end = least_low zs end in
    let second_low : q ≤ r = least_low ys r in
    let first_low : p ≤ q = (let l = least_low xs q in omega (arith, l, is)) in
    let third_above : b ≤ r = least_above b zs end s.third s.low in
    let second_above : b ≤ q = least_above b ys r s.second third_above in
    let above : b ≤ p = (let l = least_above b xs q s.first second_above in omega (arith, l, is)) in
    let first : IsRising p xs = from_later b p q xs s.first (omega (arith, is)) in
    let second : IsRising p ys = from_later b p r ys s.second (omega (arith, first_low)) in
    let third : IsRising p zs = from_later b p end zs s.third (omega (arith, first_low, second_low)) in
    record {
      low = omega (arith, first_low, second_low, third_low);
      made = s.made ∙ sym (upto_skips g b p above (λ j up down. s.others j up (none_before p j xs first down) (none_before p j ys second down) (none_before p j zs third down)));
      first = first;
      second = second;
      third = third;
      others = λ j up. s.others j (omega (arith, above, up));
    }

-- ---- columns at a place

-- the column at a place: its nodes, and what it weighs
pub column_there : (n j : ℕ) (cs : List Column) (d : Column) → AreFrom n cs → j < length cs → (get_or cs j d).from < n
column_there n j [] d are low = absurd (omega arith)
column_there n zero (c ∷ cs) d are low = are.0
column_there n (suc j) (c ∷ cs) d are low = column_there n j cs d are.2 (omega arith)

weight_there : (f : Column → ℤ) (j : ℕ) (cs : List Column) (d : Column) → j < length cs
    → f (get_or cs j d) ≡ weight_at f cs j
weight_there f j [] d low = absurd (omega arith)
weight_there f zero (c ∷ cs) d low = refl
weight_there f (suc j) (c ∷ cs) d low = weight_there f j cs d (omega arith)

-- ---- the columns that touch a node

touching_rises : (n b : ℕ) (cs : List Column) → IsRising b (touching_of n b cs)
touching_rises n b [] = tt
touching_rises n b (c ∷ cs) =
    let later = touching_rises n (b + 1) cs in
    by_test (touches n c) (λ is. rw is (omega arith, later)) (λ clear. rw clear (from_before (touching_of n (b + 1) cs) later))
  where
    from_before : (xs : List ℕ) → IsRising (b + 1) xs → IsRising b xs
    from_before [] rises = tt
    from_before (x ∷ xs) rises = let above = rises.0 in (omega arith, rises.1)

-- where a column is on none of the lists, a weight that is 0 at columns which touch no node of theirs is 0
others_nothing : (f : Column → ℤ) (n m k : ℕ) (b j : ℕ) (cs : List Column)
    → ((c : Column) → touches n c ≡ false → touches m c ≡ false → touches k c ≡ false → f c ≡ pos 0)
    → has (touching_of n b cs) (b + j) ≡ false → has (touching_of m b cs) (b + j) ≡ false → has (touching_of k b cs) (b + j) ≡ false → weight_at f cs j ≡ pos 0
others_nothing f n m k b j [] none x y z = refl
others_nothing f n m k b zero (c ∷ cs) none x y z = none c (untouched n x) (untouched m y) (untouched k z)
  where
    untouched : (i : ℕ) → has (touching_of i b (c ∷ cs)) (b + zero) ≡ false → touches i c ≡ false
    untouched i out = by_test (touches i c)
        (λ is. absurd (
        let here : touching_of i b (c ∷ cs) ≡ b ∷ touching_of i (b + 1) cs = rw is refl in
        let found : has (b ∷ touching_of i (b + 1) cs) (b + zero) ≡ true = rw (eq-eqb b (b + zero) (omega arith)) refl in
        let bad : true ≡ false = sym found ∙ ap (λ xs. has xs (b + zero)) (sym here) ∙ out in
        cc))
        (λ clear. clear)
others_nothing f n m k b (suc j) (c ∷ cs) none x y z =
    let same : b + suc j ≡ (b + 1) + j = omega arith in
    others_nothing f n m k (b + 1) j cs none (later n x same) (later m y same) (later k z same)
  where
    later : (i : ℕ) → has (touching_of i b (c ∷ cs)) (b + suc j) ≡ false → b + suc j ≡ (b + 1) + j
        → has (touching_of i (b + 1) cs) ((b + 1) + j) ≡ false
    later i out same = by_test (touches i c)
        (λ is.
        let here : touching_of i b (c ∷ cs) ≡ b ∷ touching_of i (b + 1) cs = rw is refl in
        let other : (b == (b + suc j)) ≡ false = ne_eqb b (b + suc j) (λ e. omega arith) in
        let skip : has (b ∷ touching_of i (b + 1) cs) (b + suc j) ≡ has (touching_of i (b + 1) cs) (b + suc j) = rw other refl in
        ap (λ (t : ℕ). has (touching_of i (b + 1) cs) t) (sym same) ∙ sym skip ∙ ap (λ xs. has xs (b + suc j)) (sym here) ∙ out)
        (λ clear.
        let here : touching_of i b (c ∷ cs) ≡ touching_of i (b + 1) cs = rw clear refl in
        ap (λ (t : ℕ). has (touching_of i (b + 1) cs) t) (sym same) ∙ ap (λ xs. has xs (b + suc j)) (sym here) ∙ out)

-- ---- what constraints weigh where none of their nodes is touched

apart_from : (n : ℕ) (c : Column) → touches n c ≡ false → ((n == c.from) ≡ false) × ((n == c.into) ≡ false)
apart_from n c clear = both (n == c.from) (n == c.into) clear
  where
    both : (v w : Bool) → (v || w) ≡ false → (v ≡ false) × (w ≡ false)
    both false w e = (refl, e)
    both true w e = absurd cc

untouched_nothing : (o : Shape) (k : Constraint) (c : Column) → touches (node_of k) c ≡ false
    → touches (second_node_of k) c ≡ false → touches (third_node_of k) c ≡ false → (weighing_of o k).weight c ≡ pos 0
untouched_nothing o (Flow n) c x y z = let a = apart_from n c x in rw (a.0, a.1) refl
untouched_nothing o (Most s header n high) c x y z = let a = apart_from n c x in let h = apart_from header c y in rw (a.0, h.1) (omega (arith, ints))
untouched_nothing o (Least s header n low) c x y z = let a = apart_from n c x in let h = apart_from header c y in rw (a.0, h.1) (omega (arith, ints))
untouched_nothing o (Limit n high) c x y z = let a = apart_from n c x in rw a.0 refl
untouched_nothing o (Demand n low) c x y z = let a = apart_from n c x in rw a.0 refl
untouched_nothing o (Apart header a b) c x y z = let p = apart_from a c x in let q = apart_from b c y in let h = apart_from header c z in rw (p.0, q.0, h.0) refl

-- ---- the walk

-- its beginning
pub sought_first : (o : Shape) (k : Constraint) (cs : List Column) (lists : List (List ℕ)) (xs ys zs : List ℕ) (end p : ℕ) → AreTouching cs lists
    → xs ≡ get_or lists (node_of k) [] → ys ≡ get_or lists (second_node_of k) [] → zs ≡ get_or lists (third_node_of k) []
    → p ≡ least_of xs (least_of ys (least_of zs end)) → IsSought (weight_at (weighing_of o k).weight cs) end p xs ys zs []
sought_first o k cs lists xs ys zs end p are ix iy iz is =
    let f = (weighing_of o k).weight in
    let tx : xs ≡ touching_of (node_of k) 0 cs = ix ∙ are (node_of k) in
    let ty : ys ≡ touching_of (second_node_of k) 0 cs = iy ∙ are (second_node_of k) in
    let tz : zs ≡ touching_of (third_node_of k) 0 cs = iz ∙ are (third_node_of k) in
    let start : IsSought (weight_at f cs) end 0 xs ys zs [] = record {
      low = omega arith;
      made = refl;
      first = subst (λ ls. IsRising 0 ls) (sym tx) (touching_rises (node_of k) 0 cs);
      second = subst (λ ls. IsRising 0 ls) (sym ty) (touching_rises (second_node_of k) 0 cs);
      third = subst (λ ls. IsRising 0 ls) (sym tz) (touching_rises (third_node_of k) 0 cs);
      others = λ j up x y z.
          let same : j ≡ 0 + j = omega arith in
          others_nothing f (node_of k) (second_node_of k) (third_node_of k) 0 j cs (untouched_nothing o k)
          (ap (λ (t : ℕ). has (touching_of (node_of k) 0 cs) t) (sym same) ∙ ap (λ ls. has ls j) (sym tx) ∙ x)
          (ap (λ (t : ℕ). has (touching_of (second_node_of k) 0 cs) t) (sym same) ∙ ap (λ ls. has ls j) (sym ty) ∙ y)
          (ap (λ (t : ℕ). has (touching_of (third_node_of k) 0 cs) t) (sym same) ∙ ap (λ ls. has ls j) (sym tz) ∙ z);
    } in
    advance (weight_at f cs) end 0 p xs ys zs [] start is

-- a step
pub sought_next : (f : Column → ℤ) (cs : List Column) (d : Column) (end p q : ℕ) (z : ℤ) (xs ys zs xs' ys' zs' : List ℕ) (terms more : List (ℕ × ℤ)) → IsSought (weight_at f cs) end p xs ys zs terms
    → p < end → end ≡ length cs → z ≡ f (get_or cs p d) → more ≡ terms ++ term_if p z
    → xs' ≡ past_of xs p → ys' ≡ past_of ys p → zs' ≡ past_of zs p → q ≡ least_of xs' (least_of ys' (least_of zs' end)) → IsSought (weight_at f cs) end q xs' ys' zs' more × (p < q)
sought_next f cs d end p q z xs ys zs xs' ys' zs' terms more s below long weighs next ix iy iz is =
    let g = weight_at f cs in
    let here : z ≡ g p = weighs ∙ weight_there f p cs d (omega (arith, long, below)) in
    let taken : IsSought g end (p + 1) xs' ys' zs' more = record {
      low = omega (arith, below);
      made = next ∙ ap (λ (w : ℤ). terms ++ term_if p w) here ∙ ap (λ ts. ts ++ term_if p (g p)) s.made ∙ (let e : terms_upto g (suc p) ≡ terms_upto g (p + 1) = rw add-one refl in e);
      first = subst (λ ls. IsRising (p + 1) ls) (sym ix) (past_rises p xs s.first);
      second = subst (λ ls. IsRising (p + 1) ls) (sym iy) (past_rises p ys s.second);
      third = subst (λ ls. IsRising (p + 1) ls) (sym iz) (past_rises p zs s.third);
      others = λ j up x y w. s.others j (omega (arith, up))
          (past_has p j xs (omega (arith, up)) (ap (λ ls. has ls j) (sym ix) ∙ x))
          (past_has p j ys (omega (arith, up)) (ap (λ ls. has ls j) (sym iy) ∙ y))
          (past_has p j zs (omega (arith, up)) (ap (λ ls. has ls j) (sym iz) ∙ w));
    } in
    let on = advance g end (p + 1) q xs' ys' zs' more taken is in
    let above = least_above (p + 1) xs' (least_of ys' (least_of zs' end)) taken.first (least_above (p + 1) ys' (least_of zs' end) taken.second (least_above (p + 1) zs' end taken.third taken.low)) in
    (on, omega (arith, above, is))

made_upto : (f : Column → ℤ) (g : ℕ → ℤ) (e : ℕ) (cs : List Column)
    → ((j : ℕ) → j < length cs → g (e + j) ≡ weight_at f cs j)
    → terms_upto g e ++ terms_from f e cs ≡ terms_upto g (e + length cs)
made_upto f g e [] same = append-nil (terms_upto g e) ∙ (let s : e ≡ e + 0 = omega arith in ap (λ (k : ℕ). terms_upto g k) s)
made_upto f g e (c ∷ cs) same =
    let here : f c ≡ g e = sym (same 0 (omega arith)) ∙ (let s : e + 0 ≡ e = omega arith in ap g s) in
    let later : (j : ℕ) → j < length cs → g ((e + 1) + j) ≡ weight_at f cs j = λ j low. (let s : (e + 1) + j ≡ e + suc j = omega arith in ap g s) ∙ same (suc j) (omega arith) in
    let first : terms_from f e (c ∷ cs) ≡ term_if e (f c) ++ terms_from f (e + 1) cs = by_test (vanishes (f c)) (λ is. rw is refl) (λ clear. rw clear refl) in
    let one : terms_upto g e ++ term_if e (f c) ≡ terms_upto g (e + 1) = rw (here, add-one) refl in
    let count : (e + 1) + length cs ≡ e + length (c ∷ cs) = omega arith in
    ap (λ ts. terms_upto g e ++ ts) first ∙ sym (append_assoc (terms_upto g e) (term_if e (f c)) (terms_from f (e + 1) cs)) ∙ ap (λ ts. ts ++ terms_from f (e + 1) cs) one
    ∙ made_upto f g (e + 1) cs later ∙ ap (λ (k : ℕ). terms_upto g k) count

-- and its end
pub sought_all : (f : Column → ℤ) (cs : List Column) (end p : ℕ) (xs ys zs : List ℕ) (terms : List (ℕ × ℤ))
    → IsSought (weight_at f cs) end p xs ys zs terms → end ≤ p → end ≡ length cs
    → terms ≡ terms_from f 0 cs
sought_all f cs end p xs ys zs terms s over long =
    let low = s.low in
    let all : p ≡ 0 + length cs = omega (arith, low, over, long) in
    s.made ∙ ap (λ (k : ℕ). terms_upto (weight_at f cs) k) all ∙ sym (made_upto f (weight_at f cs) 0 cs (λ j below. let same : 0 + j ≡ j = omega arith in ap (λ (k : ℕ). weight_at f cs k) same))
