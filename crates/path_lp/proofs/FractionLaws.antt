-- The point that is read off a tableau.
use Rattle.std.proofs.Common.{◌≡◌, ℕ, ℤ, pos, zero, suc, ◌+◌, ◌-◌, ◌<◌, ◌≤◌, arith, refl, sym, ap, ◌∙◌, subst, List, [], ◌∷◌, ◌++◌, length, drop, Option, Some, None, true, false}
use Rattle.std.specs.Prelude.{◌*ℤ◌, ◌≤ℤ◌, ◌==◌}
use Rattle.std.proofs.lemmas.Int.{ints}
use Rattle.std.proofs.lemmas.Bool.{eq-eqb, ne_eqb}
use Rattle.lists.specs.TestLaws.{by_test}
use Rattle.whole_numbers.specs.MultipleLaws.{times_times}
use Rattle.ipet_rows.specs.Programs.{Program}
use Rattle.ipet_rows.specs.Firsts.{entry}
use Rattle.ipet_rows.specs.Fractions.{AreFractions}
use Rattle.ipet_rows.specs.SumLaws.{swap_first}
use Rattle.simplex_rules.specs.Tableaus.{Held, Tableau, held_at, number_at}
use Rattle.simplex_rules.specs.PivotRule.{leaving}
use Rattle.simplex_rules.specs.Choices.{IsLeaving}
use Rattle.simplex_rules.specs.ChoiceLaws.{leaving_is}
use Rattle.simplex_rules.specs.Promise.{own_of, basic_whole, basic_number, basic_point}
use Rattle.simplex_rules.specs.ReadOff.{AreParts, IsReadOff}
use Rattle.simplex_tableau.specs.Sparse.{Seen}
use Rattle.simplex_tableau.specs.RowStepLaws.{drop_more}
use Rattle.path_lp.specs.Stepping.{Stands}
use Rattle.path_lp.specs.Fractions.{fraction_of, fractions}

-- ---- what is left of rows and of columns

pub held_next : (hs : List Held) (k : ℕ) → k < length hs → drop k hs ≡ held_at hs k ∷ drop (suc k) hs
held_next [] k below = absurd (omega arith)
held_next (h ∷ hs) zero below = refl
held_next (h ∷ hs) (suc k) below = held_next hs k (omega arith)

pub held_end : (hs : List Held) (k : ℕ) → length hs ≤ k → drop k hs ≡ []
held_end [] zero past = refl
held_end [] (suc k) past = refl
held_end (h ∷ hs) zero past = absurd (omega arith)
held_end (h ∷ hs) (suc k) past = held_end hs k (omega arith)

pub fraction_here : (hs : List Held) (k j : ℕ) (f : ℤ × ℤ) → k < length hs → j ≡ (held_at hs k).basic
    → f ≡ (entry (held_at hs k).line 0, entry (held_at hs k).line j)
    → fraction_of (drop k hs) j ≡ fraction_of hs j → f ≡ fraction_of hs j
fraction_here hs k j f below same is so =
    let one : fraction_of (drop k hs) j ≡ fraction_of (held_at hs k ∷ drop (suc k) hs) j = ap (λ (l : List Held). fraction_of l j) (held_next hs k below) in
    let two : fraction_of (held_at hs k ∷ drop (suc k) hs) j ≡ (entry (held_at hs k).line 0, own_of (held_at hs k)) = rw (eq-eqb j (held_at hs k).basic same) refl in
    let own : own_of (held_at hs k) ≡ entry (held_at hs k).line j = ap (λ (i : ℕ). entry (held_at hs k).line i) (sym same) in
    is ∙ ap (λ (z : ℤ). let x : ℤ × ℤ = (entry (held_at hs k).line 0, z) in x) (sym own) ∙ sym two ∙ sym one ∙ so

pub fraction_more : (hs : List Held) (k j : ℕ) → k < length hs → (j ≡ (held_at hs k).basic → ⊥)
    → fraction_of (drop k hs) j ≡ fraction_of hs j
    → fraction_of (drop (k + 1) hs) j ≡ fraction_of hs j
fraction_more hs k j below other so =
    let one : fraction_of (drop k hs) j ≡ fraction_of (held_at hs k ∷ drop (suc k) hs) j = ap (λ (l : List Held). fraction_of l j) (held_next hs k below) in
    let two : fraction_of (held_at hs k ∷ drop (suc k) hs) j ≡ fraction_of (drop (suc k) hs) j = rw (ne_eqb j (held_at hs k).basic other) refl in
    ap (λ (l : List Held). fraction_of l j) (sym (drop_more hs k)) ∙ sym two ∙ sym one ∙ so

grouped : (xs ys zs : List (ℤ × ℤ)) → (xs ++ ys) ++ zs ≡ xs ++ (ys ++ zs)
grouped [] ys zs = refl
grouped (x ∷ xs) ys zs = ap (λ (l : List (ℤ × ℤ)). x ∷ l) (grouped xs ys zs)

next_fraction : (hs : List Held) (n j m : ℕ) → m ≡ suc n → fractions hs m j ≡ fraction_of hs j ∷ fractions hs n (suc j)
next_fraction hs n j m same = ap (λ (k : ℕ). fractions hs k j) same

pub fractions_more : (hs : List Held) (n k : ℕ) (out new all : List (ℤ × ℤ)) (f : ℤ × ℤ) → k < n → new ≡ out ++ (f ∷ [])
    → f ≡ fraction_of hs (k + 2)
    → out ++ fractions hs (n - k) (k + 2) ≡ all → new ++ fractions hs (n - (k + 1)) (k + 1 + 2) ≡ all
fractions_more hs n k out new all f below made is so =
    let rest = fractions hs (n - (k + 1)) (suc (k + 2)) in
    ap (λ (j : ℕ). new ++ fractions hs (n - (k + 1)) j) (let e : k + 1 + 2 ≡ suc (k + 2) = omega arith in e)
    ∙ ap (λ (l : List (ℤ × ℤ)). l ++ rest) made ∙ grouped out (f ∷ []) rest ∙ ap (λ (z : ℤ × ℤ). out ++ (z ∷ rest)) is
    ∙ ap (λ (l : List (ℤ × ℤ)). out ++ l) (sym (next_fraction hs (n - (k + 1)) (k + 2) (n - k) (omega arith))) ∙ so

-- ---- the fractions are the parts of the tableau's point

fraction_is : (hs : List Held) (scale value : ℤ) (j : ℕ) → 2 ≤ j
    → (fraction_of hs j).0 *ℤ basic_whole hs scale ≡ basic_number hs scale value j *ℤ (fraction_of hs j).1
fraction_is [] scale value zero least = absurd (omega arith)
fraction_is [] scale value (suc zero) least = absurd (omega arith)
fraction_is [] scale value (suc (suc j)) least = omega (arith, ints)
fraction_is (h ∷ hs) scale value j least = by_test (j == h.basic)
    (λ (same : (j == h.basic) ≡ true). rw same
    (let e : entry h.line 0 *ℤ (own_of h *ℤ basic_whole hs scale) ≡ (entry h.line 0 *ℤ basic_whole hs scale) *ℤ own_of h =
    ap (λ (z : ℤ). entry h.line 0 *ℤ z) (let u : own_of h *ℤ basic_whole hs scale ≡ basic_whole hs scale *ℤ own_of h = omega (arith, ints) in u)
    ∙ sym (times_times (entry h.line 0) (basic_whole hs scale) (own_of h)) in e))
    (λ (other : (j == h.basic) ≡ false). rw other
    (swap_first (fraction_of hs j).0 (own_of h) (basic_whole hs scale)
    ∙ ap (λ (z : ℤ). own_of h *ℤ z) (fraction_is hs scale value j least)
    ∙ sym (times_times (own_of h) (basic_number hs scale value j) (fraction_of hs j).1)))

parts_are : (hs : List Held) (scale value : ℤ) (n j : ℕ) (x : ℕ → ℤ) → 2 ≤ j
    → ((e : ℕ) → x e ≡ basic_number hs scale value (j + e))
    → AreParts x (basic_whole hs scale) (fractions hs n j)
parts_are hs scale value zero j x least are = tt
parts_are hs scale value (suc n) j x least are =
    let here : x 0 ≡ basic_number hs scale value j = are 0 ∙ ap (λ (i : ℕ). basic_number hs scale value i) (let e : j + 0 ≡ j = omega arith in e) in (
      fraction_is hs scale value j least ∙ ap (λ (z : ℤ). z *ℤ (fraction_of hs j).1) (sym here),
      parts_are hs scale value n (suc j) (λ e. x (suc e)) (omega arith)
          (λ e. are (suc e) ∙ ap (λ (i : ℕ). basic_number hs scale value i) (let q : j + suc e ≡ suc j + e = omega arith in q)),
    )

fraction_good : (hs : List Held) (j : ℕ) → ((k : ℕ) → k < length hs → pos 0 ≤ℤ entry (held_at hs k).line 0)
    → ((k : ℕ) → k < length hs → pos 1 ≤ℤ own_of (held_at hs k))
    → (pos 0 ≤ℤ (fraction_of hs j).0) × (pos 1 ≤ℤ (fraction_of hs j).1)
fraction_good [] j rights owns = (omega (arith, ints), omega (arith, ints))
fraction_good (h ∷ hs) j rights owns = by_test (j == h.basic)
    (λ same. rw same (rights 0 (omega arith), owns 0 (omega arith)))
    (λ other. rw other (fraction_good hs j (λ k below. rights (suc k) (omega arith)) (λ k below. owns (suc k) (omega arith))))

fractions_good : (hs : List Held) (n j : ℕ) → ((k : ℕ) → k < length hs → pos 0 ≤ℤ entry (held_at hs k).line 0)
    → ((k : ℕ) → k < length hs → pos 1 ≤ℤ own_of (held_at hs k))
    → AreFractions (fractions hs n j)
fractions_good hs zero j rights owns = tt
fractions_good hs (suc n) j rights owns =
    let here = fraction_good hs j rights owns in
    (here.0, here.1, fractions_good hs n (suc j) rights owns)

fractions_count : (hs : List Held) (n j : ℕ) → length (fractions hs n j) ≡ n
fractions_count hs zero j = refl
fractions_count hs (suc n) j = ap suc (fractions_count hs n (suc j))

no_row : (t : Tableau) (o : Option ℕ) → o ≡ None → IsLeaving t (length t.rows) o → (k : ℕ) → k < length t.rows
    → pos 0 ≤ℤ number_at t k 0
no_row t None none is = is
no_row t (Some r) none is = absurd cc

pub read_off : (p : Program) (s : Seen) (point : List (ℤ × ℤ)) → Stands p s → leaving s.tableau ≡ None
    → point ≡ fractions s.tableau.rows (length p.costs) 2
    → IsReadOff p s.tableau point
read_off p s point stands none made =
    let t = s.tableau in
    let hs = t.rows in
    let rights : (k : ℕ) → k < length s.tableau.rows → pos 0 ≤ℤ entry (held_at s.tableau.rows k).line 0 = no_row t (leaving t) none (leaving_is t) in
    let owns : (k : ℕ) → k < length s.tableau.rows → pos 1 ≤ℤ own_of (held_at s.tableau.rows k) = stands.right.sound.own in
    subst (λ (l : List (ℤ × ℤ)). IsReadOff p s.tableau l) (sym made) (record {
      is = record { columns = fractions_count hs (length p.costs) 2; fractions = fractions_good hs (length p.costs) 2 rights owns };
      parts = parts_are hs (entry t.objective 1) (entry t.objective 0) (length p.costs) 2 (basic_point t) (omega arith)
          (λ e. ap (λ (i : ℕ). basic_number hs (entry t.objective 1) (entry t.objective 0) i) (let q : suc (suc e) ≡ 2 + e = omega arith in q));
    })
