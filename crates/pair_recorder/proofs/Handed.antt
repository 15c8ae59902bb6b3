-- What calls hand on, in the words of the next.
--   own_at, own_low   the scope in a node's row is its own, and a node has one
--   kept_by, rows_by, cleared_by, added_by   what a call ensures of one list, of an equal one
--   finished_collected   a book after the end of a run
--   told_first, told_second   what a book tells
use Rattle.std.proofs.Common.{◌≡◌, ◌+◌, ◌-◌, ◌*◌, ◌/◌, ◌^◌, ◌<◌, ◌≤◌, ◌||◌, ℕ, zero, suc, List, [], ◌∷◌, Some, None, Bool, true, false, cond, inl, inr, bit_or, bit_and, map, length, get_or, slice_get, sym, ap, ◌∙◌, subst, arith}
use Rattle.std.specs.Int.{bit_not, w64}
use Rattle.std.proofs.lemmas.Bool.{cases_lt}
use Rattle.std.proofs.lemmas.List.{length-map}
use Rattle.std.proofs.lemmas.Nat.{and_le_r}
use Rattle.domain_core.specs.declared.outline.NodeRow.{NodeRow}
use Rattle.domain_core.specs.Outlines.{Outlined, shape_of}
use Rattle.recorder_rules.specs.TotalLaws.{past_end}
use Rattle.recorder_rules.specs.Tables.{cell}
use Rattle.recorder_rules.specs.TableLaws.{cell-tabled, length-tabled}
use Rattle.recorder_rules.specs.PairRules.{PairBook, together, pair_recording}
use Rattle.recorder_rules.specs.BitWords.{words_for, is_marked, AreInRange, AreRows}
use Rattle.recorder_rules.specs.Seen.{sightings, pair_book}
use Rattle.recorder_rules.specs.RangeLaws.{ranged, ranged_over}
use Rattle.recorder_rules.specs.RowLaws.{row_low}
use Rattle.recorder_rules.specs.PairBitLaws.{finished_book}

-- the scope in a node's row is its own
pub own_at : (nodes : List NodeRow) (n : ℕ) (row : NodeRow) → slice_get nodes n ≡ Some row
    → get_or (map (λ (r : NodeRow). r.scope) nodes) n 0 ≡ row.scope
own_at [] n row is = absurd (let bad : None ≡ Some row = is in cc)
own_at (x ∷ nodes) zero row is = let both : Some x ≡ Some row = is in let same : x ≡ row = cc in ap (λ (r : NodeRow). r.scope) same
own_at (x ∷ nodes) (suc n) row is = own_at nodes n row is

-- a node has one
pub own_low : (o : Outlined) (n : ℕ) → n < length o.nodes → n < length (shape_of o).own
own_low o n low = let e : length (map (λ (r : NodeRow). r.scope) o.nodes) ≡ length o.nodes = length-map o.nodes (λ (r : NodeRow). r.scope) in omega arith

-- what a call ensures of one list, of an equal one
pub kept_by : (from new xs ys : List ℕ) (start w : ℕ) → xs ≡ ys → length ys ≡ w
    → AreInRange 0 (length xs) (λ i. bit_and (get_or xs i 0) (get_or from (start + i) 0)) xs new
    → AreInRange 0 w (λ i. bit_and (get_or ys i 0) (get_or from (start + i) 0)) ys new
kept_by from new xs ys start w is len kept =
    subst (λ (v : ℕ). AreInRange 0 v (λ i. bit_and (get_or ys i 0) (get_or from (start + i) 0)) ys new) len
    (subst (λ (zs : List ℕ). AreInRange 0 (length zs) (λ i. bit_and (get_or zs i 0) (get_or from (start + i) 0)) zs new) is kept)

pub rows_by : (count n w : ℕ) (xs ys old new : List ℕ) (f : ℕ → ℕ) → count ≡ n → xs ≡ ys → length ys ≡ w
    → AreRows count (length xs) xs f old new → AreRows n w ys f old new
rows_by count n w xs ys old new f same is len changed =
    subst (λ (v : ℕ). AreRows n v ys f old new) len (subst (λ (zs : List ℕ). AreRows n (length zs) zs f old new) is (subst (λ (m : ℕ). AreRows m (length xs) xs f old new) same changed))

pub cleared_by : (w : ℕ) (xs ys old new : List ℕ) → xs ≡ ys
    → AreInRange 0 w (λ i. bit_and (get_or old i 0) (bit_not w64 (get_or xs i 0))) old new
    → AreInRange 0 w (λ i. bit_and (get_or old i 0) (bit_not w64 (get_or ys i 0))) old new
cleared_by w xs ys old new is changed = subst (λ (zs : List ℕ). AreInRange 0 w (λ i. bit_and (get_or old i 0) (bit_not w64 (get_or zs i 0))) old new) is changed

pub added_by : (at_word w : ℕ) (xs ys old new : List ℕ) → xs ≡ ys
    → AreInRange at_word w (λ i. bit_or (get_or old i 0) (get_or xs (0 + (i - at_word)) 0)) old new
    → AreInRange at_word w (λ i. bit_or (get_or old i 0) (get_or ys (0 + (i - at_word)) 0)) old new
added_by at_word w xs ys old new is changed = subst (λ (zs : List ℕ). AreInRange at_word w (λ i. bit_or (get_or old i 0) (get_or zs (0 + (i - at_word)) 0)) old new) is changed

pub added_rows_by : (count : ℕ) (xs ys dm old d from new : List ℕ) → xs ≡ ys → dm ≡ old → d ≡ from
    → AreRows count (length xs) xs (λ i. bit_or (get_or dm i 0) (get_or d i 0)) dm new
    → AreRows count (length ys) ys (λ i. bit_or (get_or old i 0) (get_or from i 0)) old new
added_rows_by count xs ys dm old d from new is dm_is d_is changed =
    subst (λ (zs : List ℕ). AreRows count (length zs) zs (λ i. bit_or (get_or old i 0) (get_or from i 0)) old new) is
    (subst (λ (zs : List ℕ). AreRows count (length xs) xs (λ i. bit_or (get_or old i 0) (get_or zs i 0)) old new) d_is
    (subst (λ (zs : List ℕ). AreRows count (length xs) xs (λ i. bit_or (get_or zs i 0) (get_or d i 0)) zs new) dm_is changed))

-- ---- a book after the end of a run

pub finished_collected : (o : Outlined) (n k : ℕ) (seen rows : List ℕ) (scopes : ℕ) (owned collected new : List ℕ)
    → n ≡ length o.nodes → length seen ≡ words_for n
    → AreRows n (length seen) seen (λ i. bit_or (get_or collected i 0) (get_or rows i 0)) collected new
    → pair_book n scopes owned new ≡ pair_recording.finished o (sightings n seen rows) (pair_book n scopes owned collected) k
finished_collected o n k seen rows scopes owned collected new same len added =
    finished_book o n k 0 seen rows scopes owned collected new same (omega arith) (subst (λ (w : ℕ). AreRows n w seen (λ i. bit_or (get_or collected i 0) (get_or rows i 0)) collected new) len added)

-- ---- what a book tells

module _ (count scopes : ℕ) (owned rows : List ℕ) (b : PairBook) (is : pair_book count scopes owned rows ≡ b) (a c : ℕ) (low : a < count) (within : c < count) where
  pub first_told : cell b.pairs a c ≡ is_marked rows (a * words_for count) c
  first_told = ap (λ (z : PairBook). cell z.pairs a c) (sym is) ∙ cell-tabled count count (λ i j. is_marked rows (i * words_for count) j) a c low within

  pub second_told : cell b.pairs c a ≡ is_marked rows (c * words_for count) a
  second_told = ap (λ (z : PairBook). cell z.pairs c a) (sym is) ∙ cell-tabled count count (λ i j. is_marked rows (i * words_for count) j) c a within low

  pub told_first : (x : Bool) → x ≡ is_marked rows (a * words_for count) c → x ≡ true → true ≡ together b a c
  told_first x one yes_one = ap (λ (v : Bool). v || cell b.pairs c a) (sym (first_told ∙ sym one ∙ yes_one))

  pub told_second : (x y : Bool) → x ≡ is_marked rows (a * words_for count) c → x ≡ false
      → y ≡ is_marked rows (c * words_for count) a → y ≡ together b a c
  told_second x y one no_one two = two ∙ sym second_told ∙ ap (λ (v : Bool). v || cell b.pairs c a) (sym (first_told ∙ sym one ∙ no_one))

-- a book has a row for each node
pub told_count : (count scopes : ℕ) (owned rows : List ℕ) (b : PairBook) → pair_book count scopes owned rows ≡ b
    → length b.pairs ≡ count
told_count count scopes owned rows b is = ap (λ (z : PairBook). length z.pairs) (sym is) ∙ length-tabled count count (λ i j. is_marked rows (i * words_for count) j)

-- a bit of a row is in the table
pub told_low : (count width a c : ℕ) (words rows : List ℕ) → words ≡ rows → length rows ≡ count * words_for count
    → width ≡ words_for count → a < count → c < count → a * width + c / 64 < length words
told_low count width a c words rows is len same low within =
    subst (λ (w : ℕ). a * w + c / 64 < length words) (sym same)
    (let e : length words ≡ count * words_for count = ap (λ (xs : List ℕ). length xs) is ∙ len in let f = row_low a (words_for count) (c / 64) count low (omega arith) in omega arith)

-- the same bits are the same recorder
pub sightings_same : (n : ℕ) {xs seen ys rows : List ℕ} → xs ≡ seen → ys ≡ rows
    → sightings n xs ys ≡ sightings n seen rows
sightings_same n {xs} {seen} {ys} {rows} first second = ap (λ (zs : List ℕ). sightings n zs ys) first ∙ ap (λ (zs : List ℕ). sightings n seen zs) second

-- kept words are no greater than those that are kept by
pub small_kept : (j start : ℕ) (old from new : List ℕ)
    → AreInRange 0 j (λ i. bit_and (get_or old i 0) (get_or from (start + i) 0)) old new → length old ≤ j
    → ((i : ℕ) → get_or from i 0 < 2 ^ 64) → (i : ℕ) → get_or new i 0 < 2 ^ 64
small_kept j start old from new kept over small i =
    elim (cases_lt i j) [
      | inl low ↦
          let is : get_or new i 0 ≡ bit_and (get_or old i 0) (get_or from (start + i) 0) =
          kept i ∙ ap (λ (t : Bool). cond t (bit_and (get_or old i 0) (get_or from (start + i) 0)) (get_or old i 0)) (ranged 0 j i (omega arith) (omega arith)) in
          let most = and_le_r (get_or old i 0) (get_or from (start + i) 0) in
          let less = small (start + i) in
          omega arith
      | inr past ↦
          let is : get_or new i 0 ≡ 0 =
          kept i ∙ ap (λ (t : Bool). cond t (bit_and (get_or old i 0) (get_or from (start + i) 0)) (get_or old i 0)) (ranged_over 0 j i (omega arith)) ∙ past_end old i 0 (omega arith) in
          omega arith
    ]
