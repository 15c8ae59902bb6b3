-- The laws of `Totals`.
use Rattle.std.proofs.Common.{◌≡◌, ◌≢◌, ℕ, zero, suc, ◌+◌, ◌<◌, ◌≤◌, max, List, [], ◌∷◌, length, get_or, set, map, replicate, Option, Some, None, inl, inr, refl, sym, ap, ◌∙◌, subst, arith}
use Rattle.std.proofs.Math.ListN.{length-set}
use Rattle.std.proofs.lemmas.List.{length-map, get_or-replicate, length-replicate, get_or-set_same, get_or-set_other}
use Rattle.domain_core.specs.Orders.{IsOrder}
use Rattle.domain_core.specs.declared.outline.NodeRow.{NodeRow}
use Rattle.domain_core.specs.Outlines.{Outlined, shape_of}
use Rattle.domain_core.specs.Recordings.{IsRecording}
use Rattle.recorder_rules.specs.GeneratedLaws.{length-generated, at-generated}
use Rattle.recorder_rules.specs.Spans.{visits, IsWithin, one_more, span_of, collected, IsWider, AllInside, greatest}
use Rattle.recorder_rules.specs.SpanLaws.{same_or_not, low_or_over, visits-here, visits-other, wider_itself, wider_farther, collected_wider, collected_each, inside_itself, inside_farther, spans_of, left_inside, right_inside, below_greatest, greatest_least}
use Rattle.recorder_rules.specs.TotalRules.{span_at, spread_at, span_order, AllWider, all_collected, total_recording}

pub span_is_order : IsOrder (List (ℕ × ℕ)) span_order
span_is_order = record {
  itself = inside_itself;
  farther = inside_farther;
  left = λ a b same. left_inside a b;
  right = right_inside;
}

pub greatest_spans_of : (a b : List (ℕ × ℕ)) → length a ≡ length b
    → greatest (spans_of a b) ≤ max (greatest a) (greatest b)
greatest_spans_of a b same = greatest_least (spans_of a b) (max (greatest a) (greatest b)) (λ i low. each i (let e = length-generated (length a) (λ j. span_of (get_or a j (0, 0)) (get_or b j (0, 0))) in omega arith))
  where
    each : (i : ℕ) → i < length a
        → ((get_or (spans_of a b) i (0, 0)).0 ≤ max (greatest a) (greatest b))
        × ((get_or (spans_of a b) i (0, 0)).1 ≤ max (greatest a) (greatest b))
    each i low =
        subst (λ (s : ℕ × ℕ). (s.0 ≤ max (greatest a) (greatest b)) × (s.1 ≤ max (greatest a) (greatest b))) (sym (at-generated (length a) (λ j. span_of (get_or a j (0, 0)) (get_or b j (0, 0))) i (0, 0) low))
        (let p = below_greatest a i low in let q = below_greatest b i (omega arith) in let p0 = p.0 in let p1 = p.1 in let q0 = q.0 in let q1 = q.1 in (omega arith, omega arith))

-- what is written at one place
set_within : (r : List (ℕ × ℕ)) (k n : ℕ) (s : ℕ × ℕ) (P : ℕ × ℕ → Type 0) → k < length r → (n ≡ k → P s)
    → (n ≢ k → P (span_at r n)) → P (span_at (set r k s) n)
set_within r k n s P low here there =
    elim (same_or_not n k) [
      | inl same ↦ subst P (sym (ap (λ (i : ℕ). get_or (set r k s) i (0, 0)) same ∙ get_or-set_same r k s (0, 0) low)) (here same)
      | inr other ↦ subst P (sym (get_or-set_other r k n s (0, 0) other)) (there other)
    ]

pub greatest_one_more : (r : List (ℕ × ℕ)) (k : ℕ) → k < length r
    → greatest (set r k (one_more (span_at r k))) ≤ greatest r + 1
greatest_one_more r k low = greatest_least (set r k (one_more (span_at r k))) (greatest r + 1) (λ i within.
    set_within r k i (one_more (span_at r k)) (λ s. (s.0 ≤ greatest r + 1) × (s.1 ≤ greatest r + 1)) low
    (λ same. let p = below_greatest r k low in let p0 = p.0 in let p1 = p.1 in (omega arith, omega arith))
    (λ other. let p = below_greatest r i (let e = length-set r k (one_more (span_at r k)) in omega arith) in let p0 = p.0 in let p1 = p.1 in (omega arith, omega arith)))

-- of no spans the greatest is 0
pub greatest_zeros : (n : ℕ) → greatest (replicate n (0, 0)) ≡ 0
greatest_zeros zero = refl
greatest_zeros (suc n) = let rest = greatest_zeros n in omega arith

-- a node of the outline's shape is one of its nodes
pub node_low : (o : Outlined) (k : ℕ) → k < length (shape_of o).own → k < length o.nodes
node_low o k low = let e : length (map (λ (row : NodeRow). row.scope) o.nodes) ≡ length o.nodes = length-map o.nodes (λ (row : NodeRow). row.scope) in omega arith

-- one visit more
visited : (r : List (ℕ × ℕ)) (k n : ℕ) (past : List ℕ) → k < length r → IsWithin (visits n past) (span_at r n)
    → IsWithin (visits n (k ∷ past)) (span_at (set r k (one_more (span_at r k))) n)
visited r k n past low within =
    set_within r k n (one_more (span_at r k)) (λ s. IsWithin (visits n (k ∷ past)) s) low
    (λ same. subst (λ (m : ℕ). IsWithin (visits m (k ∷ past)) (one_more (span_at r k))) (sym same) (
    let e = visits-here k past in
    let w : IsWithin (visits k past) (span_at r k) = subst (λ (m : ℕ). IsWithin (visits m past) (span_at r m)) same within in
    let p = w.0 in let q = w.1 in (omega arith, omega arith)))
    (λ other. let e = visits-other n k past other in let p = within.0 in let q = within.1 in (omega arith, omega arith))

visited_sharp : (r : List (ℕ × ℕ)) (k n : ℕ) (past : List ℕ) → k < length r
    → ((m : ℕ) → m < length r → span_at r m ≡ (visits m past, visits m past)) → n < length r
    → span_at (set r k (one_more (span_at r k))) n ≡ (visits n (k ∷ past), visits n (k ∷ past))
visited_sharp r k n past low each within =
    set_within r k n (one_more (span_at r k)) (λ s. s ≡ (visits n (k ∷ past), visits n (k ∷ past))) low
    (λ same. ap (λ (s : ℕ × ℕ). one_more s) (each k low) ∙ ap (λ (c : ℕ). (c, c)) (sym (visits-here k past)) ∙ ap (λ (m : ℕ). (visits m (k ∷ past), visits m (k ∷ past))) (sym same))
    (λ other. each n within ∙ ap (λ (c : ℕ). (c, c)) (sym (visits-other n k past other)))

-- the start
start_at : (m n : ℕ) → 0 < m → n < m
    → span_at (set (replicate m (0, 0)) 0 (1, 1)) n ≡ (visits n (0 ∷ []), visits n (0 ∷ []))
start_at m n some low =
    set_within (replicate m (0, 0)) 0 n (1, 1) (λ s. s ≡ (visits n (0 ∷ []), visits n (0 ∷ []))) (let e : length (replicate {A = ℕ × ℕ} m (0, 0)) ≡ m = length-replicate m (0, 0) in omega arith)
    (λ same. ap (λ (c : ℕ). (c, c)) (sym (visits-here 0 [])) ∙ ap (λ (k : ℕ). (visits k (0 ∷ []), visits k (0 ∷ []))) (sym same))
    (λ other. get_or-replicate m n (0, 0) (0, 0) low ∙ ap (λ (c : ℕ). (c, c)) (sym (visits-other n 0 [] other)))

at_collected : (b : List (Option (ℕ × ℕ))) (r : List (ℕ × ℕ)) (n : ℕ) → n < length b
    → spread_at (all_collected b r) n ≡ collected (spread_at b n) (span_at r n)
at_collected b r n low = at-generated (length b) (λ i. collected (spread_at b i) (span_at r i)) n None low

-- past its end a list has nothing
pub past_end : {A : Type 0} (xs : List A) (i : ℕ) (d : A) → length xs ≤ i → get_or xs i d ≡ d
past_end [] i d over = refl
past_end (x ∷ xs) zero d over = absurd (omega arith)
past_end (x ∷ xs) (suc i) d over = past_end xs i d (omega arith)

collected_grows : (b : List (Option (ℕ × ℕ))) (r : List (ℕ × ℕ)) → AllWider b (all_collected b r)
collected_grows b r i =
    elim (low_or_over i (length b)) [
      | inl low ↦ subst (λ (t : Option (ℕ × ℕ)). IsWider (spread_at b i) t) (sym (at_collected b r i low)) (collected_wider (spread_at b i) (span_at r i))
      | inr over ↦ subst (λ (t : Option (ℕ × ℕ)). IsWider t (spread_at (all_collected b r) i)) (sym (past_end b i None over)) tt
    ]

-- a span that is within is wider once it is collected
one_collected : (t : Option (ℕ × ℕ)) (c : ℕ) (s : ℕ × ℕ) → IsWithin c s → IsWider (Some (c, c)) (collected t s)
one_collected t c s within = collected_each None t (c, c) s tt within

-- what lies in a span lies in the one around it
pub within_inside : (c n : ℕ) (r s : List (ℕ × ℕ)) → AllInside r s → IsWithin c (span_at r n) → IsWithin c (span_at s n)
within_inside c n r s under within =
    elim (low_or_over n (length r)) [
      | inl low ↦ (let u = under.each n low in let u0 = u.0 in let u1 = u.1 in let w0 = within.0 in let w1 = within.1 in (omega arith, omega arith))
      | inr over ↦ subst (λ (t : ℕ × ℕ). IsWithin c t) (past_end r n (0, 0) over ∙ sym (past_end s n (0, 0) (let e = under.same_length in omega arith))) within
    ]

pub total_is_recording : IsRecording (List (ℕ × ℕ)) (List (Option (ℕ × ℕ))) span_order total_recording
total_is_recording = record {
  first_is_of = λ o suited. length-set (replicate (length o.nodes) (0, 0)) 0 (1, 1) ∙ length-replicate (length o.nodes) (0, 0);
  first_length = λ o suited. first_short (length o.nodes);
  first_book_is_of = λ o suited. length-replicate (length o.nodes) None;
  gone_is_of = λ o r b n k is edge low. record { suited = is.suited; recorder = length-set r k (one_more (span_at r k)) ∙ is.recorder; book = is.book };
  gone_length = λ o r b n k is edge low. greatest_one_more r k (let e = is.recorder in omega arith);
  finished_is_of = λ o r b n is low. length-generated (length b) (λ i. collected (spread_at b i) (span_at r i)) ∙ is.book;
  alike = λ o r s suited of_r of_s. of_r ∙ sym of_s;
  joined_is_of = λ o r s suited of_r of_s. length-generated (length r) (λ i. span_of (get_or r i (0, 0)) (get_or s i (0, 0))) ∙ of_r;
  joined_length = λ r s same. greatest_spans_of r s same;
  grows_itself = λ b i. wider_itself (spread_at b i);
  grows_farther = λ a b c first second i. wider_farther (spread_at a i) (spread_at b i) (spread_at c i) (first i) (second i);
  gone_grows = λ o r b n k is edge low i. wider_itself (spread_at b i);
  finished_grows = λ o r b n is low. collected_grows b r;
  covers_grown = λ o r a b past grows covered. covered;
  sums_up_grown = λ o a b past grows summed n low. wider_farther (Some (visits n past, visits n past)) (spread_at a n) (spread_at b n) (summed n low) (grows n);
  above_covers = λ o r s b past under covered n low. within_inside (visits n past) n r s under (covered n low);
  first_covers = λ o b suited book_is n low. same_within (visits n (0 ∷ [])) _ (start_at (length o.nodes) n (omega arith) low);
  gone_covers = λ o r b n k past is walk covered m low. visited r k m (n ∷ past) (let e = is.recorder in let k_low = node_low o k walk.1 in omega arith) (covered m low);
  finished_covers = λ o r b n past is walk covered m low. subst (λ (t : Option (ℕ × ℕ)). IsWider (Some (visits m (n ∷ past), visits m (n ∷ past))) t) (sym (at_collected b r m (let e = is.book in omega arith))) (one_collected (spread_at b m) (visits m (n ∷ past)) (span_at r m) (covered m low));
  first_sharp = λ o suited. (λ n low. start_at (length o.nodes) n (omega arith) low, refl);
  gone_sharp = λ o r b n k past is walk sharp. (λ m low. visited_sharp r k m (n ∷ past) (let e = is.recorder in let k_low = node_low o k walk.1 in omega arith) (λ i within. sharp.0 i (let e = is.recorder in omega arith)) (let e = is.recorder in omega arith), sharp.1);
  finished_sharp = λ o r b n past is walk sharp m low.
      at_collected b r m (let e = is.book in omega arith)
      ∙ ap (λ (t : Option (ℕ × ℕ)). collected t (span_at r m)) (ap (λ (xs : List (Option (ℕ × ℕ))). get_or xs m None) sharp.1 ∙ get_or-replicate (length o.nodes) m None None low)
      ∙ ap (λ (s : ℕ × ℕ). Some s) (sharp.0 m low);
}
  where
    first_short : (n : ℕ) → greatest (set (replicate n (0, 0)) 0 (1, 1)) ≤ 1
    first_short zero = omega arith
    first_short (suc n) = let rest = greatest_zeros n in omega arith

    same_within : (c : ℕ) (s : ℕ × ℕ) → s ≡ (c, c) → IsWithin c s
    same_within c s same = subst (λ (t : ℕ × ℕ). IsWithin c t) (sym same) (omega arith, omega arith)
