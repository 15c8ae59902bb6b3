-- What a step and the end of a run leave in spans and books.
--   any_left, any_around   the scopes of a list, at a key
--   reset_greatest         what begins anew has no greater numbers
--   spans_are, book_is, ended_is   the spans and the book afterwards
--   ledger_of              a book of an outline is one of the counts of that outline
use Rattle.std.proofs.Common.{◌≡◌, ◌<◌, ◌≤◌, ◌==◌, ℕ, List, [], ◌∷◌, Option, None, Some, Bool, true, false, cond, length, get_or, reverse, refl, sym, ap, ◌∙◌, subst, arith}
use Rattle.std.specs.List.{list_any}
use Rattle.lists.specs.TestLaws.{by_test}
use Rattle.domain_core.specs.Outlines.{Shape, scopes_from, scopes_around}
use Rattle.domain_core.specs.OutlineLaws.{member_found, found_member, in_reverse, of_reverse}
use Rattle.recorder_rules.specs.GeneratedLaws.{generated_is}
use Rattle.recorder_rules.specs.Spans.{one_more, greatest}
use Rattle.recorder_rules.specs.SpanLaws.{below_greatest, greatest_least}
use Rattle.recorder_rules.specs.TotalRules.{span_at, spread_at}
use Rattle.recorder_rules.specs.TallyRules.{Tally, Ledger, key_at, is_at, is_left, leaves, is_within, span_after, spread_after, spans_gone, spreads_gone, spreads_ended}
use Rattle.flow_recorders.specs.Walked.{AreChanged}
use Rattle.flow_recorders.specs.Ledgers.{IsLedger}

none_at : (ks : List ℕ) → list_any (λ s. is_at None s) ks ≡ false
none_at [] = refl
none_at (k ∷ ks) = none_at ks

-- the scopes that are left, at a key
pub any_left : (o : Shape) (n k : ℕ) (left : List ℕ) → ((t : ℕ) → list_any (λ s. t == s) left ≡ is_left o t n k)
    → (key : Option ℕ) → list_any (λ s. is_at key s) left ≡ leaves o key n k
any_left o n k left is None = none_at left
any_left o n k left is (Some t) = is t

any_turned : (t : ℕ) (xs : List ℕ) → list_any (λ s. t == s) (reverse xs) ≡ list_any (λ s. t == s) xs
any_turned t xs =
    by_test (list_any (λ s. t == s) xs) (λ found. member_found (reverse xs) t (in_reverse xs t (found_member xs t found)) ∙ sym found)
    (λ clear. by_test (list_any (λ s. t == s) (reverse xs)) (λ found. absurd (let bad : true ≡ false = sym (member_found xs t (of_reverse xs t (found_member (reverse xs) t found))) ∙ clear in cc)) (λ none. none ∙ sym clear))

-- the scopes around a node, at a key
pub any_around : (o : Shape) (n : ℕ) (around : List ℕ) → around ≡ scopes_around o n → (key : Option ℕ)
    → list_any (λ s. is_at key s) around ≡ is_within o key n
any_around o n around is None = none_at around
any_around o n around is (Some t) = ap (λ (xs : List ℕ). list_any (λ s. t == s) xs) is ∙ any_turned t (scopes_from o.scopes (length o.scopes) (get_or o.own n 0))

-- what begins anew has no greater numbers
pub reset_greatest : (r mid : List (ℕ × ℕ)) (anew : ℕ → Bool) → length mid ≡ length r
    → ((j : ℕ) → j < length r → span_at mid j ≡ cond (anew j) (0, 0) (span_at r j)) → greatest mid ≤ greatest r
reset_greatest r mid anew same each = greatest_least mid (greatest r) (λ j low.
    let within : j < length r = omega arith in
    let below = below_greatest r j within in
    subst (λ (s : ℕ × ℕ). (s.0 ≤ greatest r) × (s.1 ≤ greatest r)) (sym (each j within)) (no_more (anew j) (span_at r j) (greatest r) below.0 below.1))
  where
    no_more : (b : Bool) (s : ℕ × ℕ) (g : ℕ) → s.0 ≤ g → s.1 ≤ g → ((cond b (0, 0) s).0 ≤ g) × ((cond b (0, 0) s).1 ≤ g)
    no_more true s g first second = (omega arith, omega arith)
    no_more false s g first second = (first, second)

module _ (o : Shape) (v : Tally) (r : List (ℕ × ℕ)) (n k : ℕ) (left : List ℕ) (is : (t : ℕ) → list_any (λ s. t == s) left ≡ is_left o t n k) where
  -- the spans afterwards
  pub spans_are : (mid new : List (ℕ × ℕ)) → length mid ≡ length r → length new ≡ length mid → ((j : ℕ) → j < length r → span_at mid j ≡ cond (list_any (λ s. is_at (key_at v.scopes j) s) left) (0, 0) (span_at r j))
      → AreChanged v.nodes k (λ j. one_more (span_at mid j)) (0, 0) mid new → new ≡ spans_gone o v r n k
  spans_are mid new same_mid same_new reset entered =
      generated_is (length r) (λ i. span_after (leaves o (key_at v.scopes i) n k) (is_at (key_at v.nodes i) k) (span_at r i)) new (0, 0) (same_new ∙ same_mid) (λ j low.
      entered j (omega arith)
      ∙ ap (λ (s : ℕ × ℕ). cond (is_at (key_at v.nodes j) k) (one_more s) s) (reset j low ∙ ap (λ (b : Bool). cond b (0, 0) (span_at r j)) (any_left o n k left is (key_at v.scopes j))))

  -- the book afterwards
  pub book_is : (b new : List (Option (ℕ × ℕ))) → length new ≡ length b → ((j : ℕ) → j < length b → spread_at new j ≡ spread_after (list_any (λ s. is_at (key_at v.scopes j) s) left) (spread_at b j) (span_at r j))
      → new ≡ spreads_gone o v r b n k
  book_is b new same collected_is =
      generated_is (length b) (λ i. spread_after (leaves o (key_at v.scopes i) n k) (spread_at b i) (span_at r i)) new None same (λ j low.
      collected_is j low ∙ ap (λ (t : Bool). spread_after t (spread_at b j) (span_at r j)) (any_left o n k left is (key_at v.scopes j)))

-- the book at the end of a run
pub ended_is : (o : Shape) (v : Tally) (r : List (ℕ × ℕ)) (n : ℕ) (around : List ℕ) → around ≡ scopes_around o n
    → (b new : List (Option (ℕ × ℕ))) → length new ≡ length b
    → ((j : ℕ) → j < length b → spread_at new j ≡ spread_after (list_any (λ s. is_at (key_at v.scopes j) s) around) (spread_at b j) (span_at r j)) → new ≡ spreads_ended o v r b n
ended_is o v r n around is b new same collected_is =
    generated_is (length b) (λ i. spread_after (is_within o (key_at v.scopes i) n) (spread_at b i) (span_at r i)) new None same (λ j low.
    collected_is j low ∙ ap (λ (t : Bool). spread_after t (spread_at b j) (span_at r j)) (any_around o n around is (key_at v.scopes j)))

-- a book of an outline is one of its counts
pub ledger_of : (w : Tally) (b seen : Ledger) (r spans : List (ℕ × ℕ)) → length w.scopes ≡ length w.nodes → b ≡ seen
    → spans ≡ r → (seen.tally ≡ w) × (length seen.spreads ≡ length w.scopes) → length r ≡ length w.scopes
    → IsLedger b (length spans)
ledger_of w b seen r spans both is same of_w len =
    subst (λ (z : Ledger). IsLedger z (length spans)) (sym is) (record {
      scopes = ap (λ (v : Tally). length v.scopes) of_w.0 ∙ sym len ∙ ap (λ (xs : List (ℕ × ℕ)). length xs) (sym same);
      nodes = ap (λ (v : Tally). length v.nodes) of_w.0 ∙ sym both ∙ sym len ∙ ap (λ (xs : List (ℕ × ℕ)). length xs) (sym same);
      spreads = of_w.1 ∙ sym len ∙ ap (λ (xs : List (ℕ × ℕ)). length xs) (sym same);
    })

-- a book of these parts
abbrev pub ledger : List (Option ℕ) → List (Option ℕ) → List (Option (ℕ × ℕ)) → Ledger
ledger scopes nodes spreads = record { tally = record { scopes = scopes; nodes = nodes }; spreads = spreads }

abbrev pub with_spreads : Ledger → List (Option (ℕ × ℕ)) → Ledger
with_spreads b spreads = record { tally = b.tally; spreads = spreads }

-- a book whose spreads are changed, seen from outside
pub changed_book : (scopes nodes : List (Option ℕ)) (before after : List (Option (ℕ × ℕ))) (now : Ledger) (F : Ledger → List (Option (ℕ × ℕ))) → ledger scopes nodes before ≡ now → after ≡ F (ledger scopes nodes before)
    → ledger scopes nodes after ≡ with_spreads now (F now)
changed_book scopes nodes before after now F is same =
    let P : Ledger → Type 0 = λ z. ledger scopes nodes after ≡ with_spreads z (F z) in
    subst P is (ap (λ (xs : List (Option (ℕ × ℕ))). ledger scopes nodes xs) same)
