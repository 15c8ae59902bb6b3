-- A recorder of pairs and its book, from the bits that they keep.
--   nodes_of, book_nodes, book_scopes, book_owned   a recorder and a book of an outline have its numbers of nodes and scopes
--   stepped, stepped_book   after a step
--   finished_book           after the end of a run
--   begun, begun_book       at the beginning
--   joined                  a join
use Rattle.std.proofs.Common.{◌≡◌, ◌*◌, ◌<◌, ◌≤◌, ◌==◌, ◌&&◌, ◌||◌, not, ℕ, Bool, false, List, bit_or, length, get_or, sym, ap, ◌∙◌, subst, arith}
use Rattle.domain_core.specs.Outlines.{Outlined, shape_of}
use Rattle.recorder_rules.specs.Generated.{generated}
use Rattle.recorder_rules.specs.GeneratedLaws.{length-generated}
use Rattle.recorder_rules.specs.LoopRules.{own_of}
use Rattle.recorder_rules.specs.Tables.{truth, cell, tabled}
use Rattle.recorder_rules.specs.TableLaws.{truth-generated, cell-tabled, length-tabled, generated_same, tabled_same}
use Rattle.recorder_rules.specs.PairRules.{Sightings, PairBook, is_shared, ends, is_over, seen_after, pair_after, book_after, book_ended, both_seen, owned_nodes, pair_recording}
use Rattle.recorder_rules.specs.BitWords.{words_for, is_marked, AreOwned, AreRows}
use Rattle.recorder_rules.specs.Seen.{sightings, pair_book, AreLeft, AreLeftRows, AreCollectedRows, AreEntered, AreEnteredRows}
use Rattle.recorder_rules.specs.StepBitLaws.{added_rows}

-- a recorder and a book of these parts
abbrev with_pairs : List Bool → List (List Bool) → Sightings
with_pairs xs ys = record { seen = xs; pairs = ys }

abbrev with_owned : List (List Bool) → List (List Bool) → PairBook
with_owned xs ys = record { owned = xs; pairs = ys }

-- a recorder of an outline has a bit for each of its nodes
pub nodes_of : (n : ℕ) (seen rows : List ℕ) (o : Outlined) (r : Sightings) → sightings n seen rows ≡ r
    → length r.seen ≡ length o.nodes → n ≡ length o.nodes
nodes_of n seen rows o r is same = sym (length-generated n (λ a. is_marked seen 0 a)) ∙ ap (λ (z : Sightings). length z.seen) is ∙ same

module _ (n scopes : ℕ) (owned rows : List ℕ) (o : Outlined) (b : PairBook) (is : pair_book n scopes owned rows ≡ b) (of_o : (b.owned ≡ owned_nodes o) × (length b.pairs ≡ length o.nodes)) where
  pub book_nodes : n ≡ length o.nodes
  book_nodes = sym (length-tabled n n (λ i j. is_marked rows (i * words_for n) j)) ∙ ap (λ (z : PairBook). length z.pairs) is ∙ of_o.1

  owned_same : tabled scopes n (λ t a. is_marked owned (t * words_for n) a) ≡ owned_nodes o
  owned_same = ap (λ (z : PairBook). z.owned) is ∙ of_o.0

  pub book_scopes : scopes ≡ length o.scopes
  book_scopes =
      sym (length-tabled scopes n (λ t a. is_marked owned (t * words_for n) a)) ∙ ap (λ (z : List (List Bool)). length z) owned_same
      ∙ length-tabled (length o.scopes) (length o.nodes) (λ t a. own_of (shape_of o) a == t)

  pub book_owned : AreOwned (shape_of o) (length o.scopes) (length o.nodes) (words_for n) owned
  book_owned t a low within =
      sym (cell-tabled scopes n (λ s i. is_marked owned (s * words_for n) i) t a (let e = book_scopes in omega arith) (let e = book_nodes in omega arith))
      ∙ ap (λ (z : List (List Bool)). cell z t a) owned_same
      ∙ cell-tabled (length o.scopes) (length o.nodes) (λ s i. own_of (shape_of o) i == s) t a low within

-- ---- a step

module _ (o : Outlined) (n from k : ℕ) (seen rows : List ℕ) where
  abbrev before : Sightings
  before = sightings n seen rows

  seen_is : (a : ℕ) → a < n → truth before.seen a ≡ is_marked seen 0 a
  seen_is a low = truth-generated n (λ i. is_marked seen 0 i) a low

  pair_is : (a b : ℕ) → a < n → b < n → cell before.pairs a b ≡ is_marked rows (a * words_for n) b
  pair_is a b low within = cell-tabled n n (λ i j. is_marked rows (i * words_for n) j) a b low within

  seen_now : (left new : List ℕ) → AreLeft (shape_of o) n from k seen left → AreEntered n k left new → (a : ℕ) → a < n
      → is_marked new 0 a ≡ seen_after (shape_of o) before.seen from k a
  seen_now left new gone entered a low =
      entered a low ∙ ap (λ (x : Bool). x || (a == k)) (gone a low) ∙ ap (λ (x : Bool). (x && not (ends (shape_of o) (own_of (shape_of o) a) from k)) || (a == k)) (sym (seen_is a low))

  over_is : (a : ℕ) → a < n → (is_marked seen 0 a && ends (shape_of o) (own_of (shape_of o) a) from k) ≡ is_over (shape_of o) before.seen from k a
  over_is a low = ap (λ (x : Bool). x && ends (shape_of o) (own_of (shape_of o) a) from k) (sym (seen_is a low))

  pub stepped : (left new left_rows new_rows : List ℕ) (b : PairBook) → n ≡ length o.nodes
      → AreLeft (shape_of o) n from k seen left → AreEntered n k left new
      → AreLeftRows (shape_of o) n (words_for n) from k seen rows left_rows → AreEnteredRows (shape_of o) n (words_for n) k new left_rows new_rows
      → sightings n new new_rows ≡ pair_recording.gone o before b from k
  stepped left new left_rows new_rows b same gone entered gone_rows entered_rows =
      subst (λ (m : ℕ). sightings n new new_rows ≡ record { seen = generated m (λ a. seen_after (shape_of o) before.seen from k a); pairs = tabled m m (λ a c. pair_after (shape_of o) before from k a c) }) same
      (ap (λ (xs : List Bool). with_pairs xs (tabled n n (λ a c. is_marked new_rows (a * words_for n) c))) (generated_same n (λ a. is_marked new 0 a) (λ a. seen_after (shape_of o) before.seen from k a) (seen_now left new gone entered))
      ∙ ap (λ (xs : List (List Bool)). with_pairs (generated n (λ a. seen_after (shape_of o) before.seen from k a)) xs)
      (tabled_same n n (λ a c. is_marked new_rows (a * words_for n) c) (λ a c. pair_after (shape_of o) before from k a c) (λ a c low within.
      entered_rows a c low within
      ∙ ap (λ (x : Bool). x || ((a == k) && (is_shared (shape_of o) a c && is_marked new 0 c)))
      (gone_rows a c low within
      ∙ ap (λ (x : Bool). is_marked rows (a * words_for n) c && not x) (over_is a low)
      ∙ ap (λ (x : Bool). x && not (is_over (shape_of o) before.seen from k a)) (sym (pair_is a c low within)))
      ∙ ap (λ (x : Bool). (cell before.pairs a c && not (is_over (shape_of o) before.seen from k a)) || ((a == k) && (is_shared (shape_of o) a c && x))) (seen_now left new gone entered c within))))

  module _ (scopes : ℕ) (owned collected : List ℕ) where
    abbrev book_before : PairBook
    book_before = pair_book n scopes owned collected

    collected_is : (a b : ℕ) → a < n → b < n → cell book_before.pairs a b ≡ is_marked collected (a * words_for n) b
    collected_is a b low within = cell-tabled n n (λ i j. is_marked collected (i * words_for n) j) a b low within

    abbrev with_rows : List (List Bool) → PairBook
    with_rows xs = record { owned = book_before.owned; pairs = xs }

    pub stepped_book : (new : List ℕ) → n ≡ length o.nodes
        → AreCollectedRows (shape_of o) n (words_for n) from k seen rows collected new
        → pair_book n scopes owned new ≡ pair_recording.gone_book o before book_before from k
    stepped_book new same gone =
        subst (λ (m : ℕ). pair_book n scopes owned new ≡ with_rows (tabled m m (λ a c. book_after (shape_of o) before book_before from k a c))) same
        (ap (λ (xs : List (List Bool)). with_rows xs)
        (tabled_same n n (λ a c. is_marked new (a * words_for n) c) (λ a c. book_after (shape_of o) before book_before from k a c) (λ a c low within.
        gone a c low within
        ∙ ap (λ (x : Bool). is_marked collected (a * words_for n) c || (is_marked rows (a * words_for n) c && x)) (over_is a low)
        ∙ ap (λ (x : Bool). is_marked collected (a * words_for n) c || (x && is_over (shape_of o) before.seen from k a)) (sym (pair_is a c low within))
        ∙ ap (λ (x : Bool). x || (cell before.pairs a c && is_over (shape_of o) before.seen from k a)) (sym (collected_is a c low within)))))

    pub finished_book : (new : List ℕ) → n ≡ length o.nodes → n ≤ 64 * words_for n
        → AreRows n (words_for n) seen (λ i. bit_or (get_or collected i 0) (get_or rows i 0)) collected new
        → pair_book n scopes owned new ≡ pair_recording.finished o before book_before from
    finished_book new same fit added =
        subst (λ (m : ℕ). pair_book n scopes owned new ≡ with_rows (tabled m m (λ a c. book_ended before book_before a c))) same
        (ap (λ (xs : List (List Bool)). with_rows xs)
        (tabled_same n n (λ a c. is_marked new (a * words_for n) c) (λ a c. book_ended before book_before a c) (λ a c low within.
        added_rows n (words_for n) seen fit rows collected new added a c low within
        ∙ ap (λ (x : Bool). is_marked collected (a * words_for n) c || (is_marked rows (a * words_for n) c && x)) (sym (seen_is a low))
        ∙ ap (λ (x : Bool). is_marked collected (a * words_for n) c || (x && truth before.seen a)) (sym (pair_is a c low within))
        ∙ ap (λ (x : Bool). x || (cell before.pairs a c && truth before.seen a)) (sym (collected_is a c low within)))))

-- ---- a join

pub joined : (n : ℕ) (seen rows other_seen other_rows new new_rows : List ℕ)
    → ((a : ℕ) → is_marked new 0 a ≡ (is_marked seen 0 a || is_marked other_seen 0 a))
    → ((base b : ℕ) → is_marked new_rows base b ≡ (is_marked rows base b || is_marked other_rows base b))
    → sightings n new new_rows ≡ both_seen (sightings n seen rows) (sightings n other_seen other_rows)
joined n seen rows other_seen other_rows new new_rows either either_rows =
    subst (λ (m : ℕ). sightings n new new_rows ≡ record {
      seen = generated m (λ a. truth (sightings n seen rows).seen a || truth (sightings n other_seen other_rows).seen a);
      pairs = tabled m m (λ a c. cell (sightings n seen rows).pairs a c || cell (sightings n other_seen other_rows).pairs a c);
    }) (sym (length-generated n (λ a. is_marked seen 0 a)))
    (ap (λ (xs : List Bool). with_pairs xs (tabled n n (λ a c. is_marked new_rows (a * words_for n) c)))
    (generated_same n (λ a. is_marked new 0 a) (λ a. truth (sightings n seen rows).seen a || truth (sightings n other_seen other_rows).seen a) (λ a low.
    either a ∙ ap (λ (x : Bool). x || is_marked other_seen 0 a) (sym (truth-generated n (λ i. is_marked seen 0 i) a low)) ∙ ap (λ (x : Bool). truth (sightings n seen rows).seen a || x) (sym (truth-generated n (λ i. is_marked other_seen 0 i) a low))))
    ∙ ap (λ (xs : List (List Bool)). with_pairs (generated n (λ a. truth (sightings n seen rows).seen a || truth (sightings n other_seen other_rows).seen a)) xs)
    (tabled_same n n (λ a c. is_marked new_rows (a * words_for n) c) (λ a c. cell (sightings n seen rows).pairs a c || cell (sightings n other_seen other_rows).pairs a c) (λ a c low within.
    either_rows (a * words_for n) c
    ∙ ap (λ (x : Bool). x || is_marked other_rows (a * words_for n) c) (sym (cell-tabled n n (λ i j. is_marked rows (i * words_for n) j) a c low within))
    ∙ ap (λ (x : Bool). cell (sightings n seen rows).pairs a c || x) (sym (cell-tabled n n (λ i j. is_marked other_rows (i * words_for n) j) a c low within)))))

-- ---- the beginning

pub begun : (o : Outlined) (n : ℕ) (seen rows : List ℕ) → n ≡ length o.nodes
    → ((a : ℕ) → a < n → is_marked seen 0 a ≡ (a == 0))
    → ((a c : ℕ) → a < n → c < n → is_marked rows (a * words_for n) c ≡ ((a == 0) && (c == 0)))
    → sightings n seen rows ≡ pair_recording.first o
begun o n seen rows same first first_rows =
    subst (λ (m : ℕ). sightings n seen rows ≡ with_pairs (generated m (λ a. a == 0)) (tabled m m (λ a c. (a == 0) && (c == 0)))) same
    (ap (λ (xs : List Bool). with_pairs xs (tabled n n (λ a c. is_marked rows (a * words_for n) c))) (generated_same n (λ a. is_marked seen 0 a) (λ a. a == 0) first)
    ∙ ap (λ (xs : List (List Bool)). with_pairs (generated n (λ a. a == 0)) xs) (tabled_same n n (λ a c. is_marked rows (a * words_for n) c) (λ a c. (a == 0) && (c == 0)) first_rows))

pub begun_book : (o : Outlined) (n scopes : ℕ) (owned rows : List ℕ) → n ≡ length o.nodes → scopes ≡ length o.scopes
    → AreOwned (shape_of o) (length o.scopes) (length o.nodes) (words_for (length o.nodes)) owned
    → ((a c : ℕ) → a < n → c < n → is_marked rows (a * words_for n) c ≡ false) → pair_book n scopes owned rows ≡ pair_recording.first_book o
begun_book o n scopes owned rows same same_scopes holds none =
    ap (λ (xs : List (List Bool)). with_owned xs (tabled n n (λ a c. is_marked rows (a * words_for n) c)))
    (ap (λ (m : ℕ). tabled m n (λ t a. is_marked owned (t * words_for n) a)) same_scopes ∙ ap (λ (m : ℕ). tabled (length o.scopes) m (λ t a. is_marked owned (t * words_for m) a)) same
    ∙ tabled_same (length o.scopes) (length o.nodes) (λ t a. is_marked owned (t * words_for (length o.nodes)) a) (λ t a. own_of (shape_of o) a == t) (λ t a low within. holds t a low within))
    ∙ ap (λ (xs : List (List Bool)). with_owned (owned_nodes o) xs) (tabled_same n n (λ a c. is_marked rows (a * words_for n) c) (λ a c. false) none ∙ ap (λ (m : ℕ). tabled m m (λ a c. false)) same)
