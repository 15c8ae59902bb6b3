-- Nodes of one scope that a run visits in one iteration of it, as a recorder keeps them.
--   has a nodes         the node a is among the nodes
--   follows a b nodes   the node a is at or after b among the nodes, which are written newest first
--   any_follows a b es  and so in one of the iterations
--   Sightings           a recorder: the nodes that it has seen in the current iterations of their scopes, and pairs of them
--   PairBook            a book: for each scope which nodes it is the own scope of, and the pairs that were collected
--   is_shared o a b     the two nodes have the same scope
--   ends o t n k        an iteration of the scope t ends with the step from n to k: back to the header, or out of the scope
--   is_over o r n k a   the node a was seen in an iteration that ends with the step
--   seen_after, pair_after, book_after   what is seen and paired after the step, and collected with it
--   book_ended          what is collected once the run is over
--   together b a c      the two nodes are a pair of the book
--   ArePaired, AreCollected o r b past    the recorder has the pairs of the trace, and the book those of the iterations that are over
--   AreSharpPairs, AreExactPairs          and nothing else
--   pair_order, pair_recording   what a recorder of pairs keeps, covers and answers
use Rattle.std.specs.Prelude.{◌≡◌, ℕ, ◌<◌, List, [], ◌∷◌, length, Bool, true, false, not, ◌&&◌, ◌||◌, ◌==◌}
use Rattle.domain_core.specs.Orders.{Order}
use Rattle.domain_core.specs.Outlines.{Outlined, Shape, shape_of, is_held}
use Rattle.domain_core.specs.Executions.{goes_on_at, open_iteration, closed_iterations, iterations}
use Rattle.domain_core.specs.Recordings.{Recording}
use Rattle.recorder_rules.specs.Generated.{generated}
use Rattle.recorder_rules.specs.LoopRules.{own_of}
use Rattle.recorder_rules.specs.Tables.{truth, cell, tabled}

-- ---- pairs of a list of nodes

-- the node a is among the nodes
abbrev pub has : ℕ → List ℕ → Bool
has a [] = false
has a (n ∷ nodes) = (a == n) || has a nodes

-- the node a is at or after b: the newest node stands first
abbrev pub follows : ℕ → ℕ → List ℕ → Bool
follows a b [] = false
follows a b (n ∷ nodes) = follows a b nodes || ((a == n) && has b (n ∷ nodes))

-- in one of the lists
abbrev pub any_follows : ℕ → ℕ → List (List ℕ) → Bool
any_follows a b [] = false
any_follows a b (e ∷ es) = any_follows a b es || follows a b e

-- ---- what a recorder and a book are seen as

pub record Sightings : Type 0 where
  pub seen : List Bool
  pub pairs : List (List Bool)

pub record PairBook : Type 0 where
  pub owned : List (List Bool)
  pub pairs : List (List Bool)

-- ---- a step

-- the two nodes have the same scope
abbrev pub is_shared : Shape → ℕ → ℕ → Bool
is_shared o a b = own_of o a == own_of o b

-- an iteration of the scope t ends with the step from n to k
abbrev pub ends : Shape → ℕ → ℕ → ℕ → Bool
ends o t n k = is_held o t n && not (goes_on_at o t k)

-- the node a was seen in an iteration that ends with the step
abbrev pub is_over : Shape → List Bool → ℕ → ℕ → ℕ → Bool
is_over o seen n k a = truth seen a && ends o (own_of o a) n k

-- the node is entered, or was seen in an iteration that goes on
abbrev pub seen_after : Shape → List Bool → ℕ → ℕ → ℕ → Bool
seen_after o seen n k a = (truth seen a && not (ends o (own_of o a) n k)) || (a == k)

-- the node that is entered makes pairs with those seen in the same iteration, itself among them
abbrev pub pair_after : Shape → Sightings → ℕ → ℕ → ℕ → ℕ → Bool
pair_after o r n k a b = (cell r.pairs a b && not (is_over o r.seen n k a)) || ((a == k) && (is_shared o a b && seen_after o r.seen n k b))

-- the pairs of an iteration that ends are collected
abbrev pub book_after : Shape → Sightings → PairBook → ℕ → ℕ → ℕ → ℕ → Bool
book_after o r b n k a c = cell b.pairs a c || (cell r.pairs a c && is_over o r.seen n k a)

-- and those of the current iterations where the run is over
abbrev pub book_ended : Sightings → PairBook → ℕ → ℕ → Bool
book_ended r b a c = cell b.pairs a c || (cell r.pairs a c && truth r.seen a)

-- the two nodes are a pair of the book
abbrev pub together : PairBook → ℕ → ℕ → Bool
together b a c = cell b.pairs a c || cell b.pairs c a

-- ---- the pairs of a trace

-- the current iteration of the own scope of a node, those that are over, and all of them
abbrev pub current : Shape → ℕ → List ℕ → List ℕ
current o a past = open_iteration o (own_of o a) past

abbrev pub over : Shape → ℕ → List ℕ → List (List ℕ)
over o a past = closed_iterations o (own_of o a) past

abbrev pub whole : Shape → ℕ → List ℕ → List (List ℕ)
whole o a past = iterations o (own_of o a) past

-- the recorder has seen the nodes of the current iterations, and has their pairs, and the book those of the iterations
-- that are over
pub record ArePaired (o : Shape) (n : ℕ) (r : Sightings) (b : PairBook) (past : List ℕ) : Type 0 where
  pub recorder_is_of : length r.seen ≡ n
  pub book_is_of : length b.pairs ≡ n
  pub seen : (a : ℕ) → a < n → has a (current o a past) ≡ true → truth r.seen a ≡ true
  pub pairs : (a c : ℕ) → a < n → c < n → is_shared o a c ≡ true → follows a c (current o a past) ≡ true
      → cell r.pairs a c ≡ true
  pub over : (a c : ℕ) → a < n → c < n → is_shared o a c ≡ true → any_follows a c (over o a past) ≡ true
      → cell b.pairs a c ≡ true

-- the book has the pairs of all iterations
pub record AreCollected (o : Shape) (n : ℕ) (b : PairBook) (past : List ℕ) : Type 0 where
  pub book_is_of : length b.pairs ≡ n
  pub pairs : (a c : ℕ) → a < n → c < n → is_shared o a c ≡ true → any_follows a c (whole o a past) ≡ true
      → cell b.pairs a c ≡ true

-- they have nothing else
pub record AreSharpPairs (o : Shape) (n : ℕ) (r : Sightings) (b : PairBook) (past : List ℕ) : Type 0 where
  pub seen : (a : ℕ) → a < n → truth r.seen a ≡ has a (current o a past)
  pub pairs : (a c : ℕ) → a < n → c < n → cell r.pairs a c ≡ (is_shared o a c && follows a c (current o a past))
  pub over : (a c : ℕ) → a < n → c < n → cell b.pairs a c ≡ (is_shared o a c && any_follows a c (over o a past))

abbrev pub AreExactPairs : Shape → ℕ → PairBook → List ℕ → Type 0
AreExactPairs o n b past = (a c : ℕ) → a < n → c < n → cell b.pairs a c ≡ (is_shared o a c && any_follows a c (whole o a past))

-- ---- what is stated

-- the second has seen each node and has each pair of the first
pub record HasAllOf (r s : Sightings) : Type 0 where
  pub same_length : length r.seen ≡ length s.seen
  pub seen : (a : ℕ) → a < length r.seen → truth r.seen a ≡ true → truth s.seen a ≡ true
  pub pairs : (a c : ℕ) → a < length r.seen → c < length r.seen → cell r.pairs a c ≡ true → cell s.pairs a c ≡ true

abbrev pub both_seen : Sightings → Sightings → Sightings
both_seen r s = record {
  seen = generated (length r.seen) (λ a. truth r.seen a || truth s.seen a);
  pairs = tabled (length r.seen) (length r.seen) (λ a c. cell r.pairs a c || cell s.pairs a c);
}

abbrev pub pair_order : Order Sightings
pair_order = record {
  alike = λ r s. length r.seen ≡ length s.seen;
  under = HasAllOf;
  joined = both_seen;
}

-- the second book has each pair of the first
pub record HasPairsOf (a b : PairBook) : Type 0 where
  pub same_length : length a.pairs ≡ length b.pairs
  pub pairs : (i j : ℕ) → i < length a.pairs → j < length a.pairs → cell a.pairs i j ≡ true → cell b.pairs i j ≡ true

-- for each scope the nodes that it is the own scope of
abbrev pub owned_nodes : Outlined → List (List Bool)
owned_nodes o = tabled (length o.scopes) (length o.nodes) (λ t a. own_of (shape_of o) a == t)

abbrev pub pair_recording : Recording Sightings PairBook
pair_recording = record {
  suits = λ o. Unit {0};
  is_of = λ o r. length r.seen ≡ length o.nodes;
  book_is_of = λ o b. (b.owned ≡ owned_nodes o) × (length b.pairs ≡ length o.nodes);
  length_of = λ r. 0;
  first = λ o. record { seen = generated (length o.nodes) (λ a. a == 0); pairs = tabled (length o.nodes) (length o.nodes) (λ a c. (a == 0) && (c == 0)) };
  first_book = λ o. record { owned = owned_nodes o; pairs = tabled (length o.nodes) (length o.nodes) (λ a c. false) };
  gone = λ o r b n k. record {
    seen = generated (length o.nodes) (λ a. seen_after (shape_of o) r.seen n k a);
    pairs = tabled (length o.nodes) (length o.nodes) (λ a c. pair_after (shape_of o) r n k a c);
  };
  gone_book = λ o r b n k. record { owned = b.owned; pairs = tabled (length o.nodes) (length o.nodes) (λ a c. book_after (shape_of o) r b n k a c) };
  finished = λ o r b n. record { owned = b.owned; pairs = tabled (length o.nodes) (length o.nodes) (λ a c. book_ended r b a c) };
  covers = λ o r b past. ArePaired (shape_of o) (length o.nodes) r b past;
  sums_up = λ o b past. AreCollected (shape_of o) (length o.nodes) b past;
  sharp = λ o r b past. AreSharpPairs (shape_of o) (length o.nodes) r b past;
  exact = λ o b past. AreExactPairs (shape_of o) (length o.nodes) b past;
  grows = HasPairsOf;
}
