-- What the bits of a recorder of pairs and of its book stand for.
--   sightings n seen rows         the nodes that are seen, and their pairs: a row of bits for each node
--   pair_book n scopes owned rows   a book: a row for each scope, and one for each node
--   AreSized, IsSizedBook         there are as many words as these rows have
--   AreLeft, AreEntered           the bits after a step left its iterations, and after the node is entered
--   AreLeftRows, AreEnteredRows, AreCollectedRows   and those of rows
use Rattle.std.specs.Prelude.{◌≡◌, ◌*◌, ◌<◌, ℕ, List, not, ◌&&◌, ◌||◌, ◌==◌, length}
use Rattle.domain_core.specs.Outlines.{Shape}
use Rattle.recorder_rules.specs.Generated.{generated}
use Rattle.recorder_rules.specs.LoopRules.{own_of}
use Rattle.recorder_rules.specs.Tables.{tabled}
use Rattle.recorder_rules.specs.PairRules.{Sightings, PairBook, ends, is_shared}
use Rattle.recorder_rules.specs.BitWords.{words_for, is_marked}

abbrev pub sightings : ℕ → List ℕ → List ℕ → Sightings
sightings n seen rows = record { seen = generated n (λ a. is_marked seen 0 a); pairs = tabled n n (λ a b. is_marked rows (a * words_for n) b) }

abbrev pub pair_book : ℕ → ℕ → List ℕ → List ℕ → PairBook
pair_book n scopes owned rows = record { owned = tabled scopes n (λ t a. is_marked owned (t * words_for n) a); pairs = tabled n n (λ a b. is_marked rows (a * words_for n) b) }

abbrev pub AreSized : ℕ → List ℕ → List ℕ → Type 0
AreSized n seen rows = (length seen ≡ words_for n) × (length rows ≡ n * words_for n)

abbrev pub IsSizedBook : ℕ → ℕ → List ℕ → List ℕ → Type 0
IsSizedBook n scopes owned rows = (length owned ≡ scopes * words_for n) × (length rows ≡ n * words_for n)

-- ---- a step, bit by bit, for n nodes in rows of w words

-- the node is no longer seen where the iteration of its scope ends
abbrev pub AreLeft : Shape → ℕ → ℕ → ℕ → List ℕ → List ℕ → Type 0
AreLeft o n from to old new = (a : ℕ) → a < n → is_marked new 0 a ≡ (is_marked old 0 a && not (ends o (own_of o a) from to))

-- nor are its pairs kept
abbrev pub AreLeftRows : Shape → ℕ → ℕ → ℕ → ℕ → List ℕ → List ℕ → List ℕ → Type 0
AreLeftRows o n w from to seen old new = (a b : ℕ) → a < n → b < n → is_marked new (a * w) b ≡ (is_marked old (a * w) b && not (is_marked seen 0 a && ends o (own_of o a) from to))

-- but they are collected
abbrev pub AreCollectedRows : Shape → ℕ → ℕ → ℕ → ℕ → List ℕ → List ℕ → List ℕ → List ℕ → Type 0
AreCollectedRows o n w from to seen rows old new =
    (a b : ℕ) → a < n → b < n → is_marked new (a * w) b ≡ (is_marked old (a * w) b || (is_marked rows (a * w) b && (is_marked seen 0 a && ends o (own_of o a) from to)))

-- the node k is seen
abbrev pub AreEntered : ℕ → ℕ → List ℕ → List ℕ → Type 0
AreEntered n k old new = (a : ℕ) → a < n → is_marked new 0 a ≡ (is_marked old 0 a || (a == k))

-- and makes pairs with the nodes of its scope that are seen
abbrev pub AreEnteredRows : Shape → ℕ → ℕ → ℕ → List ℕ → List ℕ → List ℕ → Type 0
AreEnteredRows o n w k seen old new = (a b : ℕ) → a < n → b < n → is_marked new (a * w) b ≡ (is_marked old (a * w) b || ((a == k) && (is_shared o a b && is_marked seen 0 b)))
