-- A step of a path, and a path as bits.
--   marked_path   the same as bits
--   gone_path, gone_rows   a path and a book after a step
--   none_left     where no scope ends
--   finished_path   a book after the end of a run
use Rattle.std.proofs.Common.{◌≡◌, ◌<◌, ◌*◌, ◌==◌, ◌&&◌, ◌||◌, not, ℕ, Bool, true, false, List, [], ◌∷◌, ◌++◌, length, refl, sym, ap, ◌∙◌, subst, arith}
use Rattle.std.specs.List.{list_any, filter}
use Rattle.std.proofs.lemmas.Bool.{eqb-true}
use Rattle.lists.specs.TestLaws.{by_test}
use Rattle.domain_core.specs.Outlines.{Outlined, shape_of}
use Rattle.recorder_rules.specs.Generated.{generated}
use Rattle.recorder_rules.specs.LoopRules.{own_of}
use Rattle.recorder_rules.specs.Tables.{truth, cell, tabled}
use Rattle.recorder_rules.specs.TableLaws.{truth-generated, cell-tabled, generated_same, tabled_same}
use Rattle.recorder_rules.specs.PairRules.{Sightings, PairBook, is_shared, ends, is_over, seen_after, pair_after, book_after, book_ended, pair_recording}
use Rattle.recorder_rules.specs.BitWords.{words_for, is_marked}
use Rattle.recorder_rules.specs.Seen.{sightings, pair_book}
use Rattle.pair_recorder.specs.declared.seen.Seen.{Seen}
use Rattle.pair_recorder.specs.Paths.{entered, met, paired, paired_in, path_sightings, AreOwn, AreWithin}
use Rattle.pair_recorder.proofs.Pathed.{eqb_turned, entered-joined, paired-joined, own_kept, own_joined, any_paired, within_paired, own_met, own_paired, paired_entered, entered_kept, paired_kept}

-- a recorder of these parts
abbrev with_pairs : List Bool → List (List Bool) → Sightings
with_pairs xs ys = record { seen = xs; pairs = ys }

-- the same as bits
pub marked_path : (n : ℕ) (path : List Seen) (scopes seen rows : List ℕ)
    → ((a : ℕ) → a < n → is_marked seen 0 a ≡ entered a path)
    → ((a b : ℕ) → a < n → b < n → is_marked rows (a * words_for n) b ≡ list_any (λ s. paired_in (λ t. t == s) a b path) scopes) → AreWithin path scopes → sightings n seen rows ≡ path_sightings n path
marked_path n path scopes seen rows marks pairs within =
    ap (λ (xs : List Bool). with_pairs xs (tabled n n (λ a b. is_marked rows (a * words_for n) b))) (generated_same n (λ a. is_marked seen 0 a) (λ a. entered a path) marks)
    ∙ ap (λ (xs : List (List Bool)). with_pairs (generated n (λ a. entered a path)) xs)
    (tabled_same n n (λ a b. is_marked rows (a * words_for n) b) (λ a b. paired a b path) (λ a b low inside. pairs a b low inside ∙ any_paired a b scopes path ∙ within_paired a b scopes path within))

-- where no scope ends
pub none_left : (scopes : List ℕ) (path : List Seen) → length scopes ≡ 0
    → path ≡ filter (λ e. not (list_any (λ s. e.scope == s) scopes)) path
none_left [] [] none = refl
none_left [] (e ∷ path) none = ap (λ (xs : List Seen). e ∷ xs) (none_left [] path none)
none_left (s ∷ scopes) path none = absurd (omega arith)

-- ---- the end of a run

is_kept : (r s : Bool) → (r ≡ true → s ≡ true) → r ≡ (r && s)
is_kept false s both = refl
is_kept true s both = sym (both refl)

-- a book after the end of a run
pub finished_path : (o : Outlined) (n k : ℕ) (path : List Seen) (among scopes : List ℕ) (count : ℕ) (owned collected new : List ℕ) → among ≡ scopes → AreWithin path scopes → n ≡ length o.nodes
    → ((a b : ℕ) → a < n → b < n → is_marked new (a * words_for n) b ≡ (is_marked collected (a * words_for n) b || list_any (λ s. paired_in (λ t. t == s) a b path) among))
    → pair_book n count owned new ≡ pair_recording.finished o (path_sightings n path) (pair_book n count owned collected) k
finished_path o n k path among scopes count owned collected new are within same added =
    subst (λ (m : ℕ). pair_book n count owned new ≡ with_rows (tabled m m (λ a c. book_ended (path_sightings n path) book_before a c))) same
    (ap (λ (xs : List (List Bool)). with_rows xs)
    (tabled_same n n (λ a c. is_marked new (a * words_for n) c) (λ a c. book_ended (path_sightings n path) book_before a c) (λ a c low inside.
    added a c low inside
    ∙ ap (λ (x : Bool). is_marked collected (a * words_for n) c || x)
    (ap (λ (xs : List ℕ). list_any (λ s. paired_in (λ t. t == s) a c path) xs) are
    ∙ any_paired a c scopes path ∙ within_paired a c scopes path within
    ∙ is_kept (paired a c path) (entered a path) (paired_entered (λ t. true) a c path)
    ∙ ap (λ (x : Bool). x && entered a path) (sym (cell-tabled n n (λ i j. paired i j path) a c low inside))
    ∙ ap (λ (x : Bool). cell (path_sightings n path).pairs a c && x) (sym (truth-generated n (λ i. entered i path) a low)))
    ∙ ap (λ (x : Bool). x || (cell (path_sightings n path).pairs a c && truth (path_sightings n path).seen a)) (sym (cell-tabled n n (λ i j. is_marked collected (i * words_for n) j) a c low inside)))))
  where
    book_before : PairBook
    book_before = pair_book n count owned collected

    with_rows : List (List Bool) → PairBook
    with_rows xs = record { owned = book_before.owned; pairs = xs }

-- ---- a step

not_over : (r s e : Bool) → (r ≡ true → s ≡ true) → (r && not e) ≡ (r && not (s && e))
not_over false s e both = refl
not_over true s e both = ap (λ (x : Bool). not (x && e)) (sym (both refl))

is_both : (r s e : Bool) → (r ≡ true → s ≡ true) → (r && e) ≡ (r && (s && e))
is_both false s e both = refl
is_both true s e both = ap (λ (x : Bool). x && e) (sym (both refl))

module _ (o : Outlined) (from k n : ℕ) (path : List Seen) (own : AreOwn (shape_of o) path) (ended : List ℕ) (is : (t : ℕ) → list_any (λ s. t == s) ended ≡ ends (shape_of o) t from k) where
  abbrev is_ended : ℕ → Bool
  is_ended t = list_any (λ s. t == s) ended

  abbrev left : List Seen
  left = filter (λ e. not (list_any (λ s. e.scope == s) ended)) path

  abbrev last : Seen
  last = record { node = k; scope = own_of (shape_of o) k }

  abbrev before : Sightings
  before = path_sightings n path

  abbrev ends_of : ℕ → Bool
  ends_of a = ends (shape_of o) (own_of (shape_of o) a) from k

  seen_is : (a : ℕ) → a < n → truth before.seen a ≡ entered a path
  seen_is a low = truth-generated n (λ i. entered i path) a low

  pair_is : (a b : ℕ) → a < n → b < n → cell before.pairs a b ≡ paired a b path
  pair_is a b low inside = cell-tabled n n (λ i j. paired i j path) a b low inside

  seen_now : (a : ℕ) → a < n → entered a (left ++ last ∷ []) ≡ seen_after (shape_of o) before.seen from k a
  seen_now a low =
      entered-joined a left last
      ∙ ap (λ (x : Bool). x || (a == k))
      (entered_kept (shape_of o) is_ended a path own ∙ ap (λ (x : Bool). entered a path && not x) (is (own_of (shape_of o) a)) ∙ ap (λ (x : Bool). x && not (ends_of a)) (sym (seen_is a low)))

  stays : (a b : ℕ) → a < n → b < n
      → paired a b left ≡ (cell before.pairs a b && not (is_over (shape_of o) before.seen from k a))
  stays a b low inside =
      paired_kept (shape_of o) is_ended a b path own
      ∙ ap (λ (x : Bool). paired a b path && not x) (is (own_of (shape_of o) a))
      ∙ not_over (paired a b path) (entered a path) (ends_of a) (paired_entered (λ t. true) a b path)
      ∙ ap (λ (x : Bool). x && not (entered a path && ends_of a)) (sym (pair_is a b low inside))
      ∙ ap (λ (x : Bool). cell before.pairs a b && not (x && ends_of a)) (sym (seen_is a low))

  meets : (a b : ℕ) → b < n → ((a == k) && met b last.scope (left ++ last ∷ [])) ≡ ((a == k) && (is_shared (shape_of o) a b && seen_after (shape_of o) before.seen from k b))
  meets a b inside =
      by_test (a == k)
      (λ same. ap (λ (x : Bool). (a == k) && x)
      (own_met (shape_of o) b last.scope (left ++ last ∷ []) (own_joined (shape_of o) left last (own_kept (shape_of o) (λ e. not (list_any (λ s. e.scope == s) ended)) path own) refl)
      ∙ ap (λ (x : Bool). x && entered b (left ++ last ∷ [])) (eqb_turned (own_of (shape_of o) b) last.scope ∙ ap (λ (m : ℕ). own_of (shape_of o) m == own_of (shape_of o) b) (sym (eqb-true a k same)))
      ∙ ap (λ (x : Bool). is_shared (shape_of o) a b && x) (seen_now b inside)))
      (λ other. ap (λ (x : Bool). x && met b last.scope (left ++ last ∷ [])) other ∙ ap (λ (x : Bool). x && (is_shared (shape_of o) a b && seen_after (shape_of o) before.seen from k b)) (sym other))

  pair_now : (a b : ℕ) → a < n → b < n → paired a b (left ++ last ∷ []) ≡ pair_after (shape_of o) before from k a b
  pair_now a b low inside =
      paired-joined (λ t. true) a b left last
      ∙ ap (λ (x : Bool). x || ((a == k) && met b last.scope (left ++ last ∷ []))) (stays a b low inside)
      ∙ ap (λ (x : Bool). (cell before.pairs a b && not (is_over (shape_of o) before.seen from k a)) || x) (meets a b inside)

  pub gone_path : (b : PairBook) → n ≡ length o.nodes
      → path_sightings n (left ++ last ∷ []) ≡ pair_recording.gone o before b from k
  gone_path b same =
      subst (λ (m : ℕ). path_sightings n (left ++ last ∷ []) ≡ with_pairs (generated m (λ a. seen_after (shape_of o) before.seen from k a)) (tabled m m (λ a c. pair_after (shape_of o) before from k a c))) same
      (ap (λ (xs : List Bool). with_pairs xs (tabled n n (λ a c. paired a c (left ++ last ∷ [])))) (generated_same n (λ a. entered a (left ++ last ∷ [])) (λ a. seen_after (shape_of o) before.seen from k a) seen_now)
      ∙ ap (λ (xs : List (List Bool)). with_pairs (generated n (λ a. seen_after (shape_of o) before.seen from k a)) xs)
      (tabled_same n n (λ a c. paired a c (left ++ last ∷ [])) (λ a c. pair_after (shape_of o) before from k a c) pair_now))

  module _ (scopes : ℕ) (owned collected : List ℕ) where
    abbrev book_before : PairBook
    book_before = pair_book n scopes owned collected

    abbrev with_rows : List (List Bool) → PairBook
    with_rows xs = record { owned = book_before.owned; pairs = xs }

    pub gone_rows : (new : List ℕ) → n ≡ length o.nodes
        → ((a b : ℕ) → a < n → b < n → is_marked new (a * words_for n) b ≡ (is_marked collected (a * words_for n) b || list_any (λ s. paired_in (λ t. t == s) a b path) ended))
        → pair_book n scopes owned new ≡ pair_recording.gone_book o before book_before from k
    gone_rows new same added =
        subst (λ (m : ℕ). pair_book n scopes owned new ≡ with_rows (tabled m m (λ a c. book_after (shape_of o) before book_before from k a c))) same
        (ap (λ (xs : List (List Bool)). with_rows xs)
        (tabled_same n n (λ a c. is_marked new (a * words_for n) c) (λ a c. book_after (shape_of o) before book_before from k a c) (λ a c low inside.
        added a c low inside
        ∙ ap (λ (x : Bool). is_marked collected (a * words_for n) c || x)
        (any_paired a c ended path ∙ own_paired (shape_of o) is_ended a c path own
        ∙ ap (λ (x : Bool). paired a c path && x) (is (own_of (shape_of o) a))
        ∙ is_both (paired a c path) (entered a path) (ends_of a) (paired_entered (λ t. true) a c path)
        ∙ ap (λ (x : Bool). x && (entered a path && ends_of a)) (sym (pair_is a c low inside))
        ∙ ap (λ (x : Bool). cell before.pairs a c && (x && ends_of a)) (sym (seen_is a low)))
        ∙ ap (λ (x : Bool). x || (cell before.pairs a c && is_over (shape_of o) before.seen from k a)) (sym (cell-tabled n n (λ i j. is_marked collected (i * words_for n) j) a c low inside)))))
