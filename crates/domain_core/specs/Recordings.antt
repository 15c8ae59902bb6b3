-- What a recorder keeps of the trace of a run, beside a book for all runs. Traces are written with the newest node
-- first.
--   Recording R B         what a recorder names: which outlines suit it, what it covers, and what its calls answer
--   IsRecording R B order z   the laws of a recorder
use Rattle.std.specs.Prelude.{◌+◌, ◌<◌, ◌≤◌, max, ℕ, List, [], ◌∷◌, Contains, length}
use Rattle.domain_core.specs.Orders.{Order}
use Rattle.domain_core.specs.Outlines.{Outlined, IsOutline, shape_of}
use Rattle.domain_core.specs.Traces.{IsTrace}

pub record Recording (R B : Type 0) : Type 1 where
  -- the outline suits it, and a recorder or a book is one of the outline
  pub suits : Outlined → Type 0
  pub is_of : Outlined → R → Type 0
  pub book_is_of : Outlined → B → Type 0
  -- a bound on what it has counted
  pub length_of : R → ℕ
  -- what the calls answer where memory is there
  pub first : Outlined → R
  pub first_book : Outlined → B
  pub gone : Outlined → R → B → ℕ → ℕ → R
  pub gone_book : Outlined → R → B → ℕ → ℕ → B
  pub finished : Outlined → R → B → ℕ → B
  -- the recorder with the book stands for the trace of a run that goes on, and the book for that of one that is over
  pub covers : Outlined → R → B → List ℕ → Type 0
  pub sums_up : Outlined → B → List ℕ → Type 0
  -- it has exactly the trace's own numbers
  pub sharp : Outlined → R → B → List ℕ → Type 0
  pub exact : Outlined → B → List ℕ → Type 0
  -- the second book has all that the first has
  pub grows : B → B → Type 0

-- an outline that suits
pub record IsSuited {R B : Type 0} (z : Recording R B) (o : Outlined) : Type 0 where
  pub suits : z.suits o
  pub kept : IsOutline (shape_of o)

-- a recorder and a book of an outline that suits
pub record IsOf {R B : Type 0} (z : Recording R B) (o : Outlined) (r : R) (b : B) : Type 0 where
  pub suited : IsSuited z o
  pub recorder : z.is_of o r
  pub book : z.book_is_of o b

pub record IsRecording (R B : Type 0) (order : Order R) (z : Recording R B) : Type 0 where
  -- what is of an outline stays so, and lengths
  pub first_is_of : (o : Outlined) → IsSuited z o → z.is_of o (z.first o)
  pub first_length : (o : Outlined) → IsSuited z o → z.length_of (z.first o) ≤ 1
  pub first_book_is_of : (o : Outlined) → IsSuited z o → z.book_is_of o (z.first_book o)
  pub gone_is_of : (o : Outlined) (r : R) (b : B) (n k : ℕ) → IsOf z o r b → Contains o.edges (n, k)
      → k < length o.nodes → IsOf z o (z.gone o r b n k) (z.gone_book o r b n k)
  pub gone_length : (o : Outlined) (r : R) (b : B) (n k : ℕ) → IsOf z o r b → Contains o.edges (n, k)
      → k < length o.nodes → z.length_of (z.gone o r b n k) ≤ z.length_of r + 1
  pub finished_is_of : (o : Outlined) (r : R) (b : B) (n : ℕ) → IsOf z o r b → n < length o.nodes
      → z.book_is_of o (z.finished o r b n)
  pub alike : (o : Outlined) (r s : R) → IsSuited z o → z.is_of o r → z.is_of o s → order.alike r s
  pub joined_is_of : (o : Outlined) (r s : R) → IsSuited z o → z.is_of o r → z.is_of o s → z.is_of o (order.joined r s)
  pub joined_length : (r s : R) → order.alike r s → z.length_of (order.joined r s) ≤ max (z.length_of r) (z.length_of s)
  -- no call takes anything out of a book
  pub grows_itself : (b : B) → z.grows b b
  pub grows_farther : (a b c : B) → z.grows a b → z.grows b c → z.grows a c
  pub gone_grows : (o : Outlined) (r : R) (b : B) (n k : ℕ) → IsOf z o r b → Contains o.edges (n, k)
      → k < length o.nodes → z.grows b (z.gone_book o r b n k)
  pub finished_grows : (o : Outlined) (r : R) (b : B) (n : ℕ) → IsOf z o r b → n < length o.nodes
      → z.grows b (z.finished o r b n)
  pub covers_grown : (o : Outlined) (r : R) (a b : B) (past : List ℕ) → z.grows a b → z.covers o r a past
      → z.covers o r b past
  pub sums_up_grown : (o : Outlined) (a b : B) (past : List ℕ) → z.grows a b → z.sums_up o a past → z.sums_up o b past
  -- what is above covers as much
  pub above_covers : (o : Outlined) (r s : R) (b : B) (past : List ℕ) → order.under r s → z.covers o r b past
      → z.covers o s b past
  -- the trace of node 0 alone, one that goes on, and one that ends are covered
  pub first_covers : (o : Outlined) (b : B) → IsSuited z o → z.book_is_of o b → z.covers o (z.first o) b (0 ∷ [])
  pub gone_covers : (o : Outlined) (r : R) (b : B) (n k : ℕ) (past : List ℕ) → IsOf z o r b
      → IsTrace (shape_of o) (k ∷ n ∷ past) → z.covers o r b (n ∷ past)
      → z.covers o (z.gone o r b n k) (z.gone_book o r b n k) (k ∷ n ∷ past)
  pub finished_covers : (o : Outlined) (r : R) (b : B) (n : ℕ) (past : List ℕ) → IsOf z o r b
      → IsTrace (shape_of o) (n ∷ past) → z.covers o r b (n ∷ past)
      → z.sums_up o (z.finished o r b n) (n ∷ past)
  -- and of one run alone there are exactly its own numbers
  pub first_sharp : (o : Outlined) → IsSuited z o → z.sharp o (z.first o) (z.first_book o) (0 ∷ [])
  pub gone_sharp : (o : Outlined) (r : R) (b : B) (n k : ℕ) (past : List ℕ) → IsOf z o r b
      → IsTrace (shape_of o) (k ∷ n ∷ past) → z.sharp o r b (n ∷ past)
      → z.sharp o (z.gone o r b n k) (z.gone_book o r b n k) (k ∷ n ∷ past)
  pub finished_sharp : (o : Outlined) (r : R) (b : B) (n : ℕ) (past : List ℕ) → IsOf z o r b
      → IsTrace (shape_of o) (n ∷ past) → z.sharp o r b (n ∷ past)
      → z.exact o (z.finished o r b n) (n ∷ past)
