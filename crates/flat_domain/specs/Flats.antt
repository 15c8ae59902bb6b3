-- Sets of one word, or of every word of a size.
--   FlatSet             a size, and the one word if there is one alone
--   IsFlat d            the size is 1 to 64, and the word is below 2 to it
--   Covers d x          the word x is in the set
--   has_word d x        the test for it
--   joined a b          every word, where the two differ
--   sizes_fit sizes args       the test whether there is one set of each size
--   word_at args i      the one word of operand i; after the last operand 0
--   known_word op sizes args   the operator's word, where each operand is one word
--   may_divide, must_divide    the operator divides, and the divisor may be 0, is 0
--   given op sizes args        that word, or every word of its size
--   applied op sizes args      what the operator gives
--   assumed rel a b     nothing where two words are not in the relation, else what there was
--   only d x            the word, where it is in the set
--   flat_order, flat_sets      what the traits ask for
use Rattle.std.specs.Prelude.{◌≡◌, ℕ, Bool, true, false, List, [], ◌∷◌, Option, Some, None, ◌<◌, ◌^◌, ◌==◌, ◌&&◌, nat_lt, if◌then◌else◌, slice_get}
use Rattle.alf_ops.specs.declared.operator.Op.{Op}
use Rattle.alf_ops.specs.Table.{size_of_result}
use Rattle.alf_ops.specs.Words.{value, divides}
use Rattle.domain_core.specs.declared.applied.Applied.{Applied}
use Rattle.domain_core.specs.declared.relation.Rel.{Rel}
use Rattle.domain_core.specs.Orders.{Order}
use Rattle.domain_core.specs.Relations.{operator_of}
use Rattle.domain_core.specs.WordSets.{WordSets, IsWordSize}

pub record FlatSet : Type 0 where
  pub size : ℕ
  pub word : Option ℕ

-- the word fits, if there is one
abbrev pub Fits : ℕ → Option ℕ → Type 0
Fits size None = Unit {0}
Fits size (Some word) = word < 2 ^ size

pub record IsFlat (d : FlatSet) : Type 0 where
  pub size : IsWordSize d.size
  pub fits : Fits d.size d.word

-- the word is the one, if there is one
abbrev pub IsWord : Option ℕ → ℕ → Type 0
IsWord None x = Unit {0}
IsWord (Some word) x = x ≡ word

-- the word x is in the set
abbrev pub Covers : FlatSet → ℕ → Type 0
Covers d x = IsWord d.word x × (x < 2 ^ d.size)

-- the test for it
abbrev pub allows : Option ℕ → ℕ → Bool
allows None x = true
allows (Some word) x = x == word

abbrev pub has_word : FlatSet → ℕ → Bool
has_word d x = allows d.word x && nat_lt x (2 ^ d.size)

-- the one word, and every word
abbrev pub one : ℕ → ℕ → FlatSet
one size x = record { size = size; word = Some x }

abbrev pub every : ℕ → FlatSet
every size = record { size = size; word = None }

-- the word that two have in common
abbrev pub common : Option ℕ → Option ℕ → Option ℕ
common None b = None
common (Some x) None = None
common (Some x) (Some y) = if x == y then Some x else None

abbrev pub joined : FlatSet → FlatSet → FlatSet
joined a b = record { size = a.size; word = common a.word b.word }

-- ---- operators

-- there is one set of each size
abbrev pub sizes_fit : List ℕ → List FlatSet → Bool
sizes_fit [] [] = true
sizes_fit [] (d ∷ args) = false
sizes_fit (size ∷ sizes) [] = false
sizes_fit (size ∷ sizes) (d ∷ args) = (d.size == size) && sizes_fit sizes args

-- the one word of an operand; 0 where there is no operand
abbrev pub word_of : Option FlatSet → Option ℕ
word_of None = Some 0
word_of (Some d) = d.word

abbrev pub word_at : List FlatSet → ℕ → Option ℕ
word_at args i = word_of (slice_get args i)

-- the operator's word, where each operand is one word
abbrev pub known : Op → List ℕ → Option ℕ → Option ℕ → Option ℕ → Option ℕ
known op sizes None b c = None
known op sizes (Some x) None c = None
known op sizes (Some x) (Some y) None = None
known op sizes (Some x) (Some y) (Some z) = Some (value op sizes (x ∷ y ∷ z ∷ []))

abbrev pub known_word : Op → List ℕ → List FlatSet → Option ℕ
known_word op sizes args = known op sizes (word_at args 0) (word_at args 1) (word_at args 2)

-- the word may be 0, and is 0
abbrev pub may_be_zero : Option ℕ → Bool
may_be_zero None = true
may_be_zero (Some word) = word == 0

abbrev pub is_zero : Option ℕ → Bool
is_zero None = false
is_zero (Some word) = word == 0

abbrev pub may_divide : Op → List FlatSet → Bool
may_divide op args = divides op && may_be_zero (word_at args 1)

abbrev pub must_divide : Op → List FlatSet → Bool
must_divide op args = divides op && is_zero (word_at args 1)

-- its word, or every word of its size
abbrev pub given : Op → List ℕ → List FlatSet → FlatSet
given op sizes args = record { size = size_of_result op sizes; word = known_word op sizes args }

-- what the operator gives
abbrev pub applied : Op → List ℕ → List FlatSet → Applied FlatSet
applied op sizes args = record {
  value = if must_divide op args then None else Some (given op sizes args);
  divide = may_divide op args;
}

-- ---- relations

-- the words are not known, or are in the relation
abbrev pub may_relate : Rel → ℕ → Option ℕ → Option ℕ → Bool
may_relate rel size None b = true
may_relate rel size (Some x) None = true
may_relate rel size (Some x) (Some y) = value (operator_of rel) (size ∷ []) (x ∷ y ∷ []) == 1

abbrev pub assumed : Rel → FlatSet → FlatSet → Option FlatSet
assumed rel a b = if may_relate rel a.size a.word b.word then Some a else None

-- the word, where it is in the set
abbrev pub only : FlatSet → ℕ → Option FlatSet
only d x = if has_word d x then Some (one d.size x) else None

-- ---- what the traits ask for

abbrev pub flat_order : Order FlatSet
flat_order = record {
  alike = λ a b. a.size ≡ b.size;
  under = λ a b. (a.size ≡ b.size) × ((x : ℕ) → Covers a x → Covers b x);
  joined = joined;
}

abbrev pub flat_sets : WordSets FlatSet
flat_sets = record {
  kept = IsFlat;
  size_of = λ d. d.size;
  covers = Covers;
  single = one;
  whole = every;
  has = has_word;
  applied = applied;
  assumed = assumed;
  only = only;
}
