-- Sets of words of one size, as an analysis knows them.
--   WordSets D           what a domain names: the size and the words of a value, and what its calls answer
--   IsOnly sets d x      x is the one word of d
--   HaveSizes sets sizes args   there is one value of each size
--   HaveWords sets args xs      there is one word of each value
--   IsApplied sets op sizes args result   what the operator gives at each choice of words is in the result
--   IsAssumed sets rel a b result         each word of a that is in relation to one of b is in the result
--   IsKeptWord sets d x result            x is in the result if it is in d
--   IsWordSets D order sets   the laws of a domain
use Rattle.std.specs.Prelude.{◌≡◌, ◌↔◌, ◌<◌, ◌≤◌, ◌^◌, ℕ, Bool, true, false, List, Option, Some, None, IsSome, Contains}
use Rattle.std.specs.List.{AllZip}
use Rattle.alf_ops.specs.declared.operator.Op.{Op}
use Rattle.alf_ops.specs.Table.{result_size, operand_sizes, size_of_result}
use Rattle.alf_ops.specs.Words.{value, DividesByZero}
use Rattle.domain_core.specs.declared.applied.Applied.{Applied}
use Rattle.domain_core.specs.declared.relation.Rel.{Rel}
use Rattle.domain_core.specs.Orders.{Order}
use Rattle.domain_core.specs.Relations.{Related}

pub record WordSets (D : Type 0) : Type 1 where
  -- what each value keeps, as a normal form: the laws speak of such values alone
  pub kept : D → Type 0
  -- the size of its words, and which they are
  pub size_of : D → ℕ
  pub covers : D → ℕ → Type 0
  -- what the calls answer
  pub single : ℕ → ℕ → D
  pub whole : ℕ → D
  pub has : D → ℕ → Bool
  pub applied : Op → List ℕ → List D → Applied D
  pub assumed : Rel → D → D → Option D
  pub only : D → ℕ → Option D

-- x is the one word of d
pub record IsOnly {D : Type 0} (sets : WordSets D) (d : D) (x : ℕ) : Type 0 where
  pub is : sets.covers d x
  pub one : (y : ℕ) → sets.covers d y → y ≡ x

-- a value of this size
pub record IsOfSize {D : Type 0} (sets : WordSets D) (s : ℕ) (d : D) : Type 0 where
  pub kept : sets.kept d
  pub size : sets.size_of d ≡ s

-- there is one value of each size
abbrev pub HaveSizes : {D : Type 0} → WordSets D → List ℕ → List D → Type 0
HaveSizes sets sizes args = AllZip (λ s d. sets.size_of d ≡ s) sizes args

-- each of the values is kept
abbrev pub AreKept : {D : Type 0} → WordSets D → List D → Type 0
AreKept {D} sets args = (d : D) → Contains args d → sets.kept d

-- there is one word of each value
abbrev pub HaveWords : {D : Type 0} → WordSets D → List D → List ℕ → Type 0
HaveWords sets args xs = AllZip (λ d x. sets.covers d x) args xs

-- there is one word alone of each value
abbrev pub HaveOneWord : {D : Type 0} → WordSets D → List D → List ℕ → Type 0
HaveOneWord sets args xs = AllZip (λ d x. IsOnly sets d x) args xs

-- the value there is has the word
abbrev pub Gives : {D : Type 0} → WordSets D → Option D → ℕ → Type 0
Gives {D} sets answer x = (d : D) × (answer ≡ Some d) × sets.covers d x

-- and no other
abbrev pub GivesOnly : {D : Type 0} → WordSets D → Option D → ℕ → Type 0
GivesOnly {D} sets answer x = (d : D) × (answer ≡ Some d) × IsOnly sets d x

-- the value there is, if any, is of this size
abbrev pub GivesSize : {D : Type 0} → WordSets D → Option D → ℕ → Type 0
GivesSize {D} sets answer s = (d : D) → answer ≡ Some d → IsOfSize sets s d

-- what the operator gives at the values
pub record IsApplied {D : Type 0} (sets : WordSets D) (op : Op) (sizes : List ℕ) (args : List D)
    (answer : Applied D) : Type 0 where
  pub size : GivesSize sets answer.value (size_of_result op sizes)
  -- its word for each choice of words, and that it divides where a choice divides by 0
  pub covering : (xs : List ℕ) → HaveWords sets args xs → (DividesByZero op xs → ⊥)
      → Gives sets answer.value (value op sizes xs)
  pub divides : (xs : List ℕ) → HaveWords sets args xs → DividesByZero op xs → answer.divide ≡ true
  -- and nothing else where each value has one word
  pub sharp : (xs : List ℕ) → HaveOneWord sets args xs → (DividesByZero op xs → ⊥)
      → GivesOnly sets answer.value (value op sizes xs) × (answer.divide ≡ false)
  pub sharp_divides : (xs : List ℕ) → HaveOneWord sets args xs → DividesByZero op xs
      → (answer.value ≡ None) × (answer.divide ≡ true)

-- what is kept of a where it is in relation to b
pub record IsAssumed {D : Type 0} (sets : WordSets D) (rel : Rel) (a b : D) (answer : Option D) : Type 0 where
  pub size : GivesSize sets answer (sets.size_of a)
  pub covering : (x y : ℕ) → sets.covers a x → sets.covers b y → Related rel (sets.size_of a) x y → Gives sets answer x
  pub sharp : (x y : ℕ) → IsOnly sets a x → IsOnly sets b y → Related rel (sets.size_of a) x y → GivesOnly sets answer x
  pub sharp_none : (x y : ℕ) → IsOnly sets a x → IsOnly sets b y → (Related rel (sets.size_of a) x y → ⊥)
      → answer ≡ None

-- what is kept of d where it is the word x
pub record IsKeptWord {D : Type 0} (sets : WordSets D) (d : D) (x : ℕ) (answer : Option D) : Type 0 where
  pub size : GivesSize sets answer (sets.size_of d)
  pub covering : sets.covers d x → Gives sets answer x
  pub sharp : IsOnly sets d x → GivesOnly sets answer x
  pub sharp_none : (y : ℕ) → IsOnly sets d y → (x ≡ y → ⊥) → answer ≡ None

-- the size of a word
pub record IsWordSize (s : ℕ) : Type 0 where
  pub least : 1 ≤ s
  pub most : s ≤ 64

pub record IsWordSets (D : Type 0) (order : Order D) (sets : WordSets D) : Type 0 where
  -- each value has words of one size, and each word fits it
  pub sized : (d : D) → sets.kept d → IsWordSize (sets.size_of d)
  pub fits : (d : D) (x : ℕ) → sets.kept d → sets.covers d x → x < 2 ^ sets.size_of d
  -- values of one size are alike, and their join is of this size
  pub alike : (a b : D) → sets.kept a → sets.kept b → sets.size_of a ≡ sets.size_of b → order.alike a b
  pub joined_size : (a b : D) → sets.kept a → sets.kept b → sets.size_of a ≡ sets.size_of b
      → IsOfSize sets (sets.size_of a) (order.joined a b)
  -- what is above has each word, and two that have one and the same word alone are joined to it
  pub above : (a b : D) (x : ℕ) → order.under a b → sets.covers a x → sets.covers b x
  pub joined_one : (a b : D) (x : ℕ) → sets.kept a → sets.kept b → sets.size_of a ≡ sets.size_of b → IsOnly sets a x
      → IsOnly sets b x → IsOnly sets (order.joined a b) x
  -- one word, and every word
  pub single_size : (s x : ℕ) → IsWordSize s → x < 2 ^ s → IsOfSize sets s (sets.single s x)
  pub single_only : (s x : ℕ) → IsWordSize s → x < 2 ^ s → IsOnly sets (sets.single s x) x
  pub whole_size : (s : ℕ) → IsWordSize s → IsOfSize sets s (sets.whole s)
  pub whole_covers : (s x : ℕ) → IsWordSize s → x < 2 ^ s → sets.covers (sets.whole s) x
  -- the test for a word is right
  pub tested : (d : D) (x : ℕ) → sets.kept d → (sets.has d x ≡ true) ↔ sets.covers d x
  -- operators, relations, and one word kept
  pub applied : (op : Op) (sizes : List ℕ) (args : List D) → IsSome (result_size op sizes)
      → HaveSizes sets (operand_sizes op sizes) args → AreKept sets args
      → IsApplied sets op sizes args (sets.applied op sizes args)
  pub assumed : (rel : Rel) (a b : D) → sets.kept a → sets.kept b → sets.size_of a ≡ sets.size_of b
      → IsAssumed sets rel a b (sets.assumed rel a b)
  pub only : (d : D) (x : ℕ) → sets.kept d → IsKeptWord sets d x (sets.only d x)
