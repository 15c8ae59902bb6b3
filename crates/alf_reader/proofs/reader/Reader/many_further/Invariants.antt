use Rattle.std.specs.Prelude.{◌≡◌, ◌≤◌, ℕ, List, length}
use Rattle.grammar.specs.Rows.{CountSoFar}
use Rattle.alf_reader.specs.Grammar.{further}
use Rattle.alf_reader.specs.Reading.{position}
use Rattle.alf_reader.proofs.reader.Reader.many_further.Given as goal

-- the list has as many sizes as were read, of so many
pub record AreCounted (sizes : List ℕ) (counter count : ℕ) : Type 0 where
  pub counted : length sizes ≡ counter
  pub within : counter ≤ count

abbrev pub invariant-loop : goal.invariant-loop
invariant-loop l = CountSoFar (further l.op) l.count l.counter l.sizes.items (position l.self) (position l.fn.self)
    × AreCounted l.sizes.items l.counter l.count
