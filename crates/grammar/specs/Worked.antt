-- A small grammar, to be worked out: tokens are numbers, and each number but 0 is an item.
--   read rule tokens   what the rule reads of the tokens
--   item               one number; a departure tells how many tokens are left
--   numbers            as many items as there are
--   lessened n         n less each of the items that follow
use Rattle.std.specs.Prelude.{ℕ, ◌-◌, ◌==◌, not, Bool, true, false, List, Result, Ok, Err, if◌then◌else◌}
use Rattle.std.specs.Option.{option_map_or}
use Rattle.grammar.specs.Form.{At, first, left}
use Rattle.grammar.specs.Rule.{Rule, token, value, many, ◌>>=◌}
use Rattle.grammar.specs.Chain.{grow}

abbrev pub Place : Type 0
Place = At ℕ (Unit {0})

abbrev pub at : List ℕ → Place
at tokens = record { ahead = tokens; room = tt }

abbrev pub read : {some : Bool} {A : Type 0} → Rule ℕ (Unit {0}) ℕ some A → List ℕ → Result (A × Place) ℕ
read rule tokens = rule.form.reading (at tokens)

abbrev pub item : Rule ℕ (Unit {0}) ℕ true ℕ
item = token (λ at. left at) (λ t at. if t == 0 then Err (left at) else Ok t)

abbrev goes_on : Place → Bool
goes_on at = option_map_or (λ t. not (t == 0)) (first at) false

abbrev pub numbers : Rule ℕ (Unit {0}) ℕ false (List ℕ)
numbers = many goes_on item

abbrev less : ℕ → Rule ℕ (Unit {0}) ℕ true ℕ
less n = item >>= λ t. value (n - t)

abbrev pub lessened : ℕ → Rule ℕ (Unit {0}) ℕ false ℕ
lessened n = grow (λ m at. goes_on at) less n
