-- The program of C that `generate` makes.
--   loops_line k       two loops, one in the other: the outer one has k turns, and the inner one as many as it has had
--   loops_to n         such lines for 1 to n
--   first_line, last_line   the lines before these and behind them
--   made_text n        the program
use Rattle.std.specs.Prelude.{ℕ, zero, suc, List, [], ◌++◌, codes, decimal}

-- two loops, one in the other
unfoldable pub outer_start : List ℕ
outer_start = codes "for (i = 0; i < "

unfoldable pub inner_loop : List ℕ
inner_loop = codes "; i = i + 1) for (j = 0; j < i; j = j + 1) s = s + j;\n"

abbrev pub loops_line : ℕ → List ℕ
loops_line k = outer_start ++ (decimal k ++ inner_loop)

-- such lines for 1 to n
abbrev pub loops_to : ℕ → List ℕ
loops_to zero = []
loops_to (suc k) = loops_to k ++ loops_line (suc k)

-- the lines before these and behind them
unfoldable pub first_line : List ℕ
first_line = codes "int main(void) { int i; int j; int s = 0;\n"

unfoldable pub last_line : List ℕ
last_line = codes "return s; }\n"

-- the program
abbrev pub made_text : ℕ → List ℕ
made_text n = first_line ++ (loops_to n ++ last_line)
