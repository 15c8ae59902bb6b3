-- The limits of texts of C.
--   most_functions   functions that are defined
--   most_frames      variables, parameters, and calls of functions that give something
--   most_elements    elements of arrays in all
--   most_depth       operators in one another
--   most_parens      parentheses in one another
--   most_nesting     statements in one another
use Rattle.std.specs.Prelude.{ℕ}

abbrev pub most_functions : ℕ
most_functions = 256

abbrev pub most_frames : ℕ
most_frames = 256

abbrev pub most_elements : ℕ
most_elements = 8192

abbrev pub most_depth : ℕ
most_depth = 10

abbrev pub most_parens : ℕ
most_parens = 64

abbrev pub most_nesting : ℕ
most_nesting = 32
