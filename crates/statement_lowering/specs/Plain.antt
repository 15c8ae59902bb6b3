-- Statements in which no statement stands.
--   is_plain s    it is one
use Rattle.std.specs.Prelude.{Bool, true, false}
use Rattle.c_unit.specs.Tree.{Statement, Empty, Declares, Block, If, IfElse, While, Do, For, ForAfter, Switch, Case, Default, Break, Continue, Returns, Does}

abbrev pub is_plain : Statement → Bool
is_plain (Empty token) = true
is_plain (Declares first kind locals) = true
is_plain (Block body) = false
is_plain (If condition body) = false
is_plain (IfElse condition body otherwise) = false
is_plain (While condition body) = false
is_plain (Do body condition) = false
is_plain (For condition last body) = false
is_plain (ForAfter first condition last body) = false
is_plain (Switch value body) = false
is_plain (Case token c) = true
is_plain (Default token) = true
is_plain (Break token) = true
is_plain (Continue token) = true
is_plain (Returns token value) = true
is_plain (Does effect) = true
