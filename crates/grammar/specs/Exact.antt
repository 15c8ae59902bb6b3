-- Each combinator keeps that reading computes what a form says, and that it makes up no text.
--   Fewer some m n      m is less than n where some is true, and otherwise no more
--   Says p at r         what a form says of the text from a position on
--   IsExact some p      what reading gives holds, nothing else does, and some text is taken where some is true
use Rattle.std.proofs.Common.{◌≡◌, ℕ, ◌≤◌, ◌<◌, Bool, true, false, Result, Ok, Err}
use Rattle.grammar.specs.Form.{At, left, Form}

abbrev pub Fewer : Bool → ℕ → ℕ → Type 0
Fewer true m n = m < n
Fewer false m n = m ≤ n

pub ok_no_err : {A F C : Type 0} (x : A) (f : F) → ◌≡◌ {A = Result A F} (Err f) (Ok x) → C
ok_no_err x f e = absurd cc

module _ {T R F : Type 0} where
  -- what a form says of the text from a position on
  abbrev pub Says : {A : Type 0} → Form T R F A → At T R → Result (A × At T R) F → Type 0
  Says p at (Ok x) = p.Spells at x.0 x.1
  Says p at (Err f) = p.Departs at f

  pub record IsExact {A : Type 0} (some : Bool) (p : Form T R F A) : Type 0 where
    pub holds : (at : At T R) → Says p at (p.reading at)
    pub alone : (at : At T R) (r : Result (A × At T R) F) → Says p at r → p.reading at ≡ r
    pub shrinks : (at : At T R) (x : A × At T R) → p.reading at ≡ Ok x → Fewer some (left x.1) (left at)
