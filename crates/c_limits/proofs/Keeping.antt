-- What is true of what rules spell.
--   Fine t     a token that is an operator with = is none of && and ||
--   Keeps p    where the tokens ahead are fine, those that p leaves are
--   Makes p P  and P holds of what p spells
use Rattle.std.proofs.Common.{◌≡◌, ℕ, Bool, true, false, not, List, [], ◌∷◌, Result, Ok, Option, Some, None, sym, subst}
use Rattle.grammar.specs.Form.{first_of, others_of, after, Form, fit_first, bound, made, judged, AtMostOne, at_most_one}
use Rattle.grammar.specs.Each.{Each}
use Rattle.grammar.specs.Exact.{ok_no_err}
use Rattle.c_rules.specs.Expressions.{is_of_conditions}
use Rattle.c_grammar.specs.declared.symbol.Symbol.{Symbol}
use Rattle.c_grammar.specs.declared.symbol.Symbol.TheVariants as symbols
use Rattle.c_grammar.specs.declared.others.Others.{Others}
use Rattle.c_grammar.specs.Tokens.{Fault, Syntax, Seen, Room, Place, Rule, one, mark, either}

abbrev pub is_plain_update : Symbol → Bool
is_plain_update (symbols.Update op) = not (is_of_conditions op)
is_plain_update _ = true

abbrev pub Fine : Seen → Type 0
Fine t = is_plain_update t.symbol ≡ true

pub record Keeps {A : Type 0} (p : Form Seen Room Fault A) : Type 0 where
  pub each : (at : Place) (x : A) (rest : Place) → p.Spells at x rest → Each Fine at.ahead → Each Fine rest.ahead

pub record Makes {A : Type 0} (p : Form Seen Room Fault A) (P : A → Type 0) : Type 0 where
  pub each : (at : Place) (x : A) (rest : Place) → p.Spells at x rest → Each Fine at.ahead → P x × Each Fine rest.ahead

pub same : (at rest : Place) → rest ≡ at → Each Fine at.ahead → Each Fine rest.ahead
same at rest e g = subst (λ (p : Place). Each Fine p.ahead) (sym e) g

pub others_fine : (ts : List Seen) → Each Fine ts → Each Fine (others_of ts)
others_fine [] g = tt
others_fine (t ∷ ts) g = g.1

-- ---- rules that keep tokens

pub one_keeps : {A : Type 0} {fit : Seen → Result A Fault} → Keeps (one fit).form
one_keeps = record { each = λ at x rest s g. same (after at) rest s.1 (others_fine at.ahead g) }

pub mark_keeps : (w : List ℕ) (o : Others) → Keeps (mark w o).form
unfolding mark
mark_keeps w o = one_keeps

infixr 10 ◌>>>◌
pub ◌>>>◌ : {A B : Type 0} {p : Form Seen Room Fault A} {q : A → Form Seen Room Fault B} → Keeps p
    → ((x : A) → Keeps (q x)) → Keeps (bound p q)
hp >>> hq = record { each = λ at y rest s g. (hq s.0).each s.1 y rest s.3 (hp.each at s.0 s.1 s.2 g) }

pub made_keeps : {A : Type 0} {a : A} → Keeps (made a)
made_keeps = record { each = λ at x rest s g. same at rest s.1 g }

pub judged_keeps : {A : Type 0} {fit : Place → Result A Fault} → Keeps (judged fit)
judged_keeps = record { each = λ at x rest s g. same at rest s.1 g }

pub same_ahead : {A : Type 0} {p : Form Seen Room Fault A}
    → ((at : Place) (x : A) (rest : Place) → p.Spells at x rest → rest.ahead ≡ at.ahead) → Keeps p
same_ahead h = record { each = λ at x rest s g. subst (λ (ts : List Seen). Each Fine ts) (sym (h at x rest s)) g }

pub either_keeps : {some : Bool} {A : Type 0} (b : Bool) (p q : Rule some A) → Keeps p.form → Keeps q.form
    → Keeps (either b p q).form
either_keeps true p q h i = h
either_keeps false p q h i = i

module _ {A : Type 0} (goes_on : Place → Bool) (p : Form Seen Room Fault A) where
  maybe_each : Keeps p → (at : Place) (o : Option A) (rest : Place) → AtMostOne goes_on p at o rest → Each Fine at.ahead
      → Each Fine rest.ahead
  maybe_each h at None rest s g = same at rest s.1 g
  maybe_each h at (Some x) rest s g = h.each at x rest s.1 g

  pub maybe_keeps : Keeps p → Keeps (at_most_one goes_on p)
  maybe_keeps h = record { each = maybe_each h }

-- ---- one token

one_made : {A : Type 0} {P : A → Type 0} (fit : Seen → Result A Fault)
    → ((t : Seen) (x : A) → Fine t → fit t ≡ Ok x → P x) → (ts : List Seen) (at : Place) (x : A)
    → fit_first (λ (at : Place). Syntax None) (λ (t : Seen) (at : Place). fit t) (first_of ts) at ≡ Ok x → Each Fine ts → P x
one_made fit h [] at x e g = ok_no_err x (Syntax None) e
one_made fit h (t ∷ ts) at x e g = h t x g.0 e

pub one_makes : {A : Type 0} {P : A → Type 0} (fit : Seen → Result A Fault)
    → ((t : Seen) (x : A) → Fine t → fit t ≡ Ok x → P x) → Makes (one fit).form P
one_makes fit h = record { each = λ at x rest s g. (one_made fit h at.ahead at x s.0 g, same (after at) rest s.1 (others_fine at.ahead g)) }
