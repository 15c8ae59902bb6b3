-- Rules that take tokens which can be printed.
--   Good t     a token that is what its bytes are to the grammar can be printed
--   Takes p    where what p leaves is good, all that stands ahead of it is
use Rattle.std.proofs.Common.{◌≡◌, ℕ, Bool, true, false, ◌&&◌, cond, List, [], ◌∷◌, Result, Ok, Err, Option, Some, None, refl, sym, subst, ◌∙◌}
use Rattle.std.specs.Str.{bytes_eq}
use Rattle.std.proofs.lemmas.Slice.Eq.{bytes_eq-Decides}
use Rattle.grammar.specs.Form.{first_of, others_of, after, Form, fit_first, bound, made, judged, AtMostOne, at_most_one}
use Rattle.grammar.specs.Exact.{ok_no_err}
use Rattle.grammar.specs.Each.{Each}
use Rattle.c_tokens.specs.declared.token.Kind.{Kind}
use Rattle.c_tokens.specs.declared.token.Kind.TheVariants as kinds
use Rattle.c_tokens.specs.Kinds.{kind_of}
use Rattle.c_tokens.specs.Printed.{is_printed_kind, has_printed_kind, can_print}
use Rattle.c_grammar.specs.declared.symbol.Symbol.{Symbol}
use Rattle.c_grammar.specs.declared.symbol.Symbol.TheVariants as symbols
use Rattle.c_grammar.specs.declared.others.Others.{Others}
use Rattle.c_grammar.specs.Symbols.{symbol_of}
use Rattle.c_grammar.specs.Tokens.{Fault, Syntax, Seen, Room, Place, Rule, misfit, one, mark, fits_text, either, is_first}

-- a token that is what its bytes are to the grammar can be printed
abbrev pub Good : Seen → Type 0
Good t = (kind : Kind) → kind_of t.text ≡ Some kind → t.symbol ≡ symbol_of kind t.text → is_printed_kind kind ≡ true

-- where what p leaves is good, all that stands ahead of it is
pub record Takes {A : Type 0} (p : Form Seen Room Fault A) : Type 0 where
  pub each : (at : Place) (x : A) (rest : Place) → p.Spells at x rest → Each Good rest.ahead → Each Good at.ahead

pub same : (at rest : Place) → rest ≡ at → Each Good rest.ahead → Each Good at.ahead
same at rest e g = subst (λ (p : Place). Each Good p.ahead) e g

-- ---- tokens

-- a token that is something to the grammar
pub good_symbol : (t : Seen) → (t.symbol ≡ symbols.NoSymbol → ⊥) → Good t
good_symbol t h kinds.White k e = absurd (h e)
good_symbol t h kinds.Identifier k e = refl
good_symbol t h kinds.Number k e = refl
good_symbol t h kinds.Character k e = refl
good_symbol t h kinds.StringLiteral k e = refl
good_symbol t h kinds.Punctuator k e = refl
good_symbol t h kinds.Other k e = absurd (h e)
good_symbol t h kinds.OpenLiteral k e = absurd (h e)
good_symbol t h kinds.OpenComment k e = absurd (h e)

-- a token that fits by its symbol, where none that is nothing to the grammar fits
pub fitting : {A : Type 0} (fit : Symbol → Seen → Result A Fault) (t : Seen) (f : Fault) (x : A)
    → fit symbols.NoSymbol t ≡ Err f → fit t.symbol t ≡ Ok x → Good t
fitting fit t f x none e = good_symbol t (λ k. let o : fit symbols.NoSymbol t ≡ Ok x = subst (λ (s : Symbol). fit s t ≡ Ok x) k e in ok_no_err x f (sym none ∙ o))

one_first : {A : Type 0} (fit : Seen → Result A Fault) → ((t : Seen) (x : A) → fit t ≡ Ok x → Good t)
    → (ts : List Seen) (at : Place) (x : A)
    → fit_first (λ (at : Place). Syntax None) (λ (t : Seen) (at : Place). fit t) (first_of ts) at ≡ Ok x → Each Good (others_of ts) → Each Good ts
one_first fit h [] at x e g = tt
one_first fit h (t ∷ ts) at x e g = (h t x e, g)

pub one_takes : {A : Type 0} (fit : Seen → Result A Fault) → ((t : Seen) (x : A) → fit t ≡ Ok x → Good t)
    → Takes (one fit).form
one_takes fit h = record { each = λ at x rest s g. one_first fit h at.ahead at x s.0 (same (after at) rest s.1 g) }

printed_text : (w text : List ℕ) (kind : Kind) → can_print w ≡ true → text ≡ w → kind_of text ≡ Some kind
    → is_printed_kind kind ≡ true
unfolding can_print
printed_text w text kind p e k = subst (λ (o : Option Kind). has_printed_kind o ≡ true) k (rw e p)

fits_mark : (w : List ℕ) (o : Others) (t : Seen) (x : ℕ) (b : Bool) → bytes_eq t.text w ≡ b
    → cond b (Ok t.number) (Err (misfit o t)) ≡ Ok x → t.text ≡ w
fits_mark w o t x true b e = (bytes_eq-Decides t.text w).0 b
fits_mark w o t x false b e = ok_no_err x (misfit o t) e

-- the token with a text that can be printed
pub mark_takes : (w : List ℕ) (o : Others) → can_print w ≡ true → Takes (mark w o).form
unfolding mark
mark_takes w o p = one_takes (fits_text w o) (λ t x e kind k s. printed_text w t.text kind p (fits_mark w o t x (bytes_eq t.text w) refl e) k)

-- the next token is something to the grammar
pub first_good : (is : Symbol → Bool) (ts : List Seen) → is symbols.NoSymbol ≡ false
    → is_first (λ (t : Seen). is t.symbol) (first_of ts) ≡ true → Each Good (others_of ts) → Each Good ts
first_good is [] none e g = tt
first_good is (t ∷ ts) none e g = (good_symbol t (λ k. let b : is symbols.NoSymbol ≡ true = subst (λ (s : Symbol). is s ≡ true) k e in absurd cc), g)

-- ---- one part and then another

infixr 10 ◌>>>◌
pub ◌>>>◌ : {A B : Type 0} {p : Form Seen Room Fault A} {q : A → Form Seen Room Fault B} → Takes p
    → ((x : A) → Takes (q x)) → Takes (bound p q)
hp >>> hq = record { each = λ at y rest s g. hp.each at s.0 s.1 s.2 ((hq s.0).each s.1 y rest s.3 g) }

pub made_takes : {A : Type 0} {a : A} → Takes (made a)
made_takes = record { each = λ at x rest s g. same at rest s.1 g }

pub judged_takes : {A : Type 0} {fit : Place → Result A Fault} → Takes (judged fit)
judged_takes = record { each = λ at x rest s g. same at rest s.1 g }

-- no token is taken
pub same_ahead : {A : Type 0} {p : Form Seen Room Fault A}
    → ((at : Place) (x : A) (rest : Place) → p.Spells at x rest → rest.ahead ≡ at.ahead) → Takes p
same_ahead h = record { each = λ at x rest s g. subst (λ (ts : List Seen). Each Good ts) (h at x rest s) g }

pub either_takes : {some : Bool} {A : Type 0} (b : Bool) (p q : Rule some A) → Takes p.form → Takes q.form
    → Takes (either b p q).form
either_takes true p q h i = h
either_takes false p q h i = i

-- ---- lists and chains

module _ {A : Type 0} (goes_on : Place → Bool) (p : Form Seen Room Fault A) where
  maybe_each : Takes p → (at : Place) (o : Option A) (rest : Place) → AtMostOne goes_on p at o rest
      → Each Good rest.ahead → Each Good at.ahead
  maybe_each h at None rest s g = same at rest s.1 g
  maybe_each h at (Some x) rest s g = h.each at x rest s.1 g

  pub maybe_takes : Takes p → Takes (at_most_one goes_on p)
  maybe_takes h = record { each = maybe_each h }

pub first_holds : (a b : Bool) → (a && b) ≡ true → a ≡ true
first_holds true b e = refl
first_holds false b e = absurd cc
