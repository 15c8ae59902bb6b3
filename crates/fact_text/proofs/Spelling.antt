-- What tokens a form takes where it spells a value.
--   mark_of token, marks_of tokens   the words, without their places
--   Placed tokens          each token is as far from the end as its bytes and the tokens after it take
--   Took at rest marks     from one position to the other these marks were taken
--   Spelt p marks Q        where p spells x, it takes the marks of x, and Q holds of x
--   Goes p Q               where p spells x, it takes some marks, and Q holds of x and of these
--   Closes p               where p spells a value, no token is left
use Rattle.std.proofs.Common.{◌≡◌, ◌+◌, ℕ, zero, suc, Bool, List, [], ◌∷◌, ◌++◌, length, Result, Ok, Option, Some, None, sym, ap, subst, ◌∙◌, append_assoc, append-nil}
use Rattle.std.specs.List.{flat_map}
use Rattle.grammar.specs.Form.{first_of, others_of, Form, fit_first, one, made, bound, InARow, row, AtMostOne, at_most_one, judged, refused}
use Rattle.grammar.specs.Exact.{ok_no_err}
use Rattle.grammar.specs.Keeping.{Any}
use Rattle.grammar.specs.Chain.{InTurn, chain}
use Rattle.fact_words.specs.Tokens.{Lexeme}
use Rattle.fact_words.specs.Printed.{Mark, left_before}
use Rattle.fact_words.specs.Canonical.{if_any}
use Rattle.fact_words.specs.Numbers.{Fault, Syntax}
use Rattle.fact_text.specs.Grammar.{Place}

abbrev pub mark_of : Lexeme → Mark
mark_of t = record { line = t.line; text = t.text }

abbrev pub marks_of : List Lexeme → List Mark
marks_of [] = []
marks_of (t ∷ ts) = mark_of t ∷ marks_of ts

-- each token is as far from the end as its bytes and the tokens after it take
abbrev pub Placed : List Lexeme → Type 0
Placed [] = Unit {0}
Placed (t ∷ ts) = (t.left ≡ length t.text + left_before ts) × Placed ts

abbrev pub FormOf : Type 0 → Type 1
FormOf A = Form Lexeme (Unit {0}) Fault A

-- from one position to the other these marks were taken
pub record Took (at rest : Place) (marks : List Mark) : Type 0 where
  pub taken : marks_of at.ahead ≡ marks ++ marks_of rest.ahead
  pub placed : Placed rest.ahead

pub record Spelt {A : Type 0} (p : FormOf A) (marks : A → List Mark) (Q : A → Type 0) : Type 0 where
  pub each : (at : Place) (x : A) (rest : Place) → Placed at.ahead → p.Spells at x rest → Took at rest (marks x) × Q x

pub record Goes {A : Type 0} (p : FormOf A) (Q : A → List Mark → Type 0) : Type 0 where
  pub each : (at : Place) (x : A) (rest : Place) → Placed at.ahead → p.Spells at x rest
      → (marks : List Mark) × Took at rest marks × Q x marks

pub record Closes {A : Type 0} (p : FormOf A) : Type 0 where
  pub each : (at : Place) (x : A) (rest : Place) → Placed at.ahead → p.Spells at x rest → rest.ahead ≡ []

-- ---- positions

-- nothing is taken
took_none : (at rest : Place) → rest ≡ at → Placed at.ahead → Took at rest []
took_none at rest e g = record { taken = ap (λ (p : Place). marks_of p.ahead) (sym e); placed = subst (λ (p : Place). Placed p.ahead) (sym e) g }

took_both : (at mid rest : Place) (xs ys : List Mark) → Took at mid xs → Took mid rest ys → Took at rest (xs ++ ys)
took_both at mid rest xs ys h i = record {
  taken = h.taken ∙ ap (λ (zs : List Mark). xs ++ zs) i.taken ∙ sym (append_assoc xs ys (marks_of rest.ahead));
  placed = i.placed;
}

-- ---- one part and then another

then_goes : {A B : Type 0} {p : FormOf A} {q : A → FormOf B} {marks : A → List Mark} {P : A → Type 0} {Q : B → List Mark → Type 0}
    → Spelt p marks P → ((x : A) → P x → Goes (q x) (λ y others. Q y (marks x ++ others))) → Goes (bound p q) Q
then_goes {marks = marks} hp hq = record {
  each = λ at y rest g h.
      let k = hp.each at h.0 h.1 g h.2 in
      let i = (hq h.0 k.1).each h.1 y rest k.0.placed h.3 in
      (marks h.0 ++ i.0, took_both at h.1 rest (marks h.0) i.0 k.0 i.1, i.2);
}

infixr 10 ◌>>-◌
pub ◌>>-◌ : {A B : Type 0} {p : FormOf A} {q : A → FormOf B} {marks : A → List Mark} {P : A → Type 0} {Q : B → List Mark → Type 0}
    → Spelt p marks P → ((x : A) → P x → Goes (q x) (λ y others. Q y (marks x ++ others))) → Goes (bound p q) Q
hp >>- hq = then_goes hp hq

pub done : {A : Type 0} {a : A} {Q : A → List Mark → Type 0} → Q a [] → Goes (made a) Q
done {A = A} {Q = Q} h = record { each = λ at x rest g s. ([], took_none at rest s.1 g, subst (λ (x : A). Q x []) (sym s.0) h) }

pub keeps : {A : Type 0} {p : FormOf A} {marks : A → List Mark} {P : A → Type 0} {Q : A → List Mark → Type 0}
    → Spelt p marks P → ((x : A) → P x → Q x (marks x)) → Goes p Q
keeps {marks = marks} h f = record { each = λ at x rest g s. let k = h.each at x rest g s in (marks x, k.0, f x k.1) }

-- a rule from its parts
pub spelt : {A : Type 0} {p : FormOf A} {marks : A → List Mark} {Q : A → Type 0} → Goes p (λ x ms. (ms ≡ marks x) × Q x)
    → Spelt p marks Q
spelt h = record { each = λ at x rest g s. let k = h.each at x rest g s in (subst (Took at rest) k.2.0 k.1, k.2.1) }

-- a rule from its parts, where nothing further is said of its values
pub takes : {A : Type 0} {p : FormOf A} {marks : A → List Mark} → Goes p (λ x ms. ms ≡ marks x) → Spelt p marks Any
takes h = record { each = λ at x rest g s. let k = h.each at x rest g s in (subst (Took at rest) k.2 k.1, tt) }

-- ---- single tokens

one_took : {A : Type 0} (fit : Lexeme → Result A Fault) (marks : A → List Mark)
    → ((t : Lexeme) (x : A) → fit t ≡ Ok x → mark_of t ∷ [] ≡ marks x) → (ts : List Lexeme) → Placed ts
    → (at : Place) (x : A)
    → fit_first (λ (at : Place). Syntax 0) (λ t (at : Place). fit t) (first_of ts) at ≡ Ok x → (marks_of ts ≡ marks x ++ marks_of (others_of ts)) × Placed (others_of ts)
one_took fit marks h [] g at x e = ok_no_err x (Syntax 0) e
one_took fit marks h (t ∷ ts) g at x e = (ap (λ (ms : List Mark). ms ++ marks_of ts) (h t x e), g.1)

pub one_spelt : {A : Type 0} (fit : Lexeme → Result A Fault) (marks : A → List Mark)
    → ((t : Lexeme) (x : A) → fit t ≡ Ok x → mark_of t ∷ [] ≡ marks x)
    → Spelt (one (λ (at : Place). Syntax 0) (λ t (at : Place). fit t)) marks Any
one_spelt fit marks h = record {
  each = λ at x rest g s.
      let k = one_took fit marks h at.ahead g at x s.0 in (
        record {
          taken = k.0 ∙ ap (λ (p : Place). marks x ++ marks_of p.ahead) (sym s.1);
          placed = subst (λ (p : Place). Placed p.ahead) (sym s.1) k.1;
        },
        tt,
      );
}

pub judged_spelt : {A : Type 0} (r : Result A Fault) → Spelt (judged (λ (at : Place). r)) (λ x. []) (λ x. r ≡ Ok x)
judged_spelt r = record { each = λ at x rest g s. (took_none at rest s.1 g, s.0) }

pub refused_spelt : {A : Type 0} {fault : Place → Fault} {marks : A → List Mark} {Q : A → Type 0}
    → Spelt (refused fault) marks Q
refused_spelt = record { each = λ at x rest g s. absurd s }

-- ---- lists

module _ {A : Type 0} (goes : Place → Bool) (p : FormOf A) (marks : A → List Mark) (h : Spelt p marks Any) where
  row_took : (at : Place) (xs : List A) (rest : Place) → Placed at.ahead → InARow goes p at xs rest
      → Took at rest (flat_map marks xs)
  row_took at [] rest g s = took_none at rest s g
  row_took at (x ∷ xs) rest g s =
      let k = (h.each at x s.1.0 g s.1.1).0 in
      took_both at s.1.0 rest (marks x) (flat_map marks xs) k (row_took s.1.0 xs rest k.placed s.1.2)

  pub row_spelt : Spelt (row goes p) (flat_map marks) Any
  row_spelt = record { each = λ at xs rest g s. (row_took at xs rest g s.0, tt) }

  maybe_took : (at : Place) (o : Option A) (rest : Place) → Placed at.ahead → AtMostOne goes p at o rest
      → Took at rest (if_any marks o)
  maybe_took at None rest g s = took_none at rest s.1 g
  maybe_took at (Some x) rest g s = (h.each at x rest g s.1).0

  pub maybe_spelt : Spelt (at_most_one goes p) (if_any marks) Any
  maybe_spelt = record { each = λ at o rest g s. (maybe_took at o rest g s, tt) }

-- ---- lists whose lines hang on those before

-- the lines of the members, where the members before them are done
abbrev pub all_lines : {A : Type 0} → (List A → A → List Mark) → List A → List A → List Mark
all_lines line done [] = []
all_lines line done (x ∷ xs) = line done x ++ all_lines line (done ++ x ∷ []) xs

-- one member more, and its line
pub record OneMore {A : Type 0} (line : List A → A → List Mark) (done more : List A) (marks : List Mark) : Type 0 where
  pub member : A
  pub pushed : more ≡ done ++ member ∷ []
  pub lines : marks ≡ line done member

-- members were added, and these are their lines
pub record Grown {A : Type 0} (line : List A → A → List Mark) (done all : List A) (at rest : Place) : Type 0 where
  pub members : List A
  pub pushed : all ≡ done ++ members
  pub lines : Took at rest (all_lines line done members)

module _ {A : Type 0} (goes : List A → Place → Bool) (p : List A → FormOf (List A)) (line : List A → A → List Mark) (each : (done : List A) → Goes (p done) (OneMore line done)) where
  grown : (n : ℕ) (done : List A) (at : Place) (all : List A) (rest : Place) → Placed at.ahead
      → InTurn goes p n done at all rest → Grown line done all at rest
  grown zero done at all rest g s = record { members = []; pushed = s.0 ∙ sym (append-nil done); lines = took_none at rest s.1 g }
  grown (suc n) done at all rest g s =
      let k = (each done).each at s.1.0 s.1.1 g s.1.2 in
      let added = k.2 in
      let x = added.member in
      let turns : InTurn goes p n (done ++ x ∷ []) s.1.1 all rest = subst (λ (more : List A). InTurn goes p n more s.1.1 all rest) added.pushed s.1.3 in
      let i = grown n (done ++ x ∷ []) s.1.1 all rest k.1.placed turns in
      record {
        members = x ∷ i.members;
        pushed = i.pushed ∙ append_assoc done (x ∷ []) i.members;
        lines = took_both at s.1.1 rest (line done x) (all_lines line (done ++ x ∷ []) i.members) (subst (Took at s.1.1) added.lines k.1) i.lines;
      }

  pub chain_spelt : Spelt (chain goes p []) (all_lines line []) Any
  chain_spelt = record {
    each = λ at all rest g s.
        let k = grown s.0.0 [] at all rest g s.0.1 in
        (subst (λ (all : List A). Took at rest (all_lines line [] all)) (sym k.pushed) k.lines, tt);
  }

-- ---- where no token is left

pub then_closes : {A B : Type 0} {p : FormOf A} {q : A → FormOf B} {marks : A → List Mark} {P : A → Type 0}
    → Spelt p marks P → ((x : A) → Closes (q x)) → Closes (bound p q)
then_closes hp hq = record { each = λ at y rest g h. let k = hp.each at h.0 h.1 g h.2 in (hq h.0).each h.1 y rest k.0.placed h.3 }

pub closes_as : {A B : Type 0} {p : FormOf A} {f : A → B} → Closes p → Closes (bound p (λ x. made (f x)))
closes_as hp = record { each = λ at y rest g h. subst (λ (r : Place). r.ahead ≡ []) (sym h.3.1) (hp.each at h.0 h.1 g h.2) }
