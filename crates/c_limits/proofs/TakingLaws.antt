-- Laws of taking.
--   Takes p            so it is of all that p spells
--   free_so   of which nothing is asked
use Rattle.std.proofs.Common.{◌≡◌, ◌≤◌, ℕ, suc, Bool, List, [], ◌∷◌, Result, Option, Some, None, refl, sym, ap, subst, ◌∙◌, arith}
use Rattle.std.specs.Prelude.{⊤}
use Rattle.grammar.specs.Form.{others_of, after, Form, bound, made, judged, AtMostOne, at_most_one}
use Rattle.c_unit.specs.Units.{Word}
use Rattle.c_grammar.specs.declared.others.Others.{Others}
use Rattle.c_grammar.specs.Tokens.{Fault, Seen, Room, Place, one, mark, fits_text}
use Rattle.c_grammar.specs.WalkLaws.{Walk, Quiet, Spelled}
use Rattle.c_limits.specs.Taking.{Good, Later}

module _ (words : List Word) where
  pub good_from : (m n : ℕ) (ts : List Seen) → m ≤ n → Good words n ts → Good words m ts
  good_from m n [] low g = tt
  good_from m n (t ∷ ts) low g = (let first = g.0 in omega (arith, first, low), g.1, g.2)

pub record Takes {A : Type 0} (p : Form Seen Room Fault A) : Type 0 where
  pub each : (at : Place) (x : A) (rest : Place) → p.Spells at x rest → Later at rest

pub same_place : (at rest : Place) → rest ≡ at → Later at rest
same_place at rest e = record { good = λ words n g. subst (λ (p : Place). Good words n p.ahead) (sym e) g; room = ap (λ (p : Place). p.room) e }

pub later_on : (at mid rest : Place) → Later at mid → Later mid rest → Later at rest
later_on at mid rest h i = record { good = λ words n g. i.good words n (h.good words n g); room = i.room ∙ h.room }

pub good_after : (words : List Word) (n : ℕ) (ts : List Seen) → Good words n ts → Good words n (others_of ts)
good_after words n [] g = tt
good_after words n (t ∷ ts) g = good_from words n (suc t.number) ts (let low = g.0 in omega (arith, low)) g.2

pub after_place : (at rest : Place) → rest ≡ after at → Later at rest
after_place at rest e =
    record { good = λ words n g. subst (λ (p : Place). Good words n p.ahead) (sym e) (good_after words n at.ahead g); room = ap (λ (p : Place). p.room) e }

pub one_takes : {A : Type 0} (fit : Seen → Result A Fault) → Takes (one fit).form
one_takes fit = record { each = λ at x rest s. after_place at rest s.1 }

pub mark_takes : (w : List ℕ) (o : Others) → Takes (mark w o).form
unfolding mark
mark_takes w o = one_takes (fits_text w o)

infixr 10 ◌>>>◌
pub ◌>>>◌ : {A B : Type 0} {p : Form Seen Room Fault A} {q : A → Form Seen Room Fault B} → Takes p
    → ((x : A) → Takes (q x)) → Takes (bound p q)
hp >>> hq = record { each = λ at y rest s. later_on at s.1 rest (hp.each at s.0 s.1 s.2) ((hq s.0).each s.1 y rest s.3) }

pub made_takes : {A : Type 0} {a : A} → Takes (made a)
made_takes = record { each = λ at x rest s. same_place at rest s.1 }

pub judged_takes : {A : Type 0} {fit : Place → Result A Fault} → Takes (judged fit)
judged_takes = record { each = λ at x rest s. same_place at rest s.1 }

module _ {A : Type 0} (goes_on : Place → Bool) (p : Form Seen Room Fault A) where
  maybe_each : Takes p → (at : Place) (o : Option A) (rest : Place) → AtMostOne goes_on p at o rest → Later at rest
  maybe_each h at None rest s = same_place at rest s.1
  maybe_each h at (Some x) rest s = h.each at x rest s.1

  pub maybe_takes : Takes p → Takes (at_most_one goes_on p)
  maybe_takes h = record { each = maybe_each h }

-- ---- as a walk

pub later_on_to : (at mid rest : Place) (P Q : Unit {0} → Type 0) → Later at mid × P tt
    → ((m : Unit {0}) → P m → Later mid rest × Q tt) → Later at rest × Q tt
later_on_to at mid rest P Q hp hq = let k = hq tt hp.1 in (later_on at mid rest hp.0 k.0, k.1)

abbrev pub later_walk : Walk
later_walk = record {
  Count = Unit {0};
  none = tt;
  join = λ m n. tt;
  none_before = λ m. refl;
  none_after = λ m. refl;
  joined = λ m n k. refl;
  Goes = λ at P rest. Later at rest × P tt;
  stays = λ at P h. (same_place at at refl, h);
  goes_on = later_on_to;
}

pub quiet_so : {A : Type 0} {p : Form Seen Room Fault A} → Takes p → Quiet later_walk p
quiet_so h = record { each = λ at x rest s. (h.each at x rest s, refl) }

pub takes_so : {A : Type 0} {p : Form Seen Room Fault A} → Quiet later_walk p → Takes p
takes_so h = record { each = λ at x rest s. (h.each at x rest s).0 }

-- of which nothing is asked
pub free_so : {A : Type 0} {p : Form Seen Room Fault A} → Takes p → Spelled later_walk p (λ x m. ⊤)
free_so h = record { each = λ at x rest s. (h.each at x rest s, tt) }
