-- Statements in a row that are checked one after the other.
--   IsUnderWay defined place all rest before now marks labels   the rest has the faults of all, and the outer scopes are as they were
use Rattle.std.proofs.Common.{◌≡◌, ◌+◌, ◌<◌, ℕ, suc, List, [], ◌∷◌, ◌++◌, length, map, drop, drop-cons, get_or, refl, ap, sym, ◌∙◌, arith}
use Rattle.c_unit.specs.declared.statement.Stmt.{Stmt}
use Rattle.c_unit.specs.declared.types.Integer.{Integer}
use Rattle.c_unit.specs.Units.{Word}
use Rattle.c_unit.specs.Tree.{LocalTree, Statement, Empty, Declares, Block, If, IfElse, While, Do, For, ForAfter, Switch, Case, Default, Break, Continue, Returns, Does, statement_of, statements_of}
use Rattle.c_rules.specs.Faults.{Fault}
use Rattle.c_rules.specs.Names.{Scope}
use Rattle.c_rules.specs.Statements.{Around, around_after, scopes_after, statement_faults, statements_faults, with_local, with_locals}
use Rattle.c_scopes.specs.Views.{Known, others, entered, left}
use Rattle.c_check.specs.declared.place.Place.{Place}
use Rattle.c_check.specs.Surroundings.{Marks, around_of}
use Rattle.c_check.specs.Afterwards.{Stays, known_after}

pub record IsUnderWay (defined : List ℕ) (place : Place) (all rest : List Stmt) (before now : Known)
    (marks labels : Marks) : Type 0 where
  pub stays : Stays before now
  pub faults : statements_faults before.words defined (around_of place marks) before.scopes (statements_of (map statement_of all))
      ≡ statements_faults before.words defined (around_of place labels) now.scopes (statements_of (map statement_of rest))

-- ---- scopes

other_locals : (kind : Integer) (scopes : List Scope) (locals : List LocalTree)
    → others (with_locals kind scopes locals) ≡ others scopes
other_locals kind scopes [] = refl
other_locals kind [] (local ∷ locals) = other_locals kind (with_local kind [] local) locals
other_locals kind (scope ∷ scopes) (local ∷ locals) = other_locals kind (with_local kind (scope ∷ scopes) local) locals

-- a statement declares in the innermost scope alone
pub others_after : (scopes : List Scope) (s : Statement) → others (scopes_after scopes s) ≡ others scopes
others_after scopes (Empty token) = refl
others_after scopes (Declares first kind locals) = other_locals kind scopes locals
others_after scopes (Block body) = refl
others_after scopes (If condition body) = refl
others_after scopes (IfElse condition body otherwise) = refl
others_after scopes (While condition body) = refl
others_after scopes (Do body condition) = refl
others_after scopes (For condition after body) = refl
others_after scopes (ForAfter first condition after body) = refl
others_after scopes (Switch value body) = refl
others_after scopes (Case token c) = refl
others_after scopes (Default token) = refl
others_after scopes (Break token) = refl
others_after scopes (Continue token) = refl
others_after scopes (Returns token value) = refl
others_after scopes (Does effect) = refl

-- a scope that a statement had for itself is left
pub left_after : (known : Known) (s : Statement) → left (known_after (entered known) s) ≡ known
left_after known s = ap (λ (scopes : List Scope). record known { scopes = scopes }) (others_after ([] ∷ known.scopes) s)

-- ---- a row

pub row_goes_on : (defined : List ℕ) (place : Place) (row : List Stmt) (i : ℕ) (s : Stmt) (before now next : Known) (marks labels after : Marks)
    → i < length row → s ≡ get_or row i s → IsUnderWay defined place row (drop i row) before now marks labels
    → statement_faults now.words defined (around_of place labels) now.scopes (statement_of s) ≡ [] → next ≡ known_after now (statement_of s)
    → around_of place after ≡ around_after now.words (around_of place labels) (statement_of s) → IsUnderWay defined place row (drop (i + 1) row) before next marks after
row_goes_on defined place row i s before now next marks labels after low is way none known around =
    let words = ap (λ (k : Known). k.words) known in
    let scopes = ap (λ (k : Known). k.scopes) known in
    let further : suc i ≡ i + 1 = omega arith in
    let cut = drop-cons row i s low ∙ ap (λ (x : Stmt). x ∷ drop (suc i) row) (sym is) ∙ ap (λ (n : ℕ). s ∷ drop n row) further in
    let rest = statements_of (map statement_of (drop (i + 1) row)) in
    let here = ap (λ (ss : List Stmt). statements_faults before.words defined (around_of place labels) now.scopes (statements_of (map statement_of ss))) cut in
    let clear = ap (λ (w : List Word). statement_faults w defined (around_of place labels) now.scopes (statement_of s)) (sym way.stays.words) ∙ none in
    let skipped = ap (λ (fs : List Fault). fs ++ statements_faults before.words defined (around_after before.words (around_of place labels) (statement_of s)) (scopes_after now.scopes (statement_of s)) rest) clear in
    let moved = ap (λ (a : Around). statements_faults before.words defined a (scopes_after now.scopes (statement_of s)) rest)
    (ap (λ (w : List Word). around_after w (around_of place labels) (statement_of s)) (sym way.stays.words) ∙ sym around) in
    let there = ap (λ (ss : List Scope). statements_faults before.words defined (around_of place after) ss rest) (sym scopes) in
    record {
      stays = record { words = words ∙ way.stays.words; outer = ap (λ (ss : List Scope). others ss) scopes ∙ others_after now.scopes (statement_of s) ∙ way.stays.outer };
      faults = way.faults ∙ here ∙ skipped ∙ moved ∙ there;
    }
