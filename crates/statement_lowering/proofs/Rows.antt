-- Statements in a row that are put one after the other.
--   row_put                     one statement more, and its items
--   row_labels, row_calls       its labels and its calls
--   row_elements, row_places    the elements of its arrays, and the labels of a switch
--   row_stays                   the outer scopes are as they were
use Rattle.std.proofs.Common.{◌≡◌, ◌+◌, ◌<◌, ◌≤◌, ◌++◌, ℕ, suc, List, ◌∷◌, Option, None, Some, map, length, drop, drop-cons, get_or, refl, ap, sym, ◌∙◌, subst, arith}
use Rattle.alf_program.specs.declared.program.Item.{Item}
use Rattle.alf_program.specs.Tree.{BodyItem, item_of}
use Rattle.c_unit.specs.declared.statement.Stmt.{Stmt}
use Rattle.c_unit.specs.Tree.{Statement, Statements, Then, statement_of, statements_of}
use Rattle.c_unit.specs.Limits.{most_elements}
use Rattle.c_unit.specs.Units.{Word}
use Rattle.c_rules.specs.Names.{Scope}
use Rattle.c_rules.specs.Counts.{elements_in, all_elements_in}
use Rattle.c_rules.specs.Statements.{scopes_after}
use Rattle.c_scopes.specs.Views.{Known, others}
use Rattle.c_meaning.specs.Objects.{Program}
use Rattle.c_lowered.specs.Conditions.{Within}
use Rattle.c_lowered.specs.Statements.{Around, calls_in, calls_in_all, items_of, labels_in, labels_in_all}
use Rattle.condition_lowering.specs.Views.{Makes}
use Rattle.statement_lowering.specs.Afterwards.{Stays}
use Rattle.statement_lowering.specs.Braces.{HasPlaces, next_place, place_items, row_items}
use Rattle.statement_lowering.specs.Views.{known_after}
use Rattle.statement_lowering.proofs.Scopes.{others_after}

abbrev rest_of : List Stmt → Statements
rest_of ss = statements_of (map statement_of ss)

cut : (row : List Stmt) (i : ℕ) (s : Stmt) → i < length row → s ≡ get_or row i s → drop i row ≡ s ∷ drop (i + 1) row
cut row i s low is =
    let further : suc i ≡ i + 1 = omega arith in
    drop-cons row i s low ∙ ap (λ (x : Stmt). x ∷ drop (suc i) row) (sym is) ∙ ap (λ (n : ℕ). s ∷ drop n row) further

-- a row of one statement more
row_step : (within : Within) (around : Around) (scopes : List Scope) (s : Statement) (ss : Statements) (place : Option ℕ) (k c : ℕ) (rest : List BodyItem)
    → row_items within scopes (Then s ss) place k c around rest
    ≡ place_items within s place (items_of within scopes s k c around
    (row_items within (scopes_after scopes s) ss (next_place s place) (k + labels_in s) (c + calls_in within.program s) around rest))
row_step within around scopes s ss None k c rest = refl
row_step within around scopes s ss (Some place) k c rest = refl

pub row_put : (within : Within) (around : Around) (row : List Stmt) (i : ℕ) (s : Stmt) (now next : Known) (before between after : List Item) (place further : Option ℕ) (l c m d : ℕ) (all : List BodyItem → List BodyItem)
    → i < length row → s ≡ get_or row i s
    → ((rest : List BodyItem) → map item_of before ++ row_items within now.scopes (rest_of (drop i row)) place l c around rest ≡ all rest)
    → Makes before between (place_items within (statement_of s) place)
    → Makes between after (items_of within now.scopes (statement_of s) l c around)
    → further ≡ next_place (statement_of s) place → m ≡ l + labels_in (statement_of s) → d ≡ c + calls_in within.program (statement_of s) → next ≡ known_after now (statement_of s)
    → (rest : List BodyItem) → map item_of after ++ row_items within next.scopes (rest_of (drop (i + 1) row)) further m d around rest ≡ all rest
row_put within around row i s now next before between after place further l c m d all low is inv placed made places labels calls known rest =
    let tree = statement_of s in
    let tail = rest_of (drop (i + 1) row) in
    let others = row_items within (scopes_after now.scopes tree) tail (next_place tree place) (l + labels_in tree) (c + calls_in within.program tree) around rest in
    ap (λ (k : Known). map item_of after ++ row_items within k.scopes tail further m d around rest) known
    ∙ ap (λ (x : Option ℕ). map item_of after ++ row_items within (scopes_after now.scopes tree) tail x m d around rest) places
    ∙ ap (λ (n : ℕ). map item_of after ++ row_items within (scopes_after now.scopes tree) tail (next_place tree place) n d around rest) labels
    ∙ ap (λ (n : ℕ). map item_of after ++ row_items within (scopes_after now.scopes tree) tail (next_place tree place) (l + labels_in tree) n around rest) calls
    ∙ made others ∙ placed (items_of within now.scopes tree l c around others)
    ∙ ap (λ (xs : List BodyItem). map item_of before ++ xs) (sym (row_step within around now.scopes tree tail place l c rest))
    ∙ ap (λ (ss : List Stmt). map item_of before ++ row_items within now.scopes (rest_of ss) place l c around rest) (sym (cut row i s low is))
    ∙ inv rest

pub row_labels : (row : List Stmt) (i : ℕ) (s : Stmt) (l m all : ℕ) → i < length row → s ≡ get_or row i s
    → l + labels_in_all (rest_of (drop i row)) ≡ all → m ≡ l + labels_in (statement_of s)
    → m + labels_in_all (rest_of (drop (i + 1) row)) ≡ all
row_labels row i s l m all low is inv labels =
    let here = labels_in (statement_of s) in
    let tail = labels_in_all (rest_of (drop (i + 1) row)) in
    let whole : l + (here + tail) ≡ all = ap (λ (ss : List Stmt). l + labels_in_all (rest_of ss)) (sym (cut row i s low is)) ∙ inv in
    omega (arith, labels, whole)

pub row_calls : (program : Program) (row : List Stmt) (i : ℕ) (s : Stmt) (c d all : ℕ) → i < length row
    → s ≡ get_or row i s → c + calls_in_all program (rest_of (drop i row)) ≡ all
    → d ≡ c + calls_in program (statement_of s) → d + calls_in_all program (rest_of (drop (i + 1) row)) ≡ all
row_calls program row i s c d all low is inv calls =
    let here = calls_in program (statement_of s) in
    let tail = calls_in_all program (rest_of (drop (i + 1) row)) in
    let whole : c + (here + tail) ≡ all = ap (λ (ss : List Stmt). c + calls_in_all program (rest_of ss)) (sym (cut row i s low is)) ∙ inv in
    omega (arith, calls, whole)

pub row_elements : (words : List Word) (row : List Stmt) (i : ℕ) (s : Stmt) → i < length row → s ≡ get_or row i s
    → all_elements_in words (rest_of (drop i row)) ≤ most_elements → all_elements_in words (rest_of (drop (i + 1) row)) ≤ most_elements
row_elements words row i s low is few =
    let here = elements_in words (statement_of s) in
    let tail = all_elements_in words (rest_of (drop (i + 1) row)) in
    let whole : here + tail ≤ most_elements = subst (λ (ss : List Stmt). all_elements_in words (rest_of ss) ≤ most_elements) (cut row i s low is) few in
    omega (arith, whole)

next_places : (s : Statement) (ss : Statements) (place : Option ℕ) → HasPlaces place (Then s ss)
    → HasPlaces (next_place s place) ss
next_places s ss None few = tt
next_places s ss (Some place) few = omega (arith, few)

pub row_places : (row : List Stmt) (i : ℕ) (s : Stmt) (place further : Option ℕ) → i < length row → s ≡ get_or row i s
    → HasPlaces place (rest_of (drop i row)) → further ≡ next_place (statement_of s) place → HasPlaces further (rest_of (drop (i + 1) row))
row_places row i s place further low is few next =
    let tail = rest_of (drop (i + 1) row) in
    let whole : HasPlaces place (Then (statement_of s) tail) = subst (λ (ss : List Stmt). HasPlaces place (rest_of ss)) (cut row i s low is) few in
    subst (λ (x : Option ℕ). HasPlaces x tail) (sym next) (next_places (statement_of s) tail place whole)

pub row_stays : (before now next : Known) (s : Statement) → Stays before now → next ≡ known_after now s
    → Stays before next
row_stays before now next s stays known = record {
  words = ap (λ (k : Known). k.words) known ∙ stays.words;
  outer = ap (λ (k : Known). others k.scopes) known ∙ others_after now.scopes s ∙ stays.outer;
}
