-- Statements in braces: those of a block, and the body of a switch.
--   place_items within s place rest   the label of a switch that the statement is, before what is put for it
--   next_place s place           the number of the next label of the switch
--   HasPlace place, HasPlaces place ss   64 bits have this number of a label of the switch; those of all its labels in the row
--   row_items within scopes ss place k c around rest   the items of statements in a row; in the body of a switch its labels are numbered from the place on
--   before_row within scopes braces ss k rest   the items before the row; labels are numbered from k on
--   labels_at_row braces ss k    the number of the first label of the row
--   around_row within around braces ss k   where `break` and `continue` lead in the row
--   place_of braces k, close_of braces ss k   the number of the first label of a switch, and of the label after it
--   after_row within close rest  the items after the row
--   braced_items within scopes braces ss k c around rest   all of them
use Rattle.std.specs.Prelude.{⊤, ℕ, ◌+◌, ◌<◌, ◌^◌, List, [], ◌∷◌, Option, None, Some}
use Rattle.alf_program.specs.Tree.{BodyItem}
use Rattle.c_unit.specs.Tree.{Statement, Statements, expression_of}
use Rattle.c_rules.specs.Names.{Scope}
use Rattle.c_lowered.specs.Conditions.{Within, label, label_item}
use Rattle.c_lowered.specs.Statements.{Around, all_items_of, body_items, cases_in, if_case, is_case, switch_item}
use Rattle.statement_lowering.specs.declared.braces.Braces.{Braces}
use Rattle.statement_lowering.specs.declared.braces.Braces.TheVariants as braces

-- ---- rows

abbrev pub place_items : Within → Statement → Option ℕ → List BodyItem → List BodyItem
place_items within s None rest = rest
place_items within s (Some place) rest = if_case within s place rest

abbrev pub next_place : Statement → Option ℕ → Option ℕ
next_place s None = None
next_place s (Some place) = Some (is_case s + place)

-- 64 bits have the number, if there is one
abbrev pub HasPlace : Option ℕ → Type 0
HasPlace None = ⊤
HasPlace (Some place) = place < 2 ^ 64

-- they have the numbers of all labels of the switch that stand in the row
abbrev pub HasPlaces : Option ℕ → Statements → Type 0
HasPlaces None ss = ⊤
HasPlaces (Some place) ss = place + cases_in ss < 2 ^ 64

abbrev pub row_items : Within → List Scope → Statements → Option ℕ → ℕ → ℕ → Around → List BodyItem → List BodyItem
row_items within scopes ss None k c around rest = all_items_of within scopes ss k c around rest
row_items within scopes ss (Some place) k c around rest = body_items within scopes ss place k c around rest

-- ---- braces

abbrev pub before_row : Within → List Scope → Braces → Statements → ℕ → List BodyItem → List BodyItem
before_row within scopes braces.Block ss k rest = rest
before_row within scopes (braces.Switch value) ss k rest = switch_item within scopes (expression_of value.now) ss k (k + cases_in ss) ∷ rest

abbrev pub labels_at_row : Braces → Statements → ℕ → ℕ
labels_at_row braces.Block ss k = k
labels_at_row (braces.Switch value) ss k = k + cases_in ss + 1

abbrev pub around_row : Within → Around → Braces → Statements → ℕ → Around
around_row within around braces.Block ss k = around
around_row within around (braces.Switch value) ss k = record { break = label within (k + cases_in ss); continue = around.continue }

abbrev pub place_of : Braces → ℕ → Option ℕ
place_of braces.Block k = None
place_of (braces.Switch value) k = Some k

abbrev pub close_of : Braces → Statements → ℕ → Option ℕ
close_of braces.Block ss k = None
close_of (braces.Switch value) ss k = Some (k + cases_in ss)

abbrev pub after_row : Within → Option ℕ → List BodyItem → List BodyItem
after_row within None rest = rest
after_row within (Some close) rest = label_item within close ∷ rest

abbrev pub braced_items : Within → List Scope → Braces → Statements → ℕ → ℕ → Around → List BodyItem → List BodyItem
braced_items within scopes b ss k c around rest =
    before_row within scopes b ss k
    (row_items within ([] ∷ scopes) ss (place_of b k) (labels_at_row b ss k) c (around_row within around b ss k)
    (after_row within (close_of b ss k) rest))
