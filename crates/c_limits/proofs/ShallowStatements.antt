-- In what rules of statements spell each value and each condition is shallow.
use Rattle.c_grammar.specs.StatementWalkLaws.{MayAssign, StatementWalk, all_may}
use Rattle.c_grammar.specs.Statements.{assigning_mark}
use Rattle.c_grammar.specs.WalkLaws.{IfThere, Quietly, seen_anywhere}
use Rattle.c_unit.specs.Tree.{EffectTree, Expression, Statement, Statements, ValueTree, statements_of, if_of, for_of}
use Rattle.std.proofs.Common.{Bool, Option, Some, None, refl}
use Rattle.std.specs.Prelude.{⊤}
use Rattle.c_limits.proofs.Keeping.{made_keeps, mark_keeps, one_keeps, ◌>>>◌}
use Rattle.c_limits.proofs.TypesKeep.{array_size_keeps, fine_tokens, fine_walk, free_so, name_keeps, quiet_so, some_frames_keeps}
use Rattle.c_rules.specs.SpelledExpressions.{IfValue, InCall, InValue, InEffect, IfEffect, IfCondition, InShape, InLocals, InStatement, InStatements}
use Rattle.c_limits.proofs.PlainExpressions.{some_token_keeps}
use Rattle.c_limits.proofs.PlainStatements.{step_keeps}
use Rattle.c_limits.proofs.Depths.{Shallow, call_goes, shallow_assigned_goes, shallow_condition_goes, shallow_target_goes, value_goes}

abbrev pub StatementIsShallow : Statement → Type 0
StatementIsShallow s = InStatement Shallow Shallow s

abbrev pub StatementsAreShallow : Statements → Type 0
StatementsAreShallow ss = InStatements Shallow Shallow ss

pub any_assigning : (to : Expression) (last : Bool)
    → Quietly fine_walk (assigning_mark to last).form (λ a. MayAssign (λ op. ⊤) a.0)
unfolding assigning_mark
any_assigning to last = record { each = λ at x rest s g. ((refl, all_may x.0), one_keeps.each at x rest s g) }

-- ---- what may be missing

pub first_made : (v : Option ValueTree) (m : Unit {0}) → IfThere fine_walk (λ v m. InValue Shallow v) v m
    → IfValue Shallow v
first_made None m made = tt
first_made (Some v) m made = made

pub if_made : (c : Expression) (s : Statement) (e : Option Statement) (m : Unit {0}) → Shallow c → StatementIsShallow s
    → IfThere fine_walk (λ s m. StatementIsShallow s) e m → StatementIsShallow (if_of c s e)
if_made c s None m low made other = (low, made)
if_made c s (Some e) m low made other = (low, made, other)

pub condition_made : (c : Option Expression) (m : Unit {0}) → IfThere fine_walk (λ c m. Shallow c) c m
    → IfCondition Shallow c
condition_made None m made = tt
condition_made (Some c) m made = made

pub last_made : (e : Option EffectTree) (m : Unit {0}) → IfThere fine_walk (λ e m. InEffect Shallow e) e m
    → IfEffect Shallow e
last_made None m made = tt
last_made (Some e) m made = made

pub for_made : (f : Option Statement) (c : Option Expression) (e : Option EffectTree) (s : Statement) (m : Unit {0})
    → IfThere fine_walk (λ s m. StatementIsShallow s) f m → IfCondition Shallow c → IfEffect Shallow e
    → StatementIsShallow s → StatementIsShallow (for_of f c e s)
for_made None c e s m first low last made = (low, last, made)
for_made (Some f) c e s m first low last made = (first, low, last, made)

-- ---- statements

abbrev pub shallow_walk : StatementWalk fine_walk
shallow_walk = record {
  One = λ m. ⊤;
  Named = λ n m. ⊤;
  Sized = λ n m. ⊤;
  MayUpdate = λ op. ⊤;
  Value = λ e m. Shallow e;
  Condition = λ e m. Shallow e;
  Call = λ c m. InCall Shallow c;
  Assigned = λ v m. InValue Shallow v;
  Controls = λ e m. Shallow e;
  Selects = λ e m. Shallow e;
  Effect = λ e m. InEffect Shallow e;
  Local = λ l m. InShape Shallow l.shape;
  Locals = λ ls m. InLocals Shallow ls;
  Stands = λ s m. StatementIsShallow s;
  Stand = λ ss m. StatementsAreShallow (statements_of ss);
  tokens = fine_tokens;
  counted = λ word o _. free_so (mark_keeps word o);
  steps = quiet_so step_keeps;
  assigns = any_assigning;
  words = seen_anywhere _ (quiet_so some_token_keeps);
  named = λ o. free_so (name_keeps o >>> λ t. some_frames_keeps 1 >>> λ _. made_keeps);
  sized = free_so array_size_keeps;
  values = value_goes;
  targets = shallow_target_goes;
  conditions = shallow_condition_goes;
  calls = call_goes;
  assigned_values = shallow_assigned_goes;
  call_effects = λ c m low. low;
  step_effects = λ e up n m low. low;
  assign_effects = λ to n v a m low made. (low, made);
  update_effects = λ to op n e a m may low made. (low, made);
  pointers = λ n v a m _ made. first_made v m made;
  integers = λ n v a m _ made. first_made v m made;
  arrays = λ n s cs a m _ _. tt;
  no_locals = tt;
  more_locals = λ l ls a m made others_made. (made, others_made);
  declares = λ n i ls m made. made;
  cases = λ n c m _. tt;
  defaults = λ n m _. tt;
  controls = λ e a m b _ low _. low;
  selects = λ e a m b _ low _. low;
  ifs = λ c s e a m n low made other. if_made c s e n low made other;
  whiles = λ c s a m low made. (low, made);
  dos = λ s c m a made low. (made, low);
  fors = λ f c e s p a b d m _ first low last made. for_made f c e s a first (condition_made c b low) (last_made e d last) made;
  switches = λ e ss a m low made. (low, made);
  breaks = λ n. tt;
  continues = λ n. tt;
  returns = λ n. tt;
  value_returns = λ n v m made. made;
  empties = λ n. tt;
  blocks = λ ss m made. made;
  no_statements = tt;
  more_statements = λ s ss a m made others_made. (made, others_made);
  effects = λ e m made. made;
}
