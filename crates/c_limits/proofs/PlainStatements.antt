-- What rules of statements spell is plain.
use Rattle.c_grammar.specs.Expressions.{is_postfix}
use Rattle.c_grammar.specs.StatementWalkLaws.{MayAssign, StatementWalk}
use Rattle.c_grammar.specs.Statements.{assigning_mark, fits_assigning_of, step}
use Rattle.c_grammar.specs.Tokens.{Fault, Seen, misfit}
use Rattle.c_grammar.specs.WalkLaws.{IfThere, Quietly, seen_anywhere}
use Rattle.c_grammar.specs.declared.others.Others.{Others}
use Rattle.c_grammar.specs.declared.standing.Assigning.{Assigning}
use Rattle.c_grammar.specs.declared.symbol.Symbol.{Symbol}
use Rattle.c_grammar.specs.declared.symbol.Symbol.TheVariants as symbols
use Rattle.c_grammar.specs.declared.standing.Assigning.TheVariants as assigning
use Rattle.c_grammar.specs.declared.others.Others.TheVariants as others
use Rattle.c_rules.specs.Expressions.{is_of_conditions}
use Rattle.c_unit.specs.Tree.{EffectTree, Expression, Statement, ValueTree, statements_of, if_of, for_of}
use Rattle.c_unit.specs.declared.expression.Binary.{Binary}
use Rattle.grammar.specs.Exact.{ok_no_err}
use Rattle.grammar.specs.ExactLaws.{ok_is}
use Rattle.std.proofs.Common.{Bool, Option, Some, None, Ok, not, false, true, refl, subst, ℕ, ◌≡◌}
use Rattle.std.proofs.lemmas.Bool.{false≢true}
use Rattle.std.specs.Prelude.{⊤}
use Rattle.lowering_values.specs.Agreement.{IsPlain}
use Rattle.lowering_simulation.specs.Plain.{CallIsPlain, IsPlainCondition, IfIsPlain, ValueIsPlain, FirstIsPlain, EffectIsPlain, LastIsPlain, ShapeIsPlain, LocalsArePlain, StatementIsPlain, StatementsArePlain}
use Rattle.c_limits.proofs.Keeping.{Keeps, Makes, is_plain_update, made_keeps, mark_keeps, one_keeps, one_makes, ◌>>>◌}
use Rattle.c_limits.proofs.TypesKeep.{array_size_keeps, fine_tokens, fine_walk, free_so, name_keeps, quiet_so, some_frames_keeps}
use Rattle.c_limits.proofs.PlainExpressions.{call_goes, plain_assigned_goes, plain_condition_goes, plain_target_goes, some_token_keeps, value_goes}

-- ---- tokens

abbrev pub IsPlainUpdate : Binary → Type 0
IsPlainUpdate op = is_of_conditions op ≡ false

is_none : (b : Bool) → not b ≡ true → b ≡ false
is_none true e = absurd (false≢true e)
is_none false e = refl

abbrev pub IsPlainAssigning : Assigning × ℕ → Type 0
IsPlainAssigning x = MayAssign IsPlainUpdate x.0

assigning_made : (s : Symbol) (postfix : Bool) (o : Others) (t : Seen) (x : Assigning × ℕ) → is_plain_update s ≡ true
    → fits_assigning_of s postfix o t ≡ Ok x → IsPlainAssigning x
assigning_made symbols.Assign postfix o t x fine e = subst IsPlainAssigning (ok_is {F = Fault} (assigning.Assign, t.number) x e) tt
assigning_made (symbols.Update op) postfix o t x fine e = subst IsPlainAssigning (ok_is {F = Fault} (assigning.Update op, t.number) x e) (is_none (is_of_conditions op) fine)
assigning_made (symbols.Step up) true o t x fine e = subst IsPlainAssigning (ok_is {F = Fault} (assigning.Step up, t.number) x e) tt
assigning_made (symbols.Step up) false o t x fine e = ok_no_err x (misfit o t) e
assigning_made _ postfix o t x fine e = ok_no_err x (misfit o t) e

assigning_makes : (to : Expression) (last : Bool) → Makes (assigning_mark to last).form IsPlainAssigning
unfolding assigning_mark
assigning_makes to last = one_makes (λ t. fits_assigning_of t.symbol (is_postfix to) (others.RestOrEnd last) t)
    (λ t x fine e. assigning_made t.symbol (is_postfix to) (others.RestOrEnd last) t x fine e)

pub assigning_goes : (to : Expression) (last : Bool) → Quietly fine_walk (assigning_mark to last).form IsPlainAssigning
assigning_goes to last = record { each = λ at x rest s g. let k = (assigning_makes to last).each at x rest s g in ((refl, k.0), k.1) }

pub step_keeps : Keeps step.form
unfolding step
step_keeps = one_keeps

-- ---- what may be missing

pub first_made : (v : Option ValueTree) (m : Unit {0}) → IfThere fine_walk (λ v m. ValueIsPlain v) v m → FirstIsPlain v
first_made None m made = tt
first_made (Some v) m made = made

pub if_made : (c : Expression) (s : Statement) (e : Option Statement) (m : Unit {0}) → IsPlainCondition c
    → StatementIsPlain s → IfThere fine_walk (λ s m. StatementIsPlain s) e m → StatementIsPlain (if_of c s e)
if_made c s None m plain made other = (plain, made)
if_made c s (Some e) m plain made other = (plain, made, other)

pub condition_made : (c : Option Expression) (m : Unit {0}) → IfThere fine_walk (λ c m. IsPlainCondition c) c m
    → IfIsPlain c
condition_made None m made = tt
condition_made (Some c) m made = made

pub last_made : (e : Option EffectTree) (m : Unit {0}) → IfThere fine_walk (λ e m. EffectIsPlain e) e m → LastIsPlain e
last_made None m made = tt
last_made (Some e) m made = made

pub for_made : (f : Option Statement) (c : Option Expression) (e : Option EffectTree) (s : Statement) (m : Unit {0})
    → IfThere fine_walk (λ s m. StatementIsPlain s) f m → IfIsPlain c → LastIsPlain e → StatementIsPlain s
    → StatementIsPlain (for_of f c e s)
for_made None c e s m first plain last made = (plain, last, made)
for_made (Some f) c e s m first plain last made = (first, plain, last, made)

-- ---- statements

abbrev pub plain_walk : StatementWalk fine_walk
plain_walk = record {
  One = λ m. ⊤;
  Named = λ n m. ⊤;
  Sized = λ n m. ⊤;
  MayUpdate = IsPlainUpdate;
  Value = λ e m. IsPlain e;
  Condition = λ e m. IsPlainCondition e;
  Call = λ c m. CallIsPlain c;
  Assigned = λ v m. ValueIsPlain v;
  Controls = λ e m. IsPlainCondition e;
  Selects = λ e m. IsPlain e;
  Effect = λ e m. EffectIsPlain e;
  Local = λ l m. ShapeIsPlain l.shape;
  Locals = λ ls m. LocalsArePlain ls;
  Stands = λ s m. StatementIsPlain s;
  Stand = λ ss m. StatementsArePlain (statements_of ss);
  tokens = fine_tokens;
  counted = λ word o _. free_so (mark_keeps word o);
  steps = quiet_so step_keeps;
  assigns = assigning_goes;
  words = seen_anywhere _ (quiet_so some_token_keeps);
  named = λ o. free_so (name_keeps o >>> λ t. some_frames_keeps 1 >>> λ _. made_keeps);
  sized = free_so array_size_keeps;
  values = value_goes;
  targets = plain_target_goes;
  conditions = plain_condition_goes;
  calls = call_goes;
  assigned_values = plain_assigned_goes;
  call_effects = λ c m plain. plain;
  step_effects = λ e up n m plain. plain;
  assign_effects = λ to n v a m plain made. (plain, made);
  update_effects = λ to op n e a m may plain made. (may, plain, made);
  pointers = λ n v a m _ made. first_made v m made;
  integers = λ n v a m _ made. first_made v m made;
  arrays = λ n s cs a m _ _. tt;
  no_locals = tt;
  more_locals = λ l ls a m made others_made. (made, others_made);
  declares = λ n i ls m made. made;
  cases = λ n c m _. tt;
  defaults = λ n m _. tt;
  controls = λ e a m b _ plain _. plain;
  selects = λ e a m b _ plain _. plain;
  ifs = λ c s e a m n plain made other. if_made c s e n plain made other;
  whiles = λ c s a m plain made. (plain, made);
  dos = λ s c m a made plain. (made, plain);
  fors = λ f c e s p a b d m _ first plain last made. for_made f c e s a first (condition_made c b plain) (last_made e d last) made;
  switches = λ e ss a m plain made. (plain, made);
  breaks = λ n. tt;
  continues = λ n. tt;
  returns = λ n. tt;
  value_returns = λ n v m made. made;
  empties = λ n. tt;
  blocks = λ ss m made. made;
  no_statements = tt;
  more_statements = λ s ss a m made others_made. (made, others_made);
  effects = λ e m made. made;
}
