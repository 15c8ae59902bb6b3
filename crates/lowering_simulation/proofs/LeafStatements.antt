-- The leaves of statements do what the unit says, wherever these stand.
use Rattle.std.proofs.Common.{◌≡◌, ℕ, ◌+◌, Bool, true, List, [], ◌∷◌, ◌++◌, Option, Some, None, refl, sym, ◌∙◌}
use Rattle.alf_ops.specs.declared.history.RunEvent.{RunEvent}
use Rattle.alf_program.specs.Tree.{Allocation}
use Rattle.c_unit.specs.Tree.{Expression, Statement, Empty, Declares, Block, If, IfElse, While, Do, For, ForAfter, Switch, Case, Default, Break, Continue, Returns, Does, Statements, Nothing, Then}
use Rattle.c_unit.specs.Units.{UnitTree}
use Rattle.c_rules.specs.Names.{Scope}
use Rattle.c_rules.specs.Statements.{Around, inside, in_loop_of, in_switch_of, around_after, scopes_after}
use Rattle.c_rules.specs.Units.{definitions}
use Rattle.c_rules.specs.Recursion.{calls_if_done, calls_in, called_in}
use Rattle.c_rules.specs.Standing.{IsCondition, IfCondition, StatementStands, StatementsStand}
use Rattle.c_meaning.specs.Objects.{Object, program_of, function_at, locals_in, all_locals_in}
use Rattle.c_lowered.specs.Statements as lowered
use Rattle.c_lowered.specs.Frames.{last_frames, frames_in, all_frames_in}
use Rattle.lowering_layout.specs.Lists.{EachOf}
use Rattle.lowering_layout.specs.ListLaws.{each_parts}
use Rattle.lowering_values.specs.Frames.{frame_number, FramesStand, IsNaming}
use Rattle.lowering_simulation.specs.Leaves.{IfAgrees, StatementDoes, StatementsDo}
use Rattle.lowering_simulation.specs.Plain.{IfIsPlain, StatementIsPlain, StatementsArePlain}
use Rattle.lowering_simulation.specs.Laws.{ValueLaws}
use Rattle.lowering_simulation.proofs.Scopes.{ScopesKnown, IsOwn, statement_known}
use Rattle.lowering_simulation.proofs.Leaves.{of, Rel, here, condition_agrees}
use Rattle.lowering_simulation.proofs.LeafCalls.{FineIfDefined, IsFrame}
use Rattle.lowering_simulation.proofs.LeafEffects.{effect_does, last_does, locals_do, return_stands_does}

module _ (unit : UnitTree) (root : List ℕ) (rank : ℕ → ℕ) (laws : ValueLaws) (frames : FramesStand unit) (f : ℕ) (naming : IsNaming unit f ((of unit root rank).numbers f).frame) where
  abbrev frame : List ℕ → ℕ
  frame = ((of unit root rank).numbers f).frame

  abbrev related : List ℕ → List RunEvent → List RunEvent → Type 0
  related = Rel unit root rank

  abbrev Fine : ℕ → Type 0
  Fine = FineIfDefined unit root rank laws frames f naming

  abbrev Framed : Allocation → Type 0
  Framed = IsFrame unit root rank laws frames f naming

  abbrev Own : Object → Type 0
  Own = IsOwn unit f

  -- what stands around a statement of the function
  pub record AroundIs (around : Around) (b c : Bool) : Type 0 where
    pub breaks : around.may_break ≡ b
    pub continues : around.in_loop ≡ c
    pub gives : around.result ≡ (function_at (program_of unit) f).result

  is_inside : (around : Around) (b c : Bool) → AroundIs around b c → AroundIs (inside around) b c
  is_inside around b c is = record { breaks = is.breaks; continues = is.continues; gives = is.gives }

  is_in_loop : (around : Around) (b c : Bool) → AroundIs around b c → AroundIs (in_loop_of around) true true
  is_in_loop around b c is = record { breaks = refl; continues = refl; gives = is.gives }

  is_in_switch : (around : Around) (b c : Bool) → AroundIs around b c → AroundIs (in_switch_of around) true c
  is_in_switch around b c is = record { breaks = refl; continues = is.continues; gives = is.gives }

  is_after : (around : Around) (b c : Bool) (s : Statement) → AroundIs around b c
      → AroundIs (around_after unit.words around s) b c
  is_after around b c (Case token constant) is = record { breaks = is.breaks; continues = is.continues; gives = is.gives }
  is_after around b c (Default token) is = record { breaks = is.breaks; continues = is.continues; gives = is.gives }
  is_after around b c _ is = is

  condition_does : (scopes : List Scope) (e : Expression) → ScopesKnown unit f scopes → IsCondition unit.words scopes e
      → IfIsPlain (Some e)
      → IfAgrees (of unit root rank) (program_of unit) (frame_number unit) related rank f scopes (Some e)
  condition_does scopes e known stands plain = condition_agrees unit root rank laws frames f naming scopes e stands.type known stands.has plain

  if_condition_does : (scopes : List Scope) (e : Option Expression) → ScopesKnown unit f scopes
      → IfCondition unit.words scopes e → IfIsPlain e
      → IfAgrees (of unit root rank) (program_of unit) (frame_number unit) related rank f scopes e
  if_condition_does scopes None known stands plain = tt
  if_condition_does scopes (Some e) known stands plain = condition_does scopes e known stands plain

  mutual
    pub statement_does : (b c : Bool) (around : Around) (scopes : List Scope) (s : Statement) (n : ℕ)
        → AroundIs around b c → ScopesKnown unit f scopes
        → StatementStands unit.words (definitions unit.externals) around scopes s → StatementIsPlain s → EachOf Own (locals_in unit.words f s) → EachOf Fine (calls_in s) → EachOf Framed (frames_in (program_of unit) f n s)
        → StatementDoes (of unit root rank) (program_of unit) (frame_number unit) related rank f b c scopes s n
    statement_does b c around scopes (Empty token) n is known stands plain own fine among = tt
    statement_does b c around scopes (Declares first kind locals) n is known stands plain own fine among =
        locals_do unit root rank laws frames f naming kind scopes locals n known own stands plain fine among
    statement_does b c around scopes (Block body) n is known stands plain own fine among =
        statements_do b c (inside around) ([] ∷ scopes) body n (is_inside around b c is) (tt, known) stands plain own fine among
    statement_does b c around scopes (If condition body) n is known stands plain own fine among =
        (condition_does scopes condition known stands.0 plain.0, statement_does b c (inside around) ([] ∷ scopes) body n (is_inside around b c is) (tt, known) stands.1 plain.1 own fine among)
    statement_does b c around scopes (IfElse condition body otherwise) n is known stands plain own fine among =
        let d : ℕ = n + lowered.calls_in (program_of unit) body in
        let owns = each_parts Own (locals_in unit.words f body) (locals_in unit.words f otherwise) own in
        let calls = each_parts Fine (calls_in body) (calls_in otherwise) fine in
        let parts = each_parts Framed (frames_in (program_of unit) f n body) (frames_in (program_of unit) f d otherwise) among in (
          condition_does scopes condition known stands.0 plain.0,
          statement_does b c (inside around) ([] ∷ scopes) body n (is_inside around b c is) (tt, known) stands.1 plain.1 owns.0 calls.0 parts.0,
          statement_does b c (inside around) ([] ∷ scopes) otherwise d (is_inside around b c is) (tt, known) stands.2 plain.2 owns.1 calls.1 parts.1,
        )
    statement_does b c around scopes (While condition body) n is known stands plain own fine among =
        (condition_does scopes condition known stands.0 plain.0, statement_does true true (in_loop_of around) ([] ∷ scopes) body n (is_in_loop around b c is) (tt, known) stands.1 plain.1 own fine among)
    statement_does b c around scopes (Do body condition) n is known stands plain own fine among =
        (statement_does true true (in_loop_of around) ([] ∷ scopes) body n (is_in_loop around b c is) (tt, known) stands.0 plain.0 own fine among, condition_does scopes condition known stands.1 plain.1)
    statement_does b c around scopes (For condition last body) n is known stands plain own fine among =
        let d : ℕ = n + lowered.calls_if (program_of unit) last in
        let calls = each_parts Fine (calls_if_done last) (calls_in body) fine in
        let parts = each_parts Framed (last_frames (program_of unit) f n last) (frames_in (program_of unit) f d body) among in (
          if_condition_does scopes condition known stands.0 plain.0,
          last_does unit root rank laws frames f naming scopes last n known stands.1 plain.1 calls.0 parts.0,
          statement_does true true (in_loop_of around) ([] ∷ scopes) body d (is_in_loop around b c is) (tt, known) stands.2 plain.2 own calls.1 parts.1,
        )
    statement_does b c around scopes (ForAfter first condition last body) n is known stands plain own fine among =
        let inner : List Scope = scopes_after ([] ∷ scopes) first in
        let d : ℕ = n + lowered.calls_in (program_of unit) first in
        let e : ℕ = d + lowered.calls_if (program_of unit) last in
        let owns = each_parts Own (locals_in unit.words f first) (locals_in unit.words f body) own in
        let calls = each_parts Fine (calls_in first) (calls_if_done last ++ calls_in body) fine in
        let others = each_parts Fine (calls_if_done last) (calls_in body) calls.1 in
        let parts = each_parts Framed (frames_in (program_of unit) f n first) (last_frames (program_of unit) f d last ++ frames_in (program_of unit) f e body) among in
        let further = each_parts Framed (last_frames (program_of unit) f d last) (frames_in (program_of unit) f e body) parts.1 in
        let there : ScopesKnown unit f inner = statement_known unit f ([] ∷ scopes) first (tt, known) owns.0 in (
          statement_does b c (inside around) ([] ∷ scopes) first n (is_inside around b c is) (tt, known) stands.0 plain.0 owns.0 calls.0 parts.0,
          if_condition_does inner condition there stands.1 plain.1,
          last_does unit root rank laws frames f naming inner last d there stands.2 plain.2 others.0 further.0,
          statement_does true true (in_loop_of around) ([] ∷ inner) body e (is_in_loop around b c is) (tt, there) stands.3 plain.3 owns.1 others.1 further.1,
        )
    statement_does b c around scopes (Switch value body) n is known stands plain own fine among = (
      (λ fs m h rel. laws.values unit f frame scopes m h value stands.0.type (here unit root rank laws frames f naming fs scopes m h known rel) stands.0.has plain.0),
      statements_do true c (in_switch_of around) ([] ∷ scopes) body n (is_in_switch around b c is) (tt, known) stands.1 plain.1 own fine among,
    )
    statement_does b c around scopes (Case token constant) n is known stands plain own fine among = tt
    statement_does b c around scopes (Default token) n is known stands plain own fine among = tt
    statement_does b c around scopes (Break token) n is known stands plain own fine among = sym is.breaks ∙ stands
    statement_does b c around scopes (Continue token) n is known stands plain own fine among = sym is.continues ∙ stands
    statement_does b c around scopes (Returns token value) n is known stands plain own fine among =
        return_stands_does unit root rank laws frames f naming scopes around.result value n is.gives known stands plain fine among
    statement_does b c around scopes (Does effect) n is known stands plain own fine among = effect_does unit root rank laws frames f naming scopes effect n known stands plain fine among

    pub statements_do : (b c : Bool) (around : Around) (scopes : List Scope) (ss : Statements) (n : ℕ)
        → AroundIs around b c → ScopesKnown unit f scopes
        → StatementsStand unit.words (definitions unit.externals) around scopes ss → StatementsArePlain ss → EachOf Own (all_locals_in unit.words f ss) → EachOf Fine (called_in ss) → EachOf Framed (all_frames_in (program_of unit) f n ss)
        → StatementsDo (of unit root rank) (program_of unit) (frame_number unit) related rank f b c scopes ss n
    statements_do b c around scopes Nothing n is known stands plain own fine among = tt
    statements_do b c around scopes (Then s ss) n is known stands plain own fine among =
        let d : ℕ = n + lowered.calls_in (program_of unit) s in
        let owns = each_parts Own (locals_in unit.words f s) (all_locals_in unit.words f ss) own in
        let calls = each_parts Fine (calls_in s) (called_in ss) fine in
        let parts = each_parts Framed (frames_in (program_of unit) f n s) (all_frames_in (program_of unit) f d ss) among in (
          statement_does b c around scopes s n is known stands.0 plain.0 owns.0 calls.0 parts.0,
          statements_do b c (around_after unit.words around s) (scopes_after scopes s) ss d (is_after around b c s is) (statement_known unit f scopes s known owns.0) stands.1 plain.1 owns.1 calls.1 parts.1,
        )
