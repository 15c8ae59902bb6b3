-- Calls, and values that are made of them.
--   CallFine token           the name has the number of a function that is there and has a lower rank
--   MadeDoes made go         an item that is made of a value does what `go` says of the value
--   value_does               so do the items of a value
use Rattle.std.proofs.Common.{◌≡◌, ◌<◌, ℕ, true, List, ◌∷◌, length, slice_get, Contains, Option, Some, refl, sym, ◌∙◌, subst}
use Rattle.alf_ops.specs.declared.history.Value.{Value}
use Rattle.alf_ops.specs.declared.history.Value.TheVariants as values
use Rattle.alf_ops.specs.declared.history.RunEvent.{RunEvent}
use Rattle.alf_program.specs.Tree.{NamedExpression, BodyItem, Allocation}
use Rattle.item_runs.specs.ItemRuns.{ahead}
use Rattle.c_unit.specs.declared.types.Integer.{Integer}
use Rattle.c_unit.specs.declared.types.Scalar.{Scalar}
use Rattle.c_unit.specs.declared.types.Outcome.{Outcome}
use Rattle.c_unit.specs.declared.types.Outcome.TheVariants as outcomes
use Rattle.c_unit.specs.Tree.{CallTree, ValueTree, OfExpression, OfCall}
use Rattle.c_unit.specs.Units.{UnitTree}
use Rattle.c_rules.specs.Names.{Scope, text_at}
use Rattle.c_rules.specs.Calls.{is_defined}
use Rattle.c_rules.specs.Units.{definitions}
use Rattle.c_rules.specs.Recursion.{calls_in_value}
use Rattle.c_rules.specs.Standing.{IsCall, ValueSuits}
use Rattle.c_meaning.specs.Values.{Valued, bits_of_type}
use Rattle.c_meaning.specs.Objects.{program_of, function_at}
use Rattle.c_meaning.specs.Expressions as meaning
use Rattle.c_meaning.specs.Endings.{History, Ending, Normal}
use Rattle.c_meaning.specs.Statements.{number_named, callee, given}
use Rattle.c_lowered.specs.Names.{call_name}
use Rattle.c_lowered.specs.Values.{value_of}
use Rattle.c_lowered.specs.Effects.{result_value}
use Rattle.c_lowered.specs.Frames.{result_frames, value_frames}
use Rattle.lowering_values.specs.Embedding.{embedded_value}
use Rattle.lowering_layout.specs.Lists.{EachOf}
use Rattle.lowering_layout.specs.DeclaredLaws.{found_entry}
use Rattle.lowering_values.specs.Frames.{frame_number, frames_of, FramesStand, IsNaming, frames_in_body}
use Rattle.lowering_values.specs.Agreement.{Gives, FitsValued}
use Rattle.lowering_simulation.specs.Leaves.{ResultsDo, CallDoes, ValueDoes}
use Rattle.lowering_simulation.specs.Plain.{CallIsPlain, ValueIsPlain}
use Rattle.lowering_simulation.specs.Laws.{ValueLaws}
use Rattle.lowering_simulation.proofs.Callees.{named_text, function_there}
use Rattle.lowering_simulation.proofs.Scopes.{EntryKnown, ScopesKnown}
use Rattle.lowering_simulation.proofs.Leaves.{StillRunning, running_store, of, Rel, here, Ends}

module _ (unit : UnitTree) (root : List ℕ) (rank : ℕ → ℕ) where
  abbrev pub number_of_call : ℕ → ℕ
  number_of_call token = number_named unit.words (program_of unit).functions (text_at unit.words token)

  module _ (laws : ValueLaws) (frames : FramesStand unit) (f : ℕ) (naming : IsNaming unit f ((of unit root rank).numbers f).frame) where
    abbrev pub frame : List ℕ → ℕ
    frame = ((of unit root rank).numbers f).frame

    abbrev pub related : List ℕ → List RunEvent → List RunEvent → Type 0
    related = Rel unit root rank

    -- the name has the number of a function that is there and has a lower rank
    pub record CallFine (token : ℕ) : Type 0 where
      pub named : ((of unit root rank).numbers f).func (text_at unit.words token) ≡ number_of_call token
      pub there : number_of_call token < length (program_of unit).functions
      pub lower : rank (number_of_call token) < rank f

    abbrev pub FineIfDefined : ℕ → Type 0
    FineIfDefined token = is_defined unit.words (definitions unit.externals) token ≡ true → CallFine token

    -- the frame is one of the function's
    abbrev pub IsFrame : Allocation → Type 0
    IsFrame allocation = Contains (frames_in_body unit f) allocation

    -- an item that is made of a value
    abbrev pub MadeDoes : (NamedExpression → BodyItem) → (Valued → History → Ending) → Type 0
    MadeDoes made go = (fs : List ℕ) (m h : List RunEvent) (rest : List BodyItem) (e : NamedExpression) (v : Valued) → related (f ∷ fs) m h → Gives unit frame m e v → FitsValued 32 v
        → Ends unit root rank laws frames f naming fs rest (ahead (of unit root rank) f (made e ∷ rest) m) (go v h)

    -- ---- results

    integer_results : (i : Integer) (n : ℕ) (made : NamedExpression → BodyItem) (go : Valued → History → Ending)
        → IsFrame (record { name = call_name (program_of unit) f n; bits = bits_of_type i }) → MadeDoes made go
        → ResultsDo (of unit root rank) (program_of unit) (frame_number unit) related rank f (outcomes.Integer i) (call_name (program_of unit) f n)
        (λ rest. made (result_value (outcomes.Integer i) (call_name (program_of unit) f n)) ∷ rest) (λ v h. go (given (outcomes.Integer i) v) h)
    integer_results i n made go among does_made fs m h v rest rel fits =
        let name : List ℕ = call_name (program_of unit) f n in
        let r = laws.results unit f frame m h n i v frames naming among rel.agree rel.running.0 fits in
        let running = subst (StillRunning (f ∷ fs)) r.stored (running_store (f ∷ fs) (frames_of unit) m (values.Ptr (frame name) 0) (embedded_value (frame_number unit) v) rel.running) in
        record {
          later = r.later;
          stored = r.stored;
          ends = does_made fs r.later h rest (result_value (outcomes.Integer i) name) (given (outcomes.Integer i) (Some v)) (record { agree = r.agree; running = running }) r.gives r.fits;
        }

    valued_results : (o : Outcome) (i : Integer) (n : ℕ) (made : NamedExpression → BodyItem) (go : Valued → History → Ending) → o ≡ outcomes.Integer i
        → EachOf IsFrame (result_frames (call_name (program_of unit) f n) o) → MadeDoes made go
        → ResultsDo (of unit root rank) (program_of unit) (frame_number unit) related rank f o (call_name (program_of unit) f n)
        (λ rest. made (result_value o (call_name (program_of unit) f n)) ∷ rest) (λ v h. go (given o v) h)
    valued_results o i n made go is among does_made =
        subst (λ (p : Outcome). ResultsDo (of unit root rank) (program_of unit) (frame_number unit) related rank f p (call_name (program_of unit) f n)
        (λ rest. made (result_value p (call_name (program_of unit) f n)) ∷ rest) (λ v h. go (given p v) h)) (sym is)
        (integer_results i n made go (subst (λ (p : Outcome). EachOf IsFrame (result_frames (call_name (program_of unit) f n) p)) is among).0 does_made)

    -- a result that is not used
    pub dropped_results : (o : Outcome) (n : ℕ) → EachOf IsFrame (result_frames (call_name (program_of unit) f n) o)
        → ResultsDo (of unit root rank) (program_of unit) (frame_number unit) related rank f o (call_name (program_of unit) f n) (λ rest. rest) (λ v h. Normal h)
    dropped_results outcomes.Nothing n among = λ fs m h rest rel. record { later = m; rel = rel; same = refl }
    dropped_results (outcomes.Integer i) n among = λ fs m h v rest rel fits.
        let name : List ℕ = call_name (program_of unit) f n in
        let r = laws.results unit f frame m h n i v frames naming among.0 rel.agree rel.running.0 fits in
        let running = subst (StillRunning (f ∷ fs)) r.stored (running_store (f ∷ fs) (frames_of unit) m (values.Ptr (frame name) 0) (embedded_value (frame_number unit) v) rel.running) in
        record { later = r.later; stored = r.stored; ends = record { later = r.later; rel = record { agree = r.agree; running = running }; same = refl } }

    -- ---- calls

    -- the function that is called gives what its entry says
    result_is : (scopes : List Scope) (call : CallTree) (o : Outcome) → ScopesKnown unit f scopes
        → IsCall unit.words (definitions unit.externals) scopes call o
        → number_of_call call.name < length (program_of unit).functions → (function_at (program_of unit) (number_of_call call.name)).result ≡ o
    result_is scopes call o known c there =
        let g : ℕ = number_of_call call.name in
        let at : slice_get (program_of unit).functions g ≡ Some (function_at (program_of unit) g) = function_there (program_of unit) g there in
        let found = found_entry (EntryKnown unit f) unit.words scopes call.name c.entry known c.found in
        let text : text_at unit.words (function_at (program_of unit) g).name ≡ text_at unit.words call.name = named_text unit.words (program_of unit).functions (text_at unit.words call.name) (function_at (program_of unit) g) at in
        (found.0.agrees o c.params c.function g (function_at (program_of unit) g) at (text ∙ sym found.1)).0

    pub call_does : (scopes : List Scope) (call : CallTree) (n : ℕ) (after : List BodyItem → List BodyItem) (go : Option Value → History → Ending) (o : Outcome) → ScopesKnown unit f scopes
        → IsCall unit.words (definitions unit.externals) scopes call o → CallIsPlain call → CallFine call.name
        → ResultsDo (of unit root rank) (program_of unit) (frame_number unit) related rank f (function_at (program_of unit) (callee (program_of unit) call)).result (call_name (program_of unit) f n) after go
        → CallDoes (of unit root rank) (program_of unit) (frame_number unit) related rank f scopes call n after go
    call_does scopes call n after go o known c plain fine results = record {
      named = fine.named;
      there = fine.there;
      lower = fine.lower;
      arguments_are = λ fs m h rel. record {
        agree = laws.arguments unit f frame scopes m h call.arguments c.params (function_at (program_of unit) (callee (program_of unit) call)).parameters (here unit root rank laws frames f naming fs scopes m h known rel) c.arguments plain;
        fit = λ vs are. laws.arguments_fit unit scopes h call.arguments (function_at (program_of unit) (callee (program_of unit) call)).parameters vs rel.agree.sound are;
      };
      results = results;
    }

    -- ---- values

    pub value_does : (scopes : List Scope) (wanted : Scalar) (value : ValueTree) (n : ℕ) (made : NamedExpression → BodyItem) (go : Valued → History → Ending) → ScopesKnown unit f scopes
        → ValueSuits unit.words (definitions unit.externals) scopes wanted value → ValueIsPlain value → EachOf FineIfDefined (calls_in_value value) → EachOf IsFrame (value_frames (program_of unit) f n value)
        → MadeDoes made go → ValueDoes (of unit root rank) (program_of unit) (frame_number unit) related rank f scopes value n made go
    value_does scopes wanted (OfExpression e) n made go known suits plain fine among does_made =
        λ fs m h rest rel. does_made fs m h rest (value_of (program_of unit) scopes e) (meaning.value_of (program_of unit) scopes h e) rel
        (laws.values unit f frame scopes m h e suits.type (here unit root rank laws frames f naming fs scopes m h known rel) suits.has plain) (laws.values_fit unit scopes h e rel.agree.sound)
    value_does scopes wanted (OfCall call) n made go known suits plain fine among does_made =
        let fine_call : CallFine call.name = fine.0 suits.call_of.made in
        let o : Outcome = (function_at (program_of unit) (callee (program_of unit) call)).result in
        call_does scopes call n (λ rest. made (result_value o (call_name (program_of unit) f n)) ∷ rest) (λ v h. go (given o v) h) (outcomes.Integer suits.type) known suits.call_of plain fine_call
        (valued_results o suits.type n made go (result_is scopes call (outcomes.Integer suits.type) known suits.call_of fine_call.there) among does_made)
