-- Checked programs and their items.
--   each_is_cut   their blocks do what their items do, and each label that is named stands
use Rattle.std.proofs.Common.{◌≡◌, ◌+◌, ℕ, zero, suc, add-zero, List, [], ◌∷◌, length, map, Contains, Option, Some, None, is_some, Bool, true, false, slice_get, refl, sym, ap, ◌∙◌, subst, ⊎_elim, arith}
use Rattle.std.specs.Prelude.{if◌then◌else◌}
use Rattle.std.specs.Option.{option_map, option_map_or}
use Rattle.std.proofs.lemmas.Slice.Eq.{bytes_eq-Decides}
use Rattle.lists.specs.MemberLaws.{no_member, first_or_further}
use Rattle.lists.specs.ImageLaws.{mapped}
use Rattle.alf_ops.specs.declared.history.FrameShape.{FrameShape}
use Rattle.alf_program.specs.declared.program.Num.{Num}
use Rattle.alf_program.specs.Tree.{Null, Store, Jump, Switch, Call, Return, BodyItem, Label, Do, Function, WholeProgram}
use Rattle.alf_faults.specs.Places.{place_of, is_label_named}
use Rattle.alf_faults.specs.NoFault.{HasLabel, ItemHasNoFault, HasNoFault, IsByParts}
use Rattle.alf_check.specs.CheckedPrograms.{NumberedProgram, NumberedFunction, NumberedBlock, blocks_at}
use Rattle.alf_check.specs.Numbers.{has_label, frames_before, first_frame, numbers_in}
use Rattle.alf_check.specs.Numbered.{numbered_function, functions_from, numbered}
use Rattle.alf_check.specs.Kept.{IsKept}
use Rattle.alf_runs.specs.Steps.{frames_of}
use Rattle.item_runs.specs.Stretches.{Names, IsNamed}
use Rattle.item_runs.specs.Cuts.{IsCut, BlocksAreCut}
use Rattle.item_runs.specs.Following.{AreCut}
use Rattle.item_runs.specs.CheckedItems.{items_of, no_numbers, numbers_of, with_items}

-- ---- labels

-- an item that names the label
record NamedAt (items : List BodyItem) (label : List ℕ) : Type 0 where
  place : ℕ
  item : BodyItem
  at : slice_get items place ≡ Some item
  names : Names item label

named_at : (items : List BodyItem) (label : List ℕ) → IsNamed items label → NamedAt items label
named_at [] label named = absurd named
named_at (item ∷ items) label named = ⊎_elim
    (λ (h : Names item label). record { place = 0; item = item; at = refl; names = h })
    (λ (h : IsNamed items label). let further = named_at items label h in record { place = suc further.place; item = further.item; at = further.at; names = further.names })
    named

-- a label that an item names without a fault stands
names_standing : (whole : WholeProgram) (k : ℕ) (func : Function) (i : ℕ) (item : BodyItem) (label : List ℕ)
    → ItemHasNoFault whole k func i item → Names item label → HasLabel func.items label
names_standing whole k func i (Label own) label sound names = absurd names
names_standing whole k func i (Do Null) label sound names = absurd names
names_standing whole k func i (Do (Store to value)) label sound names = absurd names
names_standing whole k func i (Do (Jump to)) label sound names = subst (HasLabel func.items) names sound
names_standing whole k func i (Do (Switch value targets others)) label sound names = ⊎_elim
    (λ (e : others ≡ label). subst (HasLabel func.items) e sound.leads_else)
    (λ (c : Contains (map (λ (target : Num × List ℕ). target.1) targets) label).
    let found = mapped (λ (target : Num × List ℕ). target.1) targets label c in subst (HasLabel func.items) found.2 (sound.leads found.0 found.1))
    names
names_standing whole k func i (Do (Call f args result)) label sound names = absurd names
names_standing whole k func i (Do (Return value)) label sound names = absurd names

some_on : (o : Option ℕ) → is_some o ≡ true → is_some (option_map (λ place. place + 1) o) ≡ true
some_on None e = e
some_on (Some n) e = refl

choice_some : (v : Bool) (o : Option ℕ) → is_some o ≡ true
    → is_some (if v then Some 0 else option_map (λ place. place + 1) o) ≡ true
choice_some true o e = refl
choice_some false o e = some_on o e

choice_first : (v : Bool) (o : Option ℕ) → v ≡ true
    → is_some (if v then Some 0 else option_map (λ place. place + 1) o) ≡ true
choice_first true o e = refl
choice_first false o e = absurd (cc)

-- an item that is the label
standing : (items : List BodyItem) (label : List ℕ) → HasLabel items label → has_label label items ≡ true
standing [] label c = no_member (Label label) c
standing (item ∷ items) label c = first_or_further item items (Label label) c
    (λ e. choice_first (is_label_named label item) (place_of (is_label_named label) items) (ap (is_label_named label) e ∙ (bytes_eq-Decides label label).1 refl))
    (λ h. choice_some (is_label_named label item) (place_of (is_label_named label) items) (standing items label h))

-- ---- functions

functions_at : (whole : WholeProgram) (first : ℕ) (funcs : List Function) (k : ℕ) (func : Function)
    → slice_get funcs k ≡ Some func
    → slice_get (functions_from whole first funcs) k ≡ Some (numbered_function whole (first + frames_before funcs k) func)
functions_at whole first [] k func e = absurd (cc)
functions_at whole first (own ∷ funcs) zero func e =
    let same : own ≡ func = cc in ap (λ (f : Function). Some (numbered_function whole first f)) same ∙ ap (λ (n : ℕ). Some (numbered_function whole n func)) (sym (add-zero first))
functions_at whole first (own ∷ funcs) (suc k) func e =
    let counted : first + (length own.args + length own.decls) + frames_before funcs k ≡ first + ((length own.args + length own.decls) + frames_before funcs k) = omega arith in
    functions_at whole (first + (length own.args + length own.decls)) funcs k func e ∙ ap (λ (n : ℕ). Some (numbered_function whole n func)) counted

functions_none : (whole : WholeProgram) (first : ℕ) (funcs : List Function) (k : ℕ) → slice_get funcs k ≡ None
    → slice_get (functions_from whole first funcs) k ≡ None
functions_none whole first [] k e = refl
functions_none whole first (own ∷ funcs) zero e = absurd (cc)
functions_none whole first (own ∷ funcs) (suc k) e = functions_none whole (first + (length own.args + length own.decls)) funcs k e

abbrev blocks_in : Option NumberedFunction → List NumberedBlock
blocks_in o = option_map_or (λ (function : NumberedFunction). function.blocks) o []

-- the blocks of function f do what its items do
cut_at : BlocksAreCut → (frames : List FrameShape) (whole : WholeProgram) (root : List ℕ) (f : ℕ)
    → IsCut frames (numbers_of whole f) (items_of whole f) (blocks_at (numbered whole root) f)
cut_at cuts frames whole root f = go (slice_get whole.funcs f) refl where
  go : (o : Option Function) → slice_get whole.funcs f ≡ o
      → IsCut frames (option_map_or (numbers_in whole (first_frame whole f)) o no_numbers) (option_map_or (λ (func : Function). func.items) o []) (blocks_at (numbered whole root) f)
  go None e = subst (IsCut frames no_numbers []) (sym (ap blocks_in (functions_none whole (length whole.decls) whole.funcs f e))) (cuts frames no_numbers [] refl)
  go (Some func) e =
      subst (IsCut frames (numbers_in whole (first_frame whole f) func) func.items) (sym (ap blocks_in (functions_at whole (length whole.decls) whole.funcs f func e)))
      (cuts frames (numbers_in whole (first_frame whole f) func) func.items refl)

-- each label that is named in function f stands
stand_at : (whole : WholeProgram) → HasNoFault whole → (f : ℕ) (label : List ℕ) → IsNamed (items_of whole f) label
    → has_label label (items_of whole f) ≡ true
stand_at whole sound f label named = go (slice_get whole.funcs f) refl named where
  go : (o : Option Function) → slice_get whole.funcs f ≡ o
      → IsNamed (option_map_or (λ (func : Function). func.items) o []) label
      → has_label label (option_map_or (λ (func : Function). func.items) o []) ≡ true
  go None e named = absurd named
  go (Some func) e named =
      let found = named_at func.items label named in
      standing func.items label (names_standing whole f func found.place found.item label ((sound.funcs f func e).items found.place found.item found.at) found.names)

-- the blocks of a checked program do what its items do, and each label that is named stands
pub each_is_cut : BlocksAreCut → IsByParts → (program : NumberedProgram) (kept : IsKept program)
    → AreCut (with_items program kept.checked.whole)
each_is_cut cuts parts program kept =
    let checked = kept.checked in
    let sound = (parts checked.whole).0 checked.passes.sound in
    record {
      cut = λ f. subst (λ (p : NumberedProgram). IsCut (frames_of program) (numbers_of checked.whole f) (items_of checked.whole f) (blocks_at p f)) (sym checked.numbers)
          (cut_at cuts (frames_of program) checked.whole checked.root f);
      stand = stand_at checked.whole sound;
    }
