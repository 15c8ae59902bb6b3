-- Items, functions and programs without a fault, and back.
use Rattle.std.proofs.Common.{◌≡◌, ◌≢◌, ◌<◌, ◌+◌, ℕ, true, false, not, List, [], ◌∷◌, ◌++◌, slice_get, flat_map, Option, Some, None, is_some, zero-add, refl, ap, sym, ◌∙◌, subst, arith}
use Rattle.std.proofs.lemmas.Bool.{false≢true, and_parts}
use Rattle.std.proofs.lemmas.Option.{none-some, same_Some}
use Rattle.lists.specs.TestLaws.{by_test}
use Rattle.alf_program.specs.declared.program.Num.{Num}
use Rattle.alf_program.specs.Tree.{NamedExpression, Null, Store, Jump, Switch, Call, Return, BodyItem, Label, Do, Function, WholeProgram, expressions_of}
use Rattle.alf_faults.specs.Places.{function_place, label_place, is_label_named}
use Rattle.alf_faults.specs.Fault.{Unknown, Duplicate, Size, when, each_from, is_exactly}
use Rattle.alf_faults.specs.Duplicates.{frame_duplicates, function_duplicates, target_duplicates, label_duplicates, entry_duplicates}
use Rattle.alf_faults.specs.Unknowns.{unknown_in, unknown_among, unknown_function, unknown_label, unknown_targets, unknown_result, entry_unknowns}
use Rattle.alf_faults.specs.TermSizes.{term_size, is_bytes}
use Rattle.alf_faults.specs.Returns.{first_return}
use Rattle.alf_faults.specs.Sizes.{targets_fit, arguments_fit, agrees_behind, fits_function, fits_place, return_fits, entry_fits}
use Rattle.alf_faults.specs.Faults.{export_faults, start_faults, entry_faults, header_faults, function_faults, global_faults, faults_in}
use Rattle.alf_faults.specs.NoFault.{SeesFrames, LabelHasNoFault, StoreHasNoFault, SwitchHasNoFault, CallHasNoFault, ReturnHasNoFault, ItemHasNoFault, FunctionHasNoFault, HasNoFault, IsByParts}
use Rattle.alf_faults.proofs.FaultLists.{no_parts, both_none, when_not, not_when, when_either, not_false, none_each, each_none, none_joined, joined_none, exactly, exact_is, stands_first, is_first, same_name, other_name, names_differ, first_named}
use Rattle.alf_faults.proofs.FaultParts.{function_named, named_function, label_found, found_label, frames_none, none_frames, init_none, none_init, export_none, none_export, differ_none, none_differ, leads_none, none_leads, sizes_none, none_sizes, args_none, none_args, sees, sees_all, none_unseen, all_none_unseen, result_none, none_result}

module _ (whole : WholeProgram) (k : ℕ) (func : Function) (i : ℕ) where
  -- ---- what follows where an item has no fault

  label_none : (label : List ℕ) → label_duplicates whole.funcs func.items i label ≡ []
      → LabelHasNoFault whole func i label
  label_none label none =
      let two = when_either (not (is_exactly i (label_place func.items label))) (is_some (function_place whole.funcs label)) (Duplicate label) none in
      let place = exactly i (label_place func.items label) (not_false (is_exactly i (label_place func.items label)) two.0) in
      let before = (stands_first (is_label_named label) func.items i place).1 in
      record {
        first = λ j low at. false≢true (sym (before j (Label label) low at) ∙ same_name label label refl);
        alone = λ there. false≢true (sym two.1 ∙ named_function whole.funcs label there);
      }

  store_none : (at value : NamedExpression) → entry_unknowns whole func (Do (Store at value)) ≡ []
      → entry_fits whole k func i (Do (Store at value)) ≡ true → StoreHasNoFault whole func at value
  store_none at value none fits =
      let parts = no_parts (unknown_in whole func at) (unknown_in whole func value) none in
      let two = and_parts (is_exactly 32 (term_size at)) (is_bytes (term_size value)) fits in
      record { at_sees = sees whole func at parts.0; value_sees = sees whole func value parts.1; at_size = exactly 32 (term_size at) two.0; value_bytes = two.1 }

  switch_none : (value : NamedExpression) (targets : List (Num × List ℕ)) (others : List ℕ)
      → target_duplicates [] targets ≡ [] → entry_unknowns whole func (Do (Switch value targets others)) ≡ []
      → (size : Option ℕ) → term_size value ≡ size → targets_fit size targets ≡ true → SwitchHasNoFault whole func value targets others
  switch_none value targets others twice none None is fits = absurd (false≢true fits)
  switch_none value targets others twice none (Some size) is fits =
      let parts = no_parts (unknown_in whole func value) (unknown_targets func.items targets ++ unknown_label func.items others) none in
      let more = no_parts (unknown_targets func.items targets) (unknown_label func.items others) parts.1 in
      record {
        sees = sees whole func value parts.0;
        leads = leads_none func.items targets more.0;
        leads_else = label_found func.items others (when_not (is_some (label_place func.items others)) (Unknown others) more.1);
        size = size;
        value_size = is;
        sizes = sizes_none size targets fits;
        differ = (differ_none [] targets twice).1;
      }

  call_none : (label : List ℕ) (args : List NamedExpression) (result : Option (List ℕ × ℕ))
      → entry_unknowns whole func (Do (Call label args result)) ≡ []
      → (place : Option ℕ) → function_place whole.funcs label ≡ place → fits_place whole.funcs place k i args (is_some result) ≡ true → CallHasNoFault whole k func i label args result
  call_none label args result none None is fits = absurd (false≢true fits)
  call_none label args result none (Some p) is fits = at (slice_get whole.funcs p) refl fits
    where
      at : (found : Option Function) → slice_get whole.funcs p ≡ found
          → fits_function p found k i args (is_some result) ≡ true → CallHasNoFault whole k func i label args result
      at None there e = absurd (false≢true e)
      at (Some called) there e =
          let parts = no_parts (unknown_function whole label) (unknown_among whole func (expressions_of args) ++ unknown_result whole func result) none in
          let more = no_parts (unknown_among whole func (expressions_of args)) (unknown_result whole func result) parts.1 in
          let two = and_parts (arguments_fit called.args args) (agrees_behind p (first_return called.items) k i (is_some result)) e in
          record {
            sees = sees_all whole func (expressions_of args) more.0;
            result_sees = result_none whole func result more.1;
            place = p;
            called = called;
            found = is;
            at = there;
            sizes = args_none called.args args two.0;
            agrees = two.1;
          }

  return_none : (value : Option NamedExpression) → entry_unknowns whole func (Do (Return value)) ≡ []
      → return_fits whole k func i value ≡ true → ReturnHasNoFault whole k func i value
  return_none None none fits = record { sees = λ e is. absurd (none-some e is); fits = fits }
  return_none (Some value) none fits = record { sees = λ e is. subst (λ (x : NamedExpression). SeesFrames whole func x) (same_Some value e is) (sees whole func value none); fits = fits }

  by_item : (item : BodyItem) → entry_duplicates whole func i item ≡ [] → entry_unknowns whole func item ≡ []
      → entry_fits whole k func i item ≡ true → ItemHasNoFault whole k func i item
  by_item (Label label) twice none fits = label_none label twice
  by_item (Do Null) twice none fits = tt
  by_item (Do (Store at value)) twice none fits = store_none at value none fits
  by_item (Do (Jump label)) twice none fits = label_found func.items label (when_not (is_some (label_place func.items label)) (Unknown label) none)
  by_item (Do (Switch value targets others)) twice none fits = switch_none value targets others twice none (term_size value) refl fits
  by_item (Do (Call label args result)) twice none fits = call_none label args result none (function_place whole.funcs label) refl fits
  by_item (Do (Return value)) twice none fits = return_none value none fits

  pub item_none : (item : BodyItem) → entry_faults whole k func i item ≡ [] → ItemHasNoFault whole k func i item
  item_none item none =
      let parts = no_parts (entry_duplicates whole func i item) (entry_unknowns whole func item ++ when (not (entry_fits whole k func i item)) (Size func.name (Some i))) none in
      let more = no_parts (entry_unknowns whole func item) (when (not (entry_fits whole k func i item)) (Size func.name (Some i))) parts.1 in
      by_item item parts.0 more.0 (when_not (entry_fits whole k func i item) (Size func.name (Some i)) more.1)

  -- ---- and back

  none_label : (label : List ℕ) → slice_get func.items i ≡ Some (Label label) → LabelHasNoFault whole func i label
      → label_duplicates whole.funcs func.items i label ≡ []
  none_label label at h =
      let place = exact_is i (label_place func.items label) (is_first (is_label_named label) func.items i (Label label) at (same_name label label refl) before) in
      let alone : is_some (function_place whole.funcs label) ≡ false = by_test (is_some (function_place whole.funcs label)) (λ t. absurd (h.alone (function_named whole.funcs label t))) (λ t. t) in
      rw (place, alone) refl
    where
      before : (j : ℕ) (y : BodyItem) → j < i → slice_get func.items j ≡ Some y → is_label_named label y ≡ false
      before j (Do act) low is = refl
      before j (Label name) low is = other_name name label (λ e. h.first j low (is ∙ ap (λ (n : List ℕ). Some (Label n)) e))

  none_by_item : (item : BodyItem) → slice_get func.items i ≡ Some item → ItemHasNoFault whole k func i item
      → (entry_duplicates whole func i item ≡ []) × (entry_unknowns whole func item ≡ []) × (entry_fits whole k func i item ≡ true)
  none_by_item (Label label) at h = (none_label label at h, refl, refl)
  none_by_item (Do Null) at h = (refl, refl, refl)
  none_by_item (Do (Store to value)) at h =
      (refl, both_none (unknown_in whole func to) (unknown_in whole func value) (none_unseen whole func to h.at_sees) (none_unseen whole func value h.value_sees), rw (exact_is 32 (term_size to) h.at_size, h.value_bytes) refl)
  none_by_item (Do (Jump label)) at h = (refl, not_when (is_some (label_place func.items label)) (Unknown label) (found_label func.items label h), refl)
  none_by_item (Do (Switch value targets others)) at h = (
    none_differ [] targets (λ t c n d. absurd (let low : d.0 < 0 = d.1 in omega arith)) h.differ,
    both_none (unknown_in whole func value) (unknown_targets func.items targets ++ unknown_label func.items others) (none_unseen whole func value h.sees)
        (both_none (unknown_targets func.items targets) (unknown_label func.items others) (none_leads func.items targets h.leads)
        (not_when (is_some (label_place func.items others)) (Unknown others) (found_label func.items others h.leads_else))),
    ap (λ (size : Option ℕ). targets_fit size targets) h.value_size ∙ none_sizes h.size targets h.sizes,
  )
  none_by_item (Do (Call label args result)) at h = (
    refl,
    both_none (unknown_function whole label) (unknown_among whole func (expressions_of args) ++ unknown_result whole func result)
        (not_when (is_some (function_place whole.funcs label)) (Unknown label) (ap is_some h.found))
        (both_none (unknown_among whole func (expressions_of args)) (unknown_result whole func result) (all_none_unseen whole func (expressions_of args) h.sees) (none_result whole func result h.result_sees)),
    ap (λ (place : Option ℕ). fits_place whole.funcs place k i args (is_some result)) h.found ∙ ap (λ (found : Option Function). fits_function h.place found k i args (is_some result)) h.at
        ∙ (rw (none_args h.called.args args h.sizes, h.agrees) refl),
  )
  none_by_item (Do (Return None)) at h = (refl, refl, h.fits)
  none_by_item (Do (Return (Some value))) at h = (refl, none_unseen whole func value (h.sees value refl), h.fits)

  pub none_item : (item : BodyItem) → slice_get func.items i ≡ Some item → ItemHasNoFault whole k func i item
      → entry_faults whole k func i item ≡ []
  none_item item at h =
      let three = none_by_item item at h in
      both_none (entry_duplicates whole func i item) (entry_unknowns whole func item ++ when (not (entry_fits whole k func i item)) (Size func.name (Some i))) three.0
      (both_none (entry_unknowns whole func item) (when (not (entry_fits whole k func i item)) (Size func.name (Some i))) three.1 (not_when (entry_fits whole k func i item) (Size func.name (Some i)) three.2))

-- ---- functions

module _ (whole : WholeProgram) (k : ℕ) (func : Function) where
  -- a function without a fault is the first of its name
  pub function_none : function_faults whole k func ≡ []
      → (function_place whole.funcs func.name ≡ Some k) × FunctionHasNoFault whole k func
  function_none none =
      let halves = no_parts (header_faults whole k func) (each_from (entry_faults whole k func) 0 func.items) none in
      let name = no_parts (function_duplicates whole.funcs k func) (each_from (frame_duplicates whole.decls [] func.args) 0 func.args ++ (each_from (frame_duplicates whole.decls func.args func.decls) 0 func.decls ++ flat_map (start_faults func.decls) func.inits)) halves.0 in
      let args = no_parts (each_from (frame_duplicates whole.decls [] func.args) 0 func.args) (each_from (frame_duplicates whole.decls func.args func.decls) 0 func.decls ++ flat_map (start_faults func.decls) func.inits) name.1 in
      let decls = no_parts (each_from (frame_duplicates whole.decls func.args func.decls) 0 func.decls) (flat_map (start_faults func.decls) func.inits) args.1 in
      let arg_names = frames_none whole.decls [] func.args args.0 in
      let decl_names = frames_none whole.decls func.args func.decls decls.0 in (
        exactly k (function_place whole.funcs func.name) (when_not (is_exactly k (function_place whole.funcs func.name)) (Duplicate func.name) name.0),
        record {
          args_differ = arg_names.2;
          args_other = arg_names.0;
          decls_differ = decl_names.2;
          decls_other = decl_names.0;
          decls_apart = decl_names.1;
          inits = λ init c. init_none func.decls init (none_joined (start_faults func.decls) func.inits decls.1 init c);
          items = λ i item at. item_none whole k func i item (none_each (entry_faults whole k func) 0 func.items i i item (sym (zero-add i)) halves.1 at);
        },
      )

  pub none_function : function_place whole.funcs func.name ≡ Some k → FunctionHasNoFault whole k func
      → function_faults whole k func ≡ []
  none_function first h =
      both_none (header_faults whole k func) (each_from (entry_faults whole k func) 0 func.items)
      (both_none (function_duplicates whole.funcs k func) (each_from (frame_duplicates whole.decls [] func.args) 0 func.args ++ (each_from (frame_duplicates whole.decls func.args func.decls) 0 func.decls ++ flat_map (start_faults func.decls) func.inits))
      (not_when (is_exactly k (function_place whole.funcs func.name)) (Duplicate func.name) (exact_is k (function_place whole.funcs func.name) first))
      (both_none (each_from (frame_duplicates whole.decls [] func.args) 0 func.args) (each_from (frame_duplicates whole.decls func.args func.decls) 0 func.decls ++ flat_map (start_faults func.decls) func.inits)
      (none_frames whole.decls [] func.args h.args_other (λ frame other c d. absurd (let low : d.0 < 0 = d.1 in omega arith)) h.args_differ)
      (both_none (each_from (frame_duplicates whole.decls func.args func.decls) 0 func.decls) (flat_map (start_faults func.decls) func.inits)
      (none_frames whole.decls func.args func.decls h.decls_other h.decls_apart h.decls_differ)
      (joined_none (start_faults func.decls) func.inits (λ init c. none_init func.decls init (h.inits init c))))))
      (each_none (entry_faults whole k func) 0 func.items (λ i item at. subst (λ (m : ℕ). entry_faults whole k func m item ≡ []) (sym (zero-add i)) (none_item whole k func i item at (h.items i item at))))

-- ---- the program

-- where no part has a fault, there is none, and the other way
pub by_parts : IsByParts
by_parts whole = (forth, back)
  where
    forth : faults_in whole ≡ [] → HasNoFault whole
    forth none =
        let halves = no_parts (global_faults whole) (each_from (function_faults whole) 0 whole.funcs) none in
        let exports = no_parts (flat_map (export_faults whole.decls) whole.exports) (flat_map (unknown_function whole) whole.labels ++ (each_from (frame_duplicates [] [] whole.decls) 0 whole.decls ++ flat_map (start_faults whole.decls) whole.inits)) halves.0 in
        let labels = no_parts (flat_map (unknown_function whole) whole.labels) (each_from (frame_duplicates [] [] whole.decls) 0 whole.decls ++ flat_map (start_faults whole.decls) whole.inits) exports.1 in
        let decls = no_parts (each_from (frame_duplicates [] [] whole.decls) 0 whole.decls) (flat_map (start_faults whole.decls) whole.inits) labels.1 in
        let each = λ (k : ℕ) (func : Function) (at : slice_get whole.funcs k ≡ Some func). function_none whole k func (none_each (function_faults whole) 0 whole.funcs k k func (sym (zero-add k)) halves.1 at) in
        record {
          exports = λ name c. export_none whole.decls name (none_joined (export_faults whole.decls) whole.exports exports.0 name c);
          labels = λ name c. function_named whole.funcs name (when_not (is_some (function_place whole.funcs name)) (Unknown name) (none_joined (unknown_function whole) whole.labels labels.0 name c));
          decls_differ = (frames_none [] [] whole.decls decls.0).2;
          inits = λ init c. init_none whole.decls init (none_joined (start_faults whole.decls) whole.inits decls.1 init c);
          funcs_differ = names_differ (λ (f : Function). f.name) whole.funcs (λ k func at. (each k func at).0);
          funcs = λ k func at. (each k func at).1;
        }

    back : HasNoFault whole → faults_in whole ≡ []
    back h =
        both_none (global_faults whole) (each_from (function_faults whole) 0 whole.funcs)
        (both_none (flat_map (export_faults whole.decls) whole.exports) (flat_map (unknown_function whole) whole.labels ++ (each_from (frame_duplicates [] [] whole.decls) 0 whole.decls ++ flat_map (start_faults whole.decls) whole.inits))
        (joined_none (export_faults whole.decls) whole.exports (λ name c. none_export whole.decls name (h.exports name c)))
        (both_none (flat_map (unknown_function whole) whole.labels) (each_from (frame_duplicates [] [] whole.decls) 0 whole.decls ++ flat_map (start_faults whole.decls) whole.inits)
        (joined_none (unknown_function whole) whole.labels (λ name c. not_when (is_some (function_place whole.funcs name)) (Unknown name) (named_function whole.funcs name (h.labels name c))))
        (both_none (each_from (frame_duplicates [] [] whole.decls) 0 whole.decls) (flat_map (start_faults whole.decls) whole.inits)
        (none_frames [] [] whole.decls (λ frame other c d. absurd (let low : d.0 < 0 = d.1 in omega arith)) (λ frame other c d. absurd (let low : d.0 < 0 = d.1 in omega arith)) h.decls_differ)
        (joined_none (start_faults whole.decls) whole.inits (λ init c. none_init whole.decls init (h.inits init c))))))
        (each_none (function_faults whole) 0 whole.funcs (λ k func at. subst (λ (m : ℕ). function_faults whole m func ≡ []) (sym (zero-add k)) (none_function whole k func (first_named (λ (f : Function). f.name) whole.funcs h.funcs_differ k func at) (h.funcs k func at))))
