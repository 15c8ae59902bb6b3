-- The parts of a program without a fault, and back.
use Rattle.std.proofs.Common.{◌≡◌, ◌≢◌, ◌+◌, ◌==◌, ◌||◌, ℕ, zero, suc, Bool, true, false, not, List, [], ◌∷◌, ◌++◌, ◌⊎◌, inl, inr, slice_get, AllPairs, Contains, Option, Some, None, is_some, zero-add, refl, ap, sym, ◌∙◌, subst, eqb-true, eq-eqb, arith}
use Rattle.std.specs.List.{AllZip, list_any}
use Rattle.std.specs.Str.{bytes_eq}
use Rattle.std.proofs.lemmas.Bool.{false≢true, and_parts, or_parts}
use Rattle.std.proofs.lemmas.Option.{none-some, same_Some}
use Rattle.std.proofs.lemmas.List.Kept.{AllPairs-cons}
use Rattle.std.proofs.lemmas.List.Elements.{Contains-append_left, Contains-push, Contains-push_cases}
use Rattle.lists.specs.TestLaws.{by_test}
use Rattle.lists.specs.MemberLaws.{no_member, first_member, further_member, first_or_further, contained, placed, all_members}
use Rattle.alf_program.specs.declared.program.Num.{Num}
use Rattle.alf_program.specs.Tree.{Number, Address, Load, Apply, Empty, With, NamedExpression, NamedExpressions, BodyItem, Label, Do, Allocation, InitialValue, Function, WholeProgram}
use Rattle.alf_faults.specs.Places.{frame_place, function_place, label_place, is_label_named}
use Rattle.alf_faults.specs.Fault.{Fault, Unknown, Duplicate, Size, when, each_from, is_exactly}
use Rattle.alf_faults.specs.Duplicates.{frame_duplicates, number_twice, target_duplicates}
use Rattle.alf_faults.specs.Unknowns.{is_frame, unknown_frame, unknown_in, unknown_among, unknown_label, unknown_targets, unknown_result}
use Rattle.alf_faults.specs.TermSizes.{term_size}
use Rattle.alf_faults.specs.Sizes.{start_fits, is_export_size, targets_have, arguments_fit}
use Rattle.alf_faults.specs.Faults.{frame_at, export_faults_at, export_faults, start_faults_at, start_faults}
use Rattle.alf_faults.specs.NoFault.{DifferInName, HaveOtherNames, IsFrameNamed, IsFunctionNamed, HasLabel, ExportHasNoFault, InitHasNoFault, IsSeen, SeesFrames, SeesAllFrames}
use Rattle.alf_faults.proofs.FaultLists.{no_parts, both_none, when_not, not_when, when_either, not_false, none_each, each_none, exactly, exact_is, some_place, place_some, place_none, same_name, is_name, other_name, names_differ, first_named}

-- ---- names

-- a frame of the name is found exactly where there is one
frame_named : (frames : List Allocation) (name : List ℕ) → is_some (frame_place frames name) ≡ true
    → IsFrameNamed frames name
frame_named frames name some = let there = place_some (λ (f : Allocation). bytes_eq f.name name) frames some in (there.0, there.1, is_name there.0.name name there.2)

named_frame : (frames : List Allocation) (name : List ℕ) → IsFrameNamed frames name
    → is_some (frame_place frames name) ≡ true
named_frame frames name there = some_place (λ (f : Allocation). bytes_eq f.name name) frames there.0 there.1 (same_name there.0.name name there.2)

-- so is a function
pub function_named : (funcs : List Function) (name : List ℕ) → is_some (function_place funcs name) ≡ true
    → IsFunctionNamed funcs name
function_named funcs name some = let there = place_some (λ (f : Function). bytes_eq f.name name) funcs some in (there.0, there.1, is_name there.0.name name there.2)

pub named_function : (funcs : List Function) (name : List ℕ) → IsFunctionNamed funcs name
    → is_some (function_place funcs name) ≡ true
named_function funcs name there = some_place (λ (f : Function). bytes_eq f.name name) funcs there.0 there.1 (same_name there.0.name name there.2)

-- and a label
label_is : (label : List ℕ) (item : BodyItem) → is_label_named label item ≡ true → item ≡ Label label
label_is label (Label name) e = ap Label (is_name name label e)
label_is label (Do act) e = absurd (false≢true e)

pub label_found : (items : List BodyItem) (label : List ℕ) → is_some (label_place items label) ≡ true
    → HasLabel items label
label_found items label some =
    let there = place_some (is_label_named label) items some in subst (λ (item : BodyItem). Contains items item) (label_is label there.0 there.2) there.1

pub found_label : (items : List BodyItem) (label : List ℕ) → HasLabel items label
    → is_some (label_place items label) ≡ true
found_label items label there = some_place (is_label_named label) items (Label label) there (same_name label label refl)

-- frames with names of their own
pub frames_none : (taken others frames : List Allocation)
    → each_from (frame_duplicates taken others frames) 0 frames ≡ []
    → HaveOtherNames taken frames × HaveOtherNames others frames × DifferInName frames
frames_none taken others frames none = (apart taken (λ k x at. (each k x at).0), apart others (λ k x at. (each k x at).1), names_differ (λ (f : Allocation). f.name) frames (λ k x at. (each k x at).2))
  where
    each : (k : ℕ) (x : Allocation) → slice_get frames k ≡ Some x
        → (is_some (frame_place taken x.name) ≡ false) × (is_some (frame_place others x.name) ≡ false) × (frame_place frames x.name ≡ Some k)
    each k x at =
        let here = none_each (frame_duplicates taken others frames) 0 frames k k x (sym (zero-add k)) none at in
        let two = when_either (is_some (frame_place taken x.name) || is_some (frame_place others x.name)) (not (is_exactly k (frame_place frames x.name))) (Duplicate x.name) here in
        let names = or_parts (is_some (frame_place taken x.name)) (is_some (frame_place others x.name)) two.0 in
        (names.0, names.1, exactly k (frame_place frames x.name) (not_false (is_exactly k (frame_place frames x.name)) two.1))

    apart : (list : List Allocation)
        → ((k : ℕ) (x : Allocation) → slice_get frames k ≡ Some x → is_some (frame_place list x.name) ≡ false)
        → HaveOtherNames list frames
    apart list clear frame other c d e =
        false≢true (sym (clear c.0 frame (placed frames frame c)) ∙ named_frame list frame.name (other, d, e))

pub none_frames : (taken others frames : List Allocation) → HaveOtherNames taken frames → HaveOtherNames others frames
    → DifferInName frames
    → each_from (frame_duplicates taken others frames) 0 frames ≡ []
none_frames taken others frames new_taken new_others differ = each_none (frame_duplicates taken others frames) 0 frames (λ k x at. subst (λ (m : ℕ). frame_duplicates taken others frames m x ≡ []) (sym (zero-add k)) (none k x at))
  where
    clear : (list : List Allocation) → HaveOtherNames list frames → (x : Allocation) → Contains frames x
        → is_some (frame_place list x.name) ≡ false
    clear list new x c = place_none (λ (f : Allocation). bytes_eq f.name x.name) list (λ y d. other_name y.name x.name (new x y c d))

    none : (k : ℕ) (x : Allocation) → slice_get frames k ≡ Some x → frame_duplicates taken others frames k x ≡ []
    none k x at =
        let c = contained frames k x at in
        let first = exact_is k (frame_place frames x.name) (first_named (λ (f : Allocation). f.name) frames differ k x at) in
        rw (clear taken new_taken x c, clear others new_others x c, first) refl

-- ---- what frames hold at first, and exports

pub init_none : (frames : List Allocation) (init : InitialValue) → start_faults frames init ≡ []
    → InitHasNoFault frames init
init_none frames init none = at (frame_at frames (frame_place frames init.name)) refl none
  where
    at : (found : Option Allocation) → frame_at frames (frame_place frames init.name) ≡ found
        → start_faults_at init found ≡ [] → InitHasNoFault frames init
    at None is e = cc
    at (Some frame) is e = record { frame = frame; found = is; fits = when_not (start_fits frame.bits init) (Size init.name None) e }

pub none_init : (frames : List Allocation) (init : InitialValue) → InitHasNoFault frames init
    → start_faults frames init ≡ []
none_init frames init h = ap (start_faults_at init) h.found ∙ not_when (start_fits h.frame.bits init) (Size init.name None) h.fits

pub export_none : (frames : List Allocation) (name : List ℕ) → export_faults frames name ≡ []
    → ExportHasNoFault frames name
export_none frames name none = at (frame_at frames (frame_place frames name)) refl none
  where
    at : (found : Option Allocation) → frame_at frames (frame_place frames name) ≡ found
        → export_faults_at name found ≡ [] → ExportHasNoFault frames name
    at None is e = cc
    at (Some frame) is e = record { frame = frame; found = is; size = when_not (is_export_size frame.bits) (Size name None) e }

pub none_export : (frames : List Allocation) (name : List ℕ) → ExportHasNoFault frames name
    → export_faults frames name ≡ []
none_export frames name h = ap (export_faults_at name) h.found ∙ not_when (is_export_size h.frame.bits) (Size name None) h.size

-- ---- targets

-- targets whose numbers differ from one another and from earlier ones
pub differ_none : (earlier : List ℕ) (targets : List (Num × List ℕ)) → target_duplicates earlier targets ≡ []
    → ((t : Num × List ℕ) → Contains targets t → (n : ℕ) → Contains earlier n → t.0.bits ≢ n) × AllPairs (λ t u. t.0.bits ≢ u.0.bits) targets
differ_none earlier [] none = (λ t c n d. no_member t c, λ i j d before inside. absurd (omega arith))
differ_none earlier (target ∷ targets) none =
    let parts = no_parts (when (list_any (λ number. target.0.bits == number) earlier) (number_twice target.0.bits)) (target_duplicates (earlier ++ target.0.bits ∷ []) targets) none in
    let rest = differ_none (earlier ++ target.0.bits ∷ []) targets parts.1 in (
      λ t c n d. first_or_further target targets t c (λ same. subst (λ (u : Num × List ℕ). u.0.bits ≢ n) same (new earlier target.0.bits (no_when _ _ parts.0) n d)) (λ more. rest.0 t more n (Contains-append_left earlier (target.0.bits ∷ []) n d)),
      AllPairs-cons (λ (t u : Num × List ℕ). t.0.bits ≢ u.0.bits) target targets (all_members (λ (u : Num × List ℕ). target.0.bits ≢ u.0.bits) targets (λ u c e. rest.0 u c target.0.bits (Contains-push earlier target.0.bits) (sym e))) rest.1,
    )
  where
    no_when : (test : Bool) (fault : Fault) → when test fault ≡ [] → test ≡ false
    no_when true fault e = cc
    no_when false fault e = refl

    new : (numbers : List ℕ) (bits : ℕ) → list_any (λ number. bits == number) numbers ≡ false → (n : ℕ)
        → Contains numbers n → bits ≢ n
    new [] bits e n c same = no_member n c
    new (m ∷ numbers) bits e n c same =
        let two = or_parts (bits == m) (list_any (λ number. bits == number) numbers) e in
        first_or_further m numbers n c (λ is. absurd (false≢true (sym two.0 ∙ eq-eqb bits m (same ∙ sym is)))) (λ more. new numbers bits two.1 n more same)

pub none_differ : (earlier : List ℕ) (targets : List (Num × List ℕ))
    → ((t : Num × List ℕ) → Contains targets t → (n : ℕ) → Contains earlier n → t.0.bits ≢ n)
    → AllPairs (λ t u. t.0.bits ≢ u.0.bits) targets
    → target_duplicates earlier targets ≡ []
none_differ earlier [] new differ = refl
none_differ earlier (target ∷ targets) new differ =
    both_none (when (list_any (λ number. target.0.bits == number) earlier) (number_twice target.0.bits)) (target_duplicates (earlier ++ target.0.bits ∷ []) targets)
    (rw (clear earlier (new target (first_member target targets))) refl)
    (none_differ (earlier ++ target.0.bits ∷ []) targets
    (λ t c n d. elim (Contains-push_cases earlier target.0.bits n d) [ inl before ↦ new t (further_member target targets t c) n before | inr e ↦ λ same. apart t c (e ∙ sym same) ])
    (λ i j d before inside. differ (suc i) (suc j) d (omega arith) (omega arith)))
  where
    clear : (numbers : List ℕ) → ((n : ℕ) → Contains numbers n → target.0.bits ≢ n)
        → list_any (λ number. target.0.bits == number) numbers ≡ false
    clear [] none = refl
    clear (m ∷ numbers) none =
        let here : (target.0.bits == m) ≡ false = by_test (target.0.bits == m) (λ t. absurd (none m (first_member m numbers) (eqb-true target.0.bits m t))) (λ t. t) in
        rw (here, clear numbers (λ n c. none n (further_member m numbers n c))) refl

    apart : (t : Num × List ℕ) → Contains targets t → target.0.bits ≢ t.0.bits
    apart t c same = differ 0 (suc c.0) t (omega arith) (let low = c.1 in omega arith) (same ∙ ap (λ (u : Num × List ℕ). u.0.bits) (sym c.2))

-- targets that lead to labels
pub leads_none : (items : List BodyItem) (targets : List (Num × List ℕ)) → unknown_targets items targets ≡ []
    → (t : Num × List ℕ) → Contains targets t → HasLabel items t.1
leads_none items [] none t c = no_member t c
leads_none items (target ∷ targets) none t c =
    let parts = no_parts (unknown_label items target.1) (unknown_targets items targets) none in
    first_or_further target targets t c
    (λ same. subst (λ (u : Num × List ℕ). HasLabel items u.1) same (label_found items target.1 (when_not (is_some (label_place items target.1)) (Unknown target.1) parts.0)))
    (λ more. leads_none items targets parts.1 t more)

pub none_leads : (items : List BodyItem) (targets : List (Num × List ℕ))
    → ((t : Num × List ℕ) → Contains targets t → HasLabel items t.1) → unknown_targets items targets ≡ []
none_leads items [] leads = refl
none_leads items (target ∷ targets) leads =
    both_none (unknown_label items target.1) (unknown_targets items targets)
    (not_when (is_some (label_place items target.1)) (Unknown target.1) (found_label items target.1 (leads target (first_member target targets))))
    (none_leads items targets (λ t c. leads t (further_member target targets t c)))

-- targets of one size
pub sizes_none : (size : ℕ) (targets : List (Num × List ℕ)) → targets_have size targets ≡ true → (t : Num × List ℕ)
    → Contains targets t → t.0.size ≡ size
sizes_none size [] e t c = no_member t c
sizes_none size (target ∷ targets) e t c =
    let two = and_parts (target.0.size == size) (targets_have size targets) e in
    first_or_further target targets t c (λ same. subst (λ (u : Num × List ℕ). u.0.size ≡ size) same (eqb-true target.0.size size two.0)) (λ more. sizes_none size targets two.1 t more)

pub none_sizes : (size : ℕ) (targets : List (Num × List ℕ))
    → ((t : Num × List ℕ) → Contains targets t → t.0.size ≡ size) → targets_have size targets ≡ true
none_sizes size [] each = refl
none_sizes size (target ∷ targets) each =
    rw (eq-eqb target.0.size size (each target (first_member target targets)), none_sizes size targets (λ t c. each t (further_member target targets t c))) refl

-- ---- arguments

pub args_none : (frames : List Allocation) (args : List NamedExpression) → arguments_fit frames args ≡ true
    → AllZip (λ arg frame. term_size arg ≡ Some frame.bits) args frames
args_none [] [] e = tt
args_none (frame ∷ frames) [] e = absurd (false≢true e)
args_none [] (arg ∷ args) e = absurd (false≢true e)
args_none (frame ∷ frames) (arg ∷ args) e =
    let two = and_parts (is_exactly frame.bits (term_size arg)) (arguments_fit frames args) e in (exactly frame.bits (term_size arg) two.0, args_none frames args two.1)

pub none_args : (frames : List Allocation) (args : List NamedExpression)
    → AllZip (λ arg frame. term_size arg ≡ Some frame.bits) args frames → arguments_fit frames args ≡ true
none_args [] [] z = refl
none_args (frame ∷ frames) [] z = absurd z
none_args [] (arg ∷ args) z = absurd z
none_args (frame ∷ frames) (arg ∷ args) z = rw (exact_is frame.bits (term_size arg) z.0, none_args frames args z.1) refl

-- ---- expressions

module _ (whole : WholeProgram) (func : Function) where
  -- a frame that the function sees
  seen : (name : List ℕ) → unknown_frame whole func name ≡ [] → IsSeen whole func name
  seen name none =
      let is = when_not (is_frame whole func name) (Unknown name) none in
      by_test (is_some (frame_place whole.decls name)) (λ a. inl (frame_named whole.decls name a))
      (λ a. by_test (is_some (frame_place func.args name)) (λ b. inr (inl (frame_named func.args name b)))
      (λ b. inr (inr (frame_named func.decls name (last (is_some (frame_place whole.decls name)) (is_some (frame_place func.args name)) (is_some (frame_place func.decls name)) a b is)))))
    where
      last : (a b c : Bool) → a ≡ false → b ≡ false → (a || b || c) ≡ true → c ≡ true
      last a b c e f g = let h = g in rw (e, f) at h

  is_seen : (name : List ℕ) → IsSeen whole func name → unknown_frame whole func name ≡ []
  is_seen name s = not_when (is_frame whole func name) (Unknown name) (either (is_some (frame_place whole.decls name)) (is_some (frame_place func.args name)) (is_some (frame_place func.decls name)) (elim s [
    | inl a ↦ inl (named_frame whole.decls name a)
    | inr more ↦ elim more [ inl b ↦ inr (inl (named_frame func.args name b)) | inr c ↦ inr (inr (named_frame func.decls name c)) ]
  ]))
    where
      either : (a b c : Bool) → (a ≡ true) ⊎ ((b ≡ true) ⊎ (c ≡ true)) → (a || b || c) ≡ true
      either true b c h = refl
      either false true c h = refl
      either false false true h = refl
      either false false false h = elim h [ inl e ↦ e | inr more ↦ elim more [ inl e ↦ e | inr e ↦ e ] ]

  mutual
    -- expressions whose frames it sees
    pub sees : (e : NamedExpression) → unknown_in whole func e ≡ [] → SeesFrames whole func e
    sees (Number n) none = tt
    sees (Address name offset) none = seen name none
    sees (Load size at) none = sees at none
    sees (Apply op sizes operands) none = sees_all operands none

    pub sees_all : (es : NamedExpressions) → unknown_among whole func es ≡ [] → SeesAllFrames whole func es
    sees_all Empty none = tt
    sees_all (With e es) none = let parts = no_parts (unknown_in whole func e) (unknown_among whole func es) none in (sees e parts.0, sees_all es parts.1)

  mutual
    pub none_unseen : (e : NamedExpression) → SeesFrames whole func e → unknown_in whole func e ≡ []
    none_unseen (Number n) s = refl
    none_unseen (Address name offset) s = is_seen name s
    none_unseen (Load size at) s = none_unseen at s
    none_unseen (Apply op sizes operands) s = all_none_unseen operands s

    pub all_none_unseen : (es : NamedExpressions) → SeesAllFrames whole func es → unknown_among whole func es ≡ []
    all_none_unseen Empty s = refl
    all_none_unseen (With e es) s = both_none (unknown_in whole func e) (unknown_among whole func es) (none_unseen e s.0) (all_none_unseen es s.1)

  pub result_none : (result : Option (List ℕ × ℕ)) → unknown_result whole func result ≡ [] → (target : List ℕ × ℕ)
      → result ≡ Some target → IsSeen whole func target.0
  result_none None none target e = absurd (none-some target e)
  result_none (Some found) none target e = subst (λ (t : List ℕ × ℕ). IsSeen whole func t.0) (same_Some found target e) (seen found.0 none)

  pub none_result : (result : Option (List ℕ × ℕ))
      → ((target : List ℕ × ℕ) → result ≡ Some target → IsSeen whole func target.0)
      → unknown_result whole func result ≡ []
  none_result None each = refl
  none_result (Some target) each = is_seen target.0 (each target refl)
