-- Laws of differ.
--   function_known, functions_differ    each function has an identifier for a name, and two have two
--   object_names_differ                 two objects have frames of two names
--   calls_differ         names of results and of labels by function and number
--   call_is_no_object, label_is_no_function
--   within_differs   what a function owns has no name without colons
--   owned_same       the names of two objects by owner, text and how many like it stand before
use Rattle.std.proofs.Common.{◌≡◌, ◌≢◌, ◌<◌, ◌≤◌, ◌^◌, ◌+◌, ◌==◌, ◌&&◌, ℕ, zero, suc, Bool, true, false, List, [], ◌∷◌, ◌++◌, length, slice_get, Option, None, Some, refl, sym, ap, ◌∙◌, subst, arith, codes, decimal, eqb-true, eq-eqb, bytes_eq, if◌then◌else◌}
use Rattle.std.specs.List.{list_all}
use Rattle.std.specs.Option.{option_map_or}
use Rattle.std.proofs.lemmas.Option.{none-some, same_Some}
use Rattle.std.proofs.lemmas.Slice.Eq.{bytes_eq-Decides}
use Rattle.lists.specs.TestLaws.{by_test}
use Rattle.c_tokens.specs.Bytes.{is_word_byte}
use Rattle.c_rules.specs.Names.{text_at}
use Rattle.c_meaning.specs.Objects.{Object, Function, Program, no_function}
use Rattle.c_lowered.specs.Names.{function_name, within, label_name, call_name, same_owner, is_like, count_like, further, owned_name, name_of_object, names_from, frame_names}
use Rattle.lowering_layout.specs.Lists.{EachOf, Apart}
use Rattle.lowering_layout.specs.ListLaws.{each_at, each_both}
use Rattle.lowering_layout.specs.Texts.{IsIdentifier, Goes}
use Rattle.lowering_layout.specs.TextLaws.{cut, alone_differs, decimal_same}
use Rattle.lowering_layout.specs.Spelled.{FunctionIsNamed, ObjectIsNamed, OfOtherNames, DifferAsGlobals, IsOwned, HasNames}
use Rattle.lowering_layout.specs.Differ.{Owner, MoreThan, IsKnown}

-- ---- members by place

placed_at : {A : Type 0} (xs : List A) (i : ℕ) → i < length xs → (x : A) × (slice_get xs i ≡ Some x)
placed_at [] i low = absurd (omega (arith, low))
placed_at (x ∷ xs) zero low = (x, refl)
placed_at (x ∷ xs) (suc i) low = placed_at xs i (omega (arith, low))

apart_either : {A : Type 0} (R : A → A → Type 0) (xs : List A) (i j : ℕ) (x y : A) → ((a b : A) → R a b → R b a)
    → slice_get xs i ≡ Some x → slice_get xs j ≡ Some y → i ≢ j → Apart R xs → R x y
apart_either R [] i j x y turn at_i at_j other h = absurd (none-some x at_i)
apart_either R (z ∷ zs) zero zero x y turn at_i at_j other h = absurd (other refl)
apart_either R (z ∷ zs) zero (suc j) x y turn at_i at_j other h = subst (λ w. R w y) (same_Some z x at_i) (each_at (R z) zs j y at_j h.0)
apart_either R (z ∷ zs) (suc i) zero x y turn at_i at_j other h = turn y x (subst (λ w. R w x) (same_Some z y at_j) (each_at (R z) zs i x at_i h.0))
apart_either R (z ∷ zs) (suc i) (suc j) x y turn at_i at_j other h = apart_either R zs i j x y turn at_i at_j (λ e. other (ap suc e)) h.1

-- ---- functions

module _ (program : Program) (names : HasNames program) where
  at_place : (f : ℕ) (function : Function) → slice_get program.functions f ≡ Some function
      → function_name program f ≡ text_at program.words function.name
  at_place f function at = ap (λ (x : Option Function). text_at program.words (option_map_or (λ function. function) x no_function).name) at

  pub function_known : (f : ℕ) → f < length program.functions → IsIdentifier (function_name program f)
  function_known f low =
      let at = placed_at program.functions f low in
      subst IsIdentifier (sym (at_place f at.0 at.1)) (each_at (FunctionIsNamed program.words) program.functions f at.0 at.1 names.functions)

  pub functions_differ : (f g : ℕ) → f < length program.functions → g < length program.functions
      → function_name program f ≡ function_name program g → f ≡ g
  functions_differ f g low_f low_g e =
      let at_f = placed_at program.functions f low_f in
      let at_g = placed_at program.functions g low_g in
      by_test (f == g) (λ same. eqb-true f g same)
      (λ other. absurd (apart_either (OfOtherNames program.words) program.functions f g at_f.0 at_g.0 (λ a b h e. h (sym e)) at_f.1 at_g.1
      (λ same. let bad : false ≡ true = sym other ∙ eq-eqb f g same in cc) names.functions_differ
      (sym (at_place f at_f.0 at_f.1) ∙ e ∙ at_place g at_g.0 at_g.1)))

  -- ---- what a function owns

  pub within_same : (f g : ℕ) (xs ys : List ℕ) → f < length program.functions → g < length program.functions
      → within program f xs ≡ within program g ys → (f ≡ g) × (xs ≡ ys)
  within_same f g xs ys low_f low_g e =
      let parts = cut (function_name program f) (function_name program g) (58 ∷ (58 ∷ xs)) (58 ∷ (58 ∷ ys)) (function_known f low_f).bytes (function_known g low_g).bytes refl refl e in
      let rest : 58 ∷ (58 ∷ xs) ≡ 58 ∷ (58 ∷ ys) = parts.1 in
      (functions_differ f g low_f low_g parts.0, cc)

  -- what a function owns has no name without colons
  pub within_differs : (f : ℕ) (xs ys : List ℕ) → f < length program.functions → list_all is_word_byte ys ≡ true
      → ys ≢ within program f xs
  within_differs f xs ys low plain e = alone_differs ys (function_name program f) (58 ∷ xs) plain (function_known f low).bytes e

  -- ---- labels and results

  pub calls_differ : (f g k l : ℕ) → f < length program.functions → g < length program.functions → k < 10 ^ 64
      → l < 10 ^ 64 → call_name program f k ≡ call_name program g l → (f ≡ g) × (k ≡ l)
  calls_differ f g k l low_f low_g low_k low_l e =
      let parts = within_same f g (codes "$" ++ decimal k) (codes "$" ++ decimal l) low_f low_g e in
      let rest : 36 ∷ decimal k ≡ 36 ∷ decimal l = parts.1 in
      (parts.0, decimal_same k l low_k low_l (let same : decimal k ≡ decimal l = cc in same))

  pub label_is_no_function : (f g k : ℕ) → f < length program.functions → g < length program.functions
      → function_name program g ≢ label_name program f k
  label_is_no_function f g k low_f low_g e = within_differs f (codes "L" ++ decimal k) (function_name program g) low_f (function_known g low_g).bytes e

  -- ---- objects

  goes_further : (k : ℕ) → Goes (further k)
  goes_further zero = tt
  goes_further (suc k) = refl

  further_same : (k l : ℕ) → k < 10 ^ 64 → l < 10 ^ 64 → further k ≡ further l → k ≡ l
  further_same zero zero low_k low_l e = refl
  further_same zero (suc l) low_k low_l e = absurd (let bad : [] ≡ 58 ∷ (58 ∷ decimal (suc l)) = e in cc)
  further_same (suc k) zero low_k low_l e = absurd (let bad : 58 ∷ (58 ∷ decimal (suc k)) ≡ [] = e in cc)
  further_same (suc k) (suc l) low_k low_l e =
      let both : 58 ∷ (58 ∷ decimal (suc k)) ≡ 58 ∷ (58 ∷ decimal (suc l)) = e in
      decimal_same (suc k) (suc l) low_k low_l (let same : decimal (suc k) ≡ decimal (suc l) = cc in same)

  -- the names of two objects by owner, text and how many like it stand before
  pub owned_same : (a b : Option ℕ) (t u : List ℕ) (k l : ℕ) → Owner program names a → Owner program names b
      → IsIdentifier t → IsIdentifier u → k < 10 ^ 64 → l < 10 ^ 64
      → owned_name program a t k ≡ owned_name program b u l → (a ≡ b) × (t ≡ u) × (((f : ℕ) → a ≡ Some f → k ≡ l))
  owned_same None None t u k l own_a own_b is_t is_u low_k low_l e = (refl, e, λ f none. absurd (none-some f none))
  owned_same None (Some g) t u k l own_a own_b is_t is_u low_k low_l e = absurd (within_differs g (u ++ further l) t (own_b g refl) is_t.bytes e)
  owned_same (Some f) None t u k l own_a own_b is_t is_u low_k low_l e = absurd (within_differs f (t ++ further k) u (own_a f refl) is_u.bytes (sym e))
  owned_same (Some f) (Some g) t u k l own_a own_b is_t is_u low_k low_l e =
      let parts = within_same f g (t ++ further k) (u ++ further l) (own_a f refl) (own_b g refl) e in
      let texts = cut t u (further k) (further l) is_t.bytes is_u.bytes (goes_further k) (goes_further l) parts.1 in
      (ap Some parts.0, texts.0, λ h is. further_same k l low_k low_l texts.1)

  -- ---- how many objects like one stand before it

  like_same : (o p other : Object) → o.owner ≡ p.owner → text_at program.words o.token ≡ text_at program.words p.token
      → is_like program.words o other ≡ is_like program.words p other
  like_same o p other owners texts =
      ap (λ (x : Option ℕ). same_owner x other.owner && bytes_eq (text_at program.words o.token) (text_at program.words other.token)) owners
      ∙ ap (λ (t : List ℕ). same_owner p.owner other.owner && bytes_eq t (text_at program.words other.token)) texts

  count_same : (o p : Object) (os : List Object) → o.owner ≡ p.owner
      → text_at program.words o.token ≡ text_at program.words p.token
      → count_like program.words o os ≡ count_like program.words p os
  count_same o p [] owners texts = refl
  count_same o p (other ∷ os) owners texts = rw (like_same o p other owners texts, count_same o p os owners texts) refl

  count_first : (o : Object) (b : Bool) (n : ℕ) → n ≤ (if b then suc n else n)
  count_first o true n = omega arith
  count_first o false n = omega arith

  count_last : (b : Bool) (n m : ℕ) → n ≤ m → (if b then suc n else n) ≤ suc m
  count_last true n m low = omega (arith, low)
  count_last false n m low = omega (arith, low)

  pub count_within : (o : Object) (os : List Object) → count_like program.words o os ≤ length os
  count_within o [] = omega arith
  count_within o (other ∷ os) = count_last (is_like program.words o other) (count_like program.words o os) (length os) (count_within o os)

  same_owners : (a : Option ℕ) → same_owner a a ≡ true
  same_owners None = refl
  same_owners (Some f) = eq-eqb f f refl

  like_itself : (o p : Object) → o.owner ≡ p.owner → text_at program.words o.token ≡ text_at program.words p.token
      → is_like program.words o p ≡ true
  like_itself o p owners texts =
      let texts_same : bytes_eq (text_at program.words p.token) (text_at program.words p.token) ≡ true = (bytes_eq-Decides (text_at program.words p.token) (text_at program.words p.token)).1 refl in
      like_same o p p owners texts ∙ (rw (same_owners p.owner, texts_same) refl)

  more_after : (o : Object) (earlier : List Object)
      → MoreThan program names (count_like program.words o earlier) o (o ∷ earlier)
  more_after o earlier p owners texts =
      let same = count_same p o earlier owners texts in
      let one : count_like program.words p (o ∷ earlier) ≡ suc (count_like program.words p earlier) = ap (λ (b : Bool). if b then suc (count_like program.words p earlier) else count_like program.words p earlier) (like_itself p o owners texts) in
      omega (arith, same, one)

  more_still : (k : ℕ) (o q : Object) (seen : List Object) → MoreThan program names k o seen
      → MoreThan program names k o (q ∷ seen)
  more_still k o q seen more p owners texts =
      let before = more p owners texts in
      let first = count_first p (is_like program.words p q) (count_like program.words p seen) in
      omega (arith, before, first)

  -- ---- objects

  small : (n m : ℕ) → n ≤ m → m ≤ 256 → n < 10 ^ 64
  small n m low few = omega (arith, low, few)

  names_differ_at : (o p : Object) (earlier seen : List Object) → IsKnown program names o → IsKnown program names p
      → DifferAsGlobals program.words o p → MoreThan program names (count_like program.words o earlier) o seen
      → length earlier ≤ 256 → length seen ≤ 256
      → name_of_object program earlier o ≢ name_of_object program seen p
  names_differ_at o p earlier seen known_o known_p apart more few_o few_p e =
      let k = count_like program.words o earlier in
      let l = count_like program.words p seen in
      let same = owned_same o.owner p.owner (text_at program.words o.token) (text_at program.words p.token) k l known_o.1 known_p.1 known_o.0 known_p.0
      (small k (length earlier) (count_within o earlier) few_o) (small l (length seen) (count_within p seen) few_p) e in
      by_owner o.owner refl same.0 same.1 same.2
    where
      by_owner : (x : Option ℕ) → o.owner ≡ x → o.owner ≡ p.owner
          → text_at program.words o.token ≡ text_at program.words p.token
          → ((f : ℕ) → o.owner ≡ Some f → count_like program.words o earlier ≡ count_like program.words p seen) → ⊥
      by_owner None is owners texts counts = apart is (sym owners ∙ is) texts
      by_owner (Some f) is owners texts counts = let low = more p (sym owners) (sym texts) in let same = counts f is in absurd (omega (arith, low, same))

  differs_from : (o : Object) (earlier seen os : List Object) → IsKnown program names o
      → EachOf (IsKnown program names) os → EachOf (DifferAsGlobals program.words o) os
      → MoreThan program names (count_like program.words o earlier) o seen → length earlier ≤ 256
      → length seen + length os ≤ 256
      → EachOf (λ (name : List ℕ). name_of_object program earlier o ≢ name) (names_from program seen os)
  differs_from o earlier seen [] known_o known apart more few_o few = tt
  differs_from o earlier seen (p ∷ ps) known_o known apart more few_o few = (
    names_differ_at o p earlier seen known_o known.0 apart.0 more few_o (omega (arith, few)),
    differs_from o earlier (p ∷ seen) ps known_o known.1 apart.1 (more_still (count_like program.words o earlier) o p seen more) few_o (omega (arith, few)),
  )

  names_from_differ : (earlier os : List Object) → EachOf (IsKnown program names) os
      → Apart (DifferAsGlobals program.words) os → length earlier + length os ≤ 256
      → Apart (λ (a b : List ℕ). a ≢ b) (names_from program earlier os)
  names_from_differ earlier [] known apart few = tt
  names_from_differ earlier (o ∷ os) known apart few = (
    differs_from o earlier (o ∷ earlier) os known.0 known.1 apart.0 (more_after o earlier) (omega (arith, few)) (omega (arith, few)),
    names_from_differ (o ∷ earlier) os known.1 apart.1 (omega (arith, few)),
  )

  pub known_objects : EachOf (IsKnown program names) program.objects
  known_objects = each_both (ObjectIsNamed program.words) (IsOwned (length program.functions)) program.objects names.objects names.owned

  -- two objects have frames of two names
  pub object_names_differ : Apart (λ (a b : List ℕ). a ≢ b) (frame_names program)
  object_names_differ = names_from_differ [] program.objects known_objects names.globals_differ (omega (arith, names.few))
