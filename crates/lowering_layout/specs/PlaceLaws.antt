-- Laws of places.
--   object_found           an object is found by its token
--   frame_at               its frame has the name at its place
--   named_at               so is the name at the place of an object
--   frames_apart           two objects have frames of two names
--   call_is_no_object      a result's frame has no object's name
--   names_differ_at   two objects have frames of two names
use Rattle.std.proofs.Common.{◌≡◌, ◌≢◌, ◌<◌, ◌≤◌, ◌+◌, ℕ, zero, suc, Bool, true, false, List, [], ◌∷◌, ◌++◌, length, slice_get, Option, None, Some, refl, sym, ap, ◌∙◌, subst, arith, codes, decimal, eq-eqb, ne_eqb, if◌then◌else◌}
use Rattle.std.specs.Option.{option_map_or}
use Rattle.std.proofs.lemmas.Option.{none-some, same_Some}
use Rattle.c_tokens.specs.Bytes.{is_word_byte}
use Rattle.c_rules.specs.Names.{text_at}
use Rattle.c_meaning.specs.Objects.{Object, Program, object_at}
use Rattle.c_lowered.specs.Names.{call_name, count_like, further, owned_name, name_of_object, names_from, frame_names, name_at, frame_of}
use Rattle.lowering_layout.specs.Lists.{EachOf, Apart}
use Rattle.lowering_layout.specs.ListLaws.{each_at, apart_at}
use Rattle.lowering_layout.specs.Texts.{IsIdentifier}
use Rattle.lowering_layout.specs.TextLaws.{head_of}
use Rattle.lowering_layout.specs.Spelled.{OfOtherTokens, HasNames}
use Rattle.lowering_layout.specs.Differ.{IsKnown}
use Rattle.lowering_layout.specs.DifferLaws.{known_objects, count_within, within_same, within_differs, object_names_differ}
use Rattle.lowering_layout.specs.Places.{NamedAs, HasName, OfOtherFrames}

-- ---- lists

pub each_of_places : {A : Type 0} (P : A → Type 0) (ys : List A) → ((j : ℕ) (y : A) → slice_get ys j ≡ Some y → P y)
    → EachOf P ys
each_of_places P [] f = tt
each_of_places P (y ∷ ys) f = (f 0 y refl, each_of_places P ys (λ j z at. f (suc j) z at))

pub apart_of_places : {A : Type 0} (R : A → A → Type 0) (xs : List A)
    → ((i j : ℕ) (x y : A) → slice_get xs i ≡ Some x → slice_get xs j ≡ Some y → i < j → R x y) → Apart R xs
apart_of_places R [] f = tt
apart_of_places R (x ∷ xs) f = (
  each_of_places (R x) xs (λ j y at. f 0 (suc j) x y refl at (omega arith)),
  apart_of_places R xs (λ i j y z at_i at_j low. f (suc i) (suc j) y z at_i at_j (omega (arith, low))),
)

-- ---- objects by their tokens

found_first : (o : Object) (os : List Object) (token : ℕ) → o.token ≡ token → object_at (o ∷ os) token ≡ 0
found_first o os token e = ap (λ (b : Bool). if b then 0 else object_at os token + 1) (eq-eqb o.token token e)

found_further : (o : Object) (os : List Object) (token : ℕ) → o.token ≢ token
    → object_at (o ∷ os) token ≡ suc (object_at os token)
found_further o os token e = ap (λ (b : Bool). if b then 0 else object_at os token + 1) (ne_eqb o.token token e) ∙ (omega arith)

found_among : (os : List Object) (i : ℕ) (o : Object) → Apart OfOtherTokens os → slice_get os i ≡ Some o
    → object_at os o.token ≡ i
found_among [] i o apart at = absurd (none-some o at)
found_among (p ∷ os) zero o apart at = found_first p os o.token (ap (λ (x : Object). x.token) (same_Some p o at))
found_among (p ∷ os) (suc i) o apart at = found_further p os o.token (each_at (OfOtherTokens p) os i o at apart.0) ∙ ap suc (found_among os i o apart.1 at)

module _ (program : Program) (names : HasNames program) where
  named_among : (seen os : List Object) (i : ℕ) (o : Object) → slice_get os i ≡ Some o → length seen + length os ≤ 256
      → (name : List ℕ) × (slice_get (names_from program seen os) i ≡ Some name) × NamedAs program name o
  named_among seen [] i o at few = absurd (none-some o at)
  named_among seen (p ∷ os) zero o at few =
      let low = count_within program names p seen in (
        name_of_object program seen p,
        refl,
        subst (λ (x : Object). NamedAs program (name_of_object program seen p) x) (same_Some p o at)
            (record { like = count_like program.words p seen; few = omega (arith, low, few); is = refl }),
      )
  named_among seen (p ∷ os) (suc i) o at few = named_among (p ∷ seen) os i o at (omega (arith, few))

  -- an object is found by its token
  pub object_found : (i : ℕ) (o : Object) → slice_get program.objects i ≡ Some o → object_at program.objects o.token ≡ i
  object_found i o at = found_among program.objects i o names.tokens at

  -- its frame has the name at its place
  pub frame_at : (i : ℕ) (o : Object) → slice_get program.objects i ≡ Some o
      → frame_of program o.token ≡ name_at program i
  frame_at i o at = ap (name_at program) (object_found i o at)

  pub named_at : (i : ℕ) (o : Object) → slice_get program.objects i ≡ Some o → HasName program names i o
  named_at i o at =
      let found = named_among [] program.objects i o at (omega (arith, names.few)) in
      let is : name_at program i ≡ found.0 = ap (λ (x : Option (List ℕ)). option_map_or (λ name. name) x []) found.1 in
      record { at = found.1 ∙ ap Some (sym is); named = subst (λ (name : List ℕ). NamedAs program name o) (sym is) found.2 }

  -- two objects have frames of two names
  pub names_differ_at : (i j : ℕ) (o p : Object) → slice_get program.objects i ≡ Some o
      → slice_get program.objects j ≡ Some p → i < j → name_at program i ≢ name_at program j
  names_differ_at i j o p at_i at_j low = apart_at (λ (a b : List ℕ). a ≢ b) (frame_names program) i j (name_at program i) (name_at program j) (named_at i o at_i).at (named_at j p at_j).at low (object_names_differ program names)

  pub frames_apart : Apart (OfOtherFrames program names) program.objects
  frames_apart = apart_of_places (OfOtherFrames program names) program.objects (λ i j o p at_i at_j low e. names_differ_at i j o p at_i at_j low (sym (frame_at i o at_i) ∙ e ∙ frame_at j p at_j))

  -- ---- frames of results

  no_dollar : (t rest : List ℕ) (k : ℕ) → IsIdentifier t → t ++ rest ≢ codes "$" ++ decimal k
  no_dollar [] rest k is e = absurd (omega (arith, is.some))
  no_dollar (b ∷ bs) rest k is e =
      let same : b ∷ (bs ++ rest) ≡ 36 ∷ decimal k = e in
      let first : b ≡ 36 = cc in
      absurd (let bad : true ≡ false = sym (head_of b bs is.bytes).0 ∙ ap is_word_byte first in cc)

  owned_no_call : (f k like : ℕ) (owner : Option ℕ) (t : List ℕ) → f < length program.functions
      → ((g : ℕ) → owner ≡ Some g → g < length program.functions) → IsIdentifier t
      → owned_name program owner t like ≢ call_name program f k
  owned_no_call f k like None t low own is e = within_differs program names f (codes "$" ++ decimal k) t low is.bytes e
  owned_no_call f k like (Some g) t low own is e = no_dollar t (further like) k is (within_same program names g f (t ++ further like) (codes "$" ++ decimal k) (own g refl) low e).1

  -- a result's frame has no object's name
  pub call_is_no_object : (i : ℕ) (o : Object) (f k : ℕ) → slice_get program.objects i ≡ Some o
      → f < length program.functions → name_at program i ≢ call_name program f k
  call_is_no_object i o f k at low e =
      let named = (named_at i o at).named in
      let known = each_at (IsKnown program names) program.objects i o at (known_objects program names) in
      owned_no_call f k named.like o.owner (text_at program.words o.token) low known.1 known.0 (sym named.is ∙ e)
