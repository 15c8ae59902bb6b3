-- The store that a byte comes from.
use Rattle.std.proofs.Common.{◌≡◌, ◌↔◌, ℕ, Bool, true, false, not, ◌&&◌, List, [], ◌∷◌, ◌++◌, Option, Some, None, refl, ap, sym, ◌∙◌}
use Rattle.std.specs.Prelude.{◌==◌}
use Rattle.std.specs.List.{list_all}
use Rattle.std.proofs.lemmas.Bool.{and_parts, and_from, eq-eqb, eqb-true, false≢true}
use Rattle.alf_ops.specs.declared.history.Value.{Value}
use Rattle.alf_ops.specs.declared.history.RunEvent.{RunEvent}
use Rattle.alf_ops.specs.declared.history.RunEvent.TheVariants.{Enter, Leave, Store}
use Rattle.alf_ops.specs.Histories.{Byte, is_owner, is_byte_of, left_by, origin}
use Rattle.alf_ops.specs.HistoryLaws.{leaves_alone, NewestStore}
use Rattle.lists.specs.TestLaws.{by_test}

not_true : (v : Bool) → not v ≡ true → v ≡ false
not_true true e = absurd (false≢true e)
not_true false e = refl

module _ (owner : Option ℕ) (frame byte : ℕ) where
  -- an event that leaves the byte alone is passed over
  passed_over : (event : RunEvent) (history : List RunEvent) → leaves_alone owner frame byte event ≡ true
      → origin owner frame (event ∷ history) byte ≡ origin owner frame history byte
  passed_over (Enter entered) history alone = rw (not_true (is_owner owner entered) alone) refl
  passed_over (Leave left) history alone = refl
  passed_over (Store f o s v) history alone = by_test (f == frame)
      (λ here. by_test (is_byte_of o s byte)
      (λ inside. absurd (false≢true (sym (not_true _ alone) ∙ and_from _ _ here inside)))
      (λ outside. rw (here, outside) refl))
      (λ there. rw there refl)

  -- an event more that leaves the byte alone
  extended : (event : RunEvent) (history : List RunEvent) (offset size : ℕ) (value : Value)
      → leaves_alone owner frame byte event ≡ true
      → NewestStore owner history frame byte offset size value → NewestStore owner (event ∷ history) frame byte offset size value
  extended event history offset size value alone found = record {
    newer = event ∷ found.newer;
    older = found.older;
    split = ap (λ (events : List RunEvent). event ∷ events) found.split;
    alone = and_from _ _ alone found.alone;
    covers = found.covers;
  }

  -- the store comes first
  first_store : (f o s : ℕ) (v : Value) (history : List RunEvent) (offset size : ℕ) (value : Value) → f ≡ frame
      → is_byte_of o s byte ≡ true
      → left_by o s v byte ≡ left_by offset size value byte → NewestStore owner (Store f o s v ∷ history) frame byte offset size value
  first_store f o s v history offset size value ff inside same =
      let oo : o ≡ offset = ap (λ (b : Byte). b.offset) same in
      let ss : s ≡ size = ap (λ (b : Byte). b.size) same in
      let vv : v ≡ value = ap (λ (b : Byte). b.value) same in
      record {
        newer = [];
        older = history;
        split = λ i. Store (ff i) (oo i) (ss i) (vv i) ∷ history;
        alone = refl;
        covers = sym (λ i. is_byte_of (oo i) (ss i) byte) ∙ inside;
      }

  found_newest : (history : List RunEvent) (offset size : ℕ) (value : Value)
      → origin owner frame history byte ≡ Some (left_by offset size value byte)
      → NewestStore owner history frame byte offset size value
  found_newest [] offset size value e = cc
  found_newest (Enter entered ∷ history) offset size value e = by_test (is_owner owner entered)
      (λ same. let f : None ≡ Some (left_by offset size value byte) = rw same at e in cc)
      (λ other. extended (Enter entered) history offset size value (rw other refl) (found_newest history offset size value (rw other at e)))
  found_newest (Leave left ∷ history) offset size value e = extended (Leave left) history offset size value refl (found_newest history offset size value e)
  found_newest (Store f o s v ∷ history) offset size value e = by_test ((f == frame) && is_byte_of o s byte)
      (λ covers.
      let parts = and_parts _ _ covers in
      let h : Some (left_by o s v byte) ≡ Some (left_by offset size value byte) = rw (parts.0, parts.1) at e in
      let same : left_by o s v byte ≡ left_by offset size value byte = cc in
      first_store f o s v history offset size value (eqb-true f frame parts.0) parts.1 same)
      (λ other.
      let alone : leaves_alone owner frame byte (Store f o s v) ≡ true = rw other refl in
      extended (Store f o s v) history offset size value alone (found_newest history offset size value (sym (passed_over (Store f o s v) history alone) ∙ e)))

  is_newest : (newer older : List RunEvent) (offset size : ℕ) (value : Value)
      → list_all (leaves_alone owner frame byte) newer ≡ true → is_byte_of offset size byte ≡ true
      → origin owner frame (newer ++ Store frame offset size value ∷ older) byte ≡ Some (left_by offset size value byte)
  is_newest [] older offset size value alone covers = rw (eq-eqb frame frame refl, covers) refl
  is_newest (event ∷ newer) older offset size value alone covers =
      let parts = and_parts _ _ alone in
      passed_over event (newer ++ Store frame offset size value ∷ older) parts.0 ∙ is_newest newer older offset size value parts.1 covers

  pub comes_from_newest : (history : List RunEvent) (offset size : ℕ) (value : Value)
      → (origin owner frame history byte ≡ Some (left_by offset size value byte)) ↔ NewestStore owner history frame byte offset size value
  comes_from_newest history offset size value = (
    found_newest history offset size value,
    λ found. ap (λ (events : List RunEvent). origin owner frame events byte) found.split ∙ is_newest found.newer found.older offset size value found.alone found.covers,
  )
