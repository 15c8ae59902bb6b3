-- Which functions run, and where bytes come from, in a history over an embedded table.
use Rattle.std.specs.Prelude.{if◌then◌else◌}
use Rattle.std.specs.Option.{option_map}
use Rattle.std.proofs.Common.{◌≡◌, ℕ, Bool, true, false, List, [], ◌∷◌, Option, Some, None, refl, sym, ap, ◌∙◌, ◌==◌}
use Rattle.std.proofs.lemmas.Bool.{ne_eqb, eq-eqb, eqb-true}
use Rattle.lists.specs.TestLaws.{by_test}
use Rattle.alf_ops.specs.declared.history.Value.{Value}
use Rattle.alf_ops.specs.declared.history.RunEvent.{RunEvent}
use Rattle.alf_ops.specs.declared.history.RunEvent.TheVariants.{Enter, Leave, Store}
use Rattle.alf_ops.specs.Histories.{Byte, is_running, is_owner, is_byte_of, left_by, put, origin}
use Rattle.lowering_values.specs.Embedding.{embedded_value, embedded_history, embedded_only}

-- ---- functions that run

either_way : {A : Type 0} (test : Bool) (x y z : A) → x ≡ z → y ≡ z → (if test then x else y) ≡ z
either_way true x y z same other = same
either_way false x y z same other = other

without_store : (test : Bool) (frame offset size : ℕ) (value : Value) (rest : List RunEvent) (function : ℕ)
    → is_running (if test then Store frame offset size value ∷ rest else rest) function ≡ is_running rest function
without_store true frame offset size value rest function = refl
without_store false frame offset size value rest function = refl

module _ (is_embedded : ℕ → Bool) where
  pub only_running : (m : List RunEvent) (function : ℕ)
      → is_running (embedded_only is_embedded m) function ≡ is_running m function
  only_running [] function = refl
  only_running (Enter entered ∷ m) function = ap (λ (b : Bool). if entered == function then true else b) (only_running m function)
  only_running (Leave left ∷ m) function = ap (λ (b : Bool). if left == function then false else b) (only_running m function)
  only_running (Store frame offset size value ∷ m) function =
      without_store (is_embedded frame) frame offset size value (embedded_only is_embedded m) function ∙ only_running m function

  -- ---- further frames aside

  pub elsewhere : (owner : Option ℕ) (frame byte : ℕ) → is_embedded frame ≡ true → (m : List RunEvent)
      → origin owner frame (embedded_only is_embedded m) byte ≡ origin owner frame m byte
  elsewhere owner frame byte is [] = refl
  elsewhere owner frame byte is (Enter entered ∷ m) = ap (λ (b : Option Byte). if is_owner owner entered then None else b) (elsewhere owner frame byte is m)
  elsewhere owner frame byte is (Leave left ∷ m) = elsewhere owner frame byte is m
  elsewhere owner frame byte is (Store other offset size value ∷ m) =
      by_test (is_embedded other)
      (λ kept.
      ap (λ (b : Bool). origin owner frame (if b then Store other offset size value ∷ embedded_only is_embedded m else embedded_only is_embedded m) byte) kept
      ∙ ap (λ (b : Option Byte). if other == frame then (if is_byte_of offset size byte then Some (left_by offset size value byte) else b) else b) (elsewhere owner frame byte is m)
      ∙ put_either (other == frame) offset size value (origin owner frame m) byte)
      (λ dropped.
      let differ : (other == frame) ≡ false = ne_eqb other frame (λ same. false_true (sym dropped ∙ ap is_embedded same ∙ is)) in
      ap (λ (b : Bool). origin owner frame (if b then Store other offset size value ∷ embedded_only is_embedded m else embedded_only is_embedded m) byte) dropped
      ∙ elsewhere owner frame byte is m
      ∙ sym (ap (λ (b : Bool). if b then put offset size value (origin owner frame m) byte else origin owner frame m byte) differ))
    where
      false_true : false ≡ true → ⊥
      false_true is = cc

      put_either : (test : Bool) (offset size : ℕ) (value : Value) (from : ℕ → Option Byte) (byte : ℕ)
          → (if test then (if is_byte_of offset size byte then Some (left_by offset size value byte) else from byte) else from byte)
          ≡ (if test then put offset size value from byte else from byte)
      put_either test offset size value from byte = refl

-- ---- the embedding

-- a byte that a store left, of the embedded value
abbrev pub embedded_byte : (ℕ → ℕ) → Byte → Byte
embedded_byte place byte = record { offset = byte.offset; size = byte.size; value = embedded_value place byte.value; place = byte.place }

pub embedded_running : (place : ℕ → ℕ) (h : List RunEvent) (function : ℕ)
    → is_running (embedded_history place h) function ≡ is_running h function
embedded_running place [] function = refl
embedded_running place (Enter entered ∷ h) function = ap (λ (b : Bool). if entered == function then true else b) (embedded_running place h function)
embedded_running place (Leave left ∷ h) function = ap (λ (b : Bool). if left == function then false else b) (embedded_running place h function)
embedded_running place (Store frame offset size value ∷ h) function = embedded_running place h function

-- frames are one where they were one
same_frame : (place : ℕ → ℕ) → ((frame other : ℕ) → place frame ≡ place other → frame ≡ other) → (frame other : ℕ)
    → (place frame == place other) ≡ (frame == other)
same_frame place apart frame other =
    by_test (frame == other)
    (λ same. eq-eqb (place frame) (place other) (ap place (eqb-true frame other same)) ∙ sym same)
    (λ differ. ne_eqb (place frame) (place other) (λ e. not_both (sym differ ∙ eq-eqb frame other (apart frame other e))) ∙ sym differ)
  where
    not_both : false ≡ true → ⊥
    not_both is = cc

either_none : (place : ℕ → ℕ) (test : Bool) (from : Option Byte)
    → (if test then None else option_map (embedded_byte place) from) ≡ option_map (embedded_byte place) (if test then None else from)
either_none place true from = refl
either_none place false from = refl

either_put : (place : ℕ → ℕ) (test : Bool) (offset size : ℕ) (value : Value) (byte : ℕ) (from : Option Byte)
    → (if test then Some (left_by offset size (embedded_value place value) byte) else option_map (embedded_byte place) from)
    ≡ option_map (embedded_byte place) (if test then Some (left_by offset size value byte) else from)
either_put place true offset size value byte from = refl
either_put place false offset size value byte from = refl

either_frame : (place : ℕ → ℕ) (test : Bool) (x y : Option Byte)
    → (if test then option_map (embedded_byte place) x else option_map (embedded_byte place) y) ≡ option_map (embedded_byte place) (if test then x else y)
either_frame place true x y = refl
either_frame place false x y = refl

pub embedded_origin : (place : ℕ → ℕ) → ((frame other : ℕ) → place frame ≡ place other → frame ≡ other)
    → (owner : Option ℕ) (frame byte : ℕ) (h : List RunEvent)
    → origin owner (place frame) (embedded_history place h) byte ≡ option_map (embedded_byte place) (origin owner frame h byte)
embedded_origin place apart owner frame byte [] = refl
embedded_origin place apart owner frame byte (Enter entered ∷ h) =
    ap (λ (b : Option Byte). if is_owner owner entered then None else b) (embedded_origin place apart owner frame byte h)
    ∙ either_none place (is_owner owner entered) (origin owner frame h byte)
embedded_origin place apart owner frame byte (Leave left ∷ h) = embedded_origin place apart owner frame byte h
embedded_origin place apart owner frame byte (Store other offset size value ∷ h) =
    let rest = embedded_origin place apart owner frame byte h in
    ap (λ (b : Bool). if b then put offset size (embedded_value place value) (origin owner (place frame) (embedded_history place h)) byte
    else origin owner (place frame) (embedded_history place h) byte) (same_frame place apart other frame)
    ∙ ap (λ (b : Option Byte). if other == frame then (if is_byte_of offset size byte then Some (left_by offset size (embedded_value place value) byte) else b) else b) rest
    ∙ ap (λ (b : Option Byte). if other == frame then b else option_map (embedded_byte place) (origin owner frame h byte))
    (either_put place (is_byte_of offset size byte) offset size value byte (origin owner frame h byte))
    ∙ either_frame place (other == frame) (put offset size value (origin owner frame h) byte) (origin owner frame h byte)
