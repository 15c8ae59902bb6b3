-- What loads and stores give over an embedded table.
use Rattle.std.specs.Prelude.{if◌then◌else◌, slice_get}
use Rattle.std.specs.Option.{option_map}
use Rattle.std.specs.List.{list_all, list_any}
use Rattle.std.proofs.Common.{◌≡◌, ℕ, Bool, true, false, ◌+◌, ◌*◌, ◌/◌, ◌<◌, List, [], ◌∷◌, map, Option, Some, None, Result, Ok, Err, refl, sym, ap, ◌∙◌, subst, arith}
use Rattle.std.proofs.lemmas.Bool.{le-leb}
use Rattle.alf_ops.specs.declared.history.Value.{Value}
use Rattle.alf_ops.specs.declared.history.Value.TheVariants.{Int, Ptr}
use Rattle.alf_ops.specs.declared.history.RunFault.{RunFault}
use Rattle.alf_ops.specs.declared.history.RunFault.TheVariants.{Uninit, Mixed, Bounds, Dead, Kind}
use Rattle.alf_ops.specs.declared.history.FrameShape.{FrameShape}
use Rattle.alf_ops.specs.declared.history.RunEvent.{RunEvent}
use Rattle.alf_ops.specs.declared.history.RunEvent.TheVariants.{Enter, Leave, Store}
use Rattle.alf_ops.specs.Values.{bits_of, is_pointer, size_of, FitsValue}
use Rattle.alf_ops.specs.Histories.{Byte, is_running, is_active, origin, bytes_of, is_empty, is_from, of_pointer, bits_at, word_of, first_value, contents, cell_in, fits_in, address_in, loaded, load, stored, store}
use Rattle.alf_ops.specs.HistoryLaws.{StoreThenLoad}
use Rattle.lowering_values.specs.Embedding.{Places, embedded_value, embedded_result, embedded_only}
use Rattle.lowering_values.specs.EmbeddingLaws.{Agrees, AgreeAfter, GoOnToAgree, IsKeptIn}
use Rattle.lowering_values.proofs.Origins.{only_running, elsewhere, embedded_byte, embedded_running, embedded_origin}

-- ---- what bytes give

module _ (place : ℕ → ℕ) where
  abbrev seen : Option Byte → Option Byte
  seen byte = option_map (embedded_byte place) byte

  any_seen : (test : Option Byte → Bool) → ((byte : Option Byte) → test (seen byte) ≡ test byte)
      → (bytes : List (Option Byte)) → list_any test (map seen bytes) ≡ list_any test bytes
  any_seen test same [] = refl
  any_seen test same (byte ∷ bytes) = rw (same byte, any_seen test same bytes) refl

  all_seen : (test : Option Byte → Bool) → ((byte : Option Byte) → test (seen byte) ≡ test byte)
      → (bytes : List (Option Byte)) → list_all test (map seen bytes) ≡ list_all test bytes
  all_seen test same [] = refl
  all_seen test same (byte ∷ bytes) = rw (same byte, all_seen test same bytes) refl

  empty_seen : (byte : Option Byte) → is_empty (seen byte) ≡ is_empty byte
  empty_seen None = refl
  empty_seen (Some byte) = refl

  from_seen : (offset size : ℕ) (byte : Option Byte) → is_from offset size (seen byte) ≡ is_from offset size byte
  from_seen offset size None = refl
  from_seen offset size (Some byte) = refl

  pointer_value : (value : Value) → is_pointer (embedded_value place value) ≡ is_pointer value
  pointer_value (Int size word) = refl
  pointer_value (Ptr frame offset) = refl

  bits_value : (value : Value) → bits_of (embedded_value place value) ≡ bits_of value
  bits_value (Int size word) = refl
  bits_value (Ptr frame offset) = refl

  pub size_value : (value : Value) → size_of (embedded_value place value) ≡ size_of value
  size_value (Int size word) = refl
  size_value (Ptr frame offset) = refl

  pointer_seen : (byte : Option Byte) → of_pointer (seen byte) ≡ of_pointer byte
  pointer_seen None = refl
  pointer_seen (Some byte) = pointer_value byte.value

  bits_seen : (byte : Option Byte) → bits_at (seen byte) ≡ bits_at byte
  bits_seen None = refl
  bits_seen (Some byte) = rw (bits_value byte.value) refl

  word_seen : (bytes : List (Option Byte)) → word_of (map seen bytes) ≡ word_of bytes
  word_seen [] = refl
  word_seen (byte ∷ bytes) = rw (word_seen bytes, bits_seen byte) refl

  first_seen : (bytes : List (Option Byte)) → first_value (map seen bytes) ≡ embedded_result place (first_value bytes)
  first_seen [] = refl
  first_seen (None ∷ bytes) = refl
  first_seen (Some byte ∷ bytes) = refl

  by_cases : (empty one pointer : Bool) (first : Result Value RunFault) (size word : ℕ)
      → (if empty then Err Uninit else (if one then embedded_result place first else (if pointer then Err Mixed else Ok (Int size word))))
      ≡ embedded_result place (if empty then Err Uninit else (if one then first else (if pointer then Err Mixed else Ok (Int size word))))
  by_cases true one pointer first size word = refl
  by_cases false true pointer first size word = refl
  by_cases false false true first size word = refl
  by_cases false false false first size word = refl

  contents_seen : (bytes : List (Option Byte)) (offset size : ℕ)
      → contents (map seen bytes) offset size ≡ embedded_result place (contents bytes offset size)
  contents_seen bytes offset size =
      rw (any_seen is_empty empty_seen bytes, all_seen (is_from offset size) (from_seen offset size) bytes, any_seen of_pointer pointer_seen bytes, first_seen bytes, word_seen bytes)
      (by_cases (list_any is_empty bytes) (list_all (is_from offset size) bytes) (list_any of_pointer bytes) (first_value bytes) size (word_of bytes))

  all_bytes : (outer inner : ℕ → Option Byte) → ((byte : ℕ) → outer byte ≡ seen (inner byte)) → (bytes : List ℕ)
      → map outer bytes ≡ map seen (map inner bytes)
  all_bytes outer inner same [] = refl
  all_bytes outer inner same (byte ∷ bytes) = rw (same byte, all_bytes outer inner same bytes) refl

  pub cell_seen : (outer inner : ℕ → Option Byte) (offset size : ℕ)
      → ((byte : ℕ) → outer byte ≡ option_map (embedded_byte place) (inner byte))
      → cell_in outer offset size ≡ embedded_result place (cell_in inner offset size)
  cell_seen outer inner offset size same =
      ap (λ (bytes : List (Option Byte)). contents bytes offset size) (all_bytes outer inner same (bytes_of offset size))
      ∙ contents_seen (map inner (bytes_of offset size)) offset size

-- ---- loads

module _ (place : ℕ → ℕ) (is_embedded : ℕ → Bool) where
  pub runs_alike : (m h : List RunEvent) (function : ℕ) → Agrees place is_embedded m h
      → is_running m function ≡ is_running h function
  runs_alike m h function agrees =
      sym (only_running is_embedded m function) ∙ ap (λ (events : List RunEvent). is_running events function) agrees.same ∙ embedded_running place h function

  active_alike : (m h : List RunEvent) (owner : Option ℕ) → Agrees place is_embedded m h
      → is_active owner m ≡ is_active owner h
  active_alike m h None agrees = refl
  active_alike m h (Some function) agrees = runs_alike m h function agrees

  -- what a byte of an embedded frame comes from
  origin_alike : (inner outer : List FrameShape) (m h : List RunEvent) (owner : Option ℕ) (frame byte : ℕ)
      → Places place is_embedded inner outer → Agrees place is_embedded m h
      → origin owner (place frame) m byte ≡ option_map (embedded_byte place) (origin owner frame h byte)
  origin_alike inner outer m h owner frame byte places agrees =
      sym (elsewhere is_embedded owner (place frame) byte (places.told frame) m)
      ∙ ap (λ (events : List RunEvent). origin owner (place frame) events byte) agrees.same
      ∙ embedded_origin place places.apart owner frame byte h

  pub load_alike : (inner outer : List FrameShape) (m h : List RunEvent) (at : Value) (size : ℕ)
      → Places place is_embedded inner outer → Agrees place is_embedded m h
      → load outer m (embedded_value place at) size ≡ embedded_result place (load inner h at size)
  load_alike inner outer m h (Int own word) size places agrees = refl
  load_alike inner outer m h (Ptr frame offset) size places agrees =
      ap (λ (row : Option FrameShape). loaded m size (address_in row m (place frame) offset size)) (places.same frame) ∙ at_row (slice_get inner frame)
    where
      by_tests : (active fits : Bool) (x : Result Value RunFault) (owner : Option ℕ)
          → cell_in (origin owner (place frame) m) offset size ≡ embedded_result place (cell_in (origin owner frame h) offset size)
          → loaded m size (if active then (if fits then Ok (record { frame = place frame; owner = owner; offset = offset }) else Err Bounds) else Err Dead)
          ≡ embedded_result place (loaded h size (if active then (if fits then Ok (record { frame = frame; owner = owner; offset = offset }) else Err Bounds) else Err Dead))
      by_tests true true x owner same = same
      by_tests true false x owner same = refl
      by_tests false fits x owner same = refl

      at_row : (row : Option FrameShape)
          → loaded m size (address_in row m (place frame) offset size) ≡ embedded_result place (loaded h size (address_in row h frame offset size))
      at_row None = refl
      at_row (Some row) =
          ap (λ (active : Bool). loaded m size (if active then (if fits_in row.bits offset size then Ok (record { frame = place frame; owner = row.owner; offset = offset }) else Err Bounds) else Err Dead))
          (active_alike m h row.owner agrees)
          ∙ by_tests (is_active row.owner h) (fits_in row.bits offset size) (Err Kind) row.owner
          (cell_seen place (origin row.owner (place frame) m) (origin row.owner frame h) offset size (λ byte. origin_alike inner outer m h row.owner frame byte places agrees))

  -- ---- stores

  put_alike : (m h : List RunEvent) (frame offset size : ℕ) (value : Value) → Agrees place is_embedded m h
      → is_embedded (place frame) ≡ true → FitsValue size value
      → Agrees place is_embedded (Store (place frame) offset size (embedded_value place value) ∷ m) (Store frame offset size value ∷ h)
  put_alike m h frame offset size value agrees told fits = record {
    same = ap (λ (test : Bool). if test then Store (place frame) offset size (embedded_value place value) ∷ embedded_only is_embedded m else embedded_only is_embedded m) told
        ∙ ap (λ (events : List RunEvent). Store (place frame) offset size (embedded_value place value) ∷ events) agrees.same;
    sound = (fits, agrees.sound);
  }

  pub goes_on : (m h : List RunEvent) → Agrees place is_embedded m h → GoOnToAgree place is_embedded m h
  goes_on m h agrees = record {
    enter = λ function. record { same = ap (λ (events : List RunEvent). Enter function ∷ events) agrees.same; sound = agrees.sound };
    leave = λ function. record { same = ap (λ (events : List RunEvent). Leave function ∷ events) agrees.same; sound = agrees.sound };
    put = λ frame offset size value told fits. put_alike m h frame offset size value agrees told fits;
    further = λ frame offset size value other. record {
      same = ap (λ (test : Bool). if test then Store frame offset size value ∷ embedded_only is_embedded m else embedded_only is_embedded m) other ∙ agrees.same;
      sound = agrees.sound;
    };
  }

  pub store_alike : (inner outer : List FrameShape) (m h : List RunEvent) (at value : Value)
      → Places place is_embedded inner outer → Agrees place is_embedded m h
      → FitsValue (size_of value) value
      → AgreeAfter place is_embedded (store outer m (embedded_value place at) (embedded_value place value)) (store inner h at value)
  store_alike inner outer m h (Int own word) value places agrees fits = refl
  store_alike inner outer m h (Ptr frame offset) value places agrees fits =
      subst (λ (row : Option FrameShape). AgreeAfter place is_embedded (stored m (embedded_value place value) (address_in row m (place frame) offset (size_of (embedded_value place value)))) (stored h value (address_in (slice_get inner frame) h frame offset (size_of value))))
      (sym (places.same frame)) (at_row (slice_get inner frame))
    where
      by_tests : (active fitting : Bool) (owner : Option ℕ)
          → AgreeAfter place is_embedded (stored m (embedded_value place value) (if active then (if fitting then Ok (record { frame = place frame; owner = owner; offset = offset }) else Err Bounds) else Err Dead))
          (stored h value (if active then (if fitting then Ok (record { frame = frame; owner = owner; offset = offset }) else Err Bounds) else Err Dead))
      by_tests true true owner =
          subst (λ (size : ℕ). Agrees place is_embedded (Store (place frame) offset size (embedded_value place value) ∷ m) (Store frame offset (size_of value) value ∷ h))
          (sym (size_value place value)) (put_alike m h frame offset (size_of value) value agrees (places.told frame) fits)
      by_tests true false owner = refl
      by_tests false fitting owner = refl

      at_row : (row : Option FrameShape)
          → AgreeAfter place is_embedded (stored m (embedded_value place value) (address_in row m (place frame) offset (size_of (embedded_value place value))))
          (stored h value (address_in row h frame offset (size_of value)))
      at_row None = refl
      at_row (Some row) =
          subst (λ (active : Bool). AgreeAfter place is_embedded
          (stored m (embedded_value place value) (if active then (if fits_in row.bits offset (size_of (embedded_value place value)) then Ok (record { frame = place frame; owner = row.owner; offset = offset }) else Err Bounds) else Err Dead))
          (stored h value (address_in (Some row) h frame offset (size_of value))))
          (sym (active_alike m h row.owner agrees))
          (subst (λ (size : ℕ). AgreeAfter place is_embedded
          (stored m (embedded_value place value) (if is_active row.owner h then (if fits_in row.bits offset size then Ok (record { frame = place frame; owner = row.owner; offset = offset }) else Err Bounds) else Err Dead))
          (stored h value (address_in (Some row) h frame offset (size_of value))))
          (sym (size_value place value))
          (by_tests (is_active row.owner h) (fits_in row.bits offset (size_of value)) row.owner))

  -- ---- further frames

  pub kept_in : StoreThenLoad
      → (outer : List FrameShape) (m h : List RunEvent) (frame : ℕ) (shape : FrameShape) (value : Value)
      → Agrees place is_embedded m h → is_embedded frame ≡ false → slice_get outer frame ≡ Some shape → is_active shape.owner m ≡ true
      → size_of value ≡ shape.bits → 0 < size_of value / 8
      → IsKeptIn place is_embedded outer m h frame value
  kept_in store_then_load outer m h frame shape value agrees other at active sized some =
      let fits : fits_in shape.bits 0 (size_of value) ≡ true = le-leb (0 * 8 + size_of value) shape.bits (omega (arith, sized)) in
      let is : store outer m (Ptr frame 0) value ≡ Ok (Store frame 0 (size_of value) value ∷ m) = rw (at, active, fits) refl in
      record {
        later = Store frame 0 (size_of value) value ∷ m;
        stored = is;
        agrees = (goes_on m h agrees).further frame 0 (size_of value) value other;
        loaded = store_then_load outer m (Store frame 0 (size_of value) value ∷ m) (Ptr frame 0) value some is;
      }
