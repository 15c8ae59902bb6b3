-- Laws of flags.
--   to_flags, from_flags   a result is among those of the cell exactly where this holds, over bytes that cover
use Rattle.std.specs.Prelude.{IsSomeAnd, if◌then◌else◌}
use Rattle.std.proofs.Common.{◌≡◌, ◌⊎◌, inl, inr, sym, subst, ℕ, Bool, true, false, List, [], ◌∷◌, ◌++◌, map, Option, Some, None, Result, Ok, Err, refl, arith, ◌-◌, ◌*◌, ◌/◌}
use Rattle.std.specs.List.{list_any}
use Rattle.std.proofs.lemmas.Bool.{false≢true}
use Rattle.alf_ops.specs.declared.history.Value.{Value}
use Rattle.alf_ops.specs.declared.history.Value.TheVariants.{Int, Ptr}
use Rattle.alf_ops.specs.declared.history.RunFault.{RunFault}
use Rattle.alf_ops.specs.declared.history.RunFault.TheVariants.{Uninit, Mixed}
use Rattle.alf_ops.specs.Histories.{Byte, bits_at, bytes_of, is_empty, of_pointer, word_of, cell_in, is_byte_of}
use Rattle.alf_ops.specs.Values.{is_pointer, FitsValue}
use Rattle.alf_ops.specs.SpanLaws.{each_fails}
use Rattle.alf_ops.specs.TableLaws.{whole_cell, in_cell}
use Rattle.alf_ops.specs.WholeCells.{IsTable, OneStore}
use Rattle.alf_ops.specs.WholeCellLaws.{whole_word}
use Rattle.alf_ops.specs.Readings.{Reading, reads_empty, reads_whole, reads_pointers, reads_word}
use Rattle.alf_ops.specs.ReadingLaws.{reading}
use Rattle.memory_rules.specs.ValueSets.{ValueSets, IsValueSets}
use Rattle.memory_rules.specs.Frames.{AbstractByte, Cell, FrameMem, values_in, taken, concatenated, from_bytes, results, value_result, word_result, words_result}
use Rattle.memory_rules.specs.Covers.{ByteCovers, Among, IsCellSize, FrameSized}
use Rattle.memory_rules.specs.FromBytes.{Concatenates, Member}
use Rattle.memory_rules.specs.FromByteLaws.{among_left, among_right, among_cases, some_p, word_at, bytes_concatenate, word_among, member_conc, both_hold}
use Rattle.memory_rules.specs.Flags.{FlagFault, FlagCovers}

module _ (d : ValueSets) (laws : IsValueSets d) where
  -- from results to flags
  word_is : (words : Option (List d.Word)) (value : Value) → Among d (Ok value) (words_result d words)
      → is_pointer value ≡ false
  word_is None value h = elim h [ ]
  word_is (Some words) value h = go (concatenated d words) h
    where
      go : (word : Option d.Word) → Among d (Ok value) (word_result d word) → is_pointer value ≡ false
      go None h = elim h [ ]
      go (Some word) (inl h) = let w = laws.covers_word word value h in rw w.is refl
      go (Some word) (inr h) = elim h [ ]

  fault_is : (words : Option (List d.Word)) (fault : RunFault) → Among d (Err fault) (words_result d words) → ⊥
  fault_is None fault h = h
  fault_is (Some words) fault h = go (concatenated d words) h
    where
      go : (word : Option d.Word) → Among d (Err fault) (word_result d word) → ⊥
      go None h = h
      go (Some word) (inl h) = h
      go (Some word) (inr h) = h

  value_flag : (bytes : List (AbstractByte d.Word)) (value : Value) (set : Option d.Val) (u x : Bool)
      → Among d (Ok value) (results d bytes (record { value = set; u = u; x = x }))
      → IsSomeAnd set (λ a. d.covers a value) ⊎ ((x ≡ true) × (is_pointer value ≡ false))
  value_flag bytes value set u x h = elim (among_cases d (Ok value) (value_result d set) _ h) [ inl a ↦ inl (at set a) | inr b ↦ inr (further u x b) ]
    where
      at : (set : Option d.Val) → Among d (Ok value) (value_result d set) → IsSomeAnd set (λ a. d.covers a value)
      at None h = h
      at (Some a) (inl h) = h
      at (Some a) (inr h) = elim h [ ]

      mixed : (p : Bool) → Among d (Ok value) (if p then Err Mixed ∷ [] else []) → ⊥
      mixed true (inl h) = h
      mixed true (inr h) = h
      mixed false h = h

      read : (x : Bool) → Among d (Ok value) (if x then from_bytes d bytes else [])
          → (x ≡ true) × (is_pointer value ≡ false)
      read true h =
          elim (among_cases d (Ok value) (words_result d (values_in bytes)) _ h) [ inl w ↦ (refl, word_is (values_in bytes) value w) | inr m ↦ absurd (mixed _ m) ]
      read false h = elim h [ ]

      further : (u x : Bool)
          → Among d (Ok value) ((if u then Err Uninit ∷ [] else []) ++ (if x then from_bytes d bytes else []))
          → (x ≡ true) × (is_pointer value ≡ false)
      further true x (inl h) = elim h [ ]
      further true x (inr h) = read x h
      further false x h = read x h

  fault_flag : (bytes : List (AbstractByte d.Word)) (fault : RunFault) (set : Option d.Val) (u x : Bool)
      → Among d (Err fault) (results d bytes (record { value = set; u = u; x = x }))
      → FlagFault {V = d.Val} (record { value = set; u = u; x = x }) fault
  fault_flag bytes fault set u x h = elim (among_cases d (Err fault) (value_result d set) _ h) [ inl a ↦ absurd (at set a) | inr b ↦ further u x b ]
    where
      at : (set : Option d.Val) → Among d (Err fault) (value_result d set) → ⊥
      at None h = h
      at (Some a) (inl h) = h
      at (Some a) (inr h) = h

      mixed : (p : Bool) → Among d (Err fault) (if p then Err Mixed ∷ [] else []) → Mixed ≡ fault
      mixed true (inl h) = h
      mixed true (inr h) = elim h [ ]
      mixed false h = elim h [ ]

      read : (u x : Bool) → Among d (Err fault) (if x then from_bytes d bytes else [])
          → FlagFault {V = d.Val} (record { value = set; u = u; x = x }) fault
      read u true h = elim (among_cases d (Err fault) (words_result d (values_in bytes)) _ h) [
        | inl w ↦ absurd (fault_is (values_in bytes) fault w)
        | inr m ↦ subst (λ (f : RunFault). FlagFault {V = d.Val} (record { value = set; u = u; x = true }) f) (mixed _ m) refl
      ]
      read u false h = elim h [ ]

      further : (u x : Bool)
          → Among d (Err fault) ((if u then Err Uninit ∷ [] else []) ++ (if x then from_bytes d bytes else []))
          → FlagFault {V = d.Val} (record { value = set; u = u; x = x }) fault
      further true x (inl h) = subst (λ (f : RunFault). FlagFault {V = d.Val} (record { value = set; u = true; x = x }) f) h refl
      further true x (inr h) = read true x h
      further false x h = read false x h

  pub to_flags : (bytes : List (AbstractByte d.Word)) (cell : Cell d.Val) (r : Result Value RunFault)
      → Among d r (results d bytes cell) → FlagCovers d cell r
  to_flags bytes cell (Ok value) h = value_flag bytes value cell.value cell.u cell.x h
  to_flags bytes cell (Err fault) h = fault_flag bytes fault cell.value cell.u cell.x h

  -- the three parts of the results
  in_value : (bytes : List (AbstractByte d.Word)) (cell : Cell d.Val) (value : Value)
      → IsSomeAnd cell.value (λ set. d.covers set value)
      → Among d (Ok value) (results d bytes cell)
  in_value bytes cell value h = among_left d (Ok value) (value_result d cell.value) _ (go cell.value h)
    where
      go : (set : Option d.Val) → IsSomeAnd set (λ a. d.covers a value) → Among d (Ok value) (value_result d set)
      go None h = elim h [ ]
      go (Some a) h = inl h

  in_u : (bytes : List (AbstractByte d.Word)) (cell : Cell d.Val) → cell.u ≡ true
      → Among d (Err Uninit) (results d bytes cell)
  in_u bytes cell h =
      among_right d (Err Uninit) (value_result d cell.value) _ (among_left d (Err Uninit) (if cell.u then Err Uninit ∷ [] else []) _ (rw h (inl refl)))

  in_x : (bytes : List (AbstractByte d.Word)) (cell : Cell d.Val) (r : Result Value RunFault) → cell.x ≡ true
      → Among d r (from_bytes d bytes)
      → Among d r (results d bytes cell)
  in_x bytes cell r h among = among_right d r (value_result d cell.value) _ (among_right d r (if cell.u then Err Uninit ∷ [] else []) _ (rw h among))

  in_mixed : (bytes : List (AbstractByte d.Word)) → list_any (λ (byte : AbstractByte d.Word). byte.p) bytes ≡ true
      → Among d (Err Mixed) (from_bytes d bytes)
  in_mixed bytes h = among_right d (Err Mixed) (words_result d (values_in bytes)) _ (rw h (inl refl))

  -- from flags to results
  pub from_flags : (m : FrameMem d) (from : ℕ → Option Byte) (sized : FrameSized d m) (covered : (byte : ℕ) → ByteCovers d (m.bytes byte) (from byte)) (table : IsTable from)
      (cell : Cell d.Val) (offset size : ℕ) → IsCellSize size → FlagCovers d cell (cell_in from offset size) → Among d (cell_in from offset size) (results d (taken d m offset size) cell)
  from_flags m from sized covered table cell offset size is h = go (reading from offset size)
    where
      words : list_any is_empty (map from (bytes_of offset size)) ≡ false
          → list_any of_pointer (map from (bytes_of offset size)) ≡ false
          → Among d (Ok (Int size (word_of (map from (bytes_of offset size))))) (from_bytes d (taken d m offset size))
      words some no_pointer =
          let n : size / 8 * 8 ≡ size = omega (arith, is.1) in
          let c = bytes_concatenate d (Member d) (member_conc d laws) m.bytes from offset (size / 8) (omega (arith, is.2)) (λ byte low high. both_hold (λ word. d.sized word 8) (λ word. d.has word 8 (bits_at (from byte))) (m.bytes byte).value (sized.bytes byte) (word_at d laws m.bytes from covered byte (each_fails is_empty from offset (size / 8) some byte low high) (each_fails of_pointer from offset (size / 8) no_pointer byte low high))) in
          word_among d laws (taken d m offset size) size (word_of (map from (bytes_of offset size))) (omega (arith, is.0)) (subst (λ (k : ℕ). Concatenates d (Member d) (taken d m offset size) k (word_of (map from (bytes_of offset size)))) n c)

      of_store : list_any is_empty (map from (bytes_of offset size)) ≡ false → OneStore from offset size
          → Among d (cell_in from offset size) (results d (taken d m offset size) cell)
      of_store some one = at one.value one.fits one.each
        where
          at : (value : Value) → FitsValue size value
              → ((byte : ℕ) → is_byte_of offset size byte ≡ true → from byte ≡ Some (record { offset = offset; size = size; value = value; place = byte - offset }))
              → Among d (cell_in from offset size) (results d (taken d m offset size) cell)
          at value fits each =
              let gives : cell_in from offset size ≡ Ok value = whole_cell from offset size value is.0 (λ byte low high. each byte (in_cell offset size byte low high)) in
              let flags : FlagCovers d cell (Ok value) = subst (λ (r : Result Value RunFault). FlagCovers d cell r) gives h in
              rw gives (chosen value fits each flags)
            where
              chosen : (value : Value) → FitsValue size value
                  → ((byte : ℕ) → is_byte_of offset size byte ≡ true → from byte ≡ Some (record { offset = offset; size = size; value = value; place = byte - offset }))
                  → FlagCovers d cell (Ok value) → Among d (Ok value) (results d (taken d m offset size) cell)
              chosen value fits each (inl covers) = in_value (taken d m offset size) cell value covers
              chosen (Ptr f o) fits each (inr flags) = absurd (false≢true (sym flags.1))
              chosen (Int own k) fits each (inr flags) =
                  let w = whole_word from offset size own k (is.0, is.1) fits each in
                  in_x (taken d m offset size) cell (Ok (Int own k)) flags.0 (rw (w.1, ← w.2) (words some w.0))

      go : Reading (map from (bytes_of offset size)) offset size (cell_in from offset size)
          → Among d (cell_in from offset size) (results d (taken d m offset size) cell)
      go (reads_empty none r) =
          let flag : cell.u ≡ true = subst (λ (r : Result Value RunFault). FlagCovers d cell r) r h in
          rw r (in_u (taken d m offset size) cell flag)
      go (reads_whole some one r) = of_store some (table offset size (is.0, is.1) one)
      go (reads_pointers some many pointer r) =
          let flag : cell.x ≡ true = subst (λ (r : Result Value RunFault). FlagCovers d cell r) r h in
          rw r (in_x (taken d m offset size) cell (Err Mixed) flag (in_mixed (taken d m offset size) (some_p d laws m.bytes from covered offset (size / 8) pointer)))
      go (reads_word some many no_pointer r) =
          let flags : FlagCovers d cell (Ok (Int size (word_of (map from (bytes_of offset size))))) = subst (λ (r : Result Value RunFault). FlagCovers d cell r) r h in
          rw r (elim flags [
            | inl covers ↦ in_value (taken d m offset size) cell _ covers
            | inr x ↦ in_x (taken d m offset size) cell _ x.0 (words some no_pointer)
          ])
