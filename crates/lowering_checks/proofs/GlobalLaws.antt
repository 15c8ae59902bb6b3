-- What is exported from a lowered program, and what its globals hold at first.
--   IsExported globals token   a global integer
--   exports_stand              each exported frame has a size that may be exported
--   inits_stand                what a frame holds at first lies in it, and can be written
use Rattle.std.proofs.Common.{◌≡◌, ◌<◌, ◌≤◌, ◌^◌, ◌+◌, ◌*◌, ◌%◌, ◌==◌, ◌&&◌, ℕ, ℤ, pos, negsuc, zero, suc, Bool, true, false, List, [], ◌∷◌, Option, None, Some, refl, sym, ap, ◌∙◌, subst, arith, leb, le-leb, pow_pos, mod-lt, suc-mul}
use Rattle.std.specs.Option.{option_map_or}
use Rattle.lists.specs.MemberLaws.{placed}
use Rattle.alf_ops.specs.TwosComplement.{word}
use Rattle.alf_program.specs.declared.program.Num.{Num}
use Rattle.alf_program.specs.Tree.{Allocation, InitialValue}
use Rattle.alf_program.specs.Writable.{IsName, NumIsWritable, InitialIsWritable}
use Rattle.alf_faults.specs.Places.{frame_place}
use Rattle.alf_faults.specs.Sizes.{start_fits, is_export_size}
use Rattle.alf_faults.specs.Faults.{frame_at}
use Rattle.alf_faults.specs.NoFault.{ExportHasNoFault, InitHasNoFault}
use Rattle.c_unit.specs.declared.types.Integer.{Integer}
use Rattle.c_unit.specs.declared.types.Integer.TheVariants.{Char, UnsignedChar, Short, UnsignedShort, Int, UnsignedInt}
use Rattle.c_unit.specs.declared.types.Constant.{Constant}
use Rattle.c_unit.specs.Tree.{ShapeTree, GlobalInteger, GlobalArray, FunctionOf, DeclaratorTree, ExternalTree, Declaration, Definition}
use Rattle.c_rules.specs.Units.{element_of}
use Rattle.c_meaning.specs.Values.{bits_of_type, bytes_of_type}
use Rattle.c_meaning.specs.Objects.{Object, Program, count_at, global_object, globals_declared, globals_in, integer_declared, integers_declared, integers_in}
use Rattle.c_meaning.specs.Statements.{constant_number, further_elements}
use Rattle.c_lowered.specs.Names.{frame_of}
use Rattle.c_lowered.specs.Frames.{number_of_type, constant_num, first_num, element_words, shape_words, declarators_words, first_words}
use Rattle.lowering_layout.specs.Lists.{EachOf, Apart}
use Rattle.lowering_layout.specs.ListLaws.{each_joined, each_parts}
use Rattle.lowering_layout.specs.PartFrames.{DifferInName, HasFrame}
use Rattle.lowering_checks.proofs.ReturnLaws.{frame_found}

-- ---- words

word_low : (size : ℕ) (z : ℤ) → word size z < 2 ^ size
word_low size (pos n) = mod-lt n (pow_pos size)
word_low size (negsuc n) = omega (arith, pow_pos size)

both_hold : (a b : Bool) → a ≡ true → b ≡ true → (a && b) ≡ true
both_hold true b e f = f
both_hold false b e f = e

byte_bits : (i : Integer) → (bits_of_type i % 8 == 0) ≡ true
byte_bits Char = refl
byte_bits UnsignedChar = refl
byte_bits Short = refl
byte_bits UnsignedShort = refl
byte_bits Int = refl
byte_bits UnsignedInt = refl

export_bits : (i : Integer) → is_export_size (bits_of_type i) ≡ true
export_bits Char = refl
export_bits UnsignedChar = refl
export_bits Short = refl
export_bits UnsignedShort = refl
export_bits Int = refl
export_bits UnsignedInt = refl

-- eight bits for each byte
eight : (i : Integer) → 8 * bytes_of_type i ≡ bits_of_type i
eight Char = refl
eight UnsignedChar = refl
eight Short = refl
eight UnsignedShort = refl
eight Int = refl
eight UnsignedInt = refl

num_low : (i : Integer) (n : ℕ) → n < 2 ^ bits_of_type i → NumIsWritable (number_of_type i n)
num_low Char n low = record { some = omega arith; small = omega arith; fits = low }
num_low UnsignedChar n low = record { some = omega arith; small = omega arith; fits = low }
num_low Short n low = record { some = omega arith; small = omega arith; fits = low }
num_low UnsignedShort n low = record { some = omega arith; small = omega arith; fits = low }
num_low Int n low = record { some = omega arith; small = omega arith; fits = low }
num_low UnsignedInt n low = record { some = omega arith; small = omega arith; fits = low }

module _ (program : Program) (globals : List Object) (frames : List Allocation) (has : EachOf (HasFrame program frames) globals) (apart : Apart DifferInName frames) (named : EachOf (λ (o : Object). IsName (frame_of program o.token) × (o.bits ≤ 262144)) globals) where
  -- the frame of a global, found by its name
  pub record IsFoundFrame (token bits : ℕ) : Type 0 where
    pub frame : Allocation
    pub found : frame_at frames (frame_place frames (frame_of program token)) ≡ Some frame
    pub same : frame.bits ≡ bits
    pub name : IsName (frame_of program token)
    pub small : bits ≤ 262144

  found_of : (o : Object) → HasFrame program frames o → IsName (frame_of program o.token) → o.bits ≤ 262144
      → IsFoundFrame o.token o.bits
  found_of o h name small = record {
    frame = h.frame;
    found = subst (λ (x : List ℕ). frame_at frames (frame_place frames x) ≡ Some h.frame) h.name (frame_found frames h.among.0 h.frame apart (placed frames h.frame h.among));
    same = h.bits;
    name = name;
    small = small;
  }

  abbrev pub Found : Object → Type 0
  Found o = IsFoundFrame o.token o.bits

  all_found : (os : List Object) → EachOf (HasFrame program frames) os
      → EachOf (λ (o : Object). IsName (frame_of program o.token) × (o.bits ≤ 262144)) os → EachOf Found os
  all_found [] h n = tt
  all_found (o ∷ os) h n = (found_of o h.0 n.0.0 n.0.1, all_found os h.1 n.1)

  pub globals_found : EachOf Found globals
  globals_found = all_found globals has named

  -- ---- exports

  abbrev pub Exported : ℕ → Type 0
  Exported token = ExportHasNoFault frames (frame_of program token) × IsName (frame_of program token)

  exported : (i : Integer) (token : ℕ) → IsFoundFrame token (bits_of_type i) → Exported token
  exported i token found = (record { frame = found.frame; found = found.found; size = ap is_export_size found.same ∙ export_bits i }, found.name)

  shape_exports : (i : Integer) (name : ℕ) (shape : ShapeTree) → EachOf Found (global_object program.words i name shape)
      → EachOf Exported (integer_declared name shape)
  shape_exports i name (GlobalInteger first) found = (exported i name found.0, tt)
  shape_exports i name (GlobalArray size firsts) found = tt
  shape_exports i name (FunctionOf params) found = tt

  declarators_exports : (i : Integer) (ds : List DeclaratorTree) → EachOf Found (globals_declared program.words i ds)
      → EachOf Exported (integers_declared ds)
  declarators_exports i [] found = tt
  declarators_exports i (d ∷ ds) found =
      let parts = each_parts Found (global_object program.words i d.name d.shape) (globals_declared program.words i ds) found in
      each_joined Exported (integer_declared d.name d.shape) (integers_declared ds) (shape_exports i d.name d.shape parts.0) (declarators_exports i ds parts.1)

  pub exports_stand : (xs : List ExternalTree) → EachOf Found (globals_in program.words xs)
      → EachOf Exported (integers_in xs)
  exports_stand [] found = tt
  exports_stand (Declaration first o ds ∷ xs) found =
      let parts = each_parts Found (globals_declared program.words (element_of o) ds) (globals_in program.words xs) found in
      each_joined Exported (integers_declared ds) (integers_in xs) (declarators_exports (element_of o) ds parts.0) (exports_stand xs parts.1)
  exports_stand (Definition first o name params body ∷ xs) found = exports_stand xs found

  -- ---- what globals hold at first

  abbrev pub Holds : InitialValue → Type 0
  Holds init = InitHasNoFault frames init × InitialIsWritable init

  holds : (i : Integer) (token bits offset n : ℕ) → IsFoundFrame token bits → n < 2 ^ bits_of_type i
      → 8 * offset + bits_of_type i ≤ bits
      → Holds (record { name = frame_of program token; offset = offset; num = number_of_type i n })
  holds i token bits offset n found low fits = (
    record {
      frame = found.frame;
      found = found.found;
      fits = subst (λ (b : ℕ). start_fits b (record { name = frame_of program token; offset = offset; num = number_of_type i n }) ≡ true) (sym found.same)
          (both_hold (bits_of_type i % 8 == 0) (leb (8 * offset + bits_of_type i) bits) (byte_bits i) (le-leb (8 * offset + bits_of_type i) bits fits));
    },
    record { name = found.name; offset = (let small = found.small in omega (arith, fits, small)); num = num_low i n low },
  )

  first_low : (i : Integer) (cs : List Constant)
      → (n : ℕ) × (first_num program i cs ≡ number_of_type i n) × (n < 2 ^ bits_of_type i)
  first_low i [] = (0, refl, pow_pos (bits_of_type i))
  first_low i (c ∷ cs) = (word (bits_of_type i) (constant_number program.words c), refl, word_low (bits_of_type i) (constant_number program.words c))

  elements_hold : (i : Integer) (token bits offset count : ℕ) (cs : List Constant) → IsFoundFrame token bits
      → 8 * offset + count * bits_of_type i ≤ bits
      → EachOf Holds (element_words program (frame_of program token) i offset count cs)
  elements_hold i token bits offset zero cs found fits = tt
  elements_hold i token bits offset (suc count) cs found fits =
      let first = first_low i cs in
      let more = suc-mul count (bits_of_type i) in
      let bytes = eight i in (
        subst (λ (num : Num). Holds (record { name = frame_of program token; offset = offset; num = num })) (sym first.1) (holds i token bits offset first.0 found first.2 (omega (arith, fits, more))),
        elements_hold i token bits (offset + bytes_of_type i) count (further_elements cs) found (omega (arith, fits, more, bytes)),
      )

  constant_holds : (i : Integer) (token bits : ℕ) (first : Option Constant) → IsFoundFrame token bits → bits_of_type i ≤ bits → Holds (record { name = frame_of program token; offset = 0; num = option_map_or (constant_num program i) first (number_of_type i 0) })
  constant_holds i token bits None found fits = holds i token bits 0 0 found (pow_pos (bits_of_type i)) (omega (arith, fits))
  constant_holds i token bits (Some c) found fits = holds i token bits 0 (word (bits_of_type i) (constant_number program.words c)) found (word_low (bits_of_type i) (constant_number program.words c)) (omega (arith, fits))

  shape_inits : (i : Integer) (name : ℕ) (shape : ShapeTree) → EachOf Found (global_object program.words i name shape)
      → EachOf Holds (shape_words program (frame_of program name) i shape)
  shape_inits i name (GlobalInteger first) found = (constant_holds i name (bits_of_type i) first found.0 (omega arith), tt)
  shape_inits i name (GlobalArray size firsts) found = elements_hold i name (count_at program.words size * bits_of_type i) 0 (count_at program.words size) _ found.0 (omega arith)
  shape_inits i name (FunctionOf params) found = tt

  declarators_inits : (i : Integer) (ds : List DeclaratorTree) → EachOf Found (globals_declared program.words i ds)
      → EachOf Holds (declarators_words program i ds)
  declarators_inits i [] found = tt
  declarators_inits i (d ∷ ds) found =
      let parts = each_parts Found (global_object program.words i d.name d.shape) (globals_declared program.words i ds) found in
      each_joined Holds (shape_words program (frame_of program d.name) i d.shape) (declarators_words program i ds) (shape_inits i d.name d.shape parts.0) (declarators_inits i ds parts.1)

  pub inits_stand : (xs : List ExternalTree) → EachOf Found (globals_in program.words xs)
      → EachOf Holds (first_words program xs)
  inits_stand [] found = tt
  inits_stand (Declaration first o ds ∷ xs) found =
      let parts = each_parts Found (globals_declared program.words (element_of o) ds) (globals_in program.words xs) found in
      each_joined Holds (declarators_words program (element_of o) ds) (first_words program xs) (declarators_inits (element_of o) ds parts.0) (inits_stand xs parts.1)
  inits_stand (Definition first o name params body ∷ xs) found = inits_stand xs found
