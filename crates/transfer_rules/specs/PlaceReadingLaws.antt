-- Laws of place reading.
--   place_fits, place_reads  a place fits the expression's size, and its cell holds the word that the
--       expression's word is read from
use Rattle.std.specs.Prelude.{slice_get, slice_index, ◌==◌}
use Rattle.std.specs.Result.{result_ok}
use Rattle.std.proofs.Common.{◌≡◌, ℕ, Bool, true, false, List, [], ◌∷◌, Option, Some, None, Result, Ok, Err, ◌≤◌, pos, refl, sym, ap, subst, ◌∙◌, arith}
use Rattle.std.proofs.lemmas.Option.{none-some, same_Some}
use Rattle.std.proofs.lemmas.Bool.{eqb-true}
use Rattle.lists.specs.TestLaws.{by_test}
use Rattle.lists.specs.ImageLaws.{some_image}
use Rattle.alf_ops.specs.declared.operator.Op.{Op}
use Rattle.alf_ops.specs.declared.history.Value.{Value}
use Rattle.alf_ops.specs.declared.history.Value.TheVariants.{Int, Ptr}
use Rattle.alf_ops.specs.declared.history.RunFault.{RunFault}
use Rattle.alf_ops.specs.declared.history.RunFault.TheVariants.{Kind}
use Rattle.alf_ops.specs.declared.history.FrameShape.{FrameShape}
use Rattle.alf_ops.specs.declared.history.RunEvent.{RunEvent}
use Rattle.alf_ops.specs.TwosComplement.{word}
use Rattle.alf_ops.specs.Table.{result_size, size_of_result, operand_sizes}
use Rattle.alf_ops.specs.Words.{value}
use Rattle.alf_ops.specs.Values.{FitsValue}
use Rattle.alf_ops.specs.Pointers.{operands, outcome_of_operands}
use Rattle.alf_ops.specs.Histories.{load, loaded as loaded_run, address_in, fits_in, is_active}
use Rattle.alf_program.specs.Tree.{NumberedExpression, NumberedExpressions, Number, Address, Load, Apply, Empty, With}
use Rattle.alf_check.specs.declared.rows.FrameRow.{FrameRow}
use Rattle.alf_check.specs.Kept.{HasSize, HaveSizes}
use Rattle.alf_runs.specs.Expressions.{load_from, value_of}
use Rattle.alf_runs.specs.SizeLaws.{ValueHasSize}
use Rattle.strided_rules.specs.Strides.{Stride, Covers as CoversWord}
use Rattle.strided_rules.specs.Members.{is_one, word_of}
use Rattle.strided_rules.specs.MemberLaws.{one_word_alone}
use Rattle.pointer_rules.specs.AbstractValues.{AbstractValue, Covers}
use Rattle.memory_rules.specs.Covers.{IsCellSize as IsCell}
use Rattle.memory_rules.specs.Memories.{Mem, is_on}
use Rattle.memory_rules.specs.Addresses.{tested, tested_in}
use Rattle.memory_rules.specs.AbstractSets.{abstract_sets}
use Rattle.transfer_rules.specs.Evaluating.{loaded, value_at}
use Rattle.transfer_rules.specs.RemainsLaws.{Answers}
use Rattle.transfer_rules.specs.Refining.{Place, cell_of, words_alone, cell_where, loaded_cell, load_place, is_extension, operand_place, place_of}
use Rattle.transfer_rules.specs.Standing.{Stands, ValueTold}
use Rattle.transfer_rules.specs.EvaluatingLaws.{cell_size, value_told}
use Rattle.transfer_rules.specs.PlaceLaws.{PlaceFits, PlaceReads, ExtensionSizes, ext_sizes, ext_back, ext_outcome, ext_pointer}
use Rattle.transfer_rules.specs.PlaceReading.{LoadOperand, CellReads}

-- ---- sizes

none_is : {A B : Type 0} (a : A) → None ≡ Some a → B
none_is a e = absurd (none-some a e)

-- the size of a load's place, and whether it is extended
load_parts : (rows : List FrameShape) (m : Mem abstract_sets) (extended : Bool) (bits : ℕ) (at : NumberedExpression) (place : Place) → load_place rows m extended bits at ≡ Some place
    → (place.size ≡ bits) × (place.extended ≡ extended)
load_parts rows m extended bits at place e =
    let i = some_image (λ (cell : ℕ × ℕ). record { cell = cell; size = bits; extended = extended }) (loaded_cell rows m bits (value_at rows m at).left) place e in
    (sym (ap (λ (p : Place). p.size) i.2), sym (ap (λ (p : Place). p.extended) i.2))

load_operand : (rows : List FrameShape) (m : Mem abstract_sets) (es : NumberedExpressions) (place : Place)
    → operand_place rows m es ≡ Some place → LoadOperand rows m es place
load_operand rows m Empty place e = none_is place e
load_operand rows m (With (Number num) Empty) place e = none_is place e
load_operand rows m (With (Address frame offset) Empty) place e = none_is place e
load_operand rows m (With (Load bits at) Empty) place e = record { bits = bits; at = at; is = refl; place_is = e }
load_operand rows m (With (Apply op sizes es) Empty) place e = none_is place e
load_operand rows m (With e (With other es)) place is = none_is place is

-- the size of the operand
operand_has : (table : List FrameRow) (k m : ℕ) (sizes : List ℕ) (e : NumberedExpression) → sizes ≡ m ∷ []
    → HaveSizes table k sizes (With e Empty) → HasSize table k m e
operand_has table k m sizes e are have = (subst (λ (s : List ℕ). HaveSizes table k s (With e Empty)) are have).0

module _ (table : List FrameRow) (k : ℕ) (rows : List FrameShape) (m : Mem abstract_sets) where
  ext_fits : (op : Op) (sizes : List ℕ) (es : NumberedExpressions) (size : ℕ) (place : Place) → is_extension op ≡ true
      → result_size op sizes ≡ Some size → HaveSizes table k (operand_sizes op sizes) es
      → operand_place rows m es ≡ Some place → PlaceFits place size
  ext_fits op sizes es size place e typed have is =
      let o = load_operand rows m es place is in
      let sizes_are = ext_sizes op sizes size e typed in
      let has : HasSize table k (slice_index sizes 0) (Load o.bits o.at) =
      operand_has table k (slice_index sizes 0) (operand_sizes op sizes) (Load o.bits o.at) sizes_are.operands_are (subst (HaveSizes table k (operand_sizes op sizes)) o.is have) in
      let parts = load_parts rows m true o.bits o.at place o.place_is in
      let most = sizes_are.most in
      let own : place.size ≡ slice_index sizes 0 = parts.0 ∙ has.same in
      record {
        cell = subst IsCell (sym parts.0) (cell_size o.bits has.cell);
        narrow = omega (arith, own, most);
        same = λ no. absurd (let bad : true ≡ false = sym parts.1 ∙ no in cc);
      }

  -- a place fits the size of the expression
  pub place_fits : (e : NumberedExpression) (size : ℕ) (place : Place) → HasSize table k size e
      → place_of rows m e ≡ Some place → PlaceFits place size
  place_fits (Number num) size place has is = none_is place is
  place_fits (Address frame offset) size place has is = none_is place is
  place_fits (Load bits at) size place has is =
      let parts = load_parts rows m false bits at place is in
      let same : place.size ≡ size = parts.0 ∙ has.same in
      record { cell = subst IsCell (sym parts.0) (cell_size bits has.cell); narrow = omega (arith, same); same = λ no. same }
  place_fits (Apply op sizes es) size place has is = by_test (is_extension op)
      (λ e. ext_fits op sizes es size place e has.result_is has.operands (rw e at is))
      (λ e. none_is place (rw e at is))

-- ---- cells

module _ (rows : List FrameShape) (runs : ℕ → Bool) (history : List RunEvent) (active : (owner : Option ℕ) → is_active owner history ≡ is_on runs owner) (size : ℕ) where
  tested_reads : (frame offset : ℕ) (cell : ℕ × ℕ) → result_ok (tested rows runs (Ptr frame offset) size) ≡ Some cell
      → CellReads rows history cell size (load rows history (Ptr frame offset) size)
  tested_reads frame offset cell e = go (slice_get rows frame) refl e
    where
      go : (found : Option FrameShape) → slice_get rows frame ≡ found
          → result_ok (tested_in found runs frame offset size) ≡ Some cell
          → CellReads rows history cell size (loaded_run history size (address_in found history frame offset size))
      go None found e = none_is cell e
      go (Some row) found e = by_test (is_on runs row.owner)
          (λ on. by_test (fits_in row.bits offset size)
          (λ room.
          let is : Some (frame, offset) ≡ Some cell = rw (on, room) at e in
          let same : (frame, offset) ≡ cell = same_Some (frame, offset) cell is in
          let here : is_active row.owner history ≡ true = active row.owner ∙ on in
          subst (λ (c : ℕ × ℕ). CellReads rows history c size (loaded_run history size (address_in (Some row) history frame offset size))) same
          (record { p = record { row = row; found = found; runs = here; fits = room }; gives = rw (here, room) refl }))
          (λ past. none_is cell (rw (on, past) at e)))
          (λ off. none_is cell (rw off at e))

  cell_reads : (words : Option Stride) (places : List (ℕ × Stride)) (cell : ℕ × ℕ) (address : Value)
      → cell_of rows runs size words places ≡ Some cell
      → Covers (record { words = words; places = places }) address → CellReads rows history cell size (load rows history address size)
  cell_reads (Some words) places cell address e covers = none_is cell e
  cell_reads None [] cell address e covers = none_is cell e
  cell_reads None (place ∷ other ∷ places) cell address e covers = none_is cell e
  cell_reads None (place ∷ []) cell (Int own bits) e covers = elim covers [ ]
  cell_reads None (place ∷ []) cell (Ptr frame offset) e covers = by_test (is_one place.1)
      (λ one. by_test (place.0 == frame)
      (λ same.
      let frame_is : place.0 ≡ frame = eqb-true place.0 frame same in
      let member : CoversWord place.1 offset = rw same at covers in
      let word_is : word_of place.1 ≡ offset = sym (one_word_alone place.1 offset one member) in
      let is : result_ok (tested rows runs (Ptr place.0 (word_of place.1)) size) ≡ Some cell = rw one at e in
      subst (λ (f : ℕ). CellReads rows history cell size (load rows history (Ptr f offset) size)) frame_is
      (subst (λ (o : ℕ). CellReads rows history cell size (load rows history (Ptr place.0 o) size)) word_is (tested_reads place.0 (word_of place.1) cell is)))
      (λ differ. absurd (rw differ at covers)))
      (λ several. none_is cell (rw several at e))

-- ---- loads and extended loads

module _ (Sharp : Type 0) (rows : List FrameShape) (m : Mem abstract_sets) (history : List RunEvent) (stands : Stands Sharp rows m history) (table : List FrameRow) (k : ℕ) (sizes_are : ValueHasSize) where
  where_is : (words : Option Stride) (cell : Option (ℕ × ℕ)) (c : ℕ × ℕ) → cell_where words cell ≡ Some c
      → cell ≡ Some c
  where_is None cell c e = none_is c e
  where_is (Some words) cell c e = e

  load_reads : (extended : Bool) (bits : ℕ) (at : NumberedExpression) (place : Place) (x : Value)
      → HasSize table k 32 at → load_place rows m extended bits at ≡ Some place
      → value_of rows history (Load bits at) ≡ Ok x → CellReads rows history place.cell bits (Ok x)
  load_reads extended bits at place x has e is =
      let i = some_image (λ (cell : ℕ × ℕ). record { cell = cell; size = bits; extended = extended }) (loaded_cell rows m bits (value_at rows m at).left) place e in
      let cell_is : i.0 ≡ place.cell = ap (λ (p : Place). p.cell) i.2 in
      subst (λ (c : ℕ × ℕ). CellReads rows history c bits (Ok x)) cell_is
      (go (value_of rows history at) (value_told Sharp rows m history stands table k at 32 has) i.0 i.1 is)
    where
      go : (r : Result Value RunFault) → Answers Sharp (ValueTold Sharp) (value_at rows m at) r → (cell : ℕ × ℕ)
          → loaded_cell rows m bits (value_at rows m at).left ≡ Some cell
          → load_from rows history bits r ≡ Ok x → CellReads rows history cell bits (Ok x)
      go (Err fault) told cell e is = cc
      go (Ok address) told cell e is =
          let a = told.value in
          let here : loaded_cell rows m bits (Some a) ≡ Some cell = subst (λ (o : Option AbstractValue). loaded_cell rows m bits o ≡ Some cell) told.is e in
          let of_cell : cell_of rows m.runs bits a.words a.places ≡ Some cell = where_is (words_alone (loaded rows m bits a).left) (cell_of rows m.runs bits a.words a.places) cell here in
          subst (λ (r : Result Value RunFault). CellReads rows history cell bits r) is
          (cell_reads rows m.runs history stands.covers.active bits a.words a.places cell address of_cell told.holds.covers)

  -- the parts of a word that came out
  same_word_out : (s n t w : ℕ) → (let r : Result Value RunFault = Ok (Int s n) in r) ≡ Ok (Int t w) → n ≡ w
  same_word_out s n t w e = cc

  ext_reads : (op : Op) (sizes : List ℕ) (bits : ℕ) (at : NumberedExpression) (size : ℕ) (place : Place) (own w : ℕ)
      → is_extension op ≡ true → ExtensionSizes op sizes size
      → HasSize table k (slice_index sizes 0) (Load bits at) → load_place rows m true bits at ≡ Some place
      → value_of rows history (Apply op sizes (With (Load bits at) Empty)) ≡ Ok (Int own w) → PlaceReads rows history place w
  ext_reads op sizes bits at size place own w e ext has is gives = go (value_of rows history (Load bits at)) refl gives
    where
      go : (r : Result Value RunFault) → value_of rows history (Load bits at) ≡ r
          → outcome_of_operands op sizes (operands (r ∷ [])) ≡ Ok (Int own w) → PlaceReads rows history place w
      go (Err fault) here out = cc
      go (Ok (Ptr frame offset)) here out = let bad : Err Kind ≡ Ok (Int own w) = sym (ext_pointer op sizes frame offset e) ∙ out in cc
      go (Ok (Int s x)) here out =
          let fits : FitsValue (slice_index sizes 0) (Int s x) = sizes_are table k (slice_index sizes 0) (Load bits at) rows history (Int s x) has stands.sound here in
          let out_is : value op sizes (x ∷ 0 ∷ 0 ∷ []) ≡ w = same_word_out (size_of_result op sizes) (value op sizes (x ∷ 0 ∷ 0 ∷ [])) own w (sym (ext_outcome op sizes s x e) ∙ out) in
          let parts = load_parts rows m true bits at place is in
          let own_size : place.size ≡ slice_index sizes 0 = parts.0 ∙ has.same in
          let reads = load_reads true bits at place (Int s x) has.address is here in
          let most = ext.most in let result = ext.result_is in
          let low : slice_index sizes 0 ≤ size_of_result op sizes = omega (arith, most, result) in
          let as_cell : CellReads rows history place.cell place.size (Ok (Int place.size x)) =
          subst (λ (n : ℕ). CellReads rows history place.cell n (Ok (Int place.size x))) (sym parts.0)
          (subst (λ (n : ℕ). CellReads rows history place.cell bits (Ok (Int n x))) (fits.0 ∙ sym own_size) reads) in
          record {
            bits = x;
            p = as_cell.p;
            gives = as_cell.gives;
            whole = λ no. absurd (let bad : true ≡ false = sym parts.1 ∙ no in cc);
            part = λ yes. ap (λ (v : ℕ). word place.size (pos v)) (sym out_is) ∙ ap (λ (n : ℕ). word n (pos (value op sizes (x ∷ 0 ∷ 0 ∷ [])))) own_size ∙ ext_back op sizes x e low fits.1;
          }

  -- a place reads its cell
  pub place_reads : (e : NumberedExpression) (size : ℕ) (place : Place) (own w : ℕ) → HasSize table k size e
      → place_of rows m e ≡ Some place → value_of rows history e ≡ Ok (Int own w)
      → PlaceReads rows history place w
  place_reads (Number num) size place own w has is gives = none_is place is
  place_reads (Address frame offset) size place own w has is gives = none_is place is
  place_reads (Load bits at) size place own w has is gives =
      let parts = load_parts rows m false bits at place is in
      let fits : FitsValue size (Int own w) = sizes_are table k size (Load bits at) rows history (Int own w) has stands.sound gives in
      let reads = load_reads false bits at place (Int own w) has.address is gives in
      let as_cell : CellReads rows history place.cell place.size (Ok (Int place.size w)) =
      subst (λ (n : ℕ). CellReads rows history place.cell n (Ok (Int place.size w))) (sym parts.0)
      (subst (λ (n : ℕ). CellReads rows history place.cell bits (Ok (Int n w))) (fits.0 ∙ sym has.same ∙ sym parts.0) reads) in
      record {
        bits = w;
        p = as_cell.p;
        gives = as_cell.gives;
        whole = λ no. refl;
        part = λ yes. absurd (let bad : false ≡ true = sym parts.1 ∙ yes in cc);
      }
  place_reads (Apply op sizes es) size place own w has is gives = by_test (is_extension op)
      (λ e.
      let o = load_operand rows m es place (rw e at is) in
      let ext = ext_sizes op sizes size e has.result_is in
      let operand : HasSize table k (slice_index sizes 0) (Load o.bits o.at) =
      operand_has table k (slice_index sizes 0) (operand_sizes op sizes) (Load o.bits o.at) ext.operands_are (subst (HaveSizes table k (operand_sizes op sizes)) o.is has.operands) in
      ext_reads op sizes o.bits o.at size place own w e ext operand o.place_is (subst (λ (args : NumberedExpressions). value_of rows history (Apply op sizes args) ≡ Ok (Int own w)) o.is gives))
      (λ e. none_is place (rw e at is))
