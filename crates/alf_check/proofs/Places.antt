-- Places of members in lists, and of frames in a program.
--   Stands passes xs i     what passes stands at place i
--   OnePlace name xs       what has one name stands at one place
--   frame_of row                      the frame that a row is of
--   StandAt rows owner first frames   the frames have rows of this owner, of which the first has this number
--   IsOwnFrame funcs k f frame        of the frames of these functions, frame f is this one of function k
--   IsFrame whole owner f frame       frame f of the program is this one of the owner
use Rattle.std.proofs.Common.{◌≡◌, ◌≢◌, ◌<◌, ◌+◌, ℕ, zero, suc, Bool, true, List, [], ◌∷◌, ◌++◌, length, slice_get, get_or, All, AllPairs, Contains, inl, inr, eqb-true, lt-ltb, Option, Some, None, zero-add, add-zero, refl, ap, sym, ◌∙◌, subst, arith, ◌⊎◌, ◌*◌, ◌%◌, ◌==◌, map, flat_map, nat_le, option_map, unwrap_or, append_assoc, ⊎_elim, leb-true}
use Rattle.std.specs.Str.{bytes_eq}
use Rattle.std.specs.List.{range_with_len, position_or_len, fold}
use Rattle.std.proofs.lemmas.Bool.{false≢true, cases_lt, cases_order, cond-true, and_parts}
use Rattle.std.proofs.lemmas.Option.{none-some, slice_get_within, get_or_from_slice_get, slice_get-get_or, same_Some, slice_get-map}
use Rattle.std.proofs.lemmas.Slice.Eq.{bytes_eq-Decides}
use Rattle.std.proofs.lemmas.List.Elements.{All-contains, All-append, Contains-append_cases}
use Rattle.std.proofs.lemmas.List.FromFn.{length-range_with_len, get_or-range_with_len}
use Rattle.std.proofs.lemmas.List.Quantifiers.{position-Some}
use Rattle.std.proofs.lemmas.List.Sums.{fails_before_first}
use Rattle.lists.specs.MemberLaws.{contained, all_members}
use Rattle.alf_faults.specs.Places.{place_of, frame_place}
use Rattle.alf_faults.specs.PlaceLaws.{position_place}
use Rattle.alf_faults.specs.Fault.{is_exactly}
use Rattle.std.proofs.lemmas.List.{length-map, length-append, map-append}
use Rattle.lists.specs.ImageLaws.{mapped_at, image, all_joined}
use Rattle.alf_program.specs.declared.program.Num.{Num}
use Rattle.alf_program.specs.Tree.{Allocation, InitialValue, Function, WholeProgram}
use Rattle.alf_program.specs.Writable.{NumIsWritable, AllocationIsWritable, InitialIsWritable, FunctionIsWritable, IsWritable, own_frames, frames_of, frame_bytes}
use Rattle.alf_faults.specs.Faults.{frame_at}
use Rattle.alf_faults.specs.NoFault.{IsFrameNamed, InitHasNoFault, ExportHasNoFault, HasNoFault}
use Rattle.alf_faults.specs.NoFault as text
use Rattle.alf_check.specs.declared.rows.FrameRow.{FrameRow}
use Rattle.alf_check.specs.Numbers.{row_for, rows_of, rows_from, frame_rows, frames_before, first_frame, placed, frame_number}
use Rattle.alf_check.specs.Numbered.{numbered_init, export_number}
use Rattle.alf_check.specs.Kept.{row_bytes, IsWordOf, KeepsFrame, IsSeen, SeesFrame, InitFits, KeepsExport}
use Rattle.alf_check.proofs.KeptLemmas.{cell_from}

-- it holds of a member if of each
pub of_each : {A : Type 0} (Holds : A → Type 0) (xs : List A) (k : ℕ) (x : A) → All Holds xs → slice_get xs k ≡ Some x
    → Holds x
of_each Holds xs k x all at = All-contains Holds xs x all (contained xs k x at)

-- what holds of an option, by what it is
pub by_option : {A : Type 0} (Holds : Option A → Type 0) (o : Option A) → (o ≡ None → Holds None)
    → ((x : A) → o ≡ Some x → Holds (Some x)) → Holds o
by_option Holds None none some = none refl
by_option Holds (Some x) none some = some x refl

-- ---- names

pub same_name : (a b : List ℕ) → bytes_eq a b ≡ true → a ≡ b
same_name a b = (bytes_eq-Decides a b).0

pub its_name : (a b : List ℕ) → a ≡ b → bytes_eq a b ≡ true
its_name a b = (bytes_eq-Decides a b).1

pub exactly : (n : ℕ) (found : Option ℕ) → is_exactly n found ≡ true → found ≡ Some n
exactly n None e = absurd (false≢true e)
exactly n (Some k) e = ap Some (eqb-true k n e)

-- ---- places of the first that passes

-- where a member passes, there is a place
pub first_place : {A : Type 0} (passes : A → Bool) (xs : List A) (x : A) → Contains xs x → passes x ≡ true
    → (i : ℕ) × (place_of passes xs ≡ Some i)
first_place passes xs x c e =
    let early : position_or_len passes xs < length xs = elim (cases_lt c.0 (position_or_len passes xs)) [
      | inl before ↦ absurd (false≢true (sym (fails_before_first passes xs c.0 x before) ∙ ap passes c.2 ∙ e))
      | inr found ↦ omega arith
    ] in
    (position_or_len passes xs, sym (position_place passes xs) ∙ cond-true _ _ None (lt-ltb (position_or_len passes xs) (length xs) early))

-- what passes stands at place i
pub record Stands {A : Type 0} (passes : A → Bool) (xs : List A) (i : ℕ) : Type 0 where
  pub member : A
  pub at : slice_get xs i ≡ Some member
  pub passed : passes member ≡ true

pub stands : {A : Type 0} (passes : A → Bool) (xs : List A) (i : ℕ) → place_of passes xs ≡ Some i → Stands passes xs i
stands passes [] i e = absurd (none-some i e)
stands passes (x ∷ xs) i e =
    let first = position-Some passes (x ∷ xs) i x (position_place passes (x ∷ xs) ∙ e) in
    record { member = get_or (x ∷ xs) i x; at = slice_get-get_or (x ∷ xs) i x first.0; passed = first.1 }

-- ---- lists one after the other

pub at_left : {A : Type 0} (xs ys : List A) (i : ℕ) (x : A) → slice_get xs i ≡ Some x → slice_get (xs ++ ys) i ≡ Some x
at_left [] ys i x at = absurd (none-some x at)
at_left (y ∷ xs) ys zero x at = at
at_left (y ∷ xs) ys (suc i) x at = at_left xs ys i x at

pub at_right : {A : Type 0} (xs ys : List A) (i m : ℕ) → m ≡ length xs + i → slice_get (xs ++ ys) m ≡ slice_get ys i
at_right [] ys i m is = ap (slice_get ys) (omega arith)
at_right (x ∷ xs) ys i zero is = absurd (omega arith)
at_right (x ∷ xs) ys i (suc m) is = at_right xs ys i m (omega arith)

pub at_cases : {A B : Type 0} (xs ys : List A) (m : ℕ) (x : A) → slice_get (xs ++ ys) m ≡ Some x
    → (slice_get xs m ≡ Some x → B) → ((i : ℕ) → m ≡ length xs + i → slice_get ys i ≡ Some x → B) → B
at_cases [] ys m x at left right = right m (omega arith) at
at_cases (y ∷ xs) ys zero x at left right = left at
at_cases (y ∷ xs) ys (suc m) x at left right = at_cases xs ys m x at left (λ i e there. right i (omega arith) there)

-- ---- what has one name

abbrev pub OnePlace : {A B : Type 0} → (A → B) → List A → Type 0
OnePlace {A} name xs = (i j : ℕ) (x y : A) → slice_get xs i ≡ Some x → slice_get xs j ≡ Some y → name x ≡ name y → i ≡ j

-- where no two have one name, it stands at one place
pub one_place : {A B : Type 0} (name : A → B) (xs : List A) → AllPairs (λ a b. name a ≢ name b) xs → OnePlace name xs
one_place {A = A} name xs apart i j x y at there same =
    elim (cases_order i j) [ inl equal ↦ equal | inr other ↦ elim other [ inl low ↦ apart_at i j x y low at there same | inr low ↦ apart_at j i y x low there at (sym same) ] ]
  where
    apart_at : {C : Type 0} (i j : ℕ) (x y : A) → i < j → slice_get xs i ≡ Some x → slice_get xs j ≡ Some y
        → name x ≡ name y → C
    apart_at i j x y low at there same =
        absurd (apart i j x low (slice_get_within xs j y there) (ap name (get_or_from_slice_get xs i x x at) ∙ same ∙ sym (ap name (get_or_from_slice_get xs j y x there))))

-- so too in two lists that have no name in common
pub one_place_of_both : {A B : Type 0} (name : A → B) (xs ys : List A) → OnePlace name xs → OnePlace name ys
    → ((x y : A) → Contains xs x → Contains ys y → name x ≢ name y) → OnePlace name (xs ++ ys)
one_place_of_both name xs ys left right other i j x y at there same =
    at_cases xs ys i x at
    (λ a. at_cases xs ys j y there (λ b. left i j x y a b same) (λ n e b. absurd (other x y (contained xs i x a) (contained ys n y b) same)))
    (λ m d a. at_cases xs ys j y there
    (λ b. absurd (other y x (contained xs j y b) (contained ys m x a) (sym same)))
    (λ n e b. let equal = right m n x y a b same in omega arith))

-- ---- numbers that follow one another

pub range_parts : (a n m : ℕ) → range_with_len a (n + m) ≡ range_with_len a n ++ range_with_len (a + n) m
range_parts a zero m = rw (zero-add, add-zero) refl
range_parts a (suc n) m = let long : suc n + m ≡ suc (n + m) = omega arith in let after : a + suc n ≡ (a + 1) + n = omega arith in rw (long, after, range_parts (a + 1) n m) refl

pub range_has : (a n i f : ℕ) → i < n → f ≡ a + i → Contains (range_with_len a n) f
range_has a n i f low is = (i, omega (arith, length-range_with_len a n), get_or-range_with_len a n i f low ∙ sym is)

pub all_in_range : (Holds : ℕ → Type 0) (a n : ℕ) → ((i : ℕ) → i < n → Holds (a + i)) → All Holds (range_with_len a n)
all_in_range Holds a n each i d inside = let low : i < n = omega (arith, length-range_with_len a n) in rw (get_or-range_with_len a n i d low) (each i low)

pub range_apart : (a n : ℕ) → AllPairs (λ f g. f ≢ g) (range_with_len a n)
range_apart a n i j d low high same =
    let inside : j < n = omega (arith, length-range_with_len a n) in absurd (omega (arith, get_or-range_with_len a n i d (omega arith), get_or-range_with_len a n j d inside))

-- ---- rows in the order of the text

abbrev pub frame_of : FrameRow → Allocation
frame_of row = record { name = row.name; bits = row.bits }

-- the rows of a function's frames come before those of the functions after it
rows_split : (n : ℕ) (func : Function) (funcs : List Function)
    → rows_from n (func ∷ funcs) ≡ rows_of (Some n) (own_frames func) ++ rows_from (suc n) funcs
rows_split n func funcs = rw (map-append (row_for (Some n)) func.args func.decls, append_assoc) refl

of_owner : (owner : Option ℕ) (frames : List Allocation) → map frame_of (rows_of owner frames) ≡ frames
of_owner owner [] = refl
of_owner owner (frame ∷ frames) = ap (λ (rest : List Allocation). frame ∷ rest) (of_owner owner frames)

of_functions : (n : ℕ) (funcs : List Function) → map frame_of (rows_from n funcs) ≡ flat_map own_frames funcs
of_functions n [] = refl
of_functions n (func ∷ funcs) =
    rw (rows_split n func funcs, map-append frame_of (rows_of (Some n) (own_frames func)) (rows_from (suc n) funcs), of_owner (Some n) (own_frames func), of_functions (suc n) funcs) refl

own_count : (n : ℕ) (func : Function)
    → length (rows_of (Some n) (own_frames func)) ≡ length func.args + length func.decls
own_count n func = length-map (own_frames func) (row_for (Some n)) ∙ length-append func.args func.decls

own_row : (n : ℕ) (funcs : List Function) (k i f m : ℕ) (func : Function) (frame : Allocation)
    → slice_get funcs k ≡ Some func → slice_get (own_frames func) i ≡ Some frame → f ≡ frames_before funcs k + i
    → m ≡ n + k
    → slice_get (rows_from n funcs) f ≡ Some (row_for (Some m) frame)
own_row n [] k i f m func frame at own place is = absurd (none-some func at)
own_row n (first ∷ funcs) zero i f m func frame at own place is =
    let here = ap (λ (z : Function). slice_get (own_frames z) i) (same_Some first func at) ∙ own in
    let same : f ≡ i = omega arith in
    let owner : m ≡ n = omega arith in
    rw (same, owner, rows_split n first funcs)
    (at_left (rows_of (Some n) (own_frames first)) (rows_from (suc n) funcs) i (row_for (Some n) frame) (slice_get-map (row_for (Some n)) (own_frames first) i ∙ ap (option_map (row_for (Some n))) here))
own_row n (first ∷ funcs) (suc k) i f m func frame at own place is =
    let long = own_count n first in
    rw (rows_split n first funcs) (at_right (rows_of (Some n) (own_frames first)) (rows_from (suc n) funcs) (frames_before funcs k + i) f (omega arith)
    ∙ own_row (suc n) funcs k i (frames_before funcs k + i) m func frame at own refl (omega arith))

pub record IsOwnFrame (funcs : List Function) (k f : ℕ) (frame : Allocation) : Type 0 where
  pub func : Function
  pub i : ℕ
  pub at : slice_get funcs k ≡ Some func
  pub own : slice_get (own_frames func) i ≡ Some frame
  pub place : f ≡ frames_before funcs k + i

own_of : (n : ℕ) (funcs : List Function) (f : ℕ) (row : FrameRow) → slice_get (rows_from n funcs) f ≡ Some row
    → (k : ℕ) × (row.owner ≡ Some (n + k)) × IsOwnFrame funcs k f (frame_of row)
own_of n [] f row at = absurd (none-some row at)
own_of n (func ∷ funcs) f row at =
    let long = own_count n func in
    at_cases (rows_of (Some n) (own_frames func)) (rows_from (suc n) funcs) f row (rw (rows_split n func funcs) at at)
    (λ here.
    let m = mapped_at (row_for (Some n)) (own_frames func) f row here in
    (0, ap (λ (x : FrameRow). x.owner) (sym m.2) ∙ ap Some (omega arith), record { func = func; i = f; at = refl; own = m.1 ∙ ap (λ (x : FrameRow). Some (frame_of x)) m.2; place = omega arith }))
    (λ j e there.
    let more = own_of (suc n) funcs j row there in
    (suc more.0, more.1 ∙ ap Some (omega arith), record { func = more.2.func; i = more.2.i; at = more.2.at; own = more.2.own; place = omega arith }))

abbrev pub IsFrame : WholeProgram → Option ℕ → ℕ → Allocation → Type 0
IsFrame whole None f frame = slice_get whole.decls f ≡ Some frame
IsFrame whole (Some k) f frame = (j : ℕ) × (f ≡ length whole.decls + j) × IsOwnFrame whole.funcs k j frame

abbrev pub StandAt : List FrameRow → Option ℕ → ℕ → List Allocation → Type 0
StandAt rows owner first frames = (i : ℕ) (frame : Allocation) → slice_get frames i ≡ Some frame → slice_get rows (first + i) ≡ Some (row_for owner frame)

module _ (whole : WholeProgram) where
  -- the rows are those of the frames in the order of the text
  pub frames_are : map frame_of (frame_rows whole) ≡ frames_of whole
  frames_are = rw (map-append frame_of (rows_of None whole.decls) (rows_from 0 whole.funcs), of_owner None whole.decls, of_functions 0 whole.funcs) refl

  pub count_rows : length (frame_rows whole) ≡ length (frames_of whole)
  count_rows = sym (length-map (frame_rows whole) frame_of) ∙ ap length frames_are

  pub keeps_rows : IsWritable whole → All KeepsFrame (frame_rows whole)
  keeps_rows written =
      let Written = AllocationIsWritable in
      let own = all_joined Written own_frames whole.funcs (λ func c. let w = All-contains FunctionIsWritable whole.funcs func written.funcs c in All-append Written func.args func.decls w.args w.decls) in
      let all = subst (All Written) (sym frames_are) (All-append Written whole.decls (flat_map own_frames whole.funcs) written.decls own) in
      all_members KeepsFrame (frame_rows whole) (λ row c.
      let w = All-contains Written (map frame_of (frame_rows whole)) (frame_of row) all (image frame_of (frame_rows whole) row c) in
      record { some = omega arith; most = omega arith; bytes = w.bytes })

  -- a row is that of a frame of its owner
  pub is_frame : (owner : Option ℕ) (f : ℕ) (row : FrameRow) → slice_get (frame_rows whole) f ≡ Some row
      → row.owner ≡ owner → IsFrame whole owner f (frame_of row)
  is_frame owner f row at owned =
      subst (λ (o : Option ℕ). IsFrame whole o f (frame_of row)) owned (at_cases (rows_of None whole.decls) (rows_from 0 whole.funcs) f row at
      (λ here. let m = mapped_at (row_for None) whole.decls f row here in subst (λ (x : FrameRow). IsFrame whole x.owner f (frame_of x)) m.2 m.1)
      (λ j e there.
      let own = own_of 0 whole.funcs j row there in
      subst (λ (o : Option ℕ). IsFrame whole o f (frame_of row)) (sym (own.1 ∙ ap Some (zero-add own.0))) (j, (let is : f ≡ length whole.decls + j = omega (arith, length-map whole.decls (row_for None)) in is), own.2)))

  -- and each frame has its row
  pub decls_stand : StandAt (frame_rows whole) None 0 whole.decls
  decls_stand i frame at =
      rw zero-add (at_left (rows_of None whole.decls) (rows_from 0 whole.funcs) i (row_for None frame) (slice_get-map (row_for None) whole.decls i ∙ ap (option_map (row_for None)) at))

  module _ (k : ℕ) (func : Function) (at : slice_get whole.funcs k ≡ Some func) where
    pub own_stand : StandAt (frame_rows whole) (Some k) (first_frame whole k) (own_frames func)
    own_stand i frame own =
        at_right (rows_of None whole.decls) (rows_from 0 whole.funcs) (frames_before whole.funcs k + i) (first_frame whole k + i) (omega (arith, length-map whole.decls (row_for None)))
        ∙ own_row 0 whole.funcs k i (frames_before whole.funcs k + i) k func frame at own refl (sym (zero-add k))

    pub args_stand : StandAt (frame_rows whole) (Some k) (first_frame whole k) func.args
    args_stand i frame own = own_stand i frame (at_left func.args func.decls i frame own)

    pub own_decls_stand : StandAt (frame_rows whole) (Some k) (first_frame whole k + length func.args) func.decls
    own_decls_stand i frame own =
        ap (slice_get (frame_rows whole)) (let e : (first_frame whole k + length func.args) + i ≡ first_frame whole k + (length func.args + i) = omega arith in e)
        ∙ own_stand (length func.args + i) frame (at_right func.args func.decls i (length func.args + i) refl ∙ own)

-- frames have as many bytes as their rows
pub same_bytes : (rows : List FrameRow) (z : ℕ)
    → fold (λ a x. a + row_bytes x) z rows ≡ fold (λ a x. a + frame_bytes x) z (map frame_of rows)
same_bytes [] z = refl
same_bytes (row ∷ rows) z = same_bytes rows (z + row_bytes row)

-- ---- frames of one name

module _ (whole : WholeProgram) (none : HasNoFault whole) where
  own_apart : (k : ℕ) (func : Function) → slice_get whole.funcs k ≡ Some func
      → OnePlace (λ (z : Allocation). z.name) (own_frames func)
  own_apart k func at =
      let f = none.funcs k func at in
      let name = λ (z : Allocation). z.name in
      one_place_of_both name func.args func.decls (one_place name func.args f.args_differ) (one_place name func.decls f.decls_differ) (λ x y c d same. f.decls_apart y x d c same)

  -- a function's frame has no global frame's name
  not_global : {A : Type 0} (k f g : ℕ) (a b : FrameRow) → IsFrame whole None f (frame_of a)
      → IsFrame whole (Some k) g (frame_of b) → a.name ≡ b.name → A
  not_global k f g a b x y same =
      let own = y.2 in
      let n = none.funcs k own.func own.at in
      let c = contained whole.decls f (frame_of a) x in
      absurd (⊎_elim (λ d. n.args_other (frame_of b) (frame_of a) d c same) (λ d. n.decls_other (frame_of b) (frame_of a) d c same)
      (Contains-append_cases own.func.args own.func.decls (frame_of b) (contained (own_frames own.func) own.i (frame_of b) own.own)))

  -- two frames that a function sees and that have one name are one
  pub names_apart : (k f g : ℕ) (a b : FrameRow) → slice_get (frame_rows whole) f ≡ Some a
      → slice_get (frame_rows whole) g ≡ Some b → IsSeen k a → IsSeen k b → a.name ≡ b.name → f ≡ g
  names_apart k f g a b at there (inl free) (inl free') same =
      one_place (λ (z : Allocation). z.name) whole.decls none.decls_differ f g (frame_of a) (frame_of b) (is_frame whole None f a at free) (is_frame whole None g b there free') same
  names_apart k f g a b at there (inl free) (inr own) same = not_global k f g a b (is_frame whole None f a at free) (is_frame whole (Some k) g b there own) same
  names_apart k f g a b at there (inr own) (inl free) same = not_global k g f b a (is_frame whole None g b there free) (is_frame whole (Some k) f a at own) (sym same)
  names_apart k f g a b at there (inr own) (inr own') same =
      let x = is_frame whole (Some k) f a at own in
      let y = is_frame whole (Some k) g b there own' in
      let one = same_Some x.2.func y.2.func (sym x.2.at ∙ y.2.at) in
      let equal = own_apart k y.2.func y.2.at x.2.i y.2.i (frame_of a) (frame_of b) (ap (λ (z : Function). slice_get (own_frames z) x.2.i) (sym one) ∙ x.2.own) y.2.own same in
      omega arith

-- ---- numbers of names

-- a name that one of the frames has, or what holds of the other number
number_of : (Holds : ℕ → Type 0) (start : ℕ) (frames : List Allocation) (name : List ℕ) (other : ℕ)
    → ((i : ℕ) (frame : Allocation) → slice_get frames i ≡ Some frame → Holds (start + i))
    → IsFrameNamed frames name ⊎ Holds other → Holds (unwrap_or (placed start frames name) other)
number_of Holds start frames name other each known =
    let named = λ (frame : Allocation). bytes_eq frame.name name in
    by_option (λ o. Holds (unwrap_or (option_map (λ p. start + p) o) other)) (frame_place frames name)
    (λ none. ⊎_elim (λ (h : IsFrameNamed frames name). absurd (let first = first_place named frames h.0 h.1 (its_name h.0.name name h.2) in none-some first.0 (sym none ∙ first.1))) (λ (h : Holds other). h) known)
    (λ i e. let s = stands named frames i e in each i s.member s.at)

-- a name that stands for a frame in the function is that of one that it sees
pub sees : (whole : WholeProgram) (k : ℕ) (func : Function) → slice_get whole.funcs k ≡ Some func → (name : List ℕ)
    → text.IsSeen whole func name
    → SeesFrame (frame_rows whole) k (frame_number whole.decls func.args func.decls (first_frame whole k) (first_frame whole k + length func.args) name)
sees whole k func at name known =
    let Seen = SeesFrame (frame_rows whole) k in
    number_of Seen 0 whole.decls name _ (λ i frame is. record { row = row_for None frame; at = decls_stand whole i frame is; seen = inl refl })
    (⊎_elim inl (λ own. inr (number_of Seen (first_frame whole k) func.args name _ (λ i frame is. record { row = row_for (Some k) frame; at = args_stand whole k func at i frame is; seen = inr refl })
    (⊎_elim inl (λ decl. inr (number_of Seen (first_frame whole k + length func.args) func.decls name 0
    (λ i frame is. record { row = row_for (Some k) frame; at = own_decls_stand whole k func at i frame is; seen = inr refl }) (inl decl))) own))) known)

-- ---- frames without faults

-- a number that is written has its size
pub word_of : (num : Num) → NumIsWritable num → IsWordOf num.size num
word_of num written = record { same = refl; sized = record { some = written.some; most = written.small }; fits = written.fits }

module _ (rows : List FrameRow) (owner : Option ℕ) (start : ℕ) (frames : List Allocation) (standing : StandAt rows owner start frames) where
  -- the number of the first frame of the name is that of its row
  row_found : (name : List ℕ) (frame : Allocation) → frame_at frames (frame_place frames name) ≡ Some frame
      → slice_get rows (unwrap_or (placed start frames name) 0) ≡ Some (row_for owner frame)
  row_found name frame found =
      by_option (λ o. frame_at frames o ≡ Some frame → slice_get rows (unwrap_or (option_map (λ p. start + p) o) 0) ≡ Some (row_for owner frame)) (frame_place frames name)
      (λ e f. absurd (none-some frame f)) (λ i e f. standing i frame f) found

  -- what one of these frames holds at first lies in it
  pub init_fits : (init : InitialValue) → InitHasNoFault frames init → InitialIsWritable init
      → InitFits rows owner (numbered_init start frames init)
  init_fits init none written =
      let parts = and_parts ((init.num.size % 8) == 0) (nat_le (8 * init.offset + init.num.size) none.frame.bits) none.fits in
      let word = word_of init.num written.num in
      record {
        row = row_for owner none.frame;
        at = row_found init.name none.frame none.found;
        owned = refl;
        word = word;
        cell = cell_from init.num.size word.sized (eqb-true (init.num.size % 8) 0 parts.0);
        lies = leb-true (8 * init.offset + init.num.size) none.frame.bits parts.1;
      }

-- an exported frame keeps the rules
pub export_keeps : (whole : WholeProgram) (name : List ℕ) → ExportHasNoFault whole.decls name
    → KeepsExport (frame_rows whole) (export_number whole name)
export_keeps whole name none =
    record { row = row_for None none.frame; at = row_found (frame_rows whole) None 0 whole.decls (decls_stand whole) name none.frame none.found; owned = refl; sized = none.size }
