-- Laws of writing.
--   ◌then◌, until, ends, as_value, ended, grouped   one part and then another
--   row_writes, same_row                        lists
--   reads_spells   what reading computes is spelled
use Rattle.std.proofs.Common.{◌≡◌, Bool, true, false, List, [], ◌∷◌, ◌++◌, All, Ok, refl, ap, subst, append_assoc}
use Rattle.std.specs.List.{flat_map, list_all}
use Rattle.std.proofs.lemmas.List.Folds.{list_all-append}
use Rattle.std.proofs.lemmas.List.Elements.{All-head, All-tail}
use Rattle.grammar.specs.Form.{At, Form, InARow, bound, made, row}
use Rattle.grammar.specs.Exact.{Says}
use Rattle.grammar.specs.Rule.{Rule, many}
use Rattle.grammar.specs.Writing.{place, Printing, tokens, row_room, Writes, never}

same_room : {R A : Type 0} (xs : List A) (room : R) → row_room (λ (x : A) room. room) xs room ≡ room
same_room [] room = refl
same_room (x ∷ xs) room = same_room xs room

-- the tokens of marks before those of others
before_append : {T M : Type 0} (of : Printing T M) (more : List T) (xs ys : List M)
    → tokens of more (xs ++ ys) ≡ tokens of (tokens of more ys) xs
before_append of more [] ys = refl
before_append {T = T} of more (x ∷ xs) ys = ap (λ (ts : List T). of.before ts x ∷ ts) (before_append of more xs ys)

-- what reading computes is spelled
pub reads_spells : {T R F A : Type 0} {some : Bool} (p : Rule T R F some A) (at : At T R) (x : A) (rest : At T R)
    → p.form.reading at ≡ Ok (x, rest) → p.form.Spells at x rest
reads_spells p at x rest e = subst (Says p.form at) e (p.exact.holds at)

row_prints : {A M : Type 0} (fits : M → Bool) (marks : A → List M) (Fine : A → Type 0)
    → ((x : A) → Fine x → list_all fits (marks x) ≡ true) → (xs : List A) → All Fine xs
    → list_all fits (flat_map marks xs) ≡ true
row_prints fits marks Fine each [] all = refl
row_prints fits marks Fine each (x ∷ xs) all = rw (list_all-append fits (marks x) (flat_map marks xs), each x (All-head Fine x xs all)) (row_prints fits marks Fine each xs (All-tail Fine x xs all))

module _ {T R F M A : Type 0} (of : Printing T M) (goes_on : At T R → Bool) (p : Rule T R F true A) (marks : A → List M) (need : A → R → R) (Fine : A → Type 0)
    (begins : (x : A) → Fine x → (more : List T) (room : R) → goes_on (place (tokens of more (marks x)) (need x room)) ≡ true)
    (each : (x : A) → Fine x → (more : List T) (room : R) → p.form.reading (place (tokens of more (marks x)) (need x room)) ≡ Ok (x, place more room)) where
  in_a_row_of : (xs : List A) → All Fine xs → (more : List T) (room : R)
      → InARow goes_on p.form (place (tokens of more (flat_map marks xs)) (row_room need xs room)) xs (place more room)
  in_a_row_of [] all more room = refl
  in_a_row_of (x ∷ xs) all more room =
      let others = place (tokens of more (flat_map marks xs)) (row_room need xs room) in
      let w = All-head Fine x xs all in
      rw (before_append of more (marks x) (flat_map marks xs))
      (begins x w others.ahead others.room, (others, reads_spells p _ x _ (each x w others.ahead others.room), in_a_row_of xs (All-tail Fine x xs all) more room))

module _ {T R F M : Type 0} {of : Printing T M} where
  pub value_writes : {A : Type 0} {goes_on : At T R → Bool} {room : R} {x : A}
      → Writes of goes_on [] (made {F = F} x) [] room room x
  value_writes = record { prints = refl; reads = λ more free. refl }

  -- the first part does not go on with the second
  pub until : {A B : Type 0} {goes_on goes : At T R → Bool} {end xs ys : List M} {p : Form T R F A} {q : A → Form T R F B} {a b c : R} {x : A} {f : A → B} → Writes of goes_on [] p xs a b x
      → ((more : List T) → goes_on (place (tokens of (tokens of more end) ys) b) ≡ false) → ((z : A) → Writes of goes end (q z) ys b c (f z)) → Writes of goes end (bound p q) (xs ++ ys) a c (f x)
  until {end = end} {xs = xs} {ys = ys} {x = x} h stops i = record {
    prints = rw (list_all-append of.fits xs ys, h.prints) (i x).prints;
    reads = λ more free. rw (before_append of (tokens of more end) xs ys, h.reads (tokens of (tokens of more end) ys) (stops more)) ((i x).reads more free);
  }

  infixr 10 ◌then◌
  pub ◌then◌ : {A B : Type 0} {goes : At T R → Bool} {end xs ys : List M} {p : Form T R F A} {q : A → Form T R F B} {a b c : R} {x : A} {f : A → B}
      → Writes of never [] p xs a b x → ((z : A) → Writes of goes end (q z) ys b c (f z)) → Writes of goes end (bound p q) (xs ++ ys) a c (f x)
  h then i = until h (λ more. refl) i

  -- what follows the part takes the end alone
  pub ends : {A B : Type 0} {goes_on goes : At T R → Bool} {end xs : List M} {p : Form T R F A} {a b : R} {x : A} {f : A → B} (q : A → Form T R F B) → Writes of goes_on [] p xs a b x
      → ((more : List T) → goes_on (place (tokens of more end) b) ≡ false)
      → ((z : A) (more : List T) → z ≡ x → goes (place more b) ≡ false → (q z).reading (place (tokens of more end) b) ≡ Ok (f z, place more b)) → Writes of goes end (bound p q) xs a b (f x)
  ends {end = end} {x = x} q h stops reads = record { prints = h.prints; reads = λ more free. rw (h.reads (tokens of more end) (stops more)) (reads x more refl free) }

  -- a value is made of it
  pub as_value : {A B : Type 0} {goes : At T R → Bool} {end xs : List M} {p : Form T R F A} {f : A → B} {a b : R} {x : A}
      → Writes of goes end p xs a b x → Writes of goes end (bound p (λ x. made (f x))) xs a b (f x)
  as_value h = record { prints = h.prints; reads = λ more free. rw (h.reads more free) refl }

  -- the end is written too
  pub ended : {A : Type 0} {goes : At T R → Bool} {end xs : List M} {p : Form T R F A} {a b : R} {x : A}
      → list_all of.fits end ≡ true → Writes of goes end p xs a b x → Writes of goes [] p (xs ++ end) a b x
  ended {end = end} {xs = xs} h i = record { prints = rw (list_all-append of.fits xs end, i.prints) h; reads = λ more free. rw (before_append of more xs end) (i.reads more free) }

  -- a text groups its parts to the left
  pub grouped : {A : Type 0} {goes : At T R → Bool} {end : List M} {p : Form T R F A} {a b : R} {x : A} (xs ys zs : List M) → Writes of goes end p (xs ++ (ys ++ zs)) a b x → Writes of goes end p (xs ++ ys ++ zs) a b x
  grouped {goes = goes} {end = end} {p = p} {a = a} {b = b} {x = x} xs ys zs h = rw (append_assoc xs ys zs) h

  -- a list is written by its members
  module _ {A : Type 0} {Fine : A → Type 0} (goes_on : At T R → Bool) (p : Rule T R F true A) (marks : A → List M) where
    pub row_writes : (need : A → R → R) → ((x : A) → Fine x → (more : List T) (room : R) → goes_on (place (tokens of more (marks x)) (need x room)) ≡ true)
        → ((x : A) → Fine x → (room : R) → Writes of never [] p.form (marks x) (need x room) room x)
        → (xs : List A) → All Fine xs → (room : R) → Writes of goes_on [] (row goes_on p.form) (flat_map marks xs) (row_room need xs room) room xs
    row_writes need begins each xs all room = record {
      prints = row_prints of.fits marks Fine (λ x w. (each x w room).prints) xs all;
      reads = λ more stops. (many goes_on p).exact.alone (place (tokens of more (flat_map marks xs)) (row_room need xs room)) (Ok (xs, place more room))
          (in_a_row_of of goes_on p marks need Fine begins (λ x w more room. (each x w room).reads more refl) xs all more room, stops);
    }

    -- the same where nothing is counted
    pub same_row : ((x : A) → Fine x → (more : List T) (room : R) → goes_on (place (tokens of more (marks x)) room) ≡ true)
        → ((x : A) → Fine x → (room : R) → Writes of never [] p.form (marks x) room room x)
        → (xs : List A) → All Fine xs → {room : R} → Writes of goes_on [] (row goes_on p.form) (flat_map marks xs) room room xs
    same_row begins each xs all {room = room} = subst (λ (r : R). Writes of goes_on [] (row goes_on p.form) (flat_map marks xs) r room xs) (same_room xs room) (row_writes (λ x room. room) begins each xs all room)
