-- Names in a row.
--   found_newest   the place that the table has leads to the newest entry
--   more_row       one name more
--   less_row       one name less
--   same_row       a table that has the same
use Rattle.std.proofs.Common.{◌≡◌, ◌<◌, ◌≤◌, get_or, ℕ, suc, Bool, List, [], ◌∷◌, ◌++◌, length, map, reverse, Option, None, Some, refl, ap, sym, ◌∙◌, subst, arith, IfSome, if◌then◌else◌}
use Rattle.std.specs.List.{slice_get}
use Rattle.std.specs.Option.{option_map, option_and_then}
use Rattle.std.specs.Str.{bytes_eq}
use Rattle.std.proofs.lemmas.List.{length-map, length-reverse, reverse-reverse}
use Rattle.std.proofs.lemmas.Slice.Eq.{bytes_eq-Decides}
use Rattle.std.proofs.lemmas.Option.{slice_get_past, slice_get_read}
use Rattle.lists.specs.TestLaws.{by_test}
use Rattle.indexmap.specs.IndexMap.{IndexMap}
use denote.Ref.{Bor}
use Rattle.c_unit.specs.Units.{Word}
use Rattle.c_rules.specs.Names.{Entry, named, text_at}
use Rattle.c_scopes.specs.declared.row.Held.{Held}
use Rattle.c_scopes.specs.Rows.{latest, held_entry, newest, found, Hides, IsRow}
use Rattle.c_scopes.proofs.Ends.{turned_more, turned_cons, get_seam, get_before}

-- a place is below the number of names
pub latest_within : (words : List Word) (es : List Entry) (name : List ℕ)
    → IfSome (latest words es name) (λ place. place < length es)
latest_within words [] name = tt
latest_within words (e ∷ es) name =
    by_test (bytes_eq (text_at words e.token) name) (λ here. rw here (omega arith)) (λ there. rw there (further (latest words es name) (length es) (latest_within words es name)))
  where
    further : (place : Option ℕ) (n : ℕ) → IfSome place (λ k. k < n) → IfSome place (λ k. k < suc n)
    further None n low = tt
    further (Some k) n low = omega arith

-- what stands there
abbrev pub at_place : List Held → Option ℕ → Option Entry
at_place helds place = option_map held_entry (option_and_then (λ k. slice_get helds k) place)

at_before : (helds : List Held) (h : Held) (place : Option ℕ) → IfSome place (λ k. k < length helds)
    → at_place (helds ++ h ∷ []) place ≡ at_place helds place
at_before helds h None low = refl
at_before helds h (Some k) low = ap (option_map held_entry) (get_before helds (h ∷ []) k low)

turned_newest : (words : List Word) (token : ℕ) (hs : List Held) → at_place (reverse hs) (latest words (map held_entry hs) (text_at words token)) ≡ named words token (map held_entry hs)
turned_newest words token [] = refl
turned_newest words token (h ∷ hs) =
    let count : length (map held_entry hs) ≡ length (reverse hs) = length-map hs held_entry ∙ sym (length-reverse hs) in
    let low = subst (λ (n : ℕ). IfSome (latest words (map held_entry hs) (text_at words token)) (λ k. k < n)) count (latest_within words (map held_entry hs) (text_at words token)) in
    rw (turned_cons h hs)
    (by_test (bytes_eq (text_at words h.entry.token) (text_at words token))
    (λ here. rw (here, count) (ap (option_map held_entry) (get_seam (reverse hs) h)))
    (λ there. rw there (at_before (reverse hs) h (latest words (map held_entry hs) (text_at words token)) low ∙ turned_newest words token hs)))

pub found_newest : (words : List Word) (token : ℕ) (helds : List Held)
    → at_place helds (latest words (newest helds) (text_at words token)) ≡ named words token (newest helds)
found_newest words token helds =
    subst (λ (hs : List Held). at_place hs (latest words (newest helds) (text_at words token)) ≡ named words token (newest helds)) (reverse-reverse helds) (turned_newest words token (reverse helds))

pub none_at : (helds : List Held) (place : ℕ) → length helds ≤ place → at_place helds (Some place) ≡ None
none_at helds place past = ap (option_map held_entry) (slice_get_past helds place past)

pub some_at : (helds : List Held) (place : ℕ) (h : Held) → place < length helds → h ≡ get_or helds place h
    → at_place helds (Some place) ≡ Some (held_entry h)
some_at helds place h low is = ap (option_map held_entry) (slice_get_read helds (length helds) place h refl low is)

module _ {S : Type 0} (words : List Word) where
  -- a table that has the same
  pub same_row : (helds : List Held) (table after : IndexMap (Bor (List ℕ)) ℕ S) → IsRow words helds table
      → ((name : List ℕ) → found after name ≡ found table name) → IsRow words helds after
  same_row helds table after row same = record { has = λ name. same name ∙ row.has name; hides = row.hides }

  -- one name more
  pub more_row : (helds : List Held) (h : Held) (table after : IndexMap (Bor (List ℕ)) ℕ S) → IsRow words helds table
      → h.hidden ≡ found table (text_at words h.entry.token)
      → ((name : List ℕ) → found after name ≡ (if bytes_eq (text_at words h.entry.token) name then Some (length helds) else found table name)) → IsRow words (helds ++ h ∷ []) after
  more_row helds h table after row hidden entered =
      let count : length (newest helds) ≡ length helds = length-map (reverse helds) held_entry ∙ length-reverse helds in
      record {
        has = λ name. rw (turned_more helds h, count, ← row.has name) (entered name);
        hides = rw (turned_more helds h) (hidden ∙ row.has (text_at words h.entry.token), row.hides);
      }

  -- one name less
  pub less_row : (helds : List Held) (h : Held) (table after : IndexMap (Bor (List ℕ)) ℕ S)
      → IsRow words (helds ++ h ∷ []) table
      → ((name : List ℕ) → found after name ≡ (if bytes_eq (text_at words h.entry.token) name then h.hidden else found table name)) → IsRow words helds after
  less_row helds h table after row taken =
      let hides = subst (λ (hs : List Held). Hides words hs) (turned_more helds h) row.hides in
      record { has = λ name. taken name ∙ before name; hides = hides.1 }
    where
      before : (name : List ℕ) → (if bytes_eq (text_at words h.entry.token) name then h.hidden else found table name) ≡ latest words (newest helds) name
      before name =
          let hides = subst (λ (hs : List Held). Hides words hs) (turned_more helds h) row.hides in
          let has = subst (λ (hs : List Held). found table name ≡ latest words (map held_entry hs) name) (turned_more helds h) (row.has name) in
          by_test (bytes_eq (text_at words h.entry.token) name)
          (λ here. rw here (hides.0 ∙ ap (λ (text : List ℕ). latest words (newest helds) text) ((bytes_eq-Decides (text_at words h.entry.token) name).0 here)))
          (λ there. rw there (has ∙ ap (λ (b : Bool). if b then Some (length (newest helds)) else latest words (newest helds) name) there))
