-- First leasts at the ends of the two parts of a list.
use Rattle.std.proofs.Common.{◌≡◌, ◌<◌, ◌+◌, ◌-◌, ℕ, zero, suc, List, [], ◌∷◌, ◌++◌, map, reverse, length, get_or, slice_get, Some, take, drop, refl, ap, sym, ◌∙◌, subst, arith}
use Rattle.std.proofs.lemmas.List.{append_assoc, append-nil, get_or-map, get_or-reverse, reverse-append, reverse-reverse, length-reverse, map-append}
use Rattle.std.proofs.lemmas.Simd.{map-map}
use Rattle.std.proofs.Math.Seq.{take-append_seam, drop-append_seam}
use Rattle.worklist.specs.declared.entry.Entry.{Entry}
use Rattle.worklist.specs.Least.{key_at, Precedes, IsFirstLeast}
use Rattle.worklist.proofs.LeastLemmas.{least_one, least_right, least_left}
use Rattle.worklist.specs.Lines.{items_of, keys_of, line_of, AreLeast, AreFirst}

-- a list turned round, each element mapped
pub map_turned : {A B : Type 0} (f : A → B) (xs : List A) → map f (reverse xs) ≡ reverse (map f xs)
map_turned f [] = refl
map_turned f (x ∷ xs) =
    ap (map f) (reverse-append (x ∷ []) xs)
    ∙ map-append f (reverse xs) (x ∷ [])
    ∙ ap (λ ys. ys ++ f x ∷ []) (map_turned f xs)
    ∙ sym (reverse-append (f x ∷ []) (map f xs))

module _ {X : Type 0} (key : X → List ℕ) where
  -- the key of an entry at a place
  pub key_at_place : (xs : List (Entry X)) (i : ℕ) (d : Entry X) → i < length xs
      → key (get_or xs i d).item.value ≡ key_at (keys_of key xs) i
  key_at_place xs i d low = sym (get_or-map (λ (entry : Entry X). key entry.item.value) xs i d [] low)

  -- and at a place from the end
  pub key_at_end : (xs : List (Entry X)) (i : ℕ) (d : Entry X) → i < length xs
      → key (get_or xs (length xs - 1 - i) d).item.value ≡ key_at (keys_of key (reverse xs)) i
  key_at_end xs i d low =
      ap (λ (entry : Entry X). key entry.item.value) (sym (get_or-reverse xs i d low))
      ∙ key_at_place (reverse xs) i d (let same = length-reverse xs in omega arith)

  least_head : (xs : List (Entry X)) (d : Entry X) → 0 < length xs → AreLeast key xs
      → IsFirstLeast (keys_of key xs) (get_or xs 0 d).least
  least_head [] d some are = absurd (omega arith)
  least_head (x ∷ xs) d some are = are.0

  first_head : (xs : List (Entry X)) (d : Entry X) → 0 < length xs → AreFirst key xs
      → IsFirstLeast (reverse (keys_of key xs)) (get_or xs 0 d).least
  first_head [] d some are = absurd (omega arith)
  first_head (x ∷ xs) d some are = are.0

  last_is_first : (xs : List (Entry X)) (d : Entry X) → 0 < length xs
      → get_or (reverse xs) 0 d ≡ get_or xs (length xs - 1) d
  last_is_first xs d some = get_or-reverse xs 0 d some ∙ ap (λ (k : ℕ). get_or xs k d) (let e : length xs - 1 - 0 ≡ length xs - 1 = omega arith in e)

  pub least_at_end : (xs : List (Entry X)) (d : Entry X) → 0 < length xs → AreLeast key (reverse xs)
      → IsFirstLeast (keys_of key (reverse xs)) (get_or xs (length xs - 1) d).least
  least_at_end xs d some are =
      subst (λ (entry : Entry X). IsFirstLeast (keys_of key (reverse xs)) entry.least) (last_is_first xs d some)
      (least_head (reverse xs) d (let same = length-reverse xs in omega arith) are)

  pub first_at_end : (xs : List (Entry X)) (d : Entry X) → 0 < length xs → AreFirst key (reverse xs)
      → IsFirstLeast (keys_of key xs) (get_or xs (length xs - 1) d).least
  first_at_end xs d some are =
      subst (λ (entry : Entry X). IsFirstLeast (keys_of key xs) entry.least) (last_is_first xs d some)
      (subst (λ (keys : List (List ℕ)). IsFirstLeast keys (get_or (reverse xs) 0 d).least) turned
      (first_head (reverse xs) d (let same = length-reverse xs in omega arith) are))
    where
      turned : reverse (keys_of key (reverse xs)) ≡ keys_of key xs
      turned = ap (λ (ys : List (List ℕ)). reverse ys) (map_turned (λ (entry : Entry X). key entry.item.value) xs) ∙ reverse-reverse (keys_of key xs)

  -- an entry more at the end
  pub turned_push : (xs : List (Entry X)) (x : Entry X) → reverse (xs ++ x ∷ []) ≡ x ∷ reverse xs
  turned_push xs x = reverse-append xs (x ∷ [])

  pub least_pushed : (xs : List (Entry X)) (x : Entry X)
      → IsFirstLeast (key x.item.value ∷ keys_of key (reverse xs)) x.least → AreLeast key (reverse xs)
      → AreLeast key (reverse (xs ++ x ∷ []))
  least_pushed xs x here are = subst (AreLeast key) (sym (turned_push xs x)) (here, are)

  pub first_pushed : (xs : List (Entry X)) (x : Entry X)
      → IsFirstLeast (keys_of key xs ++ key x.item.value ∷ []) x.least → AreFirst key (reverse xs)
      → AreFirst key (reverse (xs ++ x ∷ []))
  first_pushed xs x here are = subst (AreFirst key) (sym (turned_push xs x)) (subst (λ (keys : List (List ℕ)). IsFirstLeast keys x.least) (sym turned) here, are)
    where
      turned : reverse (keys_of key (x ∷ reverse xs)) ≡ keys_of key xs ++ key x.item.value ∷ []
      turned =
          reverse-append (key x.item.value ∷ []) (keys_of key (reverse xs))
          ∙ ap (λ (ys : List (List ℕ)). ys ++ key x.item.value ∷ []) (ap (λ (ys : List (List ℕ)). reverse ys) (map_turned (λ (entry : Entry X). key entry.item.value) xs) ∙ reverse-reverse (keys_of key xs))

  -- and one less
  pub least_popped : (xs : List (Entry X)) (x : Entry X) → AreLeast key (reverse (xs ++ x ∷ []))
      → AreLeast key (reverse xs)
  least_popped xs x are = (subst (AreLeast key) (turned_push xs x) are).1

  pub first_popped : (xs : List (Entry X)) (x : Entry X) → AreFirst key (reverse (xs ++ x ∷ []))
      → AreFirst key (reverse xs)
  first_popped xs x are = (subst (AreFirst key) (turned_push xs x) are).1

  -- the list is the same where its last earlier element becomes the first later one
  pub line_moved : (earlier later : List (Entry X)) (item : X) (x : Entry X) (after : List (Entry X))
      → x.item.value ≡ item → items_of (reverse after) ≡ item ∷ items_of (reverse later)
      → line_of earlier after ≡ line_of (earlier ++ x ∷ []) later
  line_moved earlier later item x after is put =
      ap (λ (ys : List X). items_of earlier ++ ys) (put ∙ ap (λ (y : X). y ∷ items_of (reverse later)) (sym is))
      ∙ sym (ap (λ (ys : List X). ys ++ items_of (reverse later)) (map-append (λ (entry : Entry X). entry.item.value) earlier (x ∷ [])) ∙ simp append_assoc)

  pub line_moved_back : (earlier later : List (Entry X)) (item : X) (x : Entry X) (after : List (Entry X))
      → x.item.value ≡ item → items_of after ≡ items_of earlier ++ item ∷ []
      → line_of after later ≡ line_of earlier (later ++ x ∷ [])
  line_moved_back earlier later item x after is put =
      ap (λ (ys : List X). ys ++ items_of (reverse later)) put
      ∙ simp append_assoc (ap (λ (y : X). items_of earlier ++ (y ∷ items_of (reverse later))) (sym is) ∙ sym (ap (λ (ys : List (Entry X)). items_of earlier ++ items_of ys) (turned_push later x)))

  -- the keys of the list
  pub keys_line : (earlier later : List (Entry X))
      → map key (line_of earlier later) ≡ keys_of key earlier ++ keys_of key (reverse later)
  keys_line earlier later = map-append key (items_of earlier) (items_of (reverse later)) ∙ simp map-map

pub first_before : (k : List ℕ) (ls : List (List ℕ)) (j : ℕ) → IsFirstLeast ls j → Precedes (key_at ls j) k
    → IsFirstLeast (k ∷ ls) (j + 1)
first_before k ls j least below = subst (λ (i : ℕ). IsFirstLeast (k ∷ ls) i) (let e : 1 + j ≡ j + 1 = omega arith in e) (least_right (k ∷ []) ls 0 j (least_one k) least below)

pub itself_before : (k : List ℕ) (ls : List (List ℕ)) (j : ℕ) → IsFirstLeast ls j → (Precedes (key_at ls j) k → ⊥)
    → IsFirstLeast (k ∷ ls) 0
itself_before k ls j least most = least_left (k ∷ []) ls 0 j (least_one k) least most

pub itself_after : (ks : List (List ℕ)) (k : List ℕ) (i : ℕ) → IsFirstLeast ks i → Precedes k (key_at ks i)
    → IsFirstLeast (ks ++ k ∷ []) (length ks)
itself_after ks k i least below = subst (λ (j : ℕ). IsFirstLeast (ks ++ k ∷ []) j) (let e : length ks + 0 ≡ length ks = omega arith in e) (least_right ks (k ∷ []) i 0 least (least_one k) below)

pub first_after : (ks : List (List ℕ)) (k : List ℕ) (i : ℕ) → IsFirstLeast ks i → (Precedes k (key_at ks i) → ⊥)
    → IsFirstLeast (ks ++ k ∷ []) i
first_after ks k i least most = least_left ks (k ∷ []) i 0 least (least_one k) most

module _ {X : Type 0} (key : X → List ℕ) where
  keys_long : (xs : List (Entry X)) → length (keys_of key xs) ≡ length xs
  keys_long [] = refl
  keys_long (x ∷ xs) = ap suc (keys_long xs)

  -- of one element more, before others and after others
  pub alone_before : (xs : List (Entry X)) (k : List ℕ) → length xs ≡ 0 → IsFirstLeast (k ∷ keys_of key (reverse xs)) 0
  alone_before [] k none = least_one k
  alone_before (x ∷ xs) k none = absurd (omega arith)

  pub alone_after : (xs : List (Entry X)) (k : List ℕ) → length xs ≡ 0 → IsFirstLeast (keys_of key xs ++ k ∷ []) 0
  alone_after [] k none = least_one k
  alone_after (x ∷ xs) k none = absurd (omega arith)

  pub put_after : (xs : List (Entry X)) (k : List ℕ) (i : ℕ) → IsFirstLeast (keys_of key xs) i
      → Precedes k (key_at (keys_of key xs) i) → IsFirstLeast (keys_of key xs ++ k ∷ []) (length xs)
  put_after xs k i least below = subst (λ (j : ℕ). IsFirstLeast (keys_of key xs ++ k ∷ []) j) (keys_long xs) (itself_after (keys_of key xs) k i least below)

  -- of both parts
  pub alone_earlier : (xs ys : List (Entry X)) (i : ℕ) → length ys ≡ 0 → IsFirstLeast (keys_of key xs) i
      → IsFirstLeast (keys_of key xs ++ keys_of key (reverse ys)) i
  alone_earlier xs [] i none least = subst (λ (keys : List (List ℕ)). IsFirstLeast keys i) (sym (append-nil (keys_of key xs))) least
  alone_earlier xs (y ∷ ys) i none least = absurd (omega arith)

  pub alone_later : (xs : List (Entry X)) (ls : List (List ℕ)) (j : ℕ) → length xs ≡ 0 → IsFirstLeast ls j
      → IsFirstLeast (keys_of key xs ++ ls) j
  alone_later [] ls j none least = least
  alone_later (x ∷ xs) ls j none least = absurd (omega arith)

  pub in_later : (xs : List (Entry X)) (ls : List (List ℕ)) (i j : ℕ) → IsFirstLeast (keys_of key xs) i
      → IsFirstLeast ls j → Precedes (key_at ls j) (key_at (keys_of key xs) i)
      → IsFirstLeast (keys_of key xs ++ ls) (length xs + j)
  in_later xs ls i j f g below = subst (λ (k : ℕ). IsFirstLeast (keys_of key xs ++ ls) (k + j)) (keys_long xs) (least_right (keys_of key xs) ls i j f g below)

  items_long : (xs : List (Entry X)) → length (items_of xs) ≡ length xs
  items_long [] = refl
  items_long (x ∷ xs) = ap suc (items_long xs)

  -- what stands from the seam of the parts on
  pub from_seam : (earlier later : List (Entry X)) (xs : List X) (place : ℕ) → line_of earlier later ≡ xs
      → length earlier ≡ place → drop place xs ≡ items_of (reverse later)
  from_seam earlier later xs place whole seam =
      ap (λ (ys : List X). drop place ys) (sym whole)
      ∙ ap (λ (k : ℕ). drop k (line_of earlier later)) (sym seam ∙ sym (items_long earlier))
      ∙ drop-append_seam (items_of earlier) (items_of (reverse later))

  pub to_seam : (earlier later : List (Entry X)) (xs : List X) (place : ℕ) → line_of earlier later ≡ xs
      → length earlier ≡ place → take place xs ≡ items_of earlier
  to_seam earlier later xs place whole seam =
      ap (λ (ys : List X). take place ys) (sym whole)
      ∙ ap (λ (k : ℕ). take k (line_of earlier later)) (sym seam ∙ sym (items_long earlier))
      ∙ take-append_seam (items_of earlier) (items_of (reverse later))

  pub least_from_seam : (earlier later : List (Entry X)) (xs : List X) (place farther : ℕ) → line_of earlier later ≡ xs
      → length earlier ≡ place
      → IsFirstLeast (keys_of key (reverse later)) farther → IsFirstLeast (map key (drop place xs)) farther
  least_from_seam earlier later xs place farther whole seam least =
      subst (λ (keys : List (List ℕ)). IsFirstLeast keys farther)
      (sym (ap (λ (ys : List X). map key ys) (from_seam earlier later xs place whole seam) ∙ map-map key (λ (entry : Entry X). entry.item.value) (reverse later))) least

  -- the first element after the seam
  first_after_seam : (xs ys : List X) (x : X) (place : ℕ) → drop place xs ≡ x ∷ ys
      → (slice_get xs place ≡ Some x) × (drop (suc place) xs ≡ ys)
  first_after_seam [] ys x zero e = absurd (cc)
  first_after_seam [] ys x (suc place) e = absurd (cc)
  first_after_seam (z ∷ xs) ys x zero e = (ap Some (let same : z ≡ x = cc in same), (let rest : xs ≡ ys = cc in rest))
  first_after_seam (z ∷ xs) ys x (suc place) e = first_after_seam xs ys x place e

  pub taken : (earlier later rest : List (Entry X)) (x : Entry X) (xs : List X) (place : ℕ) → line_of earlier later ≡ xs
      → length earlier ≡ place → later ≡ rest ++ x ∷ []
      → (slice_get xs place ≡ Some x.item.value) × (line_of earlier rest ≡ take place xs ++ drop (suc place) xs)
  taken earlier later rest x xs place whole seam cut =
      let front = to_seam earlier later xs place whole seam in
      let back : drop place xs ≡ x.item.value ∷ items_of (reverse rest) = from_seam earlier later xs place whole seam ∙ ap (λ (ys : List (Entry X)). items_of (reverse ys)) cut ∙ ap (λ (ys : List (Entry X)). items_of ys) (turned_push key rest x) in
      let first = first_after_seam xs (items_of (reverse rest)) x.item.value place back in
      (first.0, sym (ap (λ (ys : List X). ys ++ drop (suc place) xs) front ∙ ap (λ (ys : List X). items_of earlier ++ ys) first.1))

  pub inserted : (earlier later after : List (Entry X)) (x : X) (xs : List X) (place : ℕ) → line_of earlier later ≡ xs
      → length earlier ≡ place → items_of (reverse after) ≡ x ∷ items_of (reverse later)
      → line_of earlier after ≡ take place xs ++ x ∷ drop place xs
  inserted earlier later after x xs place whole seam new =
      ap (λ (ys : List X). items_of earlier ++ ys) (new ∙ ap (λ (ys : List X). x ∷ ys) (sym (from_seam earlier later xs place whole seam)))
      ∙ ap (λ (ys : List X). ys ++ x ∷ drop place xs) (sym (to_seam earlier later xs place whole seam))
