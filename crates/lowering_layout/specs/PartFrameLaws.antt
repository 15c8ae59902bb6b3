-- Laws of part frames.
--   nothing, an_object, a_result, joined   parts without frames, of one frame, and in a row
use Rattle.std.proofs.Common.{◌≡◌, ◌≢◌, ◌<◌, ◌≤◌, ◌^◌, ◌+◌, ℕ, List, [], ◌∷◌, ◌++◌, length, Contains, refl, sym, ap, ◌∙◌, subst, arith, length-append, ltb, ltb-true, ltb-false}
use Rattle.std.proofs.lemmas.List.Elements.{Contains-append_left, Contains-append_right}
use Rattle.lists.specs.MemberLaws.{first_member}
use Rattle.lists.specs.TestLaws.{by_test}
use Rattle.alf_program.specs.Tree.{Allocation}
use Rattle.c_meaning.specs.Objects.{Object, Program}
use Rattle.c_lowered.specs.Names.{call_name, frame_of}
use Rattle.c_lowered.specs.Frames.{object_frame}
use Rattle.lowering_layout.specs.Lists.{EachOf, Across}
use Rattle.lowering_layout.specs.ListLaws.{each_when, each_joined, each_member, apart_joined}
use Rattle.lowering_layout.specs.Spelled.{HasNames}
use Rattle.lowering_layout.specs.DifferLaws.{calls_differ}
use Rattle.lowering_layout.specs.Places.{OfOtherFrames}
use Rattle.lowering_layout.specs.PlaceLaws.{frame_at, call_is_no_object}
use Rattle.lowering_layout.specs.PartFrames.{DifferInName, IsObject, IsFrameOf, of_object, of_result, HasFrame, HasResult, Part}

by_order : {A : Type 0} (i j : ℕ) → (i < j → A) → (j ≤ i → A) → A
by_order i j low high = by_test (ltb i j) (λ t. low (ltb-true i j t)) (λ f. high (ltb-false i j f))

module _ (program : Program) where
  -- ---- more frames, objects and results

  pub wider : (f lo hi lo' hi' : ℕ) (os os' : List Object) (frame : Allocation) → lo' ≤ lo → hi ≤ hi'
      → ((o : Object) → Contains os o → Contains os' o) → IsFrameOf program f lo hi os frame
      → IsFrameOf program f lo' hi' os' frame
  wider f lo hi lo' hi' os os' frame low high more (of_object o c is name bits) = of_object o (more o c) is name bits
  wider f lo hi lo' hi' os os' frame low high more (of_result k from to function few name) = of_result k (omega (arith, low, from)) (omega (arith, high, to)) function few name

  pub all_wider : (f lo hi lo' hi' : ℕ) (os os' : List Object) (frames : List Allocation) → lo' ≤ lo → hi ≤ hi'
      → ((o : Object) → Contains os o → Contains os' o) → EachOf (IsFrameOf program f lo hi os) frames
      → EachOf (IsFrameOf program f lo' hi' os') frames
  all_wider f lo hi lo' hi' os os' frames low high more h = each_when (IsFrameOf program f lo hi os) (IsFrameOf program f lo' hi' os') frames (λ a known. wider f lo hi lo' hi' os os' a low high more known) h

  has_wider : (xs ys : List Allocation) (os : List Object) → ((a : Allocation) → Contains xs a → Contains ys a)
      → EachOf (HasFrame program xs) os → EachOf (HasFrame program ys) os
  has_wider xs ys os more h = each_when (HasFrame program xs) (HasFrame program ys) os (λ o has. record { frame = has.frame; among = more has.frame has.among; name = has.name; bits = has.bits }) h

  result_wider : (f k : ℕ) (xs ys : List Allocation) → ((a : Allocation) → Contains xs a → Contains ys a)
      → HasResult program f xs k → HasResult program f ys k
  result_wider f k xs ys more has = record { frame = has.frame; among = more has.frame has.among; name = has.name }

  pub part_is : (f : ℕ) (os : List Object) (lo m n : ℕ) (frames : List Allocation) → m ≡ n
      → Part program f os lo m frames → Part program f os lo n frames
  part_is f os lo m n frames e part = subst (λ (k : ℕ). Part program f os lo k frames) e part

  -- ---- one frame, or none

  pub nothing : (f lo : ℕ) → Part program f [] lo 0 []
  nothing f lo = record { known = tt; apart = tt; objects_have = tt; results_have = λ k from to. absurd (omega (arith, from, to)); count = omega arith }

  pub an_object : (f lo : ℕ) (o : Object) → IsObject program o
      → Part program f (o ∷ []) lo 0 (object_frame program o.token o.bits ∷ [])
  an_object f lo o is = record {
    known = (of_object o (first_member o []) is refl refl, tt);
    apart = (tt, tt);
    objects_have = (record { frame = object_frame program o.token o.bits; among = first_member (object_frame program o.token o.bits) []; name = refl; bits = refl }, tt);
    results_have = λ k from to. absurd (omega (arith, from, to));
    count = omega arith;
  }

  pub a_result : (f lo bits : ℕ) → f < length program.functions → lo < 10 ^ 64
      → Part program f [] lo 1 (record { name = call_name program f lo; bits = bits } ∷ [])
  a_result f lo bits function few = record {
    known = (of_result lo (omega arith) (omega arith) function few refl, tt);
    apart = (tt, tt);
    objects_have = tt;
    results_have = λ k from to. record { frame = record { name = call_name program f lo; bits = bits }; among = first_member (record { name = call_name program f lo; bits = bits }) []; name = ap (call_name program f) (let same : lo ≡ k = omega (arith, from, to) in same) };
    count = omega arith;
  }

module _ (program : Program) (names : HasNames program) where
  -- ---- frames of two parts

  object_not_result : (g k : ℕ) (a b : Allocation) (o : Object) → IsObject program o → a.name ≡ frame_of program o.token
      → g < length program.functions → b.name ≡ call_name program g k → a.name ≢ b.name
  object_not_result g k a b o is name_a function name_b e =
      call_is_no_object program names is.0 o g k is.1 function (sym (frame_at program names is.0 o is.1) ∙ sym name_a ∙ e ∙ name_b)

  pub frames_differ : (f g lo hi lo' hi' : ℕ) (os ps : List Object) (a b : Allocation)
      → Across (OfOtherFrames program names) os ps → ((k : ℕ) → f ≡ g → lo ≤ k → k < hi → lo' ≤ k → k < hi' → ⊥)
      → IsFrameOf program f lo hi os a → IsFrameOf program g lo' hi' ps b → a.name ≢ b.name
  frames_differ f g lo hi lo' hi' os ps a b across between (of_object o c is name bits) (of_object p d is' name' bits') e =
      each_member (OfOtherFrames program names o) ps p d (each_member (λ (x : Object). EachOf (OfOtherFrames program names x) ps) os o c across) (sym name ∙ e ∙ name')
  frames_differ f g lo hi lo' hi' os ps a b across between (of_object o c is name bits) (of_result k from to function few name') e = object_not_result g k a b o is name function name' e
  frames_differ f g lo hi lo' hi' os ps a b across between (of_result k from to function few name) (of_object p d is' name' bits') e = object_not_result f k b a p is' name' function name (sym e)
  frames_differ f g lo hi lo' hi' os ps a b across between (of_result k from to function few name) (of_result l from' to' function' few' name') e =
      let same = calls_differ program names f g k l function function' few few' (sym name ∙ e ∙ name') in
      between k same.0 from to (subst (λ (x : ℕ). lo' ≤ x) (sym same.1) from') (subst (λ (x : ℕ). x < hi') (sym same.1) to')

  pub known_apart : (f g lo hi lo' hi' : ℕ) (os ps : List Object) (xs ys : List Allocation)
      → Across (OfOtherFrames program names) os ps → ((k : ℕ) → f ≡ g → lo ≤ k → k < hi → lo' ≤ k → k < hi' → ⊥)
      → EachOf (IsFrameOf program f lo hi os) xs → EachOf (IsFrameOf program g lo' hi' ps) ys → Across DifferInName xs ys
  known_apart f g lo hi lo' hi' os ps xs ys across between known known' =
      each_when (IsFrameOf program f lo hi os) (λ (a : Allocation). EachOf (DifferInName a) ys) xs
      (λ a is. each_when (IsFrameOf program g lo' hi' ps) (DifferInName a) ys (λ b is'. frames_differ f g lo hi lo' hi' os ps a b across between is is') known') known

  -- ---- parts in a row

  pub joined : (f lo n mid m : ℕ) (os ps : List Object) (xs ys : List Allocation) → mid ≡ lo + n
      → Across (OfOtherFrames program names) os ps → Part program f os lo n xs → Part program f ps mid m ys
      → Part program f (os ++ ps) lo (n + m) (xs ++ ys)
  joined f lo n mid m os ps xs ys e across p q = record {
    known = each_joined (IsFrameOf program f lo (lo + (n + m)) (os ++ ps)) xs ys
        (all_wider program f lo (lo + n) lo (lo + (n + m)) os (os ++ ps) xs (omega arith) (omega arith) (λ o c. Contains-append_left os ps o c) p.known)
        (all_wider program f mid (mid + m) lo (lo + (n + m)) ps (os ++ ps) ys (omega (arith, e)) (omega (arith, e)) (λ o c. Contains-append_right os ps o c) q.known);
    apart = apart_joined DifferInName xs ys p.apart q.apart
        (known_apart f f lo (lo + n) mid (mid + m) os ps xs ys across (λ k same from to from' to'. absurd (omega (arith, e, to, from'))) p.known q.known);
    objects_have = each_joined (HasFrame program (xs ++ ys)) os ps
        (has_wider program xs (xs ++ ys) os (λ a c. Contains-append_left xs ys a c) p.objects_have)
        (has_wider program ys (xs ++ ys) ps (λ a c. Contains-append_right xs ys a c) q.objects_have);
    results_have = results;
    count = length-append xs ys ∙ (let l = p.count in let r = q.count in let t = length-append os ps in omega (arith, l, r, t));
  }
    where
      results : (k : ℕ) → lo ≤ k → k < lo + (n + m) → HasResult program f (xs ++ ys) k
      results k from to =
          by_order k (lo + n)
          (λ low. result_wider program f k xs (xs ++ ys) (λ a c. Contains-append_left xs ys a c) (p.results_have k from low))
          (λ high. result_wider program f k ys (xs ++ ys) (λ a c. Contains-append_right xs ys a c) (q.results_have k (omega (arith, e, high)) (omega (arith, e, to))))
