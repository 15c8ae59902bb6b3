-- What is left to show of `path_bits`.
use Rattle.std.proofs.Common.{◌≡◌, ◌+◌, ◌-◌, ◌*◌, ◌==◌, ◌||◌, ◌++◌, ℕ, Bool, List, take, drop, replicate, length, subst, sym, ap, ◌∙◌, arith}
use Rattle.std.specs.Vec.{with_items}
use Rattle.std.specs.List.{list_any}
use Rattle.std.proofs.lemmas.List.{with_items_is, length-append, take-replicate, drop-replicate}
use Rattle.recorder_rules.specs.BitWords.{words_for, is_marked}
use Rattle.recorder_rules.specs.StepBitLaws.{none_marked}
use Rattle.pair_recorder.specs.Paths.{entered, paired_in, AreWithin}
use Rattle.pair_recorder.proofs.Handed.{sightings_same}
use Rattle.pair_recorder.proofs.Parted.{front_of, back_of}
use Rattle.pair_recorder.proofs.ScopesIn.{within_scopes}
use Rattle.pair_recorder.proofs.PathSteps.{marked_path}
use Rattle.pair_recorder.proofs.path.path_bits.Goals as goal

pub returns-clause-bits : goal.returns-clause-bits
returns-clause-bits c =
    let n = c.args.count in
    let path = c.args.path.now in
    let w = c.words-width.result in
    let width = c.words-width.ensures in
    let x = c.mark_nodes.new.marks in
    let y = c.collect_scopes.new.rows in
    let halves = c.split_at_mut-seen in
    let all_made : c.deref_mut.result.now ≡ replicate (w + n * w) 0 = c.deref_mut.ensures.value ∙ c.in_ok-bits.ensures.items_if_clones_equal (λ y e. e) in
    let made : halves.result.0.now ≡ replicate w 0 = halves.ensures.front ∙ ap (λ (xs : List ℕ). take w xs) all_made ∙ take-replicate w (w + n * w) 0 (omega arith) in
    let made_rows : halves.result.1.now ≡ replicate (n * w) 0 =
    halves.ensures.back ∙ ap (λ (xs : List ℕ). drop w xs) all_made ∙ drop-replicate w (w + n * w) 0 ∙ ap (λ (m : ℕ). replicate m 0) (let e : w + n * w - w ≡ n * w = omega arith in e) in
    let first : length x ≡ words_for n = c.mark_nodes.auto.marks ∙ halves.ensures.front_len ∙ width in
    let all : length x + length y ≡ length c.deref_mut.result.now =
    (let e = c.mark_nodes.auto.marks in let f = c.collect_scopes.auto.rows in let g = halves.ensures.front_len in let h = halves.ensures.back_len in omega arith) in
    let kept = with_items_is c.in_ok-bits.bits (x ++ y) (length-append x y ∙ all ∙ c.deref_mut.ensures.len) in
    sightings_same n (front_of (words_for n) (with_items c.in_ok-bits.bits (x ++ y)).items x y kept first) (back_of (words_for n) (with_items c.in_ok-bits.bits (x ++ y)).items x y kept first)
    ∙ marked_path n path c.in_ok-scopes.scopes.items x y
    (λ a low. c.mark_nodes.ensures a low ∙ ap (λ (t : Bool). t || entered a path) (none_marked halves.result.0.now w made 0 a))
    (λ a b low inside. ap (λ (v : ℕ). is_marked y (a * v) b) (sym width)
    ∙ c.in_ok-collect_scopes.ensures a b low inside
    ∙ ap (λ (t : Bool). t || list_any (λ s. paired_in (λ t. t == s) a b path) c.deref.result.now) (none_marked halves.result.1.now (n * w) made_rows (a * w) b)
    ∙ ap (λ (xs : List ℕ). list_any (λ s. paired_in (λ t. t == s) a b path) xs) c.deref.ensures.value)
    (subst (λ (ss : List ℕ). AreWithin path ss) (sym c.in_ok-scopes.ensures) (within_scopes path))
