-- What is left to show of `collect_scope`.
use Rattle.std.proofs.Common.{◌≡◌, ◌<◌, ◌*◌, ◌+◌, ◌||◌, ◌&&◌, ◌==◌, Bool, ℕ, List, length, take, get_or, ap, sym, ◌∙◌, arith}
use Rattle.std.proofs.lemmas.List.{with_items_is}
use Rattle.recorder_rules.specs.BitWords.{is_marked}
use Rattle.pair_recorder.specs.declared.seen.Seen.{Seen}
use Rattle.pair_recorder.specs.Paths.{met, paired_in}
use Rattle.pair_recorder.proofs.Pathed.{below_at, met_more, paired_more, or_thrice}
use Rattle.pair_recorder.proofs.collecting.collect_scope.Goals as goal

pub meet_within-requires-clause-node : goal.meet_within-requires-clause-node
meet_within-requires-clause-node c = below_at c.args.count c.args.entries.now c.loop-seen.seen-index _ c.requires.entries (let inside = c.loop-seen-test.true in omega arith)

pub loop-seen-preserved : goal.loop-seen-preserved
loop-seen-preserved c =
    let path = c.args.entries.now in
    let i = c.loop-seen.seen-index in
    let t = c.args.scope in
    let none : Seen = record { node = 0; scope = 0 } in
    let e = get_or path i none in
    let low : i < length path = (let inside = c.loop-seen-test.true in omega arith) in
    let new = c.meet_within.new.marks in
    let now = with_items_is c.loop-seen.marks new (c.meet_within.auto.marks ∙ c.deref_mut.ensures.len) in
    let w = c.args.width in
    let dm = c.deref_mut.result.now in
    let len : length dm ≡ w = ap (λ (xs : List ℕ). length xs) c.deref_mut.ensures.value ∙ c.loop-seen.invariant.wide in
    let marked : (a : ℕ) → a < c.args.count → is_marked new 0 a ≡ met a t (take (i + 1) path) =
    λ a below. c.meet_within.ensures.marks a below
    ∙ ap (λ (x : Bool). x || ((a == e.node) && (t == e.scope))) (ap (λ (xs : List ℕ). is_marked xs 0 a) c.deref_mut.ensures.value ∙ c.loop-seen.invariant.marks a below)
    ∙ sym (met_more path i none low a t) in
    record {
      wide = ap (λ (xs : List ℕ). length xs) now ∙ c.meet_within.auto.marks ∙ len;
      marks = λ a below. ap (λ (xs : List ℕ). is_marked xs 0 a) now ∙ marked a below;
      rows = λ a b below within.
          ap (λ (v : ℕ). is_marked c.meet_within.new.rows (a * v) b) (sym len)
          ∙ c.meet_within.ensures.rows a b below within
          ∙ ap (λ (v : ℕ). is_marked c.loop-seen.rows (a * v) b || ((e.scope == t) && ((a == e.node) && is_marked new 0 b))) len
          ∙ ap (λ (x : Bool). x || ((e.scope == t) && ((a == e.node) && is_marked new 0 b))) (c.loop-seen.invariant.rows a b below within)
          ∙ ap (λ (x : Bool). (is_marked c.args.rows.now (a * w) b || paired_in (λ s. s == t) a b (take i path)) || ((e.scope == t) && ((a == e.node) && x))) (marked b within)
          ∙ or_thrice (is_marked c.args.rows.now (a * w) b) (paired_in (λ s. s == t) a b (take i path)) ((e.scope == t) && ((a == e.node) && met b t (take (i + 1) path)))
          ∙ ap (λ (x : Bool). is_marked c.args.rows.now (a * w) b || x) (sym (paired_more path i none low t a b));
    }
