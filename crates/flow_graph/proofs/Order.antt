-- The order of nodes.
--   cmp_suc        numbers compare as the ones after them do
--   node_total     the order of nodes is total
--   same_node      nodes of which none comes first are the same
--   before_before  a node before one that is before another is before that one
--   not_before_itself  no node is before itself
use Rattle.std.proofs.Common.{◌≡◌, ◌<◌, ℕ, suc, Option, Some, None, List, [], ◌∷◌, reverse, refl, ap, sym, ◌∙◌, arith}
use Rattle.std.specs.declared.cmp.Ordering.{Ordering}
use Rattle.std.specs.declared.cmp.Ordering.TheVariants.{Less, Equal, Greater}
use Rattle.std.specs.Cmp.{IsTotalOrder}
use Rattle.std.specs.Cmp.Lexicographic.{slice_cmp}
use Rattle.std.specs.Ordering.{nat_cmp, ordering_then, ordering_reverse}
use Rattle.std.proofs.lemmas.Cmp.{ranked, by_ranked, nat_cmp_total, nat_list_cmp_total, on_total, then_total, tied_itself}
use Rattle.std.proofs.lemmas.Bool.Decides.{nat_tests}
use Rattle.std.proofs.lemmas.List.{reverse-reverse}
use Rattle.flow_graph.specs.Nodes.{Node}
use Rattle.flow_graph.specs.Numbering.{block_rank, node_cmp, IsBefore}

-- numbers compare as the ones after them do
pub cmp_suc : (m n : ℕ) → nat_cmp (suc m) (suc n) ≡ nat_cmp m n
cmp_suc m n = grind (arith, nat_tests)

-- the order of nodes is total
pub node_total : IsTotalOrder node_cmp
node_total = then_total (on_total (λ (n : Node). reverse n.path) nat_list_cmp_total) (on_total (λ (n : Node). block_rank n.block) nat_cmp_total)

-- numbers of which neither is less are the same
same_nat : (m n : ℕ) → nat_cmp m n ≡ Equal → m ≡ n
same_nat m n e = by_ranked (m < n) (m ≡ n) (n < m) (nat_cmp m n) (ranked m n (nat_cmp m n) refl) (λ l h. absurd (cc)) (λ q h. h) (λ g h. absurd (cc))

then_same : (x y : ℕ) (xs ys : List ℕ) → (slice_cmp nat_cmp xs ys ≡ Equal → xs ≡ ys) → (o : Ordering) → o ≡ nat_cmp x y
    → ordering_then o (slice_cmp nat_cmp xs ys) ≡ Equal → x ∷ xs ≡ y ∷ ys
then_same x y xs ys rest_same Less h e = absurd (cc)
then_same x y xs ys rest_same Equal h e = let first = same_nat x y (sym h) in let rest = rest_same e in cc
then_same x y xs ys rest_same Greater h e = absurd (cc)

-- lists of which neither comes first are the same
same_list : (xs ys : List ℕ) → slice_cmp nat_cmp xs ys ≡ Equal → xs ≡ ys
same_list [] [] e = refl
same_list [] (y ∷ ys) e = absurd (cc)
same_list (x ∷ xs) [] e = absurd (cc)
same_list (x ∷ xs) (y ∷ ys) e = then_same x y xs ys (same_list xs ys) (nat_cmp x y) refl e

-- entries and blocks of one rank are the same
same_block : (a b : Option ℕ) → block_rank a ≡ block_rank b → a ≡ b
same_block None None e = refl
same_block None (Some b) e = absurd (omega arith)
same_block (Some a) None e = absurd (omega arith)
same_block (Some a) (Some b) e = ap (λ (n : ℕ). Some n) (omega arith)

abbrev made : List ℕ → Option ℕ → Node
made path block = record { path = path; block = block }

record_is : (m n : Node) → m.path ≡ n.path → m.block ≡ n.block → m ≡ n
record_is m n e f = ap (λ (path : List ℕ). made path m.block) e ∙ ap (λ (block : Option ℕ). made n.path block) f

-- nodes of which none comes first are the same
pub same_node : (m n : Node) → node_cmp m n ≡ Equal → m ≡ n
same_node m n e = by_paths (slice_cmp nat_cmp (reverse m.path) (reverse n.path)) refl e where
  by_paths : (o : Ordering) → o ≡ slice_cmp nat_cmp (reverse m.path) (reverse n.path)
      → ordering_then o (nat_cmp (block_rank m.block) (block_rank n.block)) ≡ Equal → m ≡ n
  by_paths Less h e = absurd (cc)
  by_paths Equal h e =
      let paths : m.path ≡ n.path = sym (reverse-reverse m.path) ∙ ap (λ (xs : List ℕ). reverse xs) (same_list (reverse m.path) (reverse n.path) (sym h)) ∙ reverse-reverse n.path in
      let blocks : m.block ≡ n.block = same_block m.block n.block (same_nat (block_rank m.block) (block_rank n.block) e) in
      record_is m n paths blocks
  by_paths Greater h e = absurd (cc)

-- a node before one that is before another is before that one
pub before_before : (a b c : Node) → IsBefore a b → IsBefore b c → IsBefore a c
before_before a b c h k = node_total.trans a b c h k

-- no node is before itself
pub not_before_itself : (a : Node) → IsBefore a a → ⊥
not_before_itself a h = let e = tied_itself node_total a in cc

-- what does not come first comes after
pub after_is : (a b : Node) → node_cmp a b ≡ Greater → IsBefore b a
after_is a b h = node_total.antisymm b a ∙ ap ordering_reverse h
