-- What a lattice states of its type.
--   Order T          which values may be joined, which is above which, and what a join answers
--   IsOrder T order  it is an order, and a join is above both sides

pub record Order (T : Type 0) : Type 1 where
  -- the two may be joined
  pub alike : T → T → Type 0
  -- the second is above the first: it tells at most as much
  pub under : T → T → Type 0
  -- what a join answers where memory is there
  pub joined : T → T → T

pub record IsOrder (T : Type 0) (order : Order T) : Type 0 where
  -- each value is above itself, and what is above a value above
  pub itself : (a : T) → order.under a a
  pub farther : (a b c : T) → order.under a b → order.under b c → order.under a c
  -- a join is above both sides
  pub left : (a b : T) → order.alike a b → order.under a (order.joined a b)
  pub right : (a b : T) → order.alike a b → order.under b (order.joined a b)
