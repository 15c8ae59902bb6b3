-- Laws of distinct.
use Rattle.std.proofs.Common.{◌≡◌, ℕ, List, true, bytes_eq, refl}
use Rattle.std.proofs.lemmas.Slice.Eq.{bytes_eq-Decides}

pub same_text : (a : List ℕ) → bytes_eq a a ≡ true
same_text a = (bytes_eq-Decides a a).1 refl
