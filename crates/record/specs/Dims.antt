-- Numbers with a sign, and the dimensions of an array.
use Rattle.std.specs.Prelude.{cond, List, [], ◌++◌, ℕ, zero, suc, eqb, ℤ, pos, negsuc, ◌+ℤ◌}
use Rattle.std.proofs.Math.Option.{Option, none, some}
use Rattle.std.proofs.Math.ListN.{get_elem?}
use Rattle.buffers.specs.Texts.{Text, q, decimal}

-- A number with a sign in decimal.
unfoldable pub signed : ℤ → Text
signed (pos n) = decimal n
signed (negsuc n) = q "-" ++ decimal (suc n)

-- One dimension of an array (II.23.2.13, `parse_sig_type` at ELEMENT_TYPE_ARRAY), of a size and a lower bound that may each be there or not:
-- a lower bound other than 0 is written with `...`, and with a size the upper bound after it; else the size alone.
unfoldable pub dim : Option ℕ → Option ℤ → Text
dim none none = []
dim none (some (pos zero)) = []
dim none (some (pos (suc n))) = signed (pos (suc n)) ++ q "..."
dim none (some (negsuc n)) = signed (negsuc n) ++ q "..."
dim (some k) none = decimal k
dim (some k) (some (pos zero)) = decimal k
dim (some k) (some (pos (suc n))) = signed (pos (suc n)) ++ q "..." ++ signed (pos (suc n) +ℤ pos k +ℤ negsuc 0)
dim (some k) (some (negsuc n)) = signed (negsuc n) ++ q "..." ++ signed (negsuc n +ℤ pos k +ℤ negsuc 0)

-- A separator, but for number 0.
unfoldable pub sep : ℕ → Text → Text
sep i t = cond (eqb i 0) [] t

-- The dimensions i, i + 1, .., n of them, with a comma before each but dimension 0.
unfoldable pub dims : ℕ → ℕ → List ℕ → List ℤ → Text
dims zero i ks ls = []
dims (suc n) i ks ls =
    sep i (q ",") ++ dim (get_elem? ks i) (get_elem? ls i) ++ dims n (suc i) ks ls
