-- Laws of what a buffer holds. Assumes nothing.
use Rattle.std.proofs.Common.{◌≡◌, sym, ap, ◌∙◌, subst, ℕ, ◌+◌, Bool, true, false, List, ◌++◌, length, take, drop, IsTrue, ◌↔◌, MatchOption}
use Rattle.std.specs.Prelude.{Option, Some, None}
use Rattle.std.specs.Borrow.{Bor}
use Rattle.std.specs.List.{All}
use Rattle.std.specs.Cmp.Lexicographic.{pointwise}
use Rattle.std.proofs.Math.Dec.{eqb}
use Rattle.std.proofs.Math.Seq.{drop-append_seam}
use Rattle.std.proofs.lemmas.Bool.Decides.{Decides-eqb}
use Rattle.std.proofs.lemmas.Slice.Eq.{strip_prefix_is}
use Rattle.replaying.specs.Expected.{Holds}

-- What is left behind a text is one list.
one-rest : (t x y : List ℕ) → t ++ x ≡ t ++ y → x ≡ y
one-rest t x y e = sym (drop-append_seam t x) ∙ ap (drop (length t)) e ∙ drop-append_seam t y

-- A text was taken off the front of a buffer, or could not be; and what was left was looked at.
pub holds_is : (b t : List ℕ) (r : Option (Bor (List ℕ))) (a : Bool)
    → MatchOption r (pointwise eqb (take (length t) b) t ≡ false) (λ x. (pointwise eqb (take (length t) b) t ≡ true) × (x.now ≡ drop (length t) b) × (length x.now + length t ≡ length b))
    → MatchOption r (a ≡ false) (λ x. IsTrue a ↔ All (λ y. y ≡ 0) x.now) → IsTrue a ↔ Holds b t
holds_is b t None a p q = (λ h. absurd (cc), λ h. absurd (strip_prefix_is Decides-eqb b t None p h.rest h.begins))
holds_is b t (Some x) a p q =
    let begins = strip_prefix_is Decides-eqb b t (Some x) p in (
      λ h. record { rest = x.now; begins = begins; zeros = q.0 h },
      λ h. q.1 (subst (λ (l : List ℕ). All (λ y. y ≡ 0) l) (one-rest t h.rest x.now (sym h.begins ∙ begins)) h.zeros),
    )
