-- The two ways of every call: a stream that is refused answers with its refusal and leaves the allowance, and one that is opened answers
-- with what its layout says. Every public call cites these. Assumes nothing.
use mathlib.Core.Path.{◌≡◌, sym, ap, subst, ◌∙◌}
use mathlib.Core.List.{List}
use Prim.Native.Nat.{ℕ}
use Rattle.buffers.specs.Replies.{Reply, refused_by, Named}
use Rattle.buffers.specs.declared.Refusal.{Refusal}
use Rattle.header.specs.declared.Options.{Options}
use Rattle.record.specs.View.{View, view, view_of}
use Rattle.record.specs.Answers.{NumberCall, NameCall}
use Rattle.record.specs.Allowance.{number_charged, name_charged, NumberedCharged, NamedCharged}
use Rattle.record.proofs.Allowance.{number-unopened, name-unopened}
use Rattle.rows.specs.Layout.{view_in}
use Rattle.opening.specs.Opening.{OpenedAs}
use Rattle.opening.proofs.Laws.{opened_view}
use Rattle.std.specs.Prelude.{Ok, Err}
use Rattle.header.specs.Stream.{Opened}

module _ (strings blob : List ℕ) {o : Options} {t : List ℕ} {a : Opened} {l : List ℕ} (c : OpenedAs o t a l) where
  abbrev v : View
  v = view o t strings blob

  module _ {why : Refusal} (e : a ≡ Err why) where
    pub number-refused : (call : NumberCall) (allowance : ℕ) → NumberedCharged (number_charged call v allowance) (Err why) allowance
    unfolding view_of
    number-refused call allowance =
        let same = sym (number-unopened v (sym c.answer ∙ e) call allowance) in
        record { says = ap (λ x. x.answer) same; leaves = ap (λ x. x.left) same }

    pub name-refused : (call : NameCall) (allowance : ℕ) {b b' : List ℕ} {r : Reply} → Named (refused_by why) b r b'
        → NamedCharged (name_charged call v allowance) b r b' allowance
    unfolding view_of
    name-refused call allowance {b} {b'} {r} n =
        let same = sym (name-unopened v (sym c.answer ∙ e) call allowance) in
        record { named = subst (λ x. Named x.answer b r b') same n; leaves = ap (λ x. x.left) same }

  module _ (e : a ≡ (Ok tt)) where
    pub number-ready : (call : NumberCall) (allowance : ℕ) {r : Reply} {left : ℕ}
        → NumberedCharged (number_charged call (view_in t l strings blob) allowance) r left → NumberedCharged (number_charged call v allowance) r left
    number-ready call allowance {r} {left} n =
        subst (λ w. NumberedCharged (number_charged call w allowance) r left) (opened_view c e strings blob) n

    pub name-ready : (call : NameCall) (allowance : ℕ) {b b' : List ℕ} {r : Reply} {left : ℕ}
        → NamedCharged (name_charged call (view_in t l strings blob) allowance) b r b' left → NamedCharged (name_charged call v allowance) b r b' left
    name-ready call allowance {b} {b'} {r} {left} n =
        subst (λ w. NamedCharged (name_charged call w allowance) b r b' left) (opened_view c e strings blob) n
