use native.Mathlib.Omega.{arith}
use Rattle.references.proofs.Guid.{Holds, guid-is, guid-not}
use Rattle.references.proofs.typelib.guid_part.Goals as goal
use Rattle.references.proofs.typelib.guid_part.Goals.{then-value-lt3-via-then-value-lt3, then-value-lt3-via-else-value-lt3+then-value-ne1, then-value-lt3-via-else-value-lt3+else-value-ne1+then-value-ne0, then-n-eq0-via-then-n-eq0, then-n-eq0-via-else-n-eq0+then-n-ge-NULL_STRING, then-n-eq0-via-else-n-eq0+else-n-ge-NULL_STRING+then-value-n}
use borrow.Author.Rules.{rules}

pub returns-then-value-lt3 : goal.returns-then-value-lt3
returns-then-value-lt3 c = (
  omega arith,
  guid-not _
      (λ h.
      elim c.then-value-lt3.branch [
        | then-value-lt3-via-then-value-lt3 w ↦ omega (arith, h.room, w.if-value-lt3.true)
        | then-value-lt3-via-else-value-lt3+then-value-ne1 w ↦ w.if-value-ne1.true h.first
        | then-value-lt3-via-else-value-lt3+else-value-ne1+then-value-ne0 w ↦ w.if-value-ne0.true h.second
      ]),
)

pub overflow_cast-n : goal.overflow_cast-n
overflow_cast-n c = search rules

pub returns-then-n-eq0 : goal.returns-then-n-eq0
returns-then-n-eq0 c = (
  omega arith,
  guid-not _
      (λ h.
      elim c.then-n-eq0.branch [
        | then-n-eq0-via-then-n-eq0 w ↦ omega (arith, h.some_bytes, w.if-n-eq0.true)
        | then-n-eq0-via-else-n-eq0+then-n-ge-NULL_STRING w ↦ omega (arith, h.not_null, w.if-n-ge-NULL_STRING.true)
        | then-n-eq0-via-else-n-eq0+else-n-ge-NULL_STRING+then-value-n w ↦ omega (arith, h.room, w.if-value-n.true)
      ]),
)

pub returns : goal.returns
returns c =
    let h : Holds c.args.value.now = record {
      first = c.if-value-ne1.false;
      second = c.if-value-ne0.false;
      some_bytes = omega (arith, c.if-n-eq0.false);
      not_null = omega (arith, c.if-n-ge-NULL_STRING.false);
      room = omega (arith, c.if-value-n.false);
    } in
    (omega (arith, h.room), guid-is _ h)
