use mathlib.Core.Path.{◌≡◌, subst}
use Prim.Native.Nat.{ℕ, ◌+◌, ◌-◌, ◌<◌}
use native.Mathlib.Omega.{arith}
use Rattle.classes.specs.Numbering.{place_of}
use Rattle.rows.specs.Columns as columns
use Rattle.rows.specs.Layout.{rows_at, view_in}
use Rattle.rows.proofs.Laws.{rows-narrow}
use Rattle.record.specs.Methods.{readers_from}
use Rattle.method_signatures.proofs.Laws.{Standing, stand-from, turn-skip, turn-next, read-met, read-last, read-nobody}
use Rattle.method_signatures.proofs.next_reader.Goals as goal

pub overflow_add-first : goal.overflow_add-first
overflow_add-first c = record { fits = omega (arith, c.requires.m_bound, rows-narrow c.requires.laid columns.method_signature (omega arith)) }

pub loop-place-init : goal.loop-place-init
loop-place-init c =
    let a = c.args in
    let at = c.place_of-place.ensures in
    let one : a.from.0 ≡ place_of a.from - 1 = omega arith in (
      omega (arith, at),
      λ h. absurd (omega arith),
      λ h. absurd (omega arith),
      λ strings blob. rw at (subst (λ (i : ℕ). Standing (view_in a.tables.now a.layout.now strings blob) a.m
          (readers_from (view_in a.tables.now a.layout.now strings blob) a.m a.from.0) i a.from.0 (a.m + 1)) one
          (stand-from (view_in a.tables.now a.layout.now strings blob) a.m a.from.0 a.from.0)),
    )

pub class_at-next-requires : goal.class_at-next-requires
class_at-next-requires c =
    let l = c.loop-place in
    (omega (arith, l.invariant.0), omega (arith, c.loop-place-test.true, c.count_rows-n.ensures, rows-narrow c.requires.laid columns.method_list (omega arith)))

pub returns-then-has_method : goal.returns-then-has_method
returns-then-has_method c =
    let l = c.loop-place in
    let low : l.place < rows_at c.args.layout.now columns.method_list = omega (arith, c.loop-place-test.true, c.count_rows-n.ensures) in
    λ strings blob.
    read-met c.requires.laid strings blob c.args.m c.args.from.0 l.class l.first l.place (l.invariant.3 strings blob)
    l.invariant.1 low c.read_column-column.ensures c.if-column-ne0.true c.has_method.ensures c.if-has_method.true (omega (arith, l.invariant.0))
    c.class_at-next.ensures

pub loop-place-preserved-then-column-ne0 : goal.loop-place-preserved-then-column-ne0
loop-place-preserved-then-column-ne0 c =
    let l = c.loop-place in
    let low : l.place < rows_at c.args.layout.now columns.method_list = omega (arith, c.loop-place-test.true, c.count_rows-n.ensures) in (
      omega (arith, l.invariant.0),
      λ _. omega (arith, l.invariant.0),
      λ _. omega (arith, low),
      λ strings blob. turn-next c.requires.laid strings blob c.args.m (omega (arith, l.invariant.0)) low c.read_column-column.ensures _ _ _ (l.invariant.3 strings blob)
          c.if-column-ne0.true c.has_method.ensures c.if-has_method.false c.class_at-next.ensures,
    )

pub loop-place-preserved : goal.loop-place-preserved
loop-place-preserved c =
    let l = c.loop-place in
    let low : l.place < rows_at c.args.layout.now columns.method_list = omega (arith, c.loop-place-test.true, c.count_rows-n.ensures) in (
      omega (arith, l.invariant.0),
      λ _. omega (arith, l.invariant.0),
      λ _. omega (arith, low),
      λ strings blob. turn-skip c.requires.laid strings blob c.args.m (omega (arith, l.invariant.0)) low c.read_column-column.ensures _ _ _ (l.invariant.3 strings blob)
          c.if-column-ne0.false,
    )

pub class_at-requires : goal.class_at-requires
class_at-requires c =
    let l = c.loop-place in
    (omega (arith, l.invariant.0), omega (arith, l.invariant.2 c.if-first-m.true, rows-narrow c.requires.laid columns.method_list (omega arith)))

pub returns-then-first-m : goal.returns-then-first-m
returns-then-first-m c =
    let l = c.loop-place in
    let all : l.place ≡ rows_at c.args.layout.now columns.method_list =
    omega (arith, l.invariant.2 c.if-first-m.true, c.loop-place-test.false, c.count_rows-n.ensures) in
    λ strings blob.
    read-last c.requires.laid strings blob c.args.m c.args.from.0 l.class l.first l.place (l.invariant.3 strings blob)
    c.requires.m_bound c.if-first-m.true (l.invariant.1 c.if-first-m.true) all c.class_at.ensures

pub returns : goal.returns
returns c =
    let l = c.loop-place in
    λ strings blob.
    read-nobody c.requires.laid strings blob c.args.m c.args.from.0 l.class l.first l.place (l.invariant.3 strings blob) (omega (arith, c.if-first-m.false))
    (omega (arith, c.loop-place-test.false, c.count_rows-n.ensures))
