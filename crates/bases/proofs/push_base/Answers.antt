use mathlib.Core.Path.{ap}
use mathlib.Core.Option.{some-ne-none}
use Prim.Native.Nat.{◌+◌}
use native.Mathlib.Omega.{arith}
use Rattle.buffers.specs.Writes.{place_says}
use Rattle.rows.specs.Columns as columns
use Rattle.rows.proofs.Laws.{rows-narrow}
use Rattle.bases.proofs.Laws.{search-start, search-seen, search-more, search-on, search-found, search-over, search-past, candidates-most}
use Rattle.bases.proofs.push_base.Goals.{else-loop-i-test, then-loop-i-test+in_default}
use Rattle.bases.proofs.push_base.Goals as goal

pub loop-i-init : goal.loop-i-init
loop-i-init c =
    let from = c.bases_before-start.ensures in
    search-start _ c.requires.lt_row.0 (from.0 _ c.requires.knows_bases) from.1 c.wide-key.ensures.0 from.2

pub overflow_add-seen : goal.overflow_add-seen
overflow_add-seen c = record { fits = omega (arith, search-seen c.loop-i.invariant, c.loop-i-test.true, c.count_rows-n.ensures, rows-narrow c.requires.laid columns.impl_class (omega arith)) }

pub overflow_add-result : goal.overflow_add-result
overflow_add-result c = record { fits = omega (arith, search-seen c.loop-i.invariant, c.loop-i-test.true, c.count_rows-n.ensures, rows-narrow c.requires.laid columns.impl_class (omega arith)) }

pub returns-then-seen-nth : goal.returns-then-seen-nth
returns-then-seen-nth c =
    let found = search-found c.loop-i.invariant (c.in-Some.ensures _ _) c.wide-key.ensures.0 (omega (arith, c.if-seen-nth.true)) c.in-Some-push_type.ensures in
    (found.0, found.1, λ e. absurd (some-ne-none _ (ap place_says e)))

pub loop-i-preserved : goal.loop-i-preserved
loop-i-preserved c = search-more c.loop-i.invariant (c.in-Some.ensures _ _) (omega (arith, c.loop-i.invariant.few, c.if-seen-nth.false)) c.in-Some-push_type.ensures

pub loop-i-preserved-in_default-push_type : goal.loop-i-preserved-in_default-push_type
loop-i-preserved-in_default-push_type c = search-on c.loop-i.invariant (c.in-Some.ensures _ _) c.in_default-push_type.ensures

pub returns : goal.returns
returns c =
    let rows = c.count_rows-n.ensures in
    let most = candidates-most c.requires.laid c.args.strings.now c.args.blob.now _ c.requires.lt_row.0 in
    elim c.loop-i-test.branch [
      | else-loop-i-test w ↦
          let over = search-over c.loop-i.invariant {last = c.count_rows-n.result + 1} (omega (arith, rows, most)) c.wide-key.ensures.0
          (omega (arith, w.loop-i-test.false, rows, most)) in
          (over.0, over.1, λ _. over.2)
      | then-loop-i-test+in_default w ↦
          let over = search-past c.loop-i.invariant {last = c.count_rows-n.result + 1} (omega (arith, rows, most)) c.wide-key.ensures.0 (w.in_default.ensures _ _) in
          (over.0, over.1, λ _. over.2)
    ]
