use Rattle.std.proofs.Common.{arith}
use Rattle.tables.proofs.WalkLoop.{begin, ended, skipped, unknown, cut, fits, taken}
use Rattle.tables.proofs.walk_sized.Goals as goal
use Rattle.tables.proofs.walk_sized.Goals.{then-n-gt0+else-kind-ge-KNOWN+else-whole-n, else-n-gt0}
use Rattle.tables.proofs.walk_sized.Goals.{then-kind-ge64, else-kind-ge64+then-n-gt0+then-kind-ge-KNOWN, else-kind-ge64+then-n-gt0+else-kind-ge-KNOWN+then-whole-n}

pub loop-kind-init : goal.loop-kind-init
loop-kind-init g c = (c.requires.first_le_len, λ size e. begin _ _ _ _ c.requires.first_le_len)

pub loop-kind-preserved : goal.loop-kind-preserved
loop-kind-preserved g c =
    let i = c.loop-kind.invariant in
    elim c.if-n-gt0.branch [
      | then-n-gt0+else-kind-ge-KNOWN+else-whole-n w ↦
          let known = w.if-kind-ge-KNOWN.false in
          let gave = w.size_of-size.ensures in
          let whole = w.whole_rows-whole.ensures in
          let pos = c.requires.some _ _ known gave in
          rw (w.starts-is, w.sizes-is, w.rows-is, w.at-is) (
            omega (arith, i.0, fits whole pos w.if-whole-n.false),
            λ size e. taken _ _ _ _ _ _ _ _ _ (i.1 size e) c.if-kind-ge64.false w.if-n-gt0.true known _ _ (e _ _ known gave) whole pos w.if-whole-n.false,
          )
      | else-n-gt0 w ↦
          rw (w.starts-is, w.sizes-is, w.rows-is, w.at-is)
          (i.0, λ size e. skipped _ _ _ _ _ _ _ _ _ (i.1 size e) c.if-kind-ge64.false w.if-n-gt0.false)
    ]

pub returns : goal.returns
returns g c = λ size e.
    let i = c.loop-kind.invariant in
    elim c.if-kind-ge64.branch [
      | then-kind-ge64 w ↦ rw (w.stop-is, w.starts-is, w.sizes-is, w.rows-is) (ended _ _ _ _ _ _ _ _ _ (i.1 size e) w.if-kind-ge64.true)
      | else-kind-ge64+then-n-gt0+then-kind-ge-KNOWN w ↦
          rw (w.stop-is, w.starts-is, w.sizes-is, w.rows-is)
          (unknown _ _ _ _ _ _ _ _ _ (i.1 size e) w.if-kind-ge64.false w.if-n-gt0.true w.if-kind-ge-KNOWN.true)
      | else-kind-ge64+then-n-gt0+else-kind-ge-KNOWN+then-whole-n w ↦
          let known = w.if-kind-ge-KNOWN.false in
          let gave = w.size_of-size.ensures in
          rw (w.stop-is, w.starts-is, w.sizes-is, w.rows-is)
          (cut _ _ _ _ _ _ _ _ _ (i.1 size e) w.if-kind-ge64.false w.if-n-gt0.true known _ _ (e _ _ known gave) w.whole_rows-whole.ensures
          (c.requires.some _ _ known gave) w.if-whole-n.true)
    ]
