use mathlib.Core.Path.{sym, ap, ◌∙◌}
use native.Mathlib.Omega.{arith}
use Rattle.heaps.specs.Lookups.{is_there}
use Rattle.names.proofs.Full.{ref-null, ref-past, ref-there}
use Rattle.names.proofs.has_ref_name.Goals as goal
use Rattle.names.proofs.has_ref_name.Goals.{then-r-eq0-via-then-r-eq0, then-r-eq0-via-else-r-eq0+then-count_rows-r}

pub returns-then-r-eq0 : goal.returns-then-r-eq0
returns-then-r-eq0 c = λ blob.
    elim c.then-r-eq0.branch [
      | then-r-eq0-via-then-r-eq0 w ↦ sym (ap is_there (ref-null c.requires _ blob _ w.if-r-eq0.true))
      | then-r-eq0-via-else-r-eq0+then-count_rows-r w ↦ sym (ap is_there (ref-past c.requires _ blob _ w.if-r-eq0.false (omega (arith, w.count_rows.ensures, w.if-count_rows-r.true))))
    ]

pub returns : goal.returns
returns c = λ blob.
    c.has_string.ensures ∙ ref-there c.requires _ blob _ c.if-r-eq0.false (omega (arith, c.count_rows.ensures))
