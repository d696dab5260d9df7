use mathlib.Core.Path.{refl, sym, ◌∙◌}
use native.Mathlib.Omega.{arith}
use Rattle.numbers.proofs.Parts.{cut-is}
use Rattle.heaps.proofs.Lookups.{string-within}
use Rattle.buffers.proofs.Writing.{kept_same, said-missing}
use Rattle.rows.proofs.Laws.{same_rows}
use Rattle.rows.proofs.Left.{err_left}
use Rattle.names.proofs.Leaves.{cut-part}
use Rattle.names.proofs.Full.{ref-null, ref-past, ref-bare, said-ref}
use Rattle.rows.specs.Columns as columns
use Rattle.names.proofs.push_ref_name.Goals as goal
use Rattle.names.proofs.push_ref_name.Goals.{then-r-eq0-via-then-r-eq0, then-r-eq0-via-else-r-eq0+then-count_rows-r}

pub returns-then-r-eq0 : goal.returns-then-r-eq0
returns-then-r-eq0 c = λ blob.
    elim c.then-r-eq0.branch [
      | then-r-eq0-via-then-r-eq0 w ↦ said-missing (ref-null c.requires _ blob _ w.if-r-eq0.true) (kept_same _ _)
      | then-r-eq0-via-else-r-eq0+then-count_rows-r w ↦ said-missing (ref-past c.requires _ blob _ w.if-r-eq0.false (omega (arith, w.count_rows.ensures, w.if-count_rows-r.true))) (kept_same _ _)
    ]

pub name_length-short-requires : goal.name_length-short-requires
name_length-short-requires c = string-within _ _ (sym c.in-Ok.is ∙ c.read_string.ensures)

pub push_ref_namespace-next-requires : goal.push_ref_namespace-next-requires
push_ref_namespace-next-requires c = record { laid = c.requires; i_bound = omega (arith, c.count_rows.ensures, same_rows c.requires columns.ref_name columns.ref_namespace (omega arith) (omega arith) refl) }

pub returns : goal.returns
returns c = λ blob.
    let short = cut-part _ _ _ _ (string-within _ _ (sym c.in-Ok.is ∙ c.read_string.ensures)) c.name_length-short.ensures in
    said-ref c.requires _ blob _ c.if-r-eq0.false (omega (arith, c.count_rows.ensures)) c.read_string.ensures c.in-Ok.is
    c.name_length-short.ensures c.push_ref_namespace-next.ensures (cut-is _ _ _ _ short.1 c.cut-text.ensures).bytes c.push.ensures

pub returns-in_default : goal.returns-in_default
returns-in_default c = λ blob.
    said-missing (ref-bare c.requires _ blob _ c.if-r-eq0.false (omega (arith, c.count_rows.ensures)) c.read_string.ensures (err_left c.in_default.not-Ok).1) (kept_same _ _)
