use borrow.Author.Tests.{le-leb, lt-leb}
use mathlib.Core.Path.{refl, ◌∙◌}
use mathlib.Core.Bool.{false}
use Rattle.layouts.specs.Columns.{has_custom_attribute}
use Rattle.layouts.proofs.Sizes.{sized, many, few}
use Rattle.layouts.proofs.has_custom_attribute_size.Goals as goal
use Rattle.layouts.proofs.has_custom_attribute_size.Goals.{else-decl_security-via-then-decl_security+else-counts-ge2048, else-decl_security-via-else-decl_security}

pub returns-then-counts-ge2048 : goal.returns-then-counts-ge2048
returns-then-counts-ge2048 c = many _ _ c.if-decl_security.true (le-leb _ _ c.if-counts-ge2048.true)

pub returns : goal.returns
unfolding has_custom_attribute
returns c =
    let a = c.args in
    sized _ 5 _ (has_custom_attribute false) c.coded_index_size.ensures tt tt
    ∙ elim c.else-decl_security.branch [
      | else-decl_security-via-then-decl_security+else-counts-ge2048 w ↦ few a.counts.now a.decl_security (lt-leb _ _ w.if-counts-ge2048.false)
      | else-decl_security-via-else-decl_security w ↦ rw w.if-decl_security.false refl
    ]
