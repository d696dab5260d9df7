use mathlib.Core.Path.{◌∙◌}
use Rattle.sig_leaves.proofs.Numbers.{start-end, start_plain, start-generic}
use Rattle.sig_leaves.proofs.read_method_start.Goals as goal

pub returns-then-sig-pos : goal.returns-then-sig-pos
returns-then-sig-pos c = start-end _ _ c.if-sig-pos.true

pub returns-then-flags-ne1 : goal.returns-then-flags-ne1
returns-then-flags-ne1 c = start_plain _ _ c.if-sig-pos.false c.if-flags-ne1.true c.read_up_to.result c.read_up_to.ensures

pub returns : goal.returns
returns c = c.at_most.ensures ∙ start-generic _ _ c.if-sig-pos.false c.if-flags-ne1.false c.read_next_number.result c.read_next_number.ensures
