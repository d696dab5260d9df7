use Rattle.section_text.proofs.Output.{offsets-none, offsets-more, offsets-past}
use Rattle.section_text.proofs.push_offsets.Goals as goal

pub returns-then-out-at : goal.returns-then-out-at
returns-then-out-at c = offsets-past _ _ _ c.if-out-at.true

pub loop-offset-init : goal.loop-offset-init
loop-offset-init c = offsets-none _ _ c.args.offsets.now c.if-out-at.false

pub loop-offset-preserved : goal.loop-offset-preserved
loop-offset-preserved c = offsets-more _ c.loop-offset-test.true c.loop-offset.invariant c.push_offset-next.ensures
