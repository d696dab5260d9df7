use Rattle.frames.proofs.Turns as turns
use Rattle.frames.proofs.add_pair.Goals as goal

pub returns-then-v-lt-MOST_PAIRS : goal.returns-then-v-lt-MOST_PAIRS
returns-then-v-lt-MOST_PAIRS c = turns.paired-more _ c.requires c.if-used-gt0.true c.if-v-gt-MOST_ARGUMENTS.true

pub returns : goal.returns
returns c = turns.paired-new _ c.requires
