use Rattle.buffers.specs.Writes.{written}
use Rattle.buffers.proofs.Writing.{kept_same, said-missing}
use Rattle.record.specs.Types.{look, names, simple}
use Rattle.sig_leaves.proofs.Simple.{simple-none}
use Rattle.sig_leaves.proofs.push_simple.Goals as goal

pub returns-in-1 : goal.returns-in-1
unfolding simple names look
returns-in-1 c = rw c.in-1.is (written c.push.ensures)

pub returns-in-2 : goal.returns-in-2
unfolding simple names look
returns-in-2 c = rw c.in-2.is (written c.push-in-2.ensures)

pub returns-in-3 : goal.returns-in-3
unfolding simple names look
returns-in-3 c = rw c.in-3.is (written c.push-in-3.ensures)

pub returns-in-4 : goal.returns-in-4
unfolding simple names look
returns-in-4 c = rw c.in-4.is (written c.push-in-4.ensures)

pub returns-in-5 : goal.returns-in-5
unfolding simple names look
returns-in-5 c = rw c.in-5.is (written c.push-in-5.ensures)

pub returns-in-6 : goal.returns-in-6
unfolding simple names look
returns-in-6 c = rw c.in-6.is (written c.push-in-6.ensures)

pub returns-in-7 : goal.returns-in-7
unfolding simple names look
returns-in-7 c = rw c.in-7.is (written c.push-in-7.ensures)

pub returns-in-8 : goal.returns-in-8
unfolding simple names look
returns-in-8 c = rw c.in-8.is (written c.push-in-8.ensures)

pub returns-in-9 : goal.returns-in-9
unfolding simple names look
returns-in-9 c = rw c.in-9.is (written c.push-in-9.ensures)

pub returns-in-10 : goal.returns-in-10
unfolding simple names look
returns-in-10 c = rw c.in-10.is (written c.push-in-10.ensures)

pub returns-in-11 : goal.returns-in-11
unfolding simple names look
returns-in-11 c = rw c.in-11.is (written c.push-in-11.ensures)

pub returns-in-12 : goal.returns-in-12
unfolding simple names look
returns-in-12 c = rw c.in-12.is (written c.push-in-12.ensures)

pub returns-in-13 : goal.returns-in-13
unfolding simple names look
returns-in-13 c = rw c.in-13.is (written c.push-in-13.ensures)

pub returns-in-14 : goal.returns-in-14
unfolding simple names look
returns-in-14 c = rw c.in-14.is (written c.push-in-14.ensures)

pub returns-in-22 : goal.returns-in-22
unfolding simple names look
returns-in-22 c = rw c.in-22.is (written c.push-in-22.ensures)

pub returns-in-24 : goal.returns-in-24
unfolding simple names look
returns-in-24 c = rw c.in-24.is (written c.push-in-24.ensures)

pub returns-in-25 : goal.returns-in-25
unfolding simple names look
returns-in-25 c = rw c.in-25.is (written c.push-in-25.ensures)

pub returns-in-28 : goal.returns-in-28
unfolding simple names look
returns-in-28 c = rw c.in-28.is (written c.push-in-28.ensures)

pub returns-in_default : goal.returns-in_default
unfolding names
returns-in_default c = said-missing (simple-none _ c.in_default.in_default-own.rest) (kept_same _ _)
