use Rattle.std.proofs.Common.{◌≡◌, arith, rules}
use Rattle.numbers.specs.Reading.{some_at}
use Rattle.numbers.specs.Compressed.{uint}
use Rattle.numbers.proofs.Compressed.{uint-ends}
use Rattle.heaps.proofs.get_blob.Goals as goal

pub overflow_add-start : goal.overflow_add-start
overflow_add-start c =
    let read : some_at c.in_ok-n.n c.in_ok-n.start ≡ uint c.args.blobs.now c.args.index = search rules in
    omega (arith, uint-ends _ _ read)
