use Rattle.rows.specs.Layout.{cell}
use Rattle.keys.proofs.Buckets.{bucket-order, bucket-count}
use Rattle.keys.proofs.count_key.Goals as goal

pub overflow_sub-result : goal.overflow_sub-result
overflow_sub-result c =
    bucket-order (cell c.args.tables.now c.args.layout.now c.args.column) _ _ c.memory_of-memory.ensures c.count_rows-n.ensures c.bucket_of.ensures c.in-Some.is

pub returns-in-Some : goal.returns-in-Some
returns-in-Some c =
    bucket-count (cell c.args.tables.now c.args.layout.now c.args.column) _ _ c.memory_of-memory.ensures c.count_rows-n.ensures c.bucket_of.ensures c.in-Some.is
