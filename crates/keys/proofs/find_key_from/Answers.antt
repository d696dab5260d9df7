use native.Mathlib.Omega.{arith}
use Rattle.rows.specs.Layout.{cell}
use Rattle.keys.proofs.Buckets.{bucket-order, bucket-inside, bucket-count, bucket-at}
use Rattle.keys.proofs.find_key_from.Goals as goal

pub overflow_sub-bucket : goal.overflow_sub-bucket
overflow_sub-bucket c =
    bucket-order (cell c.args.tables.now c.args.layout.now c.args.column) _ _ c.memory_of-memory.ensures c.count_rows-n.ensures c.bucket_of.ensures c.in-Some.is

pub returns-then-bucket-nth : goal.returns-then-bucket-nth
returns-then-bucket-nth c =
    let b = bucket-count (cell c.args.tables.now c.args.layout.now c.args.column) _ _ c.memory_of-memory.ensures c.count_rows-n.ensures c.bucket_of.ensures c.in-Some.is in
    omega (arith, b)

pub overflow_sub-memory : goal.overflow_sub-memory
overflow_sub-memory c =
    let b = bucket-inside (cell c.args.tables.now c.args.layout.now c.args.column) _ _ c.memory_of-memory.ensures c.count_rows-n.ensures c.bucket_of.ensures c.in-Some.is in
    omega (arith, b.1)

pub overflow_add-memory : goal.overflow_add-memory
overflow_add-memory c =
    let b = bucket-inside (cell c.args.tables.now c.args.layout.now c.args.column) _ _ c.memory_of-memory.ensures c.count_rows-n.ensures c.bucket_of.ensures c.in-Some.is in
    record { fits = omega (arith, b.0, b.1) }

pub offset_bounds-memory-memory : goal.offset_bounds-memory-memory
offset_bounds-memory-memory c =
    let b = bucket-inside (cell c.args.tables.now c.args.layout.now c.args.column) _ _ c.memory_of-memory.ensures c.count_rows-n.ensures c.bucket_of.ensures c.in-Some.is in
    record { fits = omega (arith, b.0, b.1) }

pub bounds-memory-memory : goal.bounds-memory-memory
bounds-memory-memory c =
    let b = bucket-inside (cell c.args.tables.now c.args.layout.now c.args.column) _ _ c.memory_of-memory.ensures c.count_rows-n.ensures c.bucket_of.ensures c.in-Some.is in
    omega (arith, b.0, b.1)

pub returns : goal.returns
returns c =
    let b = bucket-at (cell c.args.tables.now c.args.layout.now c.args.column) _ _ c.memory_of-memory.ensures c.count_rows-n.ensures c.bucket_of.ensures c.in-Some.is in
    b _ _ (omega arith) c.wide.ensures.0
