use Rattle.std.proofs.Common.{arith}
use Rattle.heaps.proofs.Lookups.{find-within}
use Rattle.type_vectors.proofs.pieces.cut_piece.Goals as goal

pub overflow_add-end : goal.overflow_add-end
overflow_add-end c =
    let s = c.args.text.now in
    let close = find-within c.if-text-eq34.ends s 1 c.requires in
    omega (arith, close, find-within 32 s c.find_byte-close.result (omega (arith, close)))
