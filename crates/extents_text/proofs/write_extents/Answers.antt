use mathlib.Core.Path.{◌∙◌, ap}
use Prim.Native.Nat.{ℕ, ◌+◌, min}
use lib.ListN.{length}
use Rattle.extents_text.specs.Lines.{extents_text}
use native.Mathlib.Nat.{zero-add}
use Rattle.buffers.proofs.Replies.{named-text}
use Rattle.extents_text.proofs.write_extents.Goals as goal

pub returns : goal.returns
returns c =
    let w = c.push_extents-end.ensures in
    (w.place ∙ ap (λ (k : ℕ). min k (length c.args.out.now + 1)) (zero-add (length (extents_text c.args.input.now))), (named-text w c.finish.ensures).buffer)
