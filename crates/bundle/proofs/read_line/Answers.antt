use Rattle.std.proofs.Common.{◌∙◌, arith, rules}
use Rattle.bundle.proofs.Input.{key-room, line-key, line-none}
use Rattle.bundle.proofs.read_line.Goals as goal

pub returns-then-ne : goal.returns-then-ne
returns-then-ne c = (line-none _ _ _ c.cut.ensures.bytes (search rules), tt)

pub overflow_add-at : goal.overflow_add-at
overflow_add-at c =
    let a = c.args in omega (arith, key-room a.s.now a.at a.key.now c.cut.ensures.bytes (search rules))

pub returns : goal.returns
returns c = (c.read_number.ensures.0 ∙ line-key _ _ _ c.cut.ensures.bytes (search rules), c.read_number.ensures.1)
