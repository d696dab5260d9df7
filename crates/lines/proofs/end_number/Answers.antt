use Rattle.buffers.proofs.Writing.{kept_same}
use Rattle.buffers.specs.Replies.{reply_says}
use mathlib.Core.Path.{sym, ◌∙◌}
use Rattle.lines.proofs.Laws.{missing-goes}
use Rattle.lines.proofs.end_number.Goals as goal

pub returns-then-is_missing : goal.returns-then-is_missing
returns-then-is_missing c = λ o key k.
    missing-goes key (reply_says c.args.reply) c.if-optional.true (sym c.is_missing.ensures ∙ c.if-is_missing.true)
    (c.end_missing.ensures o _ _ key k (kept_same _ _))
