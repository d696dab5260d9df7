use Rattle.answer_lines.proofs.number_line.Goals as goal

pub returns : goal.returns
returns c =
    let counted = c.reply_number-reply.ensures in
    (λ o key k. rw counted.0 at (c.end_number-step.ensures o key k), counted.1)
