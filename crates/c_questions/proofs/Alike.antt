-- What the calls for C promise is a function of the view, and so is the same of rearranged streams. Assumes nothing.
use mathlib.Core.Path.{◌≡◌, sym, ap, ap₂, ◌∙◌}
use mathlib.Core.List.{List}
use Prim.Native.Nat.{ℕ}
use lib.ListN.{length}
use Rattle.buffers.specs.Texts.{Text}
use Rattle.buffers.specs.Replies.{Answer, name_reply, name_buffer}
use Rattle.tables.specs.Extents.{Walked, walk_of}
use Rattle.record.specs.Answers.{walk_answer, number_answer, name_answer}
use Rattle.record.proofs.Laws.{walk_is}
use Rattle.record.proofs.Demand.{rearrangement-survives}
use Rattle.c_replies.specs.Told.{told, ToldName, told_extent}
use Rattle.c_questions.specs.Asked.{asked_number, asked_name}
use Rattle.c_questions.specs.Alike.{CallsAlike}
use Rattle.c_replies.specs.declared.DnReply.{DnReply}

-- Two calls for one name, with buffers of one length.
told_same : {a a' : Answer Text} {b b' c c' : List ℕ} {r r' : DnReply}
    → a' ≡ a → length b' ≡ length b → ToldName a b r c → ToldName a' b' r' c' → (r' ≡ r) × (c' ≡ c)
told_same e l x y =
    (y.reply ∙ ap told (ap₂ name_reply e l) ∙ sym x.reply, y.buffer ∙ ap₂ name_buffer e l ∙ sym x.buffer)

pub calls-alike : CallsAlike
calls-alike o t u strings blob r =
    let same = (rearrangement-survives o t u strings blob r).1 in
    let walk : walk_of o u ≡ walk_of o t =
    sym (walk_is o u strings blob) ∙ same.all-else-same walk_answer ∙ walk_is o t strings blob in
    record {
      stop-same = ap (λ (w : Walked). told w.stop) walk;
      extents-same = λ kind. ap (λ (w : Walked). told_extent w kind) walk;
      numbers-same = λ call allowance d d' left left' x y.
          let one = same.all-else-same (λ v. asked_number call v allowance) in
          (y.reply ∙ ap (λ a. told a.answer) one ∙ sym x.reply, y.leaves ∙ ap (λ a. a.left) one ∙ sym x.leaves);
      names_same = λ call allowance before before' after after' d d' left left' l x y.
          let one = same.all-else-same (λ v. asked_name call v allowance) in
          let told = told_same (ap (λ a. a.answer) one) l x.name y.name in
          (told.0, told.1, y.leaves ∙ ap (λ a. a.left) one ∙ sym x.leaves);
      plain-numbers-same = λ call. same.all-else-same (λ v. told (number_answer call v));
      plain-names-same = λ call before before' after after' d d'. told_same (same.all-else-same (name_answer call));
    }
