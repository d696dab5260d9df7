-- A call for C that hands on the reply of the library's call, opened with the options that its bits mean, answers as that call does.
-- Assumes nothing.
use mathlib.Core.Path.{◌≡◌, ap, subst, ◌∙◌}
use mathlib.Core.List.{List}
use Prim.Native.Nat.{ℕ}
use Rattle.buffers.specs.Texts.{Text}
use Rattle.buffers.specs.Replies.{Reply, Answer, reply_says, Named}
use Rattle.header.specs.declared.Options.{Options}
use Rattle.record.specs.View.{View, view}
use Rattle.record.specs.Answers.{Numbered}
use Rattle.record.specs.Allowance.{Charged, NumberedCharged, NamedCharged}
use Rattle.c_replies.specs.Told.{told, ToldName, ToldNumberCharged, ToldNameCharged}
use Rattle.c_replies.specs.declared.DnReply.{DnReply}

module _ {o p : Options} (opened : o ≡ p) (t strings blob : List ℕ) (r : Reply) {d : DnReply} (handed : d ≡ told (reply_says r)) where
  pub told-number : (answer : View → Answer ℕ) → Numbered (answer (view o t strings blob)) r → d ≡ told (answer (view p t strings blob))
  told-number answer n = handed ∙ ap told (n ∙ ap (λ (o : Options). answer (view o t strings blob)) opened)

  pub told-name : (answer : View → Answer Text) {b b' : List ℕ} → Named (answer (view o t strings blob)) b r b'
      → ToldName (answer (view p t strings blob)) b d b'
  told-name answer {b} {b'} n =
      let m = subst (λ (o : Options). Named (answer (view o t strings blob)) b r b') opened n in
      record { reply = handed ∙ ap told m.reply; buffer = m.buffer }

-- The same of a call that counts. The lent steps hold what that call leaves.
module _ {o p : Options} (opened : o ≡ p) (t strings blob : List ℕ) {r : Reply} {left held : ℕ} {d : DnReply}
    (handed : (d ≡ told (reply_says r)) × (held ≡ left)) where
  pub told-number-charged : (answer : View → Charged ℕ) → NumberedCharged (answer (view o t strings blob)) r left
      → ToldNumberCharged (answer (view p t strings blob)) d held
  told-number-charged answer n =
      let m = subst (λ (o : Options). NumberedCharged (answer (view o t strings blob)) r left) opened n in
      record { reply = handed.0 ∙ ap told m.says; leaves = handed.1 ∙ m.leaves }

  pub told-name-charged : (answer : View → Charged Text) {b b' : List ℕ} → NamedCharged (answer (view o t strings blob)) b r b' left
      → ToldNameCharged (answer (view p t strings blob)) b d b' held
  told-name-charged answer {b} {b'} n =
      let m = subst (λ (o : Options). NamedCharged (answer (view o t strings blob)) b r b' left) opened n in
      record { name = record { reply = handed.0 ∙ ap told m.named.reply; buffer = m.named.buffer }; leaves = handed.1 ∙ m.leaves }
