-- The two halves of demand 3. Assumes nothing.
use mathlib.Core.Path.{◌≡◌, sym, ap, subst, ◌∙◌}
use Rattle.record.specs.View.{View, view}
use Rattle.record.specs.Record.{class_record}
use Rattle.record.specs.References.{references}
use Rattle.buffers.specs.Replies.{Named}
use Rattle.buffers.proofs.Replies.{reply-same, named-same}
use Rattle.record.specs.Answers.{walk_answer}
use Rattle.record.specs.Allowance.{number_charged, name_charged}
use Rattle.record.specs.Demand.{Survives, RearrangementSurvives, ThreeStillAllowed, SwapShows}
use Rattle.record.proofs.Rearrangement.{view-same, three-allowed}
use Rattle.record.proofs.Swap

-- Equal views survive.
pub survives : (v w : View) → w ≡ v → Survives v w
survives v w e =
    record {
      record_same = ap class_record e;
      references-same = ap references e;
      walk_same = ap walk_answer e;
      numbers-same = λ call allowance r r' left left' x y. (
        reply-same r' r (y.says ∙ ap (λ u. (number_charged call u allowance).answer) e ∙ sym x.says),
        y.leaves ∙ ap (λ u. (number_charged call u allowance).left) e ∙ sym x.leaves,
      );
      names_same = λ call allowance before before' after after' r r' left left' l x y.
          let named = subst (λ u. Named (name_charged call u allowance).answer before' r' after') e y.named in
          let same = named-same l x.named named in
          (same.0, same.1, y.leaves ∙ ap (λ u. (name_charged call u allowance).left) e ∙ sym x.leaves);
      all-else-same = λ answer. ap answer e;
    }

pub rearrangement-survives : RearrangementSurvives
rearrangement-survives o t u strings blob r =
    let e = view-same o t u strings blob r in
    (e, survives (view o t strings blob) (view o u strings blob) e)

pub three-still-allowed : ThreeStillAllowed
three-still-allowed = three-allowed

pub swap-shows : SwapShows
swap-shows = Swap.swap-shows
