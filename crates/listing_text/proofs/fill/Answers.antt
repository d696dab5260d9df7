use mathlib.Core.Path.{sym, ◌∙◌, ap}
use Prim.Native.Nat.{ℕ}
use lib.ListN.{replicate}
use Rattle.opening.proofs.Laws.{opened-laid, opened_view}
use Rattle.marks.proofs.Laws.{marked-view}
use Rattle.listing_text.proofs.fill.Goals as goal

pub mark_methods-requires : goal.mark_methods-requires
mark_methods-requires c = opened-laid c.open.ensures c.in-Ok.is

pub fill_held-s-requires : goal.fill_held-s-requires
fill_held-s-requires c =
    let m = c.mark_methods.ensures in
    let opened = c.open.ensures in
    record { laid = m.laid; by_index = λ s b. marked-view m s b ∙ opened_view opened c.in-Ok.is s b }

pub returns-in-Err : goal.returns-in-Err
returns-in-Err c =
    let opened = c.open.ensures in (
      c.end_piece.ensures _ _ (c.fill_refused-s.ensures _ _ _ _ (sym opened.answer ∙ c.in-Err.is)),
      c.clear_words.ensures,
    )

pub returns-in-Ok : goal.returns-in-Ok
returns-in-Ok c = (
  c.end_piece-in-Ok.ensures _ _ c.fill_held-s.ensures,
  c.clear_words-in-Ok.ensures ∙ ap (λ (n : ℕ). replicate n 0) c.fill_held-s.auto.work,
)
