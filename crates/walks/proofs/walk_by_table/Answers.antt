use mathlib.Core.Path.{refl, ap, ◌∙◌}
use native.Mathlib.Omega.{arith}
use Rattle.header.specs.Stream.{Opening}
use Rattle.header.proofs.Cases.{first-within}
use Rattle.tables.proofs.Outcome.{is-refused, is-walked}
use Rattle.walks.proofs.ByTable.{coded-few, block-some, block-walks}
use Rattle.walks.proofs.walk_by_table.Goals as goal

pub row_block-block-requires : goal.row_block-block-requires
row_block-block-requires c = coded-few _ _ c.coded_setting.ensures

pub walk_block-requires : goal.walk_block-requires
walk_block-requires c =
    let opens = c.in-Ok.ensures in
    let setting = c.from-setting.ensures in
    record {
      first_le_len = (omega (arith, ap (λ (h : Opening). h.first) opens, first-within c.args.options c.args.tables.now), omega (arith, setting));
      by_index = block-some _ _ opens c.if-options-gt-TABLE_LIMIT.false setting c.row_block-block.ensures c.coded_setting.ensures;
    }

pub returns-in-Err : goal.returns-in-Err
returns-in-Err c = c.refused_extents.ensures ∙ is-refused _ _ _ _ c.in-Err.ensures refl

pub returns-in-Ok : goal.returns-in-Ok
returns-in-Ok c =
    let opens = c.in-Ok.ensures in
    c.walk_block.ensures
    ∙ block-walks _ _ opens c.if-options-gt-TABLE_LIMIT.false c.from-setting.ensures c.row_block-block.ensures c.coded_setting.ensures _
    ∙ is-walked _ _ _ opens refl
