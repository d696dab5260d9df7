use mathlib.Core.Path.{sym}
use Rattle.record.specs.Allowance.{method_work}
use Rattle.rows.specs.Layout.{view_in}
use Rattle.charges.proofs.Laws.{few-fit, over-it}
use Rattle.charges.proofs.method_over.Goals as goal

pub returns-then-not-surely_fits_of : goal.returns-then-not-surely_fits_of
returns-then-not-surely_fits_of c =
    let a = c.args in
    let at = c.place_method-placed.ensures a.strings.now a.blob.now c.requires.owns in
    over-it _ (c.pass_readings_of.ensures _ at.0) _ c.is_none.ensures

pub returns-else-not-surely_fits_of : goal.returns-else-not-surely_fits_of
returns-else-not-surely_fits_of c =
    let a = c.args in
    let v = view_in a.tables.now a.layout.now a.strings.now a.blob.now in
    let at = c.place_method-placed.ensures a.strings.now a.blob.now c.requires.owns in
    let fits = c.if-not-surely_fits_of.false in
    rw fits (sym (few-fit (method_work v a.class.0 a.m) (c.surely_fits_of.ensures a.strings.now _ _ at.0 fits)))
