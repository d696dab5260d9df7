use mathlib.Core.Path.{◌≡◌, refl}
use Rattle.std.proofs.Common.{Err, rules}
use Rattle.buffers.specs.declared.Unnamed.TheVariants.{Missing, NoRow}
use native.Mathlib.Omega.{arith}
use Rattle.buffers.proofs.Telling.{told_same, told-name, told-missing, told-no-row}
use Rattle.lines.proofs.Ceiling.{listed-within}
use Rattle.lines.proofs.Ending.{line-of-name, line-of-missing, line-of-none}
use Rattle.answer_lines.proofs.Laws.{goes_on, goes-past}
use Rattle.answer_lines.proofs.name_line.Goals.{in-Ok, in-Err-Missing, in-Err-NoRow}
use Rattle.answer_lines.proofs.name_line.Goals as goal

pub end_name-requires : goal.end_name-requires
end_name-requires c =
    let x = told-name (rw c.in-Ok.is at c.tell_name-told.ensures.0) in
    (omega (arith, c.requires.name_room_in_bounds, x.wrote.keeps.long), omega (arith, c.requires.name_room_in_bounds, x.wrote.place))

pub returns : goal.returns
returns c =
    let told = c.tell_name-told.ensures in
    let plain = listed-within _ _ c.requires.blob_value in (
      λ o key k.
          elim c.match-told.branch [
            | in-Ok w ↦
                let x = told-name (told_same plain (rw w.in-Ok.is at told.0)) in
                let line = line-of-name key x.is (w.end_name.ensures _ _ _ _ _ k x.wrote) in
                rw (w.out-is, w.at-is) (record { wrote = line.0; goes = goes_on _ _ line.1 })
            | in-Err-Missing w ↦
                let is : c.tell_name-told.result.told ≡ Err (Missing w.in-Err-Missing.field-0-0) = search rules in
                let x = told-missing (told_same plain (rw is at told.0)) in
                let line = line-of-missing key x.0 refl (w.end_missing.ensures _ _ _ _ k x.1) in
                rw (w.out-is, w.at-is) (record { wrote = line.0; goes = goes_on _ _ line.1 })
            | in-Err-NoRow w ↦
                let is : c.tell_name-told.result.told ≡ Err NoRow = search rules in
                let x = told-no-row (told_same plain (rw is at told.0)) in
                let line = line-of-none key x.0 k x.1 w.push_nothing.ensures in
                rw (w.out-is, w.at-is) (record { wrote = line.0; goes = goes-past _ _ line.1 })
          ],
      told.1,
    )
