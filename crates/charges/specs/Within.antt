-- Every name of a view is within the ceiling of a listing (2026-06).
use Rattle.std.specs.Prelude.{◌≡◌, false}
use Rattle.record.specs.View.{View}
use Rattle.record.specs.Answers.{NameCall}
use Rattle.record.specs.Allowance.{name_work, is_over}

abbrev pub AllFit : View → Type 0
AllFit v = (call : NameCall) → is_over (name_work call v) ≡ false
