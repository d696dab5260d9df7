-- What opening a tables stream answers: whether it is refused, and if not, its layout (crates/rows/specs/Layout.antt).
use Rattle.std.specs.Prelude.{◌≡◌, List, ℕ, ◌<◌, ◌≤◌, length, get_or, replicate, Ok, Err}
use Rattle.buffers.specs.declared.Refusal.{Refusal}
use Rattle.header.specs.Stream.{Opened, opened}
use Rattle.header.specs.declared.Options.{Options}
use Rattle.rows.specs.Columns as columns
use Rattle.rows.specs.Layout.{Laid, options_in}

-- Opening the tables stream t by the options o gives the answer a, and the layout l, which says the options; zeros where it is refused.
pub record OpenedAs (o : Options) (t : List ℕ) (a : Opened) (l : List ℕ) : Type 0 where
  pub answer : a ≡ (opened o t).answer
  pub laid : a ≡ (Ok tt) → Laid t l
  pub options : a ≡ (Ok tt) → options_in l ≡ o
  pub blank : {why : Refusal} → a ≡ Err why → l ≡ replicate columns.size 0

-- l begins with these numbers, those of a layout, and has no mark and no memory.
pub record Unmarked (numbers l : List ℕ) : Type 0 where
  pub size : columns.size ≤ length l
  pub same : (i : ℕ) → i < columns.mark → get_or l i 0 ≡ get_or numbers i 0
  pub none : (i : ℕ) → columns.mark ≤ i → i < columns.size → get_or l i 0 ≡ 0
