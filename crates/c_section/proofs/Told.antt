-- A section told to C is the library's. Assumes nothing.
use mathlib.Core.Path.{◌≡◌, ◌∙◌, ap}
use mathlib.Core.List.{List}
use mathlib.Core.Option.{Option}
use Prim.Native.Nat.{ℕ}
use Rattle.buffers.specs.Texts.{Text}
use Rattle.buffers.specs.Replies.{Answer}
use Rattle.name_section.specs.Section.{section_says, Sectioned}
use Rattle.buffers.specs.declared.Refusal.{Refusal}
use Rattle.name_section.specs.declared.Section.{Section}
use Rattle.c_section.specs.Told.{told_used, ToldSection}
use Rattle.c_section.specs.declared.DnSection.{DnSection}
use Rattle.std.specs.Prelude.{Result}

pub told-section : {a : Answer (List (Option Text))} {s o s' o' : List ℕ} {reply : Result Section Refusal} {r : DnSection} → r ≡ told_used (section_says reply)
    → Sectioned a s o reply s' o' → ToldSection a s o r s' o'
told-section e x = record { reply = e ∙ ap told_used x.reply; bytes = x.bytes; places = x.places }
