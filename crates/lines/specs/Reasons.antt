-- What is claimed of reasons in a listing (2026-02, "Say why a string is missing"). proofs/Reasons.antt proves it.
use Rattle.std.specs.Prelude.{◌≡◌, List, map, ℕ}
use Rattle.buffers.specs.declared.Reason.TheVariants.{Untold}
use Rattle.heaps.specs.Lookups.{Name, found, missing}
use Rattle.record.specs.View.{View}
use Rattle.record.specs.Record.{Method, Class}
use Rattle.lines.specs.Listing.{record_lines}

-- A name, a method and a class with every reason forgotten.
abbrev pub untold : Name → Name
untold (found t) = found t
untold (missing why) = missing Untold

abbrev pub untold_method : Method → Method
untold_method m =
    record {
      name = untold m.name;
      flags = m.flags;
      generics = map untold m.generics;
      returns = m.returns;
      parameters = m.parameters;
    }

abbrev pub untold_class : Class → Class
untold_class c =
    record {
      name = untold c.name;
      flags = c.flags;
      layout = c.layout;
      generics = map untold c.generics;
      bases = c.bases;
      methods = map untold_method c.methods;
    }

-- "The listing text does not change": it shows no reason. With every reason forgotten it is the same text.
abbrev pub ReasonsDoNotShow : Type 0
ReasonsDoNotShow = (v : View) (stop : ℕ) (l : List Class) → record_lines v stop (map untold_class l) ≡ record_lines v stop l
