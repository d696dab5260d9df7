-- The listing of a class record and of a program's input (document 01, "The listing program").
use Rattle.std.specs.Prelude.{Bool, true, false, List, [], ◌∷◌, ◌++◌, ℕ, ◌+◌, length}
use Rattle.std.proofs.Math.Option.{some}
use Rattle.buffers.specs.Texts.{Text, q}
use Rattle.buffers.specs.Replies.{Answer, refused, value}
use Rattle.heaps.specs.Lookups.{text_of}
use Rattle.bundle.specs.Input.{bundle_of, bundle_says}
use Rattle.header.specs.Stream.{base}
use Rattle.record.specs.View.{View, view}
use Rattle.record.specs.Missing.{over}
use Rattle.record.specs.Record.{Parameter, Method, Class}
use Rattle.record.specs.Answers.{◌⟫◌, walk_answer, the_classes}
use Rattle.record.specs.Allowance.{base_work, method_work, is_over}
use Rattle.lines.specs.Lines.{number_line, value_line, number_or_key, spent_line, refused_line}

-- The lines of each item of a list, one after the other.
unfoldable pub each : {A : Type 0} → (A → Text) → List A → Text
each f [] = []
each f (a ∷ l) = f a ++ each f l

unfoldable pub parameter_lines : Parameter → Text
parameter_lines p = value_line (q "ptype=") p.type ++ value_line (q "pname=") p.name

-- The same with the item's number, from i on.
unfoldable pub each_from : {A : Type 0} → (ℕ → A → Text) → ℕ → List A → Text
each_from f i [] = []
each_from f i (a ∷ l) = f i a ++ each_from f (i + 1) l

-- A method's return type and parameters: the mark alone where its signature is beyond the ceiling.
unfoldable pub signature_lines : Bool → Method → Text
signature_lines true m = spent_line (q "returns=")
signature_lines false m = value_line (q "returns=") m.returns ++ each parameter_lines m.parameters

-- Method m of class c.
unfoldable pub method_lines : View → ℕ → ℕ → Method → Text
method_lines v c m k =
    value_line (q "method=") (text_of k.name)
    ++ (number_line (q "mflags=") k.flags
    ++ (each (λ g. value_line (q "mgeneric=") (text_of g)) k.generics
    ++ signature_lines (is_over (method_work v c m)) k))

-- A class's base types: the mark alone where they are beyond the ceiling.
unfoldable pub base_lines : Bool → List Text → Text
base_lines true l = spent_line (q "base=")
base_lines false l = each (λ b. value_line (q "base=") (some b)) l

-- Class c.
unfoldable pub class_lines : View → ℕ → Class → Text
class_lines v c k =
    value_line (q "class=") (text_of k.name)
    ++ (number_line (q "flags=") k.flags
    ++ (number_or_key (q "packing=") (over (λ l. l.packing) k.layout)
    ++ (number_or_key (q "size=") (over (λ l. l.size) k.layout)
    ++ (each (λ g. value_line (q "generic=") (text_of g)) k.generics
    ++ (base_lines (is_over (base_work v c)) k.bases
    ++ each_from (method_lines v c) 0 k.methods)))))

-- The listing of the classes of a view, with the kind at which the walk was left.
unfoldable pub record_lines : View → ℕ → List Class → Text
record_lines v stop l = number_line (q "stop=") stop ++ (number_line (q "classes=") (length l) ++ each_from (class_lines v) 0 l)

-- A refusal is the line `refused=` and its number, and nothing else.
abbrev pub or_refused : Answer Text → Text
or_refused (value t) = t
or_refused (refused w) = refused_line w.number

-- The listing of a view, and of a program's whole input.
unfoldable pub listing : View → Text
listing v = or_refused ((walk_answer v).stop ⟫ λ stop. the_classes v ⟫ λ l. value (record_lines v stop l))

unfoldable pub listing_of : List ℕ → Text
listing_of s = or_refused (bundle_says s (bundle_of s) ⟫ λ i. value (listing (view base i.tables i.strings i.blob)))
