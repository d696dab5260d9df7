-- Document 01's worked cases as statements: the twelve marked P, the others that speak of definitions, the whole case, the example of
-- methods that one class takes and another reads, and a stream in which nearly every rule has a say. proofs/Cases.antt proves them by computing.
use Rattle.std.specs.Prelude.{◌≡◌, Bool, true, false, ◌&&◌, List, [], ◌∷◌, ◌++◌, map, ℕ, zero, suc, eqb, ℤ, pos, negsuc, replicate, Ok, Err}
use Rattle.std.proofs.Math.Option.{Option, none, some}
use Rattle.buffers.specs.declared.Reason.TheVariants.{NullIndex}
use Rattle.buffers.specs.declared.Refusal.TheVariants.{TooManyRows}
use Rattle.numbers.specs.Compressed.{uint, sint}
use Rattle.buffers.specs.Texts.{Text, q, same}
use Rattle.heaps.specs.Lookups.{Name, found, missing}
use Rattle.record.specs.Types.{Env, type}
use Rattle.tables.specs.Extents.{sizes_in}
use Rattle.record.specs.View.{View, ClassLayout, view}
use Rattle.header.specs.Stream.{base, opened}
use Rattle.record.specs.Names.{levels, base_types, base_steps}
use Rattle.record.specs.Methods.{steps_in}
use Rattle.record.specs.Record.{Method, class_record}
use Rattle.buffers.specs.Replies.{Answer, refused, value, name_or_5, name_reply, name_buffer}
use Rattle.record.specs.Answers.{walk_answer, class_packing, class_size}
use Rattle.record.specs.Modes.{in_mode, InOrder}

-- Equal numbers with a sign, and equal values that may be missing.
unfoldable pub sameℤ : ℤ → ℤ → Bool
sameℤ (pos a) (pos b) = eqb a b
sameℤ (pos a) (negsuc b) = false
sameℤ (negsuc a) (pos b) = false
sameℤ (negsuc a) (negsuc b) = eqb a b

unfoldable pub is : {A : Type 0} → (A → A → Bool) → Option A → Option A → Bool
is eq none none = true
is eq none (some b) = false
is eq (some a) none = false
is eq (some a) (some b) = eq a b

-- Refused with a number, and no reason.
abbrev pub refused_with : {A : Type 0} → ℕ → Answer A
refused_with n = refused (record { number = n; reason = 0 })

-- Equal answers: one value, or one refusal.
unfoldable pub same_answer : Answer Text → Answer Text → Bool
same_answer (refused v) (refused w) = eqb v.number w.number && eqb v.reason w.reason
same_answer (refused v) (value t) = false
same_answer (value s) (refused w) = false
same_answer (value s) (value t) = same s t

-- No tables, no heaps and no generic names.
unfoldable pub nowhere : Env
nowhere = record { type_defs = λ i. none; type_refs = λ i. none; type_specs = λ i. none; generics = λ i. none; mgenerics = λ i. none }

-- These bytes are this unsigned number, this signed number, this type, as a call answers: its text, or 5 where there is none.
unfoldable pub unsigned : List ℕ → ℕ → Bool
unsigned s n = is eqb (uint s 0).got (some n)

unfoldable pub signed : List ℕ → ℤ → Bool
signed s z = is sameℤ (sint s 0).got (some z)

unfoldable pub rendered : List ℕ → Answer Text → Bool
rendered s a = same_answer (name_or_5 (type nowhere levels s 0).got) a

unfoldable pub all : List Bool → Bool
all [] = true
all (b ∷ bs) = b && all bs

-- A text n times.
abbrev pub repeated : ℕ → Text → Text
repeated zero t = []
repeated (suc n) t = t ++ repeated n t

unfoldable pub cases : List Bool
cases =
    unsigned (0x7F ∷ []) 127 ∷
    unsigned (0x80 ∷ 0x80 ∷ []) 128 ∷
    unsigned (0xDF ∷ 0xFF ∷ 0xFF ∷ 0xFF ∷ []) 536870911 ∷
    signed (0x7B ∷ []) (negsuc 2) ∷
    signed (0x80 ∷ 0x01 ∷ []) (negsuc 8191) ∷
    signed (0xC0 ∷ 0x00 ∷ 0x00 ∷ 0x01 ∷ []) (negsuc 268435455) ∷
    rendered (0x1D ∷ 0x0F ∷ 0x01 ∷ []) (value (q "Ptr<void>[]")) ∷
    rendered (0x14 ∷ 0x08 ∷ 0x02 ∷ 0x00 ∷ 0x00 ∷ []) (value (q "int[,]")) ∷
    rendered (0x14 ∷ 0x08 ∷ 0x01 ∷ 0x01 ∷ 0x05 ∷ 0x01 ∷ 0x06 ∷ []) (value (q "int[3...7]")) ∷
    rendered (0x14 ∷ 0x08 ∷ 0x01 ∷ 0x00 ∷ 0x01 ∷ 0x7B ∷ []) (value (q "int[-3...]")) ∷
    rendered (0x1B ∷ 0x00 ∷ 0x02 ∷ 0x01 ∷ 0x17 ∷ 0x08 ∷ []) (value (q "FnPtr<void(, int)>")) ∷
    rendered (0x17 ∷ []) (refused_with 5) ∷
    []

-- The twelve cases marked P.
abbrev pub TwelveCases : Type 0
TwelveCases = all cases ≡ true

-- The other cases: a first byte of E0 is refused; sixteen 0F before 08 render and seventeen give 5; forty 1D before 08 render.
unfoldable pub more_cases : List Bool
more_cases =
    is eqb (uint (0xE0 ∷ 0 ∷ 0 ∷ 0 ∷ []) 0).got none ∷
    rendered (replicate 16 0x0F ++ 0x08 ∷ []) (value (repeated 16 (q "Ptr<") ++ q "int" ++ replicate 16 0x3E)) ∷
    rendered (replicate 17 0x0F ++ 0x08 ∷ []) (refused_with 5) ∷
    rendered (replicate 40 0x1D ++ 0x08 ∷ []) (value (q "int" ++ repeated 40 (q "[]"))) ∷
    []

abbrev pub MoreCases : Type 0
MoreCases = all more_cases ≡ true

-- A header with one table of this kind's byte of `valid`, with this count.
abbrev pub one_table : ℕ → ℕ → ℕ → List ℕ
one_table mask low high =
    0 ∷ 0 ∷ 0 ∷ 0 ∷ 2 ∷ 0 ∷ 0 ∷ 1 ∷ mask ∷ 0 ∷ 0 ∷ 0 ∷ 0 ∷ 0 ∷ 0 ∷ 0 ∷ 0 ∷ 0 ∷ 0 ∷ 0 ∷ 0 ∷ 0 ∷ 0 ∷ 0 ∷ low ∷ high ∷ 0 ∷ 0 ∷ []

-- 15,000 rows pass, 15,001 give 3. 2,047 Field rows keep HasCustomAttribute at 2 bytes, 2,048 make it 4.
pub record Limits : Type 0 where
  pub most : (opened base (one_table 0x04 0x98 0x3A)).answer ≡ (Ok tt)
  pub over : (opened base (one_table 0x04 0x99 0x3A)).answer ≡ Err TooManyRows
  pub narrow : (sizes_in base (opened base (one_table 0x10 0xFF 0x07))).has_custom_attribute ≡ 2
  pub wide : (sizes_in base (opened base (one_table 0x10 0x00 0x08))).has_custom_attribute ≡ 4

-- A buffer of 3 for `int` succeeds; of 2 gives 6 and two zeros. An empty name fits a buffer of 0.
pub record Buffers : Type 0 where
  pub fits : (name_reply (value (q "int")) 3 ≡ value 3) × (name_buffer (value (q "int")) 3 ≡ q "int")
  pub lacks : (name_reply (value (q "int")) 2 ≡ refused_with 6) × (name_buffer (value (q "int")) 2 ≡ 0 ∷ 0 ∷ [])
  pub empty : (name_reply (value []) 0 ≡ value 0) × (name_buffer (value []) 0 ≡ [])

-- The whole case: 56 table bytes, 9 string bytes, no blob.
unfoldable pub whole_tables : List ℕ
whole_tables =
    0 ∷ 0 ∷ 0 ∷ 0 ∷ 2 ∷ 0 ∷ 0 ∷ 1 ∷ 4 ∷ 0 ∷ 0 ∷ 0 ∷ 0 ∷ 0 ∷ 0 ∷ 0 ∷ 0 ∷ 0 ∷ 0 ∷ 0 ∷ 0 ∷ 0 ∷ 0 ∷ 0 ∷
    2 ∷ 0 ∷ 0 ∷ 0 ∷
    0 ∷ 0 ∷ 0 ∷ 0 ∷ 0 ∷ 0 ∷ 0 ∷ 0 ∷ 0 ∷ 0 ∷ 0 ∷ 0 ∷ 0 ∷ 0 ∷
    1 ∷ 0 ∷ 0 ∷ 0 ∷ 5 ∷ 0 ∷ 3 ∷ 0 ∷ 0 ∷ 0 ∷ 1 ∷ 0 ∷ 0 ∷ 0 ∷
    []

unfoldable pub whole_strings : List ℕ
whole_strings = 0x00 ∷ 0x41 ∷ 0x00 ∷ 0x4E ∷ 0x00 ∷ 0x4C ∷ 0x60 ∷ 0x31 ∷ 0x00 ∷ []

abbrev pub whole_view : View
whole_view = view base whole_tables whole_strings []

-- stop=64, one class, N.L, flags 1, neither packing nor size, and nothing else.
pub record WholeCase : Type 0 where
  pub stop : (walk_answer whole_view).stop ≡ value 64
  pub classes : class_record whole_view ≡ record { name = found (q "N.L"); flags = 1; layout = none; generics = []; bases = []; methods = [] } ∷ []
  pub packing : class_packing whole_view 0 ≡ refused_with 4
  pub size : class_size whole_view 0 ≡ refused_with 4

-- Three classes and five methods. The methods of the first two classes start at 0 and 3; the third class has that MethodList column. Each
-- class has one generic parameter, X, Y, Z, but Z has that owner, and each method returns the class's first generic parameter.
unfoldable pub three_tables : ℕ → ℕ → List ℕ
three_tables list owner =
    0 ∷ 0 ∷ 0 ∷ 0 ∷ 2 ∷ 0 ∷ 0 ∷ 1 ∷ 0x44 ∷ 0 ∷ 0 ∷ 0 ∷ 0 ∷ 4 ∷ 0 ∷ 0 ∷ 0 ∷ 0 ∷ 0 ∷ 0 ∷ 0 ∷ 0 ∷ 0 ∷ 0 ∷
    4 ∷ 0 ∷ 0 ∷ 0 ∷ 5 ∷ 0 ∷ 0 ∷ 0 ∷ 3 ∷ 0 ∷ 0 ∷ 0 ∷
    0 ∷ 0 ∷ 0 ∷ 0 ∷ 0 ∷ 0 ∷ 0 ∷ 0 ∷ 0 ∷ 0 ∷ 0 ∷ 0 ∷ 0 ∷ 0 ∷
    0 ∷ 0 ∷ 0 ∷ 0 ∷ 0 ∷ 0 ∷ 0 ∷ 0 ∷ 0 ∷ 0 ∷ 0 ∷ 0 ∷ 1 ∷ 0 ∷
    0 ∷ 0 ∷ 0 ∷ 0 ∷ 0 ∷ 0 ∷ 0 ∷ 0 ∷ 0 ∷ 0 ∷ 0 ∷ 0 ∷ 4 ∷ 0 ∷
    0 ∷ 0 ∷ 0 ∷ 0 ∷ 0 ∷ 0 ∷ 0 ∷ 0 ∷ 0 ∷ 0 ∷ 0 ∷ 0 ∷ list ∷ 0 ∷
    0 ∷ 0 ∷ 0 ∷ 0 ∷ 0 ∷ 0 ∷ 0 ∷ 0 ∷ 0 ∷ 0 ∷ 1 ∷ 0 ∷ 0 ∷ 0 ∷
    0 ∷ 0 ∷ 0 ∷ 0 ∷ 0 ∷ 0 ∷ 0 ∷ 0 ∷ 0 ∷ 0 ∷ 1 ∷ 0 ∷ 0 ∷ 0 ∷
    0 ∷ 0 ∷ 0 ∷ 0 ∷ 0 ∷ 0 ∷ 0 ∷ 0 ∷ 0 ∷ 0 ∷ 1 ∷ 0 ∷ 0 ∷ 0 ∷
    0 ∷ 0 ∷ 0 ∷ 0 ∷ 0 ∷ 0 ∷ 0 ∷ 0 ∷ 0 ∷ 0 ∷ 1 ∷ 0 ∷ 0 ∷ 0 ∷
    0 ∷ 0 ∷ 0 ∷ 0 ∷ 0 ∷ 0 ∷ 0 ∷ 0 ∷ 0 ∷ 0 ∷ 1 ∷ 0 ∷ 0 ∷ 0 ∷
    0 ∷ 0 ∷ 0 ∷ 0 ∷ 4 ∷ 0 ∷ 1 ∷ 0 ∷
    0 ∷ 0 ∷ 0 ∷ 0 ∷ 6 ∷ 0 ∷ 3 ∷ 0 ∷
    0 ∷ 0 ∷ 0 ∷ 0 ∷ owner ∷ 0 ∷ 5 ∷ 0 ∷
    []

unfoldable pub three_strings : List ℕ
three_strings = 0 ∷ 0x58 ∷ 0 ∷ 0x59 ∷ 0 ∷ 0x5A ∷ 0 ∷ []

unfoldable pub three_blob : List ℕ
three_blob = 0 ∷ 4 ∷ 0x00 ∷ 0x00 ∷ 0x13 ∷ 0x00 ∷ []

-- In either mode.
abbrev pub three_view : Bool → ℕ → ℕ → View
three_view b list owner = view (in_mode b base) (three_tables list owner) three_strings three_blob

-- What the methods of each class return.
abbrev pub returned : View → List (List (Option Text))
returned v = map (λ k. map (λ m. m.returns) k.methods) (class_record v)

-- What is read for the methods 1 to 4, which the third class takes if its methods start at 1.
abbrev pub steps_of_third : View → List ℕ
steps_of_third v = map (steps_in v 2) (1 ∷ 2 ∷ 3 ∷ 4 ∷ [])

pub record ThreeClasses : Type 0 where
  -- As the Rust: methods 1 and 2 go to the third class, but the first class's generics render them last.
  pub all_read : returned (three_view false 2 8) ≡ (some (q "X") ∷ []) ∷ [] ∷ (some (q "X") ∷ some (q "X") ∷ some (q "Z") ∷ some (q "Z") ∷ []) ∷ []
  pub all-steps : steps_of_third (three_view false 2 8) ≡ 2 ∷ 2 ∷ 1 ∷ 1 ∷ []
  -- The third class alone.
  pub taker-reads : returned (three_view true 2 8) ≡ (some (q "X") ∷ []) ∷ [] ∷ (some (q "Z") ∷ some (q "Z") ∷ some (q "Z") ∷ some (q "Z") ∷ []) ∷ []
  pub taker-steps : steps_of_third (three_view true 2 8) ≡ 1 ∷ 1 ∷ 1 ∷ 1 ∷ []
  -- Z is nobody's: the third class's reading fails, and the first class's stands only in the Rust's mode.
  pub third-fails : returned (three_view false 2 0) ≡ (some (q "X") ∷ []) ∷ [] ∷ (some (q "X") ∷ some (q "X") ∷ none ∷ none ∷ []) ∷ []
  pub taker-fails : returned (three_view true 2 0) ≡ (some (q "X") ∷ []) ∷ [] ∷ (none ∷ none ∷ none ∷ none ∷ []) ∷ []
  -- In order: the third class's methods start at 4.
  pub in_order : InOrder (three_view false 5 8)

-- A stream in which nearly every rule has a say: names cut and not, missing and empty; nesting in the order of the rows; generics of classes and of
-- methods; base types of all three kinds, one without a name; methods with and without a signature; parameters of every sort.
unfoldable pub rich_tables : List ℕ
rich_tables =
    0 ∷ 0 ∷ 0 ∷ 0 ∷ 2 ∷ 0 ∷ 0 ∷ 1 ∷ 0x46 ∷ 3 ∷ 0 ∷ 8 ∷ 0 ∷ 6 ∷ 0 ∷ 0 ∷ 0 ∷ 0 ∷ 0 ∷ 0 ∷ 0 ∷ 0 ∷ 0 ∷ 0 ∷
    1 ∷ 0 ∷ 0 ∷ 0 ∷ 6 ∷ 0 ∷ 0 ∷ 0 ∷ 4 ∷ 0 ∷ 0 ∷ 0 ∷ 2 ∷ 0 ∷ 0 ∷ 0 ∷ 3 ∷ 0 ∷ 0 ∷ 0 ∷ 1 ∷ 0 ∷ 0 ∷ 0 ∷ 2 ∷ 0 ∷ 0 ∷ 0 ∷ 5 ∷ 0 ∷ 0 ∷ 0 ∷
    -- TypeRef: Object`2 in System
    0 ∷ 0 ∷ 1 ∷ 0 ∷ 0x0A ∷ 0 ∷
    -- TypeDef: no class; N.Outer extends TypeRef 1, first method 0; Mid, first method 2; In extends TypeSpec 1, no methods; a class
    -- without a name; E with an empty namespace
    0 ∷ 0 ∷ 0 ∷ 0 ∷ 0 ∷ 0 ∷ 0 ∷ 0 ∷ 0 ∷ 0 ∷ 0 ∷ 0 ∷ 0 ∷ 0 ∷
    1 ∷ 0 ∷ 0 ∷ 0 ∷ 0x11 ∷ 0 ∷ 0x17 ∷ 0 ∷ 5 ∷ 0 ∷ 0 ∷ 0 ∷ 1 ∷ 0 ∷
    0 ∷ 0 ∷ 0 ∷ 0 ∷ 0x19 ∷ 0 ∷ 0 ∷ 0 ∷ 0 ∷ 0 ∷ 0 ∷ 0 ∷ 3 ∷ 0 ∷
    0 ∷ 0 ∷ 0 ∷ 0 ∷ 0x1D ∷ 0 ∷ 0 ∷ 0 ∷ 6 ∷ 0 ∷ 0 ∷ 0 ∷ 0 ∷ 0 ∷
    0 ∷ 0 ∷ 0 ∷ 0 ∷ 0 ∷ 0 ∷ 0x17 ∷ 0 ∷ 0 ∷ 0 ∷ 0 ∷ 0 ∷ 0 ∷ 0 ∷
    0 ∷ 0 ∷ 0 ∷ 0 ∷ 0x20 ∷ 0 ∷ 9 ∷ 0 ∷ 0 ∷ 0 ∷ 0 ∷ 0 ∷ 0 ∷ 0 ∷
    -- MethodDef: f, .ctor, one without a name, g with no signature
    0 ∷ 0 ∷ 0 ∷ 0 ∷ 0 ∷ 0 ∷ 0x16 ∷ 0 ∷ 0x22 ∷ 0 ∷ 1 ∷ 0 ∷ 1 ∷ 0 ∷
    0 ∷ 0 ∷ 0 ∷ 0 ∷ 0 ∷ 0 ∷ 6 ∷ 0 ∷ 0x24 ∷ 0 ∷ 0x0A ∷ 0 ∷ 0 ∷ 0 ∷
    0 ∷ 0 ∷ 0 ∷ 0 ∷ 0 ∷ 0 ∷ 0 ∷ 0 ∷ 0 ∷ 0 ∷ 0x0F ∷ 0 ∷ 2 ∷ 0 ∷
    0 ∷ 0 ∷ 0 ∷ 0 ∷ 0 ∷ 0 ∷ 0 ∷ 0 ∷ 0x2A ∷ 0 ∷ 0xC8 ∷ 0 ∷ 1 ∷ 0 ∷
    -- Param: x, one without a name
    0 ∷ 0 ∷ 1 ∷ 0 ∷ 0x2C ∷ 0 ∷
    0 ∷ 0 ∷ 2 ∷ 0 ∷ 0 ∷ 0 ∷
    -- InterfaceImpl of N.Outer: TypeDef row 4, nothing, TypeRef row 1
    2 ∷ 0 ∷ 0x10 ∷ 0 ∷
    2 ∷ 0 ∷ 7 ∷ 0 ∷
    2 ∷ 0 ∷ 5 ∷ 0 ∷
    -- TypeSpec: Object of the first generic
    0x17 ∷ 0 ∷
    -- NestedClass: In in Mid, then Mid in N.Outer
    4 ∷ 0 ∷ 3 ∷ 0 ∷
    3 ∷ 0 ∷ 2 ∷ 0 ∷
    -- GenericParam: T of Outer, U of In, M of method f, one of TypeDef row 1, one of Outer without a name
    0 ∷ 0 ∷ 0 ∷ 0 ∷ 4 ∷ 0 ∷ 0x2E ∷ 0 ∷
    0 ∷ 0 ∷ 0 ∷ 0 ∷ 8 ∷ 0 ∷ 0x30 ∷ 0 ∷
    0 ∷ 0 ∷ 0 ∷ 0 ∷ 3 ∷ 0 ∷ 0x32 ∷ 0 ∷
    0 ∷ 0 ∷ 0 ∷ 0 ∷ 2 ∷ 0 ∷ 0x2E ∷ 0 ∷
    0 ∷ 0 ∷ 0 ∷ 0 ∷ 4 ∷ 0 ∷ 0 ∷ 0 ∷
    []

-- Object`2 at 1, System at 10, Outer at 0x11, N at 0x17, Mid at 0x19, In at 0x1D, E at 0x20, f at 0x22, .ctor at 0x24, g at 0x2A, x at 0x2C, T at 0x2E,
-- U at 0x30, M at 0x32
unfoldable pub rich_strings : List ℕ
rich_strings = 0 ∷ q "Object`2" ++ 0 ∷ q "System" ++ 0 ∷ q "Outer" ++ 0 ∷ q "N" ++ 0 ∷ q "Mid" ++ 0 ∷ q "In" ++ 0 ∷ q "E" ++ 0 ∷ q "f" ++ 0 ∷ q ".ctor" ++ 0 ∷ q "g" ++ 0 ∷ q "x" ++ 0 ∷ q "T" ++ 0 ∷ q "U" ++ 0 ∷ q "M" ++ 0 ∷ []

unfoldable pub rich_blob : List ℕ
rich_blob = 0 ∷ 8 ∷ 0x10 ∷ 1 ∷ 2 ∷ 0x13 ∷ 0 ∷ 0x1E ∷ 0 ∷ 0x17 ∷ 4 ∷ 0 ∷ 1 ∷ 1 ∷ 8 ∷ 7 ∷ 0 ∷ 2 ∷ 8 ∷ 0x12 ∷ 5 ∷ 0x12 ∷ 8 ∷ 6 ∷ 0x15 ∷ 0x12 ∷ 5 ∷ 1 ∷ 0x13 ∷ 0 ∷ []

abbrev pub outer_methods : List Method
outer_methods =
    record { name = found (q "f"); flags = 0x16; generics = found (q "M") ∷ []; returns = some (q "T"); parameters = record { type = some (q "M"); name = some (q "x") } ∷ record { type = none; name = some [] } ∷ [] }
    ∷ record { name = found (q ".ctor"); flags = 6; generics = []; returns = some (q "void"); parameters = record { type = some (q "int"); name = none } ∷ [] }
    ∷ []

abbrev pub mid_methods : List Method
mid_methods =
    record { name = missing NullIndex; flags = 0; generics = []; returns = some (q "int"); parameters = record { type = some (q "System.Object"); name = some [] } ∷ record { type = some (q "N.Outer"); name = some (q "P_1") } ∷ [] }
    ∷ record { name = found (q "g"); flags = 0; generics = []; returns = none; parameters = [] }
    ∷ []

abbrev pub RichCase : Type 0
RichCase =
    class_record (view base rich_tables rich_strings rich_blob)
    ≡ record { name = found (q "N.Outer"); flags = 1; layout = none; generics = found (q "T") ∷ missing NullIndex ∷ []; bases = q "System.Object" ∷ q "Mid.In" ∷ q "System.Object" ∷ []; methods = outer_methods }
    ∷ record { name = found (q "N.Outer.Mid"); flags = 0; layout = none; generics = []; bases = []; methods = mid_methods }
    ∷ record { name = found (q "Mid.In"); flags = 0; layout = none; generics = found (q "U") ∷ []; bases = q "System.Object<U>" ∷ []; methods = [] }
    ∷ record { name = missing NullIndex; flags = 0; layout = none; generics = []; bases = []; methods = [] }
    ∷ record { name = found (q ".E"); flags = 0; layout = none; generics = []; bases = []; methods = [] }
    ∷ []

-- Cut tables. A TypeDef row with this name and nothing else; a header of these two bytes of Valid.
abbrev pub type_row : ℕ → List ℕ
type_row name = 0 ∷ 0 ∷ 0 ∷ 0 ∷ name ∷ 0 ∷ 0 ∷ 0 ∷ 0 ∷ 0 ∷ 0 ∷ 0 ∷ 0 ∷ 0 ∷ []

abbrev pub two_bytes : ℕ → ℕ → List ℕ
two_bytes low high = 0 ∷ 0 ∷ 0 ∷ 0 ∷ 2 ∷ 0 ∷ 0 ∷ 1 ∷ low ∷ high ∷ 0 ∷ 0 ∷ 0 ∷ 0 ∷ 0 ∷ 0 ∷ 0 ∷ 0 ∷ 0 ∷ 0 ∷ 0 ∷ 0 ∷ 0 ∷ 0 ∷ []

unfoldable pub cut_strings : List ℕ
cut_strings = 0 ∷ q "A" ++ 0 ∷ q "B" ++ 0 ∷ []

-- Three TypeDef rows, the third of which lacks its last byte.
unfoldable pub cut_types : List ℕ
cut_types = two_bytes 4 0 ++ 3 ∷ 0 ∷ 0 ∷ 0 ∷ type_row 0 ++ type_row 1 ++ 0 ∷ 0 ∷ 0 ∷ 0 ∷ 3 ∷ 0 ∷ 0 ∷ 0 ∷ 0 ∷ 0 ∷ 0 ∷ 0 ∷ 0 ∷ []

-- Classes A and B, and two InterfaceImpl rows that say that A has B, whose end is given.
unfoldable pub interfaces_ending : List ℕ → List ℕ
interfaces_ending end = two_bytes 4 2 ++ 3 ∷ 0 ∷ 0 ∷ 0 ∷ 2 ∷ 0 ∷ 0 ∷ 0 ∷ type_row 0 ++ type_row 1 ++ type_row 3 ++ 2 ∷ 0 ∷ 12 ∷ 0 ∷ 2 ∷ 0 ∷ 12 ∷ end

-- The base types of each class.
abbrev pub bases_of : List ℕ → List (List Text)
bases_of t = map (λ k. k.bases) (class_record (view base t cut_strings []))

-- TypeDef keeps the whole rows before the cut; InterfaceImpl is kept only entire.
pub record CutTables : Type 0 where
  pub types : map (λ k. k.name) (class_record (view base cut_types cut_strings [])) ≡ found (q "A") ∷ []
  pub entire : bases_of (interfaces_ending (0 ∷ [])) ≡ (q "B" ∷ q "B" ∷ []) ∷ [] ∷ []
  pub cut : bases_of (interfaces_ending []) ≡ [] ∷ [] ∷ []

-- Packing and size (II.22.8). Classes A and B, so many ClassLayout rows with these bytes, and what the record has of each class.
unfoldable pub layout_tables : ℕ → List ℕ → List ℕ
layout_tables n rows = two_bytes 4 0x80 ++ 3 ∷ 0 ∷ 0 ∷ 0 ∷ n ∷ 0 ∷ 0 ∷ 0 ∷ type_row 0 ++ type_row 1 ++ type_row 3 ++ rows

abbrev pub layouts_of : ℕ → List ℕ → List (Option ClassLayout)
layouts_of n rows = map (λ k. k.layout) (class_record (view base (layout_tables n rows) cut_strings []))

pub record LayoutCases : Type 0 where
  -- the largest values of B, and others of A
  pub largest :
      layouts_of 2 (0xFF ∷ 0xFF ∷ 0xFF ∷ 0xFF ∷ 0xFF ∷ 0xFF ∷ 3 ∷ 0 ∷ 1 ∷ 2 ∷ 3 ∷ 4 ∷ 5 ∷ 6 ∷ 2 ∷ 0 ∷ [])
      ≡ some (record { packing = 0x0201; size = 0x0605_0403 }) ∷ some (record { packing = 65_535; size = 4_294_967_295 }) ∷ []
  -- the same without the last byte: the whole row before the cut is kept
  pub cut :
      layouts_of 2 (0xFF ∷ 0xFF ∷ 0xFF ∷ 0xFF ∷ 0xFF ∷ 0xFF ∷ 3 ∷ 0 ∷ 1 ∷ 2 ∷ 3 ∷ 4 ∷ 5 ∷ 6 ∷ 2 ∷ [])
      ≡ none ∷ some (record { packing = 65_535; size = 4_294_967_295 }) ∷ []
  -- two rows of A: the first decides, and 0 is a value
  pub zeros :
      layouts_of 2 (0 ∷ 0 ∷ 0 ∷ 0 ∷ 0 ∷ 0 ∷ 2 ∷ 0 ∷ 4 ∷ 0 ∷ 16 ∷ 0 ∷ 0 ∷ 0 ∷ 2 ∷ 0 ∷ [])
      ≡ some (record { packing = 0; size = 0 }) ∷ none ∷ []
  -- parents 0, 1 and past the table name nobody
  pub nobody :
      layouts_of 3 (1 ∷ 0 ∷ 1 ∷ 0 ∷ 0 ∷ 0 ∷ 0 ∷ 0 ∷ 1 ∷ 0 ∷ 1 ∷ 0 ∷ 0 ∷ 0 ∷ 1 ∷ 0 ∷ 1 ∷ 0 ∷ 1 ∷ 0 ∷ 0 ∷ 0 ∷ 4 ∷ 0 ∷ [])
      ≡ none ∷ none ∷ []

-- Nested classes. Classes A, B and C, and these two NestedClass rows, each the nested and the enclosing TypeDef row.
unfoldable pub nesting : ℕ → ℕ → ℕ → ℕ → List ℕ
nesting n₁ e₁ n₂ e₂ =
    0 ∷ 0 ∷ 0 ∷ 0 ∷ 2 ∷ 0 ∷ 0 ∷ 1 ∷ 4 ∷ 0 ∷ 0 ∷ 0 ∷ 0 ∷ 2 ∷ 0 ∷ 0 ∷ 0 ∷ 0 ∷ 0 ∷ 0 ∷ 0 ∷ 0 ∷ 0 ∷ 0 ∷
    4 ∷ 0 ∷ 0 ∷ 0 ∷ 2 ∷ 0 ∷ 0 ∷ 0 ∷
    type_row 0 ++ type_row 1 ++ type_row 3 ++ type_row 5 ++ n₁ ∷ 0 ∷ e₁ ∷ 0 ∷ n₂ ∷ 0 ∷ e₂ ∷ 0 ∷ []

unfoldable pub nesting_strings : List ℕ
nesting_strings = 0 ∷ q "A" ++ 0 ∷ q "B" ++ 0 ∷ q "C" ++ 0 ∷ []

abbrev pub names_of : List ℕ → List Name
names_of t = map (λ k. k.name) (class_record (view base t nesting_strings []))

-- Rows act in order, and a namespace is the full name that the enclosing class has at that moment.
pub record NestedNames : Type 0 where
  -- B in A, then C in B; and the other way round
  pub outward : names_of (nesting 3 2 4 3) ≡ found (q "A") ∷ found (q "A.B") ∷ found (q "A.B.C") ∷ []
  pub inward : names_of (nesting 4 3 3 2) ≡ found (q "A") ∷ found (q "A.B") ∷ found (q "B.C") ∷ []
  -- A in B, then B in A: a cycle
  pub cycle : names_of (nesting 2 3 3 2) ≡ found (q "B.A") ∷ found (q "B.A.B") ∷ found (q "C") ∷ []
  -- A in itself, twice
  pub self : names_of (nesting 2 2 2 2) ≡ found (q "A.A.A") ∷ found (q "B") ∷ found (q "C") ∷ []
  -- rows with an index 0 or 1 do nothing; an enclosing class that is not there leaves no namespace
  pub idle : names_of (nesting 3 1 0 2) ≡ found (q "A") ∷ found (q "B") ∷ found (q "C") ∷ []
  pub gone : names_of (nesting 3 2 3 9) ≡ found (q "A") ∷ found (q "B") ∷ found (q "C") ∷ []

-- Class A extends TypeSpec row 1, which has no name, and has the interface of TypeSpec row 2, `int`; each has one type byte.
unfoldable pub unnamed_base : List ℕ
unnamed_base =
    0 ∷ 0 ∷ 0 ∷ 0 ∷ 2 ∷ 0 ∷ 0 ∷ 1 ∷ 4 ∷ 2 ∷ 0 ∷ 8 ∷ 0 ∷ 0 ∷ 0 ∷ 0 ∷ 0 ∷ 0 ∷ 0 ∷ 0 ∷ 0 ∷ 0 ∷ 0 ∷ 0 ∷
    2 ∷ 0 ∷ 0 ∷ 0 ∷ 1 ∷ 0 ∷ 0 ∷ 0 ∷ 2 ∷ 0 ∷ 0 ∷ 0 ∷
    type_row 0 ++ 0 ∷ 0 ∷ 0 ∷ 0 ∷ 1 ∷ 0 ∷ 0 ∷ 0 ∷ 6 ∷ 0 ∷ 0 ∷ 0 ∷ 0 ∷ 0 ∷
    2 ∷ 0 ∷ 10 ∷ 0 ∷
    1 ∷ 0 ∷ 3 ∷ 0 ∷ []

unfoldable pub unnamed_blob : List ℕ
unnamed_blob = 0 ∷ 1 ∷ 0x00 ∷ 1 ∷ 0x08 ∷ []

-- What is counted (2026-06): also the base type that has no name.
pub record StepCases : Type 0 where
  pub bases : base_types (view base unnamed_base cut_strings unnamed_blob) 0 ≡ q "int" ∷ []
  pub counted : base_steps (view base unnamed_base cut_strings unnamed_blob) 0 ≡ 2
