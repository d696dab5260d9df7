-- The ceiling of the listing (2026-06): it allows so many steps for each name. What counts more is shown by the mark of a value that is too
-- long, once.
use Rattle.std.specs.Prelude.{Bool, true, false, cond, eqb}
use Rattle.buffers.specs.Texts.{Text}
use Rattle.buffers.specs.Replies.{Answer, refused_by}
use Rattle.buffers.specs.declared.Refusal.TheVariants.{NoSuchRow, TooManySteps}
use Rattle.record.specs.View.{View}
use Rattle.record.specs.Answers.{NameCall, ClassName, GenericName, BaseName, MethodName, MethodGenericName, ReturnType, ParameterType, ParameterName, ModuleName, ModuleRefName, AssemblyName, AssemblyCulture, AssemblyRefName, AssemblyRefKey, ConstantValue, Typelib, name_answer}
use Rattle.record.specs.Allowance.{name_work, is_over}

-- The first line of those that count the same: a class's first base type, and a method's return type.
abbrev pub comes_first : NameCall → Bool
comes_first (ClassName c) = false
comes_first (GenericName c g) = false
comes_first (BaseName c b) = eqb b 0
comes_first (MethodName c m) = false
comes_first (MethodGenericName c m g) = false
comes_first (ReturnType c m) = true
comes_first (ParameterType c m p) = false
comes_first (ParameterName c m p) = false
comes_first ModuleName = false
comes_first (ModuleRefName i) = false
comes_first AssemblyName = false
comes_first AssemblyCulture = false
comes_first (AssemblyRefName i) = false
comes_first (AssemblyRefKey i) = false
comes_first (ConstantValue i) = false
comes_first Typelib = false

-- What is shown of a call that counts more: 11 in the first line, and no others.
abbrev pub beyond : Bool → Answer Text
beyond true = refused_by TooManySteps
beyond false = refused_by NoSuchRow

-- The answer that a listing shows.
unfoldable pub listed : NameCall → View → Answer Text
listed call v = cond (is_over (name_work call v)) (beyond (comes_first call)) (name_answer call v)
