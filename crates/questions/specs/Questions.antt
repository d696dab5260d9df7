-- What a question of the code asks, as a call of the record (record/Answers.antt).
use Rattle.record.specs.Answers.{NumberCall, ClassCount, ClassFlags, GenericCount, BaseCount, MethodCount, MethodFlags, MethodGenericCount, ParameterCount, ClassPacking, ClassSize}
use Rattle.record.specs.Answers.{NameCall, ClassName, GenericName, BaseName, MethodName, MethodGenericName, ReturnType, ParameterType, ParameterName}
use Rattle.questions.specs.declared.NumberQuestion.{NumberQuestion}
use Rattle.questions.specs.declared.NumberQuestion.TheVariants as number
use Rattle.questions.specs.declared.NameQuestion.{NameQuestion}
use Rattle.questions.specs.declared.NameQuestion.TheVariants as name

abbrev pub number_call : NumberQuestion → NumberCall
number_call number.ClassCount = ClassCount
number_call (number.ClassFlags c) = ClassFlags c.0
number_call (number.GenericCount c) = GenericCount c.0
number_call (number.BaseCount c) = BaseCount c.0
number_call (number.MethodCount c) = MethodCount c.0
number_call (number.MethodFlags c m) = MethodFlags c.0 m
number_call (number.MethodGenericCount c m) = MethodGenericCount c.0 m
number_call (number.ParamCount c m) = ParameterCount c.0 m
number_call (number.ClassPacking c) = ClassPacking c.0
number_call (number.ClassSize c) = ClassSize c.0

abbrev pub name_call : NameQuestion → NameCall
name_call (name.ClassName c) = ClassName c.0
name_call (name.GenericName c g) = GenericName c.0 g
name_call (name.BaseName c b) = BaseName c.0 b
name_call (name.MethodName c m) = MethodName c.0 m
name_call (name.MethodGenericName c m g) = MethodGenericName c.0 m g
name_call (name.ReturnType c m) = ReturnType c.0 m
name_call (name.ParamType c m p) = ParameterType c.0 m p
name_call (name.ParamName c m p) = ParameterName c.0 m p
