use Rattle.buffers.specs.Texts.{q}
use native.Mathlib.Omega.{arith}
use Rattle.buffers.proofs.Writing.{kept_same}
use Rattle.lines.proofs.Ceiling.{counts-at}
use Rattle.lines.proofs.Stepping.{classes-shows, class-shows, flags-shows, packing-shows, size-shows, generic-shows, base-shows, method-shows, method-flags-shows, method-generic-shows, returns-shows, param-type-shows, param-name-shows}
use Rattle.listing_steps.specs.Beginning.{stop, number, name, done}
use Rattle.listing_steps.proofs.begin_line.Goals as goal

pub returns-in-Stop : goal.returns-in-Stop
returns-in-Stop c = λ v. stop c.in-Stop.is (kept_same _ _)

pub returns-in-Classes : goal.returns-in-Classes
returns-in-Classes c = λ v. number _ c.push.ensures (classes-shows v _ c.in-Classes.is c.cursor_at.ensures)

pub returns-in-Class : goal.returns-in-Class
returns-in-Class c = λ v. name (q "class=") (omega arith) c.push-in-Class.ensures (class-shows v _ c.in-Class.is c.cursor_at-in-Class.ensures c.done_cursor.ensures) (counts-at v _ c.in-Class.is)

pub returns-in-Flags : goal.returns-in-Flags
returns-in-Flags c = λ v. number _ c.push-in-Flags.ensures (flags-shows v _ c.in-Flags.is c.cursor_at-in-Flags.ensures)

pub returns-in-Packing : goal.returns-in-Packing
returns-in-Packing c = λ v. number _ c.push-in-Packing.ensures (packing-shows v _ c.in-Packing.is c.cursor_at-in-Packing.ensures)

pub returns-in-Size : goal.returns-in-Size
returns-in-Size c = λ v. number _ c.push-in-Size.ensures (size-shows v _ c.in-Size.is c.cursor_at-in-Size.ensures)

pub returns-in-Generic : goal.returns-in-Generic
returns-in-Generic c = λ v. name (q "generic=") (omega arith) c.push-in-Generic.ensures (generic-shows v _ c.in-Generic.is c.next_number.ensures c.cursor_at-in-Generic.ensures c.cursor_at-in-Generic-2.ensures) (counts-at v _ c.in-Generic.is)

pub returns-in-Base : goal.returns-in-Base
returns-in-Base c = λ v. name (q "base=") (omega arith) c.push-in-Base.ensures (base-shows v _ c.in-Base.is c.next_number-in-Base.ensures c.cursor_at-in-Base.ensures c.cursor_at-in-Base-2.ensures) (counts-at v _ c.in-Base.is)

pub returns-in-Method : goal.returns-in-Method
returns-in-Method c = λ v. name (q "method=") (omega arith) c.push-in-Method.ensures (method-shows v _ c.in-Method.is c.cursor_at-in-Method.ensures c.next_class.ensures c.cursor_at-in-Method-2.ensures) (counts-at v _ c.in-Method.is)

pub returns-in-MethodFlags : goal.returns-in-MethodFlags
returns-in-MethodFlags c = λ v. number _ c.push-in-MethodFlags.ensures (method-flags-shows v _ c.in-MethodFlags.is c.cursor_at-in-MethodFlags.ensures)

pub returns-in-MethodGeneric : goal.returns-in-MethodGeneric
returns-in-MethodGeneric c = λ v. name (q "mgeneric=") (omega arith) c.push-in-MethodGeneric.ensures (method-generic-shows v _ c.in-MethodGeneric.is c.next_number-in-MethodGeneric.ensures c.cursor_at-in-MethodGeneric.ensures c.cursor_at-in-MethodGeneric-2.ensures) (counts-at v _ c.in-MethodGeneric.is)

pub returns-in-Returns : goal.returns-in-Returns
returns-in-Returns c = λ v. name (q "returns=") (omega arith) c.push-in-Returns.ensures (returns-shows v _ c.in-Returns.is c.cursor_at-in-Returns.ensures c.next_number-in-Returns.ensures c.cursor_at-in-Returns-2.ensures) (counts-at v _ c.in-Returns.is)

pub returns-in-ParamType : goal.returns-in-ParamType
returns-in-ParamType c = λ v. name (q "ptype=") (omega arith) c.push-in-ParamType.ensures (param-type-shows v _ c.in-ParamType.is c.cursor_at-in-ParamType.ensures c.next_number-in-ParamType.ensures c.cursor_at-in-ParamType-2.ensures) (counts-at v _ c.in-ParamType.is)

pub returns-in-ParamName : goal.returns-in-ParamName
returns-in-ParamName c = λ v. name (q "pname=") (omega arith) c.push-in-ParamName.ensures (param-name-shows v _ c.in-ParamName.is c.next_number-in-ParamName.ensures c.cursor_at-in-ParamName.ensures c.next_number-in-ParamName-2.ensures c.cursor_at-in-ParamName-2.ensures) (counts-at v _ c.in-ParamName.is)

pub returns-in-Done : goal.returns-in-Done
returns-in-Done c = λ v. done c.in-Done.is (kept_same _ _)
