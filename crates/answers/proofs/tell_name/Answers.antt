use Rattle.answers.proofs.tell_name.Goals as goal

pub returns-in-ClassName : goal.returns-in-ClassName
returns-in-ClassName c = (rw c.in-ClassName.is (c.tell_class_name.ensures _), c.requires.knows)

pub returns-in-GenericName : goal.returns-in-GenericName
returns-in-GenericName c = (rw c.in-GenericName.is (c.tell_generic_name.ensures _), c.requires.knows)

pub returns-in-BaseName : goal.returns-in-BaseName
returns-in-BaseName c =
    let told = c.tell_base_name-told.ensures in
    (rw c.in-BaseName.is told.0, record { own = c.requires.knows.own; signature = c.requires.knows.signature; bases = told.1 })

pub returns-in-MethodName : goal.returns-in-MethodName
returns-in-MethodName c =
    let place = c.place_method-row.ensures c.args.strings.now c.args.blob.now c.requires.knows.own in
    (rw c.in-MethodName.is (c.tell_method_name.ensures _ _ _ place.0), record { own = place.1; signature = c.requires.knows.signature; bases = c.requires.knows.bases })

pub returns-in-MethodGenericName : goal.returns-in-MethodGenericName
returns-in-MethodGenericName c =
    let place = c.place_method-row-in-MethodGenericName.ensures c.args.strings.now c.args.blob.now c.requires.knows.own in
    (rw c.in-MethodGenericName.is (c.tell_method_generic_name-told.ensures _ _ _ place.0), record { own = place.1; signature = c.requires.knows.signature; bases = c.requires.knows.bases })

pub returns-in-ReturnType : goal.returns-in-ReturnType
returns-in-ReturnType c =
    let place = c.place_method-row-in-ReturnType.ensures c.args.strings.now c.args.blob.now c.requires.knows.own in
    let told = c.tell_return_type_of-told.ensures in
    (rw c.in-ReturnType.is (told.0 _ place.0), record { own = place.1; signature = told.1; bases = c.requires.knows.bases })

pub returns-in-ParamType : goal.returns-in-ParamType
returns-in-ParamType c =
    let place = c.place_method-row-in-ParamType.ensures c.args.strings.now c.args.blob.now c.requires.knows.own in
    let told = c.tell_param_type_of-told.ensures in
    (rw c.in-ParamType.is (told.0 _ place.0), record { own = place.1; signature = told.1; bases = c.requires.knows.bases })

pub returns-in-ParamName : goal.returns-in-ParamName
returns-in-ParamName c =
    let place = c.place_method-row-in-ParamName.ensures c.args.strings.now c.args.blob.now c.requires.knows.own in
    let told = c.tell_param_name_of-told.ensures in
    (rw c.in-ParamName.is (told.0 _ place.0), record { own = place.1; signature = told.1; bases = c.requires.knows.bases })
