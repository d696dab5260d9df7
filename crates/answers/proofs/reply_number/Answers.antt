use Rattle.places.proofs.Values.{class-counted}
use Rattle.answers.proofs.reply_number.Goals as goal

pub returns-in-ClassCount : goal.returns-in-ClassCount
returns-in-ClassCount c = (rw c.in-ClassCount.is (class-counted c.requires.laid _ _ c.count_classes.ensures), c.requires.knows)

pub returns-in-ClassFlags : goal.returns-in-ClassFlags
returns-in-ClassFlags c = (rw c.in-ClassFlags.is (c.class_flags_of.ensures _ _), c.requires.knows)

pub returns-in-GenericCount : goal.returns-in-GenericCount
returns-in-GenericCount c = (rw c.in-GenericCount.is (c.count_generics_of.ensures _ _), c.requires.knows)

pub returns-in-BaseCount : goal.returns-in-BaseCount
returns-in-BaseCount c = (rw c.in-BaseCount.is c.count_bases_of.ensures, c.requires.knows)

pub returns-in-MethodCount : goal.returns-in-MethodCount
returns-in-MethodCount c = (rw c.in-MethodCount.is (c.count_methods_of.ensures _ _), c.requires.knows)

pub returns-in-MethodFlags : goal.returns-in-MethodFlags
returns-in-MethodFlags c =
    let place = c.place_method-row.ensures c.args.strings.now c.args.blob.now c.requires.knows.own in
    (rw c.in-MethodFlags.is (c.method_flags_of.ensures _ _ _ _ place.0), record { own = place.1; signature = c.requires.knows.signature; bases = c.requires.knows.bases })

pub returns-in-MethodGenericCount : goal.returns-in-MethodGenericCount
returns-in-MethodGenericCount c =
    let place = c.place_method-row-in-MethodGenericCount.ensures c.args.strings.now c.args.blob.now c.requires.knows.own in
    (rw c.in-MethodGenericCount.is (c.count_method_generics_of.ensures _ _ _ _ place.0), record { own = place.1; signature = c.requires.knows.signature; bases = c.requires.knows.bases })

pub returns-in-ParamCount : goal.returns-in-ParamCount
returns-in-ParamCount c =
    let place = c.place_method-row-in-ParamCount.ensures c.args.strings.now c.args.blob.now c.requires.knows.own in
    (rw c.in-ParamCount.is (c.count_params_of.ensures _ place.0), record { own = place.1; signature = c.requires.knows.signature; bases = c.requires.knows.bases })

pub returns-in-ClassPacking : goal.returns-in-ClassPacking
returns-in-ClassPacking c = (rw c.in-ClassPacking.is (c.class_packing_of.ensures _ _), c.requires.knows)

pub returns-in-ClassSize : goal.returns-in-ClassSize
returns-in-ClassSize c = (rw c.in-ClassSize.is (c.class_size_of.ensures _ _), c.requires.knows)
