-- The cycle of the type name, the signature type and the method signature, passed over.
use native.Mathlib.Omega.{arith}
use Rattle.record.specs.Types.{type}
use Rattle.signatures.specs.Environment.{env_of, env_in}
use Rattle.passing.proofs.Laws.{passes_over, passes-failed, passes-spent}
use Prim.Native.Nat.{◌+◌, ◌-◌, ◌≤◌, zero-le, suc}
use mathlib.Core.Path.{sym, ◌∙◌, ◌≡◌, refl}
use lib.ListN.{get_or}
use Rattle.frames.specs.Stack.{stack}
use Rattle.frames.proofs.Rendering.{more-ahead}
use Rattle.signatures.proofs.Forms.{type-level, cut-shorter, alone-tag}
use Rattle.numbers.proofs.Parts.{cut-is}
use Rattle.sig_leaves.proofs.Specs.{blob-there, blob-missing}
use native.Mathlib.Nat.{sub-zero, le_refl, le_trans}
use mathlib.Core.Logic.{inl, inr}
use Rattle.passing.proofs.Forms as forms
use Rattle.frames.proofs.Turns as turns
use Rattle.passing.proofs.Levels as levels
use Rattle.passing.proofs.+over.Goals as goal
use Rattle.passing.proofs.+over.Goals.{over_parameters-in-Over, over_parameters-in-Failed}

pub over_array-over_next-requires : goal.over_array-over_next-requires
over_array-over_next-requires t c = (omega (arith, c.decreases), c.requires)

pub over_array-returns-in-Over : goal.over_array-returns-in-Over
over_array-returns-in-Over t c =
    let a = c.args in
    let e = env_of a.tables.now a.layout.now a.strings.now a.blob.now a.owners.now in
    let T = type e a.left in
    forms.array-passes T a.sig.now a.pos (passes_over (rw c.in-Over.is at c.in_ok-next.ensures)) c.over_shape.ensures

pub over_array-returns-in-Failed : goal.over_array-returns-in-Failed
over_array-returns-in-Failed t c =
    let a = c.args in
    let e = env_of a.tables.now a.layout.now a.strings.now a.blob.now a.owners.now in
    let T = type e a.left in
    forms.array-failed T a.sig.now a.pos (passes-failed (rw c.in-Failed.is at c.in_ok-next.ensures))

pub over_array-returns-in_err-next : goal.over_array-returns-in_err-next
over_array-returns-in_err-next t c =
    let a = c.args in
    let e = env_of a.tables.now a.layout.now a.strings.now a.blob.now a.owners.now in
    let T = type e a.left in
    rw c.from_residual.ensures (forms.array_spent T a.sig.now a.pos (passes-spent c.in_err-next.ensures))

pub over_class-over_name-requires : goal.over_class-over_name-requires
over_class-over_name-requires t c = (omega (arith, c.decreases), c.requires)

pub over_class-returns-in-Over : goal.over_class-returns-in-Over
over_class-returns-in-Over t c =
    let a = c.args in
    let e = env_of a.tables.now a.layout.now a.strings.now a.blob.now a.owners.now in
    let T = type e a.left in
    let x = c.in-Ok.ensures in
    forms.class-over e T a.sig.now a.pos x (passes_over (rw c.in-Over.is at c.in_ok-rest-in-Ok.ensures))

pub over_class-returns-in-Failed : goal.over_class-returns-in-Failed
over_class-returns-in-Failed t c =
    let a = c.args in
    let e = env_of a.tables.now a.layout.now a.strings.now a.blob.now a.owners.now in
    let T = type e a.left in
    let x = c.in-Ok.ensures in
    forms.class-failed e T a.sig.now a.pos x (passes-failed (rw c.in-Failed.is at c.in_ok-rest-in-Ok.ensures))

pub over_class-returns-in_err-rest-in-Ok : goal.over_class-returns-in_err-rest-in-Ok
over_class-returns-in_err-rest-in-Ok t c =
    let a = c.args in
    let e = env_of a.tables.now a.layout.now a.strings.now a.blob.now a.owners.now in
    let T = type e a.left in
    let x = c.in-Ok.ensures in
    rw c.from_residual.ensures (forms.class-spent e T a.sig.now a.pos x (passes-spent c.in_err-rest-in-Ok.ensures))

pub over_class-returns-in-Err : goal.over_class-returns-in-Err
over_class-returns-in-Err t c =
    let a = c.args in
    let e = env_of a.tables.now a.layout.now a.strings.now a.blob.now a.owners.now in
    let T = type e a.left in
    forms.class-unread e T a.sig.now a.pos (c.in-Err.ensures)

pub over_few-over_level-requires : goal.over_few-over_level-requires
over_few-over_level-requires t c = (omega (arith, c.decreases), (c.requires.laid, (c.requires.left_nonzero.0, c.requires.left_nonzero.1, omega arith)))

pub over_few-returns : goal.over_few-returns
over_few-returns t c = c.over_level.ensures

pub over_inner-over_many-requires : goal.over_inner-over_many-requires
over_inner-over_many-requires t c = (omega (arith, c.decreases), (c.requires.laid, (c.requires.left_nonzero.0, c.requires.left_nonzero.1 c.if-full.true)))

pub over_inner-returns-then-full : goal.over_inner-returns-then-full
over_inner-returns-then-full t c = c.over_many.ensures

pub over_inner-over_next-requires : goal.over_inner-over_next-requires
over_inner-over_next-requires t c = (omega (arith, c.decreases), c.requires.laid)

pub over_inner-returns : goal.over_inner-returns
over_inner-returns t c = c.over_next.ensures

pub over_level-loop-p-init : goal.over_level-loop-p-init
over_level-loop-p-init t c =
    let a = c.args in
    let e = env_of a.tables.now a.layout.now a.strings.now a.blob.now a.owners.now in
    let T = type e a.left in
    let level = type-level e a.left c.requires.left_nonzero.0 in
    (omega arith, zero-le, refl, refl, λ r h. levels.level-start T level _ h)

pub over_level-descend-requires : goal.over_level-descend-requires
over_level-descend-requires t c = c.loop-p.invariant.1

pub over_level-returns-in_err-rest-in-Ok : goal.over_level-returns-in_err-rest-in-Ok
over_level-returns-in_err-rest-in-Ok t c =
    let a = c.args in
    let e = env_of a.tables.now a.layout.now a.strings.now a.blob.now a.owners.now in
    let T = type e a.left in
    let level = type-level e a.left c.requires.left_nonzero.0 in
    let came = turns.came c.in-Ok.ensures in
    rw c.from_residual.ensures (c.loop-p.invariant.4 _ (levels.level-short T level came.moved refl (omega (arith, c.in_err-rest-in-Ok.ensures))))

pub over_level-over_inner-requires : goal.over_level-over_inner-requires
over_level-over_inner-requires t c =
    let came = turns.came c.in-Ok.ensures in
    let ahead = turns.came-on came c.requires.left_nonzero.1 c.loop-p.invariant.0
    (omega (arith, c.descend.auto.frames, c.loop-p.invariant.2, c.requires.left_nonzero.2)) in
    (omega (arith, c.decreases, ahead, c.loop-p.invariant.0, c.loop-p-test.true), (c.requires.laid, (c.requires.left_nonzero.0, turns.halts-full came.halts)))

pub over_level-ascend-requires : goal.over_level-ascend-requires
over_level-ascend-requires t c =
    let came = turns.came c.in-Ok.ensures in
    (omega (arith, c.loop-p.invariant.3), came.room)

pub over_level-loop-p-smaller : goal.over_level-loop-p-smaller
over_level-loop-p-smaller t c =
    let a = c.args in
    let e = env_of a.tables.now a.layout.now a.strings.now a.blob.now a.owners.now in
    let T = type e a.left in
    let came = turns.came c.in-Ok.ensures in
    let went = rw c.in_ok-rest-in-Ok.ensures.1 at (passes_over (rw c.in-Over.is at c.in_ok-next-in-Ok.ensures)) in
    let on = forms.over-beyond a.sig.now _ e a.left went in
    let far = more-ahead (rw c.in-Ok-More.field-0-is at c.in-Ok-More.ensures) in
    omega (arith, c.loop-p-test.true, came.ahead, on, far.0)

pub over_level-loop-p-preserved : goal.over_level-loop-p-preserved
over_level-loop-p-preserved t c =
    let a = c.args in
    let e = env_of a.tables.now a.layout.now a.strings.now a.blob.now a.owners.now in
    let T = type e a.left in
    let level = type-level e a.left c.requires.left_nonzero.0 in
    let came = turns.came c.in-Ok.ensures in
    let went = rw c.in_ok-rest-in-Ok.ensures.1 at (passes_over (rw c.in-Over.is at c.in_ok-next-in-Ok.ensures)) in
    let on = forms.over-beyond a.sig.now _ e a.left went in
    let more = rw c.in-Ok-More.field-0-is at c.in-Ok-More.ensures in
    let far = more-ahead more in
    let room = c.ascend.auto.frames in (
      omega (arith, c.loop-p.invariant.0, came.few, on, far.0, far.1),
      omega (arith, came.room, far.1, room),
      room ∙ c.descend.auto.frames ∙ c.loop-p.invariant.2,
      c.ascend.auto.buf ∙ c.loop-p.invariant.3,
      λ r y. c.loop-p.invariant.4 r (levels.level-more T level came.moved refl c.in_ok-rest-in-Ok.ensures.0 went more y),
    )

pub over_level-returns-in-Ok-Over : goal.over_level-returns-in-Ok-Over
over_level-returns-in-Ok-Over t c =
    let a = c.args in
    let e = env_of a.tables.now a.layout.now a.strings.now a.blob.now a.owners.now in
    let T = type e a.left in
    let level = type-level e a.left c.requires.left_nonzero.0 in
    let came = turns.came c.in-Ok.ensures in
    let went = rw c.in_ok-rest-in-Ok.ensures.1 at (passes_over (rw c.in-Over.is at c.in_ok-next-in-Ok.ensures)) in
    c.loop-p.invariant.4 _ (levels.level-over T level came.moved refl c.in_ok-rest-in-Ok.ensures.0 went (rw c.in-Ok-Over.field-0-is at c.in-Ok-Over.ensures))

pub over_level-returns-in-Err-ascend : goal.over_level-returns-in-Err-ascend
over_level-returns-in-Err-ascend t c =
    let a = c.args in
    let e = env_of a.tables.now a.layout.now a.strings.now a.blob.now a.owners.now in
    let T = type e a.left in
    let level = type-level e a.left c.requires.left_nonzero.0 in
    let came = turns.came c.in-Ok.ensures in
    let went = rw c.in_ok-rest-in-Ok.ensures.1 at (passes_over (rw c.in-Over.is at c.in_ok-next-in-Ok.ensures)) in
    c.loop-p.invariant.4 _ (levels.level-broken T level came.moved refl c.in_ok-rest-in-Ok.ensures.0 went c.in-Err-ascend.ensures)

pub over_level-returns-in-Failed : goal.over_level-returns-in-Failed
over_level-returns-in-Failed t c =
    let a = c.args in
    let e = env_of a.tables.now a.layout.now a.strings.now a.blob.now a.owners.now in
    let T = type e a.left in
    let level = type-level e a.left c.requires.left_nonzero.0 in
    let came = turns.came c.in-Ok.ensures in
    c.loop-p.invariant.4 _ (levels.level-failed T level came.moved refl c.in_ok-rest-in-Ok.ensures.0 (rw c.in_ok-rest-in-Ok.ensures.1 at (passes-failed (rw c.in-Failed.is at c.in_ok-next-in-Ok.ensures))))

pub over_level-returns-in_err-next-in-Ok : goal.over_level-returns-in_err-next-in-Ok
over_level-returns-in_err-next-in-Ok t c =
    let a = c.args in
    let e = env_of a.tables.now a.layout.now a.strings.now a.blob.now a.owners.now in
    let T = type e a.left in
    let level = type-level e a.left c.requires.left_nonzero.0 in
    let came = turns.came c.in-Ok.ensures in
    rw c.from_residual-in_err-next-in-Ok.ensures (c.loop-p.invariant.4 _ (levels.level-spent T level came.moved refl c.in_ok-rest-in-Ok.ensures.0 (rw c.in_ok-rest-in-Ok.ensures.1 at (passes-spent c.in_err-next-in-Ok.ensures))))

pub over_level-returns-in_err-rest-in-Err : goal.over_level-returns-in_err-rest-in-Err
over_level-returns-in_err-rest-in-Err t c =
    let a = c.args in
    let e = env_of a.tables.now a.layout.now a.strings.now a.blob.now a.owners.now in
    let T = type e a.left in
    let level = type-level e a.left c.requires.left_nonzero.0 in
    rw c.from_residual-in_err-rest-in-Err.ensures (c.loop-p.invariant.4 _ (levels.level-torn-spent T level c.in-Err.ensures refl (omega (arith, c.in_err-rest-in-Err.ensures))))

pub over_level-returns-in-Err : goal.over_level-returns-in-Err
over_level-returns-in-Err t c =
    let a = c.args in
    let e = env_of a.tables.now a.layout.now a.strings.now a.blob.now a.owners.now in
    let T = type e a.left in
    let level = type-level e a.left c.requires.left_nonzero.0 in
    rw c.in_ok-rest-in-Err.ensures.1 (c.loop-p.invariant.4 _ (levels.level-torn T level c.in-Err.ensures refl c.in_ok-rest-in-Err.ensures.0))

pub over_level-returns : goal.over_level-returns
over_level-returns t c =
    let a = c.args in
    let e = env_of a.tables.now a.layout.now a.strings.now a.blob.now a.owners.now in
    let T = type e a.left in
    let level = type-level e a.left c.requires.left_nonzero.0 in
    let past = passes-failed (forms.type-past e a.left a.sig.now c.loop-p.p c.loop-p.have c.loop-p-test.false) in
    c.loop-p.invariant.4 _ (levels.level-past T level a.sig.now c.loop-p.p (stack c.loop-p.slots c.loop-p.n) past)

pub over_many-over_level-requires : goal.over_many-over_level-requires
over_many-over_level-requires t c = (omega (arith, c.decreases), (c.requires.laid, (c.requires.left_nonzero.0, c.requires.left_nonzero.1, omega arith)))

pub over_many-returns : goal.over_many-returns
over_many-returns t c = c.over_level.ensures

pub over_method-over_next-requires : goal.over_method-over_next-requires
over_method-over_next-requires t c =
    let a = c.args in
    let x = c.in-Ok.ensures in
    (omega (arith, c.decreases, forms.start-ahead a.sig.now a.pos x), c.requires)

pub over_method-over_parameters-requires : goal.over_method-over_parameters-requires
over_method-over_parameters-requires t c =
    let a = c.args in
    let e = env_of a.tables.now a.layout.now a.strings.now a.blob.now a.owners.now in
    let x = c.in-Ok.ensures in
    let went = passes_over (rw c.in-Over.is at c.in_ok-next-in-Ok.ensures) in
    (omega (arith, c.decreases, forms.start-ahead a.sig.now a.pos x, forms.over-ahead a.sig.now _ e a.left went), c.requires)

pub over_method-returns-in-Over : goal.over_method-returns-in-Over
over_method-returns-in-Over t c =
    let a = c.args in
    let e = env_of a.tables.now a.layout.now a.strings.now a.blob.now a.owners.now in
    let T = type e a.left in
    let x = c.in-Ok.ensures in
    forms.pointer-passes T a.sig.now a.pos x (passes_over (rw c.in-Over.is at c.in_ok-next-in-Ok.ensures)) c.over_parameters.ensures

pub over_method-returns-in-Failed : goal.over_method-returns-in-Failed
over_method-returns-in-Failed t c =
    let a = c.args in
    let e = env_of a.tables.now a.layout.now a.strings.now a.blob.now a.owners.now in
    let T = type e a.left in
    let x = c.in-Ok.ensures in
    forms.pointer-failed T a.sig.now a.pos x (passes-failed (rw c.in-Failed.is at c.in_ok-next-in-Ok.ensures))

pub over_method-returns-in_err-next-in-Ok : goal.over_method-returns-in_err-next-in-Ok
over_method-returns-in_err-next-in-Ok t c =
    let a = c.args in
    let e = env_of a.tables.now a.layout.now a.strings.now a.blob.now a.owners.now in
    let T = type e a.left in
    let x = c.in-Ok.ensures in
    rw c.from_residual.ensures (forms.pointer-spent T a.sig.now a.pos x (passes-spent c.in_err-next-in-Ok.ensures))

pub over_method-returns-in-Err : goal.over_method-returns-in-Err
over_method-returns-in-Err t c =
    let a = c.args in
    let e = env_of a.tables.now a.layout.now a.strings.now a.blob.now a.owners.now in
    let T = type e a.left in
    forms.pointer-uncounted T a.sig.now a.pos (c.in-Err.ensures)

pub over_name-over_type-requires : goal.over_name-over_type-requires
over_name-over_type-requires t c =
    let a = c.args in
    let there = blob-there (c.spec_blob.ensures a.strings.now) c.in-Some.is in
    (omega (arith, c.decreases, cut-shorter _ _ _ _ there.1 c.cut-spec.ensures), c.requires)

pub over_name-returns-in-0 : goal.over_name-returns-in-0
unfolding env_in
over_name-returns-in-0 t c =
    let a = c.args in
    let e = env_of a.tables.now a.layout.now a.strings.now a.blob.now a.owners.now in
    let T = type e a.left in
    forms.name-def e T a.index c.in-0.is (c.tell.ensures _ (c.has_class_name.ensures a.blob.now))

pub over_name-returns-in-1 : goal.over_name-returns-in-1
unfolding env_in
over_name-returns-in-1 t c =
    let a = c.args in
    let e = env_of a.tables.now a.layout.now a.strings.now a.blob.now a.owners.now in
    let T = type e a.left in
    forms.name-ref e T a.index c.in-1.is (c.tell-in-1.ensures _ (c.has_ref_name.ensures a.blob.now))

pub over_name-returns-in-Some : goal.over_name-returns-in-Some
unfolding env_in
over_name-returns-in-Some t c =
    let a = c.args in
    let e = env_of a.tables.now a.layout.now a.strings.now a.blob.now a.owners.now in
    let T = type e a.left in
    let there = blob-there (c.spec_blob.ensures a.strings.now) c.in-Some.is in
    forms.name-spec e T a.index c.in-2.is there.0 (cut-is _ _ _ _ there.1 c.cut-spec.ensures).bytes c.over_type.ensures

pub over_name-returns-in-None : goal.over_name-returns-in-None
unfolding env_in
over_name-returns-in-None t c =
    let a = c.args in
    let e = env_of a.tables.now a.layout.now a.strings.now a.blob.now a.owners.now in
    let T = type e a.left in
    forms.name-blobless e T a.index c.in-2.is (blob-missing (c.spec_blob.ensures a.strings.now) c.in-None.is)

pub over_name-returns-in_default : goal.over_name-returns-in_default
over_name-returns-in_default t c =
    let a = c.args in
    let e = env_of a.tables.now a.layout.now a.strings.now a.blob.now a.owners.now in
    let T = type e a.left in
    forms.name-none e T a.index c.in_default.in_default-own.rest.0.0.1 c.in_default.in_default-own.rest.0.1 c.in_default.in_default-own.rest.1

pub over_next-overflow_add-result : goal.over_next-overflow_add-result
over_next-overflow_add-result t c =
    let alone = c.is_simple.ensures c.if-is_simple.true in
    omega (arith, alone.inside)

pub over_next-overflow_sub-result : goal.over_next-overflow_sub-result
over_next-overflow_sub-result t c =
    let alone = c.is_simple.ensures c.if-is_simple.true in
    omega (arith, alone.step)

pub over_next-returns-then-is_simple : goal.over_next-returns-then-is_simple
over_next-returns-then-is_simple t c =
    let a = c.args in
    let e = env_of a.tables.now a.layout.now a.strings.now a.blob.now a.owners.now in
    forms.simple-passes e (c.is_simple.ensures c.if-is_simple.true)

pub over_next-over_type-requires : goal.over_next-over_type-requires
over_next-over_type-requires t c = (omega (arith, c.decreases), c.requires)

pub over_next-returns : goal.over_next-returns
over_next-returns t c = c.over_type.ensures

pub over_parameters-loop-init : goal.over_parameters-loop-init
over_parameters-loop-init t c = (le_refl _, λ r h. rw sub-zero at h)

pub over_parameters-over_next-requires : goal.over_parameters-over_next-requires
over_parameters-over_next-requires t c = (omega (arith, c.decreases, c.loop.invariant.0), c.requires)

pub over_parameters-loop-preserved : goal.over_parameters-loop-preserved
over_parameters-loop-preserved t c =
    let a = c.args in
    let e = env_of a.tables.now a.layout.now a.strings.now a.blob.now a.owners.now in
    let T = type e a.left in
    let h = c.loop in
    let n = a.count in
    let step : n - h.counter ≡ suc (n - (h.counter + 1)) = omega (arith, c.loop-test.true) in
    elim c.match-branch-2.branch [
      | over_parameters-in-Over w ↦
          let went = passes_over (rw w.in-Over.is at c.in_ok-next.ensures) in
          rw (w.p-is, w.have-is)
          (le_trans h.invariant.0 (forms.over-ahead a.sig.now h.p e a.left went), λ r k. h.invariant.1 r (forms.parameters-over T a.sig.now h.p h.counter (n - (h.counter + 1)) step went k))
      | over_parameters-in-Failed w ↦
          let stopped = passes-failed (rw w.in-Failed.is at c.in_ok-next.ensures) in
          rw (w.p-is, w.have-is)
          (le_trans h.invariant.0 (forms.failed-ahead a.sig.now h.p e a.left stopped), λ r k. h.invariant.1 r (forms.parameters-failed T a.sig.now h.p h.counter (n - (h.counter + 1)) step stopped k))
    ]

pub over_parameters-returns-in_err-next : goal.over_parameters-returns-in_err-next
over_parameters-returns-in_err-next t c =
    let a = c.args in
    let e = env_of a.tables.now a.layout.now a.strings.now a.blob.now a.owners.now in
    let T = type e a.left in
    let h = c.loop in
    let n = a.count in
    let step : n - h.counter ≡ suc (n - (h.counter + 1)) = omega (arith, c.loop-test.true) in
    rw c.from_residual.ensures (h.invariant.1 _ (forms.parameters-spent T a.sig.now h.p h.counter (n - (h.counter + 1)) step (passes-spent c.in_err-next.ensures)))

pub over_parameters-returns : goal.over_parameters-returns
over_parameters-returns t c =
    let a = c.args in
    let e = env_of a.tables.now a.layout.now a.strings.now a.blob.now a.owners.now in
    let T = type e a.left in
    let h = c.loop in
    let n = a.count in
    let z : n - h.counter ≡ 0 = omega (arith, c.loop-test.false) in
    h.invariant.1 _ (forms.no-parameters T a.sig.now h.p h.counter z)

pub over_type-loop-p-init : goal.over_type-loop-p-init
over_type-loop-p-init t c = (le_refl _, le_refl _, λ r h. h)

pub over_type-returns-then-have-eq0 : goal.over_type-returns-then-have-eq0
over_type-returns-then-have-eq0 t c =
    let a = c.args in
    let e = env_of a.tables.now a.layout.now a.strings.now a.blob.now a.owners.now in
    let h = c.loop-p in
    h.invariant.2 _ (forms.type-spent e h.deep a.sig.now h.p h.have c.loop-p-test.true c.if-have-eq0.true)

pub over_type-returns-then-deep-eq0 : goal.over_type-returns-then-deep-eq0
over_type-returns-then-deep-eq0 t c =
    let a = c.args in
    let e = env_of a.tables.now a.layout.now a.strings.now a.blob.now a.owners.now in
    let h = c.loop-p in
    h.invariant.2 _ (forms.type-deep e h.deep a.sig.now h.p h.have c.loop-p-test.true c.if-have-eq0.false c.if-deep-eq0.true)

pub over_type-returns-then-is_simple : goal.over_type-returns-then-is_simple
over_type-returns-then-is_simple t c =
    let a = c.args in
    let e = env_of a.tables.now a.layout.now a.strings.now a.blob.now a.owners.now in
    let h = c.loop-p in
    h.invariant.2 _ (forms.type-simple e a.sig.now c.loop-p-test.true c.if-deep-eq0.false c.if-have-eq0.false (sym c.is_simple.ensures ∙ c.if-is_simple.true))

pub over_type-loop-p-smaller-in-29 : goal.over_type-loop-p-smaller-in-29
over_type-loop-p-smaller-in-29 t c = omega (arith, c.loop-p-test.true)

pub over_type-loop-p-preserved-in-29 : goal.over_type-loop-p-preserved-in-29
over_type-loop-p-preserved-in-29 t c =
    let a = c.args in
    let e = env_of a.tables.now a.layout.now a.strings.now a.blob.now a.owners.now in
    let h = c.loop-p in
    (omega (arith, h.invariant.0), h.invariant.1, λ r k. h.invariant.2 r (forms.type-vector e a.sig.now c.loop-p-test.true c.if-deep-eq0.false c.if-have-eq0.false c.in-29.is k))

pub over_type-returns-in-19 : goal.over_type-returns-in-19
over_type-returns-in-19 t c =
    let a = c.args in
    let e = env_of a.tables.now a.layout.now a.strings.now a.blob.now a.owners.now in
    let h = c.loop-p in
    h.invariant.2 _ (forms.type-var _ _ _ _ _ _ a.sig.now c.loop-p-test.true c.if-deep-eq0.false c.if-have-eq0.false c.in-19.is (c.over_var.ensures a.blob.now))

pub over_type-over_array-requires : goal.over_type-over_array-requires
over_type-over_array-requires t c = (omega (arith, c.decreases, c.loop-p.invariant.0, c.loop-p.invariant.1, c.loop-p-test.true, c.if-deep-eq0.false), c.requires)

pub over_type-returns-in-20 : goal.over_type-returns-in-20
over_type-returns-in-20 t c =
    let a = c.args in
    let e = env_of a.tables.now a.layout.now a.strings.now a.blob.now a.owners.now in
    let h = c.loop-p in
    h.invariant.2 _ (forms.type-array e a.sig.now c.loop-p-test.true c.if-deep-eq0.false c.if-have-eq0.false c.in-20.is c.over_array.ensures)

pub over_type-over_few-requires : goal.over_type-over_few-requires
over_type-over_few-requires t c =
    let lt = c.loop-p-test.true in
    (omega (arith, c.decreases, c.loop-p.invariant.0, c.loop-p.invariant.1, lt), (c.requires, (omega (arith, c.if-deep-eq0.false), λ o. o.no-generic lt c.in-21.is)))

pub over_type-returns-in-21 : goal.over_type-returns-in-21
over_type-returns-in-21 t c = c.loop-p.invariant.2 _ c.over_few.ensures

pub over_type-over_method-requires : goal.over_type-over_method-requires
over_type-over_method-requires t c = (omega (arith, c.decreases, c.loop-p.invariant.0, c.loop-p.invariant.1, c.loop-p-test.true, c.if-deep-eq0.false), c.requires)

pub over_type-returns-in-27 : goal.over_type-returns-in-27
over_type-returns-in-27 t c =
    let a = c.args in
    let e = env_of a.tables.now a.layout.now a.strings.now a.blob.now a.owners.now in
    let h = c.loop-p in
    h.invariant.2 _ (forms.type-pointer e a.sig.now c.loop-p-test.true c.if-deep-eq0.false c.if-have-eq0.false c.in-27.is c.over_method.ensures)

pub over_type-loop-p-smaller-then-tag-lt17 : goal.over_type-loop-p-smaller-then-tag-lt17
over_type-loop-p-smaller-then-tag-lt17 t c = omega (arith, c.loop-p-test.true)

pub over_type-loop-p-preserved-then-tag-lt17 : goal.over_type-loop-p-preserved-then-tag-lt17
over_type-loop-p-preserved-then-tag-lt17 t c =
    let a = c.args in
    let e = env_of a.tables.now a.layout.now a.strings.now a.blob.now a.owners.now in
    let h = c.loop-p in
    (omega (arith, h.invariant.0), omega (arith, h.invariant.1), λ r k. h.invariant.2 r (forms.type-deeper e a.sig.now c.loop-p-test.true c.if-deep-eq0.false c.if-have-eq0.false c.in-15.if-tag-lt15-own.false c.in-15.if-tag-lt17-own.true k))

pub over_type-over_class-requires : goal.over_type-over_class-requires
over_type-over_class-requires t c = (omega (arith, c.decreases, c.loop-p.invariant.0, c.loop-p.invariant.1, c.loop-p-test.true, c.if-deep-eq0.false), c.requires)

pub over_type-returns-in-17 : goal.over_type-returns-in-17
over_type-returns-in-17 t c =
    let a = c.args in
    let e = env_of a.tables.now a.layout.now a.strings.now a.blob.now a.owners.now in
    let h = c.loop-p in
    h.invariant.2 _ (forms.type-class e a.sig.now c.loop-p-test.true c.if-deep-eq0.false c.if-have-eq0.false c.in-17.if-tag-lt17-own.false c.in-17.if-tag-lt19-own.true c.over_class.ensures)

pub over_type-returns-in-Err : goal.over_type-returns-in-Err
over_type-returns-in-Err t c =
    let a = c.args in
    let e = env_of a.tables.now a.layout.now a.strings.now a.blob.now a.owners.now in
    let h = c.loop-p in
    let no = c.in-31.in_default-own.rest in
    let no-1E : get_or a.sig.now h.p 0 ≡ 0x1E → ⊥ = λ z. no.0.0.0.1 (inr z) in
    let lo : 0x1F ≤ get_or a.sig.now h.p 0 = omega (arith, c.in-31.if-tag-lt29-own.false, no.0.0.0.0.1, no-1E) in
    h.invariant.2 _ (forms.type-torn e a.sig.now c.loop-p-test.true c.if-deep-eq0.false c.if-have-eq0.false lo c.in-31.if-tag-lt33-own.true (c.in-Err.ensures))

pub over_type-loop-p-smaller : goal.over_type-loop-p-smaller
over_type-loop-p-smaller t c =
    let a = c.args in
    let e = env_of a.tables.now a.layout.now a.strings.now a.blob.now a.owners.now in
    let h = c.loop-p in
    let x = c.in-Ok.ensures in
    omega (arith, c.loop-p-test.true, forms.uint-ahead a.sig.now (h.p + 1) x)

pub over_type-loop-p-preserved : goal.over_type-loop-p-preserved
over_type-loop-p-preserved t c =
    let a = c.args in
    let e = env_of a.tables.now a.layout.now a.strings.now a.blob.now a.owners.now in
    let h = c.loop-p in
    let no = c.in-31.in_default-own.rest in
    let no-1E : get_or a.sig.now h.p 0 ≡ 0x1E → ⊥ = λ z. no.0.0.0.1 (inr z) in
    let lo : 0x1F ≤ get_or a.sig.now h.p 0 = omega (arith, c.in-31.if-tag-lt29-own.false, no.0.0.0.0.1, no-1E) in
    let x = c.in-Ok.ensures in
    (omega (arith, h.invariant.0, forms.uint-ahead a.sig.now (h.p + 1) x), h.invariant.1, λ r k. h.invariant.2 r (forms.type-modified e a.sig.now c.loop-p-test.true c.if-deep-eq0.false c.if-have-eq0.false lo c.in-31.if-tag-lt33-own.true x k))

pub over_type-returns-in_default : goal.over_type-returns-in_default
over_type-returns-in_default t c =
    let a = c.args in
    let e = env_of a.tables.now a.layout.now a.strings.now a.blob.now a.owners.now in
    let h = c.loop-p in
    let no = c.in_default.in_default-own.rest in
    let tag = get_or a.sig.now h.p 0 in
    let x = alone-tag tag (inl c.in_default.if-tag-lt15-own.true) no.0.0.0.1 no.0.0.1 no.0.1 no.1 no.0.0.0.0.1 (λ z. absurd (omega (arith, z, c.in_default.if-tag-lt15-own.true))) (λ z. absurd (omega (arith, z, c.in_default.if-tag-lt15-own.true))) in
    h.invariant.2 _ (forms.type-unknown e a.sig.now c.loop-p-test.true c.if-deep-eq0.false c.if-have-eq0.false x (sym c.is_simple.ensures ∙ c.if-is_simple.false))

pub over_type-returns-in_default-2 : goal.over_type-returns-in_default-2
over_type-returns-in_default-2 t c =
    let a = c.args in
    let e = env_of a.tables.now a.layout.now a.strings.now a.blob.now a.owners.now in
    let h = c.loop-p in
    let no = c.in_default.in_default-own.rest in
    let tag = get_or a.sig.now h.p 0 in
    let x = alone-tag tag (inr c.in_default.if-tag-lt19-own.false) no.0.0.0.1 no.0.0.1 no.0.1 no.1 no.0.0.0.0.1 (λ z. absurd (omega (arith, z, c.in_default.if-tag-lt29-own.true))) (λ z. absurd (omega (arith, z, c.in_default.if-tag-lt29-own.true))) in
    h.invariant.2 _ (forms.type-unknown e a.sig.now c.loop-p-test.true c.if-deep-eq0.false c.if-have-eq0.false x (sym c.is_simple.ensures ∙ c.if-is_simple.false))

pub over_type-returns-in_default-3 : goal.over_type-returns-in_default-3
over_type-returns-in_default-3 t c =
    let a = c.args in
    let e = env_of a.tables.now a.layout.now a.strings.now a.blob.now a.owners.now in
    let h = c.loop-p in
    let no = c.in_default.in_default-own.rest in
    let tag = get_or a.sig.now h.p 0 in
    let x = alone-tag tag (inr c.in_default.if-tag-lt19-own.false) no.0.0.0.1 no.0.0.1 no.0.1 no.1 no.0.0.0.0.1 (λ z. absurd (omega (arith, z, c.in_default.if-tag-lt33-own.false))) (λ z. absurd (omega (arith, z, c.in_default.if-tag-lt33-own.false))) in
    h.invariant.2 _ (forms.type-unknown e a.sig.now c.loop-p-test.true c.if-deep-eq0.false c.if-have-eq0.false x (sym c.is_simple.ensures ∙ c.if-is_simple.false))

pub over_type-returns : goal.over_type-returns
over_type-returns t c =
    let a = c.args in
    let e = env_of a.tables.now a.layout.now a.strings.now a.blob.now a.owners.now in
    let h = c.loop-p in
    h.invariant.2 _ (forms.type-past e h.deep a.sig.now h.p h.have c.loop-p-test.false)
