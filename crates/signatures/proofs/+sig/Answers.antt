-- The cycle of the type name, the signature type and the method signature, with their loops.
use mathlib.Core.Path.{sym, ap, ◌∙◌, refl, ◌≡◌}
use Prim.Native.Nat.{◌+◌, ◌-◌, ◌<◌, ◌≤◌, zero-le, suc}
use native.Mathlib.Omega.{arith}
use Rattle.record.specs.Types.{type, form, look}
use Rattle.rendering.proofs.Laws.{rendered-failed, text_in, text_out}
use Rattle.signatures.specs.Environment.{env_of, env_in}
use lib.ListN.{get_or}
use Rattle.buffers.specs.Writes.{place_says}
use mathlib.Core.Logic.{◌⊎◌, inl, inr}
use Rattle.frames.specs.Stack.{stack}
use native.Mathlib.Nat.{sub-zero, le_refl, le_trans, pos_of_ne-zero}
use Rattle.shapes.proofs.Laws.{run-leads, run-plain, run-stops}
use Rattle.numbers.proofs.Parts.{cut-is}
use Rattle.buffers.proofs.Writing.{kept_same, said-missing}
use Rattle.sig_leaves.proofs.Specs.{blob-there, blob-missing}
use Rattle.std.proofs.lemmas.Result.{err_from_is_err_and}
use Rattle.signatures.proofs.Forms as forms
use Rattle.frames.proofs.Turns as turns
use Rattle.frames.proofs.Rendering as rendering
use Rattle.signatures.proofs.+sig.Goals as goal
use Rattle.signatures.proofs.+sig.Goals.{sig_parameters-in-Ok, sig_parameters-in-Err, sig_form-in_default-via-then-tag-lt15, sig_form-in_default-via-else-tag-lt15+else-tag-lt17+else-tag-lt19}

pub parse_method_def_signature-sig_type-requires : goal.parse_method_def_signature-sig_type-requires
parse_method_def_signature-sig_type-requires t c =
    let a = c.args in
    (omega (arith, c.decreases, forms.start-ahead a.sig.now a.pos c.in_ok-count.ensures), c.requires)

pub parse_method_def_signature-sig_parameters-requires : goal.parse_method_def_signature-sig_parameters-requires
parse_method_def_signature-sig_parameters-requires t c =
    let a = c.args in
    let e = env_of a.tables.now a.layout.now a.strings.now a.blob.now a.owners.now in
    let s = a.sig.now in
    let t = text_in c.in_ok-end.ensures in
    (omega (arith, c.decreases, forms.start-ahead s a.pos c.in_ok-count.ensures, forms.type-ahead s _ e a.left t), (c.requires, omega (arith, c.push-inner.ensures.place, c.push-inner.ensures.keeps.long)))

pub parse_method_def_signature-returns : goal.parse_method_def_signature-returns
parse_method_def_signature-returns t c =
    let a = c.args in
    let e = env_of a.tables.now a.layout.now a.strings.now a.blob.now a.owners.now in
    let T = type e a.left in
    let s = a.sig.now in
    forms.pointer-done T s a.pos c.in_ok-count.ensures c.push-open.ensures (text_in c.in_ok-end.ensures) c.push-inner.ensures (text_in c.in_ok-close.ensures) c.push.ensures

pub parse_method_def_signature-returns-in_err-close : goal.parse_method_def_signature-returns-in_err-close
parse_method_def_signature-returns-in_err-close t c =
    let a = c.args in
    let e = env_of a.tables.now a.layout.now a.strings.now a.blob.now a.owners.now in
    let T = type e a.left in
    let s = a.sig.now in
    let up = err_from_is_err_and c.from_residual-in_err-close.result c.from_residual-in_err-close.ensures.1 in
    rw (up.1, up.2)
    (forms.pointer-cut T s a.pos c.in_ok-count.ensures c.push-open.ensures (text_in c.in_ok-end.ensures) c.push-inner.ensures (text_out c.in_err-close.ensures))

pub parse_method_def_signature-returns-in_err-end : goal.parse_method_def_signature-returns-in_err-end
parse_method_def_signature-returns-in_err-end t c =
    let a = c.args in
    let e = env_of a.tables.now a.layout.now a.strings.now a.blob.now a.owners.now in
    let T = type e a.left in
    let s = a.sig.now in
    let up = err_from_is_err_and c.from_residual-in_err-end.result c.from_residual-in_err-end.ensures.1 in
    rw (up.1, up.2)
    (forms.pointer-failed T s a.pos c.in_ok-count.ensures c.push-open.ensures (text_out c.in_err-end.ensures))

pub parse_method_def_signature-returns-in_err-count : goal.parse_method_def_signature-returns-in_err-count
parse_method_def_signature-returns-in_err-count t c =
    let a = c.args in
    let e = env_of a.tables.now a.layout.now a.strings.now a.blob.now a.owners.now in
    let T = type e a.left in
    let s = a.sig.now in
    let up = err_from_is_err_and c.from_residual.result c.from_residual.ensures.1 in
    rw (up.1, up.2)
    (forms.pointer-uncounted T s a.pos _ c.in_err-count.ensures)

pub sig_around-sig_type-requires : goal.sig_around-sig_type-requires
sig_around-sig_type-requires t c = (omega (arith, c.decreases), c.requires)

pub sig_around-returns : goal.sig_around-returns
sig_around-returns t c =
    let a = c.args in
    let e = env_of a.tables.now a.layout.now a.strings.now a.blob.now a.owners.now in
    let T = type e a.left in
    let s = a.sig.now in
    forms.around-done T s a.pos _ _ c.push_before-first.ensures (text_in c.in_ok-end.ensures) c.push_behind.ensures

pub sig_around-returns-in_err-end : goal.sig_around-returns-in_err-end
sig_around-returns-in_err-end t c =
    let a = c.args in
    let e = env_of a.tables.now a.layout.now a.strings.now a.blob.now a.owners.now in
    let T = type e a.left in
    let s = a.sig.now in
    let up = err_from_is_err_and c.from_residual.result c.from_residual.ensures.1 in
    rw (up.1, up.2)
    (forms.around-failed T s a.pos _ _ c.push_before-first.ensures (text_out c.in_err-end.ensures))

pub sig_array-sig_type-requires : goal.sig_array-sig_type-requires
sig_array-sig_type-requires t c = (omega (arith, c.decreases), c.requires)

pub sig_array-returns : goal.sig_array-returns
sig_array-returns t c =
    let a = c.args in
    let e = env_of a.tables.now a.layout.now a.strings.now a.blob.now a.owners.now in
    let T = type e a.left in
    let s = a.sig.now in
    forms.array-shaped T s a.pos (text_in c.in_ok-end.ensures) c.push_shape.ensures

pub sig_array-returns-in_err-end : goal.sig_array-returns-in_err-end
sig_array-returns-in_err-end t c =
    let a = c.args in
    let e = env_of a.tables.now a.layout.now a.strings.now a.blob.now a.owners.now in
    let T = type e a.left in
    let s = a.sig.now in
    let up = err_from_is_err_and c.from_residual.result c.from_residual.ensures.1 in
    rw (up.1, up.2)
    (forms.array-failed T s a.pos (text_out c.in_err-end.ensures))

pub sig_class-type_name-requires : goal.sig_class-type_name-requires
sig_class-type_name-requires t c = (omega (arith, c.decreases, c.well_formed.1.1.1.1.0.1), c.requires)

pub sig_class-returns-in-Some : goal.sig_class-returns-in-Some
sig_class-returns-in-Some t c =
    let a = c.args in
    let e = env_of a.tables.now a.layout.now a.strings.now a.blob.now a.owners.now in
    let T = type e a.left in
    let s = a.sig.now in
    forms.class-done e T s a.pos _ _ c.in_ok-index.ensures (rw (ap place_says c.in-Some.is) at c.type_name.ensures)

pub sig_class-returns-in-None : goal.sig_class-returns-in-None
sig_class-returns-in-None t c =
    let a = c.args in
    let e = env_of a.tables.now a.layout.now a.strings.now a.blob.now a.owners.now in
    let T = type e a.left in
    let s = a.sig.now in
    forms.class-missing e T s a.pos _ _ c.in_ok-index.ensures (rw (ap place_says c.in-None.is) at c.type_name.ensures)

pub sig_class-returns-in_err-index : goal.sig_class-returns-in_err-index
sig_class-returns-in_err-index t c =
    let a = c.args in
    let e = env_of a.tables.now a.layout.now a.strings.now a.blob.now a.owners.now in
    let T = type e a.left in
    let s = a.sig.now in
    let up = err_from_is_err_and c.from_residual.result c.from_residual.ensures.1 in
    rw (up.1, up.2)
    (forms.class-unread e T s a.pos _ c.in_err-index.ensures)

pub sig_few-sig_level-requires : goal.sig_few-sig_level-requires
sig_few-sig_level-requires t c = (omega (arith, c.decreases), (c.requires.laid, (c.requires.left_nonzero.0, c.requires.left_nonzero.1, omega arith)))

pub sig_few-shape_of-buf : goal.sig_few-shape_of-buf
sig_few-shape_of-buf t c = c.sig_level.auto.buf

pub sig_few-returns : goal.sig_few-returns
sig_few-returns t c = c.sig_level.ensures

pub sig_form-sig_array-requires : goal.sig_form-sig_array-requires
sig_form-sig_array-requires t c =
    let r = c.requires.left_nonzero in
    (omega (arith, c.decreases, r.0, r.2), c.requires.laid)

pub sig_form-parse_method_def_signature-requires : goal.sig_form-parse_method_def_signature-requires
sig_form-parse_method_def_signature-requires t c =
    let r = c.requires.left_nonzero in
    (omega (arith, c.decreases, r.0, r.2), c.requires.laid)

pub sig_form-sig_around-requires : goal.sig_form-sig_around-requires
sig_form-sig_around-requires t c =
    let r = c.requires.left_nonzero in
    (omega (arith, c.decreases, r.0, r.2), c.requires.laid)

pub sig_form-sig_class-requires : goal.sig_form-sig_class-requires
sig_form-sig_class-requires t c =
    let r = c.requires.left_nonzero in
    (omega (arith, c.decreases, r.0, r.2), c.requires.laid)

pub sig_form-returns-in-19 : goal.sig_form-returns-in-19
sig_form-returns-in-19 t c =
    let a = c.args in
    let e = env_of a.tables.now a.layout.now a.strings.now a.blob.now a.owners.now in
    let r = c.requires.left_nonzero in
    forms.type-form e a.left a.sig.now a.pos (get_or a.sig.now a.pos 0) r.0 r.2 refl (forms.generic-form _ _ _ _ _ _ _ _ _ _ _ c.in-19.is (c.sig_var.ensures a.blob.now))

pub sig_form-returns-in-20 : goal.sig_form-returns-in-20
unfolding form look
sig_form-returns-in-20 t c =
    let a = c.args in
    let e = env_of a.tables.now a.layout.now a.strings.now a.blob.now a.owners.now in
    let r = c.requires.left_nonzero in
    forms.type-form e a.left a.sig.now a.pos 0x14 r.0 r.2 (sym c.in-20.is) c.sig_array.ensures

pub sig_form-returns-in-27 : goal.sig_form-returns-in-27
unfolding form look
sig_form-returns-in-27 t c =
    let a = c.args in
    let e = env_of a.tables.now a.layout.now a.strings.now a.blob.now a.owners.now in
    let r = c.requires.left_nonzero in
    forms.type-form e a.left a.sig.now a.pos 0x1B r.0 r.2 (sym c.in-27.is) c.parse_method_def_signature.ensures

pub sig_form-returns-in-15 : goal.sig_form-returns-in-15
sig_form-returns-in-15 t c =
    let a = c.args in
    let e = env_of a.tables.now a.layout.now a.strings.now a.blob.now a.owners.now in
    let r = c.requires.left_nonzero in
    forms.type-form e a.left a.sig.now a.pos (get_or a.sig.now a.pos 0) r.0 r.2 refl (forms.around-form e _ _ _ _ _ c.in-15.if-tag-lt15-own.false c.in-15.if-tag-lt17-own.true c.sig_around.ensures)

pub sig_form-returns-in-17 : goal.sig_form-returns-in-17
sig_form-returns-in-17 t c =
    let a = c.args in
    let e = env_of a.tables.now a.layout.now a.strings.now a.blob.now a.owners.now in
    let r = c.requires.left_nonzero in
    forms.type-form e a.left a.sig.now a.pos (get_or a.sig.now a.pos 0) r.0 r.2 refl (forms.class-form e _ _ _ _ _ c.in-17.if-tag-lt17-own.false c.in-17.if-tag-lt19-own.true c.sig_class.ensures)

pub sig_form-returns-in_default : goal.sig_form-returns-in_default
sig_form-returns-in_default t c =
    let a = c.args in
    let e = env_of a.tables.now a.layout.now a.strings.now a.blob.now a.owners.now in
    let r = c.requires.left_nonzero in
    let no = c.in_default-1.rest in
    let out : (get_or a.sig.now a.pos 0 < 0x0F) ⊎ (0x13 ≤ get_or a.sig.now a.pos 0) = elim c.in_default.branch [
      | sig_form-in_default-via-then-tag-lt15 w ↦ inl (omega arith)
      | sig_form-in_default-via-else-tag-lt15+else-tag-lt17+else-tag-lt19 w ↦ inr (omega arith)
    ] in
    let x = forms.alone-tag (get_or a.sig.now a.pos 0) out no.0.0.1 no.0.1 r.3 no.1 (r.1.no-vector r.2) (r.1.no-required r.2) (r.1.no-optional r.2) in
    forms.type-form e a.left a.sig.now a.pos _ r.0 r.2 refl (forms.alone-form e _ _ _ x _ _ c.sig_simple.ensures)

pub sig_inner-sig_many-requires : goal.sig_inner-sig_many-requires
sig_inner-sig_many-requires t c = (omega (arith, c.decreases), (c.requires.laid, (c.requires.left_nonzero.0, c.requires.left_nonzero.1 c.if-full.true)))

pub sig_inner-returns-then-full : goal.sig_inner-returns-then-full
sig_inner-returns-then-full t c = c.sig_many.ensures

pub sig_inner-sig_type-requires : goal.sig_inner-sig_type-requires
sig_inner-sig_type-requires t c = (omega (arith, c.decreases), c.requires.laid)

pub sig_inner-returns : goal.sig_inner-returns
sig_inner-returns t c = c.sig_type.ensures

pub sig_level-loop-p-init : goal.sig_level-loop-p-init
sig_level-loop-p-init t c =
    let a = c.args in
    let e = env_of a.tables.now a.layout.now a.strings.now a.blob.now a.owners.now in
    (omega arith, zero-le, refl, refl, λ b' r h. rendering.level-start (type e a.left) (forms.type-level e a.left c.requires.left_nonzero.0) _ h)

pub sig_level-descend-requires : goal.sig_level-descend-requires
sig_level-descend-requires t c = c.loop-p.invariant.1

pub sig_level-returns : goal.sig_level-returns
sig_level-returns t c =
    let l = c.loop-p in
    let a = c.args in
    let e = env_of a.tables.now a.layout.now a.strings.now a.blob.now a.owners.now in
    let past = rendered-failed (forms.type-past e a.left a.sig.now l.p c.loop-p-test.false) refl in
    l.invariant.4 _ _ (rendering.level-past (type e a.left) a.sig.now l.p (stack l.slots l.n) past)

pub sig_level-sig_inner-requires : goal.sig_level-sig_inner-requires
sig_level-sig_inner-requires t c =
    let came = turns.came c.in-Ok.ensures in
    let room = c.descend.auto.frames in
    let ahead = turns.came-on came c.requires.left_nonzero.1 c.loop-p.invariant.0
    (omega (arith, room, c.loop-p.invariant.2, c.requires.left_nonzero.2)) in
    (omega (arith, c.decreases, ahead, c.loop-p.invariant.0, c.loop-p-test.true), (c.requires.laid, (c.requires.left_nonzero.0, turns.halts-full came.halts)))

pub sig_level-ascend-requires : goal.sig_level-ascend-requires
sig_level-ascend-requires t c =
    let text = text_in c.in_ok-end.ensures in
    let came = turns.came c.in-Ok.ensures in
    (omega (arith, text.wrote.place, text.wrote.keeps.long), came.room)

pub sig_level-loop-p-smaller : goal.sig_level-loop-p-smaller
sig_level-loop-p-smaller t c =
    let a = c.args in
    let e = env_of a.tables.now a.layout.now a.strings.now a.blob.now a.owners.now in
    let came = turns.came c.in-Ok.ensures in
    let text = text_in c.in_ok-end.ensures in
    let on = forms.type-beyond e a.left a.sig.now _ text in
    let more = rw c.in-Ok-More.field-0-is at c.in-Ok-More.ensures in
    let far = rendering.more-ahead more in
    omega (arith, c.loop-p-test.true, came.ahead, on, far.0)

pub sig_level-loop-p-preserved : goal.sig_level-loop-p-preserved
sig_level-loop-p-preserved t c =
    let a = c.args in
    let e = env_of a.tables.now a.layout.now a.strings.now a.blob.now a.owners.now in
    let level = forms.type-level e a.left c.requires.left_nonzero.0 in
    let came = turns.came c.in-Ok.ensures in
    let text = text_in c.in_ok-end.ensures in
    let on = forms.type-beyond e a.left a.sig.now _ text in
    let more = rw c.in-Ok-More.field-0-is at c.in-Ok-More.ensures in
    let far = rendering.more-ahead more in
    let room = c.ascend.auto.frames in (
      omega (arith, c.loop-p.invariant.0, came.few, on, far.0, far.1),
      omega (arith, came.room, far.1, room),
      room ∙ c.descend.auto.frames ∙ c.loop-p.invariant.2,
      c.ascend.auto.buf ∙ c.sig_inner.auto.buf ∙ c.loop-p.invariant.3,
      λ b' r y. c.loop-p.invariant.4 b' r (rendering.level-more (type e a.left) level came.moved text more y),
    )

pub sig_level-returns-in-Ok-Over : goal.sig_level-returns-in-Ok-Over
sig_level-returns-in-Ok-Over t c =
    let a = c.args in
    let e = env_of a.tables.now a.layout.now a.strings.now a.blob.now a.owners.now in
    let level = forms.type-level e a.left c.requires.left_nonzero.0 in
    let came = turns.came c.in-Ok.ensures in
    c.loop-p.invariant.4 _ _ (rendering.level-over (type e a.left) level came.moved (text_in c.in_ok-end.ensures) (rw c.in-Ok-Over.field-0-is at c.in-Ok-Over.ensures))

pub sig_level-returns-in-Err-ascend : goal.sig_level-returns-in-Err-ascend
sig_level-returns-in-Err-ascend t c =
    let a = c.args in
    let e = env_of a.tables.now a.layout.now a.strings.now a.blob.now a.owners.now in
    let level = forms.type-level e a.left c.requires.left_nonzero.0 in
    let came = turns.came c.in-Ok.ensures in
    c.loop-p.invariant.4 _ _ (rendering.level-broken (type e a.left) level came.moved (text_in c.in_ok-end.ensures) c.in-Err-ascend.ensures)

pub sig_level-returns-in_err-end : goal.sig_level-returns-in_err-end
sig_level-returns-in_err-end t c =
    let a = c.args in
    let e = env_of a.tables.now a.layout.now a.strings.now a.blob.now a.owners.now in
    let level = forms.type-level e a.left c.requires.left_nonzero.0 in
    let came = turns.came c.in-Ok.ensures in
    let up = err_from_is_err_and c.from_residual.result c.from_residual.ensures.1 in
    rw (up.1, up.2)
    (c.loop-p.invariant.4 _ _ (rendering.level-failed (type e a.left) level came.moved (text_out c.in_err-end.ensures)))

pub sig_level-returns-in-Err : goal.sig_level-returns-in-Err
sig_level-returns-in-Err t c =
    let a = c.args in
    let e = env_of a.tables.now a.layout.now a.strings.now a.blob.now a.owners.now in
    let level = forms.type-level e a.left c.requires.left_nonzero.0 in
    c.loop-p.invariant.4 _ _ (rendering.level-torn (type e a.left) level c.in-Err.ensures)

pub sig_many-sig_level-requires : goal.sig_many-sig_level-requires
sig_many-sig_level-requires t c = (omega (arith, c.decreases), (c.requires.laid, (c.requires.left_nonzero.0, c.requires.left_nonzero.1, omega arith)))

pub sig_many-shape_of-buf : goal.sig_many-shape_of-buf
sig_many-shape_of-buf t c = c.sig_level.auto.buf

pub sig_many-returns : goal.sig_many-returns
sig_many-returns t c = c.sig_level.ensures

pub sig_parameters-loop-i-init : goal.sig_parameters-loop-i-init
sig_parameters-loop-i-init t c = (le_refl _, c.requires.at_in_bounds, refl, λ b' r h. rw sub-zero at h)

pub sig_parameters-sig_type-requires : goal.sig_parameters-sig_type-requires
sig_parameters-sig_type-requires t c = (omega (arith, c.decreases, c.loop-i.invariant.0), c.requires.laid)

pub sig_parameters-loop-i-preserved : goal.sig_parameters-loop-i-preserved
sig_parameters-loop-i-preserved t c =
    let a = c.args in
    let e = env_of a.tables.now a.layout.now a.strings.now a.blob.now a.owners.now in
    let T = type e a.left in
    let s = a.sig.now in
    let h = c.loop-i in
    let n = a.count in
    let step : n - h.i ≡ suc (n - (h.i + 1)) = omega (arith, c.loop-i-test.true) in
    elim c.match-sig_type.branch [
      | sig_parameters-in-Ok w ↦
          let t = text_in w.in-Ok.ensures in
          rw (w.p-is, w.k-is)
          (le_trans h.invariant.0 (forms.type-ahead s h.p e a.left t), omega (arith, t.wrote.place, t.wrote.keeps.long), t.wrote.keeps.long ∙ c.push_sep-first.ensures.keeps.long ∙ h.invariant.2, λ b' r k. h.invariant.3 b' r (forms.parameters-more T s h.p h.i (n - (h.i + 1)) step c.push_sep-first.ensures t k))
      | sig_parameters-in-Err w ↦
          let t = text_out w.in-Err.ensures in
          let long = t.keeps.long ∙ c.push_sep-first.ensures.keeps.long in
          rw (w.p-is, w.k-is)
          (le_trans h.invariant.0 (forms.failed-ahead s h.p e a.left t), omega (arith, long, h.invariant.1), long ∙ h.invariant.2, λ b' r k. h.invariant.3 b' r (forms.parameters-drop T s h.p h.i (n - (h.i + 1)) step c.push_sep-first.ensures t k))
    ]

pub sig_parameters-returns : goal.sig_parameters-returns
sig_parameters-returns t c =
    let a = c.args in
    let e = env_of a.tables.now a.layout.now a.strings.now a.blob.now a.owners.now in
    let T = type e a.left in
    let s = a.sig.now in
    let h = c.loop-i in
    let n = a.count in
    let z : n - h.i ≡ 0 = omega (arith, c.loop-i-test.false) in
    h.invariant.3 _ _ (forms.parameters-none T s h.p h.i z h.invariant.1)

pub sig_plain-returns-then-sig-pos : goal.sig_plain-returns-then-sig-pos
sig_plain-returns-then-sig-pos t c =
    let a = c.args in
    let e = env_of a.tables.now a.layout.now a.strings.now a.blob.now a.owners.now in
    forms.type-past e a.left a.sig.now a.pos c.if-sig-pos.true

pub sig_plain-sig_few-requires : goal.sig_plain-sig_few-requires
sig_plain-sig_few-requires t c =
    let is = c.if-sig-pos-eq21.true in
    let lt = c.if-sig-pos.false in
    (omega (arith, c.decreases), (c.requires.laid, (c.requires.left_nonzero.0, λ o. o.no-generic (omega (arith, lt)) is)))

pub sig_plain-sig_form-requires : goal.sig_plain-sig_form-requires
sig_plain-sig_form-requires t c = (omega (arith, c.decreases, c.if-sig-pos.false), (c.requires.laid, (c.requires.left_nonzero.0, c.requires.left_nonzero.1, omega (arith, c.if-sig-pos.false), c.if-sig-pos-eq21.false)))

pub sig_type-returns-then-sig-pos : goal.sig_type-returns-then-sig-pos
sig_type-returns-then-sig-pos t c =
    let a = c.args in
    let e = env_of a.tables.now a.layout.now a.strings.now a.blob.now a.owners.now in
    forms.type-past e a.left a.sig.now a.pos c.if-sig-pos.true

pub sig_type-returns-then-left-eq0 : goal.sig_type-returns-then-left-eq0
sig_type-returns-then-left-eq0 t c =
    let a = c.args in
    let e = env_of a.tables.now a.layout.now a.strings.now a.blob.now a.owners.now in
    forms.type-deep e a.left a.sig.now a.pos c.if-left-eq0.true (omega (arith, c.if-sig-pos.false))

pub sig_type-sig_plain-requires : goal.sig_type-sig_plain-requires
sig_type-sig_plain-requires t c =
    let leads = run-leads c.in_ok-count.ensures in
    (omega (arith, c.decreases, leads.forward), (c.requires, (pos_of_ne-zero c.if-left-eq0.false, run-plain c.in_ok-count.ensures)))

pub sig_type-returns : goal.sig_type-returns
sig_type-returns t c =
    let a = c.args in
    let e = env_of a.tables.now a.layout.now a.strings.now a.blob.now a.owners.now in
    forms.run-done e a.left a.sig.now a.pos (pos_of_ne-zero c.if-left-eq0.false) _ _ (run-leads c.in_ok-count.ensures) (text_in c.in_ok-end.ensures) c.push_brackets.ensures

pub sig_type-returns-in_err-end : goal.sig_type-returns-in_err-end
sig_type-returns-in_err-end t c =
    let a = c.args in
    let e = env_of a.tables.now a.layout.now a.strings.now a.blob.now a.owners.now in
    let up = err_from_is_err_and c.from_residual-in_err-end.result c.from_residual-in_err-end.ensures.1 in
    rw (up.1, up.2)
    (forms.run-failed e a.left a.sig.now a.pos (pos_of_ne-zero c.if-left-eq0.false) _ _ (run-leads c.in_ok-count.ensures) (text_out c.in_err-end.ensures))

pub sig_type-returns-in_err-count : goal.sig_type-returns-in_err-count
sig_type-returns-in_err-count t c =
    let a = c.args in
    let e = env_of a.tables.now a.layout.now a.strings.now a.blob.now a.owners.now in
    let up = err_from_is_err_and c.from_residual.result c.from_residual.ensures.1 in
    rw (up.1, up.2)
    (forms.run-broken e a.left a.sig.now a.pos (pos_of_ne-zero c.if-left-eq0.false) _ (run-stops c.in_err-count.ensures))

pub type_name-sig_type-requires : goal.type_name-sig_type-requires
type_name-sig_type-requires t c =
    let a = c.args in
    let there = blob-there (c.spec_blob.ensures a.strings.now) c.in_ok-place-in-2.was in
    (omega (arith, c.decreases, forms.cut-shorter _ _ _ _ there.1 c.cut-spec.ensures), c.requires)

pub type_name-returns-in-0 : goal.type_name-returns-in-0
unfolding env_in
type_name-returns-in-0 t c =
    let a = c.args in
    let e = env_of a.tables.now a.layout.now a.strings.now a.blob.now a.owners.now in
    let T = type e a.left in
    rw (forms.name-def e T a.index c.in-0.is) (c.push_class_name.ensures a.blob.now)

pub type_name-returns-in-1 : goal.type_name-returns-in-1
unfolding env_in
type_name-returns-in-1 t c =
    let a = c.args in
    let e = env_of a.tables.now a.layout.now a.strings.now a.blob.now a.owners.now in
    let T = type e a.left in
    rw (forms.name-ref e T a.index c.in-1.is) (c.push_ref_name.ensures a.blob.now)

pub type_name-returns-in-Ok : goal.type_name-returns-in-Ok
unfolding env_in
type_name-returns-in-Ok t c =
    let a = c.args in
    let e = env_of a.tables.now a.layout.now a.strings.now a.blob.now a.owners.now in
    let T = type e a.left in
    let there = blob-there (c.spec_blob.ensures a.strings.now) c.in_ok-place-in-2.was in
    rw (forms.name-spec e T a.index c.in-2.is) (forms.said-spec T there.0 (cut-is _ _ _ _ there.1 c.cut-spec.ensures).bytes (text_in c.in-Ok.ensures))

pub type_name-returns-in-Err : goal.type_name-returns-in-Err
unfolding env_in
type_name-returns-in-Err t c =
    let a = c.args in
    let e = env_of a.tables.now a.layout.now a.strings.now a.blob.now a.owners.now in
    let T = type e a.left in
    let there = blob-there (c.spec_blob.ensures a.strings.now) c.in_ok-place-in-2.was in
    rw (forms.name-spec e T a.index c.in-2.is) (forms.said-no-spec T there.0 (cut-is _ _ _ _ there.1 c.cut-spec.ensures).bytes (text_out c.in-Err.ensures))

pub type_name-returns-in_default : goal.type_name-returns-in_default
type_name-returns-in_default t c =
    let a = c.args in
    let e = env_of a.tables.now a.layout.now a.strings.now a.blob.now a.owners.now in
    let T = type e a.left in
    said-missing (forms.name-none e T a.index c.in_default.in_default-own.rest.0.0.1 c.in_default.in_default-own.rest.0.1 c.in_default.in_default-own.rest.1) (kept_same _ _)

pub type_name-returns-in_err-place-in-2 : goal.type_name-returns-in_err-place-in-2
unfolding env_in
type_name-returns-in_err-place-in-2 t c =
    let a = c.args in
    let e = env_of a.tables.now a.layout.now a.strings.now a.blob.now a.owners.now in
    let T = type e a.left in
    rw (c.from_residual.ensures, forms.name-spec e T a.index c.in-2.is) (forms.said-blobless T (blob-missing (c.spec_blob.ensures a.strings.now) c.in_err-place-in-2.was) (kept_same _ _))
