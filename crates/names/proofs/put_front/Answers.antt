use mathlib.Core.Path.{◌≡◌}
use borrow.Author.Rules.{rules}
use native.Mathlib.Omega.{arith}
use Rattle.std.specs.Prelude.{None}
use Rattle.names.proofs.Links.{asks-memory, by-nested, encloses}
use Rattle.rows.proofs.Left.{none_left}
use Rattle.names.proofs.Leaves.{shown-at, shown-missing}
use Rattle.names.proofs.Pass.{pass-start, pass-out, pass-less, pass-in, pass-full, pass-bare, pass-own, pass-none}
use Rattle.names.proofs.put_front.Goals as goal

pub memory_at-memory-requires : goal.memory_at-memory-requires
memory_at-memory-requires c =
    let held = asks-memory c.requires.laid in
    record { j_lt_held_count = held.0; j_in_bounds = held.1 }

pub loop-outer-init : goal.loop-outer-init
loop-outer-init c = (pass-start _ _ _ _ _ _ _ _ c.count_rows-i.ensures c.requires.floor_le_end.0, λ h. absurd (omega (arith, c.count_rows-i.ensures)))

pub next_outer-requires : goal.next_outer-requires
next_outer-requires c =
    let l = c.loop-outer in
    record { laid = c.requires.laid; nested = by-nested c.requires.laid c.memory_at-memory.ensures; i_bound = (l.invariant.0.most, l.invariant.1) }

pub returns-in_default-class_own_name : goal.returns-in_default-class_own_name
returns-in_default-class_own_name c = pass-bare _ _ _ c.loop-outer.invariant.0 c.next_outer.ensures c.in-Some.is
    (shown-missing c.class_own_name.ensures (none_left c.in_default-class_own_name.not-Some))

pub put_dotted-requires : goal.put_dotted-requires
put_dotted-requires c =
    let s = c.loop-outer.invariant.0 in
    (s.behind.low, omega (arith, s.behind.place, s.behind.long, c.requires.floor_le_end.1), (shown-at c.class_own_name.ensures c.in-Some-class_own_name.is).1)

pub returns-in_err-p : goal.returns-in_err-p
returns-in_err-p c =
    let e : c.from_residual.result ≡ None = search rules in
    rw e (pass-full _ _ _ c.loop-outer.invariant.0 c.next_outer.ensures c.in-Some.is
    _ (shown-at c.class_own_name.ensures c.in-Some-class_own_name.is).0 c.in_err-p.ensures)

pub loop-outer-smaller : goal.loop-outer-smaller
loop-outer-smaller c = pass-less _ _ _ c.loop-outer.invariant.0 c.next_outer.ensures c.in-Some.is

pub loop-outer-preserved : goal.loop-outer-preserved
loop-outer-preserved c = (
  pass-in _ _ _ c.loop-outer.invariant.0 c.next_outer.ensures c.in-Some.is
      _ (shown-at c.class_own_name.ensures c.in-Some-class_own_name.is).0 c.in_ok-p.ensures,
  λ h. encloses _ _ _ _ c.next_outer.ensures c.in-Some.is,
)

pub put_dotted-requires-in-Some-class_string : goal.put_dotted-requires-in-Some-class_string
put_dotted-requires-in-Some-class_string c =
    let s = c.loop-outer.invariant.0 in
    (s.behind.low, omega (arith, s.behind.place, s.behind.long, c.requires.floor_le_end.1), (shown-at c.class_string.ensures c.in-Some-class_string.is).1)

pub returns-in-Some-class_string : goal.returns-in-Some-class_string
returns-in-Some-class_string c =
    let out = pass-out _ _ _ c.loop-outer.invariant.0 c.next_outer.ensures (none_left c.in_default.not-Some) in
    pass-own _ _ _ out (omega arith) _ _ c.put_dotted-in-Some-class_string.result
    (shown-at c.class_string.ensures c.in-Some-class_string.is).0 c.put_dotted-in-Some-class_string.ensures

pub returns-in-None : goal.returns-in-None
returns-in-None c =
    let out = pass-out _ _ _ c.loop-outer.invariant.0 c.next_outer.ensures (none_left c.in_default.not-Some) in
    pass-none _ _ _ out (omega arith) (shown-missing c.class_string.ensures c.in-None.is)
