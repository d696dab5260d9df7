use Rattle.std.proofs.Common.{◌≡◌, sym, ◌∙◌, ◌+◌, ◌*◌, [], ◌∷◌, ◌++◌, rules, arith, length, drop, length-append}
use Rattle.case_text.proofs.Laws.{pair-fits, pair-rest, pair-worth, hex-none, hex-more}
use Rattle.case_text.proofs.read_hex.Goals as goal

pub loop-pair-init : goal.loop-pair-init
loop-pair-init c = record { even = search rules; below = search rules; rest = search rules; wrote = hex-none _ _ }

pub loop-pair-preserved : goal.loop-pair-preserved
loop-pair-preserved c =
    let s = c.args.hex.now in
    let x = c.in-Some.pair.now in
    let t = c.next.new.self.rest.now in
    let n = length c.loop-pair.yielded in
    let h : drop (2 * n) s ≡ x ++ t = sym c.loop-pair.invariant.rest ∙ c.in-Some.ensures.steps.1.0 in
    let two : length x ≡ 2 = c.in-Some.ensures.steps.1.1 ∙ c.loop-pair.invariant.even in
    let more : length (c.loop-pair.yielded ++ c.in-Some.pair ∷ []) ≡ n + 1 = length-append _ _ in
    let behind : 2 * (n + 1) ≡ 2 * n + 2 = omega arith in
    record {
      even = c.in-Some.ensures.steps.0 ∙ c.loop-pair.invariant.even;
      below = rw (more, behind) (pair-fits s x t (2 * n) h two);
      rest = rw (more, behind) (pair-rest s x t (2 * n) h two);
      wrote = rw more (hex-more s n c.loop-pair.invariant.wrote (c.hex_pair.ensures ∙ pair-worth s x t (2 * n) h two) c.put-n.ensures);
    }
